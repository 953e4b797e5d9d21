-- Items that are fed to a hasher one behind another (this project's own)
use Rattle.std.proofs.Common.{◌≡◌, ◌∙◌, ℕ, ◌+◌, ◌<◌, List, [], ◌∷◌, ◌++◌, length, get_or, take, fold, flat_map, sym, ap}
use Rattle.std.proofs.lemmas.Grind.{flat_map-append, fold-append}
use Rattle.std.proofs.lemmas.List.{take_more, append-nil}

one_fed : {T : Type 0} (F : T → List (List ℕ)) (x : T) → flat_map F (x ∷ []) ≡ F x
one_fed F x = append-nil (F x)

-- an item more is fed
pub more_fed : {S T : Type 0} (write : S → List ℕ → S) (F : T → List (List ℕ)) (start now_ then_ : S) (items : List T) (i : ℕ) (x : T)
    → i < length items → x ≡ get_or items i x → now_ ≡ fold write start (flat_map F (take i items)) → then_ ≡ fold write now_ (F x)
    → then_ ≡ fold write start (flat_map F (take (i + 1) items))
more_fed write F start now_ then_ items i x within at so on =
    let more : take (i + 1) items ≡ take i items ++ x ∷ [] = take_more items i x within ∙ ap (λ y. take i items ++ y ∷ []) (sym at) in
    let all : flat_map F (take (i + 1) items) ≡ flat_map F (take i items) ++ F x =
    ap (flat_map F) more ∙ flat_map-append F (take i items) (x ∷ []) ∙ ap (λ l. flat_map F (take i items) ++ l) (one_fed F x) in
    on ∙ ap (λ s. fold write s (F x)) so ∙ sym (fold-append write start (flat_map F (take i items)) (F x)) ∙ ap (fold write start) (sym all)
