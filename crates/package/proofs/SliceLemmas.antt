-- Legs in a list, turned as a slice
use Rattle.std.proofs.Common.{◌≡◌, ◌∙◌, ℕ, List, ◌++◌, length, map, take, drop, ap, sym, arith}
use Rattle.std.proofs.Math.Seq.{take-length}
use Rattle.std.proofs.lemmas.List.{append-nil, drop_all, length-map}

-- a slice that was written back whole
pub written_back : {A : Type 0} (old new : List A) (n : ℕ) → n ≡ length old → length new ≡ length old
    → take n (new ++ drop (length new) old) ≡ new
written_back {A = A} old new n all same =
    ap (λ (rest : List A). take n (new ++ rest)) (drop_all (length new) old (omega (arith, same)))
    ∙ ap (take n) (append-nil new) ∙ ap (λ (m : ℕ). take m new) (all ∙ sym same) ∙ take-length new

pub same_length : {A B : Type 0} (f : A → B) (xs ys : List A) → map f xs ≡ map f ys → length xs ≡ length ys
same_length {B = B} f xs ys same = sym (length-map xs f) ∙ ap (λ (zs : List B). length zs) same ∙ length-map ys f
