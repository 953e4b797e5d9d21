-- Names of which each differs from the others, in any case of ASCII letters
use Rattle.std.proofs.Common.{◌≡◌, ◌<◌, ◌+◌, ℕ, List, [], ◌∷◌, ◌++◌, filter, not, refl, Bool, true, false, cond, ◌||◌, length, take, get_or, sym, ap, ◌∙◌, add-one}
use Rattle.std.specs.Str.{str_eq_ignore_ascii_case}
use Rattle.std.proofs.lemmas.List.Elements.{filter-append}
use Rattle.std.proofs.lemmas.List.{append-nil}
use Rattle.std.proofs.Math.Seq.{take-suc}
use Rattle.virt_db.specs.Legs.{distinct}
use Rattle.virt_db.specs.Names.{is_named_among}

kept_last : (same : Bool) (kept : List (List ℕ)) (x : List ℕ) (p : List ℕ → Bool) → p x ≡ not same → kept ++ filter p (x ∷ []) ≡ cond same kept (kept ++ x ∷ [])
kept_last true kept x p e = rw e (append-nil kept)
kept_last false kept x p e = rw e refl

with_last : (same among : Bool) (name x : List ℕ) (names : List (List ℕ)) → str_eq_ignore_ascii_case name x ≡ same → name ∷ filter (λ other. not (str_eq_ignore_ascii_case name other)) (cond among names (names ++ x ∷ [])) ≡ cond (same || among) (name ∷ filter (λ other. not (str_eq_ignore_ascii_case name other)) names) ((name ∷ filter (λ other. not (str_eq_ignore_ascii_case name other)) names) ++ x ∷ [])
with_last true true name x names e = refl
with_last false true name x names e = refl
with_last true false name x names e =
    ap (λ rest. name ∷ rest) (filter-append (λ other. not (str_eq_ignore_ascii_case name other)) names (x ∷ [])
    ∙ kept_last true (filter (λ other. not (str_eq_ignore_ascii_case name other)) names) x (λ other. not (str_eq_ignore_ascii_case name other)) (ap not e))
with_last false false name x names e =
    ap (λ rest. name ∷ rest) (filter-append (λ other. not (str_eq_ignore_ascii_case name other)) names (x ∷ [])
    ∙ kept_last false (filter (λ other. not (str_eq_ignore_ascii_case name other)) names) x (λ other. not (str_eq_ignore_ascii_case name other)) (ap not e))

-- one more name is left out where it is among those before it
pub distinct-push : (names : List (List ℕ)) (x : List ℕ) → distinct (names ++ x ∷ []) ≡ cond (is_named_among x names) (distinct names) (distinct names ++ x ∷ [])
distinct-push [] x = refl
distinct-push (name ∷ names) x =
    ap (λ rest. name ∷ filter (λ other. not (str_eq_ignore_ascii_case name other)) rest) (distinct-push names x)
    ∙ with_last (str_eq_ignore_ascii_case name x) (is_named_among x names) name x (distinct names) refl

-- ---- a name more

negated : (b c : Bool) → b ≡ not c → c ≡ not b
negated true false h = refl
negated false true h = refl
negated true true h = cc
negated false false h = cc

-- that is new
pub distinct-new : (names list more : List (List ℕ)) (x : List ℕ) → list ≡ distinct names → true ≡ not (is_named_among x names) → more ≡ list ++ x ∷ [] → more ≡ distinct (names ++ x ∷ [])
distinct-new names list more x h e m =
    m ∙ ap (λ l. l ++ x ∷ []) h ∙ sym (ap (λ b. cond b (distinct names) (distinct names ++ x ∷ [])) (negated true (is_named_among x names) e)) ∙ sym (distinct-push names x)

-- or that was met
pub distinct-met : (names list more : List (List ℕ)) (x : List ℕ) → list ≡ distinct names → false ≡ not (is_named_among x names) → more ≡ list → more ≡ distinct (names ++ x ∷ [])
distinct-met names list more x h e m =
    m ∙ h ∙ sym (ap (λ b. cond b (distinct names) (distinct names ++ x ∷ [])) (negated false (is_named_among x names) e)) ∙ sym (distinct-push names x)

-- the names up to one, and that one
pub take-next : {A : Type 0} (xs : List A) (i : ℕ) (x : A) → i < length xs → x ≡ get_or xs i x → take (i + 1) xs ≡ take i xs ++ x ∷ []
take-next xs i x h e = rw add-one (take-suc xs i x h ∙ ap (λ y. take i xs ++ y ∷ []) (sym e))
