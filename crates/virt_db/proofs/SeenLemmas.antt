-- A set of names in lower case, as names are put into it
use Rattle.std.proofs.Common.{◌≡◌, ℕ, List, [], ◌∷◌, ◌++◌, refl, Bool, true, false, cond, ◌||◌, sym, ap, ◌∙◌, Vec, Global}
use Rattle.std.specs.BTreeSet.{BTreeSet, contains, Updates}
use Rattle.std.specs.Cmp.Lexicographic.{slice_cmp}
use Rattle.std.specs.Ordering.{nat_cmp}
use Rattle.std.specs.List.{list_any}
use Rattle.std.specs.Str.{bytes_eq, str_to_ascii_lowercase}
use Rattle.std.proofs.lemmas.Map.Text.{is_eq-slice_cmp}
use Rattle.std.proofs.lemmas.List.Folds.{list_any-append}
use Rattle.virt_db.specs.Names.{is_named_among, HasNames}

-- a name is new where the set has no such key
pub is_named_among-key : (set : BTreeSet (Vec ℕ Global)) (key : Vec ℕ Global) (name : List ℕ) (names : List (List ℕ)) → key.items ≡ str_to_ascii_lowercase name → HasNames set names → contains (λ a b. slice_cmp nat_cmp a.items b.items) set key ≡ is_named_among name names
is_named_among-key set key name names e h =
    h key ∙ ap (λ lower. list_any (λ other. bytes_eq (str_to_ascii_lowercase other) lower) names) e

or_last : (a b : Bool) → cond a true b ≡ (b || (a || false))
or_last true true = refl
or_last true false = refl
or_last false true = refl
or_last false false = refl

-- and then the set has it
pub HasNames-push : (old new : BTreeSet (Vec ℕ Global)) (key : Vec ℕ Global) (name : List ℕ) (names : List (List ℕ)) → key.items ≡ str_to_ascii_lowercase name → Updates (λ a b. slice_cmp nat_cmp a.items b.items) old new key true → HasNames old names → HasNames new (names ++ name ∷ [])
HasNames-push old new key name names e u h q =
    let had = contains (λ a b. slice_cmp nat_cmp a.items b.items) old q in
    u.0 q
    ∙ ap (λ b. cond b true had) (is_eq-slice_cmp key.items q.items ∙ ap (λ lower. bytes_eq lower q.items) e)
    ∙ or_last (bytes_eq (str_to_ascii_lowercase name) q.items) had
    ∙ ap (λ b. b || (bytes_eq (str_to_ascii_lowercase name) q.items || false)) (h q)
    ∙ sym (list_any-append (λ other. bytes_eq (str_to_ascii_lowercase other) q.items) names (name ∷ []))
