-- Names that come for the first time.
use Rattle.std.proofs.Common.{◌≡◌, ℕ, ◌+◌, ◌<◌, Bool, true, false, if◌then◌else◌, List, [], ◌∷◌, ◌++◌, length, get_or, drop, refl, sym, append_assoc}
use Rattle.std.proofs.lemmas.List.{drop_more}
use Rattle.route_text.specs.Whole.{is_among}
use Rattle.route_text.specs.RouteOf.{firsts, with_name}

by_test : (test : Bool) (known : List (List ℕ)) (name : List ℕ) (rest : List (List ℕ))
    → known ++ (if test then firsts known rest else name ∷ firsts (known ++ name ∷ []) rest) ≡ (if test then known else known ++ name ∷ []) ++ firsts (if test then known else known ++ name ∷ []) rest
by_test true known name rest = refl
by_test false known name rest = sym (append_assoc known (name ∷ []) (firsts (known ++ name ∷ []) rest))

pub firsts-more : (known : List (List ℕ)) (names : List (List ℕ)) (i : ℕ) (d : List ℕ) → i < length names
    → with_name known (get_or names i d) ++ firsts (with_name known (get_or names i d)) (drop (i + 1) names) ≡ known ++ firsts known (drop i names)
firsts-more known names i d h = rw (drop_more names i d h) (sym (by_test (is_among known (get_or names i d)) known (get_or names i d) (drop (i + 1) names)))

pub ruleset first_steps = (firsts-more)
