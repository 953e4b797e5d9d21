-- One who looks at every place finds the first.
use Rattle.std.proofs.Common.{◌≡◌, ℕ, ◌+◌, Bool, true, false, List, ◌∷◌, Option, None, Some, refl}
use Rattle.std.specs.List.{position_from}
use Rattle.std.specs.Option.{option_or}
use Rattle.access_rules.specs.Firsts.{first_of}

-- what is found so far, or else behind that
pub found_so_far : {X : Type 0} (p : X → Bool) (found : Option ℕ) (place : ℕ) (x : X) (xs : List X)
    → option_or found (position_from p place (x ∷ xs)) ≡ option_or (first_of found (p x) place) (position_from p (place + 1) xs)
found_so_far p (Some first) place x xs = refl
found_so_far p None place x xs = by (p x) refl
  where
    by : (b : Bool) → p x ≡ b → option_or None (position_from p place (x ∷ xs)) ≡ option_or (first_of None (p x) place) (position_from p (place + 1) xs)
    by true e = rw e refl
    by false e = rw e refl
