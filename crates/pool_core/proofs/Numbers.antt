-- The numbers of sessions were given
use Rattle.std.proofs.Common.{ℕ, ◌<◌, ◌≤◌, List, [], ◌∷◌, arith, All}
use Rattle.std.proofs.lemmas.List.Elements.{All-nil, All-cons}
use Rattle.pool_sets.specs.Sessions.{Session}
use Rattle.pool_sets.specs.Plain.{Ascends}

below_both : (a b c : ℕ) → a < b → b ≤ c → a ≤ c
below_both a b c h k = omega arith

module _ {S : Type 0} where
  last_least : (m n : ℕ) (os : List (Session S)) → Ascends m n os → m ≤ n
  last_least m n [] a = a
  last_least m n (o ∷ os) a = below_both m o.number n a.0 (last_least o.number n os a.1)

  -- none is above the last that was given
  pub all_given : (m n : ℕ) (os : List (Session S)) → Ascends m n os → All (λ o. o.number ≤ n) os
  all_given m n [] a = All-nil (λ (o : Session S). o.number ≤ n)
  all_given m n (o ∷ os) a = All-cons (λ (o : Session S). o.number ≤ n) o os (last_least o.number n os a.1) (all_given o.number n os a.1)
