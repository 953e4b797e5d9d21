-- A session of a pool
use Rattle.std.proofs.Common.{◌≡◌, ℕ, ◌<◌, ◌≤◌, Bool, true, false, not, nat_eq, List, [], ◌∷◌, length, refl, arith}
use Rattle.std.proofs.lemmas.Bool.{eqb-true}
use Rattle.pool_sets.specs.Plain.{Ascends}
use Rattle.pool_sets.specs.Sessions.{Session}

none_there : (i : ℕ) → i < 0 → ⊥
none_there i h = omega arith

-- one of a list that has one
pub some_item : {X : Type 0} (xs : List X) (i : ℕ) → i < length xs → X
some_item [] i h = absurd (none_there i h)
some_item (x ∷ xs) i h = x

le_by : (a b c : ℕ) → a ≤ b → b ≤ c → a ≤ c
le_by a b c h k = omega arith

-- numbers that ascend to one ascend to a greater
pub ascends_upto : {S : Type 0} (m n k : ℕ) (os : List (Session S)) → n ≤ k → Ascends m n os → Ascends m k os
ascends_upto m n k [] h a = le_by m n k a h
ascends_upto m n k (o ∷ os) h a = (a.0, ascends_upto o.number n k os h a.1)

is_true : (b : Bool) → false ≡ not b → b ≡ true
is_true true h = refl
is_true false h = h

-- numbers that do not differ are one
pub one_number : (m n : ℕ) → false ≡ not (nat_eq m n) → m ≡ n
one_number m n h = eqb-true m n (is_true (nat_eq m n) h)
