-- The numbers of the sessions of a pool
use Rattle.std.proofs.Common.{◌≡◌, ℕ, suc, zero, ◌+◌, ◌<◌, ◌≤◌, Bool, true, false, cond, List, [], ◌∷◌, ◌++◌, length, get_or, set, map, filter, refl, sym, ap, subst, arith, nat_eq}
use Rattle.std.specs.Cmp.{nat_eq_equiv}
use Rattle.std.proofs.lemmas.Bool.{eqb-true}
use Rattle.z_types.specs.declared.address.Address.{Address}
use Rattle.pool_sets.specs.declared.pooled.Parts.{Parts}
use Rattle.pool_sets.specs.declared.sessions.Stand.{Stand}
use Rattle.pool_sets.specs.Plain.{Ascends}
use Rattle.pool_sets.specs.Sessions.{Session, stands_at}

lower : (a b c : ℕ) → a ≤ b → b < c → a < c
lower a b c p q = omega arith

le_of : (a b : ℕ) → a < b → a ≤ b
le_of a b p = omega arith

le_by : (a b c : ℕ) → a ≤ b → b ≤ c → a ≤ c
le_by a b c p q = omega arith

lower_both : (a b c : ℕ) → a < b → b < c → a < c
lower_both a b c p q = omega arith

pub none_below : (n : ℕ) → n < 0 → ⊥
none_below n p = omega arith

pub below_tail : {X : Type 0} (i : ℕ) (xs : List X) (x : X) → suc i < length (x ∷ xs) → i < length xs
below_tail i xs x p = omega arith

next_above : (m n k : ℕ) → k ≡ n + 1 → m ≤ n → m < k
next_above m n k e h = omega arith

same_le : (a b : ℕ) → a ≡ b → a ≤ b
same_le a b e = omega arith

too_low : (a m b : ℕ) → a ≤ m → m < b → b ≡ a → ⊥
too_low a m b p q e = omega arith

at_once : (a b c : ℕ) → a < b → a ≡ c → b ≡ c → ⊥
at_once a b c p e f = omega arith

module _ {S : Type 0} where
  -- from a lesser number on
  pub ascends_from : (m k n : ℕ) (os : List (Session S)) → k ≤ m → Ascends m n os → Ascends k n os
  ascends_from m k n [] h a = le_by k m n h a
  ascends_from m k n (o ∷ os) h a = (lower k m o.number h a.0, a.1)

  -- the session with its new stand
  abbrev pub stood : Session S → Stand (Parts S) Address → Session S
  stood o stand = record { number = o.number; class = o.class; login = o.login; member = o.member; stand = stand }

  -- each number is above m
  number_at : (m n i : ℕ) (os : List (Session S)) (d : Session S) → i < length os → Ascends m n os → m < (get_or os i d).number
  number_at m n i [] d p a = absurd (none_below i p)
  number_at m n zero (o ∷ os) d p a = a.0
  number_at m n (suc i) (o ∷ os) d p a = lower_both m o.number (get_or os i d).number a.0 (number_at o.number n i os d (below_tail i os o p) a.1)

  module _ (q : Session S → Bool) (g : Session S → Session S) (number : ℕ) (one : (o : Session S) → q o ≡ true → o.number ≡ number) where
    -- beyond its number none changes
    beyond : (m n : ℕ) (os : List (Session S)) → number ≤ m → Ascends m n os → map (λ o. cond (q o) (g o) o) os ≡ os
    beyond m n [] h a = refl
    beyond m n (o ∷ os) h a = (elim (q o) as (λ b. q o ≡ b → cond (q o) (g o) o ∷ map (λ x. cond (q x) (g x) x) os ≡ o ∷ os) [
      | true ↦ λ t. absurd (too_low number m o.number h a.0 (one o t))
      | false ↦ λ t. rw t (ap (λ r. o ∷ r) (beyond o.number n os (le_of number o.number (lower number m o.number h a.0)) a.1))
    ]) refl

    -- the session of the number changes, at its place
    pub one_changes : (m n i : ℕ) (os : List (Session S)) (d : Session S) → i < length os → Ascends m n os → q (get_or os i d) ≡ true → map (λ o. cond (q o) (g o) o) os ≡ set os i (g (get_or os i d))
    one_changes m n i [] d p a h = absurd (none_below i p)
    one_changes m n zero (o ∷ os) d p a h = rw h (ap (λ r. g o ∷ r) (beyond o.number n os (same_le number o.number (sym (one o h))) a.1))
    one_changes m n (suc i) (o ∷ os) d p a h = (elim (q o) as (λ b. q o ≡ b → cond (q o) (g o) o ∷ map (λ x. cond (q x) (g x) x) os ≡ o ∷ set os i (g (get_or os i d))) [
      | true ↦ λ t. absurd (at_once o.number (get_or os i d).number number (number_at o.number n i os d (below_tail i os o p) a.1) (one o t) (one (get_or os i d) h))
      | false ↦ λ t. rw t (ap (λ r. o ∷ r) (one_changes o.number n i os d (below_tail i os o p) a.1 h))
    ]) refl

  -- the session of a number is one place
  pub stands_set : (m n i : ℕ) (stand : Stand (Parts S) Address) (os : List (Session S)) (d : Session S) → i < length os → Ascends m n os → stands_at (get_or os i d).number stand os ≡ set os i (stood (get_or os i d) stand)
  stands_set m n i stand os d p a =
      let number = (get_or os i d).number in
      one_changes (λ o. nat_eq o.number number) (λ o. stood o stand) number (λ o h. eqb-true o.number number h) m n i os d p a (nat_eq_equiv.refl number)

  -- a session of the same number keeps the order
  pub ascends_put : (m n i : ℕ) (os : List (Session S)) (x d : Session S) → i < length os → x.number ≡ (get_or os i d).number → Ascends m n os → Ascends m n (set os i x)
  ascends_put m n i [] x d p e a = absurd (none_below i p)
  ascends_put m n zero (o ∷ os) x d p e a = (subst (λ k. m < k) (sym e) a.0, subst (λ k. Ascends k n os) (sym e) a.1)
  ascends_put m n (suc i) (o ∷ os) x d p e a = (a.0, ascends_put o.number n i os x d (below_tail i os o p) e a.1)

  -- a session of the next number comes last
  pub ascends_push : (m n : ℕ) (os : List (Session S)) (o : Session S) → o.number ≡ n + 1 → Ascends m n os → Ascends m (n + 1) (os ++ o ∷ [])
  ascends_push m n [] o e a = (next_above m n o.number e a, same_le o.number (n + 1) e)
  ascends_push m n (x ∷ os) o e a = (a.0, ascends_push x.number n os o e a.1)

  pub ascends_filter : (m n : ℕ) (p : Session S → Bool) (os : List (Session S)) → Ascends m n os → Ascends m n (filter p os)
  ascends_filter m n p [] a = a
  ascends_filter m n p (o ∷ os) a =
      (elim (p o) as (λ b. Ascends m n (cond b (o ∷ filter p os) (filter p os))) [
        | true ↦ (a.0, ascends_filter o.number n p os a.1)
        | false ↦ ascends_from o.number m n (filter p os) (le_of m o.number a.0) (ascends_filter o.number n p os a.1)
      ])

  pub ascends_map : (m n : ℕ) (f : Session S → Session S) (os : List (Session S)) → ((o : Session S) → (f o).number ≡ o.number) → Ascends m n os → Ascends m n (map f os)
  ascends_map m n f [] h a = a
  ascends_map m n f (o ∷ os) h a =
      (subst (λ k. m < k) (sym (h o)) a.0, subst (λ k. Ascends k n (map f os)) (sym (h o)) (ascends_map o.number n f os h a.1))
