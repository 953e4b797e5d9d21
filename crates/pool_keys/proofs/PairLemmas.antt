-- Pairs in order
use Rattle.std.proofs.Common.{◌≡◌, ◌⊎◌, inl, inr, ℕ, zero, suc, ◌+◌, ◌*◌, ◌^◌, ◌<◌, ◌≤◌, Bool, true, false, if◌then◌else◌, nat_lt, nat_eq, List, ◌∷◌, length, get_or, Contains, None, Some, refl, sym, ◌∙◌, ap, subst, arith}
use Rattle.std.specs.List.{insert, remove}
use Rattle.std.specs.List.Sorted.{IsPartitionPoint, IsNonDecreasingBy}
use Rattle.std.proofs.lemmas.Bool.{eqb-true, ltb-true, ltb-false}
use Rattle.std.specs.Cmp.{nat_eq_equiv}
use Rattle.std.proofs.lemmas.List.{get_or_default}
use Rattle.std.proofs.lemmas.List.Edits.{length-remove, get_or-remove_below, get_or-remove_above}
use Rattle.std.proofs.lemmas.List.Sorted.{Contains-permutation, IsPermutation-insert, IsPermutation-sym, IsNonDecreasingBy-insert}
use Rattle.pool_keys.specs.declared.index.Pair.{Pair}
use Rattle.pool_keys.specs.Pairs.{rank, is_before, pair, IsAt, IsNext}

at_most : (a b : ℕ) → a < b → a ≤ b
at_most a b h = omega arith

one_pair : (p q : Pair) → p.digest ≡ q.digest → nat_eq p.number q.number ≡ true → p ≡ q
one_pair p q a k =
    let b = eqb-true p.number q.number k in
    λ i. record { digest = a i; number = b i }

-- a pair that is read at a place is there
pub there : (ps : List Pair) (i : ℕ) (d q : Pair) → i < length ps → (get_or ps i d).digest ≡ q.digest → nat_eq (get_or ps i d).number q.number ≡ true → IsAt ps i q
there ps i d q within h k = record { within = within; there = sym (get_or_default ps i q d within ∙ one_pair (get_or ps i d) q h k) }

-- without the one at a place, the pairs stand in order still
pub removed_order : (ps : List Pair) (i : ℕ) → i < length ps → IsNonDecreasingBy rank ps → IsNonDecreasingBy rank (remove ps i)
removed_order ps i within up j k d le lt =
    let long = length-remove ps i within in
    (elim (nat_lt k i) as (λ t. nat_lt k i ≡ t → rank (get_or (remove ps i) j d) ≤ rank (get_or (remove ps i) k d)) [
      | true ↦ λ t. let low = ltb-true k i t in rw (get_or-remove_below ps i d j (omega arith) within, get_or-remove_below ps i d k low within) (up j k d le (omega arith))
      | false ↦ λ t. let high = ltb-false k i t in (elim (nat_lt j i) as (λ u. nat_lt j i ≡ u → rank (get_or (remove ps i) j d) ≤ rank (get_or (remove ps i) k d)) [
        | true ↦ λ u. rw (get_or-remove_below ps i d j (ltb-true j i u) within, get_or-remove_above ps i d k high within) (up j (k + 1) d (omega arith) (omega arith))
        | false ↦ λ u. rw (get_or-remove_above ps i d j (ltb-false j i u) within, get_or-remove_above ps i d k high within) (up (j + 1) (k + 1) d (omega arith) (omega arith))
      ]) refl
    ]) refl

-- what stands in a list with a head stands in the rest, or is the head
pub in_cons : (xs : List Pair) (y p : Pair) → Contains (y ∷ xs) p → Contains xs p ⊎ (p ≡ y)
in_cons xs y p (zero, within, e) = inr (sym e)
in_cons xs y p (suc k, within, e) = inl (k, omega arith, e)

-- what stands after a pair was put in stood before, or is that pair
in_insert : (xs : List Pair) (i : ℕ) (y p : Pair) → Contains (insert xs i y) p → Contains xs p ⊎ (p ≡ y)
in_insert xs i y p h =
    in_cons xs y p (Contains-permutation (insert xs i y) (y ∷ xs) p (IsPermutation-sym (y ∷ xs) (insert xs i y) (IsPermutation-insert xs i y)) h)

-- whether or not there was room for it
pub in_put : (put : Bool) (xs : List Pair) (i : ℕ) (y p : Pair) → Contains (if put then insert xs i y else xs) p → Contains xs p ⊎ (p ≡ y)
in_put true xs i y p h = in_insert xs i y p h
in_put false xs i y p h = inl h

-- a pair that was put in is there, with all that was
pub put_holds : (put : Bool) (xs : List Pair) (i : ℕ) (y : Pair) → put ≡ true → Contains (if put then insert xs i y else xs) y
put_holds true xs i y h = Contains-permutation (y ∷ xs) (insert xs i y) y (IsPermutation-insert xs i y) (0, omega arith, refl)
put_holds false xs i y h = cc

pub put_grows : (put : Bool) (xs : List Pair) (i : ℕ) (y p : Pair) → Contains xs p → Contains (if put then insert xs i y else xs) p
put_grows true xs i y p h = Contains-permutation (y ∷ xs) (insert xs i y) p (IsPermutation-insert xs i y) (suc h.0, omega (arith, h.1), h.2)
put_grows false xs i y p h = h

abbrev pub Point : Pair → List Pair → ℕ → Type 0
Point q ps i = IsPartitionPoint (λ p. is_before q p ≡ true) (λ p. is_before q p ≡ false) ps i

-- and the pairs stand in order still
pub put_order : (put : Bool) (xs : List Pair) (i : ℕ) (y : Pair) → i ≤ length xs → Point y xs i → IsNonDecreasingBy rank xs → IsNonDecreasingBy rank (if put then insert xs i y else xs)
put_order true xs i y l point up =
    IsNonDecreasingBy-insert rank xs i y up l (λ k d low. at_most (rank (get_or xs k d)) (rank y) (ltb-true (rank (get_or xs k d)) (rank y) (point.0 k d (omega arith) low)))
    (λ k d high w. ltb-false (rank (get_or xs k d)) (rank y) (point.1 k d high w))
put_order false xs i y l point up = up

below : (d f m r : ℕ) → f ≤ m → r < d * 2 ^ 64 + f → r ≡ d * 2 ^ 64 + m → ⊥
below d f m r h p e = omega arith

same_digest : (d e n m f : ℕ) → d * 2 ^ 64 + f ≤ e * 2 ^ 64 + n → e * 2 ^ 64 + n ≤ d * 2 ^ 64 + m → f ≤ m → n < 2 ^ 64 → m < 2 ^ 64 → e ≡ d
same_digest d e n m f h k l p q = omega arith

from_le : (d e n f : ℕ) → d * 2 ^ 64 + f ≤ e * 2 ^ 64 + n → e ≡ d → f ≤ n
from_le d e n f h k = omega arith

to_le : (d e n m : ℕ) → e * 2 ^ 64 + n ≤ d * 2 ^ 64 + m → e ≡ d → n ≤ m
to_le d e n m h k = omega arith

module _ (ps : List Pair) (digest from i : ℕ) (point : Point (pair digest from) ps i) where
  -- no pair of the digest and a number from that one on stands before the place
  none_before : (m k : ℕ) → from ≤ m → get_or ps k (pair digest m) ≡ pair digest m → k < i → ⊥
  none_before m k h e p =
      let r = ltb-true (rank (get_or ps k (pair digest m))) (rank (pair digest from)) (point.0 k (pair digest m) (omega arith) p) in
      below digest from m (rank (get_or ps k (pair digest m))) h r (ap rank e)

  module _ (up : IsNonDecreasingBy rank ps) (p : Pair) (within : i < length ps) (is : p ≡ get_or ps i p) (small : p.number < 2 ^ 64) where
    from_here : digest * 2 ^ 64 + from ≤ p.digest * 2 ^ 64 + p.number
    from_here = subst (λ q. rank (pair digest from) ≤ rank q) (sym is) (ltb-false (rank (get_or ps i p)) (rank (pair digest from)) (point.1 i p (omega arith) within))

    to_there : (m k : ℕ) → i ≤ k → k < length ps → get_or ps k (pair digest m) ≡ pair digest m → p.digest * 2 ^ 64 + p.number ≤ digest * 2 ^ 64 + m
    to_there m k h w e =
        let le = up i k (pair digest m) h w in
        subst (λ q. rank q ≤ rank (pair digest m)) (get_or_default ps i (pair digest m) p within ∙ sym is) (subst (λ q. rank (get_or ps i (pair digest m)) ≤ rank q) e le)

    one_next : (m : ℕ) → from ≤ m → m < 2 ^ 64 → Contains ps (pair digest m) → (p.digest ≡ digest) × (p.number ≤ m)
    one_next m h s c = (elim (nat_lt c.0 i) as (λ b. nat_lt c.0 i ≡ b → (p.digest ≡ digest) × (p.number ≤ m)) [
      | true ↦ λ t. absurd (none_before m c.0 h c.2 (ltb-true c.0 i t))
      | false ↦ λ t.
          let to = to_there m c.0 (ltb-false c.0 i t) c.1 c.2 in
          let same = same_digest digest p.digest p.number m from from_here to h small s in
          (same, to_le digest p.digest p.number m to same)
    ]) refl

    -- a pair of another digest
    pub other_next : (whole : Bool) → nat_eq p.digest digest ≡ false → IsNext (record { pairs = ps; whole = whole }) digest from None
    other_next whole other = record {
      there = tt;
      from_there = tt;
      least = λ m h s c. let e = one_next m h s c in let bad : true ≡ false = sym (ap (λ d. nat_eq d digest) e.0 ∙ nat_eq_equiv.refl digest) ∙ other in cc;
    }

    -- a pair of the digest
    pub this_next : (whole : Bool) → p.digest ≡ digest → IsNext (record { pairs = ps; whole = whole }) digest from (Some p.number)
    this_next whole same = record {
      there = (i, within, get_or_default ps i (pair digest p.number) p within ∙ sym is ∙ (λ j. record { digest = same j; number = p.number }));
      from_there = from_le digest p.digest p.number from from_here same;
      least = λ m h s c. (one_next m h s c).1;
    }

    -- the pair of the digest and that number stands here, if anywhere
    here : from < 2 ^ 64 → Contains ps (pair digest from) → (p.digest ≡ digest) × (p.number ≡ from)
    here s c =
        let e = one_next from (omega arith) s c in
        let low = from_le digest p.digest p.number from from_here e.0 in
        (e.0, omega arith)

    -- and nowhere where one of another digest stands here
    pub other_digest : from < 2 ^ 64 → nat_eq p.digest digest ≡ false → Contains ps (pair digest from) → ⊥
    other_digest s other c = let bad : true ≡ false = sym (ap (λ d. nat_eq d digest) (here s c).0 ∙ nat_eq_equiv.refl digest) ∙ other in cc

    -- or one of another number
    pub other_number : from < 2 ^ 64 → nat_eq p.number from ≡ false → Contains ps (pair digest from) → ⊥
    other_number s other c = let bad : true ≡ false = sym (ap (λ d. nat_eq d from) (here s c).1 ∙ nat_eq_equiv.refl from) ∙ other in cc
