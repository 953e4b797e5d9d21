-- The one item that passes is dropped
use Rattle.std.proofs.Common.{◌≡◌, ℕ, suc, zero, ◌<◌, Bool, true, false, not, List, [], ◌∷◌, length, get_or, filter, All, refl, ap, arith}
use Rattle.std.specs.List.{remove}
use Rattle.std.proofs.lemmas.Bool.{false_from_ne_true}
use Rattle.std.proofs.lemmas.List.Elements.{All-tail}

none_under : (i : ℕ) → i < 0 → ⊥
none_under i h = omega arith

not_next : (k : ℕ) → suc k ≡ 0 → ⊥
not_next k e = omega arith

not_first : (i : ℕ) → 0 ≡ suc i → ⊥
not_first i e = omega arith

one_less : (k i : ℕ) → suc k ≡ suc i → k ≡ i
one_less k i e = omega arith

module _ {X : Type 0} (q : X → Bool) where
  -- where none passes, none is dropped
  pub none_dropped : (xs : List X) → All (λ x. q x ≡ false) xs → filter (λ x. not (q x)) xs ≡ xs
  none_dropped [] f = refl
  none_dropped (x ∷ xs) f = rw (f 0 x (omega arith)) (ap (λ r. x ∷ r) (none_dropped xs (All-tail (λ y. q y ≡ false) x xs f)))

  -- where that at a place passes alone, it is removed
  pub one_dropped : (xs : List X) (i : ℕ) → i < length xs → ((d : X) → q (get_or xs i d) ≡ true) → ((k : ℕ) (d : X) → k < length xs → q (get_or xs k d) ≡ true → k ≡ i) → filter (λ x. not (q x)) xs ≡ remove xs i
  one_dropped [] i w h f = absurd (none_under i w)
  one_dropped (x ∷ xs) zero w h f =
      rw (h x) (none_dropped xs (λ k d l. false_from_ne_true (q (get_or xs k d)) (λ t. not_next k (f (suc k) d (omega arith) t))))
  one_dropped (x ∷ xs) (suc i) w h f =
      rw (false_from_ne_true (q x) (λ t. not_first i (f 0 x (omega arith) t)))
      (ap (λ r. x ∷ r) (one_dropped xs i (omega arith) h (λ k d l t. one_less k i (f (suc k) d (omega arith) t))))
