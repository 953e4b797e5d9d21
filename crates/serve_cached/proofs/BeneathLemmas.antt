-- What workers over a store did is what the workers beneath did
use Rattle.std.proofs.Common.{◌≡◌, ◌∙◌, ◌+◌, inl, inr, ℕ, List, [], ◌∷◌, ◌++◌, append_assoc, map, reverse, arith, refl, sym}
use Rattle.std.specs.List.{AllByRecursion, sum_by}
use Rattle.std.proofs.lemmas.List.{length-map, map-append, reverse-append, reverse-reverse}
use Rattle.std.proofs.lemmas.List.Elements.{length_all_zip}
use Rattle.std.proofs.lemmas.List.Sums.{sum_by-cons}
use Rattle.z_types.specs.declared.world.World as world
use Rattle.cache_backend.specs.declared.backend.CachedBackend.{CachedBackend}
use Rattle.gw_outside.specs.declared.accepts.Accept as accept
use Rattle.gw_outside.specs.declared.sinks.Sink as to
use Rattle.gw_outside.specs.declared.sources.Source as from
use Rattle.gw_outside.specs.declared.watched.Watched as watched
use Rattle.route_config.specs.declared.route.Route.{Route}
use Rattle.serve_threads.specs.serve.declared.working.Worked.{Worked}
use Rattle.serve_threads.specs.serve.declared.working.Worker.{Worker}
use Rattle.serve_threads.specs.Serving.{AreBooked, AreDialsBelowEnd, AreSearchesBelowEnd, HasFailed, HasNoneLeft, HasServed, HaveServed, IsFullCaused, SomeZip, dialled_by, excused_by, fulls_in, searched_by}
use Rattle.serve_threads.proofs.Dialled.{sum-reverse}
use Rattle.serve_threads.proofs.Lists.{all-reverse, some-reverse, zip-seen}
use Rattle.serve_cached.specs.Beneath.{beneath}

-- ---- what is moved from the end of one list to the end of another, as it is seen

module _ {X Y : Type 0} (f : X → Y) where
  pub moved : (ws ws' : List Y) (w : Y) (xs xs' : List X) (x : X) → ws ≡ ws' ++ w ∷ [] → xs' ≡ xs ++ x ∷ [] → f x ≡ w
      → ws' ++ reverse (map f xs') ≡ ws ++ reverse (map f xs)
  moved ws ws' w xs xs' x a b e =
      rw (a, b, ← e, map-append f xs (x ∷ []), reverse-append (map f xs) (f x ∷ []), append_assoc ws' (f x ∷ []) (reverse (map f xs))) refl

  all-seen : (P : Y → Type 0) (xs : List X) → AllByRecursion P (map f xs) → AllByRecursion (λ x. P (f x)) xs
  all-seen P [] all = tt
  all-seen P (x ∷ xs) all = (all.0, all-seen P xs all.1)

  seen-all : (P : Y → Type 0) (xs : List X) → AllByRecursion (λ x. P (f x)) xs → AllByRecursion P (map f xs)
  seen-all P [] all = tt
  seen-all P (x ∷ xs) all = (all.0, seen-all P xs all.1)

  some-seen : (R : Y → Y → Type 0) (xs ys : List X) → SomeZip (λ x y. R (f x) (f y)) xs ys → SomeZip R (map f xs) (map f ys)
  some-seen R [] ys one = absurd one
  some-seen R (x ∷ xs) [] one = absurd one
  some-seen R (x ∷ xs) (y ∷ ys) (inl here) = inl here
  some-seen R (x ∷ xs) (y ∷ ys) (inr later) = inr (some-seen R xs ys later)

  sum-seen : (g : Y → ℕ) (xs : List X) → sum_by g (map f xs) ≡ sum_by (λ x. g (f x)) xs
  sum-seen g [] = refl
  sum-seen g (x ∷ xs) =
      let all = sum_by-cons g (f x) (map f xs) in
      let own = sum_by-cons (λ (z : X). g (f z)) x xs in
      let rest = sum-seen g xs in
      omega (arith, all, own, rest)

  sum-turned : (g : Y → ℕ) (xs : List X) → sum_by g (reverse (map f xs)) ≡ sum_by (λ x. g (f x)) xs
  sum-turned g xs = sum-reverse g (map f xs) ∙ sum-seen g xs

  all-turned : (P : Y → Type 0) (xs : List X) → AllByRecursion P (reverse (map f xs)) → AllByRecursion (λ x. P (f x)) xs
  all-turned P xs all = all-seen P xs (rw (reverse-reverse (map f xs)) at (all-reverse P (reverse (map f xs)) all))

  turned-all : (P : Y → Type 0) (xs : List X) → AllByRecursion (λ x. P (f x)) xs → AllByRecursion P (reverse (map f xs))
  turned-all P xs all = all-reverse P (map f xs) (seen-all P xs all)

-- ---- workers

module _ {V B T : Type 0} (b : watched.Ghosts B) where
  -- the sessions over a store count what those beneath do
  abbrev pub over : watched.Ghosts (CachedBackend V B T)
  over = record {
    counts = λ backend. b.counts backend.inner;
    exact = b.exact;
    happened = λ backend. b.happened backend.inner;
  }

module _ {V W B T A C I K : Type 0} (w : world.Ghosts W) (i : from.Ghosts I) (k : to.Ghosts K) (a : accept.Ghosts A I K) (b : watched.Ghosts B)
    (route : Route) (most : ℕ) where
  one-served : (x y : Worker (CachedBackend V B T) A C) → HasServed w i k a (over b) route most x y → HasServed w i k a b route most (beneath x) (beneath y)
  one-served x y one = record { worked = one.worked; causes = one.causes; marks = one.marks; faults = one.faults }

  fulls-caused : (xs ys : List (Worker (CachedBackend V B T) A C)) → IsFullCaused (over b) most xs ys → IsFullCaused b most (reverse (map beneath xs)) (reverse (map beneath ys))
  fulls-caused xs ys caused below more =
      let some = sum-turned beneath (λ (one : Worker B A C). fulls_in one.served) xs in
      let some-then = sum-turned beneath (λ (one : Worker B A C). fulls_in one.served) ys in
      let dialled = sum-turned beneath (dialled_by b) xs in
      let dialled-then = sum-turned beneath (dialled_by b) ys in
      let enough = caused (all-turned beneath (λ (one : Worker B A C). AreDialsBelowEnd (b.counts one.backend)) ys below)
      (omega (arith, more, some, some-then)) in
      omega (arith, enough, dialled, dialled-then)

  served-turned : (xs ys : List (Worker (CachedBackend V B T) A C)) (worked : Worked) → HaveServed w i k a (over b) route most xs ys worked
      → HaveServed w i k a b route most (reverse (map beneath xs)) (reverse (map beneath ys)) worked
  served-turned xs ys worked all = record {
    fulls = fulls-caused xs ys all.fulls;
    each = zip-seen (HasServed w i k a (over b) route most) (HasServed w i k a b route most) beneath beneath xs ys one-served all.each;
    ended = λ e. turned-all beneath (HasNoneLeft a) ys (all.ended e);
    failed = λ e.
        some-reverse (HasFailed a) (map beneath xs) (map beneath ys)
        (length-map xs beneath ∙ length_all_zip _ _ _ all.each ∙ sym (length-map ys beneath)) (some-seen beneath (HasFailed a) xs ys (all.failed e));
  }

  -- workers that were moved beneath a store, and back when they had served
  pub served-beneath : (old rest new : List (Worker B A C)) (xs ys : List (Worker (CachedBackend V B T) A C)) (worked : Worked) → reverse (map beneath xs) ≡ old → rest ≡ []
      → new ≡ rest ++ reverse (map beneath ys) → HaveServed w i k a (over b) route most xs ys worked → HaveServed w i k a b route most old new worked
  served-beneath old rest new xs ys worked before left after all =
      let e : new ≡ reverse (map beneath ys) = rw (after, left) refl in rw (← before, e) (served-turned xs ys worked all)

module _ {V B T A C : Type 0} (b : watched.Ghosts B) where
  booked-turned : (booked : ℕ) (xs ys : List (Worker (CachedBackend V B T) A C)) → AreBooked (over b) booked xs ys
      → AreBooked b booked (reverse (map beneath xs)) (reverse (map beneath ys))
  booked-turned booked xs ys all below few =
      let searched = sum-turned beneath (searched_by b) xs in
      let searched-then = sum-turned beneath (searched_by b) ys in
      let excused = sum-turned beneath (excused_by b) xs in
      let excused-then = sum-turned beneath (excused_by b) ys in
      let enough = all (all-turned beneath (λ (one : Worker B A C). AreSearchesBelowEnd (b.counts one.backend)) ys below) few in
      omega (arith, enough, searched, searched-then, excused, excused-then)

  pub booked-beneath : (booked : ℕ) (old rest new : List (Worker B A C)) (xs ys : List (Worker (CachedBackend V B T) A C))
      → reverse (map beneath xs) ≡ old → rest ≡ [] → new ≡ rest ++ reverse (map beneath ys) → AreBooked (over b) booked xs ys
      → AreBooked b booked old new
  booked-beneath booked old rest new xs ys before left after all =
      let e : new ≡ reverse (map beneath ys) = rw (after, left) refl in rw (← before, e) (booked-turned booked xs ys all)
