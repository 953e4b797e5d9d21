-- From what each worker's shares hold to what all workers searched
use Rattle.std.proofs.Common.{◌≡◌, ◌<◌, ◌≤◌, ◌+◌, ◌⊎◌, inl, inr, ℕ, List, [], ◌∷◌, map, refl, reverse, arith, subst, sym}
use Rattle.std.specs.List.{AllByRecursion, AllZip, sum_by}
use Rattle.std.proofs.lemmas.Bool.{cases_lt}
use Rattle.std.proofs.lemmas.List.{reverse-reverse}
use Rattle.std.proofs.lemmas.List.Sums.{sum_by-cons}
use Rattle.gw_outside.specs.declared.watched.Watched as watched
use Rattle.route_config.specs.declared.route.PoolNumbers.{PoolNumbers}
use Rattle.serve.specs.front_conn_costs.steps.Growth.{RisesAsMuch, last64}
use Rattle.pool_locked.specs.Books.{counted}
use Rattle.serve.specs.Working.{HaveCost}
use Rattle.serve.specs.declared.working.Worker.{Worker}
use Rattle.serve_threads.specs.Serving.{AreBooked, AreSearchesBelowEnd, excused_by, searched_by}
use Rattle.serve_threads.specs.steps.Jobs.{Amounts, amounts, tally_with}
use Rattle.serve_threads.proofs.Dialled.{Costs, sum-reverse}
use Rattle.serve_threads.proofs.Lists.{all-reverse}

-- a count that is below its end rose by no more than it rises
risen : (old new cost : ℕ) → RisesAsMuch 0 cost old new → new < last64 → (last64 < old) ⊎ (old ≤ last64) → new ≤ old + cost
risen old new cost rises below (inl past) = omega (arith, past, below)
risen old new cost rises below (inr within) = let risen = rises old (omega (arith, within)) in omega (arith, risen, below)

-- ---- one worker

module _ {A B C : Type 0} (b : watched.Ghosts B) (pool : PoolNumbers) (most : ℕ) (old new : Worker B A C) (held : Amounts)
    (h : HaveCost pool old.served new.served (tally_with b most (amounts 0 0 0) old) (tally_with b most held new)) where
  one-searched : AreSearchesBelowEnd (b.counts new.backend) → held.booked < last64
      → searched_by b new + excused_by b old ≤ searched_by b old + excused_by b new + held.booked
  one-searched below few =
      let booked : counted (0 + h.paid.cost.booked) ≡ counted held.booked = h.paid.raised.booked 0 refl in
      let searches = risen (b.counts old.backend).searches (b.counts new.backend).searches h.paid.cost.searches h.paid.raised.searches
      below.searches (cases_lt last64 (b.counts old.backend).searches) in
      let gones = h.paid.raised.gones (b.counts old.backend).gones (omega arith) in
      let faults = h.paid.raised.faults (b.counts old.backend).faults (omega arith) in
      let paid = h.paid.searches in
      omega (arith, booked, searches, gones, faults, paid, below.gones, below.faults, few)

-- ---- all workers

module _ {A B C X : Type 0} (b : watched.Ghosts B) (pool : PoolNumbers) (most : ℕ) (worker : X → Worker B A C) (held : X → Amounts) where
  abbrev BelowEnd : Worker B A C → Type 0
  BelowEnd one = AreSearchesBelowEnd (b.counts one.backend)

  searched-one : (x y : X) → held x ≡ amounts 0 0 0 → Costs b pool most worker held x y → BelowEnd (worker y) → (held y).booked < last64
      → searched_by b (worker y) + excused_by b (worker x) ≤ searched_by b (worker x) + excused_by b (worker y) + (held y).booked
  searched-one x y none cost below few = one-searched b pool most (worker x) (worker y) (held y) (rw none at cost) below few

  all-searched : (xs ys : List X) → AllByRecursion (λ x. held x ≡ amounts 0 0 0) xs → AllZip (Costs b pool most worker held) xs ys
      → AllByRecursion BelowEnd (map worker ys) → sum_by (λ y. (held y).booked) ys < last64
      → sum_by (searched_by b) (map worker ys) + sum_by (excused_by b) (map worker xs)
      ≤ sum_by (searched_by b) (map worker xs) + sum_by (excused_by b) (map worker ys) + sum_by (λ y. (held y).booked) ys
  all-searched [] [] none costs below few = omega arith
  all-searched [] (y ∷ ys) none costs below few = absurd costs
  all-searched (x ∷ xs) [] none costs below few = absurd costs
  all-searched (x ∷ xs) (y ∷ ys) none costs below few =
      let booked = sum_by-cons (λ (z : X). (held z).booked) y ys in
      let first = searched-one x y none.0 costs.0 below.0 (omega (arith, booked, few)) in
      let rest = all-searched xs ys none.1 costs.1 below.1 (omega (arith, booked, few)) in
      let searched = sum_by-cons (searched_by b) (worker x) (map worker xs) in
      let searched-then = sum_by-cons (searched_by b) (worker y) (map worker ys) in
      let excused = sum_by-cons (excused_by b) (worker x) (map worker xs) in
      let excused-then = sum_by-cons (excused_by b) (worker y) (map worker ys) in
      omega (arith, booked, first, rest, searched, searched-then, excused, excused-then)

  -- all searches were booked at the pool whose shares these are
  pub all-booked : (xs ys : List X) → AllByRecursion (λ x. held x ≡ amounts 0 0 0) xs → AllZip (Costs b pool most worker held) xs ys
      → AreBooked b (counted (sum_by (λ y. (held y).booked) ys)) (reverse (map worker xs)) (reverse (map worker ys))
  all-booked xs ys none costs below few =
      let searched = all-searched xs ys none costs
      (rw (reverse-reverse (map worker ys)) at (all-reverse BelowEnd (reverse (map worker ys)) below)) (omega (arith, few)) in
      let one = sum-reverse (searched_by b) (map worker xs) in
      let two = sum-reverse (searched_by b) (map worker ys) in
      let three = sum-reverse (excused_by b) (map worker xs) in
      let four = sum-reverse (excused_by b) (map worker ys) in
      omega (arith, searched, one, two, three, four, few)

-- ---- in other words

module _ {A B C : Type 0} (b : watched.Ghosts B) where
  -- for the same number
  pub booked-as : (old new : List (Worker B A C)) {booked booked' : ℕ} → booked ≡ booked' → AreBooked b booked' old new
      → AreBooked b booked old new
  booked-as old new e h = subst (λ (n : ℕ). AreBooked b n old new) (sym e) h

  -- nothing was searched
  pub same-booked : (booked : ℕ) (old new : List (Worker B A C)) → new ≡ old → AreBooked b booked old new
  same-booked booked old new e = rw e (λ below few. omega arith)
