-- From what each worker's shares hold to what all workers dialled
use Rattle.std.proofs.Common.{◌≡◌, ◌∙◌, ◌<◌, ◌≤◌, ◌+◌, ℕ, List, [], ◌∷◌, map, reverse, arith, refl, sym, subst, ap}
use Rattle.std.specs.List.{AllByRecursion, AllZip, sum_by}
use Rattle.std.proofs.lemmas.List.{reverse-append, reverse-reverse}
use Rattle.std.proofs.lemmas.List.Sums.{sum_by-append, sum_by-cons, sum_by_push}
use Rattle.gw_outside.specs.declared.watched.Watched as watched
use Rattle.route_config.specs.declared.route.PoolNumbers.{PoolNumbers}
use Rattle.serve.specs.front_conn_costs.steps.Conns.{marks_of}
use Rattle.serve.specs.front_conn_costs.steps.Growth.{last64}
use Rattle.serve.specs.front_conn_costs.steps.Numbers.{full, gone, link, silent}
use Rattle.pool_locked.specs.Books.{FullOpens, counted}
use Rattle.serve.specs.Working.{AreAllMarksOf, HaveCost, needed_by, undialled_by}
use Rattle.serve.specs.conn_served.Costs.{Tally, needed, undialled}
use Rattle.serve.specs.conn_served.declared.served.Served.{Served}
use Rattle.serve.specs.declared.working.Worker.{Worker}
use Rattle.serve_threads.specs.Serving.{AreDialsBelowEnd, HaveBackendCauses, IsFullCaused, dialled_by, fulls_in}
use Rattle.serve_threads.specs.steps.Jobs.{Amounts, amounts, tally_with}
use Rattle.serve_threads.proofs.Lists.{all-reverse}

-- what was served is that in other words for the same numbers
pub cost-as : (pool : PoolNumbers) {old new : List Served} {before before' behind behind' : Tally} → before ≡ before' → behind ≡ behind'
    → HaveCost pool old new before behind → HaveCost pool old new before' behind'
cost-as pool {old = old} {new = new} {before' = before'} {behind = behind} e f h =
    subst (λ (t : Tally). HaveCost pool old new before' t) f (subst (λ (t : Tally). HaveCost pool old new t behind) e h)

-- ---- sums of reversed lists

pub sum-reverse : {X : Type 0} (f : X → ℕ) (xs : List X) → sum_by f (reverse xs) ≡ sum_by f xs
sum-reverse f [] = refl
sum-reverse f (x ∷ xs) =
    ap (sum_by f) (reverse-append (x ∷ []) xs) ∙ sum_by_push f (reverse xs) x
    ∙ omega (arith, sum-reverse f xs, sum_by-cons f x xs)

-- ---- one worker

fulls-needed : (pool : PoolNumbers) (served : List Served) → needed_by pool served full ≡ fulls_in served
fulls-needed pool [] = refl
fulls-needed pool (one ∷ served) =
    let all = sum_by-cons (λ (s : Served). needed pool s.marks full) one served in
    let own = sum_by-cons (λ (s : Served). marks_of full s.marks) one served in
    let rest = fulls-needed pool served in
    omega (arith, all, own, rest)

module _ {A B C : Type 0} (b : watched.Ghosts B) (pool : PoolNumbers) (most : ℕ) (old new : Worker B A C) (before held : Amounts)
    (h : HaveCost pool old.served new.served (tally_with b most before old) (tally_with b most held new)) where
  -- its backend's marks have their causes
  pub backend-causes : (others : List Served) → others ≡ h.others
      → HaveBackendCauses pool others (b.counts old.backend) (b.counts new.backend)
  backend-causes others e = rw e (record { links = h.causes link; silents = h.causes silent; gones = h.causes gone })

  pub all-marks : (others : List Served) → others ≡ h.others → AreAllMarksOf pool most others
  all-marks others e = rw e h.marks

module _ {A B C : Type 0} (b : watched.Ghosts B) (pool : PoolNumbers) (most : ℕ) (old new : Worker B A C) (held : Amounts)
    (h : HaveCost pool old.served new.served (tally_with b most (amounts 0 0 0) old) (tally_with b most held new)) where
  -- what it was named was dialled
  pub one-dialled : AreDialsBelowEnd (b.counts new.backend) → dialled_by b old + counted held.opens ≤ dialled_by b new
  one-dialled below =
      let opens : counted (0 + h.paid.cost.opens) ≡ counted held.opens = h.paid.raised.opens 0 refl in
      let dials = h.paid.raised.dials (b.counts old.backend).dials (omega arith) in
      let faults = h.paid.raised.faults (b.counts old.backend).faults (omega arith) in
      let paid = h.paid.opens in
      let left : undialled_by new.served ≡ undialled_by old.served + undialled_by h.others =
      ap undialled_by h.served ∙ sum_by-append (λ (s : Served). undialled s.end) old.served h.others in
      omega (arith, opens, dials, faults, paid, left, below.dials, below.faults)

  -- where its door was never full it lists no Full
  pub one-fulls : held.fulls ≡ 0 → fulls_in new.served ≡ fulls_in old.served
  one-fulls none =
      let met = h.causes full 0 (omega arith) in
      let needs = fulls-needed pool h.others in
      let all : fulls_in new.served ≡ fulls_in old.served + fulls_in h.others =
      ap fulls_in h.served ∙ sum_by-append (λ (s : Served). marks_of full s.marks) old.served h.others in
      omega (arith, met, needs, all, none)

-- ---- all workers

module _ {A B C X : Type 0} (b : watched.Ghosts B) (pool : PoolNumbers) (most : ℕ) (worker : X → Worker B A C) (held : X → Amounts) where
  abbrev pub Costs : X → X → Type 0
  Costs x y =
      HaveCost pool (worker x).served (worker y).served (tally_with b most (held x) (worker x)) (tally_with b most (held y) (worker y))

  abbrev BelowEnd : Worker B A C → Type 0
  BelowEnd one = AreDialsBelowEnd (b.counts one.backend)

  dialled-one : (x y : X) → held x ≡ amounts 0 0 0 → Costs x y → BelowEnd (worker y)
      → dialled_by b (worker x) + counted (held y).opens ≤ dialled_by b (worker y)
  dialled-one x y none cost below = one-dialled b pool most (worker x) (worker y) (held y) (rw none at cost) below

  fulls-one : (x y : X) → held x ≡ amounts 0 0 0 → Costs x y → (held y).fulls ≡ 0 → fulls_in (worker y).served ≡ fulls_in (worker x).served
  fulls-one x y none cost never = one-fulls b pool most (worker x) (worker y) (held y) (rw none at cost) never

  all-dialled : (xs ys : List X) → AllByRecursion (λ x. held x ≡ amounts 0 0 0) xs → AllZip Costs xs ys
      → AllByRecursion BelowEnd (map worker ys)
      → sum_by (dialled_by b) (map worker xs) + counted (sum_by (λ y. (held y).opens) ys) ≤ sum_by (dialled_by b) (map worker ys)
  all-dialled [] [] none costs below = omega arith
  all-dialled [] (y ∷ ys) none costs below = absurd costs
  all-dialled (x ∷ xs) [] none costs below = absurd costs
  all-dialled (x ∷ xs) (y ∷ ys) none costs below =
      let first = dialled-one x y none.0 costs.0 below.0 in
      let rest = all-dialled xs ys none.1 costs.1 below.1 in
      let before = sum_by-cons (dialled_by b) (worker x) (map worker xs) in
      let behind = sum_by-cons (dialled_by b) (worker y) (map worker ys) in
      let opens = sum_by-cons (λ (z : X). (held z).opens) y ys in
      omega (arith, first, rest, before, behind, opens)

  all-fulls : (xs ys : List X) → AllByRecursion (λ x. held x ≡ amounts 0 0 0) xs → AllZip Costs xs ys
      → sum_by (λ y. (held y).fulls) ys ≡ 0
      → sum_by (λ (one : Worker B A C). fulls_in one.served) (map worker ys) ≡ sum_by (λ (one : Worker B A C). fulls_in one.served) (map worker xs)
  all-fulls [] [] none costs never = refl
  all-fulls [] (y ∷ ys) none costs never = absurd costs
  all-fulls (x ∷ xs) [] none costs never = absurd costs
  all-fulls (x ∷ xs) (y ∷ ys) none costs never =
      let fulls = sum_by-cons (λ (z : X). (held z).fulls) y ys in
      let first = fulls-one x y none.0 costs.0 (omega (arith, fulls, never)) in
      let rest = all-fulls xs ys none.1 costs.1 (omega (arith, fulls, never)) in
      let before = sum_by-cons (λ (one : Worker B A C). fulls_in one.served) (worker x) (map worker xs) in
      let behind = sum_by-cons (λ (one : Worker B A C). fulls_in one.served) (worker y) (map worker ys) in
      omega (arith, first, rest, before, behind)

  opened-enough : (fulls opens : ℕ) → FullOpens most fulls opens → most < last64 → ¬ (fulls ≡ 0) → most ≤ counted opens
  opened-enough fulls opens opened few some = let enough : most ≤ opens = opened some in omega (arith, enough, few)

  -- a Full that is listed was caused
  pub full-caused : (xs ys : List X) → AllByRecursion (λ x. held x ≡ amounts 0 0 0) xs → most < last64 → AllZip Costs xs ys
      → FullOpens most (sum_by (λ y. (held y).fulls) ys) (sum_by (λ y. (held y).opens) ys)
      → IsFullCaused b most (reverse (map worker xs)) (reverse (map worker ys))
  full-caused xs ys none few costs opened below more =
      let f : Worker B A C → ℕ = λ one. fulls_in one.served in
      let before = sum-reverse f (map worker xs) in
      let behind = sum-reverse f (map worker ys) in
      let some : ¬ (sum_by (λ y. (held y).fulls) ys ≡ 0) = λ never.
      let same = all-fulls xs ys none costs never in absurd (omega (arith, before, behind, same, more)) in
      let enough = opened-enough (sum_by (λ y. (held y).fulls) ys) (sum_by (λ y. (held y).opens) ys) opened few some in
      let dialled = all-dialled xs ys none costs (rw (reverse-reverse (map worker ys)) at (all-reverse BelowEnd (reverse (map worker ys)) below)) in
      let first = sum-reverse (dialled_by b) (map worker xs) in
      let last = sum-reverse (dialled_by b) (map worker ys) in
      omega (arith, enough, dialled, first, last)

-- ---- the pool

-- what is merged into shares of nothing
pub summed : {a b n s : ℕ} → a ≡ b → b ≡ n + s → n ≡ 0 → a ≡ s
summed e f none = omega arith

-- where the pool was full, in other words for the same numbers
pub full-as : {most most' fulls fulls' opens opens' : ℕ} → most ≡ most' → fulls ≡ fulls' → opens ≡ opens' → FullOpens most fulls opens
    → FullOpens most' fulls' opens'
full-as {most = most} {opens = opens} e f g opened some = let enough : most ≤ opens = opened (λ none. some (sym f ∙ none)) in omega (arith, enough, e, g)
