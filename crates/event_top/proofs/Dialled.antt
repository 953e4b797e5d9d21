-- Where a client was told that the pool is full, enough sessions had been dialled
use Rattle.std.proofs.Common.{◌≡◌, ◌∙◌, ◌+◌, ◌-◌, ◌^◌, ◌≤◌, ℕ, List, [], ◌∷◌, ap, arith, refl, subst}
use Rattle.std.proofs.lemmas.List.Sums.{sum_by-append, sum_by-cons}
use Rattle.z_types.specs.declared.world.World as world
use Rattle.route_config.specs.declared.route.PoolNumbers.{PoolNumbers}
use Rattle.route_config.specs.declared.route.Route.{Route}
use Rattle.gw_outside.specs.Counts.{Counts}
use Rattle.gw_outside.specs.declared.watched.Watched as watched
use Rattle.pool_sets.specs.Counts.{DoorCounts}
use Rattle.pool_locked.specs.Books.{FullOpens}
use Rattle.event_outside.specs.declared.accepts.EdgeAccept as accept
use Rattle.event_outside.specs.declared.pollers.Poller as poller
use Rattle.event_outside.specs.declared.sinks.EdgeSink as to
use Rattle.event_outside.specs.declared.sources.EdgeSource as from
use Rattle.event_loop.specs.Fronts.{FrontView, HasServedTo, HaveCost, IsFrontCaused, front_view, needed_by, undialled_by}
use Rattle.event_loop.specs.declared.fronts.EventFront.{EventFront}
use Rattle.event_loop.specs.declared.fronted.Fronted.{Fronted}
use Rattle.event_loop.specs.declared.fronted.Fronted.TheVariants as fronted
use Rattle.event_loop.specs.event_front.conn_served.Costs.{Tally, needed, undialled}
use Rattle.event_loop.specs.event_front.conn_served.declared.served.Served.{Served}
use Rattle.event_loop.specs.event_front.conn_served.front_conn_costs.steps.Conns.{marks_of}
use Rattle.event_loop.specs.event_front.conn_served.front_conn_costs.steps.Numbers.{full}
use Rattle.event_top.specs.Outcome.{AreFullsCaused, FrontServed, IsFullCaused, fulls_in, no_door_counts}

fulls-needed : (pool : PoolNumbers) (served : List Served) → needed_by pool served full ≡ fulls_in served
fulls-needed pool [] = refl
fulls-needed pool (one ∷ served) =
    let all = sum_by-cons (λ (s : Served). needed pool s.marks full) one served in
    let own = sum_by-cons (λ (s : Served). marks_of full s.marks) one served in
    let rest = fulls-needed pool served in
    omega (arith, all, own, rest)

-- over a new pool
abbrev first-tally : PoolNumbers → Counts → Tally
first-tally pool before = record { door = no_door_counts pool; backend = before }

full-caused : (pool : PoolNumbers) (old new : List Served) (before behind : Counts) (counted : DoorCounts)
    → HaveCost pool 0 old new (first-tally pool before) (record { door = counted; backend = behind })
    → FullOpens pool.max_sessions counted.fulls counted.opens → IsFullCaused pool.max_sessions old new before behind
full-caused pool old new before behind counted h opened = λ dials_below faults_below more.
    let opens = h.paid.raised.opens 0 refl in
    let dials = h.paid.raised.dials before.dials (omega arith) in
    let faults = h.paid.raised.faults before.faults (omega arith) in
    let paid = h.paid.opens in
    let left : undialled_by new ≡ undialled_by old + undialled_by h.others =
    ap undialled_by h.served ∙ sum_by-append (λ (s : Served). undialled s.end) old h.others in
    let met = h.causes full 0 (omega arith) in
    let needs = fulls-needed pool h.others in
    let all : fulls_in new ≡ fulls_in old + fulls_in h.others =
    ap fulls_in h.served ∙ sum_by-append (λ (s : Served). marks_of full s.marks) old h.others in
    let enough : pool.max_sessions ≤ counted.opens = opened (λ none. absurd (omega (arith, met, needs, all, more, none))) in
    omega (arith, opens, dials, faults, paid, left, enough, dials_below, faults_below)

module _ {W I K : Type 0} (w : world.Ghosts W) (i : from.Ghosts I) (k : to.Ghosts K) (route : Route) where
  -- by how the front ended
  pub fulls-to : (how : Fronted) (old new : FrontView I K) (before behind : Counts) (counted : DoorCounts)
      → HasServedTo w i k route how old new (first-tally route.pool before) (record { door = counted; backend = behind })
      → FullOpens route.pool.max_sessions counted.fulls counted.opens
      → AreFullsCaused how route.pool.max_sessions old.served new.served before behind
  fulls-to fronted.Ended old new before behind counted served opened =
      full-caused route.pool old.served new.served before behind counted served.0.1 opened
  fulls-to fronted.AcceptFailed old new before behind counted served opened =
      full-caused route.pool old.served new.served before behind counted served.1 opened
  fulls-to fronted.PollFailed old new before behind counted served opened = tt
  fulls-to fronted.Memory old new before behind counted served opened = tt

module _ {W A P B C I K : Type 0} (w : world.Ghosts W) (i : from.Ghosts I) (k : to.Ghosts K) (a : accept.Ghosts A I K) (p : poller.Ghosts P)
    (b : watched.Ghosts B)
  where
    -- what a front did over a door that had counted nothing
    pub front-served : (route : Route) (old new : EventFront A P B C) (how : Fronted) (first counted : DoorCounts)
        → first ≡ no_door_counts route.pool → counted.most ≡ first.most
        → HasServedTo w i k route how (front_view a old.served old.accept) (front_view a new.served new.accept)
        (record { door = first; backend = b.counts old.backend }) (record { door = counted; backend = b.counts new.backend })
        → IsFrontCaused how (a.faults old.accept) (a.faults new.accept) (p.faults old.poller) (p.faults new.poller)
        → FullOpens counted.most counted.fulls counted.opens → FrontServed w i k a p b route old new how
    front-served route old new how first counted e most served cause opened =
        let over : HasServedTo w i k route how (front_view a old.served old.accept) (front_view a new.served new.accept)
        (first-tally route.pool (b.counts old.backend)) (record { door = counted; backend = b.counts new.backend }) =
        subst (λ (d : DoorCounts). HasServedTo w i k route how (front_view a old.served old.accept) (front_view a new.served new.accept)
        (record { door = d; backend = b.counts old.backend }) (record { door = counted; backend = b.counts new.backend })) e served in record {
          counted = counted;
          served = over;
          fulls = fulls-to w i k route how (front_view a old.served old.accept) (front_view a new.served new.accept)
              (b.counts old.backend) (b.counts new.backend) counted over
              (subst (λ (n : ℕ). FullOpens n counted.fulls counted.opens) (most ∙ ap (λ (d : DoorCounts). d.most) e) opened);
          cause = cause;
        }

-- a door that has counted nothing was not full, and has named no address
pub few-first : (pool : PoolNumbers) (first : DoorCounts) → first ≡ no_door_counts pool → first.opens ≤ 2 ^ 64 - 1
few-first pool first e = let none = ap (λ (d : DoorCounts). d.opens) e in omega (arith, none)

pub full-first : (pool : PoolNumbers) (first : DoorCounts) → first ≡ no_door_counts pool → FullOpens first.most first.fulls first.opens
full-first pool first e = λ some. absurd (some (ap (λ (d : DoorCounts). d.fulls) e))
