-- A replay over a wire that is lent is one over the wire
use Rattle.std.proofs.Common.{◌≡◌, ℕ, Bool, List, [], Some, Result, Ok, Err, refl, ap, subst}
use Rattle.std.specs.Prelude.{IfOk, OnOk}
use Rattle.z_types.specs.declared.sitting.Sitting as sitting
use Rattle.z_types.specs.declared.world.World as world
use Rattle.gw_outside.specs.Counts.{Counts}
use Rattle.gw_outside.specs.Happened.{AreQuiet, Happened}
use Rattle.pool_core.specs.PoolView.{PoolView, counts_of, new_pool}
use Rattle.route_config.specs.declared.route.Route.{Route}
use Rattle.replay_shares.specs.leg.Turns.{DoorView}
use Rattle.sharing_rules.specs.steps.Shared.{pool_of}
use Rattle.script.specs.declared.event.Event.{Event}
use Rattle.replay_shares.specs.replay.Undisturbed.{IsUntroubledIf}
use Rattle.replay_shares.specs.replay.declared.reports.Report.{Report}
use Rattle.replay_laws.specs.Borne.{WentThrough, IsBorneIf, new_door}
use Rattle.replay_laws.proofs.WireLemmas.{through_as_lent}
use Rattle.replay_shares.specs.Shares.{SharesIfOrderlyOver}
use Rattle.replay_top.specs.Lent.{lent_by}

lent-quiet : (reference : ℕ) (happened : Happened) → AreQuiet happened → AreQuiet (lent_by reference happened)
lent-quiet reference happened quiet = record { steady = quiet.steady; nothing = quiet.nothing }

pub lent_untroubled : {E W : Type 0} (w : world.Ghosts W) (exact : Bool) (route : Route) (events : List Event) (counts : Counts) (reference : ℕ)
    (happened : Happened) (result : Result Report E) → IfOk result (IsUntroubledIf w exact route events counts (lent_by reference happened))
    → IfOk result (IsUntroubledIf w exact route events counts happened)
lent_untroubled w exact route events counts reference happened (Ok report) so = λ is und.
    so is (record {
      nothing = und.nothing;
      quiet = lent-quiet reference happened und.quiet;
      uncounted = und.uncounted;
      told = und.told;
    })
lent_untroubled w exact route events counts reference happened (Err err) so = tt

pub lent_borne : {E W : Type 0} (w : world.Ghosts W) (exact : Bool) (route : Route) (events : List Event) (reference : ℕ) (happened : Happened)
    (counts : Counts) (result : Result Report E) → IfOk result (IsBorneIf w exact route events (lent_by reference happened) counts)
    → IfOk result (IsBorneIf w exact route events happened counts)
lent_borne w exact route events reference happened counts (Ok report) so = λ is may.
    so is (record { few = may.few; quiet = lent-quiet reference happened may.quiet; told = may.told })
lent_borne w exact route events reference happened counts (Err err) so = tt

pub lent_through : {E W S : Type 0} (w : world.Ghosts W) (t : sitting.Ghosts S W) (exact : Bool) (route : Route) (events : List Event)
    (reference : ℕ) (happened : Happened) (counts : Counts) (result : Result Report E)
    → IfOk result (WentThrough w t exact route events (lent_by reference happened) counts)
    → IfOk result (WentThrough w t exact route events happened counts)
lent_through w t exact route events reference happened counts result so =
    through_as_lent w t exact route events happened (lent_by reference happened) counts result (lent-quiet reference happened) (λ target. refl) so

-- so, where what is over a wire that is lent has that wire before and behind it
pub lent_through_at : {E W S N : Type 0} (w : world.Ghosts W) (t : sitting.Ghosts S W) (exact : Bool) (route : Route) (events : List Event)
    (reference : ℕ) (happened : N → Happened) (counts : N → Counts) (before lent_before behind lent_behind : N) (result : Result Report E)
    → lent_before ≡ before → OnOk result (lent_behind ≡ behind)
    → IfOk result (WentThrough w t exact route events (lent_by reference (happened lent_before)) (counts lent_behind))
    → IfOk result (WentThrough w t exact route events (happened before) (counts behind))
lent_through_at {N = N} w t exact route events reference happened counts before lent_before behind lent_behind (Ok report) is_before is_behind so =
    lent_through {E = Unit {0}} w t exact route events reference (happened before) (counts behind) (Ok report)
    (subst (λ (n : N). WentThrough w t exact route events (lent_by reference (happened n)) (counts behind) report) is_before
    (subst (λ (n : N). WentThrough w t exact route events (lent_by reference (happened lent_before)) (counts n) report) is_behind so))
lent_through_at w t exact route events reference happened counts before lent_before behind lent_behind (Err err) is_before is_behind so = tt

pub lent_shares : {E W : Type 0} (w : world.Ghosts W) (exact : Bool) (route : Route) (events : List Event) (counts : Counts) (reference : ℕ)
    (happened : Happened) (result : Result Report E) → IfOk result (SharesIfOrderlyOver w exact route events counts (lent_by reference happened))
    → IfOk result (SharesIfOrderlyOver w exact route events counts happened)
lent_shares w exact route events counts reference happened (Ok report) so = λ is fair quiet.
    so is fair (record { no_links = quiet.no_links; quiet = lent-quiet reference happened quiet.quiet })
lent_shares w exact route events counts reference happened (Err err) so = tt

-- a pool that was just made has the route's numbers, and no session
pub new_told : {S : Type 0} (route : Route) (pool : PoolView S) → pool ≡ new_pool route.pool → Some pool.pool ≡ Some (pool_of route 0 [])
new_told {S = S} route pool e = ap (λ (p : PoolView S). Some p.pool) e

-- so is the door that it is
abbrev door-of : {S : Type 0} → PoolView S → DoorView S
door-of pool = record { pool = Some pool.pool; counts = counts_of pool }

pub new_door_is : {S : Type 0} (route : Route) (pool : PoolView S) → pool ≡ new_pool route.pool → door-of pool ≡ new_door route.pool
new_door_is route pool e = ap door-of e
