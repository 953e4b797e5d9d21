-- A new pool over a quiet backend is kept behind no use; and a replay over a wire shares, where it is orderly
use Rattle.std.proofs.Common.{◌≡◌, ℕ, Bool, List, [], Option, None, Some, Result, Ok, Err, refl, sym, subst}
use Rattle.std.specs.Prelude.{IfOk}
use Rattle.z_types.specs.declared.sitting.Sitting as sitting
use Rattle.z_types.specs.declared.world.World as world
use Rattle.gw_outside.specs.Counts.{Counts}
use Rattle.gw_outside.specs.Happened.{AreQuiet}
use Rattle.route_config.specs.Sound.{IsSound}
use Rattle.route_config.specs.declared.route.Route.{Route}
use Rattle.pool_sets.specs.Plain.{Pool}
use Rattle.replay.specs.front_conn.steps.Answering.{Outside}
use Rattle.sharing_rules.specs.steps.Shared.{pool_of}
use Rattle.package_shares.specs.package_quiet.steps.Whole.{IsWholePool}
use Rattle.script.specs.Events.{AreEvents}
use Rattle.script.specs.declared.event.Event.{Event}
use Rattle.replay.specs.Trace.{IsRunOf}
use Rattle.replay.specs.declared.reports.Report.{Report}
use Rattle.replay_shares.specs.Shares.{SharesIfOrderlyOver}
use Rattle.replay_shares.specs.steps.Laws.{RunsOfScriptsShare}
use Rattle.replay_shares.specs.steps.Resting.{IsKeptOver}

-- a pool of the route's numbers that has no session yet, whichever number is the next
pub new_kept : {W S : Type 0} (w : world.Ghosts W) (t : sitting.Ghosts S W) (route : Route) (given : ℕ) (before : Outside S)
    → before.door.pool ≡ Some (pool_of route given []) → AreQuiet before.backend.happened → IsKeptOver w t route 0 [] before
new_kept {S = S} w t route given before is quiet = record {
  pool = pool_of route given [];
  told = is;
  kept = record {
    of = record { numbers = refl; numbered = record { theirs = λ number. record { class = 0; login = None }; each = tt } };
    each = λ who. refl;
  };
  calm = record { quiet = quiet; sessions = subst (λ (p : Option (Pool S)). IsWholePool w t p) (sym is) tt };
}

-- so over a wire, where there is a report
pub shares_ok : {E : Type 0} (W S : Type 0) (w : world.Ghosts W) (t : sitting.Ghosts S W) (exact : Bool) (route : Route) (events : List Event)
    (before behind : Outside S) (result : Result Report E) → RunsOfScriptsShare w t → IsSound route → (targets : ℕ) × AreEvents targets events
    → (given : ℕ) → before.door.pool ≡ Some (pool_of route given []) → IfOk result (IsRunOf w t exact route events before behind) → (wire : Counts)
    → IfOk result (SharesIfOrderlyOver w exact route events wire before.backend.happened)
shares_ok W S w t exact route events before behind (Ok report) share sound are given new run wire = λ is fair quiet.
    share exact route are.0 events before behind report is fair sound are.1 (new_kept w t route given before new quiet.quiet) run
shares_ok W S w t exact route events before behind (Err err) share sound are given new run wire = tt
