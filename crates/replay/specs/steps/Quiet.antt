-- For contracts alone: a replay in which nothing befalls links, over a quiet backend
-- (this project's own)
use Rattle.std.specs.Prelude.{◌≡◌, Bool, true, List}
use Rattle.std.specs.List.{AllByRecursion}
use Rattle.z_types.specs.declared.sitting.Sitting as sitting
use Rattle.z_types.specs.declared.world.World as world
use Rattle.route_config.specs.declared.route.Route.{Route}
use Rattle.front_conn_costs.specs.front_conn.steps.Answering.{Outside}
use Rattle.script.specs.declared.event.Event.{Event}
use Rattle.package_quiet.specs.steps.Quiet.{IsCalm, WentWell}
use Rattle.replay.specs.Undisturbed.{BefallsNothing}
use Rattle.replay.specs.Wires.{AreTold}

-- where each target of the route tells what it answers, no event befalls a link, and nothing can go
-- wrong at the start, nothing does: no call fails, no look is in vain and no set is gone
abbrev pub GoesWell : {W S : Type 0} → world.Ghosts W → sitting.Ghosts S W → (exact : Bool) → Route
    → List Event → (before behind : Outside S) → Type 0
GoesWell w t exact route events before behind =
    exact ≡ true → AreTold w route → AllByRecursion BefallsNothing events
    → IsCalm w t before.door.pool before.backend
    → WentWell w t (Unit {0}) behind.door.pool before.backend behind.backend
