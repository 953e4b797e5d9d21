use Rattle.std.proofs.Common.{List, Option, refl, subst, sym}
use Rattle.std.specs.List.{AllByRecursion}
use Rattle.script.specs.Events.{IsEvent}
use Rattle.script.specs.declared.event.Event.{Event}
use Rattle.replay.specs.Undisturbed.{BefallsNothing}
use Rattle.replay.proofs.MarkLemmas.{run-marks}
use Rattle.replay.proofs.UndisturbedLemmas.{run-goes}
use Rattle.replay.proofs.TraceRoom.{finds-room}
use Rattle.replay.specs.Clients.{ClientState}
use Rattle.replay.specs.steps.Clients.{AreNobody}
use Rattle.replay.proofs.runs.run_with_hits.Goals as goal

pub play_all-requires-clause-nobody : goal.play_all-requires-clause-nobody
play_all-requires-clause-nobody g c =
    subst (λ (cs : List (Option (ClientState g.row.B-Session.Denot))). AreNobody cs) (sym c.as_mut_slice-slots.ensures.value)
    (record { all = c.in_ok-clients.ensures.count; none = c.in_ok-clients.ensures.none })

pub returns-in-Ok-clause-marks : goal.returns-in-Ok-clause-marks
returns-in-Ok-clause-marks g c =
    run-marks g.W.World g.B.Session.Sitting g.B.Watched.exact c.args.route.now (g.D.Door.counts c.args.door.now).most _ _ _
    c.in-Ok.report refl c.in-Ok.ensures.run

pub returns-in-Ok-clause-calm : goal.returns-in-Ok-clause-calm
returns-in-Ok-clause-calm g c = λ is told nothing calm.
    run-goes g.W.World g.B.Session.Sitting g.B.Watched.exact c.args.route.now c.run_laws.ensures.packages is told _ _ _
    c.in-Ok.report (subst (λ (events : List Event). AllByRecursion BefallsNothing events) (sym c.as_slice.ensures) nothing) calm
    c.in-Ok.ensures.run

pub returns-in-Ok-clause-room : goal.returns-in-Ok-clause-room
returns-in-Ok-clause-room g c =
    finds-room g.W.World g.B.Session.Sitting g.B.Watched.exact c.args.route.now c.run_laws.ensures c.parts.ensures.sound c.requires.0 _ _ _
    c.in-Ok.report (subst (λ (events : List Event). AllByRecursion (IsEvent c.requires.0) events) (sym c.as_slice.ensures) c.requires.1.each)
    c.in-Ok.ensures.run
