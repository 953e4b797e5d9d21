use Rattle.front_conn.specs.steps.Drives.{outside_of}
use Rattle.front_conn.proofs.DriveLemmas.{driven-work, drives-lacking, drives-over}
use Rattle.front_conn.proofs.EndedLemmas.{work-next}
use Rattle.front_conn.proofs.answering.Answering.drive.Goals as goal

pub end_work-done-requires-clause-fits : goal.end_work-done-requires-clause-fits
end_work-done-requires-clause-fits g c =
    c.package_outcome_fits.ensures c.args.route.now _ c.drive.new.self c.drive.ensures.of c.in-Ok.ensures.over

pub end_work-done-requires-clause-one_work : goal.end_work-done-requires-clause-one_work
end_work-done-requires-clause-one_work g c =
    work-next _ c.args.self.now c.self.view_is c.in-Some.package c.in-Some.is c.args.route.now c.drive.new.self
    (driven-work g.W.World g.S.Sitting g.B.Watched.exact c.args.route.now _ _ c.drive.result c.drive.ensures.driven) c.requires.one_work

pub returns-in-Err-clause-drives : goal.returns-in-Err-clause-drives
returns-in-Err-clause-drives g c =
    drives-lacking g.W.World g.S.Sitting g.B.Watched.exact c.args.route.now _ c.args.self.now c.self.view_is c.in-Some.package c.in-Some.is
    c.drive.new.self _ _ (outside_of g.D.Door g.B.Watched c.args.door.now c.args.backend.now)
    (outside_of g.D.Door g.B.Watched c.drive.new.door c.drive.new.backend) c.requires.one_work c.drive.result c.in-Err.memory c.in-Err.is
    c.drive.ensures.driven c.end_step.ensures

pub returns-in-Ok-clause-drives : goal.returns-in-Ok-clause-drives
returns-in-Ok-clause-drives g c =
    drives-over g.W.World g.S.Sitting g.B.Watched.exact c.args.route.now _ c.args.self.now c.self.view_is c.in-Some.package c.in-Some.is
    c.drive.new.self _ _ (outside_of g.D.Door g.B.Watched c.args.door.now c.args.backend.now)
    (outside_of g.D.Door g.B.Watched c.drive.new.door c.drive.new.backend) c.requires.one_work c.drive.result _ c.in-Ok.is
    c.drive.ensures.driven c.end_work-done.new.self c.end_work-done.result c.end_work-done.ensures.ended c.end_work-done.ensures.ready
    c.end_step-in-Ok.ensures
