use Rattle.front_conn.specs.steps.Drives.{outside_of}
use Rattle.front_conn.proofs.DrivenLemmas.{drive-keeps, drive-of-route, has-driven, no-end, parts-of, some-work}
use Rattle.front_conn.proofs.conn.Conn.drive_package.Goals as goal

pub drive-requires-clause-goes_on : goal.drive-requires-clause-goes_on
drive-requires-clause-goes_on g c =
    no-end g.W.World g.S.Sitting c.args.route.now (g.D.Door.counts c.args.door.now).most c.self.inside.framer _ _ _ c.args.self.now c.self.view_is
    c.requires.in_work

pub drive-requires-clause-works : goal.drive-requires-clause-works
drive-requires-clause-works g c =
    some-work g.W.World g.S.Sitting c.args.route.now (g.D.Door.counts c.args.door.now).most c.self.inside.framer _ _ _ c.args.self.now
    c.self.view_is c.requires.in_work

pub drive-requires-clause-one_work : goal.drive-requires-clause-one_work
drive-requires-clause-one_work g c =
    (parts-of g.W.World g.S.Sitting c.args.route.now (g.D.Door.counts c.args.door.now).most c.self.inside.framer _ _ _ c.args.self.now
    c.self.view_is c.requires.in_work c.requires.of).one_work

pub drive-requires-clause-of : goal.drive-requires-clause-of
drive-requires-clause-of g c =
    (parts-of g.W.World g.S.Sitting c.args.route.now (g.D.Door.counts c.args.door.now).most c.self.inside.framer _ _ _ c.args.self.now
    c.self.view_is c.requires.in_work c.requires.of).in_work

pub returns-clause-of : goal.returns-clause-of
returns-clause-of g c =
    drive-of-route g.W.World g.S.Sitting g.B.Watched.exact c.args.route.now c.self.inside.framer _ _ _ _ _ c.args.self.now c.drive.result
    (outside_of g.D.Door g.B.Watched c.args.door.now c.args.backend.now)
    (outside_of g.D.Door g.B.Watched c.drive.new.door c.drive.new.backend) c.self.view_is c.requires.in_work c.requires.of
    c.drive.ensures.drives

pub returns-clause-driven : goal.returns-clause-driven
returns-clause-driven g c =
    has-driven g.W.World g.S.Sitting g.B.Watched.exact c.args.route.now c.self.inside.framer _ _ _ _ _ c.args.self.now c.drive.result
    (outside_of g.D.Door g.B.Watched c.args.door.now c.args.backend.now)
    (outside_of g.D.Door g.B.Watched c.drive.new.door c.drive.new.backend) c.self.view_is c.requires.in_work c.requires.of
    c.drive.ensures.drives

pub returns-clause-keeps : goal.returns-clause-keeps
returns-clause-keeps g c =
    drive-keeps g.W.World g.S.Sitting g.B.Watched.exact c.args.route.now c.self.inside.framer _ _ _ _ _ c.args.self.now c.drive.result
    (outside_of g.D.Door g.B.Watched c.args.door.now c.args.backend.now)
    (outside_of g.D.Door g.B.Watched c.drive.new.door c.drive.new.backend) c.self.view_is c.requires.in_work c.requires.of
    c.drive.ensures.drives (record {
      sound = c.parts.ensures.sound;
      members = c.have_members.ensures;
      is_true = c.package_outcome_is_true.ensures;
      is_allowed = c.package_cause_is_allowed.ensures;
      goes_on = c.gets_go_on.ensures.goes_on;
      meant = c.works_answer.ensures.hits;
    })
