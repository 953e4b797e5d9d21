use Rattle.std.proofs.Common.{◌∙◌, [], refl, sym}
use Rattle.front_conn.specs.steps.Drives.{conn_at}
use Rattle.front_conn.specs.steps.Steps.{KeepsState}
use Rattle.front_conn.proofs.DrivenLemmas.{driven-all, driven-more, driven-on, if-enough}
use Rattle.front_conn.proofs.conn.Conn.drive_on.Goals as goal

pub loop-package-init : goal.loop-package-init
loop-package-init g c = record {
  in_work = c.requires.in_work;
  of = c.requires.of;
  most = refl;
  goes = ([], refl);
  keeps = λ fair fed written h. h;
}

pub loop-package-preserved : goal.loop-package-preserved
loop-package-preserved g c =
    let works = c.is_in_work.ensures.0 c.if-not-is_in_work.false in record {
      in_work = works;
      of = c.drive_package.ensures.of;
      most = c.drive_package.ensures.most ∙ c.loop-package.invariant.most;
      goes = driven-on g.W.World g.S.Sitting g.B.Watched.exact c.args.route.now
          (conn_at g.D.Door g.B.Watched c.args.self.now c.args.door.now c.args.backend.now)
          (conn_at g.D.Door g.B.Watched c.loop-package.self c.loop-package.door c.loop-package.backend)
          (conn_at g.D.Door g.B.Watched c.drive_package.new.self c.drive_package.new.door c.drive_package.new.backend)
          c.drive_package.result c.loop-package.invariant.goes c.loop-package.invariant.in_work c.drive_package.ensures.driven
          c.in_default.not-Memory works;
      keeps = λ fair fed written h.
          if-enough c.drive_package.result (KeepsState g.W.World c.args.route.now c.loop-package.self c.drive_package.new.self)
          c.drive_package.ensures.keeps c.in_default.not-Memory fair fed written
          (c.loop-package.invariant.keeps fair fed written h);
    }

pub returns-in-Memory-clause-most : goal.returns-in-Memory-clause-most
returns-in-Memory-clause-most g c = c.drive_package.ensures.most ∙ c.loop-package.invariant.most

pub returns-in-Memory-clause-driven : goal.returns-in-Memory-clause-driven
returns-in-Memory-clause-driven g c =
    driven-more g.W.World g.S.Sitting g.B.Watched.exact c.args.route.now
    (conn_at g.D.Door g.B.Watched c.args.self.now c.args.door.now c.args.backend.now)
    (conn_at g.D.Door g.B.Watched c.loop-package.self c.loop-package.door c.loop-package.backend)
    (conn_at g.D.Door g.B.Watched c.drive_package.new.self c.drive_package.new.door c.drive_package.new.backend) _
    c.loop-package.invariant.goes c.in-Memory.ensures.driven

pub returns-then-not-is_in_work-clause-most : goal.returns-then-not-is_in_work-clause-most
returns-then-not-is_in_work-clause-most g c = c.drive_package.ensures.most ∙ c.loop-package.invariant.most

pub returns-then-not-is_in_work-clause-answered : goal.returns-then-not-is_in_work-clause-answered
returns-then-not-is_in_work-clause-answered g c =
    (driven-all g.W.World g.S.Sitting g.B.Watched.exact c.args.route.now
    (conn_at g.D.Door g.B.Watched c.args.self.now c.args.door.now c.args.backend.now)
    (conn_at g.D.Door g.B.Watched c.loop-package.self c.loop-package.door c.loop-package.backend)
    (conn_at g.D.Door g.B.Watched c.drive_package.new.self c.drive_package.new.door c.drive_package.new.backend)
    c.drive_package.result c.loop-package.invariant.goes c.loop-package.invariant.in_work c.drive_package.ensures.driven
    c.in_default.not-Memory (λ works. let wrong = sym c.if-not-is_in_work.true ∙ c.is_in_work.ensures.1 works in absurd cc)).1

pub returns-then-not-is_in_work-clause-driven : goal.returns-then-not-is_in_work-clause-driven
returns-then-not-is_in_work-clause-driven g c =
    (driven-all g.W.World g.S.Sitting g.B.Watched.exact c.args.route.now
    (conn_at g.D.Door g.B.Watched c.args.self.now c.args.door.now c.args.backend.now)
    (conn_at g.D.Door g.B.Watched c.loop-package.self c.loop-package.door c.loop-package.backend)
    (conn_at g.D.Door g.B.Watched c.drive_package.new.self c.drive_package.new.door c.drive_package.new.backend)
    c.drive_package.result c.loop-package.invariant.goes c.loop-package.invariant.in_work c.drive_package.ensures.driven
    c.in_default.not-Memory (λ works. let wrong = sym c.if-not-is_in_work.true ∙ c.is_in_work.ensures.1 works in absurd cc)).0

pub returns-then-not-is_in_work-clause-keeps : goal.returns-then-not-is_in_work-clause-keeps
returns-then-not-is_in_work-clause-keeps g c = λ fair fed written h.
    if-enough c.drive_package.result (KeepsState g.W.World c.args.route.now c.loop-package.self c.drive_package.new.self)
    c.drive_package.ensures.keeps c.in_default.not-Memory fair fed written
    (c.loop-package.invariant.keeps fair fed written h)
