use Rattle.std.proofs.Common.{◌∙◌, ap}
use Rattle.pool_sets.specs.Counts.{DoorCounts}
use Rattle.front_conn.specs.steps.Drives.{conn_at}
use Rattle.front_conn.proofs.DrivenLemmas.{given-at, given-of}
use Rattle.front_conn.proofs.conn.Conn.drive.Goals as goal

pub returns-in-Ok-clause-driven : goal.returns-in-Ok-clause-driven
returns-in-Ok-clause-driven g c = (c.in-Ok.ensures.driven, c.in-Ok.ensures.answered)

pub returns-in-Err-clause-of : goal.returns-in-Err-clause-of
returns-in-Err-clause-of g c =
    given-of g.W.World g.S.Sitting c.args.route.now (g.D.Door.counts c.drive_on.new.door).most (g.D.Door.counts c.give_up.new.door).most
    c.drive_on.new.self c.give_up.new.self c.give_up.ensures.state c.drive_on.ensures.of

pub returns-in-Err-clause-most : goal.returns-in-Err-clause-most
returns-in-Err-clause-most g c = ap (λ (d : DoorCounts). d.most) c.give_up.ensures.counts ∙ c.drive_on.ensures.most

pub returns-in-Err-clause-driven : goal.returns-in-Err-clause-driven
returns-in-Err-clause-driven g c =
    let lacking = conn_at g.D.Door g.B.Watched c.drive_on.new.self c.drive_on.new.door c.drive_on.new.backend in (
      lacking,
      c.in-Err.ensures.driven,
      given-at lacking c.give_up.new.self
          (record { pool = g.D.Door.pool c.give_up.new.door; counts = g.D.Door.counts c.give_up.new.door })
          c.give_up.ensures.state c.give_up.ensures.pool c.give_up.ensures.counts,
    )
