use Rattle.std.proofs.Common.{◌≡◌}
use Rattle.z_types.specs.Chains.{StepsFrom}
use Rattle.front_conn.specs.steps.Drives.{GoesOnTo, IsInWork, conn_at}
use Rattle.front_conn.specs.steps.States.{IsConnOf}
use Rattle.front_conn.specs.steps.Steps.{KeepsState}
use Rattle.front_conn.proofs.conn.Conn.drive_on.Given as goal

-- the packages so far, behind which another one is in work
abbrev pub invariant-loop-package : goal.invariant-loop-package
invariant-loop-package g l = record {
  in_work : IsInWork l.self;
  of : IsConnOf g.W.World g.S.Sitting l.route (g.D.Door.counts l.door).most l.self;
  most : (g.D.Door.counts l.door).most ≡ (g.D.Door.counts l.fn.door).most;
  goes : StepsFrom (GoesOnTo g.W.World g.S.Sitting g.B.Watched.exact l.route)
      (conn_at g.D.Door g.B.Watched l.fn.self l.fn.door l.fn.backend) (conn_at g.D.Door g.B.Watched l.self l.door l.backend);
  keeps : KeepsState g.W.World l.route l.fn.self l.self;
}
