use Rattle.std.proofs.Common.{◌≡◌}
use Rattle.z_types.specs.Chains.{StepsFrom}
use Rattle.conn_served.specs.front_conn_costs.steps.Conns.{PaysFor}
use Rattle.conn_served.specs.front_conn_costs.steps.Laws.{MeetsEnough}
use Rattle.conn_served.specs.Serving.{streams}
use Rattle.conn_served.specs.Costs.{AreMarksOf}
use Rattle.conn_served.specs.Runs.{GoesOnTo}
use Rattle.conn_served.specs.steps.Rounds.{IsBetween}
use Rattle.conn_served.specs.steps.Serving.{IsWrittenOut}
use Rattle.conn_served.specs.front_conn.steps.Drives.{conn_at, outside_of}
use Rattle.conn_served.specs.front_conn.steps.States.{IsConnOf}
use Rattle.serve.proofs.serving.serve_to_end.Given as goal

abbrev pub invariant-loop-round : goal.invariant-loop-round
invariant-loop-round g l = record {
  at : IsWrittenOut g.W.World l.route (streams g.I.Source g.K.Sink l.fn.source l.fn.sink) (streams g.I.Source g.K.Sink l.source l.sink) l.conn;
  of : IsConnOf g.W.World g.S.Sitting l.route (g.D.Door.counts l.door).most l.conn;
  goes : StepsFrom (GoesOnTo g.W.World g.S.Sitting g.B.Watched.exact l.route)
      (conn_at g.D.Door g.B.Watched l.fn.conn l.fn.door l.fn.backend) (conn_at g.D.Door g.B.Watched l.conn l.door l.backend);
  met : MeetsEnough l.route.pool l.fn.conn l.conn
      (outside_of g.D.Door g.B.Watched l.fn.door l.fn.backend) (outside_of g.D.Door g.B.Watched l.door l.backend);
  paid : PaysFor l.fn.conn l.conn
      (outside_of g.D.Door g.B.Watched l.fn.door l.fn.backend) (outside_of g.D.Door g.B.Watched l.door l.backend);
  marks : AreMarksOf l.route.pool (g.D.Door.counts l.fn.door).most l.conn.marks;
  between : IsBetween l.conn;
  most : (g.D.Door.counts l.door).most ≡ (g.D.Door.counts l.fn.door).most;
}
