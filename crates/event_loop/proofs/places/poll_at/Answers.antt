use Rattle.event_front.specs.conn_served.front_conn.steps.Drives.{outside_of}
use Rattle.event_front.specs.conn_served.front_conn.steps.States.{IsConnOf}
use Rattle.event_loop.proofs.FrontLemmas.{serves-nothing}
use Rattle.event_loop.proofs.ServesLemmas.{is-some, of-some, serves-polled}
use Rattle.event_loop.proofs.places.poll_at.Goals as goal

pub poll_task-requires : goal.poll_task-requires
poll_task-requires g c = record {
  of = of-some c.args.place.now c.in-Some.task
      (λ task. IsConnOf g.W.World g.S.Sitting c.args.route.now (g.D.Door.counts c.args.door.now).most task.conn) c.in-Some.is c.requires.of;
}

pub returns-in-Some-clause-keeps : goal.returns-in-Some-clause-keeps
returns-in-Some-clause-keeps g c = λ now.
    serves-polled g.W.World g.S.Sitting g.A.In.EdgeSource g.A.Out.EdgeSink c.args.route.now g.B.Watched.exact c.steps_keep_seats.ensures
    c.connections_give_back.ensures c.args.place.now c.in-Some.task c.poll_task.new.task now
    (outside_of g.D.Door g.B.Watched c.args.door.now c.args.backend.now)
    (outside_of g.D.Door g.B.Watched c.poll_task.new.door c.poll_task.new.backend) c.in-Some.is c.poll_task.ensures.most c.poll_task.ensures.so
    c.poll_task.ensures.task

pub returns-in-Some-clause-open : goal.returns-in-Some-clause-open
returns-in-Some-clause-open g c = λ some.
    is-some c.args.place.now c.in-Some.task c.in-Some.is

pub returns-in-None-clause-keeps : goal.returns-in-None-clause-keeps
returns-in-None-clause-keeps g c = λ now.
    serves-nothing g.W.World g.S.Sitting g.A.In.EdgeSource g.A.Out.EdgeSink c.args.route.now c.args.place.now now
    (outside_of g.D.Door g.B.Watched c.args.door.now c.args.backend.now)
