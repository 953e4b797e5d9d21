use Rattle.event_front.specs.conn_served.front_conn.steps.Drives.{conn_at}
use Rattle.event_front.proofs.PollLemmas.{so-none}
use Rattle.event_loop.proofs.ServesLemmas.{task-polled}
use Rattle.event_loop.proofs.tasks.poll_task.Goals as goal

pub returns-then-not-may_go_on-clause-task : goal.returns-then-not-may_go_on-clause-task
returns-then-not-may_go_on-clause-task g c = λ left task.
    task

pub returns-then-not-may_go_on-clause-so : goal.returns-then-not-may_go_on-clause-so
returns-then-not-may_go_on-clause-so g c =
    so-none g.W.World g.S.Sitting g.B.Watched.exact c.args.route.now c.costs_nothing.ensures
    (conn_at g.D.Door g.B.Watched c.args.task.now.conn c.args.door.now c.args.backend.now)

pub returns-in-Pending-clause-task : goal.returns-in-Pending-clause-task
returns-in-Pending-clause-task g c = λ left task.
    task-polled g.W.World g.S.Sitting g.I.EdgeSource g.K.EdgeSink c.args.route.now left (g.D.Door.counts c.args.door.now).most
    (g.D.Door.counts c.poll.new.door).most c.args.task.now c.poll.new.self c.in-Pending.ensures.goes c.in-Pending.ensures.most c.in-Pending.ensures.of
    c.in-Pending.ensures.owes c.in-Pending.ensures.so.marks task

pub returns-in-Ready-clause-task : goal.returns-in-Ready-clause-task
returns-in-Ready-clause-task g c = λ left task.
    task-polled g.W.World g.S.Sitting g.I.EdgeSource g.K.EdgeSink c.args.route.now left (g.D.Door.counts c.args.door.now).most
    (g.D.Door.counts c.poll.new.door).most c.args.task.now c.poll.new.self c.in-Ready.ensures.goes c.in-Ready.ensures.most c.in-Ready.ensures.of
    c.in-Ready.ensures.owes c.in-Ready.ensures.so.marks task

pub returns-in-Memory-clause-task : goal.returns-in-Memory-clause-task
returns-in-Memory-clause-task g c = λ left task.
    task-polled g.W.World g.S.Sitting g.I.EdgeSource g.K.EdgeSink c.args.route.now left (g.D.Door.counts c.args.door.now).most
    (g.D.Door.counts c.poll.new.door).most c.args.task.now c.poll.new.self c.in-Memory.ensures.goes c.in-Memory.ensures.most c.in-Memory.ensures.of
    c.in-Memory.ensures.owes c.in-Memory.ensures.so.marks task

pub returns-in-Ready-clause-ended : goal.returns-in-Ready-clause-ended
returns-in-Ready-clause-ended g c = λ yes.
    c.in-Ready.ensures.over (λ e. absurd cc)

pub returns-in-Memory-clause-ended : goal.returns-in-Memory-clause-ended
returns-in-Memory-clause-ended g c = λ yes.
    c.in-Memory.ensures.over (λ e. absurd cc)
