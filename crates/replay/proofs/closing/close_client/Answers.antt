use Rattle.std.proofs.Common.{◌∙◌, ap, sym, subst}
use Rattle.std.proofs.lemmas.Result.{on_ok_weaker}
use Rattle.front_conn_costs.specs.front_conn.steps.States.{IsConnOf}
use Rattle.replay.specs.Clients.{ClientState}
use Rattle.replay.proofs.ClosingLemmas.{closed_now}
use Rattle.replay.proofs.StepLemmas.{run_input}
use Rattle.replay.proofs.closing.close_client.Goals as goal

pub run-requires : goal.run-requires
run-requires g c =
    subst (λ (s : ClientState g.row.B-Session.Denot). IsConnOf g.W.World g.B.Session.Sitting c.args.route.now (g.D.Door.counts c.args.door.now).most s.conn)
    (sym c.end_input.ensures)
    (c.stays_of_route.ensures c.args.route.now (g.D.Door.counts c.args.door.now).most c.args.client.now.conn c.requires).ended

pub returns : goal.returns
returns g c =
    on_ok_weaker c.run.result
    (λ h. closed_now g.W.World g.B.Session.Sitting g.B.Watched.exact c.args.route.now c.args.now c.args.client.now c.end_input.new.self c.run.new.self _ _
    c.end_input.ensures h
    (run_input g.W.World g.B.Session.Sitting g.B.Watched.exact c.args.route.now c.args.now c.end_input.new.self c.run.new.self _ _ h
    ∙ ap (λ (s : ClientState g.row.B-Session.Denot). s.conn.has_ended) c.end_input.ensures))
    c.run.ensures.runs
