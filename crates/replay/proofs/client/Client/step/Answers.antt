use Rattle.std.proofs.Common.{◌++◌, ◌∙◌, ℕ, List, ap, subst, sym}
use Rattle.front_conn_costs.specs.front_conn.steps.States.{ConnectionState, IsConnOf}
use Rattle.replay.specs.Clients.{ClientState}
use Rattle.replay.specs.Trace.{IsClientStep, outside_of}
use Rattle.replay.proofs.StepLemmas.{known}
use Rattle.replay.proofs.client.Client.step.Goals as goal

pub returns-clause-of : goal.returns-clause-of
returns-clause-of g c =
    subst (λ (s : ConnectionState g.row.S.Denot). IsConnOf g.W.World g.S.Sitting c.args.route.now (g.D.Door.counts c.step-stepped.new.door).most s)
    (sym c.clear_out.ensures)
    (c.stays_of_route.ensures c.args.route.now (g.D.Door.counts c.step-stepped.new.door).most c.step-stepped.new.self c.step-stepped.ensures.of).written

pub returns-clause-steps : goal.returns-clause-steps
returns-clause-steps g c =
    let new : ClientState g.row.S.Denot = record { conn = c.clear_out.new.self; written = c.append.new.self } in
    let before = outside_of g.D.Door g.B.Watched c.args.door.now c.args.backend.now in
    let behind = outside_of g.D.Door g.B.Watched c.step-stepped.new.door c.step-stepped.new.backend in
    subst (λ (s : ClientState g.row.S.Denot). IsClientStep g.W.World g.S.Sitting g.B.Watched.exact c.args.route.now c.args.now c.is_idle.result s new before behind)
    c.self.view_is
    (record {
      answer = c.step-stepped.result;
      remembers = c.in_default.not-Memory;
      is_idle = c.is_idle.ensures;
      stepped_to = c.step-stepped.new.self;
      steps = c.step-stepped.ensures.stepped;
      keeps = known c.step-stepped.result c.in_default.not-Memory c.step-stepped.ensures.keeps;
      of = c.step-stepped.ensures.of;
      most = c.step-stepped.ensures.most;
      conn = c.clear_out.ensures;
      written = c.in_ok-append.ensures.ok ∙ ap (λ (os : List ℕ). c.self.inside.written ++ os) c.out.ensures;
    })
