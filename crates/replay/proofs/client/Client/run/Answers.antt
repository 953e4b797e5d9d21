use Rattle.std.proofs.Common.{◌∙◌, Bool, [], ◌∷◌, refl, subst}
use Rattle.replay.specs.Trace.{IsClientStep, outside_of}
use Rattle.replay.proofs.client.Client.run.Goals as goal

pub loop-init : goal.loop-init
loop-init g c = record { most = refl; of = c.requires; earlier = []; steps = refl }

pub loop-preserved : goal.loop-preserved
loop-preserved g c = record {
  most = c.step.ensures.most ∙ c.loop.invariant.most;
  of = c.in_ok-step.ensures.of;
  earlier = record { client = c.loop.self; outside = outside_of g.D.Door g.B.Watched c.loop.door c.loop.backend } ∷ c.loop.invariant.earlier;
  steps = (
    c.loop.invariant.steps,
    subst (λ (b : Bool). IsClientStep g.W.World g.S.Sitting g.B.Watched.exact c.args.route.now c.args.now b c.loop.self c.step.new.self
        (outside_of g.D.Door g.B.Watched c.loop.door c.loop.backend) (outside_of g.D.Door g.B.Watched c.step.new.door c.step.new.backend))
        c.if-branch.false c.in_ok-step.ensures.steps,
  );
}

pub returns-then-branch-clause-runs : goal.returns-then-branch-clause-runs
returns-then-branch-clause-runs g c = record {
  earlier = c.loop.invariant.earlier;
  last = record { client = c.loop.self; outside = outside_of g.D.Door g.B.Watched c.loop.door c.loop.backend };
  steps = c.loop.invariant.steps;
  rests = subst (λ (b : Bool). IsClientStep g.W.World g.S.Sitting g.B.Watched.exact c.args.route.now c.args.now b c.loop.self c.step.new.self
      (outside_of g.D.Door g.B.Watched c.loop.door c.loop.backend) (outside_of g.D.Door g.B.Watched c.step.new.door c.step.new.backend))
      c.if-branch.true c.in_ok-step.ensures.steps;
}
