use Rattle.std.proofs.Common.{refl}
use Rattle.package.specs.leg.declared.answers.Turned.TheVariants as turned
use Rattle.front_conn.proofs.EndedLemmas.{turns-on, turns-over, work-next}
use Rattle.front_conn.proofs.answering.Answering.turn.Goals as goal

pub end_work-done-requires-clause-fits : goal.end_work-done-requires-clause-fits
end_work-done-requires-clause-fits g c =
    c.package_outcome_fits.ensures c.args.route.now _ c.turn.new.self c.turn.ensures.of (c.turn.ensures.done c.in-Done.is)

pub end_work-done-requires-clause-one_work : goal.end_work-done-requires-clause-one_work
end_work-done-requires-clause-one_work g c =
    work-next _ c.args.self.now c.self.view_is c.in-Some.package c.in-Some.is c.args.route.now c.turn.new.self c.turn.ensures.law.work
    c.requires.one_work

pub returns-in-Went-clause-turns : goal.returns-in-Went-clause-turns
returns-in-Went-clause-turns g c =
    turns-on g.W.World g.S.Sitting g.B.Watched.exact c.args.route.now c.args.now _ c.args.self.now c.self.view_is c.in-Some.package
    c.in-Some.is c.turn.new.self turned.Went _ _ _ _ c.in-Went.ensures.law c.in-Went.ensures.of c.requires.one_work (refl, refl, c.requires.goes_on)

pub returns-in-NotYet-clause-turns : goal.returns-in-NotYet-clause-turns
returns-in-NotYet-clause-turns g c =
    turns-on g.W.World g.S.Sitting g.B.Watched.exact c.args.route.now c.args.now _ c.args.self.now c.self.view_is c.in-Some.package
    c.in-Some.is c.turn.new.self turned.NotYet _ _ _ _ c.in-NotYet.ensures.law c.in-NotYet.ensures.of c.requires.one_work
    (refl, refl, c.requires.goes_on)

pub returns-in-Memory-clause-turns : goal.returns-in-Memory-clause-turns
returns-in-Memory-clause-turns g c =
    turns-on g.W.World g.S.Sitting g.B.Watched.exact c.args.route.now c.args.now _ c.args.self.now c.self.view_is c.in-Some.package
    c.in-Some.is c.turn.new.self turned.Memory _ _ _ _ c.in-Memory.ensures.law c.in-Memory.ensures.of c.requires.one_work
    (c.end_step.ensures.1, refl, c.end_step.ensures.0)

pub returns-in-Done-clause-turns : goal.returns-in-Done-clause-turns
returns-in-Done-clause-turns g c =
    turns-over g.W.World g.S.Sitting g.B.Watched.exact c.args.route.now c.args.now _ c.args.self.now c.self.view_is c.in-Some.package
    c.in-Some.is c.turn.new.self turned.Done _ _ _ _ c.in-Done.ensures.law c.in-Done.ensures.of c.end_work-done.new.self
    c.end_work-done.result refl c.end_work-done.ensures.ended c.end_work-done.ensures.ready c.end_step-in-Done.ensures
