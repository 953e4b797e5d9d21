use Rattle.std.proofs.Common.{◌∙◌, ap, sym}
use Rattle.std.specs.Option.{option_map}
use Rattle.package.specs.steps.Ends.{lost_seats}
use Rattle.front_conn.proofs.EndedLemmas.{given-none, given-some, legs-none, legs-some, no-seats}
use Rattle.front_conn.proofs.answering.Answering.give_up.Goals as goal

pub returns-clause-state : goal.returns-clause-state
returns-clause-state g c =
    given-some _ c.args.self.now c.self.view_is c.take.new.self c.take.ensures.after c.in-Some.package c.add_accounts.new.totals
    c.accounts.result.now (sym c.take.ensures.value ∙ c.in-Some.is) c.add_accounts.ensures c.accounts.ensures

pub returns-clause-pool : goal.returns-clause-pool
returns-clause-pool g c =
    c.give_up.ensures.pool
    ∙ ap (λ legs. option_map (lost_seats legs) (g.D.Door.pool c.args.door.now))
    (sym (legs-some _ c.args.self.now c.self.view_is c.take.new.self c.take.ensures.after c.in-Some.package (sym c.take.ensures.value ∙ c.in-Some.is)))

pub returns-in_default-clause-state : goal.returns-in_default-clause-state
returns-in_default-clause-state g c =
    given-none _ c.args.self.now c.self.view_is c.take.new.self c.take.ensures.after (sym c.take.ensures.value ∙ c.in_default.is)

pub returns-in_default-clause-pool : goal.returns-in_default-clause-pool
returns-in_default-clause-pool g c =
    no-seats (g.D.Door.pool c.args.door.now) _
    (legs-none _ c.args.self.now c.self.view_is c.take.new.self c.take.ensures.after (sym c.take.ensures.value ∙ c.in_default.is))
