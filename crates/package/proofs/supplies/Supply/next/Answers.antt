use Rattle.std.proofs.Common.{rules, ◌≡◌, ◌∙◌, [], sym, ap, option_map, Err, None}
use Rattle.package.specs.steps.Ends.{SupplyView, given_next}
use Rattle.package.proofs.SupplyLemmas.{GivesNext, next_end}
use Rattle.package.proofs.supplies.Supply.next.Goals as goal
use Rattle.package.proofs.supplies.Supply.next.Goals.{in-Some-take, in-None-take}

pub returns-after-take-clause-next : goal.returns-after-take-clause-next
returns-after-take-clause-next c given fetch is =
    let items : c.self.inside.items.items ≡ [] = search rules in
    let s : SupplyView = record { leg = c.self.inside.leg; items = c.self.inside.items.items; end = c.self.inside.end } in
    let gives : GivesNext given fetch (option_map Err c.self.inside.end) (record { leg = s.leg; items = []; end = None }) =
    next_end s given fetch (c.self.view_is ∙ is) items in
    let says : option_map Err c.take.result ≡ given_next given fetch = ap (option_map Err) c.take.ensures.value ∙ gives.says in
    elim c.match-take.branch [
      | in-Some-take w ↦ w.result-is ∙ ap (option_map Err) (sym w.in-Some-take.is) ∙ says
      | in-None-take w ↦ w.result-is ∙ ap (option_map Err) (sym w.in-None-take.is) ∙ says
    ]
