use Rattle.std.proofs.Common.{Option, IfSome, subst, sym}
use Rattle.event_loop.specs.declared.fronted.Fronted.{Fronted}
use Rattle.event_loop.specs.steps.Places.{EndsSo}
use Rattle.event_loop.proofs.FrontLemmas.{ends-by}
use Rattle.event_loop.proofs.rounds.end_of.Goals as goal

pub returns-then-none_is_open : goal.returns-then-none_is_open
returns-then-none_is_open g c = λ from then polls polled left h.
    subst (λ (r : Option Fronted). IfSome r (λ how. EndsSo how c.args.places.now from then polls polled left)) (sym c.end_by.ensures)
    (ends-by c.args.coming c.args.places.now (c.none_is_open.ensures c.if-none_is_open.true) from then polls polled left h)
