use Rattle.std.proofs.Common.{◌∙◌, sym, subst, arith}
use Rattle.script.specs.Events.{AreEvents}
use Rattle.script.proofs.OrderLemmas.{events_more}
use Rattle.script.proofs.events.Events.put.Goals as goal

pub returns-clause-events : goal.returns-clause-events
returns-clause-events c = λ targets e a.
    subst (λ list. AreEvents targets list) (sym c.in_ok-push.ensures.ok)
    (events_more targets c.args.self.now.list c.args.event a e (sym c.may_follow.ensures ∙ c.if-not-may_follow.false)
    (omega (arith, c.if-len-ge-MOST_EVENTS.false, c.len.ensures)))
