use Rattle.std.proofs.Common.{◌∙◌, subst, sym, true, slice_set}
use Rattle.script.specs.Flags.{AreEnded}
use Rattle.script.proofs.FlagLemmas.{flags_more, ended_within, room_same}
use Rattle.script.proofs.events.Events.push.Goals as goal

pub invariant_of-self-in-Some-clause-flags : goal.invariant_of-self-in-Some-clause-flags
invariant_of-self-in-Some-clause-flags c =
    let flags = c.args.self.now.ended.items in
    let place = c.in-Some.client in
    subst (λ list. AreEnded list (slice_set flags place true)) (sym c.in_ok-push.ensures.ok)
    (flags_more c.args.self.now.list c.args.event flags place (sym c.in-Some.is ∙ c.ended_by-ended.ensures)
    (ended_within c.requires.0 c.args.event place flags (sym c.in-Some.is ∙ c.ended_by-ended.ensures) c.requires.1 c.args.self.now.room) c.args.self.now.flags)

pub invariant_of-self-in-Some-clause-room : goal.invariant_of-self-in-Some-clause-room
invariant_of-self-in-Some-clause-room c = room_same c.args.self.now.ended.items c.in-Some.client c.args.self.now.room
