use Rattle.std.proofs.Common.{◌∙◌, ap}
use Rattle.gw_outside.specs.Happened.{sets_found}
use Rattle.test_wire.specs.Happened.{happening_of}
use Rattle.test_wire.proofs.WireLemmas.{takes, asked_less}
use Rattle.test_wire.proofs.links.TestLink.take.Goals as goal

pub returns-clause-peer : goal.returns-clause-peer
returns-clause-peer c =
    let happening = happening_of c.args.happenings.now.table c.args.self.now.peer.target in
    let sets = c.in_ok-find_sets.ensures.sets ∙ ap (λ h. sets_found h c.args.request.now c.args.self.now.peer.sets.items) c.of-happening.ensures in
    takes happening _ c.args.self.now.peer c.find_sets.new.peer c.peer_step.new.peer c.args.self.now.owed.items _ c.in_ok-new.field-0 _
    c.find_sets.ensures.target c.find_sets.ensures.login sets c.peer_step.ensures.target c.in_ok-reply.ensures.login c.in_ok-new.ensures.reply c.in_ok-push.ensures.items
    _ c.in_ok-reply.ensures.step

pub returns-clause-less : goal.returns-clause-less
returns-clause-less c = asked_less _ _ _ _ c.in_ok-find_sets.ensures.happened

pub returns-in_err-new-clause-less : goal.returns-in_err-new-clause-less
returns-in_err-new-clause-less c = asked_less _ _ _ _ c.in_ok-find_sets.ensures.happened

pub returns-in_err-push-clause-less : goal.returns-in_err-push-clause-less
returns-in_err-push-clause-less c = asked_less _ _ _ _ c.in_ok-find_sets.ensures.happened
