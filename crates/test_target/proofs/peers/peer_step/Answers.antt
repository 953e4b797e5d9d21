use Rattle.z_types.specs.Logins.{inside}
use Rattle.z_types.specs.declared.address.Address.TheVariants as At
use Rattle.test_target.specs.World.{number_inside}
use Rattle.test_target.proofs.PeerLemmas.{step_if, search_inside, record_inside, scan_inside}
use Rattle.test_target.proofs.peers.peer_step.Goals as goal

pub returns-clause-step : goal.returns-clause-step
returns-clause-step c =
    let login = c.args.peer.now.login in
    let n = c.args.peer.now.target in
    step_if _ (inside login (At.Test n)) (number_inside login n) (search_inside login n) (record_inside login n) (scan_inside login n)
    c.args.peer.now.sets.items _ c.args.request.now c.answer.result
    (rw (← c.in_ok-number.ensures) c.answer.ensures.reply) (rw (← c.in_ok-number.ensures) c.answer.ensures.sets)
