use Rattle.front_session.proofs.PresentLemmas.{named_keeps}
use Rattle.front_session.proofs.present.present_due.Goals as goal

pub fetch_due-requires-clause-each : goal.fetch_due-requires-clause-each
fetch_due-requires-clause-each c =
    named_keeps c.args.sets.now c.args.present.now.set_name c.in_ok-set.set.now c.requires.kept c.in_ok-set.ensures.1.named
