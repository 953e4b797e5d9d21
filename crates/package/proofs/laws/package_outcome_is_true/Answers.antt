use Rattle.package_rules.proofs.FinishedIs.{finished-is}
use Rattle.package.specs.steps.Packages.{answers_of}
use Rattle.package.proofs.OverLemmas.{is_answered}
use Rattle.package.proofs.laws.package_outcome_is_true.Goals as goal

pub returns : goal.returns
returns g c route most view of over fair sound hits =
    finished-is g.W.World route view.work (answers_of view.first) (answers_of view.later) fair sound of.asks.there hits
    (is_answered g.W.World g.S.Sitting route most view of over)
