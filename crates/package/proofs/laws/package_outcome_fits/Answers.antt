use Rattle.package_rules.proofs.FinishedFit.{finished-fits}
use Rattle.package.specs.steps.Packages.{answers_of}
use Rattle.package.proofs.OverLemmas.{is_answered}
use Rattle.package.proofs.laws.package_outcome_fits.Goals as goal

pub returns : goal.returns
returns g c route most view of over =
    finished-fits g.W.World route view.work (answers_of view.first) (answers_of view.later)
    (is_answered g.W.World g.S.Sitting route most view of over)
