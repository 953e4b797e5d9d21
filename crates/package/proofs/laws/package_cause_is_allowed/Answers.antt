use Rattle.package_rules.proofs.Allowed.{cause-allowed}
use Rattle.package.specs.steps.Packages.{answers_of}
use Rattle.package.proofs.OverLemmas.{is_answered}
use Rattle.package.proofs.laws.package_cause_is_allowed.Goals as goal

pub returns : goal.returns
returns g c route most view of over sound members =
    cause-allowed g.W.World route view.work (answers_of view.first) (answers_of view.later) sound members of.asks.there
    (is_answered g.W.World g.S.Sitting route most view of over)
