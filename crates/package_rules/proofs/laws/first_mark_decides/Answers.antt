use Rattle.std.proofs.Common.{Option, ap}
use Rattle.z_types.specs.declared.marks.Mark.{Mark}
use Rattle.package_rules.specs.Said.{cause_of, cause_or}
use Rattle.package_rules.proofs.laws.first_mark_decides.Goals as goal

pub returns-clause-marked : goal.returns-clause-marked
returns-clause-marked c = λ route first others mark is.
    ap (λ (m : Option Mark). cause_or route first.leg m (cause_of route others)) is

pub returns-clause-others : goal.returns-clause-others
returns-clause-others c = λ route first others is.
    ap (λ (m : Option Mark). cause_or route first.leg m (cause_of route others)) is
