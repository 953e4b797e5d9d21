-- What a target answers (this project's own)
use Rattle.std.specs.Prelude.{◌≡◌, Result, Ok, Err}
use Rattle.z_types.specs.declared.diagnostic.Diag.{Diag}
use Rattle.gw_outside.specs.declared.targets.TargetAnswer.{TargetAnswer}
use Rattle.gw_outside.specs.declared.targets.TargetAnswer.TheVariants.{Good, Refused, Memory}

-- the answer is this value or diagnostic, or no memory could be had
abbrev pub AnswersAs : {T : Type 0} → TargetAnswer T → Result T Diag → Type 0
AnswersAs (Good x) wanted = wanted ≡ Ok x
AnswersAs (Refused diag) wanted = wanted ≡ Err diag
AnswersAs Memory wanted = Unit {0}
