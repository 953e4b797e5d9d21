-- For contracts alone: what is answered for a place of a result set (this project's own)
use Rattle.std.specs.Prelude.{◌≡◌, Option, None, Some, Result, Ok, Err}
use Rattle.z_types.specs.declared.diagnostic.Diag.{Diag}
use Rattle.gw_outside.specs.declared.targets.TargetAnswer.{TargetAnswer}
use Rattle.gw_outside.specs.declared.targets.TargetAnswer.TheVariants.{Good, Refused, Memory}

-- the answer is this value or diagnostic, where there is one, or no memory could be had
abbrev pub AnswersAsAny : {T : Type 0} → TargetAnswer (Option T) → Option (Result T Diag) → Type 0
AnswersAsAny (Good (Some x)) wanted = wanted ≡ Some (Ok x)
AnswersAsAny (Good None) wanted = wanted ≡ None
AnswersAsAny (Refused diag) wanted = wanted ≡ Some (Err diag)
AnswersAsAny Memory wanted = Unit {0}
