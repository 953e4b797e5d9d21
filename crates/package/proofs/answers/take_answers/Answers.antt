use Rattle.std.proofs.Common.{◌∙◌, sym, subst}
use Rattle.package.specs.steps.Packages.{AreDone}
use Rattle.package.proofs.answers.take_answers.Goals as goal

pub answers_in-requires-clause-done : goal.answers_in-requires-clause-done
answers_in-requires-clause-done g c = subst AreDone (sym (c.into_vec-done.ensures ∙ c.replace.ensures.value)) c.requires.done
