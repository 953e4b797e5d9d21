use Rattle.std.proofs.Common.{◌∙◌, ℕ, Option, ap, sym}
use Rattle.std.specs.Option.{option_or}
use Rattle.z_types.specs.declared.marks.Mark.{Mark}
use Rattle.package.specs.steps.Ends.{first_mark}
use Rattle.package.proofs.SaidLemmas.{marks-append}
use Rattle.package.proofs.finishing.mark_among.Goals as goal

pub returns-in-Some : goal.returns-in-Some
returns-in-Some g c =
    ap (λ (found : Option (Mark × ℕ)). option_or found (first_mark c.args.later.now)) c.in-Some.ensures
    ∙ sym (marks-append c.args.first.now c.args.later.now)

pub returns-in-None : goal.returns-in-None
returns-in-None g c =
    c.first_mark-in-None.ensures
    ∙ ap (λ (found : Option (Mark × ℕ)). option_or found (first_mark c.args.later.now)) c.in-None.ensures
    ∙ sym (marks-append c.args.first.now c.args.later.now)
