use Rattle.std.proofs.Common.{◌≡◌, ◌∙◌, ap, subst}
use Rattle.z_types.specs.Bib1.{bib1}
use Rattle.z_types.specs.declared.conditions.Condition.TheVariants.{TooManyRecordsRetrieved}
use Rattle.std.specs.Prelude.{IfOk}
use Rattle.z_types.specs.declared.outcome.Fetched.{Fetched}
use Rattle.package.proofs.FinishLemmas.{no_room, with_room}
use Rattle.package.proofs.finishing.shown.Goals as goal

pub returns-then-room-count : goal.returns-then-room-count
returns-then-room-count g c = no_room c.args.room c.args.count _ c.in_ok-bib1.field-0 c.if-count-eq0.false c.if-room-count.true
    (c.in_ok-bib1.ensures ∙ ap (bib1 TooManyRecordsRetrieved) c.new.ensures)

pub records_said-requires-clause-each : goal.records_said-requires-clause-each
records_said-requires-clause-each g c = c.requires.each c.if-room-count.false

pub returns : goal.returns
returns g c =
    subst (λ (f : Fetched). IfOk c.records_said.result (λ fetched. fetched ≡ f))
    (with_room c.args.room c.args.count _ c.if-count-eq0.false c.if-room-count.false) c.records_said.ensures.records
