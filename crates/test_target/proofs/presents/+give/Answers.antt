use Rattle.std.proofs.Common.{◌∙◌, ◌++◌, ◌∷◌, [], ℕ, ap, arith}
use Rattle.std.specs.Option.{option_copied}
use Rattle.test_target.specs.Records.{record_at}
use Rattle.test_target.proofs.PeerLemmas.{give_more}
use Rattle.test_target.proofs.presents.+give.Goals as goal

pub returns-in-Good : goal.returns-in-Good
returns-in-Good t c =
    give_more (λ (at : ℕ). record_at c.args.target c.args.key.now at c.args.present.now.syntax (option_copied c.args.element))
    c.args.position c.args.left c.in-Good.item c.args.records.now _ c.give.new.records c.give.result (omega (arith, c.if-left-eq0.false)) c.in-Good.ensures
    (c.in_ok-push-in-Good.ensures.ok ∙ ap (λ record_. c.args.records.now ++ record_ ∷ []) c.without_name.ensures) c.give.ensures
