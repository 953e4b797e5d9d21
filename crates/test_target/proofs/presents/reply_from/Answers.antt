use Rattle.std.proofs.Common.{◌≡◌, ◌∙◌, ◌+◌, ◌-◌, ◌∷◌, ◌++◌, [], ℕ, min, subst, ap, arith}
use Rattle.std.specs.Prelude.{IfOk}
use Rattle.std.specs.Option.{option_copied}
use Rattle.test_target.specs.Records.{record_at}
use Rattle.test_target.specs.Peer.{given, presented}
use Rattle.test_target.proofs.PeerLemmas.{few_given, reply_with}
use Rattle.test_target.proofs.presents.reply_from.Goals as goal

pub records_reply-requires : goal.records_reply-requires
records_reply-requires c =
    let found = λ (at : ℕ). record_at c.args.target c.args.key.now at c.args.present.now.syntax (option_copied c.args.element) in
    let one = c.in_ok-push-in-Good.ensures.ok ∙ ap (λ front. front ++ c.without_name.result ∷ []) c.new-records.ensures in
    omega (arith, c.min-left.ensures, few_given found (c.args.first + 1) (c.min-left.result - 1) c.without_name.result _ c.give.new.records one c.in_ok-give-in-Good.ensures)

pub returns-in_ok-give-in-Good : goal.returns-in_ok-give-in-Good
returns-in_ok-give-in-Good c =
    let found = λ (at : ℕ). record_at c.args.target c.args.key.now at c.args.present.now.syntax (option_copied c.args.element) in
    let one = c.in_ok-push-in-Good.ensures.ok ∙ ap (λ front. front ++ c.without_name.result ∷ []) c.new-records.ensures ∙ ap (λ first. first ∷ []) c.without_name.ensures in
    let rest = given found (c.args.first + 1) (min c.args.present.now.number 5 - 1) in
    subst (λ (hits : ℕ). IfOk c.records_reply.result (λ reply. reply ≡ presented c.args.present.now c.args.first hits (found c.args.first) rest)) c.requires.hits
    (reply_with c.args.present.now c.args.first c.args.hits c.in-Good.item found (c.args.first + 1) c.min-left.result (min c.args.present.now.number 5) (found c.args.first) _ c.give.new.records c.records_reply.result
    c.in-Good.ensures one c.in_ok-give-in-Good.ensures c.min-left.ensures c.records_reply.ensures)
