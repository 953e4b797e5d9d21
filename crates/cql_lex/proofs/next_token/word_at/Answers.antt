use Rattle.std.proofs.Common.{◌≡◌, ◌<◌, ◌-◌, take, drop, length, IfSome, arith}
use Rattle.std.proofs.lemmas.Grind.{common_steps}
use Rattle.cql_lex.proofs.LengthLemmas.{word_length_some}
use Rattle.cql_lex.proofs.next_token.word_at.Goals as goal

pub returns-clause-some : goal.returns-clause-some
returns-clause-some c = λ h.
    let some = word_length_some c.args.text.now c.args.at c.requires h in
    let whole : take (length c.args.text.now - c.args.at) (drop c.args.at c.args.text.now) ≡ drop c.args.at c.args.text.now = grind (arith, common_steps) in
    let found : IfSome c.word_length.result (λ len. 0 < len) = rw (c.word_length.ensures.value, whole) some in
    let long = rw c.in_ok-len.was at found in
    rw c.token.ensures (omega (arith, long))
