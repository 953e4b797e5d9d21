use Rattle.std.proofs.Common.{◌≡◌, ℕ, List, sym, subst, rules}
use Rattle.cql_parse.specs.Tree.{depth}
use Rattle.cql_parse.specs.Written.{written}
use Rattle.cql_parse.specs.Again.{IsTextOf, IsNestedWithin}
use Rattle.cql_parse.proofs.ParsesBack.{written_again, written_shallow}
use Rattle.cql_parse.proofs.writer.write.Goals as goal

pub returns-clause-again : goal.returns-clause-again
returns-clause-again c = λ proper.
    let e : c.query_to.new.out ≡ written c.args.query.now = search rules in
    subst (λ (s : List ℕ). IsTextOf s c.args.query.now) (sym e) (written_again c.args.query.now proper)

pub returns-clause-shallow : goal.returns-clause-shallow
returns-clause-shallow c = λ proper.
    let e : c.query_to.new.out ≡ written c.args.query.now = search rules in
    subst (λ (s : List ℕ). IsNestedWithin s (depth c.args.query.now)) (sym e) (written_shallow c.args.query.now proper)
