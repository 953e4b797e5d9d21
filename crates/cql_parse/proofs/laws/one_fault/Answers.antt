use Rattle.cql_parse.proofs.Syntax.{apart, one_place, tree_or_fault}
use Rattle.cql_parse.proofs.laws.one_fault.Goals as goal

pub returns : goal.returns
returns c = record { either = tree_or_fault; place = one_place; apart = apart }
