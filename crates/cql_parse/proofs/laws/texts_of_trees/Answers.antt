use Rattle.cql_parse.proofs.ParsesBack.{texts_of_trees}
use Rattle.cql_parse.proofs.laws.texts_of_trees.Goals as goal

pub returns : goal.returns
returns c = texts_of_trees
