use Rattle.cql_map.proofs.LongLemmas.{long-is-too-deep}
use Rattle.cql_map.proofs.laws.long_is_too_deep.Goals as goal

pub returns : goal.returns
returns c = long-is-too-deep
