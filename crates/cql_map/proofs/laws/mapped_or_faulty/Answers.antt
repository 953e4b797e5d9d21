use Rattle.cql_map.proofs.MappedOrFaulty.{mapped-or-faulty}
use Rattle.cql_map.proofs.laws.mapped_or_faulty.Goals as goal

pub returns : goal.returns
returns c = mapped-or-faulty
