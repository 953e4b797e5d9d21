use Rattle.cql_lex.proofs.OneReading.{one_list, one_place, not_both}
use Rattle.cql_lex.proofs.HasReading.{has_reading}
use Rattle.cql_lex.proofs.laws.one_reading.Goals as goal

pub returns : goal.returns
returns c = record { reading = has_reading; list = one_list; place = one_place; apart = not_both }
