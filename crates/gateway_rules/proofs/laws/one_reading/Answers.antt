use Rattle.gateway_rules.proofs.OneReading.{reading-one}
use Rattle.gateway_rules.proofs.laws.one_reading.Goals as goal

pub returns : goal.returns
returns c = reading-one
