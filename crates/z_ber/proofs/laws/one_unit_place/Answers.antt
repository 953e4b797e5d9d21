use Rattle.z_ber.proofs.OnePlace.{unit_no_place, unit_one_place}
use Rattle.z_ber.proofs.laws.one_unit_place.Goals as goal

pub returns : goal.returns
returns c = record { none = unit_no_place; one = unit_one_place }
