use Rattle.z_ber.proofs.OnePlace.{elements_no_place, elements_one_place}
use Rattle.z_ber.proofs.laws.one_place.Goals as goal

pub returns : goal.returns
returns c = record { none = elements_no_place; one = elements_one_place }
