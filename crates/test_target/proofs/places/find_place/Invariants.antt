use Rattle.std.proofs.Common.{◌≡◌, drop}
use Rattle.std.specs.Prelude.{slice_get}
use Rattle.std.specs.List.{flat_map}
use Rattle.test_target.specs.Places.{places_of}
use Rattle.test_target.proofs.places.find_place.Given as goal

abbrev pub invariant-loop-name : goal.invariant-loop-name
invariant-loop-name l =
    slice_get (flat_map (places_of l.target l.found) (drop l.name-index l.name-items)) l.left
    ≡ slice_get (flat_map (places_of l.target l.found) l.name-items) l.before
