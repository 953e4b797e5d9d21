use Rattle.std.proofs.Common.{◌≡◌, ◌∙◌, ◌-◌, Bool, List, Option, ap, subst}
use Rattle.std.specs.Prelude.{IfOk, slice_get}
use Rattle.std.specs.List.{flat_map}
use Rattle.z_types.specs.declared.key.SetKey.{SetKey}
use Rattle.test_target.specs.declared.places.Location.{Location}
use Rattle.test_target.specs.Places.{places, places_of}
use Rattle.test_target.proofs.PlacesLemmas.{places_by_marks}
use Rattle.test_target.proofs.places.place_at.Goals as goal

pub returns-clause-place : goal.returns-clause-place
returns-clause-place c =
    let key : SetKey = record { dbs = c.args.names.now; query = c.args.query.now } in
    let all : flat_map (places_of c.args.target c.as_slice.result.now) c.args.names.now ≡ places c.args.target key =
    ap (λ (found : List Bool). flat_map (places_of c.args.target found) c.args.names.now) (c.as_slice.ensures.value ∙ c.in_ok-found.ensures)
    ∙ places_by_marks c.args.target key in
    let there : slice_get (flat_map (places_of c.args.target c.as_slice.result.now) c.args.names.now) c.saturating_sub.result
    ≡ slice_get (places c.args.target key) (c.args.position - 1) = λ i. slice_get (all i) (c.saturating_sub.ensures i) in
    subst (λ (wanted : Option Location). IfOk c.find_place.result (λ place. place ≡ wanted)) there c.find_place.ensures.place
