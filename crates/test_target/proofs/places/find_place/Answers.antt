use Rattle.std.proofs.Common.{◌≡◌, ◌∙◌, ◌+◌, ◌-◌, ◌≤◌, ◌<◌, ℕ, List, None, Some, length, drop, ap, sym, arith}
use Rattle.std.specs.Prelude.{slice_get}
use Rattle.std.specs.List.{flat_map}
use Rattle.std.proofs.Math.ListN.{drop_of_length-le}
use Rattle.std.proofs.lemmas.List.{get_or_read}
use Rattle.test_target.specs.Places.{places_of}
use Rattle.test_target.proofs.PlacesLemmas.{place_in, place_here, place_behind}
use Rattle.test_target.proofs.places.find_place.Goals as goal

pub returns-then-left-len-clause-place : goal.returns-then-left-len-clause-place
returns-then-left-len-clause-place c =
    let f = places_of c.args.target c.args.found.now in
    let items : List (List ℕ) = c.as_slice-name-items.result.now in
    let numbers : List ℕ = c.in_ok-numbers.numbers.items in
    let number : ℕ = c.index-number.result.now in
    let within : c.loop-name.left ≤ length numbers - 1 = omega (arith, c.if-left-len.true, c.len.ensures, c.in_ok-numbers.numbers.ok.0) in
    let some : 0 < length numbers = omega (arith, c.if-left-len.true, c.len.ensures, c.in_ok-numbers.numbers.ok.0) in
    let here : slice_get (flat_map f (drop c.loop-name.name-index items)) c.loop-name.left ≡ Some (place_in c.name-item.result number) =
    place_here f items c.loop-name.name-index c.loop-name.left c.name-item.result number numbers c.loop-name-test.true
    (sym c.name-item.is) c.in_ok-numbers.ensures.numbers (omega (arith, within, some))
    (sym (get_or_read numbers c.loop-name.left number (omega (arith, within, some)) c.index-number.ensures 0)) in
    ap (λ (name : List ℕ). Some (place_in name number)) c.in_ok-copy.ensures ∙ sym here ∙ c.loop-name.invariant
    ∙ ap (λ (names : List (List ℕ)). slice_get (flat_map f names) c.args.before) c.as_slice-name-items.ensures

pub loop-name-preserved : goal.loop-name-preserved
loop-name-preserved c =
    let f = places_of c.args.target c.args.found.now in
    let numbers : List ℕ = c.in_ok-numbers.numbers.items in
    let is : c.loop-name.left ≡ length numbers + (c.loop-name.left - c.len-in-loop-name.result) =
    omega (arith, c.if-left-len.false, c.len.ensures, c.len-in-loop-name.ensures, c.in_ok-numbers.numbers.ok.0) in
    sym (place_behind f c.as_slice-name-items.result.now c.loop-name.name-index c.loop-name.left _ c.name-item.result numbers
    c.loop-name-test.true (sym c.name-item.is) c.in_ok-numbers.ensures.numbers is) ∙ c.loop-name.invariant

pub returns-clause-place : goal.returns-clause-place
returns-clause-place c =
    let f = places_of c.args.target c.args.found.now in
    let items : List (List ℕ) = c.as_slice-name-items.result.now in
    let none : slice_get (flat_map f (drop c.loop-name.name-index items)) c.loop-name.left ≡ None =
    ap (λ (names : List (List ℕ)). slice_get (flat_map f names) c.loop-name.left) (drop_of_length-le items c.loop-name-test.false) in
    sym none ∙ c.loop-name.invariant
    ∙ ap (λ (names : List (List ℕ)). slice_get (flat_map f names) c.args.before) c.as_slice-name-items.ensures
