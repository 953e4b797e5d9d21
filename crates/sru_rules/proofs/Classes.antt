-- A fetch asks only classes that its search has asked.
use Rattle.std.proofs.Common.{◌≡◌, ℕ, zero, suc, List, [], ◌∷◌, All, Contains, Option, Some, None, refl, sym, subst, arith, slice_get, option_to_list}
use Rattle.std.specs.Prelude.{flat_map}
use Rattle.std.proofs.lemmas.Grind.{flat_map-append}
use Rattle.std.proofs.lemmas.List.Elements.{All-append, All-contains, All-contains_itself, All-nil, All-weaker, Contains-append_left, Contains-append_right, Contains-get_or}
use Rattle.std.proofs.lemmas.Option.{get_or_from_slice_get, slice_get_within}
use Rattle.z_types.specs.MergedOrder.{Place, total}
use Rattle.gateway_rules.specs.Outcomes.{places_from}
use Rattle.gateway_rules.specs.Targets.{class_of}
use Rattle.sru_rules.specs.Asking.{fetched_count}
use Rattle.sru_rules.specs.Laws.{FetchAsksNoMore}

-- what one item gives is among what all give
given : {X Y : Type 0} (f : X → List Y) (xs : List X) (x : X) (y : Y) → Contains xs x → Contains (f x) y
    → Contains (flat_map f xs) y
given f [] x y (i, inside, is) gives = absurd (omega (arith, inside))
given f (first ∷ xs) x y (zero, inside, is) gives =
    Contains-append_left (f first) (flat_map f xs) y (subst (λ z. Contains (f z) y) (sym is) gives)
given f (first ∷ xs) x y (suc i, inside, is) gives =
    Contains-append_right (f first) (flat_map f xs) y (given f xs x y (i, omega (arith, inside), is) gives)

-- the item at a place is among the items
at_place : {X : Type 0} (xs : List X) (i : ℕ) (x : X) → slice_get xs i ≡ Some x → Contains xs x
at_place xs i x is =
    subst (Contains xs) (get_or_from_slice_get xs i x x is) (Contains-get_or xs i x (slice_get_within xs i x is))

-- what items at some places give is among what all give
module _ {X Y : Type 0} (f : X → List Y) (xs : List X) where
  of_one : (x : X) → Contains xs x → All (Contains (flat_map f xs)) (f x)
  of_one x is =
      All-weaker (Contains (f x)) (Contains (flat_map f xs)) (λ y here. given f xs x y is here) (f x) (All-contains_itself (f x))

  of_found : (i : ℕ) (found : Option X) → slice_get xs i ≡ found
      → All (Contains (flat_map f xs)) (flat_map f (option_to_list found))
  of_found i None is = All-nil (Contains (flat_map f xs))
  of_found i (Some x) is =
      All-append (Contains (flat_map f xs)) (f x) [] (of_one x (at_place xs i x is)) (All-nil (Contains (flat_map f xs)))

  of_places : (places : List Place)
      → All (Contains (flat_map f xs)) (flat_map f (flat_map (λ place. option_to_list (slice_get xs place.leg)) places))
  of_places [] = All-nil (Contains (flat_map f xs))
  of_places (place ∷ places) =
      let rest : List X = flat_map (λ (p : Place). option_to_list (slice_get xs p.leg)) places in
      subst (All (Contains (flat_map f xs)))
      (sym (flat_map-append f (option_to_list (slice_get xs place.leg)) rest))
      (All-append (Contains (flat_map f xs)) (flat_map f (option_to_list (slice_get xs place.leg))) (flat_map f rest)
      (of_found place.leg (slice_get xs place.leg) refl) (of_places places))

pub fetch_asks_no_more : FetchAsksNoMore
fetch_asks_no_more route retrieval hits class asked =
    All-contains (Contains (flat_map (class_of route) retrieval.legs))
    (flat_map (class_of route)
    (flat_map (λ (place : Place). option_to_list (slice_get retrieval.legs place.leg))
    (places_from hits retrieval.asked.start (fetched_count retrieval.asked (total hits)))))
    class
    (of_places (class_of route) retrieval.legs
    (places_from hits retrieval.asked.start (fetched_count retrieval.asked (total hits))))
    asked
