-- Each leg has its hits, and no more records are fetched than were asked for.
use Rattle.std.proofs.Common.{◌≡◌, ◌≤◌, ◌+◌, ◌-◌, ℕ, List, [], ◌∷◌, length, drop, Ok, None, Some, Result, Option, map, ◌∙◌, arith}
use Rattle.std.specs.Prelude.{filter_map}
use Rattle.std.specs.List.{cons_option}
use Rattle.std.proofs.lemmas.List.{length-take, length-map}
use Rattle.z_types.specs.declared.diagnostic.Diag.{Diag}
use Rattle.z_types.specs.MergedOrder.{Place, merged}
use Rattle.z_types.specs.declared.query.RpnQuery.{RpnQuery}
use Rattle.z_types.specs.declared.world.World as world
use Rattle.route_config.specs.declared.route.Route.{Route}
use Rattle.virt_db.specs.Legs.{leg_at}
use Rattle.gateway_rules.specs.Targets.{all_or_first, hits_at, hits_of}
use Rattle.gateway_rules.specs.Outcomes.{places_from}
use Rattle.package_rules.proofs.AllOrFirst.{length-all_or_first}

kept : {Y : Type 0} (answer : Option Y) (ys : List Y) (n : ℕ) → length ys ≤ n → length (cons_option answer ys) ≤ n + 1
kept None ys n h = omega arith
kept (Some y) ys n h = omega arith

length-filter_map : {X Y : Type 0} (f : X → Option Y) (xs : List X) → length (filter_map f xs) ≤ length xs
length-filter_map f [] = omega arith
length-filter_map f (x ∷ xs) = omega (arith, kept (f x) (filter_map f xs) (length xs) (length-filter_map f xs))

-- `count` places give at most `count` records
pub length-records : {A : Type 0} (f : Place → Option (Result A Diag)) (hits : List ℕ) (first count : ℕ) (records : List A)
    → all_or_first (filter_map f (places_from hits first count)) ≡ Ok records → length records ≤ count
length-records f hits first count records e =
    omega (
      arith,
      length-all_or_first (filter_map f (places_from hits first count)) records e,
      length-filter_map f (places_from hits first count),
      length-take count (drop (first - 1) (merged hits)),
    )

-- each leg has its hits
pub length-hits : {W : Type 0} (w : world.Ghosts W) (route : Route) (legs : List ℕ) (query : RpnQuery) (hits : List ℕ)
    → hits_of w route legs query ≡ Ok hits → length hits ≡ length legs
length-hits w route legs query hits e =
    let f = λ (leg : ℕ). hits_at w query (leg_at route leg) in
    length-all_or_first (map f legs) hits e ∙ length-map legs f
