-- On a fair route every member of the class that a leg goes to answers for the leg
use Rattle.std.proofs.Common.{◌≡◌, ℕ, List, Option, None, Some, Contains, refl, subst, option_map, slice_get}
use Rattle.std.proofs.lemmas.List.Elements.{Contains-get_or}
use Rattle.std.proofs.lemmas.Option.{slice_get_within, get_or_from_slice_get, option_and_then_some, same_Some}
use Rattle.z_types.specs.declared.address.Address.{Address}
use Rattle.z_types.specs.declared.world.World as world
use Rattle.route_config.specs.declared.route.Class.{Class}
use Rattle.route_config.specs.declared.route.Database.{Database}
use Rattle.route_config.specs.declared.route.Route.{Route}
use Rattle.route_config.specs.declared.route.RouteLeg.{RouteLeg}
use Rattle.virt_db.specs.Legs.{LegAt, leg_at, leg_with}
use Rattle.gateway_rules.specs.Fair.{MembersAnswer}

-- what stands at a place is one of the items
at_place : {X : Type 0} (xs : List X) (i : ℕ) (x : X) → slice_get xs i ≡ Some x → Contains xs x
at_place xs i x h =
    subst (Contains xs) (get_or_from_slice_get xs i x x h) (Contains-get_or xs i x (slice_get_within xs i x h))

-- the class of a leg is one of the route's, and the leg's address one of the class's
pub record IsOfClass (classes : List Class) (leg : LegAt) : Type 0 where
  pub class : Contains classes leg.class
  pub address : Contains leg.class.addresses leg.address

addressed : (classes : List Class) (database : Database) (class : Class) (dbs : List (List ℕ)) (first : Option Address) (leg : LegAt)
    → Contains classes class → slice_get class.addresses 0 ≡ first
    → option_map (λ address. record { database = database; class = class; address = address; dbs = dbs }) first ≡ Some leg
    → IsOfClass classes leg
addressed classes database class dbs None leg there first h = absurd cc
addressed classes database class dbs (Some address) leg there first h =
    let is = same_Some _ leg h in
    let one : IsOfClass classes (record { database = database; class = class; address = address; dbs = dbs }) =
    record { class = there; address = at_place class.addresses 0 address first } in
    subst (IsOfClass classes) is one

classed : (classes : List Class) (leg : RouteLeg) (database : Option Database) (class : Option Class) (found : LegAt)
    → slice_get classes leg.class ≡ class → leg_with leg database class ≡ Some found → IsOfClass classes found
classed classes leg (Some database) (Some class) found at h =
    addressed classes database class leg.databases (slice_get class.addresses 0) found (at_place classes leg.class class at) refl h
classed classes leg (Some database) None found at h = absurd cc
classed classes leg None class found at h = absurd cc

-- a leg of the route goes to one of its classes
leg-of_class : (route : Route) (place : ℕ) (found : LegAt) → leg_at route place ≡ Some found → IsOfClass route.classes found
leg-of_class route place found h =
    option_and_then_some (λ (leg : RouteLeg). leg_with leg (slice_get route.databases leg.database) (slice_get route.classes leg.class))
    (slice_get route.legs place) found h
    (λ leg there is. classed route.classes leg (slice_get route.databases leg.database) (slice_get route.classes leg.class) found refl is)

pub members-answer : {W : Type 0} (w : world.Ghosts W) → MembersAnswer w
members-answer w route login place leg address fair found member =
    let of = leg-of_class route place leg found in
    let class = fair login leg.class of.class in
    record { told = class.told address member; means = class.same address leg.address member of.address }
