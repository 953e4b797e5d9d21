-- What a leg that is not marked answered is the world's at an address that means what the leg means
use Rattle.std.proofs.Common.{◌≡◌, ◌<◌, ◌≤◌, ◌⊎◌, ◌∙◌, ℕ, List, [], length, Contains, get_or, Option, None, Some, ap, refl, subst, arith, inl, inr, slice_get, option_map, option_and_then}
use Rattle.std.specs.Option.{option_map_or}
use Rattle.std.proofs.lemmas.List.Elements.{All-get_or, Contains-get_or}
use Rattle.std.proofs.lemmas.Option.{get_or_from_slice_get, slice_get_cases, slice_get_within}
use Rattle.z_types.specs.declared.address.Address.{Address}
use Rattle.z_types.specs.declared.world.World as world
use Rattle.z_types.specs.Logins.{inside}
use Rattle.z_types.specs.Under.{under}
use Rattle.route_config.specs.Sound.{IsSound}
use Rattle.route_config.specs.declared.route.Class.{Class}
use Rattle.route_config.specs.declared.route.Database.{Database}
use Rattle.route_config.specs.declared.route.Route.{Route}
use Rattle.route_config.specs.declared.route.RouteLeg.{RouteLeg}
use Rattle.virt_db.specs.Legs.{LegAt, leg_at, leg_with}
use Rattle.gateway_rules.specs.Fair.{IsFair, MeansAs}
use Rattle.leg.specs.Right.{IsRight, IsWorldsAt}
use Rattle.leg.specs.Terms.{Terms, class_of, databases_of, members_of, sites, terms_of}
use Rattle.leg.specs.declared.answers.LegAnswer.{LegAnswer}
use Rattle.leg.specs.declared.answers.LegAnswer.TheVariants as answer
use Rattle.leg.specs.declared.tasks.Task.{Task}
use Rattle.leg.proofs.Sites.{IsInside, inside_of}
use Rattle.package_rules.proofs.Unmarked.{IsUnmarked}

-- ---- items that are there

pub record IsThere {X : Type 0} (xs : List X) (i : ℕ) : Type 0 where
  pub item : X
  pub is : slice_get xs i ≡ Some item

there_by : {X : Type 0} (xs : List X) (i : ℕ) → i < length xs
    → ((x : X) × (i < length xs) × (slice_get xs i ≡ Some x) × (get_or xs i x ≡ x)) ⊎ ((length xs ≤ i) × (slice_get xs i ≡ None))
    → IsThere xs i
there_by xs i inside (inl h) = record { item = h.0; is = h.2 }
there_by xs i inside (inr h) = absurd (omega (arith, inside, h.0))

pub item_there : {X : Type 0} (xs : List X) (i : ℕ) → i < length xs → IsThere xs i
item_there xs i inside = there_by xs i inside (slice_get_cases xs i).1

contained : {X : Type 0} (xs : List X) (i : ℕ) (x : X) → slice_get xs i ≡ Some x → Contains xs x
contained xs i x is =
    subst (Contains xs) (get_or_from_slice_get xs i x x is) (Contains-get_or xs i x (slice_get_within xs i x is))

-- ---- the leg of an answer

-- a class with a member
record HasMember (classes : List Class) (place : ℕ) (address : Address) : Type 0 where
  pub class : Class
  pub is : slice_get classes place ≡ Some class
  pub member : Contains class.addresses address

member_by : (classes : List Class) (place : ℕ) (address : Address) (found : Option Class) → slice_get classes place ≡ found
    → Contains (option_map_or (λ (c : Class). c.addresses) found []) address → HasMember classes place address
member_by classes place address None is member = absurd (omega (arith, member.1))
member_by classes place address (Some class) is member = record { class = class; is = is; member = member }

pub leg_is : (route : Route) (place : ℕ) (leg : RouteLeg) (database : Database) (class : Class) (first : Address)
    → slice_get route.legs place ≡ Some leg → slice_get route.databases leg.database ≡ Some database
    → slice_get route.classes leg.class ≡ Some class → slice_get class.addresses 0 ≡ Some first
    → leg_at route place ≡ Some (record { database = database; class = class; address = first; dbs = leg.databases })
leg_is route place leg database class first legs databases classes addresses =
    ap (option_and_then (λ (l : RouteLeg). leg_with l (slice_get route.databases l.database) (slice_get route.classes l.class))) legs
    ∙ ap (λ (d : Option Database). leg_with leg d (slice_get route.classes leg.class)) databases
    ∙ ap (λ (c : Option Class). leg_with leg (Some database) c) classes
    ∙ ap (option_map (λ (address : Address). record {
      database = database;
      class = class;
      address = address;
      dbs = leg.databases;
    })) addresses

-- a leg that is there, with a member of its class, which is one of the route's; its own address is a member too
record HasLeg (route : Route) (place : ℕ) (address : Address) : Type 0 where
  pub at : LegAt
  pub there : leg_at route place ≡ Some at
  pub dbs : databases_of route place ≡ at.dbs
  pub class : Contains route.classes at.class
  pub own : Contains at.class.addresses at.address
  pub member : Contains at.class.addresses address

has_leg : (route : Route) (place : ℕ) (address : Address) → IsSound route → place < length route.legs
    → Contains (members_of route (class_of route place)) address → HasLeg route place address
has_leg route place address sound inside member =
    let leg : IsThere route.legs place = item_there route.legs place inside in
    let below : leg.item.database < length route.databases =
    subst (λ (l : RouteLeg). l.database < length route.databases) (get_or_from_slice_get route.legs place leg.item leg.item leg.is)
    (All-get_or (λ (l : RouteLeg). l.database < length route.databases) route.legs place leg.item inside sound.places.databases) in
    let database : IsThere route.databases leg.item.database = item_there route.databases leg.item.database below in
    let goes : class_of route place ≡ leg.item.class = ap (λ (l : Option RouteLeg). option_map_or (λ (x : RouteLeg). x.class) l 0) leg.is in
    let of : Contains (members_of route leg.item.class) address =
    subst (λ (c : ℕ). Contains (members_of route c) address) goes member in
    let class : HasMember route.classes leg.item.class address =
    member_by route.classes leg.item.class address (slice_get route.classes leg.item.class) refl of in
    let first : IsThere class.class.addresses 0 = item_there class.class.addresses 0 (omega (arith, class.member.1)) in
    record {
      at = record { database = database.item; class = class.class; address = first.item; dbs = leg.item.databases };
      there = leg_is route place leg.item database.item class.class first.item leg.is database.is class.is first.is;
      dbs = ap (λ (l : Option RouteLeg). option_map_or (λ (x : RouteLeg). x.databases) l []) leg.is;
      class = contained route.classes leg.item.class class.class class.is;
      own = contained class.class.addresses 0 first.item first.is;
      member = class.member;
    }

-- ---- the answer of a leg

module _ {W : Type 0} (w : world.Ghosts W) (login : Option (List ℕ)) where
  -- where the leg of an answer is, and what is said of the answer there, inside the login
  pub record IsTold (route : Route) (place : ℕ) (task : Task) (said : LegAnswer) : Type 0 where
    pub at : LegAt
    pub there : leg_at route place ≡ Some at
    pub dbs : databases_of route place ≡ at.dbs
    pub address : Address
    pub means : MeansAs (under login w) address at.address
    pub right : IsWorldsAt w (databases_of route place) task (inside login address) said

  told_by : (route : Route) (place : ℕ) (task : Task) (said : LegAnswer) (address : Address) → IsFair w route
      → HasLeg route place address
      → (w.told (inside login address) → IsWorldsAt w (databases_of route place) task (inside login address) said)
      → IsTold route place task said
  told_by route place task said address fair leg right =
      let class = fair login leg.at.class leg.class in
      record {
        at = leg.at;
        there = leg.there;
        dbs = leg.dbs;
        address = address;
        means = class.same address leg.at.address leg.member leg.own;
        right = right (class.told address leg.member);
      }

  -- an answer without a mark is some target's
  by_target : (terms : Terms) (task : Task) (said : LegAnswer) → IsUnmarked said → IsRight w terms task said
      → (address : Address) × Contains (sites terms) address × (w.told address → IsWorldsAt w terms.dbs task address said)
  by_target terms task (answer.Marked m) unmarked right = absurd unmarked
  by_target terms task (answer.Hits hits) unmarked right = right
  by_target terms task (answer.Refused diag) unmarked right = right
  by_target terms task (answer.Items items) unmarked right = right
  by_target terms task (answer.Broken items diag) unmarked right = right
  by_target terms task (answer.Scanned entries) unmarked right = right

  -- so on a fair route it is what the leg means
  pub told_at : (route : Route) (place : ℕ) (task : Task) (said : LegAnswer) → IsFair w route → IsSound route
      → place < length route.legs → IsUnmarked said → IsRight w (terms_of route login place) task said → IsTold route place task said
  told_at route place task said fair sound there unmarked right =
      let one = by_target (terms_of route login place) task said unmarked right in
      let of : IsInside login (members_of route (class_of route place)) one.0 =
      inside_of login (members_of route (class_of route place)) one.0 one.1 in
      told_by route place task said of.own fair (has_leg route place of.own sound there of.member)
      (subst (λ (a : Address). w.told a → IsWorldsAt w (databases_of route place) task a said) of.is one.2)
