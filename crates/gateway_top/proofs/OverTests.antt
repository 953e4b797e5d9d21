-- a configuration's route, all of whose targets are test targets, is told by each world that tells these; so is all that a replay of it over
-- a new wire prints
use Rattle.std.proofs.Common.{◌≡◌, ℕ, Bool, true, false, cond, not, find, Contains, List, [], ◌∷◌, map, Option, Some, None, Result, Ok, Err, IfSome, option_map, unwrap_or, refl, subst}
use Rattle.std.specs.List.{AllByRecursion}
use Rattle.std.proofs.lemmas.List.Elements.{All-contains, All-from_recursion}
use Rattle.toml.specs.Data.{Data}
use Rattle.z_types.specs.Same.{is_same}
use Rattle.z_types.specs.Under.{under}
use Rattle.z_types.specs.declared.address.Address.{Address}
use Rattle.z_types.specs.declared.address.Address.TheVariants.{Test, Tcp, Login}
use Rattle.z_types.specs.declared.world.World as world
use Rattle.gw_outside.specs.Counts.{Counts, no_counts}
use Rattle.route_config.specs.declared.route.Class.{Class}
use Rattle.route_config.specs.declared.route.Route.{Route}
use Rattle.route_config.specs.declared.route.Target.{Target}
use Rattle.route_text.specs.Configuration.{first_fault, route_or_refusal, tree_of, value_or}
use Rattle.route_text.specs.RouteOf.{address_of, class_names, class_of, members_of, route_of}
use Rattle.route_text.specs.Values.{values_in}
use Rattle.route_text.specs.declared.fault.RouteFault.{RouteFault}
use Rattle.route_text.specs.declared.fault.RouteFault.TheVariants.{Toml}
use Rattle.route_text.specs.declared.values.Values.{Values}
use Rattle.replay_shares.specs.gateway_rules.Fair.{IsFair}
use Rattle.script.specs.declared.event.Event.{Event}
use Rattle.replay_shares.specs.replay.Wires.{AreTold, AreWireSums, HaveWireCauses, IsFullCaused}
use Rattle.replay_top.specs.Outside.{WireCalls}
use Rattle.gateway_config.specs.Configs.{IsConfigurationOf}
use Rattle.gateway_config.specs.Outside.{FileReads, SinkWrites}
use Rattle.gateway_config.specs.declared.status.Status.{Status}
use Rattle.gateway_config.specs.declared.status.Status.TheVariants as status
use Rattle.gateway_top.specs.Itself.{IsProgramDone}
use Rattle.gateway_top.specs.Outcome.{EventsPlayed, HasPrinted, IsPlayable, RoutePlayed, TakenAndPlayed}
use Rattle.gateway_top.specs.OverTests.{IsNewWire, IsReplayOverTests, IsReplayedOverTests, MembersAreAlike, TellsTests}
use Rattle.gateway_top.specs.Targets.{first_real, is_test}

-- ---- the route of a configuration

ok-same : {A : Type 0} (one other : A) → ◌≡◌ {A = Result A RouteFault} (Ok one) (Ok other) → one ≡ other
ok-same one other e = cc

value-is : {A : Type 0} (fault : Option RouteFault) (one other : A) → value_or fault one ≡ Ok other → one ≡ other
value-is None one other e = ok-same one other e
value-is {A = A} (Some fault) one other e = let f : ◌≡◌ {A = Result A RouteFault} (Err fault) (Ok other) = e in absurd cc

-- it is that of some values
of-values : (tree : Option Data) (route : Route) → route_or_refusal tree ≡ Ok route → (values : Values) × (route_of values ≡ route)
of-values None route e = let f : ◌≡◌ {A = Result Route RouteFault} (Err Toml) (Ok route) = e in absurd cc
of-values (Some tree) route e = (values_in tree, value-is (first_fault tree) (route_of (values_in tree)) route e)

module _ {W : Type 0} (w : world.Ghosts W) (tells : (number : ℕ) → w.told (Test number)) where
  -- each target of a route is told, by itself
  abbrev AreToldSo : Route → Type 0
  AreToldSo route = (class : Class) → Contains route.classes class → (address : Address) → Contains class.addresses address → w.told address

  abbrev IsToldTarget : Target → Type 0
  IsToldTarget target = w.told target.address

  -- a target that is a test target is told, and the others are looked at
  first-told : (address : Address) (target : Target) (others : Option Target)
      → option_map (λ (t : Target). t.name) (cond (not (is_test address)) (Some target) others) ≡ None
      → w.told address × (option_map (λ (t : Target). t.name) others ≡ None)
  first-told (Test number) target others e = (tells number, e)
  first-told (Tcp host port) target others e = let f : ◌≡◌ {A = Option (List ℕ)} (Some target.name) None = e in absurd cc
  first-told (Login at login) target others e = let f : ◌≡◌ {A = Option (List ℕ)} (Some target.name) None = e in absurd cc

  all-told : (targets : List Target)
      → option_map (λ (t : Target). t.name) (find (λ (t : Target). not (is_test t.address)) targets) ≡ None
      → AllByRecursion IsToldTarget targets
  all-told [] e = tt
  all-told (target ∷ targets) e =
      let one = first-told target.address target (find (λ (t : Target). not (is_test t.address)) targets) e in
      (one.0, all-told targets one.1)

  -- so is the address that a name has
  either-told : (b : Bool) (target : Target) (others : Option Target) → w.told target.address
      → w.told (unwrap_or (option_map (λ (t : Target). t.address) others) (Test 0))
      → w.told (unwrap_or (option_map (λ (t : Target). t.address) (cond b (Some target) others)) (Test 0))
  either-told true target others h k = h
  either-told false target others h k = k

  address-told : (name : List ℕ) (targets : List Target) → AllByRecursion IsToldTarget targets → w.told (address_of targets name)
  address-told name [] all = tells 0
  address-told name (target ∷ targets) all =
      either-told (is_same name target.name) target (find (λ (t : Target). is_same name t.name) targets) all.0
      (address-told name targets all.1)

  addresses-told : (names : List (List ℕ)) (targets : List Target) → AllByRecursion IsToldTarget targets
      → AllByRecursion w.told (map (address_of targets) names)
  addresses-told [] targets all = tt
  addresses-told (name ∷ names) targets all = (address-told name targets all, addresses-told names targets all)

  -- and each address of a class
  abbrev IsToldClass : Class → Type 0
  IsToldClass class = AllByRecursion w.told class.addresses

  classes-told : (names : List (List ℕ)) (values : Values) → AllByRecursion IsToldTarget values.targets
      → AllByRecursion IsToldClass (map (class_of values) names)
  classes-told [] values all = tt
  classes-told (name ∷ names) values all =
      (addresses-told (members_of values.groups name) values.targets all, classes-told names values all)

  values-told : (values : Values) → first_real (route_of values) ≡ None → AllByRecursion IsToldClass (route_of values).classes
  unfolding route_of
  values-told values e = classes-told (class_names values) values (all-told values.targets e)

  told-by : (route : Route) → AllByRecursion IsToldClass route.classes → AreToldSo route
  told-by route all class is address at =
      All-contains w.told class.addresses address
      (All-from_recursion w.told class.addresses
      (All-contains IsToldClass route.classes class (All-from_recursion IsToldClass route.classes all) is)) at

  told-as : (values : Values) (route : Route) → route_of values ≡ route → first_real route ≡ None → AreToldSo route
  told-as values route e =
      subst (λ (r : Route). first_real r ≡ None → AreToldSo r) e (λ none. told-by (route_of values) (values-told values none))

  configured-so : (route : Route) (text : List ℕ) → IsConfigurationOf route text → first_real route ≡ None → AreToldSo route
  configured-so route text configured none =
      let found = of-values (tree_of text) route configured.1 in told-as found.0 route found.1 none

-- a configuration's route is told, as inside every login its targets are
pub configured-told : {W : Type 0} (w : world.Ghosts W) → TellsTests w → (route : Route) (text : List ℕ) → IsConfigurationOf route text → first_real route ≡ None
    → AreTold w route
configured-told w tells route text configured none login = configured-so (under login w) (tells login) route text configured none

-- ---- a replay

fair-by : {W : Type 0} (w : world.Ghosts W) (route : Route) → AreTold w route → MembersAreAlike w route → IsFair w route
fair-by w route told alike login class is = record { told = told login class is; same = alike login class is }

module _ {W S : Type 0} (w : world.Ghosts W) (calls : WireCalls W S) where
  -- at Ok no target is another, and the script was played
  none-real : (real : Option (List ℕ)) (route : Route) (script : List ℕ) (reads : FileReads) (writes : SinkWrites)
      → RoutePlayed w calls real route script reads writes status.Ok → real ≡ None
  none-real (Some name) route script reads writes h = (let e = h.0 in absurd cc)
  none-real None route script reads writes h = refl

  script-played : (real : Option (List ℕ)) (route : Route) (script : List ℕ) (reads : FileReads) (writes : SinkWrites)
      → RoutePlayed w calls real route script reads writes status.Ok → EventsPlayed w calls route (reads.contents script) writes status.Ok
  script-played (Some name) route script reads writes h = (let e = h.0 in absurd cc)
  script-played None route script reads writes h = h

  -- what was printed, of a route that is told
  of-told : (config script : List ℕ) (writes : SinkWrites) (route : Route) (events : List Event) → IsNewWire calls
      → IsConfigurationOf route config → IsPlayable route events script → AreTold w route → HasPrinted w calls route events writes
      → IsReplayOverTests w config script writes
  of-told config script writes route events new configured scripted told has =
      let counted = has.played.counted in
      let none = counted.told told in
      record {
        route = route;
        configured = configured;
        events = events;
        scripted = scripted;
        report = has.report;
        printed = has.printed;
        clients = has.played.right.clients;
        each = λ alike. has.played.right.each (fair-by w route told alike);
        behind = calls.behind;
        sums = subst (λ (c : Counts). AreWireSums has.report 0 c calls.behind) new.uncounted
            (subst (λ (n : ℕ). AreWireSums has.report n calls.before calls.behind) none (counted.sums new.exact));
        causes = subst (λ (b : Bool). HaveWireCauses b route.pool has.report 0 no_counts calls.behind) new.exact
            (subst (λ (c : Counts). HaveWireCauses calls.exact route.pool has.report 0 c calls.behind) new.uncounted
            (subst (λ (n : ℕ). HaveWireCauses calls.exact route.pool has.report n calls.before calls.behind) none counted.causes));
        fulls = subst (λ (n : ℕ). IsFullCaused route.pool has.report n calls.behind) none (counted.fulls new.exact);
        untroubled = λ nothing.
            has.played.untroubled new.exact
            (record { nothing = nothing; quiet = new.quiet.quiet; uncounted = new.uncounted; told = told });
        borne = λ few quiet go. has.played.borne new.exact (record { few = few; quiet = new.quiet.quiet; told = told }) quiet go;
        shared = λ alike. has.played.shared new.exact (fair-by w route told alike) new.quiet;
      }

  taken-over : (config script config_text script_text : List ℕ) (reads : FileReads) (writes : SinkWrites) → TellsTests w → IsNewWire calls
      → reads.contents config ≡ Some config_text → reads.contents script ≡ Some script_text
      → TakenAndPlayed w calls config script reads writes status.Ok → IsReplayOverTests w config_text script_text writes
  taken-over config script config_text script_text reads writes tells new config_is script_is done =
      let route = done.0 in
      let configured = subst (λ (o : Option (List ℕ)). IfSome o (IsConfigurationOf route)) config_is done.1 in
      let none = none-real (first_real route) route script reads writes done.2 in
      let played = script-played (first_real route) route script reads writes done.2 in
      let events = played.0 in
      let scripted = subst (λ (o : Option (List ℕ)). IfSome o (IsPlayable route events)) script_is played.1 in
      of-told config_text script_text writes route events new configured scripted
      (configured-told w tells route config_text configured none) played.2

  -- what the program did over a new wire to test targets
  pub over-tests : (words : List (List ℕ)) (reads : FileReads) (writes : SinkWrites) (ended : Status) → TellsTests w → IsNewWire calls
      → IsProgramDone w calls words reads writes ended → IsReplayedOverTests w words reads writes ended
  over-tests words reads writes ended tells new done = λ config script config_text script_text ok asked config_is script_is.
      taken-over config script config_text script_text reads writes tells new config_is script_is
      (subst (λ (ws : List (List ℕ)). IsProgramDone w calls ws reads writes status.Ok) asked
      (subst (λ (s : Status). IsProgramDone w calls words reads writes s) ok done))
