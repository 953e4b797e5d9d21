-- A session with a target may be asked for what a work asks of it
use Rattle.std.proofs.Common.{◌≡◌, ◌∙◌, false, ℕ, List, length, All, Option, None, Some, IfSome, subst, sym, ap, arith, inl, inr, slice_get, option_map}
use Rattle.std.proofs.lemmas.Bool.{ltb-false, or_parts}
use Rattle.std.proofs.lemmas.List.Elements.{All-get_or, All-weaker, recursion_from_All}
use Rattle.std.proofs.lemmas.Option.{slice_get_within, get_or_from_slice_get, option_and_then_some, same_Some}
use Rattle.z_types.specs.declared.address.Address.{Address}
use Rattle.z_types.specs.declared.query.RpnQuery.{RpnQuery}
use Rattle.z_types.specs.declared.scan.ScanAsk.{ScanAsk}
use Rattle.z_types.specs.declared.work.Work.{Work}
use Rattle.z_types.specs.declared.work.Work.TheVariants as work
use Rattle.route_config.specs.Sound.{IsSound, IsLeg, HasFrom}
use Rattle.route_config.specs.declared.route.Class.{Class}
use Rattle.route_config.specs.declared.route.Database.{Database}
use Rattle.route_config.specs.declared.route.Route.{Route}
use Rattle.route_config.specs.declared.route.RouteLeg.{RouteLeg}
use Rattle.gw_outside.specs.Asks.{AreFewShort, HasNoSet, IsShort, MaySearch, MayScan}
use Rattle.z_types.specs.Tree.{Tree, leaf, operand, and, or, and_not}
use Rattle.z_sets.specs.Askable.{IsAskableQuery}
use Rattle.z_sets.specs.Measured.{names_a_set}
use Rattle.z_types.specs.Bounds.{most_name_octets}
use Rattle.z_types.specs.Numbers.{HasNumbersOnly}
use Rattle.gateway_rules.specs.Checks.{is_too_long}
use Rattle.gateway_rules.specs.Works.{IsAskable, IsAskableScan}
use Rattle.virt_db.specs.Legs.{LegAt, leg_at, leg_with}
use Rattle.package_rules.specs.steps.Asking.{SearchesBy, ShowsBy, SearchesMayBeAsked, FetchesMayBeAsked, ScansMayBeAsked}

-- ---- the databases of a leg

with_dbs : (leg : RouteLeg) (database : Database) (class : Class) (first : Option Address) (found : LegAt)
    → option_map (λ address. record { database = database; class = class; address = address; dbs = leg.databases }) first ≡ Some found
    → leg.databases ≡ found.dbs
with_dbs leg database class None found h = absurd cc
with_dbs leg database class (Some address) found h = ap (λ (at : LegAt). at.dbs) (same_Some _ found h)

dbs_of : (leg : RouteLeg) (database : Option Database) (class : Option Class) (found : LegAt) → leg_with leg database class ≡ Some found
    → leg.databases ≡ found.dbs
dbs_of leg (Some database) (Some class) found h = with_dbs leg database class (slice_get class.addresses 0) found h
dbs_of leg (Some database) None found h = absurd cc
dbs_of leg None class found h = absurd cc

few_short : (leg : RouteLeg) → IsLeg leg → AreFewShort leg.databases
few_short leg is = record {
  few = is.0.1;
  each = recursion_from_All IsShort leg.databases
      (All-weaker (HasFrom 1 64) IsShort (λ name sized. omega (arith, sized.1)) leg.databases is.1);
}

leg_there : (legs : List RouteLeg) (place : ℕ) (leg : RouteLeg) → All IsLeg legs → slice_get legs place ≡ Some leg → IsLeg leg
leg_there legs place leg all h =
    subst IsLeg (get_or_from_slice_get legs place leg leg h) (All-get_or IsLeg legs place leg (slice_get_within legs place leg h) all)

-- a leg of a sound route has a few short names of databases
dbs_short : (route : Route) (place : ℕ) (found : LegAt) → IsSound route → leg_at route place ≡ Some found → AreFewShort found.dbs
dbs_short route place found sound h =
    option_and_then_some (λ (leg : RouteLeg). leg_with leg (slice_get route.databases leg.database) (slice_get route.classes leg.class))
    (slice_get route.legs place) found h
    (λ leg there is. subst AreFewShort (dbs_of leg (slice_get route.databases leg.database) (slice_get route.classes leg.class) found is)
    (few_short leg (leg_there route.legs place leg sound.items.legs there)))

-- ---- searches

-- a structure in which no operand is a result set
no_set : (tree : Tree) → names_a_set tree ≡ false → HasNumbersOnly tree → HasNoSet tree
no_set (leaf attrs term) h numbers = numbers
no_set (operand name) h numbers = absurd cc
no_set (and l r) h numbers =
    let both = or_parts (names_a_set l) (names_a_set r) h in (no_set l both.0 numbers.0, no_set r both.1 numbers.1)
no_set (or l r) h numbers =
    let both = or_parts (names_a_set l) (names_a_set r) h in (no_set l both.0 numbers.0, no_set r both.1 numbers.1)
no_set (and_not l r) h numbers =
    let both = or_parts (names_a_set l) (names_a_set r) h in (no_set l both.0 numbers.0, no_set r both.1 numbers.1)

query_of : (asked : Work) (query : RpnQuery) → IsAskable asked → SearchesBy query asked → IsAskableQuery query
query_of (work.Search login legs by small large medium small_element medium_element syntax room) query asks same =
    subst IsAskableQuery (sym same) asks.0
query_of (work.Fetch login legs by hits first count syntax element) query asks same =
    subst IsAskableQuery (sym same) asks.0
query_of (work.Scan login leg ask) query asks same = absurd same

-- a query may be searched for at a few short databases
pub searches_of : (dbs : List (List ℕ)) (query : RpnQuery) (name : List ℕ) → AreFewShort dbs → IsAskableQuery query → IsShort name
    → MaySearch name (record { dbs = dbs; query = query })
searches_of dbs query name few may short = record {
  short = short;
  databases = few;
  no_set = no_set query.root may.plain.no_set may.plain.numbers;
  small = may.small;
  shallow = may.shallow;
  cheap = may.cheap;
}

pub searches : SearchesMayBeAsked
searches route asked query place leg made name sound asks by there short =
    searches_of leg.dbs query name (dbs_short route place leg sound there) (query_of asked query asks by) short

-- ---- records

pub short_name : (name : Option (List ℕ)) → is_too_long name ≡ false → IfSome name IsShort
short_name None h = tt
short_name (Some name) h = ltb-false most_name_octets (length name) h

shown_by : (asked : Work) (element : Option (List ℕ)) → IsAskable asked → ShowsBy element asked → IfSome element IsShort
shown_by (work.Search login legs query small large medium small_element medium_element syntax room) element asks (inl same) =
    short_name element (ap is_too_long same ∙ asks.1)
shown_by (work.Search login legs query small large medium small_element medium_element syntax room) element asks (inr same) =
    short_name element (ap is_too_long same ∙ asks.2)
shown_by (work.Fetch login legs query hits first count syntax by) element asks same =
    short_name element (ap is_too_long same ∙ asks.1)
shown_by (work.Scan login leg ask) element asks same = absurd same

pub fetches : FetchesMayBeAsked
fetches asked element made name key hits first count syntax asks by short is_made from some within number = record {
  key = key;
  hits = hits;
  is_made = is_made;
  short = short;
  from_one = from;
  some = some;
  within = within;
  first_number = omega (arith, within, some, number);
  count_number = omega (arith, within, from, number);
  short_element = shown_by asked element asks by;
}

-- ---- scans

-- a scan may be asked for at a few short databases
pub scans_of : (dbs : List (List ℕ)) (ask : ScanAsk) → AreFewShort dbs → IsAskableScan ask → MayScan dbs ask
scans_of dbs ask few may = record {
  databases = few;
  attrs = may.numbers.attrs;
  cheap = may.cheap;
  number = may.numbers.number;
  step = may.numbers.step;
  position = may.numbers.position;
}

pub scans : ScansMayBeAsked
scans route login place ask leg made sound asks there =
    scans_of leg.dbs ask (dbs_short route place leg sound there) asks.0
