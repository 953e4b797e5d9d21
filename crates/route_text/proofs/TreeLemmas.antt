-- The tree of octets, and what is read of it.
use Rattle.std.proofs.Common.{◌≡◌, ◌≢◌, ℕ, Bool, true, false, if◌then◌else◌, List, Option, Some, None, option_map, Result, Ok, Err, refl, ap}
use Rattle.std.specs.Str.{IsUtf8, is_utf8}
use Rattle.std.proofs.lemmas.Str.{IsUtf8-from_is_utf8, is_utf8-from_IsUtf8}
use Rattle.toml.specs.Data.{Data, Members, table}
use Rattle.toml.specs.Parse.{parse_document}
use Rattle.route_config.specs.declared.route.Route.{Route}
use Rattle.route_text.specs.declared.fault.RouteFault.{RouteFault}
use Rattle.route_text.specs.declared.fault.RouteFault.TheVariants.{Memory}
use Rattle.route_text.specs.Values.{values_in}
use Rattle.route_text.specs.RouteOf.{route_of}
use Rattle.route_text.specs.Reads.{Reads}
use Rattle.route_text.specs.Configuration.{tree_of, first_fault, value_or, IsConfiguration}

-- octets that are UTF-8 and TOML have this tree
pub tree-some : (octets : List ℕ) (members : Members) (tree : Data) → IsUtf8 octets → parse_document octets ≡ Some members → tree ≡ table members → tree_of octets ≡ Some tree
tree-some octets inside tree utf8 parsed is = rw (is, is_utf8-from_IsUtf8 octets utf8, parsed)

none_of : (test : Bool) (found : Option Members) → (test ≡ true → found ≡ None) → (if test then option_map table found else None) ≡ None
none_of true found h = ap (option_map table) (h refl)
none_of false found h = refl

-- octets that are no TOML where they are UTF-8 have no tree
pub tree-none : (octets : List ℕ) → (IsUtf8 octets → parse_document octets ≡ None) → tree_of octets ≡ None
tree-none octets h = none_of (is_utf8 octets) (parse_document octets) (λ test. h (IsUtf8-from_is_utf8 octets test))

read_or : (refusal : Option RouteFault) (route : Route) (result : Result Route RouteFault) → Reads refusal route result → result ≢ Err Memory → result ≡ value_or refusal route
read_or refusal route (Ok read) reads some = rw (reads.0, reads.1)
read_or refusal route (Err fault) reads some = rw (reads (λ e. some (ap Err e)))

-- reading the tree of octets is reading the octets
pub read-tree : (octets : List ℕ) (tree : Data) (result : Result Route RouteFault) → tree_of octets ≡ Some tree → Reads (first_fault tree) (route_of (values_in tree)) result → IsConfiguration octets result
read-tree octets tree result is reads some = rw is (read_or (first_fault tree) (route_of (values_in tree)) result reads some)
