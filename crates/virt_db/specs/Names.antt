-- For contracts alone (this project's own): names that were met, and the databases that they
-- stand for
use Rattle.std.specs.Prelude.{◌≡◌, ℕ, List, None, Some, Result, Ok, Err, Bool, Vec}
use Rattle.std.specs.List.{list_any}
use Rattle.std.specs.declared.alloc.Global.{Global}
use Rattle.std.specs.BTreeSet.{BTreeSet, contains}
use Rattle.std.specs.Cmp.Lexicographic.{slice_cmp}
use Rattle.std.specs.Ordering.{nat_cmp}
use Rattle.std.specs.Str.{bytes_eq, str_eq_ignore_ascii_case, str_to_ascii_lowercase}
use Rattle.route_config.specs.declared.route.Route.{Route}
use Rattle.virt_db.specs.Legs.{distinct, why_none}
use Rattle.virt_db.specs.declared.fault.DbFault.{DbFault}
use Rattle.virt_db.specs.declared.fault.DbFault.TheVariants.{Memory}

-- some of the names is this one, in any case of ASCII letters
abbrev pub is_named_among : List ℕ → List (List ℕ) → Bool
is_named_among name names = list_any (λ other. str_eq_ignore_ascii_case other name) names

-- a set has these names in lower case, and nothing else
abbrev pub HasNames : BTreeSet (Vec ℕ Global) → List (List ℕ) → Type 0
HasNames set names =
    (key : Vec ℕ Global) → contains (λ a b. slice_cmp nat_cmp a.items b.items) set key
    ≡ list_any (λ name. bytes_eq (str_to_ascii_lowercase name) key.items) names

-- the databases of names, or why there are none; want of memory has no cause
abbrev pub AreDatabasesOf : Route → List (List ℕ) → Result (List (List ℕ)) DbFault → Type 0
AreDatabasesOf route names (Ok named) = (why_none route names ≡ None) × (named ≡ distinct names)
AreDatabasesOf route names (Err Memory) = Unit {0}
AreDatabasesOf route names (Err fault) = why_none route names ≡ Some fault
