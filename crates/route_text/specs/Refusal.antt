-- The first refusal of a value by the table of keys (this project's own): key by key in the order
-- of the rows, item by item in an array, and at last the least key that the table has no row for.
use Rattle.std.specs.Prelude.{ℕ, ◌+◌, ℤ, pos, int_le, Bool, ◌&&◌, not, is_some, List, [], ◌∷◌, Option, Some, None, if◌then◌else◌}
use Rattle.std.specs.Option.{option_or, option_map}
use Rattle.std.specs.List.{filter, list_any}
use Rattle.std.specs.Ordering.{nat_cmp, min_by_ordering}
use Rattle.std.specs.Cmp.Lexicographic.{slice_cmp}
use Rattle.std.specs.Fmt.{signed_decimal}
use Rattle.toml.specs.Data.{Data, Items, no_items, item, Members, no_members, member, get, as_str, as_integer, as_bool, as_array, as_table}
use Rattle.route_text.specs.declared.fault.RouteFault.{RouteFault}
use Rattle.route_text.specs.declared.fault.RouteFault.TheVariants.{Missing, WrongKind, OutOfRange, TooMany, Unknown}
use Rattle.route_text.specs.Path.{key_path, item_path}
use Rattle.route_config.specs.Names.{is_from}
use Rattle.z_types.specs.Same.{is_same}
use Rattle.route_text.specs.Texts.{fits, address}
use Rattle.route_text.specs.Kinds.{Need, required, default, Kind, Text, Address, Number, Flag, Array, Table, Keys, no_keys, key, key_names}

-- nothing where the test holds, else the refusal
abbrev pub unless : Bool → RouteFault → Option RouteFault
unless test fault = if test then None else Some fault

-- what a value is refused for once it is of the kind: it is WrongKind where it is not
abbrev pub of_kind : {A : Type 0} → List ℕ → Option A → (A → Option RouteFault) → Option RouteFault
of_kind path None check = Some (WrongKind path)
of_kind path (Some content) check = check content

-- a key that is not there is Missing, where it is required
abbrev pub at_key : Need → List ℕ → (Data → Option RouteFault) → Option Data → Option RouteFault
at_key required path check None = Some (Missing path)
at_key (default value) path check None = None
at_key need path check (Some value) = check value

-- the first refusal of the items, which stand from a place on
abbrev pub of_items : (List ℕ → Data → Option RouteFault) → List ℕ → ℕ → Items → Option RouteFault
of_items check path place no_items = None
of_items check path place (item value rest) =
    option_or (check (item_path path place) value) (of_items check path (place + 1) rest)

abbrev pub count : Items → ℕ
count no_items = 0
count (item value rest) = 1 + count rest

-- the least of some names, in the order of their octets
abbrev pub lesser : List ℕ → Option (List ℕ) → List ℕ
lesser name None = name
lesser name (Some other) = min_by_ordering (slice_cmp nat_cmp name other) name other

abbrev pub least : List (List ℕ) → Option (List ℕ)
least [] = None
least (name ∷ names) = Some (lesser name (least names))

-- the names that stand in a table
abbrev pub member_names : Members → List (List ℕ)
member_names no_members = []
member_names (member name value rest) = name ∷ member_names rest

abbrev pub is_key : List (List ℕ) → List ℕ → Bool
is_key known name = list_any (is_same name) known

-- the names in a table that are no keys
abbrev pub others : List (List ℕ) → Members → List (List ℕ)
others known members = filter (λ name. not (is_key known name)) (member_names members)

-- the least of them is Unknown
abbrev pub of_others : List (List ℕ) → List ℕ → Members → Option RouteFault
of_others known path members =
    option_map (λ name. Unknown (key_path path name)) (least (others known members))

-- an integer from one to another
abbrev pub is_within : ℕ → ℕ → ℤ → Bool
is_within low high n = int_le (pos low) n && int_le n (pos high)

-- what the value of a key is refused for, where it is of a kind that is checked so
abbrev pub of_key : Need → (List ℕ → Data → Option RouteFault) → List ℕ → List ℕ → Data
    → Option RouteFault
of_key need check path name value =
    at_key need (key_path path name) (check (key_path path name)) (get name value)

abbrev mutual
  -- what a value at a path is refused for
  pub refusal : Kind → List ℕ → Data → Option RouteFault
  refusal (Text rule) path value =
      of_kind path (as_str value) (λ text. unless (fits rule text) (OutOfRange path text))
  refusal Address path value =
      of_kind path (as_str value) (λ text. unless (is_some (address text)) (OutOfRange path text))
  refusal (Number low high) path value = of_kind path (as_integer value) (λ n.
      unless (is_within low high n) (OutOfRange path (signed_decimal n)))
  refusal Flag path value = of_kind path (as_bool value) (λ flag. None)
  refusal (Array low high each) path value = of_kind path (as_array value) (λ items.
      option_or (unless (is_from low high (count items)) (TooMany path (count items)))
      (of_items (refusal each) path 0 items))
  refusal (Table keys) path value = of_kind path (as_table value) (λ members.
      option_or (of_keys keys path value) (of_others (key_names keys) path members))

  -- what the keys of the table at a path are refused for
  pub of_keys : Keys → List ℕ → Data → Option RouteFault
  of_keys no_keys path value = None
  of_keys (key name need kind rest) path value =
      option_or (of_key need (refusal kind) path name value) (of_keys rest path value)
