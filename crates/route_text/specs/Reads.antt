-- For contracts alone: what readers answer (this project's own): a value or the first refusal, or
-- that no memory could be had.
use Rattle.std.specs.Prelude.{◌≡◌, ◌≢◌, ℕ, true, List, Option, Some, None, Result, MatchResult, String}
use Rattle.std.specs.Option.{option_map, unwrap_or}
use Rattle.std.specs.BTreeMap.{BTreeMap}
use denote.Ref.{Bor}
use Rattle.std.specs.declared.alloc.Global.{Global}
use Rattle.toml.specs.Data.{Data, Items, get, as_array, as_table}
use Rattle.toml.specs.View.{view, items_view, table_view}
use Rattle.toml.specs.declared.value.Value.{Value}
use Rattle.route_text.specs.declared.fault.RouteFault.{RouteFault}
use Rattle.route_text.specs.declared.fault.RouteFault.TheVariants.{Memory, Toml, TooMany}
use Rattle.route_config.specs.Names.{is_from}
use Rattle.route_text.specs.Kinds.{Need, Kind}
use Rattle.route_text.specs.Keys.{nothing}
use Rattle.route_text.specs.Refusal.{refusal, of_key, of_items, of_kind, unless, count}
use Rattle.route_text.specs.Values.{held, list_of}
use Rattle.route_text.specs.Configuration.{tree_of}

-- this is refused, or no memory could be had
abbrev pub Tells : Option RouteFault → RouteFault → Type 0
Tells refusal fault = fault ≢ Memory → refusal ≡ Some fault

-- this value where nothing is refused, else this refusal; or want of memory
abbrev pub Reads : {A : Type 0} → Option RouteFault → A → Result A RouteFault → Type 0
Reads refusal value result =
    MatchResult result (λ read. (refusal ≡ None) × (read ≡ value)) (Tells refusal)

-- the value at a path, which has to be of a kind
abbrev pub ReadsKind : {A : Type 0} → Kind → (Data → A) → List ℕ → Data
    → Result A RouteFault → Type 0
ReadsKind kind found path value result = Reads (refusal kind path value) (found value) result

-- the items of the array at a path, which each have to be of a kind
abbrev pub ReadsItems : {A : Type 0} → Kind → (Data → A) → List ℕ → Items
    → Result (List A) RouteFault → Type 0
ReadsItems kind found path items result =
    Reads (of_items (refusal kind) path 0 items) (list_of found items) result

-- the value of a key of the table at a path
abbrev pub ReadsKey : {A : Type 0} → Need → Kind → (Data → A) → List ℕ → List ℕ → Data
    → Result A RouteFault → Type 0
ReadsKey need kind found path name value result =
    Reads (of_key need (refusal kind) path name value) (found (held need (get name value))) result

-- the same of a key that may be absent: its value, or one that is given for it
abbrev pub ReadsKeyOr : {A : Type 0} → Kind → (Data → A) → A → List ℕ → List ℕ → Data
    → Result A RouteFault → Type 0
ReadsKeyOr kind found other path name value result =
    Reads (of_key nothing (refusal kind) path name value)
    (unwrap_or (option_map found (get name value)) other) result

-- the items of an array of `low` to `high` items, or why the value is none
abbrev pub IsArray : List ℕ → ℕ → ℕ → Data → Result (Bor (List Value)) RouteFault → Type 0
IsArray path low high value result =
    MatchResult result (λ items. (as_array value ≡ Some (items_view items.now))
    × (is_from low high (count (items_view items.now)) ≡ true))
    (Tells (of_kind path (as_array value)
    (λ items. unless (is_from low high (count items)) (TooMany path (count items)))))

-- the members of a table, or that the value is none
abbrev pub IsTable : List ℕ → Data
    → Result (Bor (BTreeMap (String Global) Value)) RouteFault → Type 0
IsTable path value result =
    MatchResult result (λ members. as_table value ≡ Some (table_view members.now))
    (Tells (of_kind path (as_table value) (λ members. None)))

-- goes on where nothing is refused, else this refusal; or want of memory
abbrev pub Refuses : Option RouteFault → Result (Unit {0}) RouteFault → Type 0
Refuses refusal result = MatchResult result (λ _. refusal ≡ None) (Tells refusal)

-- the tree of octets, or that they have none; or want of memory
abbrev pub IsTree : List ℕ → Result Value RouteFault → Type 0
IsTree octets result =
    MatchResult result (λ value. tree_of octets ≡ Some (view value))
    (λ fault. fault ≢ Memory → (fault ≡ Toml) × (tree_of octets ≡ None))
