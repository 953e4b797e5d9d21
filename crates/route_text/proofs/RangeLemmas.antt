-- What is refused for nothing keeps the ranges of its keys.
use Rattle.std.proofs.Common.{◌≡◌, ℕ, ◌+◌, ℤ, pos, negsuc, nat_abs, int_le, Bool, true, false, ◌&&◌, nat_le, List, length, Option, Some, None, option_map, refl, arith}
use Rattle.std.specs.Fmt.{signed_decimal}
use Rattle.std.specs.Option.{option_or, unwrap_or}
use Rattle.std.specs.List.{AllByRecursion}
use Rattle.std.proofs.lemmas.Bool.{and_parts}
use Rattle.std.proofs.lemmas.Bool.Decides.{nat_tests}
use Rattle.toml.specs.Data.{Data, Items, no_items, item, Members, as_integer, as_array, as_table}
use Rattle.route_text.specs.declared.fault.RouteFault.{RouteFault}
use Rattle.route_text.specs.declared.fault.RouteFault.TheVariants.{OutOfRange, TooMany}
use Rattle.route_config.specs.Names.{is_from}
use Rattle.route_text.specs.Path.{item_path}
use Rattle.route_text.specs.Kinds.{required, default, Kind, Number, Array, Table, Keys, key_names}
use Rattle.route_text.specs.Refusal.{refusal, of_kind, of_keys, of_items, of_others, at_key, unless, count, is_within}
use Rattle.route_config.specs.Sound.{IsFrom, HasFrom}
use Rattle.route_text.specs.Values.{held, number, list, list_of}

-- of two refusals that come to nothing each is nothing
pub neither : (one other : Option RouteFault) → option_or one other ≡ None → (one ≡ None) × (other ≡ None)
neither None other h = (refl, h)
neither (Some fault) other h = absurd (cc)

pub passed : (test : Bool) (fault : RouteFault) → unless test fault ≡ None → test ≡ true
passed true fault h = refl
passed false fault h = absurd (cc)

count_list : {A : Type 0} (read : Data → A) (items : Items) → count items ≡ length (list_of read items)
count_list read no_items = refl
count_list read (item value rest) = grind (arith, count_list read rest)

-- a number that is tested to be in a range is in it
pub from-parts : (low high n : ℕ) → is_from low high n ≡ true → IsFrom low high n
from-parts low high n h = (grind (arith, nat_tests, and_parts (nat_le low n) (nat_le n high) h), grind (arith, nat_tests, and_parts (nat_le low n) (nat_le n high) h))

list_within : {A : Type 0} (read : Data → A) (each : Kind) (low high : ℕ) (path : List ℕ) (content : Option Items)
    → of_kind path content (λ items. option_or (unless (is_from low high (count items)) (TooMany path (count items))) (of_items (refusal each) path 0 items)) ≡ None
    → HasFrom low high (list_of read (unwrap_or content no_items))
list_within read each low high path None h = absurd (cc)
list_within read each low high path (Some items) h =
    let within = from-parts low high (count items) (passed _ _ (neither _ _ h).0) in
    rw (← count_list read items) within

-- an array has as many items as its range says
pub list-within : {A : Type 0} (read : Data → A) (each : Kind) (low high : ℕ) (path : List ℕ) (value : Data) → refusal (Array low high each) path value ≡ None → HasFrom low high (list read value)
list-within read each low high path value h = list_within read each low high path (as_array value) h

items_all : {A : Type 0} (read : Data → A) (each : Kind) (P : A → Type 0) → ((path : List ℕ) (value : Data) → refusal each path value ≡ None → P (read value))
    → (path : List ℕ) (place : ℕ) (items : Items) → of_items (refusal each) path place items ≡ None → AllByRecursion P (list_of read items)
items_all read each P one path place no_items h = tt
items_all read each P one path place (item value rest) h =
    let parts = neither (refusal each (item_path path place) value) (of_items (refusal each) path (place + 1) rest) h in
    (one (item_path path place) value parts.0, items_all read each P one path (place + 1) rest parts.1)

array_all : {A : Type 0} (read : Data → A) (each : Kind) (P : A → Type 0) → ((path : List ℕ) (value : Data) → refusal each path value ≡ None → P (read value))
    → (low high : ℕ) (path : List ℕ) (content : Option Items)
    → of_kind path content (λ items. option_or (unless (is_from low high (count items)) (TooMany path (count items))) (of_items (refusal each) path 0 items)) ≡ None
    → AllByRecursion P (list_of read (unwrap_or content no_items))
array_all read each P one low high path None h = absurd (cc)
array_all read each P one low high path (Some items) h = items_all read each P one path 0 items (neither _ _ h).1

-- each item of an array has what every item has that is refused for nothing
pub array-all : {A : Type 0} (read : Data → A) (each : Kind) (P : A → Type 0) → ((path : List ℕ) (value : Data) → refusal each path value ≡ None → P (read value))
    → (low high : ℕ) (path : List ℕ) (value : Data) → refusal (Array low high each) path value ≡ None → AllByRecursion P (list read value)
array-all read each P one low high path value h = array_all read each P one low high path (as_array value) h

keys_of_members : (keys : Keys) (path : List ℕ) (value : Data) (content : Option Members)
    → of_kind path content (λ members. option_or (of_keys keys path value) (of_others (key_names keys) path members)) ≡ None → of_keys keys path value ≡ None
keys_of_members keys path value None h = absurd (cc)
keys_of_members keys path value (Some inside) h = (neither _ _ h).0

-- the keys of a table that is refused for nothing are
pub keys-passed : (keys : Keys) (path : List ℕ) (value : Data) → refusal (Table keys) path value ≡ None → of_keys keys path value ≡ None
keys-passed keys path value h = keys_of_members keys path value (as_table value) h

-- what a key that is required holds is refused for nothing, where the key is
pub required-passed : (check : List ℕ → Data → Option RouteFault) (path : List ℕ) (here : Option Data) → at_key required path (check path) here ≡ None → check path (held required here) ≡ None
required-passed check path None h = absurd (cc)
required-passed check path (Some value) h = h

-- so is what another holds, or its default, where the default is
pub default-passed : (other : Data) (check : List ℕ → Data → Option RouteFault) (path : List ℕ) (here : Option Data) → check path other ≡ None → at_key (default other) path (check path) here ≡ None → check path (held (default other) here) ≡ None
default-passed other check path None passes h = passes
default-passed other check path (Some value) passes h = h

-- a whole number from one to another is as far from nought
within_abs : (low high : ℕ) (n : ℤ) → int_le (pos low) n && int_le n (pos high) ≡ true → IsFrom low high (nat_abs n)
within_abs low high (pos m) h = from-parts low high m h
within_abs low high (negsuc m) h = absurd (cc)

number_of_integer : (low high : ℕ) (path : List ℕ) (content : Option ℤ) → of_kind path content (λ n. unless (is_within low high n) (OutOfRange path (signed_decimal n))) ≡ None
    → IsFrom low high (unwrap_or (option_map nat_abs content) 0)
number_of_integer low high path None h = absurd (cc)
number_of_integer low high path (Some n) h = within_abs low high n (passed _ _ h)

-- a number is in its range
pub number-within : (low high : ℕ) (path : List ℕ) (value : Data) → refusal (Number low high) path value ≡ None → IsFrom low high (number value)
number-within low high path value h = number_of_integer low high path (as_integer value) h
