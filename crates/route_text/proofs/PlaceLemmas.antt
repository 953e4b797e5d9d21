-- Places: each is one of the list that it is a place of.
use Rattle.std.proofs.Common.{◌≡◌, ℕ, zero, suc, ◌≤◌, ◌<◌, ◌+◌, List, [], ◌∷◌, map, length, Option, Some, None, All, refl, arith}
use Rattle.std.specs.Option.{unwrap_or}
use Rattle.std.specs.List.{AllByRecursion, position, range_with_len, flat_map}
use Rattle.std.proofs.lemmas.List.{length-map, length-append}
use Rattle.std.proofs.lemmas.List.Elements.{All-cons, All-nil, All-append, All-map}
use Rattle.std.proofs.lemmas.List.Quantifiers.{position-Some}
use Rattle.route_text.specs.declared.values.GroupValues.{GroupValues}
use Rattle.route_text.specs.declared.values.LegValues.{LegValues}
use Rattle.route_text.specs.declared.values.DatabaseValues.{DatabaseValues}
use Rattle.route_text.specs.declared.values.Values.{Values}
use Rattle.z_types.specs.Same.{is_same}
use Rattle.route_text.specs.Whole.{target_names, vias}
use Rattle.route_text.specs.RouteOf.{place_of, group_of, databases_from, leg_of, legs_from, firsts, class_names, class_of, route_of}
use Rattle.route_config.specs.Sound.{HasFrom, AllBelow, KeepsPlaces}
use Rattle.route_text.specs.Sizes.{HasSizes}

-- what holds of every item holds of all
all_each : {A : Type 0} (P : A → Type 0) → ((x : A) → P x) → (xs : List A) → All P xs
all_each P each [] = All-nil P
all_each P each (x ∷ xs) = All-cons P x xs (each x) (all_each P each xs)

found_below : (names : List (List ℕ)) (name : List ℕ) (found : Option ℕ) → position (is_same name) names ≡ found → 1 ≤ length names → unwrap_or found 0 < length names
found_below names name None is some = omega (arith, some)
found_below names name (Some i) is some = (position-Some (is_same name) names i [] is).0

-- a name's place is one of the names'
place-below : (names : List (List ℕ)) (name : List ℕ) → 1 ≤ length names → place_of names name < length names
place-below names name some = found_below names name (position (is_same name) names) refl some

range_below : (first count n : ℕ) → first + count ≤ n → AllBelow n (range_with_len first count)
range_below first zero n h = All-nil (λ place. place < n)
range_below first (suc count) n h = All-cons (λ place. place < n) first (range_with_len (first + 1) count) (omega (arith, h)) (range_below (first + 1) count n (omega (arith, h)))

members_below : (names : List (List ℕ)) → 1 ≤ length names → (groups : List GroupValues) → All (λ group. AllBelow (length names) group.targets) (map (group_of names) groups)
members_below names some groups =
    All-map (λ group. AllBelow (length names) group.targets) (group_of names) groups (all_each (λ group. AllBelow (length names) (group_of names group).targets)
    (λ group. All-map (λ place. place < length names) (place_of names) group.targets (all_each (λ name. place_of names name < length names) (λ name. place-below names name some) group.targets)) groups)

classes_below : (names : List (List ℕ)) → 1 ≤ length names → (place : ℕ) (databases : List DatabaseValues) → All (λ leg. leg.class < length names) (legs_from names place databases)
classes_below names some place [] = All-nil (λ leg. leg.class < length names)
classes_below names some place (database ∷ rest) =
    All-append (λ leg. leg.class < length names) (map (leg_of names place) database.legs) (legs_from names (place + 1) rest)
    (All-map (λ leg. leg.class < length names) (leg_of names place) database.legs (all_each (λ leg. place_of names leg.via < length names) (λ leg. place-below names leg.via some) database.legs))
    (classes_below names some (place + 1) rest)

databases_below : (names : List (List ℕ)) (place n : ℕ) (databases : List DatabaseValues) → place + length databases ≤ n → All (λ leg. leg.database < n) (legs_from names place databases)
databases_below names place n [] h = All-nil (λ leg. leg.database < n)
databases_below names place n (database ∷ rest) h =
    All-append (λ leg. leg.database < n) (map (leg_of names place) database.legs) (legs_from names (place + 1) rest)
    (All-map (λ leg. leg.database < n) (leg_of names place) database.legs (all_each {A = LegValues} (λ leg. place < n) (λ leg. omega (arith, h)) database.legs))
    (databases_below names (place + 1) n rest (omega (arith, h)))

legs_more : (names : List (List ℕ)) (place : ℕ) (database : DatabaseValues) (rest : List DatabaseValues) → length (legs_from names place (database ∷ rest)) ≡ length database.legs + length (legs_from names (place + 1) rest)
legs_more names place database rest = rw (length-append (map (leg_of names place) database.legs) (legs_from names (place + 1) rest), length-map database.legs (leg_of names place))

legs_below : (names : List (List ℕ)) (place first n : ℕ) (databases : List DatabaseValues) → first + length (legs_from names place databases) ≤ n → All (λ database. AllBelow n database.legs) (databases_from first databases)
legs_below names place first n [] h = All-nil (λ database. AllBelow n database.legs)
legs_below names place first n (database ∷ rest) h =
    let more = legs_more names place database rest in
    All-cons (λ database. AllBelow n database.legs) _ (databases_from (first + length database.legs) rest)
    (range_below first (length database.legs) n (omega (arith, h, more)))
    (legs_below names (place + 1) (first + length database.legs) n rest (omega (arith, h, more)))

pub databases_length : (first : ℕ) (databases : List DatabaseValues) → length (databases_from first databases) ≡ length databases
databases_length first [] = refl
databases_length first (database ∷ rest) = rw (databases_length (first + length database.legs) rest)

-- a configuration has a leg, and so a class
some_vias : (databases : List DatabaseValues) → 1 ≤ length databases → AllByRecursion (λ database. HasFrom 1 16 database.legs) databases → 1 ≤ length (flat_map (λ database. map (λ leg. leg.via) database.legs) databases)
some_vias [] some all = absurd (omega (arith, some))
some_vias (database ∷ databases) some all = grind (arith, length-append (map (λ leg. leg.via) database.legs) (flat_map (λ database. map (λ leg. leg.via) database.legs) databases), length-map database.legs (λ leg. leg.via), all.0.0)

some_firsts : (names : List (List ℕ)) → 1 ≤ length names → 1 ≤ length (firsts [] names)
some_firsts [] some = some
some_firsts (name ∷ names) some = omega arith

some_classes : (values : Values) → HasSizes values → 1 ≤ length (class_names values)
some_classes values sizes = some_firsts (vias values) (some_vias values.databases sizes.databases.0 sizes.legs)

-- the route of values keeps its places
pub places : (values : Values) → HasSizes values → KeepsPlaces (route_of values)
unfolding route_of
places values sizes =
    let targets = length-map values.targets (λ target. target.name) in
    let classes = length-map (class_names values) (class_of values) in
    record {
      members = rw (← targets) (members_below (target_names values) (rw targets sizes.targets.0) values.groups);
      legs = legs_below (class_names values) 0 0 (length (legs_from (class_names values) 0 values.databases)) values.databases (omega arith);
      databases = rw (databases_length 0 values.databases) (databases_below (class_names values) 0 (length values.databases) values.databases (omega arith));
      classes = rw classes (classes_below (class_names values) (some_classes values sizes) 0 values.databases);
    }
