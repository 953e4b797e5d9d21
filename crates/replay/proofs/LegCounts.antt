-- the legs of database names are no more than the legs of the route's databases
use Rattle.std.proofs.Common.{◌≡◌, ◌∙◌, ℕ, ◌+◌, ◌≤◌, Bool, true, false, not, cond, List, [], ◌∷◌, length, find, filter, Option, None, Some, refl, ap, arith}
use Rattle.std.specs.Prelude.{IfSome}
use Rattle.std.specs.List.{AllByRecursion, sum_by}
use Rattle.std.specs.Str.{bytes_eq, str_eq_ignore_ascii_case, str_to_ascii_lowercase}
use Rattle.std.proofs.lemmas.List.Concat.{length-flat_map}
use Rattle.std.proofs.lemmas.List.Sums.{sum_by-cons}
use Rattle.std.proofs.lemmas.Slice.Eq.{bytes_eq-Decides}
use Rattle.route_config.specs.Lookup.{database_named}
use Rattle.route_config.specs.declared.route.Database.{Database}
use Rattle.route_config.specs.declared.route.Route.{Route}
use Rattle.virt_db.specs.Legs.{distinct, legs_behind, legs_of}
use Rattle.replay.specs.Places.{leg_count}

-- ---- names that differ

-- each differs from the others, in any case of ASCII letters
abbrev AreApart : List (List ℕ) → Type 0
AreApart [] = Unit {0}
AreApart (name ∷ names) = AllByRecursion (λ other. str_eq_ignore_ascii_case name other ≡ false) names × AreApart names

filter-all : (P : List ℕ → Type 0) (p : List ℕ → Bool) (names : List (List ℕ)) → AllByRecursion P names → AllByRecursion P (filter p names)
filter-all P p [] all = tt
filter-all P p (name ∷ names) all =
    elim (p name) as (λ (b : Bool). AllByRecursion P (cond b (name ∷ filter p names) (filter p names))) [
      | true ↦ (all.0, filter-all P p names all.1)
      | false ↦ filter-all P p names all.1
    ]

filter-apart : (p : List ℕ → Bool) (names : List (List ℕ)) → AreApart names → AreApart (filter p names)
filter-apart p [] apart = tt
filter-apart p (name ∷ names) apart =
    elim (p name) as (λ (b : Bool). AreApart (cond b (name ∷ filter p names) (filter p names))) [
      | true ↦ (filter-all (λ other. str_eq_ignore_ascii_case name other ≡ false) p names apart.0, filter-apart p names apart.1)
      | false ↦ filter-apart p names apart.1
    ]

kept-one : (name other : List ℕ) (names kept : List (List ℕ)) (same : Bool) → str_eq_ignore_ascii_case name other ≡ same
    → AllByRecursion (λ x. str_eq_ignore_ascii_case name x ≡ false) kept
    → AllByRecursion (λ x. str_eq_ignore_ascii_case name x ≡ false) (cond (not same) (other ∷ kept) kept)
kept-one name other names kept true e all = all
kept-one name other names kept false e all = (e, all)

others-apart : (name : List ℕ) (names : List (List ℕ))
    → AllByRecursion (λ x. str_eq_ignore_ascii_case name x ≡ false) (filter (λ other. not (str_eq_ignore_ascii_case name other)) names)
others-apart name [] = tt
others-apart name (other ∷ names) =
    kept-one name other names (filter (λ x. not (str_eq_ignore_ascii_case name x)) names) (str_eq_ignore_ascii_case name other) refl
    (others-apart name names)

distinct-apart : (names : List (List ℕ)) → AreApart (distinct names)
distinct-apart [] = tt
distinct-apart (name ∷ names) = (
  others-apart name (distinct names),
  filter-apart (λ other. not (str_eq_ignore_ascii_case name other)) (distinct names) (distinct-apart names),
)

-- ---- a database has one of these names at most

same-test : (own name other : List ℕ) → str_eq_ignore_ascii_case own name ≡ true
    → str_eq_ignore_ascii_case own other ≡ str_eq_ignore_ascii_case name other
same-test own name other e =
    ap (λ (lower : List ℕ). bytes_eq lower (str_to_ascii_lowercase other))
    ((bytes_eq-Decides (str_to_ascii_lowercase own) (str_to_ascii_lowercase name)).0 e)

-- so many, where the database is named
abbrev if_named : List ℕ → ℕ → List ℕ → ℕ
if_named own n name = cond (str_eq_ignore_ascii_case own name) n 0

none-named : (own name : List ℕ) (n : ℕ) (names : List (List ℕ)) → str_eq_ignore_ascii_case own name ≡ true
    → AllByRecursion (λ other. str_eq_ignore_ascii_case name other ≡ false) names → sum_by (if_named own n) names ≡ 0
none-named own name n [] e apart = refl
none-named own name n (other ∷ names) e apart =
    let all = sum_by-cons (if_named own n) other names in
    let not_it : if_named own n other ≡ 0 = ap (λ (b : Bool). cond b n 0) (same-test own name other e ∙ apart.0) in
    let rest = none-named own name n names e apart.1 in
    omega (arith, all, not_it, rest)

one-named : (own : List ℕ) (n : ℕ) (names : List (List ℕ)) → AreApart names → sum_by (if_named own n) names ≤ n
one-named own n [] apart = omega arith
one-named own n (name ∷ names) apart =
    let all = sum_by-cons (if_named own n) name names in
    let one = by-test (one-named own n names apart.1) (str_eq_ignore_ascii_case own name) refl in
    omega (arith, all, one)
  where
    by-test : sum_by (if_named own n) names ≤ n → (same : Bool) → str_eq_ignore_ascii_case own name ≡ same
        → if_named own n name + sum_by (if_named own n) names ≤ n
    by-test few true e =
        let it : if_named own n name ≡ n = ap (λ (b : Bool). cond b n 0) e in
        let none = none-named own name n names e apart.0 in
        omega (arith, it, none)
    by-test few false e =
        let none : if_named own n name ≡ 0 = ap (λ (b : Bool). cond b n 0) e in
        omega (arith, none, few)

-- ---- what names find

abbrev legs_found : List Database → List ℕ → ℕ
legs_found databases name = length (legs_behind (find (λ database. str_eq_ignore_ascii_case database.name name) databases))

found-one : (database : Database) (databases : List Database) (name : List ℕ)
    → legs_found (database ∷ databases) name ≤ if_named database.name (length database.legs) name + legs_found databases name
found-one database databases name =
    elim (str_eq_ignore_ascii_case database.name name) as (λ (b : Bool).
    length (legs_behind (cond b (Some database) (find (λ other. str_eq_ignore_ascii_case other.name name) databases)))
    ≤ cond b (length database.legs) 0 + legs_found databases name) [
      | true ↦ omega arith
      | false ↦ omega arith
    ]

found-more : (database : Database) (databases : List Database) (names : List (List ℕ))
    → sum_by (legs_found (database ∷ databases)) names
    ≤ sum_by (if_named database.name (length database.legs)) names + sum_by (legs_found databases) names
found-more database databases [] = omega arith
found-more database databases (name ∷ names) =
    let all = sum_by-cons (legs_found (database ∷ databases)) name names in
    let here = sum_by-cons (if_named database.name (length database.legs)) name names in
    let behind = sum_by-cons (legs_found databases) name names in
    let one = found-one database databases name in
    let rest = found-more database databases names in
    omega (arith, all, here, behind, one, rest)

none-found : (names : List (List ℕ)) → sum_by (legs_found []) names ≡ 0
none-found [] = refl
none-found (name ∷ names) = let all = sum_by-cons (legs_found []) name names in let rest = none-found names in omega (arith, all, rest)

all-found : (databases : List Database) (names : List (List ℕ)) → AreApart names
    → sum_by (legs_found databases) names ≤ sum_by (λ database. length database.legs) databases
all-found [] names apart = let none = none-found names in omega (arith, none)
all-found (database ∷ databases) names apart =
    let more = found-more database databases names in
    let one = one-named database.name (length database.legs) names apart in
    let rest = all-found databases names apart in
    let all = sum_by-cons (λ (d : Database). length d.legs) database databases in
    omega (arith, more, one, rest, all)

-- ---- a route

pub legs_of-few : (route : Route) (names : List (List ℕ)) → length (legs_of route names) ≤ leg_count route
legs_of-few route names =
    let all : length (legs_of route names) ≡ sum_by (legs_found route.databases) (distinct names) =
    length-flat_map (λ (name : List ℕ). legs_behind (database_named route name)) (distinct names) in
    let few = all-found route.databases (distinct names) (distinct-apart names) in
    omega (arith, all, few)

pub database-few : (route : Route) (name : List ℕ) → IfSome (database_named route name) (λ database. length database.legs ≤ leg_count route)
database-few route name = by-found (database_named route name) refl
  where
    by-found : (found : Option Database) → database_named route name ≡ found → IfSome found (λ database. length database.legs ≤ leg_count route)
    by-found None e = tt
    by-found (Some database) e =
        let few = all-found route.databases (name ∷ []) (tt, tt) in
        let one = sum_by-cons (legs_found route.databases) name [] in
        let own : legs_found route.databases name ≡ length database.legs = ap (λ (d : Option Database). length (legs_behind d)) e in
        omega (arith, few, one, own)
