-- Whom and what an access rule names (this project's own).
use Rattle.std.specs.Prelude.{ℕ, ◌||◌, Bool, List, map, All, IsTrue}
use Rattle.std.specs.List.{list_any}
use Rattle.std.specs.Str.{str_eq_ignore_ascii_case}
use Rattle.z_types.specs.Same.{is_same}
use Rattle.route_config.specs.declared.route.Database.{Database}
use Rattle.route_config.specs.declared.route.User.{User}
use Rattle.route_config.specs.declared.route.Rule.{Rule}
use Rattle.route_config.specs.Names.{anonymous, every}

-- what a rule names as its user stands for this one: the same name, octet by octet, or `*`
abbrev pub is_for_user : List ℕ → List ℕ → Bool
is_for_user named user = is_same named every || is_same named user

-- what a rule names as a database stands for this one: the same name in any case of ASCII letters,
-- or `*`
abbrev pub is_for_database : List ℕ → List ℕ → Bool
is_for_database named database = is_same named every || str_eq_ignore_ascii_case named database

-- a rule is for the database of this name
abbrev pub covers : List ℕ → Rule → Bool
covers database rule = list_any (λ one. is_for_database one database) rule.databases

-- for each database, and each rule, whether the rule is for it
abbrev pub coverings : List Database → List Rule → List (List Bool)
coverings databases rules = map (λ database. map (covers database.name) rules) databases

-- a rule may name as its user: `*`, `anonymous`, or a user
abbrev pub names_user : List User → List ℕ → Bool
names_user users named =
    (is_same named every || is_same named anonymous)
    || list_any (λ user. is_same named user.name) users

-- each of these rules may be for its user
abbrev pub NameUsers : List User → List Rule → Type 0
NameUsers users rules = All (λ rule. IsTrue (names_user users rule.user)) rules

-- one of the virtual databases has this name, in any case of ASCII letters
abbrev pub has_database : List Database → List ℕ → Bool
has_database databases named =
    list_any (λ database. str_eq_ignore_ascii_case named database.name) databases

-- a rule may name as a database: `*`, or a virtual database
abbrev pub names_database : List Database → List ℕ → Bool
names_database databases named = is_same named every || has_database databases named

-- all of these may be named as databases
abbrev pub AreDatabases : List Database → List (List ℕ) → Type 0
AreDatabases databases named = All (λ one. IsTrue (names_database databases one)) named

-- each of these rules may be for its databases
abbrev pub NameDatabases : List Database → List Rule → Type 0
NameDatabases databases rules = All (λ rule. AreDatabases databases rule.databases) rules
