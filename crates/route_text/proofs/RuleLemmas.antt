-- Rules of a configuration that is refused for nothing name users and databases that are there.
use Rattle.std.proofs.Common.{◌≡◌, ℕ, ◌+◌, Bool, true, false, ◌||◌, IsTrue, not, cond, List, [], ◌∷◌, ◌++◌, map, length, Option, Some, None, option_map, All, refl}
use Rattle.std.specs.List.{list_any, flat_map}
use Rattle.std.proofs.lemmas.List.Elements.{All-cons, All-nil}
use Rattle.z_types.specs.Same.{is_same}
use Rattle.route_config.specs.declared.route.Database.{Database}
use Rattle.route_config.specs.declared.route.User.{User}
use Rattle.route_config.specs.declared.route.Rule.{Rule}
use Rattle.route_config.specs.Names.{anonymous, every}
use Rattle.route_config.specs.Rules.{names_user, names_database}
use Rattle.route_text.specs.declared.fault.RouteFault.{RouteFault}
use Rattle.route_text.specs.declared.fault.RouteFault.TheVariants.{NoSuchUser, NoSuchDatabase}
use Rattle.route_text.specs.declared.values.DatabaseValues.{DatabaseValues}
use Rattle.route_text.specs.RouteOf.{databases_from}
use Rattle.route_text.specs.Whole.{sameness, is_ruled_user, is_ruled_database, no_such_user, no_such_database}
use Rattle.route_text.proofs.TextLemmas.{list_any-map}

-- the first name passes, and no other is the first that does not
none_more : (b : Bool) (fault : List ℕ → RouteFault) (name : List ℕ) (rest : Option (List ℕ)) → option_map fault (cond (not b) (Some name) rest) ≡ None → (IsTrue b) × (option_map fault rest ≡ None)
none_more true fault name rest h = (refl, h)
none_more false fault name rest h = absurd (cc)

either_as : (a b c : Bool) → b ≡ c → IsTrue (a || b) → IsTrue (a || c)
either_as a b c same h = rw (← same) h

-- each rule is for a user of the route, or a word of rules
pub users_named : (users : List User) (rules : List Rule) → no_such_user (map (λ user. user.name) users) (map (λ rule. rule.user) rules) ≡ None
    → All (λ rule. IsTrue (names_user users rule.user)) rules
users_named users [] h = All-nil (λ rule. IsTrue (names_user users rule.user))
users_named users (rule ∷ rules) h =
    let more = none_more (is_ruled_user (map (λ user. user.name) users) rule.user) NoSuchUser rule.user _ h in
    let same = list_any-map (is_same rule.user) (λ user. user.name) users in
    All-cons (λ rule. IsTrue (names_user users rule.user)) rule rules
    (either_as (is_same rule.user every || is_same rule.user anonymous) _ _ same more.0) (users_named users rules more.1)

-- the databases of a route have the names of their values
same_names : (test : List ℕ → Bool) (first : ℕ) (databases : List DatabaseValues)
    → list_any test (map (λ database. database.name) databases) ≡ list_any (λ database. test database.name) (databases_from first databases)
same_names test first [] = refl
same_names test first (database ∷ databases) = rw (same_names test (first + length database.legs) databases)

-- the databases of one rule, and those of the rules behind it
one_named : (databases : List DatabaseValues) (named rest : List (List ℕ)) → no_such_database (map (λ database. database.name) databases) (named ++ rest) ≡ None
    → All (λ one. IsTrue (names_database (databases_from 0 databases) one)) named × (no_such_database (map (λ database. database.name) databases) rest ≡ None)
one_named databases [] rest h = (All-nil (λ one. IsTrue (names_database (databases_from 0 databases) one)), h)
one_named databases (one ∷ named) rest h =
    let more = none_more (is_ruled_database (map (λ database. database.name) databases) one) NoSuchDatabase one _ h in
    let others = one_named databases named rest more.1 in
    let same = same_names (sameness true one) 0 databases in
    (All-cons (λ one. IsTrue (names_database (databases_from 0 databases) one)) one named (either_as (is_same one every) _ _ same more.0) others.0, others.1)

-- each rule is for databases of the route, or all
pub databases_named : (databases : List DatabaseValues) (rules : List Rule) → no_such_database (map (λ database. database.name) databases) (flat_map (λ rule. rule.databases) rules) ≡ None
    → All (λ rule. All (λ one. IsTrue (names_database (databases_from 0 databases) one)) rule.databases) rules
databases_named databases [] h = All-nil (λ rule. All (λ one. IsTrue (names_database (databases_from 0 databases) one)) rule.databases)
databases_named databases (rule ∷ rules) h =
    let parts = one_named databases rule.databases (flat_map (λ rule. rule.databases) rules) h in
    All-cons (λ rule. All (λ one. IsTrue (names_database (databases_from 0 databases) one)) rule.databases) rule rules parts.0 (databases_named databases rules parts.1)
