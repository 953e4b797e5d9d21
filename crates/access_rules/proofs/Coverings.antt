-- The list that a route keeps for a database decides as its name does.
use Rattle.std.proofs.Common.{◌≡◌, ℕ, ◌+◌, ◌<◌, List, [], ◌∷◌, ◌++◌, Option, Some, None, length, map, slice_get, refl, sym, ap, ◌∙◌, subst, arith}
use Rattle.std.proofs.lemmas.List.{append_assoc, length-append}
use Rattle.std.specs.Option.{option_map}
use Rattle.std.proofs.lemmas.Option.{slice_get-map}
use Rattle.route_config.specs.declared.route.Route.{Route}
use Rattle.route_config.specs.declared.route.Database.{Database}
use Rattle.route_config.specs.declared.route.Rule.{Rule}
use Rattle.route_config.specs.Rules.{covers, coverings}
use Rattle.access_rules.specs.declared.who.Who.{Who}
use Rattle.access_rules.specs.Coverings.{covered_by, is_covered, first_covered, covered_decision}
use Rattle.access_rules.specs.Decisions.{first_decision, name_of, database_name, decision_for, decision_by, decide}

-- the first behind others stands at their number
at-front : (front : List Rule) (rule : Rule) (rules : List Rule) → slice_get (front ++ rule ∷ rules) (length front) ≡ Some rule
at-front [] rule rules = refl
at-front (one ∷ front) rule rules = at-front front rule rules

is-covered : (database : List ℕ) (front : List Rule) (rule : Rule) (rules : List Rule)
    → is_covered (map (covers database) (front ++ rule ∷ rules)) (length front) ≡ covers database rule
is-covered database front rule rules =
    ap covered_by (slice_get-map (covers database) (front ++ rule ∷ rules) (length front)
    ∙ ap (option_map (covers database)) (at-front front rule rules))

pub by-covering : (name database : List ℕ) (all front rules : List Rule) → all ≡ front ++ rules
    → first_covered (length front) name (map (covers database) all) rules ≡ first_decision (length front) name database rules
by-covering name database all front [] is = refl
by-covering name database all front (rule ∷ rules) is =
    let behind : all ≡ (front ++ rule ∷ []) ++ rules = is ∙ sym (append_assoc front (rule ∷ []) rules) in
    let next : first_covered (length front + 1) name (map (covers database) all) rules ≡ first_decision (length front + 1) name database rules =
    subst (λ n. first_covered n name (map (covers database) all) rules ≡ first_decision n name database rules)
    (length-append front (rule ∷ [])) (by-covering name database all (front ++ rule ∷ []) rules behind) in
    let covered : is_covered (map (covers database) all) (length front) ≡ covers database rule =
    ap (λ rest. is_covered (map (covers database) rest) (length front)) is ∙ is-covered database front rule rules in
    rw (covered, next) refl

-- of a client and a database, if there are both
at-name : (rules : List Rule) (name : Option (List ℕ)) (database : List ℕ)
    → covered_decision rules name (Some (map (covers database) rules)) ≡ decision_for rules name (Some database)
at-name rules None database = refl
at-name rules (Some name) database = by-covering name database rules [] rules refl

at-place : (rules : List Rule) (name : Option (List ℕ)) (database : Option Database)
    → covered_decision rules name (option_map (λ (database : Database). map (covers database.name) rules) database)
    ≡ decision_for rules name (option_map (λ (database : Database). database.name) database)
at-place rules None None = refl
at-place rules (Some name) None = refl
at-place rules name (Some database) = at-name rules name database.name

-- where there are rules
some-rules : (rules : List Rule) (name database : Option (List ℕ)) → 0 < length rules → decision_for rules name database ≡ decision_by rules name database
some-rules [] name database some = absurd (omega arith)
some-rules (rule ∷ rules) name database some = refl

pub decided_by_coverings : (route : Route) (client : Who) (place : ℕ) → 0 < length route.rules
    → covered_decision route.rules (name_of route client) (slice_get (coverings route.databases route.rules) place) ≡ decide route client place
decided_by_coverings route client place some =
    ap (covered_decision route.rules (name_of route client))
    (slice_get-map (λ (database : Database). map (covers database.name) route.rules) route.databases place)
    ∙ at-place route.rules (name_of route client) (slice_get route.databases place)
    ∙ some-rules route.rules (name_of route client) (database_name route place) some
