-- Access (this project's own): which of the databases that a client names it may search, and of
-- which it is told that it may not
use Rattle.std.specs.Prelude.{◌≡◌, ◌↔◌, ℕ, List, ◌∷◌, ◌++◌, Option, Some, None}
use Rattle.std.specs.List.{AllByRecursion}
use Rattle.z_types.specs.Bib1.{bib1}
use Rattle.z_types.specs.declared.conditions.Condition.TheVariants.{AccessToDatabaseDenied}
use Rattle.z_types.specs.declared.diagnostic.Diag.{Diag}
use Rattle.route_config.specs.declared.route.Route.{Route}
use Rattle.access_rules.specs.declared.who.Who.{Who}
use Rattle.access_rules.specs.declared.decision.Decision.{Decision}
use Rattle.access_rules.specs.declared.decision.Decision.TheVariants.{Allowed, Denied}
use Rattle.access_rules.specs.Decisions.{decide}
use Rattle.access_rules.specs.Denials.{place_named, rule_named, first_denial}

-- a decision allows
abbrev pub IsAllowed : Decision → Type 0
IsAllowed (Allowed rule) = Unit {0}
IsAllowed (Denied rule) = ⊥

-- a client may search the virtual database of a name, where there is one
abbrev pub MaySearch : Route → Who → List ℕ → Type 0
MaySearch route client name =
    (place : ℕ) → place_named route name ≡ Some place → IsAllowed (decide route client place)

-- of the names, the first that a client may not search; its diagnostic is 236, with the name of the
-- rule that decided, or `default` where none matched
pub record IsFirstDenied (route : Route) (client : Who) (names : List (List ℕ))
    (diag : Diag) : Type 0 where
  pub before : List (List ℕ)
  pub name : List ℕ
  pub behind : List (List ℕ)
  pub named : names ≡ before ++ name ∷ behind
  pub may : AllByRecursion (MaySearch route client) before
  pub place : ℕ
  pub stands : place_named route name ≡ Some place
  pub rule : Option ℕ
  pub denied : decide route client place ≡ Denied rule
  pub told : diag ≡ bib1 AccessToDatabaseDenied (rule_named route rule)

-- a client is told of the first database that it may not search
abbrev pub DenialIsOfTheFirst : Type 0
DenialIsOfTheFirst =
    (route : Route) (client : Who) (names : List (List ℕ)) (diag : Diag)
    → (first_denial route client names ≡ Some diag) ↔ IsFirstDenied route client names diag

-- and of none exactly where it may search them all
abbrev pub NoDenialIsOpen : Type 0
NoDenialIsOpen =
    (route : Route) (client : Who) (names : List (List ℕ))
    → (first_denial route client names ≡ None) ↔ AllByRecursion (MaySearch route client) names
