-- The decision by what a route keeps of each database (this project's own): rule by rule, whether
-- the rule is for it
use Rattle.std.specs.Prelude.{ℕ, ◌+◌, ◌&&◌, Bool, false, List, [], ◌∷◌, Option, Some, None, slice_get}
use Rattle.std.specs.Prelude.{if◌then◌else◌}
use Rattle.route_config.specs.declared.route.Rule.{Rule}
use Rattle.route_config.specs.Rules.{is_for_user}
use Rattle.access_rules.specs.declared.decision.Decision.{Decision}
use Rattle.access_rules.specs.declared.decision.Decision.TheVariants.{Denied}
use Rattle.access_rules.specs.Decisions.{effect}

-- what a list has at a place: past its end, that the rule is not for it
abbrev pub covered_by : Option Bool → Bool
covered_by None = false
covered_by (Some covers) = covers

abbrev pub is_covered : List Bool → ℕ → Bool
is_covered covering place = covered_by (slice_get covering place)

-- what the first of rules says, which stand from a place on, that is for a client, of those that
-- the list has for the database
abbrev pub first_covered : ℕ → (name : List ℕ) → List Bool → List Rule → Decision
first_covered place name covering [] = Denied None
first_covered place name covering (rule ∷ rules) =
    if is_covered covering place && is_for_user rule.user name then effect rule place
    else first_covered (place + 1) name covering rules

-- nobody, and no database, is denied
abbrev pub covered_decision : List Rule → Option (List ℕ) → Option (List Bool) → Decision
covered_decision rules (Some name) (Some covering) = first_covered 0 name covering rules
covered_decision rules name covering = Denied None
