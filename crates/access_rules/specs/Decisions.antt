-- Which databases a client may search (this project's own): the first rule that is for both
-- decides, and where there are rules and none is, it may not
use Rattle.std.specs.Prelude.{ℕ, ◌+◌, ◌&&◌, Bool, List, [], ◌∷◌, Option, Some, None, slice_get}
use Rattle.std.specs.Prelude.{if◌then◌else◌}
use Rattle.std.specs.Option.{option_map}
use Rattle.route_config.specs.declared.route.Route.{Route}
use Rattle.route_config.specs.declared.route.Rule.{Rule}
use Rattle.route_config.specs.Names.{anonymous}
use Rattle.route_config.specs.Rules.{is_for_user, covers}
use Rattle.access_rules.specs.declared.who.Who.{Who}
use Rattle.access_rules.specs.declared.who.Who.TheVariants as who
use Rattle.access_rules.specs.declared.decision.Decision.{Decision}
use Rattle.access_rules.specs.declared.decision.Decision.TheVariants.{Allowed, Denied}

-- what rules call a client; one whose login was refused has no name
abbrev pub name_of : Route → Who → Option (List ℕ)
name_of route who.Anonymous = Some anonymous
name_of route (who.User place) = option_map (λ user. user.name) (slice_get route.users place)
name_of route who.Refused = None

-- the name of the virtual database at a place
abbrev pub database_name : Route → ℕ → Option (List ℕ)
database_name route place =
    option_map (λ database. database.name) (slice_get route.databases place)

-- a rule is for a client of this name and a database of this name
abbrev pub is_for : (name database : List ℕ) → Rule → Bool
is_for name database rule = covers database rule && is_for_user rule.user name

-- what a rule at this place says
abbrev pub effect : Rule → ℕ → Decision
effect rule place = if rule.allow then Allowed (Some place) else Denied (Some place)

-- what the first of rules says, which stand from a place on, that is for both
abbrev pub first_decision : ℕ → (name database : List ℕ) → List Rule → Decision
first_decision place name database [] = Denied None
first_decision place name database (rule ∷ rules) =
    if is_for name database rule then effect rule place
    else first_decision (place + 1) name database rules

-- nobody, and no database, is denied
abbrev pub decision_for : List Rule → Option (List ℕ) → Option (List ℕ) → Decision
decision_for rules (Some name) (Some database) = first_decision 0 name database rules
decision_for rules name database = Denied None

-- without rules everything is allowed
abbrev pub decision_by : List Rule → Option (List ℕ) → Option (List ℕ) → Decision
decision_by [] name database = Allowed None
decision_by (rule ∷ rules) name database = decision_for (rule ∷ rules) name database

-- what the route says of a client and the virtual database at a place
abbrev pub decide : Route → Who → ℕ → Decision
decide route client database =
    decision_by route.rules (name_of route client) (database_name route database)
