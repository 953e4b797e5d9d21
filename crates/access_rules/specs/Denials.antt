-- Which diagnostic a client gets where it may not search a database (ANSI/NISO Z39.50-2003,
-- Appendix 4 ERR, 236; the rules are this project's own)
use Rattle.std.specs.Prelude.{ℕ, List, [], ◌∷◌, codes, Option, Some, None, slice_get}
use Rattle.std.specs.Option.{option_map, option_or, unwrap_or}
use Rattle.std.specs.List.{position}
use Rattle.std.specs.Str.{str_eq_ignore_ascii_case}
use Rattle.z_types.specs.Bib1.{bib1}
use Rattle.z_types.specs.declared.conditions.Condition.TheVariants.{AccessToDatabaseDenied}
use Rattle.z_types.specs.declared.diagnostic.Diag.{Diag}
use Rattle.route_config.specs.declared.route.Route.{Route}
use Rattle.access_rules.specs.declared.who.Who.{Who}
use Rattle.access_rules.specs.declared.decision.Decision.{Decision}
use Rattle.access_rules.specs.declared.decision.Decision.TheVariants.{Allowed, Denied}
use Rattle.access_rules.specs.Decisions.{decide}

-- the place of the virtual database of a name, in any case of ASCII letters
abbrev pub place_named : Route → List ℕ → Option ℕ
place_named route name =
    position (λ database. str_eq_ignore_ascii_case database.name name) route.databases

-- the name of the rule that decides, or `default` where none does
abbrev pub rule_named : Route → Option ℕ → List ℕ
rule_named route None = codes "default"
rule_named route (Some place) =
    unwrap_or (option_map (λ rule. rule.name) (slice_get route.rules place)) (codes "default")

-- a denial, told by its rule
abbrev pub denial_by : Route → Decision → Option Diag
denial_by route (Allowed rule) = None
denial_by route (Denied rule) = Some (bib1 AccessToDatabaseDenied (rule_named route rule))

-- of a database by its place; a name that is none of the route's is no matter of access
abbrev pub denial_at : Route → Who → Option ℕ → Option Diag
denial_at route client None = None
denial_at route client (Some place) = denial_by route (decide route client place)

-- of the first database that is denied, of these
abbrev pub first_denial : Route → Who → List (List ℕ) → Option Diag
first_denial route client [] = None
first_denial route client (name ∷ names) =
    option_or (denial_at route client (place_named route name)) (first_denial route client names)

-- for contracts: what is decided at a place; a name that has none is passed over
abbrev pub decision_at : Route → Who → Option ℕ → Decision
decision_at route client None = Allowed None
decision_at route client (Some place) = decide route client place

-- for contracts: what is decided of a client and a name
abbrev pub decision_of : Route → Who → List ℕ → Decision
decision_of route client name = decision_at route client (place_named route name)
