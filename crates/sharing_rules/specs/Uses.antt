-- Which result sets the works of a script use, and when (this project's own)
use Rattle.std.specs.Prelude.{ℕ, nat_eq, List, map, filter_map, flat_map, slice_get, Option, None, Some}
use Rattle.std.specs.Set.{unique_keys}
use Rattle.z_types.specs.declared.key.SetKey.{SetKey}
use Rattle.z_types.specs.declared.query.RpnQuery.{RpnQuery}
use Rattle.z_types.specs.declared.work.Work.{Work}
use Rattle.z_types.specs.declared.work.Work.TheVariants as work
use Rattle.route_config.specs.declared.route.Route.{Route}
use Rattle.route_config.specs.declared.route.RouteLeg.{RouteLeg}
use Rattle.gateway_rules.specs.Outcomes.{legs_asked, login_asked}
use Rattle.sharing_rules.specs.Sharers.{Sharers}

-- a work, and when it is done
pub record DatedWork : Type 0 where
  pub at : ℕ
  pub work : Work

-- a use of a class by those who share its sessions, at a moment: of the result set of a key, or of
-- none by a scan
pub record Use : Type 0 where
  pub by : Sharers
  pub key : Option SetKey
  pub at : ℕ

-- a leg's use of its class under a login
abbrev pub use_at : ℕ → (login : Option (List ℕ)) → Option SetKey → RouteLeg → Use
use_at at login key leg =
    record { by = record { class = leg.class; login = login }; key = key; at = at }

-- a leg's key of a query
abbrev pub key_of : RpnQuery → RouteLeg → SetKey
key_of query leg = record { dbs = leg.databases; query = query }

-- the legs that a work asks, each once
abbrev pub legs_used : Route → Work → List RouteLeg
legs_used route work = filter_map (slice_get route.legs) (unique_keys nat_eq (legs_asked work))

-- the query of a work; a scan has none
abbrev pub query_of : Work → Option RpnQuery
query_of (work.Search login legs query small large medium small_element medium_element syntax
    room) = Some query
query_of (work.Fetch login legs query hits first count syntax element) = Some query
query_of (work.Scan login leg ask) = None

-- a leg's key of a query that may be there
abbrev pub key_if : Option RpnQuery → RouteLeg → Option SetKey
key_if None leg = None
key_if (Some query) leg = Some (key_of query leg)

-- the uses of a work, under its login: a Search uses a key of each leg's class, a fetch one of each
-- leg that has a record to give, and a scan the class alone
abbrev pub uses_by : Route → DatedWork → List Use
uses_by route dated =
    map (λ leg. use_at dated.at (login_asked dated.work) (key_if (query_of dated.work) leg) leg)
    (legs_used route dated.work)

-- the uses of works, in order
abbrev pub uses_of : Route → List DatedWork → List Use
uses_of route works = flat_map (uses_by route) works
