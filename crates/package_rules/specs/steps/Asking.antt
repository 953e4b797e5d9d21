-- For contracts alone: that a session with a target may be asked for what a work asks of it (this
-- project's own)
use Rattle.std.specs.Prelude.{◌≡◌, ◌⊎◌, ℕ, ◌+◌, ◌≤◌, List, Option, Some}
use Rattle.z_types.specs.Numbers.{IsNumber}
use Rattle.z_types.specs.declared.ask.Ask.TheVariants.{Search, Present, Scan}
use Rattle.z_types.specs.declared.key.SetKey.{SetKey}
use Rattle.z_types.specs.declared.query.RpnQuery.{RpnQuery}
use Rattle.z_types.specs.declared.scan.ScanAsk.{ScanAsk}
use Rattle.z_types.specs.declared.work.Work.{Work}
use Rattle.z_types.specs.declared.work.Work.TheVariants as work
use Rattle.route_config.specs.Sound.{IsSound}
use Rattle.route_config.specs.declared.route.Route.{Route}
use Rattle.gw_outside.specs.Asks.{IsShort, MayAsk}
use Rattle.gateway_rules.specs.Works.{IsAskable}
use Rattle.virt_db.specs.Legs.{LegAt, leg_at}

-- which sets a session made, each with its databases, its query and its hits
abbrev pub Made : Type 0
Made = List ℕ → Option (SetKey × ℕ)

-- a work searches by this query, to tell the hits or to show records
abbrev pub SearchesBy : RpnQuery → Work → Type 0
SearchesBy by (work.Search login legs query small large medium small_element medium_element syntax
    room) = by ≡ query
SearchesBy by (work.Fetch login legs query hits first count syntax element) = by ≡ query
SearchesBy by (work.Scan login leg ask) = ⊥

-- a work shows records by this element set name
abbrev pub ShowsBy : Option (List ℕ) → Work → Type 0
ShowsBy by (work.Search login legs query small large medium small_element medium_element
    syntax room) =
    (by ≡ small_element) ⊎ (by ≡ medium_element)
ShowsBy by (work.Fetch login legs query hits first count syntax element) = by ≡ element
ShowsBy by (work.Scan login leg ask) = ⊥

-- the search of a work at a leg of the route, under a short name
abbrev pub SearchesMayBeAsked : Type 0
SearchesMayBeAsked =
    (route : Route) (asked : Work) (query : RpnQuery) (place : ℕ) (leg : LegAt) (made : Made)
    (name : List ℕ)
    → IsSound route → IsAskable asked → SearchesBy query asked → leg_at route place ≡ Some leg
    → IsShort name → MayAsk made (Search name (record { dbs = leg.dbs; query = query }))

-- records of a work, of a set that the session made under a short name, within its hits
abbrev pub FetchesMayBeAsked : Type 0
FetchesMayBeAsked =
    (asked : Work) (element : Option (List ℕ)) (made : Made) (name : List ℕ) (key : SetKey)
    (hits first count : ℕ) (syntax : Option (List ℕ)) → IsAskable asked → ShowsBy element asked
    → IsShort name → made name ≡ Some (key, hits) → 1 ≤ first → 1 ≤ count → first + count ≤ hits + 1
    → IsNumber hits → MayAsk made (Present name first count syntax element)

-- the scan of a work at its leg
abbrev pub ScansMayBeAsked : Type 0
ScansMayBeAsked =
    (route : Route) (login : Option (List ℕ)) (place : ℕ) (ask : ScanAsk) (leg : LegAt)
    (made : Made)
    → IsSound route → IsAskable (work.Scan login place ask) → leg_at route place ≡ Some leg
    → MayAsk made (Scan leg.dbs ask)
