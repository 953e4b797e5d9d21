-- For contracts alone: the parts of what a Scan is due (this project's own)
use Rattle.std.specs.Prelude.{◌≡◌, ℕ, slice_get, Some}
use Rattle.z_types.specs.declared.conditions.Condition.TheVariants as condition
use Rattle.z_types.specs.declared.requests.Asked.TheVariants.{Good}
use Rattle.z_types.specs.declared.requests.Scan.{Scan}
use Rattle.z_types.specs.declared.scan.ScanAsk.{ScanAsk}
use Rattle.z_types.specs.declared.work.Work.TheVariants as work
use Rattle.route_config.specs.declared.route.Route.{Route}
use Rattle.virt_db.specs.Legs.{legs_of}
use Rattle.unit_forms.specs.Logins.{IsLoginIf}
use Rattle.gateway_rules.specs.Works.{IsAskableScan}
use Rattle.front_session.specs.declared.asking.Asking.{Asking}
use Rattle.front_session.specs.declared.asking.Asking.TheVariants.{Works}

-- what a Scan asks, and the first leg of its databases; where its numbers are within their range,
-- the leg may be asked
abbrev pub IsAskedOf : Route → Scan → ScanAsk → ℕ → Type 0
IsAskedOf route scan ask leg =
    (scan.ask ≡ Good ask) × (slice_get (legs_of route scan.dbs) 0 ≡ Some leg) × IsAskableScan ask

-- the work of a Scan, which its leg may be asked for
abbrev pub IsScan : Asking → Type 0
IsScan (Works (work.Scan login leg ask)) = IsAskableScan ask × IsLoginIf login
IsScan other = ⊥
