-- What is true of each load (this project's own): it is orderly, each of its requests is answered,
-- and it needs a search for each of five letters and one dial
use Rattle.std.specs.Prelude.{◌≡◌, ℕ, ◌≤◌, List, [], ◌∷◌, length, map}
use Rattle.std.specs.List.{AllByRecursion, range_with_len}
use Rattle.z_types.specs.declared.marks.End.TheVariants.{Closed}
use Rattle.z_types.specs.declared.marks.Mark.TheVariants.{Plain}
use Rattle.z_types.specs.declared.world.World as world
use Rattle.route_config.specs.Smallest.{smallest_route}
use Rattle.replay_shares.specs.gateway_rules.Answers.{IsReceived}
use Rattle.replay_shares.specs.gateway_rules.Fair.{IsFair}
use Rattle.script.specs.Events.{most_clients}
use Rattle.sample_maker.specs.Load.{letter_of, load_events}
use Rattle.sharing_rules.specs.Needed.{dials_needed, needed}
use Rattle.replay_shares.specs.replay.Report.{IsReportOf}
use Rattle.replay_shares.specs.replay.Uncaused.{AreAllPlain}
use Rattle.replay_shares.specs.replay.declared.reports.ClientReport.{ClientReport}
use Rattle.replay_shares.specs.replay.declared.reports.Report.{Report}
use Rattle.replay_shares.specs.Orderly.{IsOrderly}
use Rattle.load_shares.specs.Costs.{load_dials, load_searches, load_uses}
use Rattle.load_shares.specs.Runs.{answers_for, load_runs, units_for}

-- each request of a client is a unit, and is read as itself
abbrev pub RequestsAreReceived : Type 0
RequestsAreReceived = (letter : ℕ) → AllByRecursion IsReceived (units_for letter)

-- a load is orderly, with the runs of its clients and those that close them
abbrev pub LoadsAreOrderly : {W : Type 0} → world.Ghosts W → Type 0
LoadsAreOrderly w =
    (clients : ℕ) → clients ≤ most_clients
    → IsOrderly w smallest_route (load_events clients) (load_runs w clients)

-- a client has a mark for each of its four requests, and its Close ended its connection
pub record WasAnswered (client : ClientReport) : Type 0 where
  pub four : length client.marks ≡ 4
  pub closed : client.end ≡ Closed

-- the clients of a load are those of a report, in ascending order, and each of them was answered
pub record AreAnswered (clients : ℕ) (reports : List ClientReport) : Type 0 where
  pub numbers : map (λ client. client.number) reports ≡ range_with_len 1 clients
  pub each : AllByRecursion WasAnswered reports

-- so they are on a fair route, whatever befell the links
abbrev pub LoadsAreAnswered : {W : Type 0} → world.Ghosts W → Type 0
LoadsAreAnswered w =
    (clients : ℕ) (report : Report) → clients ≤ most_clients → IsFair w smallest_route
    → IsReportOf w smallest_route (load_events clients) report → AreAnswered clients report.clients

-- a client has a Plain mark for each of its four requests, and was written the answers to the
-- requests of its letter
pub record WasAnsweredPlainly {W : Type 0} (w : world.Ghosts W)
    (client : ClientReport) : Type 0 where
  pub marks : client.marks ≡ Plain ∷ Plain ∷ Plain ∷ Plain ∷ []
  pub bytes : client.bytes ≡ answers_for w (letter_of client.number)

-- so is each client where no request of the load is marked
abbrev pub LoadsAreAnsweredPlainly : {W : Type 0} → world.Ghosts W → Type 0
LoadsAreAnsweredPlainly w =
    (clients : ℕ) (report : Report) → clients ≤ most_clients → IsFair w smallest_route
    → IsReportOf w smallest_route (load_events clients) report → AreAllPlain report.clients
    → AllByRecursion (WasAnsweredPlainly w) report.clients

-- the searches and the dials that the uses of a load's one class need
pub record NeedsOfLoad {W : Type 0} (w : world.Ghosts W) (clients : ℕ) : Type 0 where
  pub searches : needed w smallest_route 0 (load_uses w clients) ≡ load_searches w clients
  pub dials : dials_needed smallest_route 0 (load_uses w clients) ≡ load_dials clients

-- of any load
abbrev pub LoadsNeedSo : {W : Type 0} → world.Ghosts W → Type 0
LoadsNeedSo w = (clients : ℕ) → NeedsOfLoad w clients
