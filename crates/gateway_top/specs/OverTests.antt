-- What a replay prints where its world tells what test targets answer, and its wire was just made
-- (this project's own). The program replays test targets alone: so of what the main theorem asks of
-- targets that tell their answers, and of the wire, nothing is left to ask here
use Rattle.std.specs.Prelude.{◌≡◌, ℕ, true, List, [], ◌∷◌, Option, Some, Contains, codes, map}
use Rattle.std.specs.List.{AllByRecursion}
use Rattle.z_types.specs.Logins.{inside}
use Rattle.z_types.specs.Under.{under}
use Rattle.z_types.specs.declared.address.Address.{Address}
use Rattle.z_types.specs.declared.address.Address.TheVariants.{Test}
use Rattle.z_types.specs.declared.world.World as world
use Rattle.gw_outside.specs.Counts.{Counts, no_counts}
use Rattle.gw_outside.specs.Happened.{IsQuietWire}
use Rattle.route_config.specs.declared.route.Class.{Class}
use Rattle.route_config.specs.declared.route.Route.{Route}
use Rattle.replay_shares.specs.gateway_rules.Fair.{MeansAs}
use Rattle.script.specs.declared.event.Event.{Event}
use Rattle.script.specs.Events.{named}
use Rattle.replay_shares.specs.package_quiet.steps.Bearing.{DialsGoOn}
use Rattle.replay_shares.specs.replay.Page.{page}
use Rattle.replay_shares.specs.replay.Report.{IsAnswered}
use Rattle.replay_shares.specs.replay.Undisturbed.{BefallsNothing, IsUntroubled}
use Rattle.replay_shares.specs.replay.Wires.{AreWireSums, HaveWireCauses, IsFullCaused}
use Rattle.replay_shares.specs.replay.declared.reports.Report.{Report}
use Rattle.replay_laws.specs.Borne.{AreBorneMarks, HasBorneNumber, keeps_records}
use Rattle.replay_laws.specs.Quiet.{IsQuiet}
use Rattle.replay_shares.specs.Shares.{SharesIfOrderly}
use Rattle.replay_top.specs.Outside.{WireCalls}
use Rattle.gateway_config.specs.Configs.{IsConfigurationOf}
use Rattle.gateway_config.specs.Lines.{Received}
use Rattle.gateway_config.specs.Outside.{FileReads, SinkWrites}
use Rattle.gateway_config.specs.declared.status.Status.{Status}
use Rattle.gateway_config.specs.declared.status.Status.TheVariants.{Ok}
use Rattle.gateway_top.specs.Outcome.{IsPlayable}

-- each test target tells what it answers, by itself and inside every login
abbrev pub TellsTests : {W : Type 0} → world.Ghosts W → Type 0
TellsTests w = (login : Option (List ℕ)) (number : ℕ) → w.told (inside login (Test number))

-- the wire counts exactly, had counted nothing, was without links, and nothing was made to happen
-- to it
pub record IsNewWire {W S : Type 0} (calls : WireCalls W S) : Type 0 where
  pub exact : calls.exact ≡ true
  pub uncounted : calls.before ≡ no_counts
  pub quiet : IsQuietWire calls.before calls.happened

-- all members of a class mean the same, by themselves and inside every login, as where it has but
-- one
abbrev pub MembersAreAlike : {W : Type 0} → world.Ghosts W → Route → Type 0
MembersAreAlike w route =
    (login : Option (List ℕ)) (class : Class) → Contains route.classes class
    → (one other : Address) → Contains class.addresses one → Contains class.addresses other
    → MeansAs (under login w) one other

-- The page of one report was printed, and nothing else. It is of the clients that the script names;
-- where the members of each class are alike, each was written the answers to what it was fed. The
-- sums are what the wire counted behind it, and each mark but Plain has its counted cause. Where
-- nothing befalls links nothing goes wrong, and no more than is borne marks no request but where
-- the pool was full; and orderly clients share what they search.
pub record IsReplayOverTests {W : Type 0} (w : world.Ghosts W) (config script : List ℕ)
    (writes : SinkWrites) : Type 0 where
  pub route : Route
  pub configured : IsConfigurationOf route config
  pub events : List Event
  pub scripted : IsPlayable route events script
  pub report : Report
  pub printed : Received writes (page report)
  pub clients : map (λ client. client.number) report.clients ≡ named events
  pub each : MembersAreAlike w route → AllByRecursion (IsAnswered w route events) report.clients
  pub behind : Counts
  pub sums : AreWireSums report 0 no_counts behind
  pub causes : HaveWireCauses true route.pool report 0 no_counts behind
  pub fulls : IsFullCaused route.pool report 0 behind
  pub untroubled : AllByRecursion BefallsNothing events → IsUntroubled route report
  pub borne : AllByRecursion (HasBorneNumber (keeps_records route) route.pool) events
      → IsQuiet events → DialsGoOn behind → AreBorneMarks route report
  pub shared : MembersAreAlike w route → SharesIfOrderly w route events report

-- `replay` at Ok: the files that it names were replayed so, where they are told
abbrev pub IsReplayedOverTests : {W : Type 0} → world.Ghosts W → List (List ℕ) → FileReads
    → SinkWrites → Status → Type 0
IsReplayedOverTests w words reads writes ended =
    (config script config_text script_text : List ℕ)
    → ended ≡ Ok → words ≡ codes "replay" ∷ config ∷ script ∷ []
    → reads.contents config ≡ Some config_text → reads.contents script ≡ Some script_text
    → IsReplayOverTests w config_text script_text writes
