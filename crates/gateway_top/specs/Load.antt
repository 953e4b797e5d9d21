-- The command `load` (this project's own): what is printed of a load, and when each status comes
use Rattle.std.specs.Prelude.{◌≡◌, ℕ, ◌*◌, Bool, true, false, List, ◌++◌, length, codes, sum_by, count_by}
use Rattle.std.specs.List.{range_with_len}
use Rattle.std.specs.Fmt.{decimal}
use Rattle.z_types.specs.declared.marks.Mark.{Mark}
use Rattle.z_types.specs.declared.marks.Mark.TheVariants.{Plain}
use Rattle.z_types.specs.declared.world.World as world
use Rattle.gw_outside.specs.Happened.{IsQuietWire}
use Rattle.replay_shares.specs.gateway_rules.Fair.{IsFair}
use Rattle.route_config.specs.Smallest.{smallest_route}
use Rattle.sample_maker.specs.Load.{letter_of, load_events}
use Rattle.replay_shares.specs.replay.declared.reports.ClassReport.{ClassReport}
use Rattle.replay_shares.specs.replay.declared.reports.ClientReport.{ClientReport}
use Rattle.replay_shares.specs.replay.declared.reports.Report.{Report}
use Rattle.replay_shares.specs.replay.Page.{requests}
use Rattle.load_shares.specs.Costs.{load_dials, load_searches}
use Rattle.load_shares.specs.Runs.{answers_for}
use Rattle.gateway_config.specs.Lines.{Received, ReceivedNothing, FailedWithin, line_of}
use Rattle.gateway_config.specs.Outside.{SinkWrites}
use Rattle.gateway_config.specs.declared.status.Status.{Status}
use Rattle.gateway_config.specs.declared.status.Status.TheVariants as status
use Rattle.replay_top.specs.Outside.{WireCalls}
use Rattle.replay_top.specs.Reported.{IsPlayedReport}

-- the mark of an answer that no target and no pool failed
abbrev pub is_plain : Mark → Bool
is_plain Plain = true
is_plain other = false

-- how many marks are Plain
abbrev pub plain_requests : List ClientReport → ℕ
plain_requests clients = sum_by (λ client. count_by is_plain client.marks) clients

-- how many octets were written to clients
abbrev pub octets_written : List ClientReport → ℕ
octets_written clients = sum_by (λ client. length client.bytes) clients

-- how many searches were sent to targets
abbrev pub searches_sent : List ClassReport → ℕ
searches_sent classes = sum_by (λ class. class.searches) classes

-- how many links with targets were made
abbrev pub links_made : List ClassReport → ℕ
links_made classes = sum_by (λ class. class.dials) classes

-- the line of a load of so many clients
unfoldable pub load_line : (clients : ℕ) → Report → List ℕ
load_line clients report =
    line_of (
    codes "load clients " ++ decimal clients
    ++ codes " requests " ++ decimal (requests report.clients)
    ++ codes " plain " ++ decimal (plain_requests report.clients)
    ++ codes " bytes " ++ decimal (octets_written report.clients)
    ++ codes " searches " ++ decimal (searches_sent report.classes)
    ++ codes " dials " ++ decimal (links_made report.classes)
    )

-- Of a load no request was marked, and each client was written the answers to the requests of its
-- letter; a search was sent for each of five letters, and one each time where the target refuses a
-- letter; and one link was made.
pub record IsPlainLoad {W : Type 0} (w : world.Ghosts W) (clients : ℕ)
    (report : Report) : Type 0 where
  pub plain : plain_requests report.clients ≡ 4 * clients
  pub written : octets_written report.clients
      ≡ sum_by (λ client. length (answers_for w (letter_of client))) (range_with_len 1 clients)
  pub searched : searches_sent report.classes ≡ load_searches w clients
  pub dialled : links_made report.classes ≡ load_dials clients

-- the sums of a load where the target tells what it answers: each client was answered four
-- requests, whatever befell the links; and over a wire that counts exactly, was quiet and without
-- links before, the load is plain
pub record HasLoadSums {W S : Type 0} (w : world.Ghosts W) (calls : WireCalls W S) (clients : ℕ)
    (report : Report) : Type 0 where
  pub asked : IsFair w smallest_route → requests report.clients ≡ 4 * clients
  pub plain : calls.exact ≡ true → IsFair w smallest_route → IsQuietWire calls.before calls.happened
      → IsPlainLoad w clients report

-- the load of so many clients was played by the route of the smallest configuration, and the line
-- of one report of it was printed, and nothing else
pub record HasLoaded {W S : Type 0} (w : world.Ghosts W) (calls : WireCalls W S) (clients : ℕ)
    (writes : SinkWrites) : Type 0 where
  pub report : Report
  pub played : IsPlayedReport w calls smallest_route (load_events clients) report
  pub sums : HasLoadSums w calls clients report
  pub printed : Received writes (load_line clients report)

-- the same, of which a front of the line was printed, and nothing else, since a write failed
pub record HasLoadedPart {W S : Type 0} (w : world.Ghosts W) (calls : WireCalls W S) (clients : ℕ)
    (writes : SinkWrites) : Type 0 where
  pub report : Report
  pub played : IsPlayedReport w calls smallest_route (load_events clients) report
  pub sums : HasLoadSums w calls clients report
  pub printed : FailedWithin writes (load_line clients report)

-- the load of so many clients was played: its line is printed, or a front of it where the sink
-- failed, or nothing for want of memory
abbrev pub LoadDone : {W S : Type 0} → world.Ghosts W → WireCalls W S → (clients : ℕ) → SinkWrites
    → Status → Type 0
LoadDone w calls clients writes status.Ok = HasLoaded w calls clients writes
LoadDone w calls clients writes status.WriteFault = HasLoadedPart w calls clients writes
LoadDone w calls clients writes status.Memory = ReceivedNothing writes
LoadDone w calls clients writes other = ⊥
