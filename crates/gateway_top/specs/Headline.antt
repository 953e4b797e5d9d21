-- The main theorem: what is printed of a replay, of a load, and of a configuration that is checked.
-- A replay of the configuration and the script of two files printed the page of one report, and
-- nothing else, whatever the script interleaves. On a fair route, whose targets' answers are known
-- whichever member of a group is asked, each client that it names, once and in ascending order, and
-- no other, was written the answers to the octets that it was fed, as Z39.50 or, where a letter
-- comes first, as HTTP: those of a route with private sessions with the targets and no pool, under
-- the marks that the report lists, one for each request that is answered. No other client, no
-- session with a target, no pool and no clock is in that answer. A mark other than Plain comes with
-- its counted cause alone: over all clients the wire counted a fault for each Link, and as many
-- looks in vain as the pool is patient for each Silent; where one is Full, as many links are
-- printed, or calls failed, as there may be sessions; and a wire that counts exactly, one reply
-- more that a set is gone than the pool repeats for each Gone. The sums that are printed, of links,
-- Searches, sets gone and calls that failed, are what such a wire counted. Over a wire that counts
-- exactly, had counted nothing and to which nothing was made to happen, at targets that tell what
-- they answer, a script that cuts and slows no link and deletes no set has no failed call and no
-- set gone, and every mark is Plain or Full; and Plain, where fewer links were made than there may
-- be sessions of a class, or where there may be, for each client named, as many as the route's
-- databases have legs, or 16 where they have more. So they are whatever is cut, slowed and deleted,
-- if no cut and no deletion falls while a request is in work (seen in what it went through), no
-- more Presents find sets deleted than the pool repeats, and replies come within its patience. And
-- where a script is orderly over such a wire without links (no two requests are in work at once,
-- nothing befalls a link, the legs of each request go to different classes, and the sets of a class
-- find room in one session), every mark is Plain, and the searches and dials that are printed are
-- those that sharing needs, class by class: they are counted from the script and what targets mean,
-- without a pool. Each load is orderly. Where every mark is Plain, octets have one answer
-- (`one_answer` of `sru_rules`); they have one end, by the route alone (`one_end`). So two replays
-- that feed a client the same octets, with all its marks Plain, write it the same and end it the
-- same.
use Rattle.std.specs.Prelude.{◌≡◌, ℕ, List, [], ◌∷◌, Some, codes}
use Rattle.z_types.specs.declared.world.World as world
use Rattle.route_config.specs.declared.route.Route.{Route}
use Rattle.script.specs.declared.event.Event.{Event}
use Rattle.script.specs.Events.{most_clients}
use Rattle.gateway_config.specs.Configs.{IsConfigurationOf}
use Rattle.gateway_config.specs.Lines.{Received}
use Rattle.gateway_config.specs.Numbers.{number_in}
use Rattle.gateway_top.specs.Lines.{check_line}
use Rattle.gateway_top.specs.Load.{HasLoaded}
use Rattle.gateway_top.specs.Outcome.{HasPrinted, IsPlayable}
use Rattle.gateway_config.specs.Outside.{FileReads, SinkWrites}
use Rattle.gateway_config.specs.declared.status.Status.{Status}
use Rattle.gateway_config.specs.declared.status.Status.TheVariants.{Ok}
use Rattle.replay_top.specs.Outside.{WireCalls}

-- the configuration and the script were replayed, and the page is what was printed
pub record IsReplay {W S : Type 0} (w : world.Ghosts W) (calls : WireCalls W S)
    (config script : List ℕ) (writes : SinkWrites) : Type 0 where
  pub route : Route
  pub configured : IsConfigurationOf route config
  pub events : List Event
  pub scripted : IsPlayable route events script
  pub printed : HasPrinted w calls route events writes

-- the configuration was checked, and that it is good is what was printed
pub record IsCheck (config : List ℕ) (writes : SinkWrites) : Type 0 where
  pub route : Route
  pub configured : IsConfigurationOf route config
  pub printed : Received writes (check_line route)

-- `replay` at Ok: the files that it names were replayed, where they are told
abbrev pub IsReplayHeadline : {W S : Type 0} → world.Ghosts W → WireCalls W S → List (List ℕ)
    → FileReads → SinkWrites → Status → Type 0
IsReplayHeadline w calls words reads writes ended =
    (config script config_text script_text : List ℕ)
    → ended ≡ Ok → words ≡ codes "replay" ∷ config ∷ script ∷ []
    → reads.contents config ≡ Some config_text → reads.contents script ≡ Some script_text
    → IsReplay w calls config_text script_text writes

-- `load` at Ok: so many clients were played, and the line of a report of them was printed
abbrev pub IsLoadHeadline : {W S : Type 0} → world.Ghosts W → WireCalls W S → List (List ℕ)
    → SinkWrites → Status → Type 0
IsLoadHeadline w calls words writes ended =
    (number : List ℕ) (clients : ℕ)
    → ended ≡ Ok → words ≡ codes "load" ∷ number ∷ []
    → number_in 0 most_clients number ≡ Some clients
    → HasLoaded w calls clients writes

-- `check` at Ok: the file that it names was checked, where it is told
abbrev pub IsCheckHeadline : List (List ℕ) → FileReads → SinkWrites → Status → Type 0
IsCheckHeadline words reads writes ended =
    (config config_text : List ℕ)
    → ended ≡ Ok → words ≡ codes "check" ∷ config ∷ []
    → reads.contents config ≡ Some config_text
    → IsCheck config_text writes
