-- What the program tells of itself, and what it does at any words (this project's own)
use Rattle.z_types.specs.Same.{is_same}
use Rattle.std.specs.Prelude.{ℕ, List, [], ◌∷◌, ◌++◌, Option, None, Some, if◌then◌else◌, codes}
use Rattle.z_types.specs.declared.world.World as world
use Rattle.gateway_config.specs.ConfigRead.{IsTold}
use Rattle.gateway_config.specs.Lines.{line_of}
use Rattle.gateway_top.specs.Outcome.{IsDone}
use Rattle.gateway_config.specs.Outside.{FileReads, SinkWrites}
use Rattle.gateway_config.specs.declared.status.Status.{Status}
use Rattle.replay_top.specs.Outside.{WireCalls}

-- what the program is, and its words
abbrev pub help_text : List ℕ
help_text =
    line_of (codes "Zaklumen, a gateway for Z39.50 and SRU.") ++ line_of []
    ++ line_of (codes "check CONFIG               reads a configuration, and prints how many "
    ++ codes "databases and classes it has")
    ++ line_of (codes "replay CONFIG SCRIPT       plays what a script says of clients, time "
    ++ codes "and targets, and prints what clients are answered")
    ++ line_of (codes "load N                     plays N clients of four requests each, and "
    ++ codes "prints how many octets, searches and links that took")
    ++ line_of (codes "serve CONFIG PORT WORKERS  serves clients at a port of this machine, "
    ++ codes "as many at once as there are workers (1 to 64)")
    ++ line_of (codes "events CONFIG PORT MOST    serves clients on one thread, as many at once "
    ++ codes "as MOST says (1 to 1000)")
    ++ line_of (codes "serve .. --listen ADDRESS  the same, at another address of this "
    ++ codes "machine than 127.0.0.1")
    ++ line_of
    (codes "serve .. --quiet           the same, and logs no connection that begins or ends")
    ++ line_of (codes "--help                     prints this")
    ++ line_of (codes "--version                  prints the version")

-- its name and number
abbrev pub version_text : List ℕ
version_text = line_of (codes "zaklumen 0.1.0")

-- the text that a word asks for
abbrev pub text_of_word : List ℕ → Option (List ℕ)
text_of_word word =
    if is_same word (codes "--help") then Some help_text
    else (if is_same word (codes "--version") then Some version_text else None)

-- the text that words ask for: one word alone
abbrev pub own_text : List (List ℕ) → Option (List ℕ)
own_text (word ∷ []) = text_of_word word
own_text words = None

-- a text of the program's own was asked for, or else a command
abbrev pub ToldOrDone : {W S : Type 0} → world.Ghosts W → WireCalls W S → Option (List ℕ)
    → List (List ℕ) → FileReads → SinkWrites → Status → Type 0
ToldOrDone w calls (Some text) words reads writes ended = IsTold text writes ended
ToldOrDone w calls None words reads writes ended = IsDone w calls words reads writes ended

-- what the program did at these words
abbrev pub IsProgramDone : {W S : Type 0} → world.Ghosts W → WireCalls W S → List (List ℕ)
    → FileReads → SinkWrites → Status → Type 0
IsProgramDone w calls words reads writes ended =
    ToldOrDone w calls (own_text words) words reads writes ended
