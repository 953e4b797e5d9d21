-- Sessions in memory (this project's own)
use Rattle.std.specs.Prelude.{◌≡◌, ℕ, ◌≤◌, List, [], ◌∷◌, length, Option, None, Result, Ok, Err, if◌then◌else◌}
use Rattle.z_types.specs.declared.diagnostic.Diag.{Diag}
use Rattle.z_types.specs.declared.records.Item.{Item}
use Rattle.z_types.specs.declared.scan.ScanAnswer.{ScanAnswer}
use Rattle.z_types.specs.Pending.{Pending, resting, opening, asked, broken}
use Rattle.z_types.specs.declared.address.Address.{Address}
use Rattle.z_types.specs.declared.ask.Ask.{Ask}
use Rattle.z_types.specs.declared.key.SetKey.{SetKey}
use Rattle.z_types.specs.declared.world.World as world
use Rattle.gw_outside.specs.declared.backends.Heard.{Heard}
use Rattle.gw_outside.specs.declared.backends.Heard.TheVariants.{Refused, Items, Gone, Scanned, NotYet, Failed, Memory}
use Rattle.z_types.specs.Same.{is_same}
use Rattle.gw_outside.specs.Peers.{AreRecords}
use Rattle.gw_outside.specs.Sessions.{Made, AnswerFits, IsWorlds}
use Rattle.gw_memory.specs.declared.sessions.Waiting.{Waiting}
use Rattle.gw_memory.specs.declared.sessions.Waiting.TheVariants as waiting

-- what a session waits for
abbrev pub pending_of : Waiting → Pending
pending_of waiting.Nothing = resting
pending_of waiting.Opening = opening
pending_of (waiting.Answer ask) = asked ask
pending_of waiting.Broken = broken

-- the answer to the last search under a name, of all answers with the last first
abbrev pub made_in : List (List ℕ × Option (SetKey × ℕ)) → Made
made_in [] name = None
made_in (answer ∷ earlier) name = if is_same answer.0 name then answer.1 else made_in earlier name

-- some of the records asked for, from the first on
pub record AreHeard (record_at : ℕ → Result Item Diag) (first count : ℕ)
    (items : List Item) : Type 0 where
  pub some : 1 ≤ length items
  pub few : length items ≤ count
  pub records : AreRecords record_at first items

-- what is heard of a Present
abbrev pub IsHeardOf : (ℕ → Result Item Diag) → ℕ → ℕ → Heard → Type 0
IsHeardOf record_at first count (Items items) = AreHeard record_at first count items
IsHeardOf record_at first count (Refused diag) = record_at first ≡ Err diag
IsHeardOf record_at first count Gone = Unit {0}
IsHeardOf record_at first count Memory = Unit {0}
IsHeardOf record_at first count answer = ⊥

-- what is heard of a Scan
abbrev pub IsHeardScan : Result ScanAnswer Diag → Heard → Type 0
IsHeardScan found (Scanned answer) = found ≡ Ok answer
IsHeardScan found (Refused diag) = found ≡ Err diag
IsHeardScan found Memory = Unit {0}
IsHeardScan found answer = ⊥

-- a session in memory answers at its first look
abbrev pub IsAnswer : Heard → Type 0
IsAnswer NotYet = ⊥
IsAnswer Failed = ⊥
IsAnswer answer = Unit {0}

-- an answer to an ask that fits, and is the world's; or want of memory
abbrev pub Answers : {W : Type 0} → world.Ghosts W → Address → Made → Ask → Heard → Type 0
Answers w address made ask Memory = Unit {0}
Answers w address made ask answer =
    IsAnswer answer × AnswerFits ask answer × IsWorlds w address made (asked ask) answer
