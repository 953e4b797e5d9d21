-- What the answer of a leg is (this project's own): it fits what was asked, it is the world's at
-- one of the class's addresses inside the login of who asks, and a mark has its cause
use Rattle.std.specs.Prelude.{◌≡◌, ◌⊎◌, ℕ, ◌+◌, ◌-◌, ◌<◌, ◌≤◌, List, length, Contains, Result, Ok, Err}
use Rattle.z_types.specs.Bounds.{most_number}
use Rattle.z_types.specs.declared.address.Address.{Address}
use Rattle.z_types.specs.declared.diagnostic.Diag.{Diag}
use Rattle.z_types.specs.declared.marks.Mark.TheVariants as mark
use Rattle.z_types.specs.declared.records.Item.{Item}
use Rattle.z_types.specs.declared.world.World as world
use Rattle.route_config.specs.declared.route.PoolNumbers.{PoolNumbers}
use Rattle.gw_outside.specs.Peers.{AreRecords}
use Rattle.leg.specs.declared.accounts.Account.{Account}
use Rattle.leg.specs.declared.answers.LegAnswer.{LegAnswer}
use Rattle.leg.specs.declared.answers.LegAnswer.TheVariants as answer
use Rattle.leg.specs.declared.tasks.Task.{Task}
use Rattle.leg.specs.declared.tasks.Task.TheVariants.{Hits, Records, Scan}
use Rattle.leg.specs.Rules.{out_of_range}
use Rattle.leg.specs.Terms.{Terms, sites}

-- ---- at every address

-- the answer fits the task: hits that are a count, all the records or fewer with a diagnostic, or
-- entries; for each a diagnostic, or a mark other than Plain
abbrev pub AnswerFits : Task → LegAnswer → Type 0
AnswerFits task (answer.Refused diag) = Unit {0}
AnswerFits task (answer.Marked mark.Plain) = ⊥
AnswerFits task (answer.Marked mark) = Unit {0}
AnswerFits (Hits key) (answer.Hits hits) = hits ≤ most_number
AnswerFits (Records key first count syntax element) (answer.Items items) = length items ≡ count
AnswerFits (Records key first count syntax element) (answer.Broken items diag) =
    length items < count
AnswerFits (Scan ask) (answer.Scanned entries) = Unit {0}
AnswerFits task answer = ⊥

-- ---- at an address that is told

-- records of a set from one on, up to the diagnostic in place of the next; or fewer than were asked
-- for, since the set has no more
pub record IsShort (search : Result ℕ Diag) (first count : ℕ) (diag : Diag) : Type 0 where
  pub hits : ℕ
  pub found : search ≡ Ok hits
  pub fewer : hits < first + (count - 1)
  pub says : diag ≡ out_of_range

abbrev pub AreBroken : Result ℕ Diag → (ℕ → Result Item Diag) → (first count : ℕ) → List Item
    → Diag → Type 0
AreBroken search record_at first count items diag =
    AreRecords record_at first items
    × ((record_at (first + length items) ≡ Err diag) ⊎ IsShort search first count diag)

-- the answer is the world's at the address, of these databases
module _ {W : Type 0} (w : world.Ghosts W) (dbs : List (List ℕ)) where
  abbrev pub IsWorldsAt : Task → Address → LegAnswer → Type 0
  IsWorldsAt (Hits key) address (answer.Hits hits) = w.search address key ≡ Ok hits
  IsWorldsAt (Hits key) address (answer.Refused diag) = w.search address key ≡ Err diag
  IsWorldsAt (Records key first count syntax element) address (answer.Items items) =
      AreRecords (λ position. w.record_ address key position syntax element) first items
  IsWorldsAt (Records key first count syntax element) address (answer.Broken items diag) =
      AreBroken (w.search address key)
      (λ position. w.record_ address key position syntax element) first count items diag
  IsWorldsAt (Records key first count syntax element) address (answer.Refused diag) =
      (w.search address key ≡ Err diag) ⊎ (w.record_ address key first syntax element ≡ Err diag)
  IsWorldsAt (Scan ask) address (answer.Scanned entries) = w.scan address dbs ask ≡ Ok entries
  IsWorldsAt (Scan ask) address (answer.Refused diag) = w.scan address dbs ask ≡ Err diag
  IsWorldsAt task address answer = Unit {0}

  -- so where the address is told; a mark is no answer of a target
  abbrev pub IsRightAt : Task → Address → LegAnswer → Type 0
  IsRightAt task address (answer.Marked mark) = Unit {0}
  IsRightAt task address answer = w.told address → IsWorldsAt task address answer

-- so at one of the addresses, inside the login
abbrev pub IsRight : {W : Type 0} → world.Ghosts W → Terms → Task → LegAnswer → Type 0
IsRight w terms task (answer.Marked mark) = Unit {0}
IsRight w terms task answer =
    (address : Address) × Contains (sites terms) address
    × IsRightAt w terms.dbs task address answer

-- ---- its cause

-- why a mark comes: a fault that may not be tried again; as many looks as there is patience for; as
-- many Gones as are repeated and one more; a door that was full, with as many sessions as it opens
-- at most
abbrev pub IsCaused : PoolNumbers → (most : ℕ) → Account → LegAnswer → Type 0
IsCaused pool most account (answer.Marked mark.Link) = 1 ≤ account.spent
IsCaused pool most account (answer.Marked (mark.Silent looks)) =
    (looks ≡ pool.patience) × (pool.patience ≤ account.looks)
IsCaused pool most account (answer.Marked mark.Gone) = pool.repeats + 1 ≤ account.gones
IsCaused pool most account (answer.Marked (mark.Full sessions)) =
    (sessions ≡ most) × (1 ≤ account.fulls)
IsCaused pool most account answer = Unit {0}
