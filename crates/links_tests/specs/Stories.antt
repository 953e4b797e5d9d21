-- What a session that is played may be asked for (this project's own)
use Rattle.std.specs.Prelude.{◌≡◌, ℕ, ◌+◌, ◌≤◌, List, [], ◌∷◌, length, Option, None, Some, IfSome}
use Rattle.std.specs.List.{AllByRecursion}
use Rattle.z_types.specs.Pending.{Pending, resting, opening, asked}
use Rattle.z_types.specs.declared.ask.Ask.{Ask}
use Rattle.z_types.specs.declared.ask.Ask.TheVariants.{Search, Present, Scan}
use Rattle.z_types.specs.declared.key.SetKey.{SetKey}
use Rattle.z_types.specs.declared.query.Attr.{Attr}
use Rattle.z_types.specs.declared.sitting.Sitting as sitting
use Rattle.z_types.specs.Numbers.{HasNumbers, IsNumber}
use Rattle.gw_outside.specs.Asks.{IsShort, MaySearch, MayScan}
use Rattle.gw_outside.specs.Sessions.{Made}
use Rattle.gw_outside.specs.declared.backends.Heard.{Heard}
use Rattle.gw_outside.specs.declared.backends.Heard.TheVariants.{Hits, Refused, NotYet, Failed, Memory}
use Rattle.links_tests.specs.declared.plays.Stage.{Stage}
use Rattle.links_tests.specs.declared.plays.Stage.TheVariants as stage

-- the name of the set, the digit 0
abbrev pub set_name : List ℕ
set_name = 48 ∷ []

-- an attribute of one type and value
pub record IsOneAttribute (attrs : List Attr) : Type 0 where
  pub one : length attrs ≡ 1
  pub numbers : AllByRecursion HasNumbers attrs

-- some of `hits` records
pub record IsWithin (hits first count : ℕ) : Type 0 where
  pub from_one : 1 ≤ first
  pub some : 1 ≤ count
  pub within : first + count ≤ hits + 1
  pub first_number : IsNumber first
  pub count_number : IsNumber count

-- what may be asked of a session whose set has `hits` records
abbrev pub MayAskOf : ℕ → Ask → Type 0
MayAskOf hits (Search name key) = (name ≡ set_name) × MaySearch set_name key
MayAskOf hits (Present name first count syntax element) =
    (name ≡ set_name) × IsWithin hits first count × IfSome element IsShort
MayAskOf hits (Scan dbs ask) = MayScan dbs ask

-- the set has `hits` records, unless it has none
abbrev pub HasHits : Made → ℕ → Type 0
HasHits made hits = 1 ≤ hits → (key : SetKey) × (made set_name ≡ Some (key, hits))

-- a search that is asked for is for the set
abbrev pub IsOwn : Option Ask → Type 0
IsOwn None = Unit {0}
IsOwn (Some (Search name key)) = name ≡ set_name
IsOwn (Some (Present name first count syntax element)) = Unit {0}
IsOwn (Some (Scan dbs ask)) = Unit {0}

-- how many records the set has after the answer to a search
abbrev pub found_after : Heard → ℕ → ℕ
found_after (Hits found) hits = found
found_after (Refused diag) hits = 0
found_after heard hits = hits

-- how many records the set has after what was heard of what was asked
abbrev pub hits_after : Option Ask → Heard → ℕ → ℕ
hits_after None heard hits = hits
hits_after (Some (Search name key)) heard hits = found_after heard hits
hits_after (Some (Present name first count syntax element)) heard hits = hits
hits_after (Some (Scan dbs ask)) heard hits = hits

-- what is awaited: the reply to an ask, or else to the Init
abbrev pub awaited : Option Ask → Pending
awaited None = opening
awaited (Some ask) = asked ask

-- after an answer a session rests; where there is no reply yet it waits on; and it is no more where
-- a call failed
abbrev pub stage_after : {S : Type 0} → S → Option Ask → Heard → Stage S
stage_after session ask NotYet = stage.Waits session ask
stage_after session ask Failed = stage.None
stage_after session ask Memory = stage.None
stage_after session ask heard = stage.Rests session

module _ {W S : Type 0} (t : sitting.Ghosts S W) where
  -- a session waits for the reply to an ask, or else to its Init, and its set has `hits` records
  pub record Awaits (session : S) (ask : Option Ask) (hits : ℕ) : Type 0 where
    pub pending : t.pending session ≡ awaited ask
    pub own : IsOwn ask
    pub has : HasHits (t.made session) hits

  -- a session rests, and its set has `hits` records
  pub record IsAtRest (session : S) (hits : ℕ) : Type 0 where
    pub pending : t.pending session ≡ resting
    pub has : HasHits (t.made session) hits

  -- a session stands at a stage
  abbrev pub IsStage : Stage S → ℕ → Type 0
  IsStage stage.None hits = Unit {0}
  IsStage (stage.Waits session ask) hits = Awaits session ask hits
  IsStage (stage.Rests session) hits = IsAtRest session hits
