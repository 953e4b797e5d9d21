-- For contracts alone: sessions with targets that are whole (this project's own): over a quiet
-- backend nothing cuts their links, the reply that they wait for comes at the first look, and the
-- sets that they made are there
use Rattle.std.specs.Prelude.{◌≡◌, ℕ, ◌≤◌, Bool, true, false, if◌then◌else◌, is_some, List, [], ◌∷◌, Option, None, Some}
use Rattle.std.specs.List.{AllByRecursion}
use Rattle.z_types.specs.Links.{LinkView}
use Rattle.z_types.specs.Pending.{Pending, resting, opening, asked, broken}
use Rattle.z_types.specs.Same.{is_same}
use Rattle.z_types.specs.declared.address.Address.{Address}
use Rattle.z_types.specs.declared.ask.Ask.{Ask}
use Rattle.z_types.specs.declared.ask.Ask.TheVariants.{Search, Present, Scan}
use Rattle.z_types.specs.declared.sitting.Sitting as sitting
use Rattle.z_types.specs.declared.world.World as world
use Rattle.gw_outside.specs.Sessions.{Made}
use Rattle.gw_outside.specs.Steady.{IsPresent, is_good}
use Rattle.pool_sets.specs.Kept.{slot_name}
use Rattle.pool_sets.specs.Plain.{Pool}
use Rattle.pool_sets.specs.Sessions.{Session}
use Rattle.pool_sets.specs.declared.pooled.Parts.{Parts}
use Rattle.pool_sets.specs.declared.sessions.Stand.{Stand}
use Rattle.pool_sets.specs.declared.sessions.Stand.TheVariants.{Idle, Out}
use Rattle.package.specs.leg.Terms.{Terms, opened_at}
use Rattle.package.specs.leg.declared.phases.Phase.{Phase}
use Rattle.package.specs.leg.declared.phases.Phase.TheVariants.{Dialling, Dialled, Ready, Searching, Presenting, Fetching, Scanning, Returning}

-- ---- a session

-- a Present that is awaited finds its set
abbrev pub FindsItsSet : Ask → LinkView → Type 0
FindsItsSet (Present name first count syntax element) link = link.gone ≡ false
FindsItsSet ask link = Unit {0}

-- no reply is owed but the one that is awaited, which comes at the first look
abbrev pub RepliesAtOnce : Pending → LinkView → Type 0
RepliesAtOnce resting link = link.delays ≡ []
RepliesAtOnce opening link = link.delays ≡ 0 ∷ []
RepliesAtOnce (asked ask) link = (link.delays ≡ 0 ∷ []) × FindsItsSet ask link
RepliesAtOnce broken link = ⊥

module _ {W : Type 0} (w : world.Ghosts W) (address : Address) where
  -- whether a set stands under a name once the search is answered that is awaited
  abbrev pub will_stand : Pending → Made → List ℕ → Bool
  will_stand (asked (Search own key)) made name =
      if is_same own name then is_good (w.search address key) else is_some (made name)
  will_stand waits made name = is_some (made name)

  -- of a session at an address, by what it waits for, what it made, and how its link stands: the
  -- target holds what it made
  pub record IsWholeAs (pending : Pending) (made : Made) (link : LinkView) : Type 0 where
    pub told : w.told address
    pub linked : 1 ≤ link.number
    pub replies : RepliesAtOnce pending link
    pub holds : (name : List ℕ) → will_stand pending made name ≡ true → link.holds name ≡ true

module _ {W S : Type 0} (w : world.Ghosts W) (t : sitting.Ghosts S W) where
  -- a session is whole; one that is broken is not
  abbrev pub IsWhole : S → Type 0
  IsWhole session =
      IsWholeAs w (t.address session) (t.pending session) (t.made session) (t.link session)

  -- and waits for this
  pub record IsWholeAt (pending : Pending) (session : S) : Type 0 where
    pub whole : IsWhole session
    pub waits : t.pending session ≡ pending

  -- and waits for the reply to such an ask
  pub record IsWholeAsked (IsSo : Ask → Type 0) (session : S) : Type 0 where
    pub ask : Ask
    pub at : IsWholeAt (asked ask) session
    pub is_so : IsSo ask

-- ---- a leg

-- a search under the name of a slot
abbrev pub IsSearchUnder : ℕ → Ask → Type 0
IsSearchUnder slot (Search name key) = name ≡ slot_name slot
IsSearchUnder slot ask = ⊥

abbrev pub IsScan : Ask → Type 0
IsScan (Scan dbs ask) = Unit {0}
IsScan ask = ⊥

module _ {W S : Type 0} (w : world.Ghosts W) (t : sitting.Ghosts S W) where
  -- the session made a set under a slot
  abbrev pub HasMade : ℕ → S → Type 0
  HasMade slot session = is_some (t.made session (slot_name slot)) ≡ true

  -- what is dialled is told, and the session of a leg is whole, by where the leg stands
  abbrev pub IsWholeIn : Terms → Phase S → Type 0
  IsWholeIn terms (Dialling seat member) = w.told (opened_at terms member)
  IsWholeIn terms (Dialled held looks) = IsWholeAt w t opening held.parts.session
  IsWholeIn terms (Ready held items) = IsWholeAt w t resting held.parts.session
  IsWholeIn terms (Searching held items slot looks) =
      IsWholeAsked w t (IsSearchUnder slot) held.parts.session
  IsWholeIn terms (Presenting held items slot hits) =
      IsWholeAt w t resting held.parts.session × HasMade slot held.parts.session
  IsWholeIn terms (Fetching held items slot hits looks) =
      IsWholeAsked w t IsPresent held.parts.session × HasMade slot held.parts.session
  IsWholeIn terms (Scanning held looks) = IsWholeAsked w t IsScan held.parts.session
  IsWholeIn terms (Returning held answer) = IsWholeAt w t resting held.parts.session
  IsWholeIn terms phase = Unit {0}

-- ---- a pool

module _ {S : Type 0} (IsSo : S → Type 0) where
  -- a session that is idle is so
  abbrev pub IsIdleStand : Stand (Parts S) Address → Type 0
  IsIdleStand (Idle parts since) = IsSo parts.session
  IsIdleStand (Out address) = Unit {0}

  abbrev pub IsIdleSession : Session S → Type 0
  IsIdleSession open_ = IsIdleStand open_.stand

  -- all that are idle are, of a pool that is told
  abbrev pub AreIdle : Option (Pool S) → Type 0
  AreIdle None = ⊥
  AreIdle (Some pool) = AllByRecursion IsIdleSession pool.sessions

module _ {W S : Type 0} (w : world.Ghosts W) (t : sitting.Ghosts S W) where
  -- a session that is idle rests whole
  abbrev pub IsWholeSession : Session S → Type 0
  IsWholeSession open_ = IsIdleSession (IsWholeAt w t resting) open_

  -- all that are idle do
  abbrev pub IsWholePool : Option (Pool S) → Type 0
  IsWholePool pool = AreIdle (IsWholeAt w t resting) pool
