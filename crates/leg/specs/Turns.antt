-- The law of a leg (this project's own): what a turn does to the leg, its door and its backend
use Rattle.std.specs.Prelude.{◌≡◌, ℕ, ◌<◌, ◌≤◌, Bool, true, false, List, length, Option, None, Some, option_map}
use Rattle.z_types.specs.declared.ask.Ask.{Ask}
use Rattle.z_types.specs.declared.sitting.Sitting as sitting
use Rattle.z_types.specs.declared.world.World as world
use Rattle.route_config.specs.declared.route.Route.{Route}
use Rattle.gw_outside.specs.Sessions.{IfSession, IsNewSession, Fits, IsWorlds, pending_from, pending_after, made_after}
use Rattle.gw_outside.specs.declared.backends.Began.{Began}
use Rattle.gw_outside.specs.declared.backends.Heard.{Heard}
use Rattle.pool_sets.specs.Counts.{DoorCounts}
use Rattle.pool_sets.specs.Doors.{TakenFits, Takes, Redials}
use Rattle.pool_sets.specs.Plain as plain
use Rattle.pool_sets.specs.declared.doors.Seat.{Seat}
use Rattle.leg.specs.declared.accounts.Account.{Account}
use Rattle.leg.specs.declared.answers.Turned.{Turned}
use Rattle.leg.specs.declared.answers.Turned.TheVariants as turned
use Rattle.leg.specs.declared.phases.Phase.{Phase}
use Rattle.leg.specs.declared.phases.Phase.TheVariants.{Begin, Dialling, Dialled, Ready, Searching, Presenting, Fetching, Scanning, Returning, Losing, Redialling, Spoiled, Done, Ended}
use Rattle.leg.specs.declared.tasks.Task.{Task}
use Rattle.leg.specs.Accounts.{counted, more}
use Rattle.leg.specs.Deeds.{Deed, took, opened, began, heard, put_back, gave_up, redialled, no_memory, nothing, rises_of, looks_after, waits, door_counts, BackendView, BackendMoves}
use Rattle.leg.specs.Kept.{StandsAt, IsWithin}
use Rattle.leg.specs.LegView.{LegView}
use Rattle.leg.specs.Links.{LinksMove}
use Rattle.leg.specs.Phases.{is_given, looks_of, seat_of}
use Rattle.leg.specs.Rules.{first_ask, next_ask, next, left_by, Becomes}
use Rattle.leg.specs.Tasks.{want_of}
use Rattle.leg.specs.Terms.{Terms, terms_of, opened_at}

-- ---- which deed is due

module _ {W S : Type 0} (w : world.Ghosts W) (t : sitting.Ghosts S W) where
  -- what an ask does to a session
  pub record IsAsked (due asked : Ask) (before after : S) (answer : Began) : Type 0 where
    pub asks : asked ≡ due
    pub waits : t.pending after ≡ pending_from asked answer
    pub address : t.address after ≡ t.address before
    pub made : (name : List ℕ) → t.made after name ≡ t.made before name

  abbrev pub IsAskedIf : Option Ask → Ask → S → S → Began → Type 0
  IsAskedIf None asked before after answer = ⊥
  IsAskedIf (Some due) asked before after answer = IsAsked due asked before after answer

  -- what a look does to a session: what is heard fits what it waits for, and is the world's where
  -- its address is told
  pub record IsLook (before after : S) (reply : Heard) : Type 0 where
    pub fits : Fits (t.pending before) reply
    pub worlds : w.told (t.address before)
        → IsWorlds w (t.address before) (t.made before) (t.pending before) reply
    pub waits : t.pending after ≡ pending_after (t.pending before) reply
    pub address : t.address after ≡ t.address before
    pub made : (name : List ℕ)
        → t.made after name ≡ made_after (t.pending before) reply (t.made before) name

  module _ (terms : Terms) (most : ℕ) (task : Task) where
    -- in each phase one deed is due: a session of the class and login is taken, for the set that is
    -- wanted; the address of the member that the door named is opened, inside the login; a session
    -- is asked or looked at, put back, given up or dialled again. What is opened or asked for is
    -- made before, and memory may lack for it; a leg without a session lacks it for good; one that
    -- is done does nothing
    abbrev pub IsDue : Phase S → Deed S → Type 0
    IsDue Begin (took taken) =
        TakenFits w t terms.class terms.at terms.login (want_of task) most taken
    IsDue (Dialling seat member) (opened made) =
        IfSession made (IsNewSession t (opened_at terms member))
    IsDue (Dialling seat member) no_memory = Unit {0}
    IsDue (Dialled held looks) (heard reply session) = IsLook held.parts.session session reply
    IsDue (Ready held items) (began asked answer session) =
        IsAsked (first_ask terms.dbs task held) asked held.parts.session session answer
    IsDue (Ready held items) no_memory = Unit {0}
    IsDue (Searching held items slot looks) (heard reply session) =
        IsLook held.parts.session session reply
    IsDue (Presenting held items slot hits) (began asked answer session) =
        IsAskedIf (next_ask task items slot) asked held.parts.session session answer
    IsDue (Presenting held items slot hits) no_memory = Unit {0}
    IsDue (Fetching held items slot hits looks) (heard reply session) =
        IsLook held.parts.session session reply
    IsDue (Scanning held looks) (heard reply session) = IsLook held.parts.session session reply
    IsDue (Returning held answer) put_back = Unit {0}
    IsDue (Losing seat answer) gave_up = Unit {0}
    IsDue (Redialling seat) (redialled member) = member < length terms.at
    IsDue (Spoiled seat) no_memory = Unit {0}
    IsDue Ended no_memory = Unit {0}
    IsDue (Done answer) nothing = Unit {0}
    IsDue phase deed = ⊥

-- ---- what it does to a pool that is told

module _ {S : Type 0} (terms : Terms) (task : Task) (now : ℕ) where
  -- one function of the plain pool, or none
  abbrev pub PoolMoves : Phase S → Deed S → Option (plain.Pool S) → Option (plain.Pool S) → Type 0
  PoolMoves phase (took taken) p q =
      Takes p q terms.class terms.at terms.login (want_of task) now taken
  PoolMoves (Returning held answer) put_back p q =
      q ≡ option_map (plain.put held.seat held.parts now) p
  PoolMoves (Losing seat answer) gave_up p q = q ≡ option_map (plain.lost seat) p
  PoolMoves (Redialling seat) (redialled member) p q = Redials p q seat terms.at member
  PoolMoves phase deed p q = q ≡ p

-- a door, as a turn sees it
pub record DoorView (S : Type 0) : Type 0 where
  pub pool : Option (plain.Pool S)
  pub counts : DoorCounts

-- ---- the turn

-- a turn answers that the leg is done exactly where it is
abbrev pub is_done_answer : Turned → Bool
is_done_answer turned.Done = true
is_done_answer answer = false

module _ {W S : Type 0} (w : world.Ghosts W) (t : sitting.Ghosts S W) (exact : Bool) (terms : Terms)
    (task : Task) (now : ℕ) where
  -- one turn does one deed, which is due: the leg goes on by the rules, its account counts what
  -- rises, and the door, the backend and the link of its session move so; its looks grow by no more
  -- than the backend's waits
  pub record IsTurn (old new : Phase S) (a b : Account) (answer : Turned) (door after : DoorView S)
      (backend moved : BackendView) : Type 0 where
    pub deed : Deed S
    pub due : IsDue w t terms door.counts.most task old deed
    pub goes : Becomes deed (next terms task now b.gones old deed) (left_by old deed) answer new
    pub account : b ≡ counted terms.class (rises_of (want_of task) deed) (is_given old)
        (looks_after (looks_of old) deed) a
    pub looks : b.looks ≤ more (waits deed) a.looks
    pub pool : PoolMoves terms task now old deed door.pool after.pool
    pub door_counts : after.counts ≡ door_counts (want_of task) deed door.counts
    pub backend_moves : BackendMoves w t exact deed backend moved
    pub links : LinksMove w t exact terms backend moved deed old

-- ---- a leg of a route

-- what holds of a leg whose turns are all given the route: its place is one of the route's legs
pub record IsLegOf {W S : Type 0} (w : world.Ghosts W) (t : sitting.Ghosts S W) (route : Route)
    (most : ℕ) (v : LegView S) : Type 0 where
  pub place : v.leg < length route.legs
  pub stands : StandsAt w t (terms_of route v.login v.leg) most v.task v.phase v.account
  pub within : IsWithin (terms_of route v.login v.leg).pool v.phase v.account

-- the session that is out for a leg, where one is, is lost
abbrev pub lost_seat : {S : Type 0} → Option Seat → plain.Pool S → plain.Pool S
lost_seat None p = p
lost_seat (Some seat) p = plain.lost seat p

-- what giving up does to a pool that is told: the session that is out for the leg is lost
abbrev pub GivesUp : {S : Type 0} → Phase S → Option (plain.Pool S) → Option (plain.Pool S) → Type 0
GivesUp phase p q = q ≡ option_map (lost_seat (seat_of phase)) p
