-- How the next unit arrives over a link (X.690:2021, 8.1; what links tell is this project's own)
use Rattle.std.specs.Prelude.{◌≡◌, ◌⊎◌, ℕ, ◌≤◌, true, false, Bool, List, [], ◌∷◌, ◌++◌, length, take, drop, Option, None, Some}
use Rattle.z_ber.specs.Frames.{IsFrame}
use Rattle.z_ber.specs.Header.{IsOpenFor, IsBadFor}
use Rattle.gw_outside.specs.Counts.{Counts, Counted, nothing, after}
use Rattle.gw_outside.specs.declared.links.Linked as linked
use Rattle.gw_outside.specs.declared.wires.Looked.{Looked}
use Rattle.gw_outside.specs.declared.wires.Looked.TheVariants as looked
use Rattle.gw_outside.specs.Happened.{Happened, is_cut, to_peer}
use Rattle.gw_outside.specs.Peers.{Peer}
use Rattle.gw_outside.specs.Wires.{HandsOver, ArrivesFrom, DelaysLooked, first_says_gone}
use Rattle.z_client.specs.declared.arrivals.Arrival.{Arrival}
use Rattle.z_client.specs.declared.arrivals.Arrival.TheVariants.{Unit as Whole, NotYet, Breach, Failed, Memory}

-- what has arrived: a unit in front; what can begin one; or what can begin none
abbrev pub ArrivalFits : List ℕ → Arrival → Type 0
ArrivalFits arrived (Whole size) = (size ≤ length arrived) × IsFrame (take size arrived)
ArrivalFits arrived NotYet = IsOpenFor IsFrame arrived
ArrivalFits arrived Breach = IsBadFor IsFrame arrived
ArrivalFits arrived Failed = Unit {0}
ArrivalFits arrived Memory = Unit {0}

-- what an exact wire counts when the first reply that a peer owes arrives
abbrev pub reply_counted : Peer → Counted
reply_counted peer = record nothing { gone = first_says_gone peer.owed }

-- of each arrival a wire counts waits and failures
abbrev pub arrival_counted : Arrival → Counted
arrival_counted NotYet = record nothing { wait = true }
arrival_counted Failed = record nothing { fault = true }
arrival_counted (Whole size) = nothing
arrival_counted Breach = nothing
arrival_counted Memory = nothing

-- a peer from which nothing has come
pub record HasNotCome (exact : Bool) (old new : Peer) (arrived : List ℕ)
    (before now : Counts) : Type 0 where
  pub same : new ≡ old
  pub none : arrived ≡ []
  pub counts : exact ≡ true → now ≡ before

-- a peer whose first reply that is owed has come whole
pub record HasHandedOver (exact : Bool) (old new : Peer) (arrived : List ℕ)
    (before now : Counts) : Type 0 where
  pub hands : HandsOver old new arrived
  pub counts : exact ≡ true → now ≡ after (reply_counted old) before

module _ (exact : Bool) where
  -- since nothing had arrived nothing has, or the first reply that is owed
  abbrev pub CameFrom : Option Peer → Option Peer → List ℕ → Counts → Counts → Type 0
  CameFrom None new arrived before now = Unit {0}
  CameFrom (Some old) None arrived before now = ⊥
  CameFrom (Some old) (Some new) arrived before now =
      HasNotCome exact old new arrived before now ⊎ HasHandedOver exact old new arrived before now

  -- what an exact wire counts where a unit was awaited in vain
  abbrev pub AwaitedInVain : Peer → Arrival → Counts → Counts → Type 0
  AwaitedInVain old answer before now =
      exact ≡ true
      → (now ≡ after (arrival_counted answer) before) ⊎ (now ≡ after (reply_counted old) before)

  -- a unit that stands in front is all that has arrived, as the first reply that is owed; while
  -- none has come nothing changes; no breach does
  abbrev pub ArrivesBy : Option Peer → Option Peer → List ℕ → Counts → Counts → Arrival → Type 0
  ArrivesBy None new arrived before now answer = Unit {0}
  ArrivesBy (Some old) new arrived before now Breach = ⊥
  ArrivesBy (Some old) new arrived before now Failed =
      exact ≡ true → now ≡ after (arrival_counted Failed) before
  ArrivesBy (Some old) new arrived before now Memory = AwaitedInVain old Memory before now
  ArrivesBy (Some old) None arrived before now (Whole size) = ⊥
  ArrivesBy (Some old) (Some new) arrived before now (Whole size) =
      HasHandedOver exact old new (take size arrived) before now × (drop size arrived ≡ [])
  ArrivesBy (Some old) None arrived before now NotYet = ⊥
  ArrivesBy (Some old) (Some new) arrived before now NotYet =
      (new ≡ old) × (arrived ≡ []) × (exact ≡ true → now ≡ after (arrival_counted NotYet) before)

-- what stands in front of octets that have arrived, if it is whole or can never be
abbrev pub IsInFront : List ℕ → Option Arrival → Type 0
IsInFront arrived None = IsOpenFor IsFrame arrived
IsInFront arrived (Some (Whole size)) = (size ≤ length arrived) × IsFrame (take size arrived)
IsInFront arrived (Some Breach) = IsBadFor IsFrame arrived
IsInFront arrived (Some NotYet) = ⊥
IsInFront arrived (Some Failed) = ⊥
IsInFront arrived (Some Memory) = ⊥

-- what a look found: more has arrived; or nothing; or the link is of no more use
abbrev pub IsLooked : Option Peer → Option Peer → List ℕ → List ℕ → Option Arrival → Type 0
IsLooked old new before after None =
    (octets : List ℕ) × (after ≡ before ++ octets) × ArrivesFrom old new octets
IsLooked old new before after (Some NotYet) = (after ≡ before) × (new ≡ old)
IsLooked old new before after (Some Failed) = Unit {0}
IsLooked old new before after (Some Memory) = Unit {0}
IsLooked old new before after (Some (Whole size)) = ⊥
IsLooked old new before after (Some Breach) = ⊥

-- what a look answered where it found this
abbrev pub looked_for : Option Arrival → Looked
looked_for None = looked.Arrived
looked_for (Some NotYet) = looked.NotYet
looked_for (Some Failed) = looked.Failed
looked_for (Some Memory) = looked.Memory
looked_for (Some (Whole size)) = looked.Memory
looked_for (Some Breach) = looked.Memory

-- ---- over a steady wire

-- what the last look answered
abbrev pub last_looked : Arrival → Looked
last_looked (Whole size) = looked.Arrived
last_looked Breach = looked.Arrived
last_looked NotYet = looked.NotYet
last_looked Failed = looked.Failed
last_looked Memory = looked.Memory

-- a unit was awaited over a steady link that tells its peer: with one look, over a link that is not
-- cut where it came, and in vain where it is not due, or where the link is cut
pub record AwaitsSteadily {L : Type 0} (l : linked.Ghosts L) (h : Happened) (old new : L)
    (answer : Arrival) : Type 0 where
  pub number : l.number new ≡ l.number old
  pub delays : DelaysLooked (l.delays old) (l.delays new) (last_looked answer)
  pub fails : answer ≡ Failed → is_cut (to_peer h (l.peer old)) (l.number old) ≡ true
  pub uncut : last_looked answer ≡ looked.Arrived
      → is_cut (to_peer h (l.peer old)) (l.number old) ≡ false

module _ {L : Type 0} (l : linked.Ghosts L) (h : Happened) where
  -- nothing has come
  pub record NoneCame (old new : L) : Type 0 where
    pub none : l.arrived new ≡ []
    pub peer : l.peer new ≡ l.peer old
    pub delays : l.delays new ≡ l.delays old

  -- one reply has, when it was due, over a link that is not cut
  pub record OneCame (old new : L) : Type 0 where
    pub frame : IsFrame (l.arrived new)
    pub due : l.delays old ≡ 0 ∷ l.delays new
    pub uncut : is_cut (to_peer h (l.peer old)) (l.number old) ≡ false

  -- a link while a unit is awaited
  pub record IsAwaited (old new : L) : Type 0 where
    pub number : l.number new ≡ l.number old
    pub came : NoneCame old new ⊎ OneCame old new
