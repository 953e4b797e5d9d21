-- What a look at a session hears, and what has arrived when it does (this project's own)
use Rattle.std.specs.Prelude.{◌≡◌, ◌⊎◌, ◌≤◌, ℕ, Bool, true, List, [], ◌∷◌, length, take, drop, Option, None, Some, Result, Ok, Err}
use Rattle.z_ber.specs.Frames.{IsFrame}
use Rattle.z_ber.specs.Header.{IsOpenFor}
use Rattle.z_types.specs.Pending.{Pending, IsPending, resting, broken}
use Rattle.z_types.specs.declared.address.Address.{Address}
use Rattle.z_types.specs.declared.replies.Reply.{Reply}
use Rattle.z_types.specs.declared.world.World as world
use Rattle.gw_outside.specs.declared.backends.Heard.{Heard}
use Rattle.gw_outside.specs.declared.backends.Heard.TheVariants.{Gone, NotYet, Failed, Memory}
use Rattle.gw_outside.specs.declared.links.Linked as linked
use Rattle.gw_outside.specs.Counts.{Counts, Counted, WireCounts, nothing}
use Rattle.gw_outside.specs.Peers.{Peer}
use Rattle.gw_outside.specs.Sessions.{Made, Fits, IsWorlds, made_after, pending_after, heard_counted}
use Rattle.gw_outside.specs.Wires.{IsReplyUnit}
use Rattle.z_read.specs.Read.{IsReplyRead}
use Rattle.z_read.specs.declared.fault.ReadFault.{ReadFault}
use Rattle.z_read.specs.declared.fault.ReadFault.TheVariants as fault
use Rattle.z_client.specs.declared.session.LinkParts.{LinkParts}
use Rattle.z_client.specs.declared.found.Found.{Found}
use Rattle.z_client.specs.declared.found.Found.TheVariants as found
use Rattle.z_client.specs.Heard.{heard_of, BeginsWithGone, IsBreach}
use Rattle.z_client.specs.Sets.{made_in, pending_of}
use Rattle.z_client.specs.TrueSession.{HasCome, IsTrueSession}

-- what is heard of a unit by what is pending: of the reply that it is; nothing where it is no reply
-- to that
abbrev pub IsHeardIn : Pending → List ℕ → Option Heard → Type 0
IsHeardIn p unit (Some heard) =
    (reply : Reply) × IsReplyRead unit (Ok reply) × (heard_of p reply ≡ Some heard)
IsHeardIn p unit None = (reply : Reply) → IsReplyUnit unit reply → heard_of p reply ≡ None

-- nothing is heard of a unit that is refused
abbrev pub IsUnheard : ReadFault → Option Heard → Type 0
IsUnheard fault.Memory heard = ⊥
IsUnheard (fault.Ber at) heard = heard ≡ None
IsUnheard (fault.UnknownUnit n) heard = heard ≡ None
IsUnheard (fault.Missing n) heard = heard ≡ None
IsUnheard (fault.BadValue n) heard = heard ≡ None
IsUnheard (fault.LeftOut n) heard = heard ≡ None

-- an answer after which a session rests
pub record EndsWait (p : Pending) (heard : Heard) : Type 0 where
  pub fits : Fits p heard
  pub rests : pending_after p heard ≡ resting

-- what is answered is heard of the first reply that a peer owed
abbrev pub IsFirstOwed : List Reply → Pending → Heard → Type 0
IsFirstOwed owed p heard =
    (reply : Reply) × (rest : List Reply) × (owed ≡ reply ∷ rest) × (heard_of p reply ≡ Some heard)

-- a peer is told, and what is answered is heard of what it owed
abbrev pub IsOwed : Option Peer → Pending → Heard → Type 0
IsOwed peer p NotYet = Unit {0}
IsOwed peer p Failed = Unit {0}
IsOwed peer p Memory = Unit {0}
IsOwed None p heard = ⊥
IsOwed (Some peer) p heard = IsFirstOwed peer.owed p heard

-- what a look answers: a breach is a failure
abbrev pub answer_of : Found → Heard
answer_of (found.Heard heard) = heard
answer_of (found.Gone octets) = Gone
answer_of (found.Breach octets) = Failed

-- what a wire counts at a look: a breach is none of its faults
abbrev pub found_counted : Found → Counted
found_counted (found.Heard heard) = heard_counted heard
found_counted (found.Gone octets) = record nothing { gone = true }
found_counted (found.Breach octets) = nothing

-- of a look that found no memory it is not said whether a reply had come that says that a set is
-- gone
abbrev pub FoundCounts : Bool → Found → Counts → Counts → Type 0
FoundCounts exact (found.Heard Memory) old new =
    WireCounts exact nothing old new ⊎ WireCounts exact (record nothing { gone = true }) old new
FoundCounts exact answer old new = WireCounts exact (found_counted answer) old new

-- octets that arrived and were kept: they are a breach, which none from a told address are
pub record IsKeptBreach (told : Type 0) (p : Pending) (arrived octets : List ℕ) : Type 0 where
  pub breach : IsBreach p octets
  pub all : octets ≡ arrived
  pub untold : ¬ told

-- what a look found, by what has arrived and is left
abbrev pub FoundFits : Type 0 → Pending → List ℕ → Found → Type 0
FoundFits told p arrived (found.Heard NotYet) = IsOpenFor IsFrame arrived
FoundFits told p arrived (found.Heard Gone) = ⊥
FoundFits told p arrived (found.Heard heard) = Unit {0}
FoundFits told p arrived (found.Gone octets) = BeginsWithGone octets arrived
FoundFits told p arrived (found.Breach octets) = IsKeptBreach told p arrived octets

-- what was found of a unit
abbrev pub FoundIn : Type 0 → Pending → List ℕ → List ℕ → Found → Type 0
FoundIn told p unit arrived (found.Heard NotYet) = ⊥
FoundIn told p unit arrived (found.Heard Failed) = ⊥
FoundIn told p unit arrived (found.Heard Gone) = ⊥
FoundIn told p unit arrived (found.Heard Memory) = Unit {0}
FoundIn told p unit arrived (found.Heard heard) = IsHeardIn p unit (Some heard)
FoundIn told p unit arrived (found.Gone octets) =
    IsHeardIn p unit (Some Gone) × BeginsWithGone octets arrived
FoundIn told p unit arrived (found.Breach octets) = IsKeptBreach told p arrived octets

-- the octets of a breach, where memory sufficed
abbrev pub KeepsBreach : List ℕ → Found → Type 0
KeepsBreach arrived (found.Breach octets) = octets ≡ arrived
KeepsBreach arrived (found.Heard heard) = heard ≡ Memory
KeepsBreach arrived (found.Gone octets) = ⊥

-- what was heard, if it could be kept
abbrev pub heard_if_kept : {E : Type 0} → Result (Unit {0}) E → Heard → Heard
heard_if_kept (Ok done) heard = heard
heard_if_kept (Err why) heard = Memory

module _ {W : Type 0} (w : world.Ghosts W) (address : Address) where
  -- a peer is told, whose reply has come
  abbrev pub IsToldCome : Made → Pending → Option Peer → List ℕ → Type 0
  IsToldCome made p None octets = ⊥
  IsToldCome made p (Some peer) octets = HasCome w address made p peer octets

module _ {W L : Type 0} (w : world.Ghosts W) (l : linked.Ghosts L) where
  -- a unit of this size has arrived at a session that waits; where the address is told it is the
  -- reply to what is pending, and nothing more has come
  pub record HasArrived (s : LinkParts L) (p : Pending) (size : ℕ) : Type 0 where
    pub few : size ≤ length (l.arrived s.link)
    pub frame : IsFrame (take size (l.arrived s.link))
    pub waits : IsPending p
    pub meanwhile : pending_of s.waiting ≡ broken
    pub come : w.told s.address
        → IsToldCome w s.address (made_in s.made.items) p (l.peer s.link)
        (take size (l.arrived s.link))
    pub all : w.told s.address → drop size (l.arrived s.link) ≡ []
    pub exact : l.exact ≡ true → w.told s.address

  -- a session at this address that made these sets, and what it is after a look that heard this
  pub record IsListened (address : Address) (made : Made) (p : Pending) (new : LinkParts L)
      (heard : Heard) : Type 0 where
    pub fits : Fits p heard
    pub worlds : w.told address → IsWorlds w address made p heard
    pub pending : pending_of new.waiting ≡ pending_after p heard
    pub made_then : (name : List ℕ) → made_in new.made.items name ≡ made_after p heard made name
    pub same_address : new.address ≡ address
    pub kept : IsTrueSession w l new
