-- What a wire answers, and what its links tell (this project's own)
use Rattle.std.specs.Prelude.{◌≡◌, ℕ, ◌-◌, ◌≤◌, ◌<◌, Bool, true, false, List, [], ◌∷◌, ◌++◌, length, Option, None, Some, IfSome, IsSome, Ok}
use Rattle.z_ber.specs.Element.{Forest}
use Rattle.z_ber.specs.Frames.{IsFrame}
use Rattle.z_ber.specs.Place.{IsUnit}
use Rattle.z_types.specs.Logins.{inside, login_of}
use Rattle.z_types.specs.declared.address.Address.{Address}
use Rattle.z_types.specs.declared.replies.Reply.{Reply}
use Rattle.z_types.specs.declared.requests.Request.{Request}
use Rattle.z_types.specs.declared.requests.Request.TheVariants as request
use Rattle.z_types.specs.declared.world.World as world
use Rattle.unit_forms.specs.Reading.Units.{request_in, reply_in}
use Rattle.gw_outside.specs.declared.wires.Dialled.{Dialled}
use Rattle.gw_outside.specs.declared.wires.Dialled.TheVariants.{Link, Failed, Memory}
use Rattle.gw_outside.specs.declared.wires.Sent.{Sent}
use Rattle.gw_outside.specs.declared.wires.Sent.TheVariants as sent
use Rattle.gw_outside.specs.declared.wires.Looked.{Looked}
use Rattle.gw_outside.specs.declared.wires.Looked.TheVariants as looked
use Rattle.gw_outside.specs.declared.links.Linked as linked
use Rattle.gw_outside.specs.Counts.{Counts, Counted, WireCounts, nothing, after}
use Rattle.gw_outside.specs.Happened.{Happened, AreSame, AreLess, IsAsked, to_peer, at_address, is_cut, sets_found}
use Rattle.gw_outside.specs.Peers.{Peer, new_peer, TakesRequest, IsShortRequest}
use Rattle.gw_outside.specs.Replies.{says_gone}

-- ---- units

-- a unit that is this request
abbrev pub IsRequestUnit : List ℕ → Request → Type 0
IsRequestUnit octets request = (tree : Forest) × IsUnit octets tree × (request_in tree ≡ Ok request)

-- a unit that is this reply
pub record IsReplyUnit (octets : List ℕ) (reply : Reply) : Type 0 where
  pub frame : IsFrame octets
  pub tree : Forest
  pub unit : IsUnit octets tree
  pub read : reply_in tree ≡ Ok reply

-- ---- links

-- of a link that was given
abbrev pub IfLink : {L : Type 0} → Dialled L → (L → Type 0) → Type 0
IfLink (Link link) P = P link
IfLink Failed P = Unit {0}
IfLink Memory P = Unit {0}

-- a new link tells its peer where the address is told, and may elsewhere
pub record IsNewPeer (told : Type 0) (address : Address) (peer : Option Peer) : Type 0 where
  pub where_told : told → IsSome peer
  pub new : IfSome peer (λ p. p ≡ new_peer address)

-- an address is told, by itself and inside any login
abbrev pub IsToldInside : {W : Type 0} → world.Ghosts W → Address → Type 0
IsToldInside w address = (login : Option (List ℕ)) → w.told (inside login address)

-- a new link: no address inside a login is dialled; one that is exact is of an address that is
-- told, inside any login too, and an exact wire numbers its links by its dials
pub record IsNewLink {W L : Type 0} (w : world.Ghosts W) (l : linked.Ghosts L) (exact : Bool)
    (address : Address) (counts : Counts) (link : L) : Type 0 where
  pub by_itself : login_of address ≡ None
  pub arrived : l.arrived link ≡ []
  pub peer : IsNewPeer (w.told address) address (l.peer link)
  pub told : l.exact ≡ true → IsToldInside w address
  pub number : exact ≡ true → l.number link ≡ counts.dials
  pub delays : l.delays link ≡ []

-- a peer that is told takes the request that a unit is
abbrev pub PeerTakes : {W : Type 0} → world.Ghosts W → List ℕ → Happened → Option Peer
    → Option Peer → Type 0
PeerTakes w unit h None new = new ≡ None
PeerTakes w unit h (Some old) None = ⊥
PeerTakes w unit h (Some old) (Some new) =
    (request : Request) → IsRequestUnit unit request → IsShortRequest request →
    TakesRequest w h.steady (sets_found (at_address h old.address) request old.sets) request old new

-- a unit was sent, or the link is of no more use
abbrev pub SendFits : {W : Type 0} → world.Ghosts W → List ℕ → Happened → Option Peer → Option Peer
    → Sent → Type 0
SendFits w unit h old new sent.Sent = PeerTakes w unit h old new
SendFits w unit h old new sent.Failed = Unit {0}
SendFits w unit h old new sent.Memory = Unit {0}

-- the first reply that is owed has arrived whole, as these octets
pub record HandsOver (old new : Peer) (octets : List ℕ) : Type 0 where
  pub reply : Reply
  pub rest : List Reply
  pub was_owed : old.owed ≡ reply ∷ rest
  pub still_owed : new ≡ record old { owed = rest }
  pub unit : IsReplyUnit octets reply

-- some octets have arrived; where the peer is told they are one reply
abbrev pub ArrivesFrom : Option Peer → Option Peer → List ℕ → Type 0
ArrivesFrom None new octets = (1 ≤ length octets) × (new ≡ None)
ArrivesFrom (Some old) None octets = ⊥
ArrivesFrom (Some old) (Some new) octets = HandsOver old new octets

-- what a look finds: more octets behind those that had arrived; or nothing; or the link is of no
-- more use
abbrev pub LookFits : Option Peer → Option Peer → List ℕ → List ℕ → Looked → Type 0
LookFits old new before after looked.Arrived =
    (octets : List ℕ) × (after ≡ before ++ octets) × ArrivesFrom old new octets
LookFits old new before after looked.NotYet = (after ≡ before) × (new ≡ old)
LookFits old new before after looked.Failed = Unit {0}
LookFits old new before after looked.Memory = Unit {0}

-- ---- what happens to links

-- on a steady wire a link is cut where a call on it fails
abbrev pub FailsCut : {L : Type 0} → linked.Ghosts L → Happened → L → Type 0
FailsCut l h link = h.steady ≡ true → is_cut (to_peer h (l.peer link)) (l.number link) ≡ true

-- and not where octets arrive over it
abbrev pub ArrivesUncut : {L : Type 0} → linked.Ghosts L → Happened → L → Type 0
ArrivesUncut l h link = h.steady ≡ true → is_cut (to_peer h (l.peer link)) (l.number link) ≡ false

-- what is left to happen after a unit that is a request
abbrev pub IsSentTo : Option Peer → Request → Happened → Happened → Type 0
IsSentTo None request old new = AreSame old new
IsSentTo (Some peer) request old new = IsAsked peer.address request old new

abbrev pub SendHappens : List ℕ → Option Peer → Happened → Happened → Sent → Type 0
SendHappens unit peer old new sent.Sent =
    (request : Request) → IsRequestUnit unit request → IsSentTo peer request old new
SendHappens unit peer old new sent.Failed = AreSame old new
SendHappens unit peer old new sent.Memory = Unit {0}

-- a unit is sent on a steady wire: it fails where the link is cut, and its reply comes after as
-- many looks as is stated now
pub record SendsSteadily {L : Type 0} (l : linked.Ghosts L) (unit : List ℕ) (old new : L)
    (before after : Happened) (answer : Sent) : Type 0 where
  pub fails : answer ≡ sent.Failed → FailsCut l before old
  pub happened : SendHappens unit (l.peer old) before after answer
  pub less : AreLess before after
  pub number : l.number new ≡ l.number old
  pub delays : before.steady ≡ true → answer ≡ sent.Sent → (request : Request)
      → IsRequestUnit unit request
      → l.delays new ≡ l.delays old ++ (to_peer before (l.peer old)).delay ∷ []

-- what a look leaves of the looks that are to find nothing before each reply that is owed
abbrev pub DelaysLooked : List ℕ → List ℕ → Looked → Type 0
DelaysLooked old new looked.Arrived = old ≡ 0 ∷ new
DelaysLooked [] new looked.NotYet = new ≡ []
DelaysLooked (first ∷ rest) new looked.NotYet = (0 < first) × (new ≡ (first - 1) ∷ rest)
DelaysLooked old new looked.Failed = new ≡ old
DelaysLooked old new looked.Memory = Unit {0}

-- a look on a steady wire: it fails where the link is cut, finds something over no such link, and
-- finds nothing as often as was stated
pub record LooksSteadily {L : Type 0} (l : linked.Ghosts L) (old new : L) (before after : Happened)
    (answer : Looked) : Type 0 where
  pub fails : answer ≡ looked.Failed → FailsCut l before old
  pub arrives : answer ≡ looked.Arrived → ArrivesUncut l before old
  pub happened : AreSame before after
  pub number : l.number new ≡ l.number old
  pub delays : before.steady ≡ true → DelaysLooked (l.delays old) (l.delays new) answer

-- nothing of a link changes but what has arrived
pub record IsSameLink {L : Type 0} (l : linked.Ghosts L) (old new : L) : Type 0 where
  pub peer : l.peer new ≡ l.peer old
  pub number : l.number new ≡ l.number old
  pub delays : l.delays new ≡ l.delays old

-- ---- what a wire counts

-- a dial: one that gives a link, and one that fails
abbrev pub dial_counted : {L : Type 0} → Dialled L → Counted
dial_counted (Link link) = record nothing { dial = true }
dial_counted Failed = record nothing { fault = true }
dial_counted Memory = nothing

abbrev pub is_search : Request → Bool
is_search (request.Search search) = true
is_search (request.Init init) = false
is_search (request.Present present) = false
is_search (request.Scan scan) = false
is_search (request.Close close) = false

-- a send of a request: a Search that is sent, and one that fails
abbrev pub send_counted : Request → Sent → Counted
send_counted request sent.Sent = record nothing { search = is_search request }
send_counted request sent.Failed = record nothing { fault = true }
send_counted request sent.Memory = nothing

abbrev pub first_says_gone : List Reply → Bool
first_says_gone [] = false
first_says_gone (reply ∷ rest) = says_gone reply

-- whether the first reply that a peer owes says that a set is gone
abbrev pub owes_gone : Option Peer → Bool
owes_gone None = false
owes_gone (Some peer) = first_says_gone peer.owed

-- a look: one that finds nothing, one at which such a reply arrives, and one that fails
abbrev pub look_counted : Option Peer → Looked → Counted
look_counted peer looked.Arrived = record nothing { gone = owes_gone peer }
look_counted peer looked.NotYet = record nothing { wait = true }
look_counted peer looked.Failed = record nothing { fault = true }
look_counted peer looked.Memory = nothing

-- what a send counts, whatever its unit is, and where it is a request
pub record SendCounts (exact : Bool) (unit : List ℕ) (answer : Sent)
    (old new : Counts) : Type 0 where
  pub some : (request : Request) → WireCounts false (send_counted request answer) old new
  pub exactly : (request : Request) → IsRequestUnit unit request → exact ≡ true
      → new ≡ after (send_counted request answer) old
