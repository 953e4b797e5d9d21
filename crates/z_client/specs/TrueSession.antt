-- A true session: where its address is told, the peer of its link holds the sets that it made or
-- nothing in their place, and owes the reply that it waits for (this project's own)
use Rattle.std.specs.Prelude.{◌≡◌, ◌≢◌, ◌⊎◌, ℕ, false, true, Bool, List, [], ◌∷◌, Option, None, Some, Ok}
use Rattle.z_ber.specs.Due.{Stands}
use Rattle.z_types.specs.Pending.{Pending, resting, opening, asked, broken}
use Rattle.z_types.specs.declared.address.Address.{Address}
use Rattle.z_types.specs.declared.ask.Ask.TheVariants.{Search, Present, Scan}
use Rattle.z_types.specs.declared.key.SetKey.{SetKey}
use Rattle.z_types.specs.declared.replies.Reply.{Reply}
use Rattle.z_types.specs.declared.world.World as world
use Rattle.gw_outside.specs.declared.backends.Heard.{Heard}
use Rattle.gw_outside.specs.declared.links.Linked as linked
use Rattle.z_types.specs.Same.{is_same}
use Rattle.gw_outside.specs.Peers.{NamedSet, Peer, answers_at, held, set_of}
use Rattle.gw_outside.specs.Sessions.{Made, IsWorlds}
use Rattle.gw_outside.specs.Wires.{IsReplyUnit}
use Rattle.z_client.specs.declared.session.LinkParts.{LinkParts}
use Rattle.z_client.specs.Heard.{heard_of}
use Rattle.z_client.specs.Sets.{made_in, pending_of}

-- a name is that of the search that is pending
abbrev pub is_searched : Pending → List ℕ → Bool
is_searched (asked (Search own key)) name = is_same own name
is_searched (asked (Present own first count syntax element)) name = false
is_searched (asked (Scan dbs ask)) name = false
is_searched resting name = false
is_searched opening name = false
is_searched broken name = false

-- a name has this set or none
abbrev pub HoldsOrNothing : List NamedSet → List ℕ → SetKey → Type 0
HoldsOrNothing sets name key = (held sets name ≡ Some key) ⊎ (held sets name ≡ None)

module _ {W : Type 0} (w : world.Ghosts W) (address : Address) where
  -- under the name of a search that is pending stands its set, where it succeeds
  abbrev pub HoldsSearched : Pending → List NamedSet → Type 0
  HoldsSearched (asked (Search own key)) sets =
      (name : List ℕ) → is_same own name ≡ true → held sets name ≡ set_of key (w.search address key)
  HoldsSearched (asked (Present own first count syntax element)) sets = Unit {0}
  HoldsSearched (asked (Scan dbs ask)) sets = Unit {0}
  HoldsSearched resting sets = Unit {0}
  HoldsSearched opening sets = Unit {0}
  HoldsSearched broken sets = Unit {0}

  -- each set that was made is its search's, and the peer holds it or nothing, the name of a pending
  -- search aside
  pub record AreTrueSets (made : Made) (pending : Pending) (sets : List NamedSet) : Type 0 where
    pub hits : (name : List ℕ) (key : SetKey) (hits : ℕ) → made name ≡ Some (key, hits)
        → w.search address key ≡ Ok hits
    pub holds : (name : List ℕ) (key : SetKey) (hits : ℕ) → is_searched pending name ≡ false
        → made name ≡ Some (key, hits) → HoldsOrNothing sets name key
    pub searched : HoldsSearched pending sets

  -- something is heard of a reply, and it is the world's
  pub record IsTrueReply (made : Made) (pending : Pending) (reply : Reply) : Type 0 where
    pub answer : Heard
    pub heard : heard_of pending reply ≡ Some answer
    pub worlds : IsWorlds w address made pending answer

  -- one reply, to what is pending; none where a session rests
  abbrev pub Owes : Made → Pending → List Reply → Type 0
  Owes made resting owed = owed ≡ []
  Owes made waits owed = (reply : Reply) × (owed ≡ reply ∷ []) × IsTrueReply made waits reply

  -- the peer of a session
  pub record IsTruePeer (made : Made) (pending : Pending) (peer : Peer) : Type 0 where
    pub same_address : answers_at peer ≡ address
    pub sets : AreTrueSets made pending peer.sets
    pub owed : Owes made pending peer.owed

  -- such a peer is told
  abbrev pub IsToldTrue : Made → Pending → Option Peer → Type 0
  IsToldTrue made waits None = ⊥
  IsToldTrue made waits (Some peer) = IsTruePeer made waits peer

  -- the reply to what is pending has arrived whole as these octets, and nothing more is owed
  pub record HasCome (made : Made) (pending : Pending) (peer : Peer)
      (octets : List ℕ) : Type 0 where
    pub same_address : answers_at peer ≡ address
    pub sets : AreTrueSets made pending peer.sets
    pub owed : peer.owed ≡ []
    pub reply : Reply
    pub unit : IsReplyUnit octets reply
    pub right : IsTrueReply made pending reply

-- a session at this address that waits for the reply to its Init, and made no set
pub record IsNewLinkParts {L : Type 0} (address : Address) (s : LinkParts L) : Type 0 where
  pub same_address : s.address ≡ address
  pub pending : pending_of s.waiting ≡ opening
  pub none_made : (name : List ℕ) → made_in s.made.items name ≡ None

module _ {W L : Type 0} (w : world.Ghosts W) (l : linked.Ghosts L) where
  -- the octets that have arrived are scanned up to a place in them; where the address is told there
  -- are none, and the peer is true; an exact link is of a told address
  pub record IsKept (s : LinkParts L) : Type 0 where
    pub scanned : Stands (l.arrived s.link) s.scan.passed s.scan.opened
    pub nothing : w.told s.address → l.arrived s.link ≡ []
    pub peer : w.told s.address
        → IsToldTrue w s.address (made_in s.made.items) (pending_of s.waiting) (l.peer s.link)
    pub exact : l.exact ≡ true → w.told s.address

  -- of a session that is broken nothing is kept
  abbrev pub IsTrueSession : LinkParts L → Type 0
  IsTrueSession s = pending_of s.waiting ≢ broken → IsKept s
