-- What a link with a test target tells (this project's own)
use Rattle.std.specs.Prelude.{◌≡◌, ℕ, Bool, true, false, List, [], ◌∷◌, ◌++◌, map, None, Some}
use Rattle.z_types.specs.declared.address.Address.TheVariants as at
use Rattle.z_types.specs.declared.replies.Reply.{Reply}
use Rattle.z_types.specs.declared.requests.Request.{Request}
use Rattle.gw_outside.specs.Peers as peers
use Rattle.gw_outside.specs.Replies.{says_gone}
use Rattle.gw_outside.specs.Wires.{IsRequestUnit}
use Rattle.gw_outside.specs.declared.wires.Sent.{Sent}
use Rattle.gw_outside.specs.declared.wires.Sent.TheVariants as sent
use Rattle.gw_outside.specs.declared.wires.Looked.{Looked}
use Rattle.gw_outside.specs.declared.wires.Looked.TheVariants as looked
use Rattle.test_target.specs.declared.peers.Peer.{Peer}
use Rattle.test_target.specs.Peer.{reply_to, sets_after}
use Rattle.test_target.specs.World.{number_inside}
use Rattle.gw_outside.specs.Peers.{login_after}
use Rattle.gw_outside.specs.declared.happenings.Happening.{Happening}
use Rattle.gw_outside.specs.Happened.{sets_found}
use Rattle.test_wire.specs.Owed.{OwedReply, IsNextOwed}

-- the target's end, and what it owes
abbrev pub peer_of : Peer → List OwedReply → peers.Peer
peer_of peer owed = record {
  address = at.Test peer.target;
  login = peer.login;
  sets = peer.sets.items;
  owed = map (λ o. o.reply) owed;
}

-- how many looks are to find nothing before each reply
abbrev pub delays_of : List OwedReply → List ℕ
delays_of owed = map (λ o. o.looks) owed

-- a target's end takes a request: it answers with the sets that the request finds, and its reply is
-- owed behind those before it, after as many looks as is stated now
pub record HasTaken (happening : Happening) (request : Request) (old new : Peer)
    (before after : List OwedReply) : Type 0 where
  pub target : new.target ≡ old.target
  pub sets : new.sets.items ≡ sets_after (number_inside old.login old.target)
      (sets_found happening request old.sets.items) request
  pub last : OwedReply
  pub owed : after ≡ before ++ last ∷ []
  pub login : new.login ≡ login_after old.login request last.reply
  pub reply : last.reply ≡ reply_to (number_inside old.login old.target)
      (sets_found happening request old.sets.items) request
  pub looks : last.looks ≡ happening.delay

-- so does it take what was sent, where that is a request
abbrev pub SendTakes : List ℕ → Happening → (old new : Peer) → List OwedReply → List OwedReply
    → Sent → Type 0
SendTakes octets happening old new before after sent.Sent =
    (request : Request) → IsRequestUnit octets request
    → HasTaken happening request old new before after
SendTakes octets happening old new before after sent.Failed = (new ≡ old) × (after ≡ before)
SendTakes octets happening old new before after sent.Memory = Unit {0}

-- what a look at a link that is not cut finds: the reply that comes next, if one does
abbrev pub FindsNext : List OwedReply → List OwedReply → Looked → Type 0
FindsNext old new looked.Arrived = (found : OwedReply) × IsNextOwed old new (Some found)
FindsNext old new looked.NotYet = IsNextOwed old new None
FindsNext old new looked.Failed = new ≡ old
FindsNext old new looked.Memory = Unit {0}

-- these octets arrive behind others
abbrev pub HasArrived : List ℕ → List ℕ → List ℕ → Looked → Type 0
HasArrived octets old new looked.Arrived = new ≡ old ++ octets
HasArrived octets old new looked.Memory = Unit {0}
HasArrived octets old new looked.NotYet = ⊥
HasArrived octets old new looked.Failed = ⊥

-- a reply that arrives and says that a set is gone
abbrev pub brings_gone : Reply → Looked → Bool
brings_gone reply looked.Arrived = says_gone reply
brings_gone reply looked.NotYet = false
brings_gone reply looked.Failed = false
brings_gone reply looked.Memory = false

-- ---- which calls failed

abbrev pub has_not_sent : Sent → Bool
has_not_sent sent.Sent = false
has_not_sent sent.Failed = true
has_not_sent sent.Memory = false

abbrev pub has_not_looked : Looked → Bool
has_not_looked looked.Arrived = false
has_not_looked looked.NotYet = false
has_not_looked looked.Failed = true
has_not_looked looked.Memory = false
