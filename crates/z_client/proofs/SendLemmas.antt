-- A true peer that takes what is sent to it (this project's own)
use Rattle.std.proofs.Common.{true, false, Bool, cond, ◌≡◌, ◌∙◌, ℕ, List, [], Option, None, Some, refl, sym, ap, subst}
use Rattle.z_types.specs.Pending.{Pending, IsPending, resting, opening, asked, broken}
use Rattle.z_types.specs.declared.address.Address.{Address}
use Rattle.z_types.specs.declared.ask.Ask.{Ask}
use Rattle.z_types.specs.declared.world.World as world
use Rattle.z_types.specs.declared.ask.Ask.TheVariants.{Search, Present, Scan}
use Rattle.z_types.specs.Tree.{Tree, leaf, operand, and, or, and_not}
use Rattle.gw_outside.specs.Asks.{MayAsk, HasNoSet}
use Rattle.gw_outside.specs.Peers.{Peer, new_peer, TakesRequest, IsShortRequest, HasShortOperands}
use Rattle.gw_outside.specs.Sessions.{Made}
use Rattle.gw_outside.specs.Happened.{Happened, at_address, sets_found}
use Rattle.gw_outside.specs.Replies.{accepts}
use Rattle.gw_outside.specs.Wires.{IsNewPeer, IsRequestUnit, PeerTakes}
use Rattle.gw_outside.specs.declared.backends.Heard.TheVariants.{Opened}
use Rattle.z_types.specs.declared.replies.Reply.{Reply}
use Rattle.z_client.specs.Sets.{made_in}
use Rattle.z_client.specs.TrueSession.{IsTruePeer, IsToldTrue, IsTrueReply}
use Rattle.z_client.specs.Units.{init_request, request_of, IsAskUnit, Takes, TookInit}
use Rattle.z_types.specs.Logins.{inner, inside, login_of}
use Rattle.z_types.specs.declared.requests.Request.{Request}
use Rattle.z_client.proofs.AddressLemmas.{again, accepted_is}
use Rattle.z_client.proofs.TrueAsks.{asks_true}

-- a session that waits for a reply is not broken
pub waits_unbroken : (p : Pending) → IsPending p → p ≡ broken → ⊥
waits_unbroken resting is e = is
waits_unbroken opening is e = cc
waits_unbroken (asked ask) is e = cc
waits_unbroken broken is e = is

-- one that rests is not broken
pub rests_unbroken : (p : Pending) → p ≡ resting → p ≡ broken → ⊥
rests_unbroken p is e = let no_way : resting ≡ broken = sym is ∙ e in cc

-- an Init with named result sets that is accepted opens a session
accepted_opens : {W : Type 0} (w : world.Ghosts W) (address : Address) (made : Made) (answer : Reply) → accepts answer ≡ true → IsTrueReply w address made opening answer
accepted_opens w address made answer e = record { answer = Opened; heard = ap (λ b. cond b (Some Opened) None) e; worlds = tt }

module _ {W : Type 0} (w : world.Ghosts W) (address : Address) where
  -- the Init of a session at this address
  abbrev greeting : Request
  greeting = init_request (login_of address)

  -- a new peer that takes an Init owes a true reply to it
  new_takes : (new : Peer) (steady : Bool) → TakesRequest w steady [] greeting (new_peer (inner address)) new → IsTruePeer w address (made_in []) opening new
  new_takes new steady takes = record {
    same_address = ap (inside new.login) takes.address
        ∙ ap (λ login. inside login (inner address)) (takes.login ∙ ap (λ b. cond b (login_of address) None) (accepted_is takes.answer (takes.step.1 refl)))
        ∙ again address;
    sets = record {
      hits = λ name key hits m. absurd cc;
      holds = λ name key hits apart m. absurd cc;
      searched = tt;
    };
    owed = (takes.answer, takes.owed, accepted_opens w address (made_in []) takes.answer (takes.step.1 refl));
  }

  -- the peer of a new link takes the Init
  pub took_init : (h : Happened) (unit : List ℕ) (old new : Option Peer) → IsNewPeer (w.told (inner address)) (inner address) old → PeerTakes w unit h old new
      → IsRequestUnit unit greeting → TookInit w h address new
  took_init h unit None new fresh takes is = subst (λ at. TookInit w h address at) (sym takes) tt
  took_init h unit (Some old) None fresh takes is = absurd takes
  took_init h unit (Some old) (Some new) fresh takes is =
      subst (λ at. TakesRequest w h.steady at.sets greeting at new) fresh.new (takes greeting is tt)

  pub told_opens : (h : Happened) (unit : List ℕ) (old new : Option Peer) → w.told address → IsNewPeer (w.told (inner address)) (inner address) old → PeerTakes w unit h old new
      → IsRequestUnit unit greeting → IsToldTrue w address (made_in []) opening new
  told_opens h unit None new told fresh takes is = let no_way : false ≡ true = fresh.where_told (w.inner_is_told address told) in absurd cc
  told_opens h unit (Some old) None told fresh takes is = absurd takes
  told_opens h unit (Some old) (Some new) told fresh takes is = new_takes new h.steady (took_init h unit (Some old) (Some new) fresh takes is)

  -- the peer of a session that rests takes what it is asked
  pub takes_ask : (h : Happened) (ask : Ask) (unit : List ℕ) (old new : Option Peer) → PeerTakes w unit h old new → IsRequestUnit unit (request_of ask)
      → IsShortRequest (request_of ask) → Takes w h (request_of ask) old new
  takes_ask h ask unit None new takes is short = takes
  takes_ask h ask unit (Some old) None takes is short = takes
  takes_ask h ask unit (Some old) (Some new) takes is short = takes (request_of ask) is short

  pub told_asks : (h : Happened) (made : Made) (ask : Ask) (unit : List ℕ) (old new : Option Peer) → IsToldTrue w address made resting old → MayAsk made ask
      → PeerTakes w unit h old new → IsRequestUnit unit (request_of ask) → IsShortRequest (request_of ask) → IsToldTrue w address made (asked ask) new
  told_asks h made ask unit None new t may takes is short = absurd t
  told_asks h made ask unit (Some old) None t may takes is short = absurd takes
  told_asks h made ask unit (Some old) (Some new) t may takes is short =
      asks_true w address made ask old new t may h.steady (sets_found (at_address h old.address) (request_of ask) old.sets) (takes (request_of ask) is short)

-- a query without sets has no names of sets that are long
no_long_operand : (tree : Tree) → HasNoSet tree → HasShortOperands tree
no_long_operand (leaf attrs term) h = tt
no_long_operand (operand name) h = absurd h
no_long_operand (and l r) h = (no_long_operand l h.0, no_long_operand r h.1)
no_long_operand (or l r) h = (no_long_operand l h.0, no_long_operand r h.1)
no_long_operand (and_not l r) h = (no_long_operand l h.0, no_long_operand r h.1)

-- what may be asked is a request whose texts are short
pub may_short : (made : Made) (ask : Ask) → MayAsk made ask → IsShortRequest (request_of ask)
may_short made (Search name key) may = record {
  ref_id = tt;
  name = may.short;
  dbs = may.databases.each;
  small_element = tt;
  medium_element = tt;
  query = no_long_operand key.query.root may.no_set;
}
may_short made (Present name first count syntax element) may = (tt, may.short, may.short_element)
may_short made (Scan dbs ask) may = (tt, may.databases.each)

-- the unit of an ask is that of one's own copy of it
pub copied_unit : (made : Made) (ask own : Ask) (octets : List ℕ) → own ≡ ask → IsAskUnit ask octets → MayAsk made ask → IsRequestUnit octets (request_of own)
copied_unit made ask own octets e unit may = subst (λ other. IsRequestUnit octets (request_of other)) (sym e) (unit made may)

-- what a session that is asked needs
pub ruleset asking = (rests_unbroken, may_short, copied_unit)
