-- A wire to test targets within one whose links may fail at any time (this project's own)
use Rattle.std.proofs.Common.{◌≡◌, ◌∙◌, ℕ, Bool, false, List, Option, None, Some, refl, sym, subst, arith}
use Rattle.z_types.specs.declared.address.Address.{Address}
use Rattle.z_types.specs.declared.address.Address.TheVariants.{Test, Tcp, Login}
use Rattle.z_types.specs.declared.address.Site.TheVariants as site
use Rattle.z_types.specs.declared.requests.Request.{Request}
use Rattle.z_types.specs.declared.world.World as world
use Rattle.gw_outside.specs.declared.links.Linked as linked
use Rattle.gw_outside.specs.declared.wires.Sent.{Sent}
use Rattle.gw_outside.specs.declared.wires.Sent.TheVariants as sent
use Rattle.gw_outside.specs.declared.wires.Looked.{Looked}
use Rattle.gw_outside.specs.Counts.{Counts}
use Rattle.gw_outside.specs.Happened.{Happened, AreSame, AreLess, at_address, sets_found}
use Rattle.gw_outside.specs.Peers.{NamedSet, Peer, TakesRequest}
use Rattle.gw_outside.specs.Wires.{IsNewLink, IsNewPeer, SendHappens, PeerTakes, SendFits, SendsSteadily, LooksSteadily}
use Rattle.test_wire.proofs.SteadyLemmas.{same, less, happens}
use Rattle.tcp_edge.specs.Wires.{unsteady}

-- ---- what happens to links

pub same_unsteady : (a b : Happened) → AreSame a b → AreSame (unsteady a) (unsteady b)
same_unsteady a b s = same false a b s

pub same_self : (h : Happened) → AreSame h h
same_self h = record { steady = refl; lent = refl; of_target = λ target. refl }

less_self : (h : Happened) → AreLess h h
less_self h = record { steady = refl; lent = refl; presents = λ target. omega arith; delay = λ target. refl; cut = λ target. refl }

happens_untold : (unit : List ℕ) (h : Happened) (answer : Sent) → SendHappens unit None h h answer
happens_untold unit h sent.Sent = λ request is. same_self h
happens_untold unit h sent.Failed = same_self h
happens_untold unit h sent.Memory = tt

-- ---- what peers take

at_unsteady : (h : Happened) (address : Address) → at_address (unsteady h) address ≡ at_address h address
at_unsteady h (Test target) = refl
at_unsteady h (Tcp host port) = refl
at_unsteady h (Login (site.Test target) login) = refl
at_unsteady h (Login (site.Tcp host port) login) = refl

module _ {W : Type 0} (w : world.Ghosts W) where
  takes_unsteady : (h : Happened) (found : List NamedSet) (request : Request) (old new : Peer) → TakesRequest w h.steady found request old new
      → TakesRequest w false found request old new
  takes_unsteady h found request old new t = record {
    left = t.left;
    answer = t.answer;
    are_left = t.are_left;
    are_found = λ e. absurd cc;
    step = t.step;
    owed = t.owed;
    address = t.address;
    login = t.login;
  }

  peer_unsteady : (unit : List ℕ) (h : Happened) (old new : Option Peer) → PeerTakes w unit h old new → PeerTakes w unit (unsteady h) old new
  peer_unsteady unit h None new t = t
  peer_unsteady unit h (Some old) None t = t
  peer_unsteady unit h (Some old) (Some new) t =
      λ request is short.
      subst (λ at. TakesRequest w false (sets_found at request old.sets) request old new) (sym (at_unsteady h old.address))
      (takes_unsteady h (sets_found (at_address h old.address) request old.sets) request old new (t request is short))

  pub fits_unsteady : (unit : List ℕ) (h : Happened) (old new : Option Peer) (answer : Sent) → SendFits w unit h old new answer
      → SendFits w unit (unsteady h) old new answer
  fits_unsteady unit h old new sent.Sent t = peer_unsteady unit h old new t
  fits_unsteady unit h old new sent.Failed t = tt
  fits_unsteady unit h old new sent.Memory t = tt

-- ---- links that tell what others tell

module _ {K L : Type 0} (k : linked.Ghosts K) (l : linked.Ghosts L) where
  pub sends_unsteady : (unit : List ℕ) (old new : K) (before after : L) (a b : Happened) (answer : Sent)
      → l.peer before ≡ k.peer old → l.number before ≡ k.number old → l.number after ≡ k.number new
      → SendsSteadily k unit old new a b answer → SendsSteadily l unit before after (unsteady a) (unsteady b) answer
  sends_unsteady unit old new before after a b answer p m n s = record {
    fails = λ e f. absurd cc;
    happened = subst (λ peer. SendHappens unit peer (unsteady a) (unsteady b) answer) (sym p) (happens false a b unit (k.peer old) answer s.happened);
    less = less false a b s.less;
    number = n ∙ s.number ∙ sym m;
    delays = λ e. absurd cc;
  }

  pub looks_unsteady : (old new : K) (before after : L) (a b : Happened) (answer : Looked) → l.number before ≡ k.number old → l.number after ≡ k.number new
      → LooksSteadily k old new a b answer → LooksSteadily l before after (unsteady a) (unsteady b) answer
  looks_unsteady old new before after a b answer m n s = record {
    fails = λ e f. absurd cc;
    arrives = λ e f. absurd cc;
    happened = same_unsteady a b s.happened;
    number = n ∙ s.number ∙ sym m;
    delays = λ e. absurd cc;
  }

  pub new_unsteady : {W : Type 0} (w : world.Ghosts W) (exact : Bool) (address : Address) (counts others : Counts) (old : K) (new : L)
      → l.arrived new ≡ k.arrived old → l.peer new ≡ k.peer old → l.delays new ≡ k.delays old → l.exact ≡ false
      → IsNewLink w k exact address counts old → IsNewLink w l false address others new
  new_unsteady w exact address counts others old new a p d e s = record {
    arrived = a ∙ s.arrived;
    by_itself = s.by_itself;
    peer = subst (λ peer. IsNewPeer (w.told address) address peer) (sym p) s.peer;
    told = λ t. absurd cc;
    number = λ t. absurd cc;
    delays = d ∙ s.delays;
  }

-- ---- links that tell no peer

module _ {L : Type 0} (l : linked.Ghosts L) where
  pub sends_untold : (unit : List ℕ) (before after : L) (h : Happened) (answer : Sent) → l.peer before ≡ None → l.number after ≡ l.number before
      → SendsSteadily l unit before after (unsteady h) (unsteady h) answer
  sends_untold unit before after h answer p n = record {
    fails = λ e f. absurd cc;
    happened = subst (λ peer. SendHappens unit peer (unsteady h) (unsteady h) answer) (sym p) (happens_untold unit (unsteady h) answer);
    less = less_self (unsteady h);
    number = n;
    delays = λ e. absurd cc;
  }

  pub looks_untold : (before after : L) (h : Happened) (answer : Looked) → l.number after ≡ l.number before
      → LooksSteadily l before after (unsteady h) (unsteady h) answer
  looks_untold before after h answer n = record {
    fails = λ e f. absurd cc;
    arrives = λ e f. absurd cc;
    happened = same_self (unsteady h);
    number = n;
    delays = λ e. absurd cc;
  }
