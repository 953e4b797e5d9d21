-- A wire that is as steady as it is said to be (this project's own)
use Rattle.std.proofs.Common.{◌≡◌, ◌++◌, ◌∷◌, ℕ, Bool, true, List, [], Option, None, Some, refl, sym, subst}
use Rattle.z_types.specs.declared.address.Address.{Address}
use Rattle.z_types.specs.declared.address.Address.TheVariants.{Test, Tcp, Login}
use Rattle.z_types.specs.declared.address.Site.TheVariants as site
use Rattle.z_types.specs.declared.requests.Request.{Request}
use Rattle.gw_outside.specs.declared.happenings.Happening.{Happening}
use Rattle.gw_outside.specs.declared.links.Linked as linked
use Rattle.gw_outside.specs.declared.wires.Sent.{Sent}
use Rattle.gw_outside.specs.declared.wires.Sent.TheVariants as sent
use Rattle.gw_outside.specs.Happened.{Happened, AreLess, AreSame, IsAsked, IsMade, at_address, is_cut, to_peer}
use Rattle.gw_outside.specs.Peers.{Peer}
use Rattle.gw_outside.specs.Wires.{FailsCut, IsSentTo, SendHappens, SendsSteadily}
use Rattle.test_wire.specs.Wires.{steadily}

-- ---- what happens

module _ (s : Bool) (a b : Happened) where
  pub same : AreSame a b → AreSame (steadily s a) (steadily s b)
  same e = record { steady = refl; lent = e.lent; of_target = e.of_target }

  made : (target : ℕ) (change : Happening → Happening) → IsMade target change a b → IsMade target change (steadily s a) (steadily s b)
  made target change m = record { steady = refl; lent = m.lent; own = m.own; others = m.others }

  pub less : AreLess a b → AreLess (steadily s a) (steadily s b)
  less l = record { steady = refl; lent = l.lent; presents = l.presents; delay = l.delay; cut = l.cut }

  asked : (address : Address) (request : Request) → IsAsked address request a b → IsAsked address request (steadily s a) (steadily s b)
  asked (Test target) request m = made target _ m
  asked (Tcp host port) request e = same e
  asked (Login (site.Test target) login) request m = made target _ m
  asked (Login (site.Tcp host port) login) request e = same e

  sent_to : (peer : Option Peer) (request : Request) → IsSentTo peer request a b → IsSentTo peer request (steadily s a) (steadily s b)
  sent_to None request e = same e
  sent_to (Some peer) request e = asked peer.address request e

  pub happens : (unit : List ℕ) (peer : Option Peer) (answer : Sent) → SendHappens unit peer a b answer
      → SendHappens unit peer (steadily s a) (steadily s b) answer
  happens unit peer sent.Sent e = λ request is. sent_to peer request (e request is)
  happens unit peer sent.Failed e = same e
  happens unit peer sent.Memory e = tt

-- ---- what peers take

at_steadily : (s : Bool) (h : Happened) (address : Address) → at_address (steadily s h) address ≡ at_address h address
at_steadily s h (Test target) = refl
at_steadily s h (Tcp host port) = refl
at_steadily s h (Login (site.Test target) login) = refl
at_steadily s h (Login (site.Tcp host port) login) = refl

to_steadily : (s : Bool) (h : Happened) (peer : Option Peer) → to_peer (steadily s h) peer ≡ to_peer h peer
to_steadily s h None = refl
to_steadily s h (Some peer) = at_steadily s h peer.address

-- ---- what links do

module _ {L : Type 0} (l : linked.Ghosts L) (s : Bool) (a b : Happened) (p : s ≡ true → a.steady ≡ true) where
  fails_cut : (link : L) → FailsCut l a link → FailsCut l (steadily s a) link
  fails_cut link f e = subst (λ happening. is_cut happening (l.number link) ≡ true) (sym (to_steadily s a (l.peer link))) (f (p e))

  pub sends : (unit : List ℕ) (old new : L) (answer : Sent) → SendsSteadily l unit old new a b answer
      → SendsSteadily l unit old new (steadily s a) (steadily s b) answer
  sends unit old new answer t = record {
    fails = λ e. fails_cut old (t.fails e);
    happened = happens s a b unit (l.peer old) answer t.happened;
    less = less s a b t.less;
    number = t.number;
    delays = λ e is request unit_is.
        subst (λ happening. l.delays new ≡ l.delays old ++ happening.delay ∷ []) (sym (to_steadily s a (l.peer old)))
        (t.delays (p e) is request unit_is);
  }
