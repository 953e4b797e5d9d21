-- What a look at a session over a steady wire hears, at an address that is told (this project's own)
use Rattle.std.proofs.Common.{◌≡◌, ◌∙◌, ℕ, Bool, true, false, List, ◌∷◌, Option, None, Some, IsSome, refl, sym, ap, subst}
use Rattle.z_types.specs.Pending.{Pending}
use Rattle.z_types.specs.declared.address.Address.{Address}
use Rattle.z_types.specs.declared.world.World as world
use Rattle.gw_outside.specs.declared.backends.Heard.{Heard}
use Rattle.gw_outside.specs.declared.backends.Heard.TheVariants.{Opened, Hits, Refused, Items, Gone, Scanned, NotYet, Failed, Memory}
use Rattle.gw_outside.specs.declared.links.Linked as linked
use Rattle.gw_outside.specs.declared.wires.Looked.TheVariants as looked
use Rattle.gw_outside.specs.Counts.{Counts}
use Rattle.gw_outside.specs.Happened.{Happened, at_address, is_cut, to_peer}
use Rattle.gw_outside.specs.Peers.{Peer, held}
use Rattle.gw_outside.specs.Sessions.{Made}
use Rattle.gw_outside.specs.Steady.{IfStands, LooksSteadily, looked_by}
use Rattle.gw_outside.specs.Wires.{DelaysLooked, IsSameLink, first_says_gone, owes_gone}
use Rattle.z_client.specs.declared.arrivals.Arrival.TheVariants.{Unit as Whole, NotYet as NotCome, Failed as NoLink}
use Rattle.z_client.specs.declared.found.Found.{Found}
use Rattle.z_client.specs.declared.found.Found.TheVariants as found
use Rattle.z_client.specs.Arrivals.{ArrivesBy, AwaitsSteadily}
use Rattle.z_client.specs.Links.{holds, is_some, link_of}
use Rattle.z_client.specs.Looks.{IsOwed, FoundIn, answer_of}
use Rattle.z_client.specs.TrueSession.{IsToldTrue}
use Rattle.z_client.proofs.AddressLemmas.{peer_at}
use Rattle.z_client.proofs.GoneLemmas.{heard_gone}

-- ---- peers that are told

module _ {W : Type 0} (w : world.Ghosts W) (address : Address) (made : Made) (p : Pending) where
  pub told_some : (peer : Option Peer) → IsToldTrue w address made p peer → IsSome peer
  told_some None t = absurd t
  told_some (Some peer) t = refl

  -- what happens to a link happens at its address
  pub told_at : (h : Happened) (peer : Option Peer) → IsToldTrue w address made p peer → to_peer h peer ≡ at_address h address
  told_at h None t = absurd t
  told_at h (Some peer) t = peer_at h peer address t.same_address

  module _ (exact : Bool) (arrived : List ℕ) (before now : Counts) where
    -- a reply that comes leaves the sets
    pub unit_holds : (old new : Option Peer) (size : ℕ) → IsToldTrue w address made p old → ArrivesBy exact old new arrived before now (Whole size)
        → (name : List ℕ) → holds new name ≡ holds old name
    unit_holds None new size t by name = absurd t
    unit_holds (Some old) None size t by name = absurd by
    unit_holds (Some old) (Some new) size t by name = ap (λ (peer : Peer). is_some (held peer.sets name)) by.0.hands.still_owed

    -- while none has come the peer stays
    pub not_yet_same : (old new : Option Peer) → IsToldTrue w address made p old → ArrivesBy exact old new arrived before now NotCome → new ≡ old
    not_yet_same None new t by = absurd t
    not_yet_same (Some old) None t by = absurd by
    not_yet_same (Some old) (Some new) t by = ap Some by.0

-- that a set is gone is heard of a reply that was owed and says so
owed_gone : (p : Pending) (peer : Option Peer) → IsOwed peer p Gone → owes_gone peer ≡ true
owed_gone p None o = absurd o
owed_gone p (Some peer) o = ap (λ owed. first_says_gone owed) o.2 ∙ heard_gone p o.0 Gone o.3

if_stands : (answer : Heard) (P : Type 0) → P → IfStands answer P
if_stands Opened P is = is
if_stands (Hits hits) P is = is
if_stands (Refused diag) P is = is
if_stands (Items items) P is = is
if_stands Gone P is = is
if_stands (Scanned answer) P is = is
if_stands NotYet P is = is
if_stands Failed P is = tt
if_stands Memory P is = tt

-- ---- a look

module _ {L : Type 0} (l : linked.Ghosts L) (address : Address) (h : Happened) (p : Pending) (old new : L) where
  abbrev Looks : Heard → Type 0
  Looks answer = LooksSteadily false address h (link_of l old) (link_of l new) answer

  -- where memory did not suffice
  pub memory_steadily : l.number new ≡ l.number old → Looks Memory
  memory_steadily number = record { number = number; delays = tt; holds = tt; gone = λ e. absurd cc; still_gone = λ e. absurd cc; fails = λ e. absurd cc; arrives = λ own e. absurd cc }

  -- where no reply was due
  pub not_yet_steadily : AwaitsSteadily l h old new NotCome → l.peer new ≡ l.peer old → Looks NotYet
  not_yet_steadily a same = record {
    number = a.number;
    delays = a.delays;
    holds = λ name. ap (λ peer. holds peer name) same;
    gone = λ e. absurd cc;
    still_gone = λ e. ap owes_gone same;
    fails = λ e. absurd cc;
    arrives = λ own e. absurd cc;
  }

  -- where the link is cut
  pub failed_steadily : AwaitsSteadily l h old new NoLink → to_peer h (l.peer old) ≡ at_address h address → Looks Failed
  failed_steadily a at = record {
    number = a.number;
    delays = a.delays;
    holds = tt;
    gone = λ e. absurd cc;
    still_gone = λ e. absurd cc;
    fails = λ e. sym (ap (λ here. is_cut here (l.number old)) at) ∙ a.fails refl;
    arrives = λ own e. absurd cc;
  }

  module _ (mid : L) (size : ℕ) (a : AwaitsSteadily l h old mid (Whole size)) (same : IsSameLink l mid new)
      (stays : (name : List ℕ) → holds (l.peer mid) name ≡ holds (l.peer old) name) (at : to_peer h (l.peer old) ≡ at_address h address) where
    -- where a reply came
    came_steadily : (answer : Heard) → looked_by answer ≡ looked.Arrived → IsOwed (l.peer old) p answer → Looks answer
    came_steadily answer is owed = record {
      number = same.number ∙ a.number;
      delays = subst (λ look. DelaysLooked (l.delays old) (l.delays new) look) (sym is) (a.delays ∙ ap (λ rest. 0 ∷ rest) (sym same.delays));
      holds = if_stands answer ((name : List ℕ) → holds (l.peer new) name ≡ holds (l.peer old) name) (λ name. ap (λ peer. holds peer name) same.peer ∙ stays name);
      gone = λ e. owed_gone p (l.peer old) (subst (λ said. IsOwed (l.peer old) p said) e owed);
      still_gone = λ e. let no_way : looked.Arrived ≡ looked.NotYet = sym is ∙ ap looked_by e in absurd cc;
      fails = λ e. let no_way : looked.Arrived ≡ looked.Failed = sym is ∙ ap looked_by e in absurd cc;
      arrives = λ own e. sym (ap (λ here. is_cut here (l.number old)) at) ∙ a.uncut refl;
    }

    -- what was found of it
    pub found_steadily : (told : Type 0) (unit left : List ℕ) (said : Found) → told → FoundIn told p unit left said → IsOwed (l.peer old) p (answer_of said) → Looks (answer_of said)
    found_steadily told unit left (found.Gone octets) is_told is owed = came_steadily Gone refl owed
    found_steadily told unit left (found.Breach octets) is_told is owed = absurd (is.untold is_told)
    found_steadily told unit left (found.Heard NotYet) is_told is owed = absurd is
    found_steadily told unit left (found.Heard Gone) is_told is owed = absurd is
    found_steadily told unit left (found.Heard Failed) is_told is owed = absurd is
    found_steadily told unit left (found.Heard Memory) is_told is owed = memory_steadily (same.number ∙ a.number)
    found_steadily told unit left (found.Heard Opened) is_told is owed = came_steadily Opened refl owed
    found_steadily told unit left (found.Heard (Hits hits)) is_told is owed = came_steadily (Hits hits) refl owed
    found_steadily told unit left (found.Heard (Refused diag)) is_told is owed = came_steadily (Refused diag) refl owed
    found_steadily told unit left (found.Heard (Items items)) is_told is owed = came_steadily (Items items) refl owed
    found_steadily told unit left (found.Heard (Scanned answer)) is_told is owed = came_steadily (Scanned answer) refl owed
