-- A unit is awaited over a steady link (this project's own)
use Rattle.std.proofs.Common.{◌≡◌, ◌∙◌, ◌⊎◌, inl, inr, ℕ, Bool, true, false, List, [], ◌++◌, take, Option, None, Some, IsSome, refl, sym, ap, subst}
use Rattle.z_ber.specs.Frames.{IsFrame}
use Rattle.z_ber.specs.Header.{IsOpenFor, IsBadFor}
use Rattle.z_types.specs.declared.address.Address.{Address}
use Rattle.z_types.specs.declared.address.Address.TheVariants.{Test, Tcp, Login}
use Rattle.z_types.specs.declared.address.Site.TheVariants as site
use Rattle.gw_outside.specs.declared.happenings.Happening.{Happening}
use Rattle.gw_outside.specs.declared.links.Linked as linked
use Rattle.gw_outside.specs.declared.wires.Looked.TheVariants as looked
use Rattle.gw_outside.specs.Happened.{Happened, AreSame, at_address, is_cut, to_peer}
use Rattle.gw_outside.specs.Peers.{Peer}
use Rattle.gw_outside.specs.Wires.{ArrivesFrom, DelaysLooked, LooksSteadily}
use Rattle.z_client.specs.declared.arrivals.Arrival.{Arrival}
use Rattle.z_client.specs.declared.arrivals.Arrival.TheVariants.{Unit as Whole, NotYet, Breach, Failed, Memory}
use Rattle.z_client.specs.Arrivals.{AwaitsSteadily, IsAwaited, IsInFront, IsLooked, NoneCame, OneCame, looked_for}
use Rattle.z_client.proofs.ArrivalLemmas.{no_frame, not_open, take_none, nothing_opens, frame_opens}

-- ---- what is made to happen, where nothing changes

pub address_again : (a b : Happened) (address : Address) → AreSame a b → at_address b address ≡ at_address a address
address_again a b (Test target) s = s.of_target target
address_again a b (Tcp host port) s = refl
address_again a b (Login (site.Test target) login) s = s.of_target target
address_again a b (Login (site.Tcp host port) login) s = refl

peer_again : (a b : Happened) (peer : Option Peer) → AreSame a b → to_peer b peer ≡ to_peer a peer
peer_again a b None s = refl
peer_again a b (Some peer) s = address_again a b peer.address s

pub cut_again : (a b : Happening) (m n : ℕ) (is : Bool) → a ≡ b → m ≡ n → is_cut a m ≡ is → is_cut b n ≡ is
cut_again a b m n is e f cut = sym (ap (λ h. is_cut h m) e ∙ ap (λ k. is_cut b k) f) ∙ cut

-- ---- what arrives

arrives_frame : (old new : Option Peer) (octets : List ℕ) → IsSome old → ArrivesFrom old new octets → IsFrame octets
arrives_frame None new octets some a = let no_way : false ≡ true = some in absurd cc
arrives_frame (Some old) None octets some a = absurd a
arrives_frame (Some old) (Some new) octets some a = a.unit.frame

module _ {L : Type 0} (l : linked.Ghosts L) (before : Happened) (old : L) where
  -- nothing has come at first
  pub awaited_first : l.arrived old ≡ [] → IsAwaited l before old old
  awaited_first e = record { number = refl; came = inl (record { none = e; peer = refl; delays = refl }) }

  module _ (mid : L) where
    abbrev Came : Type 0
    Came = NoneCame l before old mid ⊎ OneCame l before old mid

    whole_one : (size : ℕ) → IsFrame (take size (l.arrived mid)) → Came → OneCame l before old mid
    whole_one size f (inl c) = no_frame (take size (l.arrived mid)) f (take_none size (l.arrived mid) c.none)
    whole_one size f (inr c) = c

    bad_one : IsBadFor IsFrame (l.arrived mid) → Came → OneCame l before old mid
    bad_one bad (inl c) = nothing_opens (subst (λ octets. IsBadFor IsFrame octets) c.none bad)
    bad_one bad (inr c) = frame_opens (l.arrived mid) c.frame bad

    open_none : IsOpenFor IsFrame (l.arrived mid) → Came → NoneCame l before old mid
    open_none o (inl c) = c
    open_none o (inr c) = not_open (l.arrived mid) c.frame o

    -- a unit or a breach in front ends the wait
    pub front_awaits : (answer : Arrival) → IsAwaited l before old mid → IsInFront (l.arrived mid) (Some answer) → AwaitsSteadily l before old mid answer
    front_awaits (Whole size) a f =
        let one = whole_one size f.1 a.came in
        record { number = a.number; delays = one.due; fails = λ e. absurd cc; uncut = λ e. one.uncut }
    front_awaits Breach a f =
        let one = bad_one f a.came in
        record { number = a.number; delays = one.due; fails = λ e. absurd cc; uncut = λ e. one.uncut }
    front_awaits NotYet a f = absurd f
    front_awaits Failed a f = absurd f
    front_awaits Memory a f = absurd f

    -- no look ended it
    pub loop_awaits : IsAwaited l before old mid → AwaitsSteadily l before old mid Memory
    loop_awaits a = record { number = a.number; delays = tt; fails = λ e. absurd cc; uncut = λ e. absurd cc }

    module _ (new : L) (now after : Happened) (same : AreSame before now) (steady : before.steady ≡ true) (a : IsAwaited l before old mid) (o : IsOpenFor IsFrame (l.arrived mid)) where
      abbrev none_came : NoneCame l before old mid
      none_came = open_none o a.came

      -- what is cut then was
      was_cut : (is : Bool) → is_cut (to_peer now (l.peer mid)) (l.number mid) ≡ is → is_cut (to_peer before (l.peer old)) (l.number old) ≡ is
      was_cut is = cut_again (to_peer now (l.peer mid)) (to_peer before (l.peer old)) (l.number mid) (l.number old) is
          (ap (λ peer. to_peer now peer) none_came.peer ∙ peer_again before now (l.peer old) same) a.number

      -- a look ends it
      pub look_awaits : (answer : Arrival) → IsLooked (l.peer mid) (l.peer new) (l.arrived mid) (l.arrived new) (Some answer)
          → LooksSteadily l mid new now after (looked_for (Some answer)) → AwaitsSteadily l before old new answer
      look_awaits NotYet k s = record {
        number = s.number ∙ a.number;
        delays = subst (λ delays. DelaysLooked delays (l.delays new) looked.NotYet) none_came.delays (s.delays (same.steady ∙ steady));
        fails = λ e. absurd cc;
        uncut = λ e. absurd cc;
      }
      look_awaits Failed k s = record {
        number = s.number ∙ a.number;
        delays = s.delays (same.steady ∙ steady) ∙ none_came.delays;
        fails = λ e. was_cut true (s.fails refl (same.steady ∙ steady));
        uncut = λ e. absurd cc;
      }
      look_awaits Memory k s = record { number = s.number ∙ a.number; delays = tt; fails = λ e. absurd cc; uncut = λ e. absurd cc }
      look_awaits Breach k s = absurd k
      look_awaits (Whole size) k s = absurd k

      -- a reply arrives at a look
      pub look_awaited : IsSome (l.peer old) → IsLooked (l.peer mid) (l.peer new) (l.arrived mid) (l.arrived new) None
          → LooksSteadily l mid new now after looked.Arrived → IsAwaited l before old new
      look_awaited some k s = record {
        number = s.number ∙ a.number;
        came = inr (record {
          frame = subst (λ octets. IsFrame octets) (sym (k.1 ∙ ap (λ front. front ++ k.0) none_came.none))
              (arrives_frame (l.peer mid) (l.peer new) k.0 (subst (λ peer. IsSome peer) (sym none_came.peer) some) k.2);
          due = sym none_came.delays ∙ s.delays (same.steady ∙ steady);
          uncut = was_cut false (s.arrives refl (same.steady ∙ steady));
        });
      }
