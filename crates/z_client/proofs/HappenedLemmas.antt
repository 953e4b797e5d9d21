-- What is made to happen to links stays, or becomes less (this project's own)
use Rattle.std.proofs.Common.{◌≡◌, ◌∙◌, ◌≢◌, ◌⊎◌, inl, inr, ℕ, true, false, Option, None, Some, List, refl, sym, subst}
use Rattle.std.proofs.Math.Dec.{eqb}
use Rattle.std.proofs.lemmas.Bool.Decides.{eqb_tells}
use Rattle.z_types.specs.declared.address.Address.{Address}
use Rattle.z_types.specs.declared.address.Address.TheVariants.{Test, Tcp, Login}
use Rattle.z_types.specs.declared.address.Site.TheVariants as site
use Rattle.gw_outside.specs.declared.wires.Sent.TheVariants as sent
use Rattle.gw_outside.specs.Happened.{Happened, AreSame, IsMade, IsAsked}
use Rattle.gw_outside.specs.declared.links.Linked as linked
use Rattle.gw_outside.specs.Peers.{Peer}
use Rattle.gw_outside.specs.Wires.{SendHappens, IsSentTo, IsRequestUnit, IsSameLink}
use Rattle.z_client.specs.Units.{init_request}

pub same_self : (h : Happened) → AreSame h h
same_self h = record { steady = refl; lent = refl; of_target = λ target. refl }

pub same_again : (a b c : Happened) → AreSame a b → AreSame b c → AreSame a c
same_again a b c s t = record { steady = t.steady ∙ s.steady; lent = t.lent ∙ s.lent; of_target = λ target. t.of_target target ∙ s.of_target target }

-- nothing of a link changes
pub same_link : {L : Type 0} (l : linked.Ghosts L) (link : L) → IsSameLink l link link
same_link l link = record { peer = refl; number = refl; delays = refl }

module _ (a b : Happened) where
  made_same : (own target : ℕ) → IsMade own (λ happening. happening) a b → ((eqb own target ≡ true) × (own ≡ target)) ⊎ ((eqb own target ≡ false) × (own ≢ target))
      → b.of_target target ≡ a.of_target target
  made_same own target m (inl e) = subst (λ at. b.of_target at ≡ a.of_target at) e.1 m.own
  made_same own target m (inr e) = m.others target (λ is. e.1 (sym is))

  -- what is made of a target's where nothing is
  pub unmade_same : (own : ℕ) → IsMade own (λ happening. happening) a b → AreSame a b
  unmade_same own s = record { steady = s.steady; lent = s.lent; of_target = λ target. made_same own target s (eqb_tells own target) }

  address_same : (address : Address) (login : Option (List ℕ)) → IsAsked address (init_request login) a b → AreSame a b
  address_same (Test own) login s = unmade_same own s
  address_same (Tcp host port) login s = s
  address_same (Login (site.Test own) other) login s = unmade_same own s
  address_same (Login (site.Tcp host port) other) login s = s

  -- an Init leaves all that is to happen
  init_same : (peer : Option Peer) (login : Option (List ℕ)) → IsSentTo peer (init_request login) a b → AreSame a b
  init_same None login s = s
  init_same (Some peer) login s = address_same peer.address login s

  pub greeted_same : (unit : List ℕ) (peer : Option Peer) (login : Option (List ℕ)) → IsRequestUnit unit (init_request login) → SendHappens unit peer a b sent.Sent → AreSame a b
  greeted_same unit peer login is s = init_same peer login (s (init_request login) is)
