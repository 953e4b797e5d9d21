-- The link of a session that is opened over a steady wire, at an address that is told (this project's own)
use Rattle.std.proofs.Common.{◌≡◌, ◌∙◌, ℕ, Bool, true, false, List, [], ◌∷◌, ◌++◌, Option, None, Some, refl, sym, ap}
use Rattle.z_types.specs.declared.address.Address.{Address}
use Rattle.z_types.specs.declared.world.World as world
use Rattle.gw_outside.specs.declared.links.Linked as linked
use Rattle.gw_outside.specs.declared.wires.Sent.TheVariants as sent
use Rattle.gw_outside.specs.Counts.{Counts}
use Rattle.gw_outside.specs.Happened.{Happened, at_address, is_cut, to_peer}
use Rattle.gw_outside.specs.Peers.{Peer}
use Rattle.gw_outside.specs.Wires.{IsNewLink, IsNewPeer, IsRequestUnit, SendCounts, SendsSteadily}
use Rattle.z_client.specs.Units.{init_request}
use Rattle.z_types.specs.Logins.{inner, login_of}
use Rattle.z_client.proofs.AddressLemmas.{at_inner}
use Rattle.z_client.proofs.SteadyArrivals.{cut_again}

-- what happens to a new link happens at its address
new_at : (told : Type 0) (address : Address) (h : Happened) (peer : Option Peer) → told → IsNewPeer told address peer → to_peer h peer ≡ at_address h address
new_at told address h None is fresh = let no_way : false ≡ true = fresh.where_told is in absurd cc
new_at told address h (Some peer) is fresh = ap (λ (p : Peer). at_address h p.address) fresh.new

-- ---- an Init that is sent, or not

module _ {W L : Type 0} (w : world.Ghosts W) (l : linked.Ghosts L) (exact : Bool) (address : Address) (unit : List ℕ) (old new : L) (h then_ : Happened) (before now : Counts)
    (fresh : IsNewLink w l exact (inner address) before old) (told : w.told address) (steady : h.steady ≡ true) where
  abbrev there : to_peer h (l.peer old) ≡ at_address h address
  there = new_at (w.told (inner address)) (inner address) h (l.peer old) (w.inner_is_told address told) fresh.peer ∙ at_inner h address

  module _ (is : IsRequestUnit unit (init_request (login_of address))) where
    pub greeted_number : SendsSteadily l unit old new h then_ sent.Sent → SendCounts exact unit sent.Sent before now → exact ≡ true → l.number new ≡ now.dials
    greeted_number s c x = s.number ∙ fresh.number x ∙ sym (ap (λ (count : Counts). count.dials) (c.exactly (init_request (login_of address)) is x))

    pub greeted_delays : SendsSteadily l unit old new h then_ sent.Sent → l.delays new ≡ (at_address h address).delay ∷ []
    greeted_delays s = s.delays steady refl (init_request (login_of address)) is ∙ ap (λ delays. delays ++ (to_peer h (l.peer old)).delay ∷ []) fresh.delays
        ∙ ap (λ here. here.delay ∷ []) there

    pub ungreeted_cut : SendsSteadily l unit old new h then_ sent.Failed → SendCounts exact unit sent.Failed before now → exact ≡ true
        → is_cut (at_address h address) now.dials ≡ true
    ungreeted_cut s c x = cut_again (to_peer h (l.peer old)) (at_address h address) (l.number old) now.dials true there
        (fresh.number x ∙ sym (ap (λ (count : Counts). count.dials) (c.exactly (init_request (login_of address)) is x))) (s.fails refl steady)
