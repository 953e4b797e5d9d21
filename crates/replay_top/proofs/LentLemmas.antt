-- a wire that is lent does what it does
use Rattle.std.proofs.Common.{◌≡◌, ◌∙◌, ℕ, Bool, List, [], ◌∷◌, ◌++◌, Option, None, Some, Result, Ok, Err, refl, sym, ap, subst}
use Rattle.std.specs.Prelude.{OnErr, OnOk}
use Rattle.z_types.specs.declared.address.Address.{Address}
use Rattle.z_types.specs.declared.address.Address.TheVariants.{Test, Tcp, Login}
use Rattle.z_types.specs.declared.address.Site.TheVariants as site
use Rattle.z_types.specs.declared.requests.Request.{Request}
use Rattle.z_types.specs.declared.world.World as world
use Rattle.gw_outside.specs.declared.happenings.Happening.{Happening}
use Rattle.gw_outside.specs.declared.links.Linked as linked
use Rattle.gw_outside.specs.declared.wires.Looked.{Looked}
use Rattle.gw_outside.specs.declared.wires.Sent.{Sent}
use Rattle.gw_outside.specs.declared.wires.Sent.TheVariants as sent
use Rattle.gw_outside.specs.Happened.{AreCut, AreLess, AreSame, Happened, IsAsked, IsMade, at_address, is_cut, sets_found, to_peer}
use Rattle.gw_outside.specs.Peers.{Peer, TakesRequest}
use Rattle.gw_outside.specs.Wires.{ArrivesUncut, FailsCut, IsSentTo, LooksSteadily, PeerTakes, SendFits, SendHappens, SendsSteadily}
use Rattle.replay_top.specs.Lent.{lent_by}

-- ---- how what was made to happen changes, under one reference

module _ (m n : ℕ) (e : n ≡ m) (old new : Happened) where
  pub lent_same : AreSame old new → AreSame (lent_by m old) (lent_by n new)
  lent_same h = record { steady = h.steady; lent = e; of_target = h.of_target }

  pub lent_less : AreLess old new → AreLess (lent_by m old) (lent_by n new)
  lent_less h = record { steady = h.steady; lent = e; presents = h.presents; delay = h.delay; cut = h.cut }

  pub lent_made : (target : ℕ) (change : Happening → Happening) → IsMade target change old new → IsMade target change (lent_by m old) (lent_by n new)
  lent_made target change h = record { steady = h.steady; lent = e; own = h.own; others = h.others }

  lent_asked : (address : Address) (request : Request) → IsAsked address request old new → IsAsked address request (lent_by m old) (lent_by n new)
  lent_asked (Test target) request h = lent_made target _ h
  lent_asked (Tcp host port) request h = lent_same h
  lent_asked (Login (site.Test target) login) request h = lent_made target _ h
  lent_asked (Login (site.Tcp host port) login) request h = lent_same h

  lent_sent : (peer : Option Peer) (request : Request) → IsSentTo peer request old new → IsSentTo peer request (lent_by m old) (lent_by n new)
  lent_sent None request h = lent_same h
  lent_sent (Some peer) request h = lent_asked peer.address request h

  lent_sends : (unit : List ℕ) (peer : Option Peer) (answer : Sent) → SendHappens unit peer old new answer
      → SendHappens unit peer (lent_by m old) (lent_by n new) answer
  lent_sends unit peer sent.Sent h = λ request is. lent_sent peer request (h request is)
  lent_sends unit peer sent.Failed h = lent_same h
  lent_sends unit peer sent.Memory h = tt

  pub lent_cut : (exact : Bool) (target dials : ℕ) → AreCut exact target dials old new → AreCut exact target dials (lent_by m old) (lent_by n new)
  lent_cut exact target dials h = record { last = h.last; is_last = h.is_last; made = lent_made target _ h.made }

  -- what an event did, or it was without memory
  pub lent_made_if : {A E : Type 0} (result : Result A E) (target : ℕ) (change : Happening → Happening) → OnOk result (IsMade target change old new)
      → OnOk result (IsMade target change (lent_by m old) (lent_by n new))
  lent_made_if (Ok done) target change h = lent_made target change h
  lent_made_if (Err e) target change h = tt

  pub lent_cut_if : {A E : Type 0} (result : Result A E) (exact : Bool) (target dials : ℕ) → OnOk result (AreCut exact target dials old new)
      → OnOk result (AreCut exact target dials (lent_by m old) (lent_by n new))
  lent_cut_if (Ok done) exact target dials h = lent_cut exact target dials h
  lent_cut_if (Err e) exact target dials h = tt

  pub lent_same_if : {A E : Type 0} (result : Result A E) → OnErr result (AreSame old new) → OnErr result (AreSame (lent_by m old) (lent_by n new))
  lent_same_if (Ok done) h = tt
  lent_same_if (Err e) h = lent_same h

-- ---- what it does to links

module _ (m : ℕ) (h : Happened) where
  lent_at : (address : Address) → at_address (lent_by m h) address ≡ at_address h address
  lent_at (Test target) = refl
  lent_at (Tcp host port) = refl
  lent_at (Login (site.Test target) login) = refl
  lent_at (Login (site.Tcp host port) login) = refl

  lent_to : (peer : Option Peer) → to_peer (lent_by m h) peer ≡ to_peer h peer
  lent_to None = refl
  lent_to (Some peer) = lent_at peer.address

  lent_fails : {L : Type 0} (l : linked.Ghosts L) (link : L) → FailsCut l h link → FailsCut l (lent_by m h) link
  lent_fails l link fails = λ steady. ap (λ (x : Happening). is_cut x (l.number link)) (lent_to (l.peer link)) ∙ fails steady

  lent_arrives : {L : Type 0} (l : linked.Ghosts L) (link : L) → ArrivesUncut l h link → ArrivesUncut l (lent_by m h) link
  lent_arrives l link arrives = λ steady. ap (λ (x : Happening). is_cut x (l.number link)) (lent_to (l.peer link)) ∙ arrives steady

  lent_takes : {W : Type 0} (w : world.Ghosts W) (unit : List ℕ) (old new : Option Peer) → PeerTakes w unit h old new → PeerTakes w unit (lent_by m h) old new
  lent_takes w unit None new takes = takes
  lent_takes w unit (Some old) None takes = takes
  lent_takes w unit (Some old) (Some new) takes = λ request is short.
      subst (λ (x : Happening). TakesRequest w h.steady (sets_found x request old.sets) request old new) (sym (lent_at old.address))
      (takes request is short)

  pub lent_fits : {W : Type 0} (w : world.Ghosts W) (unit : List ℕ) (old new : Option Peer) (answer : Sent) → SendFits w unit h old new answer
      → SendFits w unit (lent_by m h) old new answer
  lent_fits w unit old new sent.Sent fits = lent_takes w unit old new fits
  lent_fits w unit old new sent.Failed fits = tt
  lent_fits w unit old new sent.Memory fits = tt

pub lent_steadily : (m n : ℕ) (e : n ≡ m) {L : Type 0} (l : linked.Ghosts L) (unit : List ℕ) (old new : L) (before after : Happened) (answer : Sent)
    → SendsSteadily l unit old new before after answer → SendsSteadily l unit old new (lent_by m before) (lent_by n after) answer
lent_steadily m n e l unit old new before after answer h = record {
  fails = λ failed. lent_fails m before l old (h.fails failed);
  happened = lent_sends m n e before after unit (l.peer old) answer h.happened;
  less = lent_less m n e before after h.less;
  number = h.number;
  delays = λ steady is request of.
      subst (λ (x : Happening). l.delays new ≡ l.delays old ++ x.delay ∷ []) (sym (lent_to m before (l.peer old))) (h.delays steady is request of);
}

pub lent_looks : (m n : ℕ) (e : n ≡ m) {L : Type 0} (l : linked.Ghosts L) (old new : L) (before after : Happened) (answer : Looked)
    → LooksSteadily l old new before after answer → LooksSteadily l old new (lent_by m before) (lent_by n after) answer
lent_looks m n e l old new before after answer h = record {
  fails = λ failed. lent_fails m before l old (h.fails failed);
  arrives = λ is. lent_arrives m before l old (h.arrives is);
  happened = lent_same m n e before after h.happened;
  number = h.number;
  delays = h.delays;
}
