-- What is quiet stays so, and does nothing to links (this project's own)
use Rattle.std.proofs.Common.{◌≡◌, ◌∙◌, ℕ, ◌≤◌, ◌==◌, Bool, true, false, List, Option, None, Some, refl, ap, subst, arith}
use Rattle.std.proofs.lemmas.Bool.{eqb-true, eqb-false}
use Rattle.z_types.specs.declared.address.Address.{Address}
use Rattle.z_types.specs.declared.address.Address.TheVariants.{Test, Tcp, Login}
use Rattle.z_types.specs.declared.address.Site.TheVariants as site
use Rattle.z_types.specs.declared.requests.Request.{Request}
use Rattle.z_types.specs.declared.requests.Request.TheVariants as request
use Rattle.gw_outside.specs.declared.happenings.Happening.{Happening}
use Rattle.gw_outside.specs.Peers.{NamedSet, Peer}
use Rattle.gw_outside.specs.Happened.{Happened, nothing_happens, AreSame, AreLess, IsMade, IsAsked, AreQuiet, StaysQuiet, at_address, to_peer, is_cut, sets_found, happening_after}

-- ---- it stays so

pub same_stays : StaysQuiet AreSame
same_stays old new q s = record {
  steady = s.steady ∙ q.steady;
  nothing = λ target. s.of_target target ∙ q.nothing target;
}

none_left : (a : ℕ) → a ≤ 0 → a ≡ 0
none_left a h = omega arith

no_happening : (presents delay cut : ℕ) → presents ≡ 0 → delay ≡ 0 → cut ≡ 0
    → let happening : Happening = record { presents = presents; delay = delay; cut = cut } in happening ≡ nothing_happens
no_happening presents delay cut p d c = cc

less_of : (old new : Happening) → old ≡ nothing_happens → new.presents ≤ old.presents → new.delay ≡ old.delay → new.cut ≡ old.cut
    → new ≡ nothing_happens
less_of old new e p d c =
    no_happening new.presents new.delay new.cut
    (none_left new.presents (subst (λ h. new.presents ≤ h.presents) e p)) (d ∙ ap (λ h. h.delay) e) (c ∙ ap (λ h. h.cut) e)

pub less_stays : StaysQuiet AreLess
less_stays old new q l = record {
  steady = l.steady ∙ q.steady;
  nothing = λ target. less_of (old.of_target target) (new.of_target target) (q.nothing target) (l.presents target) (l.delay target) (l.cut target);
}

-- a request leaves nothing where there was nothing
nothing_after : (req : Request) → happening_after nothing_happens req ≡ nothing_happens
nothing_after (request.Init init) = refl
nothing_after (request.Search search) = refl
nothing_after (request.Present present) = refl
nothing_after (request.Scan scan) = refl
nothing_after (request.Close close) = refl

asked_at : (b : Bool) (own other : ℕ) (req : Request) (old new : Happened) → (other == own) ≡ b → AreQuiet old
    → IsMade own (λ happening. happening_after happening req) old new → new.of_target other ≡ nothing_happens
asked_at true own other req old new e q m =
    ap new.of_target (eqb-true other own e) ∙ m.own ∙ ap (λ happening. happening_after happening req) (q.nothing own) ∙ nothing_after req
asked_at false own other req old new e q m = m.others other (eqb-false other own e) ∙ q.nothing other

made_stays : (own : ℕ) (req : Request) → StaysQuiet (IsMade own (λ happening. happening_after happening req))
made_stays own req old new q m = record {
  steady = m.steady ∙ q.steady;
  nothing = λ target. asked_at (target == own) own target req old new refl q m;
}

pub asked_stays : (address : Address) (req : Request) → StaysQuiet (IsAsked address req)
asked_stays (Test own) req old new q m = made_stays own req old new q m
asked_stays (Tcp host port) req old new q s = same_stays old new q s
asked_stays (Login (site.Test own) login) req old new q m = made_stays own req old new q m
asked_stays (Login (site.Tcp host port) login) req old new q s = same_stays old new q s

-- ---- it does nothing

pub nothing_at : (h : Happened) (address : Address) → AreQuiet h → at_address h address ≡ nothing_happens
nothing_at h (Test target) q = q.nothing target
nothing_at h (Tcp host port) q = refl
nothing_at h (Login (site.Test target) login) q = q.nothing target
nothing_at h (Login (site.Tcp host port) login) q = refl

pub nothing_to : (h : Happened) (peer : Option Peer) → AreQuiet h → to_peer h peer ≡ nothing_happens
nothing_to h None q = refl
nothing_to h (Some peer) q = nothing_at h peer.address q

-- a request finds all sets
pub all_found : (req : Request) (sets : List NamedSet) → sets_found nothing_happens req sets ≡ sets
all_found (request.Init init) sets = refl
all_found (request.Search search) sets = refl
all_found (request.Present present) sets = refl
all_found (request.Scan scan) sets = refl
all_found (request.Close close) sets = refl

-- no link is cut
pub none_cut : (number : ℕ) → 1 ≤ number → is_cut nothing_happens number ≡ false
none_cut number h = grind arith
