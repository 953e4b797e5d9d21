-- what an event does for its client
use Rattle.std.proofs.Common.{◌≡◌, ℕ, Bool, false, List, refl, subst, sym}
use Rattle.z_types.specs.declared.sitting.Sitting as sitting
use Rattle.z_types.specs.declared.world.World as world
use Rattle.route_config.specs.declared.route.Route.{Route}
use Rattle.front_conn_costs.specs.front_conn.steps.Answering.{Outside}
use Rattle.script.specs.declared.event.Event.{Event}
use Rattle.script.specs.declared.event.Event.TheVariants.{Feed, End, Step, Run, Tick, Gone, Cut, Slow}
use Rattle.replay.specs.Clients.{ClientState}
use Rattle.replay.specs.Trace.{HasRun, IsClientStep, PlaysFor, with_no_more, with_octets}
use Rattle.replay.specs.steps.Playing.{CanTake, IsOfClient}

-- an input that is fed has not ended
pub feeds_open : {S : Type 0} (event : Event) (number : ℕ) (octets : List ℕ) (client : ClientState S) → event ≡ Feed number octets → CanTake event client
    → client.conn.has_ended ≡ false
feeds_open event number octets client e takes = subst (λ (x : Event). CanTake x client) e takes

-- another event is of no client
pub not_a_client : (event : Event) → IsOfClient event
    → ((number : ℕ) (octets : List ℕ) → event ≡ Feed number octets → ⊥) → ((number : ℕ) → event ≡ End number → ⊥)
    → ((number : ℕ) → event ≡ Step number → ⊥) → ((number : ℕ) → event ≡ Run number → ⊥) → ⊥
not_a_client (Feed number octets) of feeds ends steps runs = feeds number octets refl
not_a_client (End number) of feeds ends steps runs = ends number refl
not_a_client (Step number) of feeds ends steps runs = steps number refl
not_a_client (Run number) of feeds ends steps runs = runs number refl
not_a_client (Tick seconds) of feeds ends steps runs = cc
not_a_client (Gone target presents) of feeds ends steps runs = cc
not_a_client (Cut target) of feeds ends steps runs = cc
not_a_client (Slow target looks) of feeds ends steps runs = cc

module _ {W S : Type 0} (w : world.Ghosts W) (t : sitting.Ghosts S W) (exact : Bool) (route : Route) (event : Event) (now : ℕ) where
  pub plays_feed : (number : ℕ) (octets piece : List ℕ) (old new : ClientState S) (before : Outside S) → event ≡ Feed number octets → piece ≡ octets
      → new ≡ with_octets piece old → PlaysFor w t exact route event now old new before before
  plays_feed number octets piece old new before e p h =
      let fed : PlaysFor w t exact route (Feed number octets) now old new before before =
      (subst (λ (os : List ℕ). new ≡ with_octets os old) p h, refl) in
      subst (λ (x : Event). PlaysFor w t exact route x now old new before before) (sym e) fed

  pub plays_end : (number : ℕ) (old new : ClientState S) (before : Outside S) → event ≡ End number → new ≡ with_no_more old
      → PlaysFor w t exact route event now old new before before
  plays_end number old new before e h =
      let ended : PlaysFor w t exact route (End number) now old new before before = (h, refl) in
      subst (λ (x : Event). PlaysFor w t exact route x now old new before before) (sym e) ended

  pub plays_step : (number : ℕ) (idle : Bool) (old new : ClientState S) (before behind : Outside S) → event ≡ Step number
      → IsClientStep w t exact route now idle old new before behind → PlaysFor w t exact route event now old new before behind
  plays_step number idle old new before behind e h =
      let stepped : PlaysFor w t exact route (Step number) now old new before behind = (idle, h) in
      subst (λ (x : Event). PlaysFor w t exact route x now old new before behind) (sym e) stepped

  pub plays_run : (number : ℕ) (old new : ClientState S) (before behind : Outside S) → event ≡ Run number
      → HasRun w t exact route now old new before behind → PlaysFor w t exact route event now old new before behind
  plays_run number old new before behind e h =
      subst (λ (x : Event). PlaysFor w t exact route x now old new before behind) (sym e) h
