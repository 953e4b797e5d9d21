-- clients, event by event
use Rattle.std.proofs.Common.{arith, add-one, ◌-◌, ◌≡◌, ◌≢◌, ◌∙◌, ◌<◌, ◌≤◌, ◌+◌, ℕ, zero, suc, Bool, true, false, List, [], ◌∷◌, ◌++◌, Option, None, Some, IsSome, inl, inr, length, get_or, slice_set, refl, sym, ap, subst}
use Rattle.std.proofs.Math.ListN.{length-set}
use Rattle.std.proofs.lemmas.Bool.{cases_eq}
use Rattle.std.proofs.lemmas.Grind.{get_or-set_at}
use Rattle.std.proofs.lemmas.List.{get_or-set_other, set-get_or, set-set}
use Rattle.std.specs.Prelude.{unwrap_or}
use Rattle.std.proofs.lemmas.Option.{none-some, same_Some, slice_get_past, slice_get_read, unwrap_or-slice_get}
use Rattle.z_types.specs.declared.sitting.Sitting as sitting
use Rattle.z_types.specs.declared.world.World as world
use Rattle.route_config.specs.declared.route.Route.{Route}
use Rattle.script.specs.declared.event.Event.{Event}
use Rattle.script.specs.declared.event.Event.TheVariants.{Feed, End, Step, Run, Tick, Gone, Cut, Slow}
use Rattle.script.specs.Events.{IsClient, IsEvent, client_of, fed, has_ended, is_of, may_follow, most_clients}
use Rattle.front_conn_costs.specs.front_conn.steps.Answering.{Outside}
use Rattle.package_quiet.specs.leg.Deeds.{BackendView}
use Rattle.package_quiet.specs.leg.Turns.{DoorView}
use Rattle.front_conn_costs.specs.front_conn.steps.States.{IsConnOf}
use Rattle.replay.specs.Trace.{IsBefallen, IsPlayed, PlaysAt, PlaysOf, Playing}
use Rattle.replay.specs.Clients.{AreNone, ClientState, client_at, client_or_new, new_client}
use Rattle.replay.specs.steps.Clients.{AreClientsOf, IsClientFed, IsClientOf}
use Rattle.replay.specs.steps.Laws.{Laws}
use Rattle.replay.specs.steps.Playing.{CanTake, IsOfClient, ended_with, octets_with}
use Rattle.replay.proofs.EventLemmas.{not_own, of_none, fed-more, fed-other, named-more, named-other, ended-more, ended-other, feeds-open, unnamed-ended, unnamed-fed}
use Rattle.replay.proofs.StepLemmas.{event_fed, new_fed}

-- ---- the client of a place

pub client_at-set : {S : Type 0} (clients : List (Option (ClientState S))) (place : ℕ) (new : Option (ClientState S)) → place < length clients
    → client_at (slice_set clients place new) place ≡ new
client_at-set clients place new within =
    unwrap_or-slice_get (slice_set clients place new) place None ∙ get_or-set_at clients place place new None refl within

pub client_at-other : {S : Type 0} (clients : List (Option (ClientState S))) (place other : ℕ) (new : Option (ClientState S)) → other ≢ place
    → client_at (slice_set clients place new) other ≡ client_at clients other
client_at-other clients place other new ne =
    unwrap_or-slice_get (slice_set clients place new) other None ∙ get_or-set_other clients place other new None ne
    ∙ sym (unwrap_or-slice_get clients other None)

-- as it was read
pub client_at-read : {S : Type 0} (clients : List (Option (ClientState S))) (place : ℕ) (here : Option (ClientState S)) → place < length clients
    → here ≡ get_or clients place here → here ≡ client_at clients place
client_at-read clients place here within is = sym (ap (λ found. unwrap_or found None) (slice_get_read clients (length clients) place here refl within is))

-- behind the last place
pub client_at-behind : {S : Type 0} (clients : List (Option (ClientState S))) (place : ℕ) → length clients ≤ place → client_at clients place ≡ None
client_at-behind clients place behind = ap (λ found. unwrap_or found None) (slice_get_past clients place behind)

-- what stands there is put there again
pub set_same : {S : Type 0} (clients : List (Option (ClientState S))) (place : ℕ) → slice_set clients place (client_at clients place) ≡ clients
set_same clients place =
    ap (λ (c : Option _). slice_set clients place c) (unwrap_or-slice_get clients place None) ∙ set-get_or clients place None

pub set_twice : {S : Type 0} (clients : List (Option (ClientState S))) (place : ℕ) (first then : Option (ClientState S))
    → slice_set (slice_set clients place first) place then ≡ slice_set clients place then
set_twice clients place first then = set-set clients place first then

-- one place more without a client
pub none-more : {S : Type 0} (clients : List (Option (ClientState S))) → AreNone clients → AreNone (clients ++ None ∷ [])
none-more [] none zero = refl
none-more [] none (suc place) = refl
none-more (client ∷ clients) none zero = none zero
none-more (client ∷ clients) none (suc place) = none-more clients (λ other. none (suc other)) place

-- an event of a client is of one of those that there may be
pub client_within : (event : Event) (targets number : ℕ) → client_of event ≡ Some number → IsEvent targets event → IsClient number
client_within (Feed client octets) targets number e h = subst (λ (n : ℕ). IsClient n) (same_Some client number e) h
client_within (End client) targets number e h = subst (λ (n : ℕ). IsClient n) (same_Some client number e) h
client_within (Step client) targets number e h = subst (λ (n : ℕ). IsClient n) (same_Some client number e) h
client_within (Run client) targets number e h = subst (λ (n : ℕ). IsClient n) (same_Some client number e) h
client_within (Tick seconds) targets number e h = absurd (none-some number e)
client_within (Gone target presents) targets number e h = absurd (none-some number e)
client_within (Cut target) targets number e h = absurd (none-some number e)
client_within (Slow target looks) targets number e h = absurd (none-some number e)

module _ {W S : Type 0} (w : world.Ghosts W) (t : sitting.Ghosts S W) (route : Route) (most : ℕ) where
  -- where no client is named
  pub nobody : (clients : List (Option (ClientState S))) → length clients ≡ most_clients → AreNone clients → AreClientsOf w t route most [] clients
  nobody clients all none = record {
    all = all;
    each = λ place within. subst (λ (c : Option (ClientState S)). IsClientOf w t route most [] (suc place) c) (sym (none place)) refl;
  }

  -- what is fed and whether the input has ended, by other names
  pub fed_as : (octets other : List ℕ) (ended after : Bool) (client : ClientState S) → other ≡ octets → after ≡ ended
      → IsClientFed w t route most octets ended client → IsClientFed w t route most other after client
  fed_as octets other ended after client e f h =
      subst (λ (os : List ℕ). IsClientFed w t route most os after client) (sym e)
      (subst (λ (b : Bool). IsClientFed w t route most octets b client) (sym f) h)

  -- an event of another leaves a client as it is
  pub other_client : (before : List Event) (event : Event) (number : ℕ) (client : Option (ClientState S)) → is_of number event ≡ false
      → IsClientOf w t route most before number client → IsClientOf w t route most (before ++ event ∷ []) number client
  other_client before event number None e h = named-other before event number e ∙ h
  other_client before event number (Some client) e h = (
    named-other before event number e ∙ h.0,
    fed_as (fed before number) (fed (before ++ event ∷ []) number) (has_ended before number) (has_ended (before ++ event ∷ []) number) client
        (fed-other before event number e) (ended-other before event number e) h.1,
  )

  -- the client of a place, or a new one, was fed what events feed it
  pub or_new_fed : Laws w t → (before : List Event) (number : ℕ) (place : Option (ClientState S)) → IsClientOf w t route most before number place
      → IsClientFed w t route most (fed before number) (has_ended before number) (client_or_new place)
  or_new_fed laws before number None off =
      fed_as [] (fed before number) false (has_ended before number) new_client (unnamed-fed before number off) (unnamed-ended before number off)
      (new_fed w t route most laws (λ e. record { sets = tt; in_work = tt; one_work = tt }))
  or_new_fed laws before number (Some client) h = h.1

  -- and may take what an event feeds it that may follow them
  pub can_take : Laws w t → (event : Event) (before : List Event) (number : ℕ) (place : Option (ClientState S)) → client_of event ≡ Some number
      → may_follow before event ≡ true → IsClientOf w t route most before number place → CanTake event (client_or_new place)
  can_take laws (Feed client octets) before number place its may stands =
      let same : client ≡ number = let e = its in cc in
      let open_ : may_follow before (Feed number octets) ≡ true = subst (λ (n : ℕ). may_follow before (Feed n octets) ≡ true) same may in
      (or_new_fed laws before number place stands).input ∙ feeds-open before number octets open_
  can_take laws (End client) before number place its may stands = tt
  can_take laws (Step client) before number place its may stands = tt
  can_take laws (Run client) before number place its may stands = tt
  can_take laws (Tick seconds) before number place its may stands = tt
  can_take laws (Gone target presents) before number place its may stands = tt
  can_take laws (Cut target) before number place its may stands = tt
  can_take laws (Slow target looks) before number place its may stands = tt

  module _ (laws : Laws w t) (exact : Bool) (now : ℕ) where
    -- an event of a client, played at its place
    own_client : (event : Event) (before : List Event) (number : ℕ) (old new : Option (ClientState S)) (from to : Outside S) → from.door.counts.most ≡ most
        → client_of event ≡ Some number → CanTake event (client_or_new old) → PlaysAt w t exact route event now old new from to
        → IsClientOf w t route most before number old → IsClientOf w t route most (before ++ event ∷ []) number new
    own_client event before number old new from to m its takes h stands =
        subst (λ (c : Option (ClientState S)). IsClientOf w t route most (before ++ event ∷ []) number c) (sym h.is_there) (
          named-more before event number its,
          fed_as (octets_with event (fed before number)) (fed (before ++ event ∷ []) number) (ended_with event (has_ended before number))
              (has_ended (before ++ event ∷ []) number) h.client (fed-more before event number its) (ended-more before event number its)
              (event_fed w t route most laws exact now event (client_or_new old) h.client from to m takes h.plays
              (fed before number) (has_ended before number) (or_new_fed laws before number old stands)),
        )

    -- at the place of its client, among all
    among : (event : Event) (before : List Event) (place : ℕ) (clients : List (Option (ClientState S))) (here : Option (ClientState S)) (from to : Outside S)
        → place < length clients → from.door.counts.most ≡ most → client_of event ≡ Some (suc place) → CanTake event (client_or_new (client_at clients place))
        → PlaysAt w t exact route event now (client_at clients place) here from to
        → AreClientsOf w t route most before clients → AreClientsOf w t route most (before ++ event ∷ []) (slice_set clients place here)
    among event before place clients here from to within m its takes h stand = record {
      all = length-set clients place here ∙ stand.all;
      each = λ other among_them.
          elim (cases_eq other place) [
            | inl e ↦
                subst (λ (o : ℕ). IsClientOf w t route most (before ++ event ∷ []) (suc o) (client_at (slice_set clients place here) o)) (sym e)
                (subst (λ (c : Option (ClientState S)). IsClientOf w t route most (before ++ event ∷ []) (suc place) c) (sym (client_at-set clients place here within))
                (own_client event before (suc place) (client_at clients place) here from to m its takes h (stand.each place within)))
            | inr ne ↦
                let off : is_of (suc other) event ≡ false = not_own event (suc place) (suc other) its (λ (x : suc place ≡ suc other). ne (let y = sym x in cc)) in
                subst (λ (c : Option (ClientState S)). IsClientOf w t route most (before ++ event ∷ []) (suc other) c) (sym (client_at-other clients place other here ne))
                (other_client before event (suc other) (client_at clients other) off
                (stand.each other (subst (λ (n : ℕ). other < n) (length-set clients place here) among_them)))
          ];
    }

    -- of no client
    of_nobody : (event : Event) (before : List Event) (clients : List (Option (ClientState S))) → client_of event ≡ None
        → AreClientsOf w t route most before clients → AreClientsOf w t route most (before ++ event ∷ []) clients
    of_nobody event before clients none stand = record {
      all = stand.all;
      each = λ place within. other_client before event (suc place) (client_at clients place) (of_none event (suc place) none) (stand.each place within);
    }

    -- whoever it is of
    played_of : (event : Event) (of : Option ℕ) (targets : ℕ) (before : List Event) (old new : Playing S) → client_of event ≡ of → IsEvent targets event
        → may_follow before event ≡ true → old.outside.door.counts.most ≡ most → PlaysOf w t exact route of event now old new
        → AreClientsOf w t route most before old.clients → AreClientsOf w t route most (before ++ event ∷ []) new.clients
    played_of event None targets before old new its is may m h stand =
        subst (λ (cs : List (Option (ClientState S))). AreClientsOf w t route most (before ++ event ∷ []) cs) (sym h.clients)
        (of_nobody event before old.clients its stand)
    played_of event (Some number) targets before old new its is may m h stand =
        let within = client_within event targets number its is in
        let place = number - 1 in
        let above : number ≡ place + 1 = omega (arith, within.0) in
        let its' : client_of event ≡ Some (suc place) = its ∙ ap Some (above ∙ add-one place) in
        let there : place < length old.clients = omega (arith, within.0, within.1, stand.all) in
        subst (λ (cs : List (Option (ClientState S))). AreClientsOf w t route most (before ++ event ∷ []) cs) (sym h.others)
        (among event before place old.clients h.here old.outside new.outside there m its'
        (can_take laws event before (suc place) (client_at old.clients place) its' may (stand.each place there)) h.plays stand)

    pub event_stands : (event : Event) (targets : ℕ) (before : List Event) (old new : Playing S) → IsEvent targets event
        → may_follow before event ≡ true → old.outside.door.counts.most ≡ most → IsPlayed w t exact route event now old new
        → AreClientsOf w t route most before old.clients → AreClientsOf w t route most (before ++ event ∷ []) new.clients
    event_stands event targets before old new is may m h stand = played_of event (client_of event) targets before old new refl is may m h stand

  -- what an event of the client of a place asks
  pub record CanPlayHere (event : Event) (here : Option (ClientState S)) : Type 0 where
    pub its : IsOfClient event
    pub of : IsConnOf w t route most (client_or_new here).conn
    pub takes : CanTake event (client_or_new here)

  pub can_play_here : Laws w t → (event : Event) (before : List Event) (clients : List (Option (ClientState S))) (place : ℕ) (here : Option (ClientState S))
      → client_of event ≡ Some (suc place) → may_follow before event ≡ true → here ≡ client_at clients place
      → IsClientOf w t route most before (suc place) (client_at clients place) → CanPlayHere event here
  can_play_here laws event before clients place here its may is stands =
      let at : IsClientOf w t route most before (suc place) here = subst (λ (c : Option (ClientState S)). IsClientOf w t route most before (suc place) c) (sym is) stands in record {
        its = subst (λ (o : Option ℕ). IsSome o) (sym its) refl;
        of = (or_new_fed laws before (suc place) here at).of;
        takes = can_take laws event before (suc place) here its may at;
      }

module _ {W S : Type 0} (w : world.Ghosts W) (t : sitting.Ghosts S W) (exact : Bool) (route : Route) (event : Event) (now : ℕ) where
  -- an event that was played at the place of its client was played among all
  pub played_here : (number : ℕ) (clients : List (Option (ClientState S))) (here new : Option (ClientState S)) (before behind : Outside S)
      → client_of event ≡ Some number → here ≡ client_at clients (number - 1) → PlaysAt w t exact route event now here new before behind
      → IsPlayed w t exact route event now (record { clients = clients; outside = before })
      (record { clients = slice_set clients (number - 1) new; outside = behind })
  played_here number clients here new before behind its is h =
      subst (λ (o : Option ℕ). PlaysOf w t exact route o event now (record { clients = clients; outside = before })
      (record { clients = slice_set clients (number - 1) new; outside = behind })) (sym its)
      (record {
        here = new;
        plays = subst (λ (c : Option (ClientState S)). PlaysAt w t exact route event now c new before behind) is h;
        others = refl;
      })

  -- one of no client was
  pub played_none : (clients : List (Option (ClientState S))) (door : DoorView S) (old new : BackendView) → client_of event ≡ None
      → IsBefallen exact route event old new
      → IsPlayed w t exact route event now (record { clients = clients; outside = record { door = door; backend = old } })
      (record { clients = clients; outside = record { door = door; backend = new } })
  played_none clients door old new none h =
      subst (λ (o : Option ℕ). PlaysOf w t exact route o event now (record { clients = clients; outside = record { door = door; backend = old } })
      (record { clients = clients; outside = record { door = door; backend = new } })) (sym none)
      (record { clients = refl; door = refl; backend = h })
