-- clients are closed, one behind another
use Rattle.std.proofs.Common.{◌≡◌, ◌≢◌, ◌∙◌, ◌<◌, ◌≤◌, ◌+◌, ◌-◌, ℕ, suc, Bool, true, false, List, [], ◌∷◌, ◌++◌, Option, None, Some, IfSome, IsSome, if◌then◌else◌, length, slice_set, inl, inr, refl, sym, ap, subst, add-one, append-nil, append_assoc, arith}
use Rattle.std.proofs.lemmas.Grind.{flat_map-append}
use Rattle.std.proofs.lemmas.Bool.{cases_eq, cases_lt}
use Rattle.std.proofs.lemmas.Option.{none-some, same_Some}
use Rattle.std.proofs.Math.ListN.{length-set}
use Rattle.std.specs.List.{flat_map}
use Rattle.z_types.specs.declared.sitting.Sitting as sitting
use Rattle.z_types.specs.declared.world.World as world
use Rattle.route_config.specs.declared.route.Route.{Route}
use Rattle.front_conn_costs.specs.front_conn.steps.Answering.{Outside}
use Rattle.front_conn_costs.specs.front_conn.steps.States.{IsConnOf}
use Rattle.script.specs.declared.event.Event.{Event}
use Rattle.script.specs.declared.event.Event.TheVariants.{End, Run}
use Rattle.script.specs.Events.{fed, has_ended, is_named, most_clients, named, named_upto}
use Rattle.replay.specs.Trace.{ArePlayed, HasRun, IsPlayed, Playing, closing, closings, moment_behind, with_no_more}
use Rattle.replay.specs.Clients.{ClientState, client_at, client_or_new}
use Rattle.replay.specs.steps.Clients.{AreClientsOf, AreEnded, IsClientOf, IsClosedOf}
use Rattle.replay.specs.steps.Costs.{AreCosted}
use Rattle.replay.specs.steps.Laws.{CostLaws, Laws}
use Rattle.front_conn_costs.specs.steps.Laws.{IsCosted}
use Rattle.route_config.specs.Sound.{IsSound}
use Rattle.replay.specs.steps.Closing.{AreAllClosed, ClosesAt, IsClosedNow}
use Rattle.replay.proofs.ClientLemmas.{client_at-behind, client_at-other, client_at-set, set_same, set_twice}
use Rattle.replay.proofs.StepLemmas.{no_more_fed, run_closes, run_fed, run_most}
use Rattle.replay.proofs.SumLemmas.{closing_costed, costed_on, nothing_costed, place_costed}
use Rattle.replay.proofs.TraceLemmas.{moment-closing, moment-more, played-more}

-- ---- which are named

-- the clients up to the next number
named_upto-suc : (last : ℕ) (events : List Event) → named_upto (suc last) events ≡ named_upto last events ++ (if is_named events (suc last) then suc last ∷ [] else [])
unfolding named_upto
named_upto-suc last events = refl

pub named_upto-with : (last : ℕ) (events : List Event) → is_named events (suc last) ≡ true → named_upto (suc last) events ≡ named_upto last events ++ suc last ∷ []
named_upto-with last events e = named_upto-suc last events ∙ ap (λ (b : Bool). named_upto last events ++ (if b then suc last ∷ [] else [])) e

pub named_upto-without : (last : ℕ) (events : List Event) → is_named events (suc last) ≡ false → named_upto (suc last) events ≡ named_upto last events
named_upto-without last events e =
    named_upto-suc last events ∙ ap (λ (b : Bool). named_upto last events ++ (if b then suc last ∷ [] else [])) e ∙ append-nil (named_upto last events)

-- those up to a number are closed
abbrev pub closings_upto : ℕ → List Event → List Event
closings_upto last events = flat_map closing (named_upto last events)

pub closings-none : (events : List Event) → closings_upto 0 events ≡ []
unfolding named_upto
closings-none events = refl

pub closings-all : (events : List Event) → closings_upto most_clients events ≡ closings events
unfolding named
closings-all events = refl

pub closings-with : (last : ℕ) (events : List Event) → is_named events (suc last) ≡ true
    → closings_upto (suc last) events ≡ (closings_upto last events ++ End (suc last) ∷ []) ++ Run (suc last) ∷ []
closings-with last events e =
    ap (λ (cs : List ℕ). flat_map closing cs) (named_upto-with last events e)
    ∙ flat_map-append closing (named_upto last events) (suc last ∷ [])
    ∙ sym (append_assoc (closings_upto last events) (End (suc last) ∷ []) (Run (suc last) ∷ []))

pub closings-without : (last : ℕ) (events : List Event) → is_named events (suc last) ≡ false → closings_upto (suc last) events ≡ closings_upto last events
closings-without last events e = ap (λ (cs : List ℕ). flat_map closing cs) (named_upto-without last events e)

-- ---- so far

below : (n place : ℕ) → n < place + 1 → n ≢ place → n < place
below n place less ne = omega (arith, less, ne)

or_new_some : {S : Type 0} (here : Option (ClientState S)) (client : ClientState S) → here ≡ Some client → client ≡ client_or_new here
or_new_some None client e = absurd (none-some client e)
or_new_some (Some other) client e = sym (same_Some other client e)

-- a client that is there has ended its input and its connection
abbrev pub HasEnded : {S : Type 0} → Option (ClientState S) → Type 0
HasEnded place = IfSome place (λ client. IsSome client.conn.end)

-- a connection of a place is of the route
pub of_some : {W S : Type 0} (w : world.Ghosts W) (t : sitting.Ghosts S W) (route : Route) (most : ℕ) (place : Option (ClientState S)) (client : ClientState S)
    → place ≡ Some client → IfSome place (λ here. IsConnOf w t route most here.conn) → IsConnOf w t route most client.conn
of_some {S = S} w t route most place client e h = subst (λ (c : Option (ClientState S)). IfSome c (λ here. IsConnOf w t route most here.conn)) e h

conn_of : {W S : Type 0} (w : world.Ghosts W) (t : sitting.Ghosts S W) (route : Route) (most : ℕ) (events : List Event) (number : ℕ)
    (client : Option (ClientState S)) → IsClientOf w t route most events number client → IfSome client (λ c. IsConnOf w t route most c.conn)
conn_of w t route most events number None h = tt
conn_of w t route most events number (Some client) h = h.1.of

module _ {W S : Type 0} (w : world.Ghosts W) (t : sitting.Ghosts S W) (exact : Bool) (route : Route) (now : ℕ) where
  -- the clients up to a place were closed, and the others are as they were
  pub record AreClosedUpto (last : ℕ) (old new : Playing S) : Type 0 where
    pub all : length new.clients ≡ length old.clients
    pub most : new.outside.door.counts.most ≡ old.outside.door.counts.most
    pub costed : AreCosted exact route old new
    pub others : (other : ℕ) → last ≤ other → client_at new.clients other ≡ client_at old.clients other
    pub ended : (other : ℕ) → other < last → HasEnded (client_at new.clients other)
    pub fed : (events : List Event) → AreClientsOf w t route old.outside.door.counts.most events old.clients
        → (other : ℕ) → other < last → IsClosedOf w t route old.outside.door.counts.most events (suc other) (client_at new.clients other)
    pub played : (events : List Event) → AreClientsOf w t route old.outside.door.counts.most events old.clients
        → ArePlayed w t exact route (closings_upto last events) now old new

  -- a client that is there is closed
  pub closes_some : (old new : ClientState S) (place : Option (ClientState S)) (before behind : Outside S) → place ≡ Some old
      → IsClosedNow w t exact route now old new before behind → ClosesAt w t exact route now place (Some new) before behind
  closes_some old new place before behind e h =
      subst (λ (c : Option (ClientState S)). ClosesAt w t exact route now c (Some new) before behind) (sym e) (new, refl, h)

  pub closes_none : (place : Option (ClientState S)) (before : Outside S) → place ≡ None → ClosesAt w t exact route now place place before before
  closes_none place before e = subst (λ (c : Option (ClientState S)). ClosesAt w t exact route now c c before before) (sym e) (refl, refl)

  -- a client is closed by its run
  pub closed_now : (old open_ new : ClientState S) (before behind : Outside S) → open_ ≡ with_no_more old
      → HasRun w t exact route now open_ new before behind → new.conn.has_ended ≡ true → IsClosedNow w t exact route now old new before behind
  closed_now old open_ new before behind e h ended = record {
    run = subst (λ (c : ClientState S). HasRun w t exact route now c new before behind) e h;
    ended = run_closes w t exact route now open_ new before behind h ended;
  }

  pub none_closed : (old : Playing S) → AreClosedUpto 0 old old
  none_closed old = record {
    all = refl;
    most = refl;
    costed = nothing_costed exact route old;
    others = λ other behind. refl;
    ended = λ other before. absurd (omega (arith, before));
    fed = λ events are other before. absurd (omega (arith, before));
    played = λ events are. subst (λ (es : List Event). ArePlayed w t exact route es now old old) (sym (closings-none events)) refl;
  }

  -- a client that is closed has ended, and so has one that is not there
  closes_ended : (here closed : Option (ClientState S)) (before behind : Outside S) → ClosesAt w t exact route now here closed before behind → HasEnded closed
  closes_ended None closed before behind h = subst (λ (c : Option (ClientState S)). HasEnded c) (sym h.0) tt
  closes_ended (Some client) closed before behind h = subst (λ (c : Option (ClientState S)). HasEnded c) (sym h.1) h.2.ended

  closes_most : (here closed : Option (ClientState S)) (before behind : Outside S) → ClosesAt w t exact route now here closed before behind
      → behind.door.counts.most ≡ before.door.counts.most
  closes_most None closed before behind h = ap (λ (o : Outside S). o.door.counts.most) h.1
  closes_most (Some client) closed before behind h = run_most w t exact route now (with_no_more client) h.0 before behind h.2.run

  -- it was fed what events feed it, and its input has ended
  closes_fed : Laws w t → (most : ℕ) (events : List Event) (number : ℕ) (here closed : Option (ClientState S)) (before behind : Outside S)
      → before.door.counts.most ≡ most → IsClientOf w t route most events number here → ClosesAt w t exact route now here closed before behind
      → IsClosedOf w t route most events number closed
  closes_fed laws most events number None closed before behind m stands h =
      subst (λ (c : Option (ClientState S)). IsClosedOf w t route most events number c) (sym h.0) stands
  closes_fed laws most events number (Some client) closed before behind m stands h =
      subst (λ (c : Option (ClientState S)). IsClosedOf w t route most events number c) (sym h.1) (
        stands.0,
        run_fed w t route most laws exact now (with_no_more client) h.0 before behind m h.2.run (fed events number) true
            (no_more_fed w t route most laws (fed events number) (has_ended events number) client stands.1),
      )

  -- its end and its run are played, where it is there
  closes_played : (place : ℕ) (events : List Event) (old mid : Playing S) (here closed : Option (ClientState S)) (behind : Outside S) (most : ℕ)
      → place < length mid.clients → here ≡ client_at mid.clients place → IsClientOf w t route most events (suc place) here
      → ClosesAt w t exact route now here closed mid.outside behind → ArePlayed w t exact route (closings_upto place events) now old mid
      → ArePlayed w t exact route (closings_upto (suc place) events) now old (record { clients = slice_set mid.clients place closed; outside = behind })
  closes_played place events old mid None closed behind most within is stands h so_far =
      let stays : slice_set mid.clients place closed ≡ mid.clients =
      ap (λ (c : Option (ClientState S)). slice_set mid.clients place c) (h.0 ∙ is) ∙ set_same mid.clients place in
      let same : record { clients = slice_set mid.clients place closed; outside = behind } ≡ mid =
      ap (λ (cs : List (Option (ClientState S))). record { clients = cs; outside = behind }) stays
      ∙ ap (λ (o : Outside S). record { clients = mid.clients; outside = o }) h.1 in
      subst (λ (es : List Event). ArePlayed w t exact route es now old (record { clients = slice_set mid.clients place closed; outside = behind }))
      (sym (closings-without place events stands))
      (subst (λ (p : Playing S). ArePlayed w t exact route (closings_upto place events) now old p) (sym same) so_far)
  closes_played place events old mid (Some client) closed behind most within is stands h so_far =
      let at : suc place - 1 ≡ place = omega arith in
      let open_ : Playing S = record { clients = slice_set mid.clients place (Some (with_no_more client)); outside = mid.outside } in
      let new : Playing S = record { clients = slice_set mid.clients place closed; outside = behind } in
      let moment : now ≡ now + moment_behind (closings_upto place events) = omega (arith, moment-closing (named_upto place events)) in
      let moment' : now ≡ now + moment_behind (closings_upto place events ++ End (suc place) ∷ []) = omega (arith, moment-closing (named_upto place events), moment-more (closings_upto place events) (End (suc place))) in
      let ends : IsPlayed w t exact route (End (suc place)) now mid open_ = record {
        here = Some (with_no_more client);
        plays = record {
          client = with_no_more client;
          is_there = refl;
          plays = (ap (λ (c : ClientState S). with_no_more c) (or_new_some (client_at mid.clients (suc place - 1)) client (sym (is ∙ ap (λ (n : ℕ). client_at mid.clients n) (sym at)))), refl);
        };
        others = ap (λ (n : ℕ). slice_set mid.clients n (Some (with_no_more client))) (sym at);
      } in
      let runs : IsPlayed w t exact route (Run (suc place)) now open_ new = record {
        here = closed;
        plays = record {
          client = h.0;
          is_there = h.1;
          plays = subst (λ (c : ClientState S). HasRun w t exact route now c h.0 mid.outside behind)
              (or_new_some (client_at open_.clients (suc place - 1)) (with_no_more client)
              (ap (λ (n : ℕ). client_at open_.clients n) at ∙ client_at-set mid.clients place (Some (with_no_more client)) within)) h.2.run;
        };
        others = sym (ap (λ (n : ℕ). slice_set open_.clients n closed) at ∙ set_twice mid.clients place (Some (with_no_more client)) closed);
      } in
      subst (λ (es : List Event). ArePlayed w t exact route es now old new) (sym (closings-with place events stands.0))
      (played-more w t exact route (closings_upto place events ++ End (suc place) ∷ []) (Run (suc place)) now old open_ new
      (played-more w t exact route (closings_upto place events) (End (suc place)) now old mid open_ so_far
      (subst (λ (n : ℕ). IsPlayed w t exact route (End (suc place)) n mid open_) moment ends))
      (subst (λ (n : ℕ). IsPlayed w t exact route (Run (suc place)) n open_ new) moment' runs))

  -- what that costs
  closes_costed : Laws w t → CostLaws w t → IsSound route → (place : ℕ) (mid : Playing S) (here closed : Option (ClientState S)) (behind : Outside S)
      → place < length mid.clients → here ≡ client_at mid.clients place
      → IfSome here (λ client. IsConnOf w t route mid.outside.door.counts.most client.conn) → ClosesAt w t exact route now here closed mid.outside behind
      → AreCosted exact route mid (record { clients = slice_set mid.clients place closed; outside = behind })
  closes_costed laws costs sound place mid None closed behind within is of h =
      let stays : slice_set mid.clients place closed ≡ mid.clients =
      ap (λ (c : Option (ClientState S)). slice_set mid.clients place c) (h.0 ∙ is) ∙ set_same mid.clients place in
      let same : record { clients = slice_set mid.clients place closed; outside = behind } ≡ mid =
      ap (λ (cs : List (Option (ClientState S))). record { clients = cs; outside = behind }) stays
      ∙ ap (λ (o : Outside S). record { clients = mid.clients; outside = o }) h.1 in
      subst (λ (p : Playing S). AreCosted exact route mid p) (sym same) (nothing_costed exact route mid)
  closes_costed laws costs sound place mid (Some client) closed behind within is of h =
      place_costed w t exact route laws costs sound place mid.clients closed h.0 mid.outside behind within h.1
      (subst (λ (c : ClientState S). IsCosted exact route c.conn h.0.conn mid.outside behind) (or_new_some (client_at mid.clients place) client (sym is))
      (closing_costed w t exact route laws costs sound now client h.0 mid.outside behind of h.2.run))

  -- one place more
  pub next_closed : (place : ℕ) (old mid : Playing S) (here closed : Option (ClientState S)) (behind : Outside S) → place < length mid.clients
      → here ≡ client_at mid.clients place → Laws w t → CostLaws w t → IsSound route → IfSome here (λ client. IsConnOf w t route mid.outside.door.counts.most client.conn)
      → ClosesAt w t exact route now here closed mid.outside behind → AreClosedUpto place old mid
      → AreClosedUpto (place + 1) old (record { clients = slice_set mid.clients place closed; outside = behind })
  next_closed place old mid here closed behind within is laws costs sound of closes h = record {
    all = length-set mid.clients place closed ∙ h.all;
    most = closes_most here closed mid.outside behind closes ∙ h.most;
    costed = costed_on exact route old mid (record { clients = slice_set mid.clients place closed; outside = behind }) h.costed
        (closes_costed laws costs sound place mid here closed behind within is of closes);
    others = λ other after.
        client_at-other mid.clients place other closed (λ (e : other ≡ place). absurd (omega (arith, after, e))) ∙ h.others other (omega (arith, after));
    ended = λ other before.
        elim (cases_eq other place) [
          | inl e ↦
              subst (λ (n : ℕ). HasEnded (client_at (slice_set mid.clients place closed) n)) (sym e)
              (subst (λ (c : Option (ClientState S)). HasEnded c) (sym (client_at-set mid.clients place closed within))
              (closes_ended here closed mid.outside behind closes))
          | inr ne ↦
              subst (λ (c : Option (ClientState S)). HasEnded c) (sym (client_at-other mid.clients place other closed ne))
              (h.ended other (below other place before ne))
        ];
    fed = λ events are other before.
        let most = old.outside.door.counts.most in
        elim (cases_eq other place) [
          | inl e ↦
              let at_old : here ≡ client_at old.clients place = is ∙ h.others place (omega arith) in
              let stands : IsClientOf w t route most events (suc place) here =
              subst (λ (c : Option (ClientState S)). IsClientOf w t route most events (suc place) c) (sym at_old)
              (are.each place (omega (arith, within, h.all))) in
              subst (λ (n : ℕ). IsClosedOf w t route most events (suc n) (client_at (slice_set mid.clients place closed) n)) (sym e)
              (subst (λ (c : Option (ClientState S)). IsClosedOf w t route most events (suc place) c) (sym (client_at-set mid.clients place closed within))
              (closes_fed laws most events (suc place) here closed mid.outside behind h.most stands closes))
          | inr ne ↦
              subst (λ (c : Option (ClientState S)). IsClosedOf w t route most events (suc other) c) (sym (client_at-other mid.clients place other closed ne))
              (h.fed events are other (below other place before ne))
        ];
    played = λ events are.
        let at_old : here ≡ client_at old.clients place = is ∙ h.others place (omega arith) in
        let stands : IsClientOf w t route old.outside.door.counts.most events (suc place) here =
        subst (λ (c : Option (ClientState S)). IsClientOf w t route old.outside.door.counts.most events (suc place) c) (sym at_old)
        (are.each place (omega (arith, within, h.all))) in
        subst (λ (n : ℕ). ArePlayed w t exact route (closings_upto n events) now old (record { clients = slice_set mid.clients place closed; outside = behind }))
        (sym (add-one place))
        (closes_played place events old mid here closed behind old.outside.door.counts.most within is stands closes (h.played events are));
  }

  ended_all : (clients : List (Option (ClientState S))) (last : ℕ) → last ≡ length clients → ((other : ℕ) → other < last → HasEnded (client_at clients other))
      → AreEnded clients
  ended_all clients last all ended place =
      elim (cases_lt place last) [
        | inl less ↦ ended place less
        | inr more ↦ subst (λ (c : Option (ClientState S)). HasEnded c) (sym (client_at-behind clients place (omega (arith, all, more)))) tt
      ]

  -- all of them
  pub all_closed : (last : ℕ) (old new : Playing S) → last ≡ length old.clients → length old.clients ≡ most_clients → AreClosedUpto last old new
      → AreAllClosed w t exact route now old new
  all_closed last old new end all h = record {
    most = h.most;
    ended = ended_all new.clients last (end ∙ sym h.all) h.ended;
    costed = h.costed;
    fed = λ events are. record {
      all = h.all ∙ all;
      each = λ place within. h.fed events are place (omega (arith, within, h.all, end));
    };
    played = λ events are.
        subst (λ (es : List Event). ArePlayed w t exact route es now old new) (closings-all events)
        (subst (λ (n : ℕ). ArePlayed w t exact route (closings_upto n events) now old new) (end ∙ all) (h.played events are));
  }

  -- the connection of the next client is of the route
  pub of_route_at : (place : ℕ) (events : List Event) (old mid : Playing S) (here : Option (ClientState S)) → place < length mid.clients
      → here ≡ client_at mid.clients place → AreClientsOf w t route old.outside.door.counts.most events old.clients → AreClosedUpto place old mid
      → IfSome here (λ client. IsConnOf w t route mid.outside.door.counts.most client.conn)
  of_route_at place events old mid here within is are h =
      let at_old : here ≡ client_at old.clients place = is ∙ h.others place (omega arith) in
      subst (λ (m : ℕ). IfSome here (λ client. IsConnOf w t route m client.conn)) (sym h.most)
      (subst (λ (c : Option (ClientState S)). IfSome c (λ client. IsConnOf w t route old.outside.door.counts.most client.conn)) (sym at_old)
      (conn_of w t route old.outside.door.counts.most events (suc place) (client_at old.clients place) (are.each place (omega (arith, within, h.all)))))
