-- The events of a load: what they feed, which clients they name, and that each client is run before the next one comes
use Rattle.std.proofs.Common.{◌≡◌, ◌∙◌, ◌+◌, ◌-◌, ◌≤◌, ◌<◌, ◌==◌, ◌||◌, ◌&&◌, ℕ, zero, suc, Bool, true, false, List, [], ◌∷◌, ◌++◌, None, if◌then◌else◌, refl, sym, ap, subst, append_assoc, append-nil, eq-eqb, ne_eqb, eqb-true, arith}
use Rattle.std.specs.List.{AllByRecursion, flat_map, list_all, range_with_len}
use Rattle.std.proofs.lemmas.Grind.{flat_map-append}
use Rattle.z_types.specs.declared.world.World as world
use Rattle.route_config.specs.Smallest.{smallest_route}
use Rattle.script.specs.declared.event.Event.{Event}
use Rattle.script.specs.declared.event.Event.TheVariants.{Feed, End, Run}
use Rattle.script.specs.Events.{fed, is_named, is_of, most_clients, named, named_upto, octets_of}
use Rattle.sample_maker.specs.Load.{client_events, letter_of, load_events, octets_for}
use Rattle.replay_shares.specs.replay.Trace.{closing}
use Rattle.replay_shares.specs.Orderly.{AreClientRuns, IsClientRun, ClientRun, are_run, closed, is_calm}
use Rattle.replay_shares.specs.Works.{Ask}
use Rattle.load_shares.specs.Runs.{load_runs, run_of, runs_of, works_for}
use Rattle.load_shares.proofs.ListLemmas.{all-range, all-turned, differ, range-more}

-- the events of clients
abbrev events_of : List ℕ → List Event
events_of clients = flat_map client_events clients

-- ---- calm, and in time

calm-clients : (clients : List ℕ) → list_all is_calm (events_of clients) ≡ true
calm-clients [] = refl
calm-clients (client ∷ clients) = calm-clients clients

pub calm-load : (clients : ℕ) → list_all is_calm (load_events clients) ≡ true
unfolding load_events
calm-load clients = calm-clients (range_with_len 1 clients)

in_time : (clients : List ℕ) (behind : List Event) → are_run None behind ≡ true → are_run None (events_of clients ++ behind) ≡ true
in_time [] behind h = h
in_time (client ∷ clients) behind h =
    ap (λ (own : Bool). own && are_run None (events_of clients ++ behind)) (eq-eqb client client refl) ∙ in_time clients behind h

closed-in_time : (clients : List ℕ) → are_run None (flat_map closing clients) ≡ true
closed-in_time [] = refl
closed-in_time (client ∷ clients) = closed-in_time clients

pub load-in_time : (clients : ℕ) → are_run None (closed (load_events clients)) ≡ true
unfolding load_events
load-in_time clients =
    in_time (range_with_len 1 clients) (flat_map closing (named (load_events clients))) (closed-in_time (named (load_events clients)))

-- ---- who is named

-- a number is not this client's
abbrev IsOther : (client number : ℕ) → Type 0
IsOther client number = (number == client) ≡ false

below : (client first many : ℕ) → client < first → AllByRecursion (IsOther client) (range_with_len first many)
below client first many low =
    all-range (IsOther client) first many (λ number from to. ne_eqb number client (λ same. omega (arith, same, low, from)))

past : (client first many : ℕ) → first + many ≤ client → AllByRecursion (IsOther client) (range_with_len first many)
past client first many high =
    all-range (IsOther client) first many (λ number from to. ne_eqb number client (λ same. omega (arith, same, high, to)))

unnamed : (client : ℕ) (clients : List ℕ) → AllByRecursion (IsOther client) clients → is_named (events_of clients) client ≡ false
unnamed client [] h = refl
unnamed client (other ∷ clients) h =
    ap (λ (own : Bool). own || (own || is_named (events_of clients) client)) h.0 ∙ unnamed client clients h.1

is_named-in : (first many client : ℕ) → first ≤ client → client < first + many → is_named (events_of (range_with_len first many)) client ≡ true
is_named-in first zero client low high = absurd (omega (arith, low, high))
is_named-in first (suc many) client low high =
    (elim (first == client) as (λ (own : Bool). (first == client) ≡ own → (own || (own || is_named (events_of (range_with_len (first + 1) many)) client)) ≡ true) [
      | true ↦ λ e. refl
      | false ↦ λ e. let other = differ first client e in is_named-in (first + 1) many client (omega (arith, low, other)) (omega (arith, high))
    ]) refl

with-one : (last : ℕ) (events : List Event) → is_named events (suc last) ≡ true → named_upto (suc last) events ≡ named_upto last events ++ suc last ∷ []
unfolding named_upto
with-one last events e = ap (λ (own : Bool). named_upto last events ++ (if own then suc last ∷ [] else [])) e

without-one : (last : ℕ) (events : List Event) → is_named events (suc last) ≡ false → named_upto (suc last) events ≡ named_upto last events
unfolding named_upto
without-one last events e =
    ap (λ (own : Bool). named_upto last events ++ (if own then suc last ∷ [] else [])) e ∙ append-nil (named_upto last events)

none-named : (events : List Event) → named_upto 0 events ≡ []
unfolding named_upto
none-named events = refl

named-up : (clients last : ℕ) → last ≤ clients → named_upto last (events_of (range_with_len 1 clients)) ≡ range_with_len 1 last
named-up clients zero few = none-named (events_of (range_with_len 1 clients))
named-up clients (suc last) few =
    with-one last (events_of (range_with_len 1 clients)) (is_named-in 1 clients (suc last) (omega arith) (omega (arith, few)))
    ∙ ap (λ (numbers : List ℕ). numbers ++ suc last ∷ []) (named-up clients last (omega (arith, few)))
    ∙ sym (range-more 1 last (suc last) (omega arith))

named-past : (clients more last : ℕ) → clients + more ≡ last → named_upto last (events_of (range_with_len 1 clients)) ≡ range_with_len 1 clients
named-past clients zero last e =
    let same : last ≡ clients = omega (arith, e) in
    ap (λ (number : ℕ). named_upto number (events_of (range_with_len 1 clients))) same ∙ named-up clients clients (omega arith)
named-past clients (suc more) last e =
    let on : last ≡ suc (clients + more) = omega (arith, e) in
    ap (λ (number : ℕ). named_upto number (events_of (range_with_len 1 clients))) on
    ∙ without-one (clients + more) (events_of (range_with_len 1 clients)) (unnamed (suc (clients + more)) (range_with_len 1 clients) (past (suc (clients + more)) 1 clients (omega arith)))
    ∙ named-past clients more (clients + more) refl

-- a load names its clients
pub named-load : (clients : ℕ) → clients ≤ most_clients → named (load_events clients) ≡ range_with_len 1 clients
unfolding load_events named
named-load clients few = named-past clients (most_clients - clients) most_clients (omega (arith, few))

-- ---- what is fed

fed-both : (client : ℕ) (events more : List Event) → fed (events ++ more) client ≡ fed events client ++ fed more client
fed-both client events more = flat_map-append (λ event. if is_of client event then octets_of event else []) events more

silent : (own : Bool) (octets : List ℕ) → octets ≡ [] → (if own then octets else []) ++ [] ≡ []
silent true octets e = append-nil octets ∙ e
silent false octets e = refl

-- an event that feeds nothing
fed-silent : (client : ℕ) (events : List Event) (event : Event) → octets_of event ≡ [] → fed (events ++ event ∷ []) client ≡ fed events client
fed-silent client events event e =
    fed-both client events (event ∷ []) ∙ ap (λ (more : List ℕ). fed events client ++ more) (silent (is_of client event) (octets_of event) e)
    ∙ append-nil (fed events client)

-- the events of others
unfed : (client : ℕ) (clients : List ℕ) → AllByRecursion (IsOther client) clients → fed (events_of clients) client ≡ []
unfed client [] h = refl
unfed client (other ∷ clients) h =
    ap (λ (own : Bool). (if own then octets_for (letter_of other) else []) ++ ((if own then [] else []) ++ fed (events_of clients) client)) h.0
    ∙ unfed client clients h.1

-- a client's own
fed-own : (first many client : ℕ) → first ≤ client → client < first + many
    → fed (events_of (range_with_len first many)) client ≡ octets_for (letter_of client)
fed-own first zero client low high = absurd (omega (arith, low, high))
fed-own first (suc many) client low high =
    (elim (first == client) as (λ (own : Bool). (first == client) ≡ own
    → (if own then octets_for (letter_of first) else []) ++ ((if own then [] else []) ++ fed (events_of (range_with_len (first + 1) many)) client)
    ≡ octets_for (letter_of client)) [
      | true ↦ λ e.
          let same = eqb-true first client e in
          ap (λ (more : List ℕ). octets_for (letter_of first) ++ more) (unfed client (range_with_len (first + 1) many) (below client (first + 1) many (omega (arith, same))))
          ∙ append-nil (octets_for (letter_of first)) ∙ ap (λ (number : ℕ). octets_for (letter_of number)) same
      | false ↦ λ e. let other = differ first client e in fed-own (first + 1) many client (omega (arith, low, other)) (omega (arith, high))
    ]) refl

pub fed-load : (clients client : ℕ) → 1 ≤ client → client < 1 + clients → fed (load_events clients) client ≡ octets_for (letter_of client)
unfolding load_events
fed-load clients client low high = fed-own 1 clients client low high

-- ---- the runs

-- each letter's octets ask its works
abbrev pub AskFor : {W : Type 0} → world.Ghosts W → Type 0
AskFor w = (letter : ℕ) → Ask w smallest_route (octets_for letter) (works_for w letter)

module _ {W : Type 0} (w : world.Ghosts W) (asks : AskFor w) where
  -- a client is run that was fed all its octets
  is-run : (client : ℕ) (octets : List ℕ) → octets ≡ octets_for (letter_of client) → IsClientRun w smallest_route client 0 octets (run_of w client)
  is-run client octets e = record {
    same_client = refl;
    same_moment = refl;
    asks = subst (λ (o : List ℕ). Ask w smallest_route o (works_for w (letter_of client))) (sym e) (asks (letter_of client));
  }

  -- each client behind what it is fed
  are-runs : (first many : ℕ) (before behind : List Event) (runs : List ClientRun)
      → ((client : ℕ) → first ≤ client → fed before client ≡ [])
      → AreClientRuns w smallest_route (before ++ events_of (range_with_len first many)) 0 behind runs
      → AreClientRuns w smallest_route before 0 (events_of (range_with_len first many) ++ behind) (runs_of w (range_with_len first many) ++ runs)
  are-runs first zero before behind runs none h = subst (λ (b : List Event). AreClientRuns w smallest_route b 0 behind runs) (append-nil before) h
  are-runs first (suc many) before behind runs none h =
      let feed = Feed first (octets_for (letter_of first)) in
      let own : fed (before ++ feed ∷ []) first ≡ octets_for (letter_of first) =
      fed-both first before (feed ∷ []) ∙ ap (λ (o : List ℕ). o ++ fed (feed ∷ []) first) (none first (omega arith))
      ∙ ap (λ (b : Bool). (if b then octets_for (letter_of first) else []) ++ []) (eq-eqb first first refl)
      ∙ append-nil (octets_for (letter_of first)) in
      let both : (before ++ feed ∷ []) ++ Run first ∷ [] ≡ before ++ client_events first = append_assoc before (feed ∷ []) (Run first ∷ []) in
      let still : (client : ℕ) → first + 1 ≤ client → fed ((before ++ feed ∷ []) ++ Run first ∷ []) client ≡ [] =
      λ client low.
      ap (λ (b : List Event). fed b client) both ∙ fed-both client before (client_events first)
      ∙ ap (λ (o : List ℕ). o ++ fed (client_events first) client) (none client (omega (arith, low)))
      ∙ unfed client (first ∷ []) (ne_eqb first client (λ same. omega (arith, same, low)), tt) in
      let all : before ++ events_of (range_with_len first (suc many)) ≡ ((before ++ feed ∷ []) ++ Run first ∷ []) ++ events_of (range_with_len (first + 1) many) =
      sym (append_assoc before (client_events first) (events_of (range_with_len (first + 1) many)))
      ∙ ap (λ (b : List Event). b ++ events_of (range_with_len (first + 1) many)) (sym both) in (
        is-run first (fed (before ++ feed ∷ []) first) own,
        are-runs (first + 1) many ((before ++ feed ∷ []) ++ Run first ∷ []) behind runs still
            (subst (λ (b : List Event). AreClientRuns w smallest_route b 0 behind runs) all h),
      )

  -- a client was fed all its octets before
  abbrev WasFed : List Event → ℕ → Type 0
  WasFed before client = fed before client ≡ octets_for (letter_of client)

  -- clients that were fed before are closed
  are-closed : (clients : List ℕ) (before : List Event) → AllByRecursion (WasFed before) clients
      → AreClientRuns w smallest_route before 0 (flat_map closing clients) (runs_of w clients)
  are-closed [] before h = refl
  are-closed (client ∷ clients) before h =
      let ended = before ++ End client ∷ [] in
      let still : (other : ℕ) → fed (ended ++ Run client ∷ []) other ≡ fed before other =
      λ other. fed-silent other ended (Run client) refl ∙ fed-silent other before (End client) refl in (
        is-run client (fed ended client) (fed-silent client before (End client) refl ∙ h.0),
        are-closed clients (ended ++ Run client ∷ []) (all-turned (WasFed before) (WasFed (ended ++ Run client ∷ [])) clients (λ other fed-so. still other ∙ fed-so) h.1),
      )

  pub load-runs : (clients : ℕ) → clients ≤ most_clients → AreClientRuns w smallest_route [] 0 (closed (load_events clients)) (load_runs w clients)
  unfolding load_events
  load-runs clients few =
      let numbers = range_with_len 1 clients in
      let each = all-range (WasFed (events_of numbers)) 1 clients (λ client low high. fed-own 1 clients client low high) in
      subst (λ (own : List ℕ). AreClientRuns w smallest_route [] 0 (events_of numbers ++ flat_map closing own) (load_runs w clients))
      (sym (named-load clients few))
      (are-runs 1 clients [] (flat_map closing numbers) (runs_of w numbers) (λ client low. refl) (are-closed numbers (events_of numbers) each))
