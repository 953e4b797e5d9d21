-- what each step of a connection keeps, where this holds of what is outside, a whole replay keeps
use Rattle.std.proofs.Common.{◌≡◌, ◌≢◌, ◌∙◌, ◌+◌, ◌-◌, ℕ, Bool, true, false, inl, inr, List, [], ◌∷◌, Option, None, Some, IfSome, length, slice_set, sym, ap, subst, arith}
use Rattle.std.specs.List.{AllByRecursion, flat_map}
use Rattle.std.proofs.Math.ListN.{length-set}
use Rattle.std.proofs.lemmas.Bool.{cases_eq, cases_lt}
use Rattle.z_types.specs.declared.sitting.Sitting as sitting
use Rattle.z_types.specs.declared.world.World as world
use Rattle.route_config.specs.declared.route.Route.{Route}
use Rattle.front_conn_costs.specs.front_session.Sessions.{new_session}
use Rattle.front_conn_costs.specs.front_conn.declared.stepped.Stepped.{Stepped}
use Rattle.front_conn_costs.specs.front_conn.declared.stepped.Stepped.TheVariants.{Memory}
use Rattle.front_conn_costs.specs.front_conn.steps.Answering.{Outside}
use Rattle.front_conn_costs.specs.front_conn.steps.Feeding.{with_end, with_piece, without_out}
use Rattle.front_conn_costs.specs.front_conn.steps.States.{ConnectionState, nothing_yet}
use Rattle.front_conn_costs.specs.front_conn.steps.Steps.{IsStepped}
use Rattle.script.specs.declared.event.Event.{Event}
use Rattle.script.specs.declared.event.Event.TheVariants.{Feed, End, Step, Run, Tick, Gone, Cut, Slow}
use Rattle.script.specs.Events.{client_of, named, seconds_of}
use Rattle.replay.specs.declared.reports.Report.{Report}
use Rattle.replay.specs.Clients.{AreNone, ClientState, client_at, client_or_new}
use Rattle.replay.specs.Trace.{ArePlayed, AreSteps, HasRun, IsBefallen, IsClientStep, IsRunOf, PlaysFor, PlaysOf, Playing, Point, closing, closings, moment_behind}
use Rattle.replay.proofs.ClientLemmas.{client_at-behind, client_at-other, client_at-set}

-- how many sessions of a class the door opens at most
abbrev pub most_of : {S : Type 0} → Outside S → ℕ
most_of outside = outside.door.counts.most

module _ {S : Type 0} (K : ConnectionState S → Type 0) where
  -- this holds of a client, where there is one, and of all
  abbrev pub IsKept : Option (ClientState S) → Type 0
  IsKept here = IfSome here (λ client. K client.conn)

  abbrev pub AllKept : List (Option (ClientState S)) → Type 0
  AllKept clients = (place : ℕ) → IsKept (client_at clients place)

  -- and so does that of what is outside
  pub record IsKeptWhole (most : ℕ) (R : Outside S → Outside S → Type 0) (before behind : Outside S) (finish : List (Option (ClientState S)))
      : Type 0 where
    pub most_is : most_of behind ≡ most
    pub clients : AllKept finish
    pub moves : R before behind

module _ {W S : Type 0} (w : world.Ghosts W) (t : sitting.Ghosts S W) (exact : Bool) (route : Route) (most : ℕ)
    (K : ConnectionState S → Type 0) (J : Outside S → Type 0) (R : Outside S → Outside S → Type 0) (A : Event → Type 0)
    (closes : (client : ℕ) → A (End client) × A (Run client))
    (same : (here : Outside S) → J here → R here here)
    (then : (before behind : Outside S) → R before behind → J behind)
    (next : (before amid behind : Outside S) → R before amid → R amid behind → R before behind)
    (start : K (nothing_yet new_session))
    (fed : (state : ConnectionState S) (piece : List ℕ) → K state → K (with_piece state piece))
    (ended : (state : ConnectionState S) → K state → K (with_end state))
    (written : (state : ConnectionState S) → K state → K (without_out state))
    (step : (now : ℕ) (old new : ConnectionState S) (answer : Stepped) (before behind : Outside S) → answer ≢ Memory → most_of behind ≡ most
    → K old → J before → IsStepped w t exact route now old new answer before behind → K new × R before behind)
    (befallen : (event : Event) (before behind : Outside S) → A event → J before → behind.door ≡ before.door
    → IsBefallen exact route event before.backend behind.backend → R before behind) where
  -- the connection is kept, and so is what is outside
  record Goes (new : ConnectionState S) (before behind : Outside S) : Type 0 where
    pub most_is : most_of behind ≡ most
    pub kept : K new
    pub moves : R before behind

  -- ---- one client

  client-keeps : (now : ℕ) (idle : Bool) (old new : ClientState S) (before behind : Outside S) → most_of before ≡ most → K old.conn → J before
      → IsClientStep w t exact route now idle old new before behind → Goes new.conn before behind
  client-keeps now idle old new before behind m k j h =
      let one = step now old.conn h.stepped_to h.answer before behind h.remembers (h.most ∙ m) k j h.steps in record {
        most_is = h.most ∙ m;
        kept = subst (λ (c : ConnectionState S). K c) (sym h.conn) (written h.stepped_to one.0);
        moves = one.1;
      }

  steps-keep : (now : ℕ) (from : Point S) (earlier : List (Point S)) (last : Point S) → most_of from.outside ≡ most → K from.client.conn
      → J from.outside → AreSteps w t exact route now from earlier last → Goes last.client.conn from.outside last.outside
  steps-keep now from [] last m k j h =
      subst (λ (p : Point S). Goes p.client.conn from.outside p.outside) (sym h) (record { most_is = m; kept = k; moves = same from.outside j })
  steps-keep now from (mid ∷ earlier) last m k j h =
      let so_far = steps-keep now from earlier mid m k j h.0 in
      let amid = then from.outside mid.outside so_far.moves in
      let one = client-keeps now false mid.client last.client mid.outside last.outside so_far.most_is so_far.kept amid h.1 in record {
        most_is = one.most_is;
        kept = one.kept;
        moves = next from.outside mid.outside last.outside so_far.moves one.moves;
      }

  run-keeps : (now : ℕ) (old new : ClientState S) (before behind : Outside S) → most_of before ≡ most → K old.conn → J before
      → HasRun w t exact route now old new before behind → Goes new.conn before behind
  run-keeps now old new before behind m k j h =
      let so_far = steps-keep now (record { client = old; outside = before }) h.earlier h.last m k j h.steps in
      let amid = then before h.last.outside so_far.moves in
      let one = client-keeps now true h.last.client new h.last.outside behind so_far.most_is so_far.kept amid h.rests in record {
        most_is = one.most_is;
        kept = one.kept;
        moves = next before h.last.outside behind so_far.moves one.moves;
      }

  calm : (new other : ClientState S) (before behind : Outside S) → most_of before ≡ most → new ≡ other → behind ≡ before → K other.conn
      → J before → Goes new.conn before behind
  calm new other before behind m e f k j =
      subst (λ (o : Outside S). Goes new.conn before o) (sym f)
      (subst (λ (c : ClientState S). Goes c.conn before before) (sym e) (record { most_is = m; kept = k; moves = same before j }))

  plays-keep : (event : Event) (now : ℕ) (old new : ClientState S) (before behind : Outside S) → most_of before ≡ most → K old.conn → J before
      → PlaysFor w t exact route event now old new before behind → Goes new.conn before behind
  plays-keep (Feed client octets) now old new before behind m k j h = calm new _ before behind m h.0 h.1 (fed old.conn octets k) j
  plays-keep (End client) now old new before behind m k j h = calm new _ before behind m h.0 h.1 (ended old.conn k) j
  plays-keep (Step client) now old new before behind m k j h = client-keeps now h.0 old new before behind m k j h.1
  plays-keep (Run client) now old new before behind m k j h = run-keeps now old new before behind m k j h
  plays-keep (Tick seconds) now old new before behind m k j h = absurd h
  plays-keep (Gone target presents) now old new before behind m k j h = absurd h
  plays-keep (Cut target) now old new before behind m k j h = absurd h
  plays-keep (Slow target looks) now old new before behind m k j h = absurd h

  -- ---- all of them

  or_new-keeps : (here : Option (ClientState S)) → IsKept K here → K (client_or_new here).conn
  or_new-keeps None k = start
  or_new-keeps (Some client) k = k

  set-keeps : (clients : List (Option (ClientState S))) (place : ℕ) (here : Option (ClientState S)) → AllKept K clients → IsKept K here
      → AllKept K (slice_set clients place here)
  set-keeps clients place here all own other =
      elim (cases_eq other place) [
        | inl e ↦
            elim (cases_lt place (length clients)) [
              | inl within ↦
                  subst (λ (n : ℕ). IsKept K (client_at (slice_set clients place here) n)) (sym e)
                  (subst (λ (c : Option (ClientState S)). IsKept K c) (sym (client_at-set clients place here within)) own)
              | inr beyond ↦
                  subst (λ (c : Option (ClientState S)). IsKept K c)
                  (sym (client_at-behind (slice_set clients place here) other (omega (arith, e, beyond, length-set clients place here)))) tt
            ]
        | inr ne ↦ subst (λ (c : Option (ClientState S)). IsKept K c) (sym (client_at-other clients place other here ne)) (all other)
      ]

  -- a replay goes on
  record GoesOn (old new : Playing S) : Type 0 where
    pub most_is : most_of new.outside ≡ most
    pub kept : AllKept K new.clients
    pub moves : R old.outside new.outside

  of-keeps : (event : Event) (client : Option ℕ) (now : ℕ) (old new : Playing S) → A event → most_of old.outside ≡ most → AllKept K old.clients
      → J old.outside → PlaysOf w t exact route client event now old new → GoesOn old new
  of-keeps event None now old new may m k j h = record {
    most_is = ap (λ d. d.counts.most) h.door ∙ m;
    kept = subst (λ (cs : List (Option (ClientState S))). AllKept K cs) (sym h.clients) k;
    moves = befallen event old.outside new.outside may j h.door h.backend;
  }
  of-keeps event (Some number) now old new may m k j h =
      let here = client_at old.clients (number - 1) in
      let one = plays-keep event now (client_or_new here) h.plays.client old.outside new.outside m (or_new-keeps here (k (number - 1))) j h.plays.plays in
      record {
        most_is = one.most_is;
        kept = subst (λ (cs : List (Option (ClientState S))). AllKept K cs) (sym h.others)
            (set-keeps old.clients (number - 1) h.here k (subst (λ (c : Option (ClientState S)). IsKept K c) (sym h.plays.is_there) one.kept));
        moves = one.moves;
      }

  events-keep : (events : List Event) (now : ℕ) (old new : Playing S) → AllByRecursion A events → most_of old.outside ≡ most
      → AllKept K old.clients → J old.outside → ArePlayed w t exact route events now old new → GoesOn old new
  events-keep [] now old new may m k j h =
      subst (λ (p : Playing S). GoesOn old p) (sym h) (record { most_is = m; kept = k; moves = same old.outside j })
  events-keep (event ∷ events) now old new may m k j h =
      let one = of-keeps event (client_of event) now old h.0 may.0 m k j h.1 in
      let amid = then old.outside h.0.outside one.moves in
      let rest = events-keep events (now + seconds_of event) h.0 new may.1 one.most_is one.kept amid h.2 in record {
        most_is = rest.most_is;
        kept = rest.kept;
        moves = next old.outside h.0.outside new.outside one.moves rest.moves;
      }

  none-kept : (clients : List (Option (ClientState S))) → AreNone clients → AllKept K clients
  none-kept clients none place = subst (λ (c : Option (ClientState S)). IsKept K c) (sym (none place)) tt

  -- the events that close clients are such
  closings-may : (clients : List ℕ) → AllByRecursion A (flat_map closing clients)
  closings-may [] = tt
  closings-may (client ∷ clients) = let one = closes client in (one.0, (one.1, closings-may clients))

  pub whole-keeps : (events : List Event) (before behind : Outside S) (report : Report) → AllByRecursion A events → most_of before ≡ most
      → J before → (h : IsRunOf w t exact route events before behind report) → IsKeptWhole K most R before behind h.finish
  whole-keeps events before behind report may m j h =
      let first : Playing S = record { clients = h.start; outside = before } in
      let last : Playing S = record { clients = h.finish; outside = behind } in
      let one = events-keep events 0 first h.mid may m (none-kept h.start h.nobody) j h.played in
      let amid = then before h.mid.outside one.moves in
      let rest = events-keep (closings events) (moment_behind events) h.mid last (closings-may (named events)) one.most_is one.kept amid h.closed in
      record {
        most_is = rest.most_is;
        clients = rest.kept;
        moves = next before h.mid.outside behind one.moves rest.moves;
      }

-- events that may be any
pub any-may : (events : List Event) → AllByRecursion (λ event. Unit {0}) events
any-may [] = tt
any-may (event ∷ events) = (tt, any-may events)

-- the door opens as many sessions of a class at most as before
pub run-most : {W S : Type 0} (w : world.Ghosts W) (t : sitting.Ghosts S W) (exact : Bool) (route : Route) (most : ℕ) (events : List Event)
    (before behind : Outside S) (report : Report) → most_of before ≡ most → IsRunOf w t exact route events before behind report → most_of behind ≡ most
run-most w t exact route most events before behind report m h =
    (whole-keeps w t exact route most (λ c. Unit {0}) (λ o. Unit {0}) (λ one other. Unit {0}) (λ e. Unit {0}) (λ client. (tt, tt)) (λ here j. tt)
    (λ one other f. tt) (λ one mid other f g. tt) tt (λ state piece k. tt) (λ state k. tt) (λ state k. tt)
    (λ now old new answer one other had is k j g. (tt, tt)) (λ event one other may j d g. tt) events before behind report (any-may events) m tt h).most_is
