-- what the events of a replay cost, one behind another
use Rattle.std.proofs.Common.{◌≡◌, ◌∙◌, ◌<◌, ◌≤◌, ◌+◌, ◌-◌, ℕ, suc, Bool, true, false, List, [], ◌∷◌, Option, None, Some, IfSome, inl, inr, length, get_or, slice_set, refl, sym, ap, subst, arith}
use Rattle.std.specs.List.{sum_by}
use Rattle.std.proofs.lemmas.Bool.{cases_eq}
use Rattle.std.proofs.lemmas.List.Sums.{get_or-le-sum_by, sum_by-set}
use Rattle.std.proofs.lemmas.Option.{unwrap_or-slice_get}
use Rattle.z_types.specs.declared.sitting.Sitting as sitting
use Rattle.z_types.specs.declared.world.World as world
use Rattle.route_config.specs.Sound.{IsSound}
use Rattle.route_config.specs.declared.route.Route.{Route}
use Rattle.front_conn_costs.specs.front_conn.steps.Answering.{Outside}
use Rattle.front_conn_costs.specs.front_conn.steps.Feeding.{with_end}
use Rattle.front_conn_costs.specs.front_conn.steps.States.{ConnectionState, IsConnOf}
use Rattle.front_conn_costs.specs.steps.Conns.{PaysFor, counted_on, dues_on, met_on, outside_counts, outside_meets}
use Rattle.front_conn_costs.specs.steps.Growth.{RisesAsMuch, RisesEnough}
use Rattle.front_conn_costs.specs.steps.Laws.{IsCosted}
use Rattle.front_conn_costs.specs.steps.Ledgers.{Cost, IsRaised}
use Rattle.front_conn_costs.specs.steps.Numbers.{Caused, Number, in_counts, met_outside}
use Rattle.front_conn_costs.proofs.GrowthLemmas.{as-both, as-place, enough-both, enough-place}
use Rattle.gw_outside.specs.Counts.{Counts}
use Rattle.pool_sets.specs.Counts.{DoorCounts}
use Rattle.package_quiet.specs.leg.Deeds.{BackendView}
use Rattle.script.specs.declared.event.Event.{Event}
use Rattle.script.specs.declared.event.Event.TheVariants.{Feed, End, Step, Run, Tick, Gone, Cut, Slow}
use Rattle.script.specs.Events.{IsEvent, client_of}
use Rattle.replay.specs.Clients.{ClientState, client_at, client_or_new}
use Rattle.replay.specs.Trace.{AreSteps, BefallsIf, HasRun, IsBefallen, IsClientStep, IsPlayed, PlaysFor, PlaysOf, Playing, Point, test_number, with_no_more}
use Rattle.replay.specs.steps.Clients.{AreClientsOf}
use Rattle.replay.specs.steps.Costs.{AreCosted, AreKept, ArePaid, IsKept, counted_at, met_at, unused_at}
use Rattle.replay.specs.steps.Laws.{CostLaws, Laws}
use Rattle.replay.proofs.ClientLemmas.{client_at-other, client_at-set, client_within, or_new_fed}
use Rattle.replay.proofs.StepLemmas.{known}

-- ---- what is paid for

abbrev no_cost : Cost
no_cost = record { dials = 0; searches = 0; gones = 0; faults = 0; booked = 0; opens = 0 }

none_raised : (door after : DoorCounts) (backend moved : Counts) → after ≡ door → moved ≡ backend → IsRaised no_cost door after backend moved
none_raised door after backend moved e f =
    subst (λ (d : DoorCounts). IsRaised no_cost door d backend moved) (sym e)
    (subst (λ (b : Counts). IsRaised no_cost door door backend b) (sym f) (record {
      searches = λ others h. h;
      booked = λ others h. h;
      opens = λ others h. h;
      dials = λ others h. h;
      gones = λ others h. h;
      faults = λ others h. h;
    }))

abbrev cost_sum : Cost → Cost → Cost
cost_sum one other = record {
  dials = one.dials + other.dials;
  searches = one.searches + other.searches;
  gones = one.gones + other.gones;
  faults = one.faults + other.faults;
  booked = one.booked + other.booked;
  opens = one.opens + other.opens;
}

both_raised : (one other : Cost) (door mid after : DoorCounts) (backend amid moved : Counts) → IsRaised one door mid backend amid
    → IsRaised other mid after amid moved → IsRaised (cost_sum one other) door after backend moved
both_raised one other door mid after backend amid moved f g = record {
  searches = as-both 0 one.searches 0 other.searches backend.searches amid.searches moved.searches f.searches g.searches;
  booked = as-both 0 one.booked 0 other.booked door.booked mid.booked after.booked f.booked g.booked;
  opens = as-both 0 one.opens 0 other.opens door.opens mid.opens after.opens f.opens g.opens;
  dials = enough-both 0 one.dials 0 other.dials backend.dials amid.dials moved.dials f.dials g.dials;
  gones = enough-both 0 one.gones 0 other.gones backend.gones amid.gones moved.gones f.gones g.gones;
  faults = enough-both 0 one.faults 0 other.faults backend.faults amid.faults moved.faults f.faults g.faults;
}

sum_paid : (opens dials faults opens' dials' faults' old mid new : ℕ) → opens + old ≤ dials + faults + mid → opens' + mid ≤ dials' + faults' + new
    → opens + opens' + old ≤ dials + dials' + (faults + faults') + new
sum_paid opens dials faults opens' dials' faults' old mid new f g = omega (arith, f, g)

place_paid : (opens dials faults all next here there : ℕ) → here ≤ all → next + here ≡ all + there → opens + here ≤ dials + faults + there
    → opens + all ≤ dials + faults + next
place_paid opens dials faults all next here there few sums paid = omega (arith, few, sums, paid)

module _ {S : Type 0} where
  nothing_paid : (old new : Playing S) → new.clients ≡ old.clients → new.outside.door.counts ≡ old.outside.door.counts
      → new.outside.backend.counts ≡ old.outside.backend.counts → ArePaid old new
  nothing_paid old new e d c = record {
    cost = no_cost;
    raised = none_raised old.outside.door.counts new.outside.door.counts old.outside.backend.counts new.outside.backend.counts d c;
    opens = (let same : sum_by unused_at new.clients ≡ sum_by unused_at old.clients = ap (sum_by unused_at) e in omega (arith, same));
  }

  paid_on : (old mid new : Playing S) → ArePaid old mid → ArePaid mid new → ArePaid old new
  paid_on old mid new f g = record {
    cost = cost_sum f.cost g.cost;
    raised = both_raised f.cost g.cost old.outside.door.counts mid.outside.door.counts new.outside.door.counts
        old.outside.backend.counts mid.outside.backend.counts new.outside.backend.counts f.raised g.raised;
    opens = sum_paid f.cost.opens f.cost.dials f.cost.faults g.cost.opens g.cost.dials g.cost.faults
        (sum_by unused_at old.clients) (sum_by unused_at mid.clients) (sum_by unused_at new.clients) f.opens g.opens;
  }

  unused_new : (here : Option (ClientState S)) → unused_at here ≡ (dues_on (client_or_new here).conn).unused
  unused_new None = refl
  unused_new (Some client) = refl

  paid_at : (clients : List (Option (ClientState S))) (place : ℕ) (closed : Option (ClientState S)) (client : ClientState S) (before behind : Outside S)
      → place < length clients → closed ≡ Some client → PaysFor (client_or_new (client_at clients place)).conn client.conn before behind
      → ArePaid (record { clients = clients; outside = before }) (record { clients = slice_set clients place closed; outside = behind })
  paid_at clients place closed client before behind within is h = record {
    cost = h.cost;
    raised = h.raised;
    opens =
        (let here : unused_at (get_or clients place None) ≡ (dues_on (client_or_new (client_at clients place)).conn).unused =
        ap (λ (c : Option (ClientState S)). unused_at c) (sym (unwrap_or-slice_get clients place None)) ∙ unused_new (client_at clients place) in
        let there : unused_at closed ≡ (dues_on client.conn).unused = ap (λ (c : Option (ClientState S)). unused_at c) is in
        let few = get_or-le-sum_by unused_at clients place None within in
        let sums = sum_by-set unused_at clients place closed None within in
        let paid = h.paid.opens in
        place_paid h.cost.opens h.cost.dials h.cost.faults (sum_by unused_at clients) (sum_by unused_at (slice_set clients place closed))
        (unused_at (get_or clients place None)) (unused_at closed) few sums
        (omega (arith, paid, here, there)));
  }

-- ---- all of it

module _ {S : Type 0} (exact : Bool) (route : Route) where
  -- nothing costs nothing
  pub nothing_costed : (old : Playing S) → AreCosted exact route old old
  nothing_costed old = record {
    kept = λ kept. kept;
    counted = λ kept number told others h. h;
    met = λ kind others h. h;
    paid = nothing_paid old old refl refl refl;
  }

  -- and what is done one behind another
  pub costed_on : (old mid new : Playing S) → AreCosted exact route old mid → AreCosted exact route mid new → AreCosted exact route old new
  costed_on old mid new first then = record {
    kept = λ kept. then.kept (first.kept kept);
    counted = λ kept number told others h. then.counted (first.kept kept) number told others (first.counted kept number told others h);
    met = λ kind others h. then.met kind others (first.met kind others h);
    paid = paid_on old mid new first.paid then.paid;
  }

-- ---- one client

module _ {W S : Type 0} (w : world.Ghosts W) (t : sitting.Ghosts S W) (exact : Bool) (route : Route) (laws : Laws w t) (costs : CostLaws w t) (sound : IsSound route) where
  -- a step, and the writing behind it
  pub step_costed : (now : ℕ) (idle : Bool) (old new : ClientState S) (before behind : Outside S) → IsConnOf w t route before.door.counts.most old.conn
      → IsClientStep w t exact route now idle old new before behind → IsCosted exact route old.conn new.conn before behind
  step_costed now idle old new before behind of h =
      let stepped : IsCosted exact route old.conn h.stepped_to before behind =
      known h.answer h.remembers (costs.step exact route now old.conn h.stepped_to h.answer before behind sound of h.steps) in
      let written : IsCosted exact route h.stepped_to new.conn behind behind =
      subst (λ (c : ConnectionState S). IsCosted exact route h.stepped_to c behind behind) (sym h.conn) (costs.stays exact route h.stepped_to behind).written in
      costs.on exact route old.conn h.stepped_to new.conn before behind behind stepped written

  pub step_of : (now : ℕ) (idle : Bool) (old new : ClientState S) (before behind : Outside S)
      → IsClientStep w t exact route now idle old new before behind → IsConnOf w t route behind.door.counts.most new.conn
  step_of now idle old new before behind h =
      subst (λ (c : ConnectionState S). IsConnOf w t route behind.door.counts.most c) (sym h.conn)
      (laws.of route behind.door.counts.most h.stepped_to h.of).written

  -- steps
  record GoesCosted (start last : Point S) : Type 0 where
    pub costed : IsCosted exact route start.client.conn last.client.conn start.outside last.outside
    pub of : IsConnOf w t route last.outside.door.counts.most last.client.conn

  steps_costed : (now : ℕ) (start : Point S) (earlier : List (Point S)) (last : Point S) → IsConnOf w t route start.outside.door.counts.most start.client.conn
      → AreSteps w t exact route now start earlier last → GoesCosted start last
  steps_costed now start [] last of h =
      subst (λ (p : Point S). GoesCosted start p) (sym h)
      (record { costed = costs.nothing exact route start.client.conn start.outside; of = of })
  steps_costed now start (mid ∷ earlier) last of h =
      let so_far : GoesCosted start mid = steps_costed now start earlier mid of h.0 in record {
        costed = costs.on exact route start.client.conn mid.client.conn last.client.conn start.outside mid.outside last.outside so_far.costed
            (step_costed now false mid.client last.client mid.outside last.outside so_far.of h.1);
        of = step_of now false mid.client last.client mid.outside last.outside h.1;
      }

  -- a run
  pub run_costed : (now : ℕ) (old new : ClientState S) (before behind : Outside S) → IsConnOf w t route before.door.counts.most old.conn
      → HasRun w t exact route now old new before behind → IsCosted exact route old.conn new.conn before behind
  run_costed now old new before behind of h =
      let start : Point S = record { client = old; outside = before } in
      let steps : GoesCosted start h.last = steps_costed now start h.earlier h.last of h.steps in
      costs.on exact route old.conn h.last.client.conn new.conn before h.last.outside behind steps.costed
      (step_costed now true h.last.client new h.last.outside behind steps.of h.rests)

  -- a client is closed: its input ends, and it is run
  pub closing_costed : (now : ℕ) (old new : ClientState S) (before behind : Outside S) → IsConnOf w t route before.door.counts.most old.conn
      → HasRun w t exact route now (with_no_more old) new before behind → IsCosted exact route old.conn new.conn before behind
  closing_costed now old new before behind of h =
      costs.on exact route old.conn (with_end old.conn) new.conn before before behind (costs.stays exact route old.conn before).ended
      (run_costed now (with_no_more old) new before behind (laws.of route before.door.counts.most old.conn of).ended h)

  -- an event for its client
  event_costed : (event : Event) (now : ℕ) (old new : ClientState S) (before behind : Outside S) → IsConnOf w t route before.door.counts.most old.conn
      → PlaysFor w t exact route event now old new before behind → IsCosted exact route old.conn new.conn before behind
  event_costed (Feed client octets) now old new before behind of h =
      subst (λ (o : Outside S). IsCosted exact route old.conn new.conn before o) (sym h.1)
      (subst (λ (c : ClientState S). IsCosted exact route old.conn c.conn before before) (sym h.0) ((costs.stays exact route old.conn before).fed octets))
  event_costed (End client) now old new before behind of h =
      subst (λ (o : Outside S). IsCosted exact route old.conn new.conn before o) (sym h.1)
      (subst (λ (c : ClientState S). IsCosted exact route old.conn c.conn before before) (sym h.0) (costs.stays exact route old.conn before).ended)
  event_costed (Step client) now old new before behind of h = step_costed now h.0 old new before behind of h.1
  event_costed (Run client) now old new before behind of h = run_costed now old new before behind of h
  event_costed (Tick seconds) now old new before behind of h = absurd h
  event_costed (Gone target presents) now old new before behind of h = absurd h
  event_costed (Cut target) now old new before behind of h = absurd h
  event_costed (Slow target looks) now old new before behind of h = absurd h

  -- ---- among all

  -- a new client has counted nothing
  counted_new : (number : Number) (here : Option (ClientState S)) → counted_at number here ≡ counted_on number (client_or_new here).conn
  counted_new number None = sym ((costs.start route).counted number)
  counted_new number (Some client) = refl

  met_new : (kind : Caused) (here : Option (ClientState S)) → met_at route.pool kind here ≡ met_on route.pool kind (client_or_new here).conn
  met_new kind None = sym ((costs.start route).met kind)
  met_new kind (Some client) = refl

  kept_new : (here : Option (ClientState S)) → IfSome here (IsKept route) → IsKept route (client_or_new here)
  kept_new None h = record { totals = (costs.start route).totals; rests = (costs.start route).rests }
  kept_new (Some client) h = h

  at_place : (clients : List (Option (ClientState S))) (place : ℕ) → get_or clients place None ≡ client_at clients place
  at_place clients place = sym (unwrap_or-slice_get clients place None)

  -- what one client's connection costs, all cost
  pub place_costed : (place : ℕ) (clients : List (Option (ClientState S))) (closed : Option (ClientState S)) (client : ClientState S) (before behind : Outside S)
      → place < length clients → closed ≡ Some client
      → IsCosted exact route (client_or_new (client_at clients place)).conn client.conn before behind
      → AreCosted exact route (record { clients = clients; outside = before }) (record { clients = slice_set clients place closed; outside = behind })
  place_costed place clients closed client before behind within is h = record {
    kept = λ kept other.
        elim (cases_eq other place) [
          | inl e ↦
              let own = kept_new (client_at clients place) (kept place) in
              subst (λ (n : ℕ). IfSome (client_at (slice_set clients place closed) n) (IsKept route)) (sym e)
              (subst (λ (c : Option (ClientState S)). IfSome c (IsKept route)) (sym (client_at-set clients place closed within ∙ is))
              (record { totals = h.totals own.totals; rests = h.rests own.rests }))
          | inr ne ↦ subst (λ (c : Option (ClientState S)). IfSome c (IsKept route)) (sym (client_at-other clients place other closed ne)) (kept other)
        ];
    counted = λ kept number told.
        let own = kept_new (client_at clients place) (kept place) in
        let here : counted_at number (get_or clients place None) ≡ counted_on number (client_or_new (client_at clients place)).conn =
        ap (counted_at number) (at_place clients place) ∙ counted_new number (client_at clients place) in
        let there : counted_at number closed ≡ counted_on number client.conn = ap (counted_at number) is in
        as-place (counted_at number) clients place closed None (outside_counts number before) (outside_counts number behind) within
        (subst (λ (n : ℕ). RisesAsMuch n (counted_at number closed) (outside_counts number before) (outside_counts number behind)) (sym here)
        (subst (λ (n : ℕ). RisesAsMuch (counted_on number (client_or_new (client_at clients place)).conn) n (outside_counts number before) (outside_counts number behind)) (sym there)
        (h.counted own.totals number told)));
    met = λ kind.
        let here : met_at route.pool kind (get_or clients place None) ≡ met_on route.pool kind (client_or_new (client_at clients place)).conn =
        ap (met_at route.pool kind) (at_place clients place) ∙ met_new kind (client_at clients place) in
        let there : met_at route.pool kind closed ≡ met_on route.pool kind client.conn = ap (met_at route.pool kind) is in
        enough-place (met_at route.pool kind) clients place closed None (outside_meets kind before) (outside_meets kind behind) within
        (subst (λ (n : ℕ). RisesEnough n (met_at route.pool kind closed) (outside_meets kind before) (outside_meets kind behind)) (sym here)
        (subst (λ (n : ℕ). RisesEnough (met_on route.pool kind (client_or_new (client_at clients place)).conn) n (outside_meets kind before) (outside_meets kind behind)) (sym there)
        (h.met kind)));
    paid = paid_at clients place closed client before behind within is h.paid;
  }

  -- where nobody is touched, and nothing is counted
  unchanged_costed : (old new : Playing S) → new.clients ≡ old.clients → new.outside.door ≡ old.outside.door
      → new.outside.backend.counts ≡ old.outside.backend.counts → AreCosted exact route old new
  unchanged_costed old new e d c = record {
    kept = λ kept. subst (λ (cs : List (Option (ClientState S))). AreKept route cs) (sym e) kept;
    counted = λ kept number told.
        let same : outside_counts number new.outside ≡ outside_counts number old.outside = ap (λ counts. in_counts number counts) c in
        subst (λ (cs : List (Option (ClientState S))). RisesAsMuch (sum_by (counted_at number) old.clients) (sum_by (counted_at number) cs)
        (outside_counts number old.outside) (outside_counts number new.outside)) (sym e)
        (subst (λ (n : ℕ). RisesAsMuch (sum_by (counted_at number) old.clients) (sum_by (counted_at number) old.clients) (outside_counts number old.outside) n)
        (sym same) (λ others h. h));
    met = λ kind.
        let same : outside_meets kind new.outside ≡ outside_meets kind old.outside =
        ap (λ door. met_outside kind door.counts new.outside.backend.counts) d ∙ ap (λ counts. met_outside kind old.outside.door.counts counts) c in
        subst (λ (cs : List (Option (ClientState S))). RisesEnough (sum_by (met_at route.pool kind) old.clients) (sum_by (met_at route.pool kind) cs)
        (outside_meets kind old.outside) (outside_meets kind new.outside)) (sym e)
        (subst (λ (n : ℕ). RisesEnough (sum_by (met_at route.pool kind) old.clients) (sum_by (met_at route.pool kind) old.clients) (outside_meets kind old.outside) n)
        (sym same) (λ others h. h));
    paid = nothing_paid old new e (ap (λ door. door.counts) d) c;
  }

  if_counts : (event : Event) (number : Option ℕ) (old new : BackendView) → BefallsIf exact event number old new → new.counts ≡ old.counts
  if_counts event None old new h = ap (λ (b : BackendView). b.counts) h
  if_counts event (Some number) old new h = h.counts

  befallen_counts : (event : Event) (old new : BackendView) → IsBefallen exact route event old new → new.counts ≡ old.counts
  befallen_counts (Gone target presents) old new h = if_counts (Gone target presents) (test_number route target) old new h
  befallen_counts (Cut target) old new h = if_counts (Cut target) (test_number route target) old new h
  befallen_counts (Slow target looks) old new h = if_counts (Slow target looks) (test_number route target) old new h
  befallen_counts (Feed client octets) old new h = ap (λ (b : BackendView). b.counts) h
  befallen_counts (End client) old new h = ap (λ (b : BackendView). b.counts) h
  befallen_counts (Step client) old new h = ap (λ (b : BackendView). b.counts) h
  befallen_counts (Run client) old new h = ap (λ (b : BackendView). b.counts) h
  befallen_counts (Tick seconds) old new h = ap (λ (b : BackendView). b.counts) h

  -- an event, whoever it is of
  played_of : (event : Event) (of : Option ℕ) (now targets : ℕ) (before : List Event) (old new : Playing S) → client_of event ≡ of → IsEvent targets event
      → AreClientsOf w t route old.outside.door.counts.most before old.clients → PlaysOf w t exact route of event now old new → AreCosted exact route old new
  played_of event None now targets before old new its is stand h =
      unchanged_costed old new h.clients h.door (befallen_counts event old.outside.backend new.outside.backend h.backend)
  played_of event (Some number) now targets before old new its is stand h =
      let within = client_within event targets number its is in
      let place = number - 1 in
      let there : place < length old.clients = omega (arith, within.0, within.1, stand.all) in
      let of = (or_new_fed w t route old.outside.door.counts.most laws before (suc place) (client_at old.clients place) (stand.each place there)).of in
      let one = event_costed event now (client_or_new (client_at old.clients place)) h.plays.client old.outside new.outside of h.plays.plays in
      subst (λ (cs : List (Option (ClientState S))). AreCosted exact route old (record { clients = cs; outside = new.outside })) (sym h.others)
      (place_costed place old.clients h.here h.plays.client old.outside new.outside there h.plays.is_there one)

  pub played_costed : (event : Event) (now targets : ℕ) (before : List Event) (old new : Playing S) → IsEvent targets event
      → AreClientsOf w t route old.outside.door.counts.most before old.clients → IsPlayed w t exact route event now old new → AreCosted exact route old new
  played_costed event now targets before old new is stand h = played_of event (client_of event) now targets before old new refl is stand h
