-- where there are places enough for the legs of all clients, no door is full along a replay
use Rattle.std.proofs.Common.{◌≡◌, ◌∙◌, ℕ, zero, suc, ◌+◌, ◌-◌, ◌*◌, ◌<◌, ◌≤◌, Bool, true, false, List, [], ◌∷◌, ◌++◌, length, get_or, slice_set, Option, None, Some, is_some, cond, take, add-one, inl, inr, refl, sym, ap, subst, arith}
use Rattle.std.specs.Prelude.{IfSome, IsSome, count_by}
use Rattle.std.specs.List.{AllByRecursion, sum_by}
use Rattle.std.proofs.Math.ListN.{length-set}
use Rattle.std.proofs.Math.Nat.{mul-le-mul_right, suc-mul}
use Rattle.std.proofs.lemmas.Bool.{cases_eq, cases_lt}
use Rattle.std.proofs.lemmas.List.{length-append, take_all}
use Rattle.std.proofs.lemmas.List.Sums.{sum_by-cons, sum_by-set}
use Rattle.std.proofs.lemmas.Option.{unwrap_or-slice_get}
use Rattle.z_types.specs.declared.marks.End.{End as Ending}
use Rattle.z_types.specs.declared.sitting.Sitting as sitting
use Rattle.z_types.specs.declared.world.World as world
use Rattle.front_conn_costs.proofs.gateway_rules.Runs.{all-append}
use Rattle.route_config.specs.Sound.{IsSound}
use Rattle.route_config.specs.declared.route.Route.{Route}
use Rattle.pool_sets.specs.Counts.{DoorCounts}
use Rattle.pool_sets.specs.Plain.{Ascends, Pool, is_seat, out_of}
use Rattle.pool_sets.specs.Sessions.{Session}
use Rattle.pool_sets.specs.declared.doors.Seat.{Seat}
use Rattle.package_quiet.specs.leg.LegView.{LegView}
use Rattle.package_quiet.specs.leg.Turns.{DoorView}
use Rattle.package_quiet.specs.package.steps.Packages.{IsPackageOf, PackageView}
use Rattle.front_conn_costs.specs.front_conn.steps.Answering.{Outside, legs_in}
use Rattle.front_conn_costs.specs.front_conn.steps.Feeding.{fed_piece}
use Rattle.front_conn_costs.specs.front_conn.steps.States.{ConnectionState, IsConnOf}
use Rattle.front_conn_costs.specs.steps.Conns.{RestsIfEnded}
use Rattle.front_conn_costs.specs.steps.Laws.{StepsCost}
use Rattle.front_conn_seats.specs.steps.Laws.{StepsKeepSeats, TurnsKeepSeats}
use Rattle.front_conn_seats.specs.steps.Seats.{AreHeldOn, AreOutOf, DoesItsTask, held_in, no_seat}
use Rattle.script.specs.declared.event.Event.{Event}
use Rattle.script.specs.declared.event.Event.TheVariants.{Feed, End, Step, Run, Tick, Gone, Cut, Slow}
use Rattle.script.specs.Events.{IsClient, IsEvent, client_of, is_named, most_clients, seconds_of}
use Rattle.replay.specs.Clients.{AreNone, ClientState, client_at, client_or_new}
use Rattle.replay.specs.Trace.{ArePlayed, AreReported, AreSteps, HasRun, IsClientStep, IsReportedBehind, IsRunOf, PlaysFor, PlaysOf, Playing, Point, closings, moment_behind}
use Rattle.replay.specs.declared.reports.ClientReport.{ClientReport}
use Rattle.replay.specs.declared.reports.Report.{Report}
use Rattle.replay.specs.Places.{most_at_once}
use Rattle.replay.specs.steps.Laws.{RunLaws}
use Rattle.replay.specs.steps.Room.{FindsRoom, IsEmptyPool}
use Rattle.replay.proofs.ClientLemmas.{client_at-behind, client_at-other, client_at-set, client_within}
use Rattle.replay.proofs.ClosingLemmas.{closings-all, closings-none, closings-with, closings-without, closings_upto}
use Rattle.replay.proofs.FewLegs.{IsFewConn, step-few, view-few}
use Rattle.replay.proofs.FullLemmas.{IsToldFull}
use Rattle.replay.proofs.MovesLemmas.{HasNoSession}
use Rattle.replay.proofs.SumReports.{sum-next}
use Rattle.replay.proofs.RunKeeps.{most_of}
use Rattle.replay.proofs.StepLemmas.{known}
use Rattle.replay.proofs.RoomLemmas.{AtMost, legs-most, most-both, most-less, most-upto, none-most}
use Rattle.replay.proofs.PlacesLemmas.{holds-few, legs_asked, out-as, step-room}

one-more : (limit n m : ℕ) → m ≡ suc n → limit + n * limit ≡ m * limit
one-more limit n m e = let all = suc-mul n limit in let same = ap (λ (k : ℕ). k * limit) e in omega (arith, all, same)

-- ---- what clients hold

module _ {S : Type 0} where
  -- how often a client's request in work holds a seat
  abbrev pub held_for : Seat → Option (ClientState S) → ℕ
  held_for seat None = 0
  held_for seat (Some client) = held_in (legs_in client.conn.in_work) seat

  abbrev pub held_by : List (Option (ClientState S)) → Seat → ℕ
  held_by clients seat = sum_by (held_for seat) clients

  -- all but the client of a place
  abbrev pub others_at : List (Option (ClientState S)) → ℕ → List (Option (ClientState S))
  others_at clients place = slice_set clients place None

  at_place : (clients : List (Option (ClientState S))) (place : ℕ) → get_or clients place None ≡ client_at clients place
  at_place clients place = sym (unwrap_or-slice_get clients place None)

  -- a client, and the others
  held-apart : (clients : List (Option (ClientState S))) (place : ℕ) (seat : Seat) → place < length clients
      → held_by clients seat ≡ held_for seat (client_at clients place) + held_by (others_at clients place) seat
  held-apart clients place seat within =
      let sums = sum_by-set (held_for seat) clients place None None within in
      let own = ap (λ (c : Option (ClientState S)). held_for seat c) (at_place clients place) in
      omega (arith, sums, own)

  held-set : (clients : List (Option (ClientState S))) (place : ℕ) (here : Option (ClientState S)) (seat : Seat) → place < length clients
      → held_by (slice_set clients place here) seat ≡ held_for seat here + held_by (others_at clients place) seat
  held-set clients place here seat within =
      let one = sum_by-set (held_for seat) clients place here None within in
      let other = sum_by-set (held_for seat) clients place None None within in
      omega (arith, one, other)

  -- how many clients there are
  abbrev pub present : List (Option (ClientState S)) → ℕ
  present clients = count_by is_some clients

  present-apart : (clients : List (Option (ClientState S))) (place : ℕ) (client : ClientState S) → place < length clients
      → present (slice_set clients place (Some client)) ≡ suc (present (others_at clients place))
  present-apart clients place client within =
      let f : Option (ClientState S) → ℕ = λ c. cond (is_some c) 1 0 in
      let one = sum_by-set f clients place (Some client) None within in
      let other = sum_by-set f clients place None None within in
      omega (arith, one, other)

  present-grows : (clients : List (Option (ClientState S))) (place : ℕ) (client : ClientState S) → place < length clients
      → present clients ≤ present (slice_set clients place (Some client))
  present-grows clients place client within =
      let f : Option (ClientState S) → ℕ = λ c. cond (is_some c) 1 0 in
      let one = sum_by-set f clients place (Some client) None within in
      let few = one-most (is_some (get_or clients place None)) in
      omega (arith, one, few)
    where
      one-most : (b : Bool) → cond b 1 0 ≤ 1
      one-most true = omega arith
      one-most false = omega arith

  present-none : (clients : List (Option (ClientState S))) → present (None ∷ clients) ≡ present clients
  present-none clients =
      let all = sum_by-cons (λ (c : Option (ClientState S)). cond (is_some c) 1 0) None clients in omega (arith, all)

  present-some : (client : ClientState S) (clients : List (Option (ClientState S))) → present (Some client ∷ clients) ≡ suc (present clients)
  present-some client clients =
      let all = sum_by-cons (λ (c : Option (ClientState S)). cond (is_some c) 1 0) (Some client) clients in omega (arith, all)

  -- a client holds no more than so many
  abbrev HoldsFew : ℕ → ClientState S → Type 0
  HoldsFew limit client = AtMost (held_in (legs_in client.conn.in_work)) limit

  all-few : (limit : ℕ) (clients : List (Option (ClientState S))) → AllByRecursion (λ here. IfSome here (HoldsFew limit)) clients
      → AtMost (held_by clients) (present clients * limit)
  all-few limit [] h = most-upto (held_by []) 0 (present [] * limit) (omega arith) none-most
  all-few limit (None ∷ clients) h =
      most-less (held_by (None ∷ clients)) (held_by clients) (present (None ∷ clients) * limit)
      (λ seat. (let all = sum_by-cons (held_for seat) None clients in omega (arith, all)))
      (subst (λ (n : ℕ). AtMost (held_by clients) (n * limit)) (sym (present-none clients)) (all-few limit clients h.1))
  all-few limit (Some client ∷ clients) h =
      most-less (held_by (Some client ∷ clients)) (λ seat. held_in (legs_in client.conn.in_work) seat + held_by clients seat)
      (present (Some client ∷ clients) * limit)
      (λ seat. (let all = sum_by-cons (held_for seat) (Some client) clients in omega (arith, all)))
      (subst (λ (n : ℕ). AtMost (λ seat. held_in (legs_in client.conn.in_work) seat + held_by clients seat) n)
      (one-more limit (present clients) (present (Some client ∷ clients)) (present-some client clients))
      (most-both (held_in (legs_in client.conn.in_work)) (held_by clients) limit (present clients * limit) h.0 (all-few limit clients h.1)))

-- ---- one client

module _ {W S : Type 0} (w : world.Ghosts W) (t : sitting.Ghosts S W) (exact : Bool) (route : Route) (most : ℕ) where
  -- a connection among others, and what is outside
  record Stands (conn : ConnectionState S) (others : Seat → ℕ) (here : Outside S) : Type 0 where
    of : IsConnOf w t route most conn
    few : IsFewConn route conn
    rests : RestsIfEnded conn
    held : AreHeldOn conn others here.door.pool
    told : IsToldFull here.door.pool here.door.counts
    most_is : most_of here ≡ most

  -- it goes on, and the door was not full
  record Goes (conn : ConnectionState S) (others : Seat → ℕ) (before behind : Outside S) : Type 0 where
    stands : Stands conn others behind
    fulls : behind.door.counts.fulls ≡ before.door.counts.fulls

  goes-still : (conn : ConnectionState S) (others : Seat → ℕ) (here : Outside S) → Stands conn others here → Goes conn others here here
  goes-still conn others here stands = record { stands = stands; fulls = refl }

  goes-on : (conn : ConnectionState S) (others : Seat → ℕ) (before amid behind : Outside S)
      → amid.door.counts.fulls ≡ before.door.counts.fulls → Goes conn others amid behind → Goes conn others before behind
  goes-on conn others before amid behind e one = record { stands = one.stands; fulls = one.fulls ∙ e }

  piece-of : (end : Option Ending) (state : ConnectionState S) (piece : List ℕ) (others : Seat → ℕ) (here : Outside S) → Stands state others here
      → Stands (fed_piece end state piece) others here
  piece-of None state piece others here s = record { of = s.of; few = s.few; rests = s.rests; held = s.held; told = s.told; most_is = s.most_is }
  piece-of (Some end) state piece others here s = s

  module _ (now : ℕ) (turns : TurnsKeepSeats w t) (steps : StepsKeepSeats w t) (costs : StepsCost w t) (sound : IsSound route)
      (others : Seat → ℕ) (n : ℕ) (few : AtMost others n) (less : n + most_at_once route ≤ most) where
    client-goes : (idle : Bool) (old new : ClientState S) (before behind : Outside S) → Stands old.conn others before
        → IsClientStep w t exact route now idle old new before behind → Goes new.conn others before behind
    client-goes idle old new before behind s h =
        let is = s.most_is in
        let of_ = subst (λ (m : ℕ). IsConnOf w t route m old.conn) (sym s.most_is) s.of in
        let room = step-room w t exact route now turns old.conn h.stepped_to h.answer before behind others n (most_at_once route) of_ h.steps s.held
        s.told few (λ view. view-few route w t most old.conn view s.of s.few) (omega (arith, less, is)) in
        let held_ = steps exact route now old.conn h.stepped_to h.answer before behind others of_ h.steps s.held in
        let costed = known h.answer h.remembers (costs exact route now old.conn h.stepped_to h.answer before behind sound of_ h.steps) in
        let most_then : most_of behind ≡ most = room.most ∙ s.most_is in
        let of_then = subst (λ (m : ℕ). IsConnOf w t route m h.stepped_to) most_then h.of in
        let few_then = step-few w t exact route now old.conn h.stepped_to h.answer before behind h.steps s.few in
        subst (λ (c : ConnectionState S). Goes c others before behind) (sym h.conn) (record {
          stands = record { of = of_then; few = few_then; rests = costed.rests s.rests; held = held_; told = room.told; most_is = most_then };
          fulls = room.fulls;
        })

    steps-go : (from : Point S) (earlier : List (Point S)) (last : Point S) → Stands from.client.conn others from.outside
        → AreSteps w t exact route now from earlier last → Goes last.client.conn others from.outside last.outside
    steps-go from [] last s h =
        subst (λ (p : Point S). Goes p.client.conn others from.outside p.outside) (sym h) (goes-still from.client.conn others from.outside s)
    steps-go from (mid ∷ earlier) last s h =
        let so_far = steps-go from earlier mid s h.0 in
        goes-on last.client.conn others from.outside mid.outside last.outside so_far.fulls
        (client-goes false mid.client last.client mid.outside last.outside so_far.stands h.1)

    run-goes-on : (old new : ClientState S) (before behind : Outside S) → Stands old.conn others before
        → HasRun w t exact route now old new before behind → Goes new.conn others before behind
    run-goes-on old new before behind s h =
        let so_far = steps-go (record { client = old; outside = before }) h.earlier h.last s h.steps in
        goes-on new.conn others before h.last.outside behind so_far.fulls
        (client-goes true h.last.client new h.last.outside behind so_far.stands h.rests)

    as-it-was : (new other : ClientState S) (before behind : Outside S) → new ≡ other → behind ≡ before → Stands other.conn others before
        → Goes new.conn others before behind
    as-it-was new other before behind e f s =
        subst (λ (o : Outside S). Goes new.conn others before o) (sym f)
        (subst (λ (c : ClientState S). Goes c.conn others before before) (sym e) (goes-still other.conn others before s))

    plays-go : (event : Event) (old new : ClientState S) (before behind : Outside S) → Stands old.conn others before
        → PlaysFor w t exact route event now old new before behind → Goes new.conn others before behind
    plays-go (Feed client octets) old new before behind s h =
        as-it-was new _ before behind h.0 h.1 (piece-of old.conn.end old.conn octets others before s)
    plays-go (End client) old new before behind s h =
        as-it-was new _ before behind h.0 h.1 (record { of = s.of; few = s.few; rests = s.rests; held = s.held; told = s.told; most_is = s.most_is })
    plays-go (Step client) old new before behind s h = client-goes h.0 old new before behind s h.1
    plays-go (Run client) old new before behind s h = run-goes-on old new before behind s h
    plays-go (Tick seconds) old new before behind s h = absurd h
    plays-go (Gone target presents) old new before behind s h = absurd h
    plays-go (Cut target) old new before behind s h = absurd h
    plays-go (Slow target looks) old new before behind s h = absurd h

-- ---- all of them

-- what holds at each place holds of all
all-of : {S : Type 0} (P : ClientState S → Type 0) (clients : List (Option (ClientState S))) → ((place : ℕ) → IfSome (client_at clients place) P)
    → AllByRecursion (λ here. IfSome here P) clients
all-of P [] h = tt
all-of P (here ∷ clients) h = (h 0, all-of P clients (λ place. h (suc place)))

at-others : {S : Type 0} (P : ClientState S → Type 0) (clients : List (Option (ClientState S))) (place : ℕ) (here : Option (ClientState S))
    → ((other : ℕ) → IfSome (client_at clients other) P) → IfSome here P → (other : ℕ) → IfSome (client_at (slice_set clients place here) other) P
at-others P clients place here all own other =
    elim (cases_eq other place) [
      | inl e ↦
          elim (cases_lt place (length clients)) [
            | inl within ↦
                subst (λ (n : ℕ). IfSome (client_at (slice_set clients place here) n) P) (sym e)
                (subst (λ c. IfSome c P) (sym (client_at-set clients place here within)) own)
            | inr beyond ↦
                subst (λ c. IfSome c P)
                (sym (client_at-behind (slice_set clients place here) other (omega (arith, e, beyond, length-set clients place here)))) tt
          ]
      | inr ne ↦ subst (λ c. IfSome c P) (sym (client_at-other clients place other here ne)) (all other)
    ]

module _ {W S : Type 0} (w : world.Ghosts W) (t : sitting.Ghosts S W) (exact : Bool) (route : Route) (most : ℕ) where
  -- what each client keeps
  pub record IsKeptSo (conn : ConnectionState S) : Type 0 where
    pub of : IsConnOf w t route most conn
    pub few : IsFewConn route conn
    pub rests : RestsIfEnded conn
    pub tasks : AllByRecursion (λ (leg : LegView S). DoesItsTask leg.phase leg.task) (legs_in conn.in_work)

  -- each seat that is out of the pool is held by a client
  pub record AreRoomy (clients : List (Option (ClientState S))) (door : DoorView S) : Type 0 where
    pub each : (place : ℕ) → IfSome (client_at clients place) (λ client. IsKeptSo client.conn)
    pub out : AreOutOf no_seat (held_by clients) door.pool
    pub told : IsToldFull door.pool door.counts
    pub most_is : door.counts.most ≡ most

  none-holds : AtMost (held_in {S = S} []) (most_at_once route)
  none-holds = most-upto (held_in {S = S} []) 0 (most_at_once route) (omega arith) (legs-most {S = S} [])

  works-few : (conn : ConnectionState S) (in_work : Option (PackageView S)) → conn.end ≡ None → conn.in_work ≡ in_work → IsKeptSo conn
      → AtMost (held_in (legs_in in_work)) (most_at_once route)
  works-few conn None e f k = none-holds
  works-few conn (Some view) e f k =
      let it : IsPackageOf w t route most view = subst (λ (i : Option (PackageView S)). IfSome i (IsPackageOf w t route most)) f ((k.of e).in_work) in
      most-upto (held_in (legs_in (Some view))) (legs_asked view) (most_at_once route) (view-few route w t most conn view k.of k.few e f)
      (holds-few route view it.asks)

  few-by : (end : Option Ending) (conn : ConnectionState S) → conn.end ≡ end → IsKeptSo conn
      → AtMost (held_in (legs_in conn.in_work)) (most_at_once route)
  few-by None conn e k = works-few conn conn.in_work e refl k
  few-by (Some end) conn e k =
      let idle : conn.in_work ≡ None = k.rests (subst (λ (o : Option Ending). IsSome o) (sym e) refl) in
      subst (λ (v : Option (PackageView S)). AtMost (held_in (legs_in v)) (most_at_once route)) (sym idle) none-holds

  others-few : (clients : List (Option (ClientState S))) (place : ℕ) (door : DoorView S) → AreRoomy clients door
      → AtMost (held_by (others_at clients place)) (present (others_at clients place) * most_at_once route)
  others-few clients place door h =
      all-few (most_at_once route) (others_at clients place)
      (all-of (HoldsFew (most_at_once route)) (others_at clients place)
      (at-others (HoldsFew (most_at_once route)) clients place None (λ other. each-few (client_at clients other) (h.each other)) tt))
    where
      each-few : (here : Option (ClientState S)) → IfSome here (λ client. IsKeptSo client.conn) → IfSome here (HoldsFew (most_at_once route))
      each-few None k = tt
      each-few (Some client) k = few-by client.conn.end client.conn refl k

  stands-by : (clients : List (Option (ClientState S))) (place : ℕ) (here : Outside S) (found : Option (ClientState S)) → place < length clients
      → client_at clients place ≡ found → IfSome found (λ client. IsKeptSo client.conn) → AreRoomy clients here.door
      → Stands w t exact route most (client_or_new found).conn (held_by (others_at clients place)) here
  stands-by clients place here None within e k h = record {
    of = λ go. record { sets = tt; in_work = tt; one_work = tt };
    few = λ go. record { session = record { sets = tt; waits = tt }; stage = tt };
    rests = λ is. refl;
    held = record {
      tasks = tt;
      out = out-as no_seat (held_by clients) (held_in {S = S} []) (held_by (others_at clients place)) here.door.pool
          (λ seat. let apart = held-apart clients place seat within in let none = ap (λ (c : Option (ClientState S)). held_for seat c) e in
          omega (arith, apart, none)) h.out;
    };
    told = h.told;
    most_is = h.most_is;
  }
  stands-by clients place here (Some client) within e k h = record {
    of = k.of;
    few = k.few;
    rests = k.rests;
    held = record {
      tasks = k.tasks;
      out = out-as no_seat (held_by clients) (held_in (legs_in client.conn.in_work)) (held_by (others_at clients place)) here.door.pool
          (λ seat. let apart = held-apart clients place seat within in let own = ap (λ (c : Option (ClientState S)). held_for seat c) e in
          omega (arith, apart, own)) h.out;
    };
    told = h.told;
    most_is = h.most_is;
  }

  -- a replay goes on, and the door was not full
  pub record RoomLeft (old new : Playing S) : Type 0 where
    pub roomy : AreRoomy new.clients new.outside.door
    pub fulls : new.outside.door.counts.fulls ≡ old.outside.door.counts.fulls

  module _ (turns : TurnsKeepSeats w t) (steps : StepsKeepSeats w t) (costs : StepsCost w t) (sound : IsSound route) where
    at-goes : (event : Event) (place now : ℕ) (old : Playing S) (client : ClientState S) (behind : Outside S) → place < length old.clients
        → present (slice_set old.clients place (Some client)) * most_at_once route ≤ most → AreRoomy old.clients old.outside.door
        → PlaysFor w t exact route event now (client_or_new (client_at old.clients place)) client old.outside behind
        → RoomLeft old (record { clients = slice_set old.clients place (Some client); outside = behind })
    at-goes event place now old client behind within less h plays =
        let apart = one-more (most_at_once route) (present (others_at old.clients place)) (present (slice_set old.clients place (Some client)))
        (present-apart old.clients place client within) in
        let goes = plays-go w t exact route most now turns steps costs sound (held_by (others_at old.clients place))
        (present (others_at old.clients place) * most_at_once route) (others-few old.clients place old.outside.door h) (omega (arith, apart, less)) event
        (client_or_new (client_at old.clients place)) client old.outside behind
        (stands-by old.clients place old.outside (client_at old.clients place) within refl (h.each place) h) plays in
        let stands = goes.stands in record {
          roomy = record {
            each = at-others (λ c. IsKeptSo c.conn) old.clients place (Some client) h.each
                (record { of = stands.of; few = stands.few; rests = stands.rests; tasks = stands.held.tasks });
            out = out-as (held_in (legs_in client.conn.in_work)) (held_by (others_at old.clients place)) no_seat
                (held_by (slice_set old.clients place (Some client))) behind.door.pool
                (λ seat. let set_ = held-set old.clients place (Some client) seat within in omega (arith, set_)) stands.held.out;
            told = stands.told;
            most_is = stands.most_is;
          };
          fulls = goes.fulls;
        }

    -- a client of this number has a place
    abbrev Within : Option ℕ → List (Option (ClientState S)) → Type 0
    Within None clients = Unit {0}
    Within (Some number) clients = (number - 1) < length clients

    of-goes : (event : Event) (client : Option ℕ) (now : ℕ) (old new : Playing S) → Within client old.clients
        → present new.clients * most_at_once route ≤ most → AreRoomy old.clients old.outside.door → PlaysOf w t exact route client event now old new
        → RoomLeft old new
    of-goes event None now old new within less h plays =
        subst (λ (cs : List (Option (ClientState S))). RoomLeft old (record { clients = cs; outside = new.outside })) (sym plays.clients)
        (record {
          roomy = subst (λ (d : DoorView S). AreRoomy old.clients d) (sym plays.door) h;
          fulls = ap (λ (d : DoorView S). d.counts.fulls) plays.door;
        })
    of-goes event (Some number) now old new within less h plays =
        let there : new.clients ≡ slice_set old.clients (number - 1) (Some plays.plays.client) =
        plays.others ∙ ap (λ (c : Option (ClientState S)). slice_set old.clients (number - 1) c) plays.plays.is_there in
        subst (λ (cs : List (Option (ClientState S))). RoomLeft old (record { clients = cs; outside = new.outside })) (sym there)
        (at-goes event (number - 1) now old plays.plays.client new.outside within
        (subst (λ (cs : List (Option (ClientState S))). present cs * most_at_once route ≤ most) there less) h plays.plays.plays)

    -- no client goes away
    record Grows (old new : Playing S) : Type 0 where
      count : length new.clients ≡ length old.clients
      more : present old.clients ≤ present new.clients

    of-grows : (event : Event) (client : Option ℕ) (now : ℕ) (old new : Playing S) → Within client old.clients
        → PlaysOf w t exact route client event now old new → Grows old new
    of-grows event None now old new within plays = record {
      count = ap (λ (cs : List (Option (ClientState S))). length cs) plays.clients;
      more = (let same = ap (λ (cs : List (Option (ClientState S))). present cs) plays.clients in omega (arith, same));
    }
    of-grows event (Some number) now old new within plays =
        let there : new.clients ≡ slice_set old.clients (number - 1) (Some plays.plays.client) =
        plays.others ∙ ap (λ (c : Option (ClientState S)). slice_set old.clients (number - 1) c) plays.plays.is_there in record {
          count = ap (λ (cs : List (Option (ClientState S))). length cs) there ∙ length-set old.clients (number - 1) (Some plays.plays.client);
          more = (let same = ap (λ (cs : List (Option (ClientState S))). present cs) there in
              let grows = present-grows old.clients (number - 1) plays.plays.client within in omega (arith, same, grows));
        }

    event-within : (event : Event) (targets : ℕ) (clients : List (Option (ClientState S))) → IsEvent targets event → length clients ≡ most_clients
        → (client : Option ℕ) → client_of event ≡ client → Within client clients
    event-within event targets clients is count None e = tt
    event-within event targets clients is count (Some number) e =
        let within = client_within event targets number e is in
        let least = within.0 in
        let most_ = within.1 in
        omega (arith, least, most_, count)

    events-grow : (targets : ℕ) (events : List Event) (now : ℕ) (old new : Playing S) → AllByRecursion (IsEvent targets) events
        → length old.clients ≡ most_clients → ArePlayed w t exact route events now old new → Grows old new
    events-grow targets [] now old new are count h =
        subst (λ (p : Playing S). Grows old p) (sym h) (record { count = refl; more = omega arith })
    events-grow targets (event ∷ events) now old new are count h =
        let one = of-grows event (client_of event) now old h.0 (event-within event targets old.clients are.0 count (client_of event) refl) h.1 in
        let rest = events-grow targets events (now + seconds_of event) h.0 new are.1 (one.count ∙ count) h.2 in
        let first = one.more in
        let second = rest.more in record { count = rest.count ∙ one.count; more = omega (arith, first, second) }

    pub events-go : (targets : ℕ) (events : List Event) (now : ℕ) (old new : Playing S) → AllByRecursion (IsEvent targets) events
        → length old.clients ≡ most_clients → present new.clients * most_at_once route ≤ most → AreRoomy old.clients old.outside.door
        → ArePlayed w t exact route events now old new → RoomLeft old new
    events-go targets [] now old new are count less h played =
        subst (λ (p : Playing S). RoomLeft old p) (sym played) (record { roomy = h; fulls = refl })
    events-go targets (event ∷ events) now old new are count less h played =
        let within = event-within event targets old.clients are.0 count (client_of event) refl in
        let grown = of-grows event (client_of event) now old played.0 within played.1 in
        let more = mul-le-mul_right (most_at_once route)
        (events-grow targets events (now + seconds_of event) played.0 new are.1 (grown.count ∙ count) played.2).more in
        let one = of-goes event (client_of event) now old played.0 within (omega (arith, more, less)) h played.1 in
        let rest = events-go targets events (now + seconds_of event) played.0 new are.1 (grown.count ∙ count) less one.roomy played.2 in
        record { roomy = rest.roomy; fulls = rest.fulls ∙ one.fulls }

-- ---- a whole replay

-- the events that close clients are of clients that there may be
closings-may : (targets last : ℕ) (events : List Event) → last ≤ most_clients → AllByRecursion (IsEvent targets) (closings_upto last events)
closings-may targets zero events few = subst (λ (es : List Event). AllByRecursion (IsEvent targets) es) (sym (closings-none events)) tt
closings-may targets (suc last) events few =
    one-more (closings-may targets last events (omega (arith, few))) (is_named events (suc last)) refl
  where
    one-more : AllByRecursion (IsEvent targets) (closings_upto last events) → (b : Bool) → is_named events (suc last) ≡ b
        → AllByRecursion (IsEvent targets) (closings_upto (suc last) events)
    one-more may false e = subst (λ (es : List Event). AllByRecursion (IsEvent targets) es) (sym (closings-without last events e)) may
    one-more may true e =
        let own : IsClient (suc last) = (omega arith, few) in
        subst (λ (es : List Event). AllByRecursion (IsEvent targets) es) (sym (closings-with last events e))
        (all-append (IsEvent targets) (closings_upto last events ++ End (suc last) ∷ []) (Run (suc last) ∷ [])
        (all-append (IsEvent targets) (closings_upto last events) (End (suc last) ∷ []) may (own, tt)) (own, tt))

module _ {S : Type 0} where
  none-held : (clients : List (Option (ClientState S))) → AreNone clients → (seat : Seat) → held_by clients seat ≡ 0
  none-held [] none seat = refl
  none-held (here ∷ clients) none seat =
      let all = sum_by-cons (held_for seat) here clients in
      let own = ap (λ (c : Option (ClientState S)). held_for seat c) (none 0) in
      let rest = none-held clients (λ place. none (suc place)) seat in
      omega (arith, all, own, rest)

  none-out : (pool : Option (Pool S)) (clients : List (Option (ClientState S))) → HasNoSession pool → AreNone clients
      → AreOutOf no_seat (held_by clients) pool
  none-out None clients empty none = absurd empty
  none-out (Some p) clients empty none = record {
    ascend = subst (λ (os : List (Session S)). Ascends 0 p.given os) (sym empty) (omega arith);
    each = λ seat.
        (let held = none-held clients none seat in
        let out : out_of p seat ≡ 0 = ap (λ (os : List (Session S)). count_by (is_seat seat) os) empty in omega (arith, held, out));
  }

  -- as many clients are reported as there are
  one-reported : (number : ℕ) (here : Option (ClientState S)) (old new : List ClientReport) → IsReportedBehind number here old new
      → length new ≡ length old + cond (is_some here) 1 0
  one-reported number None old new h = ap (λ (rs : List ClientReport). length rs) h ∙ omega arith
  one-reported number (Some client) old new h =
      ap (λ (rs : List ClientReport). length rs) h.2 ∙ length-append old (h.0 ∷ []) ∙ omega arith

  upto-reported : (last : ℕ) (clients : List (Option (ClientState S))) (reports : List ClientReport) → last ≤ length clients
      → AreReported last clients reports → length reports ≡ present (take last clients)
  upto-reported zero clients reports within h = ap (λ (rs : List ClientReport). length rs) h
  upto-reported (suc last) clients reports within h =
      let f : Option (ClientState S) → ℕ = λ c. cond (is_some c) 1 0 in
      let next = sum-next f clients last None (omega (arith, within)) in
      let more = ap (λ (n : ℕ). sum_by f (take n clients)) (add-one last) in
      let here = ap f (at_place clients last) in
      let rest = upto-reported last clients h.0 (omega (arith, within)) h.1 in
      let one = one-reported (suc last) (client_at clients last) h.0 reports h.2 in
      omega (arith, next, more, here, rest, one)

  all-reported : (clients : List (Option (ClientState S))) (reports : List ClientReport) → AreReported (length clients) clients reports
      → length reports ≡ present clients
  all-reported clients reports h =
      upto-reported (length clients) clients reports (omega arith) h
      ∙ ap (λ (cs : List (Option (ClientState S))). present cs) (take_all (length clients) clients (omega arith))

module _ {W S : Type 0} (w : world.Ghosts W) (t : sitting.Ghosts S W) (exact : Bool) (route : Route) (most : ℕ)
    (turns : TurnsKeepSeats w t) (steps : StepsKeepSeats w t) (costs : StepsCost w t) (sound : IsSound route) where
  -- where there are places enough for the legs of all clients, the door was never full
  pub run-room : (targets : ℕ) (events : List Event) (before behind : Outside S) (report : Report) → AllByRecursion (IsEvent targets) events
      → length report.clients * most_at_once route ≤ most → most_of before ≡ most → IsToldFull before.door.pool before.door.counts
      → HasNoSession before.door.pool → IsRunOf w t exact route events before behind report
      → behind.door.counts.fulls ≡ before.door.counts.fulls
  run-room targets events before behind report may less most_is told empty h =
      let first : Playing S = record { clients = h.start; outside = before } in
      let last : Playing S = record { clients = h.finish; outside = behind } in
      let roomy : AreRoomy w t exact route most h.start before.door = record {
        each = λ place. subst (λ (c : Option (ClientState S)). IfSome c (λ client. IsKeptSo w t exact route most client.conn)) (sym (h.nobody place)) tt;
        out = none-out before.door.pool h.start empty h.nobody;
        told = told;
        most_is = most_is;
      } in
      let closes = subst (λ (es : List Event). AllByRecursion (IsEvent targets) es) (closings-all events)
      (closings-may targets most_clients events (omega arith)) in
      let grown = events-grow w t exact route most turns steps costs sound targets events 0 first h.mid may h.places h.played in
      let later = events-grow w t exact route most turns steps costs sound targets (closings events) (moment_behind events) h.mid last closes
      (grown.count ∙ h.places) h.closed in
      let more = mul-le-mul_right (most_at_once route) later.more in
      let all = ap (λ (n : ℕ). n * most_at_once route) (all-reported h.finish report.clients h.reported.clients_of) in
      let one = events-go w t exact route most turns steps costs sound targets events 0 first h.mid may h.places (omega (arith, all, less, more)) roomy
      h.played in
      let rest = events-go w t exact route most turns steps costs sound targets (closings events) (moment_behind events) h.mid last closes
      (grown.count ∙ h.places) (omega (arith, all, less)) one.roomy h.closed in
      rest.fulls ∙ one.fulls

-- ---- a new door

empty-none : {S : Type 0} (most : ℕ) (pool : Option (Pool S)) → IsEmptyPool most pool → HasNoSession pool
empty-none most None empty = absurd empty
empty-none most (Some pool) empty = empty.0

empty-told : {S : Type 0} (pool : Option (Pool S)) (counts : DoorCounts) → IsEmptyPool counts.most pool → counts.fulls ≡ 0 → IsToldFull pool counts
empty-told None counts empty unfull = absurd empty
empty-told (Some pool) counts empty unfull = record {
  most = empty.1;
  few = (let none : length pool.sessions ≡ 0 = ap length empty.0 in omega (arith, none));
  full = λ is. absurd (omega (arith, is, unfull));
}

pub finds-room : {W S : Type 0} (w : world.Ghosts W) (t : sitting.Ghosts S W) (exact : Bool) (route : Route) → RunLaws w t → IsSound route
    → (targets : ℕ) (events : List Event) (before behind : Outside S) (report : Report) → AllByRecursion (IsEvent targets) events
    → IsRunOf w t exact route events before behind report → FindsRoom route report before behind
finds-room w t exact route laws sound targets events before behind report may run new enough =
    run-room w t exact route before.door.counts.most laws.turns laws.seats laws.costs sound targets events before behind report may enough refl
    (empty-told before.door.pool before.door.counts new.empty new.unfull) (empty-none before.door.counts.most before.door.pool new.empty) run
    ∙ new.unfull
