-- What a front has done behind what becomes of the connection at a place: one summand is another
use Rattle.std.proofs.Common.{◌≡◌, ◌∙◌, ℕ, ◌+◌, ◌-◌, ◌*◌, ◌<◌, ◌≤◌, Bool, List, [], ◌∷◌, ◌++◌, Option, None, Some, IfSome, length, get_or, set, refl, sym, ap, subst, append-nil, append_assoc, arith}
use Rattle.std.specs.Prelude.{option_map}
use Rattle.std.specs.List.{AllByRecursion, AllZip, sum_by}
use Rattle.std.proofs.lemmas.List.{length_push}
use Rattle.std.proofs.lemmas.List.Sums.{get_or-le-sum_by, sum_by-set, sum_by_push}
use Rattle.z_types.specs.Bounds.{most_legs}
use Rattle.z_types.specs.declared.marks.End.{End}
use Rattle.z_types.specs.declared.marks.End.TheVariants as how
use Rattle.z_types.specs.declared.marks.Mark.{Mark}
use Rattle.z_types.specs.declared.sitting.Sitting as sitting
use Rattle.z_types.specs.declared.world.World as world
use Rattle.route_config.specs.declared.route.Route.{Route}
use Rattle.gw_outside.specs.Counts.{Counts}
use Rattle.pool_sets.specs.Counts.{DoorCounts}
use Rattle.pool_sets.specs.Plain.{Pool}
use Rattle.event_outside.specs.declared.sinks.EdgeSink as to
use Rattle.event_outside.specs.declared.sources.EdgeSource as from
use Rattle.event_outside.specs.Accepts.{EdgeAcceptFits, IsNewConnection}
use Rattle.event_outside.specs.declared.accepts.EdgeAccepted.TheVariants.{Connection}
use Rattle.event_front.specs.Edges.{streams}
use Rattle.event_front.specs.Tasks.{Owes, Stands, TaskView}
use Rattle.event_front.specs.conn_served.Costs.{AreMarksOf, needed, undialled}
use Rattle.event_front.specs.conn_served.Serving.{IsServed}
use Rattle.event_front.specs.conn_served.declared.served.Served.{Served}
use Rattle.event_front.specs.conn_served.front_session.Sessions.{new_session}
use Rattle.event_front.specs.conn_served.front_conn.steps.Answering.{Outside, legs_in}
use Rattle.event_front.specs.conn_served.front_conn.steps.States.{ConnectionState, nothing_yet}
use Rattle.event_front.specs.conn_served.front_conn_costs.steps.Conns.{dues_on, met_on, outside_meets}
use Rattle.event_front.specs.conn_served.front_conn_costs.steps.Growth.{RisesEnough}
use Rattle.event_front.specs.conn_served.front_conn_costs.steps.Laws.{MarksAreMet, StartsCostless}
use Rattle.event_front.specs.conn_served.front_conn_costs.steps.Ledgers.{Cost, Dues, IsRaised}
use Rattle.event_front.specs.conn_served.front_conn_costs.steps.Numbers.{Caused, met_outside}
use Rattle.front_conn_seats.specs.steps.Laws.{ConnectionsGiveBack, StepsKeepSeats}
use Rattle.front_conn_seats.specs.steps.Seats.{AreHeld, AreHeldOn}
use Rattle.event_front.specs.conn_served.package.steps.Ends.{lost_seats}
use Rattle.event_front.specs.conn_served.steps.Rounds.{GoesSo}
use Rattle.conn_served.proofs.SeatLemmas.{stepped-held}
use Rattle.front_conn_costs.proofs.GrowthLemmas.{as-both, enough-both, enough-less, enough-place}
use Rattle.event_loop.specs.Fronts.{AreTaken, FrontView, IsListed, needed_by, undialled_by}
use Rattle.event_loop.specs.steps.Places.{AreSeatedSince, IsFront, IsGoneAt, IsPlace, IsTask, legs_at, met_at, open_at, searches_at, unused_at}
use Rattle.event_loop.proofs.SeatedLemmas.{apart_of, each-set, held-apart, held-back, held-gone, since}

-- ---- counts

-- where some owe so much, and one of them more
enough-on : (listed some more before amid behind : ℕ) → RisesEnough 0 (listed + some) before amid → RisesEnough some more amid behind
    → RisesEnough 0 (listed + more) before behind
enough-on listed some more before amid behind one other others h =
    let first = one others h in
    let then = other (others + listed) (omega (arith, first)) in
    omega (arith, then)

abbrev cost_sum : Cost → Cost → Cost
cost_sum one other = record {
  dials = one.dials + other.dials;
  searches = one.searches + other.searches;
  gones = one.gones + other.gones;
  faults = one.faults + other.faults;
  booked = one.booked + other.booked;
  opens = one.opens + other.opens;
}

both-raised : (one other : Cost) (door mid after : DoorCounts) (backend amid moved : Counts) → IsRaised one door mid backend amid
    → IsRaised other mid after amid moved → IsRaised (cost_sum one other) door after backend moved
both-raised one other door mid after backend amid moved f g = record {
  searches = as-both 0 one.searches 0 other.searches backend.searches amid.searches moved.searches f.searches g.searches;
  booked = as-both 0 one.booked 0 other.booked door.booked mid.booked after.booked f.booked g.booked;
  opens = as-both 0 one.opens 0 other.opens door.opens mid.opens after.opens f.opens g.opens;
  dials = enough-both 0 one.dials 0 other.dials backend.dials amid.dials moved.dials f.dials g.dials;
  gones = enough-both 0 one.gones 0 other.gones backend.gones amid.gones moved.gones f.gones g.gones;
  faults = enough-both 0 one.faults 0 other.faults backend.faults amid.faults moved.faults f.faults g.faults;
}

-- searches are paid for, and those of one more
searches-on : (one other booked gones faults booked' gones' faults' all next here there : ℕ) → here ≤ all → next + here ≡ all + there
    → one + all ≤ booked + gones + faults → other + there ≤ booked' + gones' + faults' + here
    → one + other + next ≤ booked + booked' + (gones + gones') + (faults + faults')
searches-on one other booked gones faults booked' gones' faults' all next here there few sums f g = omega (arith, few, sums, f, g)

-- and addresses
opens-on : (one other dials faults dials' faults' all next here there more : ℕ) → here ≤ all → next + here ≡ all + there
    → one ≤ dials + faults + (all + more) → other + here ≤ dials' + faults' + there
    → one + other ≤ dials + dials' + (faults + faults') + (next + more)
opens-on one other dials faults dials' faults' all next here there more few sums f g = omega (arith, few, sums, f, g)

-- ---- lists that grow

-- one more at the end of both
zip-push : {A B : Type 0} (R : A → B → Type 0) (xs : List A) (ys : List B) (x : A) (y : B) → AllZip R xs ys → R x y
    → AllZip R (xs ++ x ∷ []) (ys ++ y ∷ [])
zip-push R [] [] x y all one = (one, tt)
zip-push R [] (b ∷ ys) x y all one = absurd all
zip-push R (a ∷ xs) [] x y all one = absurd all
zip-push R (a ∷ xs) (b ∷ ys) x y all one = (all.0, zip-push R xs ys x y all.1 one)

all-push : {X : Type 0} (P : X → Type 0) (xs : List X) (x : X) → AllByRecursion P xs → P x → AllByRecursion P (xs ++ x ∷ [])
all-push P [] x all one = (one, tt)
all-push P (y ∷ xs) x all one = (all.0, all-push P xs x all.1 one)

mapped-more : {A : Type 0} (told : Option (List A)) (some : List A) (one : A)
    → option_map (λ earlier. earlier ++ one ∷ []) (option_map (λ earlier. earlier ++ some) told)
    ≡ option_map (λ earlier. earlier ++ (some ++ one ∷ [])) told
mapped-more None some one = refl
mapped-more (Some items) some one = ap Some (append_assoc items some (one ∷ []))

-- ---- numbers that may be told

less-out : (told : Option ℕ) (old new : ℕ) → old ≡ new + 1
    → option_map (λ count. count - 1) (option_map (λ count. count + old) told) ≡ option_map (λ count. count + new) told
less-out None old new e = refl
less-out (Some count) old new e = ap Some (omega (arith, e))

more-out : (told : Option ℕ) (old new : ℕ) → new ≡ old + 1
    → option_map (λ count. count + 1) (option_map (λ count. count + old) told) ≡ option_map (λ count. count + new) told
more-out None old new e = refl
more-out (Some count) old new e = ap Some (omega (arith, e))

taken-one : {I K : Type 0} (start now then : Option ℕ) (count more : ℕ) (input : I) (output : K) → more ≡ count + 1 → AreTaken count start now
    → EdgeAcceptFits now then (Connection input output) → AreTaken more start then
taken-one None now then count more input output e taken fits =
    subst (λ (m : Option ℕ). EdgeAcceptFits m then (Connection input output)) taken fits
taken-one (Some left) now then count more input output e taken fits =
    let one = subst (λ (m : Option ℕ). EdgeAcceptFits m then (Connection input output)) taken.1 fits in
    (omega (arith, e, one.0), one.1 ∙ ap Some (omega (arith, e, one.0)))

-- what is counted outside is as it was
same-meets : {S : Type 0} (kind : Caused) (here next : Outside S) → next.door.counts ≡ here.door.counts
    → next.backend.counts ≡ here.backend.counts → outside_meets kind here ≡ outside_meets kind next
same-meets kind here next counts moved =
    ap (λ (d : DoorCounts). met_outside kind d here.backend.counts) (sym counts)
    ∙ ap (λ (b : Counts). met_outside kind next.door.counts b) (sym moved)

-- what ends leave undialled is no more than a request has legs
few-undialled : (end : End) → undialled end ≤ most_legs
few-undialled how.Closed = omega arith
few-undialled how.Finished = omega arith
few-undialled (how.Malformed at) = omega arith
few-undialled (how.Cut left) = omega arith
few-undialled how.Limited = omega arith
few-undialled how.ReadFault = omega arith
few-undialled how.WriteFault = omega arith
few-undialled how.Memory = omega arith

owed-few : {S : Type 0} (state : ConnectionState S) (end : Option End) → Owes state end → (dues_on state).unused ≤ most_legs
owed-few state None owes = owes.few
owed-few state (Some end) owes = let few = few-undialled end in omega (arith, owes, few)

-- a connection of an acceptor is new, whatever it had left when it told how many
pub new-since : {I K : Type 0} (i : from.Ghosts I) (k : to.Ghosts K) (start now : Option ℕ) (count : ℕ) (input : I) (output : K)
    → AreTaken count start now → IsNewConnection i k now (Connection input output) → IsNewConnection i k start (Connection input output)
new-since i k None now count input output taken new = tt
new-since i k (Some left) now count input output taken new =
    subst (λ (n : Option ℕ). IsNewConnection i k n (Connection input output)) taken.1 new

-- one that is open was taken
pub some-out : (told now : Option ℕ) (opened : ℕ) → 0 < opened → now ≡ option_map (λ count. count + opened) told → IfSome now (λ count. 0 < count)
some-out None now opened some e = subst (λ (n : Option ℕ). IfSome n (λ count. 0 < count)) (sym e) tt
some-out (Some count) now opened some e =
    subst (λ (n : Option ℕ). IfSome n (λ count. 0 < count)) (sym e) (omega (arith, some))

-- ---- a poll

module _ {W S I K : Type 0} (w : world.Ghosts W) (t : sitting.Ghosts S W) (i : from.Ghosts I) (k : to.Ghosts K) (exact : Bool) (route : Route) where
  -- the seats of the connection of a place that goes on
  seats-polled : StepsKeepSeats w t → ConnectionsGiveBack S → (places : List (Option (TaskView S I K))) (place : ℕ)
      (task new : TaskView S I K) (told : Option (Pool S)) (here next : Outside S) → place < length places
      → get_or places place None ≡ Some task
      → GoesSo w t exact route (record { conn = task.conn; outside = here }) (record { conn = new.conn; outside = next })
      → AreSeatedSince places told here.door.pool → AreSeatedSince (set places place (Some new)) told next.door.pool
  seats-polled keeps gives places place task new told here next inside is so seated =
      since places (set places place (Some new)) told here.door.pool next.door.pool
      (λ others all.
      held-back places place (Some new) others here.door.pool next.door.pool inside all
      (stepped-held w t exact route keeps gives (record { conn = task.conn; outside = here }) so.goes.0
      (record { conn = new.conn; outside = next }) (apart_of places place others) so.goes.1
      (subst (λ p. AreHeld (legs_at p) (apart_of places place others) here.door.pool) is
      (held-apart places place others here.door.pool inside all))))
      seated

  -- the connection of a place was polled
  pub polled : StepsKeepSeats w t → ConnectionsGiveBack S → (start : FrontView I K) (before : Outside S) (gone : List (I × K))
      (places : List (Option (TaskView S I K))) (now : FrontView I K) (here next : Outside S) (place : ℕ) (task new : TaskView S I K)
      → place < length places → get_or places place None ≡ Some task
      → next.door.counts.most ≡ here.door.counts.most
      → GoesSo w t exact route (record { conn = task.conn; outside = here }) (record { conn = new.conn; outside = next })
      → IsTask w t i k route start.left before.door.counts.most new
      → IsFront w t i k route start before gone places now here
      → IsFront w t i k route start before gone (set places place (Some new)) now next
  polled keeps gives start before gone places now here next place task new inside is most so goes front =
      let at : (f : Option (TaskView S I K) → ℕ) → f (get_or places place None) ≡ f (Some task) = λ f. ap f is in
      let opened : sum_by open_at (set places place (Some new)) ≡ sum_by open_at places =
      (let sums = sum_by-set open_at places place (Some new) None inside in let one = at open_at in omega (arith, sums, one)) in
      record {
        connections = front.connections;
        others = front.others;
        served = front.served;
        closed = front.closed;
        each = front.each;
        taken = subst (λ (n : ℕ). AreTaken (length front.others + length gone + n) start.left now.left) (sym opened) front.taken;
        out = front.out ∙ ap (λ (n : ℕ). option_map (λ count. count + n) start.out) (sym opened);
        most = most ∙ front.most;
        tasks = each-set (λ p. IsPlace w t i k route start.left before.door.counts.most p) places place (Some new) None inside goes front.tasks;
        marks = front.marks;
        causes = λ kind.
            enough-on (needed_by route.pool front.others kind) (sum_by (met_at route.pool kind) places)
            (sum_by (met_at route.pool kind) (set places place (Some new)))
            (outside_meets kind before) (outside_meets kind here) (outside_meets kind next) (front.causes kind)
            (enough-place (met_at route.pool kind) places place (Some new) None (outside_meets kind here) (outside_meets kind next) inside
            (subst (λ (n : ℕ). RisesEnough n (met_on route.pool kind new.conn) (outside_meets kind here) (outside_meets kind next))
            (sym (at (met_at route.pool kind))) (so.met kind)));
        cost = cost_sum front.cost so.paid.cost;
        raised = both-raised front.cost so.paid.cost before.door.counts here.door.counts next.door.counts before.backend.counts
            here.backend.counts next.backend.counts front.raised so.paid.raised;
        searches =
            (let paid = so.paid.paid.searches in
            let few = get_or-le-sum_by searches_at places place None inside in
            let sums = sum_by-set searches_at places place (Some new) None inside in
            let one = at searches_at in
            searches-on front.cost.searches so.paid.cost.searches front.cost.booked front.cost.gones front.cost.faults
            so.paid.cost.booked so.paid.cost.gones so.paid.cost.faults (sum_by searches_at places)
            (sum_by searches_at (set places place (Some new))) (searches_at (get_or places place None)) (dues_on new.conn).searches
            few sums front.searches (omega (arith, paid, one)));
        opens =
            (let paid = so.paid.paid.opens in
            let few = get_or-le-sum_by unused_at places place None inside in
            let sums = sum_by-set unused_at places place (Some new) None inside in
            let one = at unused_at in
            opens-on front.cost.opens so.paid.cost.opens front.cost.dials front.cost.faults so.paid.cost.dials so.paid.cost.faults
            (sum_by unused_at places) (sum_by unused_at (set places place (Some new))) (unused_at (get_or places place None))
            (dues_on new.conn).unused (undialled_by front.others + length gone * most_legs) few sums front.opens (omega (arith, paid, one)));
        seats = seats-polled keeps gives places place task new before.door.pool here next inside is so front.seats;
      }

  -- ---- a connection that is given up

  -- its seats
  seats-gone : ConnectionsGiveBack S → (places : List (Option (TaskView S I K))) (place : ℕ) (task : TaskView S I K)
      (told here next : Option (Pool S)) → place < length places → get_or places place None ≡ Some task
      → next ≡ option_map (lost_seats (legs_in task.conn.in_work)) here
      → AreSeatedSince places told here → AreSeatedSince (set places place None) told next
  seats-gone gives places place task told here next inside is lost seated =
      since places (set places place None) told here next
      (λ others all.
      held-gone places place others here next inside all
      (gives task.conn here next (apart_of places place others) lost
      (subst (λ p. AreHeld (legs_at p) (apart_of places place others) here) is (held-apart places place others here inside all))).1)
      seated

  -- ---- a connection that is handed back

  -- the connection of a place has come to its end, was handed back and is listed
  pub handed : MarksAreMet S → ConnectionsGiveBack S → (start : FrontView I K) (before : Outside S)
      (places : List (Option (TaskView S I K))) (now then : FrontView I K)
      (here next : Outside S) (place : ℕ) (task : TaskView S I K) (came : Served) → place < length places
      → get_or places place None ≡ Some task → Some came.end ≡ task.ended → came.marks ≡ task.conn.marks
      → then.served ≡ now.served ++ came ∷ [] → then.left ≡ now.left
      → then.closed ≡ option_map (λ earlier. earlier ++ (task.input, task.output) ∷ []) now.closed
      → then.out ≡ option_map (λ count. count - 1) now.out
      → next.door.counts ≡ here.door.counts → next.backend.counts ≡ here.backend.counts
      → next.door.pool ≡ option_map (lost_seats (legs_in task.conn.in_work)) here.door.pool
      → IsFront w t i k route start before [] places now here
      → IsFront w t i k route start before [] (set places place None) then next
  handed met gives start before places now then here next place task came inside is ended marks served left closed out counts moved lost front =
      let at : (f : Option (TaskView S I K) → ℕ) → f (get_or places place None) ≡ f (Some task) = λ f. ap f is in
      let own : IsTask w t i k route start.left before.door.counts.most task =
      subst (λ p. IsPlace w t i k route start.left before.door.counts.most p) is (front.tasks place) in
      let opened : sum_by open_at places ≡ sum_by open_at (set places place None) + 1 =
      (let sums = sum_by-set open_at places place None None inside in let one = at open_at in omega (arith, sums, one)) in
      record {
        connections = front.connections ++ (task.input, task.output) ∷ [];
        others = front.others ++ came ∷ [];
        served = served ∙ ap (λ earlier. earlier ++ came ∷ []) front.served ∙ append_assoc start.served front.others (came ∷ []);
        closed = closed ∙ ap (λ told. option_map (λ earlier. earlier ++ (task.input, task.output) ∷ []) told) front.closed
            ∙ ap (λ all. option_map (λ earlier. earlier ++ (task.input, task.output) ∷ []) (option_map (λ earlier. earlier ++ all) start.closed))
            (append-nil front.connections)
            ∙ mapped-more start.closed front.connections (task.input, task.output)
            ∙ ap (λ all. option_map (λ earlier. earlier ++ all) start.closed) (sym (append-nil (front.connections ++ (task.input, task.output) ∷ [])));
        each = zip-push (IsListed w i k route start.left) front.connections front.others (task.input, task.output) came front.each (record {
          input = own.input;
          output = own.output;
          is_new = own.is_new;
          is_served = subst (λ (m : List Mark). IsServed w route (streams i k own.input own.output) (streams i k task.input task.output) m came.end)
              (sym marks)
              (subst (λ (e : Option End). Stands w route (streams i k own.input own.output) (streams i k task.input task.output)
              task.conn task.written e) (sym ended) own.stands);
        });
        taken = subst (λ (n : ℕ). AreTaken n start.left then.left)
            (let long = length_push front.others came in omega (arith, long, opened))
            (subst (λ (l : Option ℕ). AreTaken (length front.others + 0 + sum_by open_at places) start.left l) (sym left) front.taken);
        out = out ∙ ap (λ told. option_map (λ count. count - 1) told) front.out
            ∙ less-out start.out (sum_by open_at places) (sum_by open_at (set places place None)) opened;
        most = ap (λ (d : DoorCounts). d.most) counts ∙ front.most;
        tasks = each-set (λ p. IsPlace w t i k route start.left before.door.counts.most p) places place None None inside tt front.tasks;
        marks = all-push (λ (one : Served). AreMarksOf route.pool before.door.counts.most one.marks) front.others came front.marks
            (subst (λ (m : List Mark). AreMarksOf route.pool before.door.counts.most m) (sym marks) own.marks);
        causes = λ kind.
            (let few : needed route.pool came.marks kind ≤ met_on route.pool kind task.conn =
            subst (λ (m : List Mark). needed route.pool m kind ≤ met_on route.pool kind task.conn) (sym marks) (met route.pool kind task.conn) in
            let sums = sum_by-set (met_at route.pool kind) places place None None inside in
            let one = at (met_at route.pool kind) in
            let more = sum_by_push (λ (one : Served). needed route.pool one.marks kind) front.others came in
            enough-less 0 (needed_by route.pool front.others kind + sum_by (met_at route.pool kind) places)
            (needed_by route.pool (front.others ++ came ∷ []) kind + sum_by (met_at route.pool kind) (set places place None))
            (outside_meets kind before) (outside_meets kind next) (omega (arith, few, sums, one, more))
            (subst (λ (n : ℕ). RisesEnough 0 (needed_by route.pool front.others kind + sum_by (met_at route.pool kind) places)
            (outside_meets kind before) n) (same-meets kind here next counts moved) (front.causes kind)));
        cost = front.cost;
        raised = subst (λ (d : DoorCounts). IsRaised front.cost before.door.counts d before.backend.counts next.backend.counts) (sym counts)
            (subst (λ (b : Counts). IsRaised front.cost before.door.counts here.door.counts before.backend.counts b) (sym moved) front.raised);
        searches =
            (let paid = front.searches in
            let sums = sum_by-set searches_at places place None None inside in omega (arith, paid, sums));
        opens =
            (let paid = front.opens in
            let sums = sum_by-set unused_at places place None None inside in
            let one = at unused_at in
            let few : (dues_on task.conn).unused ≤ undialled came.end =
            subst (λ (e : Option End). Owes task.conn e) (sym ended) own.owes in
            let more = sum_by_push (λ (one : Served). undialled one.end) front.others came in omega (arith, paid, sums, one, few, more));
        seats = seats-gone gives places place task before.door.pool here.door.pool next.door.pool inside is lost front.seats;
      }

  -- the connection of a place was given up, and handed back
  pub abandoned : ConnectionsGiveBack S → (start : FrontView I K) (before : Outside S) (gone : List (I × K))
      (places : List (Option (TaskView S I K))) (now then : FrontView I K)
      (here next : Outside S) (place : ℕ) (task : TaskView S I K) → place < length places
      → get_or places place None ≡ Some task
      → then.served ≡ now.served → then.left ≡ now.left
      → then.closed ≡ option_map (λ earlier. earlier ++ (task.input, task.output) ∷ []) now.closed
      → then.out ≡ option_map (λ count. count - 1) now.out
      → next.door.counts ≡ here.door.counts → next.backend.counts ≡ here.backend.counts
      → next.door.pool ≡ option_map (lost_seats (legs_in task.conn.in_work)) here.door.pool
      → IsFront w t i k route start before gone places now here
      → IsGoneAt w t i k route start before gone places (set places place None) then next
  abandoned gives start before gone places now then here next place task inside is served left closed out counts moved lost front =
      let at : (f : Option (TaskView S I K) → ℕ) → f (get_or places place None) ≡ f (Some task) = λ f. ap f is in
      let own : IsTask w t i k route start.left before.door.counts.most task =
      subst (λ p. IsPlace w t i k route start.left before.door.counts.most p) is (front.tasks place) in
      let opened : sum_by open_at places ≡ sum_by open_at (set places place None) + 1 =
      (let sums = sum_by-set open_at places place None None inside in let one = at open_at in omega (arith, sums, one)) in
      let longer = length_push gone (task.input, task.output) in
      record {
        all = gone ++ (task.input, task.output) ∷ [];
        many = omega (arith, opened, longer);
        front = record {
          connections = front.connections;
          others = front.others;
          served = served ∙ front.served;
          closed = closed ∙ ap (λ told. option_map (λ earlier. earlier ++ (task.input, task.output) ∷ []) told) front.closed
              ∙ mapped-more start.closed (front.connections ++ gone) (task.input, task.output)
              ∙ ap (λ all. option_map (λ earlier. earlier ++ all) start.closed) (append_assoc front.connections gone ((task.input, task.output) ∷ []));
          each = front.each;
          taken = subst (λ (n : ℕ). AreTaken n start.left then.left) (omega (arith, longer, opened))
              (subst (λ (l : Option ℕ). AreTaken (length front.others + length gone + sum_by open_at places) start.left l) (sym left) front.taken);
          out = out ∙ ap (λ told. option_map (λ count. count - 1) told) front.out
              ∙ less-out start.out (sum_by open_at places) (sum_by open_at (set places place None)) opened;
          most = ap (λ (d : DoorCounts). d.most) counts ∙ front.most;
          tasks = each-set (λ p. IsPlace w t i k route start.left before.door.counts.most p) places place None None inside tt front.tasks;
          marks = front.marks;
          causes = λ kind.
              (let sums = sum_by-set (met_at route.pool kind) places place None None inside in
              enough-less 0 (needed_by route.pool front.others kind + sum_by (met_at route.pool kind) places)
              (needed_by route.pool front.others kind + sum_by (met_at route.pool kind) (set places place None))
              (outside_meets kind before) (outside_meets kind next) (omega (arith, sums))
              (subst (λ (n : ℕ). RisesEnough 0 (needed_by route.pool front.others kind + sum_by (met_at route.pool kind) places)
              (outside_meets kind before) n) (same-meets kind here next counts moved) (front.causes kind)));
          cost = front.cost;
          raised = subst (λ (d : DoorCounts). IsRaised front.cost before.door.counts d before.backend.counts next.backend.counts) (sym counts)
              (subst (λ (b : Counts). IsRaised front.cost before.door.counts here.door.counts before.backend.counts b) (sym moved) front.raised);
          searches =
              (let paid = front.searches in
              let sums = sum_by-set searches_at places place None None inside in omega (arith, paid, sums));
          opens =
              (let paid = front.opens in
              let sums = sum_by-set unused_at places place None None inside in
              let one = at unused_at in
              let few = owed-few task.conn task.ended own.owes in omega (arith, paid, sums, one, few, longer));
          seats = seats-gone gives places place task before.door.pool here.door.pool next.door.pool inside is lost front.seats;
        };
      }

  -- ---- a connection that is taken

  -- its seats are none
  seats-put : (places : List (Option (TaskView S I K))) (place : ℕ) (new : TaskView S I K) (told here : Option (Pool S))
      → place < length places → get_or places place None ≡ None → new.conn ≡ nothing_yet new_session
      → AreSeatedSince places told here → AreSeatedSince (set places place (Some new)) told here
  seats-put places place new told here inside is first seated =
      since places (set places place (Some new)) told here here
      (λ others all.
      held-back places place (Some new) others here here inside all
      (subst (λ (s : ConnectionState S). AreHeldOn s (apart_of places place others) here) (sym first)
      (subst (λ p. AreHeld (legs_at p) (apart_of places place others) here) is (held-apart places place others here inside all))))
      seated

  -- a new connection was put at a place where none was open
  pub put : (start : FrontView I K) (before : Outside S) (gone : List (I × K)) (places : List (Option (TaskView S I K)))
      (now then : FrontView I K) (here : Outside S)
      (place : ℕ) (new : TaskView S I K) → place < length places → get_or places place None ≡ None
      → new.conn ≡ nothing_yet new_session → StartsCostless S
      → then.served ≡ now.served → then.closed ≡ now.closed → then.out ≡ option_map (λ count. count + 1) now.out
      → EdgeAcceptFits now.left then.left (Connection new.input new.output)
      → IsTask w t i k route start.left before.door.counts.most new
      → IsFront w t i k route start before gone places now here
      → IsFront w t i k route start before gone (set places place (Some new)) then here
  put start before gone places now then here place new inside is first costless served closed out fits own front =
      let at : (f : Option (TaskView S I K) → ℕ) → f (get_or places place None) ≡ f None = λ f. ap f is in
      let opened : sum_by open_at (set places place (Some new)) ≡ sum_by open_at places + 1 =
      (let sums = sum_by-set open_at places place (Some new) None inside in let one = at open_at in omega (arith, sums, one)) in
      let none : dues_on new.conn ≡ record { searches = 0; unused = 0 } = ap (λ (s : ConnectionState S). dues_on s) first in record {
        connections = front.connections;
        others = front.others;
        served = served ∙ front.served;
        closed = closed ∙ front.closed;
        each = front.each;
        taken = taken-one start.left now.left then.left (length front.others + length gone + sum_by open_at places)
            (length front.others + length gone + sum_by open_at (set places place (Some new))) new.input new.output (omega (arith, opened))
            front.taken fits;
        out = out ∙ ap (λ told. option_map (λ count. count + 1) told) front.out
            ∙ more-out start.out (sum_by open_at places) (sum_by open_at (set places place (Some new))) opened;
        most = front.most;
        tasks = each-set (λ p. IsPlace w t i k route start.left before.door.counts.most p) places place (Some new) None inside own front.tasks;
        marks = front.marks;
        causes = λ kind.
            (let zero : met_on route.pool kind new.conn ≡ 0 =
            ap (λ (s : ConnectionState S). met_on route.pool kind s) first ∙ (costless route).met kind in
            let sums = sum_by-set (met_at route.pool kind) places place (Some new) None inside in
            let one = at (met_at route.pool kind) in
            let same : sum_by (met_at route.pool kind) places ≡ sum_by (met_at route.pool kind) (set places place (Some new)) =
            omega (arith, zero, sums, one) in
            subst (λ (n : ℕ). RisesEnough 0 (needed_by route.pool front.others kind + n) (outside_meets kind before) (outside_meets kind here))
            same (front.causes kind));
        cost = front.cost;
        raised = front.raised;
        searches =
            (let paid = front.searches in
            let sums = sum_by-set searches_at places place (Some new) None inside in
            let one = at searches_at in
            let zero : (dues_on new.conn).searches ≡ 0 = ap (λ (d : Dues). d.searches) none in omega (arith, paid, sums, one, zero));
        opens =
            (let paid = front.opens in
            let sums = sum_by-set unused_at places place (Some new) None inside in
            let one = at unused_at in
            let zero : (dues_on new.conn).unused ≡ 0 = ap (λ (d : Dues). d.unused) none in omega (arith, paid, sums, one, zero));
        seats = seats-put places place new before.door.pool here.door.pool inside is first front.seats;
      }
