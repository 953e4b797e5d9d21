-- A place behind what becomes of its connection
use Rattle.std.proofs.Common.{◌≡◌, ◌∙◌, ℕ, ◌+◌, ◌-◌, Bool, true, false, is_some, List, [], ◌∷◌, ◌++◌, Option, None, Some, IfSome, IsSome, length, set, refl, sym, ap, subst}
use Rattle.std.specs.Prelude.{option_map}
use Rattle.std.specs.List.{sum_by}
use Rattle.std.proofs.lemmas.List.{set-get_or}
use Rattle.z_types.specs.declared.sitting.Sitting as sitting
use Rattle.z_types.specs.declared.world.World as world
use Rattle.route_config.specs.declared.route.Route.{Route}
use Rattle.event_outside.specs.Accepts.{EdgeAcceptFits, IsNewConnection}
use Rattle.event_outside.specs.declared.accepts.EdgeAccepted.TheVariants.{Connection, Ended, Failed, NotReady}
use Rattle.event_outside.specs.declared.sinks.EdgeSink as to
use Rattle.event_outside.specs.declared.sources.EdgeSource as from
use Rattle.event_front.specs.Edges.{streams}
use Rattle.event_front.specs.Tasks.{IsOpen, Owes, OwesFew, Stands, TaskView}
use Rattle.event_front.specs.conn_served.Costs.{AreMarksOf}
use Rattle.event_front.specs.conn_served.Serving.{Streams}
use Rattle.event_front.specs.conn_served.declared.served.Served.{Served}
use Rattle.event_front.specs.conn_served.front_session.Sessions.{new_session}
use Rattle.event_front.specs.conn_served.front_conn.steps.Answering.{Outside, legs_in}
use Rattle.event_front.specs.conn_served.front_conn.steps.States.{ConnectionState, IsConnOf, nothing_yet}
use Rattle.event_front.specs.conn_served.front_conn_costs.steps.Laws.{MarksAreMet, StartsCostless}
use Rattle.front_conn_seats.specs.steps.Laws.{ConnectionsGiveBack, StepsKeepSeats}
use Rattle.event_front.specs.conn_served.package.steps.Ends.{lost_seats}
use Rattle.event_front.specs.conn_served.steps.Rounds.{GoesSo}
use Rattle.event_loop.specs.Fronts.{FrontView, IsNoneLeft}
use Rattle.event_loop.specs.steps.Places.{GivesUp, HasEndedAt, IsFront, IsPlace, IsTask, ServesOn, open_at}
use Rattle.event_loop.proofs.PlaceLemmas.{abandoned, handed, new-since, polled, put}

-- ---- what an accept leaves as it was

pub left-not_ready : (I K : Type 0) (old new : Option ℕ) → EdgeAcceptFits {I = I} {O = K} old new NotReady → new ≡ old
left-not_ready I K None new fits = fits
left-not_ready I K (Some left) new fits = fits

pub left-ended : (I K : Type 0) (old new : Option ℕ) → EdgeAcceptFits {I = I} {O = K} old new Ended → new ≡ old
left-ended I K None new fits = fits
left-ended I K (Some left) new fits = fits.1

pub none-left : (I K : Type 0) (old new : Option ℕ) → EdgeAcceptFits {I = I} {O = K} old new Ended → IsNoneLeft new
none-left I K None new fits = subst IsNoneLeft (sym fits) tt
none-left I K (Some left) new fits = subst IsNoneLeft (sym fits.1) fits.0

pub left-failed : (I K : Type 0) (old new : Option ℕ) → EdgeAcceptFits {I = I} {O = K} old new Failed → new ≡ old
left-failed I K None new fits = fits
left-failed I K (Some left) new fits = fits

-- what was handed back, by what it was made of
pub closed-as : {I K : Type 0} (told then : Option (List (I × K))) (i j : I) (k l : K) → i ≡ j → k ≡ l
    → then ≡ option_map (λ earlier. earlier ++ (i, k) ∷ []) told → then ≡ option_map (λ earlier. earlier ++ (j, l) ∷ []) told
closed-as {I = I} {K = K} told then i j k l e f h =
    subst (λ (x : I). then ≡ option_map (λ earlier. earlier ++ (x, l) ∷ []) told) e
    (subst (λ (y : K). then ≡ option_map (λ earlier. earlier ++ (i, y) ∷ []) told) f h)

-- what is said of a source and a sink holds of those that were made of them
as-made : {I K : Type 0} (P : I → K → Type 0) (i j : I) (k l : K) → i ≡ j → k ≡ l → P j l → P i k
as-made {I = I} {K = K} P i j k l e f h = subst (λ (x : I). P x k) (sym e) (subst (λ (y : K). P j y) (sym f) h)

-- ---- views

view-same : {I K : Type 0} (now then : FrontView I K) → then.served ≡ now.served → then.left ≡ now.left → then.closed ≡ now.closed
    → then.out ≡ now.out → then ≡ now
view-same now then served left closed out =
    ap (λ x. record { served = x; left = then.left; closed = then.closed; out = then.out }) served
    ∙ ap (λ x. record { served = now.served; left = x; closed = then.closed; out = then.out }) left
    ∙ ap (λ x. record { served = now.served; left = now.left; closed = x; out = then.out }) closed
    ∙ ap (λ x. record { served = now.served; left = now.left; closed = now.closed; out = x }) out

module _ {S I K : Type 0} where
  pub of-some : (here : Option (TaskView S I K)) (task : TaskView S I K) (P : TaskView S I K → Type 0) → here ≡ Some task → IfSome here P → P task
  of-some here task P e h = subst (λ (t : Option (TaskView S I K)). IfSome t P) e h

  pub ended-some : (here : Option (TaskView S I K)) (task : TaskView S I K) → here ≡ Some task → HasEndedAt here → IsSome task.ended
  ended-some here task e h = subst (λ (t : Option (TaskView S I K)). HasEndedAt t) e h

  -- one that has ended is there
  pub ended-open : (here : Option (TaskView S I K)) → HasEndedAt here → IsSome here
  ended-open None h = absurd h
  ended-open (Some task) h = refl

  -- none is open there
  pub none-there : (here : Option (TaskView S I K)) (told : Bool) → told ≡ is_some here → told ≡ false → here ≡ None
  none-there None told e f = refl
  none-there (Some task) told e f = let wrong : true ≡ false = sym e ∙ f in absurd cc

  pub is-some : (here : Option (TaskView S I K)) (task : TaskView S I K) → here ≡ Some task → IsSome here
  is-some here task e = subst (λ (t : Option (TaskView S I K)). IsSome t) (sym e) refl

module _ {W S I K : Type 0} (w : world.Ghosts W) (t : sitting.Ghosts S W) (i : from.Ghosts I) (k : to.Ghosts K) (route : Route) where
  -- ---- a poll

  -- a connection that was polled
  pub task-polled : (left : Option ℕ) (most then : ℕ) (old new : TaskView S I K)
      → ((start : Streams) → Stands w route start (streams i k old.input old.output) old.conn old.written old.ended
      → Stands w route start (streams i k new.input new.output) new.conn new.written new.ended)
      → then ≡ most → IsConnOf w t route then new.conn → (Owes old.conn old.ended → Owes new.conn new.ended)
      → (AreMarksOf route.pool then old.conn.marks → AreMarksOf route.pool then new.conn.marks)
      → IsTask w t i k route left most old → IsTask w t i k route left most new
  task-polled left most then old new goes same of owes marks task = record {
    input = task.input;
    output = task.output;
    is_new = task.is_new;
    stands = goes (streams i k task.input task.output) task.stands;
    of = subst (λ (n : ℕ). IsConnOf w t route n new.conn) same of;
    owes = owes task.owes;
    marks = subst (λ (n : ℕ). AreMarksOf route.pool n new.conn.marks) same
        (marks (subst (λ (n : ℕ). AreMarksOf route.pool n old.conn.marks) (sym same) task.marks));
  }

  pub serves-polled : (exact : Bool) → StepsKeepSeats w t → ConnectionsGiveBack S → (here : Option (TaskView S I K)) (old new : TaskView S I K)
      (now : FrontView I K) (outside next : Outside S) → here ≡ Some old → next.door.counts.most ≡ outside.door.counts.most
      → GoesSo w t exact route (record { conn = old.conn; outside = outside }) (record { conn = new.conn; outside = next })
      → ((left : Option ℕ) → IsTask w t i k route left outside.door.counts.most old → IsTask w t i k route left outside.door.counts.most new)
      → ServesOn w t i k route here (Some new) now now outside next
  unfolding ServesOn
  serves-polled exact keeps gives here old new now outside next e most so goes = λ start before places at inside is front.
      polled w t i k exact route keeps gives start before [] places now outside next at old new inside (is ∙ e) most so
      (subst (λ (n : ℕ). IsTask w t i k route start.left n new) front.most
      (goes start.left
      (subst (λ (n : ℕ). IsTask w t i k route start.left n old) (sym front.most)
      (subst (λ p. IsPlace w t i k route start.left before.door.counts.most p) (is ∙ e) (front.tasks at)))))
      front

  -- ---- a connection that is handed back

  pub serves-handed : MarksAreMet S → ConnectionsGiveBack S → (here : Option (TaskView S I K)) (task : TaskView S I K) (came : Served)
      (now then : FrontView I K) (outside next : Outside S) → here ≡ Some task → Some came.end ≡ task.ended → came.marks ≡ task.conn.marks
      → then.served ≡ now.served ++ came ∷ [] → then.left ≡ now.left
      → then.closed ≡ option_map (λ earlier. earlier ++ (task.input, task.output) ∷ []) now.closed
      → then.out ≡ option_map (λ count. count - 1) now.out
      → next.door.counts ≡ outside.door.counts → next.backend.counts ≡ outside.backend.counts
      → next.door.pool ≡ option_map (lost_seats (legs_in task.conn.in_work)) outside.door.pool
      → ServesOn w t i k route here None now then outside next
  unfolding ServesOn
  serves-handed met gives here task came now then outside next e ended marks served left closed out counts moved lost =
      λ start before places at inside is front.
      handed w t i k true route met gives start before places now then outside next at task came inside (is ∙ e) ended marks served left closed out
      counts moved lost front

  -- ---- a connection that is given up

  pub gives-abandoned : ConnectionsGiveBack S → (here : Option (TaskView S I K)) (task : TaskView S I K) (now then : FrontView I K)
      (outside next : Outside S) → here ≡ Some task → then.served ≡ now.served → then.left ≡ now.left
      → then.closed ≡ option_map (λ earlier. earlier ++ (task.input, task.output) ∷ []) now.closed
      → then.out ≡ option_map (λ count. count - 1) now.out
      → next.door.counts ≡ outside.door.counts → next.backend.counts ≡ outside.backend.counts
      → next.door.pool ≡ option_map (lost_seats (legs_in task.conn.in_work)) outside.door.pool
      → GivesUp w t i k route here now then outside next
  unfolding GivesUp
  gives-abandoned gives here task now then outside next e served left closed out counts moved lost =
      λ start before gone places at inside is front.
      abandoned w t i k true route gives start before gone places now then outside next at task inside (is ∙ e) served left closed out
      counts moved lost front

  -- none is open there
  pub gives-nothing : (here : Option (TaskView S I K)) (now : FrontView I K) (outside : Outside S) → here ≡ None
      → GivesUp w t i k route here now now outside outside
  unfolding GivesUp
  gives-nothing here now outside e = λ start before gone places at inside is front.
      let stays : set places at None ≡ places = ap (λ h. set places at h) (sym (is ∙ e)) ∙ set-get_or places at None in record {
        all = gone;
        front = subst (λ ps. IsFront w t i k route start before gone ps now outside) (sym stays) front;
        many = ap (λ ps. length gone + sum_by open_at ps) stays;
      }

  -- ---- a connection that is taken

  pub serves-put : StartsCostless S → (here : Option (TaskView S I K)) (new : TaskView S I K) (now then : FrontView I K) (outside : Outside S)
      → here ≡ None → new.conn ≡ nothing_yet new_session
      → then.served ≡ now.served → then.closed ≡ now.closed → then.out ≡ option_map (λ count. count + 1) now.out
      → EdgeAcceptFits now.left then.left (Connection new.input new.output)
      → IsNewConnection i k now.left (Connection new.input new.output)
      → IsOpen w route (streams i k new.input new.output) (streams i k new.input new.output) new.conn new.written
      → new.ended ≡ None → ((most : ℕ) → IsConnOf w t route most new.conn) → OwesFew new.conn
      → ServesOn w t i k route here (Some new) now then outside outside
  unfolding ServesOn
  serves-put costless here new now then outside e first served closed out fits is_new stands goes_on of owes =
      λ start before places at inside is front.
      put w t i k true route start before [] places now then outside at new inside (is ∙ e) first costless served closed out fits (record {
        input = new.input;
        output = new.output;
        is_new = new-since i k start.left now.left (length front.others + 0 + sum_by open_at places) new.input new.output front.taken is_new;
        stands = subst (λ ended. Stands w route (streams i k new.input new.output) (streams i k new.input new.output) new.conn new.written ended)
            (sym goes_on) stands;
        of = of before.door.counts.most;
        owes = subst (λ ended. Owes new.conn ended) (sym goes_on) owes;
        marks = subst (λ (s : ConnectionState S). AreMarksOf route.pool before.door.counts.most s.marks) (sym first) tt;
      }) front

  -- so by what it was made of
  pub serves-new : StartsCostless S → (new : TaskView S I K) (input : I) (output : K) (now then : FrontView I K) (outside : Outside S)
      → new.conn ≡ nothing_yet new_session → new.input ≡ input → new.output ≡ output
      → then.served ≡ now.served → then.closed ≡ now.closed → then.out ≡ option_map (λ count. count + 1) now.out
      → EdgeAcceptFits now.left then.left (Connection input output)
      → IsNewConnection i k now.left (Connection input output)
      → IsOpen w route (streams i k input output) (streams i k input output) new.conn new.written
      → new.ended ≡ None → ((most : ℕ) → IsConnOf w t route most new.conn) → OwesFew new.conn
      → ServesOn w t i k route None (Some new) now then outside outside
  serves-new costless new input output now then outside first from to served closed out fits is_new stands goes_on of owes =
      serves-put costless None new now then outside refl first served closed out
      (as-made (λ (x : I) (y : K). EdgeAcceptFits now.left then.left (Connection x y)) new.input input new.output output from to fits)
      (as-made (λ (x : I) (y : K). IsNewConnection i k now.left (Connection x y)) new.input input new.output output from to is_new)
      (as-made (λ (x : I) (y : K). IsOpen w route (streams i k x y) (streams i k x y) new.conn new.written)
      new.input input new.output output from to stands)
      goes_on of owes

  -- none came
  pub serves-same : (here : Option (TaskView S I K)) (now then : FrontView I K) (outside : Outside S) → then.served ≡ now.served
      → then.left ≡ now.left → then.closed ≡ now.closed → then.out ≡ now.out → ServesOn w t i k route here here now then outside outside
  unfolding ServesOn
  serves-same here now then outside served left closed out = λ start before places at inside is front.
      subst (λ v. IsFront w t i k route start before [] (set places at here) v outside) (sym (view-same now then served left closed out))
      (subst (λ ps. IsFront w t i k route start before [] ps now outside)
      (sym (ap (λ h. set places at h) (sym is) ∙ set-get_or places at None)) front)
