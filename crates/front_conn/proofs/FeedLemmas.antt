-- What a connection's state is of: where nothing has come, a piece more, the end of the input; where output was written.
use Rattle.std.proofs.Common.{◌≡◌, ℕ, Bool, true, false, List, [], ◌∷◌, ◌++◌, Option, Some, None, refl, sym, ap, ◌∙◌, subst, append_assoc, append-nil}
use Rattle.z_types.specs.declared.marks.End.{End}
use Rattle.z_types.specs.declared.sitting.Sitting as sitting
use Rattle.z_types.specs.declared.world.World as world
use Rattle.route_config.specs.declared.route.Route.{Route}
use Rattle.front_http.specs.sru_rules.Answers.{Answers}
use Rattle.front_http.specs.front_sru.declared.state.SruStage.{SruStage}
use Rattle.front_http.specs.front_sru.declared.state.SruStage.TheVariants.{Idle, Searching, Fetching}
use Rattle.front_http.specs.Laws.{GetsStand}
use Rattle.front_z.specs.gateway_rules.Answers as kind
use Rattle.front_z.specs.gateway_rules.Answers.{kind_of}
use Rattle.front_z.specs.gateway_rules.Course.{Received, octets_of}
use Rattle.front_z.specs.gateway_rules.Session as session
use Rattle.front_z.specs.gateway_rules.Session.{stopped}
use Rattle.front_z.specs.gateway_rules.State.{new_client, at_the_start}
use Rattle.front_z.specs.front_session.Sessions.{SessionState}
use Rattle.package.specs.steps.Packages.{PackageView}
use Rattle.front_conn.specs.steps.Feeding.{EndsAnswered, StandsAtStart, StandsWhenEnded, StandsWhenFed, StandsWhenWritten, StaysOfRoute, fed_piece, with_end, without_out}
use Rattle.front_conn.specs.steps.States.{BeginsWithUnits, ConnectionState, HasAnswered, HasEnded, IsConnOf, IsStateOf, MayCome, Rests, StandsOrEnded, Works, WorksAt, WorksOnGet}
use Rattle.front_conn.proofs.StateLemmas.{kind-more}

-- ---- the start

pub stands-at-start : {W S : Type 0} (w : world.Ghosts W) (t : sitting.Ghosts S W) → StandsAtStart w t
stands-at-start w t route = record {
  units = [];
  spelled = refl;
  kind = tt;
  offset = refl;
  answered = record {
    causes = [];
    of_marks = refl;
    got = stopped [] [] new_client (session.standing at_the_start);
    has_run = record { each = tt; runs = refl; allowed = tt; none_left = refl };
    replies = refl;
    client = refl;
    standing = refl;
    sets = record { none_before = λ h. refl; each = tt };
  };
  waits_not = refl;
}

-- ---- a piece more

begins-more : (units : List Received) (fed piece : List ℕ) → BeginsWithUnits units fed → BeginsWithUnits units (fed ++ piece)
begins-more [] fed piece h = tt
begins-more (unit ∷ units) fed piece h = kind-more fed piece h

letter-more : (fed piece : List ℕ) → kind_of fed ≡ kind.letter → kind_of (fed ++ piece) ≡ kind.letter
letter-more [] piece h = absurd cc
letter-more (octet ∷ octets) piece h = h

-- before the end of the input anything may come
may-come : (has_ended : Bool) (more : List ℕ) → has_ended ≡ false → MayCome has_ended more
may-come true more h = absurd cc
may-come false more h = tt

nothing-may : (has_ended : Bool) (more : List ℕ) → more ≡ [] → MayCome has_ended more
nothing-may true more h = h
nothing-may false more h = tt

module _ {W S : Type 0} (w : world.Ghosts W) (route : Route) (fed written : List ℕ) (state : ConnectionState S) where
  -- where no request is in work
  rests-fed : (piece : List ℕ) → Rests w route fed written state
      → Rests w route (fed ++ piece) written (record state { left = state.left ++ piece })
  rests-fed piece r = record {
    units = r.units;
    spelled = ap (λ o. o ++ piece) r.spelled ∙ append_assoc (octets_of r.units) state.left piece;
    kind = begins-more r.units fed piece r.kind;
    offset = r.offset;
    answered = r.answered;
    waits_not = r.waits_not;
  }

  -- where one is
  works-fed : (piece : List ℕ) (view : PackageView S) → Works w route fed written state view
      → Works w route (fed ++ piece) written (record state { left = state.left ++ piece }) view
  works-fed piece view k = record {
    units = k.units;
    unit = k.unit;
    received = k.received;
    spelled = ap (λ o. o ++ piece) k.spelled ∙ append_assoc (octets_of (k.units ++ k.unit ∷ [])) state.left piece;
    kind = kind-more fed piece k.kind;
    offset = k.offset;
    before = k.before;
    answered = k.answered;
    request = k.request;
    is_due = k.is_due;
    asks = k.asks;
    waits = k.waits;
  }

  get-fed : GetsStand w → (piece : List ℕ) (view : PackageView S) → WorksOnGet w route fed written state view
      → WorksOnGet w route (fed ++ piece) written (record state { left = state.left ++ piece }) view
  get-fed law piece view k = record {
    kind = letter-more fed piece k.kind;
    stands = law route fed piece state.stage k.stands;
    of_work = k.of_work;
    no_marks = k.no_marks;
    unwritten = k.unwritten;
  }

  works_at-fed : GetsStand w → (piece : List ℕ) (view : PackageView S) (stage : SruStage) → WorksAt w route fed written state stage view
      → WorksAt w route (fed ++ piece) written (record state { left = state.left ++ piece }) stage view
  works_at-fed law piece view Idle k = works-fed piece view k
  works_at-fed law piece view (Searching retrieval) k = get-fed law piece view k
  works_at-fed law piece view (Fetching retrieval hits) k = get-fed law piece view k

  -- where it has ended
  ended-fed : (piece : List ℕ) (end : End) → state.has_ended ≡ false → HasEnded w route fed written state end
      → HasEnded w route (fed ++ piece) written state end
  ended-fed piece end goes h = λ more may.
      subst (λ (o : List ℕ). Answers w route o state.marks (written ++ state.out) end) (sym (append_assoc fed piece more))
      (h (piece ++ more) (may-come state.has_ended (piece ++ more) goes))

  by-end-fed : GetsStand w → (piece : List ℕ) (end : Option End) (works : Option (PackageView S)) → state.has_ended ≡ false → state.end ≡ end
      → state.in_work ≡ works → StandsOrEnded w route fed written state end works
      → IsStateOf w route (fed ++ piece) written (fed_piece end state piece)
  by-end-fed law piece None None goes e i h =
      let new : ConnectionState S = record state { left = state.left ++ piece } in
      subst (λ (x : Option End). StandsOrEnded w route (fed ++ piece) written new x state.in_work) (sym e)
      (subst (λ (x : Option (PackageView S)). StandsOrEnded w route (fed ++ piece) written new None x) (sym i) (rests-fed piece h))
  by-end-fed law piece None (Some view) goes e i h =
      let new : ConnectionState S = record state { left = state.left ++ piece } in
      subst (λ (x : Option End). StandsOrEnded w route (fed ++ piece) written new x state.in_work) (sym e)
      (subst (λ (x : Option (PackageView S)). StandsOrEnded w route (fed ++ piece) written new None x) (sym i) (works_at-fed law piece view state.stage h))
  by-end-fed law piece (Some end) works goes e i h =
      subst (λ (x : Option End). StandsOrEnded w route (fed ++ piece) written state x state.in_work) (sym e)
      (ended-fed piece end goes h)

  -- ---- the end of the input

  works-ended : (view : PackageView S) → Works w route fed written state view → Works w route fed written (with_end state) view
  works-ended view k = record {
    units = k.units;
    unit = k.unit;
    received = k.received;
    spelled = k.spelled;
    kind = k.kind;
    offset = k.offset;
    before = k.before;
    answered = k.answered;
    request = k.request;
    is_due = k.is_due;
    asks = k.asks;
    waits = k.waits;
  }

  get-ended : (view : PackageView S) → WorksOnGet w route fed written state view → WorksOnGet w route fed written (with_end state) view
  get-ended view k = record { kind = k.kind; stands = k.stands; of_work = k.of_work; no_marks = k.no_marks; unwritten = k.unwritten }

  works_at-ended : (view : PackageView S) (stage : SruStage) → WorksAt w route fed written state stage view
      → WorksAt w route fed written (with_end state) stage view
  works_at-ended view Idle k = works-ended view k
  works_at-ended view (Searching retrieval) k = get-ended view k
  works_at-ended view (Fetching retrieval hits) k = get-ended view k

  by-end-ended : (end : Option End) (works : Option (PackageView S)) → StandsOrEnded w route fed written state end works
      → StandsOrEnded w route fed written (with_end state) end works
  by-end-ended None None r = record {
    units = r.units;
    spelled = r.spelled;
    kind = r.kind;
    offset = r.offset;
    answered = r.answered;
    waits_not = r.waits_not;
  }
  by-end-ended None (Some view) k = works_at-ended view state.stage k
  by-end-ended (Some end) works h = λ more may. h more (nothing-may state.has_ended more may)

  -- ---- what was written

  -- as if it had been written before
  abbrev all_written : List ℕ
  all_written = written ++ state.out

  answered-written : (units : List Received) (session : SessionState) → HasAnswered w route units state.marks all_written session
      → HasAnswered w route units state.marks (all_written ++ []) session
  answered-written units session a =
      subst (λ (o : List ℕ). HasAnswered w route units state.marks o session) (sym (append-nil all_written)) a

  works-written : (view : PackageView S) → Works w route fed written state view → Works w route fed all_written (without_out state) view
  works-written view k = record {
    units = k.units;
    unit = k.unit;
    received = k.received;
    spelled = k.spelled;
    kind = k.kind;
    offset = k.offset;
    before = k.before;
    answered = answered-written k.units k.before k.answered;
    request = k.request;
    is_due = k.is_due;
    asks = k.asks;
    waits = k.waits;
  }

  get-written : (view : PackageView S) → WorksOnGet w route fed written state view → WorksOnGet w route fed all_written (without_out state) view
  get-written view k = record {
    kind = k.kind;
    stands = k.stands;
    of_work = k.of_work;
    no_marks = k.no_marks;
    unwritten = append-nil all_written ∙ k.unwritten;
  }

  works_at-written : (view : PackageView S) (stage : SruStage) → WorksAt w route fed written state stage view
      → WorksAt w route fed all_written (without_out state) stage view
  works_at-written view Idle k = works-written view k
  works_at-written view (Searching retrieval) k = get-written view k
  works_at-written view (Fetching retrieval hits) k = get-written view k

  by-end-written : (end : Option End) (works : Option (PackageView S)) → StandsOrEnded w route fed written state end works
      → StandsOrEnded w route fed all_written (without_out state) end works
  by-end-written None None r = record {
    units = r.units;
    spelled = r.spelled;
    kind = r.kind;
    offset = r.offset;
    answered = answered-written r.units state.session r.answered;
    waits_not = r.waits_not;
  }
  by-end-written None (Some view) k = works_at-written view state.stage k
  by-end-written (Some end) works h = λ more may.
      subst (λ (o : List ℕ). Answers w route (fed ++ more) state.marks o end) (sym (append-nil all_written)) (h more may)

pub stands-when-fed : {W S : Type 0} (w : world.Ghosts W) (t : sitting.Ghosts S W) → GetsStand w → StandsWhenFed w t
stands-when-fed w t law route fed written piece state goes h =
    by-end-fed w route fed written state law piece state.end state.in_work goes refl refl h

pub stands-when-ended : {W S : Type 0} (w : world.Ghosts W) (t : sitting.Ghosts S W) → StandsWhenEnded w t
stands-when-ended w t route fed written state h = by-end-ended w route fed written state state.end state.in_work h

pub stands-when-written : {W S : Type 0} (w : world.Ghosts W) (t : sitting.Ghosts S W) → StandsWhenWritten w t
stands-when-written w t route fed written state h = by-end-written w route fed written state state.end state.in_work h

-- ---- of one route

of-piece : {W S : Type 0} (w : world.Ghosts W) (t : sitting.Ghosts S W) (route : Route) (most : ℕ) (state : ConnectionState S)
    (piece : List ℕ) (end : Option End) → IsConnOf w t route most state → IsConnOf w t route most (fed_piece end state piece)
of-piece w t route most state piece None h = h
of-piece w t route most state piece (Some end) h = h

pub stays-of-route : {W S : Type 0} (w : world.Ghosts W) (t : sitting.Ghosts S W) → StaysOfRoute w t
stays-of-route w t route most state h = record {
  fed = λ piece. of-piece w t route most state piece state.end h;
  ended = h;
  written = h;
}

-- ---- the answers

pub ends-answered : {W S : Type 0} (w : world.Ghosts W) (t : sitting.Ghosts S W) → EndsAnswered w t
ends-answered w t route fed written state end h e ended =
    let whole : HasEnded w route fed written state end =
    subst (λ (x : Option End). StandsOrEnded w route fed written state x state.in_work) e h in
    let may : MayCome state.has_ended [] = subst (λ (b : Bool). MayCome b []) (sym ended) refl in
    subst (λ (o : List ℕ). Answers w route o state.marks (written ++ state.out) end) (append-nil fed) (whole [] may)
