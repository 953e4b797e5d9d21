-- A unit that was begun is answered at once, or its request is in work.
use Rattle.std.proofs.Common.{◌≡◌, ℕ, ◌+◌, List, [], ◌∷◌, ◌++◌, length, Option, Some, None, refl, sym, ap, ◌∙◌, subst}
use Rattle.std.specs.Prelude.{option_to_list}
use Rattle.std.specs.List.{AllByRecursion}
use Rattle.z_types.specs.declared.marks.End.{End}
use Rattle.z_types.specs.declared.marks.End.TheVariants.{Closed, Malformed, Limited}
use Rattle.z_types.specs.declared.marks.Mark.{Mark}
use Rattle.z_types.specs.declared.marks.Mark.TheVariants.{Plain}
use Rattle.z_types.specs.declared.requests.Request.{Request}
use Rattle.z_types.specs.declared.requests.Request.TheVariants as request
use Rattle.z_types.specs.declared.work.Work.{Work}
use Rattle.z_types.specs.declared.world.World as world
use Rattle.z_types.specs.Bounds.{within64}
use Rattle.z_ber.specs.Frames.{IsFrame}
use Rattle.route_config.specs.declared.route.Route.{Route}
use Rattle.unit_forms.specs.Replies.{spell_reply}
use Rattle.front_z.specs.gateway_rules.Answers as kind
use Rattle.front_z.specs.gateway_rules.Answers.{kind_of, IsReceived}
use Rattle.front_z.specs.gateway_rules.Asking as asking
use Rattle.front_z.specs.gateway_rules.Asking.{Asking, asked, asked_with}
use Rattle.front_z.specs.gateway_rules.Course as course
use Rattle.front_z.specs.gateway_rules.Course.{Meeting, Received, met, octets_of}
use Rattle.front_z.specs.gateway_rules.Marks.{Taken, plain}
use Rattle.front_z.specs.gateway_rules.Replies.{bad_unit_reply, close_reply, limit_reply}
use Rattle.front_z.specs.gateway_rules.Session as session
use Rattle.front_z.specs.gateway_rules.Session.{Run, answer_to, in_front, reached, stopped}
use Rattle.front_z.specs.gateway_rules.Settling.{Settled}
use Rattle.front_z.specs.gateway_rules.Statuses.{finished}
use Rattle.front_z.specs.front_session.Admitting.{counted, hits_named}
use Rattle.front_z.specs.front_session.Sessions.{SessionState, client_of, progress_of}
use Rattle.front_z.specs.Units.{IsBegun, IsDueBegun, IsMetBegun, Served}
use Rattle.front_z.specs.declared.units.Begun.{Begun}
use Rattle.front_z.specs.declared.units.Begun.TheVariants as begun
use Rattle.package.specs.steps.Packages.{new_package}
use Rattle.front_conn.specs.steps.Answering.{AnsweringState, EndsByUnit, IsAnsweredUnder, IsKeptBehind, IsUnitBegun, served}
use Rattle.front_conn.specs.steps.States.{ConnectionState, HasAnswered, HasLegsOf, HaveMeantHits, IsStateOf, Rests, Works}
use Rattle.front_conn.specs.steps.Steps.{KeepsState, answering_of}
use Rattle.front_conn.proofs.SetLemmas.{asked_with-meant, counted-meant}
use Rattle.front_conn.proofs.StateLemmas.{answered-more, begins-snoc, kind-fed, met-at, met-placed, of-ended, of-standing, offset-more, over-ended, rests-of, spelled-snoc, stand_of, unit-run, works-idle}

-- a unit was taken and begun
pub record TookUnit {S : Type 0} (route : Route) (old new : ConnectionState S) (unit : List ℕ) : Type 0 where
  pub goes : old.end ≡ None
  pub rests : old.in_work ≡ None
  pub frame : IsFrame unit
  pub taken : old.left ≡ unit ++ new.left
  pub first : old.at ≡ 0 → kind_of old.left ≡ kind.unit
  pub place : new.at ≡ within64 (old.at + length unit)
  pub begun : IsUnitBegun route old.at unit (answering_of old) (answering_of new) new.end

-- its session, and what was written
abbrev pub served_of : {S : Type 0} → ConnectionState S → Served
served_of state = record { session = state.session; out = state.out }

-- ---- a request that is answered at once

-- under the mark Plain
at-once-plain : {W : Type 0} (w : world.Ghosts W) (route : Route) (asks : Request) (old new : Served) (reply : _)
    → asking.at_once reply ≡ asked w route (client_of old.session) asks → old.session.waiting ≡ None
    → HaveMeantHits w route (counted route old.session asks) → new.out ≡ old.out ++ spell_reply reply
    → new.session ≡ counted route old.session asks → IsAnsweredUnder w route asks plain old new
at-once-plain w route asks old new reply e waits_not sets out session =
    let to : Asking → Settled = λ due. answer_to w route (client_of old.session) asks plain due in
    record {
      written = out ∙ ap (λ (d : Asking). old.out ++ spell_reply (to d).reply) e;
      client = ap client_of session ∙ ap (λ (d : Asking). (to d).client) e;
      accepted = ap (λ s. s.accepted) session;
      units = ap (λ s. s.units) session;
      waits_not = ap (λ s. s.waiting) session ∙ waits_not;
      sets = subst (HaveMeantHits w route) (sym session) sets;
    }

-- what was begun of a unit that is met so, with the unit
module _ {W S : Type 0} (w : world.Ghosts W) (route : Route) (fed written : List ℕ) (old new : ConnectionState S) (unit : Received)
    (t : TookUnit route old new unit.octets) (rb : Rests w route fed written old) (received : IsReceived unit) where
  -- the connection begins with a unit
  of_units : kind_of fed ≡ kind.unit
  of_units = kind-fed rb.units fed old.left old.at rb.spelled rb.offset rb.kind t.first

  -- it is over
  over : (meeting : Meeting) (end : End) (reply : _) → met route (stand_of rb.units old.session) unit.request ≡ meeting
      → new.out ≡ old.out ++ spell_reply reply → new.marks ≡ old.marks ++ [] → new.end ≡ Some end
      → course.leads_to meeting (stand_of rb.units old.session).at (course.stands (course.after route (stand_of rb.units old.session) unit))
      ≡ course.ends (Some reply) end
      → IsStateOf w route fed written new
  over meeting end reply is out marks ended leads =
      let client = rb.answered.got.client in
      let last : Run = stopped (reply ∷ []) [] client (session.over end) in
      let runs = unit-run w route (stand_of rb.units old.session) client unit meeting [] last received is
      (ap (λ c. session.run w route client c []) leads) tt refl in
      of-ended w route fed written new end ended
      (over-ended w route fed written old new unit [] reply last end rb t.first t.taken runs refl refl out marks)

  -- a Close is answered, and closes it
  closed : (close : _) → met route (stand_of rb.units old.session) unit.request ≡ course.closing close
      → new.out ≡ old.out ++ spell_reply (close_reply close.ref_id finished) → new.marks ≡ old.marks ++ Plain ∷ []
      → new.end ≡ Some Closed → IsStateOf w route fed written new
  closed close is out marks ended =
      let client = rb.answered.got.client in
      let reply = close_reply close.ref_id finished in
      let cause : Taken = record { classes = reached w route client (request.Close close); cause = plain } in
      let last : Run = in_front (reply ∷ []) (cause ∷ []) (stopped [] [] client (session.over Closed)) in
      let runs = unit-run w route (stand_of rb.units old.session) client unit (course.closing close) (plain ∷ []) last received is refl (tt, tt) refl in
      of-ended w route fed written new Closed ended
      (over-ended w route fed written old new unit (plain ∷ []) reply last Closed rb t.first t.taken runs refl refl out marks)

  -- a request is answered at once
  answered-once : (asks : Request) → met route (stand_of rb.units old.session) unit.request ≡ course.due asks
      → IsAnsweredUnder w route asks plain (served_of old) (served_of new) → new.marks ≡ old.marks ++ Plain ∷ []
      → Rests w route fed written new
  answered-once asks is a marks =
      let more = answered-more w route rb.units unit old.marks written (served_of old) (served_of new) asks plain rb.answered received is tt a in
      record {
        units = rb.units ++ unit ∷ [];
        spelled = spelled-snoc rb.units unit fed old.left new.left rb.spelled t.taken;
        kind = begins-snoc rb.units unit fed of_units;
        offset = offset-more rb.units unit old.at new.at rb.offset t.place;
        answered = subst (λ (m : List Mark). HasAnswered w route (rb.units ++ unit ∷ []) m (written ++ new.out) new.session) (sym marks) more;
        waits_not = a.waits_not;
      }

  -- or is in work
  in-work : (asks : Request) (job : Work) → met route (stand_of rb.units old.session) unit.request ≡ course.due asks
      → asked w route (client_of old.session) asks ≡ asking.works job → new.out ≡ old.out → new.marks ≡ old.marks
      → new.session ≡ record (counted route old.session asks) { waiting = Some (record { request = asks; work = job }) }
      → Works w route fed written new (new_package route job)
  in-work asks job is due out marks session =
      let by_out = subst (λ (o : List ℕ). HasAnswered w route rb.units old.marks (written ++ o) old.session) (sym out) rb.answered in
      record {
        units = rb.units;
        unit = unit;
        received = received;
        spelled = spelled-snoc rb.units unit fed old.left new.left rb.spelled t.taken;
        kind = of_units;
        offset = offset-more rb.units unit old.at new.at rb.offset t.place;
        before = old.session;
        answered = subst (λ (m : List Mark). HasAnswered w route rb.units m (written ++ new.out) old.session) (sym marks) by_out;
        request = asks;
        is_due = is;
        asks = due;
        waits = session;
      }

  -- ---- by what was begun

  due-written : (asks : Request) (due : Asking) (mark : Option Mark) (end : Option End)
      → met route (stand_of rb.units old.session) unit.request ≡ course.due asks → due ≡ asked w route (client_of old.session) asks
      → IsDueBegun route due asks (served_of old) (served_of new) (begun.Write mark end)
      → IsKeptBehind route (answering_of old) (answering_of new) new.end (begun.Write mark end) → IsStateOf w route fed written new
  due-written asks (asking.works job) mark end is e h kept = let wrong = h.0 in absurd cc
  due-written asks (asking.at_once reply) mark end is e h kept =
      let of_mark : mark ≡ Some Plain = let b = h.0 in cc in
      let of_end : end ≡ None = let b = h.0 in cc in
      let here = stand_of rb.units old.session in
      let sets = counted-meant w route here.at old.session asks (met-placed route here unit.request asks is) rb.answered.sets in
      let a = at-once-plain w route asks (served_of old) (served_of new) reply e rb.waits_not sets h.1.0 h.1.1 in
      of-standing w route fed written new None (kept.0 ∙ of_end) kept.2
      (answered-once asks is a (kept.1 ∙ ap (λ m. old.marks ++ option_to_list m) of_mark))

  met-written : (meeting : Meeting) (mark : Option Mark) (end : Option End)
      → met route (stand_of rb.units old.session) unit.request ≡ meeting
      → IsMetBegun meeting route old.at unit.request (served_of old) (served_of new) (begun.Write mark end)
      → IsKeptBehind route (answering_of old) (answering_of new) new.end (begun.Write mark end) → IsStateOf w route fed written new
  met-written course.bad mark end is h kept =
      let of_mark : mark ≡ None = let b = h.0 in cc in
      let of_end : end ≡ Some (Malformed old.at) = let b = h.0 in cc in
      over course.bad (Malformed old.at) bad_unit_reply is h.1.0 (kept.1 ∙ ap (λ m. old.marks ++ option_to_list m) of_mark)
      (kept.0 ∙ of_end) (ap (λ a. course.ends (Some bad_unit_reply) (Malformed a)) (sym rb.offset))
  met-written (course.beyond asks) mark end is h kept =
      let of_mark : mark ≡ None = let b = h.0 in cc in
      let of_end : end ≡ Some Limited = let b = h.0 in cc in
      over (course.beyond asks) Limited (limit_reply asks) is h.1.0 (kept.1 ∙ ap (λ m. old.marks ++ option_to_list m) of_mark)
      (kept.0 ∙ of_end) refl
  met-written (course.closing close) mark end is h kept =
      let of_mark : mark ≡ Some Plain = let b = h.0 in cc in
      let of_end : end ≡ Some Closed = let b = h.0 in cc in
      closed close is h.1 (kept.1 ∙ ap (λ m. old.marks ++ option_to_list m) of_mark) (kept.0 ∙ of_end)
  met-written (course.due asks) mark end is h kept =
      due-written asks (asked_with (hits_named old.session.sets) route (client_of old.session) asks) mark end is
      (asked_with-meant w route old.session asks rb.answered.sets) h kept

  due-works : (asks : Request) (due : Asking) (job : Work) → met route (stand_of rb.units old.session) unit.request ≡ course.due asks
      → due ≡ asked w route (client_of old.session) asks → IsDueBegun route due asks (served_of old) (served_of new) (begun.Work job)
      → IsKeptBehind route (answering_of old) (answering_of new) new.end (begun.Work job) → IsStateOf w route fed written new
  due-works asks (asking.at_once reply) job is e h kept = let wrong = h.0 in absurd cc
  due-works asks (asking.works other) job is e h kept =
      let same : other ≡ job = let b = h.0 in cc in
      works-idle w route fed written new (new_package route job) kept.0 kept.2 t.begun.idle
      (in-work asks job is (sym e ∙ ap asking.works same) h.3 kept.1
      (h.4 ∙ ap (λ j. record (counted route old.session asks) { waiting = Some (record { request = asks; work = j }) }) same))

  met-works : (meeting : Meeting) (job : Work) → met route (stand_of rb.units old.session) unit.request ≡ meeting
      → IsMetBegun meeting route old.at unit.request (served_of old) (served_of new) (begun.Work job)
      → IsKeptBehind route (answering_of old) (answering_of new) new.end (begun.Work job) → IsStateOf w route fed written new
  met-works course.bad job is h kept = let wrong = h.0 in absurd cc
  met-works (course.beyond asks) job is h kept = let wrong = h.0 in absurd cc
  met-works (course.closing close) job is h kept = let wrong = h.0 in absurd cc
  met-works (course.due asks) job is h kept =
      due-works asks (asked_with (hits_named old.session.sets) route (client_of old.session) asks) job is
      (asked_with-meant w route old.session asks rb.answered.sets) h kept

-- ---- any unit

begun-stands : {W S : Type 0} (w : world.Ghosts W) (route : Route) (fed written : List ℕ) (old new : ConnectionState S) (octets : List ℕ)
    (t : TookUnit route old new octets) (rb : Rests w route fed written old) (answer : Begun)
    → IsBegun route old.at octets (served_of old) (served_of new) answer
    → IsKeptBehind route (answering_of old) (answering_of new) new.end answer → IsStateOf w route fed written new
begun-stands w route fed written old new octets t rb begun.Memory h kept = absurd kept
begun-stands w route fed written old new octets t rb (begun.Write mark end) h kept =
    let unit : Received = record { octets = octets; request = h.read } in
    let meeting : Meeting = met route (progress_of old.at old.session) h.read in
    met-written w route fed written old new unit t rb (t.frame, h.reading) meeting mark end
    (met-at route (length (octets_of rb.units)) old.at old.session h.read) h.begun kept
begun-stands w route fed written old new octets t rb (begun.Work job) h kept =
    let unit : Received = record { octets = octets; request = h.read } in
    let meeting : Meeting = met route (progress_of old.at old.session) h.read in
    met-works w route fed written old new unit t rb (t.frame, h.reading) meeting job
    (met-at route (length (octets_of rb.units)) old.at old.session h.read) h.begun kept

-- a connection that takes a unit stands behind it, or has ended by it
pub unit-keeps : {W S : Type 0} (w : world.Ghosts W) (route : Route) (old new : ConnectionState S) (unit : List ℕ)
    → TookUnit route old new unit → KeepsState w route old new
unit-keeps w route old new unit t = λ fair fed written h.
    begun-stands w route fed written old new unit t (rests-of w route fed written old t.goes t.rests h) t.begun.answer t.begun.begun t.begun.kept

-- ---- how the connection ends by it, if it does

ended-due : (route : Route) (asks : Request) (due : Asking) (old new : Served) (mark : Option Mark) (end : Option End)
    → IsDueBegun route due asks old new (begun.Write mark end) → EndsByUnit end
ended-due route asks (asking.at_once reply) old new mark end h =
    let of_end : end ≡ None = let b = h.0 in cc in rw of_end tt
ended-due route asks (asking.works job) old new mark end h = let wrong = h.0 in absurd cc

ended-met : (meeting : Meeting) (route : Route) (at : ℕ) (read : Option Request) (old new : Served) (mark : Option Mark)
    (end : Option End) → IsMetBegun meeting route at read old new (begun.Write mark end) → EndsByUnit end
ended-met course.bad route at read old new mark end h = let of_end : end ≡ Some (Malformed at) = let b = h.0 in cc in rw of_end tt
ended-met (course.beyond asks) route at read old new mark end h = let of_end : end ≡ Some Limited = let b = h.0 in cc in rw of_end tt
ended-met (course.closing close) route at read old new mark end h = let of_end : end ≡ Some Closed = let b = h.0 in cc in rw of_end tt
ended-met (course.due asks) route at read old new mark end h =
    ended-due route asks (asked_with (hits_named old.session.sets) route (client_of old.session) asks) old new mark end h

ended-by : {S : Type 0} (route : Route) (at : ℕ) (unit : List ℕ) (old new : AnsweringState S) (end : Option End) (answer : Begun)
    → IsBegun route at unit (served old) (served new) answer → IsKeptBehind route old new end answer → EndsByUnit end
ended-by route at unit old new end begun.Memory h kept = absurd kept
ended-by route at unit old new end (begun.Write mark ended) h kept =
    subst EndsByUnit (sym kept.0)
    (ended-met (met route (progress_of at old.session) h.read) route at h.read (served old) (served new) mark ended h.begun)
ended-by route at unit old new end (begun.Work job) h kept = subst EndsByUnit (sym kept.0) tt

pub begun-ends : {S : Type 0} (route : Route) (at : ℕ) (unit : List ℕ) (old new : AnsweringState S) (end : Option End)
    → IsUnitBegun route at unit old new end → EndsByUnit end
begun-ends route at unit old new end b = ended-by route at unit old new end b.answer b.begun b.kept

-- ---- its sets

sets-due : (route : Route) (asks : Request) (due : Asking) (old new : Served) (mark : Option Mark) (end : Option End)
    → AllByRecursion (HasLegsOf route) old.session.sets → IsDueBegun route due asks old new (begun.Write mark end)
    → AllByRecursion (HasLegsOf route) new.session.sets
sets-due route asks (asking.at_once reply) old new mark end sets h =
    subst (λ (s : SessionState). AllByRecursion (HasLegsOf route) s.sets) (sym h.1.1) sets
sets-due route asks (asking.works job) old new mark end sets h = let wrong = h.0 in absurd cc

sets-met : (meeting : Meeting) (route : Route) (at : ℕ) (read : Option Request) (old new : Served) (mark : Option Mark)
    (end : Option End) → AllByRecursion (HasLegsOf route) old.session.sets → end ≡ None
    → IsMetBegun meeting route at read old new (begun.Write mark end) → AllByRecursion (HasLegsOf route) new.session.sets
sets-met course.bad route at read old new mark end sets goes h = let wrong = h.0 in absurd cc
sets-met (course.beyond asks) route at read old new mark end sets goes h = let wrong = h.0 in absurd cc
sets-met (course.closing close) route at read old new mark end sets goes h = let wrong = h.0 in absurd cc
sets-met (course.due asks) route at read old new mark end sets goes h =
    sets-due route asks (asked_with (hits_named old.session.sets) route (client_of old.session) asks) old new mark end sets h

works-sets : (route : Route) (asks : Request) (due : Asking) (old new : Served) (job : Work)
    → AllByRecursion (HasLegsOf route) old.session.sets → IsDueBegun route due asks old new (begun.Work job)
    → AllByRecursion (HasLegsOf route) new.session.sets
works-sets route asks (asking.at_once reply) old new job sets h = let wrong = h.0 in absurd cc
works-sets route asks (asking.works other) old new job sets h =
    subst (λ (s : SessionState). AllByRecursion (HasLegsOf route) s.sets) (sym h.4) sets

works-met : (meeting : Meeting) (route : Route) (at : ℕ) (read : Option Request) (old new : Served) (job : Work)
    → AllByRecursion (HasLegsOf route) old.session.sets → IsMetBegun meeting route at read old new (begun.Work job)
    → AllByRecursion (HasLegsOf route) new.session.sets
works-met course.bad route at read old new job sets h = let wrong = h.0 in absurd cc
works-met (course.beyond asks) route at read old new job sets h = let wrong = h.0 in absurd cc
works-met (course.closing close) route at read old new job sets h = let wrong = h.0 in absurd cc
works-met (course.due asks) route at read old new job sets h =
    works-sets route asks (asked_with (hits_named old.session.sets) route (client_of old.session) asks) old new job sets h

begun-sets : {S : Type 0} (route : Route) (at : ℕ) (unit : List ℕ) (old new : AnsweringState S) (end : Option End) (answer : Begun)
    → AllByRecursion (HasLegsOf route) old.session.sets → end ≡ None → IsBegun route at unit (served old) (served new) answer
    → IsKeptBehind route old new end answer → AllByRecursion (HasLegsOf route) new.session.sets
begun-sets route at unit old new end begun.Memory sets goes h kept = absurd kept
begun-sets route at unit old new end (begun.Write mark ended) sets goes h kept =
    sets-met (met route (progress_of at old.session) h.read) route at h.read (served old) (served new) mark ended sets
    (sym kept.0 ∙ goes) h.begun
begun-sets route at unit old new end (begun.Work job) sets goes h kept =
    works-met (met route (progress_of at old.session) h.read) route at h.read (served old) (served new) job sets h.begun

-- the sets of a connection that goes on behind a unit are of the route
pub unit-sets : {S : Type 0} (route : Route) (at : ℕ) (unit : List ℕ) (old new : AnsweringState S) (end : Option End)
    → AllByRecursion (HasLegsOf route) old.session.sets → IsUnitBegun route at unit old new end → end ≡ None
    → AllByRecursion (HasLegsOf route) new.session.sets
unit-sets route at unit old new end sets b goes = begun-sets route at unit old new end b.answer sets goes b.begun b.kept
