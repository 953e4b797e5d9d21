-- A unit that a connection takes begins what its request asks of the targets, if anything.
use Rattle.std.proofs.Common.{◌≡◌, ◌≢◌, ◌<◌, ℕ, List, [], ◌∷◌, ◌++◌, length, Option, Some, None, refl, sym, ap, ◌∙◌, subst, append_assoc, append-nil, length-append, arith}
use Rattle.std.proofs.lemmas.List.{map-append}
use Rattle.std.specs.Prelude.{option_to_list}
use Rattle.std.specs.List.{AllByRecursion}
use Rattle.z_ber.specs.Frames.{IsFrame}
use Rattle.z_types.specs.declared.marks.End.{End}
use Rattle.z_types.specs.declared.marks.End.TheVariants.{Closed, Malformed, Limited}
use Rattle.z_types.specs.declared.marks.Mark.{Mark}
use Rattle.z_types.specs.declared.marks.Mark.TheVariants.{Plain}
use Rattle.z_types.specs.declared.requests.Request.{Request}
use Rattle.z_types.specs.declared.work.Work.{Work}
use Rattle.z_types.specs.declared.world.World as world
use Rattle.route_config.specs.declared.route.Route.{Route}
use Rattle.front_conn.specs.gateway_rules.Answers as kind
use Rattle.front_conn.specs.gateway_rules.Answers.{IsConnection, IsCourseOf, IsReceived, Kind, kind_of}
use Rattle.front_conn.specs.gateway_rules.Asking as asking
use Rattle.front_conn.specs.gateway_rules.Asking.{Asking, asked_with}
use Rattle.front_conn.specs.gateway_rules.Course as at
use Rattle.front_conn.specs.gateway_rules.Course.{Course, Meeting, Received, after, course, leads_to, met, octets_of, stands_at}
use Rattle.front_conn.specs.gateway_rules.Marks.{Cause, plain}
use Rattle.front_conn.specs.gateway_rules.Runs.{marks_of}
use Rattle.front_conn.specs.gateway_rules.Session as session
use Rattle.front_conn.specs.gateway_rules.Session.{Run, run}
use Rattle.front_conn.specs.gateway_rules.State.{ClientState, Progress, at_the_start, new_client}
use Rattle.front_conn.proofs.gateway_rules.Composition.{course-append}
use Rattle.front_conn.proofs.gateway_rules.Runs.{all-append}
use Rattle.front_conn.specs.front_session.Admitting.{hits_named}
use Rattle.front_conn.specs.front_session.Sessions.{SessionState, client_of, progress_of}
use Rattle.front_conn.specs.front_z.Units.{IsBegun, IsDueBegun, IsMetBegun}
use Rattle.front_conn.specs.front_z.declared.units.Begun.{Begun}
use Rattle.front_conn.specs.front_z.declared.units.Begun.TheVariants as begun
use Rattle.front_conn.specs.package.steps.Packages.{PackageView}
use Rattle.front_conn.specs.steps.Answering.{IsKeptBehind, served}
use Rattle.front_conn.specs.steps.States.{ConnectionState, HasAnswered, Rests}
use Rattle.front_conn.specs.steps.Steps.{TakesUnit, answering_of}
use Rattle.front_conn.proofs.StateLemmas.{kind-more, met-at, spelled-snoc, stand_of}
use Rattle.front_conn_works.specs.Works.{work_in, work_of, works_of}
use Rattle.front_conn_works.specs.steps.Begun.{AreWorksBefore, AreWorksOf, HasBegun, begun_by}
use Rattle.front_conn_works.proofs.BegunLemmas.{begun-of, filled-kind, of-going, of-over}
use Rattle.front_conn.proofs.gateway_rules.Runs.{over-followed, standing-stands}
use Rattle.front_conn_works.proofs.CourseWorks.{stands-followed, works-append}
use Rattle.front_conn_works.proofs.SetWorks.{asked-meant}

-- ---- units that were answered, and one more

module _ {W : Type 0} (w : world.Ghosts W) (route : Route) (units : List Received) (marks : List Mark) (written : List ℕ)
    (here : SessionState) (a : HasAnswered w route units marks written here) where
  abbrev stand : Progress
  stand = stand_of units here

  -- what a unit leads to that comes then
  abbrev led : Received → Course
  led unit = leads_to (met route stand unit.request) stand.at (at.stands (after route stand unit))

  stops : (run w route new_client (course route at_the_start units) a.causes).stop ≡ session.standing stand
  stops = ap (λ (r : Run). r.stop) a.has_run.runs ∙ a.standing

  -- the works of all, under more causes
  pub works-behind : (unit : Received) (more : List Cause)
      → works_of w route new_client (course route at_the_start (units ++ unit ∷ [])) (a.causes ++ more)
      ≡ works_of w route new_client (course route at_the_start units) a.causes ++ works_of w route (client_of here) (led unit) more
  works-behind unit more =
      works-append w route new_client at_the_start stand units (unit ∷ []) a.causes more stops
      (ap (λ (r : Run). r.left) a.has_run.runs ∙ a.has_run.none_left)
      ∙ ap (λ (client : ClientState). works_of w route new_client (course route at_the_start units) a.causes
      ++ works_of w route client (led unit) more) (ap (λ (r : Run). r.client) a.has_run.runs ∙ a.client)

  -- the course stands where they were answered
  pub course-stands : stands_at (course route at_the_start units) ≡ Some stand
  course-stands = standing-stands w route new_client (course route at_the_start units) a.causes stand stops

  -- it is over behind a unit that ends it
  pub course-over : (unit : Received) → stands_at (led unit) ≡ None → stands_at (course route at_the_start (units ++ unit ∷ [])) ≡ None
  course-over unit over =
      ap stands_at (course-append route at_the_start units (unit ∷ []))
      ∙ stands-followed (course route at_the_start units) (λ there. course route there (unit ∷ [])) stand course-stands ∙ over

-- ---- a unit that is taken

module _ {W S : Type 0} (w : world.Ghosts W) (route : Route) (fed written : List ℕ) (old new : ConnectionState S) (works : List Work)
    (rb : Rests w route fed written old) (h : AreWorksBefore w route old.left fed old.marks works) (unit : Received)
    (received : IsReceived unit) (taken : old.left ≡ unit.octets ++ new.left) where
  abbrev all_units : List Received
  all_units = rb.units ++ unit ∷ []

  -- what it leads to
  abbrev leads : Course
  leads = leads_to (met route (stand_of rb.units old.session) unit.request) (stand_of rb.units old.session).at
      (at.stands (after route (stand_of rb.units old.session) unit))

  begun-so-far : works ≡ works_of w route new_client (course route at_the_start rb.units) rb.answered.causes
  begun-so-far =
      begun-of w route old.left fed old.marks works rb.units rb.answered.causes h rb.answered.has_run.each rb.spelled rb.answered.of_marks

  -- the works of the units that were taken then
  works-then : (more : List Cause) (others : List Work) → new.marks ≡ old.marks ++ marks_of more
      → works_of w route (client_of old.session) leads more ≡ others
      → AreWorksOf w route (course route at_the_start all_units) new.marks (works ++ others)
  works-then more others marks is = record {
    causes = rb.answered.causes ++ more;
    of_marks = map-append (λ (c : Cause). c.mark) rb.answered.causes more ∙ ap (λ m. m ++ marks_of more) rb.answered.of_marks ∙ sym marks;
    works = ap (λ ws. ws ++ others) begun-so-far
        ∙ ap (λ ws. works_of w route new_client (course route at_the_start rb.units) rb.answered.causes ++ ws) (sym is)
        ∙ sym (works-behind w route rb.units old.marks (written ++ old.out) old.session rb.answered unit more);
  }

  all-received : AllByRecursion IsReceived all_units
  all-received = all-append IsReceived rb.units (unit ∷ []) rb.answered.has_run.each (received, tt)

  all-spelled : fed ≡ octets_of all_units ++ new.left
  all-spelled = spelled-snoc rb.units unit fed old.left new.left rb.spelled taken

  -- where the connection goes on
  pub goes-then : (more : List Cause) (others : List Work) → new.end ≡ None → new.marks ≡ old.marks ++ marks_of more
      → works_of w route (client_of old.session) leads more ≡ others → HasBegun w route fed new (works ++ others)
  goes-then more others goes marks is =
      of-going w route fed new (works ++ others) goes (record {
        units = all_units;
        each = all-received;
        spelled = all-spelled;
        works = works-then more others marks is;
      })

  -- where it has ended by the unit
  is-connection : (rest : List ℕ) → kind_of fed ≡ kind.unit → stands_at leads ≡ None
      → IsConnection route (fed ++ rest) (course route at_the_start all_units)
  is-connection rest of_units over =
      let none = course-over w route rb.units old.marks (written ++ old.out) old.session rb.answered unit over in
      let whole = course route at_the_start all_units in
      subst (λ (k : Kind). IsCourseOf k route (fed ++ rest) whole) (sym (kind-more fed rest of_units)) (record {
        units = all_units;
        rest = new.left ++ rest;
        spelled = ap (λ o. o ++ rest) all-spelled ∙ append_assoc (octets_of all_units) new.left rest;
        each = all-received;
        behind = whole;
        rested = rw none tt;
        is = over-followed whole (λ there. whole) none;
      })

  pub over-then : (more : List Cause) (end : End) → kind_of fed ≡ kind.unit → new.end ≡ Some end → new.marks ≡ old.marks ++ marks_of more
      → stands_at leads ≡ None → works_of w route (client_of old.session) leads more ≡ [] → HasBegun w route fed new (works ++ [])
  over-then more end of_units ends marks over none =
      of-over w route fed new (works ++ []) end ends (λ rest may. record {
        whole = course route at_the_start all_units;
        is_whole = is-connection rest of_units over;
        works = works-then more [] marks none;
      })

  -- ---- by how it is met

  abbrev meeting_of : Meeting
  meeting_of = met route (stand_of rb.units old.session) unit.request

  -- what it leads to where it is met so
  abbrev leads_by : Meeting → Course
  leads_by meeting = leads_to meeting (stand_of rb.units old.session).at (at.stands (after route (stand_of rb.units old.session) unit))

  over-by : (meeting : Meeting) (more : List Cause) (end : End) → kind_of fed ≡ kind.unit → meeting_of ≡ meeting → new.end ≡ Some end
      → new.marks ≡ old.marks ++ marks_of more → stands_at (leads_by meeting) ≡ None
      → works_of w route (client_of old.session) (leads_by meeting) more ≡ [] → HasBegun w route fed new (works ++ [])
  over-by meeting more end of_units is ends marks over none =
      over-then more end of_units ends marks (ap (λ m. stands_at (leads_by m)) is ∙ over)
      (ap (λ m. works_of w route (client_of old.session) (leads_by m) more) is ∙ none)

  goes-by : (asks : Request) (more : List Cause) (others : List Work) → meeting_of ≡ at.due asks → new.end ≡ None
      → new.marks ≡ old.marks ++ marks_of more
      → works_of w route (client_of old.session) (leads_by (at.due asks)) more ≡ others → HasBegun w route fed new (works ++ others)
  goes-by asks more others is goes marks due =
      goes-then more others goes marks (ap (λ m. works_of w route (client_of old.session) (leads_by m) more) is ∙ due)

  -- the work of a request that is due
  abbrev due_of : Request → Asking
  due_of asks = asked_with (hits_named old.session.sets) route (client_of old.session) asks

  asked-work : (asks : Request) → work_of w route (client_of old.session) asks ≡ work_in (due_of asks)
  asked-work asks = ap work_in (sym (asked-meant w route old.session asks rb.answered.sets))

  -- ---- it was answered at once

  written-due : (asks : Request) (due : Asking) (mark : Option Mark) (end : Option End) → meeting_of ≡ at.due asks → due_of asks ≡ due
      → IsDueBegun route due asks (served (answering_of old)) (served (answering_of new)) (begun.Write mark end)
      → IsKeptBehind route (answering_of old) (answering_of new) new.end (begun.Write mark end) → HasBegun w route fed new (works ++ [])
  written-due asks (asking.works job) mark end is e b kept = let wrong = b.0 in absurd cc
  written-due asks (asking.at_once reply) mark end is e b kept =
      let of_mark : mark ≡ Some Plain = let x = b.0 in cc in
      let of_end : end ≡ None = let x = b.0 in cc in
      goes-by asks (plain ∷ []) [] is (kept.0 ∙ of_end) (kept.1 ∙ ap (λ m. old.marks ++ option_to_list m) of_mark)
      (ap (λ ws. ws ++ []) (asked-work asks ∙ ap work_in e))

  written-met : (meeting : Meeting) (mark : Option Mark) (end : Option End) → kind_of fed ≡ kind.unit → meeting_of ≡ meeting
      → IsMetBegun meeting route old.at unit.request (served (answering_of old)) (served (answering_of new)) (begun.Write mark end)
      → IsKeptBehind route (answering_of old) (answering_of new) new.end (begun.Write mark end) → HasBegun w route fed new (works ++ [])
  written-met at.bad mark end of_units is b kept =
      let of_mark : mark ≡ None = let x = b.0 in cc in
      let of_end : end ≡ Some (Malformed old.at) = let x = b.0 in cc in
      over-by at.bad [] (Malformed old.at) of_units is (kept.0 ∙ of_end) (kept.1 ∙ ap (λ m. old.marks ++ option_to_list m) of_mark) refl refl
  written-met (at.beyond asks) mark end of_units is b kept =
      let of_mark : mark ≡ None = let x = b.0 in cc in
      let of_end : end ≡ Some Limited = let x = b.0 in cc in
      over-by (at.beyond asks) [] Limited of_units is (kept.0 ∙ of_end) (kept.1 ∙ ap (λ m. old.marks ++ option_to_list m) of_mark) refl refl
  written-met (at.closing close) mark end of_units is b kept =
      let of_mark : mark ≡ Some Plain = let x = b.0 in cc in
      let of_end : end ≡ Some Closed = let x = b.0 in cc in
      over-by (at.closing close) (plain ∷ []) Closed of_units is (kept.0 ∙ of_end)
      (kept.1 ∙ ap (λ m. old.marks ++ option_to_list m) of_mark) refl refl
  written-met (at.due asks) mark end of_units is b kept = written-due asks (due_of asks) mark end is refl b kept

  -- ---- its request is in work

  begun-due : (asks : Request) (due : Asking) (job : Work) → meeting_of ≡ at.due asks → due_of asks ≡ due
      → IsDueBegun route due asks (served (answering_of old)) (served (answering_of new)) (begun.Work job)
      → IsKeptBehind route (answering_of old) (answering_of new) new.end (begun.Work job) → HasBegun w route fed new (works ++ job ∷ [])
  begun-due asks (asking.at_once reply) job is e b kept = let wrong = b.0 in absurd cc
  begun-due asks (asking.works other) job is e b kept =
      let same : other ≡ job = let x = b.0 in cc in
      goes-by asks [] (job ∷ []) is kept.0 (kept.1 ∙ sym (append-nil old.marks))
      (asked-work asks ∙ ap work_in e ∙ ap (λ j. j ∷ []) same)

  begun-met : (meeting : Meeting) (job : Work) → meeting_of ≡ meeting
      → IsMetBegun meeting route old.at unit.request (served (answering_of old)) (served (answering_of new)) (begun.Work job)
      → IsKeptBehind route (answering_of old) (answering_of new) new.end (begun.Work job) → HasBegun w route fed new (works ++ job ∷ [])
  begun-met at.bad job is b kept = let wrong = b.0 in absurd cc
  begun-met (at.beyond asks) job is b kept = let wrong = b.0 in absurd cc
  begun-met (at.closing close) job is b kept = let wrong = b.0 in absurd cc
  begun-met (at.due asks) job is b kept = begun-due asks (due_of asks) job is refl b kept

-- ---- any unit

module _ {W S : Type 0} (w : world.Ghosts W) (route : Route) (fed written : List ℕ) (old new : ConnectionState S) (works : List Work)
    (rb : Rests w route fed written old) (h : AreWorksBefore w route old.left fed old.marks works) where
  by-begun : (octets : List ℕ) (answer : Begun) → old.in_work ≡ None → kind_of fed ≡ kind.unit → IsFrame octets
      → old.left ≡ octets ++ new.left → IsBegun route old.at octets (served (answering_of old)) (served (answering_of new)) answer
      → IsKeptBehind route (answering_of old) (answering_of new) new.end answer
      → HasBegun w route fed new (works ++ begun_by old.in_work new.in_work)
  by-begun octets begun.Memory rests of_units frame taken b kept = absurd kept
  by-begun octets (begun.Write mark end) rests of_units frame taken b kept =
      let unit : Received = record { octets = octets; request = b.read } in
      let meeting : Meeting = met route (progress_of old.at old.session) b.read in
      let all = written-met w route fed written old new works rb h unit (frame, b.reading) taken meeting mark end of_units
      (met-at route (length (octets_of rb.units)) old.at old.session b.read) b.begun kept in
      subst (λ (ws : List Work). HasBegun w route fed new (works ++ ws))
      (sym (ap (λ (i : Option (PackageView S)). begun_by i new.in_work) rests ∙ ap (λ (i : Option (PackageView S)). begun_by None i) kept.2)) all
  by-begun octets (begun.Work job) rests of_units frame taken b kept =
      let unit : Received = record { octets = octets; request = b.read } in
      let meeting : Meeting = met route (progress_of old.at old.session) b.read in
      let all = begun-met w route fed written old new works rb h unit (frame, b.reading) taken meeting job
      (met-at route (length (octets_of rb.units)) old.at old.session b.read) b.begun kept in
      subst (λ (ws : List Work). HasBegun w route fed new (works ++ ws))
      (sym (ap (λ (i : Option (PackageView S)). begun_by i new.in_work) rests ∙ ap (λ (i : Option (PackageView S)). begun_by None i) kept.2)) all

  -- octets of which some were not taken yet
  fed-filled : (unit : List ℕ) → 0 < length unit → old.left ≡ unit ++ new.left → 0 < length fed
  fed-filled unit filled taken = omega (
    arith,
    filled,
    ap length taken,
    length-append unit new.left,
    ap length rb.spelled,
    length-append (octets_of rb.units) old.left,
  )

  pub unit-begins : kind_of fed ≢ kind.letter → old.in_work ≡ None → TakesUnit route old new
      → HasBegun w route fed new (works ++ begun_by old.in_work new.in_work)
  unit-begins other rests t =
      by-begun t.unit t.begun.answer rests (filled-kind fed other (fed-filled t.unit t.filled t.taken)) t.whole t.taken t.begun.begun t.begun.kept
