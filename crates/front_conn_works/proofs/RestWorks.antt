-- A connection that ends without a unit begins nothing by that.
use Rattle.std.proofs.Common.{◌≡◌, ◌≢◌, ℕ, List, [], ◌++◌, Some, None, refl, sym, ap, ◌∙◌, subst, append_assoc, append-nil}
use Rattle.z_types.specs.declared.marks.End.{End}
use Rattle.z_types.specs.declared.marks.End.TheVariants.{Finished, Malformed}
use Rattle.z_types.specs.declared.marks.Mark.{Mark}
use Rattle.z_types.specs.declared.work.Work.{Work}
use Rattle.z_types.specs.declared.world.World as world
use Rattle.route_config.specs.declared.route.Route.{Route}
use Rattle.front_conn.specs.gateway_rules.Answers as kind
use Rattle.front_conn.specs.gateway_rules.Answers.{IsConnection, IsCourse, IsCourseOf, Kind, kind_of}
use Rattle.front_conn.specs.gateway_rules.Course as at
use Rattle.front_conn.specs.gateway_rules.Course.{Course, course, followed, octets_of}
use Rattle.front_conn.specs.gateway_rules.Marks.{Cause}
use Rattle.front_conn.specs.gateway_rules.Replies.{bad_unit_reply}
use Rattle.front_conn.specs.gateway_rules.Runs.{marks_of}
use Rattle.front_conn.specs.gateway_rules.Session as session
use Rattle.front_conn.specs.gateway_rules.Session.{IsServed, Run, Stop, run}
use Rattle.front_conn.specs.gateway_rules.State.{ClientState, Progress, at_the_start, new_client}
use Rattle.front_conn.proofs.gateway_rules.Composition.{run-followed}
use Rattle.front_conn.proofs.gateway_rules.Joined.{goes_on}
use Rattle.front_conn.specs.sru_rules.Answers.{Answers, AnswersAs}
use Rattle.front_conn.specs.steps.States.{ConnectionState, Rests}
use Rattle.front_conn.proofs.StateLemmas.{stand_of}
use Rattle.front_conn_works.specs.Works.{works_of}
use Rattle.front_conn_works.specs.steps.Begun.{AreWorksBefore, AreWorksIn}
use Rattle.front_conn_works.proofs.BegunLemmas.{begun-of, none-begun, none-fed, none-there}
use Rattle.front_conn_works.proofs.CourseWorks.{works-followed, works-served}
use Rattle.front_conn_works.proofs.MarkWorks.{stop-by-marks}
use Rattle.front_conn_works.proofs.OneCourse.{goes-on-by}
use Rattle.front_conn_works.proofs.UnitWorks.{course-stands}

-- where a run of a course that goes on stops
stop-followed : {W : Type 0} (w : world.Ghosts W) (route : Route) (client : ClientState) (first behind : Course) (causes : List Cause)
    (there : Progress) → (run w route client first causes).stop ≡ session.standing there → (run w route client first causes).left ≡ []
    → (run w route client (followed first (λ place. behind)) causes).stop
    ≡ (run w route (run w route client first causes).client behind []).stop
stop-followed w route client first behind causes there stop left =
    let got : Run = run w route client first causes in
    let next : Progress → ClientState → List Cause → Run = λ place client_left rest. run w route client_left behind rest in
    ap (λ (r : Run). r.stop) (run-followed w route client first (λ place. behind) causes)
    ∙ ap (λ (s : Stop). (goes_on s got next).stop) stop
    ∙ ap (λ rest. (run w route got.client behind rest).stop) left

module _ {W S : Type 0} (w : world.Ghosts W) (route : Route) (fed written : List ℕ) (old : ConnectionState S) (works : List Work)
    (rb : Rests w route fed written old) (h : AreWorksBefore w route old.left fed old.marks works) where
  abbrev first : Course
  first = course route at_the_start rb.units

  got-stop : (run w route new_client first rb.answered.causes).stop ≡ session.standing (stand_of rb.units old.session)
  got-stop = ap (λ (r : Run). r.stop) rb.answered.has_run.runs ∙ rb.answered.standing

  got-left : (run w route new_client first rb.answered.causes).left ≡ []
  got-left = ap (λ (r : Run). r.left) rb.answered.has_run.runs ∙ rb.answered.has_run.none_left

  -- no more is asked behind the units where the same marks serve all
  none-behind : (behind : Course) (causes : List Cause) → marks_of causes ≡ old.marks
      → IsServed (run w route new_client (followed first (λ place. behind)) causes).stop
      → works_of w route (run w route new_client first rb.answered.causes).client behind [] ≡ []
  none-behind behind causes of served =
      let whole : Course = followed first (λ place. behind) in
      let same = stop-by-marks w route new_client new_client whole causes rb.answered.causes (of ∙ sym rb.answered.of_marks)
      ∙ stop-followed w route new_client first behind rb.answered.causes (stand_of rb.units old.session) got-stop got-left in
      works-served w route (run w route new_client first rb.answered.causes).client behind (subst IsServed same served)

  works-whole : (behind : Course) (causes : List Cause) → marks_of causes ≡ old.marks
      → IsServed (run w route new_client (followed first (λ place. behind)) causes).stop
      → works ≡ works_of w route new_client (followed first (λ place. behind)) rb.answered.causes
  works-whole behind causes of served =
      let whole : Course = followed first (λ place. behind) in
      let own = works_of w route new_client first rb.answered.causes in
      begun-of w route old.left fed old.marks works rb.units rb.answered.causes h rb.answered.has_run.each rb.spelled rb.answered.of_marks
      ∙ sym (append-nil own) ∙ ap (λ ws. own ++ ws) (sym (none-behind behind causes of served))
      ∙ sym (works-followed w route new_client first (λ place. behind) (stand_of rb.units old.session) rb.answered.causes [] got-stop got-left)
      ∙ ap (works_of w route new_client whole) (append-nil rb.answered.causes)

  -- of a whole course
  of-course : (more : List ℕ) (marks : List Mark) (whole : Course) (causes : List Cause) → marks ≡ old.marks → kind_of (fed ++ more) ≡ kind.unit
      → IsConnection route (fed ++ more) whole → marks_of causes ≡ marks → IsServed (run w route new_client whole causes).stop
      → AreWorksIn w route (fed ++ more) marks works
  of-course more marks whole causes same of_units is of served =
      let c : IsCourse route at_the_start (fed ++ more) whole = subst (λ (k : Kind). IsCourseOf k route (fed ++ more) whole) of_units is in
      let octets : octets_of rb.units ++ (old.left ++ more) ≡ octets_of c.units ++ c.rest =
      sym (append_assoc (octets_of rb.units) old.left more) ∙ ap (λ o. o ++ more) (sym rb.spelled) ∙ c.spelled in
      let on = goes-on-by route at_the_start (stand_of rb.units old.session) rb.units c.units (old.left ++ more) c.rest c.behind
      rb.answered.has_run.each c.each octets
      (course-stands w route rb.units old.marks (written ++ old.out) old.session rb.answered) c.rested in
      let way : whole ≡ followed first (λ place. on.behind) = c.is ∙ on.is in
      record {
        whole = whole;
        is_whole = is;
        works = record {
          causes = rb.answered.causes;
          of_marks = rb.answered.of_marks ∙ sym same;
          works = works-whole on.behind causes (of ∙ same) (subst (λ (whole : Course). IsServed (run w route new_client whole causes).stop) way served)
              ∙ ap (λ whole. works_of w route new_client whole rb.answered.causes) (sym way);
        };
      }

  -- where nothing was fed
  of-nothing : (more : List ℕ) (marks : List Mark) (k : Kind) (last : Course) → marks ≡ old.marks → fed ≡ [] → kind_of (fed ++ more) ≡ k
      → IsCourseOf k route (fed ++ more) last → works_of w route new_client last h.works.causes ≡ []
      → AreWorksIn w route (fed ++ more) marks works
  of-nothing more marks k last same none of is ends = record {
    whole = last;
    is_whole = subst (λ (k : Kind). IsCourseOf k route (fed ++ more) last) (sym of) is;
    works = record {
      causes = h.works.causes;
      of_marks = h.works.of_marks ∙ sym same;
      works = none-begun w route old.left fed old.marks works h none ∙ sym ends;
    };
  }

  by-kind : (more : List ℕ) (marks : List Mark) (out : List ℕ) (end : End) (k : Kind) → marks ≡ old.marks → kind_of fed ≢ kind.letter
      → kind_of (fed ++ more) ≡ k → AnswersAs k w route (fed ++ more) marks out end → AreWorksIn w route (fed ++ more) marks works
  by-kind more marks out end kind.empty same other of a =
      of-nothing more marks kind.empty (at.ends None Finished) same (none-there fed more of) of refl refl
  by-kind more marks out end kind.letter same other of a =
      of-nothing more marks kind.letter (at.ends (Some bad_unit_reply) (Malformed 0)) same (none-fed fed more other of) of refl refl
  by-kind more marks out end kind.unit same other of a =
      of-course more marks a.answered.whole a.answered.causes same of a.answered.is_whole a.answered.of_marks a.fits.served

  pub rest-begins : (more : List ℕ) (marks : List Mark) (out : List ℕ) (end : End) → marks ≡ old.marks → kind_of fed ≢ kind.letter
      → Answers w route (fed ++ more) marks out end → AreWorksIn w route (fed ++ more) marks works
  rest-begins more marks out end same other a = by-kind more marks out end (kind_of (fed ++ more)) same other refl a
