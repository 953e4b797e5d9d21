-- What a connection begins since it rested are the works of the units that it takes.
use Rattle.std.proofs.Common.{◌≡◌, List, [], ◌∷◌, ◌++◌, refl, sym, ap, ◌∙◌, append_assoc, map}
use Rattle.std.proofs.lemmas.List.{append_cancel_left, map-append}
use Rattle.std.specs.List.{AllByRecursion}
use Rattle.z_types.specs.Chains.{last_of}
use Rattle.z_types.specs.declared.marks.Mark.{Mark}
use Rattle.z_types.specs.declared.sitting.Sitting as sitting
use Rattle.z_types.specs.declared.work.Work.{Work}
use Rattle.z_types.specs.declared.world.World as world
use Rattle.route_config.specs.declared.route.Route.{Route}
use Rattle.front_conn.specs.gateway_rules.Answers.{IsReceived}
use Rattle.front_conn.specs.gateway_rules.Course.{Received, course, octets_of}
use Rattle.front_conn.specs.gateway_rules.Marks.{Cause}
use Rattle.front_conn.specs.gateway_rules.Runs.{marks_of}
use Rattle.front_conn.specs.gateway_rules.Session.{Run, run}
use Rattle.front_conn.specs.gateway_rules.State.{ClientState, at_the_start, new_client}
use Rattle.front_conn.proofs.gateway_rules.Runs.{all-append}
use Rattle.front_conn.specs.front_session.Sessions.{client_of}
use Rattle.front_conn.specs.steps.States.{Rests}
use Rattle.front_conn.proofs.StateLemmas.{rests-of, stand_of}
use Rattle.front_conn_works.specs.Works.{works_of}
use Rattle.front_conn_works.specs.steps.Begun.{AreWorksBefore, HasBegun}
use Rattle.front_conn_works.specs.steps.Laws.{GoesBegin, RestsThenBegins}
use Rattle.front_conn_works.specs.steps.Through.{AreWorksSince, Point, begun_through}
use Rattle.front_conn_works.proofs.BegunLemmas.{begun-of, going-of, of-going}
use Rattle.front_conn_works.proofs.CourseWorks.{works-append}
use Rattle.front_conn_works.proofs.GrowthLemmas.{GrowsTo, through-grows}
use Rattle.front_conn_works.proofs.OneCourse.{IsFront, front-of}

-- causes with such marks
abbrev causes_for : List Mark → List Cause
causes_for marks = map (λ mark. record { mark = mark; class = [] }) marks

marks-for : (marks : List Mark) → marks_of (causes_for marks) ≡ marks
marks-for [] = refl
marks-for (mark ∷ marks) = ap (λ m. mark ∷ m) (marks-for marks)

module _ {W S : Type 0} (w : world.Ghosts W) (route : Route) (old new : Point S)
    (rb : Rests w route old.fed old.written old.state) (grows : GrowsTo old new) where
  -- the works of the units before
  abbrev own : List Work
  own = works_of w route new_client (course route at_the_start rb.units) rb.answered.causes

  pub own-begun : HasBegun w route old.fed old.state own
  own-begun =
      of-going w route old.fed old.state own grows.going (record {
        units = rb.units;
        each = rb.answered.has_run.each;
        spelled = rb.spelled;
        works = record { causes = rb.answered.causes; of_marks = rb.answered.of_marks; works = refl };
      })

  -- the units that were taken since
  taken-since : (units : List Received) → AllByRecursion IsReceived units → new.fed ≡ octets_of units ++ new.state.left
      → IsFront rb.units units grows.grown.taken new.state.left
  taken-since units each spelled =
      front-of rb.units units grows.grown.taken new.state.left rb.answered.has_run.each each
      (ap (λ o. octets_of rb.units ++ o) (sym grows.grown.spelled) ∙ sym (append_assoc (octets_of rb.units) old.state.left grows.more)
      ∙ ap (λ o. o ++ grows.more) (sym rb.spelled) ∙ sym grows.fed ∙ spelled)

  abbrev since : List Cause
  since = causes_for grows.grown.marks

  listed : marks_of (rb.answered.causes ++ since) ≡ new.state.marks
  listed =
      map-append (λ (c : Cause). c.mark) rb.answered.causes since
      ∙ ap (λ m. m ++ marks_of since) rb.answered.of_marks
      ∙ ap (λ m. old.state.marks ++ m) (marks-for grows.grown.marks) ∙ sym grows.grown.listed

  works-since : (works : List Work) (units : List Received) → AllByRecursion IsReceived units
      → new.fed ≡ octets_of (rb.units ++ units) ++ new.state.left
      → AreWorksBefore w route new.state.left new.fed new.state.marks (own ++ works)
      → works ≡ works_of w route (client_of old.state.session) (course route (stand_of rb.units old.state.session) units) since
  works-since works units each spelled h =
      let got : Run = run w route new_client (course route at_the_start rb.units) rb.answered.causes in
      append_cancel_left own works _
      (begun-of w route new.state.left new.fed new.state.marks (own ++ works) (rb.units ++ units) (rb.answered.causes ++ since) h
      (all-append IsReceived rb.units units rb.answered.has_run.each each) spelled listed
      ∙ works-append w route new_client at_the_start (stand_of rb.units old.state.session) rb.units units rb.answered.causes since
      (ap (λ (r : Run). r.stop) rb.answered.has_run.runs ∙ rb.answered.standing)
      (ap (λ (r : Run). r.left) rb.answered.has_run.runs ∙ rb.answered.has_run.none_left)
      ∙ ap (λ (client : ClientState). own ++ works_of w route client (course route (stand_of rb.units old.state.session) units) since)
      (ap (λ (r : Run). r.client) rb.answered.has_run.runs ∙ rb.answered.client))

  pub since-rest : (works : List Work) → AreWorksBefore w route new.state.left new.fed new.state.marks (own ++ works)
      → AreWorksSince w route old new works
  since-rest works h =
      let front = taken-since h.units h.each h.spelled in record {
        more = grows.more;
        fed = grows.fed;
        units = front.more;
        each = front.each;
        taken = grows.grown.spelled ∙ front.spelled;
        causes = since;
        listed = grows.grown.listed ∙ ap (λ m. old.state.marks ++ m) (sym (marks-for grows.grown.marks));
        at = _;
        is_at = rb.offset;
        are = works-since works front.more front.each
            (h.spelled ∙ ap (λ (us : List Received). octets_of us ++ new.state.left) front.is) h;
      }

pub rests-then-begins : {W S : Type 0} (w : world.Ghosts W) (t : sitting.Ghosts S W) → GoesBegin w t → RestsThenBegins w t
rests-then-begins w t law exact route start points fair other state goes rests through last =
    let end : Point _ = last_of start points in
    let rb = rests-of w route start.fed start.written start.state goes rests state in
    let grows = through-grows w t exact route start points last through in
    let all = law exact route start points (own w route start end rb grows) fair other state through (own-begun w route start end rb grows) in
    since-rest w route start end rb grows (begun_through start points)
    (going-of w route end.fed end.state (own w route start end rb grows ++ begun_through start points) last all)
