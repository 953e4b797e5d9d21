-- The turns of a request in work, and its answer, begin nothing more.
use Rattle.std.proofs.Common.{◌≡◌, ◌≢◌, ℕ, List, [], ◌∷◌, ◌++◌, Option, Some, None, Result, Ok, Err, sym, ap, ◌∙◌, append-nil}
use Rattle.std.proofs.lemmas.List.{map-append}
use Rattle.std.specs.List.{AllByRecursion}
use Rattle.z_types.specs.declared.marks.End.{End}
use Rattle.z_types.specs.declared.memory.Memory.{Memory as NoMemory}
use Rattle.z_types.specs.declared.sitting.Sitting as sitting
use Rattle.z_types.specs.declared.work.Work.{Work}
use Rattle.z_types.specs.declared.world.World as world
use Rattle.route_config.specs.declared.route.Route.{Route}
use Rattle.front_conn.specs.gateway_rules.Answers as kind
use Rattle.front_conn.specs.gateway_rules.Answers.{IsReceived, kind_of}
use Rattle.front_conn.specs.gateway_rules.Course as at
use Rattle.front_conn.specs.gateway_rules.Course.{Course, Meeting, Received, after, course, leads_to, octets_of}
use Rattle.front_conn.specs.gateway_rules.Marks.{Cause}
use Rattle.front_conn.specs.gateway_rules.State.{at_the_start, new_client}
use Rattle.front_conn.proofs.gateway_rules.Runs.{all-append}
use Rattle.front_conn.specs.front_session.Sessions.{client_of}
use Rattle.front_conn.specs.front_sru.declared.state.SruStage.{SruStage}
use Rattle.front_conn.specs.front_sru.declared.state.SruStage.TheVariants.{Idle, Searching, Fetching}
use Rattle.front_conn.specs.leg.declared.answers.Turned.{Turned}
use Rattle.front_conn.specs.leg.declared.answers.Turned.TheVariants as turned
use Rattle.front_conn.specs.package.steps.Ends.{cause_in}
use Rattle.front_conn.specs.package.steps.Packages.{PackageView}
use Rattle.front_conn.specs.declared.stepped.Stepped.{Stepped}
use Rattle.front_conn.specs.declared.stepped.Stepped.TheVariants.{Memory}
use Rattle.front_conn.specs.steps.Answering.{AnsweringState, EndsAt, EndsWork, IsEndAfter, Outside, WorksOn}
use Rattle.front_conn.specs.steps.States.{ConnectionState, IsStateOf, Works, WorksAt}
use Rattle.front_conn.specs.steps.Steps.{HasTurned, IsInputKept, answering_of}
use Rattle.front_conn.proofs.StateLemmas.{stand_of, works-at}
use Rattle.front_conn_works.specs.Works.{work_in, work_of, works_of}
use Rattle.front_conn_works.specs.steps.Begun.{AreWorksBefore, HasBegun, begun_by}
use Rattle.front_conn_works.specs.steps.Laws.{IsLastOf, LastIsInWork}
use Rattle.front_conn_works.proofs.BegunLemmas.{begun-of, going-of, nothing-more, of-going}
use Rattle.front_conn_works.proofs.UnitWorks.{works-behind}

-- ---- a request that is answered

module _ {W S : Type 0} (w : world.Ghosts W) (route : Route) (fed written : List ℕ) (old new : ConnectionState S) (works : List Work)
    (view : PackageView S) (k : Works w route fed written old view) (h : AreWorksBefore w route old.left fed old.marks works) where
  abbrev all_units : List Received
  all_units = k.units ++ k.unit ∷ []

  all-received : AllByRecursion IsReceived all_units
  all-received = all-append IsReceived k.units (k.unit ∷ []) k.answered.has_run.each (k.received, tt)

  -- what the units lead to, its request the last of them
  abbrev leads_by : Meeting → Course
  leads_by meeting = leads_to meeting (stand_of k.units k.before).at (at.stands (after route (stand_of k.units k.before) k.unit))

  works-all : (more : List Cause)
      → works_of w route new_client (course route at_the_start all_units) (k.answered.causes ++ more)
      ≡ works_of w route new_client (course route at_the_start k.units) k.answered.causes
      ++ works_of w route (client_of k.before) (leads_by (at.due k.request)) more
  works-all more =
      works-behind w route k.units old.marks (written ++ old.out) k.before k.answered k.unit more
      ∙ ap (λ m. works_of w route new_client (course route at_the_start k.units) k.answered.causes
      ++ works_of w route (client_of k.before) (leads_by m) more) k.is_due

  -- its work counts before it has a cause as behind that
  works-with : (cause : Cause) → works ≡ works_of w route new_client (course route at_the_start all_units) (k.answered.causes ++ cause ∷ [])
  works-with cause =
      let own = works_of w route new_client (course route at_the_start k.units) k.answered.causes in
      begun-of w route old.left fed old.marks works all_units k.answered.causes h all-received k.spelled k.answered.of_marks
      ∙ ap (works_of w route new_client (course route at_the_start all_units)) (sym (append-nil k.answered.causes))
      ∙ works-all [] ∙ ap (λ ws. own ++ ws) (sym (append-nil (work_of w route (client_of k.before) k.request))) ∙ sym (works-all (cause ∷ []))

  pub answered-begins : (cause : Cause) → new.end ≡ None → new.left ≡ old.left → new.marks ≡ old.marks ++ cause.mark ∷ []
      → HasBegun w route fed new works
  answered-begins cause goes left marks =
      of-going w route fed new works goes (record {
        units = all_units;
        each = all-received;
        spelled = k.spelled ∙ ap (λ l. octets_of all_units ++ l) (sym left);
        works = record {
          causes = k.answered.causes ++ cause ∷ [];
          of_marks = map-append (λ (c : Cause). c.mark) k.answered.causes (cause ∷ []) ∙ ap (λ m. m ++ cause.mark ∷ []) k.answered.of_marks
              ∙ sym marks;
          works = works-with cause;
        };
      })

  -- it is the last
  pub last-in-work : IsLastOf works view.work
  last-in-work =
      let own = works_of w route new_client (course route at_the_start k.units) k.answered.causes in
      record {
        earlier = own;
        is = begun-of w route old.left fed old.marks works all_units k.answered.causes h all-received k.spelled k.answered.of_marks
            ∙ ap (works_of w route new_client (course route at_the_start all_units)) (sym (append-nil k.answered.causes))
            ∙ works-all [] ∙ ap (λ due. own ++ work_in due) k.asks;
      }

-- ---- a turn

module _ {W S : Type 0} (w : world.Ghosts W) (route : Route) (fed written : List ℕ) (old new : ConnectionState S) (works : List Work)
    (view next : PackageView S) (h : AreWorksBefore w route old.left fed old.marks works) (input : IsInputKept old new) where
  -- the request is still in work
  goes-on : answering_of new ≡ record (answering_of old) { in_work = Some next } → new.end ≡ None → HasBegun w route fed new works
  goes-on is goes =
      of-going w route fed new works goes (record {
        units = h.units;
        each = h.each;
        spelled = h.spelled ∙ ap (λ l. octets_of h.units ++ l) (sym input.left);
        works = record {
          causes = h.works.causes;
          of_marks = h.works.of_marks ∙ sym (ap (λ (a : AnsweringState S). a.marks) is);
          works = h.works.works;
        };
      })

  -- by where a GET stands: there is none
  ends-at : (stage : SruStage) (ended : Option End) → kind_of fed ≢ kind.letter → WorksAt w route fed written old stage view
      → EndsAt route stage next (answering_of old) (answering_of new) (Ok ended) → new.end ≡ ended → HasBegun w route fed new works
  ends-at Idle ended other k e is =
      answered-begins w route fed written old new works view k h (cause_in route next) (is ∙ e.0) input.left e.3.marks
  ends-at (Searching retrieval) ended other k e is = absurd (other k.kind)
  ends-at (Fetching retrieval hits) ended other k e is = absurd (other k.kind)

  ends-begins : (done : Result (Option End) NoMemory) (answer : Stepped) → answer ≢ Memory → kind_of fed ≢ kind.letter
      → WorksAt w route fed written old old.stage view → EndsWork route next (answering_of old) (answering_of new) done
      → IsEndAfter done new.end answer → HasBegun w route fed new works
  ends-begins (Ok ended) answer had other k e after = ends-at old.stage ended other k e.went after.0
  ends-begins (Err want) answer had other k e after = absurd (had after.1)

  works-begins : (turned : Turned) (answer : Stepped) → answer ≢ Memory → kind_of fed ≢ kind.letter
      → WorksAt w route fed written old old.stage view → WorksOn route turned next (answering_of old) (answering_of new) answer new.end
      → HasBegun w route fed new works
  works-begins turned.Went answer had other k on = goes-on on.1 on.2
  works-begins turned.NotYet answer had other k on = goes-on on.1 on.2
  works-begins turned.Done answer had other k on = ends-begins on.done answer had other k on.ends on.after
  works-begins turned.Memory answer had other k on = absurd (had on.0)

pub turn-begins : {W S : Type 0} (w : world.Ghosts W) (t : sitting.Ghosts S W) (exact : _) (route : Route) (now : ℕ) (fed written : List ℕ)
    (old new : ConnectionState S) (answer : Stepped) (before behind : Outside S) (works : List Work) (view : PackageView S)
    → answer ≢ Memory → kind_of fed ≢ kind.letter → old.end ≡ None → old.in_work ≡ Some view → IsStateOf w route fed written old
    → AreWorksBefore w route old.left fed old.marks works → HasTurned w t exact route now view old new answer before behind
    → HasBegun w route fed new (works ++ begun_by old.in_work new.in_work)
turn-begins w t exact route now fed written old new answer before behind works view had other goes is state h turned =
    nothing-more w route fed new works (begun_by old.in_work new.in_work) (ap (λ i. begun_by i new.in_work) is)
    (works-begins w route fed written old new works view turned.turns.next h turned.input turned.turns.turned answer had other
    (works-at w route fed written old view goes is state) turned.turns.works)

-- ---- the last

last-at : {W S : Type 0} (w : world.Ghosts W) (route : Route) (fed written : List ℕ) (state : ConnectionState S) (works : List Work)
    (view : PackageView S) (stage : SruStage) → kind_of fed ≢ kind.letter → AreWorksBefore w route state.left fed state.marks works
    → WorksAt w route fed written state stage view → IsLastOf works view.work
last-at w route fed written state works view Idle other h k = last-in-work w route fed written state state works view k h
last-at w route fed written state works view (Searching retrieval) other h k = absurd (other k.kind)
last-at w route fed written state works view (Fetching retrieval hits) other h k = absurd (other k.kind)

pub last-is-in-work : {W : Type 0} (w : world.Ghosts W) (S : Type 0) → LastIsInWork w S
last-is-in-work w S route fed written state view works other stands goes is h =
    last-at w route fed written state works view state.stage other (going-of w route fed state works goes h)
    (works-at w route fed written state view goes is stands)
