-- A connection whose head was begun is answered whole, or stands in its GET.
use Rattle.std.proofs.Common.{◌≡◌, ◌∙◌, ◌++◌, ℕ, List, [], Option, Some, None, Result, Ok, Err, append_assoc, ap, refl, subst, sym}
use Rattle.std.specs.Prelude.{option_to_list}
use Rattle.z_types.specs.declared.marks.End.{End}
use Rattle.z_types.specs.declared.marks.End.TheVariants.{Closed, Malformed}
use Rattle.z_types.specs.declared.marks.Mark.{Mark}
use Rattle.z_types.specs.declared.work.Work.{Work}
use Rattle.z_types.specs.declared.world.World as world
use Rattle.route_config.specs.declared.route.Database.{Database}
use Rattle.route_config.specs.declared.route.Route.{Route}
use Rattle.front_z.specs.gateway_rules.Answers as kind
use Rattle.front_z.specs.gateway_rules.Answers.{kind_of}
use Rattle.package.specs.steps.Packages.{PackageView, new_package}
use Rattle.front_z.specs.front_session.Sessions.{Waiting}
use Rattle.sru_request.specs.declared.faults.HeadFault.{HeadFault}
use Rattle.sru_request.specs.declared.faults.HeadFault.TheVariants.{BadHttp, NotGet, HeadTooLarge, Memory}
use Rattle.sru_request.specs.declared.head.Get.{Get}
use Rattle.front_http.specs.sru_rules.declared.retrieval.Retrieval.{Retrieval}
use Rattle.front_http.specs.sru_rules.Answers.{Answers}
use Rattle.front_http.specs.sru_rules.Course.{database_of}
use Rattle.front_http.specs.sru_rules.Run.{Due, at_once, due, searches}
use Rattle.front_http.specs.front_sru.Gets.{IsDueDone, IsFoundBegun, Served, work_of}
use Rattle.front_http.specs.front_sru.declared.begun.Begun as sru_begun
use Rattle.front_http.specs.front_sru.declared.begun.Begun.TheVariants as get
use Rattle.front_http.specs.front_sru.declared.state.SruStage.{SruStage}
use Rattle.front_http.specs.front_sru.declared.state.SruStage.TheVariants.{Idle, Searching, Fetching}
use Rattle.front_http.specs.Gets.{IsAnswered, WaitsFor}
use Rattle.front_http.specs.Heads.{IsFaultBegun, IsHeadBegun}
use Rattle.front_http.specs.Laws.{HeadsAnswer, HeadsStand}
use Rattle.front_http.specs.Seeking.{IsHeadOf}
use Rattle.front_conn.specs.steps.Answering.{AnsweringState, EndsByUnit, IsHeadTaken, IsKeptBehindHead, get_served}
use Rattle.front_conn.specs.steps.States.{ConnectionState, IsOneWork, IsStateOf, IsWaitedAt}
use Rattle.front_conn.specs.steps.Steps.{KeepsState, answering_of}
use Rattle.front_conn.proofs.AheadLemmas.{HeadSo}
use Rattle.front_conn.proofs.EndLemmas.{first-state, none-at_0}
use Rattle.front_conn.proofs.StateLemmas.{of-ended, rests-of, works-get}

-- ---- how the connection has ended by it

due-ends : (asks : Due) (old new : Served) (mark : Option Mark) (end : Option End) → IsDueDone asks old new (get.Write mark end)
    → EndsByUnit end
due-ends (at_once given) old new mark end h = let says = h.0.closed in let is : end ≡ Some Closed = cc in rw is tt
due-ends (searches retrieval) old new mark end h = let wrong = h.handed in absurd cc

found-ends : (route : Route) (got : Get) (named : Option Database) (old new : Served) (mark : Option Mark) (end : Option End)
    → IsFoundBegun route got named old new (get.Write mark end) → EndsByUnit end
found-ends route got None old new mark end h = let says = h.0.0 in let is : end ≡ Some Closed = cc in rw is tt
found-ends route got (Some database) old new mark end h = due-ends (due route database h.reading) old new mark end h.is_done

fault-ends : (fault : HeadFault) (old new : List ℕ) (mark : Option Mark) (end : Option End) → IsFaultBegun fault old new (get.Write mark end)
    → EndsByUnit end
fault-ends BadHttp old new mark end h = let says = h.0 in let is : end ≡ Some (Malformed 0) = cc in rw is tt
fault-ends HeadTooLarge old new mark end h = let says = h.0 in let is : end ≡ Some (Malformed 0) = cc in rw is tt
fault-ends NotGet old new mark end h = let says = h.0 in let is : end ≡ Some Closed = cc in rw is tt
fault-ends Memory old new mark end h = let wrong = h.0 in absurd cc

head-ends : (route : Route) (head : Result Get HeadFault) (old new : Served) (mark : Option Mark) (end : Option End)
    → IsHeadBegun route head old new (get.Write mark end) → EndsByUnit end
head-ends route (Ok got) old new mark end h = found-ends route got (database_of route got) old new mark end h
head-ends route (Err fault) old new mark end h = fault-ends fault old.out new.out mark end h.0

ends-by : {S : Type 0} (route : Route) (head : Result Get HeadFault) (old new : AnsweringState S) (end : Option End) (answer : sru_begun.Begun)
    → IsHeadBegun route head (get_served old) (get_served new) answer → IsKeptBehindHead route old new end answer → EndsByUnit end
ends-by route head old new end get.Memory h kept = absurd kept
ends-by route head old new end (get.Write mark ended) h kept =
    subst EndsByUnit (sym kept.0) (head-ends route head (get_served old) (get_served new) mark ended h)
ends-by route head old new end (get.Work job) h kept = subst EndsByUnit (sym kept.0) tt

pub taken-ends : {S : Type 0} (route : Route) (head : Result Get HeadFault) (old new : AnsweringState S) (end : Option End)
    → IsHeadTaken route head old new end → EndsByUnit end
taken-ends route head old new end h = ends-by route head old new end h.answer h.begun h.kept

-- ---- where it stands

-- a head was taken and begun
pub record TookHead {S : Type 0} (route : Route) (old new : ConnectionState S) (head : Result Get HeadFault) : Type 0 where
  pub goes : old.end ≡ None
  pub rests : old.in_work ≡ None
  pub so : HeadSo old.at old.left head
  pub taken : IsHeadTaken route head (answering_of old) (answering_of new) new.end
  pub one_work : IsOneWork route new.session.waiting new.stage new.in_work

work-at : {W : Type 0} (w : world.Ghosts W) (route : Route) (retrieval : Retrieval) (waiting : Option Waiting) (job : Work) (stage : SruStage)
    → WaitsFor w route retrieval stage → IsWaitedAt route waiting job stage → work_of route stage ≡ Some job
work-at w route retrieval waiting job Idle waits h = absurd waits
work-at w route retrieval waiting job (Searching asked) waits h = h
work-at w route retrieval waiting job (Fetching asked hits) waits h = h

module _ {W S : Type 0} (w : world.Ghosts W) (route : Route) (fed written : List ℕ) (old new : ConnectionState S) (head : Result Get HeadFault)
    (same : fed ≡ old.left) (marks : old.marks ≡ []) (out : written ++ old.out ≡ []) (is_letter : kind_of fed ≡ kind.letter)
    (is_head : IsHeadOf fed head) where
  -- it is answered
  answered-whole : (mark : Option Mark) (end : Option End) → new.end ≡ end → new.marks ≡ old.marks ++ option_to_list mark
      → IsAnswered w route fed (option_to_list mark) old.out new.out end → IsStateOf w route fed written new
  answered-whole mark end ended listed a =
      let all_marks : new.marks ≡ option_to_list mark = listed ∙ ap (λ m. m ++ option_to_list mark) marks in
      let all_out : written ++ new.out ≡ a.message =
      ap (λ o. written ++ o) a.written ∙ sym (append_assoc written old.out a.message) ∙ ap (λ o. o ++ a.message) out in
      of-ended w route fed written new a.how (ended ∙ a.ended)
      (λ more may.
      subst (λ (m : List Mark). Answers w route (fed ++ more) m (written ++ new.out) a.how) (sym all_marks)
      (subst (λ (o : List ℕ). Answers w route (fed ++ more) (option_to_list mark) o a.how) (sym all_out) (a.whole more)))

  -- or the search of its GET is begun
  stands-by : HeadsAnswer w → HeadsStand w → (answer : sru_begun.Begun) (ended : Option End) → new.end ≡ ended
      → IsOneWork route new.session.waiting new.stage new.in_work
      → IsHeadBegun route head (get_served (answering_of old)) (get_served (answering_of new)) answer
      → IsKeptBehindHead route (answering_of old) (answering_of new) ended answer → IsStateOf w route fed written new
  stands-by answers stands get.Memory ended is one h kept = absurd kept
  stands-by answers stands (get.Write mark end) ended is one h kept =
      answered-whole mark end (is ∙ kept.0) kept.1
      (answers route fed head (get_served (answering_of old)) (get_served (answering_of new)) mark end is_letter is_head h)
  stands-by answers stands (get.Work job) ended is one h kept =
      let it = stands route fed head (get_served (answering_of old)) (get_served (answering_of new)) job is_head h in
      let at : IsWaitedAt route new.session.waiting job new.stage =
      subst (λ (i : Option (PackageView S)). IsOneWork route new.session.waiting new.stage i) kept.2 one in
      works-get w route fed written new (new_package route job) (is ∙ kept.0) kept.2 (record {
        kind = is_letter;
        stands = it.0;
        of_work = work-at w route it.0.retrieval new.session.waiting job new.stage it.0.waits at;
        no_marks = kept.1 ∙ marks;
        unwritten = ap (λ o. written ++ o) it.1 ∙ out;
      })

pub head-keeps : {W S : Type 0} (w : world.Ghosts W) (route : Route) (old new : ConnectionState S) (head : Result Get HeadFault)
    → HeadsAnswer w → HeadsStand w → TookHead route old new head → KeepsState w route old new
head-keeps w route old new head answers stands t = λ fair fed written h.
    let rb = rests-of w route fed written old t.goes t.rests h in
    let none = none-at_0 rb.units rb.answered.has_run.each (sym rb.offset ∙ t.so.0) in
    let first = first-state w route fed written old rb none in
    stands-by w route fed written old new head first.fed-is first.marks first.out (ap kind_of first.fed-is ∙ t.so.1)
    (subst (λ (o : List ℕ). IsHeadOf o head) (sym first.fed-is) t.so.2) answers stands t.taken.answer new.end refl t.one_work t.taken.begun
    t.taken.kept
