-- A work of a GET whose legs are done: the GET is answered, or the legs for its fetch are begun.
use Rattle.std.proofs.Common.{◌≡◌, ◌∙◌, ◌++◌, ℕ, List, Option, Some, None, Result, Ok, Err, OnOk, ap, length, refl, subst, sym, take}
use Rattle.std.specs.Prelude.{IfSome, IsSome, option_to_list}
use Rattle.z_types.specs.declared.marks.End.{End}
use Rattle.z_types.specs.declared.marks.Mark.{Mark}
use Rattle.z_types.specs.declared.memory.Memory.{Memory}
use Rattle.z_types.specs.declared.outcome.Outcome.{Outcome}
use Rattle.z_types.specs.declared.sitting.Sitting as sitting
use Rattle.z_types.specs.declared.work.Work.{Work}
use Rattle.z_types.specs.declared.world.World as world
use Rattle.route_config.specs.declared.route.Route.{Route}
use Rattle.front_z.specs.gateway_rules.Works.{mark_of}
use Rattle.package.specs.steps.Ends.{cause_in, outcome_in}
use Rattle.package.specs.steps.Packages.{IsPackageOf, PackageView, answers_of, new_package}
use Rattle.package.specs.package_rules.Planned.{AreThere}
use Rattle.package.specs.package_rules.Truth.{FinishedHasMark}
use Rattle.front_http.specs.front_sru.Gets.{Awaits, IsEnded, Served, work_of}
use Rattle.front_http.specs.front_sru.declared.begun.Begun.TheVariants as get
use Rattle.front_http.specs.front_sru.declared.state.SruStage.{SruStage}
use Rattle.front_http.proofs.Gets.{get-fetch, get-mark, get-out}
use Rattle.front_conn.specs.steps.Answering.{AnsweringState, IsGetEndedIf, IsListed, IsReady, IsWorkBegun, get_served}
use Rattle.front_conn.specs.steps.States.{IsOneWork}
use Rattle.front_conn.proofs.AnsweringLemmas.{taken-back}
use Rattle.front_conn.proofs.HeadLemmas.{get-waits}

-- ---- what is ended

is-there : (thing : Option Work) (job : Work) → thing ≡ Some job → IsSome thing
is-there None job h = absurd cc
is-there (Some own) job h = refl

module _ {S : Type 0} (route : Route) (here old : AnsweringState S) (is : here ≡ old) (job : Work) (works : work_of route old.stage ≡ Some job)
  where
    pub works-here : work_of route here.stage ≡ Some job
    works-here = ap (λ (a : AnsweringState S). work_of route a.stage) is ∙ works

    pub get-there : IsSome (work_of route here.stage)
    get-there = is-there (work_of route here.stage) job works-here

-- the legs of the fetch are those of the search
pub fetch-there : (route : Route) (got : Outcome) (old new : Served) (done job : Work) → work_of route old.stage ≡ Some done
    → IsEnded route got old new (get.Work job) → AreThere route done → AreThere route job
fetch-there route got old new done job works h there =
    let it = get-fetch route got old new done job works h in
    subst (AreThere route) (sym it.fetch) (subst (AreThere route) it.search there)

-- ---- what is kept behind it

module _ {W S : Type 0} (w : world.Ghosts W) (t : sitting.Ghosts S W) (route : Route) (here old new : AnsweringState S) (is : here ≡ old)
    (view : PackageView S) (stage : SruStage) (out : List ℕ) (got : Outcome) (true_got : got ≡ outcome_in route view)
    (rests : old.in_work ≡ None) (works : work_of route old.stage ≡ Some view.work) where
  -- behind what was written
  abbrev mid : AnsweringState S
  mid = record here { stage = stage; out = out }

  rests-here : here.in_work ≡ None
  rests-here = ap (λ (a : AnsweringState S). a.in_work) is ∙ rests

  went : (answer : _) → IsEnded route got (get_served here) (get_served mid) answer
      → IsEnded route (outcome_in route view) (get_served here) (get_served mid) answer
  went answer h = subst (λ (g : Outcome). IsEnded route g (get_served here) (get_served mid) answer) true_got h

  -- of what stood there
  ended-of : (done : Result (Option End) Memory) → IsGetEndedIf route view here new done → IsGetEndedIf route view old new done
  ended-of done h = subst (λ (o : AnsweringState S). IsGetEndedIf route view o new done) is h

  -- the GET was answered
  written-by : FinishedHasMark → (mark : Option Mark) (end : Option End) (written : ℕ) (listed : Result (Option End) Memory)
      → written ≡ length here.out → IsEnded route got (get_served here) (get_served mid) (get.Write mark end)
      → IsListed mark end written mid new listed → IsGetEndedIf route view here new listed
  written-by law mark end written (Ok ended) is_length h l =
      let told = get-mark route got (get_served here) (get_served mid) mark end (get-there route here old is view.work works) h in
      let same : mark ≡ Some (cause_in route view).mark =
      told ∙ ap (λ g. Some (mark_of g)) true_got ∙ ap Some (law route view.work (answers_of view.first) (answers_of view.later)) in
      record {
        answer = get.Write mark end;
        went = subst (λ (a : AnsweringState S). IsEnded route (outcome_in route view) (get_served here) (get_served a) (get.Write mark end))
            (sym l.1) (went (get.Write mark end) h);
        kept = (
          l.0,
          ap (λ (a : AnsweringState S). a.marks) l.1 ∙ ap (λ m. here.marks ++ option_to_list m) same,
          ap (λ (a : AnsweringState S). a.in_work) l.1 ∙ rests-here,
        );
        session = ap (λ (a : AnsweringState S). a.session) l.1;
      }
  written-by law mark end written (Err want) is_length h l =
      let wrote = get-out route got (get_served here) (get_served mid) (get.Write mark end) (get-there route here old is view.work works) h in (
        record {
          out = ap (λ (a : AnsweringState S). a.out) l ∙ ap (λ n. take n out) is_length ∙ taken-back here.out wrote.0 out wrote.1;
          marks = ap (λ (a : AnsweringState S). a.marks) l;
        },
        ap (λ (a : AnsweringState S). a.in_work) l ∙ rests-here,
      )

  pub get-written : FinishedHasMark → (mark : Option Mark) (end : Option End) (written : ℕ) (listed : Result (Option End) Memory)
      → written ≡ length here.out → IsEnded route got (get_served here) (get_served mid) (get.Write mark end)
      → IsListed mark end written mid new listed → IsGetEndedIf route view old new listed
  get-written law mark end written listed is_length h l = ended-of listed (written-by law mark end written listed is_length h l)

  -- its fetch is begun
  works-by : (job : Work) (started : Result (Option End) Memory) → IsEnded route got (get_served here) (get_served mid) (get.Work job)
      → IsWorkBegun w t route job mid new started → IsGetEndedIf route view here new started
  works-by job (Ok ended) h s = record {
    answer = get.Work job;
    went = subst (λ (a : AnsweringState S). IsEnded route (outcome_in route view) (get_served here) (get_served a) (get.Work job))
        (sym s.1) (went (get.Work job) h);
    kept = (s.0, ap (λ (a : AnsweringState S). a.marks) s.1, ap (λ (a : AnsweringState S). a.in_work) s.1);
    session = ap (λ (a : AnsweringState S). a.session) s.1;
  }
  works-by job (Err want) h s = (
    record {
      out = ap (λ (a : AnsweringState S). a.out) s
          ∙ get-out route got (get_served here) (get_served mid) (get.Work job) (get-there route here old is view.work works) h;
      marks = ap (λ (a : AnsweringState S). a.marks) s;
    },
    ap (λ (a : AnsweringState S). a.in_work) s ∙ rests-here,
  )

  pub get-works : (job : Work) (started : Result (Option End) Memory) → IsEnded route got (get_served here) (get_served mid) (get.Work job)
      → IsWorkBegun w t route job mid new started → IsGetEndedIf route view old new started
  get-works job started h s = ended-of started (works-by job started h s)

  pub get-works-ready : (job : Work) (started : Result (Option End) Memory) → Awaits route stage (get.Work job)
      → IsWorkBegun w t route job mid new started → OnOk started (IsReady w t route new)
  get-works-ready job (Ok ended) awaits s =
      let in_work : new.in_work ≡ Some (new_package route job) = ap (λ (a : AnsweringState S). a.in_work) s.1 in record {
        of = λ most. subst (λ (i : Option (PackageView S)). IfSome i (IsPackageOf w t route most)) (sym in_work) (s.2 most);
        one_work = subst (λ (a : AnsweringState S). IsOneWork route a.session.waiting a.stage a.in_work) (sym s.1)
            (get-waits route here.session.waiting job stage awaits.waits);
      }
  get-works-ready job (Err want) awaits s = tt

  -- memory was wanting
  pub get-unended : (want : Memory) → IsEnded route got (get_served here) (get_served mid) get.Memory → new ≡ mid
      → IsGetEndedIf route view old new (Err want)
  get-unended want h same = ended-of (Err want) (
    record {
      out = ap (λ (a : AnsweringState S). a.out) same
          ∙ get-out route got (get_served here) (get_served mid) get.Memory (get-there route here old is view.work works) h;
      marks = ap (λ (a : AnsweringState S). a.marks) same;
    },
    ap (λ (a : AnsweringState S). a.in_work) same ∙ rests-here,
  )
