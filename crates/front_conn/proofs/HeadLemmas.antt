-- What is kept behind a head that was begun.
use Rattle.std.proofs.Common.{◌≡◌, ◌∙◌, ℕ, ◌<◌, List, Option, Some, None, Result, Ok, Err, ap, inr, length, subst, sym, take}
use Rattle.std.specs.Prelude.{All, IfSome}
use Rattle.std.proofs.lemmas.List.Elements.{recursion_from_All}
use Rattle.std.specs.Option.{option_and_then}
use Rattle.z_types.specs.declared.marks.End.{End}
use Rattle.z_types.specs.declared.marks.Mark.{Mark}
use Rattle.z_types.specs.declared.memory.Memory.{Memory}
use Rattle.z_types.specs.declared.sitting.Sitting as sitting
use Rattle.z_types.specs.declared.work.Work.{Work}
use Rattle.z_types.specs.declared.world.World as world
use Rattle.route_config.specs.Lookup.{database_named}
use Rattle.route_config.specs.Sound.{AllBelow, IsSound}
use Rattle.route_config.specs.declared.route.Database.{Database}
use Rattle.route_config.specs.declared.route.Route.{Route}
use Rattle.package.specs.steps.Packages.{IsPackageOf, PackageView, new_package}
use Rattle.package.specs.package_rules.Planned.{AreThere}
use Rattle.sru_request.specs.Name.{name_of}
use Rattle.sru_request.specs.declared.faults.HeadFault.{HeadFault}
use Rattle.sru_request.specs.declared.head.Get.{Get}
use Rattle.front_z.specs.front_session.Sessions.{Waiting}
use Rattle.front_http.specs.front_sru.Gets.{Awaits, Served, work_of}
use Rattle.front_http.specs.front_sru.declared.begun.Begun.TheVariants as get
use Rattle.front_http.specs.front_sru.declared.state.SruStage.{SruStage}
use Rattle.front_http.specs.front_sru.declared.state.SruStage.TheVariants.{Idle, Searching, Fetching}
use Rattle.front_http.specs.Heads.{IsHeadBegun}
use Rattle.front_http.proofs.Heads.{head-out, head-search}
use Rattle.front_conn.specs.declared.totals.Total.{Total}
use Rattle.front_conn.specs.steps.Answering.{AnsweringState, IsHeadBegunSo, IsListed, IsWorkBegun, get_served}
use Rattle.front_conn.specs.steps.States.{IsOneWork, IsWaitedAt}
use Rattle.front_conn.specs.steps.Totals.{totals_for}
use Rattle.front_conn.proofs.AnsweringLemmas.{taken-back}
use Rattle.front_conn.proofs.WorkLemmas.{all-found}

-- ---- the work of a GET

-- is waited for by it alone
pub get-waits : (route : Route) (waiting : Option Waiting) (job : Work) (stage : SruStage) → work_of route stage ≡ Some job
    → IsWaitedAt route waiting job stage
get-waits route waiting job Idle h = absurd cc
get-waits route waiting job (Searching retrieval) h = h
get-waits route waiting job (Fetching retrieval hits) h = h

named-legs : (route : Route) (name : Option (List ℕ)) (database : Database) → IsSound route
    → option_and_then (database_named route) name ≡ Some database → AllBelow (length route.legs) database.legs
named-legs route None database sound h = absurd cc
named-legs route (Some name) database sound h =
    all-found (λ (d : Database). AllBelow (length route.legs) d.legs) _ route.databases database
    (recursion_from_All (λ (d : Database). AllBelow (length route.legs) d.legs) route.databases sound.places.legs) h

-- its legs are the route's
pub head-is-there : (route : Route) (head : Result Get HeadFault) (old new : Served) (job : Work) → IsSound route
    → IsHeadBegun route head old new (get.Work job) → AreThere route job
head-is-there route head old new job sound h =
    let it = head-search route head old new job h in
    let all = named-legs route (name_of it.get.path) it.database sound it.found in
    subst (AreThere route) (sym it.is) (subst (All (λ leg. leg < length route.legs)) (sym it.legs) all)

-- ---- what is kept behind a head

module _ {W S : Type 0} (w : world.Ghosts W) (t : sitting.Ghosts S W) (route : Route) (head : Result Get HeadFault)
    (old new : AnsweringState S) (stage : SruStage) (out : List ℕ) where
  -- behind what was written
  abbrev mid : AnsweringState S
  mid = record old { stage = stage; totals = totals_for route old.totals; out = out }

  -- it was answered at once
  head-written : (mark : Option Mark) (end : Option End) (written : ℕ) (listed : Result (Option End) Memory) → old.in_work ≡ None
      → written ≡ length old.out → IsHeadBegun route head (get_served old) (get_served mid) (get.Write mark end)
      → IsListed mark end written mid new listed → IsHeadBegunSo w t route head old new listed
  head-written mark end written (Ok ended) rests is h l =
      let in_work : new.in_work ≡ None = ap (λ (a : AnsweringState S). a.in_work) l.1 ∙ rests in (
        record {
          answer = get.Write mark end;
          begun = subst (λ (a : AnsweringState S). IsHeadBegun route head (get_served old) (get_served a) (get.Write mark end)) (sym l.1) h;
          kept = (l.0, ap (λ (a : AnsweringState S). a.marks) l.1, in_work, ap (λ (a : AnsweringState S). a.totals) l.1);
          session = ap (λ (a : AnsweringState S). a.session) l.1;
        },
        record {
          of = λ most. subst (λ (i : Option (PackageView S)). IfSome i (IsPackageOf w t route most)) (sym in_work) tt;
          one_work = subst (λ (i : Option (PackageView S)). IsOneWork route new.session.waiting new.stage i) (sym in_work) tt;
        },
      )
  head-written mark end written (Err want) rests is h l =
      let wrote = head-out route head (get_served old) (get_served mid) (get.Write mark end) h in record {
        unwritten = record {
          out = ap (λ (a : AnsweringState S). a.out) l ∙ ap (λ n. take n out) is ∙ taken-back old.out wrote.0 out wrote.1;
          marks = ap (λ (a : AnsweringState S). a.marks) l;
        };
        in_work = ap (λ (a : AnsweringState S). a.in_work) l ∙ rests;
        totals = inr (ap (λ (a : AnsweringState S). a.totals) l);
      }

  -- the package of its search is begun
  head-works : (job : Work) (started : Result (Option End) Memory) → old.in_work ≡ None
      → IsHeadBegun route head (get_served old) (get_served mid) (get.Work job) → Awaits route stage (get.Work job)
      → IsWorkBegun w t route job mid new started → IsHeadBegunSo w t route head old new started
  head-works job (Ok ended) rests h awaits s =
      let in_work : new.in_work ≡ Some (new_package route job) = ap (λ (a : AnsweringState S). a.in_work) s.1 in (
        record {
          answer = get.Work job;
          begun = subst (λ (a : AnsweringState S). IsHeadBegun route head (get_served old) (get_served a) (get.Work job)) (sym s.1) h;
          kept = (s.0, ap (λ (a : AnsweringState S). a.marks) s.1, in_work, ap (λ (a : AnsweringState S). a.totals) s.1);
          session = ap (λ (a : AnsweringState S). a.session) s.1;
        },
        record {
          of = λ most. subst (λ (i : Option (PackageView S)). IfSome i (IsPackageOf w t route most)) (sym in_work) (s.2 most);
          one_work = subst (λ (a : AnsweringState S). IsOneWork route a.session.waiting a.stage a.in_work) (sym s.1)
              (get-waits route old.session.waiting job stage awaits.waits);
        },
      )
  head-works job (Err want) rests h awaits s = record {
    unwritten = record {
      out = ap (λ (a : AnsweringState S). a.out) s ∙ head-out route head (get_served old) (get_served mid) (get.Work job) h;
      marks = ap (λ (a : AnsweringState S). a.marks) s;
    };
    in_work = ap (λ (a : AnsweringState S). a.in_work) s ∙ rests;
    totals = inr (ap (λ (a : AnsweringState S). a.totals) s);
  }

  -- memory was wanting for the head itself
  head-unbegun : (want : Memory) → old.in_work ≡ None → IsHeadBegun route head (get_served old) (get_served mid) get.Memory → new ≡ mid
      → IsHeadBegunSo w t route head old new (Err want)
  head-unbegun want rests h is = record {
    unwritten = record {
      out = ap (λ (a : AnsweringState S). a.out) is ∙ head-out route head (get_served old) (get_served mid) get.Memory h;
      marks = ap (λ (a : AnsweringState S). a.marks) is;
    };
    in_work = ap (λ (a : AnsweringState S). a.in_work) is ∙ rests;
    totals = inr (ap (λ (a : AnsweringState S). a.totals) is);
  }

-- ---- of what stood there

module _ {W S : Type 0} (w : world.Ghosts W) (t : sitting.Ghosts S W) (route : Route) (head : Result Get HeadFault)
    (here old new : AnsweringState S) (stage : SruStage) (totals : List Total) (out : List ℕ) (is : here ≡ old)
    (made : totals ≡ totals_for route here.totals) (rests : old.in_work ≡ None) where
  abbrev then : AnsweringState S
  then = record here { stage = stage; totals = totals; out = out }

  -- the same with the sums as they are made
  then-is : then ≡ record here { stage = stage; totals = totals_for route here.totals; out = out }
  then-is = λ i. record here { stage = stage; totals = made i; out = out }

  rests-here : here.in_work ≡ None
  rests-here = ap (λ (a : AnsweringState S). a.in_work) is ∙ rests

  pub head-written-so : (mark : Option Mark) (end : Option End) (written : ℕ) (listed : Result (Option End) Memory) → written ≡ length here.out
      → IsHeadBegun route head (get_served here) (get_served then) (get.Write mark end) → IsListed mark end written then new listed
      → IsHeadBegunSo w t route head old new listed
  head-written-so mark end written listed length_is h l =
      subst (λ (o : AnsweringState S). IsHeadBegunSo w t route head o new listed) is
      (head-written w t route head here new stage out mark end written listed rests-here length_is h
      (subst (λ (a : AnsweringState S). IsListed mark end written a new listed) then-is l))

  pub head-works-so : (job : Work) (started : Result (Option End) Memory)
      → IsHeadBegun route head (get_served here) (get_served then) (get.Work job) → Awaits route stage (get.Work job)
      → IsWorkBegun w t route job then new started → IsHeadBegunSo w t route head old new started
  head-works-so job started h awaits s =
      subst (λ (o : AnsweringState S). IsHeadBegunSo w t route head o new started) is
      (head-works w t route head here new stage out job started rests-here h awaits
      (subst (λ (a : AnsweringState S). IsWorkBegun w t route job a new started) then-is s))

  pub head-unbegun-so : (want : Memory) → IsHeadBegun route head (get_served here) (get_served then) get.Memory → new ≡ then
      → IsHeadBegunSo w t route head old new (Err want)
  head-unbegun-so want h same =
      subst (λ (o : AnsweringState S). IsHeadBegunSo w t route head o new (Err want)) is
      (head-unbegun w t route head here new stage out want rests-here h (same ∙ then-is))
