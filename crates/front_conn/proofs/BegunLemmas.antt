-- What is kept behind a unit that was begun.
use Rattle.std.proofs.Common.{◌≡◌, ◌∙◌, ℕ, List, Option, Some, None, false, Result, Ok, Err, OnOk, ap, inr, length, refl, subst, sym, take}
use Rattle.std.specs.Prelude.{IfSome, is_err}
use Rattle.z_types.specs.declared.marks.End.{End}
use Rattle.z_types.specs.declared.marks.Mark.{Mark}
use Rattle.z_types.specs.declared.memory.Memory.{Memory}
use Rattle.z_types.specs.declared.sitting.Sitting as sitting
use Rattle.z_types.specs.declared.work.Work.{Work}
use Rattle.z_types.specs.declared.world.World as world
use Rattle.route_config.specs.declared.route.Route.{Route}
use Rattle.front_z.specs.front_session.Sessions.{SessionState}
use Rattle.front_z.specs.Units.{IsBegun}
use Rattle.front_z.specs.declared.units.Begun.TheVariants as begun
use Rattle.package.specs.steps.Packages.{IsPackageOf, PackageView, new_package}
use Rattle.front_http.specs.front_sru.declared.state.SruStage.{SruStage}
use Rattle.front_http.specs.front_sru.declared.state.SruStage.TheVariants.{Idle}
use Rattle.front_conn.specs.declared.totals.Total.{Total}
use Rattle.front_conn.specs.steps.Answering.{AnsweringState, IsBegunSo, IsListed, IsWorkBegun, served, with_package}
use Rattle.front_conn.specs.steps.States.{IsOneWork}
use Rattle.front_conn.specs.steps.Totals.{totals_for}
use Rattle.front_conn.proofs.AnsweringLemmas.{work-unwritten, work-waits, written-back}

module _ {W S : Type 0} (w : world.Ghosts W) (t : sitting.Ghosts S W) (route : Route) (at : ℕ) (unit : List ℕ) (old new : AnsweringState S)
    (session : SessionState) (out : List ℕ) where
  -- behind what was written; no GET waits
  abbrev mid : AnsweringState S
  mid = record old { session = session; stage = Idle; totals = totals_for route old.totals; out = out }

  -- it was answered at once
  pub begun-written : (mark : Option Mark) (end : Option End) (written : ℕ) (listed : Result (Option End) Memory) → old.in_work ≡ None
      → written ≡ length old.out → IsBegun route at unit (served old) (served mid) (begun.Write mark end)
      → IsListed mark end written mid new listed → IsBegunSo w t route at unit old new listed
  begun-written mark end written (Ok ended) rests is h l =
      let in_work : new.in_work ≡ None = ap (λ (a : AnsweringState S). a.in_work) l.1 ∙ rests in (
        record {
          answer = begun.Write mark end;
          begun = subst (λ (a : AnsweringState S). IsBegun route at unit (served old) (served a) (begun.Write mark end)) (sym l.1) h;
          kept = (l.0, ap (λ (a : AnsweringState S). a.marks) l.1, in_work, ap (λ (a : AnsweringState S). a.totals) l.1);
          idle = ap (λ (a : AnsweringState S). a.stage) l.1;
        },
        record {
          of = λ most. subst (λ (i : Option (PackageView S)). IfSome i (IsPackageOf w t route most)) (sym in_work) tt;
          one_work = subst (λ (i : Option (PackageView S)). IsOneWork route new.session.waiting new.stage i) (sym in_work) tt;
        },
      )
  begun-written mark end written (Err want) rests is h l = record {
    unwritten = record {
      out = ap (λ (a : AnsweringState S). a.out) l ∙ ap (λ n. take n out) is ∙ written-back route at unit (served old) (served mid) mark end h;
      marks = ap (λ (a : AnsweringState S). a.marks) l;
    };
    in_work = ap (λ (a : AnsweringState S). a.in_work) l ∙ rests;
    totals = inr (ap (λ (a : AnsweringState S). a.totals) l);
  }

  -- its package is begun
  pub begun-works : (job : Work) (started : Result (Option End) Memory) → old.in_work ≡ None
      → IsBegun route at unit (served old) (served mid) (begun.Work job) → IsWorkBegun w t route job mid new started
      → IsBegunSo w t route at unit old new started
  begun-works job (Ok ended) rests h s =
      let in_work : new.in_work ≡ Some (new_package route job) = ap (λ (a : AnsweringState S). a.in_work) s.1 in (
        record {
          answer = begun.Work job;
          begun = subst (λ (a : AnsweringState S). IsBegun route at unit (served old) (served a) (begun.Work job)) (sym s.1) h;
          kept = (s.0, ap (λ (a : AnsweringState S). a.marks) s.1, in_work, ap (λ (a : AnsweringState S). a.totals) s.1);
          idle = ap (λ (a : AnsweringState S). a.stage) s.1;
        },
        record {
          of = λ most. subst (λ (i : Option (PackageView S)). IfSome i (IsPackageOf w t route most)) (sym in_work) (s.2 most);
          one_work = subst (λ (a : AnsweringState S). IsOneWork route a.session.waiting a.stage a.in_work) (sym s.1)
              (work-waits route at unit (served old) (served mid) job h);
        },
      )
  begun-works job (Err want) rests h s = record {
    unwritten = record {
      out = ap (λ (a : AnsweringState S). a.out) s ∙ work-unwritten route at unit (served old) (served mid) job h;
      marks = ap (λ (a : AnsweringState S). a.marks) s;
    };
    in_work = ap (λ (a : AnsweringState S). a.in_work) s ∙ rests;
    totals = inr (ap (λ (a : AnsweringState S). a.totals) s);
  }

  -- memory was wanting for the unit itself
  pub begun-unbegun : (want : Memory) → old.in_work ≡ None → IsBegun route at unit (served old) (served mid) begun.Memory → new ≡ mid
      → IsBegunSo w t route at unit old new (Err want)
  begun-unbegun want rests h is = record {
    unwritten = record { out = ap (λ (a : AnsweringState S). a.out) is ∙ h; marks = ap (λ (a : AnsweringState S). a.marks) is };
    in_work = ap (λ (a : AnsweringState S). a.in_work) is ∙ rests;
    totals = inr (ap (λ (a : AnsweringState S). a.totals) is);
  }

-- ---- of what stood there

-- what is so where memory could be had
pub not-err : {A : Type 0} (done : Result A Memory) (P : Type 0) → is_err done ≡ false → OnOk done P → P
not-err (Ok x) P h p = p
not-err (Err want) P h p = absurd cc

module _ {W S : Type 0} (w : world.Ghosts W) (t : sitting.Ghosts S W) (route : Route) (at : ℕ) (unit : List ℕ)
    (here old new : AnsweringState S) (session : SessionState) (totals : List Total) (out : List ℕ) (stage : SruStage) (is : here ≡ old)
    (made : totals ≡ totals_for route here.totals) (rests : old.in_work ≡ None) (idle : stage ≡ Idle) where
  abbrev then : AnsweringState S
  then = record here { session = session; stage = stage; totals = totals; out = out }

  -- the same with the sums as they are made
  then-is : then ≡ record here { session = session; stage = Idle; totals = totals_for route here.totals; out = out }
  then-is = λ i. record here { session = session; stage = idle i; totals = made i; out = out }

  rests-here : here.in_work ≡ None
  rests-here = ap (λ (a : AnsweringState S). a.in_work) is ∙ rests

  pub written-so : (mark : Option Mark) (end : Option End) (written : ℕ) (listed : Result (Option End) Memory) → written ≡ length here.out
      → IsBegun route at unit (served here) (served then) (begun.Write mark end) → IsListed mark end written then new listed
      → IsBegunSo w t route at unit old new listed
  written-so mark end written listed length_is h l =
      subst (λ (o : AnsweringState S). IsBegunSo w t route at unit o new listed) is
      (begun-written w t route at unit here new session out mark end written listed rests-here length_is h
      (subst (λ (a : AnsweringState S). IsListed mark end written a new listed) then-is l))

  pub works-so : (job : Work) (started : Result (Option End) Memory) → IsBegun route at unit (served here) (served then) (begun.Work job)
      → IsWorkBegun w t route job then new started → IsBegunSo w t route at unit old new started
  works-so job started h s =
      subst (λ (o : AnsweringState S). IsBegunSo w t route at unit o new started) is
      (begun-works w t route at unit here new session out job started rests-here h
      (subst (λ (a : AnsweringState S). IsWorkBegun w t route job a new started) then-is s))

  pub unbegun-so : (want : Memory) → IsBegun route at unit (served here) (served then) begun.Memory → new ≡ then
      → IsBegunSo w t route at unit old new (Err want)
  unbegun-so want h same =
      subst (λ (o : AnsweringState S). IsBegunSo w t route at unit o new (Err want)) is
      (begun-unbegun w t route at unit here new session out want rests-here h (same ∙ then-is))

-- ---- a package that is begun

pub work-begun : {W S : Type 0} (w : world.Ghosts W) (t : sitting.Ghosts S W) (route : Route) (here old : AnsweringState S)
    (place : Option (PackageView S)) (view : PackageView S) (job : Work) → here ≡ old → place ≡ Some view → view ≡ new_package route job
    → ((most : ℕ) → IsPackageOf w t route most view) → IsWorkBegun w t route job old (record here { in_work = place }) (Ok None)
work-begun {S = S} w t route here old place view job is filled new of =
    let placed : place ≡ Some (new_package route job) = filled ∙ ap Some new in
    let at_place : record here { in_work = place } ≡ with_package route job here = λ i. record here { in_work = placed i } in (
      refl,
      at_place ∙ ap (λ (a : AnsweringState S). with_package route job a) is,
      λ most. subst (IsPackageOf w t route most) new (of most),
    )
