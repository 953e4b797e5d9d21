-- A request from its first turn to its last: its legs share their classes, as the uses of its work need
use Rattle.std.proofs.Common.{◌≡◌, ◌∙◌, ℕ, Bool, true, false, List, [], ◌∷◌, ◌++◌, map, Some, refl, sym, ap, subst, arith}
use Rattle.std.specs.Prelude.{sum_by}
use Rattle.std.specs.List.{AllByRecursion, IsDistinct}
use Rattle.std.proofs.lemmas.List.{append-nil, map-append}
use Rattle.std.proofs.lemmas.List.Sums.{sum_by-append}
use Rattle.z_types.specs.declared.sitting.Sitting as sitting
use Rattle.z_types.specs.declared.work.Work.{Work}
use Rattle.z_types.specs.declared.world.World as world
use Rattle.gateway_rules.specs.Fair.{IsFair}
use Rattle.route_config.specs.Sound.{IsSound}
use Rattle.route_config.specs.declared.route.Route.{Route}
use Rattle.pool_sets.specs.Plain.{Pool}
use Rattle.package_quiet.specs.leg.LegView.{LegView}
use Rattle.package_quiet.specs.leg.declared.accounts.Account.{Account}
use Rattle.package_quiet.specs.package_rules.Asked.{Asked, first_asked}
use Rattle.package_quiet.specs.package_rules.Planned.{then_asked_by}
use Rattle.package_quiet.specs.package_rules.Said.{cause_of}
use Rattle.package_quiet.specs.package.steps.Drives.{PackageAt}
use Rattle.package_quiet.specs.package.steps.Packages.{AreDone, IsOver, IsPackageOf, IsPlanned, PackageView, accounts_of, all_accounts, answers_of, asked_of, begun, new_package}
use Rattle.sharing_rules.specs.Needed.{count_after, needs_dial, needs_search}
use Rattle.sharing_rules.specs.Sharers.{Sharers}
use Rattle.sharing_rules.specs.Uses.{Use}
use Rattle.leg_shares.specs.steps.Pools.{HaveSameLast}
use Rattle.package_quiet.specs.steps.Quiet.{AreWell, HasNoCause, IsCalm, IsToldRoute}
use Rattle.package_quiet.proofs.PackageLemmas.{new-well, package-well}
use Rattle.package_shares.specs.steps.Packages.{MayPackageShare, PackageShares}
use Rattle.package_shares.specs.steps.Requests.{AreTurns, HasShared, IsKeptAt, IsTurnTo, MayWork, behind, dials_in, searches_in, uses_at}
use Rattle.package_shares.specs.steps.Together.{AreAllKept, AreSharing, AreUndisturbed, HadItsCost, MayShare, uses_behind}
use Rattle.package_shares.proofs.AgainLemmas.{NeedsNoMore, again-dials, again-last, again-searches, legs-need}
use Rattle.package_shares.proofs.CostLemmas.{behind-legs, dials-counted, nothing-counted, searches-counted, uses_in}
use Rattle.package_shares.proofs.EndedLemmas.{IsEndedLeg, cause-past, ended-done, ended-own, legs-ended}
use Rattle.package_shares.proofs.MayLemmas.{first-differ, first-own, legs-apart, may-again, may-first}
use Rattle.package_shares.proofs.NeedLemmas.{AreNeedless, NeedsNothing, then-needless}
use Rattle.package_shares.proofs.OwnUses.{same-dials, same-last, same-searches}
use Rattle.package_shares.proofs.PackageLemmas.{back-all, front-all, package-begins, package-shares, package-unfull, undisturbed}
use Rattle.package_shares.proofs.RoundLemmas.{AreUnfull}
use Rattle.package_shares.proofs.UsesLemmas.{all-by-last, done-leave, same-self}
use Rattle.leg_shares.proofs.MemberLemmas.{fair-one}

-- what is asked of legs that are begun
begun-asked : (S : Type 0) (asked : List Asked) → map (asked_of {S = S}) (map begun asked) ≡ asked
begun-asked S [] = refl
begun-asked S (ask ∷ asked) = ap (λ (others : List Asked). ask ∷ others) (begun-asked S asked)

begun-unfull : (S : Type 0) (asked : List Asked) → AreUnfull {S = S} (map begun asked)
begun-unfull S [] = tt
begun-unfull S (ask ∷ asked) = (refl, begun-unfull S asked)

fair-told : {W : Type 0} (w : world.Ghosts W) (route : Route) → IsFair w route → IsToldRoute w route
fair-told w route fair login class there address among = (fair login class there).told address among

module _ {W S : Type 0} (w : world.Ghosts W) (t : sitting.Ghosts S W) (exact : Bool) (route : Route) (now : ℕ) (before : List Use) (asked : Work)
    (counts : exact ≡ true) (fair : IsFair w route) (sound : IsSound route) (may : MayWork route now before asked) where
  -- ---- what its legs may

  -- behind the legs that are asked first
  abbrev used : List (LegView S) → List Use
  used first = behind before (uses_in route now first)

  -- what a package of the route asks then needs nothing
  then-need : (most : ℕ) (view : PackageView S) → view.work ≡ asked → (of : IsPackageOf w t route most view) (done : AreDone view.first)
      → (asks : map asked_of view.first ≡ first_asked route asked)
      → AreNeedless w t route now before most (λ who. fair-one w route who fair) view.first
      (first-differ w route now before asked fair sound may view.first asks)
      (legs-ended w t route most view.first done of.first) (then_asked_by route asked (answers_of view.first))
  then-need most view is of done asks =
      then-needless w t route now before most (λ who. fair-one w route who fair) view.first
      (first-differ w route now before asked fair sound may view.first asks) (legs-ended w t route most view.first done of.first) asked asks may.apart

  later-may : (planned : Bool) (most : ℕ) (view : PackageView S) → view.work ≡ asked → IsPackageOf w t route most view
      → (asks : map asked_of view.first ≡ first_asked route asked) → IsPlanned planned route view → MayShare w route now (used view.first) view.later
  unfolding IsDistinct
  later-may false most view is of asks then =
      subst (λ (ls : List (LegView S)). MayShare w route now (used view.first) ls) (sym then)
      (may-again w route now before asked fair sound may view.first asks [] tt tt)
  later-may true most view is of asks then =
      let need = then-need most view is of then.0 asks in
      let same : map asked_of view.later ≡ then_asked_by route asked (answers_of view.first) =
      then.1 ∙ ap (λ (x : Work). then_asked_by route x (answers_of view.first)) is in
      may-again w route now before asked fair sound may view.first asks view.later (legs-apart route view.later _ same need.differ)
      (legs-need w route now (used view.first) view.later
      (subst (λ (all_of : List Asked). AllByRecursion (NeedsNothing w route now (used view.first)) all_of) (sym same) need.each))

  pub package-may : (most : ℕ) (view : PackageView S) → view.work ≡ asked → IsPackageOf w t route most view → MayPackageShare w route now before view
  package-may most view is of =
      let asks = of.asks.at_first ∙ ap (first_asked route) is in record {
        first = may-first w route now before asked fair sound may view.first asks;
        later =
            subst (λ (us : List Use). MayShare w route now us view.later) (sym (behind-legs route now view.first before))
            (later-may view.planned most view is of asks of.asks.then);
      }

  pub begun-may : MayPackageShare w route now before (new_package {S = S} route asked)
  unfolding IsDistinct
  begun-may =
      let first : List (LegView S) = map begun (first_asked route asked) in
      let asks = begun-asked S (first_asked route asked) in record {
        first = may-first w route now before asked fair sound may first asks;
        later =
            subst (λ (us : List Use). MayShare {S = S} w route now us []) (sym (behind-legs route now first before))
            (may-again w route now before asked fair sound may first asks [] tt tt);
      }

  -- ---- from turn to turn

  record IsServing (here : PackageAt S) : Type 0 where
    work : here.view.work ≡ asked
    pool : Pool S
    told : here.door.pool ≡ Some pool
    calm : IsCalm w t here.door.pool here.backend
    well : AreWell w t route (here.view.first ++ here.view.later)
    unfull : AreUnfull here.view.first × AreUnfull here.view.later
    may_share : MayPackageShare w route now before here.view
    shares : PackageShares w t route now before here.view.planned here.view pool
    most : ℕ
    of : here.view.planned ≡ true → IsPackageOf w t route most here.view

  serves-on : (here next : PackageAt S) → IsServing here → IsTurnTo w t exact route now here next → IsServing next
  serves-on here next so turn =
      let well = package-well w t exact route now counts (fair-told w route fair) here.view next.view turn.answer here.door next.door here.backend
      next.backend turn.law so.calm so.well in
      let none = undisturbed w t route (next.view.first ++ next.view.later) well.0 in
      let over = package-shares w t exact route now before here.view next.view turn.answer here.door next.door here.backend next.backend so.pool
      so.may_share turn.law turn.memory none so.told so.shares in
      let work = turn.law.work ∙ so.work in
      record {
        work = work;
        pool = over.pool;
        told = over.told;
        calm = well.1.calm;
        well = well.0;
        unfull =
            package-unfull w t exact route now before here.view next.view turn.answer here.door next.door here.backend next.backend so.pool
            so.may_share turn.law turn.memory none so.told so.shares so.unfull.0 so.unfull.1;
        may_share = package-may next.door.counts.most next.view work turn.of;
        shares = over.shares;
        most = next.door.counts.most;
        of = λ planned. turn.of;
      }

  serves-first : (first : PackageAt S) → first.view ≡ new_package route asked → IsKeptAt w t route now before first → IsServing first
  unfolding IsDistinct
  serves-first first is kept =
      let begins : PackageShares w t route now before false (new_package {S = S} route asked) kept.pool =
      package-begins w t route now before kept.pool kept.kept asked in
      record {
        work = ap (λ (v : PackageView S). v.work) is;
        pool = kept.pool;
        told = kept.told;
        calm = kept.calm;
        well = subst (λ (v : PackageView S). AreWell w t route (v.first ++ v.later)) (sym is) (new-well w t route asked);
        unfull =
            subst (λ (v : PackageView S). AreUnfull v.first × AreUnfull v.later) (sym is) (begun-unfull S (first_asked route asked), tt);
        may_share = subst (λ (v : PackageView S). MayPackageShare w route now before v) (sym is) begun-may;
        shares = subst (λ (v : PackageView S). PackageShares w t route now before v.planned v kept.pool) (sym is) begins;
        most = 0;
        of = λ planned. let wrong : false ≡ true = ap (λ (v : PackageView S). v.planned) (sym is) ∙ planned in absurd cc;
      }

  serves-last : (first : PackageAt S) (earlier : List (PackageAt S)) (last : PackageAt S) → IsServing first
      → AreTurns w t exact route now first earlier last → IsServing last
  serves-last first [] last so turns = subst IsServing (sym turns) so
  serves-last first (mid ∷ earlier) last so turns = serves-on mid last (serves-last first earlier mid so turns.0) turns.1

  -- ---- a package that is over

  all-counted : (number : Account → ℕ) (view : PackageView S) (all : ℕ) → sum_by number (accounts_of view.first) ≡ all
      → sum_by number (accounts_of view.later) ≡ 0 → sum_by number (all_accounts view) ≡ all
  all-counted number view all first later =
      ap (sum_by number) (map-append (λ (leg : LegView S). leg.account) view.first view.later)
      ∙ sum_by-append number (accounts_of view.first) (accounts_of view.later) ∙ omega (arith, first, later)

  module _ (last : PackageAt S) (so : IsServing last) (over : IsOver last.view) where
    abbrev view : PackageView S
    view = last.view

    own : IsPackageOf w t route so.most view
    own = so.of over.planned

    asks : map asked_of view.first ≡ first_asked route asked
    asks = own.asks.at_first ∙ ap (first_asked route) so.work

    abbrev uses : List Use
    uses = uses_at route now asked

    -- its first legs had what their uses need, and those for records share behind them
    served : AllByRecursion (HadItsCost w route now before) view.first × AreSharing w t route now (used view.first) view.later so.pool
    served =
        let both = subst (λ (b : Bool). PackageShares w t route now before b view so.pool) over.planned so.shares in (
          both.0,
          subst (λ (us : List Use). AreSharing w t route now us view.later so.pool) (behind-legs route now view.first before) both.1,
        )

    first-ended : AllByRecursion (IsEndedLeg w t route so.most) view.first
    first-ended = legs-ended w t route so.most view.first over.first own.first

    later-ended : AllByRecursion (IsEndedLeg w t route so.most) view.later
    later-ended = legs-ended w t route so.most view.later over.later own.later

    later-asks : map asked_of view.later ≡ then_asked_by route asked (answers_of view.first)
    later-asks =
        (subst (λ (b : Bool). IsPlanned b route view) over.planned own.asks.then).1
        ∙ ap (λ (x : Work). then_asked_by route x (answers_of view.first)) so.work

    need : AllByRecursion (NeedsNoMore w route now (used view.first)) view.later
    need =
        legs-need w route now (used view.first) view.later
        (subst (λ (all_of : List Asked). AllByRecursion (NeedsNothing w route now (used view.first)) all_of) (sym later-asks)
        (then-need so.most view so.work own over.first asks).each)

    later-left : AllByRecursion (HadItsCost w route now (used view.first)) view.later
        × AreAllKept w route now (uses_behind route now (used view.first) view.later) so.pool
    later-left =
        done-leave w t route now (used view.first) so.pool view.later
        (legs-apart route view.later _ later-asks (then-need so.most view so.work own over.first asks).differ) served.1
        (ended-done w t route so.most view.later later-ended)

    -- the last uses are those of the work
    uses-same : (who : Sharers) → HaveSameLast who (uses_behind route now (used view.first) view.later) (behind before uses)
    uses-same who =
        let more = again-last w route now (used view.first) view.later (used view.first) need (λ k. same-self k (used view.first)) who in
        let work = same-last who (uses_in route now view.first) uses before (sym (first-own w route now before asked fair sound may view.first asks who.class)) in
        let legs : uses_behind route now (used view.first) view.later ≡ behind (used view.first) (uses_in route now view.later) =
        behind-legs route now view.later (used view.first) in
        subst (λ (us : List Use). HaveSameLast who us (behind before uses)) (sym legs) (record {
          of_theirs = work.of_theirs ∙ sym more.of_theirs;
          of_key = λ key. work.of_key key ∙ sym (more.of_key key);
        })

    kept : AreAllKept w route now (behind before uses) so.pool
    kept =
        all-by-last w route now (uses_behind route now (used view.first) view.later) (behind before uses) so.pool uses-same later-left.1

    none : AreUndisturbed (view.first ++ view.later)
    none = undisturbed w t route (view.first ++ view.later) so.well

    shared : HasShared w t route now before asked last
    shared = record {
      kept = record { pool = so.pool; told = so.told; kept = kept; calm = so.calm };
      undisturbed = none;
      unmarked =
          cause-past w t route so.most view.first (answers_of view.later) sound.pool first-ended (front-all (λ leg. HasNoCause leg.account) view.first view.later none)
          so.unfull.0 ∙ ap (cause_of route) (sym (append-nil (answers_of view.later)))
          ∙ cause-past w t route so.most view.later [] sound.pool later-ended (back-all (λ leg. HasNoCause leg.account) view.first view.later none) so.unfull.1;
      dials = λ class.
          all-counted (dials_in class) view (count_after (needs_dial route class) before uses)
          (dials-counted route now w before class view.first (first-differ w route now before asked fair sound may view.first asks)
          (ended-own w t route so.most view.first first-ended) served.0
          ∙ same-dials class uses (uses_in route now view.first) before (first-own w route now before asked fair sound may view.first asks class) route)
          (nothing-counted route now (λ account. account.dials) class view.later (again-dials w route now (used view.first) sound.pool view.later need later-left.0));
      searches = λ class.
          all-counted (searches_in class) view (count_after (needs_search w route class) before uses)
          (searches-counted route now w before class view.first (first-differ w route now before asked fair sound may view.first asks)
          (ended-own w t route so.most view.first first-ended) served.0
          ∙ same-searches class uses (uses_in route now view.first) before (first-own w route now before asked fair sound may view.first asks class) w route)
          (nothing-counted route now (λ account. account.searches) class view.later (again-searches w route now (used view.first) sound.pool view.later need later-left.0));
    }

  pub request-shares : (first last : PackageAt S) (earlier : List (PackageAt S)) → first.view ≡ new_package route asked
      → IsKeptAt w t route now before first → AreTurns w t exact route now first earlier last → IsOver last.view
      → HasShared w t route now before asked last
  request-shares first last earlier is kept turns over =
      shared last (serves-last first earlier last (serves-first first is kept) turns) over
