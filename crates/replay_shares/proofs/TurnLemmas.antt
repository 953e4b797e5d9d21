-- A request in work: its turns go on, and once it is over its work is done
use Rattle.std.proofs.Common.{◌≡◌, ◌≢◌, ◌∙◌, ◌==◌, ◌<◌, ◌+◌, ℕ, Bool, true, false, List, [], ◌∷◌, ◌++◌, length, map, refl, sym, ap, subst, append-nil, arith}
use Rattle.std.specs.List.{AllByRecursion, sum_by}
use Rattle.std.specs.Prelude.{if◌then◌else◌}
use Rattle.std.proofs.lemmas.List.Sums.{sum_by-cons}
use Rattle.z_types.specs.Bounds.{within64}
use Rattle.z_types.specs.declared.marks.Mark.{Mark}
use Rattle.z_types.specs.declared.sitting.Sitting as sitting
use Rattle.z_types.specs.declared.work.Work.{Work}
use Rattle.z_types.specs.declared.world.World as world
use Rattle.route_config.specs.Sound.{IsSound}
use Rattle.route_config.specs.declared.route.Route.{Route}
use Rattle.replay.specs.gateway_rules.Fair.{IsFair}
use Rattle.replay.specs.gateway_rules.Marks.{Cause, plain}
use Rattle.replay.specs.gateway_rules.OneAnswer.{AreMarksPlain}
use Rattle.package_shares.specs.leg.LegView.{LegView}
use Rattle.package_shares.specs.leg.declared.answers.Turned.{Turned}
use Rattle.package_shares.specs.leg.declared.answers.Turned.TheVariants as turned
use Rattle.package_shares.specs.package.steps.Drives.{PackageAt}
use Rattle.package_shares.specs.package.steps.Ends.{cause_in}
use Rattle.package_shares.specs.package.steps.Packages.{IsOver, IsPackageOf, PackageView, accounts_of, all_accounts, new_package}
use Rattle.package_shares.specs.package.steps.Turns.{IsPackageTurn}
use Rattle.replay.specs.front_conn.declared.totals.Total.{Total}
use Rattle.replay.specs.front_conn.steps.Answering.{Outside}
use Rattle.replay.specs.front_conn.steps.Totals.{totals_after}
use Rattle.sharing_rules.specs.Needed.{count_after}
use Rattle.sharing_rules.specs.Uses.{Use, uses_by, uses_of}
use Rattle.replay.specs.front_conn_costs.steps.Numbers.{Number, dials, faults, gones, searches}
use Rattle.replay.proofs.front_conn_costs.TotalLemmas.{after-classes, made-classes}
use Rattle.package_shares.specs.steps.Requests.{AreTurns, HasShared, IsTurnTo, MayWork, RequestsShare, behind, uses_at}
use Rattle.package_shares.specs.steps.Together.{AreAllKept, AreUndisturbed}
use Rattle.replay_shares.specs.Orderly.{dated}
use Rattle.replay_shares.specs.steps.Costs.{is_needed}
use Rattle.replay_shares.specs.steps.Going.{IsInWork, RestsBehind, uses_now}
use Rattle.replay_shares.proofs.CountLemmas.{all-both, behind-both, count-both, count-none, uses-both}
use Rattle.replay_shares.proofs.SpentLemmas.{all-spent, cost_of}

-- ---- uses of one work more

map-more : (now : ℕ) (works : List Work) (job : Work) → map (dated now) (works ++ job ∷ []) ≡ map (dated now) works ++ dated now job ∷ []
map-more now [] job = refl
map-more now (work ∷ works) job = ap (λ ds. dated now work ∷ ds) (map-more now works job)

uses-more : (route : Route) (now : ℕ) (works : List Work) (job : Work)
    → uses_now route now (works ++ job ∷ []) ≡ uses_now route now works ++ uses_at route now job
uses-more route now works job =
    ap (uses_of route) (map-more now works job) ∙ uses-both route (map (dated now) works) (dated now job ∷ [])
    ∙ ap (λ (us : List Use). uses_now route now works ++ us) (append-nil (uses_by route (dated now job)))

-- ---- marks

one-plain : (marks : List Mark) (cause plainly : Cause) → cause ≡ plainly → AreMarksPlain (plainly.mark ∷ []) → AreMarksPlain marks
    → AreMarksPlain (marks ++ cause.mark ∷ [])
one-plain marks cause plainly is plain h =
    all-both (λ mark. mark ≡ _) marks (cause.mark ∷ []) h (ap (λ (c : Cause). c.mark) is ∙ plain.0, tt)

-- ---- what the legs counted

-- where nothing went wrong no set was gone, and no call failed
none-gone : {S : Type 0} (class : ℕ) (legs : List (LegView S)) → AreUndisturbed legs → sum_by (cost_of gones class) (accounts_of legs) ≡ 0
none-gone class [] h = refl
none-gone class (leg ∷ legs) h =
    let none = h.0.gones in
    let here : cost_of gones class leg.account ≡ 0 = by-class (leg.account.class == class) none in
    let rest = none-gone class legs h.1 in
    sum_by-cons (cost_of gones class) leg.account (accounts_of legs) ∙ omega (arith, here, rest) where
      by-class : {n : ℕ} (b : Bool) → n ≡ 0 → (if b then n else 0) ≡ 0
      by-class true e = e
      by-class false e = refl

none-failed : {S : Type 0} (class : ℕ) (legs : List (LegView S)) → AreUndisturbed legs → sum_by (cost_of faults class) (accounts_of legs) ≡ 0
none-failed class [] h = refl
none-failed class (leg ∷ legs) h =
    let none = h.0.faults in
    let here : cost_of faults class leg.account ≡ 0 = by-class (leg.account.class == class) none in
    let rest = none-failed class legs h.1 in
    sum_by-cons (cost_of faults class) leg.account (accounts_of legs) ∙ omega (arith, here, rest) where
      by-class : {n : ℕ} (b : Bool) → n ≡ 0 → (if b then n else 0) ≡ 0
      by-class true e = e
      by-class false e = refl

module _ {W S : Type 0} (w : world.Ghosts W) (t : sitting.Ghosts S W) (route : Route) (now : ℕ) (before : List Use) (job : Work) (last : PackageAt S)
    (h : HasShared w t route now before job last) where
  -- just what the uses of the work need
  pub legs-cost : (number : Number) (class : ℕ)
      → sum_by (cost_of number class) (all_accounts last.view) ≡ count_after (is_needed w route number class) before (uses_at route now job)
  legs-cost dials class = h.dials class
  legs-cost searches class = h.searches class
  legs-cost gones class = none-gone class (last.view.first ++ last.view.later) h.undisturbed ∙ sym (count-none before (uses_at route now job))
  legs-cost faults class = none-failed class (last.view.first ++ last.view.later) h.undisturbed ∙ sym (count-none before (uses_at route now job))

-- ---- the request in work

module _ {W S : Type 0} (w : world.Ghosts W) (t : sitting.Ghosts S W) (exact : Bool) (route : Route) (now : ℕ) (before : List Use) (start : List Total)
  where
    abbrev At : PackageView S → Outside S → PackageAt S
    At view outside = record { view = view; door = outside.door; backend = outside.backend }

    more-turns : (first old new : PackageAt S) (mids : List (PackageAt S)) → AreTurns w t exact route now first mids old → IsTurnTo w t exact route now old new
        → AreTurns w t exact route now first (old ∷ mids) new
    more-turns first old new mids h turn = (h, turn)

    -- it had a turn, and its work is not over
    pub turn-goes : (old new : PackageView S) (works : List Work) (totals : List Total) (marks : List Mark) (outside after : Outside S) (answer : Turned)
        → answer ≢ turned.Memory → IsPackageTurn w t exact route now old new answer outside.door after.door outside.backend after.backend
        → IsPackageOf w t route after.door.counts.most new → IsInWork w t exact route now before start old works totals marks outside
        → IsInWork w t exact route now before start new works totals marks after
    turn-goes old new works totals marks outside after answer memory law of h = record {
      earlier = h.earlier;
      is = h.is ∙ ap (λ (job : Work). h.earlier ++ job ∷ []) (sym law.work);
      done = h.done;
      made = h.made;
      may = subst (λ (job : Work). MayWork route now (behind before (uses_now route now h.earlier)) job) (sym law.work) h.may;
      first = h.first;
      mids = At old outside ∷ h.mids;
      begins = h.begins ∙ ap (new_package route) (sym law.work);
      kept = h.kept;
      turns = more-turns h.first (At old outside) (At new after) h.mids h.turns
          (record { answer = answer; memory = memory; law = law; of = of });
    }

    module _ (law : RequestsShare w t) (is : exact ≡ true) (fair : IsFair w route) (sound : IsSound route) where
      -- what its legs have shared
      pub shared : (view : PackageView S) (works : List Work) (totals : List Total) (marks : List Mark) (outside : Outside S) → IsOver view
          → (h : IsInWork w t exact route now before start view works totals marks outside)
          → HasShared w t route now (behind before (uses_now route now h.earlier)) view.work (At view outside)
      shared view works totals marks outside over h =
          law exact route now (behind before (uses_now route now h.earlier)) view.work h.first (At view outside) h.mids is fair sound h.may
          h.begins h.kept h.turns over

      -- once it is over its work is done: what its legs counted is added, and its mark is Plain
      pub work-over : (view : PackageView S) (works : List Work) (totals : List Total) (marks : List Mark) (outside : Outside S) → IsOver view
          → AllByRecursion (λ account. account.class < length route.classes) (all_accounts view)
          → IsInWork w t exact route now before start view works totals marks outside
          → RestsBehind w t exact route now before start works (totals_after totals (all_accounts view)) (marks ++ (cause_in route view).mark ∷ []) outside
      work-over view works totals marks outside over inside h =
          let done = shared view works totals marks outside over h in
          let all : uses_now route now works ≡ uses_now route now h.earlier ++ uses_at route now view.work =
          ap (uses_now route now) h.is ∙ uses-more route now h.earlier view.work in
          let on : behind before (uses_now route now works) ≡ behind (behind before (uses_now route now h.earlier)) (uses_at route now view.work) =
          ap (behind before) all ∙ behind-both before (uses_now route now h.earlier) (uses_at route now view.work) in record {
            done = record {
              made = made-classes route (totals_after totals (all_accounts view)) (after-classes totals (all_accounts view) ∙ h.made);
              plain = one-plain marks (cause_in route view) plain done.unmarked (refl, tt) h.done.plain;
              cost = λ number class others.
                  let needs = count_after (is_needed w route number class) before (uses_now route now h.earlier) in
                  let more = count_after (is_needed w route number class) (behind before (uses_now route now h.earlier)) (uses_at route now view.work) in
                  let sums : count_after (is_needed w route number class) before (uses_now route now works) ≡ needs + more =
                  ap (count_after (is_needed w route number class) before) all
                  ∙ count-both (is_needed w route number class) before (uses_now route now h.earlier) (uses_at route now view.work) in
                  let legs = legs-cost w t route now (behind before (uses_now route now h.earlier)) view.work (At view outside) done number class in
                  let earlier = h.done.cost number class (others + more) in
                  all-spent number class route totals (all_accounts view) others h.made inside
                  ∙ ap within64 (omega (arith, legs)) ∙ earlier ∙ ap within64 (omega (arith, sums));
            };
            kept = record {
              pool = done.kept.pool;
              told = done.kept.told;
              kept = subst (λ (us : List Use). AreAllKept w route now us done.kept.pool) (sym on) done.kept.kept;
              calm = done.kept.calm;
            };
          }
