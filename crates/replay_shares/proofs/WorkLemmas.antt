-- The works of a run, one behind another, whatever the kind of its connection: a work is begun, has its turns, and is over
use Rattle.std.proofs.Common.{◌≡◌, ◌≢◌, ◌⊎◌, ◌∙◌, ◌==◌, ◌<◌, ◌≤◌, ◌+◌, ℕ, Bool, true, false, inl, inr, List, [], ◌∷◌, ◌++◌, length, map, drop, get_or, slice_get, All, Option, None, Some, Result, Ok, Err, refl, sym, ap, subst, arith}
use Rattle.std.specs.List.{AllByRecursion, range_with_len}
use Rattle.std.specs.Option.{option_map_or}
use Rattle.std.specs.Prelude.{if◌then◌else◌}
use Rattle.std.proofs.Math.Seq.{drop-append_seam}
use Rattle.std.proofs.lemmas.List.{map-append}
use Rattle.std.proofs.lemmas.List.Elements.{All-append, All-get_or, recursion_from_All}
use Rattle.std.proofs.lemmas.List.Sums.{sum_by-cons}
use Rattle.std.proofs.lemmas.Option.{slice_get_cases}
use Rattle.z_types.specs.Bounds.{within64}
use Rattle.z_types.specs.declared.marks.End.{End}
use Rattle.z_types.specs.declared.marks.Mark.{Mark}
use Rattle.z_types.specs.declared.marks.Mark.TheVariants.{Plain}
use Rattle.z_types.specs.declared.memory.Memory.{Memory as NoMemory}
use Rattle.z_types.specs.declared.sitting.Sitting as sitting
use Rattle.z_types.specs.declared.work.Work.{Work}
use Rattle.z_types.specs.declared.world.World as world
use Rattle.route_config.specs.Sound.{IsSound}
use Rattle.route_config.specs.declared.route.Route.{Route}
use Rattle.route_config.specs.declared.route.RouteLeg.{RouteLeg}
use Rattle.replay.specs.gateway_rules.Fair.{IsFair}
use Rattle.replay.specs.gateway_rules.OneAnswer.{AreMarksPlain}
use Rattle.package_shares.specs.leg.LegView.{LegView}
use Rattle.package_shares.specs.leg.Kept.{StandsAt}
use Rattle.package_shares.specs.leg.Phases.{answered}
use Rattle.package_shares.specs.leg.Terms.{class_of, terms_of}
use Rattle.package_shares.specs.leg.Turns.{IsLegOf}
use Rattle.package_shares.specs.leg.declared.answers.LegAnswer.{LegAnswer}
use Rattle.package_shares.specs.leg.declared.phases.Phase.{Phase}
use Rattle.package_shares.specs.leg.declared.phases.Phase.TheVariants.{Begin, Dialling, Dialled, Ready, Searching, Presenting, Fetching, Scanning, Returning, Losing, Redialling, Spoiled, Done, Ended}
use Rattle.package_shares.specs.leg.declared.answers.Turned.{Turned}
use Rattle.package_shares.specs.leg.declared.answers.Turned.TheVariants as turned
use Rattle.package_shares.specs.package_rules.Planned.{AreThere}
use Rattle.package_shares.specs.package.steps.Ends.{cause_in}
use Rattle.package_shares.specs.package.steps.Packages.{HasFitting, IsOver, IsPackageOf, PackageView, accounts_of, all_accounts, new_package}
use Rattle.package_shares.specs.package.steps.Turns.{IsPackageTurn}
use Rattle.replay.specs.front_conn.declared.stepped.Stepped.{Stepped}
use Rattle.replay.specs.front_conn.declared.stepped.Stepped.TheVariants.{Idle, Memory}
use Rattle.replay.specs.front_conn.declared.totals.Total.{Total}
use Rattle.replay.specs.front_conn.steps.Answering.{AnsweringState, EndsAt, EndsWork, IsEndAfter, Outside, TurnsWork, WorksOn}
use Rattle.replay.specs.front_conn.steps.Totals.{no_total, totals_for}
use Rattle.sharing_rules.specs.Needed.{count_after}
use Rattle.sharing_rules.specs.Uses.{DatedWork, Use, uses_of}
use Rattle.sharing_rules.specs.steps.Shared.{AreInOrder}
use Rattle.replay.specs.front_conn_costs.steps.Conns.{AreTotalsOf, in_total}
use Rattle.replay.specs.front_conn_costs.steps.Numbers.{Number, dials, faults, gones, searches}
use Rattle.replay.proofs.front_conn_costs.TotalLemmas.{after-classes, made-classes}
use Rattle.package_shares.specs.steps.Requests.{MayWork, RequestsShare, behind}
use Rattle.replay_shares.specs.Orderly.{dated}
use Rattle.replay_shares.specs.steps.Costs.{cost_in, cost_on, is_needed}
use Rattle.replay_shares.specs.steps.Going.{IsInWork, RestsBehind, uses_now}
use Rattle.replay_shares.specs.steps.Laws.{works_now}
use Rattle.replay_shares.specs.steps.Resting.{IsKeptOver, MayDo}
use Rattle.replay_shares.proofs.CountLemmas.{all-both, may-first, may-rest, order-behind, works-at}
use Rattle.replay_shares.proofs.MayLemmas.{may-work}
use Rattle.replay_shares.proofs.TurnLemmas.{turn-goes, work-over}

-- ---- sums that are made

nothing-in : (number : Number) (class : ℕ) → in_total number (no_total class) ≡ 0
nothing-in dials class = refl
nothing-in searches class = refl
nothing-in gones class = refl
nothing-in faults class = refl

none-in : (number : Number) (class own : ℕ) → cost_in number class (no_total own) ≡ 0
none-in number class own = by-class (own == class) where
  by-class : (b : Bool) → (if b then in_total number (no_total own) else 0) ≡ 0
  by-class true = nothing-in number own
  by-class false = refl

none-cost : (number : Number) (class : ℕ) (classes : List ℕ) → cost_on number class (map no_total classes) ≡ 0
none-cost number class [] = refl
none-cost number class (own ∷ classes) =
    let here = none-in number class own in
    let rest = none-cost number class classes in
    sum_by-cons (cost_in number class) (no_total own) (map no_total classes) ∙ omega (arith, here, rest)

-- they have cost nothing more
cost-for : (number : Number) (class : ℕ) (route : Route) (totals : List Total)
    → cost_on number class (totals_for route totals) ≡ cost_on number class totals
cost-for number class route [] = none-cost number class (range_with_len 0 (length route.classes))
cost-for number class route (total ∷ totals) = refl

-- ---- the legs of a package that is over

class-by : (legs : List RouteLeg) (place classes : ℕ) → All (λ (l : RouteLeg). l.class < classes) legs → place < length legs
    → ((x : RouteLeg) × (place < length legs) × (slice_get legs place ≡ Some x) × (get_or legs place x ≡ x))
    ⊎ ((length legs ≤ place) × (slice_get legs place ≡ None))
    → option_map_or (λ (l : RouteLeg). l.class) (slice_get legs place) 0 < classes
class-by legs place classes below inside (inl h) =
    subst (λ (l : Option RouteLeg). option_map_or (λ (x : RouteLeg). x.class) l 0 < classes) (sym h.2)
    (subst (λ (l : RouteLeg). l.class < classes) h.3 (All-get_or (λ (l : RouteLeg). l.class < classes) legs place h.0 inside below))
class-by legs place classes below inside (inr h) = let past = h.0 in absurd (omega (arith, inside, past))

class-inside : (route : Route) (place : ℕ) → IsSound route → place < length route.legs → class_of route place < length route.classes
class-inside route place sound inside =
    class-by route.legs place (length route.classes) sound.places.classes inside (slice_get_cases route.legs place).1

module _ {S : Type 0} where
  -- a leg that has answered is done
  done-is : (phase : Phase S) (said : LegAnswer) → answered phase ≡ Some said → phase ≡ Done said
  done-is Begin said is = absurd cc
  done-is (Dialling seat member) said is = absurd cc
  done-is (Dialled held looks) said is = absurd cc
  done-is (Ready held items) said is = absurd cc
  done-is (Searching held items slot looks) said is = absurd cc
  done-is (Presenting held items slot hits) said is = absurd cc
  done-is (Fetching held items slot hits looks) said is = absurd cc
  done-is (Scanning held looks) said is = absurd cc
  done-is (Returning held own) said is = absurd cc
  done-is (Losing seat own) said is = absurd cc
  done-is (Redialling seat) said is = absurd cc
  done-is (Spoiled seat) said is = absurd cc
  done-is (Done own) said is = ap Done (let same : own ≡ said = cc in same)
  done-is Ended said is = absurd cc

module _ {W S : Type 0} (w : world.Ghosts W) (t : sitting.Ghosts S W) (route : Route) (most : ℕ) (sound : IsSound route) where
  leg-inside : (leg : LegView S) (said : Option LegAnswer) → answered leg.phase ≡ said → HasFitting leg.task said → IsLegOf w t route most leg
      → leg.account.class < length route.classes
  leg-inside leg None is fits of = absurd fits
  leg-inside leg (Some said) is fits of =
      let stands = subst (λ (x : Phase S). StandsAt w t (terms_of route leg.login leg.leg) most leg.task x leg.account) (done-is leg.phase said is) of.stands in
      subst (λ (c : ℕ). c < length route.classes) (sym stands.2) (class-inside route leg.leg sound of.place)

  legs-inside : (legs : List (LegView S)) → AllByRecursion (λ (leg : LegView S). HasFitting leg.task (answered leg.phase)) legs
      → AllByRecursion (IsLegOf w t route most) legs → AllByRecursion (λ account. account.class < length route.classes) (accounts_of legs)
  legs-inside [] done are = tt
  legs-inside (leg ∷ legs) done are = (leg-inside leg (answered leg.phase) refl done.0 are.0, legs-inside legs done.1 are.1)

  -- all that they counted is of classes of the route
  accounts-inside : (view : PackageView S) → IsOver view → IsPackageOf w t route most view
      → AllByRecursion (λ account. account.class < length route.classes) (all_accounts view)
  accounts-inside view over of =
      let legs = view.first ++ view.later in
      let done = All-append (λ (leg : LegView S). HasFitting leg.task (answered leg.phase)) view.first view.later over.first over.later in
      let are = All-append (IsLegOf w t route most) view.first view.later of.first of.later in
      legs-inside legs (recursion_from_All (λ (leg : LegView S). HasFitting leg.task (answered leg.phase)) legs done)
      (recursion_from_All (IsLegOf w t route most) legs are)

-- ---- the works of a run

-- what is asked now is what was begun since the run began
pub now-works : (now : ℕ) (asked works all : List Work) → all ≡ asked ++ works → works_now now asked all ≡ map (dated now) works
now-works now asked works all is =
    ap (λ (ws : List Work). map (dated now) (drop (length asked) ws)) is ∙ ap (map (dated now)) (drop-append_seam asked works)

module _ {W S : Type 0} (w : world.Ghosts W) (t : sitting.Ghosts S W) (exact : Bool) (route : Route) (now : ℕ) (before : List Use)
    (start : List Total) where
  abbrev pub Rests : List Work → List Total → List Mark → Outside S → Type 0
  Rests works totals marks outside = RestsBehind w t exact route now before start works totals marks outside

  abbrev pub InWork : PackageView S → List Work → List Total → List Mark → Outside S → Type 0
  InWork view works totals marks outside = IsInWork w t exact route now before start view works totals marks outside

  -- by whether a request is in work: where one is the connection has not ended
  abbrev pub GoesBy : Option (PackageView S) → Option End → List Work → List Total → List Mark → Outside S → Type 0
  GoesBy None end works totals marks outside = Rests works totals marks outside
  GoesBy (Some view) end works totals marks outside = (end ≡ None) × InWork view works totals marks outside

  pub goes-same : (one other : Option (PackageView S)) (end ended : Option End) (works others : List Work) (totals sums : List Total)
      (marks listed : List Mark) (outside : Outside S) → one ≡ other → end ≡ ended → works ≡ others → totals ≡ sums → marks ≡ listed
      → GoesBy other ended others sums listed outside → GoesBy one end works totals marks outside
  goes-same one other end ended works others totals sums marks listed outside a b c d e h =
      subst (λ (i : Option (PackageView S)). GoesBy i end works totals marks outside) (sym a)
      (subst (λ (x : Option End). GoesBy other x works totals marks outside) (sym b)
      (subst (λ (ws : List Work). GoesBy other ended ws totals marks outside) (sym c)
      (subst (λ (ts : List Total). GoesBy other ended others ts marks outside) (sym d)
      (subst (λ (ms : List Mark). GoesBy other ended others sums ms outside) (sym e) h))))

  -- ---- none is in work

  -- a run begins so, where a connection rests over a pool that is kept
  pub first-rests : (marks : List Mark) (outside : Outside S) → AreTotalsOf route (totals_for route start) → AreMarksPlain marks
      → IsKeptOver w t route now before outside → Rests [] start marks outside
  first-rests marks outside made plain kept = record {
    done = record {
      made = made;
      plain = plain;
      cost = λ number class others.
          ap (λ (n : ℕ). within64 (others + n))
          (let none : cost_on number class start ≡ cost_on number class start + 0 = omega arith in none);
    };
    kept = kept;
  }

  -- a request is answered at once
  pub once-rests : (works : List Work) (totals : List Total) (marks more : List Mark) (outside : Outside S) → AreMarksPlain more
      → Rests works totals marks outside → Rests works (totals_for route totals) (marks ++ more) outside
  once-rests works totals marks more outside plain h = record {
    done = record {
      made = made-classes route (totals_for route totals) h.done.made;
      plain = all-both (λ mark. mark ≡ Plain) marks more h.done.plain plain;
      cost = λ number class others.
          ap (λ (n : ℕ). within64 (others + n)) (cost-for number class route totals) ∙ h.done.cost number class others;
    };
    kept = h.kept;
  }

  -- ---- one is begun

  -- the work behind those that were begun may be done
  pub may-next : (works : List Work) (job : Work) (rest : List Work) → MayDo route before (map (dated now) (works ++ job ∷ rest))
      → AreThere route job → AreInOrder now before → MayWork route now (behind before (uses_now route now works)) job
  may-next works job rest may there falls =
      let all : MayDo route before (map (dated now) works ++ dated now job ∷ map (dated now) rest) =
      subst (λ (ds : List DatedWork). MayDo route before ds) (map-append (dated now) works (job ∷ rest)) may in
      let here = may-rest route before (map (dated now) works) (dated now job ∷ map (dated now) rest) all in
      may-work route now (behind before (uses_now route now works)) job
      (may-first route (behind before (uses_now route now works)) (dated now job ∷ []) (map (dated now) rest) here) there
      (order-behind now before (uses_now route now works) falls (works-at route now works))

  pub begun-works : (works : List Work) (job : Work) (totals : List Total) (marks : List Mark) (outside : Outside S)
      → MayWork route now (behind before (uses_now route now works)) job → Rests works totals marks outside
      → InWork (new_package route job) (works ++ job ∷ []) (totals_for route totals) marks outside
  begun-works works job totals marks outside may h = record {
    earlier = works;
    is = refl;
    done = record {
      made = made-classes route (totals_for route totals) h.done.made;
      plain = h.done.plain;
      cost = λ number class others.
          ap (λ (n : ℕ). within64 (others + n)) (cost-for number class route totals) ∙ h.done.cost number class others;
    };
    made = h.done.made;
    may = may;
    first = record { view = new_package route job; door = outside.door; backend = outside.backend };
    mids = [];
    begins = refl;
    kept = record { pool = h.kept.pool; told = h.kept.told; kept = h.kept.kept; calm = h.kept.calm };
    turns = refl;
  }

  -- ---- a turn of the package in work

  -- its request is still in work
  pub record StaysInWork (works : List Work) (old new : AnsweringState S) (answer : Stepped) (end : Option End) (after : Outside S)
      : Type 0 where
    pub next : PackageView S
    pub wakes : answer ≢ Idle
    pub is : new ≡ record old { in_work = Some next }
    pub goes_on : end ≡ None
    pub in_work : InWork next works old.totals old.marks after

  -- or its work is done: its request is to be answered, or a GET goes on
  pub record IsWorkDone (works : List Work) (old new : AnsweringState S) (answer : Stepped) (end : Option End) (after : Outside S)
      : Type 0 where
    pub next : PackageView S
    pub of : IsPackageOf w t route after.door.counts.most next
    pub over : IsOver next
    pub was : InWork next works old.totals old.marks after
    pub made : AreTotalsOf route new.totals
    pub wakes : answer ≢ Idle
    pub ended : Option End
    pub went : EndsAt route old.stage next old new (Ok ended)
    pub is_end : end ≡ ended
    pub rests : Rests works new.totals (old.marks ++ (cause_in route next).mark ∷ []) after

  module _ (law : RequestsShare w t) (is : exact ≡ true) (fair : IsFair w route) (sound : IsSound route) (works : List Work)
      (view next : PackageView S) (old new : AnsweringState S) (answer : Stepped) (end : Option End) (outside after : Outside S)
      (had : answer ≢ Memory) (of : IsPackageOf w t route after.door.counts.most next)
      (h : InWork view works old.totals old.marks outside) where
    over-done : (done : Result (Option End) NoMemory)
        → IsPackageTurn w t exact route now view next turned.Done outside.door after.door outside.backend after.backend
        → EndsWork route next old new done → IsEndAfter done end answer → IsWorkDone works old new answer end after
    over-done (Ok ended) turn ends how =
        let was = turn-goes w t exact route now before start view next works old.totals old.marks outside after turned.Done (λ e. absurd cc) turn of h in
        let over = work-over w t exact route now before start law is fair sound next works old.totals old.marks after ends.over
        (accounts-inside w t route after.door.counts.most sound next ends.over of) was in
        record {
          next = next;
          of = of;
          over = ends.over;
          was = was;
          made = ap (map (λ (total : Total). total.class)) ends.totals ∙ after-classes old.totals (all_accounts next) ∙ was.made;
          wakes = λ e. (let wrong = sym how.1 ∙ e in absurd cc);
          ended = ended;
          went = ends.went;
          is_end = how.0;
          rests = subst (λ (ts : List Total). Rests works ts (old.marks ++ (cause_in route next).mark ∷ []) after) (sym ends.totals) over;
        }
    over-done (Err want) turn ends how = absurd (had how.1)

    pub turned-by : (said : Turned)
        → IsPackageTurn w t exact route now view next said outside.door after.door outside.backend after.backend
        → WorksOn route said next old new answer end
        → StaysInWork works old new answer end after ⊎ IsWorkDone works old new answer end after
    turned-by turned.Went turn on = inl (record {
      next = next;
      wakes = λ e. (let wrong = sym on.0 ∙ e in absurd cc);
      is = on.1;
      goes_on = on.2;
      in_work = turn-goes w t exact route now before start view next works old.totals old.marks outside after turned.Went (λ e. absurd cc) turn of h;
    })
    turned-by turned.NotYet turn on = inl (record {
      next = next;
      wakes = λ e. (let wrong = sym on.0 ∙ e in absurd cc);
      is = on.1;
      goes_on = on.2;
      in_work = turn-goes w t exact route now before start view next works old.totals old.marks outside after turned.NotYet (λ e. absurd cc) turn of h;
    })
    turned-by turned.Done turn on = inr (over-done on.done turn on.ends on.after)
    turned-by turned.Memory turn on = absurd (had on.0)

  -- one or the other
  pub work-turned : RequestsShare w t → exact ≡ true → IsFair w route → IsSound route → (works : List Work) (view : PackageView S)
      (old new : AnsweringState S) (answer : Stepped) (end : Option End) (outside after : Outside S) → answer ≢ Memory
      → InWork view works old.totals old.marks outside → TurnsWork w t exact route now view old new answer end outside after
      → StaysInWork works old new answer end after ⊎ IsWorkDone works old new answer end after
  work-turned law is fair sound works view old new answer end outside after had h turns =
      turned-by law is fair sound works view turns.next old new answer end outside after had turns.of h turns.turned turns.law turns.works

  -- ---- the end of a run

  -- the pool is kept behind what was asked now
  pub kept-now : (asked works all : List Work) (totals : List Total) (marks : List Mark) (outside : Outside S) → all ≡ asked ++ works
      → Rests works totals marks outside → IsKeptOver w t route now (behind before (uses_of route (works_now now asked all))) outside
  kept-now asked works all totals marks outside is h =
      subst (λ (ds : List DatedWork). IsKeptOver w t route now (behind before (uses_of route ds)) outside)
      (sym (now-works now asked works all is)) h.kept

  -- and each class has cost what that needs
  pub cost-now : (asked works all : List Work) (totals : List Total) (marks : List Mark) (outside : Outside S) → all ≡ asked ++ works
      → Rests works totals marks outside → (number : Number) (class others : ℕ)
      → within64 (others + cost_on number class totals)
      ≡ within64 (others + (cost_on number class start
      + count_after (is_needed w route number class) before (uses_of route (works_now now asked all))))
  cost-now asked works all totals marks outside is h number class others =
      h.done.cost number class others
      ∙ ap (λ (ds : List DatedWork). within64 (others + (cost_on number class start
      + count_after (is_needed w route number class) before (uses_of route ds)))) (sym (now-works now asked works all is))
