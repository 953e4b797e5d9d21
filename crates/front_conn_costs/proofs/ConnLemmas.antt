-- One step of a connection: what it counts, and what its marks come of
use Rattle.std.proofs.Common.{◌≡◌, ◌∙◌, ◌⊎◌, ℕ, ◌+◌, ◌*◌, ◌<◌, ◌≤◌, Bool, true, false, inl, inr, List, [], ◌∷◌, ◌++◌, All, length, map, get_or, slice_get, Option, None, Some, Result, refl, sym, ap, subst, arith}
use Rattle.std.specs.Prelude.{IfSome, option_to_list}
use Rattle.std.specs.List.{sum_by}
use Rattle.std.specs.Option.{option_map_or}
use Rattle.std.proofs.lemmas.List.Elements.{All-append, All-cons, All-head, All-nil, All-tail, All-get_or, filter_map-append}
use Rattle.std.proofs.lemmas.List.Sums.{sum_by-append, sum_by-cons}
use Rattle.std.proofs.lemmas.Option.{slice_get_cases}
use Rattle.std.proofs.Math.Nat.{mul-add}
use Rattle.z_types.specs.Bounds.{within64}
use Rattle.z_types.specs.declared.marks.End.{End}
use Rattle.z_types.specs.declared.marks.Mark.{Mark}
use Rattle.z_types.specs.declared.marks.Mark.TheVariants.{Plain}
use Rattle.z_types.specs.declared.requests.Request.{Request}
use Rattle.z_types.specs.declared.sitting.Sitting as sitting
use Rattle.z_types.specs.declared.work.Work.{Work}
use Rattle.z_types.specs.declared.world.World as world
use Rattle.route_config.specs.Sound.{IsSound}
use Rattle.route_config.specs.declared.route.Route.{Route}
use Rattle.route_config.specs.declared.route.RouteLeg.{RouteLeg}
use Rattle.front_conn.specs.gateway_rules.Asking.{Asking, at_once, works}
use Rattle.front_conn.specs.gateway_rules.Course.{Meeting, bad, beyond, closing, due, met}
use Rattle.front_conn.specs.front_session.Sessions.{progress_of}
use Rattle.front_conn.specs.front_z.Units.{IsBegun, IsDueBegun, IsMetBegun, Served}
use Rattle.front_conn.specs.front_z.declared.units.Begun.{Begun}
use Rattle.front_conn.specs.front_z.declared.units.Begun.TheVariants as begun
use Rattle.front_conn.specs.leg.Deeds.{BackendView}
use Rattle.front_conn.specs.leg.LegView.{LegView}
use Rattle.front_conn.specs.leg.Phases.{answered}
use Rattle.front_conn.specs.leg.Terms.{class_of, terms_of}
use Rattle.front_conn.specs.leg.Turns.{DoorView, IsLegOf}
use Rattle.front_conn.specs.leg.declared.answers.LegAnswer.{LegAnswer}
use Rattle.front_conn.specs.leg.declared.answers.Turned.{Turned}
use Rattle.front_conn.specs.leg.declared.answers.Turned.TheVariants as turned
use Rattle.front_conn.specs.package_rules.declared.answered.Answered.{Answered}
use Rattle.front_conn.specs.package_rules.Asked.{Asked, first_asked}
use Rattle.front_conn.specs.package_rules.Said.{cause_of}
use Rattle.front_conn.specs.package.steps.Ends.{cause_in}
use Rattle.front_conn.specs.package.steps.Packages.{HasFitting, IsPackageOf, PackageView, all_accounts, answer_of}
use Rattle.front_conn.specs.package.steps.Packages.{begun as leg_begun}
use Rattle.front_conn.specs.package.steps.Packages.{new_package}
use Rattle.front_conn.specs.package.steps.Turns.{is_memory}
use Rattle.front_conn.specs.declared.stepped.Stepped.{Stepped}
use Rattle.front_conn.specs.declared.stepped.Stepped.TheVariants.{Idle, NotYet, Went, Memory}
use Rattle.front_conn.specs.declared.totals.Total.{Total}
use Rattle.front_conn.specs.steps.Answering.{AnsweringState, AreMade, IsKeptBehind, IsKeptBehindHead, Outside, TurnsWork, WorksOn, legs_in}
use Rattle.front_conn.specs.steps.States.{ConnectionState, IsConnOf}
use Rattle.front_conn.specs.steps.Steps.{EndsByRest, GoesAhead, IsStepFrom, TakesHead, TakesUnit, UnlessMemory, answering_of}
use Rattle.front_conn.specs.steps.Totals.{totals_after, totals_for}
use Rattle.front_conn_costs.specs.steps.Conns.{AreTotalsOf, HasTotals, counted_on, in_total, marks_of, met_on, outside_counts, outside_meets}
use Rattle.front_conn_costs.specs.steps.Growth.{RisesAsMuch, RisesEnough}
use Rattle.front_conn_costs.specs.steps.Laws.{CountsAsMuch, MeetsEnough}
use Rattle.front_conn_costs.specs.steps.Numbers.{Caused, IsTold, Number, dials, faults, gones, in_account, in_counts, met_by, met_outside, searches, link, silent, gone, full, weight}
use Rattle.front_conn_costs.proofs.CauseLemmas.{as_one, mark-met, plain-none, said-so}
use Rattle.front_conn_costs.proofs.GrowthLemmas.{as-both, as-nothing, as-same, enough-both, enough-less, enough-nothing}
use Rattle.front_conn_costs.proofs.OverLemmas.{IsLeft, IsLeftBy, IsPlainAtMost, head-plain, over-left}
use Rattle.front_conn_costs.proofs.PackageLemmas.{package-turned}
use Rattle.sru_request.specs.declared.faults.HeadFault.{HeadFault}
use Rattle.sru_request.specs.declared.head.Get.{Get}
use Rattle.front_conn.specs.front_sru.Gets as sru
use Rattle.front_conn.specs.front_sru.declared.begun.Begun as sru_begun
use Rattle.front_conn.specs.front_sru.declared.begun.Begun.TheVariants as get
use Rattle.front_conn.specs.front_http.Heads.{IsHeadBegun}
use Rattle.front_conn_costs.proofs.TotalLemmas.{after-sum, all-classes, made-sum}
use Rattle.front_conn_costs.proofs.TurnLemmas.{turn-as-much, turn-enough}

unless : {F : Type 0} (answer : Stepped) → F → UnlessMemory answer F
unless Idle f = f
unless NotYet f = f
unless Went f = f
unless Memory f = tt

-- in other places that are the same
at : (G : (old new before behind : ℕ) → Type 0) (m n c d m' n' : ℕ) → m ≡ m' → n ≡ n' → G m' n' c d → G m n c d
at G m n c d m' n' e f g = subst (λ (x : ℕ). G x n c d) (sym e) (subst (λ (y : ℕ). G m' y c d) (sym f) g)

-- ---- a leg that was not turned has counted and met nothing

unturned-counts : (S : Type 0) (number : Number) (asked : Asked) → in_account number (leg_begun {S = S} asked).account ≡ 0
unturned-counts S dials asked = refl
unturned-counts S searches asked = refl
unturned-counts S gones asked = refl
unturned-counts S faults asked = refl

unturned-meets : (S : Type 0) (kind : Caused) (asked : Asked) → met_by kind (leg_begun {S = S} asked).account ≡ 0
unturned-meets S link asked = refl
unturned-meets S silent asked = refl
unturned-meets S gone asked = refl
unturned-meets S full asked = refl

-- ---- the class of a leg that is done

class-by : (legs : List RouteLeg) (place classes : ℕ) → All (λ (l : RouteLeg). l.class < classes) legs → place < length legs
    → ((x : RouteLeg) × (place < length legs) × (slice_get legs place ≡ Some x) × (get_or legs place x ≡ x))
    ⊎ ((length legs ≤ place) × (slice_get legs place ≡ None))
    → option_map_or (λ (l : RouteLeg). l.class) (slice_get legs place) 0 < classes
class-by legs place classes below inside (inl h) =
    subst (λ (l : Option RouteLeg). option_map_or (λ (x : RouteLeg). x.class) l 0 < classes) (sym h.2)
    (subst (λ (l : RouteLeg). l.class < classes) h.3 (All-get_or (λ (l : RouteLeg). l.class < classes) legs place h.0 inside below))
class-by legs place classes below inside (inr h) = absurd (omega (arith, inside, h.0))

class-inside : (route : Route) (place : ℕ) → IsSound route → place < length route.legs → class_of route place < length route.classes
class-inside route place sound inside =
    class-by route.legs place (length route.classes) sound.places.classes inside (slice_get_cases route.legs place).1

module _ {W S : Type 0} (w : world.Ghosts W) (t : sitting.Ghosts S W) (route : Route) (most : ℕ) where
  abbrev IsDone_ : LegView S → Type 0
  IsDone_ leg = HasFitting leg.task (answered leg.phase)

  done-inside : (leg : LegView S) (said : Option LegAnswer) → answered leg.phase ≡ said → HasFitting leg.task said → IsSound route
      → IsLegOf w t route most leg → leg.account.class < length route.classes
  done-inside leg None e fits sound is = absurd fits
  done-inside leg (Some said) e fits sound is =
      let own = said-so w t (terms_of route leg.login leg.leg) most leg.task leg.phase leg.account said e is.stands in
      subst (λ (c : ℕ). c < length route.classes) (sym own.class) (class-inside route leg.leg sound is.place)

  legs-inside : (legs : List (LegView S)) (classes : ℕ) → classes ≡ length route.classes → IsSound route
      → All (λ (leg : LegView S). HasFitting leg.task (answered leg.phase)) legs → All (IsLegOf w t route most) legs
      → All (λ (leg : LegView S). leg.account.class < classes) legs
  legs-inside [] classes e sound done are = All-nil (λ (leg : LegView S). leg.account.class < classes)
  legs-inside (leg ∷ legs) classes e sound done are =
      All-cons (λ (l : LegView S). l.account.class < classes) leg legs
      (subst (λ (c : ℕ). leg.account.class < c) (sym e)
      (done-inside leg (answered leg.phase) refl (All-head IsDone_ leg legs done) sound (All-head (IsLegOf w t route most) leg legs are)))
      (legs-inside legs classes e sound (All-tail IsDone_ leg legs done) (All-tail (IsLegOf w t route most) leg legs are))

-- ---- a unit that is begun

-- a mark at once is Plain
write-plain : (kind : Caused) (route : Route) (asking : Asking) (request : Request) (old new : Served) (m : Option Mark) (end : Option End)
    → IsDueBegun route asking request old new (begun.Write m end) → marks_of kind (option_to_list m) ≡ 0
write-plain kind route (at_once reply) request old new None end h = refl
write-plain kind route (at_once reply) request old new (Some m) end h =
    let same : m ≡ Plain = let e = h.0 in cc in
    ap (λ (x : Mark). 0 + as_one kind x) same ∙ ap (λ (n : ℕ). 0 + n) (plain-none kind)
write-plain kind route (works work) request old new m end h = let wrong = h.0 in absurd cc

some-plain : (kind : Caused) (m : Option Mark) → m ≡ Some Plain → marks_of kind (option_to_list m) ≡ 0
some-plain kind m e = ap (λ (x : Option Mark). marks_of kind (option_to_list x)) e ∙ ap (λ (n : ℕ). 0 + n) (plain-none kind)

none-none : (kind : Caused) (m : Option Mark) → m ≡ None → marks_of kind (option_to_list m) ≡ 0
none-none kind m e = ap (λ (x : Option Mark). marks_of kind (option_to_list x)) e

at-most-plain : (kind : Caused) (m : Option Mark) → IsPlainAtMost m → marks_of kind (option_to_list m) ≡ 0
at-most-plain kind m (inl none) = none-none kind m none
at-most-plain kind m (inr some) = some-plain kind m some

met-plain : (kind : Caused) (meeting : Meeting) (route : Route) (at_ : ℕ) (read : Option Request) (old new : Served) (m : Option Mark)
    (end : Option End) → IsMetBegun meeting route at_ read old new (begun.Write m end) → marks_of kind (option_to_list m) ≡ 0
met-plain kind bad route at_ read old new m end h = none-none kind m (let e = h.0 in cc)
met-plain kind (beyond request) route at_ read old new m end h = none-none kind m (let e = h.0 in cc)
met-plain kind (closing close) route at_ read old new m end h = some-plain kind m (let e = h.0 in cc)
met-plain kind (due request) route at_ read old new m end h = write-plain kind route _ request old new m end h

begun-plain : (kind : Caused) (route : Route) (at_ : ℕ) (unit : List ℕ) (old new : Served) (m : Option Mark) (end : Option End)
    → IsBegun route at_ unit old new (begun.Write m end) → marks_of kind (option_to_list m) ≡ 0
begun-plain kind route at_ unit old new m end h =
    met-plain kind (met route (progress_of at_ old.session) h.read) route at_ h.read old new m end h.begun

-- ---- a state by its parts

module _ {S : Type 0} where
  abbrev counts_of : Number → List Total → Option (PackageView S) → ℕ
  counts_of n totals in_work = sum_by (in_total n) totals + sum_by (λ (leg : LegView S). in_account n leg.account) (legs_in in_work)

  counted-is : (n : Number) (state : ConnectionState S) (totals : List Total) (in_work : Option (PackageView S)) → state.totals ≡ totals
      → state.in_work ≡ in_work → counted_on n state ≡ counts_of n totals in_work
  counted-is n state totals in_work e f =
      ap (λ (ts : List Total). counts_of n ts state.in_work) e ∙ ap (λ (v : Option (PackageView S)). counts_of n totals v) f

  abbrev meets_of : Route → Caused → List Mark → Option (PackageView S) → ℕ
  meets_of route k marks in_work = weight route.pool k * marks_of k marks + sum_by (λ (leg : LegView S). met_by k leg.account) (legs_in in_work)

  met-is : (route : Route) (k : Caused) (state : ConnectionState S) (marks : List Mark) (in_work : Option (PackageView S))
      → state.marks ≡ marks → state.in_work ≡ in_work → met_on route.pool k state ≡ meets_of route k marks in_work
  met-is route k state marks in_work e f =
      ap (λ (ms : List Mark). meets_of route k ms state.in_work) e ∙ ap (λ (v : Option (PackageView S)). meets_of route k marks v) f

  -- legs that are begun
  zero-legs : (f : LegView S → ℕ) → ((asked : Asked) → f (leg_begun asked) ≡ 0) → (asked : List Asked) → sum_by f (map leg_begun asked) ≡ 0
  zero-legs f fresh [] = refl
  zero-legs f fresh (ask ∷ asked) =
      sum_by-cons f (leg_begun ask) (map leg_begun asked)
      ∙ ap (λ (n : ℕ). n + sum_by f (map leg_begun asked)) (fresh ask)
      ∙ ap (λ (n : ℕ). 0 + n) (zero-legs f fresh asked)

  new-zero : (f : LegView S → ℕ) → ((asked : Asked) → f (leg_begun asked) ≡ 0) → (route : Route) (work : Work)
      → sum_by f (legs_in (Some (new_package route work))) ≡ 0
  new-zero f fresh route work =
      sum_by-append f (map leg_begun (first_asked route work)) [] ∙ ap (λ (n : ℕ). n + 0) (zero-legs f fresh (first_asked route work))

-- where nothing outside has moved and nothing was counted
calm : {S : Type 0} (G : (old new before behind : ℕ) → Type 0) (still : (m c : ℕ) → G m m c c) (count : Outside S → ℕ) (m n : ℕ)
    (before behind : Outside S) → n ≡ m → behind ≡ before → G m n (count before) (count behind)
calm {S = S} G still count m n before behind e f =
    subst (λ (o : Outside S). G m n (count before) (count o)) (sym f)
    (subst (λ (x : ℕ). G m x (count before) (count before)) (sym e) (still m (count before)))

-- ---- a connection with no request in work

module _ {S : Type 0} (route : Route) (old new : ConnectionState S) (rests : old.in_work ≡ None) where
  -- it has counted what is in its sums
  rest-counts : (n : Number) → counted_on n old ≡ counts_of {S = S} n old.totals None
  rest-counts n = counted-is n old old.totals None refl rests

  rest-meets : (k : Caused) → met_on route.pool k old ≡ meets_of {S = S} route k old.marks None
  rest-meets k = met-is route k old old.marks None refl rests

  -- sums that are made, and legs that are begun, have counted nothing
  made-counts : (n : Number) (in_work : Option (PackageView S)) → new.totals ≡ totals_for route old.totals → new.in_work ≡ in_work
      → sum_by (λ (leg : LegView S). in_account n leg.account) (legs_in in_work) ≡ 0 → counted_on n new ≡ counted_on n old
  made-counts n in_work e f none =
      counted-is n new (totals_for route old.totals) in_work e f
      ∙ ap (λ (x : ℕ). sum_by (in_total n) (totals_for route old.totals) + x) none
      ∙ ap (λ (x : ℕ). x + 0) (made-sum n route old.totals)
      ∙ sym (rest-counts n)

  still-counts : (n : Number) → new.totals ≡ old.totals → new.in_work ≡ None → counted_on n new ≡ counted_on n old
  still-counts n e f = counted-is n new old.totals None e f ∙ sym (rest-counts n)

  still-meets : (k : Caused) → new.marks ≡ old.marks → new.in_work ≡ None → met_on route.pool k new ≡ met_on route.pool k old
  still-meets k e f = met-is route k new old.marks None e f ∙ sym (rest-meets k)

  new-counts : (n : Number) (answer : Begun) → IsKeptBehind route (answering_of old) (answering_of new) new.end answer
      → counted_on n new ≡ counted_on n old
  new-counts n (begun.Write m end) h = made-counts n None h.3 h.2 refl
  new-counts n (begun.Work job) h = made-counts n (Some (new_package route job)) h.3 h.2 (new-zero _ (unturned-counts S n) route job)
  new-counts n begun.Memory h = absurd h

  new-meets : (k : Caused) (at_ : ℕ) (unit : List ℕ) (before behind : Served) (answer : Begun) → IsBegun route at_ unit before behind answer
      → IsKeptBehind route (answering_of old) (answering_of new) new.end answer → met_on route.pool k new ≡ met_on route.pool k old
  new-meets k at_ unit before behind (begun.Write m end) b h =
      met-is route k new (old.marks ++ option_to_list m) None h.1 h.2
      ∙ ap (λ (x : ℕ). weight route.pool k * x + 0)
      (sum_by-append (as_one k) old.marks (option_to_list m)
      ∙ ap (λ (x : ℕ). marks_of k old.marks + x) (begun-plain k route at_ unit before behind m end b) ∙ omega arith)
      ∙ sym (rest-meets k)
  new-meets k at_ unit before behind (begun.Work job) b h =
      met-is route k new old.marks (Some (new_package route job)) h.1 h.2
      ∙ ap (λ (x : ℕ). weight route.pool k * marks_of k old.marks + x) (new-zero _ (unturned-meets S k) route job)
      ∙ sym (rest-meets k)
  new-meets k at_ unit before behind begun.Memory b h = absurd h

  head-counts : (n : Number) (answer : sru_begun.Begun) → IsKeptBehindHead route (answering_of old) (answering_of new) new.end answer
      → counted_on n new ≡ counted_on n old
  head-counts n (get.Write m end) h = made-counts n None h.3 h.2 refl
  head-counts n (get.Work job) h = made-counts n (Some (new_package route job)) h.3 h.2 (new-zero _ (unturned-counts S n) route job)
  head-counts n get.Memory h = absurd h

  head-meets : (k : Caused) (head : Result Get HeadFault) (before behind : sru.Served) (answer : sru_begun.Begun)
      → IsHeadBegun route head before behind answer
      → IsKeptBehindHead route (answering_of old) (answering_of new) new.end answer → met_on route.pool k new ≡ met_on route.pool k old
  head-meets k head before behind (get.Write m end) b h =
      met-is route k new (old.marks ++ option_to_list m) None h.1 h.2
      ∙ ap (λ (x : ℕ). weight route.pool k * x + 0)
      (sum_by-append (as_one k) old.marks (option_to_list m)
      ∙ ap (λ (x : ℕ). marks_of k old.marks + x) (at-most-plain k m (head-plain route head before behind m end b)) ∙ omega arith)
      ∙ sym (rest-meets k)
  head-meets k head before behind (get.Work job) b h =
      met-is route k new old.marks (Some (new_package route job)) h.1 h.2
      ∙ ap (λ (x : ℕ). weight route.pool k * marks_of k old.marks + x) (new-zero _ (unturned-meets S k) route job)
      ∙ sym (rest-meets k)
  head-meets k head before behind get.Memory b h = absurd h

  lost-counts : (n : Number) → new.in_work ≡ None → AreMade route old.totals new.totals → counted_on n new ≡ counted_on n old
  lost-counts n f (inl same) = still-counts n same f
  lost-counts n f (inr made) = made-counts n None made f refl

  went-counts : (n : Number) → TakesUnit route old new ⊎ TakesHead route old new ⊎ EndsByRest old new → counted_on n new ≡ counted_on n old
  went-counts n (inl h) = new-counts n h.begun.answer h.begun.kept
  went-counts n (inr (inl h)) = head-counts n h.taken.answer h.taken.kept
  went-counts n (inr (inr h)) = still-counts n h.totals (h.in_work ∙ rests)

  went-meets : (k : Caused) → TakesUnit route old new ⊎ TakesHead route old new ⊎ EndsByRest old new
      → met_on route.pool k new ≡ met_on route.pool k old
  went-meets k (inl h) = new-meets k _ _ _ _ h.begun.answer h.begun.begun h.begun.kept
  went-meets k (inr (inl h)) = head-meets k h.head _ _ h.taken.answer h.taken.begun h.taken.kept
  went-meets k (inr (inr h)) = still-meets k h.marks (h.in_work ∙ rests)

  pub ahead-counts : (n : Number) (answer : Stepped) → GoesAhead route old new answer → counted_on n new ≡ counted_on n old
  ahead-counts n Idle h = ap (counted_on n) h.1
  ahead-counts n NotYet h = absurd h
  ahead-counts n Went h = went-counts n h.2
  ahead-counts n Memory h = lost-counts n h.unbegun.in_work h.unbegun.totals

  pub ahead-meets : (k : Caused) (answer : Stepped) → GoesAhead route old new answer → met_on route.pool k new ≡ met_on route.pool k old
  ahead-meets k Idle h = ap (met_on route.pool k) h.1
  ahead-meets k NotYet h = absurd h
  ahead-meets k Went h = went-meets k h.2
  ahead-meets k Memory h = still-meets k h.unbegun.unwritten.marks h.unbegun.in_work

-- ---- a connection with a request in work

not-memory : (answer : Stepped) (F : Type 0) → ((answer ≡ Memory → ⊥) → F) → UnlessMemory answer F
not-memory Idle F f = f (λ e. absurd cc)
not-memory NotYet F f = f (λ e. absurd cc)
not-memory Went F f = f (λ e. absurd cc)
not-memory Memory F f = tt

single-one : (k : Caused) (m : Mark) → sum_by (as_one k) (m ∷ []) ≡ as_one k m
single-one k m = omega arith

-- a mark is added to those that were listed
one-marked : (p q n l : ℕ) → n ≡ p + q → q ≤ l → n + 0 ≤ p + l
one-marked p q n l e few = omega (arith, e, few)

module _ {W S : Type 0} (w : world.Ghosts W) (t : sitting.Ghosts S W) (exact : Bool) (route : Route) (now : ℕ)
    (old new : ConnectionState S) (answer : Stepped) (before behind : Outside S) (view : PackageView S)
    (works_on : old.in_work ≡ Some view) (of : IsPackageOf w t route before.door.counts.most view)
    (h : TurnsWork w t exact route now view (answering_of old) (answering_of new) answer new.end before behind) where
  abbrev next_legs : List (LegView S)
  next_legs = h.next.first ++ h.next.later

  legs-of : All (IsLegOf w t route behind.door.counts.most) next_legs
  legs-of = All-append (IsLegOf w t route behind.door.counts.most) h.next.first h.next.later h.of.first h.of.later

  -- ---- what is summed

  module _ (n : Number) (is : IsTold exact n) where
    abbrev counts : LegView S → ℕ
    counts leg = in_account n leg.account

    legs-counted : is_memory h.turned ≡ false
        → RisesAsMuch (sum_by counts (view.first ++ view.later)) (sum_by counts next_legs) (outside_counts n before) (outside_counts n behind)
    legs-counted has =
        package-turned w t exact route now RisesAsMuch as-nothing as-both counts
        (λ (door : DoorView S) (backend : BackendView). in_counts n backend.counts) true
        (λ one other said door after backend moved goes had turn.
        turn-as-much w t exact (terms_of route one.login one.leg) one.task now one.phase other.phase one.account other.account said door after
        backend moved turn.law n is goes (had refl))
        (unturned-counts S n) view h.next h.turned before.door behind.door before.backend behind.backend of.asks (λ c. has) h.law

    -- all that the connection has counted, with the legs in work
    all-counted : is_memory h.turned ≡ false
        → RisesAsMuch (counted_on n old) (sum_by (in_total n) old.totals + sum_by counts next_legs) (outside_counts n before) (outside_counts n behind)
    all-counted has =
        at RisesAsMuch (counted_on n old) (sum_by (in_total n) old.totals + sum_by counts next_legs) (outside_counts n before)
        (outside_counts n behind) (counts_of n old.totals (Some view)) (sum_by (in_total n) old.totals + sum_by counts next_legs)
        (counted-is n old old.totals (Some view) refl works_on) refl
        (as-both (sum_by (in_total n) old.totals) (sum_by (in_total n) old.totals) (sum_by counts (view.first ++ view.later))
        (sum_by counts next_legs) (outside_counts n before) (outside_counts n before) (outside_counts n behind)
        (as-nothing (sum_by (in_total n) old.totals) (outside_counts n before)) (legs-counted has))

    on-counts : is_memory h.turned ≡ false → answering_of new ≡ record (answering_of old) { in_work = Some h.next }
        → RisesAsMuch (counted_on n old) (counted_on n new) (outside_counts n before) (outside_counts n behind)
    on-counts has same =
        at RisesAsMuch (counted_on n old) (counted_on n new) (outside_counts n before) (outside_counts n behind) (counted_on n old)
        (counts_of n old.totals (Some h.next)) refl
        (counted-is n new old.totals (Some h.next) (ap (λ (a : AnsweringState S). a.totals) same) (ap (λ (a : AnsweringState S). a.in_work) same))
        (all-counted has)

    left-counts : (ended : Option End) → new.totals ≡ totals_after old.totals (all_accounts h.next)
        → IsLeftBy route h.next (answering_of old) (answering_of new) ended
        → counted_on n new ≡ sum_by (in_total n) (totals_after old.totals (all_accounts h.next)) + 0
    left-counts ended totals (inl left) = counted-is n new (totals_after old.totals (all_accounts h.next)) None totals left.0
    left-counts ended totals (inr left) =
        counted-is n new (totals_after old.totals (all_accounts h.next)) (Some (new_package route left.0)) totals left.1
        ∙ ap (λ (x : ℕ). sum_by (in_total n) (totals_after old.totals (all_accounts h.next)) + x)
        (new-zero _ (unturned-counts S n) route left.0)

    ends-same : IsSound route → length old.totals ≡ length route.classes → (ended : Option End)
        → IsLeft route h.next (answering_of old) (answering_of new) ended
        → (others : ℕ) → within64 (others + counted_on n new) ≡ within64 (others + (sum_by (in_total n) old.totals + sum_by counts next_legs))
    ends-same sound all ended is others =
        ap (λ (x : ℕ). within64 (others + x)) (left-counts ended is.totals is.left ∙ omega arith)
        ∙ after-sum n old.totals next_legs others
        (legs-inside w t route behind.door.counts.most next_legs (length old.totals) all sound
        (All-append (λ (leg : LegView S). HasFitting leg.task (answered leg.phase)) h.next.first h.next.later is.over.first is.over.later)
        legs-of)

    works-count : (turned_ : Turned) → h.turned ≡ turned_ → IsSound route → length old.totals ≡ length route.classes
        → (answer ≡ Memory → ⊥) → WorksOn route turned_ h.next (answering_of old) (answering_of new) answer new.end
        → RisesAsMuch (counted_on n old) (counted_on n new) (outside_counts n before) (outside_counts n behind)
    works-count turned.Went e sound all has on = on-counts (ap is_memory e) on.1
    works-count turned.NotYet e sound all has on = on-counts (ap is_memory e) on.1
    works-count turned.Memory e sound all has on = absurd (has on.0)
    works-count turned.Done e sound all has on =
        as-same (counted_on n old) (sum_by (in_total n) old.totals + sum_by counts next_legs) (counted_on n new) (outside_counts n before)
        (outside_counts n behind) (ends-same sound all _ (over-left route h.next (answering_of old) (answering_of new) answer new.end on)) (all-counted (ap is_memory e))

  pub turn-counts : IsSound route → length old.totals ≡ length route.classes → CountsAsMuch exact old new answer before behind
  turn-counts sound all = not-memory answer _ (λ has n is. works-count n is h.turned refl sound all has h.works)

  -- ---- what marks come of

  module _ (k : Caused) where
    abbrev meets : LegView S → ℕ
    meets leg = met_by k leg.account

    abbrev listed : ℕ
    listed = weight route.pool k * marks_of k old.marks

    legs-met : RisesEnough (sum_by meets (view.first ++ view.later)) (sum_by meets next_legs) (outside_meets k before) (outside_meets k behind)
    legs-met =
        package-turned w t exact route now RisesEnough enough-nothing enough-both meets
        (λ (door : DoorView S) (backend : BackendView). met_outside k door.counts backend.counts) false
        (λ one other said door after backend moved goes had turn.
        turn-enough w t exact (terms_of route one.login one.leg) one.task now one.phase other.phase one.account other.account said door after
        backend moved turn.law k)
        (unturned-meets S k) view h.next h.turned before.door behind.door before.backend behind.backend of.asks (λ c. absurd cc) h.law

    all-met : RisesEnough (met_on route.pool k old) (listed + sum_by meets next_legs) (outside_meets k before) (outside_meets k behind)
    all-met =
        at RisesEnough (met_on route.pool k old) (listed + sum_by meets next_legs) (outside_meets k before)
        (outside_meets k behind) (meets_of route k old.marks (Some view)) (listed + sum_by meets next_legs)
        (met-is route k old old.marks (Some view) refl works_on) refl
        (enough-both listed listed (sum_by meets (view.first ++ view.later)) (sum_by meets next_legs) (outside_meets k before)
        (outside_meets k before) (outside_meets k behind) (enough-nothing listed (outside_meets k before)) legs-met)

    to-met : met_on route.pool k new ≤ listed + sum_by meets next_legs
        → RisesEnough (met_on route.pool k old) (met_on route.pool k new) (outside_meets k before) (outside_meets k behind)
    to-met few =
        enough-less (met_on route.pool k old) (listed + sum_by meets next_legs) (met_on route.pool k new) (outside_meets k before)
        (outside_meets k behind) few all-met

    on-meets : answering_of new ≡ record (answering_of old) { in_work = Some h.next } → met_on route.pool k new ≤ listed + sum_by meets next_legs
    on-meets same =
        let is : met_on route.pool k new ≡ meets_of route k old.marks (Some h.next) =
        met-is route k new old.marks (Some h.next) (ap (λ (a : AnsweringState S). a.marks) same) (ap (λ (a : AnsweringState S). a.in_work) same) in
        omega (arith, is)

    -- the mark that is listed was met by the legs that are done
    mark-few : weight route.pool k * as_one k (cause_in route h.next).mark ≤ sum_by meets next_legs
    mark-few =
        subst (λ (said : List Answered). weight route.pool k * as_one k (cause_of route said).mark ≤ sum_by meets next_legs)
        (filter_map-append answer_of h.next.first h.next.later)
        (mark-met w t route behind.door.counts.most k next_legs legs-of)

    no-more : met_on route.pool k new ≡ listed + 0 → met_on route.pool k new ≤ listed + sum_by meets next_legs
    no-more is = subst (λ (x : ℕ). x ≤ listed + sum_by meets next_legs) (sym is) (omega arith)

    rests-met : new.in_work ≡ None → (new.marks ≡ old.marks) ⊎ (new.marks ≡ old.marks ++ (cause_in route h.next).mark ∷ [])
        → met_on route.pool k new ≤ listed + sum_by meets next_legs
    rests-met none (inl same) = no-more (met-is route k new old.marks None same none)
    rests-met none (inr more) =
        let m : Mark = (cause_in route h.next).mark in
        let is = met-is route k new (old.marks ++ m ∷ []) None more none in
        subst (λ (x : ℕ). x ≤ listed + sum_by meets next_legs) (sym is)
        (one-marked listed (weight route.pool k * as_one k m) (weight route.pool k * marks_of k (old.marks ++ m ∷ [])) (sum_by meets next_legs)
        (ap (λ (x : ℕ). weight route.pool k * x) (sum_by-append (as_one k) old.marks (m ∷ [])
        ∙ ap (λ (x : ℕ). marks_of k old.marks + x) (single-one k m))
        ∙ mul-add (weight route.pool k) (marks_of k old.marks) (as_one k m)) mark-few)

    ends-met : (ended : Option End) → IsLeftBy route h.next (answering_of old) (answering_of new) ended
        → met_on route.pool k new ≤ listed + sum_by meets next_legs
    ends-met ended (inl left) = rests-met left.0 left.1
    ends-met ended (inr left) =
        no-more (met-is route k new old.marks (Some (new_package route left.0)) left.2 left.1
        ∙ ap (λ (x : ℕ). listed + x) (new-zero _ (unturned-meets S k) route left.0))

    works-meet : (turned_ : Turned) → WorksOn route turned_ h.next (answering_of old) (answering_of new) answer new.end
        → met_on route.pool k new ≤ listed + sum_by meets next_legs
    works-meet turned.Went on = on-meets on.1
    works-meet turned.NotYet on = on-meets on.1
    works-meet turned.Memory on = on-meets on.1
    works-meet turned.Done on = ends-met _ (over-left route h.next (answering_of old) (answering_of new) answer new.end on).left

  pub turn-meets : MeetsEnough route.pool old new before behind
  turn-meets k = to-met k (works-meet k h.turned h.works)

-- ---- a step

module _ {W S : Type 0} (w : world.Ghosts W) (t : sitting.Ghosts S W) (exact : Bool) (route : Route) (now : ℕ)
    (old new : ConnectionState S) (answer : Stepped) (before behind : Outside S) (of : IsConnOf w t route before.door.counts.most old) where
  package-of : (view : PackageView S) → old.end ≡ None → old.in_work ≡ Some view → IsPackageOf w t route before.door.counts.most view
  package-of view goes is = subst (λ (i : Option (PackageView S)). IfSome i (IsPackageOf w t route before.door.counts.most)) is ((of goes).in_work)

  totals-there : (view : PackageView S) → old.in_work ≡ Some view → HasTotals route old → length old.totals ≡ length route.classes
  totals-there view is has =
      all-classes route old.totals
      (subst (λ (i : Option (PackageView S)). IfSome i (λ v. AreTotalsOf route old.totals)) is has.in_work)

  pub step-counts : (end : Option End) (in_work : Option (PackageView S)) → old.end ≡ end → old.in_work ≡ in_work → IsSound route
      → HasTotals route old → IsStepFrom w t exact route now end in_work old new answer before behind
      → CountsAsMuch exact old new answer before behind
  step-counts (Some end) in_work e f sound has h =
      unless answer (λ n is. calm RisesAsMuch as-nothing (outside_counts n) (counted_on n old) (counted_on n new) before behind
      (ap (counted_on n) h.1) h.2)
  step-counts None None e f sound has h =
      unless answer (λ n is. calm RisesAsMuch as-nothing (outside_counts n) (counted_on n old) (counted_on n new) before behind
      (ahead-counts route old new f n answer h.0) h.1)
  step-counts None (Some view) e f sound has h =
      turn-counts w t exact route now old new answer before behind view f (package-of view e f) h.turns sound (totals-there view f has)

  pub step-meets : (end : Option End) (in_work : Option (PackageView S)) → old.end ≡ end → old.in_work ≡ in_work
      → IsStepFrom w t exact route now end in_work old new answer before behind → MeetsEnough route.pool old new before behind
  step-meets (Some end) in_work e f h k =
      calm RisesEnough enough-nothing (outside_meets k) (met_on route.pool k old) (met_on route.pool k new) before behind
      (ap (met_on route.pool k) h.1) h.2
  step-meets None None e f h k =
      calm RisesEnough enough-nothing (outside_meets k) (met_on route.pool k old) (met_on route.pool k new) before behind
      (ahead-meets route old new f k answer h.0) h.1
  step-meets None (Some view) e f h k =
      turn-meets w t exact route now old new answer before behind view f (package-of view e f) h.turns k
