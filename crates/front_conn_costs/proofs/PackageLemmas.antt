-- The turns of legs, and of a package: what holds of one turn after another
use Rattle.std.proofs.Common.{◌≡◌, ◌∙◌, ◌⊎◌, ℕ, ◌+◌, Bool, true, false, inl, inr, if◌then◌else◌, List, [], ◌∷◌, ◌++◌, map, refl, sym, ap, subst}
use Rattle.std.specs.List.{sum_by}
use Rattle.std.proofs.lemmas.List.Sums.{sum_by-append, sum_by-cons}
use Rattle.std.proofs.lemmas.Bool.{and_parts, or_parts}
use Rattle.z_types.specs.declared.sitting.Sitting as sitting
use Rattle.z_types.specs.declared.world.World as world
use Rattle.route_config.specs.declared.route.Route.{Route}
use Rattle.front_conn.specs.leg.Deeds.{BackendView}
use Rattle.front_conn.specs.leg.LegView.{LegView}
use Rattle.front_conn.specs.leg.Phases.{is_done}
use Rattle.front_conn.specs.leg.Turns.{DoorView}
use Rattle.front_conn.specs.leg.declared.answers.Turned.{Turned}
use Rattle.front_conn.specs.leg.declared.answers.Turned.TheVariants as turned
use Rattle.front_conn.specs.package_rules.Asked.{Asked}
use Rattle.front_conn.specs.package.declared.turning.Round.{Round}
use Rattle.front_conn.specs.package.steps.Packages.{AsksSo, IsPlanned, PackageView, answers_of, begun}
use Rattle.front_conn.specs.package.steps.Turns.{GoesOn, HadTurn, HasTurned, HaveTurned, IsPackageTurn, Plans, TakesTurn, all_done, is_memory, no_round, round_after}
use Rattle.front_conn.specs.package_rules.Planned.{then_asked_by}
use Rattle.front_conn_costs.proofs.TurnLemmas.{HadMemory}

-- some legs had memory in a round, or all are done behind it
abbrev HadMemories : {S : Type 0} → Round → List (LegView S) → Type 0
HadMemories last news = (last.lacks ≡ false) ⊎ (all_done news ≡ true)

no-memory : (answer : Turned) → is_memory answer ≡ false → answer ≡ turned.Memory → ⊥
no-memory answer has says = let wrong : true ≡ false = sym (ap is_memory says) ∙ has in absurd cc

module _ {W S : Type 0} (w : world.Ghosts W) (t : sitting.Ghosts S W) (exact : Bool) (route : Route) (now : ℕ)
    {M C : Type 0} (zero : M) (plus : M → M → M) (G : (old new : M) (before behind : C) → Type 0) (still : (m : M) (c : C) → G m m c c)
    (both : (m n r s : M) (c d e : C) → G m n c d → G r s d e → G (plus m r) (plus n s) c e)
    (m : LegView S → M) (count : DoorView S → BackendView → C) (careful : Bool)
    (leg : (old new : LegView S) (answer : Turned) (door after : DoorView S) (backend moved : BackendView) → is_done old.phase ≡ false
    → (careful ≡ true → HadMemory answer new.phase) → HadTurn w t exact route now old new answer door after backend moved
    → G (m old) (m new) (count door backend) (count after moved)) where
  -- all of some legs
  abbrev pub total : List (LegView S) → M
  total [] = zero
  total (leg ∷ legs) = plus (m leg) (total legs)

  -- ---- legs

  -- memory that was wanting in a turn is known behind it
  first-lacks : (done : Bool) (old new : LegView S) (round next : Round) (door after : DoorView S) (backend moved : BackendView)
      → HasTurned w t exact route now done old new round next door after backend moved → next.lacks ≡ false → round.lacks ≡ false
  first-lacks true old new round next door after backend moved h has = ap (λ (r : Round). r.lacks) (sym h.1) ∙ has
  first-lacks false old new round next door after backend moved h has =
      (or_parts round.lacks (is_memory h.0) (ap (λ (r : Round). r.lacks) (sym h.1) ∙ has)).0

  -- and behind the others
  lacks-kept : (olds news : List (LegView S)) (round last : Round) (door after : DoorView S) (backend moved : BackendView)
      → HaveTurned w t exact route now olds news round last door after backend moved → last.lacks ≡ false → round.lacks ≡ false
  lacks-kept [] [] round last door after backend moved h has = ap (λ (r : Round). r.lacks) (sym h.0) ∙ has
  lacks-kept [] (new ∷ news) round last door after backend moved h has = absurd h
  lacks-kept (old ∷ olds) [] round last door after backend moved h has = absurd h
  lacks-kept (old ∷ olds) (new ∷ news) round last door after backend moved h has =
      first-lacks (is_done old.phase) old new round h.next door h.between backend h.amid h.turned
      (lacks-kept olds news h.next last h.between after h.amid moved h.others has)

  -- a leg had memory
  leg-memory : (answer : Turned) (new : LegView S) (news : List (LegView S)) (round next last : Round) → next ≡ round_after round answer
      → (last.lacks ≡ false → next.lacks ≡ false) → HadMemories last (new ∷ news) → HadMemory answer new.phase
  leg-memory answer new news round next last is kept (inl has) =
      inl (no-memory answer ((or_parts round.lacks (is_memory answer) (ap (λ (r : Round). r.lacks) (sym is) ∙ kept has)).1))
  leg-memory answer new news round next last is kept (inr done) = inr ((and_parts (is_done new.phase) (all_done news) done).0)

  rest-memory : (new : LegView S) (news : List (LegView S)) (last : Round) → HadMemories last (new ∷ news) → HadMemories last news
  rest-memory new news last (inl has) = inl has
  rest-memory new news last (inr done) = inr ((and_parts (is_done new.phase) (all_done news) done).1)

  -- one leg
  first-turned : (done : Bool) (old new : LegView S) (news : List (LegView S)) (round next last : Round) (door after : DoorView S)
      (backend moved : BackendView) → is_done old.phase ≡ done → (last.lacks ≡ false → next.lacks ≡ false)
      → (careful ≡ true → HadMemories last (new ∷ news))
      → HasTurned w t exact route now done old new round next door after backend moved
      → G (m old) (m new) (count door backend) (count after moved)
  first-turned true old new news round next last door after backend moved is kept had h =
      subst (λ (v : LegView S). G (m old) (m v) (count door backend) (count after moved)) (sym h.0)
      (subst (λ (d : DoorView S). G (m old) (m old) (count door backend) (count d moved)) (sym h.2)
      (subst (λ (b : BackendView). G (m old) (m old) (count door backend) (count door b)) (sym h.3)
      (still (m old) (count door backend))))
  first-turned false old new news round next last door after backend moved is kept had h =
      leg old new h.0 door after backend moved is (λ c. leg-memory h.0 new news round next last h.1 kept (had c)) h.2

  -- ---- legs, one after another
  pub legs-turned : (olds news : List (LegView S)) (round last : Round) (door after : DoorView S) (backend moved : BackendView)
      → (careful ≡ true → HadMemories last news) → HaveTurned w t exact route now olds news round last door after backend moved
      → G (total olds) (total news) (count door backend) (count after moved)
  legs-turned [] [] round last door after backend moved had h =
      subst (λ (d : DoorView S). G zero zero (count door backend) (count d moved)) (sym h.1)
      (subst (λ (b : BackendView). G zero zero (count door backend) (count door b)) (sym h.2)
      (still zero (count door backend)))
  legs-turned [] (new ∷ news) round last door after backend moved had h = absurd h
  legs-turned (old ∷ olds) [] round last door after backend moved had h = absurd h
  legs-turned (old ∷ olds) (new ∷ news) round last door after backend moved had h =
      both (m old) (m new) (total olds) (total news) (count door backend) (count h.between h.amid) (count after moved)
      (first-turned (is_done old.phase) old new news round h.next last door h.between backend h.amid refl
      (lacks-kept olds news h.next last h.between after h.amid moved h.others) had h.turned)
      (legs-turned olds news h.next last h.between after h.amid moved (λ c. rest-memory new news last (had c)) h.others)

  -- ---- a package

  abbrev pub whole : PackageView S → M
  whole view = plus (total view.first) (total view.later)

  module _ (none : plus zero zero ≡ zero) (fresh : (asked : Asked) → m (begun asked) ≡ zero) where
    begun-zero : (asked : List Asked) → total (map begun asked) ≡ zero
    begun-zero [] = refl
    begun-zero (ask ∷ asked) =
        ap (λ (n : M). plus n (total (map begun asked))) (fresh ask) ∙ ap (plus zero) (begun-zero asked) ∙ none

    planned-zero : (new : PackageView S) (answer : Turned) → Plans route new answer → total new.later ≡ zero
    planned-zero new turned.Memory h = ap total h.later
    planned-zero new turned.Went h = ap total h.0.later ∙ begun-zero (then_asked_by route new.work (answers_of new.first))
    planned-zero new turned.NotYet h = ap total h.0.later ∙ begun-zero (then_asked_by route new.work (answers_of new.first))
    planned-zero new turned.Done h = ap total h.0.later ∙ begun-zero (then_asked_by route new.work (answers_of new.first))

    goes-zero : (over : Bool) (new : PackageView S) (round : Round) (answer : Turned) → GoesOn w t exact route now over new round answer
        → total new.later ≡ zero
    goes-zero false new round answer h = ap total h.0.later
    goes-zero true new round answer h = planned-zero new answer h

    -- memory was had where the package's turn says so
    lacks-said : (lacks : Bool) (other answer : Turned) → answer ≡ (if lacks then turned.Memory else other) → is_memory answer ≡ false → lacks ≡ false
    lacks-said false other answer is has = refl
    lacks-said true other answer is has = let wrong : true ≡ false = sym (ap is_memory is) ∙ has in absurd cc

    goes-memory : (over : Bool) (new : PackageView S) (round : Round) (answer : Turned) → all_done new.first ≡ over
        → GoesOn w t exact route now over new round answer → is_memory answer ≡ false → HadMemories round new.first
    goes-memory false new round answer is h has = inl (lacks-said round.lacks _ answer h.1 has)
    goes-memory true new round answer is h has = inr is

    turned-by : (planned : Bool) (old new : PackageView S) (answer : Turned) (round : Round) (door after : DoorView S)
        (backend moved : BackendView) → IsPlanned planned route old → (careful ≡ true → is_memory answer ≡ false)
        → TakesTurn w t exact route now planned old new answer round door after backend moved
        → G (whole old) (whole new) (count door backend) (count after moved)
    turned-by false old new answer round door after backend moved unplanned has h =
        subst (λ (x : M). G (plus (total old.first) x) (whole new) (count door backend) (count after moved)) (sym (ap total unplanned))
        (subst (λ (y : M). G (plus (total old.first) zero) (plus (total new.first) y) (count door backend) (count after moved))
        (sym (goes-zero (all_done new.first) new round answer h.1))
        (both (total old.first) (total new.first) zero zero (count door backend) (count after moved) (count after moved)
        (legs-turned old.first new.first no_round round door after backend moved
        (λ c. goes-memory (all_done new.first) new round answer refl h.1 (has c)) h.0)
        (still zero (count after moved))))
    turned-by true old new answer round door after backend moved planned has h =
        subst (λ (ls : List (LegView S)). G (whole old) (plus (total ls) (total new.later)) (count door backend) (count after moved)) (sym h.0)
        (both (total old.first) (total old.first) (total old.later) (total new.later)
        (count door backend) (count door backend) (count after moved)
        (still (total old.first) (count door backend))
        (legs-turned old.later new.later no_round round door after backend moved
        (λ c. inl (lacks-said round.lacks _ answer h.3 (has c))) h.2))

    pub whole-turned : (old new : PackageView S) (answer : Turned) (door after : DoorView S) (backend moved : BackendView)
        → AsksSo route old → (careful ≡ true → is_memory answer ≡ false)
        → IsPackageTurn w t exact route now old new answer door after backend moved
        → G (whole old) (whole new) (count door backend) (count after moved)
    whole-turned old new answer door after backend moved asks has h =
        turned-by old.planned old new answer h.round door after backend moved asks.then has h.turns

-- ---- where numbers are summed

module _ {W S : Type 0} (w : world.Ghosts W) (t : sitting.Ghosts S W) (exact : Bool) (route : Route) (now : ℕ)
    (G : (old new before behind : ℕ) → Type 0) (still : (m c : ℕ) → G m m c c)
    (both : (m n r s c d e : ℕ) → G m n c d → G r s d e → G (m + r) (n + s) c e)
    (m : LegView S → ℕ) (count : DoorView S → BackendView → ℕ) (careful : Bool)
    (leg : (old new : LegView S) (answer : Turned) (door after : DoorView S) (backend moved : BackendView) → is_done old.phase ≡ false
    → (careful ≡ true → HadMemory answer new.phase) → HadTurn w t exact route now old new answer door after backend moved
    → G (m old) (m new) (count door backend) (count after moved))
    (fresh : (asked : Asked) → m (begun asked) ≡ 0) where
  abbrev sum_of : List (LegView S) → ℕ
  sum_of legs = total w t exact route now 0 (λ (x y : ℕ). x + y) G still both m count careful leg legs

  sum-is : (legs : List (LegView S)) → sum_of legs ≡ sum_by m legs
  sum-is [] = refl
  sum-is (first ∷ legs) = ap (λ (n : ℕ). m first + n) (sum-is legs) ∙ sym (sum_by-cons m first legs)

  whole-is : (first later : List (LegView S)) → sum_by m (first ++ later) ≡ sum_of first + sum_of later
  whole-is first later =
      sum_by-append m first later ∙ ap (λ (n : ℕ). n + sum_by m later) (sym (sum-is first))
      ∙ ap (λ (n : ℕ). sum_of first + n) (sym (sum-is later))

  pub package-turned : (old new : PackageView S) (answer : Turned) (door after : DoorView S) (backend moved : BackendView)
      → AsksSo route old → (careful ≡ true → is_memory answer ≡ false)
      → IsPackageTurn w t exact route now old new answer door after backend moved
      → G (sum_by m (old.first ++ old.later)) (sum_by m (new.first ++ new.later)) (count door backend) (count after moved)
  package-turned old new answer door after backend moved asks has h =
      subst (λ (x : ℕ). G x (sum_by m (new.first ++ new.later)) (count door backend) (count after moved)) (sym (whole-is old.first old.later))
      (subst (λ (y : ℕ). G (sum_of old.first + sum_of old.later) y (count door backend) (count after moved))
      (sym (whole-is new.first new.later))
      (whole-turned w t exact route now 0 (λ (x y : ℕ). x + y) G still both m count careful leg refl fresh old new answer door after backend
      moved asks has h))
