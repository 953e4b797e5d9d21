-- The records of legs, leg by leg from the last
use Rattle.std.proofs.Common.{◌≡◌, ◌≢◌, ◌∙◌, ◌<◌, ◌≤◌, ◌+◌, ◌⊎◌, ℕ, zero, suc, Bool, true, false, cond, List, [], ◌∷◌, ◌++◌, length, take, drop, get_or, set, All, Option, None, Some, IfSome, ap, sym, refl, subst, arith, inl, inr, option_map}
use Rattle.std.specs.Prelude.{◌==◌}
use Rattle.std.specs.List.{cons_option, zip}
use Rattle.std.proofs.Math.Dec.{eqb}
use Rattle.std.proofs.Math.Seq.{drop-cons}
use Rattle.std.proofs.lemmas.Bool.Decides.{eqb_tells}
use Rattle.std.proofs.lemmas.List.{drop_all, get_or-set_other, get_or-set_same, get_or-take, length-append, length-set, take-take}
use Rattle.leg.specs.LegView.{LegView}
use Rattle.leg.specs.Phases.{answered}
use Rattle.leg.specs.declared.answers.LegAnswer.{LegAnswer}
use Rattle.package_rules.specs.declared.answered.Answered.{Answered}
use Rattle.package_rules.specs.declared.spans.Span.{Span}
use Rattle.package.specs.steps.Ends.{SupplyView, fetch_of, no_supply, supply_after, supply_of}
use Rattle.package.specs.steps.Packages.{AreDone, HasFitting, answer_of, answers_of}

-- ---- lists

-- one default more
pub default_behind : {A : Type 0} (xs : List A) (k : ℕ) (d : A) → get_or (xs ++ d ∷ []) k d ≡ get_or xs k d
default_behind [] zero d = refl
default_behind [] (suc k) d = refl
default_behind (x ∷ xs) zero d = refl
default_behind (x ∷ xs) (suc k) d = default_behind xs k d

last_of : {A : Type 0} (xs : List A) (x d : A) → get_or (xs ++ x ∷ []) (length xs) d ≡ x
last_of [] x d = refl
last_of (y ∷ xs) x d = last_of xs x d

front_of : {A : Type 0} (xs : List A) (x : A) → take (length xs) (xs ++ x ∷ []) ≡ xs
front_of [] x = refl
front_of {A = A} (y ∷ xs) x = ap (λ (zs : List A). y ∷ zs) (front_of xs x)

-- the last of the first items of a list was taken away
pub record IsPopped {A : Type 0} (all new : List A) (x : A) : Type 0 where
  pub inside : length new < length all
  pub front : new ≡ take (length new) all
  pub last : (d : A) → get_or all (length new) d ≡ x

pub popped : {A : Type 0} (all old new : List A) (x : A) → length old ≤ length all → old ≡ take (length old) all
    → old ≡ new ++ x ∷ [] → IsPopped all new x
popped {A = A} all old new x few so_far is =
    let count : length old ≡ length new + 1 = ap (λ (xs : List A). length xs) is ∙ length-append new (x ∷ []) in
    let parts : take (length new + 1) all ≡ new ++ x ∷ [] = ap (λ (n : ℕ). take n all) (sym count) ∙ sym so_far ∙ is in record {
      inside = omega (arith, few, count);
      front = sym (front_of new x) ∙ ap (take (length new)) (sym parts) ∙ take-take (length new) (length new + 1) all (omega arith);
      last = λ d. sym (get_or-take (length new + 1) all (length new) d (omega arith))
          ∙ ap (λ (xs : List A). get_or xs (length new) d) parts ∙ last_of new x d;
    }

-- ---- supplies

-- where none was handed
pub none_handed : (spans : List Span) (n leg : ℕ) → length spans ≤ n
    → no_supply ≡ supply_of 0 (fetch_of (zip (drop n spans) []) leg)
none_handed spans n leg past = ap (λ (ss : List Span). supply_of 0 (fetch_of (zip ss []) leg)) (sym (drop_all n spans past))

-- one leg more
one_more : (own k : ℕ) (span : Span) (said : Answered) (supply : SupplyView) (supplies : List SupplyView)
    (spans : List Span) (answers : List Answered) → own ≡ span.leg → supply ≡ supply_after 0 said → own < length supplies
    → get_or supplies k no_supply ≡ supply_of 0 (fetch_of (zip spans answers) k)
    → ((eqb own k ≡ true) × (own ≡ k)) ⊎ ((eqb own k ≡ false) × (own ≢ k))
    → get_or (set supplies own supply) k no_supply ≡ supply_of 0 (fetch_of (zip (span ∷ spans) (said ∷ answers)) k)
one_more own k span said supply supplies spans answers is handed inside so_far (inl same) =
    let here : (span.leg == k) ≡ true = ap (λ (l : ℕ). l == k) (sym is) ∙ same.0 in
    ap (λ (j : ℕ). get_or (set supplies own supply) j no_supply) (sym same.1)
    ∙ get_or-set_same supplies own supply no_supply inside ∙ handed
    ∙ ap (λ (b : Bool). supply_of 0 (cond b (Some (span, said)) (fetch_of (zip spans answers) k))) (sym here)
one_more own k span said supply supplies spans answers is handed inside so_far (inr other) =
    let here : (span.leg == k) ≡ false = ap (λ (l : ℕ). l == k) (sym is) ∙ other.0 in
    get_or-set_other supplies own k supply no_supply (λ e. other.1 (sym e)) ∙ so_far
    ∙ ap (λ (b : Bool). supply_of 0 (cond b (Some (span, said)) (fetch_of (zip spans answers) k))) (sym here)

module _ {S : Type 0} where
  said_by : (leg : LegView S) (said : Option LegAnswer) → HasFitting leg.task said → answered leg.phase ≡ said
      → (it : Answered) × (answer_of leg ≡ Some it)
  said_by leg None fits is = absurd fits
  said_by leg (Some said) fits is = (
    record { leg = leg.leg; answer = said },
    ap (λ (o : Option LegAnswer). option_map (λ (a : LegAnswer). record { leg = leg.leg; answer = a }) o) is,
  )

  -- one leg more, in front of those behind it
  pub supplied_more : (spans : List Span) (legs : List (LegView S)) (n : ℕ) (d : Span) (leg : LegView S) (supply : SupplyView)
      (supplies : List SupplyView) (k : ℕ) → n < length legs → n < length spans → get_or legs n leg ≡ leg
      → HasFitting leg.task (answered leg.phase) → IfSome (answer_of leg) (λ said. supply ≡ supply_after 0 said)
      → (get_or spans n d).leg < length supplies
      → get_or supplies k no_supply ≡ supply_of 0 (fetch_of (zip (drop (n + 1) spans) (answers_of (drop (n + 1) legs))) k)
      → get_or (set supplies (get_or spans n d).leg supply) k no_supply
      ≡ supply_of 0 (fetch_of (zip (drop n spans) (answers_of (drop n legs))) k)
  supplied_more spans legs n d leg supply supplies k inside there is fits handed small so_far =
      let span : Span = get_or spans n d in
      let it = said_by leg (answered leg.phase) fits refl in
      let next : suc n ≡ n + 1 = omega arith in
      let span_first : drop n spans ≡ span ∷ drop (n + 1) spans =
      drop-cons spans n d there ∙ ap (λ (m : ℕ). span ∷ drop m spans) next in
      let leg_first : drop n legs ≡ leg ∷ drop (n + 1) legs =
      drop-cons legs n leg inside ∙ ap (λ (l : LegView S). l ∷ drop (suc n) legs) is ∙ ap (λ (m : ℕ). leg ∷ drop m legs) next in
      let answers : answers_of (drop n legs) ≡ it.0 ∷ answers_of (drop (n + 1) legs) =
      ap answers_of leg_first ∙ ap (λ (o : Option Answered). cons_option o (answers_of (drop (n + 1) legs))) it.1 in
      let supply_is : supply ≡ supply_after 0 it.0 = subst (λ (o : Option Answered). IfSome o (λ said. supply ≡ supply_after 0 said)) it.1 handed in
      one_more span.leg k span it.0 supply supplies (drop (n + 1) spans) (answers_of (drop (n + 1) legs)) refl supply_is small so_far
      (eqb_tells span.leg k)
      ∙ ap (λ (ss : List Span). supply_of 0 (fetch_of (zip ss (it.0 ∷ answers_of (drop (n + 1) legs))) k)) (sym span_first)
      ∙ ap (λ (said : List Answered). supply_of 0 (fetch_of (zip (drop n spans) said) k)) (sym answers)

  -- so all that is kept of them
  pub supplies_kept : (spans : List Span) (all old new : List (LegView S)) (d : Span) (leg : LegView S) (many : ℕ) (supply : SupplyView)
      (supplies : List SupplyView) → AreDone all → length all ≡ length spans → All (λ (span : Span). span.leg < many) spans
      → length old ≤ length all → old ≡ take (length old) all → old ≡ new ++ leg ∷ []
      → IfSome (answer_of leg) (λ said. supply ≡ supply_after 0 said) → length supplies ≡ many
      → ((k : ℕ) → get_or supplies k no_supply
      ≡ supply_of 0 (fetch_of (zip (drop (length old) spans) (answers_of (drop (length old) all))) k))
      → (length (set supplies (get_or spans (length new) d).leg supply) ≡ many)
      × (length new ≤ length all)
      × (new ≡ take (length new) all)
      × ((k : ℕ) → get_or (set supplies (get_or spans (length new) d).leg supply) k no_supply
      ≡ supply_of 0 (fetch_of (zip (drop (length new) spans) (answers_of (drop (length new) all))) k))
  supplies_kept spans all old new d leg many supply supplies done each within few so_far is handed size kept =
      let p : IsPopped all new leg = popped all old new leg few so_far is in
      let count : length old ≡ length new + 1 = ap (λ (xs : List (LegView S)). length xs) is ∙ length-append new (leg ∷ []) in
      let there : length new < length spans = omega (arith, p.inside, each) in
      let fits : HasFitting leg.task (answered leg.phase) =
      subst (λ (l : LegView S). HasFitting l.task (answered l.phase)) (p.last leg) (done (length new) leg p.inside) in
      let small : (get_or spans (length new) d).leg < length supplies = omega (arith, within (length new) d there, size) in (
        length-set supplies (get_or spans (length new) d).leg supply ∙ size,
        omega (arith, p.inside),
        p.front,
        λ k. supplied_more spans all (length new) d leg supply supplies k p.inside there (p.last leg) fits handed small
            (kept k ∙ ap (λ (m : ℕ). supply_of 0 (fetch_of (zip (drop m spans) (answers_of (drop m all))) k)) count),
      )
