-- Sums by class: what legs counted is added to them, and none is lost
use Rattle.std.proofs.Common.{◌≡◌, ◌∙◌, ℕ, ◌+◌, ◌<◌, ◌≤◌, Bool, true, false, if◌then◌else◌, nat_lt, List, [], ◌∷◌, length, map, get_or, set, All, refl, sym, ap, subst, arith}
use Rattle.std.specs.List.{range_with_len, sum_by}
use Rattle.std.proofs.Math.Seq.{map-set_same}
use Rattle.std.proofs.lemmas.List.{length-map}
use Rattle.std.proofs.lemmas.List.Elements.{All-head, All-tail}
use Rattle.std.proofs.lemmas.List.FromFn.{length-range_with_len}
use Rattle.std.proofs.lemmas.List.Sums.{get_or-le-sum_by, sum_by-cons, sum_by-set}
use Rattle.z_types.specs.Bounds.{within64}
use Rattle.route_config.specs.declared.route.Route.{Route}
use Rattle.front_conn.specs.leg.LegView.{LegView}
use Rattle.front_conn.specs.leg.declared.accounts.Account.{Account}
use Rattle.front_conn.specs.package.steps.Packages.{accounts_of}
use Rattle.front_conn.specs.declared.totals.Total.{Total}
use Rattle.front_conn.specs.steps.Totals.{no_total, totals_after, totals_for, totals_with, with_account}
use Rattle.front_conn_costs.specs.steps.Conns.{AreTotalsOf, in_total}
use Rattle.front_conn_costs.specs.steps.Numbers.{Number, dials, searches, gones, faults, in_account}

-- ---- sums that are made

nothing-in : (n : Number) (class : ℕ) → in_total n (no_total class) ≡ 0
nothing-in dials class = refl
nothing-in searches class = refl
nothing-in gones class = refl
nothing-in faults class = refl

nothing-summed : (n : Number) (classes : List ℕ) → sum_by (in_total n) (map no_total classes) ≡ 0
nothing-summed n [] = refl
nothing-summed n (class ∷ classes) =
    sum_by-cons (in_total n) (no_total class) (map no_total classes)
    ∙ ap (λ (k : ℕ). k + sum_by (in_total n) (map no_total classes)) (nothing-in n class)
    ∙ ap (λ (k : ℕ). 0 + k) (nothing-summed n classes)

-- sums that are made have counted nothing more
pub made-sum : (n : Number) (route : Route) (totals : List Total) → sum_by (in_total n) (totals_for route totals) ≡ sum_by (in_total n) totals
made-sum n route [] = nothing-summed n (range_with_len 0 (length route.classes))
made-sum n route (total ∷ totals) = refl

-- their classes
abbrev pub classes_of : List Total → List ℕ
classes_of totals = map (λ total. total.class) totals

classes-none : (classes : List ℕ) → classes_of (map no_total classes) ≡ classes
classes-none [] = refl
classes-none (class ∷ classes) = ap (λ (others : List ℕ). class ∷ others) (classes-none classes)

-- they are there for all classes
pub none-made : (route : Route) → AreTotalsOf route (totals_for route [])
none-made route = classes-none (range_with_len 0 (length route.classes))

pub made-classes : (route : Route) (totals : List Total) → AreTotalsOf route totals → AreTotalsOf route (totals_for route totals)
made-classes route [] h = none-made route
made-classes route (total ∷ totals) h = h

pub all-classes : (route : Route) (totals : List Total) → AreTotalsOf route totals → length totals ≡ length route.classes
all-classes route totals h =
    sym (length-map totals (λ (t : Total). t.class)) ∙ ap (λ (ns : List ℕ). length ns) h ∙ length-range_with_len 0 (length route.classes)

-- ---- an account is added

with-classes-by : (b : Bool) (totals : List Total) (account : Account)
    → classes_of (if b then set totals account.class (with_account account (get_or totals account.class (no_total 0))) else totals)
    ≡ classes_of totals
with-classes-by true totals account =
    map-set_same (λ (t : Total). t.class) totals account.class (with_account account (get_or totals account.class (no_total 0))) (no_total 0) refl
with-classes-by false totals account = refl

with-classes : (totals : List Total) (account : Account) → classes_of (totals_with totals account) ≡ classes_of totals
with-classes totals account = with-classes-by (nat_lt account.class (length totals)) totals account

pub after-classes : (totals : List Total) (accounts : List Account) → classes_of (totals_after totals accounts) ≡ classes_of totals
after-classes totals [] = refl
after-classes totals (account ∷ accounts) = after-classes (totals_with totals account) accounts ∙ with-classes totals account

with-length : (totals : List Total) (account : Account) → length (totals_with totals account) ≡ length totals
with-length totals account =
    sym (length-map (totals_with totals account) (λ (t : Total). t.class))
    ∙ ap (λ (ns : List ℕ). length ns) (with-classes totals account) ∙ length-map totals (λ (t : Total). t.class)

added : (n : Number) (account : Account) (total : Total) → in_total n (with_account account total) ≡ within64 (in_total n total + in_account n account)
added dials account total = refl
added searches account total = refl
added gones account total = refl
added faults account total = refl

-- a part of a sum that stays at its end, where the sum does
part-added : (others sum all part more_ : ℕ) → part ≤ sum → all + part ≡ sum + within64 (part + more_)
    → within64 (others + all) ≡ within64 (others + sum + more_)
part-added others sum all part more_ below e = omega (arith, below, e)

-- a number is added at a place of a list
pub place-added : {X : Type 0} (f : X → ℕ) (xs : List X) (place : ℕ) (y d : X) (more_ others : ℕ) → place < length xs
    → f y ≡ within64 (f (get_or xs place d) + more_)
    → within64 (others + sum_by f (set xs place y)) ≡ within64 (others + sum_by f xs + more_)
place-added f xs place y d more_ others inside e =
    part-added others (sum_by f xs) (sum_by f (set xs place y)) (f (get_or xs place d)) more_ (get_or-le-sum_by f xs place d inside)
    (sum_by-set f xs place y d inside ∙ ap (λ (k : ℕ). sum_by f xs + k) e)

with-sum : (n : Number) (totals : List Total) (account : Account) (others : ℕ) → account.class < length totals
    → within64 (others + sum_by (in_total n) (totals_with totals account))
    ≡ within64 (others + sum_by (in_total n) totals + in_account n account)
with-sum n totals account others inside =
    let total : Total = get_or totals account.class (no_total 0) in
    let is : nat_lt account.class (length totals) ≡ true = grind (arith, inside) in
    let sums : totals_with totals account ≡ set totals account.class (with_account account total) =
    ap (λ (b : Bool). if b then set totals account.class (with_account account total) else totals) is in
    ap (λ (ts : List Total). within64 (others + sum_by (in_total n) ts)) sums
    ∙ place-added (in_total n) totals account.class (with_account account total) (no_total 0) (in_account n account) others inside
    (added n account total)

-- ---- the accounts of legs are added

module _ {S : Type 0} where
  abbrev IsInside : ℕ → LegView S → Type 0
  IsInside classes leg = leg.account.class < classes

  -- all that they counted is in the sums then
  pub after-sum : (n : Number) (totals : List Total) (legs : List (LegView S)) (others : ℕ)
      → All (λ (leg : LegView S). leg.account.class < length totals) legs
      → within64 (others + sum_by (in_total n) (totals_after totals (accounts_of legs)))
      ≡ within64 (others + (sum_by (in_total n) totals + sum_by (λ (leg : LegView S). in_account n leg.account) legs))
  after-sum n totals [] others inside = ap (λ (k : ℕ). within64 (others + k)) (omega arith)
  after-sum n totals (leg ∷ legs) others inside =
      let f : LegView S → ℕ = λ l. in_account n l.account in
      let rest : All (λ (l : LegView S). l.account.class < length (totals_with totals leg.account)) legs =
      subst (λ (k : ℕ). All (λ (l : LegView S). l.account.class < k) legs) (sym (with-length totals leg.account))
      (All-tail (IsInside (length totals)) leg legs inside) in
      after-sum n (totals_with totals leg.account) legs others rest
      ∙ ap within64 (omega arith)
      ∙ with-sum n totals leg.account (others + sum_by f legs) (All-head (IsInside (length totals)) leg legs inside)
      ∙ ap within64 (omega (arith, sum_by-cons f leg legs))
