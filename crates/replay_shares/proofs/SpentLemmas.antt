-- What the legs of a request count is what its class costs more
use Rattle.std.proofs.Common.{◌≡◌, ◌∙◌, ◌==◌, ◌<◌, ◌+◌, ℕ, Bool, true, false, if◌then◌else◌, nat_lt, List, [], ◌∷◌, length, get_or, set, refl, sym, ap, arith}
use Rattle.std.specs.List.{AllByRecursion, sum_by}
use Rattle.std.proofs.lemmas.List.{get_or-map}
use Rattle.std.proofs.lemmas.List.FromFn.{get_or-range_with_len}
use Rattle.std.proofs.lemmas.List.Sums.{sum_by-cons}
use Rattle.z_types.specs.Bounds.{within64}
use Rattle.route_config.specs.declared.route.Route.{Route}
use Rattle.package_shares.specs.leg.declared.accounts.Account.{Account}
use Rattle.replay.specs.front_conn.declared.totals.Total.{Total}
use Rattle.replay.specs.front_conn.steps.Totals.{no_total, totals_after, totals_with, with_account}
use Rattle.replay.specs.front_conn_costs.steps.Conns.{AreTotalsOf, in_total}
use Rattle.replay.specs.front_conn_costs.steps.Numbers.{Number, dials, faults, gones, in_account, searches}
use Rattle.replay.proofs.front_conn_costs.TotalLemmas.{after-classes, all-classes, place-added}
use Rattle.replay_shares.specs.steps.Costs.{cost_in, cost_on}

added : (number : Number) (account : Account) (total : Total)
    → in_total number (with_account account total) ≡ within64 (in_total number total + in_account number account)
added dials account total = refl
added searches account total = refl
added gones account total = refl
added faults account total = refl

module _ (number : Number) (class : ℕ) where
  -- what a leg of the class counted
  abbrev pub cost_of : Account → ℕ
  cost_of account = if account.class == class then in_account number account else 0

  -- it is added to the sum of its class
  sum-added : (account : Account) (total : Total) → total.class ≡ account.class
      → cost_in number class (with_account account total) ≡ within64 (cost_in number class total + cost_of account)
  sum-added account total own = by-class (total.class == class) (account.class == class) (ap (λ (c : ℕ). c == class) own) where
    by-class : (here there : Bool) → here ≡ there → (if here then in_total number (with_account account total) else 0)
        ≡ within64 ((if here then in_total number total else 0) + (if there then in_account number account else 0))
    by-class true true same = added number account total
    by-class false false same = omega arith
    by-class true false same = absurd cc
    by-class false true same = absurd cc

  module _ (route : Route) where
    own-class : (totals : List Total) (place : ℕ) → AreTotalsOf route totals → place < length totals
        → (get_or totals place (no_total 0)).class ≡ place
    own-class totals place made inside =
        sym (get_or-map (λ (t : Total). t.class) totals place (no_total 0) 0 inside)
        ∙ ap (λ (cs : List ℕ). get_or cs place 0) made
        ∙ get_or-range_with_len 0 (length route.classes) place 0 (let all = all-classes route totals made in omega (arith, inside, all))
        ∙ omega arith

    one-spent : (totals : List Total) (account : Account) (others : ℕ) → AreTotalsOf route totals → account.class < length route.classes
        → within64 (others + cost_on number class (totals_with totals account)) ≡ within64 (others + cost_on number class totals + cost_of account)
    one-spent totals account others made inside =
        let all = all-classes route totals made in
        let total : Total = get_or totals account.class (no_total 0) in
        let is : nat_lt account.class (length totals) ≡ true = grind (arith, inside, all) in
        ap (λ (b : Bool). within64 (others + cost_on number class (if b then set totals account.class (with_account account total) else totals))) is
        ∙ place-added (cost_in number class) totals account.class (with_account account total) (no_total 0) (cost_of account) others (omega (arith, inside, all))
        (sum-added account total (own-class totals account.class made (omega (arith, inside, all))))

    -- so all of them are
    pub all-spent : (totals : List Total) (accounts : List Account) (others : ℕ) → AreTotalsOf route totals
        → AllByRecursion (λ account. account.class < length route.classes) accounts
        → within64 (others + cost_on number class (totals_after totals accounts))
        ≡ within64 (others + (cost_on number class totals + sum_by cost_of accounts))
    all-spent totals [] others made inside = ap within64 (omega arith)
    all-spent totals (account ∷ accounts) others made inside =
        all-spent (totals_with totals account) accounts others (after-classes totals (account ∷ []) ∙ made) inside.1
        ∙ ap within64 (omega arith)
        ∙ one-spent totals account (others + sum_by cost_of accounts) made inside.0
        ∙ ap within64 (omega (arith, sum_by-cons cost_of account accounts))
