-- The records of a leg, one by one
use Rattle.std.proofs.Common.{◌≡◌, ◌≢◌, ◌∙◌, ◌≤◌, ◌+◌, ◌⊎◌, ℕ, zero, suc, Bool, true, false, cond, List, [], ◌∷◌, length, drop, Option, None, Some, Result, Err, ap, sym, arith, inl, inr, option_map}
use Rattle.std.specs.Prelude.{◌==◌, nat_le}
use Rattle.std.proofs.Math.Dec.{eqb}
use Rattle.std.proofs.lemmas.Bool.Decides.{eqb_tells}
use Rattle.std.proofs.lemmas.List.{drop_all}
use Rattle.std.proofs.lemmas.Option.{slice_get_past}
use Rattle.z_types.specs.declared.diagnostic.Diag.{Diag}
use Rattle.z_types.specs.declared.records.Item.{Item}
use Rattle.package_rules.specs.declared.answered.Answered.{Answered}
use Rattle.package_rules.specs.declared.spans.Span.{Span}
use Rattle.package_rules.specs.Said.{end_in, item_or_end, items_in}
use Rattle.package.specs.steps.Ends.{SupplyView, given_next, supply_after, supply_of}

-- ---- a list behind its first items

past : {A : Type 0} (xs : List A) (n : ℕ) → drop n xs ≡ [] → length xs ≤ n
past [] n e = omega arith
past (y ∷ xs) zero e = absurd cc
past (y ∷ xs) (suc n) e = omega (arith, past xs n e)

-- ---- the next of a supply

-- what is given next, and what is left
pub record GivesNext (given : ℕ) (fetch : Option (Span × Answered)) (next : Option (Result Item Diag)) (left : SupplyView) : Type 0 where
  pub says : next ≡ given_next given fetch
  pub leaves : left ≡ supply_of (given + 1) fetch

-- behind the last record
end_by : (said : Answered) (given : ℕ) → length (items_in said.answer) ≤ given
    → ((eqb given (length (items_in said.answer)) ≡ true) × (given ≡ length (items_in said.answer)))
    ⊎ ((eqb given (length (items_in said.answer)) ≡ false) × (given ≢ length (items_in said.answer)))
    → option_map Err (cond (nat_le given (length (items_in said.answer))) (end_in said.answer) None)
    ≡ item_or_end None (given == length (items_in said.answer)) (end_in said.answer)
end_by said given low (inl same) =
    let le : nat_le given (length (items_in said.answer)) ≡ true = grind (arith, same.1) in
    let eq : (given == length (items_in said.answer)) ≡ true = same.0 in
    ap (λ (b : Bool). option_map Err (cond b (end_in said.answer) None)) le
    ∙ ap (λ (b : Bool). item_or_end None b (end_in said.answer)) (sym eq)
end_by said given low (inr other) =
    let le : nat_le given (length (items_in said.answer)) ≡ false = grind (arith, low, other.1) in
    let eq : (given == length (items_in said.answer)) ≡ false = other.0 in
    ap (λ (b : Bool). option_map Err (cond b (end_in said.answer) None)) le
    ∙ ap (λ (b : Bool). item_or_end None b (end_in said.answer)) (sym eq)

left_by : (said : Answered) (given : ℕ) (leg : ℕ) → leg ≡ said.leg → length (items_in said.answer) ≤ given
    → ◌≡◌ {A = SupplyView} (record { leg = leg; items = []; end = None }) (supply_after (given + 1) said)
left_by said given leg is low =
    let none : drop (given + 1) (items_in said.answer) ≡ [] = drop_all (given + 1) (items_in said.answer) (omega (arith, low)) in
    let above : nat_le (given + 1) (length (items_in said.answer)) ≡ false = grind (arith, low) in
    ap (λ (l : ℕ). record { leg = l; items = []; end = None }) is
    ∙ ap (λ (items : List Item). record { leg = said.leg; items = items; end = None }) (sym none)
    ∙ ap (λ (b : Bool). record {
      leg = said.leg;
      items = drop (given + 1) (items_in said.answer);
      end = cond b (end_in said.answer) None;
    }) (sym above)

pub next_end : (s : SupplyView) (given : ℕ) (fetch : Option (Span × Answered)) → s ≡ supply_of given fetch → s.items ≡ []
    → GivesNext given fetch (option_map Err s.end) (record { leg = s.leg; items = []; end = None })
next_end s given None is items = record {
  says = ap (λ (x : SupplyView). option_map Err x.end) is;
  leaves = ap (λ (x : SupplyView). record { leg = x.leg; items = []; end = None }) is;
}
next_end s given (Some fetch) is items =
    let said : Answered = fetch.1 in
    let low : length (items_in said.answer) ≤ given = past (items_in said.answer) given (ap (λ (x : SupplyView). x.items) (sym is) ∙ items) in
    record {
      says = ap (λ (x : SupplyView). option_map Err x.end) is
          ∙ end_by said given low (eqb_tells given (length (items_in said.answer)))
          ∙ ap (λ (o : Option Item). item_or_end o (given == length (items_in said.answer)) (end_in said.answer))
          (sym (slice_get_past (items_in said.answer) given low));
      leaves = left_by said given s.leg (ap (λ (x : SupplyView). x.leg) is) low;
    }
