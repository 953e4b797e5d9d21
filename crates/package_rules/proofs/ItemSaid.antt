-- A leg that was asked for records says, up to its diagnostic, what is at each
use Rattle.std.proofs.Common.{◌≡◌, ◌<◌, ◌≤◌, ◌+◌, ◌-◌, ◌⊎◌, ◌∙◌, ℕ, zero, suc, List, [], ◌∷◌, length, Option, None, Some, Result, Ok, Err, ap, sym, refl, subst, arith, inl, inr, slice_get}
use Rattle.std.specs.Prelude.{◌==◌, Bool, true}
use Rattle.std.proofs.lemmas.Bool.{cases_lt}
use Rattle.std.proofs.lemmas.Option.{slice_get_past}
use Rattle.z_types.specs.declared.address.Address.{Address}
use Rattle.z_types.specs.declared.diagnostic.Diag.{Diag}
use Rattle.z_types.specs.declared.key.SetKey.{SetKey}
use Rattle.z_types.specs.declared.records.Item.{Item}
use Rattle.z_types.specs.declared.world.World as world
use Rattle.gw_outside.specs.Peers.{AreRecords}
use Rattle.leg.specs.Right.{AnswerFits, AreBroken, IsShort, IsWorldsAt}
use Rattle.leg.specs.declared.answers.LegAnswer.{LegAnswer}
use Rattle.leg.specs.declared.answers.LegAnswer.TheVariants as answer
use Rattle.leg.specs.declared.tasks.Task.TheVariants.{Records}
use Rattle.package_rules.specs.Said.{item_or_end, item_said}
use Rattle.package_rules.proofs.Agreed.{IsGood}
use Rattle.package_rules.proofs.Unmarked.{IsUnmarked}

-- a record that came
came : (record_at : ℕ → Result Item Diag) (first : ℕ) (items : List Item) (behind : ℕ) (next : Bool) (end : Option Diag)
    → AreRecords record_at first items → behind < length items
    → item_or_end (slice_get items behind) next end ≡ Some (record_at (first + behind))
came record_at first [] behind next end are inside = absurd (omega (arith, inside))
came record_at first (item ∷ items) zero next end are inside =
    ap Some (sym are.0 ∙ ap record_at (omega arith))
came record_at first (item ∷ items) (suc behind) next end are inside =
    came record_at (first + 1) items behind next end are.1 (omega (arith, inside))
    ∙ ap (λ (position : ℕ). Some (record_at position)) (omega arith)

itself : (n : ℕ) → (n == n) ≡ true
itself n = grind arith

-- the diagnostic in place of the next
ended : (items : List Item) (behind : ℕ) (diag : Diag) → behind ≡ length items
    → item_or_end (slice_get items behind) (behind == length items) (Some diag) ≡ Some (Err diag)
ended items behind diag is =
    ap (λ (n : ℕ). item_or_end (slice_get items n) (n == length items) (Some diag)) is
    ∙ ap (λ (o : Option Item). item_or_end o (length items == length items) (Some diag)) (slice_get_past items (length items) (omega arith))
    ∙ ap (λ (b : Bool). item_or_end None b (Some diag)) (itself (length items))

-- behind the diagnostic nothing matters
not_behind : (items : List Item) (diag : Diag) (behind : ℕ) → length items < behind
    → ((before : ℕ) → before < behind → IsGood (item_or_end (slice_get items before) (before == length items) (Some diag))) → ⊥
not_behind items diag behind above good = subst IsGood (ended items (length items) diag refl) (good (length items) above)

same_Ok : (a b : ℕ) → ◌≡◌ {A = Result ℕ Diag} (Ok a) (Ok b) → a ≡ b
same_Ok a b e = cc

module _ (record_at : ℕ → Result Item Diag) (search : Result ℕ Diag) (hits first count : ℕ) where
  -- a set that has all that was asked for is not short
  broken_by : (items : List Item) (diag : Diag) → search ≡ Ok hits → first + (count - 1) ≤ hits
      → (record_at (first + length items) ≡ Err diag) ⊎ IsShort search first count diag
      → Err diag ≡ record_at (first + length items)
  broken_by items diag found within (inl refused) = sym refused
  broken_by items diag found within (inr short) =
      absurd (omega (arith, within, short.fewer, same_Ok hits short.hits (sym found ∙ short.found)))

  broken_past : (items : List Item) (diag : Diag) (behind : ℕ) → search ≡ Ok hits → first + (count - 1) ≤ hits
      → AreBroken search record_at first count items diag
      → ((before : ℕ) → before < behind → IsGood (item_said (answer.Broken items diag) before))
      → length items ≤ behind → (length items < behind) ⊎ (behind ≤ length items)
      → item_said (answer.Broken items diag) behind ≡ Some (record_at (first + behind))
  broken_past items diag behind found within broken good past (inl above) = absurd (not_behind items diag behind above good)
  broken_past items diag behind found within broken good past (inr low) =
      let is : behind ≡ length items = omega (arith, past, low) in
      ended items behind diag is ∙ ap Some (broken_by items diag found within broken.1)
      ∙ ap (λ (n : ℕ). Some (record_at (first + n))) (sym is)

  broken_at : (items : List Item) (diag : Diag) (behind : ℕ) → search ≡ Ok hits → first + (count - 1) ≤ hits
      → AreBroken search record_at first count items diag
      → ((before : ℕ) → before < behind → IsGood (item_said (answer.Broken items diag) before))
      → (behind < length items) ⊎ (length items ≤ behind)
      → item_said (answer.Broken items diag) behind ≡ Some (record_at (first + behind))
  broken_at items diag behind found within broken good (inl inside) =
      came record_at first items behind (behind == length items) (Some diag) broken.0 inside
  broken_at items diag behind found within broken good (inr past) =
      broken_past items diag behind found within broken good past (cases_lt (length items) behind)

  refused_at : (diag : Diag) (behind : ℕ) → search ≡ Ok hits → (search ≡ Err diag) ⊎ (record_at first ≡ Err diag)
      → ((before : ℕ) → before < behind → IsGood (item_said (answer.Refused diag) before))
      → item_said (answer.Refused diag) behind ≡ Some (record_at (first + behind))
  refused_at diag behind found (inl none) good = let bad : ◌≡◌ {A = Result ℕ Diag} (Ok hits) (Err diag) = sym found ∙ none in absurd cc
  refused_at diag zero found (inr refused) good =
      ended [] zero diag (omega arith) ∙ ap Some (sym refused ∙ ap record_at (omega arith))
  refused_at diag (suc behind) found (inr refused) good = absurd (not_behind [] diag (suc behind) (omega arith) good)

-- so says each answer
pub item_is : {W : Type 0} (w : world.Ghosts W) (dbs : List (List ℕ)) (address : Address) (key : SetKey) (hits first count : ℕ)
    (syntax element : Option (List ℕ)) (said : LegAnswer) (behind : ℕ)
    → AnswerFits (Records key first count syntax element) said → IsUnmarked said
    → IsWorldsAt w dbs (Records key first count syntax element) address said → w.search address key ≡ Ok hits
    → first + (count - 1) ≤ hits → behind < count → ((before : ℕ) → before < behind → IsGood (item_said said before))
    → item_said said behind ≡ Some (w.record_ address key (first + behind) syntax element)
item_is w dbs address key hits first count syntax element (answer.Marked m) behind fits unmarked right found within inside good =
    absurd unmarked
item_is w dbs address key hits first count syntax element (answer.Hits n) behind fits unmarked right found within inside good = absurd fits
item_is w dbs address key hits first count syntax element (answer.Scanned entries) behind fits unmarked right found within inside good =
    absurd fits
item_is w dbs address key hits first count syntax element (answer.Items items) behind fits unmarked right found within inside good =
    came (λ position. w.record_ address key position syntax element) first items behind (behind == length items) None right
    (omega (arith, fits, inside))
item_is w dbs address key hits first count syntax element (answer.Broken items diag) behind fits unmarked right found within inside good =
    broken_at (λ position. w.record_ address key position syntax element) (w.search address key) hits first count items diag behind
    found within right good (cases_lt behind (length items))
item_is w dbs address key hits first count syntax element (answer.Refused diag) behind fits unmarked right found within inside good =
    refused_at (λ position. w.record_ address key position syntax element) (w.search address key) hits first count diag behind
    found right good
