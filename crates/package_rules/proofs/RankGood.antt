-- Where places of a leg stand in front of one, all its ranks before that one's do
use Rattle.std.proofs.Common.{◌≡◌, ◌<◌, ◌≤◌, ◌+◌, ◌-◌, ◌⊎◌, ◌∙◌, Bool, true, false, ℕ, zero, suc, List, [], ◌∷◌, ◌++◌, length, map, Option, Result, cond, filter, get_or, ap, refl, subst, arith, inl, inr}
use Rattle.std.specs.Prelude.{◌==◌}
use Rattle.std.proofs.lemmas.Bool.{cases_lt, eqb-true}
use Rattle.std.proofs.lemmas.List.{get_or_past, length-append}
use Rattle.z_types.specs.declared.diagnostic.Diag.{Diag}
use Rattle.z_types.specs.MergedOrder.{Place, place_at}
use Rattle.gateway_rules.specs.Outcomes.{places_from}
use Rattle.package_rules.specs.Asked.{ranks_of}
use Rattle.package_rules.specs.steps.Spans.{RunTo, rank_from}
use Rattle.package_rules.proofs.Agreed.{AreGood, IsGood}
use Rattle.package_rules.proofs.Ranks.{ranks-append}
use Rattle.package_rules.proofs.RunLemmas.{run-front, run-rest, run_of_places}

place_is : (leg rank : ℕ) (place : Place) → place.leg ≡ leg → place.rank ≡ rank → place ≡ place_at leg rank
place_is leg rank place is counted = ap (λ (l : ℕ). place_at l place.rank) is ∙ ap (place_at leg) counted

-- ---- the ranks in front are good

module _ {A : Type 0} (f : Place → Option (Result A Diag)) (leg : ℕ) where
  abbrev of_leg : Place → Bool
  of_leg place = place.leg == leg

  good_by : (last from : ℕ) (place : Place) (places : List Place) (behind : ℕ) (own : Bool) → (place.leg == leg) ≡ own
      → RunTo last from (map (λ (p : Place). p.rank) (cond own (place ∷ filter of_leg places) (filter of_leg places)))
      → behind < length (map (λ (p : Place). p.rank) (cond own (place ∷ filter of_leg places) (filter of_leg places)))
      → IsGood (f place)
      → ((start : ℕ) (later : ℕ) → RunTo last start (ranks_of leg places) → later < length (ranks_of leg places)
      → IsGood (f (place_at leg (start + later))))
      → IsGood (f (place_at leg (from + behind)))
  good_by last from place places zero true own run inside good others =
      subst (λ (p : Place). IsGood (f p))
      (place_is leg (from + zero) place (eqb-true place.leg leg own) (run.0 ∙ omega arith)) good
  good_by last from place places (suc behind) true own run inside good others =
      let shifted : from + 1 + behind ≡ from + suc behind = omega arith in
      subst (λ (n : ℕ). IsGood (f (place_at leg n))) shifted (others (from + 1) behind run.2 (omega (arith, inside)))
  good_by last from place places behind false own run inside good others = others from behind run inside

  pub good_rank : (last from : ℕ) (places : List Place) (behind : ℕ) → RunTo last from (ranks_of leg places) → AreGood f places
      → behind < length (ranks_of leg places) → IsGood (f (place_at leg (from + behind)))
  good_rank last from [] behind run good inside = absurd (omega (arith, inside))
  good_rank last from (place ∷ places) behind run good inside =
      good_by last from place places behind (place.leg == leg) refl run inside good.0
      (λ start later run inside. good_rank last start places later run good.1 inside)

-- ---- the rank of a place

-- the last of a run is no greater than its end
run_end : (last from : ℕ) (ranks : List ℕ) → RunTo last from ranks → 1 ≤ length ranks → from + (length ranks - 1) ≤ last
run_end last from [] run some = absurd (omega (arith, some))
run_end last from (rank ∷ []) run some = omega (arith, run.1)
run_end last from (rank ∷ other ∷ ranks) run some =
    omega (arith, run_end last (from + 1) (other ∷ ranks) run.2 (omega arith))

there_by : (hits : List ℕ) (leg : ℕ) → 1 ≤ get_or hits leg 0 → (leg < length hits) ⊎ (length hits ≤ leg) → leg < length hits
there_by hits leg some (inl inside) = inside
there_by hits leg some (inr past) = absurd (omega (arith, some, get_or_past hits leg 0 past))

own_first : (place : Place) (places : List Place) → ranks_of place.leg (place ∷ places) ≡ place.rank ∷ ranks_of place.leg places
own_first place places = let is : (place.leg == place.leg) ≡ true = grind arith in
    ap (λ (own : Bool). map (λ (p : Place). p.rank)
    (cond own (place ∷ filter (λ (p : Place). p.leg == place.leg) places) (filter (λ (p : Place). p.leg == place.leg) places))) is

-- a place among those from one on: its leg has hits; the ranks of the leg are a run, and those in front of the place are its
-- first; the place is the next, and all are within the hits
pub record IsRankOf (hits : List ℕ) (first count : ℕ) (place : Place) (front : List Place) : Type 0 where
  pub leg : place.leg < length hits
  pub some : 1 ≤ length (ranks_of place.leg (places_from hits first count))
  pub run : RunTo (get_or hits place.leg 0) (rank_from hits first place.leg) (ranks_of place.leg (places_from hits first count))
  pub before : RunTo (get_or hits place.leg 0) (rank_from hits first place.leg) (ranks_of place.leg front)
  pub rank : place.rank ≡ rank_from hits first place.leg + length (ranks_of place.leg front)
  pub inside : length (ranks_of place.leg front) < length (ranks_of place.leg (places_from hits first count))
  pub within : rank_from hits first place.leg + (length (ranks_of place.leg (places_from hits first count)) - 1)
      ≤ get_or hits place.leg 0

pub rank_of : (hits : List ℕ) (first count : ℕ) (place : Place) (front rest : List Place)
    → places_from hits first count ≡ front ++ place ∷ rest → IsRankOf hits first count place front
rank_of hits first count place front rest is =
    let last : ℕ = get_or hits place.leg 0 in
    let from : ℕ = rank_from hits first place.leg in
    let ranks : List ℕ = ranks_of place.leg (places_from hits first count) in
    let before : List ℕ = ranks_of place.leg front in
    let later : List ℕ = ranks_of place.leg rest in
    let split : ranks ≡ before ++ place.rank ∷ later =
    ap (ranks_of place.leg) is ∙ ranks-append place.leg front (place ∷ rest)
    ∙ ap (λ (ns : List ℕ). before ++ ns) (own_first place rest) in
    let run : RunTo last from ranks = run_of_places hits first count place.leg in
    let parted : RunTo last from (before ++ place.rank ∷ later) = subst (RunTo last from) split run in
    let end : RunTo last (from + length before) (place.rank ∷ later) = run-rest last from before (place.rank ∷ later) parted in
    let counted : length ranks ≡ length (before ++ place.rank ∷ later) = ap (λ (ns : List ℕ). length ns) split in
    let inside : length before < length ranks = omega (arith, counted, length-append before (place.rank ∷ later)) in
    record {
      leg = there_by hits place.leg (omega (arith, end.1)) (cases_lt place.leg (length hits));
      some = omega (arith, inside);
      run = run;
      before = run-front last from before (place.rank ∷ later) parted;
      rank = end.0;
      inside = inside;
      within = run_end last from ranks run (omega (arith, inside));
    }
