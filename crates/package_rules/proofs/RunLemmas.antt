-- What each leg has among places that are met one after another
use Rattle.std.proofs.Common.{◌≡◌, ◌≢◌, ◌≤◌, ◌<◌, ◌+◌, ◌-◌, ℕ, zero, suc, List, [], ◌∷◌, ◌++◌, length, take, drop, get_or, sym, ap, ◌∙◌, arith, Some}
use Rattle.std.specs.Prelude.{◌==◌, true, false, slice_get}
use Rattle.std.proofs.lemmas.List.{append-nil, take-append-drop}
use Rattle.z_types.specs.MergedOrder.{Place, merged}
use Rattle.gateway_rules.specs.Outcomes.{places_from}
use Rattle.package_rules.specs.Asked.{ranks_of}
use Rattle.package_rules.specs.steps.Spans.{RunTo, rank_from}
use Rattle.package_rules.proofs.Ranks.{run_of_all, ranks-append}
use Rattle.package_rules.proofs.Taken.{places_more}

-- ---- parts of a run

-- the front of a run, and what stands behind it
pub run-front : (last from : ℕ) (xs ys : List ℕ) → RunTo last from (xs ++ ys) → RunTo last from xs
run-front last from [] ys run = tt
run-front last from (x ∷ xs) ys run = (run.0, run.1, run-front last (from + 1) xs ys run.2)

pub run-rest : (last from : ℕ) (xs ys : List ℕ) → RunTo last from (xs ++ ys) → RunTo last (from + length xs) ys
run-rest last from [] ys run = rw (let e : from + length {A = ℕ} [] ≡ from = omega arith in e) run
run-rest last from (x ∷ xs) ys run =
    rw (let e : from + length (x ∷ xs) ≡ from + 1 + length xs = omega arith in e) (run-rest last (from + 1) xs ys run.2)

-- the ranks of a leg among places from one on stand one behind another, behind those before
pub run_of_places : (hits : List ℕ) (first count leg : ℕ)
    → RunTo (get_or hits leg 0) (rank_from hits first leg) (ranks_of leg (places_from hits first count))
run_of_places hits first count leg =
    let all : List Place = merged hits in
    let front : List Place = take (first - 1) all in
    let rest : List Place = drop (first - 1) all in
    let parts : ranks_of leg all ≡ ranks_of leg front ++ ranks_of leg rest =
    ap (ranks_of leg) (sym (take-append-drop (first - 1) all)) ∙ ranks-append leg front rest in
    let run : RunTo (get_or hits leg 0) 1 (ranks_of leg front ++ ranks_of leg rest) = rw (← parts) (run_of_all leg hits) in
    let behind : RunTo (get_or hits leg 0) (1 + length (ranks_of leg front)) (ranks_of leg rest) =
    run-rest (get_or hits leg 0) 1 (ranks_of leg front) (ranks_of leg rest) run in
    let two : ranks_of leg rest ≡ ranks_of leg (take count rest) ++ ranks_of leg (drop count rest) =
    ap (ranks_of leg) (sym (take-append-drop count rest)) ∙ ranks-append leg (take count rest) (drop count rest) in
    let start : length (ranks_of leg front) + 1 ≡ 1 + length (ranks_of leg front) = omega arith in
    rw start (run-front (get_or hits leg 0) (1 + length (ranks_of leg front)) (ranks_of leg (take count rest)) (ranks_of leg (drop count rest))
    (rw (← two) behind))

-- ---- one place more

ranks-own : (place : Place) → ranks_of place.leg (place ∷ []) ≡ place.rank ∷ []
ranks-own place = let is : (place.leg == place.leg) ≡ true = grind arith in grind (arith, is)

differs : (a b : ℕ) → a ≢ b → (a == b) ≡ false
differs a b h = grind (arith, h)

ranks-other : (place : Place) (leg : ℕ) → place.leg ≢ leg → ranks_of leg (place ∷ []) ≡ []
ranks-other place leg h = let is : (place.leg == leg) ≡ false = differs place.leg leg h in grind (arith, is)

there : (hits : List ℕ) (leg : ℕ) → 1 ≤ get_or hits leg 0 → leg < length hits
there [] leg h = grind (arith, h)
there (n ∷ hits) zero h = omega arith
there (n ∷ hits) (suc leg) h = omega (arith, there hits leg h)

-- the next place is the next rank of its leg, and of no other
pub record IsNextRank (hits : List ℕ) (first behind : ℕ) (place : Place) : Type 0 where
  pub leg : place.leg < length hits
  pub rank : place.rank ≡ rank_from hits first place.leg + length (ranks_of place.leg (places_from hits first behind))
  pub within : place.rank ≤ get_or hits place.leg 0
  pub own : ranks_of place.leg (places_from hits first (behind + 1))
      ≡ ranks_of place.leg (places_from hits first behind) ++ place.rank ∷ []
  pub others : (leg : ℕ) → place.leg ≢ leg
      → ranks_of leg (places_from hits first (behind + 1)) ≡ ranks_of leg (places_from hits first behind)

pub next_rank : (hits : List ℕ) (first behind position : ℕ) (place : Place) → 0 < first → position ≡ first + behind
    → slice_get (merged hits) (position - 1) ≡ Some place → IsNextRank hits first behind place
next_rank hits first behind position place counted is found =
    let before : List Place = places_from hits first behind in
    let ranks : List ℕ = ranks_of place.leg before in
    let last : ℕ = get_or hits place.leg 0 in
    let from : ℕ = rank_from hits first place.leg in
    let more : places_from hits first (behind + 1) ≡ before ++ place ∷ [] =
    places_more hits first behind position place counted is found in
    let own : ranks_of place.leg (places_from hits first (behind + 1)) ≡ ranks ++ place.rank ∷ [] =
    ap (ranks_of place.leg) more ∙ ranks-append place.leg before (place ∷ [])
    ∙ ap (λ (ns : List ℕ). ranks ++ ns) (ranks-own place) in
    let run : RunTo last from (ranks ++ place.rank ∷ []) = rw (← own) (run_of_places hits first (behind + 1) place.leg) in
    let end : RunTo last (from + length ranks) (place.rank ∷ []) = run-rest last from ranks (place.rank ∷ []) run in
    record {
      leg = there hits place.leg (omega (arith, end.1));
      rank = end.0;
      within = omega (arith, end.0, end.1);
      own = own;
      others = λ leg h.
          ap (ranks_of leg) more ∙ ranks-append leg before (place ∷ [])
          ∙ ap (λ (ns : List ℕ). ranks_of leg before ++ ns) (ranks-other place leg h) ∙ append-nil (ranks_of leg before);
    }
