-- The answer to a span is found by the span's leg
use Rattle.std.proofs.Common.{◌≡◌, ◌≢◌, ◌<◌, ◌≤◌, ◌+◌, ◌⊎◌, ◌∙◌, ℕ, zero, suc, List, [], ◌∷◌, ◌++◌, length, map, Option, None, Some, ap, sym, refl, subst, arith, inl, inr}
use Rattle.std.specs.Prelude.{◌==◌, Bool, true, false, cond, find, flat_map}
use Rattle.std.specs.List.{range_with_len, zip}
use Rattle.std.specs.Option.{option_or}
use Rattle.std.proofs.Math.Dec.{eqb}
use Rattle.std.proofs.lemmas.Bool.Decides.{eqb_tells}
use Rattle.std.proofs.lemmas.List.Folds.{find-append}
use Rattle.std.proofs.lemmas.Option.{same_Some}
use Rattle.z_types.specs.MergedOrder.{Place}
use Rattle.z_types.specs.declared.world.World as world
use Rattle.route_config.specs.declared.route.Route.{Route}
use Rattle.package_rules.specs.declared.answered.Answered.{Answered}
use Rattle.package_rules.specs.declared.spans.Span.{Span}
use Rattle.package_rules.specs.Asked.{Asked, ranks_of, span_of, spans_of}
use Rattle.package_rules.specs.Truth.{AreAnswersTo, IsAnswerTo}
use Rattle.package_rules.specs.steps.Spans.{RunTo}
use Rattle.package_rules.proofs.Unmarked.{AreUnmarked, IsUnmarked}

-- ---- spans

abbrev pub is_of : ℕ → Span → Bool
is_of leg span = span.leg == leg

-- the span of ranks that stand one behind another
abbrev pub span_from : (leg from count : ℕ) → Span
span_from leg from count = record { leg = leg; first = from; count = count }

pub span_there : (leg last from : ℕ) (ranks : List ℕ) → RunTo last from ranks → 1 ≤ length ranks
    → span_of leg ranks ≡ span_from leg from (length ranks) ∷ []
span_there leg last from [] run some = absurd (omega (arith, some))
span_there leg last from (rank ∷ ranks) run some =
    ap (λ (n : ℕ). span_from leg n (length ranks + 1) ∷ []) run.0 ∙ ap (λ (n : ℕ). span_from leg from n ∷ []) (omega arith)

no_span : (leg other : ℕ) (ranks : List ℕ) → (other == leg) ≡ false → find (is_of leg) (span_of other ranks) ≡ None
no_span leg other [] differs = refl
no_span leg other (rank ∷ ranks) differs = ap (λ (b : Bool). cond b (Some (span_from other rank (length ranks + 1))) None) differs

-- the span of a leg is found among those of all
found_by : (leg from count : ℕ) (places : List Place) (span : Span) → span_of leg (ranks_of leg places) ≡ span ∷ []
    → span.leg ≡ leg → from ≤ leg → leg < from + suc count
    → (leg < from + 1 + count → from + 1 ≤ leg
    → find (is_of leg) (flat_map (λ (l : ℕ). span_of l (ranks_of l places)) (range_with_len (from + 1) count)) ≡ Some span)
    → ((eqb from leg ≡ true) × (from ≡ leg)) ⊎ ((eqb from leg ≡ false) × (from ≢ leg))
    → find (is_of leg) (flat_map (λ (l : ℕ). span_of l (ranks_of l places)) (range_with_len from (suc count))) ≡ Some span
found_by leg from count places span is own low high later (inl same) =
    let spans : ℕ → List Span = λ l. span_of l (ranks_of l places) in
    let rest : List Span = flat_map spans (range_with_len (from + 1) count) in
    let one : spans from ≡ span ∷ [] = ap spans same.1 ∙ is in
    let here : is_of leg span ≡ true = ap (λ (l : ℕ). l == leg) (own ∙ sym same.1) ∙ same.0 in
    ap (λ (ss : List Span). find (is_of leg) (ss ++ rest)) one
    ∙ ap (λ (b : Bool). cond b (Some span) (find (is_of leg) rest)) here
found_by leg from count places span is own low high later (inr other) =
    let spans : ℕ → List Span = λ l. span_of l (ranks_of l places) in
    let rest : List Span = flat_map spans (range_with_len (from + 1) count) in
    find-append (is_of leg) (spans from) rest
    ∙ ap (λ (o : Option Span). option_or o (find (is_of leg) rest)) (no_span leg from (ranks_of from places) other.0)
    ∙ later (omega (arith, high)) (omega (arith, low, other.1))

found_from : (leg from count : ℕ) (places : List Place) (span : Span) → span_of leg (ranks_of leg places) ≡ span ∷ []
    → span.leg ≡ leg → from ≤ leg → leg < from + count
    → find (is_of leg) (flat_map (λ (l : ℕ). span_of l (ranks_of l places)) (range_with_len from count)) ≡ Some span
found_from leg from zero places span is own low high = absurd (omega (arith, low, high))
found_from leg from (suc count) places span is own low high =
    found_by leg from count places span is own low high
    (λ inside above. found_from leg (from + 1) count places span is own above inside) (eqb_tells from leg)

pub span_found : (leg legs : ℕ) (places : List Place) (span : Span) → span_of leg (ranks_of leg places) ≡ span ∷ []
    → span.leg ≡ leg → leg < legs → find (is_of leg) (spans_of legs places) ≡ Some span
span_found leg legs places span is own inside = found_from leg 0 legs places span is own (omega arith) (omega (arith, inside))

-- ---- answers

module _ {W : Type 0} (w : world.Ghosts W) (route : Route) (ask : Span → Asked) where
  -- the answer to a span, by the leg
  pub record IsFetch (leg : ℕ) (spans : List Span) (answers : List Answered) (span : Span) : Type 0 where
    pub answered : Answered
    pub found : find (λ (fetch : Span × Answered). fetch.0.leg == leg) (zip spans answers) ≡ Some (span, answered)
    pub is : IsAnswerTo w route (ask span) answered
    pub unmarked : IsUnmarked answered.answer

  fetch_by : (leg : ℕ) (first : Span) (a : Answered) (spans : List Span) (answers : List Answered) (span : Span) (own : Bool)
      → (first.leg == leg) ≡ own → cond own (Some first) (find (is_of leg) spans) ≡ Some span
      → IsAnswerTo w route (ask first) a → IsUnmarked a.answer
      → (find (is_of leg) spans ≡ Some span → IsFetch leg spans answers span) → IsFetch leg (first ∷ spans) (a ∷ answers) span
  fetch_by leg first a spans answers span true own h is unmarked later =
      let same : first ≡ span = same_Some first span h in record {
        answered = a;
        found = ap (λ (b : Bool). cond b (Some (first, a)) (find (λ (fetch : Span × Answered). fetch.0.leg == leg) (zip spans answers))) own
            ∙ ap (λ (s : Span). Some (s, a)) same;
        is = subst (λ (s : Span). IsAnswerTo w route (ask s) a) same is;
        unmarked = unmarked;
      }
  fetch_by leg first a spans answers span false own h is unmarked later =
      let rest = later h in record {
        answered = rest.answered;
        found = ap (λ (b : Bool). cond b (Some (first, a)) (find (λ (fetch : Span × Answered). fetch.0.leg == leg) (zip spans answers))) own
            ∙ rest.found;
        is = rest.is;
        unmarked = rest.unmarked;
      }

  pub fetch_found : (leg : ℕ) (spans : List Span) (answers : List Answered) (span : Span)
      → AreAnswersTo w route (map ask spans) answers → AreUnmarked answers → find (is_of leg) spans ≡ Some span
      → IsFetch leg spans answers span
  fetch_found leg [] [] span all unmarked found = absurd cc
  fetch_found leg [] (a ∷ answers) span all unmarked found = absurd cc
  fetch_found leg (first ∷ spans) [] span all unmarked found = absurd all
  fetch_found leg (first ∷ spans) (a ∷ answers) span all unmarked found =
      fetch_by leg first a spans answers span (first.leg == leg) refl found all.0 unmarked.0
      (fetch_found leg spans answers span all.1 unmarked.1)
