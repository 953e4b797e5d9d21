-- For contracts alone: records of one leg among those that are asked for (this project's own)
use Rattle.std.specs.Prelude.{◌≡◌, ℕ, ◌+◌, ◌-◌, ◌<◌, ◌≤◌, ◌==◌, List, [], ◌∷◌, length, take, if◌then◌else◌}
use Rattle.z_types.specs.MergedOrder.{merged}
use Rattle.package_rules.specs.declared.spans.Met.{Met}
use Rattle.package_rules.specs.declared.spans.Span.{Span}
use Rattle.package_rules.specs.Asked.{ranks_of}

-- numbers one behind another, from one on, none of them above the last
abbrev pub RunTo : (last from : ℕ) → List ℕ → Type 0
RunTo last from [] = Unit {0}
RunTo last from (n ∷ ns) = (n ≡ from) × (from ≤ last) × RunTo last (from + 1) ns

-- some records of one of so many legs, with their ranks up to one that is no greater than an end
pub record IsSpanOf (legs end : ℕ) (span : Span) : Type 0 where
  pub leg : span.leg < legs
  pub from_one : 1 ≤ span.first
  pub some : 1 ≤ span.count
  pub within : span.first + span.count ≤ end

-- no rank was met, and one more was
abbrev pub none_met : Met
none_met = record { first = 0; last = 0 }

abbrev pub met_then : Met → ℕ → Met
met_then met rank = record { first = if met.first == 0 then rank else met.first; last = rank }

-- the next rank of a leg, where the places up to one come first
abbrev pub rank_from : List ℕ → (first leg : ℕ) → ℕ
rank_from hits first leg = length (ranks_of leg (take (first - 1) (merged hits))) + 1

-- what was met of ranks that stand one behind another, from one on
abbrev pub met_of : ℕ → List ℕ → Met
met_of from [] = none_met
met_of from (rank ∷ ranks) = record { first = from; last = from + length ranks }

-- the span of a leg of which these ranks were met
abbrev pub span_met : ℕ → Met → List Span
span_met leg met =
    if met.first == 0 then []
    else record { leg = leg; first = met.first; count = met.last - met.first + 1 } ∷ []
