use Rattle.std.proofs.Common.{◌≡◌, ◌+◌, ◌<◌, ℕ, All, get_or, length}
use Rattle.z_types.specs.Bounds.{most_legs}
use Rattle.gateway_rules.specs.Outcomes.{places_from}
use Rattle.package_rules.specs.Asked.{ranks_of, spans_of}
use Rattle.package_rules.specs.steps.Spans.{IsSpanOf, met_of, none_met, rank_from}
use Rattle.package_rules.proofs.spans.spans_of.Given as goal

abbrev pub invariant-loop-behind : goal.invariant-loop-behind
invariant-loop-behind l = record {
  size : length l.met ≡ most_legs;
  each : (leg : ℕ) → leg < most_legs
      → get_or l.met leg none_met ≡ met_of (rank_from l.hits l.first leg) (ranks_of leg (places_from l.hits l.first l.behind));
}

abbrev pub invariant-loop-leg : goal.invariant-loop-leg
invariant-loop-leg l = record {
  spans : l.spans ≡ spans_of l.leg (places_from l.hits l.first l.count);
  each : All (IsSpanOf (length l.hits) (l.first + l.count)) l.spans;
}
