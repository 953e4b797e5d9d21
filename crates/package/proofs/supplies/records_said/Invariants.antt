use Rattle.std.proofs.Common.{◌≡◌, ℕ, Ok, length, map, get_or}
use Rattle.std.specs.Prelude.{filter_map}
use Rattle.gateway_rules.specs.Outcomes.{places_from}
use Rattle.package_rules.specs.Asked.{ranks_of}
use Rattle.package_rules.specs.Said.{fetches_of, said_at}
use Rattle.package.specs.steps.Ends.{fetch_of, no_supply, supply_of}
use Rattle.package.specs.steps.Packages.{answers_of}
use Rattle.package.proofs.supplies.records_said.Given as goal

abbrev pub invariant-loop-behind : goal.invariant-loop-behind
invariant-loop-behind g l =
    let fetches = fetches_of (length l.hits) (places_from l.hits l.first l.count) (answers_of l.fn.legs.items) in
    (length l.supplies.items ≡ length l.hits)
    × ((leg : ℕ) → get_or l.supplies.items leg no_supply
    ≡ supply_of (length (ranks_of leg (places_from l.hits l.first l.behind))) (fetch_of fetches leg))
    × (filter_map (said_at l.route fetches) (places_from l.hits l.first l.behind) ≡ map (λ x. Ok x) l.records)
