use Rattle.std.proofs.Common.{◌≡◌, map, Ok}
use Rattle.std.specs.Prelude.{filter_map}
use Rattle.std.specs.Option.{option_copied}
use Rattle.z_types.specs.Under.{under}
use Rattle.gateway_rules.specs.Targets.{record_at}
use Rattle.gateway_rules.specs.Outcomes.{places_from}
use Rattle.package.proofs.records.records_from.Given as goal

abbrev pub invariant-loop-behind : goal.invariant-loop-behind
invariant-loop-behind g l =
    filter_map (record_at (under l.wanted.login.now g.T.World) l.route l.wanted.legs.now l.wanted.query.now
    (option_copied l.wanted.syntax) (option_copied l.wanted.element)) (places_from l.hits l.first l.behind)
    ≡ map (λ x. Ok x) l.records
