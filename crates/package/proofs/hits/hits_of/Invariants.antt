use Rattle.std.proofs.Common.{◌≡◌, map, take, Ok}
use Rattle.z_types.specs.Under.{under}
use Rattle.virt_db.specs.Legs.{leg_at}
use Rattle.gateway_rules.specs.Targets.{hits_at}
use Rattle.package.proofs.hits.hits_of.Given as goal

abbrev pub invariant-loop-leg : goal.invariant-loop-leg
invariant-loop-leg g l =
    map (λ leg. hits_at (under l.login g.T.World) l.query (leg_at l.route leg)) (take l.leg-index l.leg-items) ≡ map (λ x. Ok x) l.hits
