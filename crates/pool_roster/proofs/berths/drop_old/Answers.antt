use Rattle.std.proofs.Common.{rules}
use Rattle.std.proofs.lemmas.Fn.{filter_same}
use Rattle.pool_sets.specs.Plain.{stays_open}
use Rattle.pool_roster.proofs.berths.drop_old.Goals as goal

pub returns : goal.returns
returns g c =
    filter_same _ (λ b. stays_open c.args.now c.args.ttl b.session) _ (λ x b q h. search rules) _ _ c.retain.ensures.filtered
