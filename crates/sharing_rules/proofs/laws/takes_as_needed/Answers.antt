use Rattle.sharing_rules.proofs.TakenUses.{takes_so}
use Rattle.sharing_rules.proofs.laws.takes_as_needed.Goals as goal

pub returns : goal.returns
returns g c = λ route who at now moment before want given os falls pool numbered room kept.
    takes_so g.W.World route who at now moment before want given os
    (record { falls = falls; ttl = pool.order; numbered = numbered; room = room; kept = kept })
