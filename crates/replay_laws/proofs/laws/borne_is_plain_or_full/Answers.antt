use Rattle.replay_laws.proofs.BorneLemmas.{run-borne}
use Rattle.replay_laws.proofs.laws.borne_is_plain_or_full.Goals as goal

pub returns : goal.returns
returns g c = λ exact route events before behind report run is borne.
    run-borne g.W.World g.S.Sitting exact route c.packages_bear.ensures c.packages_dial_on.ensures c.bearing_stays.ensures is borne.told events
    before behind report run borne
