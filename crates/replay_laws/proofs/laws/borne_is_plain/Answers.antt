use Rattle.replay_laws.proofs.PlainLemmas.{borne-plain}
use Rattle.replay_laws.proofs.laws.borne_is_plain.Goals as goal

pub returns : goal.returns
returns g c = λ exact route events before behind report run is borne causes never.
    borne-plain route.pool report before behind (c.borne_is_plain_or_full.ensures exact route events before behind report run is borne) causes never
