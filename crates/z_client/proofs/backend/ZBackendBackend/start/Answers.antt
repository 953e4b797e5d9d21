use Rattle.z_client.specs.Sets.{made_in}
use Rattle.z_client.proofs.SendLemmas.{copied_unit}
use Rattle.z_client.proofs.backend.ZBackendBackend.start.Goals as goal

pub send_ask-began-requires-clause-unit : goal.send_ask-began-requires-clause-unit
send_ask-began-requires-clause-unit g c =
    copied_unit (made_in c.args.session.now.made.items) c.args.ask.now c.in-Ok.own c.in-Ok.unit c.in-Ok.ensures.own c.in-Ok.ensures.unit c.requires.may
