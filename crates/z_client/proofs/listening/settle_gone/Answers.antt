use Rattle.std.proofs.Common.{refl}
use Rattle.z_client.specs.Sets.{made_in, pending_of}
use Rattle.z_client.proofs.LookLemmas.{memory_listened}
use Rattle.z_client.proofs.listening.settle_gone.Goals as goal

pub returns-in_default-clause-listened : goal.returns-in_default-clause-listened
returns-in_default-clause-listened g c =
    memory_listened g.W.World g.N.Link.Linked (pending_of c.args.waiting) c.args.parts.now (made_in c.args.parts.now.made.items) c.requires.arrived.meanwhile (λ name. refl)
