use Rattle.std.proofs.Common.{refl}
use Rattle.z_client.specs.declared.sets.Waiting.TheVariants as waiting
use Rattle.z_client.specs.Sets.{pending_of}
use Rattle.z_client.proofs.LookLemmas.{rest_listened}
use Rattle.z_client.proofs.listening.rest.Goals as goal

pub returns-clause-listened : goal.returns-clause-listened
returns-clause-listened g c =
    rest_listened g.W.World g.N.Link.Linked (pending_of c.args.waiting) c.args.parts.now c.args.size c.args.heard.now
    (record { link = c.consume.new.link; scan = c.start-parts.result; address = c.args.parts.now.address; made = c.keep.new.sets; waiting = waiting.Nothing })
    c.requires.arrived c.requires.said refl c.in_ok-keep.ensures.ok refl c.consume.ensures.arrived c.consume.ensures.link.peer (c.start-parts.ensures.stands _)
