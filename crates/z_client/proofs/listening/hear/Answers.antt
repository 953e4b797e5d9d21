use Rattle.std.proofs.Common.{take, subst, refl}
use Rattle.z_client.specs.Sets.{made_in, pending_of}
use Rattle.z_client.specs.Looks.{IsHeardIn}
use Rattle.z_client.proofs.LookLemmas.{another_found, none_untold, breach_listened, memory_listened}
use Rattle.z_client.proofs.listening.hear.Goals as goal

pub settle-requires-clause-said : goal.settle-requires-clause-said
settle-requires-clause-said g c =
    subst (λ heard. IsHeardIn (pending_of c.args.waiting) (take c.args.size (g.N.Link.Linked.arrived c.args.parts.now.link)) heard)
    c.in-Ok-Some.field-0-is c.in-Ok-Some.ensures

pub returns-in-Ok-None-clause-listened : goal.returns-in-Ok-None-clause-listened
returns-in-Ok-None-clause-listened g c =
    breach_listened g.W.World g.N.Link.Linked (pending_of c.args.waiting) c.args.parts.now (g.N.Link.Linked.arrived c.args.parts.now.link)
    c.breach.result c.breach.ensures c.requires.meanwhile

pub returns-in-Ok-None-clause-found : goal.returns-in-Ok-None-clause-found
returns-in-Ok-None-clause-found g c =
    let none = subst (λ heard. IsHeardIn (pending_of c.args.waiting) (take c.args.size (g.N.Link.Linked.arrived c.args.parts.now.link)) heard)
    c.in-Ok-None.field-0-is c.in-Ok-None.ensures in
    another_found (g.W.World.told c.args.parts.now.address) (pending_of c.args.waiting) (g.N.Link.Linked.arrived c.args.parts.now.link) c.args.size
    c.breach.result c.breach.ensures c.requires.frame none
    (none_untold g.W.World g.N.Link.Linked (pending_of c.args.waiting) c.args.parts.now c.args.size c.requires none)

pub returns-in-Err-clause-listened : goal.returns-in-Err-clause-listened
returns-in-Err-clause-listened g c =
    memory_listened g.W.World g.N.Link.Linked (pending_of c.args.waiting) c.args.parts.now (made_in c.args.parts.now.made.items) c.requires.meanwhile (λ name. refl)
