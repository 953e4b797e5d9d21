use Rattle.std.proofs.Common.{refl}
use Rattle.replay_top.proofs.LentLemmas.{lent_steadily}
use Rattle.replay_top.proofs.lent.LentWireWire.send.Goals as goal

pub returns-clause-steady : goal.returns-clause-steady
returns-clause-steady g c =
    lent_steadily c.args.self.now.wire.ghost_name c.args.self.now.wire.ghost_name refl g.N.Link.Linked c.args.unit.now c.args.link.now c.send.new.link
    (g.N.Watched.happened c.args.self.now.wire.now) (g.N.Watched.happened c.send.new.self) c.send.result c.send.ensures.steady
