use Rattle.pool_index.proofs.Found.{others_stay}
use Rattle.pool_index.proofs.idlers.drop_pair.Goals as goal

pub returns-clause-others : goal.returns-clause-others
returns-clause-others c = others_stay c.take_out.result c.args.pair c.args.index.now c.take_out.new.self c.take_out.ensures.taken c.take_out.ensures.same c.take_out.ensures.whole
