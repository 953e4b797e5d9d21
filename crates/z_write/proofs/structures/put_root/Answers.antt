use Rattle.std.proofs.Common.{[]}
use Rattle.std.proofs.lemmas.Result.{on_ok_weaker}
use Rattle.z_write.proofs.structures.put_root.Goals as goal

pub returns-clause-ok : goal.returns-clause-ok
returns-clause-ok c = on_ok_weaker c.put_structure.result (λ put. (put [] c.requires).1) c.put_structure.ensures.ok
