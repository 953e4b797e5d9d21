use Rattle.std.proofs.Common.{sym}
use Rattle.std.specs.Prelude.{option_copied}
use Rattle.pool_sets.specs.Sessions.{idle_for}
use Rattle.pool_core.proofs.First.{none_at}
use Rattle.pool_index.proofs.pool.IndexedPool.take_any.Goals as goal

pub returns-clause-plain : goal.returns-clause-plain
returns-clause-plain g c =
    rw (none_at (idle_for c.args.class c.args.at.now (option_copied c.args.login)) c.args.self.now.pool.sessions (sym c.in_default.ensures.place), ← c.in_default.ensures.same) c.dial.ensures.plain
