use Rattle.std.specs.Prelude.{option_copied}
use Rattle.std.proofs.Common.{sym}
use Rattle.pool_sets.specs.Sessions.{idle_with}
use Rattle.pool_core.specs.PoolView.{counts_of}
use Rattle.pool_core.proofs.First.{none_at}
use Rattle.pool_core.proofs.Lacking.{fits_too, booked_for}
use Rattle.pool_index.proofs.pool.IndexedPool.take_for.Goals as goal

pub returns-clause-plain : goal.returns-clause-plain
returns-clause-plain g c =
    rw (none_at (idle_with c.args.class c.args.at.now (option_copied c.args.login) c.args.key.now) c.args.self.now.pool.sessions (sym c.in_default.ensures.place), c.book.ensures.booked, ← c.in_default.ensures.same) c.take_any-taken.ensures.plain

pub returns-clause-fits : goal.returns-clause-fits
returns-clause-fits g c =
    let p = c.args.self.now.pool in
    let none = none_at (idle_with c.args.class c.args.at.now (option_copied c.args.login) c.args.key.now) p.sessions (sym c.in_default.ensures.place) in
    fits_too g.W.World g.S.Sitting c.args.class c.args.at.now (option_copied c.args.login) c.args.key.now p.max_sessions p _ c.take_any-taken.result none (rw c.in_default.ensures.same at c.take_any-taken.ensures.plain) (rw c.in_default.ensures.same at c.take_any-taken.ensures.fits)

pub returns-clause-counts : goal.returns-clause-counts
returns-clause-counts g c =
    rw c.book.ensures.booked (booked_for c.args.key.now c.take_any-taken.result c.take_any-taken.new.self (counts_of c.args.self.now) (rw c.in_default.ensures.same at c.take_any-taken.ensures.counts))
