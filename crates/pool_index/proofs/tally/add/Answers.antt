use Rattle.std.proofs.Common.{inl, inr}
use Rattle.pool_index.proofs.tally.add.Goals as goal

pub returns-in-Ok : goal.returns-in-Ok
returns-in-Ok c = inl c.in-Ok.ensures.ok

pub returns-in-Err : goal.returns-in-Err
returns-in-Err c = inr c.in-Err.ensures.err
