use Rattle.std.proofs.Common.{refl}
use Rattle.pool_tests.proofs.KeyLemmas.{first_name}
use Rattle.pool_tests.proofs.sessions.ask_for.Goals as goal

pub returns : goal.returns
returns c = rw (c.in_ok-copy_of.ensures, c.in_ok-copy.ensures, first_name) refl
