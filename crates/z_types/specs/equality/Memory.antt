-- For proofs alone: want of memory is tested exactly (this project's own)
use Rattle.std.specs.Prelude.{refl}
use Rattle.z_types.specs.Exact.{EqIsExact}
use Rattle.z_types.specs.contracts.memory.MemoryPartialEq.TheImpl as memory_test

pub memory_exact : EqIsExact (memory_test.ghosts).eq
memory_exact a b h = refl
