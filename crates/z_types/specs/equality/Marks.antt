-- For proofs alone: marks and ends are tested exactly (this project's own)
use Rattle.std.specs.Prelude.{refl}
use Rattle.std.proofs.Common.{ap}
use Rattle.z_types.specs.Exact.{EqIsExact}
use Rattle.z_types.specs.equality.Tests.{itself_cloned, numbers_exact}
use Rattle.z_types.specs.equality.Parts.{Exactness, shown}
use Rattle.z_types.specs.declared.marks.Mark.{Mark}
use Rattle.z_types.specs.declared.marks.Mark.TheVariants.{Plain, Link, Silent, Gone, Full}
use Rattle.z_types.specs.declared.marks.End.TheVariants.{Closed, Finished, Malformed, Cut, Limited, ReadFault, WriteFault, Memory}
use Rattle.z_types.specs.contracts.marks.MarkPartialEq.TheImpl as mark_test
use Rattle.z_types.specs.contracts.marks.EndPartialEq.TheImpl as end_test

pub mark_exact : EqIsExact (mark_test.ghosts).eq
mark_exact Plain Plain h = refl
mark_exact Link Link h = refl
mark_exact (Silent n) (Silent m) h = ap Silent (numbers_exact n m h)
mark_exact Gone Gone h = refl
mark_exact (Full n) (Full m) h = ap Full (numbers_exact n m h)
mark_exact a b h = cc

abbrev pub mark : Exactness Mark
mark = shown mark_exact itself_cloned

pub end_exact : EqIsExact (end_test.ghosts).eq
end_exact Closed Closed h = refl
end_exact Finished Finished h = refl
end_exact (Malformed n) (Malformed m) h = ap Malformed (numbers_exact n m h)
end_exact (Cut n) (Cut m) h = ap Cut (numbers_exact n m h)
end_exact Limited Limited h = refl
end_exact ReadFault ReadFault h = refl
end_exact WriteFault WriteFault h = refl
end_exact Memory Memory h = refl
end_exact a b h = cc
