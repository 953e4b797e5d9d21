-- For contracts alone: a world of which nothing is told (this project's own)
use Rattle.std.specs.Prelude.{ℕ, ◌≤◌, [], Result, Ok, Err}
use Rattle.std.proofs.Common.{arith}
use Rattle.z_types.specs.Bounds.{most_number}
use Rattle.z_types.specs.declared.diagnostic.Diag.{Diag}
use Rattle.z_types.specs.declared.records.Item.{Item}
use Rattle.z_types.specs.declared.scan.ScanAnswer.{ScanAnswer}

abbrev no_diag : Diag
no_diag = record { set = []; condition = 2; addinfo = [] }

abbrev pub no_hits : Result ℕ Diag
no_hits = Ok 0

pub none_is_a_count : 0 ≤ most_number
none_is_a_count = omega arith

abbrev pub no_record : Result Item Diag
no_record = Err no_diag

abbrev pub no_scan : Result ScanAnswer Diag
no_scan = Err no_diag
