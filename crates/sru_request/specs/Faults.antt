-- The numbers of the refusals of heads (this project's own)
use Rattle.std.specs.Prelude.{ℕ}
use Rattle.sru_request.specs.declared.faults.HeadFault.{HeadFault}
use Rattle.sru_request.specs.declared.faults.HeadFault.TheVariants.{BadHttp, NotGet, HeadTooLarge, Memory}

-- 0 for want of memory, which is no refusal
abbrev pub fault_number : HeadFault → ℕ
fault_number BadHttp = 1
fault_number NotGet = 2
fault_number HeadTooLarge = 3
fault_number Memory = 0
