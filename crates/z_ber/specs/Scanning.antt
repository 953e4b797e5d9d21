-- For contracts alone: the steps of a scan for the end of a frame (X.690:2021, 8.1), as src/scan.rt
-- goes: our machine, which public contracts do not cite.
use Rattle.std.specs.Prelude.{ℕ, ◌+◌, ◌-◌, ◌*◌, ◌<◌, ◌≤◌, List, Result, Ok, Err, nat_le, ◌==◌, if◌then◌else◌}
use Rattle.z_types.specs.Bounds.{most_unit_octets}
use Rattle.z_ber.specs.declared.fault.BerFault.{BerFault}
use Rattle.z_ber.specs.declared.fault.BerFault.TheVariants.{Short, TooLarge}
use Rattle.z_ber.specs.declared.scan.Scan.{Scan}
use Rattle.z_ber.specs.declared.scan.Progress.{Progress}
use Rattle.z_ber.specs.declared.scan.Progress.TheVariants.{On, Found}
use Rattle.z_ber.specs.Due.{Stands}
use Rattle.z_ber.specs.FrameAnswer.{IsWholeAnswer}
use Rattle.z_ber.specs.Reading.{least_to_come}

abbrev pub at : ℕ → ℕ → Scan
at passed opened = record { passed = passed; opened = opened }

-- behind an element, or within one that is entered, if there is room for the ends of what is open
abbrev pub moved : ℕ → ℕ → Result Progress BerFault
moved passed opened =
    if nat_le (passed + 2 * opened) most_unit_octets then Ok (On (at passed opened))
    else Err (TooLarge (most_unit_octets + 1))

-- behind an end of contents
abbrev pub ended : ℕ → ℕ → Progress
ended passed opened = if opened == 1 then Found passed else On (at passed (opened - 1))

-- the fault that is met, or no room for the octets that are wanting
abbrev pub stop : ℕ → ℕ → List ℕ → BerFault → BerFault
stop come opened rest Short =
    if nat_le (come + least_to_come opened rest) most_unit_octets then Short
    else TooLarge (most_unit_octets + 1)
stop come opened rest fault = fault

-- what one look finds: a place further on; or the end of the frame; or why there is none
abbrev pub IsProgress : Scan → List ℕ → Result Progress BerFault → Type 0
IsProgress scan bytes (Ok (On next)) =
    Stands bytes next.passed next.opened × (0 < next.opened) × (scan.passed < next.passed)
IsProgress scan bytes (Ok (Found size)) = IsWholeAnswer bytes (Ok size)
IsProgress scan bytes (Err fault) = IsWholeAnswer bytes (Err fault)

-- what a scan answers that goes from one place to another
abbrev pub IsScanned : Scan → List ℕ → Scan → Result ℕ BerFault → Type 0
IsScanned start bytes end answer =
    Stands bytes end.passed end.opened × (start.passed ≤ end.passed) × IsWholeAnswer bytes answer
