use Rattle.unit_forms.specs.Reading.ScanRequest.{start_in}
use Rattle.z_read.proofs.RowLemmas.{both_rows, fault_row}
use Rattle.z_read.proofs.scan_request.start_in.Goals as goal

pub returns : goal.returns
unfolding start_in
returns c =
    both_rows _ _ _ _ _ c.optional_set-attr_set.ensures
    (both_rows _ _ _ _ _ c.required_start-start.ensures
    (both_rows _ _ _ _ _ (fault_row _ _ c.optional_number-step.ensures)
    (both_rows _ _ _ _ _ (fault_row _ _ c.required_number-number.ensures) (fault_row _ _ c.optional_number-position.ensures) c.both.ensures)
    c.both-2.ensures)
    c.both-3.ensures)
    c.both-4.ensures
