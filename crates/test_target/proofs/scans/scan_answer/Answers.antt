use Rattle.std.proofs.Common.{◌≡◌, ◌∙◌, ◌-◌, length, map, ap}
use Rattle.test_target.specs.Scans.{entry_of, place_among}
use Rattle.test_target.proofs.ScansLemmas.{answer_by}
use Rattle.test_target.proofs.scans.scan_answer.Goals as goal

pub returns : goal.returns
returns c =
    let place : c.place_among-position.result
    ≡ place_among (c.in_ok-below.below - c.saturating_sub-first.result) (length c.in_ok-entries.entries) =
    c.place_among-position.ensures ∙ (λ i. place_among (c.saturating_sub-before.ensures i) (c.len.ensures i)) in
    answer_by c.args.target c.args.names.now c.args.ask.now c.in_ok-below.below c.preferred_position-wish.result
    c.saturating_sub-first.result c.in_ok-entries.entries c.place_among-position.result c.in_ok-below.ensures.below
    c.preferred_position-wish.ensures c.saturating_sub-first.ensures
    (c.in_ok-entries.ensures ∙ ap (map (entry_of c.args.target c.args.names.now c.args.ask.now.attrs)) c.window-letters.ensures)
    place
