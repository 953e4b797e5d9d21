use Rattle.load_shares.proofs.UnitLemmas.{requests-received}
use Rattle.load_shares.proofs.laws.requests_are_received.Goals as goal

pub returns : goal.returns
returns c =
    requests-received
    (record {
      frames = c.written_extent.ensures;
      units = c.written_requests_are_units.ensures;
      read = c.written_requests_are_read.ensures;
    })
