use Rattle.package.proofs.asking.first_legs.Goals as goal

pub returns-in-Fetch : goal.returns-in-Fetch
returns-in-Fetch g c =
    rw c.in-Fetch.is (rw (c.as_ref.ensures.value, c.as_ref-in-Fetch.ensures.value) at c.record_legs.ensures)
