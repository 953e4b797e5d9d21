use Rattle.leg.proofs.steps.hear.Goals as goal

pub returns-in-Dialled : goal.returns-in-Dialled
returns-in-Dialled g c = record { step = λ door. rw c.in-Dialled.is (c.wait_for_init.ensures.step c.args.now door) }

pub returns-in-Fetching : goal.returns-in-Fetching
returns-in-Fetching g c = record { step = λ door. rw c.in-Fetching.is (c.wait_for_items.ensures.step c.args.now door) }

pub returns-in-Scanning : goal.returns-in-Scanning
returns-in-Scanning g c = record { step = λ door. rw c.in-Scanning.is (c.wait_for_entries.ensures.step c.args.now door) }

pub returns-in-Searching : goal.returns-in-Searching
returns-in-Searching g c = record { step = λ door. rw c.in-Searching.is (c.wait_for_hits.ensures.step door) }
