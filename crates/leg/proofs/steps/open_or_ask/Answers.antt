use Rattle.leg.proofs.steps.open_or_ask.Goals as goal

pub returns-in-Dialling : goal.returns-in-Dialling
returns-in-Dialling g c = record { step = λ now door. rw c.in-Dialling.is (c.dial.ensures.step now door) }

pub returns-in-Scan : goal.returns-in-Scan
returns-in-Scan g c = record { step = λ now door. rw c.in-Ready.is (c.scan.ensures.step now door) }

pub returns-in-Hits : goal.returns-in-Hits
returns-in-Hits g c = record { step = λ now door. rw c.in-Ready.is (c.search.ensures.step now door) }

pub returns-in-Presenting : goal.returns-in-Presenting
returns-in-Presenting g c = record { step = λ now door. rw c.in-Presenting.is (c.present.ensures.step now door) }
