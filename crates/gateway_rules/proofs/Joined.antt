-- Two runs, one behind another
use Rattle.std.proofs.Common.{List}
use Rattle.gateway_rules.specs.Marks.{Cause}
use Rattle.gateway_rules.specs.Session.{Run, Stop, standing, over, wanting, in_front}
use Rattle.gateway_rules.specs.State.{ClientState, Progress}

-- a run that goes on by another where it stands, with the client and the causes that it leaves, and else is the whole
abbrev pub goes_on : Stop → Run → (Progress → ClientState → List Cause → Run) → Run
goes_on (standing here) first next = in_front first.replies first.taken (next here first.client first.left)
goes_on (over end) first next = first
goes_on wanting first next = first

-- two runs, one behind another
abbrev pub joined : Run → (Progress → ClientState → List Cause → Run) → Run
joined first next = goes_on first.stop first next
