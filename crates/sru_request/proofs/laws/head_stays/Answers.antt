use Rattle.sru_request.proofs.HeadStays.{head-stays}
use Rattle.sru_request.proofs.laws.head_stays.Goals as goal

pub returns : goal.returns
returns c = head-stays
