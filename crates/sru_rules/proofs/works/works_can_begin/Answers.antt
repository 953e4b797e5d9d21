use Rattle.sru_rules.proofs.CanBegin.{get_is_retrieval, search_can_begin, fetch_can_begin}
use Rattle.sru_rules.proofs.works.works_can_begin.Goals as goal

pub returns : goal.returns
returns c = record { retrieval = get_is_retrieval; search = search_can_begin; fetch = fetch_can_begin }
