use Rattle.sru_rules.proofs.BothWorks.{search_answers, fetch_answers, found_is_meant, mark_is_kept}
use Rattle.sru_rules.proofs.works.works_answer.Goals as goal

pub returns : goal.returns
returns g c = record {
  search = search_answers g.W.World;
  fetch = fetch_answers g.W.World;
  hits = found_is_meant g.W.World;
  mark = mark_is_kept g.W.World;
}
