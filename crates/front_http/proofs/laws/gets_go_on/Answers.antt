use Rattle.front_http.proofs.Gets.{gets-go-on, gets-stand}
use Rattle.front_http.proofs.laws.gets_go_on.Goals as goal

pub returns : goal.returns
returns g c = record {
  goes_on = gets-go-on g.W.World c.get_is_answered.ensures.answered c.works_answer.ensures.search c.works_answer.ensures.fetch
      c.works_answer.ensures.mark c.fetch_asks_no_more.ensures;
  stands = gets-stand g.W.World c.get_is_answered.ensures.stays;
}
