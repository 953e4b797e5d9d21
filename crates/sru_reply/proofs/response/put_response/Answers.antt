use Rattle.sru_reply.specs.Reply.{response}
use Rattle.sru_reply.proofs.PutLemmas.{put_last}
use Rattle.sru_reply.proofs.response.put_response.Goals as goal

pub returns : goal.returns
unfolding response
returns c = put_last c.put_root.result _ _ _ _ _ c.in_ok-append.ensures.ok c.put_root.ensures
