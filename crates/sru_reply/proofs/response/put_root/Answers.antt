use Rattle.sru_reply.specs.Reply.{root}
use Rattle.sru_reply.proofs.PutLemmas.{put_more, put_last}
use Rattle.sru_reply.proofs.response.put_root.Goals as goal

pub returns : goal.returns
unfolding root
returns c =
    let two = put_more _ _ _ _ _ c.in_ok-put_start_with.ensures c.in_ok-put_fields.ensures in
    put_last c.put_end.result _ _ _ _ _ two c.put_end.ensures
