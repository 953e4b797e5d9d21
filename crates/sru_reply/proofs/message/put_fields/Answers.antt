use Rattle.sru_reply.specs.Message.{fields}
use Rattle.sru_reply.proofs.PutLemmas.{put_more, put_last}
use Rattle.sru_reply.proofs.message.put_fields.Goals as goal

pub returns : goal.returns
unfolding fields
returns c =
    let two = put_more _ _ _ _ _ c.in_ok-put_line.ensures c.in_ok-put_length_line.ensures in
    let three = put_more _ _ _ _ _ two c.in_ok-put_line-2.ensures in
    put_last c.put_line-3.result _ _ _ _ _ three c.put_line-3.ensures
