use Rattle.sru_reply.specs.Reply.{record_fields}
use Rattle.sru_reply.proofs.PutLemmas.{put_more, put_last}
use Rattle.sru_reply.proofs.record.put_fields.Goals as goal

pub returns : goal.returns
unfolding record_fields
returns c =
    let two = put_more _ _ _ _ _ c.in_ok-put_schema.ensures c.in_ok-put_packing.ensures in
    let three = put_more _ _ _ _ _ two c.in_ok-put_data.ensures in
    put_last c.put_number_element.result _ _ _ _ _ three c.put_number_element.ensures
