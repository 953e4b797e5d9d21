use Rattle.std.proofs.Common.{◌++◌, ◌∙◌, ap}
use Rattle.unit_forms.specs.Fields.{octets_field, integer_field, number_field, ref_id_field}
use Rattle.unit_forms.specs.Tags as tag
use Rattle.z_write.proofs.KeptFront.{put_then, put_last, kept_last}
use Rattle.z_write.proofs.requests.put_present_head.Goals as goal

pub returns-clause-ok : goal.returns-clause-ok
returns-clause-ok c =
    let two = put_then c.args.out.now (ref_id_field c.args.present.now.ref_id) c.put_ref_id.new.out (octets_field tag.result_set_id c.args.present.now.set_name) c.put_octets.new.out c.in_ok-put_ref_id.ensures.ok (c.in_ok-put_octets.ensures.ok ∙ ap (λ x. c.put_ref_id.new.out ++ octets_field tag.result_set_id x) c.as_slice.ensures) in
    let three = put_then c.args.out.now ((ref_id_field c.args.present.now.ref_id) ++ octets_field tag.result_set_id c.args.present.now.set_name) c.put_octets.new.out (integer_field tag.result_set_start_point c.args.present.now.start) c.put_start.new.out two c.in_ok-put_start.ensures.ok in
    put_last c.put_number.result c.args.out.now (((ref_id_field c.args.present.now.ref_id) ++ octets_field tag.result_set_id c.args.present.now.set_name) ++ integer_field tag.result_set_start_point c.args.present.now.start) c.put_start.new.out (number_field tag.number_of_records_requested c.args.present.now.number) c.put_number.new.out three c.put_number.ensures.ok

pub returns-clause-err : goal.returns-clause-err
returns-clause-err c =
    let two = put_then c.args.out.now (ref_id_field c.args.present.now.ref_id) c.put_ref_id.new.out (octets_field tag.result_set_id c.args.present.now.set_name) c.put_octets.new.out c.in_ok-put_ref_id.ensures.ok (c.in_ok-put_octets.ensures.ok ∙ ap (λ x. c.put_ref_id.new.out ++ octets_field tag.result_set_id x) c.as_slice.ensures) in
    let three = put_then c.args.out.now ((ref_id_field c.args.present.now.ref_id) ++ octets_field tag.result_set_id c.args.present.now.set_name) c.put_octets.new.out (integer_field tag.result_set_start_point c.args.present.now.start) c.put_start.new.out two c.in_ok-put_start.ensures.ok in
    kept_last c.put_number.result c.args.out.now (((ref_id_field c.args.present.now.ref_id) ++ octets_field tag.result_set_id c.args.present.now.set_name) ++ integer_field tag.result_set_start_point c.args.present.now.start) c.put_start.new.out c.put_number.new.out three c.put_number.ensures.err
