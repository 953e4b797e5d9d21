use Rattle.std.proofs.Common.{◌++◌, ◌∙◌, ap}
use Rattle.unit_forms.specs.Fields.{octets_field, number_field, boolean_field, tree_field, ref_id_field}
use Rattle.unit_forms.specs.Requests.{database_names}
use Rattle.unit_forms.specs.Tags as tag
use Rattle.z_write.proofs.KeptFront.{put_then, put_last, kept_last}
use Rattle.z_write.proofs.requests.put_search_head.Goals as goal

pub returns-clause-ok : goal.returns-clause-ok
returns-clause-ok c =
    let two = put_then c.args.out.now (ref_id_field c.args.search.now.ref_id) c.put_ref_id.new.out (number_field tag.small_set_upper_bound c.args.search.now.small) c.put_number.new.out c.in_ok-put_ref_id.ensures.ok c.in_ok-put_number.ensures.ok in
    let three = put_then c.args.out.now ((ref_id_field c.args.search.now.ref_id) ++ number_field tag.small_set_upper_bound c.args.search.now.small) c.put_number.new.out (number_field tag.large_set_lower_bound c.args.search.now.large) c.put_number-2.new.out two c.in_ok-put_number-2.ensures.ok in
    let four = put_then c.args.out.now (((ref_id_field c.args.search.now.ref_id) ++ number_field tag.small_set_upper_bound c.args.search.now.small) ++ number_field tag.large_set_lower_bound c.args.search.now.large) c.put_number-2.new.out (number_field tag.medium_set_present_number c.args.search.now.medium) c.put_number-3.new.out three c.in_ok-put_number-3.ensures.ok in
    let five = put_then c.args.out.now ((((ref_id_field c.args.search.now.ref_id) ++ number_field tag.small_set_upper_bound c.args.search.now.small) ++ number_field tag.large_set_lower_bound c.args.search.now.large) ++ number_field tag.medium_set_present_number c.args.search.now.medium) c.put_number-3.new.out (boolean_field tag.replace_indicator c.args.search.now.replace) c.put_boolean.new.out four c.in_ok-put_boolean.ensures.ok in
    let six = put_then c.args.out.now (((((ref_id_field c.args.search.now.ref_id) ++ number_field tag.small_set_upper_bound c.args.search.now.small) ++ number_field tag.large_set_lower_bound c.args.search.now.large) ++ number_field tag.medium_set_present_number c.args.search.now.medium) ++ boolean_field tag.replace_indicator c.args.search.now.replace) c.put_boolean.new.out (octets_field tag.result_set_name c.args.search.now.set_name) c.put_octets.new.out five (c.in_ok-put_octets.ensures.ok ∙ ap (λ x. c.put_boolean.new.out ++ octets_field tag.result_set_name x) c.as_slice.ensures) in
    put_last c.put_databases.result c.args.out.now ((((((ref_id_field c.args.search.now.ref_id) ++ number_field tag.small_set_upper_bound c.args.search.now.small) ++ number_field tag.large_set_lower_bound c.args.search.now.large) ++ number_field tag.medium_set_present_number c.args.search.now.medium) ++ boolean_field tag.replace_indicator c.args.search.now.replace) ++ octets_field tag.result_set_name c.args.search.now.set_name) c.put_octets.new.out (tree_field tag.database_names (database_names c.args.search.now.dbs)) c.put_databases.new.out six c.put_databases.ensures.ok

pub returns-clause-err : goal.returns-clause-err
returns-clause-err c =
    let two = put_then c.args.out.now (ref_id_field c.args.search.now.ref_id) c.put_ref_id.new.out (number_field tag.small_set_upper_bound c.args.search.now.small) c.put_number.new.out c.in_ok-put_ref_id.ensures.ok c.in_ok-put_number.ensures.ok in
    let three = put_then c.args.out.now ((ref_id_field c.args.search.now.ref_id) ++ number_field tag.small_set_upper_bound c.args.search.now.small) c.put_number.new.out (number_field tag.large_set_lower_bound c.args.search.now.large) c.put_number-2.new.out two c.in_ok-put_number-2.ensures.ok in
    let four = put_then c.args.out.now (((ref_id_field c.args.search.now.ref_id) ++ number_field tag.small_set_upper_bound c.args.search.now.small) ++ number_field tag.large_set_lower_bound c.args.search.now.large) c.put_number-2.new.out (number_field tag.medium_set_present_number c.args.search.now.medium) c.put_number-3.new.out three c.in_ok-put_number-3.ensures.ok in
    let five = put_then c.args.out.now ((((ref_id_field c.args.search.now.ref_id) ++ number_field tag.small_set_upper_bound c.args.search.now.small) ++ number_field tag.large_set_lower_bound c.args.search.now.large) ++ number_field tag.medium_set_present_number c.args.search.now.medium) c.put_number-3.new.out (boolean_field tag.replace_indicator c.args.search.now.replace) c.put_boolean.new.out four c.in_ok-put_boolean.ensures.ok in
    let six = put_then c.args.out.now (((((ref_id_field c.args.search.now.ref_id) ++ number_field tag.small_set_upper_bound c.args.search.now.small) ++ number_field tag.large_set_lower_bound c.args.search.now.large) ++ number_field tag.medium_set_present_number c.args.search.now.medium) ++ boolean_field tag.replace_indicator c.args.search.now.replace) c.put_boolean.new.out (octets_field tag.result_set_name c.args.search.now.set_name) c.put_octets.new.out five (c.in_ok-put_octets.ensures.ok ∙ ap (λ x. c.put_boolean.new.out ++ octets_field tag.result_set_name x) c.as_slice.ensures) in
    kept_last c.put_databases.result c.args.out.now ((((((ref_id_field c.args.search.now.ref_id) ++ number_field tag.small_set_upper_bound c.args.search.now.small) ++ number_field tag.large_set_lower_bound c.args.search.now.large) ++ number_field tag.medium_set_present_number c.args.search.now.medium) ++ boolean_field tag.replace_indicator c.args.search.now.replace) ++ octets_field tag.result_set_name c.args.search.now.set_name) c.put_octets.new.out c.put_databases.new.out six c.put_databases.ensures.err
