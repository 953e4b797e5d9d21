use Rattle.std.proofs.Common.{◌++◌}
use Rattle.unit_forms.specs.Fields.{tree_field, optional}
use Rattle.unit_forms.specs.Query.{asked_octets}
use Rattle.unit_forms.specs.Requests.{search_fields, element_name_field, syntax_field}
use Rattle.unit_forms.specs.Tags as tag
use Rattle.z_write.specs.Heads.{search_head}
use Rattle.z_write.proofs.KeptFront.{put_then, put_last, kept_last}
use Rattle.z_write.proofs.requests.put_search_fields.Goals as goal

pub returns-clause-ok : goal.returns-clause-ok
unfolding search_fields
returns-clause-ok c =
    let two = put_then c.args.out.now (search_head c.args.search.now) c.put_search_head.new.out (optional (element_name_field tag.small_set_element_set_names) c.args.search.now.small_element) c.put_element_name.new.out c.in_ok-put_search_head.ensures.ok c.in_ok-put_element_name.ensures.ok in
    let three = put_then c.args.out.now ((search_head c.args.search.now) ++ optional (element_name_field tag.small_set_element_set_names) c.args.search.now.small_element) c.put_element_name.new.out (optional (element_name_field tag.medium_set_element_set_names) c.args.search.now.medium_element) c.put_element_name-2.new.out two c.in_ok-put_element_name-2.ensures.ok in
    let four = put_then c.args.out.now (((search_head c.args.search.now) ++ optional (element_name_field tag.small_set_element_set_names) c.args.search.now.small_element) ++ optional (element_name_field tag.medium_set_element_set_names) c.args.search.now.medium_element) c.put_element_name-2.new.out (syntax_field c.args.search.now.syntax) c.put_syntax.new.out three c.in_ok-put_syntax.ensures.ok in
    put_last c.put_query_field.result c.args.out.now ((((search_head c.args.search.now) ++ optional (element_name_field tag.small_set_element_set_names) c.args.search.now.small_element) ++ optional (element_name_field tag.medium_set_element_set_names) c.args.search.now.medium_element) ++ syntax_field c.args.search.now.syntax) c.put_syntax.new.out (tree_field tag.query (asked_octets c.args.search.now.query)) c.put_query_field.new.out four c.put_query_field.ensures.ok

pub returns-clause-err : goal.returns-clause-err
returns-clause-err c =
    let two = put_then c.args.out.now (search_head c.args.search.now) c.put_search_head.new.out (optional (element_name_field tag.small_set_element_set_names) c.args.search.now.small_element) c.put_element_name.new.out c.in_ok-put_search_head.ensures.ok c.in_ok-put_element_name.ensures.ok in
    let three = put_then c.args.out.now ((search_head c.args.search.now) ++ optional (element_name_field tag.small_set_element_set_names) c.args.search.now.small_element) c.put_element_name.new.out (optional (element_name_field tag.medium_set_element_set_names) c.args.search.now.medium_element) c.put_element_name-2.new.out two c.in_ok-put_element_name-2.ensures.ok in
    let four = put_then c.args.out.now (((search_head c.args.search.now) ++ optional (element_name_field tag.small_set_element_set_names) c.args.search.now.small_element) ++ optional (element_name_field tag.medium_set_element_set_names) c.args.search.now.medium_element) c.put_element_name-2.new.out (syntax_field c.args.search.now.syntax) c.put_syntax.new.out three c.in_ok-put_syntax.ensures.ok in
    kept_last c.put_query_field.result c.args.out.now ((((search_head c.args.search.now) ++ optional (element_name_field tag.small_set_element_set_names) c.args.search.now.small_element) ++ optional (element_name_field tag.medium_set_element_set_names) c.args.search.now.medium_element) ++ syntax_field c.args.search.now.syntax) c.put_syntax.new.out c.put_query_field.new.out four c.put_query_field.ensures.err
