-- Units that were worked out by hand from the standard's definition of APDUs (ANSI/NISO Z39.50-2003, appendix A; X.690:2021, 8.1 to 8.3, 8.6, 8.19), as equations about the definitions.
use Rattle.std.proofs.Common.{◌≡◌, ℕ, pos, negsuc, true, List, [], ◌∷◌, ◌++◌, Option, Some, None, Ok, Err, codes, refl}
use Rattle.z_types.specs.Tree.{leaf as leaf_node}
use Rattle.z_types.specs.declared.query.Term.TheVariants.{General}
use Rattle.z_types.specs.declared.records.Body.TheVariants as body
use Rattle.z_types.specs.declared.replies.Reply.TheVariants as reply
use Rattle.z_types.specs.declared.requests.Asked.TheVariants.{Good}
use Rattle.z_types.specs.declared.requests.Close.{Close}
use Rattle.z_types.specs.declared.requests.Init.{Init}
use Rattle.z_types.specs.declared.requests.Request.TheVariants as request
use Rattle.z_types.specs.declared.requests.Search.{Search}
use Rattle.z_ber.specs.Element.{none, leaf, branch}
use Rattle.z_ber.specs.Written.{element, tag_octets, length_octets, septets, int_octets, natural_octets, bool_octets, mirror, unused_bits, bits_octets, oid_octets}
use Rattle.unit_forms.specs.declared.refusal.Refusal.TheVariants.{UnknownUnit, Missing, BadValue}
use Rattle.unit_forms.specs.Fields.{primitive, constructed, object_identifier_tag}
use Rattle.unit_forms.specs.Query.{attr_fields, leaf_octets, tree_octets, query_octets}
use Rattle.unit_forms.specs.Records.{body_octets}
use Rattle.unit_forms.specs.Replies.{implementation_fields, search_reply_fields, scan_reply_fields, list_entries, spell_reply}
use Rattle.unit_forms.specs.Requests.{init_fields, init_request_fields, search_fields, present_fields, close_fields, spell_request}
use Rattle.unit_forms.specs.Reading.CloseUnit.{close_in}
use Rattle.unit_forms.specs.Reading.Contents.{truth_in, integer_in, number_in, bits_in, oid_in}
use Rattle.unit_forms.specs.Reading.Elements.{field_of}
use Rattle.unit_forms.specs.Reading.InitRequest.{shared_in, login_in, init_in, init_response_in}
use Rattle.unit_forms.specs.Reading.Queries.{set_of, structure_at}
use Rattle.unit_forms.specs.Reading.SearchRequest.{search_in, bounds_in, named_in, wanted_in}
use Rattle.unit_forms.specs.Reading.Responses.{init_reply_in}
use Rattle.unit_forms.specs.Reading.Units.{request_of, request_in, reply_of, reply_in}

-- ---- as written

-- versions 1 to 3, options 0 to 14, both sizes 4096
abbrev an_init : Init
an_init = record { ref_id = None; versions = 7; options = 32767; preferred = 4096; exceptional = 4096; login = None }

abbrev its_fields : List ℕ
its_fields =
    131 ∷ 2 ∷ 5 ∷ 224 ∷ 132 ∷ 3 ∷ 1 ∷ 255 ∷ 254 ∷ 133 ∷ 2 ∷ 16 ∷ 0 ∷ 134 ∷ 2 ∷ 16 ∷ 0 ∷ []

init_request : spell_request (request.Init an_init) ≡ 180 ∷ 17 ∷ its_fields
unfolding element tag_octets length_octets int_octets natural_octets bits_octets unused_bits mirror init_fields init_request_fields
init_request = refl

-- the same with the login of a VisibleString `a`, in idAuthentication
with_login : Init
with_login = record an_init { login = Some (26 ∷ 1 ∷ 97 ∷ []) }

init_request_with_login : spell_request (request.Init with_login) ≡ 180 ∷ 22 ∷ its_fields ++ (167 ∷ 3 ∷ 26 ∷ 1 ∷ 97 ∷ [])
unfolding element tag_octets length_octets int_octets natural_octets bits_octets unused_bits mirror init_fields init_request_fields with_login
init_request_with_login = refl

-- with the result true, and the implementation's `mp`, `gateway` and `1` under tags above 30
init_response : spell_reply (reply.Init an_init true) ≡ 181 ∷ 39 ∷ its_fields ++ (140 ∷ 1 ∷ 255 ∷ 159 ∷ 110 ∷ 2 ∷ codes "mp" ++ (159 ∷ 111 ∷ 7 ∷ codes "gateway" ++ (159 ∷ 112 ∷ 1 ∷ codes "1")))
unfolding element tag_octets length_octets septets int_octets natural_octets bool_octets bits_octets unused_bits mirror init_fields implementation_fields
init_response = refl

-- of the set `1` in the database `Default`, for Use 4 and the term `a`
abbrev a_search : Search
a_search = record {
  ref_id = None;
  small = 0;
  large = 1;
  medium = 0;
  replace = true;
  set_name = codes "1";
  dbs = codes "Default" ∷ [];
  small_element = None;
  medium_element = None;
  syntax = None;
  query = Good (record {
    attr_set = 1 ∷ 2 ∷ 840 ∷ 10003 ∷ 3 ∷ 1 ∷ [];
    root = leaf_node (record { set = None; kind = 1; value = 4 } ∷ []) (General (codes "a"));
  });
}

-- the bounds, the indicator and the name; the database; the query's attribute set; the attribute; the term
search_request : spell_request (request.Search a_search) ≡
    182 ∷ 62 ∷ 141 ∷ 1 ∷ 0 ∷ 142 ∷ 1 ∷ 1 ∷ 143 ∷ 1 ∷ 0 ∷ 144 ∷ 1 ∷ 255 ∷ 145 ∷ 1 ∷ 49
    ∷ 178 ∷ 10 ∷ 159 ∷ 105 ∷ 7 ∷ codes "Default"
    ++ (181 ∷ 33 ∷ 161 ∷ 31 ∷ 6 ∷ 7 ∷ 42 ∷ 134 ∷ 72 ∷ 206 ∷ 19 ∷ 3 ∷ 1
    ∷ 160 ∷ 20 ∷ 191 ∷ 102 ∷ 17 ∷ 191 ∷ 44 ∷ 10 ∷ 48 ∷ 8 ∷ 159 ∷ 120 ∷ 1 ∷ 1 ∷ 159 ∷ 121 ∷ 1 ∷ 4
    ∷ 159 ∷ 45 ∷ 1 ∷ 97 ∷ [])
unfolding element tag_octets length_octets septets int_octets natural_octets bool_octets oid_octets search_fields query_octets tree_octets leaf_octets attr_fields
search_request = refl

-- three records found, none of them returned
search_response : spell_reply (reply.Search None 3 0 1 true None body.None)
    ≡ 183 ∷ 12 ∷ 151 ∷ 1 ∷ 3 ∷ 152 ∷ 1 ∷ 0 ∷ 153 ∷ 1 ∷ 1 ∷ 150 ∷ 1 ∷ 255 ∷ []
unfolding element tag_octets length_octets int_octets natural_octets bool_octets search_reply_fields body_octets
search_response = refl

-- no record, from place 1 of the set `1`
present_request : spell_request (request.Present (record { ref_id = None; set_name = codes "1"; start = pos 1; number = 0; element = Good None; syntax = None }))
    ≡ 184 ∷ 10 ∷ 159 ∷ 31 ∷ 1 ∷ 49 ∷ 158 ∷ 1 ∷ 1 ∷ 157 ∷ 1 ∷ 0 ∷ []
unfolding element tag_octets length_octets septets int_octets natural_octets present_fields
present_request = refl

-- no entries
scan_response : spell_reply (reply.Scan None 0 (record { position = None; entries = [] }) [])
    ≡ 191 ∷ 36 ∷ 10 ∷ 132 ∷ 1 ∷ 0 ∷ 133 ∷ 1 ∷ 0 ∷ 167 ∷ 2 ∷ 161 ∷ 0 ∷ []
unfolding element tag_octets length_octets septets int_octets natural_octets scan_reply_fields list_entries
scan_response = refl

-- of reason 0, a field [211]
abbrev finished : Close
finished = record { ref_id = None; reason = 0; info = None }

close : spell_request (request.Close finished) ≡ 191 ∷ 48 ∷ 5 ∷ 159 ∷ 129 ∷ 83 ∷ 1 ∷ 0 ∷ []
unfolding element tag_octets length_octets septets int_octets natural_octets close_fields
close = refl

-- ---- as read

-- 8.2.2: any octet but 0 is TRUE
other_truth : truth_in (1 ∷ []) ≡ Some true
other_truth = refl

-- 8.3: more octets than are needed; a negative number, which no field has; 2147483648
longer_integer : number_in (0 ∷ 0 ∷ 5 ∷ []) ≡ Some 5
unfolding integer_in
longer_integer = refl

negative_integer : integer_in (255 ∷ []) ≡ Some (negsuc 0)
unfolding integer_in
negative_integer = refl

negative_number : number_in (255 ∷ []) ≡ None
unfolding integer_in
negative_number = refl

first_too_large : number_in (0 ∷ 128 ∷ 0 ∷ 0 ∷ 0 ∷ []) ≡ None
unfolding integer_in
first_too_large = refl

-- 8.6: no unused bits, and the one form that is written, of versions 1 to 3
bits_without_unused : bits_in (0 ∷ 224 ∷ []) ≡ Some 7
unfolding bits_in mirror
bits_without_unused = refl

bits_as_written : bits_in (5 ∷ 224 ∷ []) ≡ Some 7
unfolding bits_in mirror
bits_as_written = refl

-- 8.19: bib-1
bib1_attributes : oid_in (42 ∷ 134 ∷ 72 ∷ 206 ∷ 19 ∷ 3 ∷ 1 ∷ []) ≡ Some (1 ∷ 2 ∷ 840 ∷ 10003 ∷ 3 ∷ 1 ∷ [])
unfolding oid_in
bib1_attributes = refl

-- a Close, of a reason in two octets behind an element that is no field
close_read : request_in (branch (constructed 48) [] (leaf (primitive 212) [] (leaf (primitive 211) (0 ∷ 0 ∷ []) none)) none) ≡ Ok (request.Close finished)
unfolding request_of close_in integer_in
close_read = refl

-- an Init of the versions 1 to 3, without options, of sizes 0; a primitive idAuthentication is skipped, and of two others the first counts
bare_init : Option (List ℕ) → Init
bare_init login = record { ref_id = None; versions = 7; options = 0; preferred = 0; exceptional = 0; login = login }

login_read : request_in (branch (constructed 20) [] (leaf (primitive 7) (1 ∷ []) (leaf (primitive 3) (5 ∷ 224 ∷ []) (leaf (primitive 4) (0 ∷ []) (leaf (primitive 5) (0 ∷ []) (leaf (primitive 6) (0 ∷ []) (branch (constructed 7) (26 ∷ 0 ∷ []) none (branch (constructed 7) [] none none))))))) none)
    ≡ Ok (request.Init (bare_init (Some (26 ∷ 0 ∷ []))))
unfolding request_of init_in shared_in login_in integer_in bits_in mirror bare_init
login_read = refl

-- in a response it is skipped
response_login_skipped : reply_in (branch (constructed 21) [] (leaf (primitive 3) (5 ∷ 224 ∷ []) (leaf (primitive 4) (0 ∷ []) (leaf (primitive 5) (0 ∷ []) (leaf (primitive 6) (0 ∷ []) (branch (constructed 7) (26 ∷ 0 ∷ []) none (leaf (primitive 12) (1 ∷ []) none)))))) none)
    ≡ Ok (reply.Init (bare_init None) true)
unfolding reply_of init_reply_in init_response_in shared_in integer_in bits_in mirror bare_init
response_login_skipped = refl

-- a Search without fields, and a unit [43]
search_without_fields : request_in (branch (constructed 22) [] none none) ≡ Err (Missing 13)
unfolding request_of search_in bounds_in named_in wanted_in
search_without_fields = refl

-- one in primitive form has no fields either
search_in_primitive_form : request_in (leaf (primitive 22) [] none) ≡ Err (Missing 13)
unfolding request_of search_in bounds_in named_in wanted_in
search_in_primitive_form = refl

-- at the place of a query's attribute set and of its structure stand other elements, or none
other_set : set_of (Some (field_of (primitive 1) [] none)) ≡ Err (BadValue 1)
other_set = refl

other_structure : structure_at 1 (leaf object_identifier_tag [] (leaf (primitive 45) [] none)) ≡ Err (BadValue 45)
unfolding structure_at
other_structure = refl

no_structure : structure_at 1 (leaf object_identifier_tag [] none) ≡ Err (Missing 0)
unfolding structure_at
no_structure = refl

other_unit : request_in (branch (constructed 43) [] none none) ≡ Err (UnknownUnit 43)
unfolding request_of
other_unit = refl
