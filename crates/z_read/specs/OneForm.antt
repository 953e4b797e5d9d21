-- For contracts alone: elements in one of the forms that they may have (X.690:2021, 8.1.3, 8.2.2,
-- 8.3): without lengths, with one octet for TRUE, and with INTEGERs in the fewest octets. Which
-- elements hold them is told by the number of their tag (ANSI/NISO Z39.50-2003, the ASN.1 of its
-- APDUs).
use Rattle.std.specs.Prelude.{◌≡◌, ℕ, List, [], ◌∷◌, length, Bool, true, false, ◌==◌, ◌||◌, nat_lt, nat_le, Result, if◌then◌else◌}
use Rattle.z_ber.specs.declared.tag.Tag.{Tag}
use Rattle.z_ber.specs.Element.{Forest, none, leaf, branch}
use Rattle.z_ber.specs.Place.{IsUnit}
use Rattle.unit_forms.specs.Tags as numbers
use Rattle.z_read.specs.declared.fault.ReadFault.{ReadFault}

-- what an element holds: octets that are kept as they are, all lengths among them; other octets; an
-- INTEGER; a BOOLEAN
pub data Kind : Type 0 where
  whole : Kind
  octets : Kind
  integer : Kind
  truth : Kind

-- 8.3.2: whether the first octet of an INTEGER only repeats the sign of the second
abbrev pub is_repeated : ℕ → ℕ → Bool
is_repeated first second = if nat_lt second 128 then first == 0 else first == 255

-- the octets of an INTEGER without those that only repeat a sign
abbrev pub shorter : ℕ → List ℕ → List ℕ
shorter first [] = first ∷ []
shorter first (second ∷ rest) =
    if is_repeated first second then shorter second rest else first ∷ second ∷ rest

-- 8.3.2: an INTEGER of 8 octets at most in the fewest; a longer one has no value
abbrev pub fewest : List ℕ → List ℕ
fewest [] = []
fewest (first ∷ rest) = if nat_le (length rest) 7 then shorter first rest else first ∷ rest

-- 8.2.2: a BOOLEAN with 255 for TRUE
abbrev pub one_truth : List ℕ → List ℕ
one_truth [] = []
one_truth (octet ∷ []) = (if nat_lt 0 octet then 255 else 0) ∷ []
one_truth (octet ∷ second ∷ rest) = octet ∷ second ∷ rest

-- the contents octets of an element that holds this, constructed or primitive; those of a
-- constructed one have its lengths
abbrev pub shown : Kind → Bool → List ℕ → List ℕ
shown whole constructed contents = contents
shown octets true contents = []
shown octets false contents = contents
shown integer true contents = []
shown integer false contents = fewest contents
shown truth true contents = []
shown truth false contents = one_truth contents

-- whether a number is one of these
abbrev pub is_among : List ℕ → ℕ → Bool
is_among [] number = false
is_among (first ∷ rest) number = (number == first) || is_among rest number

-- what elements hold of which the INTEGERs and the BOOLEANs have these numbers
abbrev pub holding : List ℕ → List ℕ → ℕ → Kind
holding integers truths number =
    if is_among integers number then integer else (if is_among truths number then truth else octets)

-- what elements within a field hold: INTEGERs are an INTEGER itself, whose number is that of
-- occurrences too, the type and the value of an attribute and the numeric term
abbrev pub inner_kind : ℕ → Kind
inner_kind =
    holding (numbers.integer ∷ numbers.attribute_type ∷ numbers.attribute_value_numeric
    ∷ numbers.numeric_term ∷ []) []

-- an EXTERNAL holds octets that are kept as they are
abbrev pub kind_in : ℕ → ℕ → Kind
kind_in outer number = if outer == numbers.external then whole else inner_kind number

-- elements in one form
abbrev pub in_one_form : (ℕ → Kind) → Forest → Forest
in_one_form kind none = none
in_one_form kind (leaf tag contents others) =
    leaf tag (shown (kind tag.number) tag.constructed contents) (in_one_form kind others)
in_one_form kind (branch tag contents inner others) =
    branch
    tag
    (shown (kind tag.number) tag.constructed contents)
    (in_one_form (kind_in tag.number) inner)
    (in_one_form kind others)

-- preferredMessageSize and exceptionalRecordSize of an Init and its reply
abbrev pub sizes : List ℕ
sizes = numbers.preferred_message_size ∷ numbers.exceptional_record_size ∷ []

-- what the fields of an Init hold: idAuthentication holds octets that are kept as they are
abbrev pub init_kind : ℕ → Kind
init_kind number = if number == numbers.id_authentication then whole else holding sizes [] number

-- what the fields of a request hold, by the number of its tag; the number of numberOfTermsRequested
-- is also that of an OBJECT IDENTIFIER, and such elements of a scanRequest are left as they are
abbrev pub request_kind : ℕ → ℕ → Kind
request_kind unit =
    if unit == numbers.init_request then init_kind
    else if unit == numbers.search_request then
    holding
    (numbers.small_set_upper_bound ∷ numbers.large_set_lower_bound
    ∷ numbers.medium_set_present_number ∷ [])
    (numbers.replace_indicator ∷ [])
    else if unit == numbers.present_request then
    holding (numbers.number_of_records_requested ∷ numbers.result_set_start_point ∷ []) []
    else if unit == numbers.scan_request then
    holding (numbers.step_size ∷ numbers.preferred_position_in_response ∷ []) []
    else holding (numbers.close_reason ∷ []) []

-- how many records a reply has, where the next one stands, and whether all came
abbrev pub counts : List ℕ
counts =
    numbers.number_of_records_returned ∷ numbers.next_result_set_position
    ∷ numbers.present_status ∷ []

-- what the fields of a reply hold, by the number of its tag
abbrev pub reply_kind : ℕ → ℕ → Kind
reply_kind unit =
    if unit == numbers.init_response then holding sizes (numbers.init_result ∷ [])
    else if unit == numbers.search_response
    then holding (numbers.result_count ∷ counts) (numbers.search_status ∷ [])
    else if unit == numbers.present_response then holding counts []
    else if unit == numbers.scan_response then
    holding (numbers.scan_status ∷ numbers.number_of_entries_returned
    ∷ numbers.position_of_term ∷ []) []
    else holding (numbers.close_reason ∷ []) []

-- two units with one tag, of which the elements are the same in one form
pub record HaveOneForm (kinds : ℕ → ℕ → Kind) (a b : List ℕ) : Type 0 where
  pub tag : Tag
  pub contents : List ℕ
  pub others : List ℕ
  pub fields : Forest
  pub more : Forest
  pub first : IsUnit a (branch tag contents fields none)
  pub second : IsUnit b (branch tag others more none)
  pub same : in_one_form (kinds tag.number) fields ≡ in_one_form (kinds tag.number) more

-- the form changes nothing: definite and indefinite lengths, longer INTEGERs and another TRUE have
-- the same answers
abbrev pub FormChangesNothing : {A : Type 0} → (ℕ → ℕ → Kind)
    → (List ℕ → Result A ReadFault → Type 0) → Type 0
FormChangesNothing {A} kinds IsRead =
    (a b : List ℕ) (answer : Result A ReadFault) → HaveOneForm kinds a b → IsRead a answer
    → IsRead b answer
