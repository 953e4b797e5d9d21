-- An Init as it is read (ANSI/NISO Z39.50-2003, InitializeRequest and InitializeResponse).
use Rattle.std.specs.Prelude.{ℕ, List, length, Bool, Option, None, Result, Ok, Err, nat_lt, if◌then◌else◌}
use Rattle.z_types.specs.Bounds.{most_login_octets}
use Rattle.z_types.specs.declared.requests.Init.{Init}
use Rattle.z_ber.specs.Element.{Forest}
use Rattle.unit_forms.specs.declared.refusal.Refusal.{Refusal}
use Rattle.unit_forms.specs.declared.refusal.Refusal.TheVariants.{BadValue}
use Rattle.unit_forms.specs.Reading.Answers.{◌⊗◌, read_as, read_if}
use Rattle.unit_forms.specs.Reading.Elements.{Field, first_constructed}
use Rattle.unit_forms.specs.Reading.Rows.{octets_of, bits_of, number_of, truth_of, context, required, optional}
use Rattle.unit_forms.specs.Tags as numbers

-- referenceId, protocolVersion, options, preferredMessageSize and exceptionalRecordSize
abbrev pub Shared : Type 0
Shared = Option (List ℕ) × (ℕ × (ℕ × (ℕ × ℕ)))

abbrev pub as_init : Shared × Option (List ℕ) → Init
as_init ((ref_id, (versions, (options, (preferred, exceptional)))), login) = record {
  ref_id = ref_id;
  versions = versions;
  options = options;
  preferred = preferred;
  exceptional = exceptional;
  login = login;
}

-- the same of a response, which has no login
abbrev pub as_answered : Shared → Init
as_answered shared = as_init (shared, None)

-- what both have: referenceId [2] OPTIONAL, protocolVersion [3], options [4], preferredMessageSize
-- [5], exceptionalRecordSize [6]
unfoldable pub shared_in : Forest → Result Shared Refusal
shared_in fields =
    optional numbers.reference_id octets_of fields
    ⊗ required numbers.protocol_version bits_of fields
    ⊗ required numbers.options bits_of fields
    ⊗ required numbers.preferred_message_size number_of fields
    ⊗ required numbers.exceptional_record_size number_of fields

-- a login: the contents octets as they stand, whatever elements they are, but not too many
abbrev pub login_of : Field → Result (List ℕ) Refusal
login_of field =
    if nat_lt most_login_octets (length field.contents) then Err (BadValue field.tag.number)
    else Ok field.contents

-- idAuthentication [7] OPTIONAL: the first constructed one counts, and primitive ones are skipped
unfoldable pub login_in : Forest → Result (Option (List ℕ)) Refusal
login_in fields = read_if login_of (first_constructed (context numbers.id_authentication) fields)

-- an Init
unfoldable pub init_in : Forest → Result Init Refusal
init_in fields = read_as as_init (shared_in fields ⊗ login_in fields)

-- what a response has, and result [12]; its [7] is skipped
unfoldable pub init_response_in : Forest → Result (Init × Bool) Refusal
init_response_in fields =
    read_as as_answered (shared_in fields) ⊗ required numbers.init_result truth_of fields
