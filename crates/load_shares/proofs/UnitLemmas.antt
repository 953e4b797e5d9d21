-- The octets of a client of a load are four units, each of which is read as the request that it was
use Rattle.std.proofs.Common.{◌≡◌, ◌∙◌, ◌≤◌, ◌<◌, ◌^◌, ℕ, if◌then◌else◌, nat_lt, List, [], ◌∷◌, ◌++◌, length, slice_index_or, None, length-append, refl, sym, ap, ap₂, subst, arith}
use Rattle.std.proofs.lemmas.List.{append-nil}
use Rattle.std.proofs.lemmas.Int.Digits.{digits_of_step}
use Rattle.z_types.specs.Bounds.{most_levels, most_unit_octets}
use Rattle.z_types.specs.declared.requests.Init.{Init}
use Rattle.z_types.specs.declared.requests.Request.{Request}
use Rattle.z_types.specs.declared.world.World as world
use Rattle.z_ber.specs.Frames.{IsFrameAt}
use Rattle.z_ber.specs.Laws.{WrittenElementsAreFrames}
use Rattle.z_ber.specs.Written.{bits_octets, bool_octets, element, int_octets, length_octets, mirror, natural_octets, oid_octets, septets, tag_octets, unused_bits}
use Rattle.unit_forms.specs.Fields.{bits_field, constructed, number_field, primitive, tree_field}
use Rattle.unit_forms.specs.Query.{attr_fields, leaf_octets, query_octets, tree_octets}
use Rattle.unit_forms.specs.Requests.{close_fields, init_fields, init_request_fields, present_fields, search_fields, spell_request}
use Rattle.unit_forms.specs.Tags as tag
use Rattle.z_laws.specs.Laws.{WrittenRequestsAreRead, WrittenRequestsAreUnits}
use Rattle.z_laws.specs.Readable.{IsReadable}
use Rattle.z_laws.specs.Shallow.{IsShallow}
use Rattle.route_config.specs.Smallest.{smallest_route}
use Rattle.replay_shares.specs.gateway_rules.Answers.{IsReceived, Kind, kind_of, unit}
use Rattle.sample_maker.specs.Load.{octets_for}
use Rattle.sample_maker.specs.Requests.{close_request, init_request, present_request, search_request}
use Rattle.replay_shares.specs.Works.{Ask, AskAs}
use Rattle.load_shares.specs.Laws.{RequestsAreReceived}
use Rattle.load_shares.specs.Runs.{received, units_for, works_for}

-- what is written is a frame; a request that is written is a unit, and is read as itself
pub record UnitLaws : Type 0 where
  pub frames : WrittenElementsAreFrames
  pub units : WrittenRequestsAreUnits
  pub read : WrittenRequestsAreRead

-- ---- lengths

-- the octets of the largest size
size-octets : natural_octets most_unit_octets ≡ 16 ∷ 0 ∷ 0 ∷ []
unfolding natural_octets
size-octets =
    ap (λ (digits : List ℕ). if nat_lt (slice_index_or digits 0 128) 128 then digits else 0 ∷ digits)
    (digits_of_step 256 most_unit_octets (omega arith) (omega arith))

size-field : (number : ℕ) → number_field number most_unit_octets ≡ element (primitive number) (16 ∷ 0 ∷ 0 ∷ [])
unfolding int_octets
size-field number = ap (element (primitive number)) size-octets

-- the fields of the Init
abbrev own_init : Init
own_init = record { ref_id = None; versions = 7; options = 32767; preferred = most_unit_octets; exceptional = most_unit_octets; login = None }

init-sizes : init_fields own_init
    ≡ bits_field tag.protocol_version 7 ++ bits_field tag.options 32767 ++ element (primitive tag.preferred_message_size) (16 ∷ 0 ∷ 0 ∷ [])
    ++ element (primitive tag.exceptional_record_size) (16 ∷ 0 ∷ 0 ∷ [])
unfolding init_fields
init-sizes =
    ap₂ (λ (own other : List ℕ). bits_field tag.protocol_version 7 ++ bits_field tag.options 32767 ++ own ++ other)
    (size-field tag.preferred_message_size) (size-field tag.exceptional_record_size)

length-written : length (tree_field tag.init_request (bits_field tag.protocol_version 7 ++ bits_field tag.options 32767
    ++ element (primitive tag.preferred_message_size) (16 ∷ 0 ∷ 0 ∷ []) ++ element (primitive tag.exceptional_record_size) (16 ∷ 0 ∷ 0 ∷ []))) ≡ 21
unfolding element tag_octets length_octets bits_octets unused_bits mirror
length-written = refl

length-init : length (spell_request init_request) ≡ 21
unfolding init_request_fields
length-init =
    ap (λ (fields : List ℕ). length (tree_field tag.init_request fields)) (append-nil (init_fields own_init) ∙ init-sizes) ∙ length-written

length-search : (letter : ℕ) → length (spell_request (search_request letter)) ≡ 64
unfolding element tag_octets length_octets septets int_octets natural_octets bool_octets oid_octets search_fields query_octets tree_octets leaf_octets attr_fields
length-search letter = refl

length-present : length (spell_request present_request) ≡ 23
unfolding element tag_octets length_octets septets int_octets natural_octets oid_octets present_fields
length-present = refl

length-close : length (spell_request close_request) ≡ 8
unfolding element tag_octets length_octets septets int_octets natural_octets close_fields
length-close = refl

-- contents are no longer than what holds them
inside : (number : ℕ) (contents : List ℕ) → length contents ≤ length (tree_field number contents)
unfolding element
inside number contents =
    let front = tag_octets (constructed number) ++ length_octets (length contents) in
    let whole : length (tree_field number contents) ≡ length (front ++ contents) = refl in
    omega (arith, whole, length-append front contents)

-- ---- units

module _ (laws : UnitLaws) where
  is-received : (request : Request) (number : ℕ) (contents : List ℕ) → spell_request request ≡ tree_field number contents → number < 2 ^ 31
      → IsReadable request → IsShallow request → length (spell_request request) ≤ most_unit_octets → IsReceived (received request)
  is-received request number contents e small readable shallow few =
      let own = laws.units request shallow few in
      let held = inside number contents in
      let size = subst (λ (o : List ℕ). length o ≤ most_unit_octets) e few in
      let frame = laws.frames most_levels (constructed number) contents (omega arith) (omega arith, small) (omega (arith, held, size)) in (
        (subst (IsFrameAt most_levels) (sym e) (constructed number, contents, frame), few),
        (own.0, own.1, laws.read request own.0 readable own.1),
      )

  init-received : IsReceived (received init_request)
  init-received =
      let size = length-init in
      is-received init_request tag.init_request _ refl (omega arith)
      (record { versions = omega arith; options = omega arith; preferred = omega arith; exceptional = omega arith }, tt) tt (omega (arith, size))

  search-received : (letter : ℕ) → IsReceived (received (search_request letter))
  search-received letter =
      let size = length-search letter in
      is-received (search_request letter) tag.search_request _ refl (omega arith)
      (record {
        small = omega arith;
        large = omega arith;
        medium = omega arith;
        syntax = tt;
        query = (refl, ((record { set = tt; kind = omega arith; value = omega arith }, tt), tt));
      })
      (omega arith) (omega (arith, size))

  present-received : IsReceived (received present_request)
  present-received =
      let size = length-present in
      is-received present_request tag.present_request _ refl (omega arith)
      (record { start = record { sfits = omega arith }; number = omega arith; element = tt; syntax = refl }) tt (omega (arith, size))

  close-received : IsReceived (received close_request)
  close-received =
      let size = length-close in
      is-received close_request tag.close _ refl (omega arith) (omega arith) tt (omega (arith, size))

  pub requests-received : RequestsAreReceived
  requests-received letter = (init-received, (search-received letter, (present-received, (close-received, tt))))

-- ---- what they ask

-- the first octet is no letter
pub kind-unit : (letter : ℕ) → kind_of (octets_for letter) ≡ unit
unfolding element tag_octets
kind-unit letter = refl

pub asks-works : {W : Type 0} (w : world.Ghosts W) → RequestsAreReceived → (letter : ℕ) → Ask w smallest_route (octets_for letter) (works_for w letter)
asks-works w are letter =
    subst (λ (kind : Kind). AskAs kind w smallest_route (octets_for letter) (works_for w letter)) (sym (kind-unit letter))
    (record { units = units_for letter; each = are letter; spelled = refl; are = refl })
