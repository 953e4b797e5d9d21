-- How many octets written elements take at most (X.690:2021, 8.1.2, 8.1.3, 8.3, 8.6 and 8.19)
use Rattle.std.proofs.Common.{arith, ◌≡◌, ℕ, ◌+◌, ◌-◌, ◌*◌, ◌/◌, ◌%◌, ◌^◌, ◌<◌, ◌≤◌, ℤ, pos, negsuc, Bool, true, false, ◌&&◌, cond, nat_lt, List, [], ◌∷◌, ◌++◌, length, map, reverse, slice_index_or, Option, None, Some}
use Rattle.std.specs.Prelude.{IfSome, nat_le}
use Rattle.std.specs.List.{flat_map, list_all, AllByRecursion}
use Rattle.std.specs.Int.Digits.{digits_of}
use Rattle.std.proofs.lemmas.Bool.{lt-ltb, ltb-true, leb-true}
use Rattle.std.proofs.lemmas.Int.Digits.{length-digits_of-le}
use Rattle.std.proofs.lemmas.List.{length-append, length-map, length-reverse}
use Rattle.z_types.specs.Numbers.{IsNumber}
use Rattle.z_types.specs.Oid.{has_root}
use Rattle.z_types.specs.equality.Tests.{both_true}
use Rattle.z_ber.specs.declared.tag.Tag.{Tag}
use Rattle.z_ber.specs.Values.{IsInteger, IsOid}
use Rattle.z_ber.specs.Written.{element, tag_octets, length_octets, septets, bits_octets, bool_octets, mirror, int_octets, natural_octets, oid_octets}
use Rattle.unit_forms.specs.Fields.{primitive, constructed, object_identifier, octets_field, integer_field, number_field, boolean_field, bits_field, identifier_field, tree_field, optional}

-- octets are at most `most`
pub record IsWithin (most : ℕ) (octets : List ℕ) : Type 0 where
  pub few : length octets ≤ most

pub wider : {m : ℕ} {octets : List ℕ} (n : ℕ) → m ≤ n → IsWithin m octets → IsWithin n octets
wider {m} {octets} n le h = record { few = omega (arith, h.few) }

-- two parts take what both take
pub joined : {m n : ℕ} {front back : List ℕ} → IsWithin m front → IsWithin n back → IsWithin (m + n) (front ++ back)
joined {m} {n} {front} {back} h k = record { few = omega (arith, length-append front back, h.few, k.few) }

pub nothing : IsWithin 0 []
nothing = record { few = omega arith }

-- a part for each item of a list
pub each : {A : Type 0} (P : A → Type 0) (spell : A → List ℕ) (most : ℕ) → ((x : A) → P x → IsWithin most (spell x)) → (xs : List A) → AllByRecursion P xs → IsWithin (most * length xs) (flat_map spell xs)
each P spell most one [] all = record { few = omega arith }
each P spell most one (x ∷ xs) all =
    let first = one x all.0 in
    let rest = each P spell most one xs all.1 in
    record { few = omega (arith, first.few, rest.few, length-append (spell x) (flat_map spell xs)) }

-- ---- headers

septets_few : (n : ℕ) → n < 2 ^ 33 → length (septets n) ≤ 5
unfolding septets
septets_few n small =
    let few : length (digits_of 128 (n / 128)) ≤ 4 = length-digits_of-le 128 4 (n / 128) (omega arith) (omega (arith, small)) in
    omega (arith, few, length-append (map (λ digit. 128 + digit) (digits_of 128 (n / 128))) (n % 128 ∷ []), length-map (digits_of 128 (n / 128)) (λ digit. 128 + digit))

septets_some : (n : ℕ) → n < 2 ^ 38 → length (septets n) ≤ 6
unfolding septets
septets_some n small =
    let few : length (digits_of 128 (n / 128)) ≤ 5 = length-digits_of-le 128 5 (n / 128) (omega arith) (omega (arith, small)) in
    omega (arith, few, length-append (map (λ digit. 128 + digit) (digits_of 128 (n / 128))) (n % 128 ∷ []), length-map (digits_of 128 (n / 128)) (λ digit. 128 + digit))

one_or : (k : ℕ) (b : Bool) (x y : ℕ) (rest : List ℕ) → length rest ≤ k → length (cond b (x ∷ []) (y ∷ rest)) ≤ k + 1
one_or k true x y rest h = omega arith
one_or k false x y rest h = omega (arith, h)

one : (b : Bool) (x : ℕ) (rest : List ℕ) → b ≡ true → length (cond b (x ∷ []) rest) ≤ 1
one true x rest e = omega arith
one false x rest e = absurd cc

tag_few : (t : Tag) → t.number < 2 ^ 31 → length (tag_octets t) ≤ 6
unfolding tag_octets
tag_few t small = one_or 5 (nat_lt t.number 31) _ _ (septets t.number) (septets_few t.number (omega (arith, small)))

-- a number below 31 stands in the first octet
tag_one : (t : Tag) → t.number < 31 → length (tag_octets t) ≤ 1
unfolding tag_octets
tag_one t small = one (nat_lt t.number 31) _ _ (lt-ltb t.number 31 small)

length_few : (n : ℕ) → n < 2 ^ 32 → length (length_octets n) ≤ 5
unfolding length_octets
length_few n small = one_or 4 (nat_lt n 128) n _ (digits_of 256 n) (length-digits_of-le 256 4 n (omega arith) (omega (arith, small)))

-- a length below 128 takes one octet
length_one : (n : ℕ) → n < 128 → length (length_octets n) ≤ 1
unfolding length_octets
length_one n small = one (nat_lt n 128) n _ (lt-ltb n 128 small)

element_is : (t : Tag) (contents : List ℕ) → length (element t contents) ≡ length (tag_octets t) + length (length_octets (length contents)) + length contents
unfolding element
element_is t contents =
    omega (
      arith,
      length-append (tag_octets t ++ length_octets (length contents)) contents,
      length-append (tag_octets t) (length_octets (length contents)),
    )

-- an element takes at most eleven octets more than its contents
pub within_element : {n : ℕ} {contents : List ℕ} (t : Tag) → t.number < 2 ^ 31 → n < 2 ^ 32 → IsWithin n contents → IsWithin (n + 11) (element t contents)
within_element {n} {contents} t tag small h =
    record { few = omega (arith, h.few, element_is t contents, tag_few t tag, length_few (length contents) (omega (arith, small, h.few))) }

-- six where its number is below 31
pub within_low : {n : ℕ} {contents : List ℕ} (t : Tag) → t.number < 31 → n < 2 ^ 32 → IsWithin n contents → IsWithin (n + 6) (element t contents)
within_low {n} {contents} t tag small h =
    record { few = omega (arith, h.few, element_is t contents, tag_one t tag, length_few (length contents) (omega (arith, small, h.few))) }

-- seven where its contents are below 128
pub within_short : {n : ℕ} {contents : List ℕ} (t : Tag) → t.number < 2 ^ 31 → n < 128 → IsWithin n contents → IsWithin (n + 7) (element t contents)
within_short {n} {contents} t tag small h =
    record { few = omega (arith, h.few, element_is t contents, tag_few t tag, length_one (length contents) (omega (arith, small, h.few))) }

-- ---- numbers

one_more_or : (b : Bool) (digits : List ℕ) → length (cond b digits (0 ∷ digits)) ≤ length digits + 1
one_more_or true digits = omega arith
one_more_or false digits = omega arith

natural_few : (k n : ℕ) → n < 256 ^ k → length (natural_octets n) ≤ k + 1
unfolding natural_octets
natural_few k n small =
    omega (arith, one_more_or (nat_lt (slice_index_or (digits_of 256 n) 0 128) 128) (digits_of 256 n), length-digits_of-le 256 k n (omega arith) small)

int_few : (n : ℕ) → IsNumber n → IsWithin 5 (int_octets (pos n))
unfolding int_octets
int_few n small = record { few = natural_few 4 n (omega (arith, small)) }

int_within : (z : ℤ) → IsInteger z → IsWithin 9 (int_octets z)
unfolding int_octets
int_within (pos n) fits = record { few = natural_few 8 n (omega (arith, fits.sfits)) }
int_within (negsuc n) fits =
    record { few = omega (arith, natural_few 8 n (omega (arith, fits.sfits)), length-map (natural_octets n) (λ octet. 255 - octet)) }

bits_few : (n : ℕ) → n < 2 ^ 32 → IsWithin 5 (bits_octets n)
unfolding bits_octets
bits_few n small =
    record {
      few = omega (arith, length-digits_of-le 256 4 n (omega arith) (omega (arith, small)), length-map (reverse (digits_of 256 n)) mirror, length-reverse (digits_of 256 n));
    }

bool_one : (b : Bool) → IsWithin 1 (bool_octets b)
unfolding bool_octets
bool_one b = record { few = omega arith }

-- ---- object identifiers

arcs_few : (arcs : List ℕ) → list_all (λ arc. nat_lt arc (2 ^ 32)) arcs ≡ true → length (flat_map septets arcs) ≤ 5 * length arcs
arcs_few [] e = omega arith
arcs_few (arc ∷ arcs) e =
    let b = both_true (nat_lt arc (2 ^ 32)) (list_all (λ arc. nat_lt arc (2 ^ 32)) arcs) e in
    let small : arc < 2 ^ 32 = ltb-true arc (2 ^ 32) b.0 in
    omega (arith, septets_few arc (omega arith), arcs_few arcs b.1, length-append (septets arc) (flat_map septets arcs))

-- an object identifier has at most 32 numbers, the first two written as one
oid_few : (arcs : List ℕ) → IsOid arcs → IsWithin 156 (oid_octets arcs)
unfolding oid_octets
oid_few [] valid = record { few = omega arith }
oid_few (first ∷ []) valid = record { few = omega arith }
oid_few (first ∷ second ∷ rest) valid =
    let all = λ (arcs : List ℕ). list_all (λ arc. nat_lt arc (2 ^ 32)) arcs in
    let parts = both_true (has_root (first ∷ second ∷ rest)) (nat_le (length (first ∷ second ∷ rest)) 32 && all (first ∷ second ∷ rest)) valid in
    let bounds = both_true (nat_le (length (first ∷ second ∷ rest)) 32) (all (first ∷ second ∷ rest)) parts.1 in
    let one = both_true (nat_lt first (2 ^ 32)) (all (second ∷ rest)) bounds.1 in
    let two = both_true (nat_lt second (2 ^ 32)) (all rest) one.1 in
    let count : length (first ∷ second ∷ rest) ≤ 32 = leb-true (length (first ∷ second ∷ rest)) 32 bounds.0 in
    let low : first < 2 ^ 32 = ltb-true first (2 ^ 32) one.0 in
    let next : second < 2 ^ 32 = ltb-true second (2 ^ 32) two.0 in
    record {
      few = omega (arith, septets_some (40 * first + second) (omega arith), arcs_few rest two.1, length-append (septets (40 * first + second)) (flat_map septets rest));
    }

-- ---- fields

pub octets_within : {n : ℕ} {octets : List ℕ} (number : ℕ) → number < 2 ^ 31 → n < 2 ^ 32 → IsWithin n octets → IsWithin (n + 11) (octets_field number octets)
octets_within number tag small h = within_element (primitive number) tag small h

pub tree_within : {n : ℕ} {elements : List ℕ} (number : ℕ) → number < 2 ^ 31 → n < 2 ^ 32 → IsWithin n elements → IsWithin (n + 11) (tree_field number elements)
tree_within number tag small h = within_element (constructed number) tag small h

pub number_within : (number value : ℕ) → number < 2 ^ 31 → IsNumber value → IsWithin 12 (number_field number value)
number_within number value tag small = within_short (primitive number) tag (omega arith) (int_few value small)

pub integer_within : (number : ℕ) (value : ℤ) → number < 2 ^ 31 → IsInteger value → IsWithin 16 (integer_field number value)
integer_within number value tag fits = within_short (primitive number) tag (omega arith) (int_within value fits)

pub boolean_within : (number : ℕ) (value : Bool) → number < 2 ^ 31 → IsWithin 8 (boolean_field number value)
boolean_within number value tag = within_short (primitive number) tag (omega arith) (bool_one value)

pub bits_within : (number value : ℕ) → number < 2 ^ 31 → value < 2 ^ 32 → IsWithin 12 (bits_field number value)
bits_within number value tag small = within_short (primitive number) tag (omega arith) (bits_few value small)

pub identifier_within : (number : ℕ) (arcs : List ℕ) → number < 2 ^ 31 → IsOid arcs → IsWithin 167 (identifier_field number arcs)
identifier_within number arcs tag valid = within_element (primitive number) tag (omega arith) (oid_few arcs valid)

-- five fewer where its number is below 31
pub low_identifier_within : (number : ℕ) (arcs : List ℕ) → number < 31 → IsOid arcs → IsWithin 162 (identifier_field number arcs)
low_identifier_within number arcs tag valid = within_low (primitive number) tag (omega arith) (oid_few arcs valid)

pub object_identifier_within : (arcs : List ℕ) → IsOid arcs → IsWithin 162 (object_identifier arcs)
object_identifier_within arcs valid = within_low _ (omega arith) (omega arith) (oid_few arcs valid)

pub optional_within : {A : Type 0} {n : ℕ} (P : A → Type 0) (spell : A → List ℕ) (value : Option A) → ((x : A) → P x → IsWithin n (spell x)) → IfSome value P → IsWithin n (optional spell value)
optional_within P spell None one valid = record { few = omega arith }
optional_within P spell (Some x) one valid = one x valid
