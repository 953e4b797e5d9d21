-- For contracts alone: headers from left to right, with the first fault that is met. The readers in
-- src/ go this way; public contracts do not cite it (X.690:2021, 8.1.2, 8.1.3).
use Rattle.std.specs.Prelude.{◌≡◌, ℕ, zero, suc, ◌+◌, ◌-◌, ◌*◌, ◌/◌, ◌%◌, ◌^◌, List, [], ◌∷◌, length, take, drop, Bool, Option, Some, None, Result, Ok, Err, nat_lt, nat_le, min, true, false, ◌==◌, ◌||◌, ◌&&◌, ℤ, pos, negsuc, map, slice_index_or, if◌then◌else◌}
use Rattle.std.specs.Borrow.{Bor}
use Rattle.std.specs.Int.Digits.{digits_of, number_from_digits}
use Rattle.z_types.specs.Bounds.{most_unit_octets}
use Rattle.z_ber.specs.declared.fault.BerFault.{BerFault}
use Rattle.z_ber.specs.declared.fault.BerFault.TheVariants.{Short, BadTag, BadLength, TooLarge, TooDeep}
use Rattle.z_ber.specs.declared.step.Step.{Step}
use Rattle.z_ber.specs.declared.step.Step.TheVariants.{End, Whole, Open}
use Rattle.z_ber.specs.declared.tag.Tag.{Tag}
use Rattle.z_ber.specs.Written.{mirrored_number, unused_bits}

infixl 10 ◌>>=◌
abbrev pub ◌>>=◌ : {A B : Type 0} → Result A BerFault → (A → Result B BerFault) → Result B BerFault
(Ok x) >>= f = f x
(Err e) >>= f = Err e

-- what a function returned, seen by view, is what reading gives
abbrev pub Gives : {X Y : Type 0} → (X → Y) → Result X BerFault → Result Y BerFault → Type 0
Gives view (Ok x) read = read ≡ Ok (view x)
Gives view (Err e) read = read ≡ Err e

-- a number that ends here
abbrev pub number_end : ℕ → List ℕ → Result (ℕ × List ℕ) BerFault
number_end number rest = if nat_lt number 31 then Err BadTag else Ok (number, rest)

-- a number at seven bits an octet, of which the high part is known
abbrev pub septets_at : ℕ → List ℕ → Result (ℕ × List ℕ) BerFault
septets_at high [] = Err Short
septets_at high (octet ∷ rest) =
    if nat_lt octet 128 then number_end (high * 128 + octet) rest
    else (if (high * 128 + (octet - 128) == 0) || nat_lt 16777215 (high * 128 + (octet - 128))
    then Err BadTag
    else septets_at (high * 128 + (octet - 128)) rest)

-- the tag that a lead octet and a number make
abbrev pub tag_of : ℕ → ℕ → Tag
tag_of lead number = record { class = lead / 64; constructed = lead / 32 % 2 == 1; number = number }

-- the identifier octets
unfoldable pub tag_at : List ℕ → Result (Tag × List ℕ) BerFault
tag_at [] = Err Short
tag_at (lead ∷ rest) =
    if nat_lt (lead % 32) 31 then Ok (tag_of lead (lead % 32), rest)
    else (septets_at 0 rest >>= λ n. Ok (tag_of lead n.0, n.1))

-- the first `count` octets, with zeros for those that have not come
abbrev pub padded : ℕ → List ℕ → List ℕ
padded zero bytes = []
padded (suc count) [] = 0 ∷ padded count []
padded (suc count) (octet ∷ bytes) = octet ∷ padded count bytes

-- a long form of `count` octets
abbrev pub long_at : ℕ → List ℕ → Result (Option ℕ × List ℕ) BerFault
long_at count rest =
    if nat_lt (length rest) count then Err Short
    else Ok (Some (number_from_digits 256 (padded count rest)), drop count rest)

-- the indefinite form
abbrev pub indefinite_at : Bool → List ℕ → Result (Option ℕ × List ℕ) BerFault
indefinite_at constructed rest = if constructed then Ok (None, rest) else Err BadLength

-- the length octets
unfoldable pub length_at : Bool → List ℕ → Result (Option ℕ × List ℕ) BerFault
length_at constructed [] = Err Short
length_at constructed (lead ∷ rest) =
    if nat_lt lead 128 then Ok (Some lead, rest)
    else (if lead == 128 then indefinite_at constructed rest
    else (if nat_lt 136 lead then Err BadLength else long_at (lead - 128) rest))

-- tag, length and what follows them
unfoldable pub header_at : List ℕ → Result (Tag × Option ℕ × List ℕ) BerFault
header_at bytes = do
  tag ← tag_at bytes
  len ← length_at tag.0.constructed tag.1
  Ok (tag.0, len.0, len.1)

-- a frame whose length has come in part, behind a tag of `size` octets, may still be small enough
abbrev pub has_room_after : ℕ → List ℕ → Bool
has_room_after size [] = true
has_room_after size (lead ∷ digits) =
    let count = min (lead - 128) 8 in
    nat_le (size + 1 + count + number_from_digits 256 (padded count digits)) most_unit_octets

-- the same for a header that has come in part
abbrev pub has_room_behind : List ℕ → Result (Tag × List ℕ) BerFault → Bool
has_room_behind bytes (Ok tag) = has_room_after (length bytes - length tag.1) tag.1
has_room_behind bytes (Err _) = true

-- a definite header of `size` octets, and a length
abbrev pub body_at : ℕ → ℕ → List ℕ → Result ℕ BerFault
body_at size len body =
    if nat_lt most_unit_octets (size + len) then Err (TooLarge len)
    else (if nat_lt (length body) len then Err Short else Ok (size + len))

-- a definite frame, behind its header
abbrev pub frame_behind : List ℕ → Result (Tag × Option ℕ × List ℕ) BerFault → Result ℕ BerFault
frame_behind bytes (Ok (tag, None, body)) = Err BadLength
frame_behind bytes (Ok (tag, Some len, body)) = body_at (length bytes - length body) len body
frame_behind bytes (Err Short) =
    if has_room_behind bytes (tag_at bytes) then Err Short else Err (TooLarge 1048577)
frame_behind bytes (Err fault) = Err fault

-- a definite frame
unfoldable pub frame_at : List ℕ → Result ℕ BerFault
frame_at bytes = frame_behind bytes (header_at bytes)

-- how many octets the fewest length octets are
abbrev pub fewest_size : ℕ → ℕ
fewest_size n = if nat_lt n 128 then 1 else 1 + length (digits_of 256 n)

-- contents of `n` octets, and what follows them
abbrev pub contents_at : Tag → ℕ → List ℕ → Option (Tag × List ℕ × List ℕ)
contents_at tag n body =
    if nat_lt (length body) n then None else Some (tag, take n body, drop n body)

-- the same behind `size` length octets, which have to be the fewest
abbrev pub fewest_at : Tag → ℕ → Option ℕ → List ℕ → Option (Tag × List ℕ × List ℕ)
fewest_at tag size None body = None
fewest_at tag size (Some n) body = if size == fewest_size n then contents_at tag n body else None

-- the same behind a tag
abbrev pub written_behind : Tag → ℕ → Result (Option ℕ × List ℕ) BerFault
    → Option (Tag × List ℕ × List ℕ)
written_behind tag size (Ok len) = fewest_at tag (size - length len.1) len.0 len.1
written_behind tag size (Err fault) = None

abbrev pub written_from : Result (Tag × List ℕ) BerFault → Option (Tag × List ℕ × List ℕ)
written_from (Ok tag) = written_behind tag.0 (length tag.1) (length_at tag.0.constructed tag.1)
written_from (Err fault) = None

-- an element in its written form
unfoldable pub written_at : List ℕ → Option (Tag × List ℕ × List ℕ)
written_at bytes = written_from (tag_at bytes)

-- 8.3.2: the first nine bits are not all alike
abbrev pub is_fewest : List ℕ → Bool
is_fewest [] = false
is_fewest (first ∷ []) = true
is_fewest (first ∷ second ∷ rest) =
    if first == 0 then nat_le 128 second else (if first == 255 then nat_lt second 128 else true)

-- the number of the bits as they are, or of the turned bits, where it fits
abbrev pub positive_at : ℕ → Option ℤ
positive_at n = if nat_lt n (2 ^ 63) then Some (pos n) else None

abbrev pub negative_at : ℕ → Option ℤ
negative_at n = if nat_lt n (2 ^ 63) then Some (negsuc n) else None

-- two's complement
abbrev pub signed_at : List ℕ → Option ℤ
signed_at contents =
    if nat_lt (slice_index_or contents 0 0) 128
    then positive_at (number_from_digits 256 (padded (length contents) contents))
    else negative_at
    (number_from_digits 256 (padded (length contents) (map (λ octet. 255 - octet) contents)))

-- the contents of an INTEGER of up to 8 octets
unfoldable pub int_at : List ℕ → Option ℤ
int_at contents =
    if is_fewest contents && nat_le (length contents) 8 then signed_at contents else None

-- the bits, where the count of unused bits and the count of octets are theirs
abbrev pub bits_behind : ℕ → ℕ → ℕ → Option ℕ
bits_behind unused count value =
    if (unused == unused_bits value) && (count == length (digits_of 256 value))
    then Some value else None

-- the contents of a BIT STRING of up to 32 bits
unfoldable pub bits_at : List ℕ → Option ℕ
bits_at [] = None
bits_at (unused ∷ octets) =
    if nat_lt 4 (length octets) then None
    else bits_behind unused (length octets) (mirrored_number octets)

-- ---- elements of indefinite length

-- an element within, behind its header
abbrev pub child_behind : Result (Tag × Option ℕ × List ℕ) BerFault
    → Result (Step × List ℕ) BerFault
child_behind (Ok (tag, None, body)) = Ok (Open, body)
child_behind (Ok (tag, Some len, body)) =
    if nat_lt (length body) len then Err Short else Ok (Whole, drop len body)
child_behind (Err fault) = Err fault

-- an element within, where levels are left
abbrev pub child_at : ℕ → List ℕ → Result (Step × List ℕ) BerFault
child_at room bytes = if room == 0 then Err TooDeep else child_behind (header_at bytes)

-- the end of contents, or an element within
unfoldable pub step_at : ℕ → List ℕ → Result (Step × List ℕ) BerFault
step_at room [] = Err Short
step_at room (zero ∷ []) = Err Short
step_at room (zero ∷ zero ∷ after) = Ok (End, after)
step_at room (zero ∷ suc second ∷ after) = child_at room (zero ∷ suc second ∷ after)
step_at room (suc first ∷ after) = child_at room (suc first ∷ after)

-- one step on
abbrev pub close_on : (ℕ → ℕ → List ℕ → Result (List ℕ) BerFault) → ℕ → ℕ
    → Result (Step × List ℕ) BerFault → Result (List ℕ) BerFault
close_on next opened room (Ok (End, after)) = next opened (suc room) after
close_on next opened room (Ok (Whole, after)) = next (suc opened) room after
close_on next opened room (Ok (Open, after)) = next (suc (suc opened)) (room - 1) after
close_on next opened room (Err fault) = Err fault

-- what follows the end of `opened` elements, where `room` levels are left in the innermost, in at
-- most `steps` steps
abbrev pub close_at : ℕ → ℕ → ℕ → List ℕ → Result (List ℕ) BerFault
close_at steps zero room bytes = Ok bytes
close_at zero (suc opened) room bytes = Err Short
close_at (suc steps) (suc opened) room bytes =
    close_on (close_at steps) opened room (step_at room bytes)

-- one step on: the search goes on from what is open, the room and the octets that it gives, or ends
-- with the fault
abbrev pub IsAdvance : ℕ → ℕ → List ℕ → Result (ℕ × ℕ × Bor (List ℕ)) BerFault → Type 0
IsAdvance opened room bytes (Ok x) =
    (steps : ℕ) → close_at (suc steps) opened room bytes ≡ close_at steps x.0 x.1 x.2.now
IsAdvance opened room bytes (Err e) = (steps : ℕ) → close_at (suc steps) opened room bytes ≡ Err e

-- tag and contents octets of an element of indefinite length, behind its header
abbrev pub inside_at : Tag → List ℕ → Result (List ℕ) BerFault
    → Result (Tag × List ℕ × List ℕ) BerFault
inside_at tag body (Ok rest) = Ok (tag, take (length body - length rest - 2) body, rest)
inside_at tag body (Err fault) = Err fault

-- an element behind its header, where `room` levels are left in it
abbrev pub extent_behind : ℕ → Result (Tag × Option ℕ × List ℕ) BerFault
    → Result (Tag × List ℕ × List ℕ) BerFault
extent_behind room (Ok (tag, None, body)) =
    inside_at tag body (close_at (suc (length body)) 1 room body)
extent_behind room (Ok (tag, Some len, body)) =
    if nat_lt (length body) len then Err Short else Ok (tag, take len body, drop len body)
extent_behind room (Err fault) = Err fault

-- tag, contents octets and what follows
unfoldable pub extent_at : ℕ → List ℕ → Result (Tag × List ℕ × List ℕ) BerFault
extent_at room bytes = extent_behind room (header_at bytes)

-- ---- how many octets must still come at least

-- of length octets, and of as many contents octets as their least number says
abbrev pub wanting_behind_tag : List ℕ → ℕ
wanting_behind_tag [] = 1
wanting_behind_tag (lead ∷ digits) =
    let count = min (lead - 128) 8 in
    count - length digits + number_from_digits 256 (padded count digits)

-- of a header: the last identifier octet and a length octet, or what is wanting behind the
-- identifier octets
abbrev pub wanting_in_header : Result (Tag × List ℕ) BerFault → ℕ
wanting_in_header (Ok tag) = wanting_behind_tag tag.1
wanting_in_header (Err fault) = 2

-- of an element: its contents octets, or what is wanting of its header
abbrev pub wanting_in_element : List ℕ → Result (Tag × Option ℕ × List ℕ) BerFault → ℕ
wanting_in_element bytes (Ok (tag, None, body)) = 0
wanting_in_element bytes (Ok (tag, Some len, body)) = len - length body
wanting_in_element bytes (Err fault) = wanting_in_header (tag_at bytes)

-- where `opened` elements are open: the rest of an end of contents or of an element, and an end of
-- contents for each that is open then
unfoldable pub least_to_come : ℕ → List ℕ → ℕ
least_to_come opened [] = 2 * opened
least_to_come opened (zero ∷ []) = 2 * opened - 1
least_to_come opened (zero ∷ second ∷ after) =
    wanting_in_element (zero ∷ second ∷ after) (header_at (zero ∷ second ∷ after)) + 2 * opened
least_to_come opened (suc first ∷ after) =
    wanting_in_element (suc first ∷ after) (header_at (suc first ∷ after)) + 2 * opened

-- one step on
abbrev pub least_on : (ℕ → ℕ → List ℕ → ℕ) → ℕ → ℕ → List ℕ → Result (Step × List ℕ) BerFault → ℕ
least_on next opened room bytes (Ok (End, after)) = next opened (suc room) after
least_on next opened room bytes (Ok (Whole, after)) = next (suc opened) room after
least_on next opened room bytes (Ok (Open, after)) = next (suc (suc opened)) (room - 1) after
least_on next opened room bytes (Err fault) = least_to_come (suc opened) bytes

-- before `opened` elements end, where `room` levels are left in the innermost, in at most `steps`
-- steps
abbrev pub least_at : ℕ → ℕ → ℕ → List ℕ → ℕ
least_at steps zero room bytes = 0
least_at zero (suc opened) room bytes = 0
least_at (suc steps) (suc opened) room bytes =
    least_on (least_at steps) opened room bytes (step_at room bytes)
