-- What a line of a script says (this project's own)
use Rattle.std.specs.Prelude.{ℕ, ◌<◌, ◌≤◌, ◌+◌, ◌-◌, ◌*◌, ◌^◌, Bool, false, List, [], ◌∷◌, length, take, drop, position, if◌then◌else◌, ◌==◌, ◌&&◌, nat_le, nat_eq, codes, Option, None, Some}
use Rattle.std.specs.Char.{is_ascii_digit}
use Rattle.std.specs.List.{list_all, starts_with}
use Rattle.std.specs.Option.{option_and_then}
use Rattle.std.specs.Result.{result_ok}
use Rattle.std.specs.Str.{bytes_eq}
use Rattle.hex.specs.Hex.{decode_of}
use Rattle.z_types.specs.Bounds.{most_unit_octets}
use Rattle.script.specs.declared.event.Event.{Event}
use Rattle.script.specs.declared.event.Event.TheVariants.{Feed, End, Step, Run, Tick, Gone, Cut, Slow}
use Rattle.script.specs.declared.line.Said.{Said}
use Rattle.script.specs.declared.line.Said.TheVariants.{Nothing, Says, Unknown}
use Rattle.script.specs.Events.{IsEvent, most_clients, most_amount}

-- ---- fields

-- each octet is a decimal digit
unfoldable pub are_digits : List ℕ → Bool
are_digits octets = list_all is_ascii_digit octets

-- decimal digits; a leading zero stands alone
abbrev pub is_decimal : List ℕ → Bool
is_decimal [] = false
is_decimal (first ∷ rest) = if first == 48 then length rest == 0 else are_digits (first ∷ rest)

-- the number that digits write behind those of another
abbrev pub number_after : ℕ → List ℕ → ℕ
number_after before [] = before
number_after before (digit ∷ digits) = number_after (before * 10 + (digit - 48)) digits

-- a number, where it lies from one to another
abbrev pub within : (low high : ℕ) → ℕ → Option ℕ
within low high number = if nat_le low number && nat_le number high then Some number else None

-- the number that a field writes
abbrev pub number_in : (low high : ℕ) → List ℕ → Option ℕ
number_in low high field = if is_decimal field then within low high (number_after 0 field) else None

-- the client of a number
abbrev pub client_in : List ℕ → Option ℕ
client_in field = number_in 1 most_clients field

-- how many seconds, Presents or looks
abbrev pub amount_in : List ℕ → Option ℕ
amount_in field = number_in 0 most_amount field

-- the target of a name, by its place; the first where several have it. Places have 32 bits.
abbrev pub target_in : (targets : List (List ℕ)) → List ℕ → Option ℕ
target_in targets field =
    option_and_then (within 0 (2 ^ 32 - 1)) (position (bytes_eq field) targets)

-- the octets that hexadecimal digits of either case write, one at least, and those of a unit at
-- most
abbrev pub octets_in : List ℕ → Option (List ℕ)
octets_in field =
    if nat_le 1 (length field) && nat_le (length field) (2 * most_unit_octets)
    then result_ok (decode_of field)
    else None

-- ---- lines

-- the field before a space, and what stands behind it
abbrev pub fields_at : List ℕ → Option ℕ → Option (List ℕ × List ℕ)
fields_at text None = None
fields_at text (Some space) = Some (take space text, drop (space + 1) text)

-- the field before the first space, and what stands behind that
abbrev pub two_fields : List ℕ → Option (List ℕ × List ℕ)
two_fields text = fields_at text (position (λ octet. octet == 32) text)

-- the event of a field
abbrev pub said_of : {A : Type 0} → (A → Event) → Option A → Said
said_of event None = Unknown
said_of event (Some field) = Says (event field)

-- two fields that are read
abbrev pub both_fields : {A B : Type 0} → Option A → Option B → Option (A × B)
both_fields (Some first) (Some second) = Some (first, second)
both_fields first second = None

-- a client's number, and octets
abbrev pub client_and_octets : Option (List ℕ × List ℕ) → Option (ℕ × List ℕ)
client_and_octets None = None
client_and_octets (Some fields) = both_fields (client_in fields.0) (octets_in fields.1)

-- a target's name, and an amount
abbrev pub target_and_amount : List (List ℕ) → Option (List ℕ × List ℕ) → Option (ℕ × ℕ)
target_and_amount targets None = None
target_and_amount targets (Some fields) =
    both_fields (target_in targets fields.0) (amount_in fields.1)

-- octets are fed
abbrev pub feed_said : List ℕ → Said
feed_said text = said_of (λ said. Feed said.0 said.1) (client_and_octets (two_fields text))

-- result sets are deleted
abbrev pub gone_said : List (List ℕ) → List ℕ → Said
gone_said targets text =
    said_of (λ said. Gone said.0 said.1) (target_and_amount targets (two_fields text))

-- replies are late
abbrev pub slow_said : List (List ℕ) → List ℕ → Said
slow_said targets text =
    said_of (λ said. Slow said.0 said.1) (target_and_amount targets (two_fields text))

-- a line of words that speaks of no client
abbrev pub said_of_targets : List (List ℕ) → List ℕ → Said
said_of_targets targets line =
    if starts_with nat_eq line (codes "tick ") then said_of Tick (amount_in (drop 5 line))
    else (if starts_with nat_eq line (codes "gone ") then gone_said targets (drop 5 line)
    else (if starts_with nat_eq line (codes "cut ")
    then said_of Cut (target_in targets (drop 4 line))
    else (if starts_with nat_eq line (codes "slow ") then slow_said targets (drop 5 line)
    else Unknown)))

-- a line of words
abbrev pub said_by_words : List (List ℕ) → List ℕ → Said
said_by_words targets line =
    if starts_with nat_eq line (codes "feed ") then feed_said (drop 5 line)
    else (if starts_with nat_eq line (codes "end ") then said_of End (client_in (drop 4 line))
    else (if starts_with nat_eq line (codes "step ") then said_of Step (client_in (drop 5 line))
    else (if starts_with nat_eq line (codes "run ") then said_of Run (client_in (drop 4 line))
    else said_of_targets targets line)))

-- an empty line and one that begins with `#` say nothing
abbrev pub said_by : List (List ℕ) → List ℕ → Said
said_by targets [] = Nothing
said_by targets (first ∷ rest) =
    if first == 35 then Nothing else said_by_words targets (first ∷ rest)

-- a line says nothing, an event that may stand in a script, or nothing that is known
abbrev pub SaysEvent : (targets : ℕ) → Said → Type 0
SaysEvent targets Nothing = Unit {0}
SaysEvent targets (Says event) = IsEvent targets event
SaysEvent targets Unknown = Unit {0}

-- a target that there is, and an amount that may be said
abbrev pub IsOfTargets : (targets : ℕ) → (ℕ × ℕ) → Type 0
IsOfTargets targets said = (said.0 < targets) × (said.1 ≤ most_amount)
