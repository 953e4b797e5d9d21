-- For contracts alone: the head of a request as its octets come (RFC 9112, 2.1 and 2.2)
use Rattle.std.specs.Prelude.{◌≡◌, ◌≤◌, ℕ, ◌&&◌, nat_lt, not, Bool, false, ◌==◌, List, [], ◌∷◌, length, take, Option, None, Some, is_some, Result, Ok, Err}
use Rattle.std.specs.List.{list_any}
use Rattle.sru_request.specs.Head.{head_length, line_behind}
use Rattle.sru_request.specs.Request.{IsHeadAnswer, most_head_octets}
use Rattle.sru_request.specs.declared.faults.HeadFault.{HeadFault}
use Rattle.sru_request.specs.declared.head.Get.{Get}
use Rattle.sru_request.specs.declared.head.HeadGot.TheVariants.{Got, NeedMore}

-- a line feed stands first, and an empty line behind it
abbrev pub ends_here : List ℕ → Bool
ends_here [] = false
ends_here (first ∷ rest) = is_some (line_behind first rest)

-- a line feed is among octets
abbrev pub has_line_feed : List ℕ → Bool
has_line_feed octets = list_any (λ octet. octet == 10) octets

-- so many octets have come, and no head ends in them
pub record HasPassed (octets : List ℕ) (passed : ℕ) : Type 0 where
  pub come : passed ≤ length octets
  pub endless : head_length (take passed octets) ≡ None

-- none ends in octets, and they are few enough that one still may
abbrev pub awaits_more : List ℕ → Bool
awaits_more octets = not (is_some (head_length octets)) && nat_lt (length octets) most_head_octets

-- the octets that have come begin with a head that is a GET, or with none that is one
abbrev pub IsHeadOf : List ℕ → Result Get HeadFault → Type 0
IsHeadOf octets (Ok get) = (used : ℕ) × IsHeadAnswer octets (Ok (Got get used))
IsHeadOf octets (Err fault) = IsHeadAnswer octets (Err fault)

-- so they do, or more of them are needed
abbrev pub IsSought : List ℕ → Option (Result Get HeadFault) → Type 0
IsSought octets None = IsHeadAnswer octets (Ok NeedMore)
IsSought octets (Some head) = IsHeadOf octets head
