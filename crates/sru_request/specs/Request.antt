-- The request of a head (RFC 9112, 3; RFC 9110, 9.3.1), by the grammar of the crate `httparse`, and
-- its target in two parts (RFC 3986, 3.4)
use Rattle.std.specs.Prelude.{◌≡◌, ◌≢◌, ◌≤◌, ℕ, List, [], length, take, Option, None, Some, Result, Ok, Err, codes, nat_lt, if◌then◌else◌}
use Rattle.httparse.specs.Grammar.{RequestHead, ReadsRequest}
use Rattle.form_urlencoded.specs.Form.{split_once}
use Rattle.sru_request.specs.declared.head.Get.{Get}
use Rattle.sru_request.specs.declared.head.HeadGot.{HeadGot}
use Rattle.sru_request.specs.declared.head.HeadGot.TheVariants.{Got, NeedMore}
use Rattle.sru_request.specs.declared.faults.HeadFault.{HeadFault}
use Rattle.sru_request.specs.declared.faults.HeadFault.TheVariants.{BadHttp, NotGet, HeadTooLarge, Memory}
use Rattle.sru_request.specs.Head.{head_length}

-- the most octets and fields of a head
abbrev pub most_head_octets : ℕ
most_head_octets = 16384

abbrev pub most_fields : ℕ
most_fields = 64

-- these octets are this head, and nothing behind it, with no more fields than that
pub record IsHead (octets : List ℕ) (head : RequestHead) : Type 0 where
  pub reads : ReadsRequest octets head []
  pub fields : length head.fields ≤ most_fields

-- the octets before the first `?` of a target, and those behind it
abbrev pub get_of : List ℕ → Get
get_of target = record { path = (split_once 63 target).0; query = (split_once 63 target).1 }

-- what is answered to a head that has come
abbrev pub IsAnswerTo : List ℕ → Result HeadGot HeadFault → Type 0
IsAnswerTo octets (Ok (Got get used)) =
    (used ≡ length octets)
    × ((head : RequestHead) × IsHead octets head × (head.method ≡ codes "GET")
    × (get ≡ get_of head.target))
IsAnswerTo octets (Ok NeedMore) = ⊥
IsAnswerTo octets (Err BadHttp) = (head : RequestHead) → ¬ (IsHead octets head)
IsAnswerTo octets (Err NotGet) =
    (head : RequestHead) × IsHead octets head × (head.method ≢ codes "GET")
IsAnswerTo octets (Err HeadTooLarge) = ⊥
IsAnswerTo octets (Err Memory) = Unit {0}

-- what is answered to octets of which no more are looked at than a head may have, with the length
-- of the head in them
abbrev pub IsAnswerIn : List ℕ → Option ℕ → Result HeadGot HeadFault → Type 0
IsAnswerIn octets None result =
    result ≡ (if nat_lt (length octets) most_head_octets then Ok NeedMore else Err HeadTooLarge)
IsAnswerIn octets (Some count) result = IsAnswerTo (take count octets) result

-- what is answered to the octets that have come
abbrev pub IsHeadAnswer : List ℕ → Result HeadGot HeadFault → Type 0
IsHeadAnswer octets result =
    IsAnswerIn (take most_head_octets octets) (head_length (take most_head_octets octets)) result
