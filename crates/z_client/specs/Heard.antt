-- What is heard of a reply by what is pending (ANSI/NISO Z39.50-2003, 3.2.1 to 3.2.3 and 3.2.8); a
-- reply that is none to it is a breach
use Rattle.std.specs.Prelude.{◌≡◌, ◌⊎◌, ℕ, true, ◌&&◌, List, ◌++◌, length, Option, None, Some, option_map, option_and_then, Result, Ok, Err, nat_le, if◌then◌else◌}
use Rattle.z_types.specs.Bib1.{is_gone}
use Rattle.z_types.specs.Bounds.{most_number}
use Rattle.z_types.specs.Pending.{Pending, resting, opening, asked, broken}
use Rattle.z_types.specs.declared.ask.Ask.{Ask}
use Rattle.z_types.specs.declared.ask.Ask.TheVariants.{Search, Present, Scan}
use Rattle.z_types.specs.declared.diagnostic.Diag.{Diag}
use Rattle.z_types.specs.declared.records.Item.{Item}
use Rattle.z_types.specs.declared.replies.Reply.{Reply}
use Rattle.z_types.specs.declared.scan.ScanAnswer.{ScanAnswer}
use Rattle.gw_outside.specs.declared.backends.Heard.{Heard}
use Rattle.gw_outside.specs.declared.backends.Heard.TheVariants.{Opened, Hits, Refused, Items, Gone, Scanned}
use Rattle.gw_outside.specs.Replies.{accepts, search_said, present_said, scan_said, says_gone}
use Rattle.z_ber.specs.Frames.{IsFrame}
use Rattle.z_ber.specs.Header.{IsBadFor}
use Rattle.gw_outside.specs.Wires.{IsReplyUnit}

-- of an Init that is accepted with named result sets
abbrev pub opening_heard : Reply → Option Heard
opening_heard answer = if accepts answer then Some Opened else None

-- hits, no more than the protocol can tell
abbrev pub hits_heard : ℕ → Option Heard
hits_heard hits = if nat_le hits most_number then Some (Hits hits) else None

abbrev pub search_heard : Result ℕ Diag → Option Heard
search_heard (Ok hits) = hits_heard hits
search_heard (Err diag) = Some (Refused diag)

-- of a diagnostic in the place of records
abbrev pub gone_or_refused : Diag → Heard
gone_or_refused diag = if is_gone diag then Gone else Refused diag

abbrev pub refusal_heard : Option Diag → Option Heard
refusal_heard None = None
refusal_heard (Some diag) = Some (gone_or_refused diag)

-- at least one record, and no more than were asked for
abbrev pub items_heard : ℕ → List Item → Option Heard
items_heard count items =
    if nat_le 1 (length items) && nat_le (length items) count then Some (Items items) else None

abbrev pub records_heard : ℕ → Result (List Item) Diag → Option Heard
records_heard count (Ok items) = items_heard count items
records_heard count (Err diag) = Some (gone_or_refused diag)

abbrev pub scan_heard : Result ScanAnswer Diag → Heard
scan_heard (Ok answer) = Scanned answer
scan_heard (Err diag) = Refused diag

-- of the reply to an ask
abbrev pub ask_heard : Ask → Reply → Option Heard
ask_heard (Search name key) answer = option_and_then search_heard (search_said answer)
ask_heard (Present name first count syntax element) answer =
    option_and_then (records_heard count) (present_said answer)
ask_heard (Scan dbs ask) answer = option_map scan_heard (scan_said answer)

-- of the reply to what is pending
abbrev pub heard_of : Pending → Reply → Option Heard
heard_of opening answer = opening_heard answer
heard_of (asked ask) answer = ask_heard ask answer
heard_of resting answer = None
heard_of broken answer = None

-- octets begin with a whole unit that is no reply to what is pending
pub record BeginsWithAnother (pending : Pending) (octets : List ℕ) : Type 0 where
  pub unit : List ℕ
  pub rest : List ℕ
  pub frame : IsFrame unit
  pub spelled : octets ≡ unit ++ rest
  pub no_reply : (answer : Reply) → IsReplyUnit unit answer → heard_of pending answer ≡ None

-- octets begin with a whole unit that is a reply to a Present whose diagnostic is condition 27 or
-- 30 of bib-1, and go on with these
pub record BeginsWithGone (octets left : List ℕ) : Type 0 where
  pub unit : List ℕ
  pub spelled : octets ≡ unit ++ left
  pub reply : Reply
  pub is : IsReplyUnit unit reply
  pub gone : says_gone reply ≡ true

-- a breach: octets that begin with no unit, however they go on, or with one that is no reply to
-- what is pending
abbrev pub IsBreach : Pending → List ℕ → Type 0
IsBreach pending octets = IsBadFor IsFrame octets ⊎ BeginsWithAnother pending octets
