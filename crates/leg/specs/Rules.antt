-- The rules of a leg (this project's own): what it asks for in each phase, and where it stands
-- after each deed
use Rattle.std.specs.Prelude.{◌≡◌, ℕ, ◌+◌, ◌-◌, true, false, nat_le, nat_lt, List, [], ◌∷◌, ◌++◌, length, if◌then◌else◌, Option, None, Some}
use Rattle.z_types.specs.Bib1.{bib1}
use Rattle.z_types.specs.declared.conditions.Condition.TheVariants.{PresentRequestOutOfRange}
use Rattle.z_types.specs.declared.diagnostic.Diag.{Diag}
use Rattle.z_types.specs.declared.ask.Ask.{Ask}
use Rattle.z_types.specs.declared.ask.Ask.TheVariants as ask
use Rattle.z_types.specs.declared.key.SetKey.{SetKey}
use Rattle.z_types.specs.declared.marks.Mark.TheVariants as mark
use Rattle.z_types.specs.declared.records.Item.{Item}
use Rattle.gw_outside.specs.declared.backends.Opening.{Opening}
use Rattle.gw_outside.specs.declared.backends.Opening.TheVariants as opening
use Rattle.gw_outside.specs.declared.backends.Began.{Began}
use Rattle.gw_outside.specs.declared.backends.Began.TheVariants as start
use Rattle.gw_outside.specs.declared.backends.Heard.{Heard}
use Rattle.gw_outside.specs.declared.backends.Heard.TheVariants as look
use Rattle.pool_sets.specs.Kept.{slot_name}
use Rattle.pool_sets.specs.Table.{empty_table, room, after_room, after_forget, after_record}
use Rattle.pool_sets.specs.declared.doors.Seat.{Seat}
use Rattle.pool_sets.specs.declared.doors.Taken.{Taken}
use Rattle.pool_sets.specs.declared.doors.Taken.TheVariants as taken
use Rattle.leg.specs.declared.answers.LegAnswer.{LegAnswer}
use Rattle.leg.specs.declared.answers.LegAnswer.TheVariants as answer
use Rattle.leg.specs.declared.answers.Turned.{Turned}
use Rattle.leg.specs.declared.answers.Turned.TheVariants as turned
use Rattle.leg.specs.declared.phases.Held.{Held}
use Rattle.leg.specs.declared.phases.Phase.{Phase}
use Rattle.leg.specs.declared.phases.Phase.TheVariants.{Begin, Dialling, Dialled, Ready, Searching, Presenting, Fetching, Scanning, Returning, Losing, Redialling, Spoiled, Done, Ended}
use Rattle.leg.specs.declared.tasks.Task.{Task}
use Rattle.leg.specs.declared.tasks.Task.TheVariants.{Hits, Records, Scan}
use Rattle.leg.specs.Deeds.{Deed, took, opened, began, heard, put_back, gave_up, redialled, no_memory, nothing}
use Rattle.leg.specs.Phases.{hold, with_session, replied, with_sets, seat_of}
use Rattle.leg.specs.Tasks.{want_of}
use Rattle.leg.specs.Terms.{Terms, opened_at}

-- the set has fewer records than the last that was asked for
abbrev pub out_of_range : Diag
out_of_range = bib1 PresentRequestOutOfRange []

-- ---- what is asked

module _ {S : Type 0} where
  -- first its search, under the name of a slot that has room, or its scan
  abbrev pub first_ask : List (List ℕ) → Task → Held S → Ask
  first_ask dbs (Hits key) held = ask.Search (slot_name (room held.parts.table)) key
  first_ask dbs (Records key first count syntax element) held =
      ask.Search (slot_name (room held.parts.table)) key
  first_ask dbs (Scan scan) held = ask.Scan dbs scan

-- then the records that are left, from the slot's set
abbrev pub next_ask : Task → List Item → ℕ → Option Ask
next_ask (Records key first count syntax element) items slot =
    Some (ask.Present (slot_name slot) (first + length items) (count - length items) syntax element)
next_ask task items slot = None

-- ---- where it stands then

-- what is answered to a scan
abbrev pub scan_answer : Heard → LegAnswer
scan_answer (look.Scanned entries) = answer.Scanned entries
scan_answer (look.Refused diag) = answer.Refused diag
scan_answer reply = answer.Marked mark.Link

-- a diagnostic in place of the record that is next
abbrev pub stopped : List Item → Diag → LegAnswer
stopped [] diag = answer.Refused diag
stopped (item ∷ items) diag = answer.Broken (item ∷ items) diag

module _ {S : Type 0} where
  -- after a fault a session that came from the pool and had not replied is dialled again, and any
  -- other is given up
  abbrev pub after_fault : Held S → Phase S
  after_fault held =
      if held.given then Redialling held.seat else Losing held.seat (answer.Marked mark.Link)

  -- with a set that is held: its hits are the answer, or records of it are asked for, as far as
  -- there are so many
  abbrev pub with_set : Task → Held S → List Item → (slot hits : ℕ) → Phase S
  with_set (Hits key) held items slot hits = Returning held (answer.Hits hits)
  with_set (Records key first count syntax element) held items slot hits =
      if nat_lt hits (first + (count - 1)) then Returning held (answer.Broken items out_of_range)
      else Presenting held items slot hits
  with_set (Scan scan) held items slot hits = Ended

  -- a session is taken
  abbrev pub after_take : Task → Taken S → Phase S
  after_take task (taken.Reuse seat parts slot hits) =
      with_set task (hold seat parts true) [] slot hits
  after_take task (taken.Fresh seat parts) = Ready (hold seat parts true) []
  after_take task (taken.Dial seat member) = Dialling seat member
  after_take task (taken.Full open_) = Done (answer.Marked (mark.Full open_))
  after_take task taken.Memory = Begin

  -- one is dialled: it has no sets, and room for those of the pool's numbers
  abbrev pub after_open : Terms → Seat → (member : ℕ) → Opening S → Phase S
  after_open terms seat member (opening.Session session) =
      Dialled
      (hold seat (record {
        session = session;
        table = empty_table terms.pool.sets_max;
        address = opened_at terms member;
      }) false) 0
  after_open terms seat member (opening.Failed linked) = Losing seat (answer.Marked mark.Link)
  after_open terms seat member opening.Memory = Spoiled seat

  -- an ask was sent: a search under its slot, whose key was forgotten before; a scan; or a present
  abbrev pub after_first : Task → Held S → List Item → Began → S → Phase S
  after_first task held items start.Failed session = after_fault held
  after_first task held items start.Memory session = Spoiled held.seat
  after_first (Scan scan) held items start.Started session = Scanning (with_session session held) 0
  after_first task held items start.Started session =
      Searching (with_sets (after_room held.parts.table) (with_session session held)) items
      (room held.parts.table) 0

  abbrev pub after_next : Held S → List Item → (slot hits : ℕ) → Began → S → Phase S
  after_next held items slot hits start.Started session =
      Fetching (with_session session held) items slot hits 0
  after_next held items slot hits start.Failed session = after_fault held
  after_next held items slot hits start.Memory session = Spoiled held.seat

  -- nothing is heard: it is looked again, until the patience is at its end
  abbrev pub unless_silent : (patience : ℕ) → Held S → (looks : ℕ) → Phase S → Phase S
  unless_silent patience held looks again =
      if nat_le patience looks
      then Losing held.seat (answer.Marked (mark.Silent patience)) else again

  -- the reply to the Init
  abbrev pub after_opened : (patience : ℕ) → Held S → (looks : ℕ) → Heard → S → Phase S
  after_opened patience held looks look.Opened session = Ready (replied session held) []
  after_opened patience held looks look.NotYet session =
      unless_silent patience held (looks + 1) (Dialled (with_session session held) (looks + 1))
  after_opened patience held looks look.Failed session = after_fault held
  after_opened patience held looks reply session = Spoiled held.seat

  -- the reply to a search: the key and the hits are recorded under the slot
  abbrev pub recorded : Option SetKey → (slot hits now : ℕ) → Held S → Held S
  recorded None slot hits now held = held
  recorded (Some key) slot hits now held =
      with_sets (after_record slot key hits now held.parts.table) held

  abbrev pub after_search : Terms → Task → (now : ℕ) → Held S → List Item → (slot looks : ℕ) → Heard
      → S → Phase S
  after_search terms task now held items slot looks (look.Hits hits) session =
      with_set task (recorded (want_of task) slot hits now (replied session held)) items slot hits
  after_search terms task now held items slot looks (look.Refused diag) session =
      Returning (replied session held) (answer.Refused diag)
  after_search terms task now held items slot looks look.NotYet session =
      unless_silent terms.pool.patience held (looks + 1)
      (Searching (with_session session held) items slot (looks + 1))
  after_search terms task now held items slot looks look.Failed session = after_fault held
  after_search terms task now held items slot looks reply session = Spoiled held.seat

  -- with some more records: all have come, or the others are asked for
  abbrev pub with_items : Task → Held S → List Item → (slot hits : ℕ) → Phase S
  with_items (Records key first count syntax element) held items slot hits =
      if nat_lt (length items) count then Presenting held items slot hits
      else Returning held (answer.Items items)
  with_items task held items slot hits = Ended

  -- the set is gone: its slot is forgotten and it is searched for again, until it was gone too
  -- often
  abbrev pub gone_again : (repeats gones : ℕ) → Held S → List Item → Phase S
  gone_again repeats gones held items =
      if nat_le gones repeats then Ready held items else Returning held (answer.Marked mark.Gone)

  -- records come, or a diagnostic in place of the next
  abbrev pub with_reply : Task → Held S → List Item → (slot hits : ℕ) → Heard → Phase S
  with_reply task held items slot hits (look.Items others) =
      with_items task held (items ++ others) slot hits
  with_reply task held items slot hits (look.Refused diag) = Returning held (stopped items diag)
  with_reply task held items slot hits reply = Spoiled held.seat

  -- the reply to a present
  abbrev pub after_present : Terms → Task → (gones : ℕ) → Held S → List Item → (slot hits looks : ℕ)
      → Heard → S → Phase S
  after_present terms task gones held items slot hits looks (look.Items others) session =
      with_reply task (replied session held) items slot hits (look.Items others)
  after_present terms task gones held items slot hits looks (look.Refused diag) session =
      with_reply task (replied session held) items slot hits (look.Refused diag)
  after_present terms task gones held items slot hits looks look.Gone session =
      gone_again terms.pool.repeats gones
      (with_sets (after_forget slot held.parts.table) (replied session held)) items
  after_present terms task gones held items slot hits looks look.NotYet session =
      unless_silent terms.pool.patience held (looks + 1)
      (Fetching (with_session session held) items slot hits (looks + 1))
  after_present terms task gones held items slot hits looks look.Failed session = after_fault held
  after_present terms task gones held items slot hits looks reply session = Spoiled held.seat

  -- the reply to a scan
  abbrev pub after_scan : (patience : ℕ) → Held S → (looks : ℕ) → Heard → S → Phase S
  after_scan patience held looks (look.Scanned entries) session =
      Returning (replied session held) (answer.Scanned entries)
  after_scan patience held looks (look.Refused diag) session =
      Returning (replied session held) (answer.Refused diag)
  after_scan patience held looks look.NotYet session =
      unless_silent patience held (looks + 1) (Scanning (with_session session held) (looks + 1))
  after_scan patience held looks look.Failed session = after_fault held
  after_scan patience held looks reply session = Spoiled held.seat

  -- where a leg stands after a deed at a moment, where its account then has so many gones
  abbrev pub next : Terms → Task → (now gones : ℕ) → Phase S → Deed S → Phase S
  next terms task now gones Begin (took taken) = after_take task taken
  next terms task now gones (Dialling seat member) (opened answer) =
      after_open terms seat member answer
  next terms task now gones (Dialled held looks) (heard reply session) =
      after_opened terms.pool.patience held looks reply session
  next terms task now gones (Ready held items) (began asked answer session) =
      after_first task held items answer session
  next terms task now gones (Searching held items slot looks) (heard reply session) =
      after_search terms task now held items slot looks reply session
  next terms task now gones (Presenting held items slot hits) (began asked answer session) =
      after_next held items slot hits answer session
  next terms task now gones (Fetching held items slot hits looks) (heard reply session) =
      after_present terms task gones held items slot hits looks reply session
  next terms task now gones (Scanning held looks) (heard reply session) =
      after_scan terms.pool.patience held looks reply session
  next terms task now gones (Returning held answer) put_back = Done answer
  next terms task now gones (Losing seat answer) gave_up = Done answer
  next terms task now gones (Redialling seat) (redialled member) = Dialling seat member
  next terms task now gones phase deed = phase

  -- for want of memory only the seat is left
  abbrev pub seat_left : Phase S → Option Seat → Phase S
  seat_left phase None = phase
  seat_left phase (Some seat) = Spoiled seat

  abbrev pub spoiled : Phase S → Phase S
  spoiled phase = seat_left phase (seat_of phase)

  -- also of a session that was just taken
  abbrev pub left_by : Phase S → Deed S → Phase S
  left_by Begin (took (taken.Reuse seat parts slot hits)) = Spoiled seat
  left_by phase deed = spoiled phase

  -- what a turn answers after a deed: that the leg is done, that nothing was heard and the patience
  -- is not at its end, or that it went on
  abbrev pub unless_lost : Phase S → Turned
  unless_lost (Losing seat answer) = turned.Went
  unless_lost phase = turned.NotYet

  abbrev pub answer_of : Deed S → Phase S → Turned
  answer_of put_back phase = turned.Done
  answer_of gave_up phase = turned.Done
  answer_of (took (taken.Full open_)) phase = turned.Done
  answer_of nothing phase = turned.Done
  answer_of (heard look.NotYet session) phase = unless_lost phase
  answer_of deed phase = turned.Went

-- ---- want of memory

-- whether a deed lacked memory, or more is wanted behind it: a diagnostic behind a Reuse, the
-- record of a set, the records together
pub data Lack : Type 0 where
  never : Lack
  always : Lack
  perhaps : Lack

module _ {S : Type 0} where
  abbrev pub lack_of : Deed S → Lack
  lack_of (took taken.Memory) = always
  lack_of (opened opening.Memory) = always
  lack_of (began ask start.Memory session) = always
  lack_of (heard look.Memory session) = always
  lack_of no_memory = always
  lack_of (took (taken.Reuse seat parts slot hits)) = perhaps
  lack_of (heard (look.Hits hits) session) = perhaps
  lack_of (heard (look.Items items) session) = perhaps
  lack_of deed = never

  -- where a leg stands then, and what its turn answers: what the rules say, or what is left for
  -- want of memory
  abbrev pub Ends : Lack → (wanted left : Phase S) → (said answer : Turned)
      → (new : Phase S) → Type 0
  Ends never wanted left said answer new = (new ≡ wanted) × (answer ≡ said)
  Ends always wanted left said answer new = (new ≡ left) × (answer ≡ turned.Memory)
  Ends perhaps wanted left said turned.Memory new = new ≡ left
  Ends perhaps wanted left said answer new = (new ≡ wanted) × (answer ≡ said)

  abbrev pub Becomes : Deed S → (wanted left : Phase S) → Turned → Phase S → Type 0
  Becomes deed wanted left answer new =
      Ends (lack_of deed) wanted left (answer_of deed new) answer new
