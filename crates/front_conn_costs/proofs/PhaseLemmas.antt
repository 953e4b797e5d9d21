-- One turn of a leg: each search is booked or follows a Gone or a fault, each address that is named is dialled, or failed, or is due
use Rattle.std.proofs.Common.{◌≡◌, ℕ, ◌+◌, ◌-◌, ◌≤◌, Bool, true, false, nat_le, nat_lt, if◌then◌else◌, is_some, List, [], ◌++◌, length, ap, arith}
use Rattle.z_types.specs.declared.ask.Ask.{Ask}
use Rattle.z_types.specs.declared.marks.Mark.TheVariants as mark
use Rattle.z_types.specs.declared.records.Item.{Item}
use Rattle.z_types.specs.declared.sitting.Sitting as sitting
use Rattle.z_types.specs.declared.world.World as world
use Rattle.gw_outside.specs.Sessions.{is_search}
use Rattle.gw_outside.specs.declared.backends.Began.TheVariants as start
use Rattle.gw_outside.specs.declared.backends.Heard.TheVariants as look
use Rattle.gw_outside.specs.declared.backends.Opening.TheVariants as opening
use Rattle.pool_sets.specs.Table.{after_forget}
use Rattle.pool_sets.specs.declared.doors.Taken.TheVariants as taken
use Rattle.front_conn.specs.leg.declared.answers.LegAnswer.TheVariants as answer
use Rattle.front_conn.specs.leg.declared.phases.Held.{Held}
use Rattle.front_conn.specs.leg.declared.phases.Phase.{Phase}
use Rattle.front_conn.specs.leg.declared.phases.Phase.TheVariants.{Begin, Dialling, Dialled, Ready, Searching, Presenting, Fetching, Scanning, Returning, Losing, Redialling, Spoiled, Done, Ended}
use Rattle.front_conn.specs.leg.declared.tasks.Task.{Task}
use Rattle.front_conn.specs.leg.declared.tasks.Task.TheVariants.{Hits, Records, Scan}
use Rattle.front_conn.specs.leg.Deeds.{Deed, took, opened, began, heard, put_back, gave_up, redialled, no_memory, nothing, rises_of}
use Rattle.front_conn.specs.leg.Kept.{ahead_of, one_if}
use Rattle.front_conn.specs.leg.Phases.{hold, replied, with_session, with_sets}
use Rattle.front_conn.specs.leg.Rules.{after_fault, after_first, first_ask, gone_again, next, next_ask, recorded, unless_silent, with_items, with_set}
use Rattle.front_conn.specs.leg.Tasks.{want_of}
use Rattle.front_conn.specs.leg.Terms.{Terms}
use Rattle.front_conn.specs.leg.Turns.{IsAskedIf, IsDue}

one-most : (b : Bool) → one_if b ≤ 1
one-most true = omega arith
one-most false = omega arith

one-wanted : (task : Task) → one_if (is_some (want_of task)) ≤ 1
one-wanted task = one-most (is_some (want_of task))

module _ {S : Type 0} (task : Task) where
  -- searches that may still be sent, and addresses that were named and not dialled
  abbrev pub due : Phase S → ℕ
  due phase = (ahead_of (want_of task) phase).searches

  abbrev pub unused : Phase S → ℕ
  unused phase = (ahead_of (want_of task) phase).unused

  if-due : (b : Bool) (x y : Phase S) (k : ℕ) → due x ≤ k → due y ≤ k → due (if b then x else y) ≤ k
  if-due true x y k f g = f
  if-due false x y k f g = g

  fault-due : (held : Held S) → due (after_fault held) ≤ one_if (is_some (want_of task))
  fault-due held =
      if-due held.given (Redialling held.seat) (Losing held.seat (answer.Marked mark.Link)) (one_if (is_some (want_of task))) (omega arith) (omega arith)

  silent-due : (patience : ℕ) (held : Held S) (looks : ℕ) (again : Phase S) → due (unless_silent patience held looks again) ≤ due again
  silent-due patience held looks again =
      if-due (nat_le patience looks) (Losing held.seat (answer.Marked (mark.Silent patience))) again (due again) (omega arith) (omega arith)

  gone-due : (repeats gones : ℕ) (held : Held S) (items : List Item) → due (gone_again repeats gones held items) ≤ one_if (is_some (want_of task))
  gone-due repeats gones held items =
      if-due (nat_le gones repeats) (Ready held items) (Returning held (answer.Marked mark.Gone)) (one_if (is_some (want_of task))) (omega arith) (omega arith)

-- with a set no search is left
with_set-none : {S : Type 0} (task : Task) (held : Held S) (items : List Item) (slot hits : ℕ) → due task (with_set task held items slot hits) ≤ 0
with_set-none (Hits key) held items slot hits = omega arith
with_set-none (Records key first count syntax element) held items slot hits =
    if-due (Records key first count syntax element) (nat_lt hits (first + (count - 1))) _ (Presenting held items slot hits) 0 (omega arith) (omega arith)
with_set-none (Scan scan) held items slot hits = omega arith

with_items-none : {S : Type 0} (task : Task) (held : Held S) (items : List Item) (slot hits : ℕ) → due task (with_items task held items slot hits) ≤ 0
with_items-none (Hits key) held items slot hits = omega arith
with_items-none (Records key first count syntax element) held items slot hits =
    if-due (Records key first count syntax element) (nat_lt (length items) count) (Presenting held items slot hits) _ 0 (omega arith) (omega arith)
with_items-none (Scan scan) held items slot hits = omega arith

-- the first ask is a search where a set is wanted
first-by : {W S : Type 0} (w : world.Ghosts W) (t : sitting.Ghosts S W) (terms : Terms) (task : Task) (held : Held S) (items : List Item)
    (asked : Ask) (session : S) → asked ≡ first_ask terms.dbs task held
    → due task (after_first task held items start.Started session) + one_if (is_search asked) ≤ one_if (is_some (want_of task))
first-by w t terms (Hits key) held items asked session e = let one = one-most (is_search asked) in omega (arith, one)
first-by w t terms (Records key first count syntax element) held items asked session e =
    let one = one-most (is_search asked) in omega (arith, one)
first-by w t terms (Scan scan) held items asked session e =
    let none : is_search asked ≡ false = ap is_search e in
    rw none (omega arith)

-- and the next none
next-by : {W S : Type 0} (w : world.Ghosts W) (t : sitting.Ghosts S W) (task : Task) (items : List Item) (slot : ℕ) (asked : Ask)
    (before after : S) → IsAskedIf w t (next_ask task items slot) asked before after start.Started → one_if (is_search asked) ≤ 0
next-by w t (Hits key) items slot asked before after h = absurd h
next-by w t (Records key first count syntax element) items slot asked before after h =
    let none : is_search asked ≡ false = ap is_search h.asks in
    rw none (omega arith)
next-by w t (Scan scan) items slot asked before after h = absurd h

module _ {W S : Type 0} (w : world.Ghosts W) (t : sitting.Ghosts S W) (terms : Terms) (most : ℕ) (task : Task) (now gone_ : ℕ) where
  -- each search is booked, or follows a Gone or a fault
  pub due-goes : (old : Phase S) (deed : Deed S) → IsDue w t terms most task old deed
      → due task (next terms task now gone_ old deed) + one_if (rises_of (want_of task) deed).searches
      ≤ due task old + one_if (rises_of (want_of task) deed).booked + one_if (rises_of (want_of task) deed).gones
      + one_if (rises_of (want_of task) deed).faults
  due-goes Begin (took (taken.Reuse seat parts slot hits)) h = let none = with_set-none task (hold seat parts true) [] slot hits in omega (arith, none)
  due-goes Begin (took (taken.Fresh seat parts)) h = omega arith
  due-goes Begin (took (taken.Dial seat member)) h = omega arith
  due-goes Begin (took (taken.Full open_)) h = omega arith
  due-goes Begin (took taken.Memory) h = omega arith
  due-goes Begin (opened made) h = absurd h
  due-goes Begin (began asked answer session) h = absurd h
  due-goes Begin (heard reply session) h = absurd h
  due-goes Begin put_back h = absurd h
  due-goes Begin gave_up h = absurd h
  due-goes Begin (redialled member_) h = absurd h
  due-goes Begin no_memory h = absurd h
  due-goes Begin nothing h = absurd h
  due-goes (Dialling seat member) (took taken_) h = absurd h
  due-goes (Dialling seat member) (opened (opening.Session session)) h = omega arith
  due-goes (Dialling seat member) (opened (opening.Failed linked)) h = omega arith
  due-goes (Dialling seat member) (opened opening.Memory) h = omega arith
  due-goes (Dialling seat member) (began asked answer session) h = absurd h
  due-goes (Dialling seat member) (heard reply session) h = absurd h
  due-goes (Dialling seat member) put_back h = absurd h
  due-goes (Dialling seat member) gave_up h = absurd h
  due-goes (Dialling seat member) (redialled member_) h = absurd h
  due-goes (Dialling seat member) no_memory h = omega arith
  due-goes (Dialling seat member) nothing h = absurd h
  due-goes (Dialled held looks) (took taken_) h = absurd h
  due-goes (Dialled held looks) (opened made) h = absurd h
  due-goes (Dialled held looks) (began asked answer session) h = absurd h
  due-goes (Dialled held looks) (heard look.Opened session) h = omega arith
  due-goes (Dialled held looks) (heard (look.Hits found) session) h = omega arith
  due-goes (Dialled held looks) (heard (look.Refused diag) session) h = omega arith
  due-goes (Dialled held looks) (heard (look.Items others) session) h = omega arith
  due-goes (Dialled held looks) (heard look.Gone session) h = omega arith
  due-goes (Dialled held looks) (heard (look.Scanned entries) session) h = omega arith
  due-goes (Dialled held looks) (heard look.NotYet session) h = let few = silent-due task (terms.pool.patience) held (looks + 1) (Dialled (with_session session held) (looks + 1)) in omega (arith, few)
  due-goes (Dialled held looks) (heard look.Failed session) h = let few = fault-due task held in omega (arith, few)
  due-goes (Dialled held looks) (heard look.Memory session) h = omega arith
  due-goes (Dialled held looks) put_back h = absurd h
  due-goes (Dialled held looks) gave_up h = absurd h
  due-goes (Dialled held looks) (redialled member_) h = absurd h
  due-goes (Dialled held looks) no_memory h = absurd h
  due-goes (Dialled held looks) nothing h = absurd h
  due-goes (Ready held items) (took taken_) h = absurd h
  due-goes (Ready held items) (opened made) h = absurd h
  due-goes (Ready held items) (began asked start.Failed session) h = let few = fault-due task held in omega (arith, few)
  due-goes (Ready held items) (began asked start.Memory session) h = omega arith
  due-goes (Ready held items) (began asked start.Started session) h = let few = first-by w t terms task held items asked session h.asks in omega (arith, few)
  due-goes (Ready held items) (heard reply session) h = absurd h
  due-goes (Ready held items) put_back h = absurd h
  due-goes (Ready held items) gave_up h = absurd h
  due-goes (Ready held items) (redialled member_) h = absurd h
  due-goes (Ready held items) no_memory h = omega arith
  due-goes (Ready held items) nothing h = absurd h
  due-goes (Searching held items slot looks) (took taken_) h = absurd h
  due-goes (Searching held items slot looks) (opened made) h = absurd h
  due-goes (Searching held items slot looks) (began asked answer session) h = absurd h
  due-goes (Searching held items slot looks) (heard look.Opened session) h = omega arith
  due-goes (Searching held items slot looks) (heard (look.Hits found) session) h = let none = with_set-none task (recorded (want_of task) slot found now (replied session held)) items slot found in omega (arith, none)
  due-goes (Searching held items slot looks) (heard (look.Refused diag) session) h = omega arith
  due-goes (Searching held items slot looks) (heard (look.Items others) session) h = omega arith
  due-goes (Searching held items slot looks) (heard look.Gone session) h = omega arith
  due-goes (Searching held items slot looks) (heard (look.Scanned entries) session) h = omega arith
  due-goes (Searching held items slot looks) (heard look.NotYet session) h = let few = silent-due task (terms.pool.patience) held (looks + 1) (Searching (with_session session held) items slot (looks + 1)) in omega (arith, few)
  due-goes (Searching held items slot looks) (heard look.Failed session) h = let few = fault-due task held in let one = one-wanted task in omega (arith, few, one)
  due-goes (Searching held items slot looks) (heard look.Memory session) h = omega arith
  due-goes (Searching held items slot looks) put_back h = absurd h
  due-goes (Searching held items slot looks) gave_up h = absurd h
  due-goes (Searching held items slot looks) (redialled member_) h = absurd h
  due-goes (Searching held items slot looks) no_memory h = absurd h
  due-goes (Searching held items slot looks) nothing h = absurd h
  due-goes (Presenting held items slot hits) (took taken_) h = absurd h
  due-goes (Presenting held items slot hits) (opened made) h = absurd h
  due-goes (Presenting held items slot hits) (began asked start.Failed session) h = let few = fault-due task held in let one = one-wanted task in omega (arith, few, one)
  due-goes (Presenting held items slot hits) (began asked start.Memory session) h = omega arith
  due-goes (Presenting held items slot hits) (began asked start.Started session) h = let none = next-by w t task items slot asked held.parts.session session h in omega (arith, none)
  due-goes (Presenting held items slot hits) (heard reply session) h = absurd h
  due-goes (Presenting held items slot hits) put_back h = absurd h
  due-goes (Presenting held items slot hits) gave_up h = absurd h
  due-goes (Presenting held items slot hits) (redialled member_) h = absurd h
  due-goes (Presenting held items slot hits) no_memory h = omega arith
  due-goes (Presenting held items slot hits) nothing h = absurd h
  due-goes (Fetching held items slot hits looks) (took taken_) h = absurd h
  due-goes (Fetching held items slot hits looks) (opened made) h = absurd h
  due-goes (Fetching held items slot hits looks) (began asked answer session) h = absurd h
  due-goes (Fetching held items slot hits looks) (heard look.Opened session) h = omega arith
  due-goes (Fetching held items slot hits looks) (heard (look.Hits found) session) h = omega arith
  due-goes (Fetching held items slot hits looks) (heard (look.Refused diag) session) h = omega arith
  due-goes (Fetching held items slot hits looks) (heard (look.Items others) session) h = let none = with_items-none task (replied session held) (items ++ others) slot hits in omega (arith, none)
  due-goes (Fetching held items slot hits looks) (heard look.Gone session) h = let few = gone-due task (terms.pool.repeats) gone_ (with_sets (after_forget slot held.parts.table) (replied session held)) items in let one = one-wanted task in omega (arith, few, one)
  due-goes (Fetching held items slot hits looks) (heard (look.Scanned entries) session) h = omega arith
  due-goes (Fetching held items slot hits looks) (heard look.NotYet session) h = let few = silent-due task (terms.pool.patience) held (looks + 1) (Fetching (with_session session held) items slot hits (looks + 1)) in omega (arith, few)
  due-goes (Fetching held items slot hits looks) (heard look.Failed session) h = let few = fault-due task held in let one = one-wanted task in omega (arith, few, one)
  due-goes (Fetching held items slot hits looks) (heard look.Memory session) h = omega arith
  due-goes (Fetching held items slot hits looks) put_back h = absurd h
  due-goes (Fetching held items slot hits looks) gave_up h = absurd h
  due-goes (Fetching held items slot hits looks) (redialled member_) h = absurd h
  due-goes (Fetching held items slot hits looks) no_memory h = absurd h
  due-goes (Fetching held items slot hits looks) nothing h = absurd h
  due-goes (Scanning held looks) (took taken_) h = absurd h
  due-goes (Scanning held looks) (opened made) h = absurd h
  due-goes (Scanning held looks) (began asked answer session) h = absurd h
  due-goes (Scanning held looks) (heard look.Opened session) h = omega arith
  due-goes (Scanning held looks) (heard (look.Hits found) session) h = omega arith
  due-goes (Scanning held looks) (heard (look.Refused diag) session) h = omega arith
  due-goes (Scanning held looks) (heard (look.Items others) session) h = omega arith
  due-goes (Scanning held looks) (heard look.Gone session) h = omega arith
  due-goes (Scanning held looks) (heard (look.Scanned entries) session) h = omega arith
  due-goes (Scanning held looks) (heard look.NotYet session) h = let few = silent-due task (terms.pool.patience) held (looks + 1) (Scanning (with_session session held) (looks + 1)) in omega (arith, few)
  due-goes (Scanning held looks) (heard look.Failed session) h = let few = fault-due task held in let one = one-wanted task in omega (arith, few, one)
  due-goes (Scanning held looks) (heard look.Memory session) h = omega arith
  due-goes (Scanning held looks) put_back h = absurd h
  due-goes (Scanning held looks) gave_up h = absurd h
  due-goes (Scanning held looks) (redialled member_) h = absurd h
  due-goes (Scanning held looks) no_memory h = absurd h
  due-goes (Scanning held looks) nothing h = absurd h
  due-goes (Returning held own) (took taken_) h = absurd h
  due-goes (Returning held own) (opened made) h = absurd h
  due-goes (Returning held own) (began asked answer session) h = absurd h
  due-goes (Returning held own) (heard reply session) h = absurd h
  due-goes (Returning held own) put_back h = omega arith
  due-goes (Returning held own) gave_up h = absurd h
  due-goes (Returning held own) (redialled member_) h = absurd h
  due-goes (Returning held own) no_memory h = absurd h
  due-goes (Returning held own) nothing h = absurd h
  due-goes (Losing seat own) (took taken_) h = absurd h
  due-goes (Losing seat own) (opened made) h = absurd h
  due-goes (Losing seat own) (began asked answer session) h = absurd h
  due-goes (Losing seat own) (heard reply session) h = absurd h
  due-goes (Losing seat own) put_back h = absurd h
  due-goes (Losing seat own) gave_up h = omega arith
  due-goes (Losing seat own) (redialled member_) h = absurd h
  due-goes (Losing seat own) no_memory h = absurd h
  due-goes (Losing seat own) nothing h = absurd h
  due-goes (Redialling seat) (took taken_) h = absurd h
  due-goes (Redialling seat) (opened made) h = absurd h
  due-goes (Redialling seat) (began asked answer session) h = absurd h
  due-goes (Redialling seat) (heard reply session) h = absurd h
  due-goes (Redialling seat) put_back h = absurd h
  due-goes (Redialling seat) gave_up h = absurd h
  due-goes (Redialling seat) (redialled member_) h = omega arith
  due-goes (Redialling seat) no_memory h = absurd h
  due-goes (Redialling seat) nothing h = absurd h
  due-goes (Spoiled seat) (took taken_) h = absurd h
  due-goes (Spoiled seat) (opened made) h = absurd h
  due-goes (Spoiled seat) (began asked answer session) h = absurd h
  due-goes (Spoiled seat) (heard reply session) h = absurd h
  due-goes (Spoiled seat) put_back h = absurd h
  due-goes (Spoiled seat) gave_up h = absurd h
  due-goes (Spoiled seat) (redialled member_) h = absurd h
  due-goes (Spoiled seat) no_memory h = omega arith
  due-goes (Spoiled seat) nothing h = absurd h
  due-goes (Done own) (took taken_) h = absurd h
  due-goes (Done own) (opened made) h = absurd h
  due-goes (Done own) (began asked answer session) h = absurd h
  due-goes (Done own) (heard reply session) h = absurd h
  due-goes (Done own) put_back h = absurd h
  due-goes (Done own) gave_up h = absurd h
  due-goes (Done own) (redialled member_) h = absurd h
  due-goes (Done own) no_memory h = absurd h
  due-goes (Done own) nothing h = omega arith
  due-goes Ended (took taken_) h = absurd h
  due-goes Ended (opened made) h = absurd h
  due-goes Ended (began asked answer session) h = absurd h
  due-goes Ended (heard reply session) h = absurd h
  due-goes Ended put_back h = absurd h
  due-goes Ended gave_up h = absurd h
  due-goes Ended (redialled member_) h = absurd h
  due-goes Ended no_memory h = omega arith
  due-goes Ended nothing h = absurd h

  -- each address that is named is dialled, or failed, or is due
  pub unused-goes : (old : Phase S) (deed : Deed S) → IsDue w t terms most task old deed
      → one_if (rises_of (want_of task) deed).opens + unused task old
      ≤ one_if (rises_of (want_of task) deed).dials + one_if (rises_of (want_of task) deed).faults + unused task (next terms task now gone_ old deed)
  unused-goes Begin (took (taken.Reuse seat parts slot hits)) h = omega arith
  unused-goes Begin (took (taken.Fresh seat parts)) h = omega arith
  unused-goes Begin (took (taken.Dial seat member)) h = omega arith
  unused-goes Begin (took (taken.Full open_)) h = omega arith
  unused-goes Begin (took taken.Memory) h = omega arith
  unused-goes Begin (opened made) h = absurd h
  unused-goes Begin (began asked answer session) h = absurd h
  unused-goes Begin (heard reply session) h = absurd h
  unused-goes Begin put_back h = absurd h
  unused-goes Begin gave_up h = absurd h
  unused-goes Begin (redialled member_) h = absurd h
  unused-goes Begin no_memory h = absurd h
  unused-goes Begin nothing h = absurd h
  unused-goes (Dialling seat member) (took taken_) h = absurd h
  unused-goes (Dialling seat member) (opened (opening.Session session)) h = omega arith
  unused-goes (Dialling seat member) (opened (opening.Failed linked)) h = omega arith
  unused-goes (Dialling seat member) (opened opening.Memory) h = omega arith
  unused-goes (Dialling seat member) (began asked answer session) h = absurd h
  unused-goes (Dialling seat member) (heard reply session) h = absurd h
  unused-goes (Dialling seat member) put_back h = absurd h
  unused-goes (Dialling seat member) gave_up h = absurd h
  unused-goes (Dialling seat member) (redialled member_) h = absurd h
  unused-goes (Dialling seat member) no_memory h = omega arith
  unused-goes (Dialling seat member) nothing h = absurd h
  unused-goes (Dialled held looks) (took taken_) h = absurd h
  unused-goes (Dialled held looks) (opened made) h = absurd h
  unused-goes (Dialled held looks) (began asked answer session) h = absurd h
  unused-goes (Dialled held looks) (heard reply session) h = omega arith
  unused-goes (Dialled held looks) put_back h = absurd h
  unused-goes (Dialled held looks) gave_up h = absurd h
  unused-goes (Dialled held looks) (redialled member_) h = absurd h
  unused-goes (Dialled held looks) no_memory h = absurd h
  unused-goes (Dialled held looks) nothing h = absurd h
  unused-goes (Ready held items) (took taken_) h = absurd h
  unused-goes (Ready held items) (opened made) h = absurd h
  unused-goes (Ready held items) (began asked start.Started session) h = omega arith
  unused-goes (Ready held items) (began asked start.Failed session) h = omega arith
  unused-goes (Ready held items) (began asked start.Memory session) h = omega arith
  unused-goes (Ready held items) (heard reply session) h = absurd h
  unused-goes (Ready held items) put_back h = absurd h
  unused-goes (Ready held items) gave_up h = absurd h
  unused-goes (Ready held items) (redialled member_) h = absurd h
  unused-goes (Ready held items) no_memory h = omega arith
  unused-goes (Ready held items) nothing h = absurd h
  unused-goes (Searching held items slot looks) (took taken_) h = absurd h
  unused-goes (Searching held items slot looks) (opened made) h = absurd h
  unused-goes (Searching held items slot looks) (began asked answer session) h = absurd h
  unused-goes (Searching held items slot looks) (heard reply session) h = omega arith
  unused-goes (Searching held items slot looks) put_back h = absurd h
  unused-goes (Searching held items slot looks) gave_up h = absurd h
  unused-goes (Searching held items slot looks) (redialled member_) h = absurd h
  unused-goes (Searching held items slot looks) no_memory h = absurd h
  unused-goes (Searching held items slot looks) nothing h = absurd h
  unused-goes (Presenting held items slot hits) (took taken_) h = absurd h
  unused-goes (Presenting held items slot hits) (opened made) h = absurd h
  unused-goes (Presenting held items slot hits) (began asked start.Started session) h = omega arith
  unused-goes (Presenting held items slot hits) (began asked start.Failed session) h = omega arith
  unused-goes (Presenting held items slot hits) (began asked start.Memory session) h = omega arith
  unused-goes (Presenting held items slot hits) (heard reply session) h = absurd h
  unused-goes (Presenting held items slot hits) put_back h = absurd h
  unused-goes (Presenting held items slot hits) gave_up h = absurd h
  unused-goes (Presenting held items slot hits) (redialled member_) h = absurd h
  unused-goes (Presenting held items slot hits) no_memory h = omega arith
  unused-goes (Presenting held items slot hits) nothing h = absurd h
  unused-goes (Fetching held items slot hits looks) (took taken_) h = absurd h
  unused-goes (Fetching held items slot hits looks) (opened made) h = absurd h
  unused-goes (Fetching held items slot hits looks) (began asked answer session) h = absurd h
  unused-goes (Fetching held items slot hits looks) (heard reply session) h = omega arith
  unused-goes (Fetching held items slot hits looks) put_back h = absurd h
  unused-goes (Fetching held items slot hits looks) gave_up h = absurd h
  unused-goes (Fetching held items slot hits looks) (redialled member_) h = absurd h
  unused-goes (Fetching held items slot hits looks) no_memory h = absurd h
  unused-goes (Fetching held items slot hits looks) nothing h = absurd h
  unused-goes (Scanning held looks) (took taken_) h = absurd h
  unused-goes (Scanning held looks) (opened made) h = absurd h
  unused-goes (Scanning held looks) (began asked answer session) h = absurd h
  unused-goes (Scanning held looks) (heard reply session) h = omega arith
  unused-goes (Scanning held looks) put_back h = absurd h
  unused-goes (Scanning held looks) gave_up h = absurd h
  unused-goes (Scanning held looks) (redialled member_) h = absurd h
  unused-goes (Scanning held looks) no_memory h = absurd h
  unused-goes (Scanning held looks) nothing h = absurd h
  unused-goes (Returning held own) (took taken_) h = absurd h
  unused-goes (Returning held own) (opened made) h = absurd h
  unused-goes (Returning held own) (began asked answer session) h = absurd h
  unused-goes (Returning held own) (heard reply session) h = absurd h
  unused-goes (Returning held own) put_back h = omega arith
  unused-goes (Returning held own) gave_up h = absurd h
  unused-goes (Returning held own) (redialled member_) h = absurd h
  unused-goes (Returning held own) no_memory h = absurd h
  unused-goes (Returning held own) nothing h = absurd h
  unused-goes (Losing seat own) (took taken_) h = absurd h
  unused-goes (Losing seat own) (opened made) h = absurd h
  unused-goes (Losing seat own) (began asked answer session) h = absurd h
  unused-goes (Losing seat own) (heard reply session) h = absurd h
  unused-goes (Losing seat own) put_back h = absurd h
  unused-goes (Losing seat own) gave_up h = omega arith
  unused-goes (Losing seat own) (redialled member_) h = absurd h
  unused-goes (Losing seat own) no_memory h = absurd h
  unused-goes (Losing seat own) nothing h = absurd h
  unused-goes (Redialling seat) (took taken_) h = absurd h
  unused-goes (Redialling seat) (opened made) h = absurd h
  unused-goes (Redialling seat) (began asked answer session) h = absurd h
  unused-goes (Redialling seat) (heard reply session) h = absurd h
  unused-goes (Redialling seat) put_back h = absurd h
  unused-goes (Redialling seat) gave_up h = absurd h
  unused-goes (Redialling seat) (redialled member_) h = omega arith
  unused-goes (Redialling seat) no_memory h = absurd h
  unused-goes (Redialling seat) nothing h = absurd h
  unused-goes (Spoiled seat) (took taken_) h = absurd h
  unused-goes (Spoiled seat) (opened made) h = absurd h
  unused-goes (Spoiled seat) (began asked answer session) h = absurd h
  unused-goes (Spoiled seat) (heard reply session) h = absurd h
  unused-goes (Spoiled seat) put_back h = absurd h
  unused-goes (Spoiled seat) gave_up h = absurd h
  unused-goes (Spoiled seat) (redialled member_) h = absurd h
  unused-goes (Spoiled seat) no_memory h = omega arith
  unused-goes (Spoiled seat) nothing h = absurd h
  unused-goes (Done own) (took taken_) h = absurd h
  unused-goes (Done own) (opened made) h = absurd h
  unused-goes (Done own) (began asked answer session) h = absurd h
  unused-goes (Done own) (heard reply session) h = absurd h
  unused-goes (Done own) put_back h = absurd h
  unused-goes (Done own) gave_up h = absurd h
  unused-goes (Done own) (redialled member_) h = absurd h
  unused-goes (Done own) no_memory h = absurd h
  unused-goes (Done own) nothing h = omega arith
  unused-goes Ended (took taken_) h = absurd h
  unused-goes Ended (opened made) h = absurd h
  unused-goes Ended (began asked answer session) h = absurd h
  unused-goes Ended (heard reply session) h = absurd h
  unused-goes Ended put_back h = absurd h
  unused-goes Ended gave_up h = absurd h
  unused-goes Ended (redialled member_) h = absurd h
  unused-goes Ended no_memory h = omega arith
  unused-goes Ended nothing h = absurd h
