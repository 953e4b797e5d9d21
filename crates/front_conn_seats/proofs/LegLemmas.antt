-- One turn of a leg: each seat that is out is its own, or is out for others
use Rattle.std.proofs.Common.{◌≡◌, ℕ, ◌+◌, ◌-◌, Bool, true, false, cond, List, [], ◌++◌, length, Option, None, Some, option_map, refl, sym, subst, nat_lt, nat_le}
use Rattle.z_types.specs.declared.ask.Ask.{Ask}
use Rattle.z_types.specs.declared.key.SetKey.{SetKey}
use Rattle.z_types.specs.declared.marks.Mark.TheVariants as mark
use Rattle.z_types.specs.declared.records.Item.{Item}
use Rattle.z_types.specs.declared.sitting.Sitting as sitting
use Rattle.z_types.specs.declared.world.World as world
use Rattle.gw_outside.specs.declared.backends.Opening.TheVariants as opening
use Rattle.gw_outside.specs.declared.backends.Began.{Began}
use Rattle.gw_outside.specs.declared.backends.Began.TheVariants as start
use Rattle.gw_outside.specs.declared.backends.Heard.TheVariants as look
use Rattle.pool_sets.specs.Doors.{TakenFits, Takes}
use Rattle.pool_sets.specs.Plain.{Pool, take_of}
use Rattle.pool_sets.specs.Table.{after_forget}
use Rattle.pool_sets.specs.declared.doors.Seat.{Seat}
use Rattle.pool_sets.specs.declared.doors.Taken.{Taken}
use Rattle.pool_sets.specs.declared.doors.Taken.TheVariants as taken
use Rattle.front_conn.specs.leg.Deeds.{BackendView, Deed, took, opened, began, heard, put_back, gave_up, redialled, no_memory, nothing}
use Rattle.front_conn.specs.leg.Phases.{given_up, hold, replied, seat_of, with_sets, with_session}
use Rattle.front_conn.specs.leg.Rules.{Ends, Lack, after_fault, after_first, after_take, answer_of, gone_again, lack_of, left_by, never, always, out_of_range, perhaps, next, next_ask, recorded, unless_silent, with_items, with_set}
use Rattle.front_conn.specs.leg.Tasks.{want_of}
use Rattle.front_conn.specs.leg.Terms.{Terms}
use Rattle.front_conn.specs.leg.Turns.{DoorView, GivesUp, IsAskedIf, IsDue, IsTurn, PoolMoves, lost_seat}
use Rattle.front_conn.specs.leg.declared.accounts.Account.{Account}
use Rattle.front_conn.specs.leg.declared.answers.LegAnswer.TheVariants as answer
use Rattle.front_conn.specs.leg.declared.answers.Turned.{Turned}
use Rattle.front_conn.specs.leg.declared.answers.Turned.TheVariants as turned
use Rattle.front_conn.specs.leg.declared.phases.Held.{Held}
use Rattle.front_conn.specs.leg.declared.phases.Phase.{Phase}
use Rattle.front_conn.specs.leg.declared.phases.Phase.TheVariants.{Begin, Dialling, Dialled, Ready, Searching, Presenting, Fetching, Scanning, Returning, Losing, Redialling, Spoiled, Done, Ended}
use Rattle.front_conn.specs.leg.declared.tasks.Task.{Task}
use Rattle.front_conn.specs.leg.declared.tasks.Task.TheVariants.{Hits, Records, Scan}
use Rattle.front_conn_seats.specs.steps.Seats.{AreOut, AreOutOf, DoesItsTask, IsHeld, held_at, no_seat}
use Rattle.front_conn_seats.proofs.PoolLemmas.{expire-out, lose-out, lost-seat-out, put-back-out, redial-out, seat_in, take-given}

-- ---- where a leg keeps its seat

-- a task that wants a set
abbrev WantsSet : Task → Type 0
WantsSet (Scan scan) = ⊥
WantsSet task = Unit {0}

abbrev WantsRecords : Task → Type 0
WantsRecords (Records key first count syntax element) = Unit {0}
WantsRecords task = ⊥

module _ {S : Type 0} where
  -- it has the seat, and does its task
  pub record Keeps (task : Task) (own : Option Seat) (phase : Phase S) : Type 0 where
    pub seat : seat_of phase ≡ own
    pub does : DoesItsTask phase task

  kept : (task : Task) (own : Option Seat) (phase : Phase S) → seat_of phase ≡ own → DoesItsTask phase task → Keeps task own phase
  kept task own phase seat does = record { seat = seat; does = does }

  fault-keeps : (task : Task) (held : Held S) → Keeps task (Some held.seat) (after_fault held)
  fault-keeps task held = (elim held.given as (λ (b : Bool). Keeps task (Some held.seat) (cond b (Redialling held.seat) (Losing held.seat (answer.Marked mark.Link)))) [
    | true ↦ kept task (Some held.seat) (Redialling held.seat) refl tt
    | false ↦ kept task (Some held.seat) (Losing held.seat (answer.Marked mark.Link)) refl tt
  ])

  silent-keeps : (task : Task) (patience : ℕ) (held : Held S) (looks : ℕ) (again : Phase S) → Keeps task (Some held.seat) again
      → Keeps task (Some held.seat) (unless_silent patience held looks again)
  silent-keeps task patience held looks again h = (elim (nat_le patience looks) as (λ (b : Bool). Keeps task (Some held.seat) (cond b (Losing held.seat (answer.Marked (mark.Silent patience))) again)) [
    | true ↦ kept task (Some held.seat) (Losing held.seat (answer.Marked (mark.Silent patience))) refl tt
    | false ↦ h
  ])

  set-keeps : (task : Task) (held : Held S) (items : List Item) (slot hits : ℕ) → WantsSet task → Keeps task (Some held.seat) (with_set task held items slot hits)
  set-keeps (Hits key) held items slot hits h = kept (Hits key) (Some held.seat) (with_set (Hits key) held items slot hits) refl tt
  set-keeps (Scan scan) held items slot hits h = absurd h
  set-keeps (Records key first count syntax element) held items slot hits h =
      (elim (nat_lt hits (first + (count - 1))) as (λ (b : Bool). Keeps (Records key first count syntax element) (Some held.seat) (cond b (Returning held (answer.Broken items out_of_range)) (Presenting held items slot hits))) [
        | true ↦ kept _ (Some held.seat) (Returning held (answer.Broken items out_of_range)) refl tt
        | false ↦ kept _ (Some held.seat) (Presenting held items slot hits) refl tt
      ])

  recorded-seat : (want : Option SetKey) (slot hits now : ℕ) (held : Held S) → (recorded want slot hits now held).seat ≡ held.seat
  recorded-seat None slot hits now held = refl
  recorded-seat (Some key) slot hits now held = refl

  found-keeps : (task : Task) (held : Held S) (items : List Item) (slot hits now : ℕ) → WantsSet task
      → Keeps task (Some held.seat) (with_set task (recorded (want_of task) slot hits now held) items slot hits)
  found-keeps task held items slot hits now h =
      subst (λ (s : Seat). Keeps task (Some s) (with_set task (recorded (want_of task) slot hits now held) items slot hits))
      (recorded-seat (want_of task) slot hits now held)
      (set-keeps task (recorded (want_of task) slot hits now held) items slot hits h)

  items-keeps : (task : Task) (held : Held S) (items : List Item) (slot hits : ℕ) → WantsRecords task → Keeps task (Some held.seat) (with_items task held items slot hits)
  items-keeps (Hits key) held items slot hits h = absurd h
  items-keeps (Scan scan) held items slot hits h = absurd h
  items-keeps (Records key first count syntax element) held items slot hits h =
      (elim (nat_lt (length items) count) as (λ (b : Bool). Keeps (Records key first count syntax element) (Some held.seat) (cond b (Presenting held items slot hits) (Returning held (answer.Items items)))) [
        | true ↦ kept _ (Some held.seat) (Presenting held items slot hits) refl tt
        | false ↦ kept _ (Some held.seat) (Returning held (answer.Items items)) refl tt
      ])

  gone-keeps : (task : Task) (repeats gones : ℕ) (held : Held S) (items : List Item) → Keeps task (Some held.seat) (gone_again repeats gones held items)
  gone-keeps task repeats gones held items = (elim (nat_le gones repeats) as (λ (b : Bool). Keeps task (Some held.seat) (cond b (Ready held items) (Returning held (answer.Marked mark.Gone)))) [
    | true ↦ kept task (Some held.seat) (Ready held items) refl tt
    | false ↦ kept task (Some held.seat) (Returning held (answer.Marked mark.Gone)) refl tt
  ])

  first-keeps : (task : Task) (held : Held S) (items : List Item) (session : S) → Keeps task (Some held.seat) (after_first task held items start.Started session)
  first-keeps (Hits key) held items session = kept _ (Some held.seat) (after_first (Hits key) held items start.Started session) refl tt
  first-keeps (Scan scan) held items session = kept _ (Some held.seat) (after_first (Scan scan) held items start.Started session) refl tt
  first-keeps (Records key first count syntax element) held items session =
      kept _ (Some held.seat) (after_first (Records key first count syntax element) held items start.Started session) refl tt

  -- what its phase says of its task
  wants-set : (task : Task) (held : Held S) (items : List Item) (slot looks : ℕ) → DoesItsTask (Searching held items slot looks) task → WantsSet task
  wants-set (Hits key) held items slot looks h = tt
  wants-set (Scan scan) held items slot looks h = absurd h
  wants-set (Records key first count syntax element) held items slot looks h = tt

  wants-records : (task : Task) (held : Held S) (items : List Item) (slot hits looks : ℕ) → DoesItsTask (Fetching held items slot hits looks) task → WantsRecords task
  wants-records (Hits key) held items slot hits looks h = absurd h
  wants-records (Scan scan) held items slot hits looks h = absurd h
  wants-records (Records key first count syntax element) held items slot hits looks h = tt

  does-search : (task : Task) (held : Held S) (items : List Item) (slot looks : ℕ) → WantsSet task → DoesItsTask (Searching held items slot looks) task
  does-search (Hits key) held items slot looks h = tt
  does-search (Scan scan) held items slot looks h = absurd h
  does-search (Records key first count syntax element) held items slot looks h = tt

  does-fetch : (task : Task) (held : Held S) (items : List Item) (slot hits looks : ℕ) → WantsRecords task → DoesItsTask (Fetching held items slot hits looks) task
  does-fetch (Hits key) held items slot hits looks h = absurd h
  does-fetch (Scan scan) held items slot hits looks h = absurd h
  does-fetch (Records key first count syntax element) held items slot hits looks h = tt

module _ {W S : Type 0} (w : world.Ghosts W) (t : sitting.Ghosts S W) where
  -- records are asked for where they are wanted
  asked-records : (task : Task) (items : List Item) (slot : ℕ) (asked : Ask) (before after : S) (answer : Began)
      → IsAskedIf w t (next_ask task items slot) asked before after answer → WantsRecords task
  asked-records (Hits key) items slot asked before after answer h = absurd h
  asked-records (Scan scan) items slot asked before after answer h = absurd h
  asked-records (Records key first count syntax element) items slot asked before after answer h = tt

  -- a set is given where one is wanted
  given-set : (task : Task) (class : ℕ) (at_ : List _) (login : Option (List ℕ)) (most : ℕ) (seat : Seat) (parts : _) (slot hits : ℕ)
      → TakenFits w t class at_ login (want_of task) most (taken.Reuse seat parts slot hits) → WantsSet task
  given-set (Hits key) class at_ login most seat parts slot hits h = tt
  given-set (Scan scan) class at_ login most seat parts slot hits h = absurd h.1
  given-set (Records key first count syntax element) class at_ login most seat parts slot hits h = tt

-- ---- one deed

module _ {W S : Type 0} (w : world.Ghosts W) (t : sitting.Ghosts S W) (terms : Terms) (most : ℕ) (task : Task) (now gones : ℕ)
    (others : Seat → ℕ) (p : Pool S) (behind : Option (Pool S)) where
  -- the leg holds what is out, behind it
  abbrev Holds : Phase S → Type 0
  Holds phase = IsHeld phase task others behind

  -- where the rules lead, and what is left for want of memory, where the deed may lack it
  abbrev Both : (old : Phase S) (deed : Deed S) → Type 0
  Both old deed = Holds (next terms task now gones old deed) × ((lack_of deed ≡ never → ⊥) → Holds (left_by old deed))

  holds : (own : Option Seat) (phase : Phase S) → Keeps task own phase → AreOutOf (held_at own) others behind → Holds phase
  holds own phase k h = record {
    tasks = k.does;
    out = subst (λ (o : Option Seat). AreOutOf (held_at o) others behind) (sym k.seat) h;
  }

  -- the pool is as it was
  still : (own : Option Seat) (wanted left : Phase S) (lacks : Type 0) → behind ≡ Some p → AreOut (held_at own) others p → Keeps task own wanted → Keeps task own left
      → Holds wanted × (lacks → Holds left)
  still own wanted left lacks e h k l =
      let there = subst (λ (q : Option (Pool S)). AreOutOf (held_at own) others q) (sym e) h in
      (holds own wanted k there, λ x. holds own left l there)

  -- ---- a take

  taken-out : (answer : Taken S) (q : Pool S) → (answer, q) ≡ take_of terms.class terms.at terms.login (want_of task) now p → AreOut no_seat others p
      → AreOut (held_at (seat_in answer)) others q
  taken-out answer q e h =
      subst (λ (r : Taken S × Pool S). AreOut (held_at (seat_in r.0)) others r.1) (sym e)
      (take-given terms.class terms.at terms.login (want_of task) now others p h)

  took-out : (answer : Taken S) (q : Option (Pool S)) → Takes (Some p) q terms.class terms.at terms.login (want_of task) now answer → AreOut no_seat others p
      → AreOutOf (held_at (seat_in answer)) others q
  took-out answer None k h = absurd k
  took-out taken.Memory (Some q) k h = subst (λ (r : Pool S). AreOut (held_at None) others r) (sym k) (expire-out now no_seat others p h)
  took-out (taken.Reuse seat parts slot hits) (Some q) k h = taken-out (taken.Reuse seat parts slot hits) q k h
  took-out (taken.Fresh seat parts) (Some q) k h = taken-out (taken.Fresh seat parts) q k h
  took-out (taken.Dial seat member) (Some q) k h = taken-out (taken.Dial seat member) q k h
  took-out (taken.Full open_) (Some q) k h = taken-out (taken.Full open_) q k h

  take-both : (answer : Taken S) → TakenFits w t terms.class terms.at terms.login (want_of task) most answer
      → Takes (Some p) behind terms.class terms.at terms.login (want_of task) now answer → AreOut no_seat others p → Both Begin (took answer)
  take-both (taken.Reuse seat parts slot hits) d k h =
      let there = took-out (taken.Reuse seat parts slot hits) behind k h in (
        holds (Some seat) _ (set-keeps task (hold seat parts true) [] slot hits (given-set w t task terms.class terms.at terms.login most seat parts slot hits d)) there,
        λ x. holds (Some seat) (Spoiled seat) (kept task (Some seat) (Spoiled seat) refl tt) there,
      )
  take-both (taken.Fresh seat parts) d k h = (
    holds (Some seat) _ (kept task (Some seat) (Ready (hold seat parts true) []) refl tt) (took-out (taken.Fresh seat parts) behind k h),
    λ x. absurd (x refl),
  )
  take-both (taken.Dial seat member) d k h = (
    holds (Some seat) _ (kept task (Some seat) (Dialling seat member) refl tt) (took-out (taken.Dial seat member) behind k h),
    λ x. absurd (x refl),
  )
  take-both (taken.Full open_) d k h = (
    holds None _ (kept task None (after_take task (taken.Full open_)) refl tt) (took-out (taken.Full open_) behind k h),
    λ x. absurd (x refl),
  )
  take-both taken.Memory d k h =
      let there = took-out taken.Memory behind k h in
      (holds None Begin (kept task None Begin refl tt) there, λ x. holds None Begin (kept task None Begin refl tt) there)

  -- ---- each phase

  pub deed-both : (old : Phase S) (deed : Deed S) → IsDue w t terms most task old deed → DoesItsTask old task
      → PoolMoves terms task now old deed (Some p) behind → AreOut (held_at (seat_of old)) others p → Both old deed
  deed-both Begin (took taken_) d does k h = take-both taken_ d k h
  deed-both Begin (opened made) d does k h = absurd d
  deed-both Begin (began asked answer session) d does k h = absurd d
  deed-both Begin (heard reply session) d does k h = absurd d
  deed-both Begin put_back d does k h = absurd d
  deed-both Begin gave_up d does k h = absurd d
  deed-both Begin (redialled member_) d does k h = absurd d
  deed-both Begin no_memory d does k h = absurd d
  deed-both Begin nothing d does k h = absurd d
  deed-both (Dialling seat member) (took taken_) d does k h = absurd d
  deed-both (Dialling seat member) (opened (opening.Session session)) d does k h = still (Some seat) _ _ _ k h (kept task (Some seat) _ refl tt) (kept task (Some seat) _ refl tt)
  deed-both (Dialling seat member) (opened (opening.Failed linked)) d does k h = still (Some seat) _ _ _ k h (kept task (Some seat) _ refl tt) (kept task (Some seat) _ refl tt)
  deed-both (Dialling seat member) (opened opening.Memory) d does k h = still (Some seat) _ _ _ k h (kept task (Some seat) _ refl tt) (kept task (Some seat) _ refl tt)
  deed-both (Dialling seat member) (began asked answer session) d does k h = absurd d
  deed-both (Dialling seat member) (heard reply session) d does k h = absurd d
  deed-both (Dialling seat member) put_back d does k h = absurd d
  deed-both (Dialling seat member) gave_up d does k h = absurd d
  deed-both (Dialling seat member) (redialled member_) d does k h = absurd d
  deed-both (Dialling seat member) no_memory d does k h = still (Some seat) _ _ _ k h (kept task (Some seat) _ refl tt) (kept task (Some seat) _ refl tt)
  deed-both (Dialling seat member) nothing d does k h = absurd d
  deed-both (Dialled held looks) (took taken_) d does k h = absurd d
  deed-both (Dialled held looks) (opened made) d does k h = absurd d
  deed-both (Dialled held looks) (began asked answer session) d does k h = absurd d
  deed-both (Dialled held looks) (heard look.Opened session) d does k h = still (Some held.seat) _ _ _ k h (kept task (Some held.seat) _ refl tt) (kept task (Some held.seat) _ refl tt)
  deed-both (Dialled held looks) (heard (look.Hits found) session) d does k h = still (Some held.seat) _ _ _ k h (kept task (Some held.seat) _ refl tt) (kept task (Some held.seat) _ refl tt)
  deed-both (Dialled held looks) (heard (look.Refused diag) session) d does k h = still (Some held.seat) _ _ _ k h (kept task (Some held.seat) _ refl tt) (kept task (Some held.seat) _ refl tt)
  deed-both (Dialled held looks) (heard (look.Items more) session) d does k h = still (Some held.seat) _ _ _ k h (kept task (Some held.seat) _ refl tt) (kept task (Some held.seat) _ refl tt)
  deed-both (Dialled held looks) (heard look.Gone session) d does k h = still (Some held.seat) _ _ _ k h (kept task (Some held.seat) _ refl tt) (kept task (Some held.seat) _ refl tt)
  deed-both (Dialled held looks) (heard (look.Scanned entries) session) d does k h = still (Some held.seat) _ _ _ k h (kept task (Some held.seat) _ refl tt) (kept task (Some held.seat) _ refl tt)
  deed-both (Dialled held looks) (heard look.NotYet session) d does k h = still (Some held.seat) _ _ _ k h (silent-keeps task terms.pool.patience held (looks + 1) (Dialled (with_session session held) (looks + 1)) (kept task (Some held.seat) (Dialled (with_session session held) (looks + 1)) refl tt)) (kept task (Some held.seat) _ refl tt)
  deed-both (Dialled held looks) (heard look.Failed session) d does k h = still (Some held.seat) _ _ _ k h (fault-keeps task held) (kept task (Some held.seat) _ refl tt)
  deed-both (Dialled held looks) (heard look.Memory session) d does k h = still (Some held.seat) _ _ _ k h (kept task (Some held.seat) _ refl tt) (kept task (Some held.seat) _ refl tt)
  deed-both (Dialled held looks) put_back d does k h = absurd d
  deed-both (Dialled held looks) gave_up d does k h = absurd d
  deed-both (Dialled held looks) (redialled member_) d does k h = absurd d
  deed-both (Dialled held looks) no_memory d does k h = absurd d
  deed-both (Dialled held looks) nothing d does k h = absurd d
  deed-both (Ready held items) (took taken_) d does k h = absurd d
  deed-both (Ready held items) (opened made) d does k h = absurd d
  deed-both (Ready held items) (began asked start.Started session) d does k h = still (Some held.seat) _ _ _ k h (first-keeps task held items session) (kept task (Some held.seat) _ refl tt)
  deed-both (Ready held items) (began asked start.Failed session) d does k h = still (Some held.seat) _ _ _ k h (fault-keeps task held) (kept task (Some held.seat) _ refl tt)
  deed-both (Ready held items) (began asked start.Memory session) d does k h = still (Some held.seat) _ _ _ k h (kept task (Some held.seat) _ refl tt) (kept task (Some held.seat) _ refl tt)
  deed-both (Ready held items) (heard reply session) d does k h = absurd d
  deed-both (Ready held items) put_back d does k h = absurd d
  deed-both (Ready held items) gave_up d does k h = absurd d
  deed-both (Ready held items) (redialled member_) d does k h = absurd d
  deed-both (Ready held items) no_memory d does k h = still (Some held.seat) _ _ _ k h (kept task (Some held.seat) _ refl tt) (kept task (Some held.seat) _ refl tt)
  deed-both (Ready held items) nothing d does k h = absurd d
  deed-both (Searching held items slot looks) (took taken_) d does k h = absurd d
  deed-both (Searching held items slot looks) (opened made) d does k h = absurd d
  deed-both (Searching held items slot looks) (began asked answer session) d does k h = absurd d
  deed-both (Searching held items slot looks) (heard look.Opened session) d does k h = still (Some held.seat) _ _ _ k h (kept task (Some held.seat) _ refl tt) (kept task (Some held.seat) _ refl tt)
  deed-both (Searching held items slot looks) (heard (look.Hits found) session) d does k h = still (Some held.seat) _ _ _ k h (found-keeps task (replied session held) items slot found now (wants-set task held items slot looks does)) (kept task (Some held.seat) _ refl tt)
  deed-both (Searching held items slot looks) (heard (look.Refused diag) session) d does k h = still (Some held.seat) _ _ _ k h (kept task (Some held.seat) _ refl tt) (kept task (Some held.seat) _ refl tt)
  deed-both (Searching held items slot looks) (heard (look.Items more) session) d does k h = still (Some held.seat) _ _ _ k h (kept task (Some held.seat) _ refl tt) (kept task (Some held.seat) _ refl tt)
  deed-both (Searching held items slot looks) (heard look.Gone session) d does k h = still (Some held.seat) _ _ _ k h (kept task (Some held.seat) _ refl tt) (kept task (Some held.seat) _ refl tt)
  deed-both (Searching held items slot looks) (heard (look.Scanned entries) session) d does k h = still (Some held.seat) _ _ _ k h (kept task (Some held.seat) _ refl tt) (kept task (Some held.seat) _ refl tt)
  deed-both (Searching held items slot looks) (heard look.NotYet session) d does k h = still (Some held.seat) _ _ _ k h (silent-keeps task terms.pool.patience held (looks + 1) (Searching (with_session session held) items slot (looks + 1)) (kept task (Some held.seat) (Searching (with_session session held) items slot (looks + 1)) refl (does-search task (with_session session held) items slot (looks + 1) (wants-set task held items slot looks does)))) (kept task (Some held.seat) _ refl tt)
  deed-both (Searching held items slot looks) (heard look.Failed session) d does k h = still (Some held.seat) _ _ _ k h (fault-keeps task held) (kept task (Some held.seat) _ refl tt)
  deed-both (Searching held items slot looks) (heard look.Memory session) d does k h = still (Some held.seat) _ _ _ k h (kept task (Some held.seat) _ refl tt) (kept task (Some held.seat) _ refl tt)
  deed-both (Searching held items slot looks) put_back d does k h = absurd d
  deed-both (Searching held items slot looks) gave_up d does k h = absurd d
  deed-both (Searching held items slot looks) (redialled member_) d does k h = absurd d
  deed-both (Searching held items slot looks) no_memory d does k h = absurd d
  deed-both (Searching held items slot looks) nothing d does k h = absurd d
  deed-both (Presenting held items slot hits) (took taken_) d does k h = absurd d
  deed-both (Presenting held items slot hits) (opened made) d does k h = absurd d
  deed-both (Presenting held items slot hits) (began asked start.Started session) d does k h = still (Some held.seat) _ _ _ k h (kept task (Some held.seat) _ refl (does-fetch task (with_session session held) items slot hits 0 (asked-records w t task items slot asked held.parts.session session start.Started d))) (kept task (Some held.seat) _ refl tt)
  deed-both (Presenting held items slot hits) (began asked start.Failed session) d does k h = still (Some held.seat) _ _ _ k h (fault-keeps task held) (kept task (Some held.seat) _ refl tt)
  deed-both (Presenting held items slot hits) (began asked start.Memory session) d does k h = still (Some held.seat) _ _ _ k h (kept task (Some held.seat) _ refl tt) (kept task (Some held.seat) _ refl tt)
  deed-both (Presenting held items slot hits) (heard reply session) d does k h = absurd d
  deed-both (Presenting held items slot hits) put_back d does k h = absurd d
  deed-both (Presenting held items slot hits) gave_up d does k h = absurd d
  deed-both (Presenting held items slot hits) (redialled member_) d does k h = absurd d
  deed-both (Presenting held items slot hits) no_memory d does k h = still (Some held.seat) _ _ _ k h (kept task (Some held.seat) _ refl tt) (kept task (Some held.seat) _ refl tt)
  deed-both (Presenting held items slot hits) nothing d does k h = absurd d
  deed-both (Fetching held items slot hits looks) (took taken_) d does k h = absurd d
  deed-both (Fetching held items slot hits looks) (opened made) d does k h = absurd d
  deed-both (Fetching held items slot hits looks) (began asked answer session) d does k h = absurd d
  deed-both (Fetching held items slot hits looks) (heard look.Opened session) d does k h = still (Some held.seat) _ _ _ k h (kept task (Some held.seat) _ refl tt) (kept task (Some held.seat) _ refl tt)
  deed-both (Fetching held items slot hits looks) (heard (look.Hits found) session) d does k h = still (Some held.seat) _ _ _ k h (kept task (Some held.seat) _ refl tt) (kept task (Some held.seat) _ refl tt)
  deed-both (Fetching held items slot hits looks) (heard (look.Refused diag) session) d does k h = still (Some held.seat) _ _ _ k h (kept task (Some held.seat) _ refl tt) (kept task (Some held.seat) _ refl tt)
  deed-both (Fetching held items slot hits looks) (heard (look.Items more) session) d does k h = still (Some held.seat) _ _ _ k h (items-keeps task (replied session held) (items ++ more) slot hits (wants-records task held items slot hits looks does)) (kept task (Some held.seat) _ refl tt)
  deed-both (Fetching held items slot hits looks) (heard look.Gone session) d does k h = still (Some held.seat) _ _ _ k h (gone-keeps task terms.pool.repeats gones (with_sets (after_forget slot held.parts.table) (replied session held)) items) (kept task (Some held.seat) _ refl tt)
  deed-both (Fetching held items slot hits looks) (heard (look.Scanned entries) session) d does k h = still (Some held.seat) _ _ _ k h (kept task (Some held.seat) _ refl tt) (kept task (Some held.seat) _ refl tt)
  deed-both (Fetching held items slot hits looks) (heard look.NotYet session) d does k h = still (Some held.seat) _ _ _ k h (silent-keeps task terms.pool.patience held (looks + 1) (Fetching (with_session session held) items slot hits (looks + 1)) (kept task (Some held.seat) (Fetching (with_session session held) items slot hits (looks + 1)) refl (does-fetch task (with_session session held) items slot hits (looks + 1) (wants-records task held items slot hits looks does)))) (kept task (Some held.seat) _ refl tt)
  deed-both (Fetching held items slot hits looks) (heard look.Failed session) d does k h = still (Some held.seat) _ _ _ k h (fault-keeps task held) (kept task (Some held.seat) _ refl tt)
  deed-both (Fetching held items slot hits looks) (heard look.Memory session) d does k h = still (Some held.seat) _ _ _ k h (kept task (Some held.seat) _ refl tt) (kept task (Some held.seat) _ refl tt)
  deed-both (Fetching held items slot hits looks) put_back d does k h = absurd d
  deed-both (Fetching held items slot hits looks) gave_up d does k h = absurd d
  deed-both (Fetching held items slot hits looks) (redialled member_) d does k h = absurd d
  deed-both (Fetching held items slot hits looks) no_memory d does k h = absurd d
  deed-both (Fetching held items slot hits looks) nothing d does k h = absurd d
  deed-both (Scanning held looks) (took taken_) d does k h = absurd d
  deed-both (Scanning held looks) (opened made) d does k h = absurd d
  deed-both (Scanning held looks) (began asked answer session) d does k h = absurd d
  deed-both (Scanning held looks) (heard look.Opened session) d does k h = still (Some held.seat) _ _ _ k h (kept task (Some held.seat) _ refl tt) (kept task (Some held.seat) _ refl tt)
  deed-both (Scanning held looks) (heard (look.Hits found) session) d does k h = still (Some held.seat) _ _ _ k h (kept task (Some held.seat) _ refl tt) (kept task (Some held.seat) _ refl tt)
  deed-both (Scanning held looks) (heard (look.Refused diag) session) d does k h = still (Some held.seat) _ _ _ k h (kept task (Some held.seat) _ refl tt) (kept task (Some held.seat) _ refl tt)
  deed-both (Scanning held looks) (heard (look.Items more) session) d does k h = still (Some held.seat) _ _ _ k h (kept task (Some held.seat) _ refl tt) (kept task (Some held.seat) _ refl tt)
  deed-both (Scanning held looks) (heard look.Gone session) d does k h = still (Some held.seat) _ _ _ k h (kept task (Some held.seat) _ refl tt) (kept task (Some held.seat) _ refl tt)
  deed-both (Scanning held looks) (heard (look.Scanned entries) session) d does k h = still (Some held.seat) _ _ _ k h (kept task (Some held.seat) _ refl tt) (kept task (Some held.seat) _ refl tt)
  deed-both (Scanning held looks) (heard look.NotYet session) d does k h = still (Some held.seat) _ _ _ k h (silent-keeps task terms.pool.patience held (looks + 1) (Scanning (with_session session held) (looks + 1)) (kept task (Some held.seat) (Scanning (with_session session held) (looks + 1)) refl tt)) (kept task (Some held.seat) _ refl tt)
  deed-both (Scanning held looks) (heard look.Failed session) d does k h = still (Some held.seat) _ _ _ k h (fault-keeps task held) (kept task (Some held.seat) _ refl tt)
  deed-both (Scanning held looks) (heard look.Memory session) d does k h = still (Some held.seat) _ _ _ k h (kept task (Some held.seat) _ refl tt) (kept task (Some held.seat) _ refl tt)
  deed-both (Scanning held looks) put_back d does k h = absurd d
  deed-both (Scanning held looks) gave_up d does k h = absurd d
  deed-both (Scanning held looks) (redialled member_) d does k h = absurd d
  deed-both (Scanning held looks) no_memory d does k h = absurd d
  deed-both (Scanning held looks) nothing d does k h = absurd d
  deed-both (Returning held own) (took taken_) d does k h = absurd d
  deed-both (Returning held own) (opened made) d does k h = absurd d
  deed-both (Returning held own) (began asked answer session) d does k h = absurd d
  deed-both (Returning held own) (heard reply session) d does k h = absurd d
  deed-both (Returning held own) put_back d does k h = (holds None _ (kept task None _ refl tt) (subst (λ (q : Option (Pool S)). AreOutOf no_seat others q) (sym k) (put-back-out held.seat held.parts now others p h)), λ x. absurd (x refl))
  deed-both (Returning held own) gave_up d does k h = absurd d
  deed-both (Returning held own) (redialled member_) d does k h = absurd d
  deed-both (Returning held own) no_memory d does k h = absurd d
  deed-both (Returning held own) nothing d does k h = absurd d
  deed-both (Losing seat own) (took taken_) d does k h = absurd d
  deed-both (Losing seat own) (opened made) d does k h = absurd d
  deed-both (Losing seat own) (began asked answer session) d does k h = absurd d
  deed-both (Losing seat own) (heard reply session) d does k h = absurd d
  deed-both (Losing seat own) put_back d does k h = absurd d
  deed-both (Losing seat own) gave_up d does k h = (holds None _ (kept task None _ refl tt) (subst (λ (q : Option (Pool S)). AreOutOf no_seat others q) (sym k) (lose-out seat others p h)), λ x. absurd (x refl))
  deed-both (Losing seat own) (redialled member_) d does k h = absurd d
  deed-both (Losing seat own) no_memory d does k h = absurd d
  deed-both (Losing seat own) nothing d does k h = absurd d
  deed-both (Redialling seat) (took taken_) d does k h = absurd d
  deed-both (Redialling seat) (opened made) d does k h = absurd d
  deed-both (Redialling seat) (began asked answer session) d does k h = absurd d
  deed-both (Redialling seat) (heard reply session) d does k h = absurd d
  deed-both (Redialling seat) put_back d does k h = absurd d
  deed-both (Redialling seat) gave_up d does k h = absurd d
  deed-both (Redialling seat) (redialled member_) d does k h = (holds (Some seat) _ (kept task (Some seat) _ refl tt) (subst (λ (q : Option (Pool S)). AreOutOf (held_at (Some seat)) others q) (sym k.1) (redial-out seat terms.at (held_at (Some seat)) others p h)), λ x. absurd (x refl))
  deed-both (Redialling seat) no_memory d does k h = absurd d
  deed-both (Redialling seat) nothing d does k h = absurd d
  deed-both (Spoiled seat) (took taken_) d does k h = absurd d
  deed-both (Spoiled seat) (opened made) d does k h = absurd d
  deed-both (Spoiled seat) (began asked answer session) d does k h = absurd d
  deed-both (Spoiled seat) (heard reply session) d does k h = absurd d
  deed-both (Spoiled seat) put_back d does k h = absurd d
  deed-both (Spoiled seat) gave_up d does k h = absurd d
  deed-both (Spoiled seat) (redialled member_) d does k h = absurd d
  deed-both (Spoiled seat) no_memory d does k h = still (Some seat) _ _ _ k h (kept task (Some seat) _ refl tt) (kept task (Some seat) _ refl tt)
  deed-both (Spoiled seat) nothing d does k h = absurd d
  deed-both (Done own) (took taken_) d does k h = absurd d
  deed-both (Done own) (opened made) d does k h = absurd d
  deed-both (Done own) (began asked answer session) d does k h = absurd d
  deed-both (Done own) (heard reply session) d does k h = absurd d
  deed-both (Done own) put_back d does k h = absurd d
  deed-both (Done own) gave_up d does k h = absurd d
  deed-both (Done own) (redialled member_) d does k h = absurd d
  deed-both (Done own) no_memory d does k h = absurd d
  deed-both (Done own) nothing d does k h = still None _ _ _ k h (kept task None _ refl tt) (kept task None _ refl tt)
  deed-both Ended (took taken_) d does k h = absurd d
  deed-both Ended (opened made) d does k h = absurd d
  deed-both Ended (began asked answer session) d does k h = absurd d
  deed-both Ended (heard reply session) d does k h = absurd d
  deed-both Ended put_back d does k h = absurd d
  deed-both Ended gave_up d does k h = absurd d
  deed-both Ended (redialled member_) d does k h = absurd d
  deed-both Ended no_memory d does k h = still None _ _ _ k h (kept task None _ refl tt) (kept task None _ refl tt)
  deed-both Ended nothing d does k h = absurd d

-- ---- one turn

module _ {W S : Type 0} (w : world.Ghosts W) (t : sitting.Ghosts S W) (task : Task) (others : Seat → ℕ) (behind : Option (Pool S)) where
  -- where the leg stands behind it
  ends-held : (lack : Lack) (wanted left new : Phase S) (said answer : Turned) → IsHeld wanted task others behind
      → ((lack ≡ never → ⊥) → IsHeld left task others behind) → Ends lack wanted left said answer new → IsHeld new task others behind
  ends-held never wanted left new said answer h l e = subst (λ (x : Phase S). IsHeld x task others behind) (sym e.0) h
  ends-held always wanted left new said answer h l e =
      subst (λ (x : Phase S). IsHeld x task others behind) (sym e.0) (l (λ f. let wrong : always ≡ never = f in absurd cc))
  ends-held perhaps wanted left new said turned.Memory h l e =
      subst (λ (x : Phase S). IsHeld x task others behind) (sym e) (l (λ f. let wrong : perhaps ≡ never = f in absurd cc))
  ends-held perhaps wanted left new said turned.Went h l e = subst (λ (x : Phase S). IsHeld x task others behind) (sym e.0) h
  ends-held perhaps wanted left new said turned.NotYet h l e = subst (λ (x : Phase S). IsHeld x task others behind) (sym e.0) h
  ends-held perhaps wanted left new said turned.Done h l e = subst (λ (x : Phase S). IsHeld x task others behind) (sym e.0) h

module _ {W S : Type 0} (w : world.Ghosts W) (t : sitting.Ghosts S W) where
  turn-told : (exact : Bool) (terms : Terms) (task : Task) (now : ℕ) (old new : Phase S) (a b : Account) (answer : Turned) (door after : DoorView S)
      (backend moved : BackendView) (others : Seat → ℕ) (pool : Option (Pool S)) → door.pool ≡ pool
      → IsTurn w t exact terms task now old new a b answer door after backend moved
      → IsHeld old task others pool → IsHeld new task others after.pool
  turn-told exact terms task now old new a b answer door after backend moved others None e h held = absurd held.out
  turn-told exact terms task now old new a b answer door after backend moved others (Some p) e h held =
      let both = deed-both w t terms door.counts.most task now b.gones others p after.pool old h.deed h.due held.tasks
      (subst (λ (q : Option (Pool S)). PoolMoves terms task now old h.deed q after.pool) e h.pool) held.out in
      ends-held w t task others after.pool (lack_of h.deed) _ _ new (answer_of h.deed new) answer both.0 both.1 h.goes

  pub turn-keeps : (exact : Bool) (terms : Terms) (task : Task) (now : ℕ) (old new : Phase S) (a b : Account) (answer : Turned)
      (door after : DoorView S) (backend moved : BackendView) (others : Seat → ℕ)
      → IsTurn w t exact terms task now old new a b answer door after backend moved
      → IsHeld old task others door.pool → IsHeld new task others after.pool
  turn-keeps exact terms task now old new a b answer door after backend moved others h held =
      turn-told exact terms task now old new a b answer door after backend moved others door.pool refl h held

-- ---- a leg that is given up

module _ {S : Type 0} where
  seat-lost : (own : Option Seat) (others : Seat → ℕ) (before : Option (Pool S)) → AreOutOf (held_at own) others before
      → AreOutOf no_seat others (option_map (lost_seat own) before)
  seat-lost own others None h = absurd h
  seat-lost own others (Some p) h = lost-seat-out own others p h

  pub gave-up : (task : Task) (phase : Phase S) → Keeps task None (given_up phase)
  gave-up task Begin = kept task None _ refl tt
  gave-up task (Dialling seat member) = kept task None _ refl tt
  gave-up task (Dialled held looks) = kept task None _ refl tt
  gave-up task (Ready held items) = kept task None _ refl tt
  gave-up task (Searching held items slot looks) = kept task None _ refl tt
  gave-up task (Presenting held items slot hits) = kept task None _ refl tt
  gave-up task (Fetching held items slot hits looks) = kept task None _ refl tt
  gave-up task (Scanning held looks) = kept task None _ refl tt
  gave-up task (Returning held own) = kept task None _ refl tt
  gave-up task (Losing seat own) = kept task None _ refl tt
  gave-up task (Redialling seat) = kept task None _ refl tt
  gave-up task (Spoiled seat) = kept task None _ refl tt
  gave-up task (Done own) = kept task None _ refl tt
  gave-up task Ended = kept task None _ refl tt

  pub leg-gives-back : (task : Task) (phase : Phase S) (before behind : Option (Pool S)) (others : Seat → ℕ)
      → GivesUp phase before behind → IsHeld phase task others before → IsHeld (given_up phase) task others behind × AreOutOf no_seat others behind
  leg-gives-back task phase before behind others e h =
      let k = gave-up task phase in
      let there = subst (λ (q : Option (Pool S)). AreOutOf no_seat others q) (sym e) (seat-lost (seat_of phase) others before h.out) in
      (record { tasks = k.does; out = subst (λ (o : Option Seat). AreOutOf (held_at o) others behind) (sym k.seat) there }, there)
