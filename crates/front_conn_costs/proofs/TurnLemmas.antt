-- One turn of a leg: its account rises as its backend's and its door's counts do
use Rattle.std.proofs.Common.{◌≡◌, ◌∙◌, ◌⊎◌, ℕ, ◌+◌, ◌-◌, ◌&&◌, ◌≤◌, ◌^◌, min, Bool, true, false, not, inl, inr, Option, refl, sym, ap, subst, arith}
use Rattle.z_types.specs.Bounds.{within64}
use Rattle.z_types.specs.Counts.{one_more}
use Rattle.z_types.specs.declared.key.SetKey.{SetKey}
use Rattle.z_types.specs.declared.sitting.Sitting as sitting
use Rattle.z_types.specs.declared.world.World as world
use Rattle.gw_outside.specs.Counts.{Counts, Counted, BackendCounts}
use Rattle.gw_outside.specs.Sessions.{heard_counted, open_counted, start_counted}
use Rattle.gw_outside.specs.declared.backends.Began.TheVariants as start
use Rattle.gw_outside.specs.declared.backends.Heard.TheVariants as look
use Rattle.gw_outside.specs.declared.backends.Opening.TheVariants as opening
use Rattle.pool_sets.specs.Counts.{DoorCounts, is_booked, is_dial, is_full}
use Rattle.pool_sets.specs.declared.doors.Taken.TheVariants as taken
use Rattle.front_conn.specs.leg.declared.accounts.Account.{Account}
use Rattle.front_conn.specs.leg.declared.accounts.Rises.{Rises}
use Rattle.front_conn.specs.leg.declared.answers.Turned.{Turned}
use Rattle.front_conn.specs.leg.declared.answers.Turned.TheVariants as turned
use Rattle.front_conn.specs.leg.declared.phases.Phase.{Phase}
use Rattle.front_conn.specs.leg.declared.phases.Phase.TheVariants.{Begin, Dialling, Dialled, Ready, Searching, Presenting, Fetching, Scanning, Returning, Losing, Redialling, Spoiled, Done, Ended}
use Rattle.front_conn.specs.leg.declared.tasks.Task.{Task}
use Rattle.front_conn.specs.leg.Accounts.{counted, more, no_rises, rises_by}
use Rattle.front_conn.specs.leg.Deeds.{Deed, took, opened, began, heard, put_back, gave_up, redialled, no_memory, nothing, rises_of, waits, door_counts, BackendView, CountsMove}
use Rattle.front_conn.specs.leg.Phases.{is_done}
use Rattle.front_conn.specs.leg.Rules.{Ends, Lack, always, answer_of, lack_of, left_by, next}
use Rattle.front_conn.specs.leg.Tasks.{want_of}
use Rattle.front_conn.specs.leg.Terms.{Terms}
use Rattle.front_conn.specs.leg.Turns.{DoorView, IsTurn}
use Rattle.front_conn_costs.specs.steps.Growth.{RisesAsMuch, RisesEnough}
use Rattle.front_conn_costs.specs.steps.Numbers.{Number, dials, searches, gones, faults, in_account, in_counts, IsTold, Caused, link, silent, gone, full, met_by, met_outside}
use Rattle.front_conn_costs.proofs.GrowthLemmas.{as-one, enough-one}

-- ---- what is summed

-- which number rises
abbrev rise : Number → Rises → Bool
rise dials r = r.dials
rise searches r = r.searches
rise gones r = r.gones
rise faults r = r.faults

account-rises : (n : Number) (class : ℕ) (r : Rises) (given : Bool) (looks : ℕ) (a : Account)
    → in_account n (counted class r given looks a) ≡ more (rise n r) (in_account n a)
account-rises dials class r given looks a = refl
account-rises searches class r given looks a = refl
account-rises gones class r given looks a = refl
account-rises faults class r given looks a = refl

-- a call of the backend
call-rises : (n : Number) (exact : Bool) (told : Type 0) (call : Counted) (old new : Counts) → BackendCounts exact told call old new
    → IsTold exact n → in_counts n new ≡ one_more (rise n (rises_by call)) (in_counts n old)
call-rises dials exact told call old new h is = ap (λ (c : Counts). c.dials) h.others
call-rises searches exact told call old new h is = ap (λ (c : Counts). c.searches) h.others
call-rises gones exact told call old new h is = ap (λ (c : Counts). c.gones) h.others
call-rises faults exact told call old new h is = h.exactly is

-- none
quiet : (n : Number) (f o b : Bool) → rise n (record no_rises { fulls = f; opens = o; booked = b }) ≡ false
quiet dials f o b = refl
quiet searches f o b = refl
quiet gones f o b = refl
quiet faults f o b = refl

still : (n : Number) (f o b : Bool) (old new : Counts) → new ≡ old
    → in_counts n new ≡ one_more (rise n (record no_rises { fulls = f; opens = o; booked = b })) (in_counts n old)
still n f o b old new same = ap (in_counts n) same ∙ sym (ap (λ (r : Bool). one_more r (in_counts n old)) (quiet n f o b))

module _ {W S : Type 0} (w : world.Ghosts W) (t : sitting.Ghosts S W) (exact : Bool) where
  deed-rises : (n : Number) (want : Option SetKey) (deed : Deed S) (old new : Counts) → CountsMove w t exact deed old new
      → IsTold exact n → ((lack_of deed ≡ always) → ⊥) → in_counts n new ≡ one_more (rise n (rises_of want deed)) (in_counts n old)
  deed-rises n want (took taken) old new h is has = still n (is_full taken) (is_dial taken) (is_booked want taken) old new h
  deed-rises n want (opened (opening.Session session)) old new h is has =
      call-rises n exact (Unit {0}) (open_counted (opening.Session session)) old new h is
  deed-rises n want (opened (opening.Failed linked)) old new h is has =
      call-rises n exact (Unit {0}) (open_counted {S = S} (opening.Failed linked)) old new h is
  deed-rises n want (opened opening.Memory) old new h is has = absurd (has refl)
  deed-rises n want (began ask answer session) old new h is has =
      call-rises n exact (Unit {0}) (start_counted ask answer) old new h is
  deed-rises n want (heard look.Opened session) old new h is has = call-rises n exact _ (heard_counted look.Opened) old new h is
  deed-rises n want (heard (look.Hits hits) session) old new h is has = call-rises n exact _ (heard_counted (look.Hits hits)) old new h is
  deed-rises n want (heard (look.Refused diag) session) old new h is has = call-rises n exact _ (heard_counted (look.Refused diag)) old new h is
  deed-rises n want (heard (look.Items items) session) old new h is has = call-rises n exact _ (heard_counted (look.Items items)) old new h is
  deed-rises n want (heard look.Gone session) old new h is has = call-rises n exact _ (heard_counted look.Gone) old new h is
  deed-rises n want (heard (look.Scanned entries) session) old new h is has =
      call-rises n exact _ (heard_counted (look.Scanned entries)) old new h is
  deed-rises n want (heard look.NotYet session) old new h is has = call-rises n exact _ (heard_counted look.NotYet) old new h is
  deed-rises n want (heard look.Failed session) old new h is has = call-rises n exact _ (heard_counted look.Failed) old new h is
  deed-rises n want (heard look.Memory session) old new h is has = absurd (has refl)
  deed-rises n want put_back old new h is has = still n false false false old new h
  deed-rises n want gave_up old new h is has = still n false false false old new h
  deed-rises n want (redialled member) old new h is has = still n false true false old new h
  deed-rises n want no_memory old new h is has = absurd (has refl)
  deed-rises n want nothing old new h is has = still n false false false old new h

-- ---- where memory was wanting a leg is not done

module _ {S : Type 0} where
  left-begin : (deed : Deed S) → is_done (left_by Begin deed) ≡ false
  left-begin (took (taken.Reuse seat parts slot hits)) = refl
  left-begin (took (taken.Fresh seat parts)) = refl
  left-begin (took (taken.Dial seat member)) = refl
  left-begin (took (taken.Full open_)) = refl
  left-begin (took taken.Memory) = refl
  left-begin (opened made) = refl
  left-begin (began ask answer session) = refl
  left-begin (heard reply session) = refl
  left-begin put_back = refl
  left-begin gave_up = refl
  left-begin (redialled member) = refl
  left-begin no_memory = refl
  left-begin nothing = refl

  left-not-done : (phase : Phase S) (deed : Deed S) → is_done phase ≡ false → is_done (left_by phase deed) ≡ false
  left-not-done Begin deed h = left-begin deed
  left-not-done (Dialling seat member) deed h = refl
  left-not-done (Dialled held looks) deed h = refl
  left-not-done (Ready held items) deed h = refl
  left-not-done (Searching held items slot looks) deed h = refl
  left-not-done (Presenting held items slot hits) deed h = refl
  left-not-done (Fetching held items slot hits looks) deed h = refl
  left-not-done (Scanning held looks) deed h = refl
  left-not-done (Returning held answer) deed h = refl
  left-not-done (Losing seat answer) deed h = refl
  left-not-done (Redialling seat) deed h = refl
  left-not-done (Spoiled seat) deed h = refl
  left-not-done (Done answer) deed h = h
  left-not-done Ended deed h = refl

-- a turn that had memory: it answers otherwise, or the leg is done behind it
abbrev pub HadMemory : {S : Type 0} → (answer : Turned) → (new : Phase S) → Type 0
HadMemory answer new = (answer ≡ turned.Memory → ⊥) ⊎ (is_done new ≡ true)

in-memory : {S : Type 0} (old new : Phase S) (deed : Deed S) (answer : Turned) → is_done old ≡ false → HadMemory answer new
    → new ≡ left_by old deed → answer ≡ turned.Memory → ⊥
in-memory old new deed answer goes (inl other) left says = other says
in-memory old new deed answer goes (inr done) left says =
    let wrong : true ≡ false = sym done ∙ ap is_done left ∙ left-not-done old deed goes in absurd cc

-- ---- what a mark comes of

-- the backend counts of a call what a leg is told of it, at least
pub record Least (fault wait gone_ : Bool) (old new : Counts) : Type 0 where
  pub faults : within64 (one_more fault old.faults) ≤ new.faults
  pub waits : within64 (one_more wait old.waits) ≤ new.waits
  pub gones : within64 (one_more gone_ old.gones) ≤ new.gones

fault-least : (b : Bool) (old new : ℕ) → old ≤ new → (b ≡ true → min (old + 1) (2 ^ 64 - 1) ≤ new) → within64 (one_more b old) ≤ new
fault-least true old new below rose = let r = rose refl in omega (arith, r)
fault-least false old new below rose = omega (arith, below)

pub least-is : (b : Bool) (old new : ℕ) → new ≡ one_more b old → within64 (one_more b old) ≤ new
least-is b old new e = omega (arith, e)

call-least : (exact : Bool) (told : Type 0) (call : Counted) (old new : Counts) → BackendCounts exact told call old new
    → Least call.fault call.wait call.gone old new
call-least exact told call old new h = record {
  faults = fault-least call.fault old.faults new.faults h.faults h.failed;
  waits = least-is call.wait old.waits new.waits (ap (λ (c : Counts). c.waits) h.others);
  gones = least-is call.gone old.gones new.gones (ap (λ (c : Counts). c.gones) h.others);
}

-- one that was counted may be left out
less-gone : (fault wait : Bool) (old new : Counts) → Least fault wait true old new → Least fault wait false old new
less-gone fault wait old new h = record {
  faults = h.faults;
  waits = h.waits;
  gones = (let g = h.gones in omega (arith, g));
}

still-least : (old new : Counts) → new ≡ old → Least false false false old new
still-least old new same = record {
  faults = least-is false old.faults new.faults (ap (λ (c : Counts). c.faults) same);
  waits = least-is false old.waits new.waits (ap (λ (c : Counts). c.waits) same);
  gones = least-is false old.gones new.gones (ap (λ (c : Counts). c.gones) same);
}

module _ {W S : Type 0} (w : world.Ghosts W) (t : sitting.Ghosts S W) (exact : Bool) where
  pub deed-least : (want : Option SetKey) (deed : Deed S) (old new : Counts) → CountsMove w t exact deed old new
      → Least (rises_of want deed).faults (waits deed) (rises_of want deed).gones old new
  deed-least want (took taken) old new h = still-least old new h
  deed-least want (opened (opening.Session session)) old new h = call-least exact (Unit {0}) _ old new h
  deed-least want (opened (opening.Failed linked)) old new h = call-least exact (Unit {0}) _ old new h
  deed-least want (opened opening.Memory) old new (inl h) = call-least exact (Unit {0}) _ old new h
  deed-least want (opened opening.Memory) old new (inr h) = call-least exact (Unit {0}) _ old new h
  deed-least want (began ask start.Started session) old new h = call-least exact (Unit {0}) _ old new h
  deed-least want (began ask start.Failed session) old new h = call-least exact (Unit {0}) _ old new h
  deed-least want (began ask start.Memory session) old new h = call-least exact (Unit {0}) _ old new h
  deed-least want (heard look.Opened session) old new h = call-least exact _ _ old new h
  deed-least want (heard (look.Hits hits) session) old new h = call-least exact _ _ old new h
  deed-least want (heard (look.Refused diag) session) old new h = call-least exact _ _ old new h
  deed-least want (heard (look.Items items) session) old new h = call-least exact _ _ old new h
  deed-least want (heard look.Gone session) old new h = call-least exact _ _ old new h
  deed-least want (heard (look.Scanned entries) session) old new h = call-least exact _ _ old new h
  deed-least want (heard look.NotYet session) old new h = call-least exact _ _ old new h
  deed-least want (heard look.Failed session) old new h = call-least exact _ _ old new h
  deed-least want (heard look.Memory session) old new (inl h) = call-least exact _ _ old new h
  deed-least want (heard look.Memory session) old new (inr h) = less-gone false false old new (call-least exact _ _ old new h)
  deed-least want put_back old new h = still-least old new h
  deed-least want gave_up old new h = still-least old new h
  deed-least want (redialled member) old new h = still-least old new h
  deed-least want no_memory old new h = still-least old new h
  deed-least want nothing old new h = still-least old new h

-- the door counts each time that it is full
full-least : {S : Type 0} (want : Option SetKey) (deed : Deed S) (door : DoorCounts)
    → within64 (one_more (rises_of want deed).fulls door.fulls) ≤ (door_counts want deed door).fulls
full-least want (took taken) door = omega arith
full-least want (opened (opening.Session session)) door = omega arith
full-least want (opened (opening.Failed linked)) door = omega arith
full-least want (opened opening.Memory) door = omega arith
full-least want (began ask answer session) door = omega arith
full-least want (heard reply session) door = omega arith
full-least want put_back door = omega arith
full-least want gave_up door = omega arith
full-least want (redialled member) door = omega arith
full-least want no_memory door = omega arith
full-least want nothing door = omega arith

-- whether a turn meets it
abbrev met_in : Caused → Rises → (waits : Bool) → Bool
met_in link r waits = r.faults
met_in silent r waits = waits
met_in gone r waits = r.gones
met_in full r waits = r.fulls

spent-most : (fault given : Bool) (n : ℕ) → more (fault && given) n ≤ more fault n
spent-most true true n = omega arith
spent-most true false n = omega arith
spent-most false given n = omega arith

account-meets : (k : Caused) (class : ℕ) (r : Rises) (given waits : Bool) (looks : ℕ) (a b : Account) → b ≡ counted class r given looks a
    → b.looks ≤ more waits a.looks → met_by k b ≤ more (met_in k r waits) (met_by k a)
account-meets link class r given waits looks a b e few =
    subst (λ (x : Account). x.spent ≤ more r.faults a.spent) (sym e) (spent-most r.faults (not given) a.spent)
account-meets silent class r given waits looks a b e few = few
account-meets gone class r given waits looks a b e few =
    subst (λ (x : Account). x.gones ≤ more r.gones a.gones) (sym e) (omega arith)
account-meets full class r given waits looks a b e few =
    subst (λ (x : Account). x.fulls ≤ more r.fulls a.fulls) (sym e) (omega arith)

outside-meets : (k : Caused) (r : Rises) (waits : Bool) (door after : DoorCounts) (old new : Counts) → Least r.faults waits r.gones old new
    → within64 (one_more r.fulls door.fulls) ≤ after.fulls
    → within64 (one_more (met_in k r waits) (met_outside k door old)) ≤ met_outside k after new
outside-meets link r waits door after old new h f = h.faults
outside-meets silent r waits door after old new h f = h.waits
outside-meets gone r waits door after old new h f = h.gones
outside-meets full r waits door after old new h f = f

-- ---- the turn

module _ {W S : Type 0} (w : world.Ghosts W) (t : sitting.Ghosts S W) (exact : Bool) (terms : Terms) (task : Task) (now : ℕ)
    (old new : Phase S) (a b : Account) (answer : Turned) (door after : DoorView S) (backend moved : BackendView)
    (h : IsTurn w t exact terms task now old new a b answer door after backend moved) where
  has-memory : is_done old ≡ false → HadMemory answer new → (lack_of h.deed ≡ always) → ⊥
  has-memory goes had lacks =
      let end : Ends always (next terms task now b.gones old h.deed) (left_by old h.deed) (answer_of h.deed new) answer new =
      subst (λ (l : Lack). Ends l (next terms task now b.gones old h.deed) (left_by old h.deed) (answer_of h.deed new) answer new)
      lacks h.goes in
      in-memory old new h.deed answer goes had end.0 end.1

  pub turn-as-much : (n : Number) → IsTold exact n → is_done old ≡ false → HadMemory answer new
      → RisesAsMuch (in_account n a) (in_account n b) (in_counts n backend.counts) (in_counts n moved.counts)
  turn-as-much n is goes had =
      as-one (rise n (rises_of (want_of task) h.deed)) (in_account n a) (in_account n b) (in_counts n backend.counts) (in_counts n moved.counts)
      (ap (in_account n) h.account ∙ account-rises n _ _ _ _ a)
      (deed-rises w t exact n (want_of task) h.deed backend.counts moved.counts h.backend_moves.counts is (has-memory goes had))

  pub turn-enough : (k : Caused)
      → RisesEnough (met_by k a) (met_by k b) (met_outside k door.counts backend.counts) (met_outside k after.counts moved.counts)
  turn-enough k =
      enough-one (met_in k (rises_of (want_of task) h.deed) (waits h.deed)) (met_by k a) (met_by k b)
      (met_outside k door.counts backend.counts) (met_outside k after.counts moved.counts)
      (account-meets k _ _ _ (waits h.deed) _ a b h.account h.looks)
      (outside-meets k (rises_of (want_of task) h.deed) (waits h.deed) door.counts after.counts backend.counts moved.counts
      (deed-least w t exact (want_of task) h.deed backend.counts moved.counts h.backend_moves.counts)
      (subst (λ (c : DoorCounts). within64 (one_more (rises_of (want_of task) h.deed).fulls door.counts.fulls) ≤ c.fulls)
      (sym h.door_counts) (full-least (want_of task) h.deed door.counts)))
