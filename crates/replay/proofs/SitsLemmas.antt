-- a leg holds sessions at the addresses of its class alone
use Rattle.std.proofs.Common.{◌≡◌, ℕ, ◌+◌, ◌-◌, ◌<◌, Bool, true, false, nat_le, nat_lt, if◌then◌else◌, List, [], ◌++◌, length, Option, None, Some, sym, subst}
use Rattle.std.specs.Prelude.{Contains}
use Rattle.std.proofs.lemmas.List.{length-map}
use Rattle.std.proofs.lemmas.List.Elements.{Contains-get_or}
use Rattle.z_types.specs.Logins.{inside}
use Rattle.z_types.proofs.LoginLemmas.{inside_contains}
use Rattle.z_types.specs.declared.address.Address.{Address}
use Rattle.z_types.specs.declared.address.Address.TheVariants.{Test}
use Rattle.z_types.specs.declared.ask.Ask.{Ask}
use Rattle.z_types.specs.declared.key.SetKey.{SetKey}
use Rattle.z_types.specs.declared.marks.Mark.TheVariants as mark
use Rattle.z_types.specs.declared.records.Item.{Item}
use Rattle.z_types.specs.declared.sitting.Sitting as sitting
use Rattle.z_types.specs.declared.world.World as world
use Rattle.gw_outside.specs.declared.backends.Began.{Began}
use Rattle.gw_outside.specs.declared.backends.Began.TheVariants as start
use Rattle.gw_outside.specs.declared.backends.Heard.TheVariants as look
use Rattle.gw_outside.specs.declared.backends.Opening.TheVariants as opening
use Rattle.pool_sets.specs.Plain.{address_at}
use Rattle.pool_sets.specs.Table.{after_forget}
use Rattle.pool_sets.specs.declared.doors.Taken.TheVariants as taken
use Rattle.package_quiet.specs.leg.declared.answers.LegAnswer.TheVariants as answer
use Rattle.package_quiet.specs.leg.declared.answers.Turned.{Turned}
use Rattle.package_quiet.specs.leg.declared.answers.Turned.TheVariants as turned
use Rattle.package_quiet.specs.leg.declared.phases.Held.{Held}
use Rattle.package_quiet.specs.leg.declared.phases.Phase.{Phase}
use Rattle.package_quiet.specs.leg.declared.phases.Phase.TheVariants.{Begin, Dialling, Dialled, Ready, Searching, Presenting, Fetching, Scanning, Returning, Losing, Redialling, Spoiled, Done, Ended}
use Rattle.package_quiet.specs.leg.declared.tasks.Task.{Task}
use Rattle.package_quiet.specs.leg.declared.tasks.Task.TheVariants.{Hits, Records, Scan}
use Rattle.package_quiet.specs.leg.Deeds.{Deed, took, opened, began, heard, put_back, gave_up, redialled, no_memory, nothing}
use Rattle.package_quiet.specs.leg.Phases.{hold, replied, with_session, with_sets}
use Rattle.package_quiet.specs.leg.Rules.{Ends, Lack, after_fault, after_first, always, gone_again, left_by, never, next, next_ask, perhaps, recorded, unless_silent, with_items, with_set}
use Rattle.package_quiet.specs.leg.Tasks.{want_of}
use Rattle.package_quiet.specs.leg.Terms.{Terms, opened_at, sites}
use Rattle.package_quiet.specs.leg.Turns.{IsAskedIf, IsDue}

-- a place of the members is one of their sites
site-place : (terms : Terms) (place : ℕ) → place < length terms.at → place < length (sites terms)
site-place terms place there = subst (λ (n : ℕ). place < n) (sym (length-map terms.at (inside terms.login))) there

-- where the address that is opened for a member is
site-in : (terms : Terms) (place : ℕ) → place < length (sites terms) → Contains (sites terms) (opened_at terms place)
site-in terms place there =
    let within : place < length terms.at = subst (λ (n : ℕ). place < n) (length-map terms.at (inside terms.login)) there in
    inside_contains terms.login terms.at (address_at terms.at place) (Contains-get_or terms.at place (Test 0) within)

module _ {W S : Type 0} (w : world.Ghosts W) (t : sitting.Ghosts S W) (at : List Address) where
  -- a session is at one of them
  abbrev pub IsAt : S → Type 0
  IsAt session = Contains at (t.address session)

  -- the session that is asked is, or will be
  abbrev pub SitsAt : Phase S → Type 0
  SitsAt (Dialling seat member) = member < length at
  SitsAt (Dialled held looks) = IsAt held.parts.session
  SitsAt (Ready held items) = IsAt held.parts.session
  SitsAt (Searching held items slot looks) = IsAt held.parts.session
  SitsAt (Presenting held items slot hits) = IsAt held.parts.session
  SitsAt (Fetching held items slot hits looks) = IsAt held.parts.session
  SitsAt (Scanning held looks) = IsAt held.parts.session
  SitsAt phase = Unit {0}

  -- and so is one that is looked at
  abbrev pub LooksAt : Deed S → Type 0
  LooksAt (heard reply session) = IsAt session
  LooksAt deed = Unit {0}

  moved : (before after : S) → t.address after ≡ t.address before → IsAt before → IsAt after
  moved before after e is = subst (λ (a : Address). Contains at a) (sym e) is

  if-sits : (b : Bool) (x y : Phase S) → SitsAt x → SitsAt y → SitsAt (if b then x else y)
  if-sits true x y f g = f
  if-sits false x y f g = g

  fault-sits : (held : Held S) → SitsAt (after_fault held)
  fault-sits held = if-sits held.given (Redialling held.seat) (Losing held.seat (answer.Marked mark.Link)) tt tt

  silent-sits : (patience : ℕ) (held : Held S) (looks : ℕ) (again : Phase S) → SitsAt again → SitsAt (unless_silent patience held looks again)
  silent-sits patience held looks again is =
      if-sits (nat_le patience looks) (Losing held.seat (answer.Marked (mark.Silent patience))) again tt is

  gone-sits : (repeats gones : ℕ) (held : Held S) (items : List Item) → IsAt held.parts.session → SitsAt (gone_again repeats gones held items)
  gone-sits repeats gones held items is =
      if-sits (nat_le gones repeats) (Ready held items) (Returning held (answer.Marked mark.Gone)) is tt

  with_set-sits : (task : Task) (held : Held S) (items : List Item) (slot hits : ℕ) → IsAt held.parts.session
      → SitsAt (with_set task held items slot hits)
  with_set-sits (Hits key) held items slot hits is = tt
  with_set-sits (Records key first count syntax element) held items slot hits is =
      if-sits (nat_lt hits (first + (count - 1))) _ (Presenting held items slot hits) tt is
  with_set-sits (Scan scan) held items slot hits is = tt

  with_items-sits : (task : Task) (held : Held S) (items : List Item) (slot hits : ℕ) → IsAt held.parts.session
      → SitsAt (with_items task held items slot hits)
  with_items-sits (Hits key) held items slot hits is = tt
  with_items-sits (Records key first count syntax element) held items slot hits is =
      if-sits (nat_lt (length items) count) (Presenting held items slot hits) _ is tt
  with_items-sits (Scan scan) held items slot hits is = tt

  recorded-sits : (want : Option SetKey) (slot hits now : ℕ) (held : Held S) → IsAt held.parts.session
      → IsAt (recorded want slot hits now held).parts.session
  recorded-sits None slot hits now held is = is
  recorded-sits (Some key) slot hits now held is = is

  first-sits : (task : Task) (held : Held S) (items : List Item) (session : S) → IsAt session
      → SitsAt (after_first task held items start.Started session)
  first-sits (Hits key) held items session is = is
  first-sits (Records key first count syntax element) held items session is = is
  first-sits (Scan scan) held items session is = is

  next-asked : (due : Option Ask) (asked : Ask) (before after : S) (said : Began) → IsAskedIf w t due asked before after said
      → t.address after ≡ t.address before
  next-asked None asked before after said h = absurd h
  next-asked (Some due) asked before after said h = h.address

  -- ---- behind each deed

  left-sits : (deed : Deed S) → SitsAt (left_by Begin deed)
  left-sits (took (taken.Reuse seat parts slot hits)) = tt
  left-sits (took (taken.Fresh seat parts)) = tt
  left-sits (took (taken.Dial seat member)) = tt
  left-sits (took (taken.Full open_)) = tt
  left-sits (took taken.Memory) = tt
  left-sits (opened made) = tt
  left-sits (began asked answer session) = tt
  left-sits (heard reply session) = tt
  left-sits put_back = tt
  left-sits gave_up = tt
  left-sits (redialled member) = tt
  left-sits no_memory = tt
  left-sits nothing = tt

  pub left-by-sits : (phase : Phase S) (deed : Deed S) → SitsAt (left_by phase deed)
  left-by-sits Begin deed = left-sits deed
  left-by-sits (Dialling seat member) deed = tt
  left-by-sits (Dialled held looks) deed = tt
  left-by-sits (Ready held items) deed = tt
  left-by-sits (Searching held items slot looks) deed = tt
  left-by-sits (Presenting held items slot hits) deed = tt
  left-by-sits (Fetching held items slot hits looks) deed = tt
  left-by-sits (Scanning held looks) deed = tt
  left-by-sits (Returning held own) deed = tt
  left-by-sits (Losing seat own) deed = tt
  left-by-sits (Redialling seat) deed = tt
  left-by-sits (Spoiled seat) deed = tt
  left-by-sits (Done own) deed = tt
  left-by-sits Ended deed = tt

  pub ends-sits : (lack : Lack) (wanted left : Phase S) (said answer : Turned) (new : Phase S) → SitsAt wanted → SitsAt left
      → Ends lack wanted left said answer new → SitsAt new
  ends-sits never wanted left said answer new f g h = subst (λ (p : Phase S). SitsAt p) (sym h.0) f
  ends-sits always wanted left said answer new f g h = subst (λ (p : Phase S). SitsAt p) (sym h.0) g
  ends-sits perhaps wanted left said turned.Memory new f g h = subst (λ (p : Phase S). SitsAt p) (sym h) g
  ends-sits perhaps wanted left said turned.Went new f g h = subst (λ (p : Phase S). SitsAt p) (sym h.0) f
  ends-sits perhaps wanted left said turned.NotYet new f g h = subst (λ (p : Phase S). SitsAt p) (sym h.0) f
  ends-sits perhaps wanted left said turned.Done new f g h = subst (λ (p : Phase S). SitsAt p) (sym h.0) f

module _ {W S : Type 0} (w : world.Ghosts W) (t : sitting.Ghosts S W) (terms : Terms) (most : ℕ) (task : Task) (now gone_ : ℕ) where
  -- where it goes by the rules
  pub goes-sits : (old : Phase S) (deed : Deed S) → SitsAt w t (sites terms) old → IsDue w t terms most task old deed
      → SitsAt w t (sites terms) (next terms task now gone_ old deed) × LooksAt w t (sites terms) deed
  goes-sits Begin (took (taken.Reuse seat parts slot hits)) is h = (with_set-sits w t (sites terms) task (hold seat parts true) [] slot hits (subst (λ (a : Address). Contains (sites terms) a) (sym h.0.kept.same_address) h.0.among), tt)
  goes-sits Begin (took (taken.Fresh seat parts)) is h = (subst (λ (a : Address). Contains (sites terms) a) (sym h.0.kept.same_address) h.0.among, tt)
  goes-sits Begin (took (taken.Dial seat member)) is h = (site-place terms member h.1, tt)
  goes-sits Begin (took (taken.Full open_)) is h = (tt, tt)
  goes-sits Begin (took taken.Memory) is h = (tt, tt)
  goes-sits Begin (opened made) is h = absurd h
  goes-sits Begin (began asked answer session) is h = absurd h
  goes-sits Begin (heard reply session) is h = absurd h
  goes-sits Begin put_back is h = absurd h
  goes-sits Begin gave_up is h = absurd h
  goes-sits Begin (redialled member_) is h = absurd h
  goes-sits Begin no_memory is h = absurd h
  goes-sits Begin nothing is h = absurd h
  goes-sits (Dialling seat member) (took taken_) is h = absurd h
  goes-sits (Dialling seat member) (opened (opening.Session session)) is h = (subst (λ (a : Address). Contains (sites terms) a) (sym h.same_address) (site-in terms member is), tt)
  goes-sits (Dialling seat member) (opened (opening.Failed linked)) is h = (tt, tt)
  goes-sits (Dialling seat member) (opened opening.Memory) is h = (tt, tt)
  goes-sits (Dialling seat member) (began asked answer session) is h = absurd h
  goes-sits (Dialling seat member) (heard reply session) is h = absurd h
  goes-sits (Dialling seat member) put_back is h = absurd h
  goes-sits (Dialling seat member) gave_up is h = absurd h
  goes-sits (Dialling seat member) (redialled member_) is h = absurd h
  goes-sits (Dialling seat member) no_memory is h = (is, tt)
  goes-sits (Dialling seat member) nothing is h = absurd h
  goes-sits (Dialled held looks) (took taken_) is h = absurd h
  goes-sits (Dialled held looks) (opened made) is h = absurd h
  goes-sits (Dialled held looks) (began asked answer session) is h = absurd h
  goes-sits (Dialled held looks) (heard look.Opened session) is h = let at = moved w t (sites terms) held.parts.session session h.address is in (at, at)
  goes-sits (Dialled held looks) (heard (look.Hits found) session) is h = let at = moved w t (sites terms) held.parts.session session h.address is in (tt, at)
  goes-sits (Dialled held looks) (heard (look.Refused diag) session) is h = let at = moved w t (sites terms) held.parts.session session h.address is in (tt, at)
  goes-sits (Dialled held looks) (heard (look.Items others) session) is h = let at = moved w t (sites terms) held.parts.session session h.address is in (tt, at)
  goes-sits (Dialled held looks) (heard look.Gone session) is h = let at = moved w t (sites terms) held.parts.session session h.address is in (tt, at)
  goes-sits (Dialled held looks) (heard (look.Scanned entries) session) is h = let at = moved w t (sites terms) held.parts.session session h.address is in (tt, at)
  goes-sits (Dialled held looks) (heard look.NotYet session) is h = let at = moved w t (sites terms) held.parts.session session h.address is in (silent-sits w t (sites terms) terms.pool.patience held (looks + 1) (Dialled (with_session session held) (looks + 1)) at, at)
  goes-sits (Dialled held looks) (heard look.Failed session) is h = let at = moved w t (sites terms) held.parts.session session h.address is in (fault-sits w t (sites terms) held, at)
  goes-sits (Dialled held looks) (heard look.Memory session) is h = let at = moved w t (sites terms) held.parts.session session h.address is in (tt, at)
  goes-sits (Dialled held looks) put_back is h = absurd h
  goes-sits (Dialled held looks) gave_up is h = absurd h
  goes-sits (Dialled held looks) (redialled member_) is h = absurd h
  goes-sits (Dialled held looks) no_memory is h = absurd h
  goes-sits (Dialled held looks) nothing is h = absurd h
  goes-sits (Ready held items) (took taken_) is h = absurd h
  goes-sits (Ready held items) (opened made) is h = absurd h
  goes-sits (Ready held items) (began asked start.Started session) is h = (first-sits w t (sites terms) task held items session (moved w t (sites terms) held.parts.session session h.address is), tt)
  goes-sits (Ready held items) (began asked start.Failed session) is h = (fault-sits w t (sites terms) held, tt)
  goes-sits (Ready held items) (began asked start.Memory session) is h = (tt, tt)
  goes-sits (Ready held items) (heard reply session) is h = absurd h
  goes-sits (Ready held items) put_back is h = absurd h
  goes-sits (Ready held items) gave_up is h = absurd h
  goes-sits (Ready held items) (redialled member_) is h = absurd h
  goes-sits (Ready held items) no_memory is h = (is, tt)
  goes-sits (Ready held items) nothing is h = absurd h
  goes-sits (Searching held items slot looks) (took taken_) is h = absurd h
  goes-sits (Searching held items slot looks) (opened made) is h = absurd h
  goes-sits (Searching held items slot looks) (began asked answer session) is h = absurd h
  goes-sits (Searching held items slot looks) (heard look.Opened session) is h = let at = moved w t (sites terms) held.parts.session session h.address is in (tt, at)
  goes-sits (Searching held items slot looks) (heard (look.Hits found) session) is h = let at = moved w t (sites terms) held.parts.session session h.address is in (with_set-sits w t (sites terms) task (recorded (want_of task) slot found now (replied session held)) items slot found (recorded-sits w t (sites terms) (want_of task) slot found now (replied session held) at), at)
  goes-sits (Searching held items slot looks) (heard (look.Refused diag) session) is h = let at = moved w t (sites terms) held.parts.session session h.address is in (tt, at)
  goes-sits (Searching held items slot looks) (heard (look.Items others) session) is h = let at = moved w t (sites terms) held.parts.session session h.address is in (tt, at)
  goes-sits (Searching held items slot looks) (heard look.Gone session) is h = let at = moved w t (sites terms) held.parts.session session h.address is in (tt, at)
  goes-sits (Searching held items slot looks) (heard (look.Scanned entries) session) is h = let at = moved w t (sites terms) held.parts.session session h.address is in (tt, at)
  goes-sits (Searching held items slot looks) (heard look.NotYet session) is h = let at = moved w t (sites terms) held.parts.session session h.address is in (silent-sits w t (sites terms) terms.pool.patience held (looks + 1) (Searching (with_session session held) items slot (looks + 1)) at, at)
  goes-sits (Searching held items slot looks) (heard look.Failed session) is h = let at = moved w t (sites terms) held.parts.session session h.address is in (fault-sits w t (sites terms) held, at)
  goes-sits (Searching held items slot looks) (heard look.Memory session) is h = let at = moved w t (sites terms) held.parts.session session h.address is in (tt, at)
  goes-sits (Searching held items slot looks) put_back is h = absurd h
  goes-sits (Searching held items slot looks) gave_up is h = absurd h
  goes-sits (Searching held items slot looks) (redialled member_) is h = absurd h
  goes-sits (Searching held items slot looks) no_memory is h = absurd h
  goes-sits (Searching held items slot looks) nothing is h = absurd h
  goes-sits (Presenting held items slot hits) (took taken_) is h = absurd h
  goes-sits (Presenting held items slot hits) (opened made) is h = absurd h
  goes-sits (Presenting held items slot hits) (began asked start.Started session) is h = (moved w t (sites terms) held.parts.session session (next-asked w t (sites terms) (next_ask task items slot) asked held.parts.session session start.Started h) is, tt)
  goes-sits (Presenting held items slot hits) (began asked start.Failed session) is h = (fault-sits w t (sites terms) held, tt)
  goes-sits (Presenting held items slot hits) (began asked start.Memory session) is h = (tt, tt)
  goes-sits (Presenting held items slot hits) (heard reply session) is h = absurd h
  goes-sits (Presenting held items slot hits) put_back is h = absurd h
  goes-sits (Presenting held items slot hits) gave_up is h = absurd h
  goes-sits (Presenting held items slot hits) (redialled member_) is h = absurd h
  goes-sits (Presenting held items slot hits) no_memory is h = (is, tt)
  goes-sits (Presenting held items slot hits) nothing is h = absurd h
  goes-sits (Fetching held items slot hits looks) (took taken_) is h = absurd h
  goes-sits (Fetching held items slot hits looks) (opened made) is h = absurd h
  goes-sits (Fetching held items slot hits looks) (began asked answer session) is h = absurd h
  goes-sits (Fetching held items slot hits looks) (heard look.Opened session) is h = let at = moved w t (sites terms) held.parts.session session h.address is in (tt, at)
  goes-sits (Fetching held items slot hits looks) (heard (look.Hits found) session) is h = let at = moved w t (sites terms) held.parts.session session h.address is in (tt, at)
  goes-sits (Fetching held items slot hits looks) (heard (look.Refused diag) session) is h = let at = moved w t (sites terms) held.parts.session session h.address is in (tt, at)
  goes-sits (Fetching held items slot hits looks) (heard (look.Items others) session) is h = let at = moved w t (sites terms) held.parts.session session h.address is in (with_items-sits w t (sites terms) task (replied session held) (items ++ others) slot hits at, at)
  goes-sits (Fetching held items slot hits looks) (heard look.Gone session) is h = let at = moved w t (sites terms) held.parts.session session h.address is in (gone-sits w t (sites terms) terms.pool.repeats gone_ (with_sets (after_forget slot held.parts.table) (replied session held)) items at, at)
  goes-sits (Fetching held items slot hits looks) (heard (look.Scanned entries) session) is h = let at = moved w t (sites terms) held.parts.session session h.address is in (tt, at)
  goes-sits (Fetching held items slot hits looks) (heard look.NotYet session) is h = let at = moved w t (sites terms) held.parts.session session h.address is in (silent-sits w t (sites terms) terms.pool.patience held (looks + 1) (Fetching (with_session session held) items slot hits (looks + 1)) at, at)
  goes-sits (Fetching held items slot hits looks) (heard look.Failed session) is h = let at = moved w t (sites terms) held.parts.session session h.address is in (fault-sits w t (sites terms) held, at)
  goes-sits (Fetching held items slot hits looks) (heard look.Memory session) is h = let at = moved w t (sites terms) held.parts.session session h.address is in (tt, at)
  goes-sits (Fetching held items slot hits looks) put_back is h = absurd h
  goes-sits (Fetching held items slot hits looks) gave_up is h = absurd h
  goes-sits (Fetching held items slot hits looks) (redialled member_) is h = absurd h
  goes-sits (Fetching held items slot hits looks) no_memory is h = absurd h
  goes-sits (Fetching held items slot hits looks) nothing is h = absurd h
  goes-sits (Scanning held looks) (took taken_) is h = absurd h
  goes-sits (Scanning held looks) (opened made) is h = absurd h
  goes-sits (Scanning held looks) (began asked answer session) is h = absurd h
  goes-sits (Scanning held looks) (heard look.Opened session) is h = let at = moved w t (sites terms) held.parts.session session h.address is in (tt, at)
  goes-sits (Scanning held looks) (heard (look.Hits found) session) is h = let at = moved w t (sites terms) held.parts.session session h.address is in (tt, at)
  goes-sits (Scanning held looks) (heard (look.Refused diag) session) is h = let at = moved w t (sites terms) held.parts.session session h.address is in (tt, at)
  goes-sits (Scanning held looks) (heard (look.Items others) session) is h = let at = moved w t (sites terms) held.parts.session session h.address is in (tt, at)
  goes-sits (Scanning held looks) (heard look.Gone session) is h = let at = moved w t (sites terms) held.parts.session session h.address is in (tt, at)
  goes-sits (Scanning held looks) (heard (look.Scanned entries) session) is h = let at = moved w t (sites terms) held.parts.session session h.address is in (tt, at)
  goes-sits (Scanning held looks) (heard look.NotYet session) is h = let at = moved w t (sites terms) held.parts.session session h.address is in (silent-sits w t (sites terms) terms.pool.patience held (looks + 1) (Scanning (with_session session held) (looks + 1)) at, at)
  goes-sits (Scanning held looks) (heard look.Failed session) is h = let at = moved w t (sites terms) held.parts.session session h.address is in (fault-sits w t (sites terms) held, at)
  goes-sits (Scanning held looks) (heard look.Memory session) is h = let at = moved w t (sites terms) held.parts.session session h.address is in (tt, at)
  goes-sits (Scanning held looks) put_back is h = absurd h
  goes-sits (Scanning held looks) gave_up is h = absurd h
  goes-sits (Scanning held looks) (redialled member_) is h = absurd h
  goes-sits (Scanning held looks) no_memory is h = absurd h
  goes-sits (Scanning held looks) nothing is h = absurd h
  goes-sits (Returning held own) (took taken_) is h = absurd h
  goes-sits (Returning held own) (opened made) is h = absurd h
  goes-sits (Returning held own) (began asked answer session) is h = absurd h
  goes-sits (Returning held own) (heard reply session) is h = absurd h
  goes-sits (Returning held own) put_back is h = (tt, tt)
  goes-sits (Returning held own) gave_up is h = absurd h
  goes-sits (Returning held own) (redialled member_) is h = absurd h
  goes-sits (Returning held own) no_memory is h = absurd h
  goes-sits (Returning held own) nothing is h = absurd h
  goes-sits (Losing seat own) (took taken_) is h = absurd h
  goes-sits (Losing seat own) (opened made) is h = absurd h
  goes-sits (Losing seat own) (began asked answer session) is h = absurd h
  goes-sits (Losing seat own) (heard reply session) is h = absurd h
  goes-sits (Losing seat own) put_back is h = absurd h
  goes-sits (Losing seat own) gave_up is h = (tt, tt)
  goes-sits (Losing seat own) (redialled member_) is h = absurd h
  goes-sits (Losing seat own) no_memory is h = absurd h
  goes-sits (Losing seat own) nothing is h = absurd h
  goes-sits (Redialling seat) (took taken_) is h = absurd h
  goes-sits (Redialling seat) (opened made) is h = absurd h
  goes-sits (Redialling seat) (began asked answer session) is h = absurd h
  goes-sits (Redialling seat) (heard reply session) is h = absurd h
  goes-sits (Redialling seat) put_back is h = absurd h
  goes-sits (Redialling seat) gave_up is h = absurd h
  goes-sits (Redialling seat) (redialled member_) is h = (site-place terms member_ h, tt)
  goes-sits (Redialling seat) no_memory is h = absurd h
  goes-sits (Redialling seat) nothing is h = absurd h
  goes-sits (Spoiled seat) (took taken_) is h = absurd h
  goes-sits (Spoiled seat) (opened made) is h = absurd h
  goes-sits (Spoiled seat) (began asked answer session) is h = absurd h
  goes-sits (Spoiled seat) (heard reply session) is h = absurd h
  goes-sits (Spoiled seat) put_back is h = absurd h
  goes-sits (Spoiled seat) gave_up is h = absurd h
  goes-sits (Spoiled seat) (redialled member_) is h = absurd h
  goes-sits (Spoiled seat) no_memory is h = (tt, tt)
  goes-sits (Spoiled seat) nothing is h = absurd h
  goes-sits (Done own) (took taken_) is h = absurd h
  goes-sits (Done own) (opened made) is h = absurd h
  goes-sits (Done own) (began asked answer session) is h = absurd h
  goes-sits (Done own) (heard reply session) is h = absurd h
  goes-sits (Done own) put_back is h = absurd h
  goes-sits (Done own) gave_up is h = absurd h
  goes-sits (Done own) (redialled member_) is h = absurd h
  goes-sits (Done own) no_memory is h = absurd h
  goes-sits (Done own) nothing is h = (tt, tt)
  goes-sits Ended (took taken_) is h = absurd h
  goes-sits Ended (opened made) is h = absurd h
  goes-sits Ended (began asked answer session) is h = absurd h
  goes-sits Ended (heard reply session) is h = absurd h
  goes-sits Ended put_back is h = absurd h
  goes-sits Ended gave_up is h = absurd h
  goes-sits Ended (redialled member_) is h = absurd h
  goes-sits Ended no_memory is h = (tt, tt)
  goes-sits Ended nothing is h = absurd h
