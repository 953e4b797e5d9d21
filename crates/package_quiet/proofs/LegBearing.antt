-- One turn of a leg, while no more befalls links than it bears
use Rattle.std.proofs.Common.{◌≡◌, ◌∙◌, ◌+◌, ◌-◌, ◌<◌, ◌≤◌, ◌&&◌, ℕ, Bool, true, false, not, cond, inl, inr, List, [], ◌++◌, length, Option, None, Some, is_some, refl, sym, ap, subst, arith, nat_lt, nat_le}
use Rattle.std.proofs.lemmas.Bool.{cases_lt, lt-leb}
use Rattle.std.proofs.lemmas.List.Elements.{Contains-get_or}
use Rattle.z_types.specs.Pending.{IsPending, Pending, resting, opening, asked}
use Rattle.z_types.specs.declared.address.Address.{Address}
use Rattle.z_types.specs.declared.address.Address.TheVariants.{Test, Tcp, Login}
use Rattle.z_types.specs.declared.address.Site.TheVariants as site
use Rattle.z_types.specs.declared.ask.Ask.{Ask}
use Rattle.z_types.specs.declared.ask.Ask.TheVariants as ask
use Rattle.z_types.specs.declared.key.SetKey.{SetKey}
use Rattle.z_types.specs.declared.marks.Mark.TheVariants as mark
use Rattle.z_types.specs.declared.records.Item.{Item}
use Rattle.z_types.specs.declared.sitting.Sitting as sitting
use Rattle.z_types.specs.declared.world.World as world
use Rattle.z_types.proofs.LoginLemmas.{inside_contains}
use Rattle.gw_outside.specs.Happened.{Happened, at_address, is_cut}
use Rattle.gw_outside.specs.Sessions.{Fits, IsWorlds, OpenCounts}
use Rattle.gw_outside.specs.Steady.{AskHappens, IsPresent, IsSpared, IsTakenOrSpared, LooksSteadily, TakesAsk, finds, is_good}
use Rattle.gw_outside.specs.declared.backends.Began.{Began}
use Rattle.gw_outside.specs.declared.backends.Began.TheVariants as start
use Rattle.gw_outside.specs.declared.backends.Heard.{Heard}
use Rattle.gw_outside.specs.declared.backends.Heard.TheVariants as look
use Rattle.gw_outside.specs.declared.backends.Opening.{Opening}
use Rattle.gw_outside.specs.declared.backends.Opening.TheVariants as gave
use Rattle.gw_outside.specs.declared.happenings.Happening.{Happening}
use Rattle.pool_sets.specs.Doors.{TakenFits, Takes}
use Rattle.pool_sets.specs.Kept.{slot_name}
use Rattle.pool_sets.specs.Plain.{Pool, address_at, take_of}
use Rattle.pool_sets.specs.Table.{room}
use Rattle.pool_sets.specs.declared.doors.Seat.{Seat}
use Rattle.pool_sets.specs.declared.doors.Taken.{Taken}
use Rattle.pool_sets.specs.declared.doors.Taken.TheVariants as taken
use Rattle.pool_sets.specs.declared.pooled.Parts.{Parts}
use Rattle.package.specs.leg.Accounts.{more}
use Rattle.package.specs.leg.Deeds.{BackendView, CountsMove, Deed, took, opened, began, heard, put_back, gave_up, redialled, no_memory, nothing, looks_after, looks_then, rises_of}
use Rattle.package.specs.leg.Links.{LinksMove}
use Rattle.package.specs.leg.Phases.{hold, is_given, looks_of, replied, with_session}
use Rattle.package.specs.leg.Rules.{after_fault, after_first, after_opened, after_present, after_scan, after_search, after_take, first_ask, gone_again, left_by, next, next_ask, out_of_range, recorded, unless_silent, with_items, with_set}
use Rattle.package.specs.leg.Tasks.{want_of}
use Rattle.package.specs.leg.Terms.{Terms, opened_at, sites}
use Rattle.package.specs.leg.Turns.{IsAsked, IsAskedIf, IsDue, IsLook, PoolMoves}
use Rattle.package.specs.leg.declared.answers.LegAnswer.TheVariants as answer
use Rattle.package.specs.leg.declared.phases.Held.{Held}
use Rattle.package.specs.leg.declared.phases.Phase.{Phase}
use Rattle.package.specs.leg.declared.phases.Phase.TheVariants.{Begin, Dialling, Dialled, Ready, Searching, Presenting, Fetching, Scanning, Returning, Losing, Redialling, Spoiled, Done, Ended}
use Rattle.package.specs.leg.declared.tasks.Task.{Task}
use Rattle.package.specs.leg.declared.tasks.Task.TheVariants.{Hits, Records, Scan}
use Rattle.package_quiet.specs.steps.Bearing.{NoneIsCut, AreBearable, AreCutOnceMade, AreNoWorse, DialsGoOn, FaresAt, HoldsFound, IsBorneAsked, IsBorneAt, IsBorneIn, MayBeGone, MayMiss, is_cut_at, presents_at}
use Rattle.package_quiet.specs.steps.Quiet.{AreTold}
use Rattle.package_quiet.specs.steps.Whole.{AreIdle, IsScan, IsSearchUnder}
use Rattle.package_quiet.proofs.CountLemmas.{GotLink, linked-more, linked-then}
use Rattle.package_quiet.proofs.LegLemmas.{wanted-made}
use Rattle.package_quiet.proofs.PoolLemmas.{GivesWhole, IsGivenWhole, expire-whole, lose-whole, put-whole, redial-whole, take-whole}
use Rattle.package_quiet.proofs.SessionBearing.{IsReply, arrived, ask-fares, at-bearable, look-in-time, look-rests, look-waits, new-fares}

-- ---- what was made to happen

-- at an address, also where it is named otherwise
fewer-at : (old new : Happened) (one other : Address) → AreNoWorse old new → other ≡ one
    → (at_address new other).presents ≤ (at_address old one).presents
fewer-at old new (Test target) other worse e =
    subst (λ (a : Address). (at_address new a).presents ≤ (old.of_target target).presents) (sym e) (worse.presents target)
fewer-at old new (Tcp host port) other worse e =
    subst (λ (a : Address). (at_address new a).presents ≤ 0) (sym e) (omega (arith))
fewer-at old new (Login (site.Test target) login) other worse e =
    subst (λ (a : Address). (at_address new a).presents ≤ (old.of_target target).presents) (sym e) (worse.presents target)
fewer-at old new (Login (site.Tcp host port) login) other worse e =
    subst (λ (a : Address). (at_address new a).presents ≤ 0) (sym e) (omega (arith))

cut-at : (old new : Happened) (one other : Address) → AreNoWorse old new → other ≡ one → (at_address new other).cut ≡ (at_address old one).cut
cut-at old new (Test target) other worse e = ap (λ (a : Address). (at_address new a).cut) e ∙ worse.cut target
cut-at old new (Tcp host port) other worse e = ap (λ (a : Address). (at_address new a).cut) e
cut-at old new (Login (site.Test target) login) other worse e = ap (λ (a : Address). (at_address new a).cut) e ∙ worse.cut target
cut-at old new (Login (site.Tcp host port) login) other worse e = ap (λ (a : Address). (at_address new a).cut) e

-- the number of a link that is not cut
uncut-at : (old new : Happened) (one other : Address) (number same : ℕ) → AreNoWorse old new → other ≡ one → same ≡ number
    → is_cut (at_address old one) number ≡ false → is_cut (at_address new other) same ≡ false
uncut-at old new one other number same worse e f uncut =
    ap (λ (n : ℕ). nat_le same n) (cut-at old new one other worse e) ∙ ap (λ (n : ℕ). nat_le n (at_address old one).cut) f ∙ uncut

-- a link that is made then is not cut
cut-made : (backend : BackendView) (address : Address) → AreCutOnceMade backend → (at_address backend.happened address).cut ≤ backend.counts.dials
cut-made backend (Test target) cuts = cuts target
cut-made backend (Tcp host port) cuts = omega (arith)
cut-made backend (Login (site.Test target) login) cuts = cuts target
cut-made backend (Login (site.Tcp host port) login) cuts = omega (arith)

new-uncut : {S : Type 0} (backend moved : BackendView) (address : Address) (made : Opening S) → AreCutOnceMade backend → GotLink made
    → OpenCounts true made backend.counts moved.counts → DialsGoOn moved.counts
    → is_cut (at_address backend.happened address) moved.counts.dials ≡ false
new-uncut backend moved address made cuts got counts go =
    let last = cut-made backend address cuts in
    let more_ = linked-more made backend.counts moved.counts got counts go in
    lt-leb moved.counts.dials (at_address backend.happened address).cut (omega (arith, last, more_))

-- a Present less is left of those that find their sets deleted
present-less : (address : Address) (name : List ℕ) (first count : ℕ) (syntax element : Option (List ℕ)) (old new : Happened)
    → AskHappens (ask.Present name first count syntax element) address old new
    → (at_address new address).presents ≡ (at_address old address).presents - 1
present-less (Test target) name first count syntax element old new h = ap (λ (x : Happening). x.presents) h.own
present-less (Tcp host port) name first count syntax element old new h = refl
present-less (Login (site.Test target) login) name first count syntax element old new h = ap (λ (x : Happening). x.presents) h.own
present-less (Login (site.Tcp host port) login) name first count syntax element old new h = refl

-- one that finds none leaves room for one set that is gone
finds-none : (happening : Happening) (holds : List ℕ → Bool) (name : List ℕ) (gones repeats left : ℕ) → gones + happening.presents ≤ repeats
    → left ≡ happening.presents - 1 → (holds name ≡ false → gones < repeats) → finds happening holds name ≡ false
    → (gones < repeats) × (gones + left < repeats)
finds-none happening holds name gones repeats left few is may none =
    elim (cases_lt 0 happening.presents) [
      | inl some ↦ (omega (arith, few, some), omega (arith, few, some, is))
      | inr zero ↦
          let nothing_ : happening.presents ≡ 0 = omega (arith, zero) in
          let missing : holds name ≡ false = sym (ap (λ (n : ℕ). cond (nat_lt 0 n) false (holds name)) nothing_) ∙ none in
          let room_ = may missing in (room_, omega (arith, is, nothing_, room_))
    ]

-- where none is cut this one is not
none-is-cut : (h : Happened) (address : Address) (number : ℕ) → NoneIsCut h → 1 ≤ number → is_cut (at_address h address) number ≡ false
none-is-cut h (Test target) number none linked =
    lt-leb number (h.of_target target).cut (let zero_ = none target in omega (arith, zero_, linked))
none-is-cut h (Tcp host port) number none linked = lt-leb number 0 (omega (arith, linked))
none-is-cut h (Login (site.Test target) login) number none linked =
    lt-leb number (h.of_target target).cut (let zero_ = none target in omega (arith, zero_, linked))
none-is-cut h (Login (site.Tcp host port) login) number none linked = lt-leb number 0 (omega (arith, linked))

neither-is : {A : Type 0} → true ≡ false → A
neither-is e = absurd cc

-- ---- a leg stays where it stands

module _ {W S : Type 0} (w : world.Ghosts W) (t : sitting.Ghosts S W) (terms : Terms) (old new : Happened) (worse : AreNoWorse old new) where
  held-stays : (waits : Pending) (looks : ℕ) (held : Held S) (gones : ℕ) → IsBorneAt w t terms old waits looks held gones
      → IsBorneAt w t terms new waits looks held gones
  held-stays waits looks held gones is = record {
    at = is.at;
    uncut = λ own. uncut-at old new (t.address held.parts.session) (t.address held.parts.session) (t.link held.parts.session).number
        (t.link held.parts.session).number worse refl refl (is.uncut own);
    first = is.first;
    few_gone = (let few = is.few_gone in let less = fewer-at old new (t.address held.parts.session) (t.address held.parts.session) worse refl in
        omega (arith, few, less));
  }

  asked-stays : (IsSo : Ask → Type 0) (looks : ℕ) (held : Held S) (gones : ℕ) → IsBorneAsked w t terms old IsSo looks held gones
      → IsBorneAsked w t terms new IsSo looks held gones
  asked-stays IsSo looks held gones is = record { ask = is.ask; at = held-stays (asked is.ask) looks held gones is.at; is_so = is.is_so }

  may-stays : (session : S) (gones : ℕ) → MayBeGone w t terms old session gones → MayBeGone w t terms new session gones
  may-stays session gones may gone =
      let room_ = may gone in let less = fewer-at old new (t.address session) (t.address session) worse refl in omega (arith, room_, less)

  pub leg-stays : (phase : Phase S) (gones : ℕ) → IsBorneIn w t terms old phase gones → IsBorneIn w t terms new phase gones
  leg-stays Begin gones is = is
  leg-stays (Dialling seat member) gones is = is
  leg-stays (Dialled held looks) gones is = held-stays opening looks held gones is
  leg-stays (Ready held items) gones is = held-stays resting 0 held gones is
  leg-stays (Searching held items slot looks) gones is = asked-stays (IsSearchUnder slot) looks held gones is
  leg-stays (Presenting held items slot hits) gones is = (held-stays resting 0 held gones is.0, is.1)
  leg-stays (Fetching held items slot hits looks) gones is = (asked-stays IsPresent looks held gones is.0, is.1, may-stays held.parts.session gones is.2)
  leg-stays (Scanning held looks) gones is = asked-stays IsScan looks held gones is
  leg-stays (Returning held own) gones is = is
  leg-stays (Losing seat own) gones is = tt
  leg-stays (Redialling seat) gones is = is
  leg-stays (Spoiled seat) gones is = tt
  leg-stays (Done own) gones is = tt
  leg-stays Ended gones is = tt

-- ---- what a reply may be

search-stands : (slot : ℕ) (asks : Ask) → IsSearchUnder slot asks → Fits (asked asks) look.Gone → ⊥
search-stands slot (ask.Search name key) is fits = fits
search-stands slot (ask.Present name first count syntax element) is fits = is
search-stands slot (ask.Scan dbs scan) is fits = is

scan-stands : (asks : Ask) → IsScan asks → Fits (asked asks) look.Gone → ⊥
scan-stands (ask.Search name key) is fits = is
scan-stands (ask.Present name first count syntax element) is fits = is
scan-stands (ask.Scan dbs scan) is fits = fits

-- the set of a search that was heard to have hits is held
hits-held : {W : Type 0} (w : world.Ghosts W) (terms : Terms) (address : Address) (slot hits : ℕ) (asks : Ask) (made : _) (holds : List ℕ → Bool)
    → IsSearchUnder slot asks → HoldsFound w terms.pool address (asked asks) holds → IsWorlds w address made (asked asks) (look.Hits hits)
    → holds (slot_name slot) ≡ true
hits-held w terms address slot hits (ask.Search name key) made holds is found worlds =
    subst (λ (n : List ℕ). holds n ≡ true) is (found (ap is_good worlds))
hits-held w terms address slot hits (ask.Present name first count syntax element) made holds is found worlds = absurd is
hits-held w terms address slot hits (ask.Scan dbs scan) made holds is found worlds = absurd is

-- a reply that a leg bears: it comes in time, no more sets are gone than may be, and a call that failed was over a session that the pool gave
abbrev MayHear : Terms → Heard → (given : Bool) → (looks gones : ℕ) → Type 0
MayHear terms look.NotYet given looks gones = looks + 1 < terms.pool.patience
MayHear terms look.Gone given looks gones = gones < terms.pool.repeats
MayHear terms look.Failed given looks gones = given ≡ true
MayHear terms reply given looks gones = Unit {0}

not-spent : (failed given : Bool) → given ≡ true → (failed && not given) ≡ false
not-spent true true e = refl
not-spent false true e = refl
not-spent failed false e = absurd cc

heard-looks : (terms : Terms) (reply : Heard) (given : Bool) (looks gones : ℕ) → 0 < terms.pool.patience → MayHear terms reply given looks gones
    → looks_then looks reply < terms.pool.patience
heard-looks terms look.Opened given looks gones some may = some
heard-looks terms (look.Hits hits) given looks gones some may = some
heard-looks terms (look.Refused diag) given looks gones some may = some
heard-looks terms (look.Items items) given looks gones some may = some
heard-looks terms look.Gone given looks gones some may = some
heard-looks terms (look.Scanned entries) given looks gones some may = some
heard-looks terms look.NotYet given looks gones some may = may
heard-looks terms look.Failed given looks gones some may = some
heard-looks terms look.Memory given looks gones some may = some

module _ {S : Type 0} (terms : Terms) (want : Option SetKey) where
  heard-spends : (reply : Heard) (session : S) (given : Bool) (looks gones : ℕ) → MayHear terms reply given looks gones
      → ((rises_of want (heard reply session)).faults && not given) ≡ false
  heard-spends look.Opened session given looks gones may = refl
  heard-spends (look.Hits hits) session given looks gones may = refl
  heard-spends (look.Refused diag) session given looks gones may = refl
  heard-spends (look.Items items) session given looks gones may = refl
  heard-spends look.Gone session given looks gones may = refl
  heard-spends (look.Scanned entries) session given looks gones may = refl
  heard-spends look.NotYet session given looks gones may = refl
  heard-spends look.Failed session given looks gones may = not-spent true given may
  heard-spends look.Memory session given looks gones may = refl

  heard-few : (reply : Heard) (session : S) (given : Bool) (looks gones : ℕ) → gones ≤ terms.pool.repeats → MayHear terms reply given looks gones
      → more (rises_of want (heard reply session)).gones gones ≤ terms.pool.repeats
  heard-few look.Opened session given looks gones few may = few
  heard-few (look.Hits hits) session given looks gones few may = few
  heard-few (look.Refused diag) session given looks gones few may = few
  heard-few (look.Items items) session given looks gones few may = few
  heard-few look.Gone session given looks gones few may = omega (arith, may)
  heard-few (look.Scanned entries) session given looks gones few may = few
  heard-few look.NotYet session given looks gones few may = few
  heard-few look.Failed session given looks gones few may = few
  heard-few look.Memory session given looks gones few may = few

-- ---- where a leg goes

module _ {W S : Type 0} (w : world.Ghosts W) (t : sitting.Ghosts S W) (terms : Terms) (h : Happened) where
  abbrev In : Phase S → ℕ → Type 0
  In phase gones = IsBorneIn w t terms h phase gones

  abbrev Held_ : Pending → ℕ → Held S → ℕ → Type 0
  Held_ waits looks held gones = IsBorneAt w t terms h waits looks held gones

  fault-borne : (waits : Pending) (looks : ℕ) (held : Held S) (gones : ℕ) → Held_ waits looks held gones → In (after_fault held) gones
  fault-borne waits looks held gones is = (elim held.given as (λ (b : Bool). (b ≡ true → gones ≡ 0) → In (cond b (Redialling held.seat) (Losing held.seat (answer.Marked mark.Link))) gones) [
    | true ↦ λ first. first refl
    | false ↦ λ first. tt
  ]) is.first

  silent-borne : (patience looks gones : ℕ) (held : Held S) (again : Phase S) → In again gones → In (unless_silent patience held looks again) gones
  silent-borne patience looks gones held again is = (elim (nat_le patience looks) as (λ (b : Bool). In (cond b (Losing held.seat (answer.Marked (mark.Silent patience))) again) gones) [
    | true ↦ tt
    | false ↦ is
  ])

  recorded-borne : (want : Option SetKey) (slot hits now : ℕ) (held : Held S) (gones : ℕ) → Held_ resting 0 held gones
      → Held_ resting 0 (recorded want slot hits now held) gones
  recorded-borne None slot hits now held gones is = is
  recorded-borne (Some key) slot hits now held gones is = record { at = is.at; uncut = is.uncut; first = is.first; few_gone = is.few_gone }

  recorded-may : (want : Option SetKey) (slot hits now : ℕ) (held : Held S) (gones : ℕ) → MayMiss w t terms h slot held.parts.session gones
      → MayMiss w t terms h slot (recorded want slot hits now held).parts.session gones
  recorded-may None slot hits now held gones may = may
  recorded-may (Some key) slot hits now held gones may = may

  set-borne : (task : Task) (held : Held S) (items : List Item) (slot hits gones : ℕ) → Held_ resting 0 held gones
      → MayMiss w t terms h slot held.parts.session gones → In (with_set task held items slot hits) gones
  set-borne (Hits key) held items slot hits gones is may = is.at
  set-borne (Scan scan) held items slot hits gones is may = tt
  set-borne (Records key first count syntax element) held items slot hits gones is may =
      (elim (nat_lt hits (first + (count - 1))) as (λ (b : Bool). In (cond b (Returning held (answer.Broken items out_of_range)) (Presenting held items slot hits)) gones) [
        | true ↦ is.at
        | false ↦ (is, may)
      ])

  items-borne : (task : Task) (held : Held S) (items : List Item) (slot hits gones : ℕ) → Held_ resting 0 held gones
      → MayMiss w t terms h slot held.parts.session gones → In (with_items task held items slot hits) gones
  items-borne (Hits key) held items slot hits gones is may = tt
  items-borne (Scan scan) held items slot hits gones is may = tt
  items-borne (Records key first count syntax element) held items slot hits gones is may =
      (elim (nat_lt (length items) count) as (λ (b : Bool). In (cond b (Presenting held items slot hits) (Returning held (answer.Items items))) gones) [
        | true ↦ (is, may)
        | false ↦ is.at
      ])

  again-borne : (repeats gones : ℕ) (held : Held S) (items : List Item) → Held_ resting 0 held gones → In (gone_again repeats gones held items) gones
  again-borne repeats gones held items is = (elim (nat_le gones repeats) as (λ (b : Bool). In (cond b (Ready held items) (Returning held (answer.Marked mark.Gone))) gones) [
    | true ↦ is
    | false ↦ is.at
  ])

-- ---- one deed

module _ {W S : Type 0} (w : world.Ghosts W) (t : sitting.Ghosts S W) (terms : Terms) (most : ℕ) (task : Task) (now gones : ℕ)
    (backend moved : BackendView) (p : Pool S) (behind : Option (Pool S)) (told : AreTold w (sites terms))
    (bearable : AreBearable terms.pool backend.happened) (cuts : AreCutOnceMade backend) (go : DialsGoOn moved.counts)
    (worse : AreNoWorse backend.happened moved.happened)
    (few : gones ≤ terms.pool.repeats) (are : AreIdle (FaresAt w t terms.pool resting 0) (Some p))
    (uncut : t.keeps ≡ true → NoneIsCut backend.happened) where
  abbrev before_ : Happened
  before_ = backend.happened

  abbrev behind_ : Happened
  behind_ = moved.happened

  abbrev Are : Option (Pool S) → Type 0
  Are pool = AreIdle (FaresAt w t terms.pool resting 0) pool

  -- how many sets were gone behind it
  abbrev pub gones_after : Deed S → ℕ
  gones_after deed = more (rises_of (want_of task) deed).gones gones

  -- the leg bears it, and so do the sessions of the pool
  pub record FaresOn (old : Phase S) (deed : Deed S) : Type 0 where
    pub spends : ((rises_of (want_of task) deed).faults && not (is_given old)) ≡ false
    pub in_time : looks_after (looks_of old) deed < terms.pool.patience
    pub few_gone : gones_after deed ≤ terms.pool.repeats
    pub stands : IsBorneIn w t terms moved.happened (next terms task now (gones_after deed) old deed) (gones_after deed)
    pub left : IsBorneIn w t terms moved.happened (left_by old deed) (gones_after deed)
    pub pool : Are behind

  some-patience : 0 < terms.pool.patience
  some-patience = let early = (bearable.each 0).delay in omega (arith, early)

  same-pool : behind ≡ Some p → Are behind
  same-pool e = subst (λ (q : Option (Pool S)). Are q) (sym e) are

  moved-pool : {q : Pool S} → behind ≡ Some q → Are (Some q) → Are behind
  moved-pool e k = subst (λ (x : Option (Pool S)). Are x) (sym e) k

  member-told : (member : ℕ) → member < length terms.at → w.told (opened_at terms member)
  member-told member within = told (opened_at terms member)
      (inside_contains terms.login terms.at (address_at terms.at member) (Contains-get_or terms.at member (Test 0) within))

  abbrev Was : Pending → ℕ → Held S → ℕ → Type 0
  Was waits looks held gone = IsBorneAt w t terms before_ waits looks held gone

  abbrev Is : Pending → ℕ → Held S → ℕ → Type 0
  Is waits looks held gone = IsBorneAt w t terms behind_ waits looks held gone

  -- nothing was called but the clock
  stays-so : (phase : Phase S) → IsBorneIn w t terms before_ phase gones → IsBorneIn w t terms behind_ phase gones
  stays-so phase is = leg-stays w t terms before_ behind_ worse phase gones is

  -- ---- a session goes on

  goes-on : (held : Held S) (after : S) (waits then_ : Pending) (looks later : ℕ) → Was waits looks held gones
      → t.address after ≡ t.address held.parts.session → (t.link after).number ≡ (t.link held.parts.session).number
      → FaresAt w t terms.pool then_ later after → Is then_ later (with_session after held) gones
  goes-on held after waits then_ looks later is at number fares = record {
    at = fares;
    uncut = λ own. uncut-at before_ behind_ (t.address held.parts.session) (t.address after) (t.link held.parts.session).number
        (t.link after).number worse at number (is.uncut own);
    first = is.first;
    few_gone = (let own = is.few_gone in let less = fewer-at before_ behind_ (t.address held.parts.session) (t.address after) worse at in
        omega (arith, own, less));
  }

  -- it replied, over a link that is not cut
  has-replied : (held : Held S) (after : S) (counted_ : ℕ) → is_cut_at t before_ held.parts.session ≡ false
      → counted_ + presents_at t before_ held.parts.session ≤ terms.pool.repeats
      → t.address after ≡ t.address held.parts.session → (t.link after).number ≡ (t.link held.parts.session).number
      → FaresAt w t terms.pool resting 0 after → Is resting 0 (replied after held) counted_
  has-replied held after counted_ uncut own at number fares = record {
    at = fares;
    uncut = λ no. uncut-at before_ behind_ (t.address held.parts.session) (t.address after) (t.link held.parts.session).number
        (t.link after).number worse at number uncut;
    first = λ wrong. neither-is (sym wrong);
    few_gone = (let less = fewer-at before_ behind_ (t.address held.parts.session) (t.address after) worse at in omega (arith, own, less));
  }

  -- what fails is over a session that the pool gave
  was-given : (waits : Pending) (looks : ℕ) (held : Held S) → Was waits looks held gones → is_cut_at t before_ held.parts.session ≡ true
      → held.given ≡ true
  was-given waits looks held is cut = (elim held.given as (λ (b : Bool). (b ≡ false → is_cut_at t before_ held.parts.session ≡ false) → b ≡ true) [
    | true ↦ λ uncut. refl
    | false ↦ λ uncut. neither-is (sym cut ∙ uncut refl)
  ]) is.uncut

  -- ---- a take

  taken-whole : (gives : Taken S) (q : Pool S) → (gives, q) ≡ take_of terms.class terms.at terms.login (want_of task) now p
      → GivesWhole (FaresAt w t terms.pool resting 0) (gives, q)
  taken-whole gives q e =
      subst (λ (r : Taken S × Pool S). GivesWhole (FaresAt w t terms.pool resting 0) r) (sym e)
      (take-whole (FaresAt w t terms.pool resting 0) terms.class terms.at terms.login (want_of task) now p are)

  took-whole : (gives : Taken S) (q : Option (Pool S)) → Takes (Some p) q terms.class terms.at terms.login (want_of task) now gives
      → IsGivenWhole (FaresAt w t terms.pool resting 0) gives × Are q
  took-whole gives None k = absurd k
  took-whole taken.Memory (Some q) k =
      (tt, subst (λ (r : Pool S). Are (Some r)) (sym k) (expire-whole (FaresAt w t terms.pool resting 0) now p are))
  took-whole (taken.Reuse seat parts slot hits) (Some q) k = taken-whole (taken.Reuse seat parts slot hits) q k
  took-whole (taken.Fresh seat parts) (Some q) k = taken-whole (taken.Fresh seat parts) q k
  took-whole (taken.Dial seat member) (Some q) k = taken-whole (taken.Dial seat member) q k
  took-whole (taken.Full open_) (Some q) k = taken-whole (taken.Full open_) q k

  -- a session that the pool gave, while no set was gone
  given-borne : (seat : Seat) (parts : Parts S) → gones ≡ 0 → FaresAt w t terms.pool resting 0 parts.session → Is resting 0 (hold seat parts true) gones
  given-borne seat parts none fares = record {
    at = fares;
    uncut = λ own. neither-is own;
    first = λ own. none;
    few_gone = (let least = (at-bearable terms.pool before_ (t.address parts.session) bearable).presents in
        let less = fewer-at before_ behind_ (t.address parts.session) (t.address parts.session) worse refl in omega (arith, least, less, none));
  }

  -- its set is there where none is ever deleted
  given-may : (parts : Parts S) (slot : ℕ) → gones ≡ 0 → FaresAt w t terms.pool resting 0 parts.session
      → is_some (t.made parts.session (slot_name slot)) ≡ true → MayMiss w t terms behind_ slot parts.session gones
  given-may parts slot none fares made missing =
      elim (cases_lt 0 terms.pool.repeats) [
        | inl some ↦ omega (arith, some, none)
        | inr never_ ↦ neither-is (sym (fares.fares.holds (omega (arith, never_)) (slot_name slot) made) ∙ missing)
      ]

  take-stands : (gives : Taken S) → gones ≡ 0 → TakenFits w t terms.class terms.at terms.login (want_of task) most gives
      → IsGivenWhole (FaresAt w t terms.pool resting 0) gives → IsBorneIn w t terms behind_ (after_take task gives) gones
  take-stands (taken.Reuse seat parts slot hits) none fits fares =
      set-borne w t terms behind_ task (hold seat parts true) [] slot hits gones (given-borne seat parts none fares)
      (given-may parts slot none fares (wanted-made w t (want_of task) parts slot hits fits.0.kept fits.1))
  take-stands (taken.Fresh seat parts) none fits fares = given-borne seat parts none fares
  take-stands (taken.Dial seat member) none fits fares = (member-told member fits.1, none)
  take-stands (taken.Full open_) none fits fares = tt
  take-stands taken.Memory none fits fares = none

  take-left : (gives : Taken S) → gones ≡ 0 → IsBorneIn w t terms behind_ (left_by Begin (took gives)) gones
  take-left (taken.Reuse seat parts slot hits) none = tt
  take-left (taken.Fresh seat parts) none = none
  take-left (taken.Dial seat member) none = none
  take-left (taken.Full open_) none = none
  take-left taken.Memory none = none

  take-goes : (gives : Taken S) → gones ≡ 0 → TakenFits w t terms.class terms.at terms.login (want_of task) most gives
      → Takes (Some p) behind terms.class terms.at terms.login (want_of task) now gives → FaresOn Begin (took gives)
  take-goes gives none fits k =
      let both = took-whole gives behind k in record {
        spends = refl;
        in_time = some-patience;
        few_gone = few;
        stands = take-stands gives none fits both.0;
        left = take-left gives none;
        pool = both.1;
      }

  -- ---- an opening

  open-goes : (seat : Seat) (member : ℕ) (made : _) → IsDue w t terms most task (Dialling seat member) (opened made)
      → LinksMove w t true terms backend moved (opened made) (Dialling seat member)
      → CountsMove w t true (opened made) backend.counts moved.counts
      → w.told (opened_at terms member) → gones ≡ 0 → behind ≡ Some p
      → FaresOn (Dialling seat member) (opened made)
  open-goes seat member (gave.Session session) due links counts at none k =
      let steady = links at bearable.steady in
      let uncut = new-uncut backend moved (opened_at terms member) (gave.Session session) cuts tt counts go in record {
        spends = refl;
        in_time = some-patience;
        few_gone = few;
        stands = record {
          at = new-fares w t terms.pool (opened_at terms member) before_ moved.counts.dials session bearable at
              (linked-then (gave.Session session) backend.counts moved.counts tt counts) due steady;
          uncut = λ own. uncut-at before_ behind_ (opened_at terms member) (t.address session) moved.counts.dials (t.link session).number worse
              due.same_address (steady.number refl) uncut;
          first = λ wrong. neither-is (sym wrong);
          few_gone = (let least = (at-bearable terms.pool before_ (opened_at terms member) bearable).presents in
              let less = fewer-at before_ behind_ (opened_at terms member) (t.address session) worse due.same_address in
              omega (arith, least, less, none));
        };
        left = tt;
        pool = same-pool k;
      }
  open-goes seat member (gave.Failed made) due links counts at none k =
      let failed = links at bearable.steady in
      neither-is (sym (failed.1 refl) ∙ new-uncut {S = S} backend moved (opened_at terms member) (gave.Failed made) cuts failed.0 counts go)
  open-goes seat member gave.Memory due links counts at none k =
      record { spends = refl; in_time = some-patience; few_gone = few; stands = tt; left = tt; pool = same-pool k }

  -- ---- an ask

  -- the search or the scan that is first
  first-stands : (held : Held S) (items : List Item) (asks : Ask) (session : S) → asks ≡ first_ask terms.dbs task held
      → Is (asked asks) 0 (with_session session held) gones → IsBorneIn w t terms behind_ (after_first task held items start.Started session) gones
  first-stands held items asks session same is = started task same
    where
      started : (doing : Task) → asks ≡ first_ask terms.dbs doing held
          → IsBorneIn w t terms behind_ (after_first doing held items start.Started session) gones
      started (Hits key) e = record {
        ask = asks;
        at = record { at = is.at; uncut = is.uncut; first = is.first; few_gone = is.few_gone };
        is_so = subst (λ (a : Ask). IsSearchUnder (room held.parts.table) a) (sym e) refl;
      }
      started (Records key first count syntax element) e = record {
        ask = asks;
        at = record { at = is.at; uncut = is.uncut; first = is.first; few_gone = is.few_gone };
        is_so = subst (λ (a : Ask). IsSearchUnder (room held.parts.table) a) (sym e) refl;
      }
      started (Scan scan) e = record { ask = asks; at = is; is_so = subst (λ (a : Ask). IsScan a) (sym e) tt }

  first-goes : (held : Held S) (items : List Item) (asks : Ask) (reply : Began) (session : S)
      → IsAsked w t (first_ask terms.dbs task held) asks held.parts.session session reply
      → LinksMove w t true terms backend moved (began asks reply session) (Ready held items)
      → Was resting 0 held gones → behind ≡ Some p → FaresOn (Ready held items) (began asks reply session)
  first-goes held items asks start.Started session due links is k =
      let steady = links is.at.fares.told bearable.steady in record {
        spends = refl;
        in_time = some-patience;
        few_gone = few;
        stands = first-stands held items asks session due.asks
            (goes-on held session resting (asked asks) 0 0 is due.address steady.number
            (ask-fares w t terms.pool (first_ask terms.dbs task held) asks held.parts.session session before_ behind_ bearable is.at due steady));
        left = tt;
        pool = same-pool k;
      }
  first-goes held items asks start.Failed session due links is k =
      let given = was-given resting 0 held is (links is.at.fares.told bearable.steady).taken in record {
        spends = not-spent true held.given given;
        in_time = some-patience;
        few_gone = few;
        stands = fault-borne w t terms behind_ resting 0 held gones (held-stays w t terms before_ behind_ worse resting 0 held gones is);
        left = tt;
        pool = same-pool k;
      }
  first-goes held items asks start.Memory session due links is k =
      record { spends = refl; in_time = some-patience; few_gone = few; stands = tt; left = tt; pool = same-pool k }

  -- a Present
  present-takes : (held : Held S) (slot first count : ℕ) (syntax element : Option (List ℕ)) (session : S) → Was resting 0 held gones
      → MayMiss w t terms before_ slot held.parts.session gones → t.address session ≡ t.address held.parts.session
      → TakesAsk w (t.address held.parts.session) (ask.Present (slot_name slot) first count syntax element) (t.link held.parts.session) (t.link session)
      before_ behind_
      → MayMiss w t terms behind_ slot session gones × MayBeGone w t terms behind_ session gones
  present-takes held slot first count syntax element session is may at taken_ =
      let address = t.address held.parts.session in
      let holds = (t.link held.parts.session).holds in
      let left : presents_at t behind_ session ≡ presents_at t before_ held.parts.session - 1 =
      ap (λ (a : Address). (at_address behind_ a).presents) at
      ∙ present-less address (slot_name slot) first count syntax element before_ behind_ taken_.happened in
      let none : finds (at_address before_ address) holds (slot_name slot) ≡ false → (gones < terms.pool.repeats)
      × (gones + presents_at t behind_ session < terms.pool.repeats) =
      finds-none (at_address before_ address) holds (slot_name slot) gones terms.pool.repeats (presents_at t behind_ session) is.few_gone left may in (
        λ missing. (none (sym (taken_.holds (slot_name slot)) ∙ missing)).0,
        λ gone. (none (taken_.gone gone)).1,
      )

  -- one that is spared the link leaves the set where it was
  spared-takes : (held : Held S) (slot : ℕ) (asks : Ask) (session : S) → Was resting 0 held gones
      → MayMiss w t terms before_ slot held.parts.session gones
      → IsSpared t.keeps asks (t.link held.parts.session) (t.link session) before_ behind_
      → MayMiss w t terms behind_ slot session gones × MayBeGone w t terms behind_ session gones
  spared-takes held slot asks session is may h = (
    λ missing. may (sym (h.holds (slot_name slot)) ∙ missing),
    λ gone. neither-is (sym gone ∙ h.gone),
  )

  begun-takes : (held : Held S) (slot first count : ℕ) (syntax element : Option (List ℕ)) (session : S) → Was resting 0 held gones
      → MayMiss w t terms before_ slot held.parts.session gones → t.address session ≡ t.address held.parts.session
      → IsTakenOrSpared w t.keeps (t.address held.parts.session) (ask.Present (slot_name slot) first count syntax element) (t.link held.parts.session)
      (t.link session) before_ behind_
      → MayMiss w t terms behind_ slot session gones × MayBeGone w t terms behind_ session gones
  begun-takes held slot first count syntax element session is may at (inl h) = present-takes held slot first count syntax element session is may at h
  begun-takes held slot first count syntax element session is may at (inr h) =
      spared-takes held slot (ask.Present (slot_name slot) first count syntax element) session is may h

  next-goes : (held : Held S) (items : List Item) (slot hits : ℕ) (asks : Ask) (reply : Began) (session : S) (doing : Task) → doing ≡ task
      → IsAskedIf w t (next_ask doing items slot) asks held.parts.session session reply
      → LinksMove w t true terms backend moved (began asks reply session) (Presenting held items slot hits)
      → Was resting 0 held gones → MayMiss w t terms before_ slot held.parts.session gones → behind ≡ Some p
      → FaresOn (Presenting held items slot hits) (began asks reply session)
  next-goes held items slot hits asks reply session (Hits key) e due links is may k = absurd due
  next-goes held items slot hits asks reply session (Scan scan) e due links is may k = absurd due
  next-goes held items slot hits asks start.Started session (Records key first count syntax element) e due links is may k =
      let steady = links is.at.fares.told bearable.steady in
      let both = begun-takes held slot (first + length items) (count - length items) syntax element session is may due.address
      (subst (λ (a : Ask). IsTakenOrSpared w t.keeps (t.address held.parts.session) a (t.link held.parts.session) (t.link session) before_ behind_) due.asks steady.taken) in
      record {
        spends = refl;
        in_time = some-patience;
        few_gone = few;
        stands = (
          record {
            ask = asks;
            at = goes-on held session resting (asked asks) 0 0 is due.address steady.number
                (ask-fares w t terms.pool _ asks held.parts.session session before_ behind_ bearable is.at due steady);
            is_so = subst (λ (a : Ask). IsPresent a) (sym due.asks) tt;
          },
          both.0,
          both.1,
        );
        left = tt;
        pool = same-pool k;
      }
  next-goes held items slot hits asks start.Failed session (Records key first count syntax element) e due links is may k =
      let given = was-given resting 0 held is (links is.at.fares.told bearable.steady).taken in record {
        spends = not-spent true held.given given;
        in_time = some-patience;
        few_gone = few;
        stands = fault-borne w t terms behind_ resting 0 held gones (held-stays w t terms before_ behind_ worse resting 0 held gones is);
        left = tt;
        pool = same-pool k;
      }
  next-goes held items slot hits asks start.Memory session (Records key first count syntax element) e due links is may k =
      record { spends = refl; in_time = some-patience; few_gone = few; stands = tt; left = tt; pool = same-pool k }

  -- ---- a look

  module _ (held : Held S) (waits : Pending) (looks : ℕ) (session : S) (is : Was waits looks held gones) (pends : IsPending waits) where
    abbrev Steady : Heard → Type 0
    Steady reply = LooksSteadily t.keeps (t.address held.parts.session) before_ (t.link held.parts.session) (t.link session) reply

    abbrev Looks : Heard → Type 0
    Looks reply = IsLook w t held.parts.session session reply

    -- what is heard is borne
    may-hear : (reply : Heard) → Looks reply → Steady reply → (reply ≡ look.Gone → gones < terms.pool.repeats)
        → MayHear terms reply held.given looks gones
    may-hear look.Opened l steady gone = tt
    may-hear (look.Hits hits) l steady gone = tt
    may-hear (look.Refused diag) l steady gone = tt
    may-hear (look.Items items) l steady gone = tt
    may-hear look.Gone l steady gone = gone refl
    may-hear (look.Scanned entries) l steady gone = tt
    may-hear look.NotYet l steady gone = look-in-time w t terms.pool waits looks held.parts.session session before_ pends is.at steady
    may-hear look.Failed l steady gone = was-given waits looks held is (steady.fails refl)
    may-hear look.Memory l steady gone = tt

    -- a look in vain
    waits-on : Looks look.NotYet → Steady look.NotYet → Is waits (looks + 1) (with_session session held) gones
    waits-on l steady =
        goes-on held session waits waits looks (looks + 1) is l.address steady.number
        (look-waits w t terms.pool waits looks held.parts.session session before_ pends is.at l steady)

    -- a reply comes over a link that is not cut; where records are kept none is
    reply-uncut : (reply : Heard) → IsReply reply → Steady reply → is_cut_at t before_ held.parts.session ≡ false
    reply-uncut reply so steady = (elim t.keeps as (λ (b : Bool). t.keeps ≡ b → is_cut_at t before_ held.parts.session ≡ false) [
      | true ↦ λ keeps. none-is-cut before_ (t.address held.parts.session) (t.link held.parts.session).number (uncut keeps) is.at.fares.linked
      | false ↦ λ own. steady.arrives own (arrived reply so)
    ]) refl

    -- a reply
    replies : (reply : Heard) (counted_ : ℕ) → IsReply reply → Looks reply → Steady reply
        → counted_ + presents_at t before_ held.parts.session ≤ terms.pool.repeats → Is resting 0 (replied session held) counted_
    replies reply counted_ so l steady own =
        has-replied held session counted_ (reply-uncut reply so steady) own l.address steady.number
        (look-rests w t terms.pool waits looks held.parts.session session before_ pends is.at reply so l steady)

    failed-stands : IsBorneIn w t terms behind_ (after_fault held) gones
    failed-stands = fault-borne w t terms behind_ waits looks held gones (held-stays w t terms before_ behind_ worse waits looks held gones is)

    -- what is counted, with where it stands then
    look-goes : (old : Phase S) (reply : Heard) → is_given old ≡ held.given → looks_of old ≡ looks → MayHear terms reply held.given looks gones
        → IsBorneIn w t terms behind_ (next terms task now (gones_after (heard reply session)) old (heard reply session)) (gones_after (heard reply session))
        → IsBorneIn w t terms behind_ (left_by old (heard reply session)) (gones_after (heard reply session))
        → behind ≡ Some p → FaresOn old (heard reply session)
    look-goes old reply own same may stands left k = record {
      spends = subst (λ (b : Bool). ((rises_of (want_of task) (heard reply session)).faults && not b) ≡ false) (sym own)
          (heard-spends terms (want_of task) reply session held.given looks gones may);
      in_time = subst (λ (n : ℕ). looks_then n reply < terms.pool.patience) (sym same)
          (heard-looks terms reply held.given looks gones some-patience may);
      few_gone = heard-few terms (want_of task) reply session held.given looks gones few may;
      stands = stands;
      left = left;
      pool = same-pool k;
    }

  -- the reply to the Init
  dialled-stands : (held : Held S) (looks : ℕ) (reply : Heard) (session : S) → Was opening looks held gones
      → IsLook w t held.parts.session session reply
      → LooksSteadily t.keeps (t.address held.parts.session) before_ (t.link held.parts.session) (t.link session) reply
      → IsBorneIn w t terms behind_ (after_opened terms.pool.patience held looks reply session) (gones_after (heard reply session))
  dialled-stands held looks look.Opened session is l steady = replies held opening looks session is tt look.Opened gones tt l steady is.few_gone
  dialled-stands held looks (look.Hits found) session is l steady = tt
  dialled-stands held looks (look.Refused diag) session is l steady = tt
  dialled-stands held looks (look.Items more_) session is l steady = tt
  dialled-stands held looks look.Gone session is l steady = tt
  dialled-stands held looks (look.Scanned entries) session is l steady = tt
  dialled-stands held looks look.NotYet session is l steady =
      silent-borne w t terms behind_ terms.pool.patience (looks + 1) gones held (Dialled (with_session session held) (looks + 1))
      (waits-on held opening looks session is tt l steady)
  dialled-stands held looks look.Failed session is l steady = failed-stands held opening looks session is tt
  dialled-stands held looks look.Memory session is l steady = tt

  dialled-goes : (held : Held S) (looks : ℕ) (reply : Heard) (session : S) → IsLook w t held.parts.session session reply
      → LinksMove w t true terms backend moved (heard reply session) (Dialled held looks)
      → Was opening looks held gones
      → behind ≡ Some p → FaresOn (Dialled held looks) (heard reply session)
  dialled-goes held looks reply session l links is k =
      let steady = links is.at.fares.told bearable.steady in
      look-goes held opening looks session is tt (Dialled held looks) reply refl refl
      (may-hear held opening looks session is tt reply l steady
      (λ e. absurd (subst (λ (r : Heard). Fits opening r) e (subst (λ (x : Pending). Fits x reply) is.at.waits l.fits))))
      (dialled-stands held looks reply session is l steady) tt k

  -- to a search
  searched-stands : (held : Held S) (items : List Item) (slot looks : ℕ) (reply : Heard) (session : S)
      → (is : IsBorneAsked w t terms before_ (IsSearchUnder slot) looks held gones)
      → IsLook w t held.parts.session session reply
      → LooksSteadily t.keeps (t.address held.parts.session) before_ (t.link held.parts.session) (t.link session) reply
      → (reply ≡ look.Gone → ⊥)
      → IsBorneIn w t terms behind_ (after_search terms task now held items slot looks reply session) (gones_after (heard reply session))
  searched-stands held items slot looks look.Opened session is l steady fits = tt
  searched-stands held items slot looks (look.Hits found) session is l steady fits =
      let stands = replies held (asked is.ask) looks session is.at tt (look.Hits found) gones tt l steady is.at.few_gone in
      let there : (t.link session).holds (slot_name slot) ≡ true =
      steady.holds (slot_name slot)
      ∙ hits-held w terms (t.address held.parts.session) slot found is.ask (t.made held.parts.session) (t.link held.parts.session).holds is.is_so
      is.at.at.fares.found
      (subst (λ (x : Pending). IsWorlds w (t.address held.parts.session) (t.made held.parts.session) x (look.Hits found)) is.at.at.waits
      (l.worlds is.at.at.fares.told)) in
      set-borne w t terms behind_ task (recorded (want_of task) slot found now (replied session held)) items slot found gones
      (recorded-borne w t terms behind_ (want_of task) slot found now (replied session held) gones stands)
      (recorded-may w t terms behind_ (want_of task) slot found now (replied session held) gones (λ missing. neither-is (sym there ∙ missing)))
  searched-stands held items slot looks (look.Refused diag) session is l steady fits =
      (replies held (asked is.ask) looks session is.at tt (look.Refused diag) gones tt l steady is.at.few_gone).at
  searched-stands held items slot looks (look.Items more_) session is l steady fits = tt
  searched-stands held items slot looks look.Gone session is l steady fits = tt
  searched-stands held items slot looks (look.Scanned entries) session is l steady fits = tt
  searched-stands held items slot looks look.NotYet session is l steady fits =
      silent-borne w t terms behind_ terms.pool.patience (looks + 1) gones held (Searching (with_session session held) items slot (looks + 1))
      (record { ask = is.ask; at = waits-on held (asked is.ask) looks session is.at tt l steady; is_so = is.is_so })
  searched-stands held items slot looks look.Failed session is l steady fits = failed-stands held (asked is.ask) looks session is.at tt
  searched-stands held items slot looks look.Memory session is l steady fits = tt

  searching-goes : (held : Held S) (items : List Item) (slot looks : ℕ) (reply : Heard) (session : S) → IsLook w t held.parts.session session reply
      → LinksMove w t true terms backend moved (heard reply session) (Searching held items slot looks)
      → IsBorneAsked w t terms before_ (IsSearchUnder slot) looks held gones → behind ≡ Some p
      → FaresOn (Searching held items slot looks) (heard reply session)
  searching-goes held items slot looks reply session l links is k =
      let steady = links is.at.at.fares.told bearable.steady in
      let stands : reply ≡ look.Gone → ⊥ =
      λ e. search-stands slot is.ask is.is_so
      (subst (λ (r : Heard). Fits (asked is.ask) r) e (subst (λ (x : Pending). Fits x reply) is.at.at.waits l.fits)) in
      look-goes held (asked is.ask) looks session is.at tt (Searching held items slot looks) reply refl refl
      (may-hear held (asked is.ask) looks session is.at tt reply l steady (λ e. absurd (stands e)))
      (searched-stands held items slot looks reply session is l steady stands) tt k

  -- to a Present
  fetched-stands : (held : Held S) (items : List Item) (slot hits looks : ℕ) (reply : Heard) (session : S)
      → (is : IsBorneAsked w t terms before_ IsPresent looks held gones)
      → MayMiss w t terms before_ slot held.parts.session gones → MayBeGone w t terms before_ held.parts.session gones
      → IsLook w t held.parts.session session reply
      → LooksSteadily t.keeps (t.address held.parts.session) before_ (t.link held.parts.session) (t.link session) reply
      → IsBorneIn w t terms behind_
      (after_present terms task (gones_after (heard reply session)) held items slot hits looks reply session) (gones_after (heard reply session))
  fetched-stands held items slot hits looks look.Opened session is may be l steady = tt
  fetched-stands held items slot hits looks (look.Hits found) session is may be l steady = tt
  fetched-stands held items slot hits looks (look.Refused diag) session is may be l steady =
      (replies held (asked is.ask) looks session is.at tt (look.Refused diag) gones tt l steady is.at.few_gone).at
  fetched-stands held items slot hits looks (look.Items others) session is may be l steady =
      items-borne w t terms behind_ task (replied session held) (items ++ others) slot hits gones
      (replies held (asked is.ask) looks session is.at tt (look.Items others) gones tt l steady is.at.few_gone)
      (λ missing. may (sym (steady.holds (slot_name slot)) ∙ missing))
  fetched-stands held items slot hits looks look.Gone session is may be l steady =
      let room_ = be (steady.gone refl) in
      let stands = replies held (asked is.ask) looks session is.at tt look.Gone (gones + 1) tt l steady (omega (arith, room_)) in
      again-borne w t terms behind_ terms.pool.repeats (gones + 1) _ items
      (record { at = stands.at; uncut = stands.uncut; first = stands.first; few_gone = stands.few_gone })
  fetched-stands held items slot hits looks (look.Scanned entries) session is may be l steady = tt
  fetched-stands held items slot hits looks look.NotYet session is may be l steady =
      silent-borne w t terms behind_ terms.pool.patience (looks + 1) gones held (Fetching (with_session session held) items slot hits (looks + 1)) (
        record { ask = is.ask; at = waits-on held (asked is.ask) looks session is.at tt l steady; is_so = is.is_so },
        λ missing. may (sym (steady.holds (slot_name slot)) ∙ missing),
        λ gone.
            let room_ = be (sym (steady.still_gone refl) ∙ gone) in
            let less = fewer-at before_ behind_ (t.address held.parts.session) (t.address session) worse l.address in
            omega (arith, room_, less),
      )
  fetched-stands held items slot hits looks look.Failed session is may be l steady = failed-stands held (asked is.ask) looks session is.at tt
  fetched-stands held items slot hits looks look.Memory session is may be l steady = tt

  fetching-goes : (held : Held S) (items : List Item) (slot hits looks : ℕ) (reply : Heard) (session : S)
      → IsLook w t held.parts.session session reply
      → LinksMove w t true terms backend moved (heard reply session) (Fetching held items slot hits looks)
      → IsBorneAsked w t terms before_ IsPresent looks held gones → MayMiss w t terms before_ slot held.parts.session gones
      → MayBeGone w t terms before_ held.parts.session gones → behind ≡ Some p
      → FaresOn (Fetching held items slot hits looks) (heard reply session)
  fetching-goes held items slot hits looks reply session l links is may be k =
      let steady = links is.at.at.fares.told bearable.steady in
      look-goes held (asked is.ask) looks session is.at tt (Fetching held items slot hits looks) reply refl refl
      (may-hear held (asked is.ask) looks session is.at tt reply l steady
      (λ e. let room_ = be (steady.gone e) in omega (arith, room_)))
      (fetched-stands held items slot hits looks reply session is may be l steady) tt k

  -- to a Scan
  scanned-stands : (held : Held S) (looks : ℕ) (reply : Heard) (session : S)
      → (is : IsBorneAsked w t terms before_ IsScan looks held gones)
      → IsLook w t held.parts.session session reply
      → LooksSteadily t.keeps (t.address held.parts.session) before_ (t.link held.parts.session) (t.link session) reply
      → IsBorneIn w t terms behind_ (after_scan terms.pool.patience held looks reply session) (gones_after (heard reply session))
  scanned-stands held looks look.Opened session is l steady = tt
  scanned-stands held looks (look.Hits found) session is l steady = tt
  scanned-stands held looks (look.Refused diag) session is l steady =
      (replies held (asked is.ask) looks session is.at tt (look.Refused diag) gones tt l steady is.at.few_gone).at
  scanned-stands held looks (look.Items more_) session is l steady = tt
  scanned-stands held looks look.Gone session is l steady = tt
  scanned-stands held looks (look.Scanned entries) session is l steady =
      (replies held (asked is.ask) looks session is.at tt (look.Scanned entries) gones tt l steady is.at.few_gone).at
  scanned-stands held looks look.NotYet session is l steady =
      silent-borne w t terms behind_ terms.pool.patience (looks + 1) gones held (Scanning (with_session session held) (looks + 1))
      (record { ask = is.ask; at = waits-on held (asked is.ask) looks session is.at tt l steady; is_so = is.is_so })
  scanned-stands held looks look.Failed session is l steady = failed-stands held (asked is.ask) looks session is.at tt
  scanned-stands held looks look.Memory session is l steady = tt

  scanning-goes : (held : Held S) (looks : ℕ) (reply : Heard) (session : S) → IsLook w t held.parts.session session reply
      → LinksMove w t true terms backend moved (heard reply session) (Scanning held looks)
      → IsBorneAsked w t terms before_ IsScan looks held gones → behind ≡ Some p
      → FaresOn (Scanning held looks) (heard reply session)
  scanning-goes held looks reply session l links is k =
      let steady = links is.at.at.fares.told bearable.steady in
      look-goes held (asked is.ask) looks session is.at tt (Scanning held looks) reply refl refl
      (may-hear held (asked is.ask) looks session is.at tt reply l steady
      (λ e. absurd (scan-stands is.ask is.is_so
      (subst (λ (r : Heard). Fits (asked is.ask) r) e (subst (λ (x : Pending). Fits x reply) is.at.at.waits l.fits)))))
      (scanned-stands held looks reply session is l steady) tt k

  -- ---- each phase

  still : (old : Phase S) (deed : Deed S) → (rises_of (want_of task) deed).faults ≡ false → looks_after (looks_of old) deed ≡ 0
      → gones_after deed ≡ gones → next terms task now (gones_after deed) old deed ≡ old → IsBorneIn w t terms before_ old gones
      → (IsBorneIn w t terms behind_ old gones → IsBorneIn w t terms behind_ (left_by old deed) gones) → behind ≡ Some p → FaresOn old deed
  still old deed unfailing none same stays is left k =
      let stands = stays-so old is in record {
        spends = ap (λ (b : Bool). b && not (is_given old)) unfailing;
        in_time = subst (λ (n : ℕ). n < terms.pool.patience) (sym none) some-patience;
        few_gone = subst (λ (n : ℕ). n ≤ terms.pool.repeats) (sym same) few;
        stands = subst (λ (x : Phase S). IsBorneIn w t terms behind_ x (gones_after deed)) (sym stays)
            (subst (λ (n : ℕ). IsBorneIn w t terms behind_ old n) (sym same) stands);
        left = subst (λ (n : ℕ). IsBorneIn w t terms behind_ (left_by old deed) n) (sym same) (left stands);
        pool = same-pool k;
      }

  gone-on : (old : Phase S) (deed : Deed S) → (rises_of (want_of task) deed).faults ≡ false → looks_after (looks_of old) deed ≡ 0
      → gones_after deed ≡ gones → IsBorneIn w t terms behind_ (next terms task now gones old deed) gones
      → IsBorneIn w t terms behind_ (left_by old deed) gones → Are behind → FaresOn old deed
  gone-on old deed unfailing none same stands left kept = record {
    spends = ap (λ (b : Bool). b && not (is_given old)) unfailing;
    in_time = subst (λ (n : ℕ). n < terms.pool.patience) (sym none) some-patience;
    few_gone = subst (λ (n : ℕ). n ≤ terms.pool.repeats) (sym same) few;
    stands = subst (λ (n : ℕ). IsBorneIn w t terms behind_ (next terms task now n old deed) n) (sym same) stands;
    left = subst (λ (n : ℕ). IsBorneIn w t terms behind_ (left_by old deed) n) (sym same) left;
    pool = kept;
  }

  pub deed-bears : (old : Phase S) (deed : Deed S) → IsDue w t terms most task old deed → LinksMove w t true terms backend moved deed old
      → CountsMove w t true deed backend.counts moved.counts → IsBorneIn w t terms before_ old gones
      → PoolMoves terms task now old deed (Some p) behind → FaresOn old deed
  deed-bears Begin (took gives) d links c is k = take-goes gives is d k
  deed-bears Begin (opened made) d links c is k = absurd d
  deed-bears Begin (began asks reply session) d links c is k = absurd d
  deed-bears Begin (heard reply session) d links c is k = absurd d
  deed-bears Begin put_back d links c is k = absurd d
  deed-bears Begin gave_up d links c is k = absurd d
  deed-bears Begin (redialled member_) d links c is k = absurd d
  deed-bears Begin no_memory d links c is k = absurd d
  deed-bears Begin nothing d links c is k = absurd d
  deed-bears (Dialling seat member) (took gives) d links c is k = absurd d
  deed-bears (Dialling seat member) (opened made) d links c is k = open-goes seat member made d links c is.0 is.1 k
  deed-bears (Dialling seat member) (began asks reply session) d links c is k = absurd d
  deed-bears (Dialling seat member) (heard reply session) d links c is k = absurd d
  deed-bears (Dialling seat member) put_back d links c is k = absurd d
  deed-bears (Dialling seat member) gave_up d links c is k = absurd d
  deed-bears (Dialling seat member) (redialled member_) d links c is k = absurd d
  deed-bears (Dialling seat member) no_memory d links c is k = still (Dialling seat member) no_memory refl refl refl refl is (λ stands. tt) k
  deed-bears (Dialling seat member) nothing d links c is k = absurd d
  deed-bears (Dialled held looks) (took gives) d links c is k = absurd d
  deed-bears (Dialled held looks) (opened made) d links c is k = absurd d
  deed-bears (Dialled held looks) (began asks reply session) d links c is k = absurd d
  deed-bears (Dialled held looks) (heard reply session) d links c is k = dialled-goes held looks reply session d links is k
  deed-bears (Dialled held looks) put_back d links c is k = absurd d
  deed-bears (Dialled held looks) gave_up d links c is k = absurd d
  deed-bears (Dialled held looks) (redialled member_) d links c is k = absurd d
  deed-bears (Dialled held looks) no_memory d links c is k = absurd d
  deed-bears (Dialled held looks) nothing d links c is k = absurd d
  deed-bears (Ready held items) (took gives) d links c is k = absurd d
  deed-bears (Ready held items) (opened made) d links c is k = absurd d
  deed-bears (Ready held items) (began asks reply session) d links c is k = first-goes held items asks reply session d links is k
  deed-bears (Ready held items) (heard reply session) d links c is k = absurd d
  deed-bears (Ready held items) put_back d links c is k = absurd d
  deed-bears (Ready held items) gave_up d links c is k = absurd d
  deed-bears (Ready held items) (redialled member_) d links c is k = absurd d
  deed-bears (Ready held items) no_memory d links c is k = still (Ready held items) no_memory refl refl refl refl is (λ stands. tt) k
  deed-bears (Ready held items) nothing d links c is k = absurd d
  deed-bears (Searching held items slot looks) (took gives) d links c is k = absurd d
  deed-bears (Searching held items slot looks) (opened made) d links c is k = absurd d
  deed-bears (Searching held items slot looks) (began asks reply session) d links c is k = absurd d
  deed-bears (Searching held items slot looks) (heard reply session) d links c is k = searching-goes held items slot looks reply session d links is k
  deed-bears (Searching held items slot looks) put_back d links c is k = absurd d
  deed-bears (Searching held items slot looks) gave_up d links c is k = absurd d
  deed-bears (Searching held items slot looks) (redialled member_) d links c is k = absurd d
  deed-bears (Searching held items slot looks) no_memory d links c is k = absurd d
  deed-bears (Searching held items slot looks) nothing d links c is k = absurd d
  deed-bears (Presenting held items slot hits) (took gives) d links c is k = absurd d
  deed-bears (Presenting held items slot hits) (opened made) d links c is k = absurd d
  deed-bears (Presenting held items slot hits) (began asks reply session) d links c is k = next-goes held items slot hits asks reply session task refl d links is.0 is.1 k
  deed-bears (Presenting held items slot hits) (heard reply session) d links c is k = absurd d
  deed-bears (Presenting held items slot hits) put_back d links c is k = absurd d
  deed-bears (Presenting held items slot hits) gave_up d links c is k = absurd d
  deed-bears (Presenting held items slot hits) (redialled member_) d links c is k = absurd d
  deed-bears (Presenting held items slot hits) no_memory d links c is k = still (Presenting held items slot hits) no_memory refl refl refl refl is (λ stands. tt) k
  deed-bears (Presenting held items slot hits) nothing d links c is k = absurd d
  deed-bears (Fetching held items slot hits looks) (took gives) d links c is k = absurd d
  deed-bears (Fetching held items slot hits looks) (opened made) d links c is k = absurd d
  deed-bears (Fetching held items slot hits looks) (began asks reply session) d links c is k = absurd d
  deed-bears (Fetching held items slot hits looks) (heard reply session) d links c is k = fetching-goes held items slot hits looks reply session d links is.0 is.1 is.2 k
  deed-bears (Fetching held items slot hits looks) put_back d links c is k = absurd d
  deed-bears (Fetching held items slot hits looks) gave_up d links c is k = absurd d
  deed-bears (Fetching held items slot hits looks) (redialled member_) d links c is k = absurd d
  deed-bears (Fetching held items slot hits looks) no_memory d links c is k = absurd d
  deed-bears (Fetching held items slot hits looks) nothing d links c is k = absurd d
  deed-bears (Scanning held looks) (took gives) d links c is k = absurd d
  deed-bears (Scanning held looks) (opened made) d links c is k = absurd d
  deed-bears (Scanning held looks) (began asks reply session) d links c is k = absurd d
  deed-bears (Scanning held looks) (heard reply session) d links c is k = scanning-goes held looks reply session d links is k
  deed-bears (Scanning held looks) put_back d links c is k = absurd d
  deed-bears (Scanning held looks) gave_up d links c is k = absurd d
  deed-bears (Scanning held looks) (redialled member_) d links c is k = absurd d
  deed-bears (Scanning held looks) no_memory d links c is k = absurd d
  deed-bears (Scanning held looks) nothing d links c is k = absurd d
  deed-bears (Returning held own) (took gives) d links c is k = absurd d
  deed-bears (Returning held own) (opened made) d links c is k = absurd d
  deed-bears (Returning held own) (began asks reply session) d links c is k = absurd d
  deed-bears (Returning held own) (heard reply session) d links c is k = absurd d
  deed-bears (Returning held own) put_back d links c is k = gone-on (Returning held own) put_back refl refl refl tt tt (moved-pool k (put-whole (FaresAt w t terms.pool resting 0) held.seat held.parts now p is are))
  deed-bears (Returning held own) gave_up d links c is k = absurd d
  deed-bears (Returning held own) (redialled member_) d links c is k = absurd d
  deed-bears (Returning held own) no_memory d links c is k = absurd d
  deed-bears (Returning held own) nothing d links c is k = absurd d
  deed-bears (Losing seat own) (took gives) d links c is k = absurd d
  deed-bears (Losing seat own) (opened made) d links c is k = absurd d
  deed-bears (Losing seat own) (began asks reply session) d links c is k = absurd d
  deed-bears (Losing seat own) (heard reply session) d links c is k = absurd d
  deed-bears (Losing seat own) put_back d links c is k = absurd d
  deed-bears (Losing seat own) gave_up d links c is k = gone-on (Losing seat own) gave_up refl refl refl tt tt (moved-pool k (lose-whole (FaresAt w t terms.pool resting 0) seat p are))
  deed-bears (Losing seat own) (redialled member_) d links c is k = absurd d
  deed-bears (Losing seat own) no_memory d links c is k = absurd d
  deed-bears (Losing seat own) nothing d links c is k = absurd d
  deed-bears (Redialling seat) (took gives) d links c is k = absurd d
  deed-bears (Redialling seat) (opened made) d links c is k = absurd d
  deed-bears (Redialling seat) (began asks reply session) d links c is k = absurd d
  deed-bears (Redialling seat) (heard reply session) d links c is k = absurd d
  deed-bears (Redialling seat) put_back d links c is k = absurd d
  deed-bears (Redialling seat) gave_up d links c is k = absurd d
  deed-bears (Redialling seat) (redialled member_) d links c is k = gone-on (Redialling seat) (redialled member_) refl refl refl (member-told member_ d, is) tt (moved-pool k.1 (redial-whole (FaresAt w t terms.pool resting 0) seat terms.at p are))
  deed-bears (Redialling seat) no_memory d links c is k = absurd d
  deed-bears (Redialling seat) nothing d links c is k = absurd d
  deed-bears (Spoiled seat) (took gives) d links c is k = absurd d
  deed-bears (Spoiled seat) (opened made) d links c is k = absurd d
  deed-bears (Spoiled seat) (began asks reply session) d links c is k = absurd d
  deed-bears (Spoiled seat) (heard reply session) d links c is k = absurd d
  deed-bears (Spoiled seat) put_back d links c is k = absurd d
  deed-bears (Spoiled seat) gave_up d links c is k = absurd d
  deed-bears (Spoiled seat) (redialled member_) d links c is k = absurd d
  deed-bears (Spoiled seat) no_memory d links c is k = still (Spoiled seat) no_memory refl refl refl refl is (λ stands. tt) k
  deed-bears (Spoiled seat) nothing d links c is k = absurd d
  deed-bears (Done own) (took gives) d links c is k = absurd d
  deed-bears (Done own) (opened made) d links c is k = absurd d
  deed-bears (Done own) (began asks reply session) d links c is k = absurd d
  deed-bears (Done own) (heard reply session) d links c is k = absurd d
  deed-bears (Done own) put_back d links c is k = absurd d
  deed-bears (Done own) gave_up d links c is k = absurd d
  deed-bears (Done own) (redialled member_) d links c is k = absurd d
  deed-bears (Done own) no_memory d links c is k = absurd d
  deed-bears (Done own) nothing d links c is k = still (Done own) nothing refl refl refl refl is (λ stands. tt) k
  deed-bears Ended (took gives) d links c is k = absurd d
  deed-bears Ended (opened made) d links c is k = absurd d
  deed-bears Ended (began asks reply session) d links c is k = absurd d
  deed-bears Ended (heard reply session) d links c is k = absurd d
  deed-bears Ended put_back d links c is k = absurd d
  deed-bears Ended gave_up d links c is k = absurd d
  deed-bears Ended (redialled member_) d links c is k = absurd d
  deed-bears Ended no_memory d links c is k = still Ended no_memory refl refl refl refl is (λ stands. tt) k
  deed-bears Ended nothing d links c is k = absurd d
