-- One turn of a leg over a quiet backend: nothing goes wrong, and the sessions of the leg and of the pool are whole behind it
use Rattle.std.proofs.Common.{◌≡◌, ◌∙◌, ℕ, ◌+◌, ◌-◌, ◌<◌, Bool, true, false, cond, if◌then◌else◌, List, [], ◌++◌, length, Option, None, Some, is_some, refl, sym, ap, subst, nat_lt}
use Rattle.std.proofs.lemmas.Cmp.{nat_list_eq_equiv}
use Rattle.std.proofs.lemmas.List.Elements.{All-contains, Contains-get_or}
use Rattle.z_types.specs.Pending.{IsPending, Pending, resting, asked}
use Rattle.z_types.specs.Same.{is_same}
use Rattle.z_types.specs.declared.address.Address.TheVariants.{Test}
use Rattle.z_types.specs.declared.ask.Ask.{Ask}
use Rattle.z_types.specs.declared.ask.Ask.TheVariants as ask
use Rattle.z_types.specs.declared.key.SetKey.{SetKey}
use Rattle.z_types.specs.declared.records.Item.{Item}
use Rattle.z_types.specs.declared.sitting.Sitting as sitting
use Rattle.z_types.specs.declared.world.World as world
use Rattle.z_types.proofs.LoginLemmas.{inside_contains}
use Rattle.gw_outside.specs.Happened.{AreQuiet}
use Rattle.gw_outside.specs.Sessions.{Made, made_after}
use Rattle.gw_outside.specs.Steady.{IsPresent, LooksSteadily}
use Rattle.gw_outside.specs.declared.backends.Began.{Began}
use Rattle.gw_outside.specs.declared.backends.Began.TheVariants as start
use Rattle.gw_outside.specs.declared.backends.Heard.{Heard}
use Rattle.gw_outside.specs.declared.backends.Heard.TheVariants as look
use Rattle.gw_outside.specs.declared.backends.Opening.TheVariants as opening
use Rattle.pool_sets.specs.Doors.{HasWanted, TakenFits, Takes}
use Rattle.pool_sets.specs.Kept.{IsKept, TableKept, slot_name}
use Rattle.pool_sets.specs.Plain.{Pool, address_at, take_of}
use Rattle.pool_sets.specs.Table.{room}
use Rattle.pool_sets.specs.declared.doors.Seat.{Seat}
use Rattle.pool_sets.specs.declared.doors.Taken.{Taken}
use Rattle.pool_sets.specs.declared.doors.Taken.TheVariants as taken
use Rattle.pool_sets.specs.declared.pooled.Parts.{Parts}
use Rattle.package.specs.leg.Deeds.{BackendView, Deed, took, opened, began, heard, put_back, gave_up, redialled, no_memory, nothing, CountsMove}
use Rattle.package.specs.leg.Links.{LinksMove}
use Rattle.package.specs.leg.Phases.{hold, replied}
use Rattle.package.specs.leg.Rules.{after_first, after_next, after_opened, after_present, after_scan, after_search, after_take, first_ask, left_by, next, next_ask, out_of_range, recorded, spoiled, with_items, with_set}
use Rattle.package.specs.leg.Tasks.{want_of}
use Rattle.package.specs.leg.Terms.{Terms, opened_at, sites}
use Rattle.package.specs.leg.Turns.{IsAsked, IsAskedIf, IsDue, IsLook, PoolMoves}
use Rattle.package.specs.leg.declared.answers.LegAnswer.TheVariants as answer
use Rattle.package.specs.leg.declared.phases.Held.{Held}
use Rattle.package.specs.leg.declared.phases.Phase.{Phase}
use Rattle.package.specs.leg.declared.phases.Phase.TheVariants.{Begin, Dialling, Dialled, Ready, Searching, Presenting, Fetching, Scanning, Returning, Losing, Redialling, Spoiled, Done, Ended}
use Rattle.package.specs.leg.declared.tasks.Task.{Task}
use Rattle.package.specs.leg.declared.tasks.Task.TheVariants.{Hits, Records, Scan}
use Rattle.package_quiet.specs.steps.Quiet.{AreTold}
use Rattle.package_quiet.specs.steps.Whole.{HasMade, IsScan, IsSearchUnder, IsWhole, IsWholeAsked, IsWholeAt, IsWholeIn, IsWholePool}
use Rattle.package_quiet.proofs.CountLemmas.{IsWell, linked-then}
use Rattle.package_quiet.proofs.PoolLemmas.{GivesWhole, IsGivenWhole, expire-whole, lose-whole, put-whole, redial-whole, take-whole}
use Rattle.package_quiet.proofs.SessionLemmas.{IsBegunWell, IsHeardWell, IsOfMade, IsReply, ask-well, look-rests, look-well, new-whole, uncut}

-- ---- what was made

-- hits that are heard of a search under a slot are those of a set that was made
hits-made : (slot hits : ℕ) (asks : Ask) (made : Made) → IsSearchUnder slot asks
    → is_some (made_after (asked asks) (look.Hits hits) made (slot_name slot)) ≡ true
hits-made slot hits (ask.Search name key) made is =
    let same : is_same name (slot_name slot) ≡ true =
    ap (λ (n : List ℕ). is_same n (slot_name slot)) is ∙ nat_list_eq_equiv.refl (slot_name slot) in
    ap (λ (b : Bool). is_some (if b then Some (key, hits) else made (slot_name slot))) same
hits-made slot hits (ask.Present name first count syntax element) made is = absurd is
hits-made slot hits (ask.Scan dbs scan) made is = absurd is

-- what is heard of a Present makes none, and ends none
present-made : (asks : Ask) (reply : Heard) (made : Made) (name : List ℕ) → IsPresent asks → made_after (asked asks) reply made name ≡ made name
present-made (ask.Search own key) reply made name is = absurd is
present-made (ask.Present own first count syntax element) reply made name is = refl
present-made (ask.Scan dbs scan) reply made name is = absurd is

module _ {W S : Type 0} (w : world.Ghosts W) (t : sitting.Ghosts S W) where
  searched-made : (slot hits : ℕ) (before after : S) → IsWholeAsked w t (IsSearchUnder slot) before → IsLook w t before after (look.Hits hits)
      → HasMade w t slot after
  searched-made slot hits before after is l =
      ap is_some (l.made (slot_name slot)
      ∙ ap (λ (p : Pending). made_after p (look.Hits hits) (t.made before) (slot_name slot)) is.at.waits)
      ∙ hits-made slot hits is.ask (t.made before) is.is_so

  fetched-made : (slot : ℕ) (before after : S) (reply : Heard) → IsWholeAsked w t IsPresent before → IsLook w t before after reply
      → HasMade w t slot before → HasMade w t slot after
  fetched-made slot before after reply is l made =
      ap is_some (l.made (slot_name slot) ∙ ap (λ (p : Pending). made_after p reply (t.made before) (slot_name slot)) is.at.waits
      ∙ present-made is.ask reply (t.made before) (slot_name slot) is.is_so)
      ∙ made

  -- a set of a table that is kept was made
  pub wanted-made : (want : Option SetKey) (parts : Parts S) (slot hits : ℕ) → TableKept w t parts → HasWanted want parts.table.entries slot hits
      → HasMade w t slot parts.session
  wanted-made None parts slot hits kept has = absurd has
  wanted-made (Some key) parts slot hits kept has =
      ap is_some
      ((All-contains (IsKept w t parts.session) parts.table.entries (record { slot = slot; key = key; hits = hits; used = has.0 }) kept.each has.1).stands)

  pending-asked : (IsSo : Ask → Type 0) (session : S) → IsWholeAsked w t IsSo session → IsPending (t.pending session)
  pending-asked IsSo session is = subst (λ (p : Pending). IsPending p) (sym is.at.waits) tt

-- ---- where a leg goes

module _ {W S : Type 0} (w : world.Ghosts W) (t : sitting.Ghosts S W) (terms : Terms) where
  abbrev Rests : S → Type 0
  Rests session = IsWholeAt w t resting session

  abbrev In : Phase S → Type 0
  In phase = IsWholeIn w t terms phase

  -- only the seat is left
  spoiled-whole : (phase : Phase S) → In (spoiled phase)
  spoiled-whole Begin = tt
  spoiled-whole (Dialling seat member) = tt
  spoiled-whole (Dialled held looks) = tt
  spoiled-whole (Ready held items) = tt
  spoiled-whole (Searching held items slot looks) = tt
  spoiled-whole (Presenting held items slot hits) = tt
  spoiled-whole (Fetching held items slot hits looks) = tt
  spoiled-whole (Scanning held looks) = tt
  spoiled-whole (Returning held own) = tt
  spoiled-whole (Losing seat own) = tt
  spoiled-whole (Redialling seat) = tt
  spoiled-whole (Spoiled seat) = tt
  spoiled-whole (Done own) = tt
  spoiled-whole Ended = tt

  pub left-whole : (phase : Phase S) (deed : Deed S) → In (left_by phase deed)
  left-whole Begin (took (taken.Reuse seat parts slot hits)) = tt
  left-whole Begin (took (taken.Fresh seat parts)) = tt
  left-whole Begin (took (taken.Dial seat member)) = tt
  left-whole Begin (took (taken.Full open_)) = tt
  left-whole Begin (took taken.Memory) = tt
  left-whole Begin (opened made) = tt
  left-whole Begin (began asks reply session) = tt
  left-whole Begin (heard reply session) = tt
  left-whole Begin put_back = tt
  left-whole Begin gave_up = tt
  left-whole Begin (redialled member_) = tt
  left-whole Begin no_memory = tt
  left-whole Begin nothing = tt
  left-whole (Dialling seat member) deed = spoiled-whole (Dialling seat member)
  left-whole (Dialled held looks) deed = spoiled-whole (Dialled held looks)
  left-whole (Ready held items) deed = spoiled-whole (Ready held items)
  left-whole (Searching held items slot looks) deed = spoiled-whole (Searching held items slot looks)
  left-whole (Presenting held items slot hits) deed = spoiled-whole (Presenting held items slot hits)
  left-whole (Fetching held items slot hits looks) deed = spoiled-whole (Fetching held items slot hits looks)
  left-whole (Scanning held looks) deed = spoiled-whole (Scanning held looks)
  left-whole (Returning held own) deed = spoiled-whole (Returning held own)
  left-whole (Losing seat own) deed = spoiled-whole (Losing seat own)
  left-whole (Redialling seat) deed = spoiled-whole (Redialling seat)
  left-whole (Spoiled seat) deed = spoiled-whole (Spoiled seat)
  left-whole (Done own) deed = spoiled-whole (Done own)
  left-whole Ended deed = spoiled-whole Ended

  recorded-session : (want : Option SetKey) (slot hits now : ℕ) (held : Held S) → (recorded want slot hits now held).parts.session ≡ held.parts.session
  recorded-session None slot hits now held = refl
  recorded-session (Some key) slot hits now held = refl

  set-whole : (task : Task) (held : Held S) (items : List Item) (slot hits : ℕ) → Rests held.parts.session → HasMade w t slot held.parts.session
      → In (with_set task held items slot hits)
  set-whole (Hits key) held items slot hits rests made = rests
  set-whole (Scan scan) held items slot hits rests made = tt
  set-whole (Records key first count syntax element) held items slot hits rests made =
      (elim (nat_lt hits (first + (count - 1))) as (λ (b : Bool). In (cond b (Returning held (answer.Broken items out_of_range)) (Presenting held items slot hits))) [
        | true ↦ rests
        | false ↦ (rests, made)
      ])

  found-whole : (task : Task) (held : Held S) (items : List Item) (slot hits now : ℕ) → Rests held.parts.session
      → HasMade w t slot held.parts.session → In (with_set task (recorded (want_of task) slot hits now held) items slot hits)
  found-whole task held items slot hits now rests made =
      let same = sym (recorded-session (want_of task) slot hits now held) in
      set-whole task (recorded (want_of task) slot hits now held) items slot hits (subst (λ (s : S). Rests s) same rests)
      (subst (λ (s : S). HasMade w t slot s) same made)

  items-whole : (task : Task) (held : Held S) (items : List Item) (slot hits : ℕ) → Rests held.parts.session → HasMade w t slot held.parts.session
      → In (with_items task held items slot hits)
  items-whole (Hits key) held items slot hits rests made = tt
  items-whole (Scan scan) held items slot hits rests made = tt
  items-whole (Records key first count syntax element) held items slot hits rests made =
      (elim (nat_lt (length items) count) as (λ (b : Bool). In (cond b (Presenting held items slot hits) (Returning held (answer.Items items)))) [
        | true ↦ (rests, made)
        | false ↦ rests
      ])

  -- the reply to the Init
  opened-whole : (patience : ℕ) (held : Held S) (looks : ℕ) (reply : Heard) (session : S) → IsHeardWell reply → (IsReply reply → Rests session)
      → In (after_opened patience held looks reply session)
  opened-whole patience held looks look.Opened session well rests = rests tt
  opened-whole patience held looks (look.Hits found) session well rests = tt
  opened-whole patience held looks (look.Refused diag) session well rests = tt
  opened-whole patience held looks (look.Items more) session well rests = tt
  opened-whole patience held looks look.Gone session well rests = absurd well
  opened-whole patience held looks (look.Scanned entries) session well rests = tt
  opened-whole patience held looks look.NotYet session well rests = absurd well
  opened-whole patience held looks look.Failed session well rests = absurd well
  opened-whole patience held looks look.Memory session well rests = tt

  -- to a search
  searched-whole : (task : Task) (now : ℕ) (held : Held S) (items : List Item) (slot looks : ℕ) (reply : Heard) (session : S) → IsHeardWell reply
      → (IsReply reply → Rests session) → IsWholeAsked w t (IsSearchUnder slot) held.parts.session → IsLook w t held.parts.session session reply
      → In (after_search terms task now held items slot looks reply session)
  searched-whole task now held items slot looks look.Opened session well rests is l = tt
  searched-whole task now held items slot looks (look.Hits found) session well rests is l =
      found-whole task (replied session held) items slot found now (rests tt) (searched-made w t slot found held.parts.session session is l)
  searched-whole task now held items slot looks (look.Refused diag) session well rests is l = rests tt
  searched-whole task now held items slot looks (look.Items more) session well rests is l = tt
  searched-whole task now held items slot looks look.Gone session well rests is l = absurd well
  searched-whole task now held items slot looks (look.Scanned entries) session well rests is l = tt
  searched-whole task now held items slot looks look.NotYet session well rests is l = absurd well
  searched-whole task now held items slot looks look.Failed session well rests is l = absurd well
  searched-whole task now held items slot looks look.Memory session well rests is l = tt

  -- to a Present
  fetched-whole : (task : Task) (gones : ℕ) (held : Held S) (items : List Item) (slot hits looks : ℕ) (reply : Heard) (session : S)
      → IsHeardWell reply → (IsReply reply → Rests session) → HasMade w t slot session
      → In (after_present terms task gones held items slot hits looks reply session)
  fetched-whole task gones held items slot hits looks look.Opened session well rests made = tt
  fetched-whole task gones held items slot hits looks (look.Hits found) session well rests made = tt
  fetched-whole task gones held items slot hits looks (look.Refused diag) session well rests made = rests tt
  fetched-whole task gones held items slot hits looks (look.Items more) session well rests made =
      items-whole task (replied session held) (items ++ more) slot hits (rests tt) made
  fetched-whole task gones held items slot hits looks look.Gone session well rests made = absurd well
  fetched-whole task gones held items slot hits looks (look.Scanned entries) session well rests made = tt
  fetched-whole task gones held items slot hits looks look.NotYet session well rests made = absurd well
  fetched-whole task gones held items slot hits looks look.Failed session well rests made = absurd well
  fetched-whole task gones held items slot hits looks look.Memory session well rests made = tt

  -- to a Scan
  scanned-whole : (patience : ℕ) (held : Held S) (looks : ℕ) (reply : Heard) (session : S) → IsHeardWell reply → (IsReply reply → Rests session)
      → In (after_scan patience held looks reply session)
  scanned-whole patience held looks look.Opened session well rests = tt
  scanned-whole patience held looks (look.Hits found) session well rests = tt
  scanned-whole patience held looks (look.Refused diag) session well rests = rests tt
  scanned-whole patience held looks (look.Items more) session well rests = tt
  scanned-whole patience held looks look.Gone session well rests = absurd well
  scanned-whole patience held looks (look.Scanned entries) session well rests = rests tt
  scanned-whole patience held looks look.NotYet session well rests = absurd well
  scanned-whole patience held looks look.Failed session well rests = absurd well
  scanned-whole patience held looks look.Memory session well rests = tt

  -- ---- what is asked

  of-first : (task : Task) (held : Held S) (made : Made) → IsOfMade (first_ask terms.dbs task held) made
  of-first (Hits key) held made = tt
  of-first (Records key first count syntax element) held made = tt
  of-first (Scan scan) held made = tt

  -- first a search or a scan
  first-whole : (task : Task) (held : Held S) (items : List Item) (asks : Ask) (reply : Began) (session : S)
      → asks ≡ first_ask terms.dbs task held → IsBegunWell w t asks session reply → In (after_first task held items reply session)
  first-whole task held items asks start.Failed session same is = absurd is
  first-whole task held items asks start.Memory session same is = tt
  first-whole (Hits key) held items asks start.Started session same is = record { ask = asks; at = is; is_so = subst (λ (a : Ask). IsSearchUnder (room held.parts.table) a) (sym same) refl }
  first-whole (Records key first count syntax element) held items asks start.Started session same is =
      record { ask = asks; at = is; is_so = subst (λ (a : Ask). IsSearchUnder (room held.parts.table) a) (sym same) refl }
  first-whole (Scan scan) held items asks start.Started session same is = record { ask = asks; at = is; is_so = subst (λ (a : Ask). IsScan a) (sym same) tt }

  -- then a Present of the set of the slot
  next-whole : (held : Held S) (items : List Item) (slot hits : ℕ) (asks : Ask) (reply : Began) (session : S) → IsPresent asks
      → HasMade w t slot session → IsBegunWell w t asks session reply → In (after_next held items slot hits reply session)
  next-whole held items slot hits asks start.Started session of made is = (record { ask = asks; at = is; is_so = of }, made)
  next-whole held items slot hits asks start.Failed session of made is = absurd is
  next-whole held items slot hits asks start.Memory session of made is = tt

  pub present-asked : (task : Task) (items : List Item) (slot : ℕ) (asks : Ask) (before after : S) (reply : Began)
      → IsAskedIf w t (next_ask task items slot) asks before after reply
      → (due : Ask) × IsAsked w t due asks before after reply × ((made : Made) → is_some (made (slot_name slot)) ≡ true → IsOfMade asks made)
      × IsPresent asks
  present-asked (Hits key) items slot asks before after reply h = absurd h
  present-asked (Scan scan) items slot asks before after reply h = absurd h
  present-asked (Records key first count syntax element) items slot asks before after reply h = (
    ask.Present (slot_name slot) (first + length items) (count - length items) syntax element,
    h,
    λ made is. subst (λ (a : Ask). IsOfMade a made) (sym h.asks) is,
    subst (λ (a : Ask). IsPresent a) (sym h.asks) tt,
  )

-- ---- one deed

module _ {W S : Type 0} (w : world.Ghosts W) (t : sitting.Ghosts S W) (terms : Terms) (most : ℕ) (task : Task) (now gones : ℕ)
    (backend moved : BackendView) (p : Pool S) (behind : Option (Pool S)) (told : AreTold w (sites terms)) (quiet : AreQuiet backend.happened)
    (are : IsWholePool w t (Some p)) where
  -- it goes well, and leaves the leg and the pool whole
  pub record GoesWell (old : Phase S) (deed : Deed S) : Type 0 where
    pub well : IsWell deed
    pub whole : IsWholeIn w t terms (next terms task now gones old deed)
    pub pool : IsWholePool w t behind

  same-pool : behind ≡ Some p → IsWholePool w t behind
  same-pool e = subst (λ (q : Option (Pool S)). IsWholePool w t q) (sym e) are

  member-told : (member : ℕ) → member < length terms.at → w.told (opened_at terms member)
  member-told member within = told (opened_at terms member)
      (inside_contains terms.login terms.at (address_at terms.at member) (Contains-get_or terms.at member (Test 0) within))

  -- ---- a take

  taken-whole : (gives : Taken S) (q : Pool S) → (gives, q) ≡ take_of terms.class terms.at terms.login (want_of task) now p
      → GivesWhole (IsWholeAt w t resting) (gives, q)
  taken-whole gives q e =
      subst (λ (r : Taken S × Pool S). GivesWhole (IsWholeAt w t resting) r) (sym e) (take-whole (IsWholeAt w t resting) terms.class terms.at terms.login (want_of task) now p are)

  took-whole : (gives : Taken S) (q : Option (Pool S)) → Takes (Some p) q terms.class terms.at terms.login (want_of task) now gives
      → IsGivenWhole (IsWholeAt w t resting) gives × IsWholePool w t q
  took-whole gives None k = absurd k
  took-whole taken.Memory (Some q) k = (tt, subst (λ (r : Pool S). IsWholePool w t (Some r)) (sym k) (expire-whole (IsWholeAt w t resting) now p are))
  took-whole (taken.Reuse seat parts slot hits) (Some q) k = taken-whole (taken.Reuse seat parts slot hits) q k
  took-whole (taken.Fresh seat parts) (Some q) k = taken-whole (taken.Fresh seat parts) q k
  took-whole (taken.Dial seat member) (Some q) k = taken-whole (taken.Dial seat member) q k
  took-whole (taken.Full open_) (Some q) k = taken-whole (taken.Full open_) q k

  after-take : (gives : Taken S) → TakenFits w t terms.class terms.at terms.login (want_of task) most gives → IsGivenWhole (IsWholeAt w t resting) gives
      → IsWholeIn w t terms (after_take task gives)
  after-take (taken.Reuse seat parts slot hits) fits rests =
      set-whole w t terms task (hold seat parts true) [] slot hits rests (wanted-made w t (want_of task) parts slot hits fits.0.kept fits.1)
  after-take (taken.Fresh seat parts) fits rests = rests
  after-take (taken.Dial seat member) fits rests = member-told member fits.1
  after-take (taken.Full open_) fits rests = tt
  after-take taken.Memory fits rests = tt

  take-goes : (gives : Taken S) → TakenFits w t terms.class terms.at terms.login (want_of task) most gives
      → Takes (Some p) behind terms.class terms.at terms.login (want_of task) now gives → GoesWell Begin (took gives)
  take-goes gives fits k =
      let both = took-whole gives behind k in record { well = tt; whole = after-take gives fits both.0; pool = both.1 }

  -- ---- an opening

  open-goes : (seat : Seat) (member : ℕ) (made : _) → IsDue w t terms most task (Dialling seat member) (opened made)
      → LinksMove w t true terms backend moved (opened made) (Dialling seat member)
      → CountsMove w t true (opened made) backend.counts moved.counts → w.told (opened_at terms member) → behind ≡ Some p
      → GoesWell (Dialling seat member) (opened made)
  open-goes seat member (opening.Session session) due links counts at k = record {
    well = tt;
    whole = new-whole w t (opened_at terms member) backend.happened moved.counts.dials session quiet at
        (linked-then (opening.Session session) backend.counts moved.counts tt counts) due (links at quiet.steady);
    pool = same-pool k;
  }
  open-goes seat member (opening.Failed made) due links counts at k =
      absurd (uncut backend.happened (opened_at terms member) moved.counts.dials quiet
      (linked-then {S = S} (opening.Failed made) backend.counts moved.counts (links at quiet.steady).0 counts) ((links at quiet.steady).1 refl))
  open-goes seat member opening.Memory due links counts at k = record { well = tt; whole = tt; pool = same-pool k }

  -- ---- an ask

  begun-well : (asks : Ask) (reply : Began) (session : S) → IsBegunWell w t asks session reply → IsWell (began asks reply session)
  begun-well asks start.Started session is = tt
  begun-well asks start.Failed session is = is
  begun-well asks start.Memory session is = tt

  first-goes : (held : Held S) (items : List Item) (asks : Ask) (reply : Began) (session : S)
      → IsAsked w t (first_ask terms.dbs task held) asks held.parts.session session reply
      → LinksMove w t true terms backend moved (began asks reply session) (Ready held items)
      → IsWholeAt w t resting held.parts.session → behind ≡ Some p → GoesWell (Ready held items) (began asks reply session)
  first-goes held items asks reply session due links rests k =
      let is = ask-well w t (first_ask terms.dbs task held) asks held.parts.session session backend.happened moved.happened reply quiet rests
      (subst (λ (a : Ask). IsOfMade a (t.made held.parts.session)) (sym due.asks) (of-first w t terms task held (t.made held.parts.session))) due
      (links rests.whole.told quiet.steady) in
      record {
        well = begun-well asks reply session is;
        whole = first-whole w t terms task held items asks reply session due.asks is;
        pool = same-pool k;
      }

  next-goes : (held : Held S) (items : List Item) (slot hits : ℕ) (asks : Ask) (reply : Began) (session : S)
      → IsAskedIf w t (next_ask task items slot) asks held.parts.session session reply
      → LinksMove w t true terms backend moved (began asks reply session) (Presenting held items slot hits)
      → IsWholeAt w t resting held.parts.session → HasMade w t slot held.parts.session → behind ≡ Some p
      → GoesWell (Presenting held items slot hits) (began asks reply session)
  next-goes held items slot hits asks reply session due links rests made k =
      let a = present-asked w t terms task items slot asks held.parts.session session reply due in
      let is = ask-well w t a.0 asks held.parts.session session backend.happened moved.happened reply quiet rests
      (a.2 (t.made held.parts.session) made) a.1 (links rests.whole.told quiet.steady) in
      record {
        well = begun-well asks reply session is;
        whole = next-whole w t terms held items slot hits asks reply session a.3 (ap is_some (a.1.made (slot_name slot)) ∙ made) is;
        pool = same-pool k;
      }

  -- ---- a look

  heard-well-deed : (reply : Heard) (session : S) → IsHeardWell reply → IsWell (heard reply session)
  heard-well-deed look.Opened session h = tt
  heard-well-deed (look.Hits hits) session h = tt
  heard-well-deed (look.Refused diag) session h = tt
  heard-well-deed (look.Items items) session h = tt
  heard-well-deed look.Gone session h = h
  heard-well-deed (look.Scanned entries) session h = tt
  heard-well-deed look.NotYet session h = h
  heard-well-deed look.Failed session h = h
  heard-well-deed look.Memory session h = tt

  module _ (before session : S) (reply : Heard) (whole : IsWhole w t before) (waits : IsPending (t.pending before))
      (l : IsLook w t before session reply) (links : LooksSteadily t.keeps (t.address before) backend.happened (t.link before) (t.link session) reply) where
    look-is : IsHeardWell reply
    look-is = look-well w t before session backend.happened reply quiet whole waits l links

    look-leaves : IsReply reply → IsWholeAt w t resting session
    look-leaves replies = look-rests w t before session backend.happened reply replies whole waits l links

  dialled-goes : (held : Held S) (looks : ℕ) (reply : Heard) (session : S) → IsLook w t held.parts.session session reply
      → LinksMove w t true terms backend moved (heard reply session) (Dialled held looks) → IsWholeIn w t terms (Dialled held looks)
      → behind ≡ Some p → GoesWell (Dialled held looks) (heard reply session)
  dialled-goes held looks reply session l links is k =
      let waits = subst (λ (x : Pending). IsPending x) (sym is.waits) tt in
      let steady = links is.whole.told quiet.steady in
      let well = look-is held.parts.session session reply is.whole waits l steady in
      record {
        well = heard-well-deed reply session well;
        whole = opened-whole w t terms terms.pool.patience held looks reply session well (look-leaves held.parts.session session reply is.whole waits l steady);
        pool = same-pool k;
      }

  searching-goes : (held : Held S) (items : List Item) (slot looks : ℕ) (reply : Heard) (session : S) → IsLook w t held.parts.session session reply
      → LinksMove w t true terms backend moved (heard reply session) (Searching held items slot looks)
      → IsWholeAsked w t (IsSearchUnder slot) held.parts.session → behind ≡ Some p
      → GoesWell (Searching held items slot looks) (heard reply session)
  searching-goes held items slot looks reply session l links is k =
      let waits = pending-asked w t (IsSearchUnder slot) held.parts.session is in
      let steady = links is.at.whole.told quiet.steady in
      let well = look-is held.parts.session session reply is.at.whole waits l steady in
      record {
        well = heard-well-deed reply session well;
        whole = searched-whole w t terms task now held items slot looks reply session well
            (look-leaves held.parts.session session reply is.at.whole waits l steady) is l;
        pool = same-pool k;
      }

  fetching-goes : (held : Held S) (items : List Item) (slot hits looks : ℕ) (reply : Heard) (session : S)
      → IsLook w t held.parts.session session reply
      → LinksMove w t true terms backend moved (heard reply session) (Fetching held items slot hits looks)
      → IsWholeAsked w t IsPresent held.parts.session → HasMade w t slot held.parts.session → behind ≡ Some p
      → GoesWell (Fetching held items slot hits looks) (heard reply session)
  fetching-goes held items slot hits looks reply session l links is made k =
      let waits = pending-asked w t IsPresent held.parts.session is in
      let steady = links is.at.whole.told quiet.steady in
      let well = look-is held.parts.session session reply is.at.whole waits l steady in
      record {
        well = heard-well-deed reply session well;
        whole = fetched-whole w t terms task gones held items slot hits looks reply session well
            (look-leaves held.parts.session session reply is.at.whole waits l steady)
            (fetched-made w t slot held.parts.session session reply is l made);
        pool = same-pool k;
      }

  scanning-goes : (held : Held S) (looks : ℕ) (reply : Heard) (session : S) → IsLook w t held.parts.session session reply
      → LinksMove w t true terms backend moved (heard reply session) (Scanning held looks)
      → IsWholeAsked w t IsScan held.parts.session → behind ≡ Some p → GoesWell (Scanning held looks) (heard reply session)
  scanning-goes held looks reply session l links is k =
      let waits = pending-asked w t IsScan held.parts.session is in
      let steady = links is.at.whole.told quiet.steady in
      let well = look-is held.parts.session session reply is.at.whole waits l steady in
      record {
        well = heard-well-deed reply session well;
        whole = scanned-whole w t terms terms.pool.patience held looks reply session well
            (look-leaves held.parts.session session reply is.at.whole waits l steady);
        pool = same-pool k;
      }

  -- ---- sessions are put back and lost

  moved-pool : {q : Pool S} → behind ≡ Some q → IsWholePool w t (Some q) → IsWholePool w t behind
  moved-pool e h = subst (λ (x : Option (Pool S)). IsWholePool w t x) (sym e) h

  -- ---- each phase

  pub deed-goes : (old : Phase S) (deed : Deed S) → IsDue w t terms most task old deed → LinksMove w t true terms backend moved deed old
      → CountsMove w t true deed backend.counts moved.counts → IsWholeIn w t terms old → PoolMoves terms task now old deed (Some p) behind
      → GoesWell old deed
  deed-goes Begin (took gives) d links c is k = take-goes gives d k
  deed-goes Begin (opened made) d links c is k = absurd d
  deed-goes Begin (began asks reply session) d links c is k = absurd d
  deed-goes Begin (heard reply session) d links c is k = absurd d
  deed-goes Begin put_back d links c is k = absurd d
  deed-goes Begin gave_up d links c is k = absurd d
  deed-goes Begin (redialled member_) d links c is k = absurd d
  deed-goes Begin no_memory d links c is k = absurd d
  deed-goes Begin nothing d links c is k = absurd d
  deed-goes (Dialling seat member) (took gives) d links c is k = absurd d
  deed-goes (Dialling seat member) (opened made) d links c is k = open-goes seat member made d links c is k
  deed-goes (Dialling seat member) (began asks reply session) d links c is k = absurd d
  deed-goes (Dialling seat member) (heard reply session) d links c is k = absurd d
  deed-goes (Dialling seat member) put_back d links c is k = absurd d
  deed-goes (Dialling seat member) gave_up d links c is k = absurd d
  deed-goes (Dialling seat member) (redialled member_) d links c is k = absurd d
  deed-goes (Dialling seat member) no_memory d links c is k = record { well = tt; whole = is; pool = same-pool k }
  deed-goes (Dialling seat member) nothing d links c is k = absurd d
  deed-goes (Dialled held looks) (took gives) d links c is k = absurd d
  deed-goes (Dialled held looks) (opened made) d links c is k = absurd d
  deed-goes (Dialled held looks) (began asks reply session) d links c is k = absurd d
  deed-goes (Dialled held looks) (heard reply session) d links c is k = dialled-goes held looks reply session d links is k
  deed-goes (Dialled held looks) put_back d links c is k = absurd d
  deed-goes (Dialled held looks) gave_up d links c is k = absurd d
  deed-goes (Dialled held looks) (redialled member_) d links c is k = absurd d
  deed-goes (Dialled held looks) no_memory d links c is k = absurd d
  deed-goes (Dialled held looks) nothing d links c is k = absurd d
  deed-goes (Ready held items) (took gives) d links c is k = absurd d
  deed-goes (Ready held items) (opened made) d links c is k = absurd d
  deed-goes (Ready held items) (began asks reply session) d links c is k = first-goes held items asks reply session d links is k
  deed-goes (Ready held items) (heard reply session) d links c is k = absurd d
  deed-goes (Ready held items) put_back d links c is k = absurd d
  deed-goes (Ready held items) gave_up d links c is k = absurd d
  deed-goes (Ready held items) (redialled member_) d links c is k = absurd d
  deed-goes (Ready held items) no_memory d links c is k = record { well = tt; whole = is; pool = same-pool k }
  deed-goes (Ready held items) nothing d links c is k = absurd d
  deed-goes (Searching held items slot looks) (took gives) d links c is k = absurd d
  deed-goes (Searching held items slot looks) (opened made) d links c is k = absurd d
  deed-goes (Searching held items slot looks) (began asks reply session) d links c is k = absurd d
  deed-goes (Searching held items slot looks) (heard reply session) d links c is k = searching-goes held items slot looks reply session d links is k
  deed-goes (Searching held items slot looks) put_back d links c is k = absurd d
  deed-goes (Searching held items slot looks) gave_up d links c is k = absurd d
  deed-goes (Searching held items slot looks) (redialled member_) d links c is k = absurd d
  deed-goes (Searching held items slot looks) no_memory d links c is k = absurd d
  deed-goes (Searching held items slot looks) nothing d links c is k = absurd d
  deed-goes (Presenting held items slot hits) (took gives) d links c is k = absurd d
  deed-goes (Presenting held items slot hits) (opened made) d links c is k = absurd d
  deed-goes (Presenting held items slot hits) (began asks reply session) d links c is k = next-goes held items slot hits asks reply session d links is.0 is.1 k
  deed-goes (Presenting held items slot hits) (heard reply session) d links c is k = absurd d
  deed-goes (Presenting held items slot hits) put_back d links c is k = absurd d
  deed-goes (Presenting held items slot hits) gave_up d links c is k = absurd d
  deed-goes (Presenting held items slot hits) (redialled member_) d links c is k = absurd d
  deed-goes (Presenting held items slot hits) no_memory d links c is k = record { well = tt; whole = is; pool = same-pool k }
  deed-goes (Presenting held items slot hits) nothing d links c is k = absurd d
  deed-goes (Fetching held items slot hits looks) (took gives) d links c is k = absurd d
  deed-goes (Fetching held items slot hits looks) (opened made) d links c is k = absurd d
  deed-goes (Fetching held items slot hits looks) (began asks reply session) d links c is k = absurd d
  deed-goes (Fetching held items slot hits looks) (heard reply session) d links c is k = fetching-goes held items slot hits looks reply session d links is.0 is.1 k
  deed-goes (Fetching held items slot hits looks) put_back d links c is k = absurd d
  deed-goes (Fetching held items slot hits looks) gave_up d links c is k = absurd d
  deed-goes (Fetching held items slot hits looks) (redialled member_) d links c is k = absurd d
  deed-goes (Fetching held items slot hits looks) no_memory d links c is k = absurd d
  deed-goes (Fetching held items slot hits looks) nothing d links c is k = absurd d
  deed-goes (Scanning held looks) (took gives) d links c is k = absurd d
  deed-goes (Scanning held looks) (opened made) d links c is k = absurd d
  deed-goes (Scanning held looks) (began asks reply session) d links c is k = absurd d
  deed-goes (Scanning held looks) (heard reply session) d links c is k = scanning-goes held looks reply session d links is k
  deed-goes (Scanning held looks) put_back d links c is k = absurd d
  deed-goes (Scanning held looks) gave_up d links c is k = absurd d
  deed-goes (Scanning held looks) (redialled member_) d links c is k = absurd d
  deed-goes (Scanning held looks) no_memory d links c is k = absurd d
  deed-goes (Scanning held looks) nothing d links c is k = absurd d
  deed-goes (Returning held own) (took gives) d links c is k = absurd d
  deed-goes (Returning held own) (opened made) d links c is k = absurd d
  deed-goes (Returning held own) (began asks reply session) d links c is k = absurd d
  deed-goes (Returning held own) (heard reply session) d links c is k = absurd d
  deed-goes (Returning held own) put_back d links c is k = record { well = tt; whole = tt; pool = moved-pool k (put-whole (IsWholeAt w t resting) held.seat held.parts now p is are) }
  deed-goes (Returning held own) gave_up d links c is k = absurd d
  deed-goes (Returning held own) (redialled member_) d links c is k = absurd d
  deed-goes (Returning held own) no_memory d links c is k = absurd d
  deed-goes (Returning held own) nothing d links c is k = absurd d
  deed-goes (Losing seat own) (took gives) d links c is k = absurd d
  deed-goes (Losing seat own) (opened made) d links c is k = absurd d
  deed-goes (Losing seat own) (began asks reply session) d links c is k = absurd d
  deed-goes (Losing seat own) (heard reply session) d links c is k = absurd d
  deed-goes (Losing seat own) put_back d links c is k = absurd d
  deed-goes (Losing seat own) gave_up d links c is k = record { well = tt; whole = tt; pool = moved-pool k (lose-whole (IsWholeAt w t resting) seat p are) }
  deed-goes (Losing seat own) (redialled member_) d links c is k = absurd d
  deed-goes (Losing seat own) no_memory d links c is k = absurd d
  deed-goes (Losing seat own) nothing d links c is k = absurd d
  deed-goes (Redialling seat) (took gives) d links c is k = absurd d
  deed-goes (Redialling seat) (opened made) d links c is k = absurd d
  deed-goes (Redialling seat) (began asks reply session) d links c is k = absurd d
  deed-goes (Redialling seat) (heard reply session) d links c is k = absurd d
  deed-goes (Redialling seat) put_back d links c is k = absurd d
  deed-goes (Redialling seat) gave_up d links c is k = absurd d
  deed-goes (Redialling seat) (redialled member_) d links c is k = record { well = tt; whole = member-told member_ d; pool = moved-pool k.1 (redial-whole (IsWholeAt w t resting) seat terms.at p are) }
  deed-goes (Redialling seat) no_memory d links c is k = absurd d
  deed-goes (Redialling seat) nothing d links c is k = absurd d
  deed-goes (Spoiled seat) (took gives) d links c is k = absurd d
  deed-goes (Spoiled seat) (opened made) d links c is k = absurd d
  deed-goes (Spoiled seat) (began asks reply session) d links c is k = absurd d
  deed-goes (Spoiled seat) (heard reply session) d links c is k = absurd d
  deed-goes (Spoiled seat) put_back d links c is k = absurd d
  deed-goes (Spoiled seat) gave_up d links c is k = absurd d
  deed-goes (Spoiled seat) (redialled member_) d links c is k = absurd d
  deed-goes (Spoiled seat) no_memory d links c is k = record { well = tt; whole = tt; pool = same-pool k }
  deed-goes (Spoiled seat) nothing d links c is k = absurd d
  deed-goes (Done own) (took gives) d links c is k = absurd d
  deed-goes (Done own) (opened made) d links c is k = absurd d
  deed-goes (Done own) (began asks reply session) d links c is k = absurd d
  deed-goes (Done own) (heard reply session) d links c is k = absurd d
  deed-goes (Done own) put_back d links c is k = absurd d
  deed-goes (Done own) gave_up d links c is k = absurd d
  deed-goes (Done own) (redialled member_) d links c is k = absurd d
  deed-goes (Done own) no_memory d links c is k = absurd d
  deed-goes (Done own) nothing d links c is k = record { well = tt; whole = tt; pool = same-pool k }
  deed-goes Ended (took gives) d links c is k = absurd d
  deed-goes Ended (opened made) d links c is k = absurd d
  deed-goes Ended (began asks reply session) d links c is k = absurd d
  deed-goes Ended (heard reply session) d links c is k = absurd d
  deed-goes Ended put_back d links c is k = absurd d
  deed-goes Ended gave_up d links c is k = absurd d
  deed-goes Ended (redialled member_) d links c is k = absurd d
  deed-goes Ended no_memory d links c is k = record { well = tt; whole = tt; pool = same-pool k }
  deed-goes Ended nothing d links c is k = absurd d
