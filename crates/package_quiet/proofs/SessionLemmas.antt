-- One session over a quiet backend: it is whole once it was opened, asked or looked at, and none of these fails
use Rattle.std.proofs.Common.{◌≡◌, ◌∙◌, ℕ, ◌-◌, ◌<◌, ◌≤◌, Bool, true, false, cond, inl, inr, List, [], ◌∷◌, ◌++◌, is_some, refl, sym, ap, subst, arith}
use Rattle.z_types.specs.Links.{LinkView}
use Rattle.z_types.specs.Pending.{IsPending, Pending, resting, opening, asked, broken}
use Rattle.z_types.specs.Same.{is_same}
use Rattle.z_types.specs.declared.address.Address.{Address}
use Rattle.z_types.specs.declared.ask.Ask.{Ask}
use Rattle.z_types.specs.declared.ask.Ask.TheVariants.{Search, Present, Scan}
use Rattle.z_types.specs.declared.sitting.Sitting as sitting
use Rattle.z_types.specs.declared.world.World as world
use Rattle.gw_outside.specs.Happened.{Happened, AreQuiet, at_address, is_cut}
use Rattle.gw_outside.specs.Sessions.{Fits, IsNewSession, IsWorlds, Made, made_after, made_by, pending_after}
use Rattle.gw_outside.specs.Steady.{AsksSteadily, HasNewLink, LooksSteadily, IsPresent, IsSpared, IsTakenOrSpared, TakesAsk, IfStands, finds, holds_after, is_good, looked_by}
use Rattle.gw_outside.specs.Wires.{DelaysLooked}
use Rattle.gw_outside.specs.declared.backends.Began.{Began}
use Rattle.gw_outside.specs.declared.backends.Began.TheVariants as began
use Rattle.gw_outside.specs.declared.backends.Heard.{Heard}
use Rattle.gw_outside.specs.declared.backends.Heard.TheVariants as heard
use Rattle.gw_outside.specs.declared.happenings.Happening.{Happening}
use Rattle.gw_outside.specs.declared.wires.Looked.{Looked}
use Rattle.gw_outside.specs.declared.wires.Looked.TheVariants as looked
use Rattle.gw_outside.proofs.QuietLemmas.{none_cut, nothing_at}
use Rattle.package.specs.leg.Turns.{IsAsked, IsLook}
use Rattle.package_quiet.specs.steps.Whole.{FindsItsSet, IsWhole, IsWholeAs, IsWholeAt, RepliesAtOnce, will_stand}

-- ---- nothing happens

-- no link is cut
pub uncut : (h : Happened) (address : Address) (number : ℕ) → AreQuiet h → 1 ≤ number → is_cut (at_address h address) number ≡ true → ⊥
uncut h address number quiet linked cut =
    let wrong : true ≡ false =
    sym cut ∙ ap (λ (x : Happening). is_cut x number) (nothing_at h address quiet) ∙ none_cut number linked in absurd cc

undelayed : (h : Happened) (address : Address) → AreQuiet h → (at_address h address).delay ≡ 0
undelayed h address quiet = ap (λ (x : Happening). x.delay) (nothing_at h address quiet)

-- a set is found where it is held
found : (h : Happened) (address : Address) (holds : List ℕ → Bool) (name : List ℕ) → AreQuiet h
    → finds (at_address h address) holds name ≡ holds name
found h address holds name quiet = ap (λ (x : Happening). finds x holds name) (nothing_at h address quiet)

-- ---- an opening

module _ {W S : Type 0} (w : world.Ghosts W) (t : sitting.Ghosts S W) where
  pub new-whole : (address : Address) (h : Happened) (dials : ℕ) (session : S) → AreQuiet h → w.told address → 1 ≤ dials
      → IsNewSession t address session → HasNewLink t true (at_address h address) dials session → IsWholeAt w t opening session
  new-whole address h dials session quiet told linked new link = record {
    whole = record {
      told = subst (λ (a : Address). w.told a) (sym new.same_address) told;
      linked = subst (λ (n : ℕ). 1 ≤ n) (sym (link.number refl)) linked;
      replies = subst (λ (p : Pending). RepliesAtOnce p (t.link session)) (sym new.pending)
          (link.delays ∙ ap (λ (n : ℕ). n ∷ []) (undelayed h address quiet));
      holds = λ name will.
          let none : will_stand w (t.address session) (t.pending session) (t.made session) name ≡ false =
          ap (λ (p : Pending). will_stand w (t.address session) p (t.made session) name) new.pending ∙ ap is_some (new.made name) in
          let wrong : true ≡ false = sym will ∙ none in absurd cc;
    };
    waits = new.pending;
  }

-- ---- an ask

-- a Present is of a set that was made
abbrev pub IsOfMade : Ask → Made → Type 0
IsOfMade (Present name first count syntax element) made = is_some (made name) ≡ true
IsOfMade ask made = Unit {0}

of-as : (ask : Ask) (made other : Made) → ((name : List ℕ) → other name ≡ made name) → IsOfMade ask made → IsOfMade ask other
of-as (Search own key) made other same h = tt
of-as (Present own first count syntax element) made other same h = ap is_some (same own) ∙ h
of-as (Scan dbs scan) made other same h = tt

none-gone : (gone there : Bool) → there ≡ true → (gone ≡ true → there ≡ false) → gone ≡ false
none-gone false there is h = refl
none-gone true there is h = let wrong : true ≡ false = sym is ∙ h refl in absurd cc

module _ {W : Type 0} (w : world.Ghosts W) (address : Address) where
  -- what the target holds once it took an ask
  asked-holds : (ask : Ask) (made : Made) (h : Happened) (holds : List ℕ → Bool) → AreQuiet h
      → ((name : List ℕ) → is_some (made name) ≡ true → holds name ≡ true) → (name : List ℕ)
      → will_stand w address (asked ask) made name ≡ true → holds_after w address ask (at_address h address) holds name ≡ true
  asked-holds (Search own key) made h holds quiet old name = (elim (is_same own name) as (λ (b : Bool). cond b (is_good (w.search address key)) (is_some (made name)) ≡ true → cond b (is_good (w.search address key)) (holds name) ≡ true) [
    | true ↦ λ will. will
    | false ↦ λ will. old name will
  ])
  asked-holds (Present own first count syntax element) made h holds quiet old name = λ will. found h address holds name quiet ∙ old name will
  asked-holds (Scan dbs scan) made h holds quiet old name = λ will. old name will

  asked-finds : (ask : Ask) (made : Made) (old new : LinkView) (before after : Happened) → AreQuiet before → IsWholeAs w address resting made old
      → IsOfMade ask made → TakesAsk w address ask old new before after → FindsItsSet ask new
  asked-finds (Search own key) made old new before after quiet whole is h = tt
  asked-finds (Present own first count syntax element) made old new before after quiet whole is h =
      none-gone new.gone (old.holds own) (whole.holds own is) (λ gone. sym (found before address old.holds own quiet) ∙ h.gone gone)
  asked-finds (Scan dbs scan) made old new before after quiet whole is h = tt

  asked-whole : (ask : Ask) (made : Made) (old new : LinkView) (before after : Happened) → AreQuiet before → IsWholeAs w address resting made old
      → IsOfMade ask made → new.number ≡ old.number → TakesAsk w address ask old new before after → IsWholeAs w address (asked ask) made new
  asked-whole ask made old new before after quiet whole is number h = record {
    told = whole.told;
    linked = subst (λ (n : ℕ). 1 ≤ n) (sym number) whole.linked;
    replies = (
      h.delays ∙ ap (λ (ds : List ℕ). ds ++ (at_address before address).delay ∷ []) whole.replies
          ∙ ap (λ (n : ℕ). n ∷ []) (undelayed before address quiet),
      asked-finds ask made old new before after quiet whole is h,
    );
    holds = λ name will. h.holds name ∙ asked-holds ask made before old.holds quiet whole.holds name will;
  }

  -- a Present that is spared the link finds its set
  spared-finds : (keeps : Bool) (ask : Ask) (old new : LinkView) (before after : Happened) → IsSpared keeps ask old new before after → FindsItsSet ask new
  spared-finds keeps (Search own key) old new before after h = tt
  spared-finds keeps (Present own first count syntax element) old new before after h = h.gone
  spared-finds keeps (Scan dbs scan) old new before after h = tt

  -- and makes no set
  pub spared-stands : (ask : Ask) (made : Made) (name : List ℕ) → IsPresent ask → will_stand w address (asked ask) made name ≡ true → is_some (made name) ≡ true
  spared-stands (Search own key) made name is will = absurd is
  spared-stands (Present own first count syntax element) made name is will = will
  spared-stands (Scan dbs scan) made name is will = absurd is

  spared-whole : (keeps : Bool) (ask : Ask) (made : Made) (old new : LinkView) (before after : Happened) → IsWholeAs w address resting made old
      → new.number ≡ old.number → IsSpared keeps ask old new before after → IsWholeAs w address (asked ask) made new
  spared-whole keeps ask made old new before after whole number h = record {
    told = whole.told;
    linked = subst (λ (n : ℕ). 1 ≤ n) (sym number) whole.linked;
    replies = (h.delays ∙ ap (λ (ds : List ℕ). 0 ∷ ds) whole.replies, spared-finds keeps ask old new before after h);
    holds = λ name will. h.holds name ∙ whole.holds name (spared-stands ask made name h.present will);
  }

  begun-whole : (keeps : Bool) (ask : Ask) (made : Made) (old new : LinkView) (before after : Happened) → AreQuiet before
      → IsWholeAs w address resting made old → IsOfMade ask made → new.number ≡ old.number → IsTakenOrSpared w keeps address ask old new before after
      → IsWholeAs w address (asked ask) made new
  begun-whole keeps ask made old new before after quiet whole is number (inl h) = asked-whole ask made old new before after quiet whole is number h
  begun-whole keeps ask made old new before after quiet whole is number (inr h) = spared-whole keeps ask made old new before after whole number h

-- ---- a look

-- a reply is due now
due-now : (pending : Pending) (link : LinkView) → IsPending pending → RepliesAtOnce pending link → link.delays ≡ 0 ∷ []
due-now resting link is h = absurd is
due-now opening link is h = h
due-now (asked ask) link is h = h.0
due-now broken link is h = absurd is

-- and does not say that a set is gone
not-gone : (pending : Pending) (link : LinkView) → RepliesAtOnce pending link → Fits pending heard.Gone → link.gone ≡ false
not-gone resting link h fits = absurd fits
not-gone opening link h fits = absurd fits
not-gone (asked (Search own key)) link h fits = absurd fits
not-gone (asked (Present own first count syntax element)) link h fits = h.1
not-gone (asked (Scan dbs scan)) link h fits = absurd fits
not-gone broken link h fits = absurd fits

-- a reply is heard, or memory is wanting
abbrev pub IsHeardWell : Heard → Type 0
IsHeardWell heard.NotYet = ⊥
IsHeardWell heard.Gone = ⊥
IsHeardWell heard.Failed = ⊥
IsHeardWell answer = Unit {0}

-- a reply is heard
abbrev pub IsReply : Heard → Type 0
IsReply heard.NotYet = ⊥
IsReply heard.Gone = ⊥
IsReply heard.Failed = ⊥
IsReply heard.Memory = ⊥
IsReply answer = Unit {0}

arrived : (answer : Heard) → IsReply answer → looked_by answer ≡ looked.Arrived
arrived heard.Opened h = refl
arrived (heard.Hits hits) h = refl
arrived (heard.Refused diag) h = refl
arrived (heard.Items items) h = refl
arrived heard.Gone h = absurd h
arrived (heard.Scanned entries) h = refl
arrived heard.NotYet h = absurd h
arrived heard.Failed h = absurd h
arrived heard.Memory h = absurd h

rests-after : (pending : Pending) (answer : Heard) → IsReply answer → pending_after pending answer ≡ resting
rests-after p heard.Opened h = refl
rests-after p (heard.Hits hits) h = refl
rests-after p (heard.Refused diag) h = refl
rests-after p (heard.Items items) h = refl
rests-after p heard.Gone h = absurd h
rests-after p (heard.Scanned entries) h = refl
rests-after p heard.NotYet h = absurd h
rests-after p heard.Failed h = absurd h
rests-after p heard.Memory h = absurd h

still-there : (answer : Heard) (P : Type 0) → IsReply answer → IfStands answer P → P
still-there heard.Opened P h k = k
still-there (heard.Hits hits) P h k = k
still-there (heard.Refused diag) P h k = k
still-there (heard.Items items) P h k = k
still-there heard.Gone P h k = absurd h
still-there (heard.Scanned entries) P h k = k
still-there heard.NotYet P h k = absurd h
still-there heard.Failed P h k = absurd h
still-there heard.Memory P h k = absurd h

-- no reply is owed behind the one that was due
none-owed : (old new : List ℕ) → old ≡ 0 ∷ [] → old ≡ 0 ∷ new → new ≡ []
none-owed old new due h = let is : 0 ∷ [] ≡ 0 ∷ new = sym due ∙ h in cc

waited : (old new : List ℕ) → old ≡ 0 ∷ [] → DelaysLooked old new looked.NotYet → ⊥
waited old new due h =
    let is : (0 < 0) × (new ≡ (0 - 1) ∷ []) = subst (λ (ds : List ℕ). DelaysLooked ds new looked.NotYet) due h in
    absurd (omega (arith, is.0))

module _ {W : Type 0} (w : world.Ghosts W) (address : Address) where
  pub heard-well : {keeps : Bool} (pending : Pending) (made : Made) (old new : LinkView) (h : Happened) (answer : Heard) → AreQuiet h
      → IsWholeAs w address pending made old → IsPending pending → Fits pending answer → LooksSteadily keeps address h old new answer
      → IsHeardWell answer
  heard-well p made old new h heard.Opened quiet whole is fits look = tt
  heard-well p made old new h (heard.Hits hits) quiet whole is fits look = tt
  heard-well p made old new h (heard.Refused diag) quiet whole is fits look = tt
  heard-well p made old new h (heard.Items items) quiet whole is fits look = tt
  heard-well p made old new h heard.Gone quiet whole is fits look =
      let wrong : true ≡ false = sym (look.gone refl) ∙ not-gone p old whole.replies fits in absurd cc
  heard-well p made old new h (heard.Scanned entries) quiet whole is fits look = tt
  heard-well p made old new h heard.NotYet quiet whole is fits look =
      waited old.delays new.delays (due-now p old is whole.replies) look.delays
  heard-well p made old new h heard.Failed quiet whole is fits look = uncut h address old.number quiet whole.linked (look.fails refl)
  heard-well p made old new h heard.Memory quiet whole is fits look = tt

  -- what was made then stood before, or was to stand
  stands-after : (pending : Pending) (made : Made) (answer : Heard) (name : List ℕ) → IsPending pending → Fits pending answer
      → IsReply answer → IsWorlds w address made pending answer → is_some (made_after pending answer made name) ≡ true
      → will_stand w address pending made name ≡ true
  stands-after resting made answer name is fits reply worlds stands = absurd is
  stands-after opening made answer name is fits reply worlds stands = stands
  stands-after broken made answer name is fits reply worlds stands = absurd is
  stands-after (asked (Present own first count syntax element)) made answer name is fits reply worlds stands = stands
  stands-after (asked (Scan dbs scan)) made answer name is fits reply worlds stands = stands
  stands-after (asked (Search own key)) made heard.Opened name is fits reply worlds stands = absurd fits
  stands-after (asked (Search own key)) made (heard.Hits hits) name is fits reply worlds stands = (elim (is_same own name) as (λ (b : Bool). is_some (cond b (made_by key (heard.Hits hits) (made name)) (made name)) ≡ true → cond b (is_good (w.search address key)) (is_some (made name)) ≡ true) [
    | true ↦ λ some. ap is_good worlds
    | false ↦ λ some. some
  ]) stands
  stands-after (asked (Search own key)) made (heard.Refused diag) name is fits reply worlds stands = (elim (is_same own name) as (λ (b : Bool). is_some (cond b (made_by key (heard.Refused diag) (made name)) (made name)) ≡ true → cond b (is_good (w.search address key)) (is_some (made name)) ≡ true) [
    | true ↦ λ some. let wrong : false ≡ true = some in absurd cc
    | false ↦ λ some. some
  ]) stands
  stands-after (asked (Search own key)) made (heard.Items items) name is fits reply worlds stands = absurd fits
  stands-after (asked (Search own key)) made heard.Gone name is fits reply worlds stands = absurd fits
  stands-after (asked (Search own key)) made (heard.Scanned entries) name is fits reply worlds stands = absurd fits
  stands-after (asked (Search own key)) made heard.NotYet name is fits reply worlds stands = absurd reply
  stands-after (asked (Search own key)) made heard.Failed name is fits reply worlds stands = absurd reply
  stands-after (asked (Search own key)) made heard.Memory name is fits reply worlds stands = absurd reply

  reply-whole : {keeps : Bool} (pending : Pending) (made after : Made) (old new : LinkView) (h : Happened) (answer : Heard) → IsReply answer
      → IsWholeAs w address pending made old → IsPending pending → Fits pending answer → IsWorlds w address made pending answer
      → ((name : List ℕ) → after name ≡ made_after pending answer made name) → LooksSteadily keeps address h old new answer
      → IsWholeAs w address resting after new
  reply-whole pending made after old new h answer reply whole is fits worlds then look = record {
    told = whole.told;
    linked = subst (λ (n : ℕ). 1 ≤ n) (sym look.number) whole.linked;
    replies = none-owed old.delays new.delays (due-now pending old is whole.replies)
        (subst (λ (l : Looked). DelaysLooked old.delays new.delays l) (arrived answer reply) look.delays);
    holds = λ name stands.
        still-there answer ((own : List ℕ) → new.holds own ≡ old.holds own) reply look.holds name
        ∙ whole.holds name
        (stands-after pending made answer name is fits reply worlds (ap is_some (sym (then name)) ∙ stands));
  }

-- ---- sessions

module _ {W S : Type 0} (w : world.Ghosts W) (t : sitting.Ghosts S W) where
  -- an ask does not fail, and leaves a session whole that waits for its reply
  abbrev pub IsBegunWell : Ask → S → Began → Type 0
  IsBegunWell ask session began.Started = IsWholeAt w t (asked ask) session
  IsBegunWell ask session began.Failed = ⊥
  IsBegunWell ask session began.Memory = Unit {0}

  as-pending : (session : S) (pending : Pending) → t.pending session ≡ pending → IsWhole w t session
      → IsWholeAs w (t.address session) pending (t.made session) (t.link session)
  as-pending session p e whole = subst (λ (p : Pending). IsWholeAs w (t.address session) p (t.made session) (t.link session)) e whole

  -- by the session before it
  as-before : (before after : S) (pending : Pending) → t.address after ≡ t.address before → t.pending after ≡ pending
      → IsWholeAs w (t.address before) pending (t.made after) (t.link after) → IsWholeAt w t pending after
  as-before before after pending at e whole = record {
    whole = subst (λ (p : Pending). IsWholeAs w (t.address after) p (t.made after) (t.link after)) (sym e)
        (subst (λ (a : Address). IsWholeAs w a pending (t.made after) (t.link after)) (sym at) whole);
    waits = e;
  }

  -- a session at rest, by what it made
  made-as : (address : Address) (made other : Made) (link : LinkView) → ((name : List ℕ) → other name ≡ made name)
      → IsWholeAs w address resting made link → IsWholeAs w address resting other link
  made-as address made other link same whole = record {
    told = whole.told;
    linked = whole.linked;
    replies = whole.replies;
    holds = λ name stands. whole.holds name (ap is_some (sym (same name)) ∙ stands);
  }

  pub ask-well : (due ask : Ask) (before after : S) (h moved : Happened) (answer : Began) → AreQuiet h → IsWholeAt w t resting before
      → IsOfMade ask (t.made before) → IsAsked w t due ask before after answer
      → AsksSteadily w t.keeps (t.address before) ask (t.link before) (t.link after) h moved answer → IsBegunWell ask after answer
  ask-well due ask before after h moved began.Started quiet is of a steady =
      as-before before after (asked ask) a.address a.waits
      (begun-whole w (t.address before) t.keeps ask (t.made after) (t.link before) (t.link after) h moved quiet
      (made-as (t.address before) (t.made before) (t.made after) (t.link before) a.made (as-pending before resting is.waits is.whole))
      (of-as ask (t.made before) (t.made after) a.made of) steady.number steady.taken)
  ask-well due ask before after h moved began.Failed quiet is of a steady =
      uncut h (t.address before) (t.link before).number quiet is.whole.linked steady.taken
  ask-well due ask before after h moved began.Memory quiet is of a steady = tt

  -- a look hears a reply, or lacks memory
  pub look-well : (before after : S) (h : Happened) (answer : Heard) → AreQuiet h → IsWhole w t before → IsPending (t.pending before)
      → IsLook w t before after answer → LooksSteadily t.keeps (t.address before) h (t.link before) (t.link after) answer → IsHeardWell answer
  look-well before after h answer quiet whole is look steady =
      heard-well w (t.address before) (t.pending before) (t.made before) (t.link before) (t.link after) h answer quiet whole is look.fits steady

  -- a reply leaves it at rest
  pub look-rests : (before after : S) (h : Happened) (answer : Heard) → IsReply answer → IsWhole w t before → IsPending (t.pending before)
      → IsLook w t before after answer → LooksSteadily t.keeps (t.address before) h (t.link before) (t.link after) answer
      → IsWholeAt w t resting after
  look-rests before after h answer reply whole is look steady =
      as-before before after resting look.address (look.waits ∙ rests-after (t.pending before) answer reply)
      (reply-whole w (t.address before) (t.pending before) (t.made before) (t.made after) (t.link before) (t.link after) h answer reply whole is
      look.fits (look.worlds whole.told) look.made steady)
