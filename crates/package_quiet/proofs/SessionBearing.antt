-- One session, while no more befalls links than a leg bears: how it fares once it was opened, asked or looked at
use Rattle.std.proofs.Common.{◌≡◌, ◌∙◌, ℕ, ◌+◌, ◌<◌, ◌≤◌, Bool, true, false, cond, if◌then◌else◌, inl, inr, List, [], ◌∷◌, ◌++◌, nat_lt, is_some, Option, refl, sym, ap, subst, arith}
use Rattle.std.proofs.lemmas.Cmp.{nat_list_eq_equiv}
use Rattle.z_types.specs.Links.{LinkView}
use Rattle.z_types.specs.Pending.{IsPending, Pending, resting, opening, asked, broken}
use Rattle.z_types.specs.Same.{is_same}
use Rattle.z_types.specs.declared.address.Address.{Address}
use Rattle.z_types.specs.declared.address.Address.TheVariants.{Test, Tcp, Login}
use Rattle.z_types.specs.declared.address.Site.TheVariants as site
use Rattle.z_types.specs.declared.ask.Ask.{Ask}
use Rattle.z_types.specs.declared.ask.Ask.TheVariants.{Search, Present, Scan}
use Rattle.z_types.specs.declared.key.SetKey.{SetKey}
use Rattle.z_types.specs.declared.sitting.Sitting as sitting
use Rattle.z_types.specs.declared.world.World as world
use Rattle.gw_outside.specs.Happened.{AreLess, Happened, at_address}
use Rattle.gw_outside.specs.Sessions.{Fits, IsNewSession, IsWorlds, Made, made_after, made_by, pending_after}
use Rattle.gw_outside.specs.Steady.{AsksSteadily, HasNewLink, IfStands, IsPresent, IsSpared, IsTakenOrSpared, LooksSteadily, TakesAsk, finds, holds_after, is_good, looked_by}
use Rattle.gw_outside.specs.Wires.{DelaysLooked}
use Rattle.gw_outside.specs.declared.backends.Began.TheVariants as began
use Rattle.gw_outside.specs.declared.backends.Heard.{Heard}
use Rattle.gw_outside.specs.declared.backends.Heard.TheVariants as heard
use Rattle.gw_outside.specs.declared.happenings.Happening.{Happening}
use Rattle.gw_outside.specs.declared.wires.Looked.{Looked}
use Rattle.gw_outside.specs.declared.wires.Looked.TheVariants as looked
use Rattle.package.specs.leg.Turns.{IsAsked, IsLook}
use Rattle.route_config.specs.declared.route.PoolNumbers.{PoolNumbers}
use Rattle.package_quiet.specs.steps.Bearing.{AreBearable, AreNoWorse, ComesInTime, FaresAs, FaresAt, HoldsFound, IsBearable, RepliesInTime}
use Rattle.package_quiet.specs.steps.Whole.{will_stand}
use Rattle.package_quiet.proofs.SessionLemmas.{spared-stands}

-- ---- what was made to happen

-- at an address
pub at-bearable : (pool : PoolNumbers) (h : Happened) (address : Address) → AreBearable pool h → IsBearable pool (at_address h address)
at-bearable pool h (Test target) bearable = bearable.each target
at-bearable pool h (Tcp host port) bearable =
    let some = (bearable.each 0).delay in record { presents = omega (arith); delay = omega (arith, some) }
at-bearable pool h (Login (site.Test target) login) bearable = bearable.each target
at-bearable pool h (Login (site.Tcp host port) login) bearable =
    let some = (bearable.each 0).delay in record { presents = omega (arith); delay = omega (arith, some) }

-- no Present finds its sets deleted where none is searched for again
no-presents : (pool : PoolNumbers) (h : Happened) (address : Address) → AreBearable pool h → pool.repeats ≡ 0 → (at_address h address).presents ≡ 0
no-presents pool h address bearable none = let few = (at-bearable pool h address bearable).presents in omega (arith, few, none)

pub less-bearable : (pool : PoolNumbers) (old new : Happened) → AreLess old new → AreBearable pool old → AreBearable pool new
less-bearable pool old new less bearable = record {
  steady = less.steady ∙ bearable.steady;
  each = λ target. let so = bearable.each target in let fewer = less.presents target in let same = less.delay target in record {
    presents = (let few = so.presents in omega (arith, few, fewer));
    delay = (let early = so.delay in omega (arith, early, same));
  };
}

pub less-no-worse : (old new : Happened) → AreLess old new → AreNoWorse old new
less-no-worse old new less = record { presents = less.presents; cut = less.cut }

-- ---- an opening

in-time : (pool : PoolNumbers) (delays : List ℕ) (delay : ℕ) → delays ≡ delay ∷ [] → delay < pool.patience → ComesInTime pool 0 delays
in-time pool delays delay is early = subst (λ (ds : List ℕ). ComesInTime pool 0 ds) (sym is) (omega (arith, early))

module _ {W S : Type 0} (w : world.Ghosts W) (t : sitting.Ghosts S W) (pool : PoolNumbers) where
  pub new-fares : (address : Address) (h : Happened) (dials : ℕ) (session : S) → AreBearable pool h → w.told address → 1 ≤ dials
      → IsNewSession t address session → HasNewLink t true (at_address h address) dials session → FaresAt w t pool opening 0 session
  new-fares address h dials session bearable told linked new link = record {
    fares = record {
      told = subst (λ (a : Address). w.told a) (sym new.same_address) told;
      linked = subst (λ (n : ℕ). 1 ≤ n) (sym (link.number refl)) linked;
      replies = in-time pool (t.link session).delays (at_address h address).delay link.delays (at-bearable pool h address bearable).delay;
      found = tt;
      holds = λ none name will. let wrong : true ≡ false = sym will ∙ ap is_some (new.made name) in absurd cc;
    };
    waits = new.pending;
  }

-- ---- an ask

-- where no Present is to find its sets deleted
found : (happening : Happening) (holds : List ℕ → Bool) (name : List ℕ) → happening.presents ≡ 0 → finds happening holds name ≡ holds name
found happening holds name none = ap (λ (n : ℕ). if nat_lt 0 n then false else holds name) none

module _ {W : Type 0} (w : world.Ghosts W) (pool : PoolNumbers) (address : Address) where
  -- what the target holds once it took an ask
  asked-holds : (ask : Ask) (made : Made) (happening : Happening) (holds : List ℕ → Bool) → happening.presents ≡ 0
      → ((name : List ℕ) → is_some (made name) ≡ true → holds name ≡ true) → (name : List ℕ)
      → will_stand w address (asked ask) made name ≡ true → holds_after w address ask happening holds name ≡ true
  asked-holds (Search own key) made happening holds none old name = (elim (is_same own name) as (λ (b : Bool). cond b (is_good (w.search address key)) (is_some (made name)) ≡ true → cond b (is_good (w.search address key)) (holds name) ≡ true) [
    | true ↦ λ will. will
    | false ↦ λ will. old name will
  ])
  asked-holds (Present own first count syntax element) made happening holds none old name = λ will. found happening holds name none ∙ old name will
  asked-holds (Scan dbs scan) made happening holds none old name = λ will. old name will

  asked-found : (ask : Ask) (old new : LinkView) (before after : Happened) → TakesAsk w address ask old new before after
      → HoldsFound w pool address (asked ask) new.holds
  asked-found (Search own key) old new before after h = λ good.
      h.holds own ∙ ap (λ (b : Bool). cond b (is_good (w.search address key)) (old.holds own)) (nat_list_eq_equiv.refl own) ∙ good
  asked-found (Present own first count syntax element) old new before after h = tt
  asked-found (Scan dbs scan) old new before after h = tt

  asked-fares : (ask : Ask) (made : Made) (old new : LinkView) (before after : Happened) → AreBearable pool before
      → FaresAs w pool address resting 0 made old → new.number ≡ old.number → TakesAsk w address ask old new before after
      → FaresAs w pool address (asked ask) 0 made new
  asked-fares ask made old new before after bearable fares number h = record {
    told = fares.told;
    linked = subst (λ (n : ℕ). 1 ≤ n) (sym number) fares.linked;
    replies = in-time pool new.delays (at_address before address).delay
        (h.delays ∙ ap (λ (ds : List ℕ). ds ++ (at_address before address).delay ∷ []) fares.replies) (at-bearable pool before address bearable).delay;
    found = asked-found ask old new before after h;
    holds = λ none name will.
        h.holds name
        ∙ asked-holds ask made (at_address before address) old.holds (no-presents pool before address bearable none) (fares.holds none) name will;
  }

  spared-found : (ask : Ask) (holds : List ℕ → Bool) → IsPresent ask → HoldsFound w pool address (asked ask) holds
  spared-found (Search own key) holds is = absurd is
  spared-found (Present own first count syntax element) holds is = tt
  spared-found (Scan dbs scan) holds is = absurd is

  -- a Present that is spared the link is answered at the first look
  spared-fares : (keeps : Bool) (ask : Ask) (made : Made) (old new : LinkView) (before after : Happened) → AreBearable pool before
      → FaresAs w pool address resting 0 made old → new.number ≡ old.number → IsSpared keeps ask old new before after
      → FaresAs w pool address (asked ask) 0 made new
  spared-fares keeps ask made old new before after bearable fares number h = record {
    told = fares.told;
    linked = subst (λ (n : ℕ). 1 ≤ n) (sym number) fares.linked;
    replies = in-time pool new.delays 0 (h.delays ∙ ap (λ (ds : List ℕ). 0 ∷ ds) fares.replies)
        (let early = (bearable.each 0).delay in omega (arith, early));
    found = spared-found ask new.holds h.present;
    holds = λ none name will. h.holds name ∙ fares.holds none name (spared-stands w address ask made name h.present will);
  }

  begun-fares : (keeps : Bool) (ask : Ask) (made : Made) (old new : LinkView) (before after : Happened) → AreBearable pool before
      → FaresAs w pool address resting 0 made old → new.number ≡ old.number → IsTakenOrSpared w keeps address ask old new before after
      → FaresAs w pool address (asked ask) 0 made new
  begun-fares keeps ask made old new before after bearable fares number (inl h) = asked-fares ask made old new before after bearable fares number h
  begun-fares keeps ask made old new before after bearable fares number (inr h) = spared-fares keeps ask made old new before after bearable fares number h

-- ---- a look

module _ (pool : PoolNumbers) where
  -- a reply that is awaited is owed
  due : (pending : Pending) (looks : ℕ) (delays : List ℕ) → IsPending pending → RepliesInTime pool pending looks delays → ComesInTime pool looks delays
  due resting looks delays is h = absurd is
  due opening looks delays is h = h
  due (asked ask) looks delays is h = h
  due broken looks delays is h = absurd is

  owed : (pending : Pending) (looks : ℕ) (delays : List ℕ) → IsPending pending → ComesInTime pool looks delays → RepliesInTime pool pending looks delays
  owed resting looks delays is h = absurd is
  owed opening looks delays is h = h
  owed (asked ask) looks delays is h = h
  owed broken looks delays is h = absurd is

  -- none is behind it
  none-owed : (looks : ℕ) (old new : List ℕ) → ComesInTime pool looks old → old ≡ 0 ∷ new → new ≡ []
  none-owed looks [] new comes h = absurd comes
  none-owed looks (delay ∷ []) new comes h = cc
  none-owed looks (delay ∷ second ∷ others) new comes h = absurd comes

  -- a look in vain is one of those that it comes after
  waited : (looks : ℕ) (old new : List ℕ) → ComesInTime pool looks old → DelaysLooked old new looked.NotYet
      → ComesInTime pool (looks + 1) new × (looks + 1 < pool.patience)
  waited looks [] new comes h = absurd comes
  waited looks (delay ∷ []) new comes h =
      let some = h.0 in
      (subst (λ (ds : List ℕ). ComesInTime pool (looks + 1) ds) (sym h.1) (omega (arith, comes, some)), omega (arith, comes, some))
  waited looks (delay ∷ second ∷ others) new comes h = absurd comes

-- a reply is heard
abbrev pub IsReply : Heard → Type 0
IsReply heard.NotYet = ⊥
IsReply heard.Failed = ⊥
IsReply heard.Memory = ⊥
IsReply reply = Unit {0}

pub arrived : (answer : Heard) → IsReply answer → looked_by answer ≡ looked.Arrived
arrived heard.Opened h = refl
arrived (heard.Hits hits) h = refl
arrived (heard.Refused diag) h = refl
arrived (heard.Items items) h = refl
arrived heard.Gone h = refl
arrived (heard.Scanned entries) h = refl
arrived heard.NotYet h = absurd h
arrived heard.Failed h = absurd h
arrived heard.Memory h = absurd h

rests-after : (pending : Pending) (answer : Heard) → IsReply answer → pending_after pending answer ≡ resting
rests-after p heard.Opened h = refl
rests-after p (heard.Hits hits) h = refl
rests-after p (heard.Refused diag) h = refl
rests-after p (heard.Items items) h = refl
rests-after p heard.Gone h = refl
rests-after p (heard.Scanned entries) h = refl
rests-after p heard.NotYet h = absurd h
rests-after p heard.Failed h = absurd h
rests-after p heard.Memory h = absurd h

still-there : (answer : Heard) (P : Type 0) → IsReply answer → IfStands answer P → P
still-there heard.Opened P h k = k
still-there (heard.Hits hits) P h k = k
still-there (heard.Refused diag) P h k = k
still-there (heard.Items items) P h k = k
still-there heard.Gone P h k = k
still-there (heard.Scanned entries) P h k = k
still-there heard.NotYet P h k = absurd h
still-there heard.Failed P h k = absurd h
still-there heard.Memory P h k = absurd h

-- nothing is made or ended by a look in vain
not-made : (pending : Pending) (made : Made) (name : List ℕ) → made_after pending heard.NotYet made name ≡ made name
not-made resting made name = refl
not-made opening made name = refl
not-made broken made name = refl
not-made (asked (Search own key)) made name = (elim (is_same own name) as (λ (b : Bool). cond b (made name) (made name) ≡ made name) [
  | true ↦ refl
  | false ↦ refl
])
not-made (asked (Present own first count syntax element)) made name = refl
not-made (asked (Scan dbs scan)) made name = refl

module _ {W : Type 0} (w : world.Ghosts W) (pool : PoolNumbers) (address : Address) where
  will-same : (pending : Pending) (made other : Made) (name : List ℕ) → other name ≡ made name
      → will_stand w address pending other name ≡ will_stand w address pending made name
  will-same resting made other name e = ap is_some e
  will-same opening made other name e = ap is_some e
  will-same broken made other name e = ap is_some e
  will-same (asked (Search own key)) made other name e =
      ap (λ (m : Option (SetKey × ℕ)). cond (is_same own name) (is_good (w.search address key)) (is_some m)) e
  will-same (asked (Present own first count syntax element)) made other name e = ap is_some e
  will-same (asked (Scan dbs scan)) made other name e = ap is_some e

  found-still : (pending : Pending) (holds other : List ℕ → Bool) → ((name : List ℕ) → other name ≡ holds name)
      → HoldsFound w pool address pending holds → HoldsFound w pool address pending other
  found-still resting holds other same h = tt
  found-still opening holds other same h = tt
  found-still broken holds other same h = tt
  found-still (asked (Search own key)) holds other same h = λ good. same own ∙ h good
  found-still (asked (Present own first count syntax element)) holds other same h = tt
  found-still (asked (Scan dbs scan)) holds other same h = tt

  -- a look in vain
  waiting-fares : {keeps : Bool} (pending : Pending) (looks : ℕ) (made after : Made) (old new : LinkView) (h : Happened)
      → FaresAs w pool address pending looks made old → IsPending pending
      → ((name : List ℕ) → after name ≡ made_after pending heard.NotYet made name)
      → LooksSteadily keeps address h old new heard.NotYet
      → FaresAs w pool address pending (looks + 1) after new
  waiting-fares pending looks made after old new h fares is makes look = record {
    told = fares.told;
    linked = subst (λ (n : ℕ). 1 ≤ n) (sym look.number) fares.linked;
    replies = owed pool pending (looks + 1) new.delays is
        (waited pool looks old.delays new.delays (due pool pending looks old.delays is fares.replies) look.delays).0;
    found = found-still pending old.holds new.holds look.holds fares.found;
    holds = λ none name will.
        look.holds name
        ∙ fares.holds none name (sym (will-same pending made after name (makes name ∙ not-made pending made name)) ∙ will);
  }

  waiting-looks : {keeps : Bool} (pending : Pending) (looks : ℕ) (made : Made) (old new : LinkView) (h : Happened) → FaresAs w pool address pending looks made old
      → IsPending pending → LooksSteadily keeps address h old new heard.NotYet → looks + 1 < pool.patience
  waiting-looks pending looks made old new h fares is look =
      (waited pool looks old.delays new.delays (due pool pending looks old.delays is fares.replies) look.delays).1

  -- what was made behind a reply stood before, or was to stand
  stands-after : (pending : Pending) (made : Made) (answer : Heard) (name : List ℕ) → IsPending pending → Fits pending answer
      → IsReply answer → IsWorlds w address made pending answer → is_some (made_after pending answer made name) ≡ true
      → will_stand w address pending made name ≡ true
  stands-after resting made answer name is fits reply worlds stands = absurd is
  stands-after opening made answer name is fits reply worlds stands = stands
  stands-after broken made answer name is fits reply worlds stands = absurd is
  stands-after (asked (Present own first count syntax element)) made answer name is fits reply worlds stands = stands
  stands-after (asked (Scan dbs scan)) made answer name is fits reply worlds stands = stands
  stands-after (asked (Search own key)) made heard.Opened name is fits reply worlds stands = absurd fits
  stands-after (asked (Search own key)) made (heard.Hits hits) name is fits reply worlds stands = (elim (is_same own name) as (λ (b : Bool). is_some (cond b (made_by key (heard.Hits hits) (made name)) (made name)) ≡ true → cond b (is_good (w.search address key)) (is_some (made name)) ≡ true) [
    | true ↦ λ some. ap is_good worlds
    | false ↦ λ some. some
  ]) stands
  stands-after (asked (Search own key)) made (heard.Refused diag) name is fits reply worlds stands = (elim (is_same own name) as (λ (b : Bool). is_some (cond b (made_by key (heard.Refused diag) (made name)) (made name)) ≡ true → cond b (is_good (w.search address key)) (is_some (made name)) ≡ true) [
    | true ↦ λ some. let wrong : false ≡ true = some in absurd cc
    | false ↦ λ some. some
  ]) stands
  stands-after (asked (Search own key)) made (heard.Items items) name is fits reply worlds stands = absurd fits
  stands-after (asked (Search own key)) made heard.Gone name is fits reply worlds stands = absurd fits
  stands-after (asked (Search own key)) made (heard.Scanned entries) name is fits reply worlds stands = absurd fits
  stands-after (asked (Search own key)) made heard.NotYet name is fits reply worlds stands = absurd reply
  stands-after (asked (Search own key)) made heard.Failed name is fits reply worlds stands = absurd reply
  stands-after (asked (Search own key)) made heard.Memory name is fits reply worlds stands = absurd reply

  -- a reply
  reply-fares : {keeps : Bool} (pending : Pending) (looks : ℕ) (made after : Made) (old new : LinkView) (h : Happened) (answer : Heard) → IsReply answer
      → FaresAs w pool address pending looks made old → IsPending pending → Fits pending answer → IsWorlds w address made pending answer
      → ((name : List ℕ) → after name ≡ made_after pending answer made name) → LooksSteadily keeps address h old new answer
      → FaresAs w pool address resting 0 after new
  reply-fares pending looks made after old new h answer reply fares is fits worlds makes look = record {
    told = fares.told;
    linked = subst (λ (n : ℕ). 1 ≤ n) (sym look.number) fares.linked;
    replies = none-owed pool looks old.delays new.delays (due pool pending looks old.delays is fares.replies)
        (subst (λ (l : Looked). DelaysLooked old.delays new.delays l) (arrived answer reply) look.delays);
    found = tt;
    holds = λ none name stands.
        still-there answer ((own : List ℕ) → new.holds own ≡ old.holds own) reply look.holds name
        ∙ fares.holds none name (stands-after pending made answer name is fits reply worlds (ap is_some (sym (makes name)) ∙ stands));
  }

-- ---- sessions

module _ {W S : Type 0} (w : world.Ghosts W) (t : sitting.Ghosts S W) (pool : PoolNumbers) where
  -- at the address of the session before it
  as-before : (before after : S) (pending : Pending) (looks : ℕ) → t.address after ≡ t.address before → t.pending after ≡ pending
      → FaresAs w pool (t.address before) pending looks (t.made after) (t.link after) → FaresAt w t pool pending looks after
  as-before before after pending looks at e fares = record {
    fares = subst (λ (a : Address). FaresAs w pool a pending looks (t.made after) (t.link after)) (sym at) fares;
    waits = e;
  }

  -- a session at rest, by what it made
  made-as : (address : Address) (made other : Made) (link : LinkView) → ((name : List ℕ) → other name ≡ made name)
      → FaresAs w pool address resting 0 made link → FaresAs w pool address resting 0 other link
  made-as address made other link same fares = record {
    told = fares.told;
    linked = fares.linked;
    replies = fares.replies;
    found = tt;
    holds = λ none name stands. fares.holds none name (ap is_some (sym (same name)) ∙ stands);
  }

  -- an ask that is sent leaves a session waiting for its reply
  pub ask-fares : (due ask : Ask) (before after : S) (h moved : Happened) → AreBearable pool h → FaresAt w t pool resting 0 before
      → IsAsked w t due ask before after began.Started
      → AsksSteadily w t.keeps (t.address before) ask (t.link before) (t.link after) h moved began.Started → FaresAt w t pool (asked ask) 0 after
  ask-fares due ask before after h moved bearable is a steady =
      as-before before after (asked ask) 0 a.address a.waits
      (begun-fares w pool (t.address before) t.keeps ask (t.made after) (t.link before) (t.link after) h moved bearable
      (made-as (t.address before) (t.made before) (t.made after) (t.link before) a.made is.fares) steady.number steady.taken)

  module _ (pending : Pending) (looks : ℕ) (before after : S) (h : Happened) (is : IsPending pending) (at : FaresAt w t pool pending looks before) where
    -- a look in vain leaves it waiting, one look less
    pub look-waits : IsLook w t before after heard.NotYet → LooksSteadily t.keeps (t.address before) h (t.link before) (t.link after) heard.NotYet
        → FaresAt w t pool pending (looks + 1) after
    look-waits look steady =
        as-before before after pending (looks + 1) look.address (look.waits ∙ at.waits)
        (waiting-fares w pool (t.address before) pending looks (t.made before) (t.made after) (t.link before) (t.link after) h at.fares is
        (λ name. look.made name ∙ ap (λ (p : Pending). made_after p heard.NotYet (t.made before) name) at.waits) steady)

    pub look-in-time : LooksSteadily t.keeps (t.address before) h (t.link before) (t.link after) heard.NotYet → looks + 1 < pool.patience
    look-in-time steady = waiting-looks w pool (t.address before) pending looks (t.made before) (t.link before) (t.link after) h at.fares is steady

    -- a reply leaves it at rest
    pub look-rests : (answer : Heard) → IsReply answer → IsLook w t before after answer
        → LooksSteadily t.keeps (t.address before) h (t.link before) (t.link after) answer → FaresAt w t pool resting 0 after
    look-rests answer reply look steady =
        as-before before after resting 0 look.address (look.waits ∙ rests-after (t.pending before) answer reply)
        (reply-fares w pool (t.address before) pending looks (t.made before) (t.made after) (t.link before) (t.link after) h answer reply at.fares is
        (subst (λ (p : Pending). Fits p answer) at.waits look.fits)
        (subst (λ (p : Pending). IsWorlds w (t.address before) (t.made before) p answer) at.waits (look.worlds at.fares.told))
        (λ name. look.made name ∙ ap (λ (p : Pending). made_after p answer (t.made before) name) at.waits) steady)
