-- How a session is seen goes on as the one beneath it does (this project's own)
use Rattle.std.proofs.Common.{◌≡◌, ℕ, ◌≤◌, Bool, true, List, length, Option, Some, inl, inr, refl, sym, subst, arith}
use Rattle.z_types.specs.Links.{LinkView}
use Rattle.z_types.specs.Pending.{resting}
use Rattle.z_types.specs.declared.address.Address.{Address}
use Rattle.z_types.specs.declared.ask.Ask.{Ask}
use Rattle.z_types.specs.declared.ask.Ask.TheVariants.{Present}
use Rattle.z_types.specs.declared.records.Item.{Item}
use Rattle.z_types.specs.declared.sitting.Sitting as sitting
use Rattle.z_types.specs.declared.world.World as world
use Rattle.gw_outside.specs.Counts.{Counts, BackendCounts, nothing}
use Rattle.gw_outside.specs.Happened.{Happened, AreLess, AreSame}
use Rattle.gw_outside.specs.Peers.{AreRecords}
use Rattle.gw_outside.specs.Sessions.{RecordsOf}
use Rattle.z_types.specs.declared.key.SetKey.{SetKey}
use Rattle.gw_outside.specs.Steady.{AsksSteadily, LooksSteadily, TakesUnlessCut}
use Rattle.gw_outside.specs.declared.backends.Began.{Began}
use Rattle.gw_outside.specs.declared.backends.Began.TheVariants as began
use Rattle.gw_outside.specs.declared.backends.Heard.{Heard}
use Rattle.gw_outside.specs.declared.backends.Heard.TheVariants as heard
use Rattle.record_cache.specs.declared.keys.RecordKey.{RecordKey}
use Rattle.record_cache.specs.Runs.{AreWorldsRun}
use Rattle.cache_backend.specs.declared.sessions.Awaited.{Awaited}
use Rattle.cache_backend.specs.declared.sessions.Awaited.TheVariants.{Beneath, Records, Run, Broken}
use Rattle.cache_backend.specs.Looks.{awaited_from, awaited_then}
use Rattle.cache_backend.specs.Sessions.{HasRun}
use Rattle.cache_backend.specs.Steps.{Looks, Outside, SessionView, Starts, view_by, view_of}

-- ---- nothing becomes of the outside

pub none_less : (h : Happened) → AreLess h h
none_less h = record {
  steady = refl;
  lent = refl;
  presents = λ target. omega arith;
  delay = λ target. refl;
  cut = λ target. refl;
}

none_changed : (h : Happened) → AreSame h h
none_changed h = record { steady = refl; lent = refl; of_target = λ target. refl }

pub none_counted : (exact : Bool) (told : Type 0) (c : Counts) → BackendCounts exact told nothing c c
none_counted exact told c = record {
  others = refl;
  faults = omega arith;
  failed = λ yes. cc;
  exactly = λ is. refl;
  breaches = omega arith;
  breach = λ no. refl;
  no_breach = λ is. refl;
}

-- ---- a session beneath that may keep records, or not

module _ {W : Type 0} (w : world.Ghosts W) (keeps exact : Bool) where
  taken_over : (address : Address) (ask : Ask) (old new : LinkView) (b a : Happened) (answer : Began)
      → TakesUnlessCut w keeps address ask old new b a answer → TakesUnlessCut w true address ask old new b a answer
  taken_over address ask old new b a began.Started (inl taken) = inl taken
  taken_over address ask old new b a began.Started (inr spared) = inr (record {
    keeps_records = refl;
    present = spared.present;
    delays = spared.delays;
    holds = spared.holds;
    gone = spared.gone;
    happened = spared.happened;
  })
  taken_over address ask old new b a began.Failed cut = cut
  taken_over address ask old new b a began.Memory any = tt

  asks_over : (address : Address) (ask : Ask) (old new : LinkView) (b a : Happened) (answer : Began)
      → AsksSteadily w keeps address ask old new b a answer → AsksSteadily w true address ask old new b a answer
  asks_over address ask old new b a answer s = record {
    number = s.number;
    taken = taken_over address ask old new b a answer s.taken;
  }

  looks_over : (address : Address) (h : Happened) (old new : LinkView) (answer : Heard)
      → LooksSteadily keeps address h old new answer → LooksSteadily true address h old new answer
  looks_over address h old new answer s = record {
    number = s.number;
    delays = s.delays;
    holds = s.holds;
    gone = s.gone;
    still_gone = s.still_gone;
    fails = s.fails;
    arrives = λ none. cc;
  }

  starts_over : (ask : Ask) (old new : SessionView) (b a : Outside) (answer : Began)
      → Starts w keeps exact ask old new b a answer → Starts w true exact ask old new b a answer
  starts_over ask old new b a answer s = record {
    pending = s.pending;
    address = s.address;
    made = s.made;
    happened = s.happened;
    steady = λ told steady. asks_over old.address ask old.link new.link b.happened a.happened answer (s.steady told steady);
    counts = s.counts;
  }

  heard_over : (old new : SessionView) (b a : Outside) (answer : Heard)
      → Looks w keeps exact old new b a answer → Looks w true exact old new b a answer
  heard_over old new b a answer s = record {
    fits = s.fits;
    worlds = s.worlds;
    pending = s.pending;
    made = s.made;
    address = s.address;
    happened = s.happened;
    steady = λ told steady. looks_over old.address b.happened old.link new.link answer (s.steady told steady);
    counts = s.counts;
  }

-- ---- a session over one

-- what is awaited is what the session beneath does
abbrev pub IsPlain : Awaited → Type 0
IsPlain Beneath = Unit {0}
IsPlain (Records key) = Unit {0}
IsPlain (Run ask items) = ⊥
IsPlain Broken = ⊥

pub plain_then : (key : RecordKey) (answer : Heard) → IsPlain (awaited_then key answer)
plain_then key heard.NotYet = tt
plain_then key heard.Opened = tt
plain_then key (heard.Hits hits) = tt
plain_then key (heard.Refused diag) = tt
plain_then key (heard.Items items) = tt
plain_then key heard.Gone = tt
plain_then key (heard.Scanned answer) = tt
plain_then key heard.Failed = tt
plain_then key heard.Memory = tt

pub plain_from : (key : RecordKey) (answer : Began) → IsPlain (awaited_from key answer)
plain_from key began.Started = tt
plain_from key began.Failed = tt
plain_from key began.Memory = tt

module _ {W S : Type 0} (w : world.Ghosts W) (t : sitting.Ghosts S W) (keeps exact : Bool) where
  plain_view : (a : Awaited) (s : S) → IsPlain a → view_by t a s ≡ view_of t s
  plain_view Beneath s p = refl
  plain_view (Records key) s p = refl
  plain_view (Run ask items) s p = absurd p
  plain_view Broken s p = absurd p

  -- an ask of the session beneath is one of the session over it
  pub starts_by : (a c : Awaited) (i j : S) (ask : Ask) (before after : Outside) (answer : Began)
      → IsPlain a → IsPlain c
      → Starts w keeps exact ask (view_of t i) (view_of t j) before after answer
      → Starts w true exact ask (view_by t a i) (view_by t c j) before after answer
  starts_by a c i j ask before after answer p q s =
      subst (λ v. Starts w true exact ask v (view_by t c j) before after answer) (sym (plain_view a i p))
      (subst (λ v. Starts w true exact ask (view_of t i) v before after answer) (sym (plain_view c j q))
      (starts_over w keeps exact ask (view_of t i) (view_of t j) before after answer s))

  -- so is a look
  pub looks_by : (a c : Awaited) (i j : S) (before after : Outside) (answer : Heard)
      → IsPlain a → IsPlain c
      → Looks w keeps exact (view_of t i) (view_of t j) before after answer
      → Looks w true exact (view_by t a i) (view_by t c j) before after answer
  looks_by a c i j before after answer p q s =
      subst (λ v. Looks w true exact v (view_by t c j) before after answer) (sym (plain_view a i p))
      (subst (λ v. Looks w true exact (view_of t i) v before after answer) (sym (plain_view c j q))
      (heard_over w keeps exact (view_of t i) (view_of t j) before after answer s))

  -- no memory could be had to begin
  pub lacks_by : (i : S) (ask : Ask) (o : Outside) → Starts w true exact ask (view_by t Beneath i) (view_by t Broken i) o o began.Memory
  lacks_by i ask o = record {
    pending = refl;
    address = refl;
    made = λ name. refl;
    happened = none_less o.happened;
    steady = λ told steady. record { number = refl; taken = tt };
    counts = none_counted exact (Unit {0}) o.counts;
  }

  -- a Present is answered by a run
  spared_by : (name : List ℕ) (first count : ℕ) (syntax element : Option (List ℕ)) (items : List Item) (i : S) (o : Outside)
      → Starts w true exact (Present name first count syntax element)
      (view_by t Beneath i) (view_by t (Run (Present name first count syntax element) items) i) o o began.Started
  spared_by name first count syntax element items i o = record {
    pending = refl;
    address = refl;
    made = λ name. refl;
    happened = none_less o.happened;
    steady = λ told steady. record {
      number = refl;
      taken = inr (record {
        keeps_records = refl;
        present = tt;
        delays = refl;
        holds = λ name. refl;
        gone = refl;
        happened = none_changed o.happened;
      });
    };
    counts = none_counted exact (Unit {0}) o.counts;
  }

  given_worlds : (address : Address) (key : RecordKey) (set : Option (SetKey × ℕ)) (hits : ℕ) (items : List Item)
      → set ≡ Some (key.key, hits) → key.address ≡ address → AreWorldsRun w key items
      → w.told address → RecordsOf w address set key.syntax key.element key.position (heard.Items items)
  given_worlds address key set hits items made at worlds told =
      subst (λ o. RecordsOf w address o key.syntax key.element key.position (heard.Items items)) (sym made)
      (subst (λ x. AreRecords (λ position. w.record_ x key.key position key.syntax key.element) key.position items) at
      (worlds (subst w.told (sym at) told)))

  given_by : (name : List ℕ) (count hits : ℕ) (key : RecordKey) (items : List Item) (i : S) (o : Outside)
      → t.pending i ≡ resting → t.made i name ≡ Some (key.key, hits) → key.address ≡ t.address i
      → 1 ≤ length items → length items ≤ count → AreWorldsRun w key items
      → Looks w true exact (view_by t (Run (Present name key.position count key.syntax key.element) items) i)
      (view_by t Beneath i) o o (heard.Items items)
  given_by name count hits key items i o rests made at some few worlds = record {
    fits = (some, few);
    worlds = λ told. given_worlds (t.address i) key (t.made i name) hits items made at worlds told;
    pending = rests;
    made = λ other. refl;
    address = refl;
    happened = none_changed o.happened;
    steady = λ told steady. record {
      number = refl;
      delays = refl;
      holds = λ name. refl;
      gone = λ is. cc;
      still_gone = λ is. cc;
      fails = λ is. cc;
      arrives = λ none. cc;
    };
    counts = none_counted exact (w.told (t.address i)) o.counts;
  }

  -- the items of a run are given
  pub gives_by : (ask : Ask) (items : List Item) (i : S) (o : Outside) → HasRun w t ask items i
      → Looks w true exact (view_by t (Run ask items) i) (view_by t Beneath i) o o (heard.Items items)
  gives_by ask items i o r =
      subst (λ a. Looks w true exact (view_by t (Run a items) i) (view_by t Beneath i) o o (heard.Items items)) (sym r.asks)
      (given_by r.name r.count r.hits r.key items i o r.rests r.made r.address r.some r.few r.worlds)

  -- ---- of a session that awaits what the one beneath does

  pub starts_at : (a c : Awaited) (i j : S) (ask : Ask) (before after : Outside) (answer : Began)
      → a ≡ Beneath → IsPlain c → Starts w keeps exact ask (view_of t i) (view_of t j) before after answer
      → Starts w true exact ask (view_by t a i) (view_by t c j) before after answer
  starts_at a c i j ask before after answer e q s = starts_by a c i j ask before after answer (subst IsPlain (sym e) tt) q s

  -- no memory could be had
  pub lacks_at : (a b : Awaited) (i : S) (ask : Ask) (o : Outside) → a ≡ Beneath → b ≡ Broken
      → Starts w true exact ask (view_by t a i) (view_by t b i) o o began.Memory
  lacks_at a b i ask o e f =
      subst (λ x. Starts w true exact ask (view_by t x i) (view_by t b i) o o began.Memory) (sym e)
      (subst (λ x. Starts w true exact ask (view_by t Beneath i) (view_by t x i) o o began.Memory) (sym f) (lacks_by i ask o))

  -- a run is to be given
  pub runs_at : (a b : Awaited) (ask : Ask) (name : List ℕ) (first count : ℕ) (syntax element : Option (List ℕ)) (items : List Item) (i : S) (o : Outside)
      → a ≡ Beneath → b ≡ Run ask items → ask ≡ Present name first count syntax element
      → Starts w true exact ask (view_by t a i) (view_by t b i) o o began.Started
  runs_at a b ask name first count syntax element items i o e f asks =
      subst (λ x. Starts w true exact ask (view_by t x i) (view_by t b i) o o began.Started) (sym e)
      (subst (λ x. Starts w true exact ask (view_by t Beneath i) (view_by t x i) o o began.Started) (sym f)
      (subst (λ x. Starts w true exact x (view_by t Beneath i) (view_by t (Run x items) i) o o began.Started) (sym asks)
      (spared_by name first count syntax element items i o)))

  pub plain_beneath : (a : Awaited) → a ≡ Beneath → IsPlain a
  plain_beneath a e = subst IsPlain (sym e) tt
