-- What a cached session keeps to as it goes on (this project's own)
use Rattle.std.proofs.Common.{◌≡◌, ◌∙◌, ℕ, true, false, List, ◌∷◌, Option, None, Some, IfSome, refl, sym, ap, subst, arith}
use Rattle.z_types.specs.equality.Tests.{text_exact}
use Rattle.z_types.specs.Pending.{Pending, resting, opening, asked, broken, IsPending}
use Rattle.z_types.specs.Same.{is_same}
use Rattle.z_types.specs.declared.address.Address.{Address}
use Rattle.z_types.specs.declared.ask.Ask.{Ask}
use Rattle.z_types.specs.declared.records.Item.{Item}
use Rattle.z_types.specs.declared.ask.Ask.TheVariants.{Search, Present, Scan}
use Rattle.z_types.specs.declared.key.SetKey.{SetKey}
use Rattle.z_types.specs.declared.sitting.Sitting as sitting
use Rattle.z_types.specs.declared.world.World as world
use Rattle.gw_outside.specs.Peers.{AreRecords}
use Rattle.gw_outside.specs.Sessions.{Made, Fits, IsWorlds, RecordsOf, made_after, made_by, pending_after, pending_from}
use Rattle.gw_outside.specs.declared.backends.Began.{Began}
use Rattle.gw_outside.specs.declared.backends.Began.TheVariants as began
use Rattle.gw_outside.specs.declared.backends.Heard.{Heard}
use Rattle.gw_outside.specs.declared.backends.Heard.TheVariants as heard
use Rattle.record_cache.specs.declared.keys.RecordKey.{RecordKey}
use Rattle.record_cache.specs.Runs.{AreWorldsRun}
use Rattle.cache_backend.specs.declared.known.Searched.{Searched}
use Rattle.cache_backend.specs.declared.sessions.Awaited.{Awaited}
use Rattle.cache_backend.specs.declared.sessions.Awaited.TheVariants.{Beneath, Records, Run, Broken}
use Rattle.cache_backend.specs.Known.{known_under, without}
use Rattle.cache_backend.specs.Sessions.{AsksFrom, AwaitsRecords, IsScan, KnowsAll, KnowsBy, StandsBy, pending_by}
use Rattle.cache_backend.specs.Looks.{MayKeep, awaited_from, awaited_then}
use Rattle.cache_backend.proofs.KnownLemmas.{own_known, others_known}

abbrev Known : Type 0
Known = List ℕ → Option SetKey

-- the set of a name has the key that is known under it
abbrev IsKnown : Option (SetKey × ℕ) → Option SetKey → Type 0
IsKnown set key = IfSome set (λ s. key ≡ Some s.0)

same_known : (a b : Option (SetKey × ℕ)) (k l : Option SetKey) → b ≡ a → l ≡ k → IsKnown a k → IsKnown b l
same_known a b k l e f h = subst (λ s. IsKnown s l) (sym e) (subst (λ x. IsKnown a x) (sym f) h)

-- ---- at rest

module _ {W S : Type 0} (w : world.Ghosts W) (t : sitting.Ghosts S W) where
  not_asked : (ask : Ask) → asked ask ≡ resting → ⊥
  not_asked ask e = cc

  rest_by : (a : Awaited) (i : S) (known : Known) → StandsBy w t a i known → pending_by t a i ≡ resting → a ≡ Beneath
  rest_by Beneath i known s e = refl
  rest_by (Records key) i known s e =
      absurd (not_asked (Present s.1.name key.position s.1.count key.syntax key.element) (sym s.1.waits ∙ e))
  rest_by (Run ask items) i known s e = absurd (not_asked ask e)
  rest_by Broken i known s e = cc

  -- a session that rests awaits nothing but what the one beneath does
  pub rests_beneath : (a : Awaited) (i : S) (known : Known) → StandsBy w t a i known → pending_by t a i ≡ resting → a ≡ Beneath
  rests_beneath a i known s e = rest_by a i known s e

  -- which rests too
  pub beneath_rests : (a : Awaited) (i : S) → a ≡ Beneath → pending_by t a i ≡ resting → t.pending i ≡ resting
  beneath_rests a i e h = subst (λ b. pending_by t b i ≡ resting) e h

  -- it knows the keys of all sets that were made
  pub knows_all : (a : Awaited) (i : S) (known : Known) → StandsBy w t a i known → a ≡ Beneath → t.pending i ≡ resting
      → KnowsAll (t.made i) known
  knows_all a i known s e rests =
      subst (λ p. KnowsBy p (t.made i) known) rests (subst (λ b. StandsBy w t b i known) e s)

-- ---- an ask

all_stay : (made then_ : Made) (known : Known) → ((name : List ℕ) → then_ name ≡ made name) → KnowsAll made known → KnowsAll then_ known
all_stay made then_ known same all = λ name. same_known (made name) (then_ name) (known name) (known name) (same name) refl (all name)

knows_searched : (own : Searched) (searched : List Searched) (made then_ : Made) (answer : Began)
    → ((name : List ℕ) → then_ name ≡ made name) → KnowsAll made (known_under searched)
    → KnowsBy (pending_from (Search own.name own.key) answer) then_ (known_under (own ∷ without own.name searched))
knows_searched own searched made then_ began.Started same all = (
  own_known own searched,
  λ name apart. same_known (made name) (then_ name) (known_under searched name) (known_under (own ∷ without own.name searched) name)
      (same name) (others_known own name searched apart) (all name),
)
knows_searched own searched made then_ began.Failed same all = tt
knows_searched own searched made then_ began.Memory same all = tt

-- the key of a search that is begun is the last one under its name
pub search_stands : (own : Searched) (searched now_ : List Searched) (made then_ : Made) (pending : Pending) (ask : Ask) (answer : Began)
    → ask ≡ Search own.name own.key → now_ ≡ own ∷ without own.name searched
    → pending ≡ pending_from ask answer → ((name : List ℕ) → then_ name ≡ made name) → KnowsAll made (known_under searched)
    → KnowsBy pending then_ (known_under now_)
search_stands own searched now_ made then_ waiting ask answer asks put waits same all =
    subst (λ s. KnowsBy waiting then_ (known_under s)) (sym put)
    (subst (λ p. KnowsBy p then_ (known_under (own ∷ without own.name searched))) (sym waits)
    (subst (λ a. KnowsBy (pending_from a answer) then_ (known_under (own ∷ without own.name searched))) (sym asks)
    (knows_searched own searched made then_ answer same all)))

knows_scanned : (ask : Ask) (then_ : Made) (known : Known) (answer : Began) → IsScan ask → KnowsAll then_ known → KnowsBy (pending_from ask answer) then_ known
knows_scanned (Scan dbs scan) then_ known began.Started is all = all
knows_scanned (Search name key) then_ known began.Started is all = absurd is
knows_scanned (Present name first count syntax element) then_ known began.Started is all = absurd is
knows_scanned ask then_ known began.Failed is all = tt
knows_scanned ask then_ known began.Memory is all = tt

-- a scan changes no set
pub scan_stands : (ask : Ask) (made then_ : Made) (known : Known) (pending : Pending) (answer : Began)
    → IsScan ask → pending ≡ pending_from ask answer → ((name : List ℕ) → then_ name ≡ made name) → KnowsAll made known
    → KnowsBy pending then_ known
scan_stands ask made then_ known waiting answer is waits same all =
    subst (λ p. KnowsBy p then_ known) (sym waits) (knows_scanned ask then_ known answer is (all_stay made then_ known same all))

module _ {W S : Type 0} (w : world.Ghosts W) (t : sitting.Ghosts S W) where
  -- records that the session beneath was asked for are to be kept
  fetch_stands : (key : RecordKey) (ask : Ask) (i j : S) (known : Known) → AsksFrom t key ask i
      → t.pending j ≡ asked ask → t.address j ≡ t.address i → ((name : List ℕ) → t.made j name ≡ t.made i name) → KnowsAll (t.made i) known
      → StandsBy w t (Records key) j known
  fetch_stands key ask i j known from waits at same all = (
    all_stay (t.made i) (t.made j) known same all,
    record {
      name = from.name;
      count = from.count;
      hits = from.hits;
      waits = waits ∙ ap asked from.asks;
      made = same from.name ∙ from.made;
      address = from.address ∙ sym at;
      within = from.within;
    },
  )

  -- and where that failed the session is broken
  pub fetched_stands : (key : RecordKey) (ask : Ask) (i j : S) (known : Known) (answer : Began) → AsksFrom t key ask i
      → t.pending j ≡ pending_from ask answer → t.address j ≡ t.address i → ((name : List ℕ) → t.made j name ≡ t.made i name) → KnowsAll (t.made i) known
      → StandsBy w t (awaited_from key answer) j known
  fetched_stands key ask i j known began.Started from waits at same all = fetch_stands key ask i j known from waits at same all
  fetched_stands key ask i j known began.Failed from waits at same all = subst (λ p. KnowsBy p (t.made j) known) (sym waits) tt
  fetched_stands key ask i j known began.Memory from waits at same all = subst (λ p. KnowsBy p (t.made j) known) (sym waits) tt

  -- as one is for whose call no memory could be had
  pub lacks_stands : (a : Awaited) (i : S) (known : Known) → a ≡ Broken → StandsBy w t a i known
  lacks_stands a i known e = subst (λ x. StandsBy w t x i known) (sym e) tt

-- ---- a look

by_answer : (p : Pending) (answer : Heard) (then_ : Made) (known : Known) → (KnowsAll then_ known → KnowsBy p then_ known) → KnowsAll then_ known
    → KnowsBy (pending_after p answer) then_ known
by_answer p heard.Opened then_ known f all = all
by_answer p (heard.Hits hits) then_ known f all = all
by_answer p (heard.Refused diag) then_ known f all = all
by_answer p (heard.Items items) then_ known f all = all
by_answer p heard.Gone then_ known f all = all
by_answer p (heard.Scanned answer) then_ known f all = all
by_answer p heard.NotYet then_ known f all = f all
by_answer p heard.Failed then_ known f all = tt
by_answer p heard.Memory then_ known f all = tt

module _ (own : List ℕ) (key : SetKey) (made then_ : Made) (known : Known)
    (knows : (known own ≡ Some key) × ((name : List ℕ) → is_same own name ≡ false → IsKnown (made name) (known name))) where
  other_known : (answer : Heard) → ((name : List ℕ) → then_ name ≡ made_after (asked (Search own key)) answer made name)
      → (name : List ℕ) → is_same own name ≡ false → IsKnown (then_ name) (known name)
  other_known answer after name apart =
      same_known (made name) (then_ name) (known name) (known name) (after name ∙ rw apart refl) refl (knows.1 name apart)

  all_known : (answer : Heard) (set : Option (SetKey × ℕ)) → ((name : List ℕ) → then_ name ≡ made_after (asked (Search own key)) answer made name)
      → ((name : List ℕ) → made_by key answer (made name) ≡ set) → IsKnown set (Some key) → KnowsAll then_ known
  all_known answer set after by is name = (elim (is_same own name) as (λ b. is_same own name ≡ b → IsKnown (then_ name) (known name)) [
    | true ↦ λ t. same_known set (then_ name) (Some key) (known name) (after name ∙ rw t (by name)) (ap known (sym (text_exact own name t)) ∙ knows.0) is
    | false ↦ λ t. other_known answer after name t
  ]) refl

  searched_stands : (answer : Heard) → Fits (asked (Search own key)) answer
      → ((name : List ℕ) → then_ name ≡ made_after (asked (Search own key)) answer made name)
      → KnowsBy (pending_after (asked (Search own key)) answer) then_ known
  searched_stands (heard.Hits hits) fits after = all_known (heard.Hits hits) (Some (key, hits)) after (λ name. refl) refl
  searched_stands (heard.Refused diag) fits after = all_known (heard.Refused diag) None after (λ name. refl) tt
  searched_stands heard.NotYet fits after = (knows.0, other_known heard.NotYet after)
  searched_stands heard.Failed fits after = tt
  searched_stands heard.Memory fits after = tt
  searched_stands heard.Opened fits after = absurd fits
  searched_stands (heard.Items items) fits after = absurd fits
  searched_stands heard.Gone fits after = absurd fits
  searched_stands (heard.Scanned answer) fits after = absurd fits

-- it knows the keys of the sets that are made behind a look
looked_stands : (p : Pending) (answer : Heard) (made then_ : Made) (known : Known) → IsPending p → Fits p answer
    → ((name : List ℕ) → then_ name ≡ made_after p answer made name) → KnowsBy p made known → KnowsBy (pending_after p answer) then_ known
looked_stands opening answer made then_ known is fits after knows =
    by_answer opening answer then_ known (λ all. all) (all_stay made then_ known after knows)
looked_stands (asked (Search own key)) answer made then_ known is fits after knows = searched_stands own key made then_ known knows answer fits after
looked_stands (asked (Present name first count syntax element)) answer made then_ known is fits after knows =
    by_answer (asked (Present name first count syntax element)) answer then_ known (λ all. all) (all_stay made then_ known after knows)
looked_stands (asked (Scan dbs ask)) answer made then_ known is fits after knows =
    by_answer (asked (Scan dbs ask)) answer then_ known (λ all. all) (all_stay made then_ known after knows)
looked_stands resting answer made then_ known is fits after knows = absurd is
looked_stands broken answer made then_ known is fits after knows = absurd is

pub look_stands : (p pending : Pending) (answer : Heard) (made then_ : Made) (known : Known) → IsPending p → Fits p answer
    → pending ≡ pending_after p answer → ((name : List ℕ) → then_ name ≡ made_after p answer made name) → KnowsBy p made known
    → KnowsBy pending then_ known
look_stands p waiting answer made then_ known is fits waits after knows =
    subst (λ q. KnowsBy q then_ known) (sym waits) (looked_stands p answer made then_ known is fits after knows)

-- ---- records that are to be kept

module _ {W S : Type 0} (w : world.Ghosts W) (t : sitting.Ghosts S W) where
  no_set : (key : RecordKey) (answer : Heard) (i j : S) (a : AwaitsRecords t key i)
      → ((name : List ℕ) → t.made j name ≡ made_after (t.pending i) answer (t.made i) name) → (name : List ℕ) → t.made j name ≡ t.made i name
  no_set key answer i j a after name = after name ∙ ap (λ p. made_after p answer (t.made i) name) a.waits

  waits_on : (key : RecordKey) (i j : S) (known : Known) → KnowsAll (t.made i) known → AwaitsRecords t key i
      → t.pending j ≡ t.pending i → t.address j ≡ t.address i → ((name : List ℕ) → t.made j name ≡ t.made i name)
      → StandsBy w t (Records key) j known
  waits_on key i j known all a waiting at same = (
    all_stay (t.made i) (t.made j) known same all,
    record {
      name = a.name;
      count = a.count;
      hits = a.hits;
      waits = waiting ∙ a.waits;
      made = same a.name ∙ a.made;
      address = a.address ∙ sym at;
      within = a.within;
    },
  )

  rests_on : (key : RecordKey) (answer : Heard) (i j : S) (known : Known) → StandsBy w t (Records key) i known
      → IsPending (t.pending i) → Fits (t.pending i) answer → t.pending j ≡ pending_after (t.pending i) answer
      → ((name : List ℕ) → t.made j name ≡ made_after (t.pending i) answer (t.made i) name) → KnowsBy (t.pending j) (t.made j) known
  rests_on key answer i j known s is fits waiting after =
      look_stands (t.pending i) (t.pending j) answer (t.made i) (t.made j) known is fits waiting after
      (subst (λ p. KnowsBy p (t.made i) known) (sym s.1.waits) s.0)

  -- a session goes on behind a look for records
  pub records_stand : (key : RecordKey) (answer : Heard) (i j : S) (known : Known) → StandsBy w t (Records key) i known
      → IsPending (t.pending i) → Fits (t.pending i) answer → t.pending j ≡ pending_after (t.pending i) answer → t.address j ≡ t.address i
      → ((name : List ℕ) → t.made j name ≡ made_after (t.pending i) answer (t.made i) name)
      → StandsBy w t (awaited_then key answer) j known
  records_stand key heard.NotYet i j known s is fits waiting at after = waits_on key i j known s.0 s.1 waiting at (no_set key heard.NotYet i j s.1 after)
  records_stand key heard.Opened i j known s is fits waiting at after = rests_on key heard.Opened i j known s is fits waiting after
  records_stand key (heard.Hits hits) i j known s is fits waiting at after = rests_on key (heard.Hits hits) i j known s is fits waiting after
  records_stand key (heard.Refused diag) i j known s is fits waiting at after = rests_on key (heard.Refused diag) i j known s is fits waiting after
  records_stand key (heard.Items items) i j known s is fits waiting at after = rests_on key (heard.Items items) i j known s is fits waiting after
  records_stand key heard.Gone i j known s is fits waiting at after = rests_on key heard.Gone i j known s is fits waiting after
  records_stand key (heard.Scanned answer) i j known s is fits waiting at after = rests_on key (heard.Scanned answer) i j known s is fits waiting after
  records_stand key heard.Failed i j known s is fits waiting at after = rests_on key heard.Failed i j known s is fits waiting after
  records_stand key heard.Memory i j known s is fits waiting at after = rests_on key heard.Memory i j known s is fits waiting after

  given_records : (address : Address) (key : RecordKey) (set : Option (SetKey × ℕ)) (hits : ℕ) (items : List Item)
      → set ≡ Some (key.key, hits) → key.address ≡ address
      → (w.told address → RecordsOf w address set key.syntax key.element key.position (heard.Items items)) → AreWorldsRun w key items
  given_records address key set hits items made at worlds told =
      let here : w.told address = subst w.told at told in
      subst (λ x. AreRecords (λ position. w.record_ x key.key position key.syntax key.element) key.position items) (sym at)
      (subst (λ o. RecordsOf w address o key.syntax key.element key.position (heard.Items items)) made (worlds here))

  -- what is heard of records may be kept
  pub records_may : (key : RecordKey) (answer : Heard) (i : S) → AwaitsRecords t key i → Fits (t.pending i) answer
      → (w.told (t.address i) → IsWorlds w (t.address i) (t.made i) (t.pending i) answer) → MayKeep w key answer
  records_may key (heard.Items items) i a fits worlds =
      let few = (subst (λ p. Fits p (heard.Items items)) a.waits fits).1 in
      let small = a.within in (
        given_records (t.address i) key (t.made i a.name) a.hits items a.made a.address
            (λ told. subst (λ p. IsWorlds w (t.address i) (t.made i) p (heard.Items items)) a.waits (worlds told)),
        omega (arith, few, small),
      )
  records_may key heard.Opened i a fits worlds = tt
  records_may key (heard.Hits hits) i a fits worlds = tt
  records_may key (heard.Refused diag) i a fits worlds = tt
  records_may key heard.Gone i a fits worlds = tt
  records_may key (heard.Scanned answer) i a fits worlds = tt
  records_may key heard.NotYet i a fits worlds = tt
  records_may key heard.Failed i a fits worlds = tt
  records_may key heard.Memory i a fits worlds = tt

-- where no reply has come the key is the same
pub then_same : (key moved : RecordKey) (answer : Heard) → (answer ≡ heard.NotYet → moved ≡ key) → awaited_then moved answer ≡ awaited_then key answer
then_same key moved heard.NotYet same = ap Records (same refl)
then_same key moved heard.Opened same = refl
then_same key moved (heard.Hits hits) same = refl
then_same key moved (heard.Refused diag) same = refl
then_same key moved (heard.Items items) same = refl
then_same key moved heard.Gone same = refl
then_same key moved (heard.Scanned answer) same = refl
then_same key moved heard.Failed same = refl
then_same key moved heard.Memory same = refl

-- a session that is new made no set
pub new_stands : (p : Pending) (made : Made) (known : Known) → p ≡ opening → ((name : List ℕ) → made name ≡ None) → KnowsBy p made known
new_stands p made known e none =
    subst (λ q. KnowsBy q made known) (sym e) (λ name. subst (λ o. IsKnown o (known name)) (sym (none name)) tt)
