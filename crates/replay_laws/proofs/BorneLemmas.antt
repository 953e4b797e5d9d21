-- where no more befalls the links of a replay than its requests bear, each is answered as it asks, or finds the pool full
use Rattle.std.proofs.Common.{◌≡◌, ◌≢◌, ◌∙◌, ◌⊎◌, ◌+◌, ◌-◌, ◌<◌, ◌≤◌, ℕ, Bool, true, false, inl, inr, List, [], ◌∷◌, ◌++◌, Option, None, Some, IfSome, length, slice_set, refl, sym, subst, arith}
use Rattle.std.specs.List.{AllByRecursion, flat_map}
use Rattle.std.proofs.Math.ListN.{length-set}
use Rattle.std.proofs.lemmas.Bool.{cases_eq, cases_lt}
use Rattle.z_types.specs.declared.marks.End.{End as Ending}
use Rattle.z_types.specs.declared.sitting.Sitting as sitting
use Rattle.z_types.specs.declared.world.World as world
use Rattle.gw_outside.specs.Counts.{Counts}
use Rattle.gw_outside.specs.Happened.{Happened, IsMade}
use Rattle.gw_outside.specs.declared.happenings.Happening.{Happening}
use Rattle.route_config.specs.declared.route.PoolNumbers.{PoolNumbers}
use Rattle.route_config.specs.declared.route.Route.{Route}
use Rattle.replay.specs.leg.Deeds.{BackendView}
use Rattle.replay.specs.leg.LegView.{LegView}
use Rattle.replay.specs.leg.Turns.{DoorView}
use Rattle.replay.specs.package_rules.Asked.{Asked}
use Rattle.replay.specs.package.steps.Packages.{PackageView, begun}
use Rattle.replay.specs.front_conn.declared.stepped.Stepped.{Stepped}
use Rattle.replay.specs.front_conn.declared.stepped.Stepped.TheVariants.{Memory}
use Rattle.replay.specs.front_conn.steps.Answering.{Outside}
use Rattle.replay.specs.front_conn.steps.Feeding.{fed_piece}
use Rattle.replay.specs.front_conn.steps.States.{ConnectionState}
use Rattle.replay.specs.front_conn.steps.Steps.{IsStepFrom, answering_of}
use Rattle.script.specs.declared.event.Event.{Event}
use Rattle.script.specs.declared.event.Event.TheVariants.{Feed, End, Step, Run, Tick, Gone, Cut, Slow}
use Rattle.script.specs.Events.{client_of, named, seconds_of}
use Rattle.replay.specs.package_quiet.steps.Bearing.{AreBearable, AreCutOnceMade, AreNoWorse, DialsGoOn, HasBorne, IsBearable, IsBorneBy, LegBears, NoneIsCut}
use Rattle.replay.specs.package_quiet.steps.Laws.{BearingStays, PackagesBear, PackagesDialOn}
use Rattle.replay.specs.Clients.{AreNone, ClientState, client_at, client_or_new}
use Rattle.replay.specs.Trace.{ArePlayed, AreSteps, BefallsIf, HasRun, IsBefallen, IsClientStep, IsRunOf, PlaysFor, PlaysOf, Playing, Point, closing, closings, moment_behind, test_number}
use Rattle.replay.specs.Undisturbed.{IsPlainOrFull}
use Rattle.replay.specs.Wires.{AreTold}
use Rattle.replay.specs.declared.reports.Report.{Report}
use Rattle.replay.proofs.ClientLemmas.{client_at-behind, client_at-other, client_at-set}
use Rattle.replay.proofs.ListedLemmas.{AreFit, ahead-fits, piece-fits, reported-fit, works-fit}
use Rattle.replay.proofs.TurnKeeps.{LegsKept, ahead-keeps, works-keep}
use Rattle.replay_laws.specs.Between.{FallBetween, FallsBetween, IsNoneInWork}
use Rattle.replay_laws.specs.Borne.{AreAllPlainOrFull, HasBorneNumber, IsBorneRun}
use Rattle.replay_laws.proofs.DialLemmas.{client-dial, dials-before, events-dial}
use Rattle.replay_laws.proofs.RequestLemmas.{request-borne}

-- ---- no worse becomes of links

still : (h : Happened) → AreNoWorse h h
still h = record { presents = λ target. omega (arith); cut = λ target. refl }

worse-on : (a b c : Happened) → AreNoWorse a b → AreNoWorse b c → AreNoWorse a c
worse-on a b c h k = record {
  presents = λ target. (let one = h.presents target in let other = k.presents target in omega (arith, one, other));
  cut = λ target. k.cut target ∙ h.cut target;
}

-- ---- two parts of a list

all-both : {A : Type 0} (P : A → Type 0) (xs ys : List A) → AllByRecursion P xs → AllByRecursion P ys → AllByRecursion P (xs ++ ys)
all-both P [] ys h k = k
all-both P (x ∷ xs) ys h k = (h.0, all-both P xs ys h.1 k)

all-front : {A : Type 0} (P : A → Type 0) (xs ys : List A) → AllByRecursion P (xs ++ ys) → AllByRecursion P xs
all-front P [] ys h = tt
all-front P (x ∷ xs) ys h = (h.0, all-front P xs ys h.1)

all-back : {A : Type 0} (P : A → Type 0) (xs ys : List A) → AllByRecursion P (xs ++ ys) → AllByRecursion P ys
all-back P [] ys h = h
all-back P (x ∷ xs) ys h = all-back P xs ys h.1

-- ---- what befalls links

-- what holds of each target's happenings holds where those of one are changed
made-all : (P : Happening → Type 0) (number : ℕ) (change : Happening → Happening) (old new : Happened) → IsMade number change old new
    → P (change (old.of_target number)) → ((target : ℕ) → P (old.of_target target)) → (target : ℕ) → P (new.of_target target)
made-all P number change old new made own others target =
    elim (cases_eq target number) [
      | inl e ↦ subst (λ (n : ℕ). P (new.of_target n)) (sym e) (subst (λ (x : Happening). P x) (sym made.own) own)
      | inr ne ↦ subst (λ (x : Happening). P x) (sym (made.others target ne)) (others target)
    ]

-- so does what the change keeps to what was
made-as : (R : Happening → Happening → Type 0) (number : ℕ) (change : Happening → Happening) (old new : Happened) → IsMade number change old new
    → ((x : Happening) → R x (change x)) → ((x : Happening) → R x x) → (target : ℕ) → R (old.of_target target) (new.of_target target)
made-as R number change old new made changed same target =
    elim (cases_eq target number) [
      | inl e ↦
          subst (λ (n : ℕ). R (old.of_target n) (new.of_target n)) (sym e)
          (subst (λ (x : Happening). R (old.of_target number) x) (sym made.own) (changed (old.of_target number)))
      | inr ne ↦ subst (λ (x : Happening). R (old.of_target target) x) (sym (made.others target ne)) (same (old.of_target target))
    ]

-- what events make of a target's happenings
abbrev deleted : ℕ → Happening → Happening
deleted presents x = record x { presents = presents }

abbrev cut_to : ℕ → Happening → Happening
cut_to last x = record x { cut = last }

abbrev slowed : ℕ → Happening → Happening
slowed looks x = record x { delay = looks }

abbrev HasFewer : Happening → Happening → Type 0
HasFewer old new = new.presents ≤ old.presents

abbrev IsCutAs : Happening → Happening → Type 0
IsCutAs old new = new.cut ≡ old.cut

module _ (pool : PoolNumbers) where
  -- what an event leaves bearable, and cut once it was made; it comes where nobody has a request in work, or makes nothing worse
  pub record BefallsSo (alone : Type 0) (old new : BackendView) : Type 0 where
    pub bearable : AreBearable pool new.happened
    pub cut : AreCutOnceMade new
    pub for_legs : alone ⊎ AreNoWorse old.happened new.happened

  same-so : (alone : Type 0) (old new : BackendView) → AreBearable pool old.happened → AreCutOnceMade old → new ≡ old → BefallsSo alone old new
  same-so alone old new bearable cuts e = subst (λ (b : BackendView). BefallsSo alone old b) (sym e)
      (record { bearable = bearable; cut = cuts; for_legs = inr (still old.happened) })

  -- one target's happenings are changed to what is bearable, and counts stay
  made-so : (alone : Type 0) (number : ℕ) (change : Happening → Happening) (old new : BackendView) → AreBearable pool old.happened
      → AreCutOnceMade old → new.counts ≡ old.counts → IsMade number change old.happened new.happened
      → IsBearable pool (change (old.happened.of_target number)) → (change (old.happened.of_target number)).cut ≤ old.counts.dials
      → alone ⊎ AreNoWorse old.happened new.happened → BefallsSo alone old new
  made-so alone number change old new bearable cuts counts made own last worse = record {
    bearable = record {
      steady = made.steady ∙ bearable.steady;
      each = made-all (λ (x : Happening). IsBearable pool x) number change old.happened new.happened made own bearable.each;
    };
    cut = subst (λ (c : Counts). (target : ℕ) → (new.happened.of_target target).cut ≤ c.dials) (sym counts)
        (made-all (λ (x : Happening). x.cut ≤ old.counts.dials) number change old.happened new.happened made last cuts);
    for_legs = worse;
  }

  if-gone : (exact : Bool) (alone : Type 0) (target presents : ℕ) (number : Option ℕ) (old new : BackendView) → alone → presents ≤ pool.repeats
      → AreBearable pool old.happened → AreCutOnceMade old → BefallsIf exact (Gone target presents) number old new → BefallsSo alone old new
  if-gone exact alone target presents None old new none few bearable cuts h = same-so alone old new bearable cuts h
  if-gone exact alone target presents (Some number) old new none few bearable cuts h =
      made-so alone number (deleted presents) old new bearable cuts h.counts h.happens
      (record { presents = few; delay = (bearable.each number).delay }) (cuts number) (inl none)

  if-cut : (exact : Bool) (alone : Type 0) (target : ℕ) (number : Option ℕ) (old new : BackendView) → alone → exact ≡ true
      → AreBearable pool old.happened → AreCutOnceMade old → BefallsIf exact (Cut target) number old new → BefallsSo alone old new
  if-cut exact alone target None old new none is bearable cuts h = same-so alone old new bearable cuts h
  if-cut exact alone target (Some number) old new none is bearable cuts h =
      let last = h.happens.is_last is in
      made-so alone number (cut_to h.happens.last) old new bearable cuts h.counts h.happens.made
      (record { presents = (bearable.each number).presents; delay = (bearable.each number).delay }) (omega (arith, last)) (inl none)

  if-slow : (exact : Bool) (alone : Type 0) (target looks : ℕ) (number : Option ℕ) (old new : BackendView) → looks < pool.patience
      → AreBearable pool old.happened → AreCutOnceMade old → BefallsIf exact (Slow target looks) number old new → BefallsSo alone old new
  if-slow exact alone target looks None old new early bearable cuts h = same-so alone old new bearable cuts h
  if-slow exact alone target looks (Some number) old new early bearable cuts h =
      made-so alone number (slowed looks) old new bearable cuts h.counts h.happens
      (record { presents = (bearable.each number).presents; delay = early }) (cuts number)
      (inr (record {
        presents = made-as HasFewer number (slowed looks) old.happened new.happened h.happens (λ x. omega (arith)) (λ x. omega (arith));
        cut = made-as IsCutAs number (slowed looks) old.happened new.happened h.happens (λ x. refl) (λ x. refl);
      }))

  befallen-so : {S : Type 0} (keeps exact : Bool) (route : Route) (event : Event) (clients : List (Option (ClientState S))) (old new : BackendView)
      → exact ≡ true → HasBorneNumber keeps pool event → FallsBetween event clients → AreBearable pool old.happened → AreCutOnceMade old
      → IsBefallen exact route event old new → BefallsSo (IsNoneInWork clients) old new
  befallen-so keeps exact route (Feed client octets) clients old new is few falls bearable cuts h = same-so (IsNoneInWork clients) old new bearable cuts h
  befallen-so keeps exact route (End client) clients old new is few falls bearable cuts h = same-so (IsNoneInWork clients) old new bearable cuts h
  befallen-so keeps exact route (Step client) clients old new is few falls bearable cuts h = same-so (IsNoneInWork clients) old new bearable cuts h
  befallen-so keeps exact route (Run client) clients old new is few falls bearable cuts h = same-so (IsNoneInWork clients) old new bearable cuts h
  befallen-so keeps exact route (Tick seconds) clients old new is few falls bearable cuts h = same-so (IsNoneInWork clients) old new bearable cuts h
  befallen-so keeps exact route (Gone target presents) clients old new is few falls bearable cuts h =
      if-gone exact (IsNoneInWork clients) target presents (test_number route target) old new falls few bearable cuts h
  befallen-so keeps exact route (Cut target) clients old new is few falls bearable cuts h =
      if-cut exact (IsNoneInWork clients) target (test_number route target) old new falls is bearable cuts h
  befallen-so keeps exact route (Slow target looks) clients old new is few falls bearable cuts h =
      if-slow exact (IsNoneInWork clients) target looks (test_number route target) old new few bearable cuts h

  -- ---- where sessions keep records, what is borne cuts no link

  same-uncut : (old new : BackendView) → new ≡ old → NoneIsCut old.happened → NoneIsCut new.happened
  same-uncut old new e none = subst (λ (b : BackendView). NoneIsCut b.happened) (sym e) none

  gone-uncut : (exact : Bool) (target presents : ℕ) (number : Option ℕ) (old new : BackendView) → BefallsIf exact (Gone target presents) number old new
      → NoneIsCut old.happened → NoneIsCut new.happened
  gone-uncut exact target presents None old new h none = same-uncut old new h none
  gone-uncut exact target presents (Some number) old new h none =
      made-all (λ (x : Happening). x.cut ≡ 0) number (deleted presents) old.happened new.happened h.happens (none number) none

  slow-uncut : (exact : Bool) (target looks : ℕ) (number : Option ℕ) (old new : BackendView) → BefallsIf exact (Slow target looks) number old new
      → NoneIsCut old.happened → NoneIsCut new.happened
  slow-uncut exact target looks None old new h none = same-uncut old new h none
  slow-uncut exact target looks (Some number) old new h none =
      made-all (λ (x : Happening). x.cut ≡ 0) number (slowed looks) old.happened new.happened h.happens (none number) none

  uncut-so : (keeps exact : Bool) (route : Route) (event : Event) (old new : BackendView) → HasBorneNumber keeps pool event
      → IsBefallen exact route event old new → keeps ≡ true → NoneIsCut old.happened → NoneIsCut new.happened
  uncut-so keeps exact route (Feed client octets) old new few h kept none = same-uncut old new h none
  uncut-so keeps exact route (End client) old new few h kept none = same-uncut old new h none
  uncut-so keeps exact route (Step client) old new few h kept none = same-uncut old new h none
  uncut-so keeps exact route (Run client) old new few h kept none = same-uncut old new h none
  uncut-so keeps exact route (Tick seconds) old new few h kept none = same-uncut old new h none
  uncut-so keeps exact route (Gone target presents) old new few h kept none =
      gone-uncut exact target presents (test_number route target) old new h none
  uncut-so keeps exact route (Cut target) old new few h kept none = let no_way : true ≡ false = sym kept ∙ few in absurd cc
  uncut-so keeps exact route (Slow target looks) old new few h kept none =
      slow-uncut exact target looks (test_number route target) old new h none

-- ---- connections

module _ {W S : Type 0} (w : world.Ghosts W) (t : sitting.Ghosts S W) (route : Route) where
  -- the legs of its request in work bear what was made to happen, and its marks are Plain or Full
  pub record ConnBears (h : Happened) (conn : ConnectionState S) : Type 0 where
    pub legs : LegsKept (LegBears w t route h) conn.in_work
    pub marks : AreFit IsPlainOrFull conn.marks

  -- so does what is outside
  abbrev pub IsSound : Outside S → Type 0
  IsSound here = IsBorneBy w t route.pool here.door.pool here.backend

  -- a connection, and what is outside, behind what was done
  pub record Goes (new : ConnectionState S) (before behind : Outside S) : Type 0 where
    pub conn : ConnBears behind.backend.happened new
    pub sound : IsSound behind
    pub worse : AreNoWorse before.backend.happened behind.backend.happened

module _ {W S : Type 0} (w : world.Ghosts W) (t : sitting.Ghosts S W) (route : Route) (stays : BearingStays w t) where
  work-stays : (old new : Happened) (work : Option (PackageView S)) → AreNoWorse old new → LegsKept (LegBears w t route old) work
      → LegsKept (LegBears w t route new) work
  work-stays old new None worse kept = tt
  work-stays old new (Some view) worse kept = (stays route old new view.first worse kept.0, stays route old new view.later worse kept.1)

  conn-stays : (old new : Happened) (conn : ConnectionState S) → AreNoWorse old new → ConnBears w t route old conn → ConnBears w t route new conn
  conn-stays old new conn worse bears = record { legs = work-stays old new conn.in_work worse bears.legs; marks = bears.marks }

-- a leg that is begun
fresh : {W S : Type 0} (w : world.Ghosts W) (t : sitting.Ghosts S W) (route : Route) (h : Happened) → AreBearable route.pool h → (asked : Asked)
    → LegBears w t route h (begun asked)
fresh w t route h bearable asked =
    let early = (bearable.each 0).delay in
    record { stands = refl; borne = record { unfailing = refl; few_looks = omega (arith, early); few_gone = omega (arith) } }

-- what legs that bear it counted
counted-so : {W S : Type 0} (w : world.Ghosts W) (t : sitting.Ghosts S W) (route : Route) (h : Happened) (legs : List (LegView S))
    → AllByRecursion (LegBears w t route h) legs → AllByRecursion (λ leg. HasBorne route.pool leg.account) legs
counted-so w t route h [] bear = tt
counted-so w t route h (leg ∷ legs) bear = (bear.0.borne, counted-so w t route h legs bear.1)

-- ---- steps

module _ {W S : Type 0} (w : world.Ghosts W) (t : sitting.Ghosts S W) (exact : Bool) (route : Route) (law : PackagesBear w t)
    (dials : PackagesDialOn w t) (stays : BearingStays w t) (is : exact ≡ true) (told : AreTold w route) where
  abbrev Bears : Happened → ConnectionState S → Type 0
  Bears h conn = ConnBears w t route h conn

  abbrev Sound : Outside S → Type 0
  Sound here = IsSound w t route here

  abbrev Goes_ : ConnectionState S → Outside S → Outside S → Type 0
  Goes_ new before behind = Goes w t route new before behind

  unmoved : (new : ConnectionState S) (before behind : Outside S) → behind ≡ before → Bears before.backend.happened new → Sound before
      → Goes_ new before behind
  unmoved new before behind e bears sound =
      subst (λ (o : Outside S). Goes_ new before o) (sym e) (record { conn = bears; sound = sound; worse = still before.backend.happened })

  from-bears : (now : ℕ) (end : Option Ending) (in_work : Option (PackageView S)) (old new : ConnectionState S) (answer : Stepped)
      (before behind : Outside S) → answer ≢ Memory → old.in_work ≡ in_work → DialsGoOn behind.backend.counts
      → Bears before.backend.happened old → Sound before → IsStepFrom w t exact route now end in_work old new answer before behind
      → Goes_ new before behind
  from-bears now (Some end) in_work old new answer before behind had e count bears sound h =
      unmoved new before behind h.2 (subst (λ (c : ConnectionState S). Bears before.backend.happened c) (sym h.1) bears) sound
  from-bears now None None old new answer before behind had e count bears sound h =
      unmoved new before behind h.1
      (record {
        legs = ahead-keeps route (LegBears w t route before.backend.happened)
            (λ asked. fresh w t route before.backend.happened sound.bearable asked) old new answer bears.legs h.0;
        marks = ahead-fits IsPlainOrFull tt route old new answer h.0 bears.marks;
      }) sound
  from-bears now None (Some view) old new answer before behind had e count bears sound h =
      let goes = h.turns in
      let kept = subst (λ (v : Option (PackageView S)). LegsKept (LegBears w t route before.backend.happened) v) e bears.legs in
      let both = law exact route now view goes.next goes.turned before.door behind.door before.backend behind.backend is told goes.law count
      sound (all-both (LegBears w t route before.backend.happened) view.first view.later kept.0 kept.1) in
      let first = all-front (LegBears w t route behind.backend.happened) goes.next.first goes.next.later both.0 in
      let later = all-back (LegBears w t route behind.backend.happened) goes.next.first goes.next.later both.0 in
      record {
        conn = record {
          legs = works-keep route (LegBears w t route behind.backend.happened)
              (λ asked. fresh w t route behind.backend.happened both.1.borne.bearable asked) goes.turned goes.next (answering_of old)
              (answering_of new) answer new.end (first, later) goes.works;
          marks = works-fit IsPlainOrFull tt route goes.turned goes.next (answering_of old) (answering_of new) answer new.end
              (request-borne w t route behind.door.counts.most goes.next goes.of
              (counted-so w t route behind.backend.happened goes.next.first first)
              (counted-so w t route behind.backend.happened goes.next.later later)) goes.works bears.marks;
        };
        sound = both.1.borne;
        worse = both.1.worse;
      }

  -- ---- one client

  client-bears : (now : ℕ) (idle : Bool) (old new : ClientState S) (before behind : Outside S) → DialsGoOn behind.backend.counts
      → Bears before.backend.happened old.conn → Sound before → IsClientStep w t exact route now idle old new before behind
      → Goes_ new.conn before behind
  client-bears now idle old new before behind count bears sound h =
      let one = from-bears now old.conn.end old.conn.in_work old.conn h.stepped_to h.answer before behind h.remembers refl count bears sound h.steps in
      record {
        conn = subst (λ (c : ConnectionState S). Bears behind.backend.happened c) (sym h.conn)
            (record { legs = one.conn.legs; marks = one.conn.marks });
        sound = one.sound;
        worse = one.worse;
      }

  on : (new : ConnectionState S) (before amid behind : Outside S) → AreNoWorse before.backend.happened amid.backend.happened
      → Goes_ new amid behind → Goes_ new before behind
  on new before amid behind worse goes = record {
    conn = goes.conn;
    sound = goes.sound;
    worse = worse-on before.backend.happened amid.backend.happened behind.backend.happened worse goes.worse;
  }

  -- links go on to be counted before it, too
  counts-before : (now : ℕ) (idle : Bool) (old new : ClientState S) (before behind : Outside S)
      → IsClientStep w t exact route now idle old new before behind → DialsGoOn behind.backend.counts → DialsGoOn before.backend.counts
  counts-before now idle old new before behind h count =
      dials-before before.backend behind.backend (client-dial w t exact route dials now idle old new before behind h) count

  steps-bear : (now : ℕ) (from : Point S) (earlier : List (Point S)) (last : Point S) → DialsGoOn last.outside.backend.counts
      → Bears from.outside.backend.happened from.client.conn → Sound from.outside → AreSteps w t exact route now from earlier last
      → Goes_ last.client.conn from.outside last.outside
  steps-bear now from [] last count bears sound h =
      subst (λ (p : Point S). Goes_ p.client.conn from.outside p.outside) (sym h)
      (record { conn = bears; sound = sound; worse = still from.outside.backend.happened })
  steps-bear now from (mid ∷ earlier) last count bears sound h =
      let so_far = steps-bear now from earlier mid (counts-before now false mid.client last.client mid.outside last.outside h.1 count) bears sound
      h.0 in
      on last.client.conn from.outside mid.outside last.outside so_far.worse
      (client-bears now false mid.client last.client mid.outside last.outside count so_far.conn so_far.sound h.1)

  run-bears : (now : ℕ) (old new : ClientState S) (before behind : Outside S) → DialsGoOn behind.backend.counts
      → Bears before.backend.happened old.conn → Sound before → HasRun w t exact route now old new before behind → Goes_ new.conn before behind
  run-bears now old new before behind count bears sound h =
      let amid = counts-before now true h.last.client new h.last.outside behind h.rests count in
      let so_far = steps-bear now (record { client = old; outside = before }) h.earlier h.last amid bears sound h.steps in
      on new.conn before h.last.outside behind so_far.worse
      (client-bears now true h.last.client new h.last.outside behind count so_far.conn so_far.sound h.rests)

  piece-work : (end : Option Ending) (state : ConnectionState S) (piece : List ℕ) → (fed_piece end state piece).in_work ≡ state.in_work
  piece-work None state piece = refl
  piece-work (Some end) state piece = refl

  plays-bear : (event : Event) (now : ℕ) (old new : ClientState S) (before behind : Outside S) → DialsGoOn behind.backend.counts
      → Bears before.backend.happened old.conn → Sound before → PlaysFor w t exact route event now old new before behind → Goes_ new.conn before behind
  plays-bear (Feed client octets) now old new before behind count bears sound h =
      unmoved new.conn before behind h.1
      (subst (λ (c : ClientState S). Bears before.backend.happened c.conn) (sym h.0)
      (record {
        legs = subst (λ (v : Option (PackageView S)). LegsKept (LegBears w t route before.backend.happened) v)
            (sym (piece-work old.conn.end old.conn octets)) bears.legs;
        marks = piece-fits IsPlainOrFull old.conn.end old.conn octets bears.marks;
      })) sound
  plays-bear (End client) now old new before behind count bears sound h =
      unmoved new.conn before behind h.1
      (subst (λ (c : ClientState S). Bears before.backend.happened c.conn) (sym h.0) (record { legs = bears.legs; marks = bears.marks })) sound
  plays-bear (Step client) now old new before behind count bears sound h = client-bears now h.0 old new before behind count bears sound h.1
  plays-bear (Run client) now old new before behind count bears sound h = run-bears now old new before behind count bears sound h
  plays-bear (Tick seconds) now old new before behind count bears sound h = absurd h
  plays-bear (Gone target presents) now old new before behind count bears sound h = absurd h
  plays-bear (Cut target) now old new before behind count bears sound h = absurd h
  plays-bear (Slow target looks) now old new before behind count bears sound h = absurd h

  -- ---- all of them

  abbrev Here : Happened → Option (ClientState S) → Type 0
  Here h here = IfSome here (λ client. Bears h client.conn)

  pub record AllGo (playing : Playing S) : Type 0 where
    pub clients : (place : ℕ) → Here playing.outside.backend.happened (client_at playing.clients place)
    pub sound : Sound playing.outside

  or-new : (h : Happened) (here : Option (ClientState S)) → Here h here → Bears h (client_or_new here).conn
  or-new h None bears = record { legs = tt; marks = tt }
  or-new h (Some client) bears = bears

  here-stays : (old new : Happened) (here : Option (ClientState S)) → AreNoWorse old new → Here old here → Here new here
  here-stays old new None worse bears = tt
  here-stays old new (Some client) worse bears = conn-stays w t route stays old new client.conn worse bears

  here-rests : (old new : Happened) (here : Option (ClientState S)) → IfSome here (λ client. client.conn.in_work ≡ None) → Here old here
      → Here new here
  here-rests old new None none bears = tt
  here-rests old new (Some client) none bears = record {
    legs = subst (λ (v : Option (PackageView S)). LegsKept (LegBears w t route new) v) (sym none) tt;
    marks = bears.marks;
  }

  others-go : (h : Happened) (clients : List (Option (ClientState S))) (place : ℕ) (here : Option (ClientState S))
      → ((other : ℕ) → Here h (client_at clients other)) → Here h here → (other : ℕ) → Here h (client_at (slice_set clients place here) other)
  others-go h clients place here all own other =
      elim (cases_eq other place) [
        | inl e ↦
            elim (cases_lt place (length clients)) [
              | inl within ↦
                  subst (λ (n : ℕ). Here h (client_at (slice_set clients place here) n)) (sym e)
                  (subst (λ (c : Option (ClientState S)). Here h c) (sym (client_at-set clients place here within)) own)
              | inr beyond ↦
                  subst (λ (c : Option (ClientState S)). Here h c)
                  (sym (client_at-behind (slice_set clients place here) other (omega (arith, e, beyond, length-set clients place here)))) tt
            ]
        | inr ne ↦ subst (λ (c : Option (ClientState S)). Here h c) (sym (client_at-other clients place other here ne)) (all other)
      ]

  event-goes : (event : Event) (client : Option ℕ) (now : ℕ) (old new : Playing S) → HasBorneNumber t.keeps route.pool event
      → FallsBetween event old.clients → DialsGoOn new.outside.backend.counts → AllGo old → PlaysOf w t exact route client event now old new → AllGo new
  event-goes event None now old new few falls count go h =
      let old_h = old.outside.backend.happened in
      let new_h = new.outside.backend.happened in
      let so = befallen-so route.pool t.keeps exact route event old.clients old.outside.backend new.outside.backend is few falls
      go.sound.bearable go.sound.cut h.backend in
      record {
        clients = subst (λ (cs : List (Option (ClientState S))). (place : ℕ) → Here new_h (client_at cs place)) (sym h.clients)
            (λ place. elim so.for_legs [
              | inl alone ↦ here-rests old_h new_h (client_at old.clients place) (alone place) (go.clients place)
              | inr worse ↦ here-stays old_h new_h (client_at old.clients place) worse (go.clients place)
            ]);
        sound = record {
          bearable = so.bearable;
          cut = so.cut;
          uncut = λ kept. uncut-so route.pool t.keeps exact route event old.outside.backend new.outside.backend few h.backend kept (go.sound.uncut kept);
          idle = (subst (λ (d : DoorView S). IsBorneBy w t route.pool d.pool old.outside.backend) (sym h.door) go.sound).idle;
        };
      }
  event-goes event (Some number) now old new few falls count go h =
      let here = client_at old.clients (number - 1) in
      let one = plays-bear event now (client_or_new here) h.plays.client old.outside new.outside count
      (or-new old.outside.backend.happened here (go.clients (number - 1))) go.sound h.plays.plays in
      record {
        clients = subst (λ (cs : List (Option (ClientState S))). (place : ℕ) → Here new.outside.backend.happened (client_at cs place)) (sym h.others)
            (others-go new.outside.backend.happened old.clients (number - 1) h.here
            (λ other. here-stays old.outside.backend.happened new.outside.backend.happened (client_at old.clients other) one.worse (go.clients other))
            (subst (λ (c : Option (ClientState S)). Here new.outside.backend.happened c) (sym h.plays.is_there) one.conn));
        sound = one.sound;
      }

  events-go : (events : List Event) (now : ℕ) (old new : Playing S) → AllByRecursion (HasBorneNumber t.keeps route.pool) events
      → (h : ArePlayed w t exact route events now old new) → FallBetween w t exact route events now old new h
      → DialsGoOn new.outside.backend.counts → AllGo old → AllGo new
  events-go [] now old new few h falls count go = subst (λ (p : Playing S). AllGo p) (sym h) go
  events-go (event ∷ events) now old new few h falls count go =
      let amid = dials-before h.0.outside.backend new.outside.backend
      (events-dial w t exact route dials events (now + seconds_of event) h.0 new h.2) count in
      events-go events (now + seconds_of event) h.0 new few.1 h.2 falls.1 count
      (event-goes event (client_of event) now old h.0 few.0 falls.0 amid go h.1)

  -- ---- behind the last event

  closings-few : (clients : List ℕ) → AllByRecursion (HasBorneNumber t.keeps route.pool) (flat_map closing clients)
  closings-few [] = tt
  closings-few (client ∷ clients) = (tt, (tt, closings-few clients))

  closings-fall : (clients : List ℕ) (now : ℕ) (old new : Playing S) (h : ArePlayed w t exact route (flat_map closing clients) now old new)
      → FallBetween w t exact route (flat_map closing clients) now old new h
  closings-fall [] now old new h = tt
  closings-fall (client ∷ clients) now old new h = (tt, (tt, closings-fall clients _ _ new h.2.2))

  none-go : (clients : List (Option (ClientState S))) (h : Happened) → AreNone clients → (place : ℕ) → Here h (client_at clients place)
  none-go clients h none place = subst (λ (c : Option (ClientState S)). Here h c) (sym (none place)) tt

  marks-go : (h : Happened) (here : Option (ClientState S)) → Here h here → IfSome here (λ client. AreFit IsPlainOrFull client.conn.marks)
  marks-go h None bears = tt
  marks-go h (Some client) bears = bears.marks

  pub run-borne : (events : List Event) (before behind : Outside S) (report : Report) (run : IsRunOf w t exact route events before behind report)
      → IsBorneRun w t exact route events before behind report run → AreAllPlainOrFull report.clients
  run-borne events before behind report run borne =
      let first : Playing S = record { clients = run.start; outside = before } in
      let last : Playing S = record { clients = run.finish; outside = behind } in
      let start : AllGo first = record { clients = none-go run.start before.backend.happened run.nobody; sound = borne.start } in
      let amid = dials-before run.mid.outside.backend behind.backend
      (events-dial w t exact route dials (closings events) (moment_behind events) run.mid last run.closed) borne.counted in
      let mid = events-go events 0 first run.mid borne.few run.played borne.between amid start in
      let end = events-go (closings events) (moment_behind events) run.mid last (closings-few (named events)) run.closed
      (closings-fall (named events) (moment_behind events) run.mid last run.closed) borne.counted mid in
      reported-fit IsPlainOrFull (length run.finish) run.finish report.clients
      (λ place. marks-go behind.backend.happened (client_at run.finish place) (end.clients place)) run.reported.clients_of
