-- One turn of a leg that shares the session of its class, where nothing goes wrong
use Rattle.std.proofs.Common.{◌≡◌, ◌≢◌, ◌∙◌, ◌+◌, ℕ, max, Bool, true, List, Option, Some, refl, sym, ap, subst, arith}
use Rattle.z_types.specs.declared.key.SetKey.{SetKey}
use Rattle.z_types.specs.declared.sitting.Sitting as sitting
use Rattle.z_types.specs.declared.world.World as world
use Rattle.route_config.specs.declared.route.Route.{Route}
use Rattle.gw_outside.specs.declared.backends.Began.TheVariants as start
use Rattle.gw_outside.specs.declared.backends.Heard.TheVariants as look
use Rattle.gw_outside.specs.declared.backends.Opening.TheVariants as opening
use Rattle.pool_sets.specs.Plain.{Pool}
use Rattle.pool_sets.specs.declared.doors.Taken.TheVariants as taken
use Rattle.leg.specs.Accounts.{counted, more}
use Rattle.leg.specs.Deeds.{BackendView, Deed, took, opened, began, heard, put_back, gave_up, redialled, no_memory, nothing, looks_after, rises_of}
use Rattle.leg.specs.Phases.{is_given, looks_of}
use Rattle.leg.specs.Rules.{Ends, Lack, never, always, perhaps, answer_of, lack_of, left_by, next}
use Rattle.leg.specs.Tasks.{want_of}
use Rattle.leg.specs.Terms.{databases_of, terms_of}
use Rattle.leg.specs.Turns.{DoorView, IsTurn, PoolMoves}
use Rattle.leg.specs.declared.accounts.Account.{Account}
use Rattle.leg.specs.declared.answers.Turned.{Turned}
use Rattle.leg.specs.declared.answers.Turned.TheVariants as turned
use Rattle.leg.specs.declared.phases.Phase.{Phase}
use Rattle.leg.specs.declared.tasks.Task.{Task}
use Rattle.sharing_rules.specs.Sharers.{Sharers}
use Rattle.sharing_rules.specs.Uses.{Use}
use Rattle.leg_shares.specs.steps.Pools.{IsPoolOf, MayUse, sharers_at}
use Rattle.leg_shares.specs.steps.Sharing.{AreOthersKept, Shares, SharesThen, StandsBy, WentOn, dials_by, searches_by}
use Rattle.leg_shares.proofs.DeedLemmas.{IsFine, deed-goes}

-- ---- memory

module _ {S : Type 0} where
  -- where memory was had the leg goes on by the rules
  goes-on : (lack : Lack) (wanted left new : Phase S) (said answer : Turned) → answer ≢ turned.Memory → Ends lack wanted left said answer new
      → new ≡ wanted
  goes-on never wanted left new said answer had ends = ends.0
  goes-on always wanted left new said answer had ends = absurd (had ends.1)
  goes-on perhaps wanted left new said turned.Memory had ends = absurd (had refl)
  goes-on perhaps wanted left new said turned.Went had ends = ends.0
  goes-on perhaps wanted left new said turned.NotYet had ends = ends.0
  goes-on perhaps wanted left new said turned.Done had ends = ends.0

  -- and its deed lacked none
  had-some : (lack : Lack) (wanted left new : Phase S) (said answer : Turned) → answer ≢ turned.Memory → Ends lack wanted left said answer new
      → lack ≢ always
  had-some lack wanted left new said answer had ends is =
      had (subst (λ (l : Lack). Ends l wanted left said answer new) is ends).1

-- ---- a count that stands at nothing

risen : (n m : ℕ) → m ≡ more true n → m ≡ 0 → ⊥
risen n m is none = omega (arith, is, none)

looked : (n looks m : ℕ) → m ≡ max n (looks + 1) → m ≡ 0 → ⊥
looked n looks m is none = omega (arith, is, none)

module _ {S : Type 0} (want : Option SetKey) (class looks : ℕ) (given : Bool) (a b : Account) where
  abbrev Counts : Deed S → Type 0
  Counts deed = b ≡ counted class (rises_of want deed) given (looks_after looks deed) a

  gone-counted : (session : S) → Counts (heard look.Gone session) → b.gones ≡ 0 → ⊥
  gone-counted session is none = risen a.gones b.gones (ap (λ (x : Account). x.gones) is) none

  wait-counted : (session : S) → Counts (heard look.NotYet session) → b.looks ≡ 0 → ⊥
  wait-counted session is none = looked a.looks looks b.looks (ap (λ (x : Account). x.looks) is) none

  fault-counted : (deed : Deed S) → (rises_of want deed).faults ≡ true → Counts deed → b.faults ≡ 0 → ⊥
  fault-counted deed rises is none = risen a.faults b.faults (ap (λ (x : Account). x.faults) is ∙ ap (λ (r : Bool). more r a.faults) rises) none

  -- where nothing was counted that goes wrong nothing did
  is-fine : (deed : Deed S) (answer : Turned) → WentOn answer b → lack_of deed ≢ always → Counts deed → IsFine deed
  is-fine (took (taken.Reuse seat parts slot hits)) answer on had is = tt
  is-fine (took (taken.Fresh seat parts)) answer on had is = tt
  is-fine (took (taken.Dial seat member)) answer on had is = tt
  is-fine (took (taken.Full open_)) answer on had is = tt
  is-fine (took taken.Memory) answer on had is = had refl
  is-fine (opened (opening.Session session)) answer on had is = tt
  is-fine (opened (opening.Failed linked)) answer on had is = fault-counted (opened (opening.Failed linked)) refl is on.faults
  is-fine (opened opening.Memory) answer on had is = had refl
  is-fine (began asks start.Started session) answer on had is = tt
  is-fine (began asks start.Failed session) answer on had is = fault-counted (began asks start.Failed session) refl is on.faults
  is-fine (began asks start.Memory session) answer on had is = had refl
  is-fine (heard look.Opened session) answer on had is = tt
  is-fine (heard (look.Hits hits) session) answer on had is = tt
  is-fine (heard (look.Refused diag) session) answer on had is = tt
  is-fine (heard (look.Items items) session) answer on had is = tt
  is-fine (heard look.Gone session) answer on had is = gone-counted session is on.gones
  is-fine (heard (look.Scanned entries) session) answer on had is = tt
  is-fine (heard look.NotYet session) answer on had is = wait-counted session is on.looks
  is-fine (heard look.Failed session) answer on had is = fault-counted (heard look.Failed session) refl is on.faults
  is-fine (heard look.Memory session) answer on had is = had refl
  is-fine put_back answer on had is = tt
  is-fine gave_up answer on had is = tt
  is-fine (redialled member) answer on had is = tt
  is-fine no_memory answer on had is = had refl
  is-fine nothing answer on had is = tt

-- ---- the turn

module _ {W S : Type 0} (w : world.Ghosts W) (t : sitting.Ghosts S W) (exact : Bool) (route : Route) (login : Option (List ℕ)) (place now : ℕ)
    (before : List Use) (task : Task) where
  abbrev who : Sharers
  who = sharers_at route login place

  abbrev wanted_by : (old : Phase S) → Deed S → Account → Phase S
  wanted_by old deed b = next (terms_of route login place) task now b.gones old deed

  pub turn-shares : (old new : Phase S) (a b : Account) (answer : Turned) (door after : DoorView S) (backend moved : BackendView) (pool : Pool S)
      → MayUse w route who now before (want_of task) → AreOthersKept w route who now before pool → door.pool ≡ Some pool → IsPoolOf route pool
      → IsTurn w t exact (terms_of route login place) task now old new a b answer door after backend moved → WentOn answer b
      → Shares w t route who now before task old a pool
      → SharesThen w t route who now before task new b pool after.pool
  turn-shares old new a b answer door after backend moved pool may rest told of turn on shares =
      let fine = is-fine (want_of task) who.class (looks_of old) (is_given old) a b turn.deed answer on
      (had-some (lack_of turn.deed) (wanted_by old turn.deed b) (left_by old turn.deed) new (answer_of turn.deed new) answer on.memory turn.goes) turn.account in
      let goes = deed-goes w t route who now before (databases_of route place) door.counts.most b.gones task may pool rest of after.pool old turn.deed turn.due fine
      shares.stands (subst (λ (p : Option (Pool S)). PoolMoves (terms_of route login place) task now old turn.deed p after.pool) told turn.pool) in
      let at : new ≡ wanted_by old turn.deed b =
      goes-on (lack_of turn.deed) (wanted_by old turn.deed b) (left_by old turn.deed) new (answer_of turn.deed new) answer on.memory turn.goes in
      record {
        pool = goes.pool;
        told = goes.told;
        of = goes.of;
        shares = record {
          stands = subst (λ (x : Phase S). StandsBy w t route who now before task x goes.pool) (sym at) goes.stands;
          dials = ap (λ (x : Account). x.dials) turn.account ∙ ap (λ (n : ℕ). more (rises_of (want_of task) turn.deed).dials n) shares.dials
              ∙ goes.dials ∙ ap (λ (x : Phase S). dials_by route who now before x) (sym at);
          searches = ap (λ (x : Account). x.searches) turn.account ∙ ap (λ (n : ℕ). more (rises_of (want_of task) turn.deed).searches n) shares.searches
              ∙ goes.searches ∙ ap (λ (x : Phase S). searches_by w route who now before (want_of task) x) (sym at);
        };
        others = goes.others;
      }
