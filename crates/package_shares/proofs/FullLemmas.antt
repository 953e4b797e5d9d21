-- A leg that shares a class that it may use never finds the door full
use Rattle.std.proofs.Common.{◌≡◌, ◌∙◌, ℕ, Bool, false, List, Option, Some, refl, ap, subst}
use Rattle.z_types.specs.declared.sitting.Sitting as sitting
use Rattle.z_types.specs.declared.world.World as world
use Rattle.route_config.specs.declared.route.Route.{Route}
use Rattle.pool_sets.specs.Plain.{Pool}
use Rattle.pool_sets.specs.declared.doors.Taken.{Taken}
use Rattle.pool_sets.specs.declared.doors.Taken.TheVariants as taken
use Rattle.package_quiet.specs.leg.Accounts.{more}
use Rattle.package_quiet.specs.leg.Deeds.{BackendView, Deed, took, opened, began, heard, put_back, gave_up, redialled, no_memory, nothing, rises_of}
use Rattle.package_quiet.specs.leg.Tasks.{want_of}
use Rattle.package_quiet.specs.leg.Terms.{terms_of}
use Rattle.package_quiet.specs.leg.Turns.{DoorView, IsDue, IsTurn, PoolMoves}
use Rattle.package_quiet.specs.leg.declared.accounts.Account.{Account}
use Rattle.package_quiet.specs.leg.declared.answers.Turned.{Turned}
use Rattle.package_quiet.specs.leg.declared.phases.Phase.{Phase}
use Rattle.package_quiet.specs.leg.declared.phases.Phase.TheVariants.{Begin, Dialling, Dialled, Ready, Searching, Presenting, Fetching, Scanning, Returning, Losing, Redialling, Spoiled, Done, Ended}
use Rattle.package_quiet.specs.leg.declared.tasks.Task.{Task}
use Rattle.sharing_rules.specs.Uses.{Use}
use Rattle.leg_shares.specs.steps.Pools.{IsPoolOf, MayUse, sharers_at}
use Rattle.leg_shares.specs.steps.Sharing.{AreOthersKept, Shares, StandsBy}
use Rattle.leg_shares.proofs.PoolLemmas.{given-so}

module _ {W S : Type 0} (w : world.Ghosts W) (t : sitting.Ghosts S W) (route : Route) (login : Option (List ℕ)) (place now : ℕ) (before : List Use) (task : Task)
    (may : MayUse w route (sharers_at route login place) now before (want_of task)) (p : Pool S) (of : IsPoolOf route p)
    (rest : AreOthersKept w route (sharers_at route login place) now before p) where
  abbrev IsNoFull : Deed S → Type 0
  IsNoFull deed = (rises_of (want_of task) deed).fulls ≡ false

  none-taken : (most : ℕ) (behind : Option (Pool S)) (gives : Taken S) → StandsBy w t route (sharers_at route login place) now before task Begin p
      → PoolMoves (terms_of route login place) task now Begin (took gives) (Some p) behind → IsNoFull (took gives)
  none-taken most behind (taken.Reuse seat parts slot hits) kept moves = refl
  none-taken most behind (taken.Fresh seat parts) kept moves = refl
  none-taken most behind (taken.Dial seat member) kept moves = refl
  none-taken most behind (taken.Full open_) kept moves =
      absurd ((given-so w route (sharers_at route login place) now before (want_of task) may p of kept rest (taken.Full open_) behind tt moves).so)
  none-taken most behind taken.Memory kept moves = refl

  no-full : (most : ℕ) (behind : Option (Pool S)) (phase : Phase S) (deed : Deed S) → IsDue w t (terms_of route login place) most task phase deed
      → StandsBy w t route (sharers_at route login place) now before task phase p → PoolMoves (terms_of route login place) task now phase deed (Some p) behind
      → IsNoFull deed
  no-full most behind Begin (took gives) due stands moves = none-taken most behind gives stands moves
  no-full most behind (Dialling seat member) (took gives) due stands moves = absurd due
  no-full most behind (Dialled held looks) (took gives) due stands moves = absurd due
  no-full most behind (Ready held items) (took gives) due stands moves = absurd due
  no-full most behind (Searching held items slot looks) (took gives) due stands moves = absurd due
  no-full most behind (Presenting held items slot hits) (took gives) due stands moves = absurd due
  no-full most behind (Fetching held items slot hits looks) (took gives) due stands moves = absurd due
  no-full most behind (Scanning held looks) (took gives) due stands moves = absurd due
  no-full most behind (Returning held said) (took gives) due stands moves = absurd due
  no-full most behind (Losing seat said) (took gives) due stands moves = absurd due
  no-full most behind (Redialling seat) (took gives) due stands moves = absurd due
  no-full most behind (Spoiled seat) (took gives) due stands moves = absurd due
  no-full most behind (Done said) (took gives) due stands moves = absurd due
  no-full most behind Ended (took gives) due stands moves = absurd due
  no-full most behind phase (opened made) due stands moves = refl
  no-full most behind phase (began asks said session) due stands moves = refl
  no-full most behind phase (heard reply session) due stands moves = refl
  no-full most behind phase put_back due stands moves = refl
  no-full most behind phase gave_up due stands moves = refl
  no-full most behind phase (redialled member) due stands moves = refl
  no-full most behind phase no_memory due stands moves = refl
  no-full most behind phase nothing due stands moves = refl

  -- so its account counts none
  pub turn-unfull : (exact : Bool) (old new : Phase S) (a b : Account) (answer : Turned) (door after : DoorView S) (backend moved : BackendView)
      → door.pool ≡ Some p → IsTurn w t exact (terms_of route login place) task now old new a b answer door after backend moved
      → Shares w t route (sharers_at route login place) now before task old a p → b.fulls ≡ a.fulls
  turn-unfull exact old new a b answer door after backend moved told turn shares =
      ap (λ (x : Account). x.fulls) turn.account
      ∙ ap (λ (r : Bool). more r a.fulls)
      (no-full door.counts.most after.pool old turn.deed turn.due shares.stands
      (subst (λ (q : Option (Pool S)). PoolMoves (terms_of route login place) task now old turn.deed q after.pool) told turn.pool))
