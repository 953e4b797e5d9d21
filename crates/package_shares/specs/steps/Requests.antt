-- For contracts alone: a request from its first turn to its last, over a told pool at one moment.
-- Its legs share the sessions of their classes, and cost what the uses of its work need
-- (this project's own)
use Rattle.std.specs.Prelude.{◌≡◌, ◌≢◌, ℕ, ◌≤◌, ◌==◌, nat_eq, true, Bool, if◌then◌else◌, List, [], ◌∷◌, ◌++◌, map, sum_by, Some}
use Rattle.std.specs.List.{IsDistinct}
use Rattle.z_types.specs.declared.sitting.Sitting as sitting
use Rattle.z_types.specs.declared.work.Work.{Work}
use Rattle.z_types.specs.declared.world.World as world
use Rattle.route_config.specs.Sound.{IsSound}
use Rattle.route_config.specs.declared.route.Route.{Route}
use Rattle.gateway_rules.specs.Fair.{IsFair}
use Rattle.gateway_rules.specs.Marks.{plain}
use Rattle.pool_sets.specs.Plain.{Pool}
use Rattle.package_quiet.specs.leg.Terms.{class_of}
use Rattle.package_quiet.specs.leg.declared.accounts.Account.{Account}
use Rattle.package_quiet.specs.leg.declared.answers.Turned.{Turned}
use Rattle.package_quiet.specs.leg.declared.answers.Turned.TheVariants as turned
use Rattle.package_quiet.specs.package_rules.Planned.{AreThere, legs_named}
use Rattle.package_quiet.specs.package.steps.Drives.{PackageAt}
use Rattle.package_quiet.specs.package.steps.Ends.{cause_in}
use Rattle.package_quiet.specs.package.steps.Packages.{IsOver, IsPackageOf, PackageView, all_accounts, new_package}
use Rattle.package_quiet.specs.package.steps.Turns.{IsPackageTurn}
use Rattle.sharing_rules.specs.Needed.{count_after, needs_dial, needs_search}
use Rattle.sharing_rules.specs.Orderly.{keys_used, logins_used}
use Rattle.sharing_rules.specs.Sharers.{Sharers}
use Rattle.sharing_rules.specs.Uses.{Use, uses_by}
use Rattle.sharing_rules.specs.steps.Shared.{AreInOrder}
use Rattle.package_quiet.specs.steps.Quiet.{IsCalm}
use Rattle.package_shares.specs.steps.Packages.{MayPackageShare}
use Rattle.package_shares.specs.steps.Together.{AreAllKept, AreUndisturbed}

-- ---- what a work uses

-- uses behind others, the last one first
abbrev pub behind : (before uses : List Use) → List Use
behind before [] = before
behind before (this ∷ uses) = behind (this ∷ before) uses

-- the uses of a work at a moment
abbrev pub uses_at : Route → (now : ℕ) → Work → List Use
uses_at route now work = uses_by route (record { at = now; work = work })

-- a work may be done behind these uses: its legs are the route's and go to different classes, the
-- uses before stand in order, and with the uses of the work the keys of each class and login find
-- room in one session, and the logins of each class in one each
pub record MayWork (route : Route) (now : ℕ) (before : List Use) (work : Work) : Type 0 where
  pub there : AreThere route work
  pub apart : IsDistinct nat_eq (map (class_of route) (legs_named work))
  pub falls : AreInOrder now before
  pub few : (who : Sharers)
      → keys_used who (behind before (uses_at route now work)) ≤ route.pool.sets_max
  pub own : (class : ℕ)
      → logins_used class (behind before (uses_at route now work)) ≤ route.pool.max_sessions

-- ---- what its legs count

-- the dials of a leg of the class; its searches
abbrev pub dials_in : ℕ → Account → ℕ
dials_in class account = if account.class == class then account.dials else 0

abbrev pub searches_in : ℕ → Account → ℕ
searches_in class account = if account.class == class then account.searches else 0

-- ---- from its first turn to its last

module _ {W S : Type 0} (w : world.Ghosts W) (t : sitting.Ghosts S W) (exact : Bool) (route : Route)
    (now : ℕ) where
  -- a turn with memory, behind which it is a package of the route
  pub record IsTurnTo (here next : PackageAt S) : Type 0 where
    pub answer : Turned
    pub memory : answer ≢ turned.Memory
    pub law : IsPackageTurn w t exact route now here.view next.view answer here.door next.door
        here.backend next.backend
    pub of : IsPackageOf w t route next.door.counts.most next.view

  -- such turns at one moment, by where it stood before each of them, the latest first
  abbrev pub AreTurns : (first : PackageAt S) → List (PackageAt S) → (last : PackageAt S) → Type 0
  AreTurns first [] last = last ≡ first
  AreTurns first (mid ∷ earlier) last = AreTurns first earlier mid × IsTurnTo mid last

module _ {W S : Type 0} (w : world.Ghosts W) (t : sitting.Ghosts S W) (route : Route)
    (now : ℕ) where
  -- a door with this pool over a quiet backend: each class is kept behind these uses
  pub record IsKeptAt (uses : List Use) (here : PackageAt S) : Type 0 where
    pub pool : Pool S
    pub told : here.door.pool ≡ Some pool
    pub kept : AreAllKept w route now uses pool
    pub calm : IsCalm w t here.door.pool here.backend

  -- behind the turns of a work's request each class is kept with its uses; nothing went wrong, no
  -- leg is marked, and the dials and searches of each class are those that the uses need
  pub record HasShared (before : List Use) (work : Work) (last : PackageAt S) : Type 0 where
    pub kept : IsKeptAt (behind before (uses_at route now work)) last
    pub undisturbed : AreUndisturbed (last.view.first ++ last.view.later)
    pub unmarked : cause_in route last.view ≡ plain
    pub dials : (class : ℕ)
        → sum_by (dials_in class) (all_accounts last.view)
        ≡ count_after (needs_dial route class) before (uses_at route now work)
    pub searches : (class : ℕ)
        → sum_by (searches_in class) (all_accounts last.view)
        ≡ count_after (needs_search w route class) before (uses_at route now work)

module _ {W S : Type 0} (w : world.Ghosts W) (t : sitting.Ghosts S W) where
  -- the legs of a work that may be done may share their classes, when its package is begun
  abbrev pub BegunMayShare : Type 0
  BegunMayShare =
      (route : Route) (now : ℕ) (before : List Use) (work : Work)
      → IsFair w route → IsSound route → MayWork route now before work
      → MayPackageShare w route now before (new_package {S = S} route work)

  -- and as long as it is a package of the route: those for records too
  abbrev pub PackagesMayShare : Type 0
  PackagesMayShare =
      (route : Route) (now : ℕ) (before : List Use) (work : Work) (most : ℕ) (view : PackageView S)
      → IsFair w route → IsSound route → MayWork route now before work
      → view.work ≡ work → IsPackageOf w t route most view → MayPackageShare w route now before view

-- a request that is begun, has its turns with memory over a quiet backend that counts exactly, on a
-- fair route, and is over
abbrev pub RequestsShare : {W S : Type 0} → world.Ghosts W → sitting.Ghosts S W → Type 0
RequestsShare {W} {S} w t =
    (exact : Bool) (route : Route) (now : ℕ) (before : List Use) (work : Work)
    (first last : PackageAt S) (earlier : List (PackageAt S))
    → exact ≡ true → IsFair w route → IsSound route → MayWork route now before work
    → first.view ≡ new_package route work → IsKeptAt w t route now before first
    → AreTurns w t exact route now first earlier last → IsOver last.view
    → HasShared w t route now before work last
