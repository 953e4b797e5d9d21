-- What a search leaves of a table that has room, and how a pool begins
use Rattle.std.proofs.Common.{◌≡◌, ◌≤◌, ℕ, List, [], ◌∷◌, None, Some, refl}
use Rattle.z_types.specs.declared.key.SetKey.{SetKey}
use Rattle.z_types.specs.declared.world.World as world
use Rattle.route_config.specs.declared.route.Route.{Route}
use Rattle.pool_sets.specs.Plain.{Pool}
use Rattle.pool_sets.specs.Table.{Table, set_of, after_room}
use Rattle.sharing_rules.specs.Sharers.{Sharers}
use Rattle.sharing_rules.specs.Uses.{Use}
use Rattle.sharing_rules.specs.Orderly.{keys_used}
use Rattle.sharing_rules.specs.steps.Shared.{HoldsUsed, IsShared}
use Rattle.sharing_rules.proofs.TableUses.{used_now}
use Rattle.sharing_rules.proofs.RoomUses.{fewer_held, no_set_goes}

module _ {W : Type 0} (w : world.Ghosts W) (route : Route) (who : Sharers) (now : ℕ) (before : List Use) where
  -- no set makes room
  pub room_is_there : (t : Table) (key : SetKey) → HoldsUsed w route who now before t → set_of key t ≡ None
      → keys_used who (used_now who (Some key) now ∷ before) ≤ route.pool.sets_max → after_room t ≡ t
  room_is_there t key h f few = rw (no_set_goes t (fewer_held w route who now before t key h f few)) refl

-- a pool without sessions is kept behind no use
pub starts : {W S : Type 0} (w : world.Ghosts W) (route : Route) (now : ℕ) (p : Pool S) → p.sessions ≡ [] → IsShared w route now [] p
starts w route now p e class found is login = rw e refl
