-- How many searches and dials a script needs where sessions are shared (this project's own)
use Rattle.std.specs.Prelude.{ℕ, ◌+◌, ◌-◌, ◌==◌, ◌&&◌, ◌||◌, nat_le, Bool, true, false, List, [], ◌∷◌, find, Option, None, Some, option_map, is_err, if◌then◌else◌}
use Rattle.std.specs.Option.{option_map_or}
use Rattle.z_types.specs.declared.key.SetKey.{SetKey}
use Rattle.z_types.specs.declared.world.World as world
use Rattle.route_config.specs.declared.route.Route.{Route}
use Rattle.route_config.specs.Lookup.{first_address}
use Rattle.pool_sets.specs.Table.{same_key}
use Rattle.z_types.specs.Logins.{inside}
use Rattle.sharing_rules.specs.Sharers.{Sharers, same_sharers}
use Rattle.sharing_rules.specs.Uses.{Use}

-- ---- uses before another, the last of them first

-- a use of a class
abbrev pub is_in : ℕ → Use → Bool
is_in class this = this.by.class == class

-- by those who share a session
abbrev pub is_by : Sharers → Use → Bool
is_by who this = same_sharers this.by who

-- and of the set of a key
abbrev pub is_set_by : Sharers → SetKey → Use → Bool
is_set_by who key this = is_by who this && option_map_or (same_key key) this.key false

-- when a test held last, if it did
abbrev pub last_at : (Use → Bool) → (before : List Use) → Option ℕ
last_at test before = option_map (λ this. this.at) (find test before)

-- it was never, or `ttl` seconds ago or more
abbrev pub is_late : (ttl now : ℕ) → Option ℕ → Bool
is_late ttl now None = true
is_late ttl now (Some at) = nat_le ttl (now - at)

-- ---- what a use costs

-- the target of a class refuses the search for a key under a login
abbrev pub is_refused : {W : Type 0} → world.Ghosts W → Route → Sharers → SetKey → Bool
is_refused w route who key =
    option_map_or (λ address. is_err (w.search (inside who.login address) key))
    (first_address route who.class) false

-- the set of a key is searched for at its first use under a login, behind a time in which it was
-- not used under that login, and whenever the target refuses it
abbrev pub searches_for : {W : Type 0} → world.Ghosts W → Route → (before : List Use) → Use
    → Option SetKey → Bool
searches_for w route before this None = false
searches_for w route before this (Some key) =
    is_refused w route this.by key
    || is_late route.pool.set_ttl this.at (last_at (is_set_by this.by key) before)

-- a use of a class needs a search
abbrev pub needs_search : {W : Type 0} → world.Ghosts W → Route → ℕ → List Use → Use → Bool
needs_search w route class before this =
    is_in class this && searches_for w route before this this.key

-- a use of a class needs a dial: the first under its login, and each behind a time in which the
-- class was not used under that login
abbrev pub needs_dial : Route → ℕ → List Use → Use → Bool
needs_dial route class before this =
    is_in class this && is_late route.pool.session_ttl this.at (last_at (is_by this.by) before)

-- how many uses pass a test, each behind those before it
abbrev pub count_after : (List Use → Use → Bool) → (before : List Use) → List Use → ℕ
count_after test before [] = 0
count_after test before (this ∷ uses) =
    (if test before this then 1 else 0) + count_after test (this ∷ before) uses

-- ---- the numbers

-- the searches that the uses of a class need
abbrev pub needed : {W : Type 0} → world.Ghosts W → Route → ℕ → List Use → ℕ
needed w route class uses = count_after (needs_search w route class) [] uses

-- the dials that they need
abbrev pub dials_needed : Route → ℕ → List Use → ℕ
dials_needed route class uses = count_after (needs_dial route class) [] uses
