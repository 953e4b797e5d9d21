-- A client's result sets (ANSI/NISO Z39.50-2003, 3.2.2 Search, Result-set-name; that a set stands
-- for legs and a query is this project's own)
use Rattle.z_types.specs.Same.{is_same}
use Rattle.std.specs.Prelude.{◌≡◌, ℕ, not, List, [], ◌∷◌, ◌++◌, Option, find, filter, map}
use Rattle.z_types.specs.declared.query.RpnQuery.{RpnQuery}
use Rattle.z_types.specs.declared.known_set.KnownSet.{KnownSet}

-- what a name stands for: legs, by their places in the route, and a query without operands that are
-- result sets
pub record StoredSet : Type 0 where
  pub name : List ℕ
  pub legs : List ℕ
  pub query : RpnQuery

-- a set that the gateway keeps, without its hits
abbrev pub stored : KnownSet → StoredSet
stored known = record { name = known.name; legs = known.legs; query = known.query }

-- sets that the gateway keeps, without their hits
abbrev pub without_hits : List KnownSet → List StoredSet
without_hits = map stored

-- the set of a name
abbrev pub set_named : List ℕ → List StoredSet → Option StoredSet
set_named name sets = find (λ set. is_same set.name name) sets

-- the set of a name, of those that the gateway keeps
abbrev pub known_set_named : List ℕ → List KnownSet → Option KnownSet
known_set_named name sets = find (λ set. is_same set.name name) sets

-- the same, without its hits
abbrev pub stored_set_named : List ℕ → List KnownSet → Option StoredSet
stored_set_named name sets = set_named name (without_hits sets)

-- the sets without the one of a name
abbrev pub without_set : List ℕ → List StoredSet → List StoredSet
without_set name sets = filter (λ set. not (is_same set.name name)) sets

-- the sets with this one, in place of any of its name
abbrev pub with_set : StoredSet → List StoredSet → List StoredSet
with_set set sets = without_set set.name sets ++ set ∷ []

-- a set was put among those that the gateway keeps, in place of any of its name
abbrev pub IsStored : KnownSet → (old new : List KnownSet) → Type 0
IsStored set old new = without_hits new ≡ with_set (stored set) (without_hits old)
