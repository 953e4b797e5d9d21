-- For contracts alone: the set that an operand of a query names (this project's own)
use Rattle.std.specs.Prelude.{◌≡◌, ℕ, List, Option, None, Some, Result, Ok, Err, filter, not, if◌then◌else◌}
use Rattle.std.specs.Borrow.{Bor}
use Rattle.z_types.specs.declared.known_set.KnownSet.{KnownSet}
use Rattle.z_types.specs.Same.{is_same}
use Rattle.z_sets.specs.Sets.{known_set_named}
use Rattle.z_sets.specs.declared.fault.ExpandFault.{ExpandFault}
use Rattle.z_sets.specs.declared.fault.ExpandFault.TheVariants.{UnknownSet, OtherLegs, Memory}

-- the set of a name, where it was found and is one of these legs
abbrev pub set_for : List ℕ → List ℕ → Option KnownSet → Result KnownSet ExpandFault
set_for name legs None = Err (UnknownSet name)
set_for name legs (Some set) = if is_same set.legs legs then Ok set else Err (OtherLegs name)

-- the set that an operand names, among these
abbrev pub set_among : List ℕ → List ℕ → List KnownSet → Result KnownSet ExpandFault
set_among name legs sets = set_for name legs (known_set_named name sets)

-- a value that is lent, or why there is none; want of memory has no cause
abbrev pub IsLentOrMemory : {A : Type 0} → Result A ExpandFault
    → Result (Bor A) ExpandFault → Type 0
IsLentOrMemory wanted (Ok lent) = wanted ≡ Ok lent.now
IsLentOrMemory wanted (Err Memory) = Unit {0}
IsLentOrMemory wanted (Err fault) = wanted ≡ Err fault

-- the sets of other names, with their hits
abbrev pub others_than : List ℕ → List KnownSet → List KnownSet
others_than name sets = filter (λ set. not (is_same set.name name)) sets
