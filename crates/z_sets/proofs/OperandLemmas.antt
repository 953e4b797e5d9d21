-- What an operand that is a result set becomes, and the fault of one that cannot
use Rattle.std.proofs.Common.{◌≡◌, ℕ, List, [], find, map, option_map, Bool, true, false, cond, Option, None, Some, Result, Ok, Err}
use Rattle.z_types.specs.declared.known_set.KnownSet.{KnownSet}
use Rattle.z_types.specs.Tree.{Tree, operand}
use Rattle.z_types.specs.Same.{is_same}
use Rattle.z_sets.specs.Sets.{stored}
use Rattle.z_sets.specs.Expansion.{substituted, in_place_of, inside}
use Rattle.z_sets.specs.Measured.{IsOrMemory, expansion_measures, measures_in}
use Rattle.z_sets.specs.Operands.{set_for, IsLentOrMemory}
use Rattle.z_sets.specs.declared.fault.ExpandFault.{ExpandFault}
use Rattle.z_sets.specs.declared.fault.ExpandFault.TheVariants.{UnknownSet, OtherLegs, TooLarge, TooDeep, TooCostly, Memory}
use Rattle.z_sets.proofs.SetLemmas.{set_named-map-stored}

-- what has the fault of another, where that was told
pub told_as : {A B : Type 0} (wanted : Result A ExpandFault) (whole : Result B ExpandFault) (fault : ExpandFault) → IsLentOrMemory wanted (Err fault) → ((f : ExpandFault) → wanted ≡ Err f → whole ≡ Err f) → IsOrMemory whole (Err fault)
told_as wanted whole (UnknownSet name) h e = let q = e _ h in cc
told_as wanted whole (OtherLegs name) h e = let q = e _ h in cc
told_as wanted whole (TooLarge n) h e = let q = e _ h in cc
told_as wanted whole (TooDeep n) h e = let q = e _ h in cc
told_as wanted whole (TooCostly n) h e = let q = e _ h in cc
told_as wanted whole Memory h e = tt

placed : (b : Bool) (name : List ℕ) (set : KnownSet) (tree : Tree) (fault : ExpandFault) → cond b (Ok set) (Err (OtherLegs name)) ≡ Err fault → cond b (Ok tree) (Err (OtherLegs name)) ≡ Err fault
placed true name set tree fault h = cc
placed false name set tree fault h = cc

not_placed : (arcs legs name : List ℕ) (found : Option KnownSet) (fault : ExpandFault) → set_for name legs found ≡ Err fault → in_place_of arcs legs name (option_map stored found) ≡ Err fault
not_placed arcs legs name None fault h = cc
not_placed arcs legs name (Some set) fault h = placed (is_same set.legs legs) name set (inside arcs set.query) fault h

not_substituted : (arcs legs : List ℕ) (sets : List KnownSet) (name : List ℕ) (fault : ExpandFault) → set_for name legs (find (λ set. is_same set.name name) sets) ≡ Err fault → substituted arcs legs (map stored sets) (operand name) ≡ Err fault
not_substituted arcs legs sets name fault h =
    rw (set_named-map-stored name sets) (not_placed arcs legs name (find (λ set. is_same set.name name) sets) fault h)

-- an operand whose set there is not, or is one of other legs
pub operand_faults : (arcs legs : List ℕ) (sets : List KnownSet) (name : List ℕ) (fault : ExpandFault) → IsLentOrMemory (set_for name legs (find (λ set. is_same set.name name) sets)) (Err fault) → IsOrMemory (substituted arcs legs (map stored sets) (operand name)) (Err fault)
operand_faults arcs legs sets name fault h =
    told_as (set_for name legs (find (λ set. is_same set.name name) sets)) (substituted arcs legs (map stored sets) (operand name)) fault h (not_substituted arcs legs sets name)

placed_ok : (b : Bool) (name : List ℕ) (other set : KnownSet) (arcs : List ℕ) → cond b (Ok other) (Err (OtherLegs name)) ≡ Ok set → cond b (Ok (inside arcs other.query)) (Err (OtherLegs name)) ≡ Ok (inside arcs set.query)
placed_ok true name other set arcs h = cc
placed_ok false name other set arcs h = cc

placed_known : (arcs legs name : List ℕ) (found : Option KnownSet) (set : KnownSet) → set_for name legs found ≡ Ok set → in_place_of arcs legs name (option_map stored found) ≡ Ok (inside arcs set.query)
placed_known arcs legs name None set h = cc
placed_known arcs legs name (Some other) set h = placed_ok (is_same other.legs legs) name other set arcs h

-- an operand whose set is one of these legs
pub operand_placed : (arcs legs : List ℕ) (sets : List KnownSet) (name : List ℕ) (set : KnownSet) → set_for name legs (find (λ set. is_same set.name name) sets) ≡ Ok set → substituted arcs legs (map stored sets) (operand name) ≡ Ok (inside arcs set.query)
operand_placed arcs legs sets name set h =
    rw (set_named-map-stored name sets) (placed_known arcs legs name (find (λ set. is_same set.name name) sets) set h)

not_measured : (tree : Result Tree ExpandFault) (fault : ExpandFault) → tree ≡ Err fault → measures_in tree ≡ Err fault
not_measured (Ok tree) fault h = cc
not_measured (Err other) fault h = cc

-- and its measures
pub operand_measure_faults : (legs : List ℕ) (sets : List KnownSet) (name : List ℕ) (fault : ExpandFault) → IsLentOrMemory (set_for name legs (find (λ set. is_same set.name name) sets)) (Err fault) → IsOrMemory (expansion_measures legs sets (operand name)) (Err fault)
operand_measure_faults legs sets name fault h =
    told_as (set_for name legs (find (λ set. is_same set.name name) sets)) (expansion_measures legs sets (operand name)) fault h
    (λ f e. not_measured (substituted [] legs (map stored sets) (operand name)) f (not_substituted [] legs sets name f e))
