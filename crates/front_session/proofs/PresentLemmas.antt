-- What the checks of a Present keep
use Rattle.std.proofs.Common.{◌≡◌, subst, ℕ, Bool, true, false, cond, List, [], ◌∷◌, find, All, Option, Some}
use Rattle.std.specs.List.{AllByRecursion}
use Rattle.std.proofs.lemmas.List.Elements.{recursion_from_All}
use Rattle.z_types.specs.declared.known_set.KnownSet.{KnownSet}
use Rattle.z_types.specs.Same.{is_same}
use Rattle.front_session.specs.Presents.{IsNamed}
use Rattle.front_session.specs.Sessions.{IsKeptSet}

first_keeps : {X : Type 0} (P : X → Type 0) (b : Bool) (y x : X) (rest : Option X) → P y → (rest ≡ Some x → P x) → cond b (Some y) rest ≡ Some x → P x
first_keeps P true y x rest here there h = let same : y ≡ x = cc in subst P same here
first_keeps P false y x rest here there h = there h

-- what is found is one of those that keep this
found_keeps : {X : Type 0} (P : X → Type 0) (test : X → Bool) (xs : List X) (x : X) → AllByRecursion P xs → find test xs ≡ Some x → P x
found_keeps P test [] x all h = absurd cc
found_keeps P test (y ∷ ys) x all h =
    first_keeps P (test y) y x (find test ys) all.0 (found_keeps P test ys x all.1) h

-- the set of a name has its hits
pub named_keeps : (sets : List KnownSet) (name : List ℕ) (set : KnownSet) → All IsKeptSet sets → IsNamed sets name set → IsKeptSet set
named_keeps sets name set all h =
    found_keeps IsKeptSet (λ one. is_same one.name name) sets set (recursion_from_All IsKeptSet sets all) h.known
