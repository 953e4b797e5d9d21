-- The first of whole elements is lent, and the others are left.
use Rattle.std.proofs.Common.{◌≡◌, ◌==◌, ◌≢◌, ◌∙◌, ℕ, Bool, true, false, List, [], ◌∷◌, length, Option, Some, None, Result, Ok, Err, sym, ap, subst, refl, append-nil, arith}
use Rattle.std.proofs.lemmas.Bool.Decides.{nat_tests}
use Rattle.z_ber.specs.declared.fault.BerFault.{BerFault}
use Rattle.z_ber.specs.declared.tag.Tag.{Tag}
use Rattle.z_ber.specs.Element.{Forest, none, leaf, branch, AreElements, IsElement}
use Rattle.z_ber.specs.Lent.{Lent, IsFirst, IsNext}
use Rattle.z_ber.specs.LentTree.{LendsFirst, LendsNext, IsNextOf, IsLeafLent, IsBranchLent, IsLentAs}
use Rattle.z_ber.specs.Place.{IsUnit, IsUnitAnswer}
use Rattle.unit_forms.specs.Reading.Elements.{Field, field_of, first_element, other_elements}
use Rattle.z_fields.specs.Trees.{AreWhole, IsWholeLent, elements_in, seen, left_in, IsTaken, IsRootOf}
use Rattle.z_fields.proofs.TreeLemmas.{elements_in-are}

abbrev IsTakenBy : Lent → Lent → Result (Option Lent) BerFault → Type 0
IsTakenBy old new (Ok child) = IsTaken old new child
IsTakenBy old new (Err fault) = ⊥

same_field : (s t : Tag) (b c : List ℕ) (i j : Forest) → s ≡ t → b ≡ c → i ≡ j → field_of s b i ≡ field_of t c j
same_field s t b c i j p q r = cc

-- what a primitive element is seen as
seen_leaf : (levels : ℕ) (child : Lent) (t : Tag) (c : List ℕ) → IsLeafLent levels child t c → seen child ≡ field_of t c none
seen_leaf levels child t c l =
    same_field child.tag t child.body c _ _ l.tagged l.filled (elements_in-are none false child.levels child.left l.childless)

-- what a constructed one is seen as
seen_branch : (levels : ℕ) (child : Lent) (t : Tag) (c : List ℕ) (is : Forest) → IsBranchLent levels child t c is → seen child ≡ field_of t c is
seen_branch levels child t c is b =
    same_field child.tag t child.body c _ _ b.tagged b.filled (elements_in-are is b.within child.levels child.left (subst (λ (o : List ℕ). AreElements b.within child.levels o is) (sym b.whole) b.holds))

whole_leaf : (levels : ℕ) (child : Lent) (t : Tag) (c : List ℕ) → IsLeafLent levels child t c → AreWhole child.levels child.left
whole_leaf levels child t c l = (false, none, l.childless)

whole_branch : (levels : ℕ) (child : Lent) (t : Tag) (c : List ℕ) (is : Forest) → IsBranchLent levels child t c is → AreWhole child.levels child.left
whole_branch levels child t c is b = (b.within, is, subst (λ (o : List ℕ). AreElements b.within child.levels o is) (sym b.whole) b.holds)

-- the elements behind stand one level up
levels_moved : (w : Bool) (k m : ℕ) (o : List ℕ) (os : Forest) → k ≡ m → AreElements w k o os → AreElements w m o os
levels_moved w k m o os e a = subst (λ (j : ℕ). AreElements w j o os) e a

some_taken : (old new child : Lent) (w : Bool) (forest os : Forest) (f : Field) → left_in old ≡ forest → Some f ≡ first_element forest → os ≡ other_elements forest → seen child ≡ f → AreWhole child.levels child.left → AreElements w old.levels new.left os → IsNext old new (Ok (Some child)) → IsTaken old new (Some child)
some_taken old new child w forest os f was first others is whole behind next =
    let level : old.levels ≡ new.levels = sym (ap (λ (l : Lent). l.levels) next.1) in
    let are = levels_moved w old.levels new.levels new.left os level behind in (
      record {
        whole = (w, os, are);
        first-is = ap Some is ∙ first ∙ ap first_element (sym was);
        others-are = elements_in-are os w new.levels new.left are ∙ others ∙ ap other_elements (sym was);
      },
      record { whole = whole; fresh = next.0.children },
    )

none_taken : (old new : Lent) → left_in old ≡ none → new ≡ old → AreWhole old.levels old.left → IsTaken old new None
none_taken old new was same whole = record {
  whole = subst (λ (l : Lent). AreWhole l.levels l.left) (sym same) whole;
  first-is = ap first_element (sym was);
  others-are = ap left_in same ∙ was ∙ ap other_elements (sym was);
}

taken_of : (old new : Lent) (answer : Result (Option Lent) BerFault) (w : Bool) (forest : Forest) → AreElements w old.levels old.left forest → left_in old ≡ forest → IsNextOf w old new forest answer → IsNext old new answer → IsTakenBy old new answer
taken_of old new answer w none are was of next =
    let n = subst (λ (r : Result (Option Lent) BerFault). IsNext old new r) of next in
    subst (λ (r : Result (Option Lent) BerFault). IsTakenBy old new r) (sym of) (none_taken old new was n.1 (w, none, are))
taken_of old new answer w (leaf t c os) are was of next =
    let n = subst (λ (r : Result (Option Lent) BerFault). IsNext old new r) of.answered next in
    subst (λ (r : Result (Option Lent) BerFault). IsTakenBy old new r) (sym of.answered) (some_taken old new of.child w (leaf t c os) os (field_of t c none) was refl refl (seen_leaf old.levels of.child t c of.first) (whole_leaf old.levels of.child t c of.first) of.behind n)
taken_of old new answer w (branch t c is os) are was of next =
    let n = subst (λ (r : Result (Option Lent) BerFault). IsNext old new r) of.answered next in
    subst (λ (r : Result (Option Lent) BerFault). IsTakenBy old new r) (sym of.answered) (some_taken old new of.child w (branch t c is os) os (field_of t c is) was refl refl (seen_branch old.levels of.child t c is of.first) (whole_branch old.levels of.child t c is of.first) of.behind n)

pub taken : (old new : Lent) (answer : Result (Option Lent) BerFault) → AreWhole old.levels old.left → IsNext old new answer → LendsNext old new answer → IsTakenBy old new answer
taken old new answer whole next tree =
    taken_of old new answer whole.0 whole.1 whole.2 (elements_in-are whole.1 whole.0 old.levels old.left whole.2) (tree whole.0 whole.1 whole.2) next

-- ---- the element that a unit is

pub record Root (octets : List ℕ) (lent : Lent) : Type 0 where
  pub whole : AreWhole lent.levels lent.left
  pub root : IsRootOf octets (seen lent)

pub root_of : (octets : List ℕ) (lent : Lent) → IsUnitAnswer octets (Ok lent) → Root octets lent
root_of octets lent answer = by answer.0 answer.1 answer.2
  where
    by : (tree : Forest) → IsUnit octets tree → IsLentAs 64 lent tree → Root octets lent
    by none unit stands = absurd stands
    by (leaf t c os) unit stands = record { whole = whole_leaf 64 lent t c stands; root = (leaf t c os, unit, ap Some (sym (seen_leaf 64 lent t c stands))) }
    by (branch t c is os) unit stands = record { whole = whole_branch 64 lent t c is stands; root = (branch t c is os, unit, ap Some (sym (seen_branch 64 lent t c is stands))) }

-- the same, of an answer that is known
pub taken-some : (old new : Lent) (o p : Option Lent) → o ≡ p → AreWhole old.levels old.left → IsNext old new (Ok o) → LendsNext old new (Ok o) → IsTaken old new p
taken-some old new o p e whole next tree =
    subst (λ (q : Option Lent). IsTaken old new q) e (taken old new (Ok o) whole next tree)

-- ---- the first of elements one after another

-- the first of them by itself is an element
leaf_alone : (w : Bool) (o : List ℕ) (t : Tag) (c : List ℕ) (os : Forest) (are : AreElements w 64 o (leaf t c os)) → IsElement 64 are.first (leaf t c none)
leaf_alone w o t c os are =
    (refl, record { first = are.first; others = []; here = are.here; apart = λ e. absurd cc; behind = refl; spelled = sym (append-nil are.first) })

branch_alone : (w : Bool) (o : List ℕ) (t : Tag) (c : List ℕ) (is os : Forest) (are : AreElements w 64 o (branch t c is os)) → IsElement 64 are.first (branch t c is none)
branch_alone w o t c is os are =
    (refl, record { first = are.first; others = []; here = are.here; apart = λ e. absurd cc; behind = refl; spelled = sym (append-nil are.first) })

ok_is : (a b : Lent) → ◌≡◌ {A = Result Lent BerFault} (Ok a) (Ok b) → a ≡ b
ok_is a b e = cc

pub record First (octets : List ℕ) (lent : Lent) : Type 0 where
  pub whole : IsWholeLent lent
  pub first : Some (seen lent) ≡ first_element (elements_in 64 octets)

pub first_in : (octets : List ℕ) (lent : Lent) → octets ≢ [] → AreWhole 64 octets → IsFirst octets (Ok lent) → LendsFirst octets (Ok lent) → First octets lent
first_in octets lent some elements answer tree = by elements.1 elements.2
  where
    by : (forest : Forest) → AreElements elements.0 64 octets forest → First octets lent
    by none are = absurd (some are)
    by (leaf t c os) are =
        let found = tree (leaf t c none) are.first are.others (leaf_alone elements.0 octets t c os are) are.spelled in
        let l = subst (λ (x : Lent). IsLeafLent 64 x t c) (sym (ok_is lent found.0 found.1)) found.2 in
        record {
          whole = record { whole = whole_leaf 64 lent t c l; fresh = answer.1.children };
          first = ap Some (seen_leaf 64 lent t c l) ∙ ap first_element (sym (elements_in-are (leaf t c os) elements.0 64 octets are));
        }
    by (branch t c is os) are =
        let found = tree (branch t c is none) are.first are.others (branch_alone elements.0 octets t c is os are) are.spelled in
        let b = subst (λ (x : Lent). IsBranchLent 64 x t c is) (sym (ok_is lent found.0 found.1)) found.2 in
        record {
          whole = record { whole = whole_branch 64 lent t c is b; fresh = answer.1.children };
          first = ap Some (seen_branch 64 lent t c is b) ∙ ap first_element (sym (elements_in-are (branch t c is os) elements.0 64 octets are));
        }

-- where there are some, the first of them is lent
pub never_refused : (octets : List ℕ) (fault : BerFault) → octets ≢ [] → AreWhole 64 octets → LendsFirst octets (Err fault) → ⊥
never_refused octets fault some elements tree = by elements.1 elements.2
  where
    by : (forest : Forest) → AreElements elements.0 64 octets forest → ⊥
    by none are = some are
    by (leaf t c os) are = let found = tree (leaf t c none) are.first are.others (leaf_alone elements.0 octets t c os are) are.spelled in absurd (cc)
    by (branch t c is os) are = let found = tree (branch t c is none) are.first are.others (branch_alone elements.0 octets t c is os are) are.spelled in absurd (cc)

is_nought : (n : ℕ) → (n == 0) ≡ true → n ≡ 0
is_nought n h = grind (arith, nat_tests)

pub none_first : (octets : List ℕ) → (length octets == 0) ≡ true → None ≡ first_element (elements_in 64 octets)
unfolding elements_in
none_first [] h = refl
none_first (octet ∷ octets) h = absurd (let e = is_nought (length (octet ∷ octets)) h in omega (arith, e))

pub some_are : (octets : List ℕ) → (length octets == 0) ≡ false → octets ≢ []
some_are [] h = absurd cc
some_are (octet ∷ octets) h = λ e. absurd cc
