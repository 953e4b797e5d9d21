-- Octets have one answer other than want of memory.
use Rattle.std.proofs.Common.{◌≡◌, ◌⊎◌, inl, inr, ◌∙◌, ℕ, List, [], Result, Ok, Err, refl, sym, ap}
use Rattle.z_types.specs.OneValue.{HasOneReading}
use Rattle.z_ber.specs.Element.{Forest}
use Rattle.z_ber.specs.Place.{IsUnit, IsUnitPlace}
use Rattle.z_ber.proofs.OnePlace.{unit_no_place, unit_one_place}
use Rattle.z_ber.proofs.TreeLaws.{element_one}
use Rattle.unit_forms.specs.declared.refusal.Refusal.{Refusal}
use Rattle.unit_forms.specs.declared.refusal.Refusal.TheVariants as refusal
use Rattle.z_read.specs.declared.fault.ReadFault.{ReadFault}
use Rattle.z_read.specs.declared.fault.ReadFault.TheVariants.{Ber, UnknownUnit, Missing, BadValue, LeftOut, Memory}
use Rattle.z_read.specs.Fault.{fault_of}
use Rattle.z_read.specs.Laws.{IsAnswer}
use Rattle.z_read.specs.Read.{IsReadAs, IsReadingBy}

-- the answer that a reading of a tree is
abbrev pub answer_of : {A : Type 0} → Result A Refusal → Result A ReadFault
answer_of (Ok read) = Ok read
answer_of (Err r) = Err (fault_of r)

-- the answer tells a place
pub record TellsPlace {A : Type 0} (octets : List ℕ) (answer : Result A ReadFault) : Type 0 where
  pub at : ℕ
  pub place : IsUnitPlace octets at
  pub is : answer ≡ Err (Ber at)

-- the answer tells what the tree is read as
pub record TellsTree {A : Type 0} (value : Forest → Result A Refusal) (octets : List ℕ) (answer : Result A ReadFault) : Type 0 where
  pub tree : Forest
  pub unit : IsUnit octets tree
  pub is : answer ≡ answer_of (value tree)

of_tree : {A : Type 0} (value : Forest → Result A Refusal) (octets : List ℕ) (read : Result A Refusal) (answer : Result A ReadFault) → answer ≡ answer_of read → IsReadAs value octets read → TellsTree value octets answer
of_tree value octets read answer e (tree, unit, is) = record { tree = tree; unit = unit; is = e ∙ ap answer_of (sym is) }

-- every answer but want of memory tells one of them
pub told : {A : Type 0} (value : Forest → Result A Refusal) (octets : List ℕ) (answer : Result A ReadFault) → IsAnswer (IsReadingBy value) octets answer → TellsPlace octets answer ⊎ TellsTree value octets answer
told value octets (Ok read) (some, is) = inr (of_tree value octets (Ok read) (Ok read) refl is)
told value octets (Err (Ber at)) (some, is) = inl (record { at = at; place = is; is = refl })
told value octets (Err (UnknownUnit n)) (some, is) = inr (of_tree value octets (Err (refusal.UnknownUnit n)) _ refl is)
told value octets (Err (Missing n)) (some, is) = inr (of_tree value octets (Err (refusal.Missing n)) _ refl is)
told value octets (Err (BadValue n)) (some, is) = inr (of_tree value octets (Err (refusal.BadValue n)) _ refl is)
told value octets (Err (LeftOut n)) (some, is) = inr (of_tree value octets (Err (refusal.LeftOut n)) _ refl is)
told value octets (Err Memory) (some, is) = absurd (some refl)

same : {A : Type 0} (value : Forest → Result A Refusal) (octets : List ℕ) (a b : Result A ReadFault) → TellsPlace octets a ⊎ TellsTree value octets a → TellsPlace octets b ⊎ TellsTree value octets b → a ≡ b
same value octets a b (inl p) (inl q) = p.is ∙ ap (λ at. Err (Ber at)) (unit_one_place octets p.at q.at p.place q.place) ∙ sym q.is
same value octets a b (inl p) (inr q) = absurd (unit_no_place octets q.tree p.at q.unit p.place)
same value octets a b (inr p) (inl q) = absurd (unit_no_place octets p.tree q.at p.unit q.place)
same value octets a b (inr p) (inr q) =
    let one = element_one p.tree q.tree 64 64 octets octets [] [] p.unit.element q.unit.element refl in
    p.is ∙ ap (λ tree. answer_of (value tree)) one.1 ∙ sym q.is

pub one_answer : {A : Type 0} (value : Forest → Result A Refusal) → HasOneReading (IsAnswer (IsReadingBy value))
one_answer value octets a b first second = same value octets a b (told value octets a first) (told value octets b second)
