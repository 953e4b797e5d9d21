-- What an element at the root of a unit is read as is what the unit's tree is read as.
use Rattle.std.proofs.Common.{◌≡◌, ◌∙◌, ℕ, List, Result, Err, sym, ap}
use Rattle.z_ber.specs.Element.{Forest}
use Rattle.unit_forms.specs.declared.refusal.Refusal.{Refusal}
use Rattle.unit_forms.specs.declared.refusal.Refusal.TheVariants.{UnknownUnit, Missing, BadValue, LeftOut}
use Rattle.unit_forms.specs.Reading.Answers.{read_or}
use Rattle.unit_forms.specs.Reading.Elements.{Field, first_element}
use Rattle.z_fields.specs.Trees.{IsRootOf}
use Rattle.z_read.specs.Fault.{fault_of}
use Rattle.z_read.specs.Read.{IsReadAs, IsReadingBy}

-- a value that is read of the root
pub read_root : {A : Type 0} (value : Field → Result A Refusal) (octets : List ℕ) (field : Field) (read : Result A Refusal) → IsRootOf octets field → read ≡ value field → IsReadAs (λ tree. read_or (UnknownUnit 0) value (first_element tree)) octets read
read_root value octets field read root is =
    (root.0, root.1, ap (read_or (UnknownUnit 0) value) root.2 ∙ sym is)

-- and a refusal
pub refused_root : {A : Type 0} (value : Forest → Result A Refusal) (octets : List ℕ) (refusal : Refusal) → IsReadAs value octets (Err refusal) → IsReadingBy value octets (Err (fault_of refusal))
refused_root value octets (UnknownUnit n) is = is
refused_root value octets (Missing n) is = is
refused_root value octets (BadValue n) is = is
refused_root value octets (LeftOut n) is = is
