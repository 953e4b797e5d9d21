-- For contracts alone: what reading a unit answers: its tree's request or reply, or why there is
-- none (ANSI/NISO Z39.50-2003; X.690:2021, 8.1).
use Rattle.std.specs.Prelude.{◌≡◌, ℕ, List, Result, Ok, Err}
use Rattle.z_types.specs.declared.replies.Reply.{Reply}
use Rattle.z_types.specs.declared.requests.Request.{Request}
use Rattle.z_ber.specs.Element.{Forest}
use Rattle.z_ber.specs.Place.{IsUnit, IsUnitPlace}
use Rattle.unit_forms.specs.declared.refusal.Refusal.{Refusal}
use Rattle.unit_forms.specs.declared.refusal.Refusal.TheVariants as refusal
use Rattle.unit_forms.specs.Reading.Units.{request_in, reply_in}
use Rattle.z_read.specs.declared.fault.ReadFault.{ReadFault}
use Rattle.z_read.specs.declared.fault.ReadFault.TheVariants.{Ber, UnknownUnit, Missing, BadValue, LeftOut, Memory}

-- octets are a unit, and this is what its tree is read as
abbrev pub IsReadAs : {A : Type 0} → (Forest → Result A Refusal) → List ℕ
    → Result A Refusal → Type 0
IsReadAs value octets read = (tree : Forest) × IsUnit octets tree × (value tree ≡ read)

-- the value; or the place where octets are no unit; or the first refusal of the unit's tree; want
-- of memory has no cause
abbrev pub IsReadingBy : {A : Type 0} → (Forest → Result A Refusal) → List ℕ
    → Result A ReadFault → Type 0
IsReadingBy value octets (Ok read) = IsReadAs value octets (Ok read)
IsReadingBy value octets (Err (Ber at)) = IsUnitPlace octets at
IsReadingBy value octets (Err (UnknownUnit n)) = IsReadAs value octets (Err (refusal.UnknownUnit n))
IsReadingBy value octets (Err (Missing n)) = IsReadAs value octets (Err (refusal.Missing n))
IsReadingBy value octets (Err (BadValue n)) = IsReadAs value octets (Err (refusal.BadValue n))
IsReadingBy value octets (Err (LeftOut n)) = IsReadAs value octets (Err (refusal.LeftOut n))
IsReadingBy value octets (Err Memory) = Unit {0}

abbrev pub IsRequestRead : List ℕ → Result Request ReadFault → Type 0
IsRequestRead octets answer = IsReadingBy request_in octets answer

abbrev pub IsReplyRead : List ℕ → Result Reply ReadFault → Type 0
IsReplyRead octets answer = IsReadingBy reply_in octets answer
