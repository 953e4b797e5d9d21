-- Replies whose written form is read (this project's own): their numbers are in the ranges that are
-- read, their object identifiers are some (X.660, 7.6), and they hold nothing that has no written
-- form.
use Rattle.std.specs.Prelude.{◌≡◌, ℕ, ◌<◌, List, length, None, IfSome, IsSome}
use Rattle.std.specs.List.{AllByRecursion}
use Rattle.z_types.specs.Numbers.{IsNumber}
use Rattle.z_types.specs.declared.diagnostic.Diag.{Diag}
use Rattle.z_types.specs.declared.records.Form.{Form}
use Rattle.z_types.specs.declared.records.Form.TheVariants.{Single, Octets, Arbitrary}
use Rattle.z_types.specs.declared.records.Item.{Item}
use Rattle.z_types.specs.declared.records.Item.TheVariants.{Record, Surrogate}
use Rattle.z_types.specs.declared.records.NamedRecord.{NamedRecord}
use Rattle.z_types.specs.declared.records.Body.{Body}
use Rattle.z_types.specs.declared.records.Body.TheVariants as body
use Rattle.z_types.specs.declared.replies.Reply.{Reply}
use Rattle.z_types.specs.declared.replies.Reply.TheVariants as reply
use Rattle.z_types.specs.declared.scan.ScanAnswer.{ScanAnswer}
use Rattle.z_types.specs.declared.scan.ScanEntry.{ScanEntry}
use Rattle.z_ber.specs.Element.{Forest, IsElement}
use Rattle.z_ber.specs.Values.{IsOid}
use Rattle.unit_forms.specs.Reading.Contents.{bits_in}
use Rattle.z_laws.specs.Readable.{IsReadableInit, IsReadableTerm, IsReadableClose}

-- a diagnostic
pub record IsReadableDiag (diag : Diag) : Type 0 where
  pub set : IsOid diag.set
  pub condition : IsNumber diag.condition

-- octets are one element, on any number of levels
abbrev pub IsOneElement : List ℕ → Type 0
IsOneElement octets = (levels : ℕ) × (tree : Forest) × IsElement levels octets tree

-- X.690, 8.18: octets are what their encoding holds: one element, any octets, or the contents of a
-- BIT STRING
abbrev pub IsEncoded : Form → List ℕ → Type 0
IsEncoded Single octets = IsOneElement octets
IsEncoded Octets octets = Unit {0}
IsEncoded Arbitrary octets = IsSome (bits_in octets)

-- a record, or a diagnostic in its place
abbrev pub IsReadableItem : Item → Type 0
IsReadableItem (Record syntax form octets) = IsOid syntax × IsEncoded form octets
IsReadableItem (Surrogate diag) = IsReadableDiag diag

-- the same, under any name
abbrev pub IsReadableNamed : NamedRecord → Type 0
IsReadableNamed named = IsReadableItem named.item

-- what a response has for records; an empty list of them is written as none are
abbrev pub IsReadableBody : Body → Type 0
IsReadableBody body.None = Unit {0}
IsReadableBody (body.Records records) =
    (0 < length records) × AllByRecursion IsReadableNamed records
IsReadableBody (body.Diag diag) = IsReadableDiag diag
IsReadableBody (body.Diags diags) = AllByRecursion IsReadableDiag diags

-- a term of an index
pub record IsReadableEntry (entry : ScanEntry) : Type 0 where
  pub term : IsReadableTerm entry.term
  pub occurrences : IfSome entry.occurrences IsNumber

-- the entries that a scan found
pub record IsReadableAnswer (answer : ScanAnswer) : Type 0 where
  pub position : IfSome answer.position IsNumber
  pub entries : AllByRecursion IsReadableEntry answer.entries

-- a reply; that to an Init has no login
abbrev pub IsReadableReply : Reply → Type 0
IsReadableReply (reply.Init init result) = IsReadableInit init × (init.login ≡ None)
IsReadableReply (reply.Search ref_id count returned next ok status body) =
    IsNumber count × IsNumber returned × IsNumber next × IfSome status IsNumber
    × IsReadableBody body
IsReadableReply (reply.Present ref_id returned next status body) =
    IsNumber returned × IsNumber next × IsNumber status × IsReadableBody body
IsReadableReply (reply.Scan ref_id status answer diags) =
    IsNumber status × IsReadableAnswer answer × AllByRecursion IsReadableDiag diags
IsReadableReply (reply.Close close) = IsReadableClose close
