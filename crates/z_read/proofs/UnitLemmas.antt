-- What a unit is read as is the only request that it is.
use Rattle.std.proofs.Common.{◌≢◌, ℕ, List, Some, None, Ok, Err}
use Rattle.z_types.specs.OneValue.{HasOneReading}
use Rattle.z_types.specs.declared.requests.Request.{Request}
use Rattle.unit_forms.specs.Reading.Units.{IsReading, IsOnlyReading}
use Rattle.z_read.specs.Laws.{IsAnswer}
use Rattle.z_read.specs.Read.{IsRequestRead}
use Rattle.z_read.specs.declared.fault.ReadFault.{ReadFault}
use Rattle.z_read.specs.declared.fault.ReadFault.TheVariants.{Memory}

-- octets that are refused for another reason than want of memory are read as none
pub not_read : (unit : List ℕ) (fault : ReadFault) → HasOneReading (IsAnswer IsRequestRead) → fault ≢ Memory
    → IsRequestRead unit (Err fault) → IsReading unit None
not_read unit fault one some refused tree request is e =
    let same = one unit (Ok request) (Err fault) ((λ h. cc), (tree, is, e)) ((λ h. some (cc)), refused) in
    absurd cc

pub only_read : (unit : List ℕ) (own : Request) → HasOneReading (IsAnswer IsRequestRead) → IsRequestRead unit (Ok own) → IsOnlyReading unit (Some own)
only_read unit own one read tree request is e =
    let same = one unit (Ok request) (Ok own) ((λ h. cc), (tree, is, e)) ((λ h. cc), read) in cc

pub none_read : (unit : List ℕ) (fault : ReadFault) → HasOneReading (IsAnswer IsRequestRead) → fault ≢ Memory → IsRequestRead unit (Err fault) → IsOnlyReading unit None
none_read unit fault one some refused tree request is e = absurd (not_read unit fault one some refused tree request is e)
