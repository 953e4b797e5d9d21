-- For contracts alone: what reading a header answers: X.690:2021, 8.1.2 and 8.1.3.
use Rattle.std.specs.Prelude.{ℕ, ◌≤◌, List, length, take, Result, Ok, Err}
use Rattle.z_ber.specs.declared.fault.BerFault.{BerFault}
use Rattle.z_ber.specs.declared.fault.BerFault.TheVariants.{Short, BadTag, BadLength, TooLarge, TooDeep}
use Rattle.z_ber.specs.declared.tag.Header.{Header}
use Rattle.z_ber.specs.Header.{IsHeader, Begins, IsOpenFor, IsBadFor, IsIdentifier, IsSomeHeader}

-- the header that the octets begin with; or they are open; or they begin with no tag, however they
-- go on; or with a tag and no length
abbrev pub IsHeaderAnswer : List ℕ → Result Header BerFault → Type 0
IsHeaderAnswer bytes (Ok header) =
    (header.size ≤ length bytes) × IsHeader (take header.size bytes) header.tag header.length
IsHeaderAnswer bytes (Err Short) = IsOpenFor IsSomeHeader bytes
IsHeaderAnswer bytes (Err BadTag) = IsBadFor IsIdentifier bytes
IsHeaderAnswer bytes (Err BadLength) = Begins IsIdentifier bytes × IsBadFor IsSomeHeader bytes
IsHeaderAnswer bytes (Err (TooLarge n)) = ⊥
IsHeaderAnswer bytes (Err TooDeep) = ⊥
