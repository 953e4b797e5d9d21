use Rattle.z_types.specs.ReadAs.{IsAny}
use Rattle.z_ber.specs.Values.{IsBits, IsInteger, IsOid}
use Rattle.z_ber.specs.Written.{bool_octets, int_octets, bits_octets, oid_octets}
use Rattle.z_ber.proofs.ValueLaws.{bool_octets-one, int_octets-one, bits_octets-one, oid_octets-one}
use Rattle.z_ber.proofs.WrittenLaws.{read_back}
use Rattle.z_ber.proofs.laws.reads_back.Goals as goal

pub returns : goal.returns
returns c = record {
  boolean = read_back IsAny bool_octets (λ a b _ _ e. bool_octets-one a b e);
  integer = read_back IsInteger int_octets (λ a b _ _ e. int_octets-one a b e);
  bits = read_back IsBits bits_octets (λ a b _ _ e. bits_octets-one a b e);
  oid = read_back IsOid oid_octets oid_octets-one;
}
