use Rattle.z_ber.proofs.ValueLaws.{bool_octets-one, int_octets-one, bits_octets-one, oid_octets-one}
use Rattle.z_ber.proofs.laws.one_value.Goals as goal

pub returns : goal.returns
returns c = record {
  boolean = λ a b _ _ e. bool_octets-one a b e;
  integer = λ a b _ _ e. int_octets-one a b e;
  bits = λ a b _ _ e. bits_octets-one a b e;
  oid = oid_octets-one;
}
