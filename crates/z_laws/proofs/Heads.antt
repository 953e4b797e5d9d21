-- The header of an element that is written.
use Rattle.std.proofs.Common.{ℕ, ◌^◌, ◌<◌, Bool, lit≤, inl, inr, List, ◌++◌, length, Some, sym, arith, refl}
use Rattle.std.specs.Int.Digits.{digits_of}
use Rattle.std.proofs.lemmas.Int.Digits.{number_digits_of, all_below_base_digits_of, length-digits_of-le}
use Rattle.std.proofs.lemmas.Bool.{cases_lt}
use Rattle.z_ber.specs.declared.tag.Tag.{Tag}
use Rattle.z_ber.specs.Header.{IsHeader, IsLength}
use Rattle.z_ber.specs.Written.{IsTag, tag_octets, length_octets}
use Rattle.z_ber.proofs.DigitSteps.{has_digit}
use Rattle.z_ber.proofs.ElementLaws.{length_octets-short, length_octets-long}

length_octets-is : (c : Bool) (n : ℕ) → n < 2 ^ 64 → IsLength c (length_octets n) (Some n)
length_octets-is c n lt =
    elim (cases_lt n 128) [
      | inl low ↦ inl (low, length_octets-short n low)
      | inr big ↦ inr (record {
        digits = digits_of 256 n;
        below = all_below_base_digits_of 256 n (lit≤ tt);
        some = has_digit 256 n (lit≤ tt) (omega arith);
        few = length-digits_of-le 256 8 n (lit≤ tt) (omega (arith, lt));
        number = sym (number_digits_of 256 n (lit≤ tt));
        spelled = length_octets-long n big;
      })
    ]

-- the header of a written element
abbrev pub head_of : Tag → List ℕ → List ℕ
head_of tag contents = tag_octets tag ++ length_octets (length contents)

pub header-is : (tag : Tag) (contents : List ℕ) → IsTag tag → length contents < 2 ^ 64 → IsHeader (head_of tag contents) tag (Some (length contents))
header-is tag contents valid lt = record {
  valid = valid;
  ends = length_octets (length contents);
  lengths = length_octets-is tag.constructed (length contents) lt;
  spelled = refl;
}
