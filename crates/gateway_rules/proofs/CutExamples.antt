-- Cuts that were worked out by hand, as equations about the definitions (ANSI/NISO Z39.50-2003, 3.3.3)
use Rattle.std.proofs.Common.{◌≡◌, ℕ, [], ◌∷◌, Some, codes, refl}
use Rattle.std.specs.Prelude.{replicate}
use Rattle.std.specs.Fmt.{decimal, digits}
use Rattle.z_types.specs.declared.records.Form.TheVariants.{Octets}
use Rattle.z_types.specs.declared.records.Item.TheVariants.{Record, Surrogate}
use Rattle.z_types.specs.declared.records.NamedRecord.{NamedRecord}
use Rattle.z_ber.specs.Written.{element, tag_octets, length_octets, oid_octets, septets, int_octets, natural_octets}
use Rattle.unit_forms.specs.Records.{weight, named_octets, item_octets, diag_fields}
use Rattle.gateway_rules.specs.Cut.{cut}
use Rattle.gateway_rules.specs.declared.sizes.Sizes.{Sizes}

-- a record in XML of the database `Default`
xml : ℕ → NamedRecord
xml octets =
    record { name = Some (codes "Default"); item = Record (1 ∷ 2 ∷ 840 ∷ 10003 ∷ 5 ∷ 109 ∷ 10 ∷ []) Octets (replicate octets 97) }

-- a surrogate diagnostic in its place
no_record : ℕ → ℕ → NamedRecord
no_record condition weighed =
    record {
      name = Some (codes "Default");
      item = Surrogate (record { set = 1 ∷ 2 ∷ 840 ∷ 10003 ∷ 4 ∷ 1 ∷ []; condition = condition; addinfo = decimal weighed });
    }

of_sizes : ℕ → ℕ → Sizes
of_sizes preferred exceptional = record { preferred = preferred; exceptional = exceptional }

-- 1100 octets weigh 1139
heavy_weighs : weight (xml 1100) ≡ 1139
unfolding named_octets item_octets xml element tag_octets length_octets oid_octets septets
heavy_weighs = refl

-- it is too heavy for both sizes of 100, which count as 1024
above_both : cut (of_sizes 100 100) 2 (xml 1100 ∷ xml 10 ∷ []) ≡ no_record 17 1139 ∷ xml 10 ∷ []
unfolding named_octets item_octets diag_fields xml no_record of_sizes element tag_octets length_octets oid_octets septets int_octets natural_octets digits
above_both = refl

-- so is it when it is asked for alone
above_both_alone : cut (of_sizes 100 100) 1 (xml 1100 ∷ []) ≡ no_record 17 1139 ∷ []
unfolding named_octets item_octets diag_fields xml no_record of_sizes element tag_octets length_octets oid_octets septets int_octets natural_octets digits
above_both_alone = refl

-- but not for an exceptional size of 2000, beside which it stays where it is asked for alone
alone : cut (of_sizes 100 2000) 1 (xml 1100 ∷ []) ≡ xml 1100 ∷ []
unfolding named_octets item_octets diag_fields xml no_record of_sizes element tag_octets length_octets oid_octets septets int_octets natural_octets digits
alone = refl

beside_another : cut (of_sizes 100 2000) 2 (xml 1100 ∷ xml 10 ∷ []) ≡ no_record 16 1139 ∷ xml 10 ∷ []
unfolding named_octets item_octets diag_fields xml no_record of_sizes element tag_octets length_octets oid_octets septets int_octets natural_octets digits
beside_another = refl

-- where more than one is asked for, the one that came isn't alone
one_of_two : cut (of_sizes 100 2000) 2 (xml 1100 ∷ []) ≡ no_record 16 1139 ∷ []
unfolding named_octets item_octets diag_fields xml no_record of_sizes element tag_octets length_octets oid_octets septets int_octets natural_octets digits
one_of_two = refl

-- the prefix ends at the first that no longer fits, though a later one would
the_first_that_fit : cut (of_sizes 1024 1024) 3 (xml 500 ∷ xml 600 ∷ xml 10 ∷ []) ≡ xml 500 ∷ []
unfolding named_octets item_octets diag_fields xml no_record of_sizes element tag_octets length_octets oid_octets septets int_octets natural_octets digits
the_first_that_fit = refl

-- a surrogate diagnostic weighs too: what would fit alone doesn't beside it
the_place_weighs : cut (of_sizes 1024 1024) 2 (xml 1100 ∷ xml 970 ∷ []) ≡ no_record 17 1139 ∷ []
unfolding named_octets item_octets diag_fields xml no_record of_sizes element tag_octets length_octets oid_octets septets int_octets natural_octets digits
the_place_weighs = refl

-- exactly the size fits
to_the_brim : cut (of_sizes 1024 1024) 2 (xml 985 ∷ xml 10 ∷ []) ≡ xml 985 ∷ []
unfolding named_octets item_octets diag_fields xml no_record of_sizes element tag_octets length_octets oid_octets septets int_octets natural_octets digits
to_the_brim = refl
