-- what the definitions give at some test targets, worked out by hand
use Rattle.std.proofs.Common.{◌≡◌, ℕ, List, [], ◌∷◌, Some, None, Ok, Err, refl}
use Rattle.std.specs.Prelude.{codes}
use Rattle.std.specs.Fmt.{digits}
use Rattle.z_types.specs.Tree.{leaf}
use Rattle.z_types.specs.declared.address.Address.{Address}
use Rattle.z_types.specs.declared.address.Address.TheVariants.{Login}
use Rattle.z_types.specs.declared.address.Site.TheVariants as site
use Rattle.z_types.specs.declared.key.SetKey.{SetKey}
use Rattle.z_types.specs.declared.query.Term.TheVariants.{General}
use Rattle.z_types.specs.declared.records.Item.TheVariants.{Record, Surrogate}
use Rattle.z_types.specs.declared.records.Form.TheVariants.{Single, Octets}
use Rattle.z_types.specs.declared.scan.ScanAsk.{ScanAsk}
use Rattle.z_types.specs.Bib1.{bib1}
use Rattle.z_types.specs.declared.conditions.Condition.TheVariants.{TemporarySystemError, ElementSetNameNotValid, RecordSyntaxNotSupported}
use Rattle.test_target.specs.World.{record_of, search_of}
use Rattle.test_target.specs.Searches.{search_at}
use Rattle.test_target.specs.Records.{record_at}
use Rattle.test_target.specs.Syntaxes.{xml, sutrs}
use Rattle.test_target.specs.Scans.{first_term, position_among}

-- title, for a word
title : List ℕ → SetKey
title word = record {
  dbs = codes "Default" ∷ [];
  query = record { attr_set = 1 ∷ 2 ∷ []; root = leaf (record { set = None; kind = 1; value = 4 } ∷ []) (General word) };
}

three_of_twenty : search_at 0 (title (codes "a")) ≡ Ok 3
unfolding title
three_of_twenty = refl

first_is_4 : record_at 0 (title (codes "a")) 1 None None ≡ Ok (Record xml Octets (codes "<r>0.Default.4</r>"))
unfolding title digits
first_is_4 = refl

second_is_12 : record_at 0 (title (codes "a")) 2 (Some xml) (Some (codes "dc")) ≡ Ok (Record xml Octets (codes "<r>0.Default.12</r>"))
unfolding title digits
second_is_12 = refl

number_in_sutrs : record_at 0 (title (codes "a")) 3 (Some sutrs) (Some (codes "B")) ≡ Ok (Record sutrs Single (27 ∷ 2 ∷ codes "20"))
unfolding title digits
number_in_sutrs = refl

syntax_before_element : record_at 0 (title (codes "a")) 1 (Some (1 ∷ 2 ∷ 840 ∷ [])) (Some (codes "X")) ≡ Err (bib1 RecordSyntaxNotSupported (codes "1.2.840"))
unfolding title digits
syntax_before_element = refl

unknown_element : record_at 0 (title (codes "a")) 1 None (Some (codes "X")) ≡ Err (bib1 ElementSetNameNotValid (codes "X"))
unfolding title
unknown_element = refl

thirteenth_is_a_diagnostic : record_at 5 (title (codes "b")) 7 None None ≡ Ok (Surrogate (bib1 TemporarySystemError (codes "13")))
unfolding title digits
thirteenth_is_a_diagnostic = refl

-- a scan for five terms, of which the second is to be the asked one
scan_for : List ℕ → ScanAsk
scan_for word = record { attr_set = None; attrs = []; term = General word; step = None; number = 5; position = Some 2 }

begins_before : first_term (scan_for (codes "c")) ≡ 1
unfolding scan_for
begins_before = refl

asked_is_second : position_among (scan_for (codes "c")) 5 ≡ Some 2
unfolding scan_for
asked_is_second = refl

first_at_the_front : position_among (scan_for (codes "A")) 5 ≡ Some 1
unfolding scan_for
first_at_the_front = refl

past_the_end : position_among (scan_for (codes "zz")) 1 ≡ None
unfolding scan_for
past_the_end = refl

-- with the login of a VisibleString `a`, whose octets sum to 124, the target 0 answers as the target 5
with_login : Address
with_login = Login (site.Test 0) (26 ∷ 1 ∷ 97 ∷ [])

found_with_login : search_of with_login (title (codes "a")) ≡ Ok 3
unfolding title with_login
found_with_login = refl

first_with_login : record_of with_login (title (codes "a")) 1 None None ≡ Ok (Record xml Octets (codes "<r>5.Default.7</r>"))
unfolding title with_login digits
first_with_login = refl
