-- What is cut is the first records that fit, and one at least
use Rattle.std.proofs.Common.{◌≡◌, ◌∙◌, refl, ap, ℕ, ◌-◌, Bool, true, false, suc, cond, List, [], ◌∷◌, ◌≤◌, ◌==◌, map, take, length, max, nat_le, arith}
use Rattle.std.proofs.lemmas.List.{length-map}
use Rattle.z_types.specs.declared.records.NamedRecord.{NamedRecord}
use Rattle.unit_forms.specs.Records.{weight}
use Rattle.z_types.specs.declared.outcome.Fetched.{Fetched}
use Rattle.z_types.specs.declared.outcome.Fetched.TheVariants as fetched
use Rattle.gateway_rules.specs.Cut.{preferred_size, as_given, fitting, some_of, cut, cut_of}
use Rattle.gateway_rules.specs.Given.{returned}
use Rattle.gateway_rules.specs.declared.sizes.Sizes.{Sizes}

-- those that fit are the first
fitting-take : (room : ℕ) (records : List NamedRecord) → take (length (fitting room records)) records ≡ fitting room records
fitting-take room [] = refl
fitting-take room (first ∷ rest) = by (nat_le (weight first) room) (fitting-take (room - weight first) rest)
  where
    by : (b : Bool) → take (length (fitting (room - weight first) rest)) rest ≡ fitting (room - weight first) rest
        → take (length (cond b (first ∷ fitting (room - weight first) rest) [])) (first ∷ rest) ≡ cond b (first ∷ fitting (room - weight first) rest) []
    by true behind = ap (λ records. first ∷ records) behind
    by false behind = refl

at_least : (n : ℕ) → max (suc n) 1 ≡ suc n
at_least n = omega arith

some_first : (fit all : List NamedRecord) → take (length fit) all ≡ fit → take (max (length fit) 1) all ≡ some_of fit all
some_first [] all h = refl
some_first (first ∷ rest) all h = ap (λ n. take n all) (at_least (length rest)) ∙ h

-- as many as fit, and one at least
pub kept : (room count : ℕ) (records : List NamedRecord) → count ≡ length (fitting room records) → take (max count 1) records ≡ some_of (fitting room records) records
kept room count records e =
    ap (λ n. take (max n 1) records) e ∙ some_first (fitting room records) records (fitting-take room records)

-- ---- no more are given than were fetched

fitting-fewer : (room : ℕ) (records : List NamedRecord) → length (fitting room records) ≤ length records
fitting-fewer room [] = omega arith
fitting-fewer room (first ∷ rest) = by (nat_le (weight first) room) (fitting-fewer (room - weight first) rest)
  where
    by : (b : Bool) → length (fitting (room - weight first) rest) ≤ length rest
        → length (cond b (first ∷ fitting (room - weight first) rest) []) ≤ length (first ∷ rest)
    by true behind = omega (arith, behind)
    by false behind = omega arith

some-fewer : (fit all : List NamedRecord) → length fit ≤ length all → length (some_of fit all) ≤ length all
some-fewer [] [] h = omega arith
some-fewer [] (first ∷ rest) h = omega arith
some-fewer (first ∷ rest) all h = h

cut-fewer : (sizes : Sizes) (asked : ℕ) (records : List NamedRecord) → length (cut sizes asked records) ≤ length records
cut-fewer sizes asked records =
    let given = map (as_given sizes (asked == 1)) records in
    let some = some-fewer (fitting (preferred_size sizes) given) given (fitting-fewer (preferred_size sizes) given) in
    omega (arith, some, length-map records (as_given sizes (asked == 1)))

pub fewer : (sizes : Sizes) (asked : ℕ) (given records : Fetched) → given ≡ cut_of sizes asked records → returned given ≤ returned records
fewer sizes asked given fetched.None e = rw e (omega arith)
fewer sizes asked given (fetched.Records records) e = rw e (cut-fewer sizes asked records)
fewer sizes asked given (fetched.Whole diag) e = rw e (omega arith)
