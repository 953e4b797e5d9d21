-- A Close that is written is read again.
use Rattle.std.proofs.Common.{◌≡◌, pos, Ok, lit<, refl}
use Rattle.z_types.specs.Numbers.{IsNumber}
use Rattle.z_types.specs.declared.requests.Close.{Close}
use Rattle.z_ber.specs.Element.{Forest, none, leaf, branch}
use Rattle.z_ber.specs.Written.{int_octets}
use Rattle.unit_forms.specs.Fields.{primitive, constructed}
use Rattle.unit_forms.specs.Requests.{close_fields, close_octets}
use Rattle.unit_forms.specs.Reading.Rows.{octets_of, number_of, required, optional}
use Rattle.unit_forms.specs.Reading.CloseUnit.{close_in}
use Rattle.z_laws.specs.Readable.{IsReadableClose}
use Rattle.z_laws.proofs.Beginning.{Spells}
use Rattle.z_laws.proofs.Forests.{joined}
use Rattle.z_laws.proofs.Lookup.{maybe_leaf, or_else-none, first_of-joined, first_of-maybe_leaf}
use Rattle.z_laws.proofs.Parts.{◌⊕◌, spells-primitive, spells-constructed, spells-maybe, number_once, octets_if}

-- the elements of a Close
abbrev pub close_forest : Close → Forest
close_forest close =
    joined (joined (maybe_leaf (primitive 2) (λ x. x) close.ref_id)
    (leaf (primitive 211) (int_octets (pos close.reason)) none))
    (maybe_leaf (primitive 3) (λ x. x) close.info)

spells-close_fields : (close : Close) → Spells (close_fields close) (close_forest close)
unfolding close_fields
spells-close_fields close =
    spells-maybe 2 (λ x. x) close.ref_id (lit< tt) ⊕ spells-primitive 211 _ (lit< tt) ⊕ spells-maybe 3 (λ x. x) close.info (lit< tt)

pub spells-close : (close : Close) → Spells (close_octets close) (branch (constructed 48) (close_fields close) (close_forest close) none)
spells-close close = spells-constructed 48 (close_fields close) (close_forest close) (lit< tt) (spells-close_fields close)

close-ref_id : (close : Close) → optional 2 octets_of (close_forest close) ≡ Ok close.ref_id
close-ref_id close = simp (first_of-joined, first_of-maybe_leaf, or_else-none) (octets_if 2 close.ref_id)

close-reason : (close : Close) → IsNumber close.reason → required 211 number_of (close_forest close) ≡ Ok close.reason
close-reason close small = simp (first_of-joined, first_of-maybe_leaf) (number_once 211 close.reason small)

close-info : (close : Close) → optional 3 octets_of (close_forest close) ≡ Ok close.info
close-info close = simp (first_of-joined, first_of-maybe_leaf) (octets_if 3 close.info)

pub close_in-again : (close : Close) → IsReadableClose close → close_in (close_forest close) ≡ Ok close
unfolding close_in
close_in-again close h = rw (close-ref_id close, close-reason close h, close-info close) refl
