-- Octets are read as one request, or as none.
use Rattle.std.proofs.Common.{◌≡◌, ℕ, [], List, Some, None, Ok, refl, sym, ap, ◌∙◌}
use Rattle.z_ber.specs.Element.{Forest}
use Rattle.z_ber.specs.Place.{IsUnit}
use Rattle.z_ber.proofs.TreeLaws.{element_one}
use Rattle.unit_forms.specs.Reading.Units.{request_in}
use Rattle.gateway_rules.specs.OneAnswer.{HasOneReading}

-- a unit has one tree
tree-one : (octets : List ℕ) (s t : Forest) → IsUnit octets s → IsUnit octets t → s ≡ t
tree-one octets s t p q = (element_one s t 64 64 octets octets [] [] p.element q.element refl).1

-- octets are read as one request, or as none
pub reading-one : HasOneReading
reading-one octets (Some p) (Some q) a b =
    let read : Ok p ≡ Ok q = sym a.2 ∙ ap request_in (tree-one octets a.0 b.0 a.1 b.1) ∙ b.2 in
    cc
reading-one octets (Some p) None a b = absurd (b a.0 p a.1 a.2)
reading-one octets None (Some q) a b = absurd (a b.0 q b.1 b.2)
reading-one octets None None a b = refl
