use Rattle.std.proofs.Common.{◌≡◌, ◌∙◌, ap, length, w64}
use Rattle.std.proofs.lemmas.Int.{to_z-of_z}
use Rattle.z_ber.specs.Written.{natural_octets, magnitude}
use Rattle.z_ber.proofs.IntOctets.{length-int_octets}
use Rattle.z_ber.proofs.spell.int_len.Goals as goal

pub returns : goal.returns
returns c =
    let m : c.magnitude.result ≡ magnitude c.args.value = c.magnitude.ensures ∙ ap magnitude (to_z-of_z w64 c.args.value c.ranges.value) in
    length-int_octets c.args.value _ (c.natural_len.ensures ∙ ap (λ n. length (natural_octets n)) m)
