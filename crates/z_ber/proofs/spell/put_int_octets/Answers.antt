use Rattle.std.proofs.Common.{◌≡◌, ◌-◌, ◌∙◌, map, ap, sym, w64, arith}
use Rattle.std.proofs.lemmas.Int.{ints, to_z-of_z}
use Rattle.z_ber.specs.Written.{natural_octets, magnitude, int_octets}
use Rattle.z_ber.proofs.IntOctets.{int_octets-natural, int_octets-turned}
use Rattle.z_ber.proofs.spell.put_int_octets.Goals as goal

pub returns-then-value-ge0-clause-ok : goal.returns-then-value-ge0-clause-ok
returns-then-value-ge0-clause-ok c =
    let m : c.magnitude.result ≡ magnitude c.args.value = c.magnitude.ensures ∙ ap magnitude (to_z-of_z w64 c.args.value c.ranges.value) in
    let e : int_octets c.args.value ≡ natural_octets c.magnitude.result = int_octets-natural c.args.value (search (arith, ints)) ∙ ap natural_octets (sym m) in
    rw e c.put_natural.ensures.ok

pub returns-else-value-ge0-clause-ok : goal.returns-else-value-ge0-clause-ok
returns-else-value-ge0-clause-ok c =
    let m : c.magnitude-else-value-ge0.result ≡ magnitude c.args.value = c.magnitude-else-value-ge0.ensures ∙ ap magnitude (to_z-of_z w64 c.args.value c.ranges.value) in
    let e : int_octets c.args.value ≡ map (λ octet. 255 - octet) (natural_octets c.magnitude-else-value-ge0.result) =
    int_octets-turned c.args.value (search (arith, ints)) ∙ ap (λ n. map (λ octet. 255 - octet) (natural_octets n)) (sym m)
    in
    rw e c.put_turned_natural.ensures.ok
