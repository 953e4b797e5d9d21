use Rattle.std.proofs.Common.{◌≡◌, ℤ, subst, sym, w64, to_z, of_z, arith, rules}
use mir.Val.{SFits}
use Rattle.std.proofs.lemmas.Int.{to_z-of_z}
use Rattle.z_ber.proofs.IntReading.{int_at-found, int_at-none}
use Rattle.z_ber.proofs.values.int_of.Goals as goal

pub returns-in-Some : goal.returns-in-Some
returns-in-Some c =
    let fits : SFits w64 c.in-Some.value = search rules in
    let value : to_z w64 (of_z w64 c.in-Some.value) ≡ c.in-Some.value = to_z-of_z w64 c.in-Some.value fits in
    (subst (λ (z : ℤ). SFits w64 z) (sym value) fits, rw value (int_at-found c.args.contents.now c.in-Some.value (λ i. omega (arith, c.type_inv.contents i)) (sym c.in-Some.ensures)))

pub returns-in-None : goal.returns-in-None
returns-in-None c = λ value fits s. int_at-none c.args.contents.now value fits (sym c.in-None.ensures) s
