use Rattle.std.proofs.Common.{◌≡◌, ◌^◌, ◌∙◌, true, sym, arith}
use Rattle.std.proofs.Math.Bool.{and-true}
use Rattle.z_types.specs.Oid.{has_root}
use Rattle.z_types.proofs.ListAllLemmas.{list_all-below}
use Rattle.z_types.proofs.oid.is_oid.Goals as goal

pub returns-then-has_root : goal.returns-then-has_root
returns-then-has_root c =
    let root : has_root c.args.arcs.now ≡ true = sym c.has_root.ensures ∙ c.if-has_root.true in
    let small = list_all-below (2 ^ 32) c.args.arcs.now (λ k. omega (arith, c.type_inv.arcs k)) in
    rw (root, small) (sym (and-true _))
