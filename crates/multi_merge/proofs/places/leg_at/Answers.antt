use Rattle.std.proofs.Common.{◌≡◌, ◌≤◌, ◌<◌, ℕ, List, length, drop, arith, ap, None, Some, get_or}
use Rattle.std.specs.Prelude.{slice_get}
use Rattle.std.proofs.Math.ListN.{drop_of_length-le}
use Rattle.std.proofs.lemmas.Option.{slice_get-get_or}
use Rattle.z_types.specs.MergedOrder.{Place, of_rank, of_rank_from}
use Rattle.multi_merge.proofs.places.leg_at.Goals as goal

-- no place is found behind the last leg
past : (hits : List ℕ) (rank leg left before : ℕ) → length hits ≤ leg
    → slice_get (of_rank_from leg (drop leg hits) rank) left ≡ slice_get (of_rank hits rank) before
    → before < length (of_rank hits rank) → ⊥
past hits rank leg left before all here within =
    let none : slice_get (of_rank_from leg (drop leg hits) rank) left ≡ None =
    ap (λ (others : List ℕ). slice_get (of_rank_from leg others rank) left) (drop_of_length-le hits all) in
    let place : Place = record { leg = 0; rank = 0 } in
    let some : slice_get (of_rank hits rank) before ≡ Some (get_or (of_rank hits rank) before place) =
    slice_get-get_or (of_rank hits rank) before place within in
    cc

pub returns : goal.returns
returns c =
    absurd (past c.args.hits.now c.args.rank c.loop-n.leg c.loop-n.left c.args.before
    (omega (arith, c.loop-n-test.false, c.loop-n.invariant.counted)) c.loop-n.invariant.behind c.requires.within)
