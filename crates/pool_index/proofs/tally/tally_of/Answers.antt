use Rattle.std.proofs.Common.{◌<◌, subst, get_or, length, arith}
use Rattle.std.proofs.lemmas.List.{get_or_default, take_all}
use Rattle.pool_roster.proofs.Given.{some_item}
use Rattle.pool_index.specs.Tallies.{IsTally}
use Rattle.pool_index.proofs.Tallies.{right_taken}
use Rattle.pool_index.proofs.tally.tally_of.Goals as goal

pub loop-place-preserved : goal.loop-place-preserved
loop-place-preserved g c =
    let os = c.args.roster.now.sessions in
    let i = c.loop-place.place in
    let w : i < length os = omega (arith, c.loop-place.invariant.all) in
    let d = some_item os i w in
    let o = get_or os i d in
    record {
      all = c.loop-place.invariant.all;
      right = rw (c.change.ensures d) (right_taken os i o c.loop-place.tally w (get_or_default os i d o w) c.requires.few c.loop-place.invariant.right);
    }

pub returns : goal.returns
returns g c =
    let os = c.args.roster.now.sessions in
    subst (λ l. IsTally l c.loop-place.tally) (take_all c.loop-place.place os (omega (arith, c.loop-place.invariant.all))) c.loop-place.invariant.right
