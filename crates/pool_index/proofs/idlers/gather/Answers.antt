use Rattle.std.proofs.Common.{◌<◌, All, length, subst, take, arith}
use Rattle.std.proofs.lemmas.List.{take_all}
use Rattle.std.proofs.lemmas.List.Elements.{All-more, All-weaker}
use Rattle.pool_roster.proofs.Given.{some_item}
use Rattle.pool_index.specs.RegisterView.{IsGathered}
use Rattle.pool_index.proofs.Found.{gathered_still}
use Rattle.pool_index.proofs.idlers.gather.Goals as goal

pub loop-place-preserved : goal.loop-place-preserved
loop-place-preserved g c =
    let os = c.args.roster.now.sessions in
    let own = g.D.Digest.own in
    let i = c.loop-place.place in
    let w : i < length os = omega (arith, c.loop-place.invariant.all) in
    let d = some_item os i w in
    record {
      all = c.loop-place.invariant.all;
      gathered = All-more (IsGathered own c.gather_one.new.pairs.items) os i d w
          (All-weaker (IsGathered own c.loop-place.pairs.items) (IsGathered own c.gather_one.new.pairs.items) (gathered_still own c.loop-place.pairs.items c.gather_one.new.pairs.items c.in-Ok.ensures.gains) (take i os) c.loop-place.invariant.gathered)
          (c.in-Ok.ensures.gathered d);
    }

pub returns : goal.returns
returns g c =
    let os = c.args.roster.now.sessions in
    record {
      gathered = subst (All (IsGathered g.D.Digest.own c.loop-place.pairs.items)) (take_all c.loop-place.place os (omega (arith, c.loop-place.invariant.all))) c.loop-place.invariant.gathered;
    }
