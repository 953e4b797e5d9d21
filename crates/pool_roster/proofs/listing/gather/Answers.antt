use Rattle.std.proofs.Common.{arith, Contains}
use Rattle.std.proofs.lemmas.List.Elements.{AllWithin-none, AllWithin-more, AllWithin-upto, All-from_all_within}
use Rattle.pool_sets.specs.Table.{Entry}
use Rattle.pool_keys.specs.Pairs.{pair}
use Rattle.pool_roster.proofs.listing.gather.Goals as goal

pub loop-place-init : goal.loop-place-init
loop-place-init g c = record {
  all = c.len-place-end.ensures;
  gains = λ p h. h;
  gathered = AllWithin-none (λ (e : Entry). Contains c.args.pairs.now.items (pair (g.D.Digest.digest c.args.own e.key) c.args.number)) c.args.table.now.entries 0;
}

pub loop-place-preserved : goal.loop-place-preserved
loop-place-preserved g c =
    let i = c.loop-place.invariant in
    let es = c.args.table.now.entries in
    record {
      all = i.all;
      gains = λ p h. c.in-Ok.ensures.gains p (i.gains p h);
      gathered = AllWithin-more (λ (e : Entry). Contains c.gather_one.new.pairs.items (pair (g.D.Digest.digest c.args.own e.key) c.args.number)) es 0 c.loop-place.place
          (λ k d low high. c.in-Ok.ensures.gains (pair (g.D.Digest.digest c.args.own _) c.args.number) (i.gathered k d low high))
          (λ d. c.in-Ok.ensures.gathered d 0 d (omega arith));
    }

pub returns-clause-gains : goal.returns-clause-gains
returns-clause-gains g c = c.loop-place.invariant.gains

pub returns-clause-gathered : goal.returns-clause-gathered
returns-clause-gathered g c =
    let es = c.args.table.now.entries in
    All-from_all_within (λ (e : Entry). Contains c.loop-place.pairs.items (pair (g.D.Digest.digest c.args.own e.key) c.args.number)) es
    (AllWithin-upto (λ (e : Entry). Contains c.loop-place.pairs.items (pair (g.D.Digest.digest c.args.own e.key) c.args.number)) es 0 c.loop-place.place _ (omega arith) c.loop-place.invariant.gathered)
