use Rattle.std.proofs.Common.{arith}
use Rattle.std.proofs.lemmas.List.Elements.{AllWithin-none, AllWithin-more, AllWithin-upto, All-from_all_within}
use Rattle.pool_sets.specs.Table.{Entry}
use Rattle.pool_keys.specs.Pairs.{Holds, pair}
use Rattle.pool_roster.proofs.listing.list_all.Goals as goal

pub loop-place-init : goal.loop-place-init
loop-place-init g c = record {
  all = c.len-place-end.ensures;
  grows = λ p h. h;
  listed = AllWithin-none (λ (e : Entry). Holds c.args.index.now (pair (g.D.Digest.digest c.args.own e.key) c.args.number)) c.args.table.now.entries 0;
}

pub loop-place-preserved : goal.loop-place-preserved
loop-place-preserved g c =
    let i = c.loop-place.invariant in
    let es = c.args.table.now.entries in
    record {
      all = i.all;
      grows = λ p h. c.list_one.ensures.grows p (i.grows p h);
      listed = AllWithin-more (λ (e : Entry). Holds c.list_one.new.index (pair (g.D.Digest.digest c.args.own e.key) c.args.number)) es 0 c.loop-place.place
          (λ k d low high. c.list_one.ensures.grows (pair (g.D.Digest.digest c.args.own _) c.args.number) (i.listed k d low high))
          (λ d. c.list_one.ensures.listed d 0 d (omega arith));
    }

pub returns-clause-grows : goal.returns-clause-grows
returns-clause-grows g c = c.loop-place.invariant.grows

pub returns-clause-listed : goal.returns-clause-listed
returns-clause-listed g c =
    let es = c.args.table.now.entries in
    All-from_all_within (λ (e : Entry). Holds c.loop-place.index (pair (g.D.Digest.digest c.args.own e.key) c.args.number)) es
    (AllWithin-upto (λ (e : Entry). Holds c.loop-place.index (pair (g.D.Digest.digest c.args.own e.key) c.args.number)) es 0 c.loop-place.place _ (omega arith) c.loop-place.invariant.listed)
