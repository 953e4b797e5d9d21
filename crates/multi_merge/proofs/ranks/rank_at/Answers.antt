use Rattle.std.proofs.Common.{◌≡◌, ◌≤◌, ◌<◌, ◌+◌, ℕ, List, length, get_or, arith, length-drop, refl}
use Rattle.std.specs.Prelude.{sum}
use Rattle.std.specs.List.Sorted.{IsNonDecreasing}
use Rattle.multi_merge.specs.Ranks.{up_to}
use Rattle.multi_merge.proofs.UpTo.{AreLow, all_come, none_come}
use Rattle.multi_merge.proofs.AtRank.{IsCounted, found, goes_on}
use Rattle.multi_merge.proofs.ranks.rank_at.Goals as goal

pub loop-n-init : goal.loop-n-init
loop-n-init c = record {
  low = λ k h g. absurd (omega arith);
  next = λ h. omega arith;
  come = omega (arith, none_come c.args.hits.now, c.from-left.ensures, c.requires.counted);
  going = refl;
}

counted : (hits : List ℕ) (position i gone left : ℕ) → IsNonDecreasing hits → AreLow i gone hits
    → (i < length hits → gone ≤ get_or hits i 0) → up_to gone hits + left + 1 ≡ position → i < length hits
    → IsCounted hits position i gone left
counted hits position i gone left ascending low next come inside = record {
  low = low;
  high = λ k g h. ascending i k 0 g h;
  next = next inside;
  come = come;
}

pub returns-then-left-ranks-clause-rank : goal.returns-then-left-ranks-clause-rank
returns-then-left-ranks-clause-rank c =
    let v = c.loop-n.invariant in
    (found _ _ c.loop-n.n-index _ _ _ _ (counted _ _ _ _ _ c.requires.ascending v.low v.next v.come c.loop-n-test.true)
    c.loop-n-test.true v.going c.from-ranks.ensures c.if-left-ranks.true).rank

pub returns-then-left-ranks-clause-before : goal.returns-then-left-ranks-clause-before
returns-then-left-ranks-clause-before c =
    let v = c.loop-n.invariant in
    (found _ _ c.loop-n.n-index _ _ _ _ (counted _ _ _ _ _ c.requires.ascending v.low v.next v.come c.loop-n-test.true)
    c.loop-n-test.true v.going c.from-ranks.ensures c.if-left-ranks.true).before

pub loop-n-preserved : goal.loop-n-preserved
loop-n-preserved c =
    let v = c.loop-n.invariant in
    record {
      low = λ k h g. c.requires.ascending k c.loop-n.n-index 0 (omega arith) c.loop-n-test.true;
      next = λ h. c.requires.ascending c.loop-n.n-index (c.loop-n.n-index + 1) 0 (omega arith) h;
      come = goes_on _ _ c.loop-n.n-index _ _ _ _ (counted _ _ _ _ _ c.requires.ascending v.low v.next v.come c.loop-n-test.true)
          v.going c.from-ranks.ensures c.if-left-ranks.false;
      going = omega (arith, v.going, length-drop c.loop-n.n-index c.args.hits.now, length-drop (c.loop-n.n-index + 1) c.args.hits.now);
    }

pub returns : goal.returns
returns c =
    let v = c.loop-n.invariant in
    let all : up_to c.loop-n.gone c.args.hits.now ≡ sum c.args.hits.now =
    all_come c.loop-n.gone c.args.hits.now (λ k g h. v.low k (omega (arith, c.loop-n-test.false)) h) in
    let none : ⊥ = omega (arith, all, v.come, c.requires.within) in
    absurd none
