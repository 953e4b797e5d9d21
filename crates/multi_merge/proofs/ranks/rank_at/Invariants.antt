use Rattle.std.proofs.Common.{◌≡◌, ◌+◌, ◌≤◌, ◌<◌, length, drop, get_or}
use Rattle.multi_merge.specs.Ranks.{up_to}
use Rattle.multi_merge.proofs.UpTo.{AreLow}
use Rattle.multi_merge.proofs.ranks.rank_at.Given as goal

abbrev pub invariant-loop-n : goal.invariant-loop-n
invariant-loop-n l = record {
  low : AreLow l.n-index l.gone l.hits;
  next : l.n-index < length l.hits → l.gone ≤ get_or l.hits l.n-index 0;
  come : up_to l.gone l.hits + l.left + 1 ≡ l.position;
  going : l.legs ≡ length (drop l.n-index l.hits);
}
