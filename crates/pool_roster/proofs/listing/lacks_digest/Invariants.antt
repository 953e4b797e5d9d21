use Rattle.std.proofs.Common.{◌≡◌, ◌≢◌, length}
use Rattle.std.specs.List.{AllWithin}
use Rattle.pool_roster.proofs.listing.lacks_digest.Given as goal

abbrev pub invariant-loop-place : goal.invariant-loop-place
invariant-loop-place g l = record {
  all : l.place-end ≡ length l.table.entries;
  lacks : AllWithin (λ e. g.D.Digest.digest l.own e.key ≢ l.digest) l.table.entries 0 l.place;
}
