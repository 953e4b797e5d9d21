use Rattle.std.proofs.Common.{◌≡◌, length, Contains}
use Rattle.std.specs.List.{AllWithin}
use Rattle.pool_keys.specs.Pairs.{pair}
use Rattle.pool_roster.specs.Told.{Gains}
use Rattle.pool_roster.proofs.listing.gather.Given as goal

abbrev pub invariant-loop-place : goal.invariant-loop-place
invariant-loop-place g l = record {
  all : l.place-end ≡ length l.table.entries;
  gains : Gains l.initial.pairs.items l.pairs.items;
  gathered : AllWithin (λ e. Contains l.pairs.items (pair (g.D.Digest.digest l.own e.key) l.number)) l.table.entries 0 l.place;
}
