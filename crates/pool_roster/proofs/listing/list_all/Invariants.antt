use Rattle.std.proofs.Common.{◌≡◌, length}
use Rattle.std.specs.List.{AllWithin}
use Rattle.pool_keys.specs.Pairs.{Holds, Grows, pair}
use Rattle.pool_roster.proofs.listing.list_all.Given as goal

abbrev pub invariant-loop-place : goal.invariant-loop-place
invariant-loop-place g l = record {
  all : l.place-end ≡ length l.table.entries;
  grows : Grows l.initial.index l.index;
  listed : AllWithin (λ e. Holds l.index (pair (g.D.Digest.digest l.own e.key) l.number)) l.table.entries 0 l.place;
}
