use Rattle.std.specs.Prelude.{option_copied}
use Rattle.std.proofs.Common.{◌≡◌, true, ◌-◌, ◌^◌, All}
use Rattle.std.specs.List.{AllZip}
use Rattle.pool_roster.specs.Told.{digest_by, told, IsListed}
use Rattle.pool_roster.specs.RosterView.{is_holder, MaySettle}
use Rattle.pool_roster.proofs.Seeking.{NoneUnder}
use Rattle.pool_roster.proofs.seek.first_holder.Given as goal

abbrev pub invariant-loop-number : goal.invariant-loop-number
invariant-loop-number g l = record {
  none : NoneUnder (is_holder l.class l.at (option_copied l.login) l.key) (told l.expiries l.ttl l.initial.berths.items) l.from;
  may : AllZip (MaySettle l.expiries l.ttl) l.initial.berths.items l.berths.items;
  whole : l.index.whole ≡ true;
  listed : All (IsListed (digest_by g.D.Digest.own g.D.Digest.digest) l.index) l.berths.items;
}

abbrev pub decreases-loop-number : goal.decreases-loop-number
decreases-loop-number g l = 2 ^ 64 - l.from
