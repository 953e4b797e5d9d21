use Rattle.std.proofs.Common.{◌≡◌, take, map, length, filter, count_by}
use Rattle.std.specs.List.{range_with_len}
use Rattle.std.specs.Prelude.{option_copied}
use Rattle.pool_sets.specs.Sessions.{is_of_member}
use Rattle.pool_core.specs.Loads.{is_counted}
use Rattle.pool_roster.proofs.berths.member_for.Given as goal

abbrev pub invariant-loop-member : goal.invariant-loop-member
invariant-loop-member g l = record {
  long : length l.loads ≡ 16;
  sofar : take l.member l.loads ≡ map (λ m. count_by (is_of_member l.class l.at m) (filter (is_counted (option_copied l.but)) (map (λ b. b.session) l.berths))) (range_with_len 0 l.member);
}
