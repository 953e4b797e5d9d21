use Rattle.std.proofs.Common.{◌≡◌, ◌<◌, IfSome, drop, length}
use Rattle.std.specs.List.{position, position_from}
use Rattle.std.specs.Option.{option_or}
use Rattle.access_rules.specs.Whose as whose
use Rattle.access_rules.specs.Lent.{lent_credentials}
use Rattle.access_rules.proofs.who.place_with.Given as goal

-- the first place is what was found, or else stands behind that
abbrev pub invariant-loop-place : goal.invariant-loop-place
invariant-loop-place l = record {
  first : position (whose.is_user (lent_credentials l.said)) l.users
      ≡ option_or l.found (position_from (whose.is_user (lent_credentials l.said)) l.place (drop l.place l.users));
  below : IfSome l.found (λ place. place < length l.users);
}
