use Rattle.std.proofs.lemmas.Iterator.Adapters.{position_from-zero}
use Rattle.access_rules.specs.Lent.{lent_credentials}
use Rattle.access_rules.specs.Whose as whose
use Rattle.access_rules.proofs.who.place_with.Goals as goal

pub loop-place-init : goal.loop-place-init
loop-place-init c = record {
  first = position_from-zero (whose.is_user (lent_credentials c.args.said)) c.args.users.now;
  below = tt;
}
