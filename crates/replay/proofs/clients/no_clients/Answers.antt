use Rattle.std.proofs.Common.{List, [], ◌∷◌, Option, None, length, length-append, ap, subst, sym, arith}
use Rattle.replay.specs.Clients.{AreNone, ClientState}
use Rattle.replay.proofs.ClientLemmas.{none-more}
use Rattle.replay.proofs.clients.no_clients.Goals as goal

pub empty-preserved : goal.empty-preserved
empty-preserved g c = record {
  empty = subst (λ (places : List (Option (ClientState g.row.S.Denot))). AreNone places) (sym c.in_ok-push.ensures.items)
      (none-more c.empty.clients.items c.empty.invariant.empty);
  within =
      let more = ap length c.in_ok-push.ensures.items in
      let one = length-append c.empty.clients.items (None ∷ []) in
      omega (arith, more, one, c.empty-test.true, c.len.ensures);
}
