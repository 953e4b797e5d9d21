use Rattle.std.proofs.Common.{◌≡◌}
use Rattle.front_session.specs.SessionView.{state_of}
use Rattle.front_session.specs.WaitingOf.{waiting_of}
use Rattle.front_session.specs.Admitting.{counted}
use Rattle.front_session.proofs.WaitLemmas.{wait_kept}
use Rattle.front_session.proofs.session.FrontSession.wait.Goals as goal

pub invariant_of-self : goal.invariant_of-self
invariant_of-self c =
    let is : state_of c.self.inside ≡ counted c.args.route.now c.args.self.now c.args.request.now = cc in
    let waits = wait_kept c.args.route.now c.args.self.now (state_of c.self.inside) c.args.request.now (waiting_of c.args.pending) is c.requires.kept c.requires.begins c.requires.asks c.requires.records in
    record {
      sets = c.self.invariant.sets;
      of_searches = c.self.invariant.of_searches;
      of_units = c.self.invariant.of_units;
      units = c.self.invariant.units;
      login = c.self.invariant.login;
      records = c.self.invariant.records;
      waiting = rw c.fill.ensures (record { begins = waits.begins; asks = waits.asks; searches = waits.searches; records = waits.records });
    }
