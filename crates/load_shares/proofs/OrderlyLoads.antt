-- Each load is orderly
use Rattle.z_types.specs.declared.world.World as world
use Rattle.replay_shares.specs.Orderly.{dated_works}
use Rattle.load_shares.specs.Laws.{LoadsAreOrderly, RequestsAreReceived}
use Rattle.load_shares.specs.Runs.{load_runs as runs_in}
use Rattle.load_shares.proofs.EventLemmas.{calm-load, load-in_time, load-runs}
use Rattle.load_shares.proofs.KeyLemmas.{load-own, load-room}
use Rattle.load_shares.proofs.UnitLemmas.{asks-works}
use Rattle.load_shares.proofs.WorkLemmas.{load-apart, load-works}

pub orderly : {W : Type 0} (w : world.Ghosts W) → RequestsAreReceived → LoadsAreOrderly w
orderly w are clients few =
    let works = load-works w clients in
    record {
      calm = calm-load clients;
      one_at_a_time = load-in_time clients;
      whole = load-runs w (asks-works w are) clients few;
      apart = load-apart (dated_works (runs_in w clients)) works;
      room = λ who. load-room (dated_works (runs_in w clients)) who works;
      own = λ class. load-own (dated_works (runs_in w clients)) class works;
    }
