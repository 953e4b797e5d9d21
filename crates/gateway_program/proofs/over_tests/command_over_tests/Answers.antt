use Rattle.std.proofs.Common.{ℕ, List, Option, None, Some, refl}
use Rattle.gateway_config.specs.Outside.{file_reads, sink_writes}
use Rattle.test_target.specs.contracts.worlds.TestWorldWorld.TheImpl as test_world
use Rattle.test_target.specs.World.{told_of}
use Rattle.z_types.specs.Logins.{inside}
use Rattle.z_types.specs.declared.address.Address.TheVariants.{Test}
use Rattle.gateway_top.proofs.OverTests.{over-tests}
use Rattle.gateway_program.proofs.over_tests.command_over_tests.Goals as goal

-- a test target is told, by itself and inside each login
tells : (login : Option (List ℕ)) (number : ℕ) → told_of (inside login (Test number))
tells None number = tt
tells (Some login) number = tt

pub returns : goal.returns
returns g c = record {
  replayed =
      over-tests test_world.ghosts _ c.args.words.now (file_reads g.F.Files c.args.files.now c.command.new.files)
      (sink_writes g.K.Sink c.args.out.now c.command.new.out) c.command.result tells
      (record { exact = refl; uncounted = c.new-wire.ensures.counts; quiet = c.new-wire.ensures.quiet }) c.command.ensures;
}
