use Rattle.std.proofs.Common.{◌∙◌, ◌∷◌}
use Rattle.package.specs.steps.Drives.{PackageAt, package_at}
use Rattle.package.proofs.package.Package.drive.Goals as goal

pub loop-turn-preserved : goal.loop-turn-preserved
loop-turn-preserved g c =
    let here : PackageAt g.row.S.Denot = package_at g.D.Door g.B.Watched c.loop-turn.self c.loop-turn.door c.loop-turn.backend in record {
      of = c.turn-turned.ensures.of;
      most = c.turn-turned.ensures.most ∙ c.loop-turn.invariant.most;
      goes = (
        here ∷ c.loop-turn.invariant.goes.0,
        (
          c.loop-turn.invariant.goes.1,
          record {
            answer = c.turn-turned.result;
            awaited = c.in_default.ensures;
            turn = record { now = c.now-now.result; law = c.turn-turned.ensures.law; of = c.turn-turned.ensures.of };
          },
        ),
      );
    }
