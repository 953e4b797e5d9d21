use Rattle.std.proofs.Common.{◌≡◌}
use Rattle.z_types.specs.Chains.{StepsFrom}
use Rattle.package.specs.steps.Drives.{GoesOnTo, package_at}
use Rattle.package.specs.steps.Packages.{IsPackageOf}
use Rattle.package.proofs.package.Package.drive.Given as goal

-- so far each turn left another one due
abbrev pub invariant-loop-turn : goal.invariant-loop-turn
invariant-loop-turn g l = record {
  of : IsPackageOf g.W.World g.S.Sitting l.route (g.D.Door.counts l.door).most l.self;
  most : (g.D.Door.counts l.door).most ≡ (g.D.Door.counts l.fn.door).most;
  goes : StepsFrom (GoesOnTo g.W.World g.S.Sitting g.B.Watched.exact l.route)
      (package_at g.D.Door g.B.Watched l.fn.self l.fn.door l.fn.backend)
      (package_at g.D.Door g.B.Watched l.self l.door l.backend);
}
