use Rattle.flight_tests.proofs.packages.driven.Goals as goal

-- the package that was begun is one of the route, whatever the most
pub drive-done-requires : goal.drive-done-requires
drive-done-requires g c = record { of = c.in_ok-package.ensures.of _ }
