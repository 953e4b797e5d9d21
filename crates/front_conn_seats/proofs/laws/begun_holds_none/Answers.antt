use Rattle.std.proofs.Common.{◌++◌}
use Rattle.front_conn.specs.package.steps.Packages.{new_package}
use Rattle.front_conn_seats.proofs.PackageLemmas.{new-none, none-held}
use Rattle.front_conn_seats.proofs.laws.begun_holds_none.Goals as goal

pub returns : goal.returns
returns g c = λ route work others pool h.
    none-held ((new_package route work).first ++ (new_package route work).later) others pool (new-none route work) h
