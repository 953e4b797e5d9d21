use Rattle.front_conn_seats.proofs.PackageLemmas.{package-keeps}
use Rattle.front_conn_seats.proofs.laws.packages_keep_seats.Goals as goal

pub returns : goal.returns
returns g c = λ exact route now old new answer door after backend moved others asks h held.
    package-keeps g.W.World g.S.Sitting exact route now old new answer door after backend moved others asks h held
