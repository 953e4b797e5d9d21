use Rattle.conn_tests.proofs.plays.Play.new.Goals as goal

pub returns : goal.returns
returns g c = λ route most. record { first = c.new.ensures route most; second = c.new-2.ensures route most }
