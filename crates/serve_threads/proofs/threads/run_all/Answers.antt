use Rattle.std.proofs.Common.{rules}
use Rattle.serve_threads.proofs.threads.run_all.Goals as goal

pub for_each_mut-requires-clause-accepts : goal.for_each_mut-requires-clause-accepts
for_each_mut-requires-clause-accepts g c κs within =
    λ i p less e. (
      tt,
      (
        search rules,
        search rules,
        search rules,
        search rules,
        search rules,
        search rules,
        search rules,
        search rules,
        search rules,
        search rules,
        search rules,
        search rules,
        search rules,
        search rules,
        search rules,
        search rules,
        search rules,
        search rules,
      ),
    )

pub returns : goal.returns
returns g c = record {
  done = λ place d less.
      let one = (c.for_each_mut.ensures place d less).1 in
      rw (← one.argument_is, ← one.left) one.call;
}
