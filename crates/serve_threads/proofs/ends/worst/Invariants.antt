use Rattle.std.proofs.Common.{◌≡◌, drop, map}
use Rattle.serve.specs.declared.working.Worked.TheVariants.{Ended}
use Rattle.serve_threads.specs.steps.Jobs.{worst_after}
use Rattle.serve_threads.proofs.ends.worst.Given as goal

-- the end so far goes on by those of the jobs that are left
abbrev pub invariant-loop-job : goal.invariant-loop-job
invariant-loop-job g l =
    worst_after l.worst (map (λ job. job.worked) (drop l.job-index l.jobs)) ≡ worst_after Ended (map (λ job. job.worked) l.jobs)
