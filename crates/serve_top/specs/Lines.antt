-- What is printed of connections that were served (this project's own)
use Rattle.std.specs.Prelude.{ℕ, List, length, ◌++◌, codes}
use Rattle.std.specs.List.{sum_by}
use Rattle.std.specs.Fmt.{decimal}
use Rattle.gateway_config.specs.Lines.{line_of}
use Rattle.serve_cached.specs.serve_threads.serve.declared.working.Worker.{Worker}

-- how many connections are listed, of all workers
abbrev pub served_count : {B A C : Type 0} → List (Worker B A C) → ℕ
served_count {B} {A} {C} workers = sum_by (λ (worker : Worker B A C). length worker.served) workers

-- so many connections were served
abbrev pub served_line : ℕ → List ℕ
served_line number = line_of (codes "served " ++ decimal number)

-- an accept failed
abbrev pub accept_line : List ℕ
accept_line = line_of (codes "accept fault")
