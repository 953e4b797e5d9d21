use Rattle.std.proofs.Common.{◌≡◌, drop}
use Rattle.std.specs.Prelude.{is_some}
use Rattle.sru_request.specs.Head.{head_length}
use Rattle.front_http.proofs.seek.has_end.Given as goal

-- a head ends in what is left exactly where it does in all
abbrev pub invariant-loop-index : goal.invariant-loop-index
invariant-loop-index l = is_some (head_length (drop l.index l.octets)) ≡ is_some (head_length l.octets)
