use Rattle.std.proofs.Common.{◌≡◌, ◌+◌, drop, option_map}
use Rattle.sru_request.specs.Head.{head_length}
use Rattle.sru_request.proofs.end.head_length.Given as goal

-- what is left of the head, and what is passed
abbrev pub invariant-loop-index : goal.invariant-loop-index
invariant-loop-index l =
    option_map (λ n. l.index + n) (head_length (drop l.index l.octets)) ≡ head_length l.octets
