-- Connections in memory (this project's own)
use Rattle.std.specs.Prelude.{◌≡◌, Bool, true, false, List, [], ◌∷◌}
use Rattle.std.specs.List.{AllByRecursion}
use Rattle.gw_outside.specs.declared.accepts.Accepted.{Accepted}
use Rattle.gw_outside.specs.declared.accepts.Accepted.TheVariants.{Connection, Ended, Failed}
use Rattle.gw_outside.specs.declared.sinks.Sink as sink
use Rattle.gw_outside.specs.declared.sources.Source as source
use Rattle.gw_outside.specs.Accepts.{IsUntouched}

-- nothing of these connections was read or written yet
abbrev pub AreUntouched : {I O : Type 0} → source.Ghosts I → sink.Ghosts O → List (I × O) → Type 0
AreUntouched i o connections =
    AllByRecursion (λ connection. IsUntouched i o connection.0 connection.1) connections

-- the first of those that wait is handed out; at the end none waits
abbrev pub HandsOut : {I O : Type 0} → List (I × O) → List (I × O) → Accepted I O → Type 0
HandsOut before after (Connection input output) = before ≡ (input, output) ∷ after
HandsOut before after Ended = (before ≡ []) × (after ≡ [])
HandsOut before after Failed = after ≡ before

abbrev pub is_failed_accept : {I O : Type 0} → Accepted I O → Bool
is_failed_accept (Connection input output) = false
is_failed_accept Ended = false
is_failed_accept Failed = true
