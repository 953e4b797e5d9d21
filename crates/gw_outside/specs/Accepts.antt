-- What an acceptor gives (this project's own)
use Rattle.std.specs.Prelude.{◌≡◌, ℕ, ◌+◌, ◌-◌, ◌<◌, [], Option, None, Some, option_map}
use Rattle.gw_outside.specs.declared.accepts.Accepted.{Accepted}
use Rattle.gw_outside.specs.declared.accepts.Accepted.TheVariants.{Connection, Ended, Failed}
use Rattle.gw_outside.specs.declared.sinks.Sink as sink
use Rattle.gw_outside.specs.declared.sources.Source as source

-- a connection is one of those that are left; none is left where it has ended
abbrev pub AcceptFits : {I O : Type 0} → Option ℕ → Option ℕ → Accepted I O → Type 0
AcceptFits None new answer = new ≡ None
AcceptFits (Some left) new (Connection input output) = (0 < left) × (new ≡ Some (left - 1))
AcceptFits (Some left) new Ended = (left ≡ 0) × (new ≡ Some left)
AcceptFits (Some left) new Failed = new ≡ Some left

-- nothing of a connection was read or written yet, and nothing on it has failed
pub record IsUntouched {I O : Type 0} (i : source.Ghosts I) (o : sink.Ghosts O) (input : I)
    (output : O) : Type 0 where
  pub given : i.given input ≡ Some []
  pub received : o.received output ≡ Some []
  pub source_faults : i.faults input ≡ 0
  pub sink_faults : o.faults output ≡ 0

-- so is each connection of an acceptor that tells how many are left
abbrev pub IsNewConnection : {I O : Type 0} → source.Ghosts I → sink.Ghosts O → Option ℕ
    → Accepted I O → Type 0
IsNewConnection i o None answer = Unit {0}
IsNewConnection i o (Some left) (Connection input output) = IsUntouched i o input output
IsNewConnection i o (Some left) Ended = Unit {0}
IsNewConnection i o (Some left) Failed = Unit {0}

-- how many connections are out after an accept
abbrev pub out_after : {I O : Type 0} → Accepted I O → Option ℕ → Option ℕ
out_after (Connection input output) out = option_map (λ count. count + 1) out
out_after Ended out = out
out_after Failed out = out
