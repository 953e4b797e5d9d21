-- Replay scripts (this project's own): lines ended by LF, of which the last may be missing, and the
-- events that they say
use Rattle.std.specs.Prelude.{◌≡◌, ℕ, ◌+◌, List, [], ◌∷◌, ◌++◌, length, Result, Ok, Err, if◌then◌else◌, ◌==◌, nat_lt, Option, None, Some}
use Rattle.std.specs.List.{slice_split}
use Rattle.script.specs.declared.event.Event.{Event}
use Rattle.script.specs.declared.faults.ScriptFault.{ScriptFault}
use Rattle.script.specs.declared.faults.ScriptFault.TheVariants.{Line, TooMany, Memory}
use Rattle.script.specs.declared.line.Said.{Said}
use Rattle.script.specs.declared.line.Said.TheVariants.{Nothing, Says, Unknown}
use Rattle.script.specs.Events.{may_follow, most_events}
use Rattle.script.specs.Lines.{said_by}

-- the parts of a text between its LFs
abbrev pub lines : List ℕ → List (List ℕ)
lines text = slice_split (λ octet. octet == 10) text

-- the lines of what follows an LF, where there is one
abbrev pub lines_behind : Option (List ℕ) → List (List ℕ)
lines_behind None = []
lines_behind (Some text) = lines text

-- an event of a line behind the events before it: it may follow them, and they are not too many
abbrev pub put_event : ℕ → List Event → Event → Result (List Event) ScriptFault
put_event number events event =
    if may_follow events event
    then (if nat_lt (length events) most_events then Ok (events ++ event ∷ [])
    else Err (TooMany number))
    else Err (Line number)

-- the events up to a line and with it
abbrev pub put_said : ℕ → List Event → Said → Result (List Event) ScriptFault
put_said number events Nothing = Ok events
put_said number events (Says event) = put_event number events event
put_said number events Unknown = Err (Line number)

-- what comes of the lines behind one, unless that is refused
abbrev pub go_on : Result (List Event) ScriptFault → (List Event → Result (List Event) ScriptFault)
    → Result (List Event) ScriptFault
go_on (Ok events) others = others events
go_on (Err fault) others = Err fault

-- the events before lines and those of the lines, the first of which has this number; or the first
-- line that is refused
abbrev pub events_of : (targets : List (List ℕ)) → ℕ → List Event → List (List ℕ)
    → Result (List Event) ScriptFault
events_of targets number events [] = Ok events
events_of targets number events (line ∷ others) =
    go_on (put_said number events (said_by targets line))
    (λ before. events_of targets (number + 1) before others)

-- the events of a script for targets of these names, or the first line that is refused
unfoldable pub script_of : List (List ℕ) → List ℕ → Result (List Event) ScriptFault
script_of targets text = events_of targets 1 [] (lines text)

-- what was read is this, or no memory could be had
abbrev pub IsAnswer : Result (List Event) ScriptFault → Result (List Event) ScriptFault → Type 0
IsAnswer wanted (Ok events) = wanted ≡ Ok events
IsAnswer wanted (Err (Line number)) = wanted ≡ Err (Line number)
IsAnswer wanted (Err (TooMany number)) = wanted ≡ Err (TooMany number)
IsAnswer wanted (Err Memory) = Unit {0}

-- what was read is the script, or no memory could be had
abbrev pub IsScript : List (List ℕ) → List ℕ → Result (List Event) ScriptFault → Type 0
IsScript targets text answer = IsAnswer (script_of targets text) answer

-- what was put behind the events is this, or it is refused, or no memory could be had
abbrev pub IsPut : {A : Type 0} → Result (List Event) ScriptFault → List Event
    → Result A ScriptFault → Type 0
IsPut wanted new (Ok done) = wanted ≡ Ok new
IsPut wanted new (Err fault) = IsAnswer wanted (Err fault)
