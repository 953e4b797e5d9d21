-- The events of a replay (this project's own): whose they are, what they feed, when they come, and
-- which may follow others
use Rattle.std.specs.Prelude.{◌≡◌, ◌≤◌, ◌<◌, ℕ, Bool, true, false, not, List, [], ◌∷◌, ◌++◌, length, if◌then◌else◌, ◌==◌, ◌&&◌, Option, None, Some}
use Prim.Native.Nat.{zero, suc}
use Rattle.std.specs.List.{AllByRecursion, list_any, flat_map}
use Rattle.std.specs.Option.{option_map_or}
use Rattle.script.specs.declared.event.Event.{Event}
use Rattle.script.specs.declared.event.Event.TheVariants.{Feed, End, Step, Run, Tick, Gone, Cut, Slow}

-- clients have the numbers 1 to this
abbrev pub most_clients : ℕ
most_clients = 10000

-- seconds, Presents and looks of an event are at most this
abbrev pub most_amount : ℕ
most_amount = 1000000

-- a script has at most this many events
abbrev pub most_events : ℕ
most_events = 1000000

-- ---- whose an event is

-- the client that an event is of; ticks, and what befalls links, are of none
abbrev pub client_of : Event → Option ℕ
client_of (Feed client octets) = Some client
client_of (End client) = Some client
client_of (Step client) = Some client
client_of (Run client) = Some client
client_of other = None

-- an event is of a client
abbrev pub is_of : ℕ → Event → Bool
is_of client event = option_map_or (λ own. own == client) (client_of event) false

-- what an event feeds
abbrev pub octets_of : Event → List ℕ
octets_of (Feed client octets) = octets
octets_of other = []

-- what is fed to a client by all events
abbrev pub fed : List Event → ℕ → List ℕ
fed events client = flat_map (λ event. if is_of client event then octets_of event else []) events

-- an event is of that client
abbrev pub is_named : List Event → ℕ → Bool
is_named events client = list_any (is_of client) events

-- the clients that events name, in ascending order, of those numbered up to one
unfoldable pub named_upto : ℕ → List Event → List ℕ
named_upto zero events = []
named_upto (suc last) events =
    named_upto last events ++ (if is_named events (suc last) then suc last ∷ [] else [])

-- the clients that events name, in ascending order
unfoldable pub named : List Event → List ℕ
named events = named_upto most_clients events

-- ---- when an event comes

-- the seconds by which an event moves the clock on
abbrev pub seconds_of : Event → ℕ
seconds_of (Tick seconds) = seconds
seconds_of other = 0

-- ---- which events a script has

-- an event goes on with its client's input: it feeds it or ends it
abbrev pub is_of_input : Event → Bool
is_of_input (Feed client octets) = true
is_of_input (End client) = true
is_of_input other = false

-- the client whose input an event ends
abbrev pub ended_by : Event → Option ℕ
ended_by (End client) = Some client
ended_by other = None

-- an event ends this client's input
abbrev pub ends : ℕ → Event → Bool
ends client event = option_map_or (λ own. own == client) (ended_by event) false

-- a client's input has ended
abbrev pub has_ended : List Event → ℕ → Bool
has_ended events client = list_any (ends client) events

-- an event may follow others: nothing goes on with an input that has ended
abbrev pub may_follow : List Event → Event → Bool
may_follow events event =
    not (is_of_input event && option_map_or (has_ended events) (client_of event) false)

-- each event may follow those before it
abbrev pub are_in_order : (before : List Event) → List Event → Bool
are_in_order before [] = true
are_in_order before (event ∷ events) =
    may_follow before event && are_in_order (before ++ event ∷ []) events

-- a client's number
abbrev pub IsClient : ℕ → Type 0
IsClient client = (1 ≤ client) × (client ≤ most_clients)

-- an event of a client that there may be, of one of this many targets, and of no more than may be
-- said
abbrev pub IsEvent : (targets : ℕ) → Event → Type 0
IsEvent targets (Feed client octets) = IsClient client
IsEvent targets (End client) = IsClient client
IsEvent targets (Step client) = IsClient client
IsEvent targets (Run client) = IsClient client
IsEvent targets (Tick seconds) = seconds ≤ most_amount
IsEvent targets (Gone target presents) = (target < targets) × (presents ≤ most_amount)
IsEvent targets (Cut target) = target < targets
IsEvent targets (Slow target looks) = (target < targets) × (looks ≤ most_amount)

-- events that can be played
pub record AreEvents (targets : ℕ) (events : List Event) : Type 0 where
  pub each : AllByRecursion (IsEvent targets) events
  pub in_order : are_in_order [] events ≡ true
  pub few : length events ≤ most_events
