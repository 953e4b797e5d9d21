-- The load script (this project's own): clients come one after another, each with the same few
-- requests, and each is answered before the next one comes
use Rattle.std.specs.Prelude.{ℕ, ◌+◌, ◌-◌, ◌%◌, List, [], ◌∷◌}
use Rattle.std.specs.List.{flat_map, range_with_len}
use Rattle.script.specs.declared.event.Event.{Event}
use Rattle.script.specs.declared.event.Event.TheVariants.{Feed, Run}
use Rattle.unit_forms.specs.Requests.{spell_request}
use Rattle.sample_maker.specs.Requests.{requests_for}

-- the letter that a client searches for: `a` to `e` in turn, the first client for `a`
abbrev pub letter_of : (client : ℕ) → ℕ
letter_of client = 97 + (client - 1) % 5

-- requests in their written form, one behind another
abbrev pub octets_for : (letter : ℕ) → List ℕ
octets_for letter = flat_map spell_request (requests_for letter)

-- a client is fed all its requests, and is then run
abbrev pub client_events : (client : ℕ) → List Event
client_events client = Feed client (octets_for (letter_of client)) ∷ Run client ∷ []

-- the events of the clients 1 to a number, in ascending order
unfoldable pub load_events : (clients : ℕ) → List Event
load_events clients = flat_map client_events (range_with_len 1 clients)
