-- What the clients of a load ask and are answered, where no request is marked
-- (this project's own): by the route of the smallest configuration and the meaning of its target
-- alone
use Rattle.std.specs.Prelude.{ℕ, List, [], ◌∷◌, ◌++◌, Some, map, flat_map}
use Rattle.std.specs.List.{range_with_len}
use Rattle.z_types.specs.declared.requests.Request.{Request}
use Rattle.z_types.specs.declared.work.Work.{Work}
use Rattle.z_types.specs.declared.world.World as world
use Rattle.unit_forms.specs.Replies.{spell_reply}
use Rattle.unit_forms.specs.Requests.{spell_request}
use Rattle.route_config.specs.Smallest.{smallest_route}
use Rattle.replay_shares.specs.gateway_rules.Course.{Received, course}
use Rattle.replay_shares.specs.gateway_rules.Marks.{Cause, plain}
use Rattle.replay_shares.specs.gateway_rules.Session.{run}
use Rattle.replay_shares.specs.gateway_rules.State.{at_the_start, new_client}
use Rattle.sample_maker.specs.Load.{letter_of}
use Rattle.sample_maker.specs.Requests.{requests_for}
use Rattle.replay_shares.specs.Orderly.{ClientRun}
use Rattle.replay_shares.specs.Works.{works_of_units}

-- a request in its written form, that is read as itself
abbrev pub received : Request → Received
received request = record { octets = spell_request request; request = Some request }

-- the units of a client that searches for a letter
abbrev pub units_for : (letter : ℕ) → List Received
units_for letter = map received (requests_for letter)

-- what they ask of the targets: a search, and the fetch of the first record where there is one
abbrev pub works_for : {W : Type 0} → world.Ghosts W → (letter : ℕ) → List Work
works_for w letter = works_of_units w smallest_route (units_for letter)

-- a run of a client, at moment 0, as no load has a tick
abbrev pub run_of : {W : Type 0} → world.Ghosts W → (client : ℕ) → ClientRun
run_of w client = record { client = client; at = 0; asked = works_for w (letter_of client) }

-- one run of each of these clients
abbrev pub runs_of : {W : Type 0} → world.Ghosts W → (clients : List ℕ) → List ClientRun
runs_of w clients = map (run_of w) clients

-- the runs of a load: each client is run behind what it is fed, and again when all are closed
abbrev pub load_runs : {W : Type 0} → world.Ghosts W → (clients : ℕ) → List ClientRun
load_runs w clients = runs_of w (range_with_len 1 clients) ++ runs_of w (range_with_len 1 clients)

-- no mark, for each of a client's four requests
abbrev pub four_plain : List Cause
four_plain = plain ∷ plain ∷ plain ∷ plain ∷ []

-- the octets that a client is written that searches for a letter
abbrev pub answers_for : {W : Type 0} → world.Ghosts W → (letter : ℕ) → List ℕ
answers_for w letter =
    flat_map spell_reply (run w smallest_route new_client
    (course smallest_route at_the_start (units_for letter)) four_plain).replies
