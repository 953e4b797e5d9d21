-- What a load costs at the one target of the smallest configuration (this project's own): a search
-- for each of five letters, and one each time where the target refuses a letter; and one dial
use Rattle.std.specs.Prelude.{ℕ, ◌||◌, Bool, List, [], ◌∷◌, codes, count_by, is_err, min, nat_le}
use Rattle.std.specs.List.{range_with_len}
use Rattle.z_types.specs.declared.address.Address.TheVariants.{Test}
use Rattle.z_types.specs.declared.key.SetKey.{SetKey}
use Rattle.z_types.specs.declared.query.RpnQuery.{RpnQuery}
use Rattle.z_types.specs.declared.world.World as world
use Rattle.route_config.specs.Smallest.{smallest_route}
use Rattle.sample_maker.specs.Load.{letter_of}
use Rattle.sample_maker.specs.Requests.{bib1_attributes, titles_with}
use Rattle.sharing_rules.specs.Uses.{Use, uses_of}
use Rattle.replay_shares.specs.Orderly.{dated_works}
use Rattle.load_shares.specs.Runs.{load_runs}

-- the query for a letter
abbrev pub query_for : (letter : ℕ) → RpnQuery
query_for letter = record { attr_set = bib1_attributes; root = titles_with letter }

-- the result set of it at the target
abbrev pub key_for : (letter : ℕ) → SetKey
key_for letter = record { dbs = codes "Default" ∷ []; query = query_for letter }

-- the target refuses the search for a letter
abbrev pub refuses : {W : Type 0} → world.Ghosts W → (letter : ℕ) → Bool
refuses w letter = is_err (w.search (Test 0) (key_for letter))

-- a client's search is sent to the target: it is one of the first five, or the target refuses its
-- letter
abbrev pub is_sent : {W : Type 0} → world.Ghosts W → (client : ℕ) → Bool
is_sent w client = refuses w (letter_of client) || nat_le client 5

-- the searches that a load sends
abbrev pub load_searches : {W : Type 0} → world.Ghosts W → (clients : ℕ) → ℕ
load_searches w clients = count_by (is_sent w) (range_with_len 1 clients)

-- the links that it makes: one, where it has a client
abbrev pub load_dials : (clients : ℕ) → ℕ
load_dials clients = min clients 1

-- the uses of the class by the works of a load, by which they are counted
abbrev pub load_uses : {W : Type 0} → world.Ghosts W → (clients : ℕ) → List Use
load_uses w clients = uses_of smallest_route (dated_works (load_runs w clients))
