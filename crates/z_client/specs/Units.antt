-- The units that are sent to targets (ANSI/NISO Z39.50-2003, 3.2.1 to 3.2.3 and 3.2.8), none with a
-- referenceId
use Rattle.std.specs.Prelude.{◌≡◌, ℕ, pos, true, List, [], Option, None, Some}
use Rattle.z_types.specs.Bounds.{most_unit_octets}
use Rattle.z_types.specs.declared.ask.Ask.{Ask}
use Rattle.z_types.specs.declared.ask.Ask.TheVariants.{Search, Present, Scan}
use Rattle.z_types.specs.declared.requests.Asked.TheVariants.{Good}
use Rattle.z_types.specs.declared.requests.Request.{Request}
use Rattle.z_types.specs.declared.requests.Request.TheVariants as request
use Rattle.z_types.specs.Logins.{inner, login_of}
use Rattle.z_types.specs.declared.address.Address.{Address}
use Rattle.z_types.specs.declared.world.World as world
use Rattle.gw_outside.specs.Asks.{MayAsk}
use Rattle.gw_outside.specs.Happened.{Happened, at_address, sets_found}
use Rattle.gw_outside.specs.Peers.{Peer, new_peer, TakesRequest}
use Rattle.z_types.specs.Services.{own_versions, own_options}
use Rattle.gw_outside.specs.declared.backends.Began.{Began}
use Rattle.gw_outside.specs.declared.backends.Began.TheVariants as began
use Rattle.gw_outside.specs.declared.wires.Sent.{Sent}
use Rattle.gw_outside.specs.declared.wires.Sent.TheVariants as sent
use Rattle.gw_outside.specs.Sessions.{Made}
use Rattle.gw_outside.specs.Wires.{IsRequestUnit}

-- versions 1 to 3; search, present, scan and named result sets; the most octets of a unit; the
-- login of the address, if any
abbrev pub init_request : Option (List ℕ) → Request
init_request login = request.Init (record {
  ref_id = None;
  versions = own_versions;
  options = own_options;
  preferred = most_unit_octets;
  exceptional = most_unit_octets;
  login = login;
})

-- a Search shows no records, and replaces what its name has
abbrev pub request_of : Ask → Request
request_of (Search name key) = request.Search (record {
  ref_id = None;
  small = 0;
  large = 1;
  medium = 0;
  replace = true;
  set_name = name;
  dbs = key.dbs;
  small_element = None;
  medium_element = None;
  syntax = None;
  query = Good key.query;
})
request_of (Present name first count syntax element) = request.Present (record {
  ref_id = None;
  set_name = name;
  start = pos first;
  number = count;
  element = Good element;
  syntax = syntax;
})
request_of (Scan dbs ask) = request.Scan (record { ref_id = None; dbs = dbs; ask = Good ask })

-- a peer that is told takes a request
abbrev pub Takes : {W : Type 0} → world.Ghosts W → Happened → Request → Option Peer
    → Option Peer → Type 0
Takes w h request None new = new ≡ None
Takes w h request (Some old) None = ⊥
Takes w h request (Some old) (Some new) =
    TakesRequest w h.steady (sets_found (at_address h old.address) request old.sets) request old new

-- the peer of a new link to the inner address that is told has taken an Init with the login
abbrev pub TookInit : {W : Type 0} → world.Ghosts W → Happened → Address → Option Peer → Type 0
TookInit w h address None = Unit {0}
TookInit w h address (Some peer) =
    TakesRequest w h.steady [] (init_request (login_of address)) (new_peer (inner address)) peer

-- an ask whose unit was sent has begun
abbrev pub began_by : Sent → Began
began_by sent.Sent = began.Started
began_by sent.Failed = began.Failed
began_by sent.Memory = began.Memory

-- octets are the unit of an ask: wherever it may be asked they are the request that it is
abbrev pub IsAskUnit : Ask → List ℕ → Type 0
IsAskUnit ask octets = (made : Made) → MayAsk made ask → IsRequestUnit octets (request_of ask)
