-- Which scripts are orderly, and what runs of clients ask and need, by computation: a set is kept for 60 seconds, a session for 300
use Rattle.std.specs.Prelude.{◌≡◌, ℕ, pos, true, false, List, [], ◌∷◌, ◌++◌, codes, map, None, Some, refl}
use Rattle.std.specs.List.{list_all}
use Rattle.z_types.specs.Tree.{Tree, leaf}
use Rattle.z_types.specs.declared.query.Term.TheVariants.{General}
use Rattle.z_types.specs.declared.requests.Asked.TheVariants.{Good}
use Rattle.z_types.specs.declared.requests.Request.{Request}
use Rattle.z_types.specs.declared.requests.Request.TheVariants as request
use Rattle.z_types.specs.declared.work.Work.{Work}
use Rattle.z_types.specs.declared.world.World as world
use Rattle.route_config.specs.Smallest.{smallest_route}
use Rattle.test_target.specs.declared.worlds.TestWorld.{TestWorld}
use Rattle.test_target.specs.contracts.worlds.TestWorldWorld.TheImpl as test_world
use Rattle.script.specs.declared.event.Event.TheVariants.{Feed, End, Run, Tick, Gone}
use Rattle.sharing_rules.specs.Needed.{dials_needed, needed}
use Rattle.sharing_rules.specs.Uses.{uses_of}
use Rattle.replay.specs.sru_rules.Run.{searches}
use Rattle.replay.specs.Trace.{closing}
use Rattle.replay_shares.specs.Orderly.{ClientRun, are_run, dated_works, is_calm, works_added}
use Rattle.replay_shares.specs.Works.{works_of_due, works_of_units}

-- ---- events

abbrev octet : List ℕ
octet = 0 ∷ []

-- a script that has sets deleted is not orderly
deletes : list_all is_calm (Feed 1 octet ∷ Run 1 ∷ Gone 0 1 ∷ Feed 1 octet ∷ Run 1 ∷ []) ≡ false
deletes = refl

-- a client may be fed twice and end before its run, and run without being fed
run_in_time : are_run None (Run 2 ∷ Feed 1 octet ∷ Feed 1 octet ∷ End 1 ∷ Run 1 ∷ Tick 9 ∷ Run 1 ∷ []) ≡ true
run_in_time = refl

ticks_first : are_run None (Feed 1 octet ∷ Tick 0 ∷ Run 1 ∷ []) ≡ false
ticks_first = refl

another_first : are_run None (Feed 1 octet ∷ End 2 ∷ Run 1 ∷ []) ≡ false
another_first = refl

-- the closing events are events: of a client that is fed last, they come in time only where it is the first one named
closed_in_time : are_run None (Run 2 ∷ Feed 1 octet ∷ closing 1 ++ closing 2) ≡ true
closed_in_time = refl

closed_too_late : are_run None (Run 1 ∷ Feed 2 octet ∷ closing 1 ++ closing 2) ≡ false
closed_too_late = refl

-- ---- requests

abbrev tests : world.Ghosts TestWorld
tests = test_world.ghosts

abbrev init : Request
init = request.Init (record { ref_id = None; versions = 7; options = 32767; preferred = 1048576; exceptional = 1048576; login = None })

-- a term of one letter, by a Use attribute
abbrev by : ℕ → ℕ → Tree
by number letter = leaf (record { set = None; kind = 1; value = number } ∷ []) (General (letter ∷ []))

-- a Search under a name, of which no record is shown
abbrev search : List ℕ → List ℕ → Tree → Request
search name database root = request.Search (record {
  ref_id = None;
  small = 0;
  large = 1;
  medium = 0;
  replace = true;
  set_name = name;
  dbs = database ∷ [];
  small_element = None;
  medium_element = None;
  syntax = None;
  query = Good (record { attr_set = 1 ∷ 2 ∷ 840 ∷ 10003 ∷ 3 ∷ 1 ∷ []; root = root });
})

abbrev present : ℕ → Request
present number = request.Present (record {
  ref_id = None;
  set_name = codes "1";
  start = pos 1;
  number = number;
  element = Good None;
  syntax = None;
})

abbrev close : Request
close = request.Close (record { ref_id = None; reason = 0; info = None })

abbrev search_a : Request
search_a = search (codes "1") (codes "Default") (by 4 97)

-- ---- runs

-- all that requests ask, of which the first is the first of a client
abbrev asked_by : List Request → List Work
asked_by requests = works_of_units tests smallest_route (map (λ one. record { octets = []; request = Some one }) requests)

-- a client has sent these requests up to its run at a moment
abbrev run : (client at : ℕ) → List Request → ClientRun
run client at requests = record { client = client; at = at; asked = asked_by requests }

-- the searches and the dials that runs need
abbrev costs : List ClientRun → ℕ × ℕ
costs runs =
    (needed tests smallest_route 0 (uses_of smallest_route (dated_works runs)), dials_needed smallest_route 0 (uses_of smallest_route (dated_works runs)))

-- a run that adds nothing asks nothing
again : works_added (run 1 0 (init ∷ search_a ∷ []) ∷ []) (run 1 9 (init ∷ search_a ∷ [])) ≡ []
again = refl

-- two clients that ask the same share a search; one client that is run twice asks it once
shared : costs (run 1 0 (init ∷ search_a ∷ []) ∷ run 2 0 (init ∷ search_a ∷ []) ∷ run 1 60 (init ∷ search_a ∷ []) ∷ []) ≡ (1, 1)
shared = refl

-- a set is fetched from a second before it is too old, and is searched for again when it is; a session is dialled again when that is
abbrev fetched_after : ℕ → List ClientRun
fetched_after seconds = run 1 0 (init ∷ search_a ∷ []) ∷ run 1 seconds (init ∷ search_a ∷ present 1 ∷ []) ∷ []

young_set : costs (fetched_after 59) ≡ (1, 1)
young_set = refl

old_set : costs (fetched_after 60) ≡ (2, 1)
old_set = refl

young_session : costs (fetched_after 299) ≡ (2, 1)
young_session = refl

old_session : costs (fetched_after 300) ≡ (2, 2)
old_session = refl

-- another client's use in between keeps the set
abbrev three_runs : List ClientRun
three_runs = run 1 0 (init ∷ search_a ∷ []) ∷ run 2 59 (init ∷ search_a ∷ []) ∷ run 1 118 (init ∷ search_a ∷ present 1 ∷ []) ∷ []

kept_in_use : costs three_runs ≡ (1, 1)
kept_in_use = refl

-- a Search that a check refuses, and what stands behind a Close, ask nothing; nor does a Present of no record
not_asked : costs (run 1 0 (init ∷ search (codes "1") (codes "Nope") (by 4 97) ∷ close ∷ search_a ∷ []) ∷ []) ≡ (0, 0)
not_asked = refl

no_record : costs (run 1 0 (init ∷ search_a ∷ []) ∷ run 1 60 (init ∷ search_a ∷ present 0 ∷ []) ∷ []) ≡ (1, 1)
no_record = refl

-- a target that refuses a search is asked each time
abbrev refused : ℕ → ClientRun
refused client = run client 0 (init ∷ search (codes "1") (codes "Default") (by 5 97) ∷ [])

refused_twice : costs (refused 1 ∷ refused 2 ∷ []) ≡ (2, 1)
refused_twice = refl

-- ---- GETs

-- a GET from one record on, of so many at most
abbrev get : (client at start maximum : ℕ) → ClientRun
get client at start maximum = record {
  client = client;
  at = at;
  asked = works_of_due tests smallest_route (searches (record {
    legs = 0 ∷ [];
    asked = record { version = codes "1.1"; query = codes "a"; start = start; maximum = maximum; escaped = false; schema = 0 };
    query = record { attr_set = 1 ∷ 2 ∷ 840 ∷ 10003 ∷ 3 ∷ 1 ∷ []; root = by 4 97 };
  }));
}

-- it asks a search and a fetch, which need one search; where it asks for no record, or for one behind the last, it asks no fetch
of_get : costs (get 1 0 1 10 ∷ []) ≡ (1, 1)
of_get = refl

with_units : costs (run 1 0 (init ∷ search_a ∷ []) ∷ get 2 59 1 1 ∷ get 3 118 1 1 ∷ get 4 178 1 1 ∷ []) ≡ (2, 1)
with_units = refl
