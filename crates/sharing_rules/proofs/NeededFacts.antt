-- What works need, by computation: the searches and the dials. A set is kept for 60 seconds, a session for 300.
use Rattle.std.specs.Prelude.{◌≡◌, ℕ, List, [], ◌∷◌, Option, None, Some, refl}
use Rattle.z_types.specs.Tree.{leaf}
use Rattle.z_types.specs.declared.query.RpnQuery.{RpnQuery}
use Rattle.z_types.specs.declared.query.Term.TheVariants.{General}
use Rattle.z_types.specs.declared.work.Work.TheVariants as work
use Rattle.z_types.specs.declared.world.World as world
use Rattle.route_config.specs.Smallest.{smallest_route}
use Rattle.test_target.specs.declared.worlds.TestWorld.{TestWorld}
use Rattle.test_target.specs.contracts.worlds.TestWorldWorld.TheImpl as test_world
use Rattle.sharing_rules.specs.Uses.{DatedWork, uses_of}
use Rattle.sharing_rules.specs.Needed.{needed, dials_needed}
use Rattle.sharing_rules.specs.Orderly.{keys_used, logins_used}

abbrev tests : world.Ghosts TestWorld
tests = test_world.ghosts

-- a term of one letter, by a Use attribute
abbrev by : ℕ → ℕ → RpnQuery
by number letter = record {
  attr_set = 1 ∷ 2 ∷ 840 ∷ 10003 ∷ 3 ∷ 1 ∷ [];
  root = leaf (record { set = None; kind = 1; value = number } ∷ []) (General (letter ∷ []));
}

-- a Search that shows no record, a fetch of the first of three, and a scan, of the one leg
abbrev search_by : Option (List ℕ) → ℕ → RpnQuery → DatedWork
search_by login at query = record { at = at; work = work.Search login (0 ∷ []) query 0 1 0 None None None 100 }

abbrev search : ℕ → RpnQuery → DatedWork
search at query = search_by None at query

abbrev fetch : ℕ → RpnQuery → DatedWork
fetch at query = record { at = at; work = work.Fetch None (0 ∷ []) query (3 ∷ []) 1 1 None None }

abbrev scan : ℕ → DatedWork
scan at = record {
  at = at;
  work = work.Scan None 0 (record {
    attr_set = None;
    attrs = record { set = None; kind = 1; value = 4 } ∷ [];
    term = General (99 ∷ []);
    step = None;
    number = 5;
    position = None;
  });
}

abbrev title : ℕ → RpnQuery
title letter = by 4 letter

abbrev costs : List DatedWork → ℕ × ℕ
costs works =
    (needed tests smallest_route 0 (uses_of smallest_route works), dials_needed smallest_route 0 (uses_of smallest_route works))

nothing : costs [] ≡ (0, 0)
nothing = refl

shared : costs (search 0 (title 97) ∷ search 0 (title 97) ∷ []) ≡ (1, 1)
shared = refl

two_keys : costs (search 0 (title 97) ∷ search 0 (title 98) ∷ fetch 0 (title 97) ∷ []) ≡ (2, 1)
two_keys = refl

young_set : costs (search 0 (title 97) ∷ fetch 59 (title 97) ∷ []) ≡ (1, 1)
young_set = refl

old_set : costs (search 0 (title 97) ∷ fetch 60 (title 97) ∷ []) ≡ (2, 1)
old_set = refl

young_session : costs (search 0 (title 97) ∷ fetch 299 (title 97) ∷ []) ≡ (2, 1)
young_session = refl

old_session : costs (search 0 (title 97) ∷ fetch 300 (title 97) ∷ []) ≡ (2, 2)
old_session = refl

-- a use in between keeps the set
kept_in_use : costs (search 0 (title 97) ∷ search 59 (title 97) ∷ fetch 118 (title 97) ∷ []) ≡ (1, 1)
kept_in_use = refl

-- a scan keeps the session, and no set
kept_by_scan : costs (search 0 (title 97) ∷ scan 299 ∷ fetch 598 (title 97) ∷ []) ≡ (2, 1)
kept_by_scan = refl

-- a target that refuses a search is asked each time
refused_twice : costs (search 0 (by 5 97) ∷ search 0 (by 5 97) ∷ []) ≡ (2, 1)
refused_twice = refl

-- each login has sessions and sets of its own
two_logins : costs (search 0 (title 97) ∷ search_by (Some (97 ∷ [])) 0 (title 97) ∷ search_by (Some []) 0 (title 97) ∷ search 0 (title 97) ∷ []) ≡ (3, 3)
two_logins = refl

logins_of_three : logins_used 0 (uses_of smallest_route (search 0 (title 97) ∷ search_by (Some (97 ∷ [])) 0 (title 97) ∷ search_by (Some []) 0 (title 97) ∷ search 0 (title 98) ∷ [])) ≡ 3
logins_of_three = refl

keys_of_two : keys_used (record { class = 0; login = None }) (uses_of smallest_route (search 0 (title 97) ∷ search 0 (title 98) ∷ fetch 0 (title 97) ∷ [])) ≡ 2
keys_of_two = refl
