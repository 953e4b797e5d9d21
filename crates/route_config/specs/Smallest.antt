-- The smallest configuration, and the route that it is (this project's own)
use Rattle.std.specs.Prelude.{ℕ, false, List, [], ◌∷◌, ◌++◌, codes}
use Rattle.std.specs.List.{flat_map}
use Rattle.z_types.specs.declared.address.Address.TheVariants.{Test}
use Rattle.route_config.specs.declared.route.Route.{Route}

-- the lines of the smallest configuration
abbrev pub smallest_lines : List (List ℕ)
smallest_lines =
    codes "[[target]]" ∷ codes "name = \"alpha\"" ∷ codes "address = \"test:0\"" ∷ []
    ++ [] ∷ codes "[[database]]" ∷ codes "name = \"Default\"" ∷ []
    ++ [] ∷ codes "[[database.leg]]" ∷ codes "via = \"alpha\""
    ∷ codes "databases = [\"Default\"]" ∷ []

-- its octets, each line ended by LF
abbrev pub smallest_text : List ℕ
smallest_text = flat_map (λ line. line ++ 10 ∷ []) smallest_lines

-- its route: one target, one database, the default numbers, indexes and schema, no users and no
-- rules
abbrev pub smallest_route : Route
smallest_route = record {
  targets = (record { name = codes "alpha"; address = Test 0 }) ∷ [];
  groups = [];
  databases = (record { name = codes "Default"; hide_errors = false; legs = 0 ∷ [] }) ∷ [];
  legs = (record { database = 0; class = 0; databases = codes "Default" ∷ [] }) ∷ [];
  classes = (record { name = codes "alpha"; addresses = Test 0 ∷ [] }) ∷ [];
  pool = record {
    max_sessions = 64;
    sets_max = 10;
    session_ttl = 300;
    set_ttl = 60;
    repeats = 2;
    patience = 1000;
  };
  limits = record { units = 100000; searches = 10000; records = 100000; sets = 32 };
  indexes =
      (record { name = codes "dc.title"; value = 4 })
      ∷ (record { name = codes "dc.creator"; value = 1003 })
      ∷ (record { name = codes "dc.subject"; value = 21 })
      ∷ (record { name = codes "bath.isbn"; value = 7 })
      ∷ (record { name = codes "bath.issn"; value = 8 })
      ∷ (record { name = codes "cql.anywhere"; value = 1016 }) ∷ [];
  schemas =
      (record { name = codes "dc"; uri = codes "info:srw/schema/1/dc-v1.1"; element = codes "dc" })
      ∷ [];
  users = [];
  rules = [];
  cache_records = 0;
  cache_record_bytes = 4096;
}
