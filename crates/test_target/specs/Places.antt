-- Which records a query finds at the test target n, in the order of its result set
-- (this project's own)
use Rattle.std.specs.Prelude.{ℕ, ◌+◌, Bool, List, [], ◌∷◌, map, take, unwrap_or, if◌then◌else◌}
use Rattle.std.specs.List.{flat_map}
use Rattle.z_types.specs.declared.key.SetKey.{SetKey}
use Rattle.test_target.specs.declared.places.Location.{Location}
use Rattle.test_target.specs.Databases.{size_of}
use Rattle.test_target.specs.Searches.{found_in}

-- the records of these numbers of a database
abbrev pub of_database : List ℕ → List ℕ → List Location
of_database name numbers = map (λ i. record { name = name; number = i }) numbers

-- what is found, database by database in the order named, in each by number
abbrev pub places : ℕ → SetKey → List Location
places n key = flat_map (λ name. of_database name (found_in n key.query.root name)) key.dbs

-- the numbers of what is marked, counted from here on
abbrev pub marked : ℕ → List Bool → List ℕ
marked number [] = []
marked number (is_found ∷ found) =
    if is_found then number ∷ marked (number + 1) found else marked (number + 1) found

-- what is found of a database, by which of the first records are found in any
abbrev pub places_of : ℕ → List Bool → List ℕ → List Location
places_of n found name = of_database name (marked 1 (take (unwrap_or (size_of n name) 0) found))
