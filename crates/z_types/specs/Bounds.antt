-- Bounds that hold everywhere (this project's own)
use Rattle.std.specs.Prelude.{ℕ, ◌-◌, ◌^◌, min}

-- octets of a unit, its header included
abbrev pub most_unit_octets : ℕ
most_unit_octets = 1048576

-- levels of elements in a unit, of which the unit is the first
abbrev pub most_levels : ℕ
most_levels = 64

-- levels of nodes in a query of either language
abbrev pub most_query_depth : ℕ
most_query_depth = 48

-- nodes of a query of type 1
abbrev pub most_query_nodes : ℕ
most_query_nodes = 4096

-- what a query of type 1 may cost
abbrev pub most_query_cost : ℕ
most_query_cost = 900000

-- a count of hits, and every INTEGER of which nothing else is said: 2^31 - 1
abbrev pub most_number : ℕ
most_number = 2147483647

-- numbers of an object identifier
abbrev pub most_arcs : ℕ
most_arcs = 32

-- octets of a name that is asked for: of a set, a database or an element set
abbrev pub most_name_octets : ℕ
most_name_octets = 4096

-- octets of a login
abbrev pub most_login_octets : ℕ
most_login_octets = 4096

-- databases of a request
abbrev pub most_databases : ℕ
most_databases = 16

-- legs of a request
abbrev pub most_legs : ℕ
most_legs = 16

-- a number, or the end of a type of 64 bits that it passes
abbrev pub within64 : ℕ → ℕ
within64 n = min n (2 ^ 64 - 1)

-- a number, or the end of a type of 32 bits that it passes
abbrev pub within32 : ℕ → ℕ
within32 n = min n (2 ^ 32 - 1)
