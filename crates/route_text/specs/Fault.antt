-- For contracts alone: how a refusal is told (this project's own): its number, and the text that is
-- printed behind it. Want of memory has neither.
use Rattle.std.specs.Prelude.{ℕ, List, [], ◌∷◌, ◌++◌, codes}
use Rattle.std.specs.Fmt.{decimal}
use Rattle.route_text.specs.declared.fault.RouteFault.{RouteFault}
use Rattle.route_text.specs.declared.fault.RouteFault.TheVariants.{Toml, Missing, WrongKind, OutOfRange, Twice, NoSuchTarget, TooMany, TtlOrder, Unknown, NoSuchUser, NoSuchDatabase, Memory}

abbrev pub fault_number : RouteFault → ℕ
fault_number Toml = 1
fault_number (Missing path) = 2
fault_number (WrongKind path) = 3
fault_number (OutOfRange path value) = 4
fault_number (Twice name) = 5
fault_number (NoSuchTarget name) = 6
fault_number (TooMany path count) = 7
fault_number TtlOrder = 8
fault_number (Unknown path) = 9
fault_number (NoSuchUser name) = 10
fault_number (NoSuchDatabase name) = 11
fault_number Memory = 0

-- two texts with a space between them
abbrev pub spaced : List ℕ → List ℕ → List ℕ
spaced one other = one ++ 32 ∷ other

abbrev pub fault_text : RouteFault → List ℕ
fault_text Toml = codes "toml"
fault_text (Missing path) = path
fault_text (WrongKind path) = path
fault_text (OutOfRange path value) = spaced path value
fault_text (Twice name) = name
fault_text (NoSuchTarget name) = name
fault_text (TooMany path count) = spaced path (decimal count)
fault_text TtlOrder = codes "pool.set_ttl"
fault_text (Unknown path) = path
fault_text (NoSuchUser name) = name
fault_text (NoSuchDatabase name) = name
fault_text Memory = []
