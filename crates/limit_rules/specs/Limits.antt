-- What one connection of Z39.50 may use (this project's own)
use Rattle.std.specs.Prelude.{ℕ, ◌+◌, ◌-◌, ◌==◌, ◌||◌, Bool, min, nat_lt, if◌then◌else◌}
use Rattle.z_types.specs.declared.limits.Limits.{Limits}
use Rattle.limit_rules.specs.declared.spent.Spent.{Spent}
use Rattle.limit_rules.specs.declared.spent.Want.{Want}
use Rattle.limit_rules.specs.declared.spent.Want.TheVariants.{Unit as AUnit, Search, Records, NewSet}
use Rattle.limit_rules.specs.declared.allowed.Allowed.{Allowed}
use Rattle.limit_rules.specs.declared.allowed.Allowed.TheVariants as allowed

-- the most records of one request
abbrev pub most_records : ℕ
most_records = 1000

-- no unit may come after this many
abbrev pub are_units_spent : Limits → (units : ℕ) → Bool
are_units_spent limits units = units == limits.units

-- no Search may be asked after this many
abbrev pub are_searches_spent : Limits → (searches : ℕ) → Bool
are_searches_spent limits searches = searches == limits.searches

-- no set of a new name may be made beside this many
abbrev pub are_sets_full : Limits → (sets : ℕ) → Bool
are_sets_full limits sets = sets == limits.sets

-- this many records are too many for one request, or after those that were given
abbrev pub are_too_many : Limits → (given number : ℕ) → Bool
are_too_many limits given number =
    nat_lt most_records number || nat_lt limits.records (given + number)

-- the most records that are not too many
abbrev pub room : Limits → (given : ℕ) → ℕ
room limits given = min most_records (limits.records - given)

-- what a client that has used this much may have of what it wants
abbrev pub allowed_of : Limits → Spent → Want → Allowed
allowed_of limits spent AUnit =
    if are_units_spent limits spent.units then allowed.Units else allowed.Ok
allowed_of limits spent Search =
    if are_searches_spent limits spent.searches then allowed.Searches else allowed.Ok
allowed_of limits spent (Records number) =
    if are_too_many limits spent.records number then allowed.Records else allowed.Ok
allowed_of limits spent NewSet =
    if are_sets_full limits spent.sets then allowed.Sets else allowed.Ok

-- each refusal's number
abbrev pub allowed_number : Allowed → ℕ
allowed_number allowed.Ok = 0
allowed_number allowed.Units = 1
allowed_number allowed.Searches = 2
allowed_number allowed.Records = 3
allowed_number allowed.Sets = 4
