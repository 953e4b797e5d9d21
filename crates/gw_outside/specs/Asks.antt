-- What a session may be asked for (this project's own): an ask whose unit, and the reply to it, are
-- within the bounds of units
use Rattle.std.specs.Prelude.{◌≡◌, ℕ, ◌+◌, ◌≤◌, List, length, Option, Some, IfSome}
use Rattle.std.specs.List.{AllByRecursion}
use Rattle.z_types.specs.Bounds.{most_databases, most_name_octets, most_query_depth, most_query_nodes, most_query_cost}
use Rattle.z_types.specs.Numbers.{IsNumber, HasNumbers}
use Rattle.z_types.specs.QueryMeasures.{tree_depth, tree_cost, leaf_cost}
use Rattle.z_types.specs.Tree.{Tree, tree_size, leaf, operand, and, or, and_not}
use Rattle.z_types.specs.declared.ask.Ask.{Ask}
use Rattle.z_types.specs.declared.ask.Ask.TheVariants.{Search, Present, Scan}
use Rattle.z_types.specs.declared.key.SetKey.{SetKey}
use Rattle.z_types.specs.declared.scan.ScanAsk.{ScanAsk}

-- a name is short
abbrev pub IsShort : List ℕ → Type 0
IsShort name = length name ≤ most_name_octets

-- a few short names of databases
pub record AreFewShort (dbs : List (List ℕ)) : Type 0 where
  pub few : length dbs ≤ most_databases
  pub each : AllByRecursion IsShort dbs

-- no operand is a result set, and the numbers of all attributes are some
abbrev pub HasNoSet : Tree → Type 0
HasNoSet (leaf attrs term) = AllByRecursion HasNumbers attrs
HasNoSet (operand name) = ⊥
HasNoSet (and l r) = HasNoSet l × HasNoSet r
HasNoSet (or l r) = HasNoSet l × HasNoSet r
HasNoSet (and_not l r) = HasNoSet l × HasNoSet r

-- what is searched is within the bounds of queries
pub record MaySearch (name : List ℕ) (key : SetKey) : Type 0 where
  pub short : IsShort name
  pub databases : AreFewShort key.dbs
  pub no_set : HasNoSet key.query.root
  pub small : tree_size key.query.root ≤ most_query_nodes
  pub shallow : tree_depth key.query.root ≤ most_query_depth
  pub cheap : tree_cost key.query.root ≤ most_query_cost

-- the records are some of a set that was made
pub record MayPresent (made : List ℕ → Option (SetKey × ℕ)) (name : List ℕ) (first count : ℕ)
    (element : Option (List ℕ)) : Type 0 where
  pub key : SetKey
  pub hits : ℕ
  pub is_made : made name ≡ Some (key, hits)
  pub short : IsShort name
  pub from_one : 1 ≤ first
  pub some : 1 ≤ count
  pub within : first + count ≤ hits + 1
  pub first_number : IsNumber first
  pub count_number : IsNumber count
  pub short_element : IfSome element IsShort

-- the index is within the bounds of queries
pub record MayScan (dbs : List (List ℕ)) (ask : ScanAsk) : Type 0 where
  pub databases : AreFewShort dbs
  pub attrs : AllByRecursion HasNumbers ask.attrs
  pub cheap : leaf_cost ask.attrs ask.term ≤ most_query_cost
  pub number : IsNumber ask.number
  pub step : IfSome ask.step IsNumber
  pub position : IfSome ask.position IsNumber

-- what a session that made these sets may be asked for
abbrev pub MayAsk : (List ℕ → Option (SetKey × ℕ)) → Ask → Type 0
MayAsk made (Search name key) = MaySearch name key
MayAsk made (Present name first count syntax element) = MayPresent made name first count element
MayAsk made (Scan dbs ask) = MayScan dbs ask
