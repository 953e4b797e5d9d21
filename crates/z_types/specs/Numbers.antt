-- Numbers of requests in the ranges of their fields (this project's own;
-- ANSI/NISO Z39.50-2003 sets no upper bounds): 0 to 2147483647 where no other range is told.
use Rattle.std.specs.Prelude.{ℕ, ◌≤◌, IfSome}
use Rattle.std.specs.List.{AllByRecursion}
use Rattle.z_types.specs.Bounds.{most_number}
use Rattle.z_types.specs.Tree.{Tree, leaf, operand, and, or, and_not}
use Rattle.z_types.specs.declared.query.Attr.{Attr}
use Rattle.z_types.specs.declared.query.RpnQuery.{RpnQuery}
use Rattle.z_types.specs.declared.requests.Asked.{Asked}
use Rattle.z_types.specs.declared.requests.Asked.TheVariants.{Good, Bad}
use Rattle.z_types.specs.declared.requests.Init.{Init}
use Rattle.z_types.specs.declared.requests.Search.{Search}
use Rattle.z_types.specs.declared.requests.Request.{Request}
use Rattle.z_types.specs.declared.requests.Request.TheVariants as request
use Rattle.z_types.specs.declared.scan.ScanAsk.{ScanAsk}

-- a number of a field
abbrev pub IsNumber : ℕ → Type 0
IsNumber value = value ≤ most_number

-- the type and the value of an attribute
abbrev pub HasNumbers : Attr → Type 0
HasNumbers attr = IsNumber attr.kind × IsNumber attr.value

-- all attributes of all operands
abbrev pub HasNumbersOnly : Tree → Type 0
HasNumbersOnly (leaf attrs term) = AllByRecursion HasNumbers attrs
HasNumbersOnly (operand name) = Unit {0}
HasNumbersOnly (and l r) = HasNumbersOnly l × HasNumbersOnly r
HasNumbersOnly (or l r) = HasNumbersOnly l × HasNumbersOnly r
HasNumbersOnly (and_not l r) = HasNumbersOnly l × HasNumbersOnly r

-- what is asked is so, where its form is served
abbrev pub IfGood : {A : Type 0} → Asked A → (A → Type 0) → Type 0
IfGood (Good asked) P = P asked
IfGood (Bad diag) P = Unit {0}

-- the query of a Search
abbrev pub QueryHasNumbers : RpnQuery → Type 0
QueryHasNumbers query = HasNumbersOnly query.root

-- the bounds and the query of a Search
pub record SearchHasNumbers (search : Search) : Type 0 where
  pub small : IsNumber search.small
  pub large : IsNumber search.large
  pub medium : IsNumber search.medium
  pub query : IfGood search.query QueryHasNumbers

-- what a Scan asks for
pub record ScanHasNumbers (ask : ScanAsk) : Type 0 where
  pub attrs : AllByRecursion HasNumbers ask.attrs
  pub step : IfSome ask.step IsNumber
  pub number : IsNumber ask.number
  pub position : IfSome ask.position IsNumber

-- a request; the start of a Present is any number of 8 octets
abbrev pub HasNumbersInRange : Request → Type 0
HasNumbersInRange (request.Init init) = IsNumber init.preferred × IsNumber init.exceptional
HasNumbersInRange (request.Search search) = SearchHasNumbers search
HasNumbersInRange (request.Present present) = IsNumber present.number
HasNumbersInRange (request.Scan scan) = IfGood scan.ask ScanHasNumbers
HasNumbersInRange (request.Close close) = IsNumber close.reason
