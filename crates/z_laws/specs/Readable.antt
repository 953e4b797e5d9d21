-- Requests whose written form is read (this project's own): their numbers are in the ranges that
-- are read, their object identifiers are some (X.660, 7.6), and they hold nothing that has no
-- written form.
use Rattle.std.specs.Prelude.{ℕ, List, Option, IfSome}
use Rattle.std.specs.List.{AllByRecursion}
use Rattle.z_types.specs.Tree.{Tree, leaf, operand, and, or, and_not}
use Rattle.z_types.specs.Numbers.{IsNumber}
use Rattle.z_types.specs.declared.query.Attr.{Attr}
use Rattle.z_types.specs.declared.query.Term.{Term}
use Rattle.z_types.specs.declared.query.Term.TheVariants.{General, Number, Words}
use Rattle.z_types.specs.declared.query.RpnQuery.{RpnQuery}
use Rattle.z_types.specs.declared.requests.Asked.{Asked}
use Rattle.z_types.specs.declared.requests.Asked.TheVariants.{Good, Bad}
use Rattle.z_types.specs.declared.requests.Init.{Init}
use Rattle.z_types.specs.declared.requests.Search.{Search}
use Rattle.z_types.specs.declared.requests.Present.{Present}
use Rattle.z_types.specs.declared.requests.Close.{Close}
use Rattle.z_types.specs.declared.requests.Request.{Request}
use Rattle.z_types.specs.declared.requests.Request.TheVariants as request
use Rattle.z_types.specs.declared.scan.ScanAsk.{ScanAsk}
use Rattle.z_ber.specs.Values.{IsInteger, IsBits, IsOid}
use Rattle.unit_forms.specs.Logins.{IsLoginIf}

-- what is asked has a written form, and so has no refusal in its place
abbrev pub IsAsked : {A : Type 0} → (A → Type 0) → Asked A → Type 0
IsAsked P (Good asked) = P asked
IsAsked P (Bad diag) = ⊥

-- an Init, and the answer to one, apart from the login
pub record IsReadableInit (init : Init) : Type 0 where
  pub versions : IsBits init.versions
  pub options : IsBits init.options
  pub preferred : IsNumber init.preferred
  pub exceptional : IsNumber init.exceptional

-- an attribute
pub record IsReadableAttr (attr : Attr) : Type 0 where
  pub set : IfSome attr.set IsOid
  pub kind : IsNumber attr.kind
  pub value : IsNumber attr.value

-- a term: an integer is one of at most 8 octets
abbrev pub IsReadableTerm : Term → Type 0
IsReadableTerm (General octets) = Unit {0}
IsReadableTerm (Number value) = IsInteger value
IsReadableTerm (Words octets) = Unit {0}

-- the structure of a query
abbrev pub IsReadableTree : Tree → Type 0
IsReadableTree (leaf attrs term) = AllByRecursion IsReadableAttr attrs × IsReadableTerm term
IsReadableTree (operand name) = Unit {0}
IsReadableTree (and l r) = IsReadableTree l × IsReadableTree r
IsReadableTree (or l r) = IsReadableTree l × IsReadableTree r
IsReadableTree (and_not l r) = IsReadableTree l × IsReadableTree r

-- a query of type 1
abbrev pub IsReadableQuery : RpnQuery → Type 0
IsReadableQuery query = IsOid query.attr_set × IsReadableTree query.root

-- a Search
pub record IsReadableSearch (search : Search) : Type 0 where
  pub small : IsNumber search.small
  pub large : IsNumber search.large
  pub medium : IsNumber search.medium
  pub syntax : IfSome search.syntax IsOid
  pub query : IsAsked IsReadableQuery search.query

-- an element set name that is asked for, or none
abbrev pub IsAnyName : Option (List ℕ) → Type 0
IsAnyName name = Unit {0}

-- a Present
pub record IsReadablePresent (present : Present) : Type 0 where
  pub start : IsInteger present.start
  pub number : IsNumber present.number
  pub element : IsAsked IsAnyName present.element
  pub syntax : IfSome present.syntax IsOid

-- what a Scan asks for
pub record IsReadableAsk (ask : ScanAsk) : Type 0 where
  pub attr_set : IfSome ask.attr_set IsOid
  pub attrs : AllByRecursion IsReadableAttr ask.attrs
  pub term : IsReadableTerm ask.term
  pub step : IfSome ask.step IsNumber
  pub number : IsNumber ask.number
  pub position : IfSome ask.position IsNumber

-- a Close
abbrev pub IsReadableClose : Close → Type 0
IsReadableClose close = IsNumber close.reason

-- a request
abbrev pub IsReadable : Request → Type 0
IsReadable (request.Init init) = IsReadableInit init × IsLoginIf init.login
IsReadable (request.Search search) = IsReadableSearch search
IsReadable (request.Present present) = IsReadablePresent present
IsReadable (request.Scan scan) = IsAsked IsReadableAsk scan.ask
IsReadable (request.Close close) = IsReadableClose close
