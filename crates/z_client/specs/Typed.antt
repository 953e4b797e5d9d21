-- What is true of an ask by its types alone (X.660, 7.6; X.690:2021, 8.3): each object identifier
-- is one, and an integer that is a term has at most 8 octets
use Rattle.std.specs.Prelude.{IfSome}
use Rattle.std.specs.List.{AllByRecursion}
use Rattle.z_types.specs.Tree.{Tree, leaf, operand, and, or, and_not}
use Rattle.z_types.specs.declared.ask.Ask.{Ask}
use Rattle.z_types.specs.declared.ask.Ask.TheVariants.{Search, Present, Scan}
use Rattle.z_types.specs.declared.query.Attr.{Attr}
use Rattle.z_types.specs.declared.query.RpnQuery.{RpnQuery}
use Rattle.z_types.specs.declared.scan.ScanAsk.{ScanAsk}
use Rattle.z_ber.specs.Values.{IsOid}
use Rattle.z_laws.specs.Readable.{IsReadableTerm}

-- of an attribute
abbrev pub IsTypedAttr : Attr → Type 0
IsTypedAttr attr = IfSome attr.set IsOid

-- of the structure of a query
abbrev pub IsTypedTree : Tree → Type 0
IsTypedTree (leaf attrs term) = AllByRecursion IsTypedAttr attrs × IsReadableTerm term
IsTypedTree (operand name) = Unit {0}
IsTypedTree (and l r) = IsTypedTree l × IsTypedTree r
IsTypedTree (or l r) = IsTypedTree l × IsTypedTree r
IsTypedTree (and_not l r) = IsTypedTree l × IsTypedTree r

-- of a query
pub record IsTypedQuery (query : RpnQuery) : Type 0 where
  pub attr_set : IsOid query.attr_set
  pub root : IsTypedTree query.root

-- of what a scan asks for
pub record IsTypedScan (ask : ScanAsk) : Type 0 where
  pub attr_set : IfSome ask.attr_set IsOid
  pub attrs : AllByRecursion IsTypedAttr ask.attrs
  pub term : IsReadableTerm ask.term

-- of an ask
abbrev pub IsTypedAsk : Ask → Type 0
IsTypedAsk (Search name key) = IsTypedQuery key.query
IsTypedAsk (Present name first count syntax element) = IfSome syntax IsOid
IsTypedAsk (Scan dbs ask) = IsTypedScan ask
