-- Which trees queries have: each text of the tree is what the grammar has at its place (CQL 1.2,
-- BNF).
use Rattle.std.specs.Prelude.{◌≡◌, ℕ, suc, Bool, true, false, List, [], ◌∷◌, ◌++◌, length, Option, Some, None, codes, IsUtf8}
use Rattle.cql_lex.specs.Characters.{quoted_length, is_word}
use Rattle.cql_parse.specs.declared.tree.Modifier.{Modifier}
use Rattle.cql_parse.specs.declared.tree.Head.{Head}
use Rattle.cql_parse.specs.declared.tree.SortKey.{SortKey}
use Rattle.cql_parse.specs.declared.lexeme.Class.TheVariants as class
use Rattle.cql_parse.specs.Tree.{Tree, clause, joined, assigned, sorted}
use Rattle.cql_parse.specs.Classes.{word_class}

-- a string of these octets ends behind them, whatever follows (charString2)
pub record IsQuotable (text : List ℕ) : Type 0 where
  pub closes : (rest : List ℕ) → quoted_length false (text ++ 34 ∷ rest) ≡ Some (suc (length text))

-- a term: what may stand between quotes
pub record IsTermText (text : List ℕ) : Type 0 where
  pub utf8 : IsUtf8 text
  pub quotable : IsQuotable text

-- a bare word (charString1)
pub record IsWordText (text : List ℕ) : Type 0 where
  pub utf8 : IsUtf8 text
  pub word : is_word text ≡ true

-- a symbol of comparison (comparitorSymbol)
pub data IsSymbolText : List ℕ → Type 0 where
  equal : IsSymbolText (codes "=")
  exact : IsSymbolText (codes "==")
  less : IsSymbolText (codes "<")
  greater : IsSymbolText (codes ">")
  less_or_equal : IsSymbolText (codes "<=")
  greater_or_equal : IsSymbolText (codes ">=")
  less_or_greater : IsSymbolText (codes "<>")

-- a boolean, in lower case
pub data IsBooleanText : List ℕ → Type 0 where
  and_text : IsBooleanText (codes "and")
  or_text : IsBooleanText (codes "or")
  not_text : IsBooleanText (codes "not")
  prox_text : IsBooleanText (codes "prox")

-- a relation: a symbol, or a bare word that is no boolean and not sortby
pub data IsRelationText (text : List ℕ) : Type 0 where
  symbol : IsSymbolText text → IsRelationText text
  word : IsWordText text → word_class text ≡ class.Word → IsRelationText text

-- the symbol and the term of a modifier; modifiers; sort keys; what a term is searched in; a prefix
abbrev pub IsWellFormedValue : Option (List ℕ × List ℕ) → Type 0
IsWellFormedValue None = Unit {0}
IsWellFormedValue (Some value) = IsSymbolText value.0 × IsTermText value.1

abbrev pub AreWellFormedModifiers : List Modifier → Type 0
AreWellFormedModifiers [] = Unit {0}
AreWellFormedModifiers (m ∷ ms) =
    IsWordText m.name × IsWellFormedValue m.value × AreWellFormedModifiers ms

abbrev pub AreWellFormedKeys : List SortKey → Type 0
AreWellFormedKeys [] = Unit {0}
AreWellFormedKeys (k ∷ ks) =
    IsTermText k.index × AreWellFormedModifiers k.modifiers × AreWellFormedKeys ks

abbrev pub IsWellFormedHead : Option Head → Type 0
IsWellFormedHead None = Unit {0}
IsWellFormedHead (Some head) =
    IsTermText head.index × IsRelationText head.relation × AreWellFormedModifiers head.modifiers

abbrev pub IsWellFormedName : Option (List ℕ) → Type 0
IsWellFormedName None = Unit {0}
IsWellFormedName (Some name) = IsWordText name

-- there is a key
abbrev pub has_keys : List SortKey → Bool
has_keys [] = false
has_keys (k ∷ ks) = true

-- each text of the tree is of its kind
abbrev pub IsWellFormed : Tree → Type 0
IsWellFormed (clause head term) = IsWellFormedHead head × IsTermText term
IsWellFormed (joined b ms l r) =
    IsBooleanText b × AreWellFormedModifiers ms × IsWellFormed l × IsWellFormed r
IsWellFormed (assigned name uri q) = IsWellFormedName name × IsTermText uri × IsWellFormed q
IsWellFormed (sorted q keys) = (has_keys keys ≡ true) × AreWellFormedKeys keys × IsWellFormed q
