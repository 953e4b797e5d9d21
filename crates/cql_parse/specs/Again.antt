-- What it is for octets to be the text of a query (CQL 1.2).
use Rattle.std.specs.Prelude.{ℕ, ◌≤◌, List, IsUtf8}
use Rattle.cql_lex.specs.declared.token.Token.{Token}
use Rattle.cql_lex.specs.Tokens.{AreTokens}
use Rattle.cql_parse.specs.Tree.{Tree, depth}
use Rattle.cql_parse.specs.Lexemes.{lexemes}
use Rattle.cql_parse.specs.Grammar.{IsQuery}
use Rattle.cql_parse.specs.Nesting.{nesting}

-- these are the tokens of a text that is UTF-8
abbrev pub AreTokensOf : List ℕ → List Token → Type 0
AreTokensOf text tokens = IsUtf8 text × AreTokens text tokens

-- UTF-8 whose tokens are a query of this tree (BNF: cqlQuery)
pub record IsTextOf (text : List ℕ) (tree : Tree) : Type 0 where
  pub utf8 : IsUtf8 text
  pub tokens : List Token
  pub lexed : AreTokens text tokens
  pub query : IsQuery (lexemes text tokens) tree

-- the brackets in this text are nested so deep at most (this project's own)
abbrev pub IsNestedWithin : List ℕ → ℕ → Type 0
IsNestedWithin text most =
    (tokens : List Token) → AreTokens text tokens → nesting 0 (lexemes text tokens) ≤ most

-- and no deeper than this tree has levels
abbrev pub IsNoDeeper : List ℕ → Tree → Type 0
IsNoDeeper text tree = IsNestedWithin text (depth tree)
