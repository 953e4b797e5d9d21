-- When the parser refuses tokens (CQL 1.2, BNF; the limits of 48 are this project's own).
use Rattle.std.specs.Prelude.{◌≡◌, ℕ, zero, suc, ◌<◌, ◌≤◌, ◌⊎◌, List, [], ◌∷◌, ◌++◌, length, take}
use Rattle.cql_lex.specs.declared.token.Token.{Token}
use Rattle.cql_parse.specs.declared.fault.ParseFault.{ParseFault}
use Rattle.cql_parse.specs.declared.fault.ParseFault.TheVariants.{Syntax, TooDeep, Memory}
use Rattle.cql_parse.specs.Tree.{Tree, depth}
use Rattle.cql_parse.specs.Lexemes.{Lexeme, lexemes}
use Rattle.cql_parse.specs.Grammar.{IsQuery}
use Rattle.cql_parse.specs.Nesting.{nesting}
use Rattle.z_types.specs.Bounds.{most_query_depth}

-- some query begins with these tokens, however deep it is
abbrev pub Begins : List Lexeme → Type 0
Begins front = (more : List Lexeme) × (t : Tree) × IsQuery (front ++ more) t

-- The tokens before this one begin a query, and with it they begin none; at the tokens' end, they
-- begin a query and are none.
pub record IsSyntax (ts : List Lexeme) (at : ℕ) : Type 0 where
  pub within : at ≤ length ts
  pub before : Begins (take at ts)
  pub token : at < length ts → ¬ (Begins (take (suc at) ts))
  pub end : at ≡ length ts → (t : Tree) → ¬ (IsQuery ts t)

-- where the token of this number starts, or the text ends
abbrev pub place_of : List ℕ → List Token → ℕ → ℕ
place_of text [] at = length text
place_of text (t ∷ rest) zero = t.start
place_of text (t ∷ rest) (suc at) = place_of text rest at

-- brackets are nested deeper than 48, or the tree has more than 48 levels
abbrev pub IsTooDeep : List Lexeme → Tree → Type 0
IsTooDeep ts t = (most_query_depth < depth t) ⊎ (most_query_depth < nesting 0 ts)

-- each tree of the tokens is too deep
abbrev pub IsNeverShallow : List Lexeme → Type 0
IsNeverShallow ts = (t : Tree) → IsQuery ts t → IsTooDeep ts t

-- this is why the tokens of the text give no tree
abbrev pub IsRefusal : List ℕ → List Token → ParseFault → Type 0
IsRefusal text tokens Memory = Unit {0}
IsRefusal text tokens (Syntax place) =
    (at : ℕ) × IsSyntax (lexemes text tokens) at × (place ≡ place_of text tokens at)
IsRefusal text tokens TooDeep =
    (t : Tree) × IsQuery (lexemes text tokens) t × IsTooDeep (lexemes text tokens) t
