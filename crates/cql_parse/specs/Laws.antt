-- What is true of tokens and trees, whatever reads them (CQL 1.2, BNF).
use Rattle.std.specs.Prelude.{◌≡◌, ◌↔◌, ℕ, ◌⊎◌, List}
use Rattle.cql_parse.specs.Tree.{Tree}
use Rattle.cql_parse.specs.Lexemes.{Lexeme}
use Rattle.cql_parse.specs.Grammar.{IsQuery}
use Rattle.cql_parse.specs.Refusals.{IsSyntax}
use Rattle.cql_parse.specs.WellFormed.{IsWellFormed}
use Rattle.cql_parse.specs.Again.{IsTextOf}

-- tokens are a query of one tree at most
abbrev pub HasOneTree : List Lexeme → Type 0
HasOneTree ts = (a b : Tree) → IsQuery ts a → IsQuery ts b → a ≡ b

-- they are a query, or there is a token where they stop to be the beginning of one
abbrev pub HasTreeOrFault : List Lexeme → Type 0
HasTreeOrFault ts = ((t : Tree) × IsQuery ts t) ⊎ ((at : ℕ) × IsSyntax ts at)

-- there is one such token at most, and none where they are a query
abbrev pub HasOneFault : List Lexeme → Type 0
HasOneFault ts = (p q : ℕ) → IsSyntax ts p → IsSyntax ts q → p ≡ q

abbrev pub HasNotBoth : List Lexeme → Type 0
HasNotBoth ts = (p : ℕ) (t : Tree) → IsSyntax ts p → IsQuery ts t → ⊥

-- the trees of texts are the well-formed ones
abbrev pub HasTextIfWellFormed : Tree → Type 0
HasTextIfWellFormed t = ((text : List ℕ) × IsTextOf text t) ↔ IsWellFormed t
