-- For contracts alone: what the parser's parts answer (this project's own).
use Rattle.std.specs.Prelude.{◌≡◌, ℕ, Bool, true, false, List, ◌∷◌, Option, Some, None, Result, Ok, Err}
use Rattle.std.specs.Borrow.{Bor}
use Rattle.cql_lex.specs.declared.token.Token.{Token}
use Rattle.cql_parse.specs.declared.lexeme.Class.{Class}
use Rattle.cql_parse.specs.declared.lexeme.Front.{Front}
use Rattle.cql_parse.specs.declared.fault.Stop.{Stop}
use Rattle.cql_parse.specs.declared.fault.Stop.TheVariants.{NoQuery, Deep, Memory}
use Rattle.cql_parse.specs.declared.tree.Head.{Head}
use Rattle.cql_parse.specs.Grammar.{IsComparison, IsNamedPrefix}
use Rattle.cql_parse.specs.Lexemes.{Lexeme, lexemes, starts}

-- the first lexeme, and what is left behind it
abbrev pub lexeme_in : Front → Lexeme
lexeme_in f = record { class = f.class; text = f.text.now }

-- the first lexeme where it is of such a class
abbrev pub IsFront : (Class → Bool) → List ℕ → List Token → Option Front → Type 0
IsFront test text tokens None = starts test (lexemes text tokens) ≡ false
IsFront test text tokens (Some f) =
    (test f.class ≡ true) × (lexemes text tokens ≡ lexeme_in f ∷ lexemes text f.rest.now)

-- an index with its relation, and a term; a prefix and its uri
abbrev pub IsComparisonOf : List Lexeme → Head × List ℕ → List Lexeme → Type 0
IsComparisonOf ts c rest = IsComparison ts c.0 c.1 rest

abbrev pub IsNamedPrefixOf : List Lexeme → List ℕ × List ℕ → List Lexeme → Type 0
IsNamedPrefixOf ts p rest = IsNamedPrefix ts p.0 p.1 rest

-- what was found stands in this relation to the tokens left; where nothing is, nothing does
abbrev pub Finds : {X : Type 0} → List ℕ → (X → List Lexeme → Type 0)
    → Result (X × Bor (List Token)) Stop → Type 0
Finds text IsFound (Ok found) = IsFound found.0 (lexemes text found.1.now)
Finds {X} text IsFound (Err NoQuery) = (x : X) (rest : List Lexeme) → IsFound x rest → ⊥
Finds text IsFound (Err Deep) = ⊥
Finds text IsFound (Err Memory) = Unit {0}
