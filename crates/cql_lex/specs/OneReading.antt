-- A text has tokens, or a place where it is unclosed, one of them and not both
-- (this project's own claim).
use Rattle.std.specs.Prelude.{◌≡◌, ℕ, ◌⊎◌, List}
use Rattle.cql_lex.specs.Tokens.{AreTokens, IsUnclosed}
use Rattle.cql_lex.specs.declared.token.Token.{Token}

-- it has tokens, or a place where it is unclosed
abbrev pub HasReading : List ℕ → Type 0
HasReading text = ((ts : List Token) × AreTokens text ts) ⊎ ((place : ℕ) × IsUnclosed text place)

-- it has one list of tokens at most
abbrev pub HasOneList : List ℕ → Type 0
HasOneList text = (a b : List Token) → AreTokens text a → AreTokens text b → a ≡ b

-- it has one place at most where it is unclosed
abbrev pub HasOnePlace : List ℕ → Type 0
HasOnePlace text = (p q : ℕ) → IsUnclosed text p → IsUnclosed text q → p ≡ q

-- where it has tokens it is not unclosed
abbrev pub HasNotBoth : List ℕ → Type 0
HasNotBoth text = (ts : List Token) (place : ℕ) → AreTokens text ts → IsUnclosed text place → ⊥
