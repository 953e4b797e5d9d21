-- The tokens of a text as the grammar sees them: their class, and their text as it stands (CQL 1.2,
-- BNF).
use Rattle.std.specs.Prelude.{ℕ, ◌+◌, ◌-◌, Bool, false, List, [], ◌∷◌, map, take, drop}
use Rattle.cql_lex.specs.declared.token.Token.{Token}
use Rattle.cql_lex.specs.declared.token.Kind.{Kind}
use Rattle.cql_lex.specs.declared.token.Kind.TheVariants.{Quoted}
use Rattle.cql_parse.specs.declared.lexeme.Class.{Class}
use Rattle.cql_parse.specs.Classes.{class_of}

-- a token without its place
pub record Lexeme : Type 0 where
  pub class : Class
  pub text : List ℕ

-- the octets of a text from one offset up to another
abbrev pub between : List ℕ → ℕ → ℕ → List ℕ
between text start end = take (end - start) (drop start text)

-- a token's octets, without the quotes of a string
abbrev pub text_of : List ℕ → Kind → ℕ → ℕ → List ℕ
text_of text Quoted start end = between text (start + 1) (end - 1)
text_of text _ start end = between text start end

abbrev pub lexeme_of : List ℕ → Token → Lexeme
lexeme_of text t =
    let octets = text_of text t.kind t.start t.end in record {
      class = class_of t.kind octets;
      text = octets;
    }

abbrev pub lexemes : List ℕ → List Token → List Lexeme
lexemes text tokens = map (lexeme_of text) tokens

-- the first lexeme is of such a class
abbrev pub starts : (Class → Bool) → List Lexeme → Bool
starts test [] = false
starts test (x ∷ rest) = test x.class
