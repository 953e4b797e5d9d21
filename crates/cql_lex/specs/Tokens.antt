-- The tokens of a text (CQL 1.2, BNF): the longest symbol first, strings, bare words, and white
-- space between them.
use Rattle.std.specs.Prelude.{◌≡◌, ℕ, ◌+◌, ◌-◌, ◌<◌, ◌==◌, List, [], ◌∷◌, length, drop, slice_index, Option, Some, None, option_map, false, if◌then◌else◌}
use Rattle.cql_lex.specs.Characters.{spaces, quoted_length, word_length}
use Rattle.cql_lex.specs.declared.token.Token.{Token}
use Rattle.cql_lex.specs.declared.token.Kind.{Kind}
use Rattle.cql_lex.specs.declared.token.Kind.TheVariants.{Open, Close, Slash, Equal, Exact, Less, Greater, LessOrEqual, GreaterOrEqual, LessOrGreater, Quoted, Word}

-- a token of this kind at this place, of `len` octets
abbrev pub token : Kind → ℕ → ℕ → Token
token kind start len = record { kind = kind; start = start; end = start + len }

-- of the symbols that begin with =, <, > the longest (comparitorSymbol)
abbrev pub equal_at : ℕ → ℕ → Token
equal_at next at = if next == 61 then token Exact at 2 else token Equal at 1

abbrev pub less_at : ℕ → ℕ → Token
less_at next at =
    if next == 61 then token LessOrEqual at 2
    else (if next == 62 then token LessOrGreater at 2 else token Less at 1)

abbrev pub greater_at : ℕ → ℕ → Token
greater_at next at = if next == 61 then token GreaterOrEqual at 2 else token Greater at 1

-- a string, with both its quotes (charString2)
unfoldable pub quoted_at : List ℕ → ℕ → Option Token
quoted_at text at =
    option_map (λ len. token Quoted at (len + 1)) (quoted_length false (drop (at + 1) text))

-- a bare word (charString1)
unfoldable pub word_at : List ℕ → ℕ → Option Token
word_at text at = option_map (λ len. token Word at len) (word_length false (drop at text))

-- the token whose first octet is at this offset; none where a string or a backslash has no end
unfoldable pub token_at : List ℕ → ℕ → Option Token
token_at text at =
    let first = slice_index text at in
    let next = slice_index text (at + 1) in
    if first == 40 then Some (token Open at 1)
    else (if first == 41 then Some (token Close at 1)
    else (if first == 47 then Some (token Slash at 1)
    else (if first == 61 then Some (equal_at next at)
    else (if first == 60 then Some (less_at next at)
    else (if first == 62 then Some (greater_at next at)
    else (if first == 34 then quoted_at text at else word_at text at))))))

-- where the next token starts, or the text ends: behind the white space
unfoldable pub next_start : List ℕ → ℕ → ℕ
next_start text at = at + spaces (drop at text)

-- this token comes next from this offset on
pub record IsNext (text : List ℕ) (at : ℕ) (t : Token) : Type 0 where
  pub within : next_start text at < length text
  pub token : token_at text (next_start text at) ≡ Some t

-- from the first offset on these tokens come in order, and the last ends at the second offset
abbrev pub LeadsTo : List ℕ → ℕ → List Token → ℕ → Type 0
LeadsTo text at [] end = end ≡ at
LeadsTo text at (t ∷ ts) end = IsNext text at t × LeadsTo text t.end ts end

-- these are the tokens of the text, in order, with white space alone between and around them
abbrev pub AreTokens : List ℕ → List Token → Type 0
AreTokens text ts = (end : ℕ) × LeadsTo text 0 ts end × (next_start text end ≡ length text)

-- Behind some tokens comes a string without its end, which starts at this place, or a word whose
-- backslash, the text's last octet, has nothing to take.
abbrev pub unclosed_place : List ℕ → ℕ → ℕ
unclosed_place text start = if slice_index text start == 34 then start else length text - 1

abbrev pub IsUnclosed : List ℕ → ℕ → Type 0
IsUnclosed text place =
    (ts : List Token) × (end : ℕ) × LeadsTo text 0 ts end × (next_start text end < length text)
    × (token_at text (next_start text end) ≡ None)
    × (place ≡ unclosed_place text (next_start text end))
