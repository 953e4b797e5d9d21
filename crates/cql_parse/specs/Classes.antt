-- What a token may stand for in the grammar (CQL 1.2, BNF).
use Rattle.std.specs.Prelude.{ℕ, Bool, true, false, List, map, codes, if◌then◌else◌}
use Rattle.std.specs.Str.{bytes_eq}
use Rattle.std.specs.Char.{to_ascii_lowercase}
use Rattle.cql_lex.specs.declared.token.Kind.{Kind}
use Rattle.cql_lex.specs.declared.token.Kind.TheVariants as kind
use Rattle.cql_parse.specs.declared.lexeme.Class.{Class}
use Rattle.cql_parse.specs.declared.lexeme.Class.TheVariants.{Open, Close, Slash, Equal, Greater, Symbol, Quoted, Word, Boolean, SortBy}

-- a text with its letters A to Z in lower case
abbrev pub lower : List ℕ → List ℕ
lower text = map to_ascii_lowercase text

-- a bare word: a boolean, sortby, or any other, in any case of letters
abbrev pub word_class : List ℕ → Class
word_class word =
    if bytes_eq (lower word) (codes "and") then Boolean
    else (if bytes_eq (lower word) (codes "or") then Boolean
    else (if bytes_eq (lower word) (codes "not") then Boolean
    else (if bytes_eq (lower word) (codes "prox") then Boolean
    else (if bytes_eq (lower word) (codes "sortby") then SortBy else Word))))

-- the class of a token of this kind and text
abbrev pub class_of : Kind → List ℕ → Class
class_of kind.Open text = Open
class_of kind.Close text = Close
class_of kind.Slash text = Slash
class_of kind.Equal text = Equal
class_of kind.Exact text = Symbol
class_of kind.Less text = Symbol
class_of kind.Greater text = Greater
class_of kind.LessOrEqual text = Symbol
class_of kind.GreaterOrEqual text = Symbol
class_of kind.LessOrGreater text = Symbol
class_of kind.Quoted text = Quoted
class_of kind.Word text = word_class text

-- a bare word, a boolean and sortby too
abbrev pub is_word : Class → Bool
is_word Word = true
is_word Boolean = true
is_word SortBy = true
is_word _ = false

-- term: a bare word or a quoted string
abbrev pub is_term : Class → Bool
is_term Quoted = true
is_term Word = true
is_term Boolean = true
is_term SortBy = true
is_term _ = false

-- comparitorSymbol
abbrev pub is_symbol : Class → Bool
is_symbol Equal = true
is_symbol Greater = true
is_symbol Symbol = true
is_symbol _ = false

-- relation: a symbol, or a bare word that is no boolean and not sortby
abbrev pub is_relation : Class → Bool
is_relation Equal = true
is_relation Greater = true
is_relation Symbol = true
is_relation Word = true
is_relation _ = false

-- one class each
abbrev pub is_slash : Class → Bool
is_slash Slash = true
is_slash _ = false

abbrev pub is_close : Class → Bool
is_close Close = true
is_close _ = false

abbrev pub is_equal : Class → Bool
is_equal Equal = true
is_equal _ = false

abbrev pub is_open : Class → Bool
is_open Open = true
is_open _ = false

abbrev pub is_greater : Class → Bool
is_greater Greater = true
is_greater _ = false

abbrev pub is_boolean : Class → Bool
is_boolean Boolean = true
is_boolean _ = false

abbrev pub is_sortby : Class → Bool
is_sortby SortBy = true
is_sortby _ = false
