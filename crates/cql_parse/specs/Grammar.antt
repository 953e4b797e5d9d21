-- The grammar of CQL (CQL 1.2, BNF), as a relation between tokens and a tree. Each rule says of the
-- tokens from some place on which part of a query they begin with, and which tokens are left behind
-- it.
use Rattle.std.specs.Prelude.{◌≡◌, ℕ, Bool, true, false, List, [], ◌∷◌, Option, Some, None}
use Rattle.cql_parse.specs.declared.tree.Modifier.{Modifier}
use Rattle.cql_parse.specs.declared.tree.Head.{Head}
use Rattle.cql_parse.specs.declared.tree.SortKey.{SortKey}
use Rattle.cql_parse.specs.Tree.{Tree, clause, joined, assigned, sorted}
use Rattle.cql_parse.specs.Classes.{lower, is_word, is_term, is_symbol, is_relation, is_slash, is_close, is_equal, is_open, is_greater, is_boolean, is_sortby}
use Rattle.cql_parse.specs.Lexemes.{Lexeme, starts}

-- { item }: items one behind another, as long as one is due
abbrev pub Repeats : {X : Type 0} → (List Lexeme → Bool) → (List Lexeme → X → List Lexeme → Type 0)
    → List Lexeme → List X → List Lexeme → Type 0
Repeats is_due IsItem ts [] rest = (is_due ts ≡ false) × (rest ≡ ts)
Repeats is_due IsItem ts (x ∷ xs) rest =
    (is_due ts ≡ true) × (more : List Lexeme) × IsItem ts x more
    × Repeats is_due IsItem more xs rest

-- "/" word
pub record IsName (ts : List Lexeme) (name : List ℕ) (rest : List Lexeme) : Type 0 where
  pub slash : Lexeme
  pub word : Lexeme
  pub tokens : ts ≡ slash ∷ word ∷ rest
  pub is_slash : is_slash slash.class ≡ true
  pub is_word : is_word word.class ≡ true
  pub spelled : word.text ≡ name

-- symbol term
pub record IsValue (ts : List Lexeme) (value : List ℕ × List ℕ) (rest : List Lexeme) : Type 0 where
  pub symbol : Lexeme
  pub term : Lexeme
  pub tokens : ts ≡ symbol ∷ term ∷ rest
  pub is_symbol : is_symbol symbol.class ≡ true
  pub is_term : is_term term.class ≡ true
  pub spelled : (symbol.text, term.text) ≡ value

-- [ symbol term ]: a symbol right behind a modifier's word always belongs to the modifier
abbrev pub MayHaveValue : List Lexeme → Option (List ℕ × List ℕ) → List Lexeme → Type 0
MayHaveValue ts None rest = (starts is_symbol ts ≡ false) × (rest ≡ ts)
MayHaveValue ts (Some value) rest = IsValue ts value rest

-- modifier := "/" word [ symbol term ]
abbrev pub IsModifier : List Lexeme → Modifier → List Lexeme → Type 0
IsModifier ts m rest = (more : List Lexeme) × IsName ts m.name more × MayHaveValue more m.value rest

abbrev pub AreModifiers : List Lexeme → List Modifier → List Lexeme → Type 0
AreModifiers = Repeats (starts is_slash) IsModifier

-- key := term { modifier }
pub record IsKey (ts : List Lexeme) (key : SortKey) (rest : List Lexeme) : Type 0 where
  pub term : Lexeme
  pub more : List Lexeme
  pub tokens : ts ≡ term ∷ more
  pub is_term : is_term term.class ≡ true
  pub index : term.text ≡ key.index
  pub modifiers : AreModifiers more key.modifiers rest

-- { key }, as long as a term comes
abbrev pub AreDueKeys : List Lexeme → List SortKey → List Lexeme → Type 0
AreDueKeys = Repeats (starts is_term) IsKey

-- key { key }: at least one
abbrev pub AreKeys : List Lexeme → List SortKey → List Lexeme → Type 0
AreKeys ts keys rest = (starts is_term ts ≡ true) × AreDueKeys ts keys rest

-- term, which no relation follows
pub record IsTerm (ts : List Lexeme) (text : List ℕ) (rest : List Lexeme) : Type 0 where
  pub term : Lexeme
  pub tokens : ts ≡ term ∷ rest
  pub is_term : is_term term.class ≡ true
  pub spelled : term.text ≡ text
  pub alone : starts is_relation rest ≡ false

-- term relation { modifier } term
pub record IsComparison (ts : List Lexeme) (head : Head) (text : List ℕ)
    (rest : List Lexeme) : Type 0 where
  pub index : Lexeme
  pub relation : Lexeme
  pub term : Lexeme
  pub more : List Lexeme
  pub tokens : ts ≡ index ∷ relation ∷ more
  pub modifiers : AreModifiers more head.modifiers (term ∷ rest)
  pub is_index : is_term index.class ≡ true
  pub is_relation : is_relation relation.class ≡ true
  pub is_term : is_term term.class ≡ true
  pub named : index.text ≡ head.index
  pub related : relation.text ≡ head.relation
  pub spelled : term.text ≡ text

-- clause := term relation { modifier } term | term
abbrev pub IsClause : List Lexeme → Option Head → List ℕ → List Lexeme → Type 0
IsClause ts None text rest = IsTerm ts text rest
IsClause ts (Some head) text rest = IsComparison ts head text rest

-- ">" term, which no "=" follows
pub record IsPlainPrefix (ts : List Lexeme) (uri : List ℕ) (rest : List Lexeme) : Type 0 where
  pub sign : Lexeme
  pub term : Lexeme
  pub tokens : ts ≡ sign ∷ term ∷ rest
  pub is_sign : is_greater sign.class ≡ true
  pub is_term : is_term term.class ≡ true
  pub assigned : term.text ≡ uri
  pub alone : starts is_equal rest ≡ false

-- ">" word "=" term
pub record IsNamedPrefix (ts : List Lexeme) (name uri : List ℕ) (rest : List Lexeme) : Type 0 where
  pub sign : Lexeme
  pub word : Lexeme
  pub equal : Lexeme
  pub term : Lexeme
  pub tokens : ts ≡ sign ∷ word ∷ equal ∷ term ∷ rest
  pub is_sign : is_greater sign.class ≡ true
  pub is_word : is_word word.class ≡ true
  pub is_equal : is_equal equal.class ≡ true
  pub is_term : is_term term.class ≡ true
  pub spelled : word.text ≡ name
  pub assigned : term.text ≡ uri

-- ">" [ word "=" ] term: what stands before the query of a prefix assignment
abbrev pub IsPrefix : List Lexeme → Option (List ℕ) → List ℕ → List Lexeme → Type 0
IsPrefix ts None uri rest = IsPlainPrefix ts uri rest
IsPrefix ts (Some name) uri rest = IsNamedPrefix ts name uri rest

-- a query ends before a closing bracket, or where the tokens end
abbrev pub ends_query : List Lexeme → Bool
ends_query [] = true
ends_query (x ∷ rest) = is_close x.class

-- what stands before a boolean's right operand: its left operand, the boolean and its modifiers
pub record Left : Type 0 where
  pub tree : Tree
  pub boolean : List ℕ
  pub modifiers : List Modifier

-- booleans have one precedence and group to the left
abbrev pub join : Option Left → Tree → Tree
join None right = right
join (Some left) right = joined left.boolean left.modifiers left.tree right

-- What comes next: a clause, behind what stands left of it in this query, or what may follow this
-- query.
pub data Due : Type 0 where
  operand : Option Left → Due
  after : Tree → Due

-- query := clause { boolean { modifier } clause } [ "sortby" key { key } ], where a clause may also
-- be a query in brackets, which leave nothing in the tree, or a prefix assignment, whose query goes
-- on as far as it can. What is due at the front of the tokens makes the query this tree, and these
-- tokens are left behind it.
pub data Reads : Due → List Lexeme → Tree → List Lexeme → Type 0 where
  plain : {left : Option Left} {ts rest end : List Lexeme} {q : Tree} (head : Option Head)
      (text : List ℕ)
      → IsClause ts head text rest → Reads (after (join left (clause head text))) rest q end
      → Reads (operand left) ts q end
  bracket : {left : Option Left} {ts rest end : List Lexeme} {inner q : Tree} (x y : Lexeme)
      → is_open x.class ≡ true → Reads (operand None) ts inner (y ∷ rest) → is_close y.class ≡ true
      → Reads (after (join left inner)) rest q end → Reads (operand left) (x ∷ ts) q end
  prefix : {left : Option Left} {ts rest end : List Lexeme} {q : Tree} (name : Option (List ℕ))
      (uri : List ℕ)
      → IsPrefix ts name uri rest → Reads (operand None) rest q end
      → Reads (operand left) ts (join left (assigned name uri q)) end
  boolean : {tree q : Tree} {ts rest end : List Lexeme} (x : Lexeme) (ms : List Modifier)
      → is_boolean x.class ≡ true → AreModifiers ts ms rest
      → Reads
      (operand (Some (record { tree = tree; boolean = lower x.text; modifiers = ms }))) rest q end
      → Reads (after tree) (x ∷ ts) q end
  sort : {tree : Tree} {ts end : List Lexeme} (x : Lexeme) (keys : List SortKey)
      → is_sortby x.class ≡ true → AreKeys ts keys end → ends_query end ≡ true
      → Reads (after tree) (x ∷ ts) (sorted tree keys) end
  done : {tree : Tree} {ts : List Lexeme} → ends_query ts ≡ true → Reads (after tree) ts tree ts

-- these tokens are a query of this tree
abbrev pub IsQuery : List Lexeme → Tree → Type 0
IsQuery ts q = Reads (operand None) ts q []
