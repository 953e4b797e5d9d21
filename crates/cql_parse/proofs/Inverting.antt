-- What a reading of a query begins with.
use Rattle.std.proofs.Common.{◌≡◌, ℕ, Bool, true, false, List, [], ◌∷◌, Option, Some, None, refl, sym, ◌∙◌}
use Rattle.cql_parse.specs.declared.tree.Modifier.{Modifier}
use Rattle.cql_parse.specs.declared.tree.Head.{Head}
use Rattle.cql_parse.specs.declared.tree.SortKey.{SortKey}
use Rattle.cql_parse.specs.declared.lexeme.Class.{Class}
use Rattle.cql_parse.specs.declared.lexeme.Class.TheVariants as class
use Rattle.cql_parse.specs.Tree.{Tree, clause, assigned, sorted}
use Rattle.cql_parse.specs.Classes.{lower, is_term, is_close, is_open, is_greater, is_boolean, is_sortby}
use Rattle.cql_parse.specs.Lexemes.{Lexeme, starts}
use Rattle.cql_parse.specs.Grammar.{Left, Due, operand, after, join, IsClause, IsPrefix, AreModifiers, AreKeys, Reads, plain, bracket, prefix, boolean, sort, done, ends_query}

-- how a query goes on where a clause is due
pub data FromOperand (left : Option Left) (ts : List Lexeme) (q : Tree) (end : List Lexeme) : Type 0 where
  by_clause : (head : Option Head) (text : List ℕ) (rest : List Lexeme) → IsClause ts head text rest → Reads (after (join left (clause head text))) rest q end → FromOperand left ts q end
  by_bracket : (x y : Lexeme) (more rest : List Lexeme) (inner : Tree) → ts ≡ x ∷ more → is_open x.class ≡ true → Reads (operand None) more inner (y ∷ rest) → is_close y.class ≡ true → Reads (after (join left inner)) rest q end → FromOperand left ts q end
  by_prefix : (name : Option (List ℕ)) (uri : List ℕ) (rest : List Lexeme) (inner : Tree) → IsPrefix ts name uri rest → Reads (operand None) rest inner end → q ≡ join left (assigned name uri inner) → FromOperand left ts q end

-- how a query goes on where a clause stands
pub data FromAfter (tree : Tree) (ts : List Lexeme) (q : Tree) (end : List Lexeme) : Type 0 where
  by_boolean : (x : Lexeme) (more rest : List Lexeme) (ms : List Modifier) → ts ≡ x ∷ more → is_boolean x.class ≡ true → AreModifiers more ms rest → Reads (operand (Some (record { tree = tree; boolean = lower x.text; modifiers = ms }))) rest q end → FromAfter tree ts q end
  by_sort : (x : Lexeme) (more : List Lexeme) (keys : List SortKey) → ts ≡ x ∷ more → is_sortby x.class ≡ true → AreKeys more keys end → ends_query end ≡ true → q ≡ sorted tree keys → FromAfter tree ts q end
  by_end : ends_query ts ≡ true → q ≡ tree → end ≡ ts → FromAfter tree ts q end

abbrev From : Due → List Lexeme → Tree → List Lexeme → Type 0
From (operand left) ts q end = FromOperand left ts q end
From (after tree) ts q end = FromAfter tree ts q end

from : {due : Due} {ts end : List Lexeme} {q : Tree} → Reads due ts q end → From due ts q end
from (plain {rest = rest} head text c r) = by_clause head text rest c r
from (bracket {ts = more} {rest = rest} {inner = inner} x y o i c r) = by_bracket x y more rest inner refl o i c r
from (prefix {rest = rest} {q = inner} name uri p r) = by_prefix name uri rest inner p r refl
from (boolean {ts = more} {rest = rest} x ms b m r) = by_boolean x more rest ms refl b m r
from (sort {ts = more} x keys s k e) = by_sort x more keys refl s k e refl
from (done e) = by_end e refl refl

pub from_operand : {left : Option Left} {ts end : List Lexeme} {q : Tree} → Reads (operand left) ts q end → FromOperand left ts q end
from_operand r = from r

pub from_after : {tree : Tree} {ts end : List Lexeme} {q : Tree} → Reads (after tree) ts q end → FromAfter tree ts q end
from_after r = from r

-- the classes of first tokens are apart
pub open_no_term : (c : Class) → is_open c ≡ true → is_term c ≡ false
open_no_term class.Open h = refl
open_no_term class.Close h = cc
open_no_term class.Slash h = cc
open_no_term class.Equal h = cc
open_no_term class.Greater h = cc
open_no_term class.Symbol h = cc
open_no_term class.Quoted h = cc
open_no_term class.Boolean h = cc
open_no_term class.SortBy h = cc
open_no_term class.Word h = cc

pub open_no_greater : (c : Class) → is_open c ≡ true → is_greater c ≡ false
open_no_greater class.Open h = refl
open_no_greater class.Close h = cc
open_no_greater class.Slash h = cc
open_no_greater class.Equal h = cc
open_no_greater class.Greater h = cc
open_no_greater class.Symbol h = cc
open_no_greater class.Quoted h = cc
open_no_greater class.Boolean h = cc
open_no_greater class.SortBy h = cc
open_no_greater class.Word h = cc

pub greater_no_term : (c : Class) → is_greater c ≡ true → is_term c ≡ false
greater_no_term class.Greater h = refl
greater_no_term class.Open h = cc
greater_no_term class.Close h = cc
greater_no_term class.Slash h = cc
greater_no_term class.Equal h = cc
greater_no_term class.Symbol h = cc
greater_no_term class.Quoted h = cc
greater_no_term class.Boolean h = cc
greater_no_term class.SortBy h = cc
greater_no_term class.Word h = cc

pub boolean_term : (c : Class) → is_boolean c ≡ true → is_term c ≡ true
boolean_term class.Boolean h = refl
boolean_term class.Open h = cc
boolean_term class.Close h = cc
boolean_term class.Slash h = cc
boolean_term class.Equal h = cc
boolean_term class.Greater h = cc
boolean_term class.Symbol h = cc
boolean_term class.Quoted h = cc
boolean_term class.SortBy h = cc
boolean_term class.Word h = cc

pub sortby_term : (c : Class) → is_sortby c ≡ true → is_term c ≡ true
sortby_term class.SortBy h = refl
sortby_term class.Boolean h = cc
sortby_term class.Open h = cc
sortby_term class.Close h = cc
sortby_term class.Slash h = cc
sortby_term class.Equal h = cc
sortby_term class.Greater h = cc
sortby_term class.Symbol h = cc
sortby_term class.Quoted h = cc
sortby_term class.Word h = cc

pub sortby_no_boolean : (c : Class) → is_sortby c ≡ true → is_boolean c ≡ false
sortby_no_boolean class.SortBy h = refl
sortby_no_boolean class.Boolean h = cc
sortby_no_boolean class.Open h = cc
sortby_no_boolean class.Close h = cc
sortby_no_boolean class.Slash h = cc
sortby_no_boolean class.Equal h = cc
sortby_no_boolean class.Greater h = cc
sortby_no_boolean class.Symbol h = cc
sortby_no_boolean class.Quoted h = cc
sortby_no_boolean class.Word h = cc

pub close_no_term : (c : Class) → is_close c ≡ true → is_term c ≡ false
close_no_term class.Close h = refl
close_no_term class.SortBy h = cc
close_no_term class.Boolean h = cc
close_no_term class.Open h = cc
close_no_term class.Slash h = cc
close_no_term class.Equal h = cc
close_no_term class.Greater h = cc
close_no_term class.Symbol h = cc
close_no_term class.Quoted h = cc
close_no_term class.Word h = cc

-- a clause begins with a term, a prefix assignment with its sign
pub clause_first : (ts : List Lexeme) (head : Option Head) (text : List ℕ) (rest : List Lexeme) → IsClause ts head text rest → starts is_term ts ≡ true
clause_first ts None text rest h = rw h.tokens h.is_term
clause_first ts (Some head) text rest h = rw h.tokens h.is_index

pub prefix_first : (ts : List Lexeme) (name : Option (List ℕ)) (uri : List ℕ) (rest : List Lexeme) → IsPrefix ts name uri rest → starts is_greater ts ≡ true
prefix_first ts None uri rest h = rw h.tokens h.is_sign
prefix_first ts (Some name) uri rest h = rw h.tokens h.is_sign

-- two tests of one first token
pub clash : {A : Type 0} (a b : Bool) → a ≡ true → b ≡ false → a ≡ b → A
clash a b h k e = let f : true ≡ false = sym h ∙ e ∙ k in cc

-- a term is no sign of a prefix assignment
pub term_or_greater : (ts : List Lexeme) → starts is_term ts ≡ true → starts is_greater ts ≡ true → ⊥
term_or_greater [] h k = cc
term_or_greater (x ∷ ts) h k = clash (is_term x.class) (is_term x.class) h (greater_no_term x.class k) refl
