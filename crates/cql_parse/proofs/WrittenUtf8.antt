-- What is written of texts that are UTF-8 is UTF-8.
use Rattle.std.proofs.Common.{◌≡◌, ℕ, ◌<◌, Bool, true, false, ◌&&◌, nat_lt, codes, List, [], ◌∷◌, ◌++◌, Option, Some, None, IsUtf8, refl, arith, ltb-true}
use Rattle.std.proofs.lemmas.Str.{IsUtf8-append, IsUtf8-from_ascii, IsUtf8-nil}
use Rattle.std.proofs.lemmas.Str.Ascii.{IsAscii-nil, IsAscii-cons}
use Rattle.cql_lex.specs.Characters.{is_word}
use Rattle.cql_parse.specs.declared.tree.Modifier.{Modifier}
use Rattle.cql_parse.specs.declared.tree.Head.{Head}
use Rattle.cql_parse.specs.declared.tree.SortKey.{SortKey}
use Rattle.cql_parse.specs.Tree.{Tree, clause, joined, assigned, sorted}
use Rattle.cql_parse.specs.Written.{quoted, bracketed, index_text, value_text, modifiers_text, keys_text, head_text, prefix_text, reaches_on, groups, written}
use Rattle.cql_parse.proofs.Cuts.{by_test}
use Rattle.cql_parse.specs.WellFormed.{IsSymbolText, equal, exact, less, greater, less_or_equal, greater_or_equal, less_or_greater, IsBooleanText, and_text, or_text, not_text, prox_text, IsRelationText, symbol, word, IsWellFormedValue, AreWellFormedModifiers, AreWellFormedKeys, IsWellFormedHead, IsWellFormedName, IsWellFormed}

-- an octet below 128 before a text
before : (b : ℕ) (text : List ℕ) → b < 128 → IsUtf8 text → IsUtf8 (b ∷ text)
before b text low u = IsUtf8-append (b ∷ []) text (IsUtf8-from_ascii (b ∷ []) (IsAscii-cons b [] low IsAscii-nil)) u

-- octets below 128 alone
all_low : List ℕ → Bool
all_low [] = true
all_low (b ∷ rest) = nat_lt b 128 && all_low rest

low_utf8 : (text : List ℕ) → all_low text ≡ true → IsUtf8 text
unfolding all_low
low_utf8 [] h = IsUtf8-nil
low_utf8 (b ∷ rest) h = go (nat_lt b 128) refl h (λ (e : all_low rest ≡ true). low_utf8 rest e)
  where
    go : (low : Bool) → nat_lt b 128 ≡ low → (low && all_low rest) ≡ true → (all_low rest ≡ true → IsUtf8 rest) → IsUtf8 (b ∷ rest)
    go true e f more = before b rest (ltb-true b 128 e) (more f)
    go false e f more = cc

sign_utf8 : (sign : List ℕ) → IsSymbolText sign → IsUtf8 sign
unfolding all_low
sign_utf8 sign equal = low_utf8 sign refl
sign_utf8 sign exact = low_utf8 sign refl
sign_utf8 sign less = low_utf8 sign refl
sign_utf8 sign greater = low_utf8 sign refl
sign_utf8 sign less_or_equal = low_utf8 sign refl
sign_utf8 sign greater_or_equal = low_utf8 sign refl
sign_utf8 sign less_or_greater = low_utf8 sign refl

boolean_utf8 : (b : List ℕ) → IsBooleanText b → IsUtf8 b
unfolding all_low
boolean_utf8 b and_text = low_utf8 b refl
boolean_utf8 b or_text = low_utf8 b refl
boolean_utf8 b not_text = low_utf8 b refl
boolean_utf8 b prox_text = low_utf8 b refl

sort_utf8 : IsUtf8 (codes " sortby")
unfolding all_low
sort_utf8 = low_utf8 (codes " sortby") refl

-- between quotes, and between brackets
quoted_utf8 : (text : List ℕ) → IsUtf8 text → IsUtf8 (quoted text)
quoted_utf8 text u = before 34 (text ++ 34 ∷ []) (omega arith) (IsUtf8-append text (34 ∷ []) u (before 34 [] (omega arith) IsUtf8-nil))

bracketed_utf8 : (needed : Bool) (text : List ℕ) → IsUtf8 text → IsUtf8 (bracketed needed text)
bracketed_utf8 false text u = u
bracketed_utf8 true text u = before 40 (text ++ 41 ∷ []) (omega arith) (IsUtf8-append text (41 ∷ []) u (before 41 [] (omega arith) IsUtf8-nil))

-- the parts that hold no query
index_utf8 : (name : List ℕ) → IsUtf8 name → IsUtf8 (index_text name)
index_utf8 name u = by_test (is_word name) (λ w. rw w u) (λ w. rw w (quoted_utf8 name u))

relation_utf8 : (text : List ℕ) → IsRelationText text → IsUtf8 text
relation_utf8 text (symbol s) = sign_utf8 text s
relation_utf8 text (word w c) = w.utf8

value_utf8 : (value : Option (List ℕ × List ℕ)) → IsWellFormedValue value → IsUtf8 (value_text value)
value_utf8 None p = IsUtf8-nil
value_utf8 (Some value) p = IsUtf8-append value.0 (quoted value.1) (sign_utf8 value.0 p.0) (quoted_utf8 value.1 p.1.utf8)

-- three texts one behind another
three_utf8 : (a b c : List ℕ) → IsUtf8 a → IsUtf8 b → IsUtf8 c → IsUtf8 (a ++ b ++ c)
three_utf8 a b c u v w = IsUtf8-append (a ++ b) c (IsUtf8-append a b u v) w

modifiers_utf8 : (ms : List Modifier) → AreWellFormedModifiers ms → IsUtf8 (modifiers_text ms)
modifiers_utf8 [] p = IsUtf8-nil
modifiers_utf8 (m ∷ ms) p =
    before 47 (m.name ++ value_text m.value ++ modifiers_text ms) (omega arith) (three_utf8 m.name (value_text m.value) (modifiers_text ms) p.0.utf8 (value_utf8 m.value p.1) (modifiers_utf8 ms p.2))

keys_utf8 : (ks : List SortKey) → AreWellFormedKeys ks → IsUtf8 (keys_text ks)
keys_utf8 [] p = IsUtf8-nil
keys_utf8 (k ∷ ks) p =
    before 32 (index_text k.index ++ modifiers_text k.modifiers ++ keys_text ks) (omega arith) (three_utf8 (index_text k.index) (modifiers_text k.modifiers) (keys_text ks) (index_utf8 k.index p.0.utf8) (modifiers_utf8 k.modifiers p.1) (keys_utf8 ks p.2))

-- a text, white space, two more and white space before the last
spaced_utf8 : (a b c d : List ℕ) → IsUtf8 a → IsUtf8 b → IsUtf8 c → IsUtf8 d → IsUtf8 (a ++ 32 ∷ b ++ c ++ 32 ∷ d)
spaced_utf8 a b c d s t u w = IsUtf8-append (a ++ 32 ∷ b ++ c) (32 ∷ d) (three_utf8 a (32 ∷ b) c s (before 32 b (omega arith) t) u) (before 32 d (omega arith) w)

head_utf8 : (head : Option Head) → IsWellFormedHead head → IsUtf8 (head_text head)
head_utf8 None p = IsUtf8-nil
head_utf8 (Some head) p =
    spaced_utf8 (index_text head.index) head.relation (modifiers_text head.modifiers) [] (index_utf8 head.index p.0.utf8) (relation_utf8 head.relation p.1) (modifiers_utf8 head.modifiers p.2) IsUtf8-nil

prefix_utf8 : (name : Option (List ℕ)) → IsWellFormedName name → IsUtf8 (prefix_text name)
unfolding all_low
prefix_utf8 None p = low_utf8 (62 ∷ 32 ∷ []) refl
prefix_utf8 (Some name) p =
    before 62 (32 ∷ name ++ 32 ∷ 61 ∷ 32 ∷ []) (omega arith) (before 32 (name ++ 32 ∷ 61 ∷ 32 ∷ []) (omega arith) (IsUtf8-append name (32 ∷ 61 ∷ 32 ∷ []) p.utf8 (low_utf8 (32 ∷ 61 ∷ 32 ∷ []) refl)))

-- a proper tree is written in UTF-8
pub written_utf8 : (q : Tree) → IsWellFormed q → IsUtf8 (written q)
written_utf8 (clause head term) p = IsUtf8-append (head_text head) (quoted term) (head_utf8 head p.0) (quoted_utf8 term p.1.utf8)
written_utf8 (joined b ms l r) p =
    spaced_utf8 (bracketed (reaches_on l) (written l)) b (modifiers_text ms) (bracketed (groups r) (written r)) (bracketed_utf8 (reaches_on l) (written l) (written_utf8 l p.2)) (boolean_utf8 b p.0) (modifiers_utf8 ms p.1) (bracketed_utf8 (groups r) (written r) (written_utf8 r p.3))
written_utf8 (assigned name uri q) p =
    three_utf8 (prefix_text name) (quoted uri) (32 ∷ bracketed (reaches_on q) (written q)) (prefix_utf8 name p.0) (quoted_utf8 uri p.1.utf8) (before 32 (bracketed (reaches_on q) (written q)) (omega arith) (bracketed_utf8 (reaches_on q) (written q) (written_utf8 q p.2)))
written_utf8 (sorted q keys) p =
    three_utf8 (bracketed (reaches_on q) (written q)) (codes " sortby") (keys_text keys) (bracketed_utf8 (reaches_on q) (written q) (written_utf8 q p.2)) sort_utf8 (keys_utf8 keys p.1)
