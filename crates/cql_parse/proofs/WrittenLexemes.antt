-- The lexemes of what is written, by the tree alone.
use Rattle.std.proofs.Common.{◌≡◌, ℕ, ◌==◌, Bool, true, false, if◌then◌else◌, codes, List, [], ◌∷◌, ◌++◌, Option, Some, None, refl, sym, subst, append_assoc}
use Rattle.cql_lex.specs.Characters.{ends_word, is_word}
use Rattle.cql_parse.specs.declared.tree.Modifier.{Modifier}
use Rattle.cql_parse.specs.declared.tree.Head.{Head}
use Rattle.cql_parse.specs.declared.tree.SortKey.{SortKey}
use Rattle.cql_parse.specs.Tree.{Tree, clause, joined, assigned, sorted}
use Rattle.cql_parse.specs.Lexemes.{Lexeme}
use Rattle.cql_parse.specs.Written.{quoted, bracketed, index_text, value_text, modifiers_text, keys_text, head_text, prefix_text, reaches_on, groups, written}
use Rattle.cql_parse.proofs.Fronts.{Lexed, lexed_space}
use Rattle.cql_parse.proofs.Cuts.{ends_before, by_test}
use Rattle.cql_parse.proofs.Signs.{sign_lexeme, word_lexeme, quoted_lexeme, open_lexeme, close_lexeme, slash_lexeme, lexed_open, lexed_close, lexed_slash, lexed_sign, lexed_quoted, lexed_word}
use Rattle.cql_parse.specs.WellFormed.{IsSymbolText, equal, exact, less, greater, less_or_equal, greater_or_equal, less_or_greater, IsTermText, IsBooleanText, and_text, or_text, not_text, prox_text, IsRelationText, symbol, word, IsWellFormedValue, AreWellFormedModifiers, AreWellFormedKeys, IsWellFormedHead, IsWellFormedName, IsWellFormed}

-- an index or a sort key, and a relation
abbrev pub index_lexeme : List ℕ → Lexeme
index_lexeme name = if is_word name then word_lexeme name else quoted_lexeme name

abbrev pub relation_lexeme : List ℕ → Lexeme
relation_lexeme text = if is_word text then word_lexeme text else sign_lexeme text

-- a modifier's symbol and term, modifiers, sort keys, each before other lexemes
abbrev pub value_lexemes : Option (List ℕ × List ℕ) → List Lexeme → List Lexeme
value_lexemes None ls = ls
value_lexemes (Some value) ls = sign_lexeme value.0 ∷ quoted_lexeme value.1 ∷ ls

abbrev pub modifiers_lexemes : List Modifier → List Lexeme → List Lexeme
modifiers_lexemes [] ls = ls
modifiers_lexemes (m ∷ ms) ls = slash_lexeme ∷ word_lexeme m.name ∷ value_lexemes m.value (modifiers_lexemes ms ls)

abbrev pub keys_lexemes : List SortKey → List Lexeme → List Lexeme
keys_lexemes [] ls = ls
keys_lexemes (k ∷ ks) ls = index_lexeme k.index ∷ modifiers_lexemes k.modifiers (keys_lexemes ks ls)

-- what stands before a term, and before a uri
abbrev pub head_lexemes : Option Head → List Lexeme → List Lexeme
head_lexemes None ls = ls
head_lexemes (Some head) ls = index_lexeme head.index ∷ relation_lexeme head.relation ∷ modifiers_lexemes head.modifiers ls

abbrev pub prefix_lexemes : Option (List ℕ) → List Lexeme → List Lexeme
prefix_lexemes None ls = sign_lexeme (62 ∷ []) ∷ ls
prefix_lexemes (Some name) ls = sign_lexeme (62 ∷ []) ∷ word_lexeme name ∷ sign_lexeme (61 ∷ []) ∷ ls

-- a part between brackets where they are needed
abbrev pub part_lexemes : Bool → (List Lexeme → List Lexeme) → List Lexeme → List Lexeme
part_lexemes true part ls = open_lexeme ∷ part (close_lexeme ∷ ls)
part_lexemes false part ls = part ls

-- the lexemes of a query as it is written, before other lexemes
abbrev pub tree_lexemes : Tree → List Lexeme → List Lexeme
tree_lexemes (clause head term) ls = head_lexemes head (quoted_lexeme term ∷ ls)
tree_lexemes (joined b ms l r) ls =
    part_lexemes (reaches_on l) (tree_lexemes l) (word_lexeme b ∷ modifiers_lexemes ms (part_lexemes (groups r) (tree_lexemes r) ls))
tree_lexemes (assigned name uri q) ls = prefix_lexemes name (quoted_lexeme uri ∷ part_lexemes (reaches_on q) (tree_lexemes q) ls)
tree_lexemes (sorted q keys) ls = part_lexemes (reaches_on q) (tree_lexemes q) (word_lexeme (codes "sortby") ∷ keys_lexemes keys ls)

-- four texts one behind another
regroup : (a b c d : List ℕ) → (a ++ b ++ c) ++ d ≡ a ++ (b ++ (c ++ d))
regroup a b c d = simp append_assoc

-- octets that begin with one that ends a word and a symbol
pub record Gap (octets : List ℕ) : Type 0 where
  first : ℕ
  rest : List ℕ
  is : octets ≡ first ∷ rest
  ends : ends_word first ≡ true
  no_equal : (first == 61) ≡ false
  no_greater : (first == 62) ≡ false

gap_space : (rest : List ℕ) → Gap (32 ∷ rest)
gap_space rest = record { first = 32; rest = rest; is = refl; ends = refl; no_equal = refl; no_greater = refl }

gap_modifiers : (ms : List Modifier) (rest : List ℕ) → Gap rest → Gap (modifiers_text ms ++ rest)
gap_modifiers [] rest g = g
gap_modifiers (m ∷ ms) rest g = record { first = 47; rest = (m.name ++ value_text m.value ++ modifiers_text ms) ++ rest; is = refl; ends = refl; no_equal = refl; no_greater = refl }

gap_ends : (octets : List ℕ) → Gap octets → ends_before octets ≡ true
gap_ends octets g = rw g.is g.ends

-- what modifiers, sort keys and a modifier's symbol begin with ends a word
ends_modifiers : (ms : List Modifier) (rest : List ℕ) → ends_before rest ≡ true → ends_before (modifiers_text ms ++ rest) ≡ true
ends_modifiers [] rest h = h
ends_modifiers (m ∷ ms) rest h = refl

ends_keys : (ks : List SortKey) (rest : List ℕ) → ends_before rest ≡ true → ends_before (keys_text ks ++ rest) ≡ true
ends_keys [] rest h = h
ends_keys (k ∷ ks) rest h = refl

ends_sign : (sign rest : List ℕ) → IsSymbolText sign → ends_before (sign ++ rest) ≡ true
ends_sign sign rest equal = refl
ends_sign sign rest exact = refl
ends_sign sign rest less = refl
ends_sign sign rest greater = refl
ends_sign sign rest less_or_equal = refl
ends_sign sign rest greater_or_equal = refl
ends_sign sign rest less_or_greater = refl

ends_value : (value : Option (List ℕ × List ℕ)) (rest : List ℕ) → IsWellFormedValue value → ends_before rest ≡ true → ends_before (value_text value ++ rest) ≡ true
ends_value None rest p h = h
ends_value (Some value) rest p h = rw (append_assoc value.0 (quoted value.1) rest) (ends_sign value.0 (quoted value.1 ++ rest) p.0)

-- a sign is no bare word
sign_no_word : (sign : List ℕ) → IsSymbolText sign → is_word sign ≡ false
sign_no_word sign equal = refl
sign_no_word sign exact = refl
sign_no_word sign less = refl
sign_no_word sign greater = refl
sign_no_word sign less_or_equal = refl
sign_no_word sign greater_or_equal = refl
sign_no_word sign less_or_greater = refl

-- the parts that hold no query
written_index : (name rest : List ℕ) (ls : List Lexeme) → IsTermText name → ends_before rest ≡ true → Lexed rest ls → Lexed (index_text name ++ rest) (index_lexeme name ∷ ls)
written_index name rest ls t ends h = by_test (is_word name)
    (λ w. rw w (lexed_word name rest ls w ends h))
    (λ w. rw w (lexed_quoted name rest ls t.quotable h))

written_relation : (text rest : List ℕ) (ls : List Lexeme) → IsRelationText text → Gap rest → Lexed rest ls → Lexed (text ++ rest) (relation_lexeme text ∷ ls)
written_relation text rest ls (word w c) g h =
    let is = w.word in rw is (lexed_word text rest ls is (gap_ends rest g) h)
written_relation text rest ls (symbol s) g h =
    let none = sign_no_word text s in
    rw none (subst (λ (r : List ℕ). Lexed (text ++ r) (sign_lexeme text ∷ ls)) (sym g.is) (lexed_sign text s g.first g.rest ls g.no_equal g.no_greater (subst (λ (r : List ℕ). Lexed r ls) g.is h)))

written_value : (value : Option (List ℕ × List ℕ)) (rest : List ℕ) (ls : List Lexeme) → IsWellFormedValue value → Lexed rest ls → Lexed (value_text value ++ rest) (value_lexemes value ls)
written_value None rest ls p h = h
written_value (Some value) rest ls p h =
    rw (append_assoc value.0 (quoted value.1) rest) (lexed_sign value.0 p.0 34 ((value.1 ++ 34 ∷ []) ++ rest) (quoted_lexeme value.1 ∷ ls) refl refl (lexed_quoted value.1 rest ls p.1.quotable h))

written_modifiers : (ms : List Modifier) (rest : List ℕ) (ls : List Lexeme) → AreWellFormedModifiers ms → ends_before rest ≡ true → Lexed rest ls → Lexed (modifiers_text ms ++ rest) (modifiers_lexemes ms ls)
written_modifiers [] rest ls p ends h = h
written_modifiers (m ∷ ms) rest ls p ends h =
    let more = written_modifiers ms rest ls p.2 ends h in
    let value = written_value m.value (modifiers_text ms ++ rest) (modifiers_lexemes ms ls) p.1 more in
    let name = lexed_word m.name (value_text m.value ++ (modifiers_text ms ++ rest)) (value_lexemes m.value (modifiers_lexemes ms ls)) p.0.word (ends_value m.value (modifiers_text ms ++ rest) p.1 (ends_modifiers ms rest ends)) value in
    let shape : (m.name ++ value_text m.value ++ modifiers_text ms) ++ rest ≡ m.name ++ (value_text m.value ++ (modifiers_text ms ++ rest)) = regroup m.name (value_text m.value) (modifiers_text ms) rest in
    lexed_slash ((m.name ++ value_text m.value ++ modifiers_text ms) ++ rest) (word_lexeme m.name ∷ value_lexemes m.value (modifiers_lexemes ms ls)) (rw shape name)

written_keys : (ks : List SortKey) (rest : List ℕ) (ls : List Lexeme) → AreWellFormedKeys ks → ends_before rest ≡ true → Lexed rest ls → Lexed (keys_text ks ++ rest) (keys_lexemes ks ls)
written_keys [] rest ls p ends h = h
written_keys (k ∷ ks) rest ls p ends h =
    let more = written_keys ks rest ls p.2 ends h in
    let after_index = ends_modifiers k.modifiers (keys_text ks ++ rest) (ends_keys ks rest ends) in
    let ms = written_modifiers k.modifiers (keys_text ks ++ rest) (keys_lexemes ks ls) p.1 (ends_keys ks rest ends) more in
    let index = written_index k.index (modifiers_text k.modifiers ++ (keys_text ks ++ rest)) (modifiers_lexemes k.modifiers (keys_lexemes ks ls)) p.0 after_index ms in
    let shape : (index_text k.index ++ modifiers_text k.modifiers ++ keys_text ks) ++ rest ≡ index_text k.index ++ (modifiers_text k.modifiers ++ (keys_text ks ++ rest)) = regroup (index_text k.index) (modifiers_text k.modifiers) (keys_text ks) rest in
    lexed_space 32 ((index_text k.index ++ modifiers_text k.modifiers ++ keys_text ks) ++ rest) (index_lexeme k.index ∷ modifiers_lexemes k.modifiers (keys_lexemes ks ls)) refl (subst (λ (s : List ℕ). Lexed s (index_lexeme k.index ∷ modifiers_lexemes k.modifiers (keys_lexemes ks ls))) (sym shape) index)

written_head : (head : Option Head) (rest : List ℕ) (ls : List Lexeme) → IsWellFormedHead head → Lexed rest ls → Lexed (head_text head ++ rest) (head_lexemes head ls)
written_head None rest ls p h = h
written_head (Some head) rest ls p h =
    let ms = written_modifiers head.modifiers (32 ∷ rest) ls p.2 refl (lexed_space 32 rest ls refl h) in
    let relation = written_relation head.relation (modifiers_text head.modifiers ++ 32 ∷ rest) (modifiers_lexemes head.modifiers ls) p.1 (gap_modifiers head.modifiers (32 ∷ rest) (gap_space rest)) ms in
    let gap = lexed_space 32 (head.relation ++ (modifiers_text head.modifiers ++ 32 ∷ rest)) (relation_lexeme head.relation ∷ modifiers_lexemes head.modifiers ls) refl relation in
    let index = written_index head.index (32 ∷ head.relation ++ (modifiers_text head.modifiers ++ 32 ∷ rest)) (relation_lexeme head.relation ∷ modifiers_lexemes head.modifiers ls) p.0 refl gap in
    subst (λ (s : List ℕ). Lexed s (index_lexeme head.index ∷ relation_lexeme head.relation ∷ modifiers_lexemes head.modifiers ls)) (shape (index_text head.index) head.relation (modifiers_text head.modifiers)) index
  where
    shape : (a b c : List ℕ) → a ++ (32 ∷ b ++ (c ++ 32 ∷ rest)) ≡ (a ++ 32 ∷ b ++ c ++ 32 ∷ []) ++ rest
    shape a b c = simp append_assoc

-- a sign and white space
written_sign : (sign rest : List ℕ) (ls : List Lexeme) → IsSymbolText sign → Lexed rest ls → Lexed (sign ++ 32 ∷ rest) (sign_lexeme sign ∷ ls)
written_sign sign rest ls s h = lexed_sign sign s 32 rest ls refl refl (lexed_space 32 rest ls refl h)

written_prefix : (name : Option (List ℕ)) (rest : List ℕ) (ls : List Lexeme) → IsWellFormedName name → Lexed rest ls → Lexed (prefix_text name ++ rest) (prefix_lexemes name ls)
written_prefix None rest ls p h = written_sign (62 ∷ []) rest ls greater h
written_prefix (Some name) rest ls p h =
    let equal_sign = written_sign (61 ∷ []) rest ls equal h in
    let gap = lexed_space 32 (61 ∷ 32 ∷ rest) (sign_lexeme (61 ∷ []) ∷ ls) refl equal_sign in
    let named = lexed_word name (32 ∷ 61 ∷ 32 ∷ rest) (sign_lexeme (61 ∷ []) ∷ ls) p.word refl gap in
    let all = written_sign (62 ∷ []) (name ++ 32 ∷ 61 ∷ 32 ∷ rest) (word_lexeme name ∷ sign_lexeme (61 ∷ []) ∷ ls) greater named in
    subst (λ (s : List ℕ). Lexed s (prefix_lexemes (Some name) ls)) shape all
  where
    shape : 62 ∷ 32 ∷ name ++ 32 ∷ 61 ∷ 32 ∷ rest ≡ (62 ∷ 32 ∷ name ++ 32 ∷ 61 ∷ 32 ∷ []) ++ rest
    shape = simp append_assoc

-- what is written lays its lexemes out before any other octets that end a word
abbrev HasWrittenLexemes : Tree → Type 0
HasWrittenLexemes q = (rest : List ℕ) (ls : List Lexeme) → ends_before rest ≡ true → Lexed rest ls → Lexed (written q ++ rest) (tree_lexemes q ls)

written_part : (needed : Bool) (q : Tree) → HasWrittenLexemes q → (rest : List ℕ) (ls : List Lexeme) → ends_before rest ≡ true → Lexed rest ls → Lexed (bracketed needed (written q) ++ rest) (part_lexemes needed (tree_lexemes q) ls)
written_part false q laid rest ls ends h = laid rest ls ends h
written_part true q laid rest ls ends h =
    let inner = laid (41 ∷ rest) (close_lexeme ∷ ls) refl (lexed_close rest ls h) in
    let shape : written q ++ 41 ∷ rest ≡ (written q ++ 41 ∷ []) ++ rest = sym (append_assoc (written q) (41 ∷ []) rest) in
    lexed_open ((written q ++ 41 ∷ []) ++ rest) (tree_lexemes q (close_lexeme ∷ ls)) (subst (λ (s : List ℕ). Lexed s (tree_lexemes q (close_lexeme ∷ ls))) shape inner)

boolean_word : (b : List ℕ) → IsBooleanText b → is_word b ≡ true
boolean_word b and_text = refl
boolean_word b or_text = refl
boolean_word b not_text = refl
boolean_word b prox_text = refl

written_joined : (b : List ℕ) (ms : List Modifier) (l r : Tree) → IsBooleanText b → AreWellFormedModifiers ms → HasWrittenLexemes l → HasWrittenLexemes r → HasWrittenLexemes (joined b ms l r)
written_joined b ms l r is p written_l written_r rest ls ends h =
    let right = bracketed (groups r) (written r) ++ rest in
    let behind = part_lexemes (groups r) (tree_lexemes r) ls in
    let part = written_part (groups r) r written_r rest ls ends h in
    let mods = written_modifiers ms (32 ∷ right) behind p refl (lexed_space 32 right behind refl part) in
    let named = lexed_word b (modifiers_text ms ++ 32 ∷ right) (modifiers_lexemes ms behind) (boolean_word b is) (ends_modifiers ms (32 ∷ right) refl) mods in
    let gap = lexed_space 32 (b ++ (modifiers_text ms ++ 32 ∷ right)) (word_lexeme b ∷ modifiers_lexemes ms behind) refl named in
    let all = written_part (reaches_on l) l written_l (32 ∷ b ++ (modifiers_text ms ++ 32 ∷ right)) (word_lexeme b ∷ modifiers_lexemes ms behind) refl gap in
    subst (λ (s : List ℕ). Lexed s (tree_lexemes (joined b ms l r) ls)) (shape (bracketed (reaches_on l) (written l)) (modifiers_text ms) (bracketed (groups r) (written r))) all
  where
    shape : (a c d : List ℕ) → a ++ (32 ∷ b ++ (c ++ 32 ∷ (d ++ rest))) ≡ (a ++ 32 ∷ b ++ c ++ 32 ∷ d) ++ rest
    shape a c d = simp append_assoc

written_assigned : (name : Option (List ℕ)) (uri : List ℕ) (q : Tree) → IsWellFormedName name → IsTermText uri → HasWrittenLexemes q → HasWrittenLexemes (assigned name uri q)
written_assigned name uri q p t laid rest ls ends h =
    let inner = bracketed (reaches_on q) (written q) ++ rest in
    let behind = part_lexemes (reaches_on q) (tree_lexemes q) ls in
    let part = lexed_space 32 inner behind refl (written_part (reaches_on q) q laid rest ls ends h) in
    let named = lexed_quoted uri (32 ∷ inner) behind t.quotable part in
    let all = written_prefix name (quoted uri ++ 32 ∷ inner) (quoted_lexeme uri ∷ behind) p named in
    subst (λ (s : List ℕ). Lexed s (tree_lexemes (assigned name uri q) ls)) (shape (prefix_text name) (quoted uri) (bracketed (reaches_on q) (written q))) all
  where
    shape : (a b c : List ℕ) → a ++ (b ++ 32 ∷ (c ++ rest)) ≡ (a ++ b ++ 32 ∷ c) ++ rest
    shape a b c = simp append_assoc

written_sorted : (q : Tree) (keys : List SortKey) → AreWellFormedKeys keys → HasWrittenLexemes q → HasWrittenLexemes (sorted q keys)
written_sorted q keys p laid rest ls ends h =
    let after_word = ends_keys keys rest ends in
    let ks = written_keys keys rest ls p ends h in
    let named = lexed_word (codes "sortby") (keys_text keys ++ rest) (keys_lexemes keys ls) refl after_word ks in
    let gap = lexed_space 32 (codes "sortby" ++ (keys_text keys ++ rest)) (word_lexeme (codes "sortby") ∷ keys_lexemes keys ls) refl named in
    let all = written_part (reaches_on q) q laid (codes " sortby" ++ (keys_text keys ++ rest)) (word_lexeme (codes "sortby") ∷ keys_lexemes keys ls) refl gap in
    subst (λ (s : List ℕ). Lexed s (tree_lexemes (sorted q keys) ls)) (sym (regroup (bracketed (reaches_on q) (written q)) (codes " sortby") (keys_text keys) rest)) all

-- the lexemes of a proper tree as it is written
pub written_tree : (q : Tree) → IsWellFormed q → (rest : List ℕ) (ls : List Lexeme) → ends_before rest ≡ true → Lexed rest ls → Lexed (written q ++ rest) (tree_lexemes q ls)
written_tree (clause head term) p rest ls ends h =
    let named = lexed_quoted term rest ls p.1.quotable h in
    let all = written_head head (quoted term ++ rest) (quoted_lexeme term ∷ ls) p.0 named in
    subst (λ (s : List ℕ). Lexed s (tree_lexemes (clause head term) ls)) (sym (append_assoc (head_text head) (quoted term) rest)) all
written_tree (joined b ms l r) p rest ls ends h = written_joined b ms l r p.0 p.1 (written_tree l p.2) (written_tree r p.3) rest ls ends h
written_tree (assigned name uri q) p rest ls ends h = written_assigned name uri q p.0 p.1 (written_tree q p.2) rest ls ends h
written_tree (sorted q keys) p rest ls ends h = written_sorted q keys p.1 (written_tree q p.2) rest ls ends h
