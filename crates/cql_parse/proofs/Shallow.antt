-- Brackets in what is written are nested no deeper than the tree has levels.
use Rattle.std.proofs.Common.{◌≡◌, ℕ, suc, ◌+◌, ◌-◌, ◌≤◌, max, Bool, true, false, codes, List, [], ◌∷◌, Option, Some, None, refl, ◌∙◌, arith}
use Rattle.cql_parse.specs.declared.tree.Modifier.{Modifier}
use Rattle.cql_parse.specs.declared.tree.Head.{Head}
use Rattle.cql_parse.specs.declared.tree.SortKey.{SortKey}
use Rattle.cql_parse.specs.Tree.{Tree, clause, joined, assigned, sorted, depth}
use Rattle.cql_parse.specs.Lexemes.{Lexeme}
use Rattle.cql_parse.specs.Written.{reaches_on, groups}
use Rattle.cql_parse.specs.Nesting.{nesting}
use Rattle.cql_parse.specs.Classes.{is_word, is_term, is_symbol, is_relation, is_slash}
use Rattle.cql_parse.proofs.Nested.{nesting_skip}
use Rattle.cql_parse.proofs.Signs.{sign_lexeme, word_lexeme, quoted_lexeme, close_lexeme, slash_lexeme}
use Rattle.cql_parse.proofs.WrittenLexemes.{index_lexeme, relation_lexeme, value_lexemes, modifiers_lexemes, keys_lexemes, head_lexemes, prefix_lexemes, part_lexemes, tree_lexemes}
use Rattle.cql_parse.proofs.Parts.{word_is_word, sign_is_symbol, index_is_term, relation_is}
use Rattle.cql_parse.specs.WellFormed.{IsSymbolText, greater, equal, IsWellFormedValue, AreWellFormedModifiers, AreWellFormedKeys, IsWellFormedHead, IsWellFormed}

-- what is no bracket leaves the nesting as it is
skip_word : (n : ℕ) (text : List ℕ) (ls : List Lexeme) → nesting n (word_lexeme text ∷ ls) ≡ nesting n ls
skip_word n text ls = nesting_skip is_word refl refl n (word_lexeme text) ls (word_is_word text)

skip_quoted : (n : ℕ) (text : List ℕ) (ls : List Lexeme) → nesting n (quoted_lexeme text ∷ ls) ≡ nesting n ls
skip_quoted n text ls = nesting_skip is_term refl refl n (quoted_lexeme text) ls refl

skip_sign : (n : ℕ) (sign : List ℕ) (ls : List Lexeme) → IsSymbolText sign → nesting n (sign_lexeme sign ∷ ls) ≡ nesting n ls
skip_sign n sign ls s = nesting_skip is_symbol refl refl n (sign_lexeme sign) ls (sign_is_symbol sign s)

skip_value : (n : ℕ) (value : Option (List ℕ × List ℕ)) (ls : List Lexeme) → IsWellFormedValue value → nesting n (value_lexemes value ls) ≡ nesting n ls
skip_value n None ls p = refl
skip_value n (Some value) ls p = skip_sign n value.0 (quoted_lexeme value.1 ∷ ls) p.0 ∙ skip_quoted n value.1 ls

skip_modifiers : (n : ℕ) (ms : List Modifier) (ls : List Lexeme) → AreWellFormedModifiers ms → nesting n (modifiers_lexemes ms ls) ≡ nesting n ls
skip_modifiers n [] ls p = refl
skip_modifiers n (m ∷ ms) ls p =
    let value = value_lexemes m.value (modifiers_lexemes ms ls) in
    nesting_skip is_slash refl refl n slash_lexeme (word_lexeme m.name ∷ value) refl
    ∙ skip_word n m.name value
    ∙ skip_value n m.value (modifiers_lexemes ms ls) p.1
    ∙ skip_modifiers n ms ls p.2

skip_index : (n : ℕ) (name : List ℕ) (ls : List Lexeme) → nesting n (index_lexeme name ∷ ls) ≡ nesting n ls
skip_index n name ls = nesting_skip is_term refl refl n (index_lexeme name) ls (index_is_term name)

skip_keys : (n : ℕ) (ks : List SortKey) (ls : List Lexeme) → AreWellFormedKeys ks → nesting n (keys_lexemes ks ls) ≡ nesting n ls
skip_keys n [] ls p = refl
skip_keys n (k ∷ ks) ls p =
    skip_index n k.index (modifiers_lexemes k.modifiers (keys_lexemes ks ls)) ∙ skip_modifiers n k.modifiers (keys_lexemes ks ls) p.1 ∙ skip_keys n ks ls p.2

skip_head : (n : ℕ) (head : Option Head) (ls : List Lexeme) → IsWellFormedHead head → nesting n (head_lexemes head ls) ≡ nesting n ls
skip_head n None ls p = refl
skip_head n (Some head) ls p =
    let ms = modifiers_lexemes head.modifiers ls in
    skip_index n head.index (relation_lexeme head.relation ∷ ms)
    ∙ nesting_skip is_relation refl refl n (relation_lexeme head.relation) ms (relation_is head.relation p.1).0
    ∙ skip_modifiers n head.modifiers ls p.2

skip_prefix : (n : ℕ) (name : Option (List ℕ)) (ls : List Lexeme) → nesting n (prefix_lexemes name ls) ≡ nesting n ls
skip_prefix n None ls = skip_sign n (62 ∷ []) ls greater
skip_prefix n (Some name) ls =
    skip_sign n (62 ∷ []) (word_lexeme name ∷ sign_lexeme (61 ∷ []) ∷ ls) greater ∙ skip_word n name (sign_lexeme (61 ∷ []) ∷ ls) ∙ skip_sign n (61 ∷ []) ls equal

-- a part in brackets has one level more
part_nests : (needed : Bool) (q : Tree) → ((n : ℕ) (ls : List Lexeme) → nesting n (tree_lexemes q ls) ≤ max (n + depth q) (nesting n ls)) → (n : ℕ) (ls : List Lexeme) → nesting n (part_lexemes needed (tree_lexemes q) ls) ≤ max (n + suc (depth q)) (nesting n ls)
part_nests false q h n ls = omega (arith, h n ls)
part_nests true q h n ls =
    let one : suc n - 1 ≡ n = omega arith in
    let closed : nesting (suc n) (close_lexeme ∷ ls) ≡ max (suc n) (nesting n ls) = rw one refl in
    omega (arith, h (suc n) (close_lexeme ∷ ls), closed)

nests : (q : Tree) → IsWellFormed q → (n : ℕ) (ls : List Lexeme) → nesting n (tree_lexemes q ls) ≤ max (n + depth q) (nesting n ls)
nests (clause head term) p n ls =
    omega (arith, skip_head n head (quoted_lexeme term ∷ ls) p.0, skip_quoted n term ls)
nests (joined b ms l r) p n ls =
    let behind = part_lexemes (groups r) (tree_lexemes r) ls in
    let more = word_lexeme b ∷ modifiers_lexemes ms behind in
    let at_left = part_nests (reaches_on l) l (nests l p.2) n more in
    let at_right = part_nests (groups r) r (nests r p.3) n ls in
    omega (arith, at_left, at_right, skip_word n b (modifiers_lexemes ms behind), skip_modifiers n ms behind p.1)
nests (assigned name uri q) p n ls =
    let behind = part_lexemes (reaches_on q) (tree_lexemes q) ls in
    omega (arith, skip_prefix n name (quoted_lexeme uri ∷ behind), skip_quoted n uri behind, part_nests (reaches_on q) q (nests q p.2) n ls)
nests (sorted q keys) p n ls =
    let behind = keys_lexemes keys ls in
    omega (arith, part_nests (reaches_on q) q (nests q p.2) n (word_lexeme (codes "sortby") ∷ behind), skip_word n (codes "sortby") behind, skip_keys n keys ls p.1)

-- the lexemes of a proper tree are nested no deeper than it has levels
pub tree_shallow : (q : Tree) → IsWellFormed q → nesting 0 (tree_lexemes q []) ≤ depth q
tree_shallow q p = omega (arith, nests q p 0 [])
