-- The lexemes of a proper tree as it is written are a query of that tree.
use Rattle.std.proofs.Common.{◌≡◌, ℕ, Bool, true, false, codes, List, [], ◌∷◌, Option, Some, None, refl, sym, subst}
use Rattle.std.proofs.lemmas.Bool.{false≢true}
use Rattle.cql_parse.specs.declared.tree.Modifier.{Modifier}
use Rattle.cql_parse.specs.declared.tree.Head.{Head}
use Rattle.cql_parse.specs.declared.tree.SortKey.{SortKey}
use Rattle.cql_parse.specs.declared.lexeme.Class.{Class}
use Rattle.cql_parse.specs.declared.lexeme.Class.TheVariants as class
use Rattle.cql_parse.specs.Tree.{Tree, clause, joined, assigned, sorted}
use Rattle.cql_parse.specs.Classes.{lower, is_symbol, is_relation, is_slash, is_equal, is_boolean, is_sortby, is_close}
use Rattle.cql_parse.specs.Lexemes.{Lexeme, starts}
use Rattle.cql_parse.specs.Grammar.{Left, operand, after, join, Reads, plain, bracket, prefix, boolean, sort, done, ends_query}
use Rattle.cql_parse.specs.Written.{reaches_on, groups}
use Rattle.cql_parse.proofs.Inverting.{FromAfter, by_boolean, by_sort, by_end, from_after}
use Rattle.cql_parse.proofs.Signs.{word_lexeme, open_lexeme, close_lexeme}
use Rattle.cql_parse.proofs.WrittenLexemes.{modifiers_lexemes, keys_lexemes, part_lexemes, tree_lexemes}
use Rattle.cql_parse.proofs.Parts.{term_no, index_is_term, are_modifiers, are_keys, is_clause, is_prefix}
use Rattle.cql_parse.specs.WellFormed.{IsBooleanText, and_text, or_text, not_text, prox_text, AreWellFormedModifiers, AreWellFormedKeys, IsWellFormedHead, has_keys, IsWellFormed}

-- behind a query so far comes no relation
no_relation : (tree : Tree) (ls : List Lexeme) (q : Tree) (end : List Lexeme) → FromAfter tree ls q end → starts is_relation ls ≡ false
no_relation tree ls q end (by_boolean x more rest ms e b m r) = rw e (go x.class b)
  where
    go : (c : Class) → is_boolean c ≡ true → is_relation c ≡ false
    go class.Boolean h = refl
    go _ h = absurd (false≢true h)
no_relation tree ls q end (by_sort x more keys e s k f g) = rw e (go x.class s)
  where
    go : (c : Class) → is_sortby c ≡ true → is_relation c ≡ false
    go class.SortBy h = refl
    go _ h = absurd (false≢true h)
no_relation tree [] q end (by_end e f g) = refl
no_relation tree (x ∷ ls) q end (by_end e f g) = go x.class e
  where
    go : (c : Class) → is_close c ≡ true → is_relation c ≡ false
    go class.Close h = refl
    go _ h = absurd (false≢true h)

-- a test that no bracket and no term passes
pub record IsApart (test : Class → Bool) : Type 0 where
  bracket : test class.Open ≡ false
  quoted : test class.Quoted ≡ false
  word : test class.Word ≡ false
  boolean : test class.Boolean ≡ false
  sortby : test class.SortBy ≡ false

-- what is written begins with a bracket or a term, but for a prefix assignment
groups_more : (q : Tree) → groups q ≡ false → reaches_on q ≡ false
groups_more (clause head term) h = refl
groups_more (joined b ms l r) h = refl
groups_more (assigned name uri q) h = absurd (false≢true (sym h))
groups_more (sorted q keys) h = absurd (false≢true (sym h))

clause_start : (test : Class → Bool) → IsApart test → (head : Option Head) (term : List ℕ) (ls : List Lexeme) → starts test (tree_lexemes (clause head term) ls) ≡ false
clause_start test a None term ls = a.quoted
clause_start test a (Some head) term ls = term_no test a.quoted a.word a.boolean a.sortby _ (index_is_term head.index)

tree_start : (test : Class → Bool) → IsApart test → (q : Tree) → reaches_on q ≡ false → (ls : List Lexeme) → starts test (tree_lexemes q ls) ≡ false
tree_start test a (clause head term) h ls = clause_start test a head term ls
tree_start test a (joined b ms l r) h ls = go (reaches_on l) refl (λ (e : reaches_on l ≡ false) (xs : List Lexeme). tree_start test a l e xs)
  where
    go : (needed : Bool) → reaches_on l ≡ needed → (reaches_on l ≡ false → (xs : List Lexeme) → starts test (tree_lexemes l xs) ≡ false) → starts test (tree_lexemes (joined b ms l r) ls) ≡ false
    go true e more = rw e a.bracket
    go false e more = rw e (more e (word_lexeme b ∷ modifiers_lexemes ms (part_lexemes (groups r) (tree_lexemes r) ls)))
tree_start test a (assigned name uri q) h ls = absurd (false≢true (sym h))
tree_start test a (sorted q keys) h ls = absurd (false≢true (sym h))

part_start : (test : Class → Bool) → IsApart test → (needed : Bool) (q : Tree) → (needed ≡ false → reaches_on q ≡ false) → (ls : List Lexeme) → starts test (part_lexemes needed (tree_lexemes q) ls) ≡ false
part_start test a true q h ls = a.bracket
part_start test a false q h ls = tree_start test a q (h refl) ls

no_slash : IsApart is_slash
no_slash = record { bracket = refl; quoted = refl; word = refl; boolean = refl; sortby = refl }

no_symbol : IsApart is_symbol
no_symbol = record { bracket = refl; quoted = refl; word = refl; boolean = refl; sortby = refl }

no_equal : IsApart is_equal
no_equal = record { bracket = refl; quoted = refl; word = refl; boolean = refl; sortby = refl }

-- A tree's lexemes are read as the tree: as a whole query, as the left part of a larger one, and as the right
-- part, the latter two without brackets.
pub record ReadsAs (q : Tree) : Type 0 where
  whole : (ls : List Lexeme) → ends_query ls ≡ true → Reads (operand None) (tree_lexemes q ls) q ls
  on_left : reaches_on q ≡ false → (ls : List Lexeme) (p : Tree) (end : List Lexeme) → Reads (after q) ls p end → Reads (operand None) (tree_lexemes q ls) p end
  on_right : groups q ≡ false → (left : Left) (ls : List Lexeme) (p : Tree) (end : List Lexeme) → Reads (after (join (Some left) q)) ls p end → Reads (operand (Some left)) (tree_lexemes q ls) p end

-- a part in brackets where they are needed
in_brackets : (q : Tree) → ReadsAs q → (left : Option Left) (ls : List Lexeme) (p : Tree) (end : List Lexeme) → Reads (after (join left q)) ls p end → Reads (operand left) (part_lexemes true (tree_lexemes q) ls) p end
in_brackets q r left ls p end more = bracket open_lexeme close_lexeme refl (r.whole (close_lexeme ∷ ls) refl) refl more

left_part : (q : Tree) → ReadsAs q → (ls : List Lexeme) (p : Tree) (end : List Lexeme) → Reads (after q) ls p end → Reads (operand None) (part_lexemes (reaches_on q) (tree_lexemes q) ls) p end
left_part q r ls p end more = go (reaches_on q) refl
  where
    go : (needed : Bool) → reaches_on q ≡ needed → Reads (operand None) (part_lexemes needed (tree_lexemes q) ls) p end
    go true e = in_brackets q r None ls p end more
    go false e = r.on_left e ls p end more

right_part : (q : Tree) → ReadsAs q → (left : Left) (ls : List Lexeme) (p : Tree) (end : List Lexeme) → Reads (after (join (Some left) q)) ls p end → Reads (operand (Some left)) (part_lexemes (groups q) (tree_lexemes q) ls) p end
right_part q r left ls p end more = go (groups q) refl
  where
    go : (needed : Bool) → groups q ≡ needed → Reads (operand (Some left)) (part_lexemes needed (tree_lexemes q) ls) p end
    go true e = in_brackets q r (Some left) ls p end more
    go false e = r.on_right e left ls p end more

-- a clause
clause_reads : (head : Option Head) (term : List ℕ) → IsWellFormedHead head → (left : Option Left) (ls : List Lexeme) (p : Tree) (end : List Lexeme) → Reads (after (join left (clause head term))) ls p end → Reads (operand left) (tree_lexemes (clause head term) ls) p end
clause_reads head term h left ls p end more =
    plain head term (is_clause head term ls h (no_relation (join left (clause head term)) ls p end (from_after more))) more

reads_clause : (head : Option Head) (term : List ℕ) → IsWellFormedHead head → ReadsAs (clause head term)
reads_clause head term h = record {
  whole = λ ls e. clause_reads head term h None ls (clause head term) ls (done e);
  on_left = λ n ls p end more. clause_reads head term h None ls p end more;
  on_right = λ n left ls p end more. clause_reads head term h (Some left) ls p end more;
}

-- a boolean is kept in lower case
boolean_is : (b : List ℕ) → IsBooleanText b → (is_boolean (word_lexeme b).class ≡ true) × (lower b ≡ b)
boolean_is b and_text = (refl, refl)
boolean_is b or_text = (refl, refl)
boolean_is b not_text = (refl, refl)
boolean_is b prox_text = (refl, refl)

joined_reads : (b : List ℕ) (ms : List Modifier) (l r : Tree) → IsBooleanText b → AreWellFormedModifiers ms → ReadsAs l → ReadsAs r → (ls : List Lexeme) (p : Tree) (end : List Lexeme) → Reads (after (joined b ms l r)) ls p end → Reads (operand None) (tree_lexemes (joined b ms l r) ls) p end
joined_reads b ms l r is m at_left at_right ls p end more =
    let rest = part_lexemes (groups r) (tree_lexemes r) ls in
    let left : Left = record { tree = l; boolean = b; modifiers = ms } in
    let w = boolean_is b is in
    let behind = right_part r at_right left ls p end more in
    let low : Reads (operand (Some (record { tree = l; boolean = lower b; modifiers = ms }))) rest p end = subst (λ (t : List ℕ). Reads (operand (Some (record { tree = l; boolean = t; modifiers = ms }))) rest p end) (sym w.1) behind in
    let mods = are_modifiers ms rest m (part_start is_slash no_slash (groups r) r (groups_more r) ls) (part_start is_symbol no_symbol (groups r) r (groups_more r) ls) in
    left_part l at_left (word_lexeme b ∷ modifiers_lexemes ms rest) p end (boolean (word_lexeme b) ms w.0 mods low)

reads_joined : (b : List ℕ) (ms : List Modifier) (l r : Tree) → IsBooleanText b → AreWellFormedModifiers ms → ReadsAs l → ReadsAs r → ReadsAs (joined b ms l r)
reads_joined b ms l r is m at_left at_right = record {
  whole = λ ls e. joined_reads b ms l r is m at_left at_right ls (joined b ms l r) ls (done e);
  on_left = λ n ls p end more. joined_reads b ms l r is m at_left at_right ls p end more;
  on_right = λ n left ls p end more. absurd (false≢true (sym n));
}

-- a prefix assignment goes on to the end
reads_assigned : (name : Option (List ℕ)) (uri : List ℕ) (q : Tree) → ReadsAs q → ReadsAs (assigned name uri q)
reads_assigned name uri q r = record {
  whole = λ ls e. prefix name uri (is_prefix name uri (part_lexemes (reaches_on q) (tree_lexemes q) ls) (part_start is_equal no_equal (reaches_on q) q (λ n. n) ls)) (left_part q r ls q ls (done e));
  on_left = λ n ls p end more. absurd (false≢true (sym n));
  on_right = λ n left ls p end more. absurd (false≢true (sym n));
}

-- sort keys end a query
reads_sorted : (q : Tree) (keys : List SortKey) → has_keys keys ≡ true → AreWellFormedKeys keys → ReadsAs q → ReadsAs (sorted q keys)
reads_sorted q keys some p r = record {
  whole = λ ls e. left_part q r (word_lexeme (codes "sortby") ∷ keys_lexemes keys ls) (sorted q keys) ls (sort (word_lexeme (codes "sortby")) keys refl (are_keys keys ls some p e) e);
  on_left = λ n ls p end more. absurd (false≢true (sym n));
  on_right = λ n left ls p end more. absurd (false≢true (sym n));
}

reads_as : (q : Tree) → IsWellFormed q → ReadsAs q
reads_as (clause head term) p = reads_clause head term p.0
reads_as (joined b ms l r) p = reads_joined b ms l r p.0 p.1 (reads_as l p.2) (reads_as r p.3)
reads_as (assigned name uri q) p = reads_assigned name uri q (reads_as q p.2)
reads_as (sorted q keys) p = reads_sorted q keys p.0 p.1 (reads_as q p.2)

-- the lexemes of a proper tree are a query of it
pub tree_query : (q : Tree) → IsWellFormed q → Reads (operand None) (tree_lexemes q []) q []
tree_query q p = (reads_as q p).whole [] refl
