-- What is written of a well-formed tree is a text of that tree, and a text's tree is well-formed.
use Rattle.std.proofs.Common.{◌≡◌, ℕ, ◌≤◌, List, [], refl, sym, ◌∙◌, subst, ap, arith, append-nil}
use Rattle.cql_lex.proofs.OneReading.{one_list}
use Rattle.cql_parse.specs.Tree.{Tree, depth}
use Rattle.cql_parse.specs.Lexemes.{Lexeme, lexemes}
use Rattle.cql_parse.specs.Grammar.{IsQuery}
use Rattle.cql_parse.specs.Nesting.{nesting}
use Rattle.cql_parse.specs.Written.{written}
use Rattle.cql_parse.specs.Laws.{HasTextIfWellFormed}
use Rattle.cql_parse.specs.Again.{IsTextOf, IsNestedWithin}
use Rattle.cql_parse.proofs.Fronts.{HasLexemes, Lexed, lexed_none}
use Rattle.cql_parse.proofs.Sound.{text_sound}
use Rattle.cql_parse.proofs.ParsedIsWellFormed.{well_formed_query}
use Rattle.cql_parse.proofs.WrittenLexemes.{tree_lexemes, written_tree}
use Rattle.cql_parse.proofs.ReadsBack.{tree_query}
use Rattle.cql_parse.proofs.Shallow.{tree_shallow}
use Rattle.cql_parse.proofs.WrittenUtf8.{written_utf8}
use Rattle.cql_parse.specs.WellFormed.{IsWellFormed}

-- the tree of a text is well-formed
pub well_formed_text : (source : List ℕ) (q : Tree) → IsTextOf source q → IsWellFormed q
well_formed_text source q t = well_formed_query (lexemes source t.tokens) q [] t.query (text_sound source t.tokens t.utf8 t.lexed)

-- the tokens of what is written
written_lexemes : (q : Tree) → IsWellFormed q → HasLexemes (written q) 0 (tree_lexemes q [])
written_lexemes q p =
    let lexed : Lexed (written q) (tree_lexemes q []) = subst (λ (s : List ℕ). Lexed s (tree_lexemes q [])) (append-nil (written q)) (written_tree q p [] [] refl lexed_none) in
    lexed.anywhere (written q) 0 refl (omega arith)

-- what is written is a text of the same tree
pub written_again : (q : Tree) → IsWellFormed q → IsTextOf (written q) q
written_again q p =
    let w = written_lexemes q p in
    record {
      utf8 = written_utf8 q p;
      tokens = w.ts;
      lexed = (w.end, w.leads, w.ends);
      query = subst (λ (ls : List Lexeme). IsQuery ls q) (sym w.same) (tree_query q p);
    }

-- and its brackets are nested no deeper than the tree has levels
pub written_shallow : (q : Tree) → IsWellFormed q → IsNestedWithin (written q) (depth q)
written_shallow q p tokens lexed =
    let w = written_lexemes q p in
    let one : w.ts ≡ tokens = one_list (written q) w.ts tokens (w.end, w.leads, w.ends) lexed in
    let same : tree_lexemes q [] ≡ lexemes (written q) tokens = sym w.same ∙ ap (lexemes (written q)) one in
    subst (λ (ls : List Lexeme). nesting 0 ls ≤ depth q) same (tree_shallow q p)

-- the trees of texts are the well-formed ones
pub texts_of_trees : (t : Tree) → HasTextIfWellFormed t
texts_of_trees t = ((λ h. well_formed_text h.0 t h.1), (λ p. (written t, written_again t p)))
