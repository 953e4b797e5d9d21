-- Tokens are a query of one tree at most.
use Rattle.std.proofs.Common.{◌≡◌, ℕ, true, List, [], ◌∷◌, Option, Some, None, refl, sym, ◌∙◌, subst, ap}
use Rattle.cql_parse.specs.Tree.{Tree, clause, assigned, sorted}
use Rattle.cql_parse.specs.Classes.{lower, is_term, is_open, is_greater, is_boolean, is_sortby}
use Rattle.cql_parse.specs.Lexemes.{Lexeme, starts}
use Rattle.cql_parse.specs.Grammar.{Left, Due, operand, after, join, IsClause, IsPrefix, AreModifiers, AreKeys, Reads, plain, bracket, prefix, boolean, sort, done, ends_query, IsQuery}
use Rattle.cql_parse.proofs.Inverting.{FromOperand, by_clause, by_bracket, by_prefix, FromAfter, by_boolean, by_sort, by_end, from_operand, from_after, open_no_term, open_no_greater, boolean_term, sortby_term, sortby_no_boolean, close_no_term, clause_first, prefix_first, clash, term_or_greater}
use Rattle.cql_parse.proofs.UniqueParts.{IsClause_unique, IsPrefix_unique, AreModifiers_unique, AreKeys_unique}
use Rattle.cql_parse.specs.declared.tree.Modifier.{Modifier}
use Rattle.cql_parse.specs.declared.tree.Head.{Head}
use Rattle.cql_parse.specs.declared.tree.SortKey.{SortKey}

-- a reading agrees with each other reading of the same tokens
abbrev Agrees : Due → List Lexeme → Tree → List Lexeme → Type 0
Agrees due ts q end = (p : Tree) (stop : List Lexeme) → Reads due ts p stop → (q ≡ p) × (end ≡ stop)

agree_clause : (left : Option Left) (ts rest end : List Lexeme) (q : Tree) (head : Option Head) (text : List ℕ) → IsClause ts head text rest → Agrees (after (join left (clause head text))) rest q end → (p : Tree) (stop : List Lexeme) → FromOperand left ts p stop → (q ≡ p) × (end ≡ stop)
agree_clause left ts rest end q head text c ih p stop (by_clause h u r d s) =
    let w = IsClause_unique ts h head u text r rest d c in
    let tree : clause h u ≡ clause head text = λ i. clause (w.0 i) (w.1 i) in
    let s' = subst (λ (x : Tree). Reads (after (join left x)) r p stop) tree s in
    ih p stop (subst (λ (l : List Lexeme). Reads (after (join left (clause head text))) l p stop) w.2 s')
agree_clause left ts rest end q head text c ih p stop (by_bracket x y more r inner e o i cl s) =
    let first = subst (λ (l : List Lexeme). starts is_term l ≡ true) e (clause_first ts head text rest c) in
    clash (is_term x.class) (is_term x.class) first (open_no_term x.class o) refl
agree_clause left ts rest end q head text c ih p stop (by_prefix name uri r inner d s eq) = absurd (term_or_greater ts (clause_first ts head text rest c) (prefix_first ts name uri r d))

agree_bracket : (left : Option Left) (x : Lexeme) (ts : List Lexeme) (y : Lexeme) (rest end : List Lexeme) (inner q : Tree) → is_open x.class ≡ true → Agrees (operand None) ts inner (y ∷ rest) → Agrees (after (join left inner)) rest q end → (p : Tree) (stop : List Lexeme) → FromOperand left (x ∷ ts) p stop → (q ≡ p) × (end ≡ stop)
agree_bracket left x ts y rest end inner q o inside behind p stop (by_clause h u r d s) =
    clash (is_term x.class) (is_term x.class) (clause_first (x ∷ ts) h u r d) (open_no_term x.class o) refl
agree_bracket left x ts y rest end inner q o inside behind p stop (by_bracket z w more r other e o' i cl s) =
    let same : more ≡ ts = cc in
    let a = inside other (w ∷ r) (subst (λ (l : List Lexeme). Reads (operand None) l other (w ∷ r)) same i) in
    let trees : other ≡ inner = sym a.0 in
    let tails : y ∷ rest ≡ w ∷ r = a.1 in
    let tail : r ≡ rest = cc in
    let s' = subst (λ (g : Tree). Reads (after (join left g)) r p stop) trees s in
    behind p stop (subst (λ (l : List Lexeme). Reads (after (join left inner)) l p stop) tail s')
agree_bracket left x ts y rest end inner q o inside behind p stop (by_prefix name uri r other d s eq) =
    clash (is_greater x.class) (is_greater x.class) (prefix_first (x ∷ ts) name uri r d) (open_no_greater x.class o) refl

agree_prefix : (left : Option Left) (ts rest end : List Lexeme) (inner : Tree) (name : Option (List ℕ)) (uri : List ℕ) → IsPrefix ts name uri rest → Agrees (operand None) rest inner end → (p : Tree) (stop : List Lexeme) → FromOperand left ts p stop → (join left (assigned name uri inner) ≡ p) × (end ≡ stop)
agree_prefix left ts rest end inner name uri c ih p stop (by_clause h u r d s) = absurd (term_or_greater ts (clause_first ts h u r d) (prefix_first ts name uri rest c))
agree_prefix left ts rest end inner name uri c ih p stop (by_bracket x y more r other e o i cl s) =
    let first = subst (λ (l : List Lexeme). starts is_greater l ≡ true) e (prefix_first ts name uri rest c) in
    clash (is_greater x.class) (is_greater x.class) first (open_no_greater x.class o) refl
agree_prefix left ts rest end inner name uri c ih p stop (by_prefix n u r other d s eq) =
    let w = IsPrefix_unique ts name n uri u rest r c d in
    let a = ih other stop (subst (λ (l : List Lexeme). Reads (operand None) l other stop) (sym w.2) s) in
    let made : join left (assigned name uri inner) ≡ join left (assigned n u other) = λ i. join left (assigned (w.0 i) (w.1 i) (a.0 i)) in
    (made ∙ sym eq, a.1)

agree_boolean : (tree : Tree) (x : Lexeme) (ts rest end : List Lexeme) (q : Tree) (ms : List Modifier) → is_boolean x.class ≡ true → AreModifiers ts ms rest → Agrees (operand (Some (record { tree = tree; boolean = lower x.text; modifiers = ms }))) rest q end → (p : Tree) (stop : List Lexeme) → FromAfter tree (x ∷ ts) p stop → (q ≡ p) × (end ≡ stop)
agree_boolean tree x ts rest end q ms b m ih p stop (by_boolean z more r others e b' n s) =
    let word : z ≡ x = cc in
    let same : more ≡ ts = cc in
    let n' = subst (λ (l : List Lexeme). AreModifiers l others r) same n in
    let w = AreModifiers_unique ts others ms r rest n' m in
    let left : Left → Type 0 = λ l. Reads (operand (Some l)) r p stop in
    let lefts : record { tree = tree; boolean = lower z.text; modifiers = others } ≡ record { tree = tree; boolean = lower x.text; modifiers = ms } = λ i. record { tree = tree; boolean = lower (word i).text; modifiers = w.0 i } in
    ih p stop (subst (λ (l : List Lexeme). Reads (operand (Some (record { tree = tree; boolean = lower x.text; modifiers = ms }))) l p stop) w.1 (subst left lefts s))
agree_boolean tree x ts rest end q ms b m ih p stop (by_sort z more keys e s k f eq) =
    let word : z ≡ x = cc in
    clash (is_boolean x.class) (is_boolean z.class) b (sortby_no_boolean z.class s) (ap (λ (l : Lexeme). is_boolean l.class) (sym word))
agree_boolean tree x ts rest end q ms b m ih p stop (by_end f eq at) =
    clash (is_term x.class) (is_term x.class) (boolean_term x.class b) (close_no_term x.class f) refl

agree_sort : (tree : Tree) (x : Lexeme) (ts end : List Lexeme) (keys : List SortKey) → is_sortby x.class ≡ true → AreKeys ts keys end → (p : Tree) (stop : List Lexeme) → FromAfter tree (x ∷ ts) p stop → (sorted tree keys ≡ p) × (end ≡ stop)
agree_sort tree x ts end keys s k p stop (by_boolean z more r others e b' n m) =
    let word : z ≡ x = cc in
    clash (is_boolean z.class) (is_boolean x.class) b' (sortby_no_boolean x.class s) (ap (λ (l : Lexeme). is_boolean l.class) word)
agree_sort tree x ts end keys s k p stop (by_sort z more others e s' l f eq) =
    let same : more ≡ ts = cc in
    let w = AreKeys_unique ts keys others end stop k (subst (λ (t : List Lexeme). AreKeys t others stop) same l) in
    (ap (λ (ks : List SortKey). sorted tree ks) w.0 ∙ sym eq, w.1)
agree_sort tree x ts end keys s k p stop (by_end f eq at) =
    clash (is_term x.class) (is_term x.class) (sortby_term x.class s) (close_no_term x.class f) refl

agree_end : (tree : Tree) (ts : List Lexeme) → ends_query ts ≡ true → (p : Tree) (stop : List Lexeme) → FromAfter tree ts p stop → (tree ≡ p) × (ts ≡ stop)
agree_end tree ts f p stop (by_boolean z more r others e b n m) =
    let close = subst (λ (l : List Lexeme). ends_query l ≡ true) e f in
    clash (is_term z.class) (is_term z.class) (boolean_term z.class b) (close_no_term z.class close) refl
agree_end tree ts f p stop (by_sort z more keys e s k g eq) =
    let close = subst (λ (l : List Lexeme). ends_query l ≡ true) e f in
    clash (is_term z.class) (is_term z.class) (sortby_term z.class s) (close_no_term z.class close) refl
agree_end tree ts f p stop (by_end g eq at) = (sym eq, sym at)

pub agree : {due : Due} {ts end : List Lexeme} {q : Tree} → Reads due ts q end → Agrees due ts q end
agree (plain {left = left} {ts = ts} {rest = rest} {end = end} {q = q} head text c r) p stop s =
    agree_clause left ts rest end q head text c (agree r) p stop (from_operand s)
agree (bracket {left = left} {ts = ts} {rest = rest} {end = end} {inner = inner} {q = q} x y o i c r) p stop s =
    agree_bracket left x ts y rest end inner q o (agree i) (agree r) p stop (from_operand s)
agree (prefix {left = left} {ts = ts} {rest = rest} {end = end} {q = q} name uri c r) p stop s =
    agree_prefix left ts rest end q name uri c (agree r) p stop (from_operand s)
agree (boolean {tree = tree} {q = q} {ts = ts} {rest = rest} {end = end} x ms b m r) p stop s =
    agree_boolean tree x ts rest end q ms b m (agree r) p stop (from_after s)
agree (sort {tree = tree} {ts = ts} {end = end} x keys s k e) p stop r = agree_sort tree x ts end keys s k p stop (from_after r)
agree (done {tree = tree} {ts = ts} e) p stop r = agree_end tree ts e p stop (from_after r)

pub one_tree : (ts : List Lexeme) (a b : Tree) → IsQuery ts a → IsQuery ts b → a ≡ b
one_tree ts a b h k = (agree h b [] k).0
