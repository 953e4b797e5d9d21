-- How an unfinished query goes on by one part, with the same trees.
use Rattle.std.proofs.Common.{◌≡◌, ◌↔◌, ℕ, true, false, List, [], ◌∷◌, Option, Some, None, option_map, refl, sym, ◌∙◌, subst, ap}
use Rattle.cql_parse.specs.declared.tree.Modifier.{Modifier}
use Rattle.cql_parse.specs.declared.tree.Head.{Head}
use Rattle.cql_parse.specs.declared.tree.SortKey.{SortKey}
use Rattle.cql_parse.specs.declared.frame.LeftOperand.{LeftOperand}
use Rattle.cql_parse.specs.declared.frame.Frame.{Frame}
use Rattle.cql_parse.specs.declared.frame.Frame.TheVariants.{Bracket, Prefix}
use Rattle.cql_parse.specs.Tree.{Tree, clause, assigned, sorted}
use Rattle.cql_parse.specs.Classes.{lower, is_term, is_close, is_open, is_greater, is_boolean, is_sortby}
use Rattle.cql_parse.specs.Lexemes.{Lexeme, starts}
use Rattle.cql_parse.specs.Grammar.{Left, operand, after, join, IsClause, IsPrefix, AreModifiers, AreKeys, Repeats, IsKey, Reads, plain, bracket, prefix, boolean, sort, done, ends_query}
use Rattle.cql_parse.specs.ParserState.{left_of, Ends, Completes}
use Rattle.cql_parse.proofs.Inverting.{FromOperand, by_clause, by_bracket, by_prefix, FromAfter, by_boolean, by_sort, by_end, from_operand, from_after, open_no_term, open_no_greater, boolean_term, sortby_term, sortby_no_boolean, close_no_term, clause_first, prefix_first, clash, term_or_greater}
use Rattle.cql_parse.proofs.UniqueParts.{IsClause_unique, IsPrefix_unique, AreModifiers_unique, AreKeys_unique}

-- a bracket opens a query of its own
pub bracket_step : (left : Option LeftOperand) (frames : List Frame) (x : Lexeme) (ts : List Lexeme) (t : Tree) → is_open x.class ≡ true → Completes (operand (option_map left_of left)) frames (x ∷ ts) t ↔ Completes (operand None) (Bracket left ∷ frames) ts t
bracket_step left frames x ts t o =
    (λ h. go h.0 h.1 (from_operand h.2) h.3, λ h. back h)
  where
    go : (q : Tree) (end : List Lexeme) → FromOperand (option_map left_of left) (x ∷ ts) q end → Ends frames q end t → Completes (operand None) (Bracket left ∷ frames) ts t
    go q end (by_clause head text rest c r) e = clash (is_term x.class) (is_term x.class) (clause_first (x ∷ ts) head text rest c) (open_no_term x.class o) refl
    go q end (by_bracket z y more rest inner e1 o' i c r) e =
        let same : ts ≡ more = cc in
        (inner, y ∷ rest, subst (λ (l : List Lexeme). Reads (operand None) l inner (y ∷ rest)) (sym same) i, (y, rest, q, end, refl, c, r, e))
    go q end (by_prefix name uri rest inner p r eq) e = clash (is_greater x.class) (is_greater x.class) (prefix_first (x ∷ ts) name uri rest p) (open_no_greater x.class o) refl

    back : Completes (operand None) (Bracket left ∷ frames) ts t → Completes (operand (option_map left_of left)) frames (x ∷ ts) t
    back (inner, stop, i, (y, more, outer, end, e1, c, r, e)) =
        (outer, end, bracket x y o (subst (λ (l : List Lexeme). Reads (operand None) ts inner l) e1 i) c r, e)

-- a clause
pub clause_step : (left : Option LeftOperand) (frames : List Frame) (ts : List Lexeme) (head : Option Head) (text : List ℕ) (rest : List Lexeme) (t : Tree) → IsClause ts head text rest → Completes (operand (option_map left_of left)) frames ts t ↔ Completes (after (join (option_map left_of left) (clause head text))) frames rest t
clause_step left frames ts head text rest t c =
    (λ h. go h.0 h.1 (from_operand h.2) h.3, λ h. (h.0, h.1, plain head text c h.2, h.3))
  where
    go : (q : Tree) (end : List Lexeme) → FromOperand (option_map left_of left) ts q end → Ends frames q end t → Completes (after (join (option_map left_of left) (clause head text))) frames rest t
    go q end (by_clause h u r d s) e =
        let w = IsClause_unique ts h head u text r rest d c in
        let tree : clause h u ≡ clause head text = λ i. clause (w.0 i) (w.1 i) in
        let s' = subst (λ (x : Tree). Reads (after (join (option_map left_of left) x)) r q end) tree s in
        (q, end, subst (λ (l : List Lexeme). Reads (after (join (option_map left_of left) (clause head text))) l q end) w.2 s', e)
    go q end (by_bracket x y more r inner e1 o i cl s) e =
        let first = subst (λ (l : List Lexeme). starts is_term l ≡ true) e1 (clause_first ts head text rest c) in
        clash (is_term x.class) (is_term x.class) first (open_no_term x.class o) refl
    go q end (by_prefix name uri r inner d s eq) e = absurd (term_or_greater ts (clause_first ts head text rest c) (prefix_first ts name uri r d))

-- without a bracket, a sign of a prefix assignment or a clause no query goes on
pub no_clause : (left : Option Left) (frames : List Frame) (ts : List Lexeme) (t : Tree) → starts is_open ts ≡ false → starts is_greater ts ≡ false → ((c : Option Head × List ℕ) (rest : List Lexeme) → IsClause ts c.0 c.1 rest → ⊥) → Completes (operand left) frames ts t → ⊥
no_clause left frames ts t no_open no_sign none h = go h.0 h.1 (from_operand h.2)
  where
    go : (q : Tree) (end : List Lexeme) → FromOperand left ts q end → ⊥
    go q end (by_clause head u r d s) = none (head, u) r d
    go q end (by_bracket x y more r inner e o i cl s) = clash (is_open x.class) (is_open x.class) o (subst (λ (l : List Lexeme). starts is_open l ≡ false) e no_open) refl
    go q end (by_prefix name uri r inner d s eq) = clash (starts is_greater ts) (starts is_greater ts) (prefix_first ts name uri r d) no_sign refl

-- a prefix assignment, whose query goes on as far as it can
pub prefix_step : (left : Option LeftOperand) (frames : List Frame) (ts : List Lexeme) (name : Option (List ℕ)) (uri : List ℕ) (rest : List Lexeme) (t : Tree) → IsPrefix ts name uri rest → Completes (operand (option_map left_of left)) frames ts t ↔ Completes (operand None) (Prefix left name uri ∷ frames) rest t
prefix_step left frames ts name uri rest t c =
    (λ h. go h.0 h.1 (from_operand h.2) h.3, λ h. (join (option_map left_of left) (assigned name uri h.0), h.1, prefix name uri c h.2, h.3))
  where
    go : (q : Tree) (end : List Lexeme) → FromOperand (option_map left_of left) ts q end → Ends frames q end t → Completes (operand None) (Prefix left name uri ∷ frames) rest t
    go q end (by_clause h u r d s) e = absurd (term_or_greater ts (clause_first ts h u r d) (prefix_first ts name uri rest c))
    go q end (by_bracket x y more r inner e1 o i cl s) e =
        let first = subst (λ (l : List Lexeme). starts is_greater l ≡ true) e1 (prefix_first ts name uri rest c) in
        clash (is_greater x.class) (is_greater x.class) first (open_no_greater x.class o) refl
    go q end (by_prefix n u r inner d s eq) e =
        let w = IsPrefix_unique ts n name u uri r rest d c in
        let made : q ≡ join (option_map left_of left) (assigned name uri inner) = eq ∙ (λ i. join (option_map left_of left) (assigned (w.0 i) (w.1 i) inner)) in
        (inner, end, subst (λ (l : List Lexeme). Reads (operand None) l inner end) w.2 s, subst (λ (x : Tree). Ends frames x end t) made e)

pub no_prefix : (left : Option Left) (frames : List Frame) (ts : List Lexeme) (t : Tree) → starts is_greater ts ≡ true → ((p : Option (List ℕ) × List ℕ) (rest : List Lexeme) → IsPrefix ts p.0 p.1 rest → ⊥) → Completes (operand left) frames ts t → ⊥
no_prefix left frames ts t sign none h = go h.0 h.1 (from_operand h.2)
  where
    go : (q : Tree) (end : List Lexeme) → FromOperand left ts q end → ⊥
    go q end (by_clause head u r d s) = term_or_greater ts (clause_first ts head u r d) sign
    go q end (by_bracket x y more r inner e o i cl s) = clash (is_greater x.class) (is_greater x.class) (subst (λ (l : List Lexeme). starts is_greater l ≡ true) e sign) (open_no_greater x.class o) refl
    go q end (by_prefix name uri r inner d s eq) = none (name, uri) r d

-- a boolean
pub boolean_step : (tree : Tree) (frames : List Frame) (x : Lexeme) (ts : List Lexeme) (ms : List Modifier) (rest : List Lexeme) (t : Tree) → is_boolean x.class ≡ true → AreModifiers ts ms rest → Completes (after tree) frames (x ∷ ts) t ↔ Completes (operand (Some (record { tree = tree; boolean = lower x.text; modifiers = ms }))) frames rest t
boolean_step tree frames x ts ms rest t b m =
    (λ h. go h.0 h.1 (from_after h.2) h.3, λ h. (h.0, h.1, boolean x ms b m h.2, h.3))
  where
    go : (q : Tree) (end : List Lexeme) → FromAfter tree (x ∷ ts) q end → Ends frames q end t → Completes (operand (Some (record { tree = tree; boolean = lower x.text; modifiers = ms }))) frames rest t
    go q end (by_boolean z more r others e1 b' n s) e =
        let word : z ≡ x = cc in
        let same : more ≡ ts = cc in
        let n' = subst (λ (l : List Lexeme). AreModifiers l others r) same n in
        let w = AreModifiers_unique ts others ms r rest n' m in
        let lefts : record { tree = tree; boolean = lower z.text; modifiers = others } ≡ record { tree = tree; boolean = lower x.text; modifiers = ms } = λ i. record { tree = tree; boolean = lower (word i).text; modifiers = w.0 i } in
        (q, end, subst (λ (l : List Lexeme). Reads (operand (Some (record { tree = tree; boolean = lower x.text; modifiers = ms }))) l q end) w.1 (subst (λ (l : Left). Reads (operand (Some l)) r q end) lefts s), e)
    go q end (by_sort z more keys e1 s k f eq) e =
        let word : z ≡ x = cc in
        clash (is_boolean x.class) (is_boolean z.class) b (sortby_no_boolean z.class s) (ap (λ (l : Lexeme). is_boolean l.class) (sym word))
    go q end (by_end f eq at) e = clash (is_term x.class) (is_term x.class) (boolean_term x.class b) (close_no_term x.class f) refl

pub no_boolean : (tree : Tree) (frames : List Frame) (x : Lexeme) (ts : List Lexeme) (t : Tree) → is_boolean x.class ≡ true → ((ms : List Modifier) (rest : List Lexeme) → AreModifiers ts ms rest → ⊥) → Completes (after tree) frames (x ∷ ts) t → ⊥
no_boolean tree frames x ts t b none h = go h.0 h.1 (from_after h.2)
  where
    go : (q : Tree) (end : List Lexeme) → FromAfter tree (x ∷ ts) q end → ⊥
    go q end (by_boolean z more r others e b' n s) =
        let same : more ≡ ts = cc in none others r (subst (λ (l : List Lexeme). AreModifiers l others r) same n)
    go q end (by_sort z more keys e s k f eq) =
        let word : z ≡ x = cc in
        clash (is_boolean x.class) (is_boolean z.class) b (sortby_no_boolean z.class s) (ap (λ (l : Lexeme). is_boolean l.class) (sym word))
    go q end (by_end f eq at) = clash (is_term x.class) (is_term x.class) (boolean_term x.class b) (close_no_term x.class f) refl

-- behind sort keys a query has its end, or none
pub sorted_end : (tree : Tree) (rest : List Lexeme) (q : Tree) (end : List Lexeme) → starts is_term rest ≡ false → FromAfter tree rest q end → (ends_query rest ≡ true) × (q ≡ tree) × (end ≡ rest)
sorted_end tree rest q end none (by_boolean z more r others e b n s) = clash (is_term z.class) (is_term z.class) (boolean_term z.class b) (subst (λ (l : List Lexeme). starts is_term l ≡ false) e none) refl
sorted_end tree rest q end none (by_sort z more keys e s k f eq) = clash (is_term z.class) (is_term z.class) (sortby_term z.class s) (subst (λ (l : List Lexeme). starts is_term l ≡ false) e none) refl
sorted_end tree rest q end none (by_end f eq at) = (f, eq, at)

-- behind repeated keys no term comes
pub keys_end : (ts : List Lexeme) (keys : List SortKey) (rest : List Lexeme) → Repeats (starts is_term) IsKey ts keys rest → starts is_term rest ≡ false
keys_end ts [] rest h = rw h.1 h.0
keys_end ts (k ∷ ks) rest h = keys_end h.1 ks rest h.3

-- sort keys
pub sort_step : (tree : Tree) (frames : List Frame) (x : Lexeme) (ts : List Lexeme) (keys : List SortKey) (rest : List Lexeme) (t : Tree) → is_sortby x.class ≡ true → AreKeys ts keys rest → Completes (after tree) frames (x ∷ ts) t ↔ Completes (after (sorted tree keys)) frames rest t
sort_step tree frames x ts keys rest t s k =
    (λ h. go h.0 h.1 (from_after h.2) h.3, λ h. back h.0 h.1 (sorted_end (sorted tree keys) rest h.0 h.1 (keys_end ts keys rest k.1) (from_after h.2)) h.3)
  where
    go : (q : Tree) (end : List Lexeme) → FromAfter tree (x ∷ ts) q end → Ends frames q end t → Completes (after (sorted tree keys)) frames rest t
    go q end (by_boolean z more r others e1 b n m) e =
        let word : z ≡ x = cc in
        clash (is_boolean z.class) (is_boolean x.class) b (sortby_no_boolean x.class s) (ap (λ (l : Lexeme). is_boolean l.class) word)
    go q end (by_sort z more others e1 s' l f eq) e =
        let same : more ≡ ts = cc in
        let w = AreKeys_unique ts others keys end rest (subst (λ (m : List Lexeme). AreKeys m others end) same l) k in
        let made : q ≡ sorted tree keys = eq ∙ ap (λ (ks : List SortKey). sorted tree ks) w.0 in
        let f' = subst (λ (m : List Lexeme). ends_query m ≡ true) w.1 f in
        (sorted tree keys, rest, done f', subst (λ (m : List Lexeme). Ends frames (sorted tree keys) m t) w.1 (subst (λ (g : Tree). Ends frames g end t) made e))
    go q end (by_end f eq at) e = clash (is_term x.class) (is_term x.class) (sortby_term x.class s) (close_no_term x.class f) refl

    back : (q : Tree) (end : List Lexeme) → (ends_query rest ≡ true) × (q ≡ sorted tree keys) × (end ≡ rest) → Ends frames q end t → Completes (after tree) frames (x ∷ ts) t
    back q end w e =
        (sorted tree keys, rest, sort x keys s k w.0, subst (λ (m : List Lexeme). Ends frames (sorted tree keys) m t) w.2 (subst (λ (g : Tree). Ends frames g end t) w.1 e))

pub no_keys : (tree : Tree) (frames : List Frame) (x : Lexeme) (ts : List Lexeme) (t : Tree) → is_sortby x.class ≡ true → ((ks : List SortKey) (rest : List Lexeme) → AreKeys ts ks rest → ⊥) → Completes (after tree) frames (x ∷ ts) t → ⊥
no_keys tree frames x ts t s none h = go h.0 h.1 (from_after h.2)
  where
    go : (q : Tree) (end : List Lexeme) → FromAfter tree (x ∷ ts) q end → ⊥
    go q end (by_boolean z more r others e b n m) =
        let word : z ≡ x = cc in
        clash (is_boolean z.class) (is_boolean x.class) b (sortby_no_boolean x.class s) (ap (λ (l : Lexeme). is_boolean l.class) word)
    go q end (by_sort z more others e s' l f eq) =
        let same : more ≡ ts = cc in none others end (subst (λ (m : List Lexeme). AreKeys m others end) same l)
    go q end (by_end f eq at) = clash (is_term x.class) (is_term x.class) (sortby_term x.class s) (close_no_term x.class f) refl

-- a query that ends here
pub end_step : (tree : Tree) (frames : List Frame) (ts : List Lexeme) (t : Tree) → ends_query ts ≡ true → Completes (after tree) frames ts t ↔ Ends frames tree ts t
end_step tree frames ts t f =
    (λ h. go h.0 h.1 (from_after h.2) h.3, λ e. (tree, ts, done f, e))
  where
    go : (q : Tree) (end : List Lexeme) → FromAfter tree ts q end → Ends frames q end t → Ends frames tree ts t
    go q end (by_boolean z more r others e1 b n m) e =
        clash (is_term z.class) (is_term z.class) (boolean_term z.class b) (close_no_term z.class (subst (λ (l : List Lexeme). ends_query l ≡ true) e1 f)) refl
    go q end (by_sort z more keys e1 s k g eq) e =
        clash (is_term z.class) (is_term z.class) (sortby_term z.class s) (close_no_term z.class (subst (λ (l : List Lexeme). ends_query l ≡ true) e1 f)) refl
    go q end (by_end g eq at) e = subst (λ (l : List Lexeme). Ends frames tree l t) at (subst (λ (x : Tree). Ends frames x end t) eq e)

-- the closing bracket of a query in brackets
pub close_step : (left : Option LeftOperand) (frames : List Frame) (q : Tree) (x : Lexeme) (ts : List Lexeme) (t : Tree) → is_close x.class ≡ true → Ends (Bracket left ∷ frames) q (x ∷ ts) t ↔ Completes (after (join (option_map left_of left) q)) frames ts t
close_step left frames q x ts t c = (λ h. go h, λ h. (x, ts, h.0, h.1, refl, c, h.2, h.3))
  where
    go : Ends (Bracket left ∷ frames) q (x ∷ ts) t → Completes (after (join (option_map left_of left) q)) frames ts t
    go (y, more, outer, end, e1, c', r, e) =
        let same : more ≡ ts = cc in
        (outer, end, subst (λ (l : List Lexeme). Reads (after (join (option_map left_of left) q)) l outer end) same r, e)
