-- What is true of each text in the tree of a text.
use Rattle.std.proofs.Common.{◌≡◌, ℕ, true, false, bytes_eq, codes, List, [], ◌∷◌, Option, Some, None, refl, sym, ◌∙◌, subst}
use Rattle.std.proofs.lemmas.Bool.{false≢true}
use Rattle.std.proofs.lemmas.Slice.Eq.{bytes_eq-Decides}
use Rattle.cql_parse.specs.declared.tree.Modifier.{Modifier}
use Rattle.cql_parse.specs.declared.tree.Head.{Head}
use Rattle.cql_parse.specs.declared.tree.SortKey.{SortKey}
use Rattle.cql_parse.specs.declared.lexeme.Class.{Class}
use Rattle.cql_parse.specs.declared.lexeme.Class.TheVariants as class
use Rattle.cql_parse.specs.Tree.{Tree, clause, assigned}
use Rattle.cql_parse.specs.Classes.{lower, word_class, is_term, is_symbol, is_relation, is_boolean}
use Rattle.cql_parse.specs.Classes.{is_word as is_word_class}
use Rattle.cql_parse.specs.Lexemes.{Lexeme, starts}
use Rattle.cql_parse.specs.Grammar.{Left, Due, operand, after, join, Repeats, MayHaveValue, AreModifiers, IsKey, AreKeys, IsClause, IsPrefix, Reads, plain, bracket, prefix, boolean, sort, done}
use Rattle.cql_parse.proofs.Cuts.{word_quotable, by_test}
use Rattle.cql_parse.proofs.Sound.{Sound, AllSound}
use Rattle.cql_parse.specs.WellFormed.{IsSymbolText, IsTermText, IsWordText, IsBooleanText, and_text, or_text, not_text, prox_text, IsRelationText, symbol, word, IsWellFormedValue, AreWellFormedModifiers, AreWellFormedKeys, IsWellFormedName, has_keys, IsWellFormed}

-- each text of what is read so far is of its kind
abbrev IsWellFormedDue : Due → Type 0
IsWellFormedDue (operand None) = Unit {0}
IsWellFormedDue (operand (Some left)) = IsBooleanText left.boolean × AreWellFormedModifiers left.modifiers × IsWellFormed left.tree
IsWellFormedDue (after tree) = IsWellFormed tree

-- what a class says of its text
word_term : (text : List ℕ) → IsWordText text → IsTermText text
word_term text w = record { utf8 = w.utf8; quotable = word_quotable text w.word }

sound_term : (c : Class) (text : List ℕ) → is_term c ≡ true → Sound c text → IsTermText text
sound_term class.Quoted text h s = s
sound_term class.Word text h s = word_term text s.0
sound_term class.Boolean text h s = word_term text s.0
sound_term class.SortBy text h s = word_term text s.0
sound_term class.Open text h s = absurd (false≢true h)
sound_term class.Close text h s = absurd (false≢true h)
sound_term class.Slash text h s = absurd (false≢true h)
sound_term class.Equal text h s = absurd (false≢true h)
sound_term class.Greater text h s = absurd (false≢true h)
sound_term class.Symbol text h s = absurd (false≢true h)

sound_word : (c : Class) (text : List ℕ) → is_word_class c ≡ true → Sound c text → IsWordText text
sound_word class.Word text h s = s.0
sound_word class.Boolean text h s = s.0
sound_word class.SortBy text h s = s.0
sound_word _ text h s = absurd (false≢true h)

sound_symbol : (c : Class) (text : List ℕ) → is_symbol c ≡ true → Sound c text → IsSymbolText text
sound_symbol class.Equal text h s = s
sound_symbol class.Greater text h s = s
sound_symbol class.Symbol text h s = s
sound_symbol _ text h s = absurd (false≢true h)

sound_relation : (c : Class) (text : List ℕ) → is_relation c ≡ true → Sound c text → IsRelationText text
sound_relation class.Equal text h s = symbol s
sound_relation class.Greater text h s = symbol s
sound_relation class.Symbol text h s = symbol s
sound_relation class.Word text h s = word s.0 s.1
sound_relation _ text h s = absurd (false≢true h)

-- a word of the class of booleans is one of the four
is_same : (text other : List ℕ) → bytes_eq text other ≡ true → other ≡ text
is_same text other h = sym ((bytes_eq-Decides text other).0 h)

boolean_text : (text : List ℕ) → word_class text ≡ class.Boolean → IsBooleanText (lower text)
boolean_text text e =
    let low = lower text in
    by_test (bytes_eq low (codes "and")) (λ h. subst IsBooleanText (is_same low (codes "and") h) and_text) (λ a.
    by_test (bytes_eq low (codes "or")) (λ h. subst IsBooleanText (is_same low (codes "or") h) or_text) (λ o.
    by_test (bytes_eq low (codes "not")) (λ h. subst IsBooleanText (is_same low (codes "not") h) not_text) (λ n.
    by_test (bytes_eq low (codes "prox")) (λ h. subst IsBooleanText (is_same low (codes "prox") h) prox_text) (λ p.
    by_test (bytes_eq low (codes "sortby")) (λ s. let z : class.SortBy ≡ class.Boolean = rw (a, o, n, p, s) at e in cc) (λ s. let z : class.Word ≡ class.Boolean = rw (a, o, n, p, s) at e in cc)))))

sound_boolean : (c : Class) (text : List ℕ) → is_boolean c ≡ true → Sound c text → IsBooleanText (lower text)
sound_boolean class.Boolean text h s = boolean_text text s.1
sound_boolean _ text h s = absurd (false≢true h)

-- the parts that hold no query
well_formed_value : (ts : List Lexeme) (value : Option (List ℕ × List ℕ)) (rest : List Lexeme) → MayHaveValue ts value rest → AllSound ts → IsWellFormedValue value × AllSound rest
well_formed_value ts None rest h s = (tt, rw h.1 s)
well_formed_value ts (Some value) rest h s =
    let all : AllSound (h.symbol ∷ h.term ∷ rest) = subst AllSound h.tokens s in
    let sign : IsSymbolText value.0 = subst (λ (v : List ℕ × List ℕ). IsSymbolText v.0) h.spelled (sound_symbol h.symbol.class h.symbol.text h.is_symbol all.0) in
    let term : IsTermText value.1 = subst (λ (v : List ℕ × List ℕ). IsTermText v.1) h.spelled (sound_term h.term.class h.term.text h.is_term all.1.0) in
    ((sign, term), all.1.1)

well_formed_modifiers : (ts : List Lexeme) (ms : List Modifier) (rest : List Lexeme) → AreModifiers ts ms rest → AllSound ts → AreWellFormedModifiers ms × AllSound rest
well_formed_modifiers ts [] rest h s = (tt, rw h.1 s)
well_formed_modifiers ts (m ∷ ms) rest h s =
    let name = h.2.1 in
    let all : AllSound (name.slash ∷ name.word ∷ h.2.0) = subst AllSound name.tokens s in
    let word : IsWordText m.name = subst IsWordText name.spelled (sound_word name.word.class name.word.text name.is_word all.1.0) in
    let value = well_formed_value h.2.0 m.value h.1 h.2.2 all.1.1 in
    let more = well_formed_modifiers h.1 ms rest h.3 value.1 in
    ((word, value.0, more.0), more.1)

well_formed_keys : (ts : List Lexeme) (ks : List SortKey) (rest : List Lexeme) → Repeats (starts is_term) IsKey ts ks rest → AllSound ts → AreWellFormedKeys ks × AllSound rest
well_formed_keys ts [] rest h s = (tt, rw h.1 s)
well_formed_keys ts (k ∷ ks) rest h s =
    let key = h.2 in
    let all : AllSound (key.term ∷ key.more) = subst AllSound key.tokens s in
    let index : IsTermText k.index = subst IsTermText key.index (sound_term key.term.class key.term.text key.is_term all.0) in
    let ms = well_formed_modifiers key.more k.modifiers h.1 key.modifiers all.1 in
    let more = well_formed_keys h.1 ks rest h.3 ms.1 in
    ((index, ms.0, more.0), more.1)

keys_there : (ts : List Lexeme) (ks : List SortKey) (rest : List Lexeme) → AreKeys ts ks rest → has_keys ks ≡ true
keys_there ts [] rest h = absurd (false≢true (sym h.1.0 ∙ h.0))
keys_there ts (k ∷ ks) rest h = refl

well_formed_clause : (ts : List Lexeme) (head : Option Head) (text : List ℕ) (rest : List Lexeme) → IsClause ts head text rest → AllSound ts → IsWellFormed (clause head text) × AllSound rest
well_formed_clause ts None text rest h s =
    let all : AllSound (h.term ∷ rest) = subst AllSound h.tokens s in
    ((tt, subst IsTermText h.spelled (sound_term h.term.class h.term.text h.is_term all.0)), all.1)
well_formed_clause ts (Some head) text rest h s =
    let all : AllSound (h.index ∷ h.relation ∷ h.more) = subst AllSound h.tokens s in
    let index : IsTermText head.index = subst IsTermText h.named (sound_term h.index.class h.index.text h.is_index all.0) in
    let relation : IsRelationText head.relation = subst IsRelationText h.related (sound_relation h.relation.class h.relation.text h.is_relation all.1.0) in
    let ms = well_formed_modifiers h.more head.modifiers (h.term ∷ rest) h.modifiers all.1.1 in
    (((index, relation, ms.0), subst IsTermText h.spelled (sound_term h.term.class h.term.text h.is_term ms.1.0)), ms.1.1)

well_formed_prefix : (ts : List Lexeme) (name : Option (List ℕ)) (uri : List ℕ) (rest : List Lexeme) → IsPrefix ts name uri rest → AllSound ts → IsWellFormedName name × IsTermText uri × AllSound rest
well_formed_prefix ts None uri rest h s =
    let all : AllSound (h.sign ∷ h.term ∷ rest) = subst AllSound h.tokens s in
    (tt, subst IsTermText h.assigned (sound_term h.term.class h.term.text h.is_term all.1.0), all.1.1)
well_formed_prefix ts (Some name) uri rest h s =
    let all : AllSound (h.sign ∷ h.word ∷ h.equal ∷ h.term ∷ rest) = subst AllSound h.tokens s in
    let word : IsWordText name = subst IsWordText h.spelled (sound_word h.word.class h.word.text h.is_word all.1.0) in
    (word, subst IsTermText h.assigned (sound_term h.term.class h.term.text h.is_term all.1.1.1.0), all.1.1.1.1)

well_formed_join : (left : Option Left) (t : Tree) → IsWellFormedDue (operand left) → IsWellFormed t → IsWellFormed (join left t)
well_formed_join None t l p = p
well_formed_join (Some left) t l p = (l.0, l.1, l.2, p)

-- the tree of sound lexemes is proper
well_formed_reads : {due : Due} {ts end : List Lexeme} {q : Tree} → Reads due ts q end → AllSound ts → IsWellFormedDue due → IsWellFormed q × AllSound end
well_formed_reads (plain {left = left} {ts = ts} {rest = rest} head text c r) s d =
    let w = well_formed_clause ts head text rest c s in
    well_formed_reads r w.1 (well_formed_join left (clause head text) d w.0)
well_formed_reads (bracket {left = left} {inner = inner} x y o i c r) s d =
    let w = well_formed_reads i s.1 tt in
    well_formed_reads r w.1.1 (well_formed_join left inner d w.0)
well_formed_reads (prefix {left = left} {ts = ts} {rest = rest} {q = q} name uri p r) s d =
    let w = well_formed_prefix ts name uri rest p s in
    let inner = well_formed_reads r w.2 tt in
    (well_formed_join left (assigned name uri q) d (w.0, w.1, inner.0), inner.1)
well_formed_reads (boolean {ts = ts} {rest = rest} x ms b m r) s d =
    let w = well_formed_modifiers ts ms rest m s.1 in
    well_formed_reads r w.1 (sound_boolean x.class x.text b s.0, w.0, d)
well_formed_reads (sort {ts = ts} {end = end} x keys b k e) s d =
    let w = well_formed_keys ts keys end k.1 s.1 in
    ((keys_there ts keys end k, w.0, d), w.1)
well_formed_reads (done e) s d = (d, s)

-- each text of a query's tree is of its kind
pub well_formed_query : (ts : List Lexeme) (q : Tree) (end : List Lexeme) → Reads (operand None) ts q end → AllSound ts → IsWellFormed q
well_formed_query ts q end r s = (well_formed_reads r s tt).0
