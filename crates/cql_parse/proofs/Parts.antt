-- The parts of a query that hold none, as they are written: their lexemes are those parts.
use Rattle.std.proofs.Common.{◌≡◌, ℕ, Bool, true, false, List, [], ◌∷◌, Option, Some, None, refl, ap}
use Rattle.std.proofs.lemmas.Bool.{false≢true}
use Rattle.cql_lex.specs.Characters.{is_word}
use Rattle.cql_parse.specs.declared.tree.Modifier.{Modifier}
use Rattle.cql_parse.specs.declared.tree.Head.{Head}
use Rattle.cql_parse.specs.declared.tree.SortKey.{SortKey}
use Rattle.cql_parse.specs.declared.lexeme.Class.{Class}
use Rattle.cql_parse.specs.declared.lexeme.Class.TheVariants as class
use Rattle.cql_parse.specs.Classes.{word_class, is_term, is_symbol, is_relation, is_slash, is_equal}
use Rattle.cql_parse.specs.Classes.{is_word as is_word_class}
use Rattle.cql_parse.specs.Lexemes.{Lexeme, starts}
use Rattle.cql_parse.specs.Grammar.{Repeats, IsName, MayHaveValue, AreModifiers, IsKey, AreKeys, IsClause, IsPrefix, ends_query}
use Rattle.cql_parse.proofs.Cuts.{by_test}
use Rattle.cql_parse.proofs.Signs.{sign_lexeme, word_lexeme, quoted_lexeme, slash_lexeme}
use Rattle.cql_parse.proofs.Sound.{word_classes}
use Rattle.cql_parse.proofs.WrittenLexemes.{index_lexeme, relation_lexeme, value_lexemes, modifiers_lexemes, keys_lexemes, head_lexemes, prefix_lexemes}
use Rattle.std.proofs.Common.{⊎_elim}
use Rattle.cql_parse.specs.WellFormed.{IsSymbolText, equal, exact, less, greater, less_or_equal, greater_or_equal, less_or_greater, IsRelationText, symbol, word, IsWellFormedValue, AreWellFormedModifiers, AreWellFormedKeys, IsWellFormedHead, has_keys}

-- a bare word is of a class of words
pub word_is_word : (text : List ℕ) → is_word_class (word_class text) ≡ true
word_is_word text = ⊎_elim (λ (e : word_class text ≡ class.Word). ap is_word_class e) (λ others. ⊎_elim (λ (e : word_class text ≡ class.Boolean). ap is_word_class e) (λ (e : word_class text ≡ class.SortBy). ap is_word_class e) others) (word_classes text)

-- a bare word is a term
pub word_is_term : (text : List ℕ) → is_term (word_class text) ≡ true
word_is_term text = ⊎_elim (λ (e : word_class text ≡ class.Word). ap is_term e) (λ others. ⊎_elim (λ (e : word_class text ≡ class.Boolean). ap is_term e) (λ (e : word_class text ≡ class.SortBy). ap is_term e) others) (word_classes text)

-- a symbol is of a class of symbols
pub sign_is_symbol : (sign : List ℕ) → IsSymbolText sign → is_symbol (sign_lexeme sign).class ≡ true
sign_is_symbol sign equal = refl
sign_is_symbol sign exact = refl
sign_is_symbol sign less = refl
sign_is_symbol sign greater = refl
sign_is_symbol sign less_or_equal = refl
sign_is_symbol sign greater_or_equal = refl
sign_is_symbol sign less_or_greater = refl

-- an index is a term
pub index_is_term : (name : List ℕ) → is_term (index_lexeme name).class ≡ true
index_is_term name = by_test (is_word name) (λ w. rw w (word_is_term name)) (λ w. rw w refl)

-- an index has its text, quoted or not
index_text_is : (name : List ℕ) → (index_lexeme name).text ≡ name
index_text_is name = by_test (is_word name) (λ w. rw w refl) (λ w. rw w refl)

-- a term is none of these
pub term_no : (test : Class → Bool) → test class.Quoted ≡ false → test class.Word ≡ false → test class.Boolean ≡ false → test class.SortBy ≡ false → (c : Class) → is_term c ≡ true → test c ≡ false
term_no test q w b s class.Quoted h = q
term_no test q w b s class.Word h = w
term_no test q w b s class.Boolean h = b
term_no test q w b s class.SortBy h = s
term_no test q w b s _ h = absurd (false≢true h)

-- a relation is one, and has its text
pub relation_is : (text : List ℕ) → IsRelationText text → (is_relation (relation_lexeme text).class ≡ true) × ((relation_lexeme text).text ≡ text)
relation_is text (word w c) = let e = w.word in (rw (e, c) refl, rw e refl)
relation_is text (symbol s) = go s
  where
    go : {t : List ℕ} → IsSymbolText t → (is_relation (relation_lexeme t).class ≡ true) × ((relation_lexeme t).text ≡ t)
    go equal = (refl, refl)
    go exact = (refl, refl)
    go less = (refl, refl)
    go greater = (refl, refl)
    go less_or_equal = (refl, refl)
    go greater_or_equal = (refl, refl)
    go less_or_greater = (refl, refl)

-- modifiers, before what is no slash and no symbol
pub are_modifiers : (ms : List Modifier) (ls : List Lexeme) → AreWellFormedModifiers ms → starts is_slash ls ≡ false → starts is_symbol ls ≡ false → AreModifiers (modifiers_lexemes ms ls) ms ls
are_modifiers [] ls p no_slash no_symbol = (no_slash, refl)
are_modifiers (m ∷ ms) ls p no_slash no_symbol =
    (refl, modifiers_lexemes ms ls, (value_lexemes m.value (modifiers_lexemes ms ls), name, value m.value p.1), are_modifiers ms ls p.2 no_slash no_symbol)
  where
    name : IsName (modifiers_lexemes (m ∷ ms) ls) m.name (value_lexemes m.value (modifiers_lexemes ms ls))
    name = record { slash = slash_lexeme; word = word_lexeme m.name; tokens = refl; is_slash = refl; is_word = word_is_word m.name; spelled = refl }

    none : (ms : List Modifier) → starts is_symbol (modifiers_lexemes ms ls) ≡ false
    none [] = no_symbol
    none (m ∷ ms) = refl

    value : (v : Option (List ℕ × List ℕ)) → IsWellFormedValue v → MayHaveValue (value_lexemes v (modifiers_lexemes ms ls)) v (modifiers_lexemes ms ls)
    value None q = (none ms, refl)
    value (Some v) q = record { symbol = sign_lexeme v.0; term = quoted_lexeme v.1; tokens = refl; is_symbol = sign_is_symbol v.0 q.0; is_term = refl; spelled = refl }

-- sort keys, before what is no slash, no symbol and no term
are_more_keys : (ks : List SortKey) (ls : List Lexeme) → AreWellFormedKeys ks → starts is_slash ls ≡ false → starts is_symbol ls ≡ false → starts is_term ls ≡ false → Repeats (starts is_term) IsKey (keys_lexemes ks ls) ks ls
are_more_keys [] ls p no_slash no_symbol no_term = (no_term, refl)
are_more_keys (k ∷ ks) ls p no_slash no_symbol no_term = (index_is_term k.index, keys_lexemes ks ls, key, are_more_keys ks ls p.2 no_slash no_symbol no_term)
  where
    none : (test : Class → Bool) → ((c : Class) → is_term c ≡ true → test c ≡ false) → (ks : List SortKey) → starts test ls ≡ false → starts test (keys_lexemes ks ls) ≡ false
    none test no_such [] h = h
    none test no_such (k ∷ ks) h = no_such (index_lexeme k.index).class (index_is_term k.index)

    key : IsKey (keys_lexemes (k ∷ ks) ls) k (keys_lexemes ks ls)
    key = record {
      term = index_lexeme k.index;
      more = modifiers_lexemes k.modifiers (keys_lexemes ks ls);
      tokens = refl;
      is_term = index_is_term k.index;
      index = index_text_is k.index;
      modifiers = are_modifiers k.modifiers (keys_lexemes ks ls) p.1 (none is_slash (term_no is_slash refl refl refl refl) ks no_slash) (none is_symbol (term_no is_symbol refl refl refl refl) ks no_symbol);
    }

keys_start : (ks : List SortKey) (ls : List Lexeme) → has_keys ks ≡ true → starts is_term (keys_lexemes ks ls) ≡ true
keys_start [] ls h = absurd (false≢true h)
keys_start (k ∷ ks) ls h = index_is_term k.index

-- where a query ends comes none of these
end_no : (test : Class → Bool) → test class.Close ≡ false → (ls : List Lexeme) → ends_query ls ≡ true → starts test ls ≡ false
end_no test none [] h = refl
end_no test none (x ∷ ls) h = go x.class h
  where
    go : (c : Class) → ends_query (record { class = c; text = x.text } ∷ ls) ≡ true → test c ≡ false
    go class.Close e = none
    go _ e = absurd (false≢true e)

-- sort keys, before the end of a query
pub are_keys : (ks : List SortKey) (ls : List Lexeme) → has_keys ks ≡ true → AreWellFormedKeys ks → ends_query ls ≡ true → AreKeys (keys_lexemes ks ls) ks ls
are_keys ks ls some p e = (keys_start ks ls some, are_more_keys ks ls p (end_no is_slash refl ls e) (end_no is_symbol refl ls e) (end_no is_term refl ls e))

-- a clause, before what is no relation
pub is_clause : (head : Option Head) (term : List ℕ) (ls : List Lexeme) → IsWellFormedHead head → starts is_relation ls ≡ false → IsClause (head_lexemes head (quoted_lexeme term ∷ ls)) head term ls
is_clause None term ls p alone = record { term = quoted_lexeme term; tokens = refl; is_term = refl; spelled = refl; alone = alone }
is_clause (Some head) term ls p alone =
    let r = relation_is head.relation p.1 in
    record {
      index = index_lexeme head.index;
      relation = relation_lexeme head.relation;
      term = quoted_lexeme term;
      more = modifiers_lexemes head.modifiers (quoted_lexeme term ∷ ls);
      tokens = refl;
      modifiers = are_modifiers head.modifiers (quoted_lexeme term ∷ ls) p.2 refl refl;
      is_index = index_is_term head.index;
      is_relation = r.0;
      is_term = refl;
      named = index_text_is head.index;
      related = r.1;
      spelled = refl;
    }

-- a prefix assignment, before what is no equals sign
pub is_prefix : (name : Option (List ℕ)) (uri : List ℕ) (ls : List Lexeme) → starts is_equal ls ≡ false → IsPrefix (prefix_lexemes name (quoted_lexeme uri ∷ ls)) name uri ls
is_prefix None uri ls alone = record { sign = sign_lexeme (62 ∷ []); term = quoted_lexeme uri; tokens = refl; is_sign = refl; is_term = refl; assigned = refl; alone = alone }
is_prefix (Some name) uri ls alone = record { sign = sign_lexeme (62 ∷ []); word = word_lexeme name; equal = sign_lexeme (61 ∷ []); term = quoted_lexeme uri; tokens = refl; is_sign = refl; is_word = word_is_word name; is_equal = refl; is_term = refl; spelled = refl; assigned = refl }
