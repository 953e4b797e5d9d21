-- The parts of a query that hold no query have no brackets.
use Rattle.std.proofs.Common.{◌≡◌, ◌↔◌, ℕ, ◌-◌, ◌<◌, ◌≤◌, Bool, true, false, List, [], ◌∷◌, Option, Some, None, refl, sym, ◌∙◌, ap, arith}
use Rattle.cql_parse.specs.declared.tree.Modifier.{Modifier}
use Rattle.cql_parse.specs.declared.tree.Head.{Head}
use Rattle.cql_parse.specs.declared.tree.SortKey.{SortKey}
use Rattle.cql_parse.specs.declared.lexeme.Class.{Class}
use Rattle.cql_parse.specs.declared.lexeme.Class.TheVariants.{Open, Close, Slash, Equal, Greater, Symbol, Quoted, Boolean, SortBy, Word}
use Rattle.cql_parse.specs.Classes.{is_word, is_term, is_symbol, is_relation, is_slash, is_close, is_equal, is_open, is_greater}
use Rattle.cql_parse.specs.Lexemes.{Lexeme, starts}
use Rattle.cql_parse.specs.Grammar.{Repeats, IsName, MayHaveValue, AreModifiers, IsKey, AreKeys, IsClause, IsPrefix}
use Rattle.cql_parse.specs.Nesting.{nesting}
use Rattle.cql_parse.proofs.Deeper.{nesting_least}
use Rattle.z_types.specs.Bounds.{most_query_depth}

-- a class that passes a test which brackets do not is none
no_bracket : (test : Class → Bool) → test Open ≡ false → test Close ≡ false → (c : Class) → test c ≡ true → (is_open c ≡ false) × (is_close c ≡ false)
no_bracket test o k Open h = let e : true ≡ false = sym h ∙ o in cc
no_bracket test o k Close h = let e : true ≡ false = sym h ∙ k in cc
no_bracket test o k Slash h = (refl, refl)
no_bracket test o k Equal h = (refl, refl)
no_bracket test o k Greater h = (refl, refl)
no_bracket test o k Symbol h = (refl, refl)
no_bracket test o k Quoted h = (refl, refl)
no_bracket test o k Boolean h = (refl, refl)
no_bracket test o k SortBy h = (refl, refl)
no_bracket test o k Word h = (refl, refl)

-- a token that is no bracket leaves the nesting as it is
pub nesting_skip : (test : Class → Bool) → test Open ≡ false → test Close ≡ false → (n : ℕ) (x : Lexeme) (ts : List Lexeme) → test x.class ≡ true → nesting n (x ∷ ts) ≡ nesting n ts
nesting_skip test o k n x ts h =
    let w = no_bracket test o k x.class h in
    rw (w.0, w.1) (omega (arith, nesting_least n ts))

nesting_name : (n : ℕ) (ts : List Lexeme) (name : List ℕ) (rest : List Lexeme) → IsName ts name rest → nesting n ts ≡ nesting n rest
nesting_name n ts name rest h =
    ap (nesting n) h.tokens ∙ nesting_skip is_slash refl refl n h.slash (h.word ∷ rest) h.is_slash ∙ nesting_skip is_word refl refl n h.word rest h.is_word

nesting_value : (n : ℕ) (ts : List Lexeme) (value : Option (List ℕ × List ℕ)) (rest : List Lexeme) → MayHaveValue ts value rest → nesting n ts ≡ nesting n rest
nesting_value n ts None rest h = ap (nesting n) (sym h.1)
nesting_value n ts (Some value) rest h =
    ap (nesting n) h.tokens ∙ nesting_skip is_symbol refl refl n h.symbol (h.term ∷ rest) h.is_symbol ∙ nesting_skip is_term refl refl n h.term rest h.is_term

pub nesting_modifiers : (n : ℕ) (ts : List Lexeme) (ms : List Modifier) (rest : List Lexeme) → AreModifiers ts ms rest → nesting n ts ≡ nesting n rest
nesting_modifiers n ts [] rest h = ap (nesting n) (sym h.1)
nesting_modifiers n ts (m ∷ ms) rest h =
    nesting_name n ts m.name h.2.0 h.2.1 ∙ nesting_value n h.2.0 m.value h.1 h.2.2 ∙ nesting_modifiers n h.1 ms rest h.3

nesting_repeated : (n : ℕ) (ts : List Lexeme) (ks : List SortKey) (rest : List Lexeme) → Repeats (starts is_term) IsKey ts ks rest → nesting n ts ≡ nesting n rest
nesting_repeated n ts [] rest h = ap (nesting n) (sym h.1)
nesting_repeated n ts (k ∷ ks) rest h =
    ap (nesting n) h.2.tokens ∙ nesting_skip is_term refl refl n h.2.term h.2.more h.2.is_term ∙ nesting_modifiers n h.2.more k.modifiers h.1 h.2.modifiers ∙ nesting_repeated n h.1 ks rest h.3

pub nesting_keys : (n : ℕ) (ts : List Lexeme) (ks : List SortKey) (rest : List Lexeme) → AreKeys ts ks rest → nesting n ts ≡ nesting n rest
nesting_keys n ts ks rest h = nesting_repeated n ts ks rest h.1

pub nesting_clause : (n : ℕ) (ts : List Lexeme) (head : Option Head) (text : List ℕ) (rest : List Lexeme) → IsClause ts head text rest → nesting n ts ≡ nesting n rest
nesting_clause n ts None text rest h = ap (nesting n) h.tokens ∙ nesting_skip is_term refl refl n h.term rest h.is_term
nesting_clause n ts (Some head) text rest h =
    ap (nesting n) h.tokens ∙ nesting_skip is_term refl refl n h.index (h.relation ∷ h.more) h.is_index ∙ nesting_skip is_relation refl refl n h.relation h.more h.is_relation ∙ nesting_modifiers n h.more head.modifiers (h.term ∷ rest) h.modifiers ∙ nesting_skip is_term refl refl n h.term rest h.is_term

pub nesting_prefix : (n : ℕ) (ts : List Lexeme) (name : Option (List ℕ)) (uri : List ℕ) (rest : List Lexeme) → IsPrefix ts name uri rest → nesting n ts ≡ nesting n rest
nesting_prefix n ts None uri rest h =
    ap (nesting n) h.tokens ∙ nesting_skip is_greater refl refl n h.sign (h.term ∷ rest) h.is_sign ∙ nesting_skip is_term refl refl n h.term rest h.is_term
nesting_prefix n ts (Some name) uri rest h =
    ap (nesting n) h.tokens ∙ nesting_skip is_greater refl refl n h.sign (h.word ∷ h.equal ∷ h.term ∷ rest) h.is_sign ∙ nesting_skip is_word refl refl n h.word (h.equal ∷ h.term ∷ rest) h.is_word ∙ nesting_skip is_equal refl refl n h.equal (h.term ∷ rest) h.is_equal ∙ nesting_skip is_term refl refl n h.term rest h.is_term

-- a closing bracket leaves one bracket less open
pub nesting_close : (n : ℕ) (x : Lexeme) (ts : List Lexeme) → n ≤ most_query_depth → is_close x.class ≡ true → (most_query_depth < nesting n (x ∷ ts)) ↔ (most_query_depth < nesting (n - 1) ts)
nesting_close n x ts few c = let o = close_no_open x.class c in rw (o, c) (λ h. omega (arith, h, few), λ h. omega (arith, h))
  where
    close_no_open : (c : Class) → is_close c ≡ true → is_open c ≡ false
    close_no_open Close h = refl
    close_no_open Open h = cc
    close_no_open Slash h = refl
    close_no_open Equal h = refl
    close_no_open Greater h = refl
    close_no_open Symbol h = refl
    close_no_open Quoted h = refl
    close_no_open Boolean h = refl
    close_no_open SortBy h = refl
    close_no_open Word h = refl

-- equal nestings pass the limit together
pub same_limit : (a b : ℕ) → a ≡ b → (most_query_depth < a) ↔ (most_query_depth < b)
same_limit a b e = (λ h. omega (arith, e, h), λ h. omega (arith, e, h))
