-- The place where tokens stop to be the beginning of a query.
use Rattle.std.proofs.Common.{◌≡◌, ℕ, zero, suc, ◌<◌, ◌≤◌, true, List, [], ◌∷◌, ◌++◌, length, take, drop, get_or, Option, Some, None, codes, inl, inr, ⊎_elim, refl, sym, ◌∙◌, subst, ap, arith, append_assoc}
use Rattle.std.proofs.lemmas.Bool.{false≢true, cases_lt}
use Rattle.std.proofs.lemmas.Grind.{common_steps}
use Rattle.cql_lex.specs.declared.token.Token.{Token}
use Rattle.cql_parse.specs.declared.lexeme.Class.TheVariants as class
use Rattle.cql_parse.specs.declared.first_fault.Owner.TheVariants.{Relation, Boolean, Key}
use Rattle.cql_parse.specs.declared.first_fault.Phase.{Phase}
use Rattle.cql_parse.specs.declared.first_fault.Phase.TheVariants.{Clause, Term, After, SortBy, Sign, PrefixWord, Uri, Modified, Slash, Named, Value}
use Rattle.cql_parse.specs.Tree.{Tree}
use Rattle.cql_parse.specs.Lexemes.{Lexeme}
use Rattle.cql_parse.specs.Grammar.{IsQuery}
use Rattle.cql_parse.specs.ParserPhases.{accepts, fault_at}
use Rattle.cql_parse.specs.Laws.{HasTreeOrFault}
use Rattle.cql_parse.specs.Refusals.{Begins, IsSyntax, place_of}
use Rattle.cql_parse.proofs.Faults.{fault_some, fault_none}
use Rattle.cql_parse.proofs.Accepting.{on_close, query_accepted}
use Rattle.cql_parse.proofs.Accepted.{accepted_query}

-- a word, a closing bracket
abbrev word : Lexeme
word = record { class = class.Word; text = codes "a" }

abbrev close : Lexeme
close = record { class = class.Close; text = codes ")" }

-- as many closing brackets as are open
closes : ℕ → List Lexeme
closes zero = []
closes (suc n) = close ∷ closes n

after_closes : (n : ℕ) → accepts After n (closes n) ≡ true
unfolding closes
after_closes zero = refl
after_closes (suc n) = on_close n close (closes n) refl ∙ after_closes n

term_closes : (n : ℕ) → accepts Term n (closes n) ≡ true
unfolding closes
term_closes zero = refl
term_closes (suc n) = after_closes n

key_closes : (n : ℕ) → accepts (Modified Key) n (closes n) ≡ true
unfolding closes
key_closes zero = refl
key_closes (suc n) = after_closes n

named_closes : (n : ℕ) → accepts (Named Key) n (closes n) ≡ true
unfolding closes
named_closes zero = refl
named_closes (suc n) = after_closes n

-- each phase can go on to the end of a query
completion : (p : Phase) (n : ℕ) → (more : List Lexeme) × (accepts p n more ≡ true)
completion Clause n = (word ∷ closes n, term_closes n)
completion Term n = (closes n, term_closes n)
completion After n = (closes n, after_closes n)
completion SortBy n = (word ∷ closes n, key_closes n)
completion Sign n = (word ∷ word ∷ closes n, term_closes n)
completion PrefixWord n = (word ∷ closes n, term_closes n)
completion Uri n = (word ∷ word ∷ closes n, term_closes n)
completion (Modified Relation) n = (word ∷ closes n, after_closes n)
completion (Modified Boolean) n = (word ∷ closes n, term_closes n)
completion (Modified Key) n = (closes n, key_closes n)
completion (Slash Relation) n = (word ∷ word ∷ closes n, after_closes n)
completion (Slash Boolean) n = (word ∷ word ∷ closes n, term_closes n)
completion (Slash Key) n = (word ∷ closes n, named_closes n)
completion (Named Relation) n = (word ∷ closes n, after_closes n)
completion (Named Boolean) n = (word ∷ closes n, term_closes n)
completion (Named Key) n = (closes n, named_closes n)
completion (Value Relation) n = (word ∷ word ∷ closes n, after_closes n)
completion (Value Boolean) n = (word ∷ word ∷ closes n, term_closes n)
completion (Value Key) n = (word ∷ closes n, key_closes n)

-- the fault of the phases is the fault of the grammar
pub is_syntax : (ts : List Lexeme) (at : ℕ) → fault_at Clause 0 ts ≡ Some at → IsSyntax ts at
is_syntax ts at e =
    let f = fault_some ts Clause 0 at e in
    let c = completion f.reached.phase f.reached.«open» in
    let q = accepted_query (take at ts ++ c.0) (f.goes_on c.0 ∙ c.1) in
    record {
      within = f.within;
      before = (c.0, q.0, q.1);
      token = λ below b. false≢true (sym (f.refused below b.0) ∙ query_accepted (take (suc at) ts ++ b.0) b.1 b.2);
      end = λ whole t q. false≢true (sym (f.unended whole) ∙ query_accepted ts t q);
    }

pub is_query : (ts : List Lexeme) → fault_at Clause 0 ts ≡ None → (t : Tree) × IsQuery ts t
is_query ts e = accepted_query ts (fault_none ts Clause 0 e)

-- tokens are a query, or have a place where they stop to be the beginning of one
pub tree_or_fault : (ts : List Lexeme) → HasTreeOrFault ts
tree_or_fault ts = go (fault_at Clause 0 ts) refl
  where
    go : (o : Option ℕ) → fault_at Clause 0 ts ≡ o → HasTreeOrFault ts
    go None e = inl (is_query ts e)
    go (Some at) e = inr (at, is_syntax ts at e)

-- what a longer list begins a shorter one does
begins_take : (ts : List Lexeme) (a b : ℕ) → a ≤ b → Begins (take b ts) → Begins (take a ts)
begins_take ts a b le h =
    let split : take b ts ≡ take a ts ++ drop a (take b ts) = grind (arith, common_steps, take_split a b ts le) in
    (drop a (take b ts) ++ h.0, h.1, subst (λ (l : List Lexeme). IsQuery l h.1) (ap (λ (l : List Lexeme). l ++ h.0) split ∙ append_assoc (take a ts) (drop a (take b ts)) h.0) h.2)
  where
    take_split : (a b : ℕ) (ts : List Lexeme) → a ≤ b → take b ts ≡ take a ts ++ drop a (take b ts)
    take_split zero b ts le = refl
    take_split (suc a) zero ts le = absurd (omega (arith, le))
    take_split (suc a) (suc b) [] le = refl
    take_split (suc a) (suc b) (t ∷ ts) le = ap (λ (l : List Lexeme). t ∷ l) (take_split a b ts (omega (arith, le)))

-- a query begins with all that its tokens begin with
query_begins : (ts : List Lexeme) (a : ℕ) (t : Tree) → IsQuery ts t → Begins (take a ts)
query_begins ts a t q = (drop a ts, t, subst (λ (l : List Lexeme). IsQuery l t) (sym (whole a ts)) q)
  where
    whole : (a : ℕ) (ts : List Lexeme) → take a ts ++ drop a ts ≡ ts
    whole zero ts = refl
    whole (suc a) [] = refl
    whole (suc a) (t ∷ ts) = ap (λ (l : List Lexeme). t ∷ l) (whole a ts)

pub apart : (ts : List Lexeme) (p : ℕ) (t : Tree) → IsSyntax ts p → IsQuery ts t → ⊥
apart ts p t s q =
    ⊎_elim (λ below. s.token below (query_begins ts (suc p) t q)) (λ past. s.end (omega (arith, past, s.within)) t q) (cases_lt p (length ts))

earlier : (ts : List Lexeme) (p q : ℕ) → IsSyntax ts p → IsSyntax ts q → p < q → ⊥
earlier ts p q a b lt = a.token (omega (arith, lt, b.within)) (begins_take ts (suc p) q (omega (arith, lt)) b.before)

pub one_place : (ts : List Lexeme) (p q : ℕ) → IsSyntax ts p → IsSyntax ts q → p ≡ q
one_place ts p q a b =
    ⊎_elim (λ lt. absurd (earlier ts p q a b lt)) (λ le. ⊎_elim (λ gt. absurd (earlier ts q p b a gt)) (λ ge. omega (arith, le, ge)) (cases_lt q p)) (cases_lt p q)

-- where a token starts
pub place_found : (text : List ℕ) (tokens : List Token) (at : ℕ) (d : Token) → at < length tokens → (get_or tokens at d).start ≡ place_of text tokens at
place_found text [] at d below = absurd (omega (arith, below))
place_found text (u ∷ us) zero d below = refl
place_found text (u ∷ us) (suc at) d below = place_found text us at d (omega (arith, below))

pub place_none : (text : List ℕ) (tokens : List Token) (at : ℕ) → length tokens ≤ at → length text ≡ place_of text tokens at
place_none text [] at past = refl
place_none text (u ∷ us) zero past = absurd (omega (arith, past))
place_none text (u ∷ us) (suc at) past = place_none text us at (omega (arith, past))
