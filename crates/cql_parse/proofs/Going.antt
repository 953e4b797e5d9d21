-- What one part of a query answers, from what its own parts answer.
use Rattle.std.proofs.Common.{◌≡◌, ◌↔◌, ℕ, ◌<◌, ◌≤◌, true, List, [], ◌∷◌, Option, Some, None, option_map, Result, Ok, Err, Bor, ⊎_elim, inl, inr, refl, sym, ◌∙◌, subst, ap, arith}
use Rattle.cql_lex.specs.declared.token.Token.{Token}
use Rattle.cql_parse.specs.declared.tree.Modifier.{Modifier}
use Rattle.cql_parse.specs.declared.tree.Head.{Head}
use Rattle.cql_parse.specs.declared.tree.SortKey.{SortKey}
use Rattle.cql_parse.specs.declared.grown.Grown.{Grown}
use Rattle.cql_parse.specs.declared.frame.LeftOperand.{LeftOperand}
use Rattle.cql_parse.specs.declared.frame.Frame.{Frame}
use Rattle.cql_parse.specs.declared.frame.Frame.TheVariants.{Bracket, Prefix}
use Rattle.cql_parse.specs.declared.frame.State.{State}
use Rattle.cql_parse.specs.declared.frame.State.TheVariants.{Operand, After}
use Rattle.cql_parse.specs.declared.frame.Ended.TheVariants.{Inner, Whole}
use Rattle.cql_parse.specs.declared.fault.Stop.{Stop}
use Rattle.cql_parse.specs.declared.fault.Stop.TheVariants.{NoQuery, Deep, Memory}
use Rattle.cql_parse.specs.Tree.{Tree, clause, assigned, sorted, depth}
use Rattle.cql_parse.specs.Classes.{lower, is_open, is_close, is_boolean, is_sortby}
use Rattle.cql_parse.specs.Lexemes.{Lexeme, lexemes}
use Rattle.cql_parse.specs.Grammar.{Due, operand, after, join, IsClause, IsPrefix, AreModifiers, AreKeys, IsQuery}
use Rattle.cql_parse.specs.Nesting.{nesting}
use Rattle.cql_parse.specs.ParserAnswers.{Finds}
use Rattle.cql_parse.specs.ParserState.{left_of, due_of, Makes, Ends, Completes, Goes, Unwinds, Finishes, Builds, Shallow}
use Rattle.std.proofs.lemmas.Bool.{cases_lt}
use Rattle.cql_parse.proofs.Steps.{bracket_step, clause_step, prefix_step, boolean_step, sort_step, end_step, close_step}
use Rattle.cql_parse.proofs.Deeper.{completes_deep, ends_deep}
use Rattle.z_types.specs.Bounds.{most_query_depth}

-- where a part is not found and nothing goes on without it, no query goes on
pub Goes_none : {X : Type 0} (text : List ℕ) (n : ℕ) (due : Due) (old new : List Frame) (ts : List Lexeme) (R : X → List Lexeme → Type 0) (e : Stop) → (((x : X) (rest : List Lexeme) → R x rest → ⊥) → (t : Tree) → Completes due old ts t → ⊥) → Finds text R (Err e) → Goes text n due old ts new (Err e)
Goes_none text n due old new ts R NoQuery none h = none h
Goes_none text n due old new ts R Deep none h = absurd h
Goes_none text n due old new ts R Memory none h = tt

-- where what was made is too deep and every tree has it, every tree is
pub Goes_deep : (text : List ℕ) (n : ℕ) (due : Due) (old new : List Frame) (ts : List Lexeme) (made : Tree) (e : Stop) → ((t : Tree) → Completes due old ts t → depth made ≤ depth t) → Makes (Err e) made → Goes text n due old ts new (Err e)
Goes_deep text n due old new ts made NoQuery has h = absurd h
Goes_deep text n due old new ts made Deep has h = λ t c. inl (omega (arith, h, has t c))
Goes_deep text n due old new ts made Memory has h = tt

pub open_goes : (text : List ℕ) (n : ℕ) (left : Option LeftOperand) (old new : List Frame) (x : Lexeme) (rest : Bor (List Token)) → is_open x.class ≡ true → new ≡ Bracket left ∷ old → Goes text n (operand (option_map left_of left)) old (x ∷ lexemes text rest.now) new (Ok (Operand None, rest))
open_goes text n left old new x rest o e = λ t.
    subst (λ (fs : List Frame). Completes (operand (option_map left_of left)) old (x ∷ lexemes text rest.now) t ↔ Completes (operand None) fs (lexemes text rest.now) t) (sym e) (bracket_step left old x (lexemes text rest.now) t o)

pub prefix_goes : (text : List ℕ) (n : ℕ) (left : Option LeftOperand) (old new : List Frame) (ts : List Lexeme) (name : Option (List ℕ)) (uri : List ℕ) (rest : Bor (List Token)) → IsPrefix ts name uri (lexemes text rest.now) → new ≡ Prefix left name uri ∷ old → Goes text n (operand (option_map left_of left)) old ts new (Ok (Operand None, rest))
prefix_goes text n left old new ts name uri rest p e = λ t.
    subst (λ (fs : List Frame). Completes (operand (option_map left_of left)) old ts t ↔ Completes (operand None) fs (lexemes text rest.now) t) (sym e) (prefix_step left old ts name uri (lexemes text rest.now) t p)

pub clause_goes : (text : List ℕ) (n : ℕ) (left : Option LeftOperand) (fs : List Frame) (ts : List Lexeme) (head : Option Head) (term : List ℕ) (rest : Bor (List Token)) (g : Grown) (made : Tree) → IsClause ts head term (lexemes text rest.now) → g.tree ≡ join (option_map left_of left) made → made ≡ clause head term → Goes text n (operand (option_map left_of left)) fs ts fs (Ok (After g, rest))
clause_goes text n left fs ts head term rest g made c e m = λ t.
    let tree : g.tree ≡ join (option_map left_of left) (clause head term) = e ∙ ap (λ (x : Tree). join (option_map left_of left) x) m in
    subst (λ (x : Tree). Completes (operand (option_map left_of left)) fs ts t ↔ Completes (after x) fs (lexemes text rest.now) t) (sym tree) (clause_step left fs ts head term (lexemes text rest.now) t c)

pub clause_deep : (left : Option LeftOperand) (fs : List Frame) (ts : List Lexeme) (head : Option Head) (term : List ℕ) (rest : List Lexeme) (made : Tree) → IsClause ts head term rest → made ≡ clause head term → (t : Tree) → Completes (operand (option_map left_of left)) fs ts t → depth (join (option_map left_of left) made) ≤ depth t
clause_deep left fs ts head term rest made c m t h =
    let step = clause_step left fs ts head term rest t c in
    rw m (completes_deep (join (option_map left_of left) (clause head term)) fs rest t (step.0 h))

pub boolean_goes : (text : List ℕ) (n : ℕ) (query : Grown) (fs : List Frame) (x : Lexeme) (ts : List Lexeme) (word : List ℕ) (ms : List Modifier) (rest : Bor (List Token)) → is_boolean x.class ≡ true → AreModifiers ts ms (lexemes text rest.now) → word ≡ lower x.text → Goes text n (after query.tree) fs (x ∷ ts) fs (Ok (Operand (Some (record { query = query; boolean = word; modifiers = ms })), rest))
boolean_goes text n query fs x ts word ms rest b m e = λ t.
    subst (λ (w : List ℕ). Completes (after query.tree) fs (x ∷ ts) t ↔ Completes (operand (Some (record { tree = query.tree; boolean = w; modifiers = ms }))) fs (lexemes text rest.now) t) (sym e) (boolean_step query.tree fs x ts ms (lexemes text rest.now) t b m)

pub sort_goes : (text : List ℕ) (n : ℕ) (query : Tree) (fs : List Frame) (x : Lexeme) (ts : List Lexeme) (keys : List SortKey) (rest : Bor (List Token)) (g : Grown) → is_sortby x.class ≡ true → AreKeys ts keys (lexemes text rest.now) → g.tree ≡ sorted query keys → Goes text n (after query) fs (x ∷ ts) fs (Ok (After g, rest))
sort_goes text n query fs x ts keys rest g s k e = λ t.
    subst (λ (y : Tree). Completes (after query) fs (x ∷ ts) t ↔ Completes (after y) fs (lexemes text rest.now) t) (sym e) (sort_step query fs x ts keys (lexemes text rest.now) t s k)

pub sort_deep : (query : Tree) (fs : List Frame) (x : Lexeme) (ts : List Lexeme) (keys : List SortKey) (rest : List Lexeme) → is_sortby x.class ≡ true → AreKeys ts keys rest → (t : Tree) → Completes (after query) fs (x ∷ ts) t → depth (sorted query keys) ≤ depth t
sort_deep query fs x ts keys rest s k t h = completes_deep (sorted query keys) fs rest t ((sort_step query fs x ts keys rest t s k).0 h)

-- a closing bracket, where the query ends so
pub close_ends : (query : Tree) (old : List Frame) (x : Lexeme) (ts : List Lexeme) (t : Tree) → is_close x.class ≡ true → Completes (after query) old (x ∷ ts) t ↔ Ends old query (x ∷ ts) t
close_ends query old x ts t c = end_step query old (x ∷ ts) t c

pub close_goes : (text : List ℕ) (n : ℕ) (query : Tree) (old new : List Frame) (x : Lexeme) (left : Option LeftOperand) (inner g : Grown) (rest : Bor (List Token)) → is_close x.class ≡ true → Unwinds query old new (Ok (Inner left inner)) → g.tree ≡ join (option_map left_of left) inner.tree → Goes text n (after query) old (x ∷ lexemes text rest.now) new (Ok (After g, rest))
close_goes text n query old new x left inner g rest c u e = λ t.
    let ts = lexemes text rest.now in
    let a = close_ends query old x ts t c in
    let b = u (x ∷ ts) t in
    let d = close_step left new inner.tree x ts t c in
    subst (λ (y : Tree). Completes (after query) old (x ∷ ts) t ↔ Completes (after y) new ts t) (sym e) (λ h. d.0 (b.0 (a.0 h)), λ h. a.1 (b.1 (d.1 h)))

pub close_deep : (query : Tree) (old new : List Frame) (x : Lexeme) (left : Option LeftOperand) (inner : Grown) (ts : List Lexeme) → is_close x.class ≡ true → Unwinds query old new (Ok (Inner left inner)) → (t : Tree) → Completes (after query) old (x ∷ ts) t → depth (join (option_map left_of left) inner.tree) ≤ depth t
close_deep query old new x left inner ts c u t h =
    completes_deep (join (option_map left_of left) inner.tree) new ts t ((close_step left new inner.tree x ts t c).0 ((u (x ∷ ts) t).0 ((close_ends query old x ts t c).0 h)))

-- a prefix assignment that makes a query too deep makes the whole so
pub unwind_deep : (whole : Tree) (old cur new left_over : List Frame) (query : Tree) (left : Option LeftOperand) (name : Option (List ℕ)) (uri : List ℕ) (made : Tree) (e : Stop) → ((rest : List Lexeme) (t : Tree) → Ends old whole rest t ↔ Ends cur query rest t) → cur ≡ Prefix left name uri ∷ new → depth made ≤ depth (join (option_map left_of left) (assigned name uri query)) → Makes (Err e) made → Unwinds whole old left_over (Err e)
unwind_deep whole old cur new left_over query left name uri made NoQuery same frames has h = absurd h
unwind_deep whole old cur new left_over query left name uri made Memory same frames has h = tt
unwind_deep whole old cur new left_over query left name uri made Deep same frames has h = λ rest t ends.
    let here = subst (λ (fs : List Frame). Ends fs query rest t) frames ((same rest t).0 ends) in
    omega (arith, h, has, ends_deep new (join (option_map left_of left) (assigned name uri query)) rest t here)

-- where no tokens are left and no bracket is open, the query is whole
pub finish_whole : (query : Tree) (old new : List Frame) (g : Grown) → Unwinds query old new (Ok (Whole g)) → (t : Tree) → Completes (after query) old [] t ↔ (t ≡ g.tree)
finish_whole query old new g u t =
    let a = end_step query old [] t refl in
    let b = u [] t in
    (λ h. (b.0 (a.0 h)).1, λ e. a.1 (b.1 (refl, e)))

pub finish_inner : (query : Tree) (old new : List Frame) (left : Option LeftOperand) (g : Grown) → Unwinds query old new (Ok (Inner left g)) → (t : Tree) → Completes (after query) old [] t → ⊥
finish_inner query old new left g u t h =
    let w = (u [] t).0 ((end_step query old [] t refl).0 h) in
    let e : [] ≡ w.0 ∷ w.1 = w.4 in cc

-- one part after another
pub query_more : (text : List ℕ) (all : List Lexeme) (due : Due) (old new : List Frame) (ts : List Lexeme) (n : ℕ) (state : State) (rest : Bor (List Token)) → ((t : Tree) → IsQuery all t ↔ Completes due old ts t) → Goes text n due old ts new (Ok (state, rest)) → (t : Tree) → IsQuery all t ↔ Completes (due_of state) new (lexemes text rest.now) t
query_more text all due old new ts n state rest same goes t =
    (λ q. (goes t).0 ((same t).0 q), λ h. (same t).1 ((goes t).1 h))

pub query_err : (text : List ℕ) (all : List Lexeme) (due : Due) (old new : List Frame) (ts : List Lexeme) (n : ℕ) (e : Stop) → ((t : Tree) → IsQuery all t ↔ Completes due old ts t) → ((most_query_depth < nesting 0 all) ↔ (most_query_depth < nesting n ts)) → Goes text n due old ts new (Err e) → Builds all (Err e)
query_err text all due old new ts n NoQuery same nest goes = λ t q. goes t ((same t).0 q)
query_err text all due old new ts n Memory same nest goes = tt
query_err text all due old new ts n Deep same nest goes = λ t q. ⊎_elim (λ d. inl d) (λ b. inr (nest.1 b)) (goes t ((same t).0 q))

pub query_done : (all : List Lexeme) (due : Due) (frames : List Frame) (n : ℕ) (r : Result Grown Stop) → ((t : Tree) → IsQuery all t ↔ Completes due frames [] t) → ((most_query_depth < nesting 0 all) ↔ (most_query_depth < n)) → n ≤ most_query_depth → Shallow r → Finishes due frames r → Builds all r
query_done all due frames n (Ok g) same nest few low f =
    ((same g.tree).1 ((f g.tree).1 refl), low, ⊎_elim (λ above. absurd (omega (arith, nest.0 above, few))) (λ below. below) (cases_lt most_query_depth (nesting 0 all)))
query_done all due frames n (Err NoQuery) same nest few low f = λ t q. f t ((same t).0 q)
query_done all due frames n (Err Deep) same nest few low f = λ t q. inl (f t ((same t).0 q))
query_done all due frames n (Err Memory) same nest few low f = tt
