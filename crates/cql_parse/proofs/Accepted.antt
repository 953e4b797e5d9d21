-- What the phases accept is a query.
use Rattle.std.proofs.Common.{◌≡◌, ℕ, zero, suc, ◌<◌, ◌≤◌, Bool, true, false, List, [], ◌∷◌, length, Option, Some, None, ◌⊎◌, ⊎_elim, refl, sym, ◌∙◌, subst, ap, arith}
use Rattle.std.proofs.lemmas.Bool.{false≢true, eqb-true, cases_Bool}
use Rattle.cql_parse.specs.declared.tree.Modifier.{Modifier}
use Rattle.cql_parse.specs.declared.tree.Head.{Head}
use Rattle.cql_parse.specs.declared.tree.SortKey.{SortKey}
use Rattle.cql_parse.specs.declared.lexeme.Class.{Class}
use Rattle.cql_parse.specs.declared.lexeme.Class.TheVariants as class
use Rattle.cql_parse.specs.declared.first_fault.Owner.{Owner}
use Rattle.cql_parse.specs.declared.first_fault.Owner.TheVariants.{Relation, Boolean, Key}
use Rattle.cql_parse.specs.declared.first_fault.Phase.{Phase}
use Rattle.cql_parse.specs.declared.first_fault.Phase.TheVariants.{Clause, Term, After, SortBy, Sign, PrefixWord, Uri, Modified, Slash, Named, Value}
use Rattle.cql_parse.specs.Tree.{Tree, clause, assigned, sorted}
use Rattle.cql_parse.specs.Classes.{lower, is_word, is_term, is_symbol, is_relation, is_slash, is_close, is_equal, is_open, is_greater, is_boolean, is_sortby}
use Rattle.cql_parse.specs.Lexemes.{Lexeme, starts}
use Rattle.cql_parse.specs.Grammar.{Left, Due, operand, after, join, Repeats, IsName, IsModifier, AreModifiers, IsKey, IsClause, IsPrefix, Reads, plain, bracket, prefix, boolean, sort, done, ends_query, IsQuery}
use Rattle.cql_parse.specs.ParserPhases.{spot, step_of, accepts}
use Rattle.cql_parse.proofs.Faults.{accepts_some, accepts_none}
use Rattle.cql_parse.proofs.Accepting.{phase_of, on_clause_term, on_bare, on_operand, on_end, on_open, on_close, on_unvalued, on_unequal, on_sign, on_sortby, modifiers_end, term_no_slash, close_no_boolean, close_no_sortby}

-- where a phase has no next one for a token, it accepts none
refuse : {A : Type 0} (p : Phase) (n : ℕ) (x : Lexeme) (rest : List Lexeme) → step_of p n x.class ≡ None → accepts p n (x ∷ rest) ≡ true → A
refuse p n x rest e h = absurd (false≢true (sym (accepts_none p n x rest e) ∙ h))

-- a word where only a word may come, a term where only a term may
need_word : (owner : Owner) (n : ℕ) (x : Lexeme) (rest : List Lexeme) → accepts (Slash owner) n (x ∷ rest) ≡ true → (is_word x.class ≡ true) × (accepts (Named owner) n rest ≡ true)
need_word owner n x rest h = ⊎_elim (λ e. (e, sym (accepts_some (Slash owner) n x rest (spot (Named owner) n) (rw e refl)) ∙ h)) (λ e. refuse (Slash owner) n x rest (rw e refl) h) (cases_Bool (is_word x.class))

need_value : (owner : Owner) (n : ℕ) (x : Lexeme) (rest : List Lexeme) → accepts (Value owner) n (x ∷ rest) ≡ true → (is_term x.class ≡ true) × (accepts (Modified owner) n rest ≡ true)
need_value owner n x rest h = ⊎_elim (λ e. (e, sym (accepts_some (Value owner) n x rest (spot (Modified owner) n) (rw e refl)) ∙ h)) (λ e. refuse (Value owner) n x rest (rw e refl) h) (cases_Bool (is_term x.class))

need_uri : (n : ℕ) (x : Lexeme) (rest : List Lexeme) → accepts Uri n (x ∷ rest) ≡ true → (is_term x.class ≡ true) × (accepts Clause n rest ≡ true)
need_uri n x rest h = ⊎_elim (λ e. (e, sym (accepts_some Uri n x rest (spot Clause n) (rw e refl)) ∙ h)) (λ e. refuse Uri n x rest (rw e refl) h) (cases_Bool (is_term x.class))

-- modifiers, as far as they go
pub record HasModifiers (owner : Owner) (n : ℕ) (ts : List Lexeme) : Type 0 where
  ms : List Modifier
  rest : List Lexeme
  are : AreModifiers ts ms rest
  accepted : accepts (Modified owner) n rest ≡ true
  shorter : length rest ≤ length ts

-- one modifier, and what may follow it
pub record HasModifier (owner : Owner) (n : ℕ) (ts : List Lexeme) : Type 0 where
  m : Modifier
  rest : List Lexeme
  is : IsModifier ts m rest
  accepted : accepts (Modified owner) n rest ≡ true
  shorter : length rest < length ts

has_modifier : (owner : Owner) (n : ℕ) (x : Lexeme) (rest : List Lexeme) → is_slash x.class ≡ true → accepts (Modified owner) n (x ∷ rest) ≡ true → HasModifier owner n (x ∷ rest)
has_modifier owner n x rest slash h = at_name rest (sym (accepts_some (Modified owner) n x rest (spot (Slash owner) n) (rw slash refl)) ∙ h)
  where
    name : (w : Lexeme) (more : List Lexeme) → is_word w.class ≡ true → IsName (x ∷ w ∷ more) w.text more
    name w more e = record { slash = x; word = w; tokens = refl; is_slash = slash; is_word = e; spelled = refl }

    unvalued : (w : Lexeme) (more : List Lexeme) → is_word w.class ≡ true → starts is_symbol more ≡ false → accepts (Named owner) n more ≡ true → HasModifier owner n (x ∷ w ∷ more)
    unvalued w more e none a = record { m = record { name = w.text; value = None }; rest = more; is = (more, name w more e, (none, refl)); accepted = sym (on_unvalued owner n more none) ∙ a; shorter = omega arith }

    at_term : (w s : Lexeme) (more : List Lexeme) → is_word w.class ≡ true → is_symbol s.class ≡ true → accepts (Value owner) n more ≡ true → HasModifier owner n (x ∷ w ∷ s ∷ more)
    at_term w s [] e f a = absurd (false≢true a)
    at_term w s (t ∷ more) e f a =
        let v = need_value owner n t more a in
        record { m = record { name = w.text; value = Some (s.text, t.text) }; rest = more; is = (s ∷ t ∷ more, name w (s ∷ t ∷ more) e, record { symbol = s; term = t; tokens = refl; is_symbol = f; is_term = v.0; spelled = refl }); accepted = v.1; shorter = omega arith }

    at_value : (w : Lexeme) (more : List Lexeme) → is_word w.class ≡ true → accepts (Named owner) n more ≡ true → HasModifier owner n (x ∷ w ∷ more)
    at_value w [] e a = unvalued w [] e refl a
    at_value w (s ∷ more) e a =
        ⊎_elim (λ f. at_term w s more e f (sym (accepts_some (Named owner) n s more (spot (Value owner) n) (rw f refl)) ∙ a)) (λ f. unvalued w (s ∷ more) e f a) (cases_Bool (is_symbol s.class))

    at_name : (ts : List Lexeme) → accepts (Slash owner) n ts ≡ true → HasModifier owner n (x ∷ ts)
    at_name [] a = absurd (false≢true a)
    at_name (w ∷ more) a = let v = need_word owner n w more a in at_value w more v.0 v.1

has_modifiers : (k : ℕ) (owner : Owner) (n : ℕ) (ts : List Lexeme) → length ts ≤ k → accepts (Modified owner) n ts ≡ true → HasModifiers owner n ts
has_modifiers k owner n [] le h = record { ms = []; rest = []; are = (refl, refl); accepted = h; shorter = omega arith }
has_modifiers zero owner n (x ∷ ts) le h = absurd (omega (arith, le))
has_modifiers (suc k) owner n (x ∷ ts) le h = go (is_slash x.class) refl (λ (rest : List Lexeme) (l : length rest ≤ k) (a : accepts (Modified owner) n rest ≡ true). has_modifiers k owner n rest l a)
  where
    go : (b : Bool) → is_slash x.class ≡ b → ((rest : List Lexeme) → length rest ≤ k → accepts (Modified owner) n rest ≡ true → HasModifiers owner n rest) → HasModifiers owner n (x ∷ ts)
    go false e more = record { ms = []; rest = x ∷ ts; are = (e, refl); accepted = h; shorter = omega arith }
    go true e more =
        let one = has_modifier owner n x ts e h in
        let others = more one.rest (omega (arith, le, one.shorter)) one.accepted in
        record { ms = one.m ∷ others.ms; rest = others.rest; are = (e, one.rest, one.is, others.are); accepted = others.accepted; shorter = omega (arith, one.shorter, others.shorter) }

-- sort keys, as far as they go
pub record HasKeys (n : ℕ) (ts : List Lexeme) : Type 0 where
  ks : List SortKey
  rest : List Lexeme
  are : Repeats (starts is_term) IsKey ts ks rest
  accepted : accepts (Modified Key) n rest ≡ true
  ends : ends_query rest ≡ true
  shorter : length rest ≤ length ts

no_key_ends : (n : ℕ) (ts : List Lexeme) → starts is_slash ts ≡ false → starts is_term ts ≡ false → accepts (Modified Key) n ts ≡ true → ends_query ts ≡ true
no_key_ends n [] s t h = refl
no_key_ends n (x ∷ ts) s t h = go (is_close x.class) refl
  where
    go : (b : Bool) → is_close x.class ≡ b → is_close x.class ≡ true
    go true e = e
    go false e = refuse (Modified Key) n x ts (rw (s, t, e) refl) h

has_keys : (k : ℕ) (n : ℕ) (ts : List Lexeme) → length ts ≤ k → starts is_slash ts ≡ false → accepts (Modified Key) n ts ≡ true → HasKeys n ts
has_keys k n [] le s h = record { ks = []; rest = []; are = (refl, refl); accepted = h; ends = refl; shorter = omega arith }
has_keys zero n (x ∷ ts) le s h = absurd (omega (arith, le))
has_keys (suc k) n (x ∷ ts) le s h = go (is_term x.class) refl (λ (rest : List Lexeme) (l : length rest ≤ k) (f : starts is_slash rest ≡ false) (a : accepts (Modified Key) n rest ≡ true). has_keys k n rest l f a)
  where
    go : (b : Bool) → is_term x.class ≡ b → ((rest : List Lexeme) → length rest ≤ k → starts is_slash rest ≡ false → accepts (Modified Key) n rest ≡ true → HasKeys n rest) → HasKeys n (x ∷ ts)
    go false e more = record { ks = []; rest = x ∷ ts; are = (e, refl); accepted = h; ends = no_key_ends n (x ∷ ts) s e h; shorter = omega arith }
    go true e more =
        let a = sym (accepts_some (Modified Key) n x ts (spot (Modified Key) n) (rw (s, e) refl)) ∙ h in
        let ms = has_modifiers k Key n ts (omega (arith, le)) a in
        let others = more ms.rest (omega (arith, le, ms.shorter)) (modifiers_end ts ms.ms ms.rest ms.are) ms.accepted in
        let key : IsKey (x ∷ ts) (record { index = x.text; modifiers = ms.ms }) ms.rest = record { term = x; more = ts; tokens = refl; is_term = e; index = refl; modifiers = ms.are } in
        record { ks = record { index = x.text; modifiers = ms.ms } ∷ others.ks; rest = others.rest; are = (e, ms.rest, key, others.are); accepted = others.accepted; ends = others.ends; shorter = omega (arith, ms.shorter, others.shorter) }

-- behind sortby comes a term at least
first_key : (n : ℕ) (ts : List Lexeme) → accepts SortBy n ts ≡ true → (starts is_term ts ≡ true) × (starts is_slash ts ≡ false) × (accepts (Modified Key) n ts ≡ true)
first_key n [] h = absurd (false≢true h)
first_key n (x ∷ ts) h =
    ⊎_elim (λ (e : is_term x.class ≡ true).
    let s = term_no_slash x.class e in
    let a = sym (accepts_some SortBy n x ts (spot (Modified Key) n) (rw e refl)) ∙ h in
    (e, s, accepts_some (Modified Key) n x ts (spot (Modified Key) n) (rw (s, e) refl) ∙ a))
    (λ e. refuse SortBy n x ts (rw e refl) h) (cases_Bool (is_term x.class))

-- a clause
pub record HasClause (n : ℕ) (ts : List Lexeme) : Type 0 where
  head : Option Head
  text : List ℕ
  rest : List Lexeme
  is : IsClause ts head text rest
  accepted : accepts After n rest ≡ true
  shorter : length rest < length ts

-- behind a relation and its modifiers comes a term
last_term : (n : ℕ) (t : Lexeme) (rest : List Lexeme) → is_slash t.class ≡ false → accepts (Modified Relation) n (t ∷ rest) ≡ true → (is_term t.class ≡ true) × (accepts After n rest ≡ true)
last_term n t rest s b = go (is_term t.class) refl
  where
    go : (d : Bool) → is_term t.class ≡ d → (is_term t.class ≡ true) × (accepts After n rest ≡ true)
    go true g = (g, sym (accepts_some (Modified Relation) n t rest (spot After n) (rw (s, g) refl)) ∙ b)
    go false g = refuse (Modified Relation) n t rest (rw (s, g) refl) b

compared : (n : ℕ) (x r : Lexeme) (more : List Lexeme) → is_term x.class ≡ true → is_relation r.class ≡ true → accepts (Modified Relation) n more ≡ true → HasClause n (x ∷ r ∷ more)
compared n x r more e f a = let ms = has_modifiers (length more) Relation n more (omega arith) a in go ms.ms ms.rest ms.are ms.accepted ms.shorter
  where
    go : (ms : List Modifier) (rest : List Lexeme) → AreModifiers more ms rest → accepts (Modified Relation) n rest ≡ true → length rest ≤ length more → HasClause n (x ∷ r ∷ more)
    go ms [] are b le = absurd (false≢true b)
    go ms (t ∷ rest) are b le =
        let s = modifiers_end more ms (t ∷ rest) are in
        let v = last_term n t rest s b in
        record { head = Some (record { index = x.text; relation = r.text; modifiers = ms }); text = t.text; rest = rest; is = record { index = x; relation = r; term = t; more = more; tokens = refl; modifiers = are; is_index = e; is_relation = f; is_term = v.0; named = refl; related = refl; spelled = refl }; accepted = v.1; shorter = omega (arith, le) }

has_clause : (n : ℕ) (x : Lexeme) (ts : List Lexeme) → is_term x.class ≡ true → accepts Term n ts ≡ true → HasClause n (x ∷ ts)
has_clause n x [] e a = record { head = None; text = x.text; rest = []; is = record { term = x; tokens = refl; is_term = e; spelled = refl; alone = refl }; accepted = a; shorter = omega arith }
has_clause n x (r ∷ more) e a =
    ⊎_elim (λ f. compared n x r more e f (sym (accepts_some Term n r more (spot (Modified Relation) n) (rw f refl)) ∙ a))
    (λ f. record { head = None; text = x.text; rest = r ∷ more; is = record { term = x; tokens = refl; is_term = e; spelled = refl; alone = f }; accepted = sym (on_bare n (r ∷ more) f) ∙ a; shorter = omega arith })
    (cases_Bool (is_relation r.class))

-- a prefix assignment
pub record HasPrefix (n : ℕ) (ts : List Lexeme) : Type 0 where
  name : Option (List ℕ)
  uri : List ℕ
  rest : List Lexeme
  is : IsPrefix ts name uri rest
  accepted : accepts Clause n rest ≡ true
  shorter : length rest < length ts

pub has_prefix : (n : ℕ) (x : Lexeme) (ts : List Lexeme) → is_greater x.class ≡ true → accepts Sign n ts ≡ true → HasPrefix n (x ∷ ts)
has_prefix n x [] g a = absurd (false≢true a)
has_prefix n x (w ∷ ts) g a = ⊎_elim (λ e. at_word ts e (sym (accepts_some Sign n w ts (spot PrefixWord n) (rw e refl)) ∙ a)) (λ e. at_quoted e) (cases_Bool (is_word w.class))
  where
    word_term : (c : Class) → is_word c ≡ true → is_term c ≡ true
    word_term class.Word h = refl
    word_term class.Boolean h = refl
    word_term class.SortBy h = refl
    word_term class.Quoted h = refl
    word_term _ h = cc

    unnamed : (more : List Lexeme) → is_term w.class ≡ true → starts is_equal more ≡ false → accepts Clause n more ≡ true → HasPrefix n (x ∷ w ∷ more)
    unnamed more e f b = record { name = None; uri = w.text; rest = more; is = record { sign = x; term = w; tokens = refl; is_sign = g; is_term = e; assigned = refl; alone = f }; accepted = b; shorter = omega arith }

    at_uri : (q : Lexeme) (more : List Lexeme) → is_word w.class ≡ true → is_equal q.class ≡ true → accepts Uri n more ≡ true → HasPrefix n (x ∷ w ∷ q ∷ more)
    at_uri q [] e f b = absurd (false≢true b)
    at_uri q (t ∷ more) e f b =
        let v = need_uri n t more b in
        record { name = Some w.text; uri = t.text; rest = more; is = record { sign = x; word = w; equal = q; term = t; tokens = refl; is_sign = g; is_word = e; is_equal = f; is_term = v.0; spelled = refl; assigned = refl }; accepted = v.1; shorter = omega arith }

    at_word : (more : List Lexeme) → is_word w.class ≡ true → accepts PrefixWord n more ≡ true → HasPrefix n (x ∷ w ∷ more)
    at_word [] e b = absurd (false≢true b)
    at_word (q ∷ more) e b = ⊎_elim (λ f. at_uri q more e f (sym (accepts_some PrefixWord n q more (spot Uri n) (rw f refl)) ∙ b)) (λ f. unnamed (q ∷ more) (word_term w.class e) f (sym (on_unequal n (q ∷ more) f) ∙ b)) (cases_Bool (is_equal q.class))

    equal_refused : (more : List Lexeme) → accepts Clause n more ≡ true → starts is_equal more ≡ false
    equal_refused [] b = refl
    equal_refused (q ∷ more) b = ⊎_elim (λ f. refuse Clause n q more (no_equal q.class f) b) (λ f. f) (cases_Bool (is_equal q.class))
      where
        no_equal : (c : Class) → is_equal c ≡ true → step_of Clause n c ≡ None
        no_equal class.Equal h = refl
        no_equal _ h = cc

    at_quoted : is_word w.class ≡ false → HasPrefix n (x ∷ w ∷ ts)
    at_quoted e =
        ⊎_elim (λ (f : is_term w.class ≡ true). let b = sym (accepts_some Sign n w ts (spot Clause n) (rw (e, f) refl)) ∙ a in unnamed ts f (equal_refused ts b) b) (λ (f : is_term w.class ≡ false). refuse Sign n w ts (rw (e, f) refl) a) (cases_Bool (is_term w.class))

-- what is due makes some tree of the tokens, up to where the query ends
pub record Found (due : Due) (n : ℕ) (ts : List Lexeme) : Type 0 where
  q : Tree
  end : List Lexeme
  reads : Reads due ts q end
  accepted : accepts After n end ≡ true
  ends : ends_query end ≡ true
  shorter : length end ≤ length ts

-- an inner query ends at a closing bracket
record AtClose (n : ℕ) (end : List Lexeme) : Type 0 where
  y : Lexeme
  rest : List Lexeme
  tokens : end ≡ y ∷ rest
  is_close : is_close y.class ≡ true
  accepted : accepts After n rest ≡ true

at_close : (n : ℕ) (end : List Lexeme) → ends_query end ≡ true → accepts After (suc n) end ≡ true → AtClose n end
at_close n [] e h = absurd (omega (arith, eqb-true (suc n) 0 h))
at_close n (y ∷ rest) e h = record { y = y; rest = rest; tokens = refl; is_close = e; accepted = sym (on_close n y rest e) ∙ h }

-- how far the search for a tree has come: of fewer tokens there is one
abbrev Finds : ℕ → Type 0
Finds k = (due : Due) (n : ℕ) (ts : List Lexeme) → length ts < k → accepts (phase_of due) n ts ≡ true → Found due n ts

found_clause : (k : ℕ) → Finds k → (left : Option Left) (n : ℕ) (x : Lexeme) (ts : List Lexeme) → length (x ∷ ts) ≤ k → is_term x.class ≡ true → accepts Clause n (x ∷ ts) ≡ true → Found (operand left) n (x ∷ ts)
found_clause k more left n x ts le e h =
    let c = has_clause n x ts e (sym (on_clause_term n x ts e) ∙ h) in
    let f = more (after (join left (clause c.head c.text))) n c.rest (omega (arith, le, c.shorter)) c.accepted in
    record { q = f.q; end = f.end; reads = plain c.head c.text c.is f.reads; accepted = f.accepted; ends = f.ends; shorter = omega (arith, c.shorter, f.shorter) }

found_bracket : (k : ℕ) → Finds k → (left : Option Left) (n : ℕ) (x : Lexeme) (ts : List Lexeme) → length (x ∷ ts) ≤ k → is_open x.class ≡ true → accepts Clause n (x ∷ ts) ≡ true → Found (operand left) n (x ∷ ts)
found_bracket k more left n x ts le o h =
    let inner = more (operand None) (suc n) ts (omega (arith, le)) (sym (on_open n x ts o) ∙ h) in
    let c = at_close n inner.end inner.ends inner.accepted in
    let len : length inner.end ≡ length (c.y ∷ c.rest) = ap length c.tokens in
    let f = more (after (join left inner.q)) n c.rest (omega (arith, le, inner.shorter, len)) c.accepted in
    let i = subst (λ (l : List Lexeme). Reads (operand None) ts inner.q l) c.tokens inner.reads in
    record { q = f.q; end = f.end; reads = bracket x c.y o i c.is_close f.reads; accepted = f.accepted; ends = f.ends; shorter = omega (arith, inner.shorter, len, f.shorter) }

found_prefix : (k : ℕ) → Finds k → (left : Option Left) (n : ℕ) (x : Lexeme) (ts : List Lexeme) → length (x ∷ ts) ≤ k → is_greater x.class ≡ true → accepts Clause n (x ∷ ts) ≡ true → Found (operand left) n (x ∷ ts)
found_prefix k more left n x ts le g h =
    let p = has_prefix n x ts g (sym (on_sign n x ts g) ∙ h) in
    let f = more (operand None) n p.rest (omega (arith, le, p.shorter)) p.accepted in
    record { q = join left (assigned p.name p.uri f.q); end = f.end; reads = prefix p.name p.uri p.is f.reads; accepted = f.accepted; ends = f.ends; shorter = omega (arith, p.shorter, f.shorter) }

found_operand : (k : ℕ) → Finds k → (left : Option Left) (n : ℕ) (ts : List Lexeme) → length ts ≤ k → accepts Clause n ts ≡ true → Found (operand left) n ts
found_operand k more left n [] le h = absurd (false≢true h)
found_operand k more left n (x ∷ ts) le h = go (is_term x.class) refl
  where
    at_sign : is_term x.class ≡ false → is_open x.class ≡ false → (b : Bool) → is_greater x.class ≡ b → Found (operand left) n (x ∷ ts)
    at_sign t o true g = found_prefix k more left n x ts le g h
    at_sign t o false g = refuse Clause n x ts (rw (t, o, g) refl) h

    at_open : is_term x.class ≡ false → (b : Bool) → is_open x.class ≡ b → Found (operand left) n (x ∷ ts)
    at_open t true o = found_bracket k more left n x ts le o h
    at_open t false o = at_sign t o (is_greater x.class) refl

    go : (b : Bool) → is_term x.class ≡ b → Found (operand left) n (x ∷ ts)
    go true t = found_clause k more left n x ts le t h
    go false t = at_open t (is_open x.class) refl

found_boolean : (k : ℕ) → Finds k → (tree : Tree) (n : ℕ) (x : Lexeme) (ts : List Lexeme) → length (x ∷ ts) ≤ k → is_boolean x.class ≡ true → accepts After n (x ∷ ts) ≡ true → Found (after tree) n (x ∷ ts)
found_boolean k more tree n x ts le b h =
    let a = sym (accepts_some After n x ts (spot (Modified Boolean) n) (rw b refl)) ∙ h in
    let ms = has_modifiers (length ts) Boolean n ts (omega arith) a in
    let c = sym (on_operand n ms.rest (modifiers_end ts ms.ms ms.rest ms.are)) ∙ ms.accepted in
    let f = more (operand (Some (record { tree = tree; boolean = lower x.text; modifiers = ms.ms }))) n ms.rest (omega (arith, le, ms.shorter)) c in
    record { q = f.q; end = f.end; reads = boolean x ms.ms b ms.are f.reads; accepted = f.accepted; ends = f.ends; shorter = omega (arith, ms.shorter, f.shorter) }

found_sort : (tree : Tree) (n : ℕ) (x : Lexeme) (ts : List Lexeme) → is_sortby x.class ≡ true → accepts After n (x ∷ ts) ≡ true → Found (after tree) n (x ∷ ts)
found_sort tree n x ts s h =
    let first = first_key n ts (sym (on_sortby n x ts s) ∙ h) in
    let ks = has_keys (length ts) n ts (omega arith) first.1 first.2 in
    record { q = sorted tree ks.ks; end = ks.rest; reads = sort x ks.ks s (first.0, ks.are) ks.ends; accepted = sym (on_end n ks.rest ks.ends) ∙ ks.accepted; ends = ks.ends; shorter = omega (arith, ks.shorter) }

found_after : (k : ℕ) → Finds k → (tree : Tree) (n : ℕ) (ts : List Lexeme) → length ts ≤ k → accepts After n ts ≡ true → Found (after tree) n ts
found_after k more tree n [] le h = record { q = tree; end = []; reads = done refl; accepted = h; ends = refl; shorter = omega arith }
found_after k more tree n (x ∷ ts) le h = go (is_boolean x.class) refl
  where
    at_close_ : is_boolean x.class ≡ false → is_sortby x.class ≡ false → (b : Bool) → is_close x.class ≡ b → Found (after tree) n (x ∷ ts)
    at_close_ t o true g = record { q = tree; end = x ∷ ts; reads = done g; accepted = h; ends = g; shorter = omega arith }
    at_close_ t o false g = refuse After n x ts (rw (t, o, g) refl) h

    at_sort : is_boolean x.class ≡ false → (b : Bool) → is_sortby x.class ≡ b → Found (after tree) n (x ∷ ts)
    at_sort t true o = found_sort tree n x ts o h
    at_sort t false o = at_close_ t o (is_close x.class) refl

    go : (b : Bool) → is_boolean x.class ≡ b → Found (after tree) n (x ∷ ts)
    go true t = found_boolean k more tree n x ts le t h
    go false t = at_sort t (is_sortby x.class) refl

finds : (k : ℕ) → Finds k
finds zero due n ts le h = absurd (omega (arith, le))
finds (suc k) (operand left) n ts le h = found_operand k (finds k) left n ts (omega (arith, le)) h
finds (suc k) (after tree) n ts le h = found_after k (finds k) tree n ts (omega (arith, le)) h

-- what is accepted is a query
pub accepted_query : (ts : List Lexeme) → accepts Clause 0 ts ≡ true → (t : Tree) × IsQuery ts t
accepted_query ts h =
    let f = finds (suc (length ts)) (operand None) 0 ts (omega arith) h in
    (f.q, subst (λ (l : List Lexeme). Reads (operand None) ts f.q l) (no_more f.end f.ends f.accepted) f.reads)
  where
    no_more : (end : List Lexeme) → ends_query end ≡ true → accepts After 0 end ≡ true → end ≡ []
    no_more [] e a = refl
    no_more (y ∷ rest) e a = refuse After 0 y rest (let b = close_no_boolean y.class e in let s = close_no_sortby y.class e in rw (b, s, e) refl) a
