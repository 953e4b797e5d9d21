-- The phases accept every query.
use Rattle.std.proofs.Common.{◌≡◌, ℕ, suc, Bool, true, false, List, [], ◌∷◌, Option, Some, None, refl, sym, ◌∙◌, ap}
use Rattle.std.proofs.lemmas.Bool.{false≢true}
use Rattle.cql_parse.specs.declared.tree.Modifier.{Modifier}
use Rattle.cql_parse.specs.declared.tree.Head.{Head}
use Rattle.cql_parse.specs.declared.tree.SortKey.{SortKey}
use Rattle.cql_parse.specs.declared.lexeme.Class.{Class}
use Rattle.cql_parse.specs.declared.lexeme.Class.TheVariants as class
use Rattle.cql_parse.specs.declared.first_fault.Owner.{Owner}
use Rattle.cql_parse.specs.declared.first_fault.Owner.TheVariants.{Relation, Boolean, Key}
use Rattle.cql_parse.specs.declared.first_fault.Phase.{Phase}
use Rattle.cql_parse.specs.declared.first_fault.Phase.TheVariants.{Clause, Term, After, SortBy, Sign, PrefixWord, Uri, Modified, Slash, Named, Value}
use Rattle.cql_parse.specs.declared.first_fault.Spot.{Spot}
use Rattle.cql_parse.specs.Tree.{Tree}
use Rattle.cql_parse.specs.Classes.{is_word, is_term, is_symbol, is_relation, is_slash, is_close, is_equal, is_open, is_greater, is_boolean, is_sortby}
use Rattle.cql_parse.specs.Lexemes.{Lexeme, starts}
use Rattle.cql_parse.specs.Grammar.{Due, operand, after, Repeats, IsName, MayHaveValue, AreModifiers, IsKey, AreKeys, IsClause, IsPrefix, Reads, plain, bracket, prefix, boolean, sort, done, ends_query, IsQuery}
use Rattle.cql_parse.specs.ParserPhases.{spot, step_of, accepts}
use Rattle.cql_parse.proofs.Inverting.{open_no_term, greater_no_term, sortby_no_boolean, close_no_term}
use Rattle.cql_parse.proofs.Faults.{accepts_some}

-- the classes of tokens are apart
pub term_no_slash : (c : Class) → is_term c ≡ true → is_slash c ≡ false
term_no_slash class.Slash h = cc
term_no_slash _ h = refl

pub close_no_slash : (c : Class) → is_close c ≡ true → is_slash c ≡ false
close_no_slash class.Slash h = cc
close_no_slash _ h = refl

pub close_no_boolean : (c : Class) → is_close c ≡ true → is_boolean c ≡ false
close_no_boolean class.Boolean h = cc
close_no_boolean _ h = refl

pub close_no_sortby : (c : Class) → is_close c ≡ true → is_sortby c ≡ false
close_no_sortby class.SortBy h = cc
close_no_sortby _ h = refl

pub greater_no_open : (c : Class) → is_greater c ≡ true → is_open c ≡ false
greater_no_open class.Open h = cc
greater_no_open _ h = refl

-- phases with the same next phase accept the same
same_step : (p q : Phase) (n : ℕ) (x : Lexeme) (rest : List Lexeme) → step_of p n x.class ≡ step_of q n x.class → accepts p n (x ∷ rest) ≡ accepts q n (x ∷ rest)
same_step p q n x rest h = ap (λ (o : Option Spot). let r : Bool = elim o [ None ↦ false | Some s ↦ accepts s.phase s.«open» rest ] in r) h

-- a term where a clause is due, and one that no relation follows
pub on_clause_term : (n : ℕ) (x : Lexeme) (rest : List Lexeme) → is_term x.class ≡ true → accepts Clause n (x ∷ rest) ≡ accepts Term n rest
on_clause_term n x rest h = accepts_some Clause n x rest (spot Term n) (rw h refl)

pub on_bare : (n : ℕ) (rest : List Lexeme) → starts is_relation rest ≡ false → accepts Term n rest ≡ accepts After n rest
on_bare n [] h = refl
on_bare n (x ∷ rest) h = same_step Term After n x rest (rw h refl)

-- a modifier's name, with and without a value
pub on_unvalued : (owner : Owner) (n : ℕ) (rest : List Lexeme) → starts is_symbol rest ≡ false → accepts (Named owner) n rest ≡ accepts (Modified owner) n rest
on_unvalued Relation n [] h = refl
on_unvalued Boolean n [] h = refl
on_unvalued Key n [] h = refl
on_unvalued owner n (x ∷ rest) h = same_step (Named owner) (Modified owner) n x rest (rw h refl)

on_value : (owner : Owner) (n : ℕ) (ts : List Lexeme) (value : Option (List ℕ × List ℕ)) (rest : List Lexeme) → MayHaveValue ts value rest → accepts (Named owner) n ts ≡ accepts (Modified owner) n rest
on_value owner n ts None rest h = on_unvalued owner n ts h.0 ∙ ap (λ (l : List Lexeme). accepts (Modified owner) n l) (sym h.1)
on_value owner n ts (Some value) rest h =
    ap (λ (l : List Lexeme). accepts (Named owner) n l) h.tokens
    ∙ accepts_some (Named owner) n h.symbol (h.term ∷ rest) (spot (Value owner) n) (rw h.is_symbol refl)
    ∙ accepts_some (Value owner) n h.term rest (spot (Modified owner) n) (rw h.is_term refl)

on_name : (owner : Owner) (n : ℕ) (ts : List Lexeme) (name : List ℕ) (rest : List Lexeme) → IsName ts name rest → accepts (Modified owner) n ts ≡ accepts (Named owner) n rest
on_name owner n ts name rest h =
    ap (λ (l : List Lexeme). accepts (Modified owner) n l) h.tokens
    ∙ accepts_some (Modified owner) n h.slash (h.word ∷ rest) (spot (Slash owner) n) (rw h.is_slash refl)
    ∙ accepts_some (Slash owner) n h.word rest (spot (Named owner) n) (rw h.is_word refl)

pub on_modifiers : (owner : Owner) (n : ℕ) (ts : List Lexeme) (ms : List Modifier) (rest : List Lexeme) → AreModifiers ts ms rest → accepts (Modified owner) n ts ≡ accepts (Modified owner) n rest
on_modifiers owner n ts [] rest h = ap (λ (l : List Lexeme). accepts (Modified owner) n l) (sym h.1)
on_modifiers owner n ts (m ∷ ms) rest h =
    on_name owner n ts m.name h.2.0 h.2.1 ∙ on_value owner n h.2.0 m.value h.1 h.2.2 ∙ on_modifiers owner n h.1 ms rest h.3

pub modifiers_end : (ts : List Lexeme) (ms : List Modifier) (rest : List Lexeme) → AreModifiers ts ms rest → starts is_slash rest ≡ false
modifiers_end ts [] rest h = rw h.1 h.0
modifiers_end ts (m ∷ ms) rest h = modifiers_end h.1 ms rest h.3

-- a clause
pub on_clause : (n : ℕ) (ts : List Lexeme) (head : Option Head) (text : List ℕ) (rest : List Lexeme) → IsClause ts head text rest → accepts Clause n ts ≡ accepts After n rest
on_clause n ts None text rest h =
    ap (λ (l : List Lexeme). accepts Clause n l) h.tokens ∙ on_clause_term n h.term rest h.is_term ∙ on_bare n rest h.alone
on_clause n ts (Some head) text rest h =
    let no_slash = term_no_slash h.term.class h.is_term in
    ap (λ (l : List Lexeme). accepts Clause n l) h.tokens
    ∙ on_clause_term n h.index (h.relation ∷ h.more) h.is_index
    ∙ accepts_some Term n h.relation h.more (spot (Modified Relation) n) (rw h.is_relation refl)
    ∙ on_modifiers Relation n h.more head.modifiers (h.term ∷ rest) h.modifiers
    ∙ accepts_some (Modified Relation) n h.term rest (spot After n) (rw (no_slash, h.is_term) refl)

-- a prefix assignment
pub on_sign : (n : ℕ) (x : Lexeme) (rest : List Lexeme) → is_greater x.class ≡ true → accepts Clause n (x ∷ rest) ≡ accepts Sign n rest
on_sign n x rest h =
    let no_term = greater_no_term x.class h in
    let no_open = greater_no_open x.class h in
    accepts_some Clause n x rest (spot Sign n) (rw (no_term, no_open, h) refl)

pub on_unequal : (n : ℕ) (rest : List Lexeme) → starts is_equal rest ≡ false → accepts PrefixWord n rest ≡ accepts Clause n rest
on_unequal n [] h = refl
on_unequal n (x ∷ rest) h = same_step PrefixWord Clause n x rest (rw h refl)

pub on_plain : (n : ℕ) (x : Lexeme) (rest : List Lexeme) → is_term x.class ≡ true → starts is_equal rest ≡ false → accepts Sign n (x ∷ rest) ≡ accepts Clause n rest
on_plain n x rest h alone = go (is_word x.class) refl
  where
    go : (b : Bool) → is_word x.class ≡ b → accepts Sign n (x ∷ rest) ≡ accepts Clause n rest
    go true e = accepts_some Sign n x rest (spot PrefixWord n) (rw e refl) ∙ on_unequal n rest alone
    go false e = accepts_some Sign n x rest (spot Clause n) (rw (e, h) refl)

pub on_prefix : (n : ℕ) (ts : List Lexeme) (name : Option (List ℕ)) (uri : List ℕ) (rest : List Lexeme) → IsPrefix ts name uri rest → accepts Clause n ts ≡ accepts Clause n rest
on_prefix n ts None uri rest h =
    ap (λ (l : List Lexeme). accepts Clause n l) h.tokens ∙ on_sign n h.sign (h.term ∷ rest) h.is_sign ∙ on_plain n h.term rest h.is_term h.alone
on_prefix n ts (Some name) uri rest h =
    ap (λ (l : List Lexeme). accepts Clause n l) h.tokens
    ∙ on_sign n h.sign (h.word ∷ h.equal ∷ h.term ∷ rest) h.is_sign
    ∙ accepts_some Sign n h.word (h.equal ∷ h.term ∷ rest) (spot PrefixWord n) (rw h.is_word refl)
    ∙ accepts_some PrefixWord n h.equal (h.term ∷ rest) (spot Uri n) (rw h.is_equal refl)
    ∙ accepts_some Uri n h.term rest (spot Clause n) (rw h.is_term refl)

-- a boolean with its modifiers
pub on_operand : (n : ℕ) (rest : List Lexeme) → starts is_slash rest ≡ false → accepts (Modified Boolean) n rest ≡ accepts Clause n rest
on_operand n [] h = refl
on_operand n (x ∷ rest) h = same_step (Modified Boolean) Clause n x rest (rw h refl)

pub on_boolean : (n : ℕ) (x : Lexeme) (ts : List Lexeme) (ms : List Modifier) (rest : List Lexeme) → is_boolean x.class ≡ true → AreModifiers ts ms rest → accepts After n (x ∷ ts) ≡ accepts Clause n rest
on_boolean n x ts ms rest b m =
    accepts_some After n x ts (spot (Modified Boolean) n) (rw b refl) ∙ on_modifiers Boolean n ts ms rest m ∙ on_operand n rest (modifiers_end ts ms rest m)

-- sort keys
on_more_keys : (n : ℕ) (ts : List Lexeme) (ks : List SortKey) (rest : List Lexeme) → Repeats (starts is_term) IsKey ts ks rest → accepts (Modified Key) n ts ≡ accepts (Modified Key) n rest
on_more_keys n ts [] rest h = ap (λ (l : List Lexeme). accepts (Modified Key) n l) (sym h.1)
on_more_keys n ts (k ∷ ks) rest h =
    let no_slash = term_no_slash h.2.term.class h.2.is_term in
    ap (λ (l : List Lexeme). accepts (Modified Key) n l) h.2.tokens
    ∙ accepts_some (Modified Key) n h.2.term h.2.more (spot (Modified Key) n) (rw (no_slash, h.2.is_term) refl)
    ∙ on_modifiers Key n h.2.more k.modifiers h.1 h.2.modifiers
    ∙ on_more_keys n h.1 ks rest h.3

pub on_keys : (n : ℕ) (ts : List Lexeme) (ks : List SortKey) (rest : List Lexeme) → AreKeys ts ks rest → accepts SortBy n ts ≡ accepts (Modified Key) n rest
on_keys n ts [] rest h = absurd (false≢true (sym h.1.0 ∙ h.0))
on_keys n ts (k ∷ ks) rest h =
    let w = h.1 in
    ap (λ (l : List Lexeme). accepts SortBy n l) w.2.tokens
    ∙ accepts_some SortBy n w.2.term w.2.more (spot (Modified Key) n) (rw w.2.is_term refl)
    ∙ on_modifiers Key n w.2.more k.modifiers w.1 w.2.modifiers
    ∙ on_more_keys n w.1 ks rest w.3

pub on_end : (n : ℕ) (rest : List Lexeme) → ends_query rest ≡ true → accepts (Modified Key) n rest ≡ accepts After n rest
on_end n [] h = refl
on_end n (x ∷ rest) h =
    let no_slash = close_no_slash x.class h in
    let no_term = close_no_term x.class h in
    let no_boolean = close_no_boolean x.class h in
    let no_sortby = close_no_sortby x.class h in
    same_step (Modified Key) After n x rest (rw (no_slash, no_term, no_boolean, no_sortby) refl)

pub on_sortby : (n : ℕ) (x : Lexeme) (rest : List Lexeme) → is_sortby x.class ≡ true → accepts After n (x ∷ rest) ≡ accepts SortBy n rest
on_sortby n x rest h = let no_boolean = sortby_no_boolean x.class h in accepts_some After n x rest (spot SortBy n) (rw (no_boolean, h) refl)

pub on_open : (n : ℕ) (x : Lexeme) (rest : List Lexeme) → is_open x.class ≡ true → accepts Clause n (x ∷ rest) ≡ accepts Clause (suc n) rest
on_open n x rest h = let no_term = open_no_term x.class h in accepts_some Clause n x rest (spot Clause (suc n)) (rw (no_term, h) refl)

pub on_close : (n : ℕ) (x : Lexeme) (rest : List Lexeme) → is_close x.class ≡ true → accepts After (suc n) (x ∷ rest) ≡ accepts After n rest
on_close n x rest h =
    let no_boolean = close_no_boolean x.class h in
    let no_sortby = close_no_sortby x.class h in
    accepts_some After (suc n) x rest (spot After n) (rw (no_boolean, no_sortby, h) refl)

-- the phase in which this is due
abbrev pub phase_of : Due → Phase
phase_of (operand left) = Clause
phase_of (after tree) = After

-- what a query begins with is passed
pub reads_accepts : {due : Due} {ts end : List Lexeme} {q : Tree} → Reads due ts q end → (n : ℕ) → accepts (phase_of due) n ts ≡ accepts After n end
reads_accepts (plain {ts = ts} {rest = rest} head text c r) n = on_clause n ts head text rest c ∙ reads_accepts r n
reads_accepts (bracket {ts = ts} {rest = rest} x y o i c r) n =
    on_open n x ts o ∙ reads_accepts i (suc n) ∙ on_close n y rest c ∙ reads_accepts r n
reads_accepts (prefix {ts = ts} {rest = rest} name uri p r) n = on_prefix n ts name uri rest p ∙ reads_accepts r n
reads_accepts (boolean {ts = ts} {rest = rest} x ms b m r) n = on_boolean n x ts ms rest b m ∙ reads_accepts r n
reads_accepts (sort {ts = ts} {end = end} x keys s k e) n = on_sortby n x ts s ∙ on_keys n ts keys end k ∙ on_end n end e
reads_accepts (done e) n = refl

pub query_accepted : (ts : List Lexeme) (t : Tree) → IsQuery ts t → accepts Clause 0 ts ≡ true
query_accepted ts t h = reads_accepts h 0
