-- What a part of the parser answers, from what its own parts answer.
use Rattle.std.proofs.Common.{◌≡◌, ℕ, Bool, true, false, List, ◌∷◌, Option, Some, None, Result, Ok, Err, Bor, is_some, sym, ◌∙◌, subst}
use Rattle.cql_lex.specs.declared.token.Token.{Token}
use Rattle.cql_parse.specs.declared.lexeme.Class.{Class}
use Rattle.cql_parse.specs.declared.lexeme.Front.{Front}
use Rattle.cql_parse.specs.declared.fault.Stop.{Stop}
use Rattle.cql_parse.specs.declared.fault.Stop.TheVariants.{NoQuery, Deep, Memory}
use Rattle.cql_parse.specs.Lexemes.{Lexeme, lexemes, starts}
use Rattle.cql_parse.specs.declared.tree.SortKey.{SortKey}
use Rattle.cql_parse.specs.declared.tree.Modifier.{Modifier}
use Rattle.cql_parse.specs.declared.tree.Head.{Head}
use Rattle.std.proofs.lemmas.Bool.{false≢true}
use Rattle.cql_parse.specs.Classes.{is_term, is_equal, is_relation}
use Rattle.cql_parse.specs.Grammar.{Repeats, IsKey, AreKeys, AreModifiers, IsClause, IsComparison, IsPrefix, IsNamedPrefix}
use Rattle.cql_parse.proofs.UniqueParts.{AreModifiers_unique}
use Rattle.cql_parse.proofs.Repeating.{Reading, Reading_stuck}
use Rattle.cql_parse.specs.ParserAnswers.{IsFront, Finds}

-- where a part is not found, what it is a part of is not
pub Finds_err : {X Y : Type 0} (text : List ℕ) (R : X → List Lexeme → Type 0) (S : Y → List Lexeme → Type 0) (e : Stop) → ((y : Y) (rest : List Lexeme) → S y rest → (x : X) × (r : List Lexeme) × R x r) → Finds text R (Err e) → Finds text S (Err e)
Finds_err text R S NoQuery has h = λ y rest s. let w = has y rest s in h w.0 w.1 w.2
Finds_err text R S Deep has h = h
Finds_err text R S Memory has h = tt

-- the first token is of such a class exactly where one is found
pub front_some : (test : Class → Bool) (text : List ℕ) (tokens : List Token) (r : Option Front) → IsFront test text tokens r → is_some r ≡ true → starts test (lexemes text tokens) ≡ true
front_some test text tokens (Some f) h e = rw h.1 h.0
front_some test text tokens None h e = cc

pub front_none : (test : Class → Bool) (text : List ℕ) (tokens : List Token) (r : Option Front) → IsFront test text tokens r → is_some r ≡ false → starts test (lexemes text tokens) ≡ false
front_none test text tokens None h e = h
front_none test text tokens (Some f) h e = cc

-- where an item is due and not found, the tokens do not begin with items so
pub Finds_stuck : {X : Type 0} (text : List ℕ) (is_due : List Lexeme → Bool) (IsItem : List Lexeme → X → List Lexeme → Type 0) (ts : List Lexeme) (found : List X) (left : List Lexeme) (e : Stop) → Reading is_due IsItem ts found left → is_due left ≡ true → Finds text (IsItem left) (Err e) → Finds text (Repeats is_due IsItem ts) (Err e)
Finds_stuck text is_due IsItem ts found left NoQuery h due none = Reading_stuck is_due IsItem ts found left h due none
Finds_stuck text is_due IsItem ts found left Deep h due none = none
Finds_stuck text is_due IsItem ts found left Memory h due none = tt

-- a key's modifiers are those behind its term
pub key_modifiers : (ts : List Lexeme) (x : Lexeme) (more : List Lexeme) (k : SortKey) (rest : List Lexeme) → ts ≡ x ∷ more → IsKey ts k rest → AreModifiers more k.modifiers rest
key_modifiers ts x more k rest e h =
    let f : h.term ∷ h.more ≡ x ∷ more = sym h.tokens ∙ e in
    let same : h.more ≡ more = cc in
    subst (λ (t : List Lexeme). AreModifiers t k.modifiers rest) same h.modifiers

-- keys where a term comes are keys, at least one
pub Finds_keys : (text : List ℕ) (ts : List Lexeme) (r : Result (List SortKey × Bor (List Token)) Stop) → starts is_term ts ≡ true → Finds text (Repeats (starts is_term) IsKey ts) r → Finds text (AreKeys ts) r
Finds_keys text ts (Ok found) due h = (due, h)
Finds_keys text ts (Err e) due h = Finds_err text (Repeats (starts is_term) IsKey ts) (AreKeys ts) e (λ ks rest k. (ks, rest, k.1)) h

-- a prefix assignment whose term an equals sign follows names a prefix
pub prefix_named : (ts : List Lexeme) (sign first : Lexeme) (more : List Lexeme) → ts ≡ sign ∷ first ∷ more → starts is_equal more ≡ true → (p : Option (List ℕ) × List ℕ) (rest : List Lexeme) → IsPrefix ts p.0 p.1 rest → (q : List ℕ × List ℕ) × (r : List Lexeme) × IsNamedPrefix ts q.0 q.1 r
prefix_named ts sign first more e due (None, uri) rest h =
    let f : h.sign ∷ h.term ∷ rest ≡ sign ∷ first ∷ more = sym h.tokens ∙ e in
    let same : rest ≡ more = cc in
    absurd (false≢true (sym h.alone ∙ subst (λ (t : List Lexeme). starts is_equal t ≡ true) (sym same) due))
prefix_named ts sign first more e due (Some name, uri) rest h = ((name, uri), rest, h)

-- a clause whose term a relation follows is a comparison
pub clause_compared : (ts : List Lexeme) (first : Lexeme) (more : List Lexeme) → ts ≡ first ∷ more → starts is_relation more ≡ true → (c : Option Head × List ℕ) (rest : List Lexeme) → IsClause ts c.0 c.1 rest → (d : Head × List ℕ) × (r : List Lexeme) × IsComparison ts d.0 d.1 r
clause_compared ts first more e due (None, term) rest h =
    let f : h.term ∷ rest ≡ first ∷ more = sym h.tokens ∙ e in
    let same : rest ≡ more = cc in
    absurd (false≢true (sym h.alone ∙ subst (λ (t : List Lexeme). starts is_relation t ≡ true) (sym same) due))
clause_compared ts first more e due (Some head, term) rest h = ((head, term), rest, h)

-- a comparison's modifiers are those behind its relation
pub comparison_modifiers : (ts : List Lexeme) (x y : Lexeme) (more : List Lexeme) (c : Head × List ℕ) (rest : List Lexeme) → ts ≡ x ∷ y ∷ more → IsComparison ts c.0 c.1 rest → (ms : List Modifier) × (r : List Lexeme) × AreModifiers more ms r × (starts is_term r ≡ true)
comparison_modifiers ts x y more c rest e h =
    let f : h.index ∷ h.relation ∷ h.more ≡ x ∷ y ∷ more = sym h.tokens ∙ e in
    let same : h.more ≡ more = cc in
    (c.0.modifiers, h.term ∷ rest, subst (λ (t : List Lexeme). AreModifiers t c.0.modifiers (h.term ∷ rest)) same h.modifiers, h.is_term)

-- without a term behind the modifiers there is no comparison
pub comparison_stuck : (ts : List Lexeme) (x y : Lexeme) (more : List Lexeme) (ms : List Modifier) (left : List Lexeme) → ts ≡ x ∷ y ∷ more → AreModifiers more ms left → starts is_term left ≡ false → (c : Head × List ℕ) (rest : List Lexeme) → IsComparison ts c.0 c.1 rest → ⊥
comparison_stuck ts x y more ms left e m none c rest h =
    let w = comparison_modifiers ts x y more c rest e h in
    let same = AreModifiers_unique more ms w.0 left w.1 m w.2 in
    false≢true (sym none ∙ subst (λ (t : List Lexeme). starts is_term t ≡ true) (sym same.1) w.3)
