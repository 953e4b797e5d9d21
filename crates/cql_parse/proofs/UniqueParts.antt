-- The parts of a query that hold no query begin tokens in one way at most.
use Rattle.std.proofs.Common.{◌≡◌, ℕ, true, List, ◌∷◌, Option, Some, None, refl, sym, ◌∙◌, subst, ap}
use Rattle.std.proofs.lemmas.Bool.{false≢true}
use Rattle.cql_parse.specs.declared.tree.Head.{Head}
use Rattle.cql_parse.specs.Classes.{is_term, is_symbol, is_relation, is_slash, is_equal}
use Rattle.cql_parse.specs.Lexemes.{Lexeme, starts}
use Rattle.cql_parse.specs.Grammar.{IsName, IsValue, MayHaveValue, IsModifier, AreModifiers, IsKey, AreKeys, IsTerm, IsComparison, IsClause, IsPlainPrefix, IsNamedPrefix, IsPrefix}
use Rattle.cql_parse.proofs.Repeating.{IsUnique, Repeats_unique}

pub IsName_unique : IsUnique IsName
IsName_unique ts x y r s h k =
    let e : h.slash ∷ h.word ∷ r ≡ k.slash ∷ k.word ∷ s = sym h.tokens ∙ k.tokens in
    let same : h.word ≡ k.word = cc in
    let rest : r ≡ s = cc in
    (sym h.spelled ∙ ap (λ (l : Lexeme). l.text) same ∙ k.spelled, rest)

IsValue_unique : IsUnique IsValue
IsValue_unique ts x y r s h k =
    let e : h.symbol ∷ h.term ∷ r ≡ k.symbol ∷ k.term ∷ s = sym h.tokens ∙ k.tokens in
    let sign : h.symbol ≡ k.symbol = cc in
    let term : h.term ≡ k.term = cc in
    let rest : r ≡ s = cc in
    (sym h.spelled ∙ (λ i. ((sign i).text, (term i).text)) ∙ k.spelled, rest)

-- a symbol comes where a value does
symbol_first : (ts rest : List Lexeme) (value : List ℕ × List ℕ) → IsValue ts value rest → starts is_symbol ts ≡ true
symbol_first ts rest value h = rw h.tokens h.is_symbol

pub MayHaveValue_unique : IsUnique MayHaveValue
MayHaveValue_unique ts None None r s h k = (refl, h.1 ∙ sym k.1)
MayHaveValue_unique ts None (Some y) r s h k = absurd (false≢true (sym h.0 ∙ symbol_first ts s y k))
MayHaveValue_unique ts (Some x) None r s h k = absurd (false≢true (sym k.0 ∙ symbol_first ts r x h))
MayHaveValue_unique ts (Some x) (Some y) r s h k = let w = IsValue_unique ts x y r s h k in (ap Some w.0, w.1)

pub IsModifier_unique : IsUnique IsModifier
IsModifier_unique ts x y r s h k =
    let name = IsName_unique ts x.name y.name h.0 k.0 h.1 k.1 in
    let k' = subst (λ (t : List Lexeme). MayHaveValue t y.value s) (sym name.1) k.2 in
    let value = MayHaveValue_unique h.0 x.value y.value r s h.2 k' in
    (λ i. record { name = name.0 i; value = value.0 i }, value.1)

pub AreModifiers_unique : IsUnique AreModifiers
AreModifiers_unique = Repeats_unique (starts is_slash) IsModifier IsModifier_unique

pub IsKey_unique : IsUnique IsKey
IsKey_unique ts x y r s h k =
    let e : h.term ∷ h.more ≡ k.term ∷ k.more = sym h.tokens ∙ k.tokens in
    let term : h.term ≡ k.term = cc in
    let more : h.more ≡ k.more = cc in
    let k' = subst (λ (t : List Lexeme). AreModifiers t y.modifiers s) (sym more) k.modifiers in
    let modifiers = AreModifiers_unique h.more x.modifiers y.modifiers r s h.modifiers k' in
    let index : x.index ≡ y.index = sym h.index ∙ ap (λ (l : Lexeme). l.text) term ∙ k.index in
    (λ i. record { index = index i; modifiers = modifiers.0 i }, modifiers.1)

pub AreKeys_unique : IsUnique AreKeys
AreKeys_unique ts x y r s h k = Repeats_unique (starts is_term) IsKey IsKey_unique ts x y r s h.1 k.1

-- a relation comes where a comparison does
pub relation_second : (ts : List Lexeme) (head : Head) (text : List ℕ) (rest : List Lexeme) (x : Lexeme) (more : List Lexeme) → IsComparison ts head text rest → ts ≡ x ∷ more → starts is_relation more ≡ true
relation_second ts head text rest x more h e =
    let f : h.index ∷ h.relation ∷ h.more ≡ x ∷ more = sym h.tokens ∙ e in
    let same : h.relation ∷ h.more ≡ more = cc in
    rw (← same) h.is_relation

IsTerm_unique : IsUnique IsTerm
IsTerm_unique ts x y r s h k =
    let e : h.term ∷ r ≡ k.term ∷ s = sym h.tokens ∙ k.tokens in
    let term : h.term ≡ k.term = cc in
    let rest : r ≡ s = cc in
    (sym h.spelled ∙ ap (λ (l : Lexeme). l.text) term ∙ k.spelled, rest)

IsComparison_unique : (ts : List Lexeme) (g h : Head) (t u : List ℕ) (r s : List Lexeme) → IsComparison ts g t r → IsComparison ts h u s → (g ≡ h) × (t ≡ u) × (r ≡ s)
IsComparison_unique ts g h t u r s a b =
    let e : a.index ∷ a.relation ∷ a.more ≡ b.index ∷ b.relation ∷ b.more = sym a.tokens ∙ b.tokens in
    let index : a.index ≡ b.index = cc in
    let relation : a.relation ≡ b.relation = cc in
    let more : a.more ≡ b.more = cc in
    let b' = subst (λ (l : List Lexeme). AreModifiers l h.modifiers (b.term ∷ s)) (sym more) b.modifiers in
    let m = AreModifiers_unique a.more g.modifiers h.modifiers (a.term ∷ r) (b.term ∷ s) a.modifiers b' in
    let last : a.term ∷ r ≡ b.term ∷ s = m.1 in
    let term : a.term ≡ b.term = cc in
    let rest : r ≡ s = cc in
    let named : g.index ≡ h.index = sym a.named ∙ ap (λ (l : Lexeme). l.text) index ∙ b.named in
    let related : g.relation ≡ h.relation = sym a.related ∙ ap (λ (l : Lexeme). l.text) relation ∙ b.related in
    (λ i. record { index = named i; relation = related i; modifiers = m.0 i }, sym a.spelled ∙ ap (λ (l : Lexeme). l.text) term ∙ b.spelled, rest)

pub IsClause_unique : (ts : List Lexeme) (g h : Option Head) (t u : List ℕ) (r s : List Lexeme) → IsClause ts g t r → IsClause ts h u s → (g ≡ h) × (t ≡ u) × (r ≡ s)
IsClause_unique ts None None t u r s a b = let w = IsTerm_unique ts t u r s a b in (refl, w.0, w.1)
IsClause_unique ts None (Some h) t u r s a b = absurd (false≢true (sym a.alone ∙ relation_second ts h u s a.term r b a.tokens))
IsClause_unique ts (Some g) None t u r s a b = absurd (false≢true (sym b.alone ∙ relation_second ts g t r b.term s a b.tokens))
IsClause_unique ts (Some g) (Some h) t u r s a b = let w = IsComparison_unique ts g h t u r s a b in (ap Some w.0, w.1, w.2)

-- an equals sign comes where a prefix is named
pub equal_third : (ts : List Lexeme) (name uri : List ℕ) (rest : List Lexeme) (x y : Lexeme) (more : List Lexeme) → IsNamedPrefix ts name uri rest → ts ≡ x ∷ y ∷ more → starts is_equal more ≡ true
equal_third ts name uri rest x y more h e =
    let f : h.sign ∷ h.word ∷ h.equal ∷ h.term ∷ rest ≡ x ∷ y ∷ more = sym h.tokens ∙ e in
    let same : h.equal ∷ h.term ∷ rest ≡ more = cc in
    rw (← same) h.is_equal

IsPlainPrefix_unique : IsUnique IsPlainPrefix
IsPlainPrefix_unique ts x y r s h k =
    let e : h.sign ∷ h.term ∷ r ≡ k.sign ∷ k.term ∷ s = sym h.tokens ∙ k.tokens in
    let term : h.term ≡ k.term = cc in
    let rest : r ≡ s = cc in
    (sym h.assigned ∙ ap (λ (l : Lexeme). l.text) term ∙ k.assigned, rest)

IsNamedPrefix_unique : (ts : List Lexeme) (m n : List ℕ) (t u : List ℕ) (r s : List Lexeme) → IsNamedPrefix ts m t r → IsNamedPrefix ts n u s → (m ≡ n) × (t ≡ u) × (r ≡ s)
IsNamedPrefix_unique ts m n t u r s h k =
    let e : h.sign ∷ h.word ∷ h.equal ∷ h.term ∷ r ≡ k.sign ∷ k.word ∷ k.equal ∷ k.term ∷ s = sym h.tokens ∙ k.tokens in
    let word : h.word ≡ k.word = cc in
    let term : h.term ≡ k.term = cc in
    let rest : r ≡ s = cc in
    (sym h.spelled ∙ ap (λ (l : Lexeme). l.text) word ∙ k.spelled, sym h.assigned ∙ ap (λ (l : Lexeme). l.text) term ∙ k.assigned, rest)

pub IsPrefix_unique : (ts : List Lexeme) (m n : Option (List ℕ)) (t u : List ℕ) (r s : List Lexeme) → IsPrefix ts m t r → IsPrefix ts n u s → (m ≡ n) × (t ≡ u) × (r ≡ s)
IsPrefix_unique ts None None t u r s a b = let w = IsPlainPrefix_unique ts t u r s a b in (refl, w.0, w.1)
IsPrefix_unique ts None (Some n) t u r s a b = absurd (false≢true (sym a.alone ∙ equal_third ts n u s a.sign a.term r b a.tokens))
IsPrefix_unique ts (Some m) None t u r s a b = absurd (false≢true (sym b.alone ∙ equal_third ts m t r b.sign b.term s a b.tokens))
IsPrefix_unique ts (Some m) (Some n) t u r s a b = let w = IsNamedPrefix_unique ts m n t u r s a b in (ap Some w.0, w.1, w.2)
