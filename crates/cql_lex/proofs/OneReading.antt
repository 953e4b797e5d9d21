-- A text has one list of tokens, or one place where it is open.
use Rattle.std.proofs.Common.{◌≡◌, ℕ, ◌<◌, List, [], ◌∷◌, ◌++◌, length, Some, None, refl, sym, ◌∙◌, arith, subst, ap}
use Rattle.cql_lex.specs.Tokens.{LeadsTo, IsNext, AreTokens, IsUnclosed, next_start, token_at, unclosed_place}
use Rattle.cql_lex.specs.declared.token.Token.{Token}

-- tokens in order, and one more
pub LeadsTo_push : (text : List ℕ) (at : ℕ) (ts : List Token) (end : ℕ) (t : Token) → LeadsTo text at ts end → IsNext text end t → LeadsTo text at (ts ++ t ∷ []) t.end
LeadsTo_push text at [] end t h n = (subst (λ (e : ℕ). IsNext text e t) h n, refl)
LeadsTo_push text at (u ∷ us) end t h n = (h.0, LeadsTo_push text u.end us end t h.1 n)

-- what comes next is one token
next_one : {text : List ℕ} {at : ℕ} {t u : Token} → IsNext text at t → IsNext text at u → t ≡ u
next_one {text} {at} {t} {u} a b = let e : Some t ≡ Some u = sym a.token ∙ b.token in cc

-- no token comes where the text ends
at_end : {text : List ℕ} {at : ℕ} {t : Token} → next_start text at ≡ length text → IsNext text at t → ⊥
at_end e n = omega (arith, e, n.within)

-- no token comes where the text is open
at_open : {text : List ℕ} {at : ℕ} {t : Token} → token_at text (next_start text at) ≡ None → IsNext text at t → ⊥
at_open {text} {at} {t} e n = let f : None ≡ Some t = sym e ∙ n.token in cc

-- two lists that lead on from one offset, and end where the text ends or is open, are one
pub same_way : (text : List ℕ) (stop : ℕ → Type 0) → ((at : ℕ) (t : Token) → stop at → IsNext text at t → ⊥) → (at : ℕ) (a b : List Token) (m n : ℕ) → LeadsTo text at a m → stop m → LeadsTo text at b n → stop n → (a ≡ b) × (m ≡ n)
same_way text stop never at [] [] m n h s k u = (refl, h ∙ sym k)
same_way text stop never at [] (t ∷ ts) m n h s k u = absurd (never at t (subst stop h s) k.0)
same_way text stop never at (t ∷ ts) [] m n h s k u = absurd (never at t (subst stop k u) h.0)
same_way text stop never at (t ∷ ts) (v ∷ vs) m n h s k u =
    let e : t ≡ v = next_one h.0 k.0 in
    let k' = subst (λ (x : Token). LeadsTo text x.end vs n) (sym e) k.1 in
    let rest = same_way text stop never t.end ts vs m n h.1 s k' u in
    (cc, rest.1)

pub one_list : (text : List ℕ) (a b : List Token) → AreTokens text a → AreTokens text b → a ≡ b
one_list text a b h k =
    (same_way text (λ at. next_start text at ≡ length text) (λ at t s n. at_end s n) 0 a b h.0 k.0 h.1 h.2 k.1 k.2).0

pub one_place : (text : List ℕ) (p q : ℕ) → IsUnclosed text p → IsUnclosed text q → p ≡ q
one_place text p q h k =
    let way = same_way text (λ at. token_at text (next_start text at) ≡ None) (λ at t s n. at_open s n) 0 h.0 k.0 h.1 k.1 h.2 h.4 k.2 k.4 in
    let same : h.1 ≡ k.1 = way.1 in
    h.5 ∙ ap (λ (end : ℕ). unclosed_place text (next_start text end)) same ∙ sym k.5

-- where the text ends it is not open
pub not_both : (text : List ℕ) (ts : List Token) (p : ℕ) → AreTokens text ts → IsUnclosed text p → ⊥
not_both text ts p h k = go 0 ts k.0 h.0 k.1 h.1 h.2 k.2 k.3 k.4
  where
    go : (at : ℕ) (a b : List Token) (m n : ℕ) → LeadsTo text at a m → next_start text m ≡ length text → LeadsTo text at b n → next_start text n < length text → token_at text (next_start text n) ≡ None → ⊥
    go at [] [] m n l e k w o =
        let same : m ≡ n = l ∙ sym k in
        let f = subst (λ (x : ℕ). next_start text x ≡ length text) same e in omega (arith, f, w)
    go at [] (t ∷ ts) m n l e k w o = at_end (subst (λ (x : ℕ). next_start text x ≡ length text) l e) k.0
    go at (t ∷ ts) [] m n l e k w o = at_open (subst (λ (x : ℕ). token_at text (next_start text x) ≡ None) k o) l.0
    go at (t ∷ ts) (v ∷ vs) m n l e k w o =
        let same : t ≡ v = next_one l.0 k.0 in
        go t.end ts vs m n l.1 e (subst (λ (x : Token). LeadsTo text x.end vs n) (sym same) k.1) w o

-- the token at the next start comes next
pub next_from : (text : List ℕ) (at start : ℕ) (t : Token) → start ≡ next_start text at → start < length text → Some t ≡ token_at text start → IsNext text at t
next_from text at start t e w h =
    record { within = omega (arith, e, w); token = subst (λ (x : ℕ). token_at text x ≡ Some t) e (sym h) }
