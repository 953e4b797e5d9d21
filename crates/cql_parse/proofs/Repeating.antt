-- Items one behind another: how they go on, and that there is one way.
use Rattle.std.proofs.Common.{◌≡◌, Bool, true, false, List, [], ◌∷◌, ◌++◌, refl, sym, ◌∙◌, subst, append_assoc, append-nil}
use Rattle.std.proofs.lemmas.Bool.{false≢true}
use Rattle.cql_parse.specs.Lexemes.{Lexeme}
use Rattle.cql_parse.specs.Grammar.{Repeats}

-- there is one item at most at the front of tokens, and then the same tokens are left
abbrev pub IsUnique : {X : Type 0} → (List Lexeme → X → List Lexeme → Type 0) → Type 0
IsUnique {X} IsItem = (ts : List Lexeme) (x y : X) (r s : List Lexeme) → IsItem ts x r → IsItem ts y s → (x ≡ y) × (r ≡ s)

pub Repeats_unique : {X : Type 0} (is_due : List Lexeme → Bool) (IsItem : List Lexeme → X → List Lexeme → Type 0) → IsUnique IsItem → IsUnique (Repeats is_due IsItem)
Repeats_unique is_due IsItem sure ts [] [] r s h k = (refl, h.1 ∙ sym k.1)
Repeats_unique is_due IsItem sure ts [] (y ∷ ys) r s h k = absurd (false≢true (sym h.0 ∙ k.0))
Repeats_unique is_due IsItem sure ts (x ∷ xs) [] r s h k = absurd (false≢true (sym k.0 ∙ h.0))
Repeats_unique is_due IsItem sure ts (x ∷ xs) (y ∷ ys) r s h k =
    let here = sure ts x y h.1 k.1 h.2 k.2 in
    let k' = subst (λ (t : List Lexeme). Repeats is_due IsItem t ys s) (sym here.1) k.3 in
    let rest = Repeats_unique is_due IsItem sure h.1 xs ys r s h.3 k' in
    let first : x ≡ y = here.0 in
    let others : xs ≡ ys = rest.0 in
    (cc, rest.1)

-- The items so far, and those to come: a reader's state. What comes behind them completes them, and
-- all that the tokens begin with is completed so.
pub record Reading {X : Type 0} (is_due : List Lexeme → Bool) (IsItem : List Lexeme → X → List Lexeme → Type 0) (ts : List Lexeme) (found : List X) (left : List Lexeme) : Type 0 where
  pub sound : (more : List X) (rest : List Lexeme) → Repeats is_due IsItem left more rest → Repeats is_due IsItem ts (found ++ more) rest
  pub full : (all : List X) (rest : List Lexeme) → Repeats is_due IsItem ts all rest → (more : List X) × (all ≡ found ++ more) × Repeats is_due IsItem left more rest

pub Reading_more : {X : Type 0} (is_due : List Lexeme → Bool) (IsItem : List Lexeme → X → List Lexeme → Type 0) → IsUnique IsItem → (ts : List Lexeme) (found : List X) (left : List Lexeme) (x : X) (behind : List Lexeme) → Reading is_due IsItem ts found left → is_due left ≡ true → IsItem left x behind → Reading is_due IsItem ts (found ++ x ∷ []) behind
Reading_more {X} is_due IsItem sure ts found left x behind h due item = record {
  sound = λ more rest k. rw append_assoc (h.sound (x ∷ more) rest (due, behind, item, k));
  full = λ all rest k. let w = h.full all rest k in split all rest w.0 w.1 w.2;
}
  where
    split : (all : List X) (rest : List Lexeme) (more : List X) → all ≡ found ++ more → Repeats is_due IsItem left more rest → (after : List X) × (all ≡ (found ++ x ∷ []) ++ after) × Repeats is_due IsItem behind after rest
    split all rest [] e k = absurd (false≢true (sym k.0 ∙ due))
    split all rest (y ∷ ys) e k =
        let here = sure left y x k.1 behind k.2 item in
        let e' : all ≡ found ++ x ∷ ys = subst (λ (z : X). all ≡ found ++ z ∷ ys) here.0 e in
        (ys, rw append_assoc e', subst (λ (t : List Lexeme). Repeats is_due IsItem t ys rest) here.1 k.3)

-- where no more is due, the items so far are all
pub Reading_done : {X : Type 0} (is_due : List Lexeme → Bool) (IsItem : List Lexeme → X → List Lexeme → Type 0) (ts : List Lexeme) (found : List X) (left : List Lexeme) → Reading is_due IsItem ts found left → is_due left ≡ false → Repeats is_due IsItem ts found left
Reading_done is_due IsItem ts found left h due = rw append-nil at (h.sound [] left (due, refl))

-- where an item is due and none comes, the tokens do not begin so
pub Reading_stuck : {X : Type 0} (is_due : List Lexeme → Bool) (IsItem : List Lexeme → X → List Lexeme → Type 0) (ts : List Lexeme) (found : List X) (left : List Lexeme) → Reading is_due IsItem ts found left → is_due left ≡ true → ((x : X) (r : List Lexeme) → IsItem left x r → ⊥) → (all : List X) (rest : List Lexeme) → Repeats is_due IsItem ts all rest → ⊥
Reading_stuck {X} is_due IsItem ts found left h due none all rest k = let w = h.full all rest k in stuck w.0 w.2
  where
    stuck : (more : List X) → Repeats is_due IsItem left more rest → ⊥
    stuck [] m = false≢true (sym m.0 ∙ due)
    stuck (y ∷ ys) m = none y m.1 m.2
