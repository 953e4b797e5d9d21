-- For contracts alone: what octets are read as (this project's own): the value of a kind whose
-- written form they are, or begin with, exactly where there is one
use Rattle.std.specs.Prelude.{◌≡◌, ℕ, List, ◌++◌, Option, None, Some}
use Rattle.std.specs.Borrow.{Bor}

-- a kind that every value is of
abbrev pub IsAny : {A : Type 0} → A → Type 0
IsAny x = Unit {0}

-- a value of a kind, and its written form
abbrev pub IsReadAs : {A : Type 0} → (A → Type 0) → (A → List ℕ) → List ℕ → Option A → Type 0
IsReadAs {A} IsOfKind spell bytes None = (x : A) → IsOfKind x → bytes ≡ spell x → ⊥
IsReadAs IsOfKind spell bytes (Some x) = IsOfKind x × (bytes ≡ spell x)

-- a value of a kind in front, and the rest, which is lent
abbrev pub IsReadInFront : {A : Type 0} → (A → Type 0) → (A → List ℕ) → List ℕ
    → Option (A × Bor (List ℕ)) → Type 0
IsReadInFront {A} IsOfKind spell bytes None =
    (x : A) (rest : List ℕ) → IsOfKind x → bytes ≡ spell x ++ rest → ⊥
IsReadInFront IsOfKind spell bytes (Some x) = IsOfKind x.0 × (bytes ≡ spell x.0 ++ x.1.now)
