-- For a law alone: that octets stand for one value (this project's own)
use Rattle.std.specs.Prelude.{◌≡◌, ℕ, List}

-- values of a kind that have the same written form are the same value
abbrev pub HasOneValue : {A : Type 0} → (A → Type 0) → (A → List ℕ) → Type 0
HasOneValue {A} IsOfKind spell = (a b : A) → IsOfKind a → IsOfKind b → spell a ≡ spell b → a ≡ b

-- what octets are read as is one
abbrev pub HasOneReading : {A : Type 0} → (List ℕ → A → Type 0) → Type 0
HasOneReading {A} IsReadingOf =
    (octets : List ℕ) (a b : A) → IsReadingOf octets a → IsReadingOf octets b → a ≡ b
