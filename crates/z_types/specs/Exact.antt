-- For contracts alone: tests and copies that are exact (this project's own): an `==` that says
-- whether two values are one, and a clone that is its source. They are proved type by type in the
-- folder `equality`.
use Rattle.std.specs.Prelude.{◌≡◌, Bool, true}

-- what the test passes is equal
abbrev pub EqIsExact : {T : Type 0} → (T → T → Bool) → Type 0
EqIsExact {T} eq = (a b : T) → eq a b ≡ true → a ≡ b

-- a clone is its source
abbrev pub CloneIsExact : {T : Type 0} → (T → T → Type 0) → Type 0
CloneIsExact {T} is_clone = (a b : T) → is_clone a b → b ≡ a
