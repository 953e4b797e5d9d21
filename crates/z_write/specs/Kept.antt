-- For contracts alone: what a writer leaves of a text when memory fails (this project's own)
use Rattle.std.specs.Prelude.{◌≡◌, ℕ, List, length, take}

-- a text still begins with what stood in it
abbrev pub StillBegins : List ℕ → List ℕ → Type 0
StillBegins old new = take (length old) new ≡ old
