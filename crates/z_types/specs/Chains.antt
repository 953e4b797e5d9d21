-- What goes on step by step, whatever a step is (this project's own)
use Rattle.std.specs.Prelude.{◌≡◌, List, [], ◌∷◌}

module _ {P : Type 0} (Goes : (here next : P) → Type 0) where
  -- steps were taken from the first to the last, by where it stood before this one, the latest
  -- first
  abbrev pub HasStepped : (first : P) → List P → (last : P) → Type 0
  HasStepped first [] last = last ≡ first
  HasStepped first (mid ∷ earlier) last = HasStepped first earlier mid × Goes mid last

  -- by whatever points
  abbrev pub StepsFrom : (first last : P) → Type 0
  StepsFrom first last = (earlier : List P) × HasStepped first earlier last

  -- steps are taken from a point to the next, the earliest first
  abbrev pub GoesThrough : P → List P → Type 0
  GoesThrough point [] = Unit {0}
  GoesThrough point (next ∷ points) = Goes point next × GoesThrough next points

-- where points end that begin with this one
abbrev pub last_of : {P : Type 0} → P → List P → P
last_of point [] = point
last_of point (next ∷ points) = last_of next points
