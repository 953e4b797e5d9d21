-- Steps behind others
use Rattle.std.proofs.Common.{◌≡◌, List, [], ◌∷◌, ◌++◌, refl, sym, subst}
use Rattle.z_types.specs.Chains.{GoesThrough, HasStepped, StepsFrom, last_of}

module _ {P : Type 0} (Goes : (here next : P) → Type 0) where
  -- none is taken
  pub steps-nowhere : (first : P) → StepsFrom Goes first first
  steps-nowhere first = ([], refl)

  -- those behind others
  pub stepped-on : (first mid : P) (earlier : List P) → HasStepped Goes first earlier mid → (later : List P) (last : P)
      → HasStepped Goes mid later last → HasStepped Goes first (later ++ earlier) last
  stepped-on first mid earlier h [] last k = subst (λ (p : P). HasStepped Goes first earlier p) (sym k) h
  stepped-on first mid earlier h (next ∷ later) last k = (stepped-on first mid earlier h later next k.0, k.1)

  -- one way behind another
  pub steps-on : (first mid last : P) → StepsFrom Goes first mid → StepsFrom Goes mid last → StepsFrom Goes first last
  steps-on first mid last one other = (other.0 ++ one.0, stepped-on first mid one.0 one.1 other.0 last other.1)

  -- one point more
  pub goes-further : (start : P) (points : List P) (next : P) → GoesThrough Goes start points → Goes (last_of start points) next
      → GoesThrough Goes start (points ++ next ∷ [])
  goes-further start [] next through goes = (goes, tt)
  goes-further start (point ∷ points) next through goes = (through.0, goes-further point points next through.1 goes)

-- ends there
pub ends-there : {P : Type 0} (start : P) (points : List P) (next : P) → last_of start (points ++ next ∷ []) ≡ next
ends-there start [] next = refl
ends-there start (point ∷ points) next = ends-there point points next
