-- How the link of a session with a target stands (this project's own)
use Rattle.std.specs.Prelude.{ℕ, Bool, false, List, []}

-- its number, as dials are counted from 1; how many looks are to find nothing before each reply
-- that is owed over it, in their order; whether the target's end holds a result set of a name; and
-- whether the reply that is owed first says that the set is gone
pub record LinkView : Type 0 where
  pub number : ℕ
  pub delays : List ℕ
  pub holds : List ℕ → Bool
  pub gone : Bool

-- no link is told
abbrev pub no_link : LinkView
no_link = record { number = 0; delays = []; holds = λ name. false; gone = false }
