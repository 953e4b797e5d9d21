-- For contracts alone: where idle sessions are found (this project's own)
use Rattle.std.specs.Prelude.{◌≡◌, ℕ, ◌<◌, ◌^◌, true, false, List, length, All, Contains}
use Rattle.pool_sets.specs.Sessions.{Session, is_out}
use Rattle.pool_keys.specs.declared.index.Pair.{Pair}
use Rattle.pool_keys.specs.Pairs.{Indexed, Holds, pair}
use Rattle.pool_keys.specs.Digests.{Sharers}
use Rattle.pool_roster.specs.Told.{sharers_of}
use Rattle.pool_index.specs.declared.tally.Tally.{Tally}
use Rattle.pool_index.specs.Tallies.{IsTally}

-- each pair of another number stays
abbrev pub KeepsOthers : ℕ → Indexed → Indexed → Type 0
KeepsOthers number old new = (p : Pair) → (p.number ≡ number → ⊥) → Holds old p → Holds new p

module _ {S : Type 0} where
  -- an idle session is found by its class and login, and by its class
  abbrev pub IsFound : (Sharers → ℕ) → Indexed → Session S → Type 0
  IsFound own index o = is_out o.stand ≡ false
      → Holds index (pair (own (sharers_of o)) o.number) × Holds index (pair o.class o.number)

  -- both pairs are there
  abbrev pub IsGathered : (Sharers → ℕ) → List Pair → Session S → Type 0
  IsGathered own pairs o =
      Contains pairs (pair (own (sharers_of o)) o.number)
      × Contains pairs (pair o.class o.number)

  -- no session of the number is idle
  abbrev pub IsGone : ℕ → List (Session S) → Type 0
  IsGone number os = All (λ o. o.number ≡ number → is_out o.stand ≡ true) os

  -- sessions, each idle one of which is found, and tallies that are right
  pub record IsRegister (own : Sharers → ℕ) (index : Indexed) (tallies : List Tally)
      (os : List (Session S)) : Type 0 where
    pub few : length os < 2 ^ 32
    pub found : All (IsFound own index) os
    pub right : All (IsTally os) tallies
