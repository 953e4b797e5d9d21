-- For contracts alone: what comes of a deed (this project's own)
use Rattle.std.specs.Prelude.{◌≡◌, ℕ, ◌<◌, ◌-◌, ◌^◌, Bool}
use Rattle.z_types.specs.declared.sitting.Sitting as sitting
use Rattle.z_types.specs.declared.world.World as world
use Rattle.route_config.specs.Sound.{ArePoolNumbers}
use Rattle.leg.specs.declared.accounts.Account.{Account}
use Rattle.leg.specs.declared.answers.Turned.{Turned}
use Rattle.leg.specs.declared.answers.Turned.TheVariants as turned
use Rattle.leg.specs.declared.phases.Phase.{Phase}
use Rattle.leg.specs.declared.tasks.Task.{Task}
use Rattle.leg.specs.Accounts.{counted}
use Rattle.leg.specs.Deeds.{Deed, rises_of, looks_after, BackendView}
use Rattle.leg.specs.Kept.{LegKept, AccountKept, StandsAt, IsWithin, ahead_of}
use Rattle.leg.specs.Phases.{is_given, is_done, looks_of}
use Rattle.leg.specs.Rules.{next, left_by, Ends, perhaps, Becomes}
use Rattle.leg.specs.Tasks.{want_of}
use Rattle.leg.specs.Terms.{Terms}
use Rattle.leg.specs.Turns.{DoorView, IsTurn, is_done_answer}

-- the last number of 32 bits
abbrev last32 : ℕ
last32 = 2 ^ 32 - 1

-- each count may be one more
pub record IsSmall (a : Account) : Type 0 where
  pub dials : a.dials < last32
  pub searches : a.searches < last32
  pub gones : a.gones < last32
  pub faults : a.faults < last32
  pub spent : a.spent < last32
  pub fulls : a.fulls < last32
  pub booked : a.booked < last32
  pub opens : a.opens < last32
  pub looks : a.looks < last32

-- a turn may be counted in a phase
pub record MayCount (S : Type 0) (terms : Terms) (task : Task) (phase : Phase S)
    (a : Account) : Type 0 where
  pub account : AccountKept (ahead_of (want_of task) phase) (looks_of phase) a
  pub within : IsWithin terms.pool phase a
  pub pool : ArePoolNumbers terms.pool
  pub small : IsSmall a

-- a leg goes on as is wanted, or lacks memory
abbrev pub GoesOn : {S : Type 0} → (wanted left : Phase S) → Turned → Phase S → Type 0
GoesOn wanted left answer new = Ends perhaps wanted left turned.Went answer new

module _ {W S : Type 0} (w : world.Ghosts W) (t : sitting.Ghosts S W) (terms : Terms)
    (task : Task) where
  -- what holds of a leg
  pub record Holds (most : ℕ) (phase : Phase S) (a : Account) : Type 0 where
    pub kept : LegKept w t task phase a
    pub stands : StandsAt w t terms most task phase a
    pub within : IsWithin terms.pool phase a

  module _ (now : ℕ) where
    -- the rules say where the leg goes and what it counts, and what holds of a leg holds again
    pub record Follows (most : ℕ) (deed : Deed S) (old new : Phase S) (a b : Account)
        (answer : Turned) : Type 0 where
      pub goes : Becomes deed (next terms task now b.gones old deed) (left_by old deed) answer new
      pub account : b ≡ counted terms.class (rises_of (want_of task) deed) (is_given old)
          (looks_after (looks_of old) deed) a
      pub done : is_done_answer answer ≡ is_done new
      pub holds : Holds most new b

    -- a step is a turn, and what holds of a leg holds again
    pub record IsStep (exact : Bool) (old new : Phase S) (a b : Account) (answer : Turned)
        (door after : DoorView S) (backend moved : BackendView) : Type 0 where
      pub law : IsTurn w t exact terms task now old new a b answer door after backend moved
      pub done : is_done_answer answer ≡ is_done new
      pub holds : Holds after.counts.most new b
