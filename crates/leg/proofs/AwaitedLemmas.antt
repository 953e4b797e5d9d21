-- In which phases a leg waits for a reply
use Rattle.std.proofs.Common.{◌≡◌, ℕ, true, false, refl}
use Rattle.pool_sets.specs.declared.doors.Seat.{Seat}
use Rattle.z_types.specs.declared.sitting.Sitting as sitting
use Rattle.z_types.specs.declared.world.World as world
use Rattle.leg.specs.declared.accounts.Account.{Account}
use Rattle.leg.specs.declared.answers.LegAnswer.{LegAnswer}
use Rattle.leg.specs.declared.phases.Held.{Held}
use Rattle.leg.specs.declared.phases.Phase.{Phase}
use Rattle.leg.specs.declared.phases.Phase.TheVariants.{Begin, Dialling, Dialled, Ready, Searching, Presenting, Fetching, Scanning, Returning, Losing, Redialling, Spoiled, Done, Ended}
use Rattle.leg.specs.declared.tasks.Task.{Task}
use Rattle.leg.specs.Kept.{StandsAt}
use Rattle.leg.specs.Terms.{Terms}
use Rattle.leg.specs.steps.Awaited.{is_waiting, IsAsking, IsWaiting}

module _ {W S : Type 0} (w : world.Ghosts W) (t : sitting.Ghosts S W) (terms : Terms) (most : ℕ) (task : Task) where
  pub waits : (phase : Phase S) (a : Account) → is_waiting phase ≡ true → StandsAt w t terms most task phase a → IsWaiting w t terms task phase
  waits Begin a e s = cc
  waits (Dialling seat member) a e s = cc
  waits (Dialled held looks) a e s = s
  waits (Ready held items) a e s = cc
  waits (Searching held items slot looks) a e s = s
  waits (Presenting held items slot hits) a e s = cc
  waits (Fetching held items slot hits looks) a e s = s
  waits (Scanning held looks) a e s = s
  waits (Returning held answer) a e s = cc
  waits (Losing seat answer) a e s = cc
  waits (Redialling seat) a e s = cc
  waits (Spoiled seat) a e s = cc
  waits (Done answer) a e s = cc
  waits Ended a e s = cc

  pub asks : (phase : Phase S) (a : Account) → is_waiting phase ≡ false → (phase ≡ Begin → ⊥)
      → ((held : Held S) (answer : LegAnswer) → phase ≡ Returning held answer → ⊥) → ((seat : Seat) (answer : LegAnswer) → phase ≡ Losing seat answer → ⊥)
      → ((seat : Seat) → phase ≡ Redialling seat → ⊥) → ((answer : LegAnswer) → phase ≡ Done answer → ⊥) → ((seat : Seat) → phase ≡ Spoiled seat → ⊥)
      → (phase ≡ Ended → ⊥) → StandsAt w t terms most task phase a → IsAsking w t terms phase
  asks Begin a e b r l d n p x s = absurd (b refl)
  asks (Dialling seat member) a e b r l d n p x s = s
  asks (Dialled held looks) a e b r l d n p x s = cc
  asks (Ready held items) a e b r l d n p x s = s
  asks (Searching held items slot looks) a e b r l d n p x s = cc
  asks (Presenting held items slot hits) a e b r l d n p x s = s
  asks (Fetching held items slot hits looks) a e b r l d n p x s = cc
  asks (Scanning held looks) a e b r l d n p x s = cc
  asks (Returning held answer) a e b r l d n p x s = absurd (r held answer refl)
  asks (Losing seat answer) a e b r l d n p x s = absurd (l seat answer refl)
  asks (Redialling seat) a e b r l d n p x s = absurd (d seat refl)
  asks (Spoiled seat) a e b r l d n p x s = absurd (p seat refl)
  asks (Done answer) a e b r l d n p x s = absurd (n answer refl)
  asks Ended a e b r l d n p x s = absurd (x refl)
