-- For contracts alone: what the steps of a connection cost its door and its backend
-- (this project's own)
use Rattle.std.specs.Prelude.{◌≡◌, ℕ, ◌+◌, ◌*◌, ◌≤◌, ◌<◌, Bool, List, None}
use Rattle.std.specs.List.{sum_by}
use Rattle.z_types.specs.Bounds.{most_legs}
use Rattle.z_types.specs.declared.sitting.Sitting as sitting
use Rattle.z_types.specs.declared.world.World as world
use Rattle.route_config.specs.Sound.{IsSound}
use Rattle.route_config.specs.declared.route.PoolNumbers.{PoolNumbers}
use Rattle.route_config.specs.declared.route.Route.{Route}
use Rattle.front_conn.specs.front_session.Sessions.{new_session}
use Rattle.front_conn.specs.declared.stepped.Stepped.{Stepped}
use Rattle.front_conn.specs.steps.Answering.{Outside}
use Rattle.front_conn.specs.steps.Feeding.{with_end, with_piece, without_out, without_work}
use Rattle.front_conn.specs.steps.States.{ConnectionState, IsConnOf, nothing_yet}
use Rattle.front_conn.specs.steps.Steps.{IsStepped, UnlessMemory}
use Rattle.front_conn_costs.specs.steps.Conns.{AreBelowEnd, HasTotals, PaysFor, RestsIfEnded, counted_on, dues_on, in_total, marks_of, met_on, outside_counts, outside_meets}
use Rattle.front_conn_costs.specs.steps.Growth.{RisesAsMuch, RisesEnough, last64}
use Rattle.front_conn_costs.specs.steps.Numbers.{Caused, IsTold, Number, weight}

-- ---- one step

module _ {S : Type 0} where
  -- the backend's counts rise by just what the legs count; at want of memory a backend may have
  -- counted more
  abbrev pub CountsAsMuch : (exact : Bool) → (old new : ConnectionState S) → Stepped
      → (before behind : Outside S) → Type 0
  CountsAsMuch exact old new answer before behind =
      UnlessMemory answer ((number : Number) → IsTold exact number
      → RisesAsMuch (counted_on number old) (counted_on number new) (outside_counts number before)
      (outside_counts number behind))

  -- each cause of a mark is counted as often, at least, as the marks that are listed need it
  abbrev pub MeetsEnough : PoolNumbers → (old new : ConnectionState S)
      → (before behind : Outside S) → Type 0
  MeetsEnough pool old new before behind =
      (kind : Caused)
      → RisesEnough (met_on pool kind old) (met_on pool kind new) (outside_meets kind before)
      (outside_meets kind behind)

  -- all of this over some steps, and between them: it rests where it has ended, the sums are kept,
  -- the backend's counts and the causes rise so, and all is paid for
  pub record IsCosted (exact : Bool) (route : Route) (old new : ConnectionState S)
      (before behind : Outside S) : Type 0 where
    pub rests : RestsIfEnded old → RestsIfEnded new
    pub totals : HasTotals route old → HasTotals route new
    pub counted : HasTotals route old → (number : Number) → IsTold exact number
        → RisesAsMuch (counted_on number old) (counted_on number new) (outside_counts number before)
        (outside_counts number behind)
    pub met : MeetsEnough route.pool old new before behind
    pub paid : PaysFor old new before behind

module _ {W S : Type 0} (w : world.Ghosts W) (t : sitting.Ghosts S W) where
  -- the sums are what the backend counts, also of a run: steps compose
  abbrev pub StepsCount : Type 0
  StepsCount =
      (exact : Bool) (route : Route) (now : ℕ) (old new : ConnectionState S) (answer : Stepped)
      (before behind : Outside S)
      → IsSound route → IsConnOf w t route before.door.counts.most old → HasTotals route old
      → IsStepped w t exact route now old new answer before behind
      → CountsAsMuch exact old new answer before behind

  -- sums stay made for the route's classes
  abbrev pub StepsKeepTotals : Type 0
  StepsKeepTotals =
      (exact : Bool) (route : Route) (now : ℕ) (old new : ConnectionState S) (answer : Stepped)
      (before behind : Outside S)
      → HasTotals route old → IsStepped w t exact route now old new answer before behind
      → HasTotals route new

  -- marks have their counted cause, also over a run
  abbrev pub StepsMeet : Type 0
  StepsMeet =
      (exact : Bool) (route : Route) (now : ℕ) (old new : ConnectionState S) (answer : Stepped)
      (before behind : Outside S)
      → IsConnOf w t route before.door.counts.most old
      → IsStepped w t exact route now old new answer before behind
      → MeetsEnough route.pool old new before behind

  -- a step pays for its searches, and for the addresses that are named
  abbrev pub StepsPay : Type 0
  StepsPay =
      (exact : Bool) (route : Route) (now : ℕ) (old new : ConnectionState S) (answer : Stepped)
      (before behind : Outside S)
      → IsConnOf w t route before.door.counts.most old
      → IsStepped w t exact route now old new answer before behind
      → PaysFor old new before behind

  -- so a step is costed that had memory
  abbrev pub StepsCost : Type 0
  StepsCost =
      (exact : Bool) (route : Route) (now : ℕ) (old new : ConnectionState S) (answer : Stepped)
      (before behind : Outside S)
      → IsSound route → IsConnOf w t route before.door.counts.most old
      → IsStepped w t exact route now old new answer before behind
      → UnlessMemory answer (IsCosted exact route old new before behind)

  -- behind it no more addresses are due than a request has legs
  abbrev pub StepsOweFew : Type 0
  StepsOweFew =
      (exact : Bool) (route : Route) (now : ℕ) (old new : ConnectionState S) (answer : Stepped)
      (before behind : Outside S)
      → old.end ≡ None → IsStepped w t exact route now old new answer before behind
      → (dues_on new).unused ≤ most_legs

-- ---- a run of steps

-- some steps and then others are costed together, and none are
abbrev pub CostsOn : Type 0 → Type 0
CostsOn S =
    (exact : Bool) (route : Route) (old mid new : ConnectionState S)
    (before amid behind : Outside S)
    → IsCosted exact route old mid before amid → IsCosted exact route mid new amid behind
    → IsCosted exact route old new before behind

abbrev pub CostsNothing : Type 0 → Type 0
CostsNothing S =
    (exact : Bool) (route : Route) (state : ConnectionState S) (outside : Outside S)
    → IsCosted exact route state state outside outside

-- what was paid for over steps was paid for over all of them, also where the last was without
-- memory
abbrev pub PaysOn : Type 0 → Type 0
PaysOn S =
    (old mid new : ConnectionState S) (before amid behind : Outside S)
    → PaysFor old mid before amid → PaysFor mid new amid behind → PaysFor old new before behind

-- from where no request was in work, searches rose by no more than bookings, Gones and faults did,
-- and named addresses by no more than links made, faults, and what is not dialled yet
pub record RoseSo {S : Type 0} (new : ConnectionState S) (before behind : Outside S) : Type 0 where
  pub searches : behind.backend.counts.searches
      + (before.door.counts.booked + before.backend.counts.gones + before.backend.counts.faults)
      ≤ before.backend.counts.searches
      + (behind.door.counts.booked + behind.backend.counts.gones + behind.backend.counts.faults)
  pub opens : behind.door.counts.opens
      + (before.backend.counts.dials + before.backend.counts.faults)
      ≤ before.door.counts.opens + (behind.backend.counts.dials + behind.backend.counts.faults)
      + (dues_on new).unused

-- so it is where no count has come to its end
abbrev pub PaidIsRisen : Type 0 → Type 0
PaidIsRisen S =
    (old new : ConnectionState S) (before behind : Outside S) → old.in_work ≡ None
    → PaysFor old new before behind → AreBelowEnd before → AreBelowEnd behind
    → RoseSo new before behind

-- a count that is not at its end rose by just as much, or as much at least
abbrev pub RisesPlainly : Type 0
RisesPlainly =
    (n before behind : ℕ) → before < last64 → behind < last64
    → (RisesAsMuch 0 n before behind → before + n ≡ behind)
    × (RisesEnough 0 n before behind → before + n ≤ behind)

-- ---- between steps

module _ {S : Type 0} where
  -- nothing was counted or met on a new connection
  pub record IsCostless (route : Route) (state : ConnectionState S) : Type 0 where
    pub rests : RestsIfEnded state
    pub totals : HasTotals route state
    pub counted : (number : Number) → counted_on number state ≡ 0
    pub met : (kind : Caused) → met_on route.pool kind state ≡ 0

-- a piece that comes, the end of the input and what is written cost nothing
pub record StaysCosted (S : Type 0) (exact : Bool) (route : Route) (state : ConnectionState S)
    (outside : Outside S) : Type 0 where
  pub fed : (piece : List ℕ) → IsCosted exact route state (with_piece state piece) outside outside
  pub ended : IsCosted exact route state (with_end state) outside outside
  pub written : IsCosted exact route state (without_out state) outside outside

abbrev pub StartsCostless : Type 0 → Type 0
StartsCostless S = (route : Route) → IsCostless route (nothing_yet {S = S} new_session)

abbrev pub StaysSoCosted : Type 0 → Type 0
StaysSoCosted S =
    (exact : Bool) (route : Route) (state : ConnectionState S) (outside : Outside S)
    → StaysCosted S exact route state outside

-- a connection that is left has met no more
abbrev pub LeavesNoMore : Type 0 → Type 0
LeavesNoMore S =
    (pool : PoolNumbers) (kind : Caused) (state : ConnectionState S)
    → met_on pool kind (without_work state) ≤ met_on pool kind state

-- what its marks came of is among what was met
abbrev pub MarksAreMet : Type 0 → Type 0
MarksAreMet S =
    (pool : PoolNumbers) (kind : Caused) (state : ConnectionState S)
    → weight pool kind * marks_of kind state.marks ≤ met_on pool kind state

-- where no request is in work, what was counted is in the sums by class, which stay where it is
-- left
pub record IsSummed {S : Type 0} (state : ConnectionState S) : Type 0 where
  pub counted : (number : Number) → counted_on number state ≡ sum_by (in_total number) state.totals
  pub same : without_work state ≡ state

abbrev pub SumsAtRest : Type 0 → Type 0
SumsAtRest S = (state : ConnectionState S) → state.in_work ≡ None → IsSummed state
