-- For contracts alone: what a connection goes through (this project's own): steps, pieces that
-- come, the end of its input, and what is written to its client, one behind another
use Rattle.std.specs.Prelude.{◌≡◌, ◌≢◌, ◌⊎◌, ℕ, Bool, false, List, [], ◌∷◌, ◌++◌}
use Rattle.std.specs.List.{AllByRecursion}
use Rattle.z_types.specs.Bounds.{within64}
use Rattle.z_types.specs.declared.sitting.Sitting as sitting
use Rattle.z_types.specs.declared.work.Work.{Work}
use Rattle.z_types.specs.declared.world.World as world
use Rattle.route_config.specs.declared.route.Route.{Route}
use Rattle.front_conn.specs.gateway_rules.Answers.{IsReceived}
use Rattle.front_conn.specs.gateway_rules.Course.{Received, course, octets_of}
use Rattle.front_conn.specs.gateway_rules.Marks.{Cause}
use Rattle.front_conn.specs.gateway_rules.Runs.{marks_of}
use Rattle.front_conn.specs.front_session.Sessions.{client_of, new_session, progress_of}
use Rattle.front_conn.specs.declared.stepped.Stepped.{Stepped}
use Rattle.front_conn.specs.declared.stepped.Stepped.TheVariants.{Memory}
use Rattle.front_conn.specs.steps.Answering.{Outside}
use Rattle.front_conn.specs.steps.Feeding.{with_end, with_piece, without_out}
use Rattle.front_conn.specs.steps.States.{ConnectionState, nothing_yet}
use Rattle.front_conn.specs.steps.Steps.{IsStepped, KeepsState}
use Rattle.front_conn_works.specs.Works.{works_of}
use Rattle.front_conn_works.specs.steps.Begun.{begun_by}

-- a connection, the octets that it was fed, and those that were written
pub record Point (S : Type 0) : Type 0 where
  pub state : ConnectionState S
  pub fed : List ℕ
  pub written : List ℕ

module _ {S : Type 0} where
  -- a new connection
  abbrev pub at_first : Point S
  at_first = record { state = nothing_yet new_session; fed = []; written = [] }

  -- a piece comes, before the end of the input
  pub record IsFed (old new : Point S) : Type 0 where
    pub piece : List ℕ
    pub goes_on : old.state.has_ended ≡ false
    pub then : new ≡ record old { state = with_piece old.state piece; fed = old.fed ++ piece }

  -- the input ends
  abbrev pub EndsInput : (old new : Point S) → Type 0
  EndsInput old new = new ≡ record old { state = with_end old.state }

  -- what was to be written is
  abbrev pub IsWritten : (old new : Point S) → Type 0
  IsWritten old new =
      new ≡ record old { state = without_out old.state; written = old.written ++ old.state.out }

  -- what is begun from point to point
  abbrev pub begun_through : Point S → List (Point S) → List Work
  begun_through point [] = []
  begun_through point (next ∷ points) =
      begun_by point.state.in_work next.state.in_work ++ begun_through next points

module _ {W S : Type 0} (w : world.Ghosts W) (t : sitting.Ghosts S W) (exact : Bool)
    (route : Route) where
  -- it takes a step that does not run out of memory, at some moment, whatever stands outside
  pub record TakesStep (old new : Point S) : Type 0 where
    pub now : ℕ
    pub answer : Stepped
    pub before : Outside S
    pub behind : Outside S
    pub remembers : answer ≢ Memory
    pub stepped : IsStepped w t exact route now old.state new.state answer before behind
    pub keeps : KeepsState w route old.state new.state
    pub fed : new.fed ≡ old.fed
    pub written : new.written ≡ old.written

  -- one of these
  abbrev pub GoesOn : (old new : Point S) → Type 0
  GoesOn old new = TakesStep old new ⊎ IsFed old new ⊎ EndsInput old new ⊎ IsWritten old new

-- ---- since a connection rested

-- the works of the units that were taken since: octets that came behind those that were not taken
-- yet are these units and what is not taken now, and marks were listed for causes under which the
-- client, as it was then, asks these works
pub record AreWorksSince {W S : Type 0} (w : world.Ghosts W) (route : Route) (old new : Point S)
    (works : List Work) : Type 0 where
  pub more : List ℕ
  pub fed : new.fed ≡ old.fed ++ more
  pub units : List Received
  pub each : AllByRecursion IsReceived units
  pub taken : old.state.left ++ more ≡ octets_of units ++ new.state.left
  pub causes : List Cause
  pub listed : new.state.marks ≡ old.state.marks ++ marks_of causes
  pub at : ℕ
  pub is_at : old.state.at ≡ within64 at
  pub are : works
      ≡ works_of w route (client_of old.state.session)
      (course route (progress_of at old.state.session) units) causes
