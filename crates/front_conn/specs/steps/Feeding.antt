-- For contracts alone: what comes on a connection (this project's own)
use Rattle.std.specs.Prelude.{◌≡◌, ℕ, ◌++◌, true, false, List, [], Option, None, Some}
use Rattle.z_types.specs.declared.marks.End.{End}
use Rattle.z_types.specs.declared.sitting.Sitting as sitting
use Rattle.z_types.specs.declared.world.World as world
use Rattle.route_config.specs.declared.route.Route.{Route}
use Rattle.front_http.specs.sru_rules.Answers.{Answers}
use Rattle.front_z.specs.front_session.Sessions.{new_session}
use Rattle.front_conn.specs.steps.Answering.{totals_of_all}
use Rattle.front_conn.specs.steps.States.{ConnectionState, IsConnOf, IsStateOf, nothing_yet}

module _ {S : Type 0} where
  -- a piece stands behind the octets that were not taken, where the connection has not ended
  abbrev pub fed_piece : Option End → ConnectionState S → List ℕ → ConnectionState S
  fed_piece None state piece = record state { left = state.left ++ piece }
  fed_piece (Some end) state piece = state

  -- a piece more has come; a connection that has ended takes none
  abbrev pub with_piece : ConnectionState S → List ℕ → ConnectionState S
  with_piece state piece = fed_piece state.end state piece

  -- the input has ended
  abbrev pub with_end : ConnectionState S → ConnectionState S
  with_end state = record state { has_ended = true }

  -- all that was to be written has been written
  abbrev pub without_out : ConnectionState S → ConnectionState S
  without_out state = record state { out = [] }

  -- no request is in work any more: what its legs counted is added to the sums
  abbrev pub without_work : ConnectionState S → ConnectionState S
  without_work state =
      record state { in_work = None; totals = totals_of_all state.in_work state.totals }

module _ {W S : Type 0} (w : world.Ghosts W) (t : sitting.Ghosts S W) where
  -- a new connection stands at the start, whatever its sessions with targets
  abbrev pub StandsAtStart : Type 0
  StandsAtStart = (route : Route) → IsStateOf w route [] [] (nothing_yet {S = S} new_session)

  -- a piece that comes is fed
  abbrev pub StandsWhenFed : Type 0
  StandsWhenFed =
      (route : Route) (fed written piece : List ℕ) (state : ConnectionState S)
      → state.has_ended ≡ false → IsStateOf w route fed written state
      → IsStateOf w route (fed ++ piece) written (with_piece state piece)

  -- the end of the input changes nothing else
  abbrev pub StandsWhenEnded : Type 0
  StandsWhenEnded =
      (route : Route) (fed written : List ℕ) (state : ConnectionState S)
      → IsStateOf w route fed written state → IsStateOf w route fed written (with_end state)

  -- what was to be written counts as written before
  abbrev pub StandsWhenWritten : Type 0
  StandsWhenWritten =
      (route : Route) (fed written : List ℕ) (state : ConnectionState S)
      → IsStateOf w route fed written state
      → IsStateOf w route fed (written ++ state.out) (without_out state)

  -- a connection of a route stays so
  pub record StaysSo (route : Route) (most : ℕ) (state : ConnectionState S) : Type 0 where
    pub fed : (piece : List ℕ) → IsConnOf w t route most (with_piece state piece)
    pub ended : IsConnOf w t route most (with_end state)
    pub written : IsConnOf w t route most (without_out state)

  abbrev pub StaysOfRoute : Type 0
  StaysOfRoute =
      (route : Route) (most : ℕ) (state : ConnectionState S) → IsConnOf w t route most state
      → StaysSo route most state

  -- where the connection has ended, and so has the input, what was written is the answer to what
  -- was fed
  abbrev pub EndsAnswered : Type 0
  EndsAnswered =
      (route : Route) (fed written : List ℕ) (state : ConnectionState S) (end : End)
      → IsStateOf w route fed written state → state.end ≡ Some end → state.has_ended ≡ true
      → Answers w route fed state.marks (written ++ state.out) end
