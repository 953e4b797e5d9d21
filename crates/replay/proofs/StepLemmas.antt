-- what befalls a client's connection
use Rattle.std.proofs.Common.{◌≡◌, ◌≢◌, ◌∙◌, ℕ, Bool, true, false, List, [], ◌∷◌, ◌++◌, Option, None, Some, Result, Ok, Err, IsSome, refl, sym, ap, subst}
use Rattle.z_types.specs.declared.marks.End.{End}
use Rattle.z_types.specs.declared.memory.Memory.{Memory as NoMemory}
use Rattle.z_types.specs.declared.sitting.Sitting as sitting
use Rattle.z_types.specs.declared.world.World as world
use Rattle.route_config.specs.declared.route.Route.{Route}
use Rattle.front_conn_costs.specs.front_session.Sessions.{new_session}
use Rattle.front_conn_costs.specs.front_conn.declared.stepped.Stepped.{Stepped}
use Rattle.front_conn_costs.specs.front_conn.declared.stepped.Stepped.TheVariants.{Idle, NotYet, Went, Memory}
use Rattle.front_conn_costs.specs.front_conn.steps.Answering.{AnsweringState, IsEndAfter, Outside, WorksOn}
use Rattle.front_conn_costs.specs.front_conn.steps.Feeding.{fed_piece, without_out}
use Rattle.front_conn_costs.specs.front_conn.steps.States.{ConnectionState, IsConnOf, IsStateOf, nothing_yet}
use Rattle.front_conn_costs.specs.front_conn.steps.Steps.{IsStepFrom, UnlessMemory}
use Rattle.package_quiet.specs.leg.declared.answers.Turned.{Turned}
use Rattle.package_quiet.specs.leg.declared.answers.Turned.TheVariants as turned
use Rattle.package_quiet.specs.package.steps.Packages.{PackageView}
use Rattle.script.specs.declared.event.Event.{Event}
use Rattle.script.specs.declared.event.Event.TheVariants.{Feed, End as Ends, Step, Run, Tick, Gone, Cut, Slow}
use Rattle.replay.specs.Trace.{AreSteps, HasRun, IsClientStep, PlaysFor, Point, with_no_more, with_octets}
use Rattle.replay.specs.Clients.{ClientState, is_idle, new_client}
use Rattle.replay.specs.steps.Clients.{IsClientFed}
use Rattle.replay.specs.steps.Laws.{Laws}
use Rattle.replay.specs.steps.Playing.{CanTake, ended_with, octets_with}

unless : {F : Type 0} (answer : Stepped) → F → UnlessMemory answer F
unless Idle f = f
unless NotYet f = f
unless Went f = f
unless Memory f = tt

module _ {W S : Type 0} (w : world.Ghosts W) (t : sitting.Ghosts S W) (exact : Bool) (route : Route) (now : ℕ) where
  -- a step neither ends an input nor opens it, unless it is without memory
  pub input_kept : (end : Option End) (in_work : Option (PackageView S)) (old new : ConnectionState S) (answer : Stepped) (before behind : Outside S)
      → IsStepFrom w t exact route now end in_work old new answer before behind → UnlessMemory answer (new.has_ended ≡ old.has_ended)
  input_kept (Some end) in_work old new answer before behind h = unless answer (ap (λ (c : ConnectionState S). c.has_ended) h.1)
  input_kept None (Some view) old new answer before behind h = unless answer h.input.has_ended
  input_kept None None old new Idle before behind h = ap (λ (c : ConnectionState S). c.has_ended) h.0.1
  input_kept None None old new NotYet before behind h = absurd h.0
  input_kept None None old new Went before behind h = h.0.1
  input_kept None None old new Memory before behind h = tt

  -- a turn of a request in work is never idle
  no_end : (done : Result (Option End) NoMemory) (end : Option End) → IsEndAfter done end Idle → ⊥
  no_end (Ok ended) end after = let e = after.1 in cc
  no_end (Err want) end after = let e = after.1 in cc

  never_idle : (answer : Turned) (view : PackageView S) (old new : AnsweringState S) (end : Option End)
      → WorksOn route answer view old new Idle end → ⊥
  never_idle turned.Went view old new end h = let e = h.0 in cc
  never_idle turned.NotYet view old new end h = let e = h.0 in cc
  never_idle turned.Done view old new end h = no_end h.done end h.after
  never_idle turned.Memory view old new end h = let e = h.0 in cc

  -- where the input has ended, an idle connection has
  pub closed_if_idle : (end : Option End) (in_work : Option (PackageView S)) (old new : ConnectionState S) (before behind : Outside S) → end ≡ old.end
      → IsStepFrom w t exact route now end in_work old new Idle before behind → new.has_ended ≡ true → IsSome new.end
  closed_if_idle (Some end) in_work old new before behind e h whole =
      subst (λ (o : Option End). IsSome o) (e ∙ ap (λ (c : ConnectionState S). c.end) (sym h.1)) refl
  closed_if_idle None (Some view) old new before behind e h whole =
      absurd (never_idle h.turns.turned h.turns.next _ _ new.end h.turns.works)
  closed_if_idle None None old new before behind e h whole =
      let goes = h.0.0.goes_on in
      let same = ap (λ (c : ConnectionState S). c.has_ended) h.0.1 in cc

-- a step that had memory
pub known : {F : Type 0} (answer : Stepped) → answer ≢ Memory → UnlessMemory answer F → F
known Idle n f = f
known NotYet n f = f
known Went n f = f
known Memory n f = absurd (n refl)

module _ {W S : Type 0} (w : world.Ghosts W) (t : sitting.Ghosts S W) (exact : Bool) (route : Route) (now : ℕ) where
  -- steps leave how many sessions a door opens at most
  pub steps_most : (start : Point S) (earlier : List (Point S)) (last : Point S) → AreSteps w t exact route now start earlier last
      → last.outside.door.counts.most ≡ start.outside.door.counts.most
  steps_most start [] last h = ap (λ (p : Point S). p.outside.door.counts.most) h
  steps_most start (mid ∷ earlier) last h = h.1.most ∙ steps_most start earlier mid h.0

  pub run_most : (old new : ClientState S) (before behind : Outside S) → HasRun w t exact route now old new before behind
      → behind.door.counts.most ≡ before.door.counts.most
  run_most old new before behind h =
      h.rests.most ∙ steps_most (record { client = old; outside = before }) h.earlier h.last h.steps

  -- steps neither end an input nor open it
  pub step_input : (idle : Bool) (old new : ClientState S) (before behind : Outside S) → IsClientStep w t exact route now idle old new before behind
      → new.conn.has_ended ≡ old.conn.has_ended
  step_input idle old new before behind h =
      ap (λ (c : ConnectionState S). c.has_ended) h.conn
      ∙ known h.answer h.remembers (input_kept w t exact route now old.conn.end old.conn.in_work old.conn h.stepped_to h.answer before behind h.steps)

  steps_input : (start : Point S) (earlier : List (Point S)) (last : Point S) → AreSteps w t exact route now start earlier last
      → last.client.conn.has_ended ≡ start.client.conn.has_ended
  steps_input start [] last h = ap (λ (p : Point S). p.client.conn.has_ended) h
  steps_input start (mid ∷ earlier) last h = step_input false mid.client last.client mid.outside last.outside h.1 ∙ steps_input start earlier mid h.0

  pub run_input : (old new : ClientState S) (before behind : Outside S) → HasRun w t exact route now old new before behind
      → new.conn.has_ended ≡ old.conn.has_ended
  run_input old new before behind h =
      step_input true h.last.client new h.last.outside behind h.rests
      ∙ steps_input (record { client = old; outside = before }) h.earlier h.last h.steps

  idle_closes : (old new : ClientState S) (mid : ConnectionState S) (answer : Stepped) (before behind : Outside S) → true ≡ is_idle answer
      → IsStepFrom w t exact route now old.conn.end old.conn.in_work old.conn mid answer before behind → new.conn ≡ without_out mid
      → new.conn.has_ended ≡ true → IsSome new.conn.end
  idle_closes old new mid Idle before behind i h e whole =
      subst (λ (o : Option End). IsSome o) (ap (λ (c : ConnectionState S). c.end) (sym e))
      (closed_if_idle w t exact route now old.conn.end old.conn.in_work old.conn mid before behind refl h
      (ap (λ (c : ConnectionState S). c.has_ended) (sym e) ∙ whole))
  idle_closes old new mid NotYet before behind i h e whole = cc
  idle_closes old new mid Went before behind i h e whole = cc
  idle_closes old new mid Memory before behind i h e whole = cc

  idle_step_closes : (old new : ClientState S) (before behind : Outside S) → IsClientStep w t exact route now true old new before behind
      → new.conn.has_ended ≡ true → IsSome new.conn.end
  idle_step_closes old new before behind h whole = idle_closes old new h.stepped_to h.answer before behind h.is_idle h.steps h.conn whole

  -- behind a run the connection has ended where its input has
  pub run_closes : (old new : ClientState S) (before behind : Outside S) → HasRun w t exact route now old new before behind
      → new.conn.has_ended ≡ true → IsSome new.conn.end
  run_closes old new before behind h whole = idle_step_closes h.last.client new h.last.outside behind h.rests whole

piece_input : {S : Type 0} (end : Option End) (state : ConnectionState S) (piece : List ℕ) → (fed_piece end state piece).has_ended ≡ state.has_ended
piece_input None state piece = refl
piece_input (Some end) state piece = refl

piece_out : {S : Type 0} (end : Option End) (state : ConnectionState S) (piece : List ℕ) → (fed_piece end state piece).out ≡ state.out
piece_out None state piece = refl
piece_out (Some end) state piece = refl

module _ {W S : Type 0} (w : world.Ghosts W) (t : sitting.Ghosts S W) (route : Route) (most : ℕ) (laws : Laws w t) where
  -- a new client was fed nothing
  pub new_fed : IsConnOf w t route most (nothing_yet new_session) → IsClientFed w t route most [] false new_client
  new_fed of = record { of = of; input = refl; clear = refl; stands = λ fair. laws.start route }

  -- octets more
  pub octets_fed : (octets before : List ℕ) (client : ClientState S) → IsClientFed w t route most before false client
      → IsClientFed w t route most (before ++ octets) false (with_octets octets client)
  octets_fed octets before client h = record {
    of = (laws.of route most client.conn h.of).fed octets;
    input = piece_input client.conn.end client.conn octets ∙ h.input;
    clear = piece_out client.conn.end client.conn octets ∙ h.clear;
    stands = λ fair. laws.fed route before client.written octets client.conn h.input (h.stands fair);
  }

  -- the end of the input
  pub no_more_fed : (octets : List ℕ) (ended : Bool) (client : ClientState S) → IsClientFed w t route most octets ended client
      → IsClientFed w t route most octets true (with_no_more client)
  no_more_fed octets ended client h = record {
    of = (laws.of route most client.conn h.of).ended;
    input = refl;
    clear = h.clear;
    stands = λ fair. laws.ended route octets client.written client.conn (h.stands fair);
  }

  module _ (exact : Bool) (now : ℕ) where
    -- a step changes nothing of what was fed
    pub step_fed : (idle : Bool) (old new : ClientState S) (before behind : Outside S) → before.door.counts.most ≡ most
        → IsClientStep w t exact route now idle old new before behind → (octets : List ℕ) (ended : Bool)
        → IsClientFed w t route most octets ended old → IsClientFed w t route most octets ended new
    step_fed idle old new before behind m h octets ended fed =
        let of : IsConnOf w t route most h.stepped_to = subst (λ (n : ℕ). IsConnOf w t route n h.stepped_to) (h.most ∙ m) h.of in record {
          of = subst (λ (c : ConnectionState S). IsConnOf w t route most c) (sym h.conn) ((laws.of route most h.stepped_to of).written);
          input = step_input w t exact route now idle old new before behind h ∙ fed.input;
          clear = ap (λ (c : ConnectionState S). c.out) h.conn;
          stands = λ fair.
              subst (λ (c : ConnectionState S). IsStateOf w route octets new.written c) (sym h.conn)
              (subst (λ (os : List ℕ). IsStateOf w route octets os (without_out h.stepped_to)) (sym h.written)
              (laws.written route octets old.written h.stepped_to (h.keeps fair octets old.written (fed.stands fair))));
        }

    -- nor do steps
    pub steps_fed : (start : Point S) (earlier : List (Point S)) (last : Point S) → start.outside.door.counts.most ≡ most
        → AreSteps w t exact route now start earlier last → (octets : List ℕ) (ended : Bool)
        → IsClientFed w t route most octets ended start.client → IsClientFed w t route most octets ended last.client
    steps_fed start [] last m h octets ended fed = subst (λ (p : Point S). IsClientFed w t route most octets ended p.client) (sym h) fed
    steps_fed start (mid ∷ earlier) last m h octets ended fed =
        step_fed false mid.client last.client mid.outside last.outside (steps_most w t exact route now start earlier mid h.0 ∙ m) h.1 octets ended
        (steps_fed start earlier mid m h.0 octets ended fed)

    -- nor does a run
    pub run_fed : (old new : ClientState S) (before behind : Outside S) → before.door.counts.most ≡ most
        → HasRun w t exact route now old new before behind → (octets : List ℕ) (ended : Bool)
        → IsClientFed w t route most octets ended old → IsClientFed w t route most octets ended new
    run_fed old new before behind m h octets ended fed =
        let start : Point S = record { client = old; outside = before } in
        step_fed true h.last.client new h.last.outside behind (steps_most w t exact route now start h.earlier h.last h.steps ∙ m) h.rests octets ended
        (steps_fed start h.earlier h.last m h.steps octets ended fed)

    -- an event for its client
    pub event_fed : (event : Event) (old new : ClientState S) (before behind : Outside S) → before.door.counts.most ≡ most → CanTake event old
        → PlaysFor w t exact route event now old new before behind → (octets : List ℕ) (ended : Bool)
        → IsClientFed w t route most octets ended old
        → IsClientFed w t route most (octets_with event octets) (ended_with event ended) new
    event_fed (Feed client piece) old new before behind m takes h octets ended fed =
        let off : ended ≡ false = sym fed.input ∙ takes in
        subst (λ (c : ClientState S). IsClientFed w t route most (octets ++ piece) ended c) (sym h.0)
        (subst (λ (b : Bool). IsClientFed w t route most (octets ++ piece) b (with_octets piece old)) (sym off)
        (octets_fed piece octets old (subst (λ (b : Bool). IsClientFed w t route most octets b old) off fed)))
    event_fed (Ends client) old new before behind m takes h octets ended fed =
        subst (λ (c : ClientState S). IsClientFed w t route most octets true c) (sym h.0) (no_more_fed octets ended old fed)
    event_fed (Step client) old new before behind m takes h octets ended fed =
        step_fed h.0 old new before behind m h.1 octets ended fed
    event_fed (Run client) old new before behind m takes h octets ended fed = run_fed old new before behind m h octets ended fed
    event_fed (Tick seconds) old new before behind m takes h octets ended fed = absurd h
    event_fed (Gone target presents) old new before behind m takes h octets ended fed = absurd h
    event_fed (Cut target) old new before behind m takes h octets ended fed = absurd h
    event_fed (Slow target looks) old new before behind m takes h octets ended fed = absurd h
