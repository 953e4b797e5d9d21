-- Where a task stands behind a write and a step, and what it owes there
use Rattle.std.proofs.Common.{◌≡◌, ◌∙◌, ◌⊎◌, inl, inr, ℕ, ◌≤◌, ◌<◌, false, true, [], Option, None, Some, refl, sym, ap, subst, arith, length, take}
use Rattle.std.proofs.Math.Seq.{take-length}
use Rattle.z_types.specs.Counts.{Rose}
use Rattle.z_types.specs.declared.marks.End.{End}
use Rattle.z_types.specs.declared.marks.End.TheVariants as how
use Rattle.z_types.specs.declared.sitting.Sitting as sitting
use Rattle.z_types.specs.declared.world.World as world
use Rattle.route_config.specs.declared.route.Route.{Route}
use Rattle.gw_outside.specs.Sinks.{appended}
use Rattle.gw_outside.specs.Sources.{HasEnded}
use Rattle.event_outside.specs.Sinks.{WritesOn}
use Rattle.conn_served.specs.Serving.{IsServed, SinkView, SourceView, Streams}
use Rattle.conn_served.specs.front_conn.steps.Feeding.{StandsAtStart, StandsWhenEnded, StandsWhenWritten, with_end, without_out}
use Rattle.conn_served.specs.front_conn.steps.States.{ConnectionState, nothing_yet}
use Rattle.conn_served.specs.front_conn_costs.steps.Conns.{dues_on}
use Rattle.conn_served.specs.front_session.Sessions.{new_session}
use Rattle.conn_served.specs.steps.Rounds.{IsBehind, IsBetween}
use Rattle.conn_served.specs.steps.Serving.{EndsByOctets, GoesOn, IsServing, IsWrittenOut}
use Rattle.conn_served.proofs.ServingLemmas.{appended-none, serving-starts, serving-unwritten, serving-written}
use Rattle.event_front.specs.Tasks.{Answers, IsOpen, Owes, OwesFew, Stands}
use Rattle.event_front.specs.declared.tasks.Polled.{Polled}
use Rattle.event_front.specs.declared.tasks.Polled.TheVariants.{Pending}
use Rattle.event_front.specs.steps.Rounds.{StandsBehind}

-- ---- where it stands

module _ {W S : Type 0} (w : world.Ghosts W) (t : sitting.Ghosts S W) (route : Route) (start : Streams) where
  -- nothing of what is out is written yet
  pub open-out : (now : Streams) (state : ConnectionState S) → IsServing w route start now state → IsOpen w route start now state 0
  open-out now state serving = record {
    before = now.output;
    serving = serving;
    received = appended-none now.output.received;
    faults = omega arith;
  }

  -- at first
  pub open-starts : StandsAtStart w t → IsOpen w route start start (nothing_yet {S = S} new_session) 0
  open-starts stands = open-out start (nothing_yet new_session) (serving-starts w t route start stands).serving

  -- more of what is out is written
  pub open-on : (input : SourceView) (old new : SinkView) (state : ConnectionState S) (done then : ℕ)
      → WritesOn old.received new.received state.out done then → old.faults ≤ new.faults
      → IsOpen w route start (record { input = input; output = old }) state done
      → IsOpen w route start (record { input = input; output = new }) state then
  open-on input old new state done then writes faults at = record {
    before = at.before;
    serving = at.serving;
    received = writes at.before.received at.received;
    faults = omega (arith, at.faults, faults);
  }

  -- all of it is
  pub open-whole : (input : SourceView) (new : SinkView) (state : ConnectionState S) (done : ℕ) → StandsWhenWritten w t
      → done ≡ length state.out → IsOpen w route start (record { input = input; output = new }) state done
      → IsWrittenOut w route start (record { input = input; output = new }) (without_out state)
  open-whole input new state done law all at =
      serving-written w t route start input at.before new state law
      (at.received ∙ ap (λ n. appended at.before.received (take n state.out)) all
      ∙ ap (λ o. appended at.before.received o) (take-length state.out))
      at.faults at.serving

  -- a write failed, with some left
  pub open-unwritten : (input : SourceView) (old new : SinkView) (state : ConnectionState S) (done then : ℕ)
      → WritesOn old.received new.received state.out done then → Rose old.faults new.faults → then < length state.out
      → IsOpen w route start (record { input = input; output = old }) state done
      → IsServed w route start (record { input = input; output = new }) state.marks how.WriteFault
  open-unwritten input old new state done then writes rose within at =
      let faults = at.faults in
      serving-unwritten w t route start input at.before new state
      (record { count = then; within = within; received = writes at.before.received at.received })
      (omega (arith, faults, rose)) at.serving

  -- ---- a read

  -- the input has ended
  pub read-over : (old new : SourceView) (output : SinkView) (state : ConnectionState S) → StandsWhenEnded w t
      → state.end ≡ None → HasEnded new.left → new.given ≡ old.given → old.faults ≤ new.faults
      → IsWrittenOut w route start (record { input = old; output = output }) state
      → IsWrittenOut w route start (record { input = new; output = output }) (with_end state)
  read-over old new output state law goes left gave faults at =
      let serving = at.serving in
      let reads = serving.reads in record {
        serving = record {
          read = serving.read;
          written = serving.written;
          given = gave ∙ serving.given;
          received = serving.received;
          stands = λ fair. law route serving.read serving.written state (serving.stands fair);
          ends = subst (EndsByOctets true) (sym goes) tt;
          input_ended = λ e. left;
          reads = omega (arith, reads, faults);
          writes = serving.writes;
        };
        nothing_out = at.nothing_out;
      }

  -- nothing has come yet
  pub read-waits : (old new : SourceView) (output : SinkView) (state : ConnectionState S) → state.has_ended ≡ false
      → new.given ≡ old.given → old.faults ≤ new.faults
      → IsWrittenOut w route start (record { input = old; output = output }) state
      → IsWrittenOut w route start (record { input = new; output = output }) state
  read-waits old new output state goes gave faults at =
      let serving = at.serving in
      let reads = serving.reads in record {
        serving = record {
          read = serving.read;
          written = serving.written;
          given = gave ∙ serving.given;
          received = serving.received;
          stands = serving.stands;
          ends = serving.ends;
          input_ended = λ e. let wrong : false ≡ true = sym goes ∙ e in absurd cc;
          reads = omega (arith, reads, faults);
          writes = serving.writes;
        };
        nothing_out = at.nothing_out;
      }

  -- behind a read
  pub read-stands : (now : Streams) (state : ConnectionState S) (end : Option End) → GoesOn w route start now state end
      → StandsBehind w route start now state end
  read-stands now state None at = at.serving
  read-stands now state (Some end) at = at

  -- behind a step nothing of what it put out is written yet
  pub step-stands : (now : Streams) (state : ConnectionState S) (end : Option End) → StandsBehind w route start now state end
      → Stands w route start now state 0 end
  step-stands now state None at = open-out now state at
  step-stands now state (Some end) at = at

-- ---- what it owes

module _ {S : Type 0} where
  -- at first
  pub owes-first : OwesFew (nothing_yet {S = S} new_session)
  owes-first = record { rests = λ ended. refl; few = omega arith; none = inl refl }

  -- once all is written
  pub written-between : (state : ConnectionState S) → OwesFew state → IsBetween (without_out state)
  written-between state h = record { nothing_out = refl; rests = h.rests; few = h.few }

  none-due : (state : ConnectionState S) (done : ℕ) → done < length state.out → (state.out ≡ []) ⊎ ((dues_on state).unused ≡ 0)
      → (dues_on state).unused ≤ 0
  none-due state done within (inl none) = let zero : length state.out ≡ 0 = ap length none in absurd (omega (arith, zero, within))
  none-due state done within (inr zero) = omega (arith, zero)

  -- where a write failed, with some left
  pub unwritten-owes : (state : ConnectionState S) (done : ℕ) → done < length state.out → OwesFew state → Owes state (Some how.WriteFault)
  unwritten-owes state done within h = none-due state done within h.none

  -- where it goes on as one that is served alone does
  pub behind-owes : (state : ConnectionState S) (end : Option End) → IsBehind state end → Owes state end
  behind-owes state None h = record { rests = h.rests; few = h.few; none = inl h.nothing_out }
  behind-owes state (Some end) h = h

  -- behind a step that wrote something, or nothing
  pub wrote-none : (old new : ConnectionState S) → old.out ≡ [] → (new.out ≡ old.out) ⊎ ((dues_on new).unused ≡ 0)
      → (new.out ≡ []) ⊎ ((dues_on new).unused ≡ 0)
  wrote-none old new none (inl same) = inl (same ∙ none)
  wrote-none old new none (inr zero) = inr zero

-- ---- what a poll answers

-- one that has ended is not pending
pub ended-answers : (end : End) (polled : Polled) → Answers (Some end) polled → polled ≡ Pending → ⊥
ended-answers how.Closed polled h e = let wrong = sym h ∙ e in absurd cc
ended-answers how.Finished polled h e = let wrong = sym h ∙ e in absurd cc
ended-answers (how.Malformed at) polled h e = let wrong = sym h ∙ e in absurd cc
ended-answers (how.Cut left) polled h e = let wrong = sym h ∙ e in absurd cc
ended-answers how.Limited polled h e = let wrong = sym h ∙ e in absurd cc
ended-answers how.ReadFault polled h e = let wrong = sym h ∙ e in absurd cc
ended-answers how.WriteFault polled h e = let wrong = sym h ∙ e in absurd cc
ended-answers how.Memory polled h e = let wrong = sym h ∙ e in absurd cc
