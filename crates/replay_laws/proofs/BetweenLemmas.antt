-- where a script is quiet, no request is in work at a cut or a deletion
use Rattle.std.proofs.Common.{◌≡◌, ◌≢◌, ◌∙◌, ◌⊎◌, ◌+◌, ◌-◌, ℕ, Bool, true, false, not, ◌==◌, cond, inl, inr, List, [], ◌∷◌, filter, length, Option, None, Some, IfSome, slice_set, refl, sym, ap, subst, arith}
use Rattle.std.proofs.Math.ListN.{length-set}
use Rattle.std.proofs.lemmas.Bool.{and_parts, cases_eq, cases_lt, eqb-true}
use Rattle.z_types.specs.declared.sitting.Sitting as sitting
use Rattle.z_types.specs.declared.world.World as world
use Rattle.route_config.specs.declared.route.Route.{Route}
use Rattle.replay.specs.front_conn.steps.Answering.{Outside}
use Rattle.replay.specs.front_conn.steps.Feeding.{with_end, with_piece}
use Rattle.replay.specs.front_conn.steps.States.{ConnectionState}
use Rattle.replay.specs.front_conn_costs.steps.Conns.{RestsIfEnded}
use Rattle.script.specs.declared.event.Event.{Event}
use Rattle.script.specs.declared.event.Event.TheVariants.{Feed, End, Step, Run, Tick, Gone, Cut, Slow}
use Rattle.script.specs.Events.{seconds_of}
use Rattle.replay.specs.Clients.{AreNone, ClientState, client_at, client_or_new}
use Rattle.replay.specs.Trace.{ArePlayed, AreSteps, HasRun, IsClientStep, IsPlayed, IsRunOf, PlaysAmong, PlaysFor, Playing, Point}
use Rattle.replay.specs.declared.reports.Report.{Report}
use Rattle.replay.proofs.ClientLemmas.{client_at-behind, client_at-other, client_at-set}
use Rattle.replay_laws.specs.Between.{DisturbsNobody, FallBetween, FallsBetween, IsNoneInWork}
use Rattle.replay_laws.specs.Quiet.{IsQuiet, is_nobody, may_all_come, may_come, stepped_behind}
use Rattle.replay_laws.proofs.RestLemmas.{fed-rests, fed-work, step-idle, step-rests}

-- ---- clients that took a step

-- one of them has this place
abbrev HasPlace : ℕ → List ℕ → Type 0
HasPlace place [] = ⊥
HasPlace place (client ∷ clients) = (client - 1 ≡ place) ⊎ HasPlace place clients

-- so it is without another
kept-place : (place client other : ℕ) (rest left : List ℕ) (b : Bool) → (other == client) ≡ b → place ≢ client - 1
    → (HasPlace place rest → HasPlace place left) → HasPlace place (other ∷ rest) → HasPlace place (cond (not b) (other ∷ left) left)
kept-place place client other rest left true e ne keeps (inl is) = absurd (ne (sym is ∙ ap (λ n. n - 1) (eqb-true other client e)))
kept-place place client other rest left true e ne keeps (inr has) = keeps has
kept-place place client other rest left false e ne keeps (inl is) = inl is
kept-place place client other rest left false e ne keeps (inr has) = inr (keeps has)

other-place : (place client : ℕ) (clients : List ℕ) → place ≢ client - 1 → HasPlace place clients
    → HasPlace place (filter (λ other. not (other == client)) clients)
other-place place client [] ne has = absurd has
other-place place client (other ∷ clients) ne has =
    kept-place place client other clients (filter (λ one. not (one == client)) clients) (other == client) refl ne
    (other-place place client clients ne) has

-- ---- where clients stand

module _ {S : Type 0} where
  -- it has no request in work, or it took a step
  pub record IsStanding (stepped : List ℕ) (place : ℕ) (conn : ConnectionState S) : Type 0 where
    pub rests : RestsIfEnded conn
    pub work : (conn.in_work ≡ None) ⊎ HasPlace place stepped

  abbrev pub Stands : List ℕ → ℕ → Option (ClientState S) → Type 0
  Stands stepped place here = IfSome here (λ client. IsStanding stepped place client.conn)

  abbrev pub AllStand : List ℕ → List (Option (ClientState S)) → Type 0
  AllStand stepped clients = (place : ℕ) → Stands stepped place (client_at clients place)

  none-stand : (clients : List (Option (ClientState S))) → AreNone clients → AllStand [] clients
  none-stand clients none place = subst (λ (c : Option (ClientState S)). Stands [] place c) (sym (none place)) tt

  -- where nobody took a step, no request is in work
  at-rest : (place : ℕ) (here : Option (ClientState S)) → Stands [] place here → IfSome here (λ client. client.conn.in_work ≡ None)
  at-rest place None stands = tt
  at-rest place (Some client) stands = elim (stands.work) [ inl none ↦ none | inr has ↦ absurd has ]

  nobody-works : (stepped : List ℕ) (clients : List (Option (ClientState S))) → is_nobody stepped ≡ true → AllStand stepped clients
      → IsNoneInWork clients
  nobody-works [] clients e stand = λ place. at-rest place (client_at clients place) (stand place)
  nobody-works (client ∷ stepped) clients e stand = absurd cc

  falls-so : (event : Event) (stepped : List ℕ) (clients : List (Option (ClientState S))) → may_come stepped event ≡ true
      → AllStand stepped clients → FallsBetween event clients
  falls-so (Feed client octets) stepped clients e stand = tt
  falls-so (End client) stepped clients e stand = tt
  falls-so (Step client) stepped clients e stand = tt
  falls-so (Run client) stepped clients e stand = tt
  falls-so (Tick seconds) stepped clients e stand = tt
  falls-so (Gone target presents) stepped clients e stand = nobody-works stepped clients e stand
  falls-so (Cut target) stepped clients e stand = nobody-works stepped clients e stand
  falls-so (Slow target looks) stepped clients e stand = tt

  or-new : (stepped : List ℕ) (place : ℕ) (here : Option (ClientState S)) → Stands stepped place here
      → IsStanding stepped place (client_or_new here).conn
  or-new stepped place None stands = record { rests = λ ended. refl; work = inl refl }
  or-new stepped place (Some client) stands = stands

  -- the client of one place moves, and the others stand as before
  others-stand : (stepped after : List ℕ) (place : ℕ) (clients : List (Option (ClientState S))) (here : Option (ClientState S))
      → ((other : ℕ) → other ≢ place → HasPlace other stepped → HasPlace other after) → AllStand stepped clients → Stands after place here
      → AllStand after (slice_set clients place here)
  others-stand stepped after place clients here keeps stand own other =
      elim (cases_eq other place) [
        | inl e ↦
            elim (cases_lt place (length clients)) [
              | inl within ↦
                  subst (λ (n : ℕ). Stands after n (client_at (slice_set clients place here) n)) (sym e)
                  (subst (λ (c : Option (ClientState S)). Stands after place c) (sym (client_at-set clients place here within)) own)
              | inr beyond ↦
                  subst (λ (c : Option (ClientState S)). Stands after other c)
                  (sym (client_at-behind (slice_set clients place here) other (omega (arith, e, beyond, length-set clients place here)))) tt
            ]
        | inr ne ↦
            subst (λ (c : Option (ClientState S)). Stands after other c) (sym (client_at-other clients place other here ne))
            (still-stands other ne (client_at clients other) (stand other))
      ]
    where
      still-stands : (n : ℕ) → n ≢ place → (c : Option (ClientState S)) → Stands stepped n c → Stands after n c
      still-stands n ne None stands = tt
      still-stands n ne (Some client) stands = record {
        rests = stands.rests;
        work = elim (stands.work) [ inl none ↦ inl none | inr has ↦ inr (keeps n ne has) ];
      }

-- ---- what events do

module _ {W S : Type 0} (w : world.Ghosts W) (t : sitting.Ghosts S W) (exact : Bool) (route : Route) where
  client-rests : (now : ℕ) (idle : Bool) (old new : ClientState S) (before behind : Outside S) → RestsIfEnded old.conn
      → IsClientStep w t exact route now idle old new before behind → RestsIfEnded new.conn
  client-rests now idle old new before behind rests h =
      subst (λ (c : ConnectionState S). RestsIfEnded c) (sym h.conn)
      (step-rests w t exact route now old.conn h.stepped_to before behind h.answer h.remembers rests h.steps)

  client-idle : (now : ℕ) (old new : ClientState S) (before behind : Outside S) → RestsIfEnded old.conn
      → IsClientStep w t exact route now true old new before behind → new.conn.in_work ≡ None
  client-idle now old new before behind rests h =
      ap (λ (c : ConnectionState S). c.in_work) h.conn
      ∙ step-idle w t exact route now old.conn h.stepped_to before behind h.answer h.is_idle rests h.steps

  steps-rest : (now : ℕ) (start : Point S) (earlier : List (Point S)) (last : Point S) → RestsIfEnded start.client.conn
      → AreSteps w t exact route now start earlier last → RestsIfEnded last.client.conn
  steps-rest now start [] last rests h = subst (λ (p : Point S). RestsIfEnded p.client.conn) (sym h) rests
  steps-rest now start (mid ∷ earlier) last rests h =
      client-rests now false mid.client last.client mid.outside last.outside (steps-rest now start earlier mid rests h.0) h.1

  -- behind a run no request is in work
  run-rests : (now : ℕ) (stepped : List ℕ) (place : ℕ) (old new : ClientState S) (before behind : Outside S) → RestsIfEnded old.conn
      → HasRun w t exact route now old new before behind → IsStanding stepped place new.conn
  run-rests now stepped place old new before behind rests h =
      let so_far = steps-rest now (record { client = old; outside = before }) h.earlier h.last rests h.steps in record {
        rests = client-rests now true h.last.client new h.last.outside behind so_far h.rests;
        work = inl (client-idle now h.last.client new h.last.outside behind so_far h.rests);
      }

  same-stands : (stepped : List ℕ) (place : ℕ) (new other : ClientState S) → new ≡ other → IsStanding stepped place other.conn
      → IsStanding stepped place new.conn
  same-stands stepped place new other e stands = subst (λ (c : ClientState S). IsStanding stepped place c.conn) (sym e) stands

  fed-stands : (stepped : List ℕ) (place : ℕ) (conn : ConnectionState S) (piece : List ℕ) → IsStanding stepped place conn
      → IsStanding stepped place (with_piece conn piece)
  fed-stands stepped place conn piece stands = record {
    rests = fed-rests conn piece stands.rests;
    work = elim (stands.work) [ inl none ↦ inl (fed-work conn piece ∙ none) | inr has ↦ inr has ];
  }

  ended-stands : (stepped : List ℕ) (place : ℕ) (conn : ConnectionState S) → IsStanding stepped place conn
      → IsStanding stepped place (with_end conn)
  ended-stands stepped place conn stands = record { rests = stands.rests; work = stands.work }

  -- the client of an event
  among-stand : (event : Event) (after stepped : List ℕ) (place now : ℕ) (old new : Playing S)
      → ((other : ℕ) → other ≢ place → HasPlace other stepped → HasPlace other after)
      → ((before client : ClientState S) → IsStanding stepped place before.conn
      → PlaysFor w t exact route event now before client old.outside new.outside → IsStanding after place client.conn)
      → AllStand stepped old.clients → PlaysAmong w t exact route event place now old new → AllStand after new.clients
  among-stand event after stepped place now old new keeps moves stand h =
      subst (λ (cs : List (Option (ClientState S))). AllStand after cs) (sym h.others)
      (others-stand stepped after place old.clients h.here keeps stand
      (subst (λ (c : Option (ClientState S)). Stands after place c) (sym h.plays.is_there)
      (moves (client_or_new (client_at old.clients place)) h.plays.client
      (or-new stepped place (client_at old.clients place) (stand place)) h.plays.plays)))

  event-stands : (event : Event) (stepped : List ℕ) (now : ℕ) (old new : Playing S) → AllStand stepped old.clients
      → IsPlayed w t exact route event now old new → AllStand (stepped_behind stepped event) new.clients
  event-stands (Feed client octets) stepped now old new stand h =
      among-stand (Feed client octets) stepped stepped (client - 1) now old new (λ other ne has. has)
      (λ before one stands plays. same-stands stepped (client - 1) one _ plays.0 (fed-stands stepped (client - 1) before.conn octets stands)) stand h
  event-stands (End client) stepped now old new stand h =
      among-stand (End client) stepped stepped (client - 1) now old new (λ other ne has. has)
      (λ before one stands plays. same-stands stepped (client - 1) one _ plays.0 (ended-stands stepped (client - 1) before.conn stands)) stand h
  event-stands (Step client) stepped now old new stand h =
      among-stand (Step client) (client ∷ stepped) stepped (client - 1) now old new (λ other ne has. inr has)
      (λ before one stands plays. record {
        rests = client-rests now plays.0 before one old.outside new.outside stands.rests plays.1;
        work = inr (inl refl);
      }) stand h
  event-stands (Run client) stepped now old new stand h =
      among-stand (Run client) (filter (λ other. not (other == client)) stepped) stepped (client - 1) now old new
      (λ other ne has. other-place other client stepped ne has)
      (λ before one stands plays.
      run-rests now (filter (λ other. not (other == client)) stepped) (client - 1) before one old.outside new.outside stands.rests plays) stand h
  event-stands (Tick seconds) stepped now old new stand h = subst (λ (cs : List (Option (ClientState S))). AllStand stepped cs) (sym h.clients) stand
  event-stands (Gone target presents) stepped now old new stand h =
      subst (λ (cs : List (Option (ClientState S))). AllStand stepped cs) (sym h.clients) stand
  event-stands (Cut target) stepped now old new stand h = subst (λ (cs : List (Option (ClientState S))). AllStand stepped cs) (sym h.clients) stand
  event-stands (Slow target looks) stepped now old new stand h =
      subst (λ (cs : List (Option (ClientState S))). AllStand stepped cs) (sym h.clients) stand

  fall-so : (events : List Event) (stepped : List ℕ) (now : ℕ) (old new : Playing S) → may_all_come stepped events ≡ true
      → AllStand stepped old.clients → (played : ArePlayed w t exact route events now old new)
      → FallBetween w t exact route events now old new played
  fall-so [] stepped now old new e stand played = tt
  fall-so (event ∷ events) stepped now old new e stand played =
      let may = and_parts (may_come stepped event) (may_all_come (stepped_behind stepped event) events) e in (
        falls-so event stepped old.clients may.0 stand,
        fall-so events (stepped_behind stepped event) (now + seconds_of event) played.0 new may.1
            (event-stands event stepped now old played.0 stand played.1) played.2,
      )

  pub disturbs-nobody : (events : List Event) (before behind : Outside S) (report : Report)
      (run : IsRunOf w t exact route events before behind report) → IsQuiet events
      → DisturbsNobody w t exact route events before behind report run
  disturbs-nobody events before behind report run quiet =
      fall-so events [] 0 (record { clients = run.start; outside = before }) run.mid quiet (none-stand run.start run.nobody) run.played
