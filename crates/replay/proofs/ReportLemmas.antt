-- what is reported of clients, one behind another
use Rattle.std.proofs.Common.{◌≡◌, ◌∙◌, ◌<◌, ◌+◌, ℕ, zero, suc, true, List, [], ◌∷◌, ◌++◌, Option, None, Some, IfSome, IsSome, append-nil, length, map, refl, sym, ap, subst, add-one, arith}
use Rattle.std.specs.List.{AllByRecursion}
use Rattle.std.proofs.lemmas.List.{map-append}
use Rattle.z_types.specs.declared.sitting.Sitting as sitting
use Rattle.z_types.specs.declared.world.World as world
use Rattle.route_config.specs.declared.route.Route.{Route}
use Rattle.front_conn_costs.specs.sru_rules.Answers.{Answers}
use Rattle.front_conn_costs.specs.gateway_rules.Fair.{IsFair}
use Rattle.script.specs.declared.event.Event.{Event}
use Rattle.script.specs.Events.{fed, named, named_upto}
use Rattle.front_conn_costs.specs.front_conn.steps.Feeding.{EndsAnswered}
use Rattle.replay.specs.declared.reports.ClassReport.{ClassReport}
use Rattle.replay.specs.declared.reports.ClientReport.{ClientReport}
use Rattle.replay.specs.declared.reports.Report.{Report}
use Rattle.replay.specs.Report.{IsAnswered, IsReportOf}
use Rattle.replay.specs.Trace.{AreReported, IsReported, IsReportedAs, IsReportedBehind, costs_upto}
use Rattle.replay.specs.Classes.{costless, costs_of}
use Rattle.replay.specs.Clients.{ClientState, client_at}
use Rattle.replay.specs.steps.Clients.{AreClosedOf, IsClientFed, IsClosedOf}
use Rattle.replay.proofs.ClosingLemmas.{named_upto-with, named_upto-without}
use Rattle.replay.proofs.CostLemmas.{names-costless, names-costs_upto, names_of}

-- ---- one behind another

module _ {S : Type 0} where
  -- none yet
  pub none_reported : (clients : List (Option (ClientState S))) (reports : List ClientReport) → reports ≡ [] → AreReported 0 clients reports
  none_reported clients reports e = e

  -- one place more
  pub next_reported : (place : ℕ) (clients : List (Option (ClientState S))) (here : Option (ClientState S)) (old new : List ClientReport)
      → here ≡ client_at clients place → AreReported place clients old → IsReportedBehind (place + 1) here old new
      → AreReported (place + 1) clients new
  next_reported place clients here old new is so_far more =
      subst (λ (n : ℕ). AreReported n clients new) (sym (add-one place)) (
        old,
        so_far,
        subst (λ (c : Option (ClientState S)). IsReportedBehind (suc place) c old new) is
            (subst (λ (n : ℕ). IsReportedBehind n here old new) (add-one place) more),
      )

  pub next_costs : (place : ℕ) (clients : List (Option (ClientState S))) (here : Option (ClientState S)) (first old new : List ClassReport)
      → here ≡ client_at clients place → old ≡ costs_upto place clients first → new ≡ costs_of here old → new ≡ costs_upto (place + 1) clients first
  next_costs place clients here first old new is so_far more =
      more ∙ ap (λ (c : Option (ClientState S)). costs_of c old) is ∙ ap (λ (cs : List ClassReport). costs_of (client_at clients place) cs) so_far
      ∙ ap (λ (n : ℕ). costs_upto n clients first) (sym (add-one place))

  -- a client that was at its place is reported
  pub behind_some : (number : ℕ) (place : Option (ClientState S)) (client : ClientState S) (old new : List ClientReport) → place ≡ Some client
      → IsReportedBehind number (Some client) old new → IsReportedBehind number place old new
  behind_some number place client old new e h = subst (λ (c : Option (ClientState S)). IsReportedBehind number c old new) (sym e) h

  -- none is not
  pub behind_none : (number : ℕ) (place : Option (ClientState S)) (old : List ClientReport) → place ≡ None → IsReportedBehind number place old old
  behind_none number place old e = subst (λ (c : Option (ClientState S)). IsReportedBehind number c old old) (sym e) refl

  -- so for what its requests cost
  pub costs_some : (place : Option (ClientState S)) (client : ClientState S) (costs : List ClassReport) → place ≡ Some client
      → costs_of (Some client) costs ≡ costs_of place costs
  costs_some place client costs e = ap (λ (c : Option (ClientState S)). costs_of c costs) (sym e)

  pub costs_none : (place : Option (ClientState S)) (costs : List ClassReport) → place ≡ None → costs ≡ costs_of place costs
  costs_none place costs e = ap (λ (c : Option (ClientState S)). costs_of c costs) (sym e)

  -- where a client is there, its connection has ended
  pub end_some : (place : Option (ClientState S)) (client : ClientState S) → place ≡ Some client
      → IfSome place (λ here. IsSome here.conn.end) → IsSome client.conn.end
  end_some place client e h = subst (λ (c : Option (ClientState S)). IfSome c (λ here. IsSome here.conn.end)) e h

-- ---- what is reported is right

-- one more that is so
all_more : (P : ClientReport → Type 0) (clients : List ClientReport) (client : ClientReport) → AllByRecursion P clients → P client → AllByRecursion P (clients ++ client ∷ [])
all_more P [] client h p = (p, tt)
all_more P (other ∷ clients) client h p = (h.0, all_more P clients client h.1 p)

-- the reports of the clients that events name, up to a number
record AreRightUpto {W : Type 0} (w : world.Ghosts W) (route : Route) (events : List Event) (last : ℕ) (reports : List ClientReport) : Type 0 where
  pub numbers : map (λ client. client.number) reports ≡ named_upto last events
  pub each : IsFair w route → AllByRecursion (IsAnswered w route events) reports

none_right : {W : Type 0} (w : world.Ghosts W) (route : Route) (events : List Event) → AreRightUpto w route events 0 []
unfolding named_upto
none_right w route events = record { numbers = refl; each = λ fair. tt }

module _ {W S : Type 0} (w : world.Ghosts W) (t : sitting.Ghosts S W) (route : Route) (most : ℕ) (law : EndsAnswered w t) (events : List Event) where
  -- a client whose connection has ended was written the answers to what it was fed
  answered : (number : ℕ) (client : ClientState S) (report : ClientReport) → IsReportedAs number client report
      → IsClientFed w t route most (fed events number) true client → IsFair w route → IsAnswered w route events report
  answered number client report told fed_so fair =
      let all : client.written ++ client.conn.out ≡ report.bytes =
      ap (λ out. client.written ++ out) fed_so.clear ∙ append-nil client.written ∙ sym told.bytes in
      let answers = law route (fed events number) client.written client.conn report.end (fed_so.stands fair) told.ended fed_so.input in
      let written = subst (λ (os : List ℕ). Answers w route (fed events number) client.conn.marks os report.end) all answers in
      let marked = subst (λ ms. Answers w route (fed events number) ms report.bytes report.end) (sym told.marks) written in
      subst (λ (n : ℕ). Answers w route (fed events n) report.marks report.bytes report.end) (sym told.same_number) marked

  right_more : (last : ℕ) (place : Option (ClientState S)) (old new : List ClientReport) → IsClosedOf w t route most events (suc last) place
      → IsReportedBehind (suc last) place old new → AreRightUpto w route events last old → AreRightUpto w route events (suc last) new
  right_more last None old new off same h = record {
    numbers = ap (λ (rs : List ClientReport). map (λ client. client.number) rs) same ∙ h.numbers ∙ sym (named_upto-without last events off);
    each = λ fair. subst (λ (rs : List ClientReport). AllByRecursion (IsAnswered w route events) rs) (sym same) (h.each fair);
  }
  right_more last (Some client) old new stands made h =
      let report = made.0 in
      let same : new ≡ old ++ report ∷ [] = made.2 in record {
        numbers = ap (λ (rs : List ClientReport). map (λ client. client.number) rs) same ∙ map-append (λ (client : ClientReport). client.number) old (report ∷ [])
            ∙ ap (λ (ns : List ℕ). ns ++ report.number ∷ []) h.numbers ∙ ap (λ (n : ℕ). named_upto last events ++ n ∷ []) made.1.same_number
            ∙ sym (named_upto-with last events stands.0);
        each = λ fair.
            subst (λ (rs : List ClientReport). AllByRecursion (IsAnswered w route events) rs) (sym same)
            (all_more (IsAnswered w route events) old report (h.each fair) (answered (suc last) client report made.1 stands.1 fair));
      }

  right_upto : (last : ℕ) (clients : List (Option (ClientState S))) (reports : List ClientReport)
      → ((place : ℕ) → place < last → IsClosedOf w t route most events (suc place) (client_at clients place))
      → AreReported last clients reports → AreRightUpto w route events last reports
  right_upto zero clients reports closed e = subst (λ (rs : List ClientReport). AreRightUpto w route events 0 rs) (sym e) (none_right w route events)
  right_upto (suc last) clients reports closed h =
      right_more last (client_at clients last) h.0 reports (closed last (omega arith)) h.2
      (right_upto last clients h.0 (λ place before. closed place (omega (arith, before))) h.1)

  -- the reports of all clients
  pub record AreRight (reports : List ClientReport) : Type 0 where
    pub numbers : map (λ client. client.number) reports ≡ named events
    pub each : IsFair w route → AllByRecursion (IsAnswered w route events) reports

  pub all_right : (clients : List (Option (ClientState S))) (reports : List ClientReport) → AreClosedOf w t route most events clients
      → AreReported (length clients) clients reports → AreRight reports
  unfolding named
  all_right clients reports closed h =
      let right = right_upto (length clients) clients reports closed.each h in record {
        numbers = right.numbers ∙ ap (λ n. named_upto n events) closed.all;
        each = right.each;
      }

  -- the report of all clients, and of the route's classes
  pub is_right : (clients : List (Option (ClientState S))) (report : Report) → AreClosedOf w t route most events clients → IsReported route clients report
      → IsReportOf w route events report
  is_right clients report closed h =
      let right = all_right clients report.clients closed h.clients_of in record {
        clients = right.numbers;
        each = right.each;
        classes = ap names_of h.costs ∙ names-costs_upto (length clients) clients (map costless route.classes) ∙ names-costless route.classes;
      }
