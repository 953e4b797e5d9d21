-- marks that are Plain or Full are Plain where the door was never full
use Rattle.std.proofs.Common.{◌≡◌, ◌*◌, List, [], ◌∷◌, refl, arith}
use Rattle.std.specs.List.{AllByRecursion}
use Rattle.std.proofs.lemmas.List.Sums.{sum_by-cons}
use Rattle.z_types.specs.declared.marks.Mark.{Mark}
use Rattle.z_types.specs.declared.marks.Mark.TheVariants as mark
use Rattle.replay.specs.gateway_rules.OneAnswer.{AreMarksPlain}
use Rattle.route_config.specs.declared.route.PoolNumbers.{PoolNumbers}
use Rattle.replay.specs.front_conn.steps.Answering.{Outside}
use Rattle.replay.specs.front_conn_costs.steps.Conns.{marks_of}
use Rattle.replay.specs.front_conn_costs.steps.Numbers.{full, weight}
use Rattle.replay.specs.Counts.{HaveCauses, met_for}
use Rattle.replay.specs.Uncaused.{AreAllPlain}
use Rattle.replay.specs.Undisturbed.{IsPlainOrFull}
use Rattle.replay.specs.declared.reports.ClientReport.{ClientReport}
use Rattle.replay.specs.declared.reports.Report.{Report}
use Rattle.replay.proofs.UncausedLemmas.{none-met, one_of}
use Rattle.replay_laws.specs.Borne.{AreAllPlainOrFull, WasNeverFull}

-- one that is not Full
plain-mark : (m : Mark) → IsPlainOrFull m → one_of full m ≡ 0 → m ≡ mark.Plain
plain-mark mark.Plain so none = refl
plain-mark mark.Link so none = absurd so
plain-mark (mark.Silent looks) so none = absurd so
plain-mark mark.Gone so none = absurd so
plain-mark (mark.Full sessions) so none = absurd cc

plain-marks : (marks : List Mark) → AllByRecursion IsPlainOrFull marks → marks_of full marks ≡ 0 → AreMarksPlain marks
plain-marks [] so none = tt
plain-marks (m ∷ marks) so none =
    let all = sum_by-cons (one_of full) m marks in
    (plain-mark m so.0 (omega (arith, all, none)), plain-marks marks so.1 (omega (arith, all, none)))

plain-clients : (pool : PoolNumbers) (clients : List ClientReport) → AreAllPlainOrFull clients → met_for pool full clients ≡ 0
    → AreAllPlain clients
plain-clients pool [] so none = tt
plain-clients pool (client ∷ clients) so none =
    let all = sum_by-cons (λ (c : ClientReport). weight pool full * marks_of full c.marks) client clients in
    (plain-marks client.marks so.0 (omega (arith, all, none)), plain-clients pool clients so.1 (omega (arith, all, none)))

pub borne-plain : {S : Type 0} (pool : PoolNumbers) (report : Report) (before behind : Outside S) → AreAllPlainOrFull report.clients
    → HaveCauses pool report before behind → WasNeverFull before behind → AreAllPlain report.clients
borne-plain pool report before behind so causes never =
    plain-clients pool report.clients so
    (none-met (met_for pool full report.clients) before.door.counts.fulls behind.door.counts.fulls never.below never.still (causes full))
