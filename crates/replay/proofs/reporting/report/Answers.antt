use Rattle.std.proofs.Common.{◌≡◌, ◌∙◌, ◌++◌, List, ap, drop, length, map, take, arith}
use Rattle.replay.specs.Classes.{costless}
use Rattle.replay.specs.Trace.{costs_upto}
use Rattle.replay.specs.declared.reports.ClassReport.{ClassReport}
use Rattle.replay.proofs.CostLemmas.{names-costs_upto, names_of, same_length, written_back}
use Rattle.replay.proofs.reporting.report.Goals as goal

pub returns-clause-reported : goal.returns-clause-reported
returns-clause-reported g c =
    let clients = c.args.clients.now in
    let old = c.into_vec-costs.result.items in
    let slice = c.as_mut_slice.result.now in
    let new = c.report_all.new.costs in
    let first : slice ≡ map costless c.args.route.now.classes = c.as_mut_slice.ensures.value ∙ c.into_vec-costs.ensures ∙ c.in_ok-no_costs.ensures in
    let upto : new ≡ costs_upto (length clients) clients (map costless c.args.route.now.classes) =
    c.in_ok-clients.ensures.costs ∙ ap (λ (cs : List ClassReport). costs_upto (length clients) clients cs) first in
    let names : names_of new ≡ names_of old =
    ap names_of c.in_ok-clients.ensures.costs ∙ names-costs_upto (length clients) clients slice ∙ ap names_of c.as_mut_slice.ensures.value in
    let back : take c.into_vec-costs.result.len (new ++ drop (length new) old) ≡ new =
    written_back old new c.into_vec-costs.result.len (omega arith) (same_length (λ (class : ClassReport). class.name) new old names) in
    record { clients_of = c.in_ok-clients.ensures.reports; costs = c.from_vec-classes.ensures ∙ back ∙ upto }
