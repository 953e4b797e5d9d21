use Rattle.std.proofs.Common.{◌≡◌, ◌∙◌, List, [], ◌∷◌, length, ap, sym, subst, arith}
use Rattle.std.proofs.lemmas.List.{length-map}
use Rattle.std.proofs.Math.Seq.{take-length}
use Rattle.leg.specs.LegView.{LegView}
use Rattle.leg.specs.Phases.{answered}
use Rattle.package_rules.specs.Asked.{Asked}
use Rattle.package_rules.specs.Said.{scan_said}
use Rattle.package.specs.steps.Kinds.{IsFetch, IsSearch}
use Rattle.package.specs.steps.Packages.{HasFitting, answers_of, asked_of}
use Rattle.package.proofs.KindLemmas.{single}
use Rattle.package.proofs.MarkedLemmas.{scan_is}
use Rattle.package.proofs.SuppliesLemmas.{IsPopped, popped}
use Rattle.package.proofs.finishing.unmarked.Goals as goal

pub found-requires-clause-kind : goal.found-requires-clause-kind
found-requires-clause-kind g c = subst IsSearch (sym c.in-Search.is) tt

pub fetched-requires-clause-kind : goal.fetched-requires-clause-kind
fetched-requires-clause-kind g c = subst IsFetch (sym c.in-Fetch.is) tt

pub scanned-requires : goal.scanned-requires
scanned-requires g c =
    let all = c.args.first.items in
    let p : IsPopped all c.pop.new.self.items c.in-Some.leg =
    popped all all c.pop.new.self.items c.in-Some.leg (omega arith) (sym (take-length all)) c.in-Some.ensures.items in
    subst (λ (l : LegView g.row.S.Denot). HasFitting l.task (answered l.phase)) (p.last c.in-Some.leg)
    (c.requires.first_done (length c.pop.new.self.items) c.in-Some.leg p.inside)

pub returns-in-Fetch : goal.returns-in-Fetch
returns-in-Fetch g c = rw c.in-Fetch.is (rw c.in-Fetch.is at c.fetched.ensures)

pub returns-in-Some : goal.returns-in-Some
returns-in-Some g c =
    let all = c.args.first.items in
    let leg = c.in-Some.leg in
    let p : IsPopped all c.pop.new.self.items leg =
    popped all all c.pop.new.self.items leg (omega arith) (sym (take-length all)) c.in-Some.ensures.items in
    let fits : HasFitting leg.task (answered leg.phase) =
    subst (λ (l : LegView g.row.S.Denot). HasFitting l.task (answered l.phase)) (p.last leg)
    (c.requires.first_done (length c.pop.new.self.items) leg p.inside) in
    let asks = rw c.in-Scan.is at c.requires.at_first in
    let one : length all ≡ 1 = sym (length-map all asked_of) ∙ ap (λ (xs : List Asked). length xs) asks in
    let only : all ≡ leg ∷ [] = single all c.pop.new.self.items leg c.in-Some.ensures.items one in
    rw c.in-Scan.is (scan_is leg c.scanned.result fits c.scanned.ensures ∙ ap (λ legs. scan_said (answers_of legs)) (sym only))
