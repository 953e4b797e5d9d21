use Rattle.std.proofs.Common.{◌∙◌, map, ap, sym, refl, subst}
use Rattle.package_rules.specs.Planned.{then_asked_by}
use Rattle.package.specs.steps.Packages.{AreDone, AsksSo, PackageView, answers_of, begun}
use Rattle.package.specs.steps.Turns.{all_done}
use Rattle.package.proofs.PlanLemmas.{plans_now, stays_unplanned}
use Rattle.package.proofs.package.Package.plan.Goals as goal

pub then_legs-requires-clause-there : goal.then_legs-requires-clause-there
then_legs-requires-clause-there g c =
    let asks = subst (AsksSo c.args.route.now) (sym c.self.view_is) c.requires.asks in asks.there

pub then_legs-requires-clause-done : goal.then_legs-requires-clause-done
then_legs-requires-clause-done g c =
    subst AreDone (sym c.as_slice.ensures.value)
    (subst (λ (v : PackageView g.row.S.Denot). AreDone v.first) (sym c.self.view_is) c.requires.done)

pub returns-in_default-clause-plans : goal.returns-in_default-clause-plans
returns-in_default-clause-plans g c = stays_unplanned c.args.route.now c.args.self.now c.requires.asks c.requires.unplanned

pub returns-in_default-accounts_of-clause-plans : goal.returns-in_default-accounts_of-clause-plans
returns-in_default-accounts_of-clause-plans g c =
    stays_unplanned c.args.route.now c.args.self.now c.requires.asks c.requires.unplanned

pub returns-clause-plans : goal.returns-clause-plans
returns-clause-plans g c =
    rw c.done_or_went.ensures (plans_now c.args.route.now _ c.all_done.result (record {
      planned = refl;
      later = c.in-Ok.ensures ∙ ap (λ legs. map begun (then_asked_by c.args.route.now c.self.inside.work (answers_of legs)))
          c.as_slice.ensures.value;
    }) (c.all_done.ensures.done ∙ ap all_done c.as_slice-4.ensures.value))
