use Rattle.std.proofs.Common.{◌≡◌, ◌++◌, None, Some, IfOk, sym, subst}
use Rattle.z_types.specs.declared.outcome.Outcome.{Outcome}
use Rattle.package.specs.steps.Ends.{first_mark}
use Rattle.package.proofs.MarkedLemmas.{finished_marked, finished_unmarked, first_unmarked}
use Rattle.package.proofs.package.Package.finish.Goals as goal

pub returns-in-Some : goal.returns-in-Some
returns-in-Some g c =
    let over = rw (← c.self.view_is) at c.requires.over in
    let first = c.self.inside.first.items in
    let later = c.self.inside.later.items in
    let found : first_mark (first ++ later) ≡ Some (c.in-Some.mark, c.in-Some.leg) =
    sym (rw (c.as_slice.ensures.value, c.as_slice-2.ensures.value) at c.in-Some.ensures) in
    record {
      outcome = rw (← c.self.view_is) (subst (λ (o : Outcome). IfOk c.marked.result (λ outcome. outcome ≡ o))
          (sym (finished_marked c.args.route.now c.self.inside.work first later c.in-Some.mark c.in-Some.leg over.first over.later found))
          c.marked.ensures);
    }

pub unmarked-outcome-requires-clause-unmarked : goal.unmarked-outcome-requires-clause-unmarked
unmarked-outcome-requires-clause-unmarked g c =
    let first = c.self.inside.first.items in
    let later = c.self.inside.later.items in
    let none : first_mark (first ++ later) ≡ None =
    sym (rw (c.as_slice.ensures.value, c.as_slice-2.ensures.value) at c.in-None.ensures) in
    first_unmarked c.args.route.now c.self.inside.work first later none

pub unmarked-outcome-requires-clause-first_done : goal.unmarked-outcome-requires-clause-first_done
unmarked-outcome-requires-clause-first_done g c = let over = rw (← c.self.view_is) at c.requires.over in over.first

pub unmarked-outcome-requires-clause-later_done : goal.unmarked-outcome-requires-clause-later_done
unmarked-outcome-requires-clause-later_done g c = let over = rw (← c.self.view_is) at c.requires.over in over.later

pub returns : goal.returns
returns g c =
    let first = c.self.inside.first.items in
    let later = c.self.inside.later.items in
    let none : first_mark (first ++ later) ≡ None =
    sym (rw (c.as_slice.ensures.value, c.as_slice-2.ensures.value) at c.in-None.ensures) in
    record {
      outcome = rw (← c.self.view_is) (subst (λ (o : Outcome). IfOk c.unmarked-outcome.result (λ outcome. outcome ≡ o))
          (sym (finished_unmarked c.args.route.now c.self.inside.work first later none)) c.unmarked-outcome.ensures);
    }
