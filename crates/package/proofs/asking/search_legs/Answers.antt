use Rattle.std.proofs.Common.{◌∙◌, map, is_some, ap, sym}
use Rattle.package_rules.specs.Planned.{by_hits, unless_marked}
use Rattle.package_rules.specs.Said.{all_hits, cause_of}
use Rattle.package.specs.steps.Packages.{answers_of, begun}
use Rattle.package.proofs.MarkedLemmas.{hits_each, marked_then, unmarked_is}
use Rattle.package.proofs.ThenLemmas.{refused_then}
use Rattle.package.proofs.asking.search_legs.Goals as goal

pub returns-then-is_some : goal.returns-then-is_some
returns-then-is_some g c =
    c.new.ensures.items
    ∙ ap (map begun) (sym (marked_then c.args.route.now c.args.first.now
    (by_hits c.args.route.now c.args.work.now (all_hits c.args.route.now (answers_of c.args.first.now))) c.requires.done
    (ap is_some (sym c.first_mark.ensures) ∙ sym c.if-is_some.ensures)))

pub shown_legs-requires-clause-each : goal.shown_legs-requires-clause-each
shown_legs-requires-clause-each g c =
    hits_each c.args.route.now c.args.work.now c.args.first.now c.in-Good.hits c.requires.kind c.requires.done c.requires.asked
    c.in-Good.ensures

pub returns-in-Good : goal.returns-in-Good
returns-in-Good g c =
    let unmarked = unmarked_is c.args.route.now c.args.first.now (ap is_some (sym c.first_mark.ensures) ∙ sym c.if-is_some.ensures) in
    rw (unmarked, c.in-Good.ensures) c.shown_legs.ensures

pub returns-in-Refused : goal.returns-in-Refused
returns-in-Refused g c =
    c.new-in-Refused.ensures.items ∙ ap (map begun) (sym (ap (λ hits. unless_marked (cause_of c.args.route.now
    (answers_of c.args.first.now)).mark (by_hits c.args.route.now c.args.work.now hits)) c.in-Refused.ensures
    ∙ refused_then c.args.route.now c.args.work.now (cause_of c.args.route.now (answers_of c.args.first.now)).mark c.in-Refused._diag))
