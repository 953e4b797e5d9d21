use Rattle.std.proofs.Common.{◌∙◌, map, ap, sym, refl, subst}
use Rattle.package_rules.specs.Said.{all_hits, cause_of}
use Rattle.package.specs.steps.Kinds.{IsSearch}
use Rattle.package.specs.steps.Packages.{answers_of, begun}
use Rattle.package.proofs.ThenLemmas.{nothing_then}
use Rattle.package.proofs.asking.then_legs.Goals as goal

pub search_legs-requires-clause-kind : goal.search_legs-requires-clause-kind
search_legs-requires-clause-kind g c = subst IsSearch (sym c.in-Search.is) tt

pub returns-in-Fetch : goal.returns-in-Fetch
returns-in-Fetch g c =
    let said = answers_of c.args.first.now in
    c.new.ensures.items ∙ ap (map begun) (sym (nothing_then c.args.route.now c.args.work.now (cause_of c.args.route.now said).mark
    (all_hits c.args.route.now said) (λ found. rw c.in-Fetch.is refl)))

pub returns-in-Scan : goal.returns-in-Scan
returns-in-Scan g c =
    let said = answers_of c.args.first.now in
    c.new-in-Scan.ensures.items ∙ ap (map begun) (sym (nothing_then c.args.route.now c.args.work.now (cause_of c.args.route.now said).mark
    (all_hits c.args.route.now said) (λ found. rw c.in-Scan.is refl)))
