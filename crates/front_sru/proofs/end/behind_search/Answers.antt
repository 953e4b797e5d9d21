use Rattle.std.proofs.Common.{◌≡◌, subst}
use Rattle.std.specs.Prelude.{IfOk}
use Rattle.route_config.specs.declared.route.Route.{Route}
use Rattle.sru_rules.specs.Settling.{after_hits}
use Rattle.front_sru.specs.Followed.{next_in}
use Rattle.front_sru.specs.Kept.{IsCameOf}
use Rattle.front_sru.proofs.Ending.{good_is_ready}
use Rattle.front_sru.proofs.end.behind_search.Goals as goal

pub returns-clause-ready : goal.returns-clause-ready
returns-clause-ready c =
    good_is_ready c.args.route.now c.args.retrieval.now c.args.outcome c.in-Good.hits c.in-Good.field-1 c.behind_hits.result
    c.parts.ensures.sound c.requires.kept c.requires.fits
    (subst (IsCameOf c.args.outcome) c.in-Good.is c.in_ok-diag.ensures)
    (subst
    (λ (route : Route). IfOk c.behind_hits.result
    (λ followed. next_in followed ≡ after_hits route.schemas c.args.retrieval.now c.in-Good.hits))
    c.parts.ensures.same c.behind_hits.ensures)
