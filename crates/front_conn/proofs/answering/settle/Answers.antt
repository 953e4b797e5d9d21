use Rattle.std.proofs.Common.{subst, sym}
use Rattle.std.specs.Prelude.{IfSome}
use Rattle.z_types.specs.declared.outcome.Outcome.{Outcome}
use Rattle.front_z.specs.gateway_rules.Works.{FitsWork}
use Rattle.front_conn.proofs.AnsweringLemmas.{ended-back, ended-listed}
use Rattle.front_conn.proofs.answering.settle.Goals as goal

pub end_unit-requires-clause-fits : goal.end_unit-requires-clause-fits
end_unit-requires-clause-fits g c =
    subst (λ (o : Outcome). IfSome c.args.session.now.waiting (λ waiting. FitsWork waiting.work o)) (sym c.in_ok-outcome.ensures.outcome)
    c.requires.fits

pub returns-clause-ended : goal.returns-clause-ended
returns-clause-ended g c =
    ended-listed c.list_mark.result _ _ _ _ _ c.in_ok-outcome.outcome c.in_ok-outcome.ensures.outcome c.in_ok-end_unit.ensures.ended
    c.list_mark.ensures.out_ok

pub returns-clause-out_err : goal.returns-clause-out_err
returns-clause-out_err g c =
    ended-back c.list_mark.result _ _ _ _ _ c.in_ok-outcome.outcome c.requires.waits c.in_ok-end_unit.ensures.ended c.len-written.ensures
    c.list_mark.ensures.out_err
