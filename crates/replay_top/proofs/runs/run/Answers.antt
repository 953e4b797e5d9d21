use Rattle.std.proofs.lemmas.Result.{IfOk-weaker}
use Rattle.replay_top.proofs.runs.run.Goals as goal

pub returns-clause-report : goal.returns-clause-report
returns-clause-report g c = IfOk-weaker c.play.result _ _ (λ report played. played.right) c.play.ensures.played

pub returns-clause-counted : goal.returns-clause-counted
returns-clause-counted g c = IfOk-weaker c.play.result _ _ (λ report played. played.counted) c.play.ensures.played

pub returns-clause-full_paid : goal.returns-clause-full_paid
returns-clause-full_paid g c = IfOk-weaker c.play.result _ _ (λ report played. played.full_paid) c.play.ensures.played

pub returns-clause-untroubled : goal.returns-clause-untroubled
returns-clause-untroubled g c = IfOk-weaker c.play.result _ _ (λ report played. played.untroubled) c.play.ensures.played

pub returns-clause-through : goal.returns-clause-through
returns-clause-through g c = IfOk-weaker c.play.result _ _ (λ report played. played.through) c.play.ensures.played

pub returns-clause-borne : goal.returns-clause-borne
returns-clause-borne g c = IfOk-weaker c.play.result _ _ (λ report played. played.borne) c.play.ensures.played

pub returns-clause-shared : goal.returns-clause-shared
returns-clause-shared g c = IfOk-weaker c.play.result _ _ (λ report played. played.shared) c.play.ensures.played
