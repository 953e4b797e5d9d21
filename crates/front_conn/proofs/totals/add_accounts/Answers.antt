use Rattle.std.proofs.Common.{◌∙◌, ap, arith, take}
use Rattle.std.proofs.Math.Seq.{take-length}
use Rattle.front_conn.specs.steps.Totals.{totals_after}
use Rattle.front_conn.proofs.TotalLemmas.{after-next}
use Rattle.front_conn.proofs.totals.add_accounts.Goals as goal

pub loop-account-preserved : goal.loop-account-preserved
loop-account-preserved c =
    c.add_account.ensures ∙ after-next _ _ _ _ _ c.loop-account.invariant c.loop-account-test.true

pub returns : goal.returns
returns c =
    let accounts = c.as_slice-account-items.result.now in
    let all = ap (λ n. take n accounts) (omega (arith, c.loop-account-test.false, c.loop-account.auto.account-index-end)) ∙ take-length accounts in
    c.from_vec.ensures ∙ c.loop-account.invariant ∙ ap (totals_after c.into_vec-sums.result.items) (all ∙ c.as_slice-account-items.ensures)
    ∙ ap (λ t. totals_after t c.args.accounts.now) (c.into_vec-sums.ensures ∙ c.replace.ensures.value)
