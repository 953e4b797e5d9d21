use Rattle.std.proofs.Common.{◌∙◌, ◌++◌, List, [], ◌∷◌, append_assoc, take, ap, sym}
use Rattle.leg.specs.declared.accounts.Account.{Account}
use Rattle.package.specs.steps.Packages.{accounts_of}
use Rattle.package.proofs.CountLemmas.{counted_more}
use Rattle.package.proofs.package.push_accounts.Goals as goal

pub loop-leg-preserved : goal.loop-leg-preserved
loop-leg-preserved g c =
    let legs = c.args.legs.now in
    let leg = c.leg-item.result in
    let before = c.args.accounts.now in
    c.in_ok-push.ensures.ok ∙ ap (λ (xs : List Account). xs ++ c.account.result ∷ []) c.loop-leg.invariant
    ∙ append_assoc before (accounts_of (take c.loop-leg.leg-index legs)) (c.account.result ∷ [])
    ∙ ap (λ (a : Account). before ++ (accounts_of (take c.loop-leg.leg-index legs) ++ a ∷ [])) c.account.ensures.account
    ∙ ap (λ (xs : List Account). before ++ xs)
    (sym (counted_more legs c.loop-leg.leg-index leg leg c.loop-leg-test.true (sym c.leg-item.is)))
