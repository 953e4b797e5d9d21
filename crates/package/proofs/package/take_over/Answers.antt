use Rattle.std.proofs.Common.{◌≡◌, ◌∙◌, ◌<◌, ◌+◌, ◌++◌, ℕ, List, length, take, ap, sym, refl, arith}
use Rattle.std.proofs.Math.Seq.{take-length}
use Rattle.std.proofs.lemmas.List.{append-nil, length-set}
use Rattle.leg.specs.LegView.{LegView}
use Rattle.leg.specs.declared.accounts.Account.{Account}
use Rattle.package.specs.steps.Packages.{accounts_of}
use Rattle.package.proofs.CountLemmas.{over_more}
use Rattle.package.proofs.package.take_over.Goals as goal

pub loop-place-init : goal.loop-place-init
loop-place-init g c =
    let all = c.into_vec-all.result.items in
    let none : c.args.others + 0 ≡ c.args.others = omega arith in
    (refl, ap (λ (n : ℕ). take n all) none ∙ sym (append-nil (take c.args.others all)))

pub loop-place-preserved : goal.loop-place-preserved
loop-place-preserved g c =
    let all = c.loop-place.all.items in
    let inside : c.args.others + c.loop-place.place < length all =
    omega (
      arith,
      c.loop-place.invariant.0,
      c.requires,
      ap (λ (xs : List Account). length xs) (c.into_vec-all.ensures ∙ c.replace.ensures.value),
      c.loop-place-test.true,
    ) in (
      length-set all (c.args.others + c.loop-place.place) c.account.result ∙ c.loop-place.invariant.0,
      over_more c.args.others c.loop-place.place all c.into_vec-all.result.items c.args.legs.now c.index-legs-place.result
          c.index-legs-place.result c.account.result inside c.loop-place-test.true (sym c.index-legs-place.is) c.account.ensures.account c.loop-place.invariant.1,
    )

pub returns : goal.returns
returns g c =
    let all = c.loop-place.all.items in
    let legs = c.args.legs.now in
    let before : c.into_vec-all.result.items ≡ c.args.accounts.now = c.into_vec-all.ensures ∙ c.replace.ensures.value in
    let end : c.loop-place.place ≡ length legs = omega (arith, c.loop-place-test.false, c.loop-place.auto.place-end) in
    let whole : c.args.others + c.loop-place.place ≡ length all =
    omega (arith, end, c.loop-place.invariant.0, c.requires, ap (λ (xs : List Account). length xs) before) in
    c.from_vec.ensures ∙ sym (ap (λ (n : ℕ). take n all) whole ∙ take-length all) ∙ c.loop-place.invariant.1
    ∙ ap (λ (xs : List Account). take c.args.others xs ++ accounts_of (take c.loop-place.place legs)) before
    ∙ ap (λ (xs : List (LegView g.row.S.Denot)). take c.args.others c.args.accounts.now ++ accounts_of xs)
    (ap (λ (n : ℕ). take n legs) end ∙ take-length legs)
