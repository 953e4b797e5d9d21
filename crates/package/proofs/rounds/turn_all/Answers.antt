use Rattle.std.proofs.Common.{◌≡◌, ◌∙◌, arith}
use Rattle.package.specs.steps.Packages.{asked_of}
use Rattle.package.proofs.SliceLemmas.{same_length, written_back}
use Rattle.package.proofs.rounds.turn_all.Goals as goal

pub returns-clause-of : goal.returns-clause-of
returns-clause-of g c =
    let old = c.into_vec-turned.result.items in
    let new = c.turn_each-round.new.legs in
    let whole : c.from_vec.result ≡ new =
    c.from_vec.ensures ∙ written_back old new c.into_vec-turned.result.len (omega arith)
    (same_length asked_of new old (rw c.as_mut_slice.ensures.value at c.turn_each-round.ensures.asked)) in
    rw whole c.turn_each-round.ensures.of

pub returns-clause-asked : goal.returns-clause-asked
returns-clause-asked g c =
    let old = c.into_vec-turned.result.items in
    let new = c.turn_each-round.new.legs in
    let is : old ≡ c.args.legs.now = c.into_vec-turned.ensures ∙ c.replace.ensures.value in
    let whole : c.from_vec.result ≡ new =
    c.from_vec.ensures ∙ written_back old new c.into_vec-turned.result.len (omega arith)
    (same_length asked_of new old (rw c.as_mut_slice.ensures.value at c.turn_each-round.ensures.asked)) in
    rw whole (rw is at rw c.as_mut_slice.ensures.value at c.turn_each-round.ensures.asked)

pub returns-clause-turned : goal.returns-clause-turned
returns-clause-turned g c =
    let old = c.into_vec-turned.result.items in
    let new = c.turn_each-round.new.legs in
    let is : old ≡ c.args.legs.now = c.into_vec-turned.ensures ∙ c.replace.ensures.value in
    let whole : c.from_vec.result ≡ new =
    c.from_vec.ensures ∙ written_back old new c.into_vec-turned.result.len (omega arith)
    (same_length asked_of new old (rw c.as_mut_slice.ensures.value at c.turn_each-round.ensures.asked)) in
    rw whole (rw is at rw c.as_mut_slice.ensures.value at c.turn_each-round.ensures.turned)
