use Rattle.std.proofs.Common.{◌≡◌, ◌++◌, length, take, drop, arith}
use Rattle.package.specs.steps.Packages.{asked_of}
use Rattle.package.proofs.CountLemmas.{same_length, written_back}
use Rattle.package.proofs.package.turn_all.Goals as goal

pub returns-clause-of : goal.returns-clause-of
returns-clause-of g c =
    let old = c.args.legs.now.items in
    let new = c.turn_each-round.new.legs in
    let back : take c.args.legs.now.len (new ++ drop (length new) old) ≡ new =
    written_back old new c.args.legs.now.len (omega arith) (same_length asked_of new old (rw c.as_mut_slice.ensures.value at c.turn_each-round.ensures.asked)) in
    rw back c.turn_each-round.ensures.of

pub returns-clause-asked : goal.returns-clause-asked
returns-clause-asked g c =
    let old = c.args.legs.now.items in
    let new = c.turn_each-round.new.legs in
    let back : take c.args.legs.now.len (new ++ drop (length new) old) ≡ new =
    written_back old new c.args.legs.now.len (omega arith) (same_length asked_of new old (rw c.as_mut_slice.ensures.value at c.turn_each-round.ensures.asked)) in
    rw back (rw c.as_mut_slice.ensures.value at c.turn_each-round.ensures.asked)

pub returns-clause-turned : goal.returns-clause-turned
returns-clause-turned g c =
    let old = c.args.legs.now.items in
    let new = c.turn_each-round.new.legs in
    let back : take c.args.legs.now.len (new ++ drop (length new) old) ≡ new =
    written_back old new c.args.legs.now.len (omega arith) (same_length asked_of new old (rw c.as_mut_slice.ensures.value at c.turn_each-round.ensures.asked)) in
    rw back (rw c.as_mut_slice.ensures.value at c.turn_each-round.ensures.turned)
