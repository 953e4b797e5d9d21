use Rattle.std.proofs.Common.{refl}
use Rattle.test_wire.proofs.WireLemmas.{hands, hands_none, sends, sends_none, as_many, send_counts, none_counts, send_takes, takes_none}
use Rattle.test_wire.specs.Steady.{counts_in, happened_in_all}
use Rattle.test_wire.proofs.steady.SteadyWireWireTestWorld.send.Goals as goal

pub returns-in-Ok-Some-clause-peer : goal.returns-in-Ok-Some-clause-peer
returns-in-Ok-Some-clause-peer c =
    let only = rw c.in-Ok-Some.field-0-is at c.in-Ok-Some.ensures.only in
    hands _ _ (happened_in_all c.args.self.now) _ _ _ c.hand.result only c.hand.ensures.peer

pub returns-in-Ok-Some-clause-steady : goal.returns-in-Ok-Some-clause-steady
returns-in-Ok-Some-clause-steady c =
    let only = rw c.in-Ok-Some.field-0-is at c.in-Ok-Some.ensures.only in
    sends _ _ _ _ _ _ _ c.hand.result _ _ _ _ _ only c.hand.ensures.sent c.hand.ensures.happened c.hand.ensures.less c.hand.ensures.number
    c.hand.ensures.taken refl refl refl

pub returns-in-Ok-Some-clause-counts : goal.returns-in-Ok-Some-clause-counts
returns-in-Ok-Some-clause-counts c =
    let only = rw c.in-Ok-Some.field-0-is at c.in-Ok-Some.ensures.only in
    send_counts c.args.unit.now _ c.hand.result (counts_in c.args.self.now) (counts_in c.hand.new.self) only c.hand.ensures.sent c.hand.ensures.counts

pub returns-in-Ok-Some-clause-taken : goal.returns-in-Ok-Some-clause-taken
returns-in-Ok-Some-clause-taken c =
    let only = rw c.in-Ok-Some.field-0-is at c.in-Ok-Some.ensures.only in
    send_takes _ _ _ _ _ _ _ c.hand.result only c.hand.ensures.sent c.hand.ensures.taken

pub returns-in-Ok-None-clause-peer : goal.returns-in-Ok-None-clause-peer
returns-in-Ok-None-clause-peer c =
    let only = rw c.in-Ok-None.field-0-is at c.in-Ok-None.ensures.only in
    hands_none _ _ (happened_in_all c.args.self.now) _ only

pub returns-in-Ok-None-clause-steady : goal.returns-in-Ok-None-clause-steady
returns-in-Ok-None-clause-steady c =
    let only = rw c.in-Ok-None.field-0-is at c.in-Ok-None.ensures.only in
    sends_none _ _ _ _ _ _ only (as_many (happened_in_all c.args.self.now)) refl

pub returns-in-Ok-None-clause-counts : goal.returns-in-Ok-None-clause-counts
returns-in-Ok-None-clause-counts c =
    let only = rw c.in-Ok-None.field-0-is at c.in-Ok-None.ensures.only in
    none_counts _ _ only

pub returns-in-Ok-None-clause-taken : goal.returns-in-Ok-None-clause-taken
returns-in-Ok-None-clause-taken c =
    let only = rw c.in-Ok-None.field-0-is at c.in-Ok-None.ensures.only in
    takes_none _ _ _ _ _ _ only
