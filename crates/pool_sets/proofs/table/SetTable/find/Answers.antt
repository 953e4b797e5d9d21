use Rattle.std.proofs.Common.{arith, ◌∙◌, ap, option_map}
use Rattle.pool_sets.specs.Table.{Entry, set_of}
use Rattle.pool_sets.specs.TableView.{table_of}
use Rattle.pool_sets.proofs.TableLemmas.{slot_finds, pair_of, not_one, used_is_found}
use Rattle.pool_sets.proofs.OrderLemmas.{falls_later}
use Rattle.pool_sets.proofs.table.SetTable.find.Goals as goal

pub returns-in_err-hits-clause-found : goal.returns-in_err-hits-clause-found
returns-in_err-hits-clause-found c =
    let at = slot_finds c.args.key.now c.self.inside.sets c.max-self-inside.result c.in_ok-slot.slot c.len.ensures.valid.0 c.in_ok-slot.ensures in
    not_one c.in_ok-slot.slot _ c.in_ok-slot.ensures (c.in_err-hits.ensures.hits ∙ ap (option_map (λ (e : Entry). e.hits)) at)

pub returns-in_err-hits-clause-after : goal.returns-in_err-hits-clause-after
returns-in_err-hits-clause-after c =
    let at = slot_finds c.args.key.now c.self.inside.sets c.max-self-inside.result c.in_ok-slot.slot c.len.ensures.valid.0 c.in_ok-slot.ensures in
    not_one c.in_ok-slot.slot _ c.in_ok-slot.ensures (c.in_err-hits.ensures.hits ∙ ap (option_map (λ (e : Entry). e.hits)) at)

pub returns-clause-found : goal.returns-clause-found
returns-clause-found c =
    let sets = c.self.inside.sets in
    let at = slot_finds c.args.key.now sets c.max-self-inside.result c.in_ok-slot.slot c.len.ensures.valid.0 c.in_ok-slot.ensures in
    rw (← c.self.view_is) (pair_of c.in_ok-slot.slot c.in_ok-hits.hits (set_of c.args.key.now (table_of sets c.max-self-inside.result)) c.in_ok-slot.ensures (c.in_ok-hits.ensures.hits ∙ ap (option_map (λ (e : Entry). e.hits)) at))

pub returns-clause-after : goal.returns-clause-after
returns-clause-after c =
    let sets = c.self.inside.sets in
    let at = slot_finds c.args.key.now sets c.max-self-inside.result c.in_ok-slot.slot c.len.ensures.valid.0 c.in_ok-slot.ensures in
    rw (← c.self.view_is) (c.in_ok-hits.ensures.after ∙ used_is_found c.args.key.now sets c.self.inside.latest c.args.now c.max-self-inside.result c.in_ok-slot.slot c.max-self-inside.ensures at)

pub invariant_of-self-2 : goal.invariant_of-self-2
invariant_of-self-2 c = record {
  some = c.self.invariant.some;
  few = c.self.invariant.few;
  slots = c.self.invariant.slots;
  order = falls_later c.self.inside.latest c.max-self-inside.result c.self.inside.sets.entries (omega arith) c.self.invariant.order;
}
