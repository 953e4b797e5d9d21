use Rattle.std.proofs.Common.{rules, ◌≡◌, sym, ap, option_map, ℕ, Some, None, find}
use borrow.Author.Tests.{tests}
use Rattle.std.proofs.lemmas.Iterator.Search.{find_from_yields_List}
use Rattle.std.proofs.lemmas.Iterator.Consumers.{YieldsList-from_rest}
use Rattle.pool_sets.specs.declared.table.HeldSet.{HeldSet}
use Rattle.pool_sets.specs.Table.{Entry, set_of, same_key}
use Rattle.pool_sets.specs.TableView.{entry_of, table_of}
use Rattle.pool_sets.proofs.TableLemmas.{held_in}
use Rattle.pool_sets.proofs.table.SetTable.holds.Goals as goal

pub returns-in_err-slot : goal.returns-in_err-slot
returns-in_err-slot c =
    let key = c.args.key.now in
    let sets = c.self.inside.sets in
    let found = find_from_yields_List (λ (p : ℕ × HeldSet). same_key p.1.key key) _ _ c.find.result c.find.ensures.ran (YieldsList-from_rest sets.entries c.iter.ensures.rest) (λ x b q k. search (rules, tests)) in
    let none : None ≡ find (λ (p : ℕ × HeldSet). same_key p.1.key key) sets.entries = rw c.in_err-slot.was at found in
    let held_none : set_of key (table_of sets c.self.inside.latest) ≡ None = held_in key sets c.self.inside.latest None none in
    rw (← c.self.view_is, c.from_residual.ensures) (ap (option_map (λ (e : Entry). e.slot)) (sym held_none))

pub returns : goal.returns
returns c =
    let key = c.args.key.now in
    let sets = c.self.inside.sets in
    let found = find_from_yields_List (λ (p : ℕ × HeldSet). same_key p.1.key key) _ _ c.find.result c.find.ensures.ran (YieldsList-from_rest sets.entries c.iter.ensures.rest) (λ x b q k. search (rules, tests)) in
    let pair : ℕ × HeldSet = (c.in_ok-slot.slot.now, c.in_ok-slot.field-0-1.now) in
    let some : Some pair ≡ find (λ (p : ℕ × HeldSet). same_key p.1.key key) sets.entries = rw c.in_ok-slot.was at found in
    let held_some : set_of key (table_of sets c.self.inside.latest) ≡ Some (entry_of pair) = held_in key sets c.self.inside.latest (Some pair) some in
    rw (← c.self.view_is) (ap (option_map (λ (e : Entry). e.slot)) (sym held_some))
