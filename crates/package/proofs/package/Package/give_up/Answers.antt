use Rattle.std.proofs.Common.{◌≡◌, ◌∙◌, ◌++◌, List, length, map, take, drop, sym, ap, arith}
use Rattle.std.proofs.lemmas.List.{length-map, map-append}
use Rattle.leg.specs.LegView.{LegView}
use Rattle.package.specs.steps.Ends.{gave_all_up, gave_up}
use Rattle.package.specs.steps.Packages.{accounts_of}
use Rattle.package.proofs.CountLemmas.{written_back}
use Rattle.package.proofs.GivenLemmas.{accounts_stay, seats_parts}
use Rattle.package.proofs.package.Package.give_up.Goals as goal

pub invariant_of-self : goal.invariant_of-self
invariant_of-self g c =
    let first = c.self.inside.first.items in
    let later = c.self.inside.later.items in
    let one : c.give_up_each.new.legs ≡ map gave_up first = rw c.as_mut_slice.ensures.value at c.give_up_each.ensures.legs in
    let other : c.give_up_each-2.new.legs ≡ map gave_up later = rw c.as_mut_slice-2.ensures.value at c.give_up_each-2.ensures.legs in
    let front : take c.self.inside.first.len (c.give_up_each.new.legs ++ drop (length c.give_up_each.new.legs) first) ≡ map gave_up first =
    written_back first c.give_up_each.new.legs c.self.inside.first.len (omega arith)
    (ap (λ (ls : List (LegView g.row.S.Denot)). length ls) one ∙ length-map first gave_up) ∙ one in
    let back : take c.self.inside.later.len (c.give_up_each-2.new.legs ++ drop (length c.give_up_each-2.new.legs) later) ≡ map gave_up later =
    written_back later c.give_up_each-2.new.legs c.self.inside.later.len (omega arith)
    (ap (λ (ls : List (LegView g.row.S.Denot)). length ls) other ∙ length-map later gave_up) ∙ other in
    rw (front, back) (c.self.invariant ∙ sym (ap accounts_of (sym (map-append gave_up first later)) ∙ accounts_stay (first ++ later)))

pub returns-clause-legs : goal.returns-clause-legs
returns-clause-legs g c =
    let first = c.self.inside.first.items in
    let later = c.self.inside.later.items in
    let one : c.give_up_each.new.legs ≡ map gave_up first = rw c.as_mut_slice.ensures.value at c.give_up_each.ensures.legs in
    let other : c.give_up_each-2.new.legs ≡ map gave_up later = rw c.as_mut_slice-2.ensures.value at c.give_up_each-2.ensures.legs in
    let front : take c.self.inside.first.len (c.give_up_each.new.legs ++ drop (length c.give_up_each.new.legs) first) ≡ map gave_up first =
    written_back first c.give_up_each.new.legs c.self.inside.first.len (omega arith)
    (ap (λ (ls : List (LegView g.row.S.Denot)). length ls) one ∙ length-map first gave_up) ∙ one in
    let back : take c.self.inside.later.len (c.give_up_each-2.new.legs ++ drop (length c.give_up_each-2.new.legs) later) ≡ map gave_up later =
    written_back later c.give_up_each-2.new.legs c.self.inside.later.len (omega arith)
    (ap (λ (ls : List (LegView g.row.S.Denot)). length ls) other ∙ length-map later gave_up) ∙ other in
    (λ i. record { work = c.self.inside.work; first = front i; later = back i; planned = c.self.inside.planned })
    ∙ ap gave_all_up c.self.view_is

pub returns-clause-pool : goal.returns-clause-pool
returns-clause-pool g c =
    let old = g.D.Door.pool c.args.door.now in
    let one = rw c.as_mut_slice.ensures.value at c.give_up_each.ensures.pool in
    let other = rw c.as_mut_slice-2.ensures.value at c.give_up_each-2.ensures.pool in
    rw (← c.self.view_is) (seats_parts c.self.inside.first.items c.self.inside.later.items old (g.D.Door.pool c.give_up_each.new.door)
    (g.D.Door.pool c.give_up_each-2.new.door) one other)

pub returns-clause-counts : goal.returns-clause-counts
returns-clause-counts g c = c.give_up_each-2.ensures.counts ∙ c.give_up_each.ensures.counts
