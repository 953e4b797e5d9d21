use Rattle.std.proofs.Common.{rules, not, ap, ◌∙◌, ◌≡◌}
use Rattle.std.specs.Str.{str_to_ascii_lowercase}
use Rattle.virt_db.proofs.SeenLemmas.{is_named_among-key, HasNames-push}
use Rattle.virt_db.proofs.legs.see.Goals as goal

pub returns-clause-new : goal.returns-clause-new
returns-clause-new c = λ names h.
    let name = c.args.name.now in
    let lower : c.in_ok-lower.lower.items ≡ str_to_ascii_lowercase name = search rules in
    let e = is_named_among-key c.args.seen.now c.in_ok-lower.lower name names lower h in
    c.in_ok-insert.ensures.added ∙ ap not e

pub returns-clause-seen : goal.returns-clause-seen
returns-clause-seen c = λ names h.
    let name = c.args.name.now in
    let lower : c.in_ok-lower.lower.items ≡ str_to_ascii_lowercase name = search rules in
    HasNames-push c.args.seen.now c.insert.new.self c.in_ok-lower.lower name names lower c.in_ok-insert.ensures.updates h
