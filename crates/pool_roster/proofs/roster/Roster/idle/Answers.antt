use Rattle.std.proofs.Common.{◌<◌, ◌∙◌, sym, ap, subst, position, is_some, Some}
use Rattle.std.proofs.lemmas.List.{length-map}
use Rattle.pool_sets.specs.Sessions.{idle_in}
use Rattle.pool_core.proofs.First.{first_at}
use Rattle.pool_core.proofs.Chosen.{idle_number_at, no_idle_number}
use Rattle.pool_roster.specs.Told.{seen, told}
use Rattle.pool_roster.proofs.Lazy.{seen_number}
use Rattle.pool_roster.proofs.Counting.{told_idle}
use Rattle.pool_roster.proofs.Rosters.{told_at}
use Rattle.pool_roster.proofs.roster.Roster.idle.Goals as goal

pub returns-in_default : goal.returns-in_default
returns-in_default g c =
    let x = c.self.inside.expiries in
    let ttl = c.self.inside.set_ttl in
    let bs = c.self.inside.berths.items in
    rw (← c.self.view_is) (no_idle_number c.args.class c.args.at.now (told x ttl bs)
    (sym (c.in_default.ensures ∙ ap (position (λ b. is_some (idle_in c.args.class c.args.at.now b.session))) c.as_slice.ensures.value ∙ told_idle x ttl c.args.class c.args.at.now bs)))

pub returns : goal.returns
returns g c =
    let x = c.self.inside.expiries in
    let ttl = c.self.inside.set_ttl in
    let bs = c.self.inside.berths.items in
    let b = c.index.result.now in
    let at = sym (c.in-Some.ensures ∙ ap (position (λ b. is_some (idle_in c.args.class c.args.at.now b.session))) c.as_slice.ensures.value ∙ told_idle x ttl c.args.class c.args.at.now bs) in
    let within = subst (λ n. c.in-Some.place < n) (length-map bs (seen x ttl)) (first_at (idle_in c.args.class c.args.at.now) (told x ttl bs) c.in-Some.place at).within in
    rw (← c.self.view_is) (ap Some (sym (seen_number x ttl b)) ∙ idle_number_at c.args.class c.args.at.now (told x ttl bs) c.in-Some.place (seen x ttl b) at (sym (told_at x ttl c.in-Some.place bs b (seen x ttl b) within c.index.ensures)))
