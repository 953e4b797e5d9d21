use Rattle.std.proofs.Common.{◌≢◌, ◌<◌, ◌∙◌, refl, sym, ap, subst, get_or, All}
use Rattle.std.proofs.lemmas.List.{length-map, get_or_default}
use Rattle.std.proofs.lemmas.List.Elements.{All-map, All-weaker}
use Rattle.pool_roster.specs.Told.{seen, told}
use Rattle.pool_roster.specs.RosterView.{Rises, IsPlace}
use Rattle.pool_roster.proofs.Given.{some_item}
use Rattle.pool_roster.proofs.Lazy.{seen_number}
use Rattle.pool_roster.proofs.Settling.{rises}
use Rattle.pool_roster.proofs.Rosters.{rise_in, told_at}
use Rattle.pool_roster.proofs.roster.Roster.place.Goals as goal

pub place_of-requires : goal.place_of-requires
place_of-requires g c =
    let x = c.self.inside.expiries in
    let ttl = c.self.inside.set_ttl in
    let bs = c.self.inside.berths.items in
    record { order = subst Rises (sym c.as_slice.ensures.value) (rises x ttl bs (rise_in (told x ttl bs) c.self.invariant.ascends)) }

pub returns-clause-some : goal.returns-clause-some
returns-clause-some g c =
    let x = c.self.inside.expiries in
    let ttl = c.self.inside.set_ttl in
    let bs = c.self.inside.berths.items in
    let is = subst (λ ys. IsPlace c.args.number ys c.in-Some.place) c.as_slice.ensures.value c.in-Some.ensures.some in
    let first = some_item bs c.in-Some.place is.within in
    let b = get_or bs c.in-Some.place first in
    rw (← c.self.view_is) (record {
      within = subst (λ n. c.in-Some.place < n) (sym (length-map bs (seen x ttl))) is.within;
      number_there = λ d. ap (λ o. o.number) (told_at x ttl c.in-Some.place bs b d is.within (get_or_default bs c.in-Some.place first b is.within)) ∙ seen_number x ttl b ∙ is.number_there first;
    })

pub returns-in_default-clause-none : goal.returns-in_default-clause-none
returns-in_default-clause-none g c =
    let x = c.self.inside.expiries in
    let ttl = c.self.inside.set_ttl in
    let bs = c.self.inside.berths.items in
    let none = subst (All (λ b. b.session.number ≢ c.args.number)) c.as_slice.ensures.value (c.in_default.ensures.none refl) in
    rw (← c.self.view_is) (λ e. All-map (λ o. o.number ≢ c.args.number) (seen x ttl) bs (All-weaker (λ b. b.session.number ≢ c.args.number) (λ b. (seen x ttl b).number ≢ c.args.number) (λ b other same. other (sym (seen_number x ttl b) ∙ same)) bs none))
