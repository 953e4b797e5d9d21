use Rattle.std.proofs.Common.{◌≢◌, ◌==◌, ◌∙◌, refl, sym, subst, get_or, All}
use Rattle.std.proofs.lemmas.Bool.{eqb-true, eq-eqb, false_from_ne_true}
use Rattle.pool_roster.specs.RosterView.{Rises, IsPlace}
use Rattle.pool_roster.proofs.Seeking.{one_place}
use Rattle.pool_roster.proofs.Dropping.{none_dropped, one_dropped}
use Rattle.pool_roster.proofs.berths.drop_number.Goals as goal

pub place_of-requires : goal.place_of-requires
place_of-requires g c = record { order = subst Rises (sym c.as_slice.ensures.value) c.requires.order }

pub returns-in-Some : goal.returns-in-Some
returns-in-Some g c =
    let bs = c.args.berths.now.items in
    let i = c.in-Some.place in
    let is = subst (λ ys. IsPlace c.args.number ys i) c.as_slice.ensures.value c.in-Some.ensures.some in
    c.remove.ensures.items ∙ sym (one_dropped (λ b. b.session.number == c.args.number) bs i is.within (λ d. eq-eqb (get_or bs i d).session.number c.args.number (is.number_there d))
    (λ k d w t. one_place c.args.number bs i c.requires.order is k d w (eqb-true (get_or bs k d).session.number c.args.number t)))

pub returns-in_default : goal.returns-in_default
returns-in_default g c =
    let bs = c.args.berths.now.items in
    let none = subst (All (λ b. b.session.number ≢ c.args.number)) c.as_slice.ensures.value (c.in_default.ensures.none refl) in
    sym (none_dropped (λ b. b.session.number == c.args.number) bs
    (λ k d w. false_from_ne_true ((get_or bs k d).session.number == c.args.number) (λ t. none k d w (eqb-true (get_or bs k d).session.number c.args.number t))))
