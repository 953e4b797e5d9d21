use Rattle.std.specs.Prelude.{option_copied}
use Rattle.std.proofs.Common.{◌≡◌, ◌≢◌, ◌∙◌, sym, subst, refl, set, All, true, false}
use Rattle.std.specs.List.{AllZip}
use Rattle.std.proofs.lemmas.List.{get_or-set_same}
use Rattle.pool_roster.specs.RosterView.{Rises, IsPlace, is_holder, MaySettle}
use Rattle.pool_roster.proofs.Settling.{may_refl, may_set, rises}
use Rattle.pool_roster.proofs.Seeking.{no_number, one_number}
use Rattle.pool_roster.proofs.Rosters.{holder_at}
use Rattle.pool_roster.proofs.seek.holder_of.Goals as goal

pub place_of-requires : goal.place_of-requires
place_of-requires g c = record { order = subst Rises (sym c.as_slice.ensures.value) (rises c.args.expiries c.args.ttl c.args.berths.now.items c.requires.order) }

pub returns-in_default-clause-none : goal.returns-in_default-clause-none
returns-in_default-clause-none g c =
    λ e. no_number c.args.expiries c.args.ttl c.args.number c.args.class c.args.at.now (option_copied c.args.login) c.args.key.now c.args.berths.now.items
    (subst (All (λ b. b.session.number ≢ c.args.number)) c.as_slice.ensures.value (c.in_default.ensures.none refl))

pub returns-in_default-clause-berths : goal.returns-in_default-clause-berths
returns-in_default-clause-berths g c = may_refl c.args.expiries c.args.ttl c.args.berths.now.items

pub returns-then-holds_in-clause-some : goal.returns-then-holds_in-clause-some
returns-then-holds_in-clause-some g c =
    let bs = c.args.berths.now.items in
    let is = subst (λ ys. IsPlace c.args.number ys c.in-Some.place) c.as_slice.ensures.value c.in-Some.ensures.some in
    let now = c.index.ensures ∙ get_or-set_same bs c.in-Some.place c.settle.new.berth c.index.result.now is.within in
    holder_at c.args.expiries c.args.ttl c.args.number c.args.class c.args.at.now (option_copied c.args.login) c.args.key.now bs c.in-Some.place c.index_mut.result.now c.settle.new.berth is c.index_mut.ensures.value c.settle.ensures
    (subst (λ y. is_holder c.args.class c.args.at.now (option_copied c.args.login) c.args.key.now y.session ≡ true) now (sym c.if-holds_in.ensures))

pub returns-then-holds_in-clause-berths : goal.returns-then-holds_in-clause-berths
returns-then-holds_in-clause-berths g c =
    let bs = c.args.berths.now.items in
    let is = subst (λ ys. IsPlace c.args.number ys c.in-Some.place) c.as_slice.ensures.value c.in-Some.ensures.some in
    subst (λ y. AllZip (MaySettle c.args.expiries c.args.ttl) bs (set bs c.in-Some.place y)) (sym c.settle.ensures) (may_set c.args.expiries c.args.ttl bs c.in-Some.place c.index_mut.result.now is.within c.index_mut.ensures.value)

pub returns-else-holds_in-clause-none : goal.returns-else-holds_in-clause-none
returns-else-holds_in-clause-none g c =
    let bs = c.args.berths.now.items in
    let is = subst (λ ys. IsPlace c.args.number ys c.in-Some.place) c.as_slice.ensures.value c.in-Some.ensures.some in
    let now = c.index.ensures ∙ get_or-set_same bs c.in-Some.place c.settle.new.berth c.index.result.now is.within in
    λ e. one_number c.args.expiries c.args.ttl c.args.number c.args.class c.args.at.now (option_copied c.args.login) c.args.key.now bs c.in-Some.place c.index_mut.result.now (rises c.args.expiries c.args.ttl bs c.requires.order) is c.index_mut.ensures.value
    (subst (λ y. is_holder c.args.class c.args.at.now (option_copied c.args.login) c.args.key.now y.session ≡ false) (now ∙ c.settle.ensures) (sym c.if-holds_in.ensures))

pub returns-else-holds_in-clause-berths : goal.returns-else-holds_in-clause-berths
returns-else-holds_in-clause-berths g c =
    let bs = c.args.berths.now.items in
    let is = subst (λ ys. IsPlace c.args.number ys c.in-Some.place) c.as_slice.ensures.value c.in-Some.ensures.some in
    subst (λ y. AllZip (MaySettle c.args.expiries c.args.ttl) bs (set bs c.in-Some.place y)) (sym c.settle.ensures) (may_set c.args.expiries c.args.ttl bs c.in-Some.place c.index_mut.result.now is.within c.index_mut.ensures.value)
