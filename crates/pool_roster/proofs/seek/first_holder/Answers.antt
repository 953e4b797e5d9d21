use Rattle.std.specs.Prelude.{option_copied}
use Rattle.std.proofs.Common.{◌≡◌, ◌+◌, ◌≤◌, ◌^◌, sym, subst, ◌∙◌, refl, arith, rules, All}
use Rattle.pool_roster.specs.Told.{digest_by, told, IsListed}
use Rattle.pool_roster.specs.RosterView.{RiseIn, is_holder, IsOneOf, IsNoneOf}
use Rattle.pool_roster.proofs.Settling.{may_refl, may_then, told_same, rises}
use Rattle.pool_roster.proofs.Spending.{are_found, listed_settled}
use Rattle.pool_roster.proofs.Seeking.{AreFound, NoneUnder, none_found, place_found, none_more, none_last}
use Rattle.pool_roster.proofs.seek.first_holder.Goals as goal

pub loop-number-init : goal.loop-number-init
loop-number-init g c = record {
  none = λ k d w h. absurd (omega arith);
  may = may_refl c.args.expiries c.args.ttl c.args.berths.now.items;
  whole = c.requires.whole;
  listed = c.requires.listed;
}

pub returns-in_default-clause-place : goal.returns-in_default-clause-place
returns-in_default-clause-place g c =
    let found = subst (AreFound c.loop-number.index c.digest_for-digest.result (is_holder c.args.class c.args.at.now (option_copied c.args.login) c.args.key.now)) (told_same c.args.expiries c.args.ttl c.args.berths.now.items c.loop-number.berths.items c.loop-number.invariant.may)
    (subst (λ n. AreFound c.loop-number.index n (is_holder c.args.class c.args.at.now (option_copied c.args.login) c.args.key.now) (told c.args.expiries c.args.ttl c.loop-number.berths.items)) (sym c.digest_for-digest.ensures)
    (are_found (digest_by g.D.Digest.own g.D.Digest.digest) c.loop-number.index c.args.expiries c.args.ttl c.args.class c.args.at.now (option_copied c.args.login) c.args.key.now c.loop-number.berths.items c.loop-number.invariant.whole c.loop-number.invariant.listed)) in
    sym (none_found c.loop-number.index c.digest_for-digest.result (is_holder c.args.class c.args.at.now (option_copied c.args.login) c.args.key.now) (told c.args.expiries c.args.ttl c.args.berths.now.items) c.requires.order found
    c.loop-number.from c.loop-number.invariant.none c.in_default.ensures)

pub holder_of-requires : goal.holder_of-requires
holder_of-requires g c = record {
  order = subst RiseIn (sym (told_same c.args.expiries c.args.ttl c.args.berths.now.items c.loop-number.berths.items c.loop-number.invariant.may)) c.requires.order;
}

pub returns-in-Some-holder_of-clause-place : goal.returns-in-Some-holder_of-clause-place
returns-in-Some-holder_of-clause-place g c =
    let found = subst (AreFound c.loop-number.index c.digest_for-digest.result (is_holder c.args.class c.args.at.now (option_copied c.args.login) c.args.key.now)) (told_same c.args.expiries c.args.ttl c.args.berths.now.items c.loop-number.berths.items c.loop-number.invariant.may)
    (subst (λ n. AreFound c.loop-number.index n (is_holder c.args.class c.args.at.now (option_copied c.args.login) c.args.key.now) (told c.args.expiries c.args.ttl c.loop-number.berths.items)) (sym c.digest_for-digest.ensures)
    (are_found (digest_by g.D.Digest.own g.D.Digest.digest) c.loop-number.index c.args.expiries c.args.ttl c.args.class c.args.at.now (option_copied c.args.login) c.args.key.now c.loop-number.berths.items c.loop-number.invariant.whole c.loop-number.invariant.listed)) in
    let same = told_same c.args.expiries c.args.ttl c.args.berths.now.items c.loop-number.berths.items c.loop-number.invariant.may in
    sym (place_found c.loop-number.index c.digest_for-digest.result (is_holder c.args.class c.args.at.now (option_copied c.args.login) c.args.key.now) (told c.args.expiries c.args.ttl c.args.berths.now.items) c.requires.order found
    c.loop-number.from c.in-Some.number c.in-Some-holder_of.place c.loop-number.invariant.none c.in-Some.ensures
    (subst (λ os. IsOneOf (is_holder c.args.class c.args.at.now (option_copied c.args.login) c.args.key.now) c.in-Some.number os c.in-Some-holder_of.place) same c.in-Some-holder_of.ensures.some))

pub returns-in-Some-holder_of-clause-berths : goal.returns-in-Some-holder_of-clause-berths
returns-in-Some-holder_of-clause-berths g c =
    may_then c.args.expiries c.args.ttl c.args.berths.now.items c.loop-number.berths.items c.holder_of.new.berths.items c.loop-number.invariant.may c.in-Some-holder_of.ensures.berths

pub returns-in_default-checked_add-clause-place : goal.returns-in_default-checked_add-clause-place
returns-in_default-checked_add-clause-place g c =
    let found = subst (AreFound c.loop-number.index c.digest_for-digest.result (is_holder c.args.class c.args.at.now (option_copied c.args.login) c.args.key.now)) (told_same c.args.expiries c.args.ttl c.args.berths.now.items c.loop-number.berths.items c.loop-number.invariant.may)
    (subst (λ n. AreFound c.loop-number.index n (is_holder c.args.class c.args.at.now (option_copied c.args.login) c.args.key.now) (told c.args.expiries c.args.ttl c.loop-number.berths.items)) (sym c.digest_for-digest.ensures)
    (are_found (digest_by g.D.Digest.own g.D.Digest.digest) c.loop-number.index c.args.expiries c.args.ttl c.args.class c.args.at.now (option_copied c.args.login) c.args.key.now c.loop-number.berths.items c.loop-number.invariant.whole c.loop-number.invariant.listed)) in
    let os = told c.args.expiries c.args.ttl c.args.berths.now.items in
    let same = told_same c.args.expiries c.args.ttl c.args.berths.now.items c.loop-number.berths.items c.loop-number.invariant.may in
    let lacks = subst (IsNoneOf (is_holder c.args.class c.args.at.now (option_copied c.args.login) c.args.key.now) c.in-Some.number) same (c.in_default-holder_of.ensures.none refl) in
    let last : 2 ^ 64 ≤ c.in-Some.number + 1 = search rules in
    sym (none_last c.loop-number.index c.digest_for-digest.result (is_holder c.args.class c.args.at.now (option_copied c.args.login) c.args.key.now) os c.requires.order found (c.in-Some.number + 1) last
    (none_more c.loop-number.index c.digest_for-digest.result (is_holder c.args.class c.args.at.now (option_copied c.args.login) c.args.key.now) os c.requires.order found c.loop-number.from c.in-Some.number c.loop-number.invariant.none c.in-Some.ensures lacks))

pub returns-in_default-checked_add-clause-berths : goal.returns-in_default-checked_add-clause-berths
returns-in_default-checked_add-clause-berths g c =
    may_then c.args.expiries c.args.ttl c.args.berths.now.items c.loop-number.berths.items c.holder_of.new.berths.items c.loop-number.invariant.may c.in_default-holder_of.ensures.berths

pub returns-in-Some-holder_of-clause-listed : goal.returns-in-Some-holder_of-clause-listed
returns-in-Some-holder_of-clause-listed g c = listed_settled (digest_by g.D.Digest.own g.D.Digest.digest) c.loop-number.index c.args.expiries c.args.ttl c.loop-number.berths.items c.holder_of.new.berths.items c.in-Some-holder_of.ensures.berths c.loop-number.invariant.listed

pub take_out_spent-requires : goal.take_out_spent-requires
take_out_spent-requires g c =
    let bs = c.args.berths.now.items in
    let may = may_then c.args.expiries c.args.ttl bs c.loop-number.berths.items c.holder_of.new.berths.items c.loop-number.invariant.may c.in_default-holder_of.ensures.berths in
    let same = sym (told_same c.args.expiries c.args.ttl bs c.holder_of.new.berths.items may) in
    rw c.as_slice.ensures.value (record {
      order = rises c.args.expiries c.args.ttl c.holder_of.new.berths.items (subst RiseIn same c.requires.order);
      listed = listed_settled (digest_by g.D.Digest.own g.D.Digest.digest) c.loop-number.index c.args.expiries c.args.ttl c.loop-number.berths.items c.holder_of.new.berths.items c.in_default-holder_of.ensures.berths c.loop-number.invariant.listed;
    })

pub returns-in_default-checked_add-clause-listed : goal.returns-in_default-checked_add-clause-listed
returns-in_default-checked_add-clause-listed g c = subst (All (IsListed (digest_by g.D.Digest.own g.D.Digest.digest) c.take_out_spent.new.index)) c.as_slice.ensures.value c.take_out_spent.ensures.listed

pub loop-number-preserved : goal.loop-number-preserved
loop-number-preserved g c =
    let found = subst (AreFound c.loop-number.index c.digest_for-digest.result (is_holder c.args.class c.args.at.now (option_copied c.args.login) c.args.key.now)) (told_same c.args.expiries c.args.ttl c.args.berths.now.items c.loop-number.berths.items c.loop-number.invariant.may)
    (subst (λ n. AreFound c.loop-number.index n (is_holder c.args.class c.args.at.now (option_copied c.args.login) c.args.key.now) (told c.args.expiries c.args.ttl c.loop-number.berths.items)) (sym c.digest_for-digest.ensures)
    (are_found (digest_by g.D.Digest.own g.D.Digest.digest) c.loop-number.index c.args.expiries c.args.ttl c.args.class c.args.at.now (option_copied c.args.login) c.args.key.now c.loop-number.berths.items c.loop-number.invariant.whole c.loop-number.invariant.listed)) in
    let os = told c.args.expiries c.args.ttl c.args.berths.now.items in
    let same = told_same c.args.expiries c.args.ttl c.args.berths.now.items c.loop-number.berths.items c.loop-number.invariant.may in
    let lacks = subst (IsNoneOf (is_holder c.args.class c.args.at.now (option_copied c.args.login) c.args.key.now) c.in-Some.number) same (c.in_default-holder_of.ensures.none refl) in
    let next : c.in-Some-checked_add.after ≡ c.in-Some.number + 1 = search rules in
    record {
      none = subst (NoneUnder (is_holder c.args.class c.args.at.now (option_copied c.args.login) c.args.key.now) os) (sym next)
          (none_more c.loop-number.index c.digest_for-digest.result (is_holder c.args.class c.args.at.now (option_copied c.args.login) c.args.key.now) os c.requires.order found c.loop-number.from c.in-Some.number c.loop-number.invariant.none c.in-Some.ensures lacks);
      may = may_then c.args.expiries c.args.ttl c.args.berths.now.items c.loop-number.berths.items c.holder_of.new.berths.items c.loop-number.invariant.may c.in_default-holder_of.ensures.berths;
      whole = c.take_out_spent.ensures.whole ∙ c.loop-number.invariant.whole;
      listed = subst (All (IsListed (digest_by g.D.Digest.own g.D.Digest.digest) c.take_out_spent.new.index)) c.as_slice.ensures.value c.take_out_spent.ensures.listed;
    }
