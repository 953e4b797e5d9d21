use Rattle.std.specs.Prelude.{option_copied}
use Rattle.std.proofs.Common.{◌≡◌, ◌+◌, ◌≤◌, ◌^◌, ◌∙◌, is_some, sym, subst, refl, arith, rules}
use Rattle.pool_sets.specs.Sessions.{Session, idle_for}
use Rattle.pool_roster.proofs.Seeking.{AreFound, NoneUnder, none_found, place_found, none_more, none_last}
use Rattle.pool_index.proofs.Found.{own_found}
use Rattle.pool_index.proofs.idlers.first_own.Goals as goal

pub loop-number-init : goal.loop-number-init
loop-number-init g c = record {
  none = λ k d w h. absurd (omega arith);
  whole = c.requires.whole;
  found = c.requires.found;
}

pub returns-in_default-clause-place : goal.returns-in_default-clause-place
returns-in_default-clause-place g c =
    let q = (λ (o : Session g.row.S.Denot). is_some (idle_for c.args.class c.args.at.now (option_copied c.args.login) o)) in
    let os = c.args.roster.now.sessions in
    let found = subst (λ n. AreFound c.loop-number.index n q os) (sym c.own-digest.ensures) (own_found g.D.Digest.own c.loop-number.index c.loop-number.invariant.whole c.args.class c.args.at.now (option_copied c.args.login) os c.loop-number.invariant.found) in
    sym (none_found c.loop-number.index c.own-digest.result q os c.requires.order found c.loop-number.from c.loop-number.invariant.none c.in_default.ensures)

pub returns-in-Some-own_at-clause-place : goal.returns-in-Some-own_at-clause-place
returns-in-Some-own_at-clause-place g c =
    let q = (λ (o : Session g.row.S.Denot). is_some (idle_for c.args.class c.args.at.now (option_copied c.args.login) o)) in
    let os = c.args.roster.now.sessions in
    let found = subst (λ n. AreFound c.loop-number.index n q os) (sym c.own-digest.ensures) (own_found g.D.Digest.own c.loop-number.index c.loop-number.invariant.whole c.args.class c.args.at.now (option_copied c.args.login) os c.loop-number.invariant.found) in
    sym (place_found c.loop-number.index c.own-digest.result q os c.requires.order found c.loop-number.from c.in-Some.number c.in-Some-own_at.place c.loop-number.invariant.none c.in-Some.ensures c.in-Some-own_at.ensures.some)

pub returns-in_default-checked_add-clause-place : goal.returns-in_default-checked_add-clause-place
returns-in_default-checked_add-clause-place g c =
    let q = (λ (o : Session g.row.S.Denot). is_some (idle_for c.args.class c.args.at.now (option_copied c.args.login) o)) in
    let os = c.args.roster.now.sessions in
    let found = subst (λ n. AreFound c.loop-number.index n q os) (sym c.own-digest.ensures) (own_found g.D.Digest.own c.loop-number.index c.loop-number.invariant.whole c.args.class c.args.at.now (option_copied c.args.login) os c.loop-number.invariant.found) in
    let last : 2 ^ 64 ≤ c.in-Some.number + 1 = search rules in
    sym (none_last c.loop-number.index c.own-digest.result q os c.requires.order found (c.in-Some.number + 1) last
    (none_more c.loop-number.index c.own-digest.result q os c.requires.order found c.loop-number.from c.in-Some.number c.loop-number.invariant.none c.in-Some.ensures (c.in_default-own_at.ensures.none refl)))

pub loop-number-preserved : goal.loop-number-preserved
loop-number-preserved g c =
    let q = (λ (o : Session g.row.S.Denot). is_some (idle_for c.args.class c.args.at.now (option_copied c.args.login) o)) in
    let os = c.args.roster.now.sessions in
    let found = subst (λ n. AreFound c.loop-number.index n q os) (sym c.own-digest.ensures) (own_found g.D.Digest.own c.loop-number.index c.loop-number.invariant.whole c.args.class c.args.at.now (option_copied c.args.login) os c.loop-number.invariant.found) in
    let next : c.in-Some-checked_add.after ≡ c.in-Some.number + 1 = search rules in
    record {
      none = subst (NoneUnder q os) (sym next) (none_more c.loop-number.index c.own-digest.result q os c.requires.order found c.loop-number.from c.in-Some.number c.loop-number.invariant.none c.in-Some.ensures (c.in_default-own_at.ensures.none refl));
      whole = c.take_out_gone.ensures.whole ∙ c.loop-number.invariant.whole;
      found = c.take_out_gone.ensures.found;
    }
