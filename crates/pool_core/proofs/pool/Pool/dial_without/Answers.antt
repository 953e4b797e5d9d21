use Rattle.std.proofs.Common.{◌≡◌, ◌∙◌, ◌-◌, ◌^◌, ◌+◌, ℕ, Option, ap, subst, arith, true, nat_lt}
use Rattle.std.proofs.lemmas.Bool.{lt-ltb}
use Rattle.pool_sets.specs.Plain.{Ascends, with_sessions}
use Rattle.pool_core.specs.PoolView.{PoolView, with_pool, without_named}
use Rattle.pool_core.proofs.Dialled.{dial_from}
use Rattle.pool_core.proofs.pool.Pool.dial_without.Goals as goal

-- a pool and its counts without the session of a number, where one is named
abbrev less : {S : Type 0} → Option ℕ → PoolView S → PoolView S
less number v = with_pool (with_sessions (without_named number v.pool.sessions) v.pool) v

pub returns-clause-plain : goal.returns-clause-plain
returns-clause-plain g c =
    let p = c.args.self.now.pool in
    let ascends : Ascends 0 p.given p.sessions = subst (λ (v : PoolView _). Ascends 0 v.pool.given v.pool.sessions) c.self.view_is c.self.invariant.ascends in
    let fresh : nat_lt p.given (2 ^ 64 - 1) ≡ true = subst (λ (v : PoolView _). nat_lt v.pool.given (2 ^ 64 - 1) ≡ true) c.self.view_is (lt-ltb c.self.inside.given (2 ^ 64 - 1) (omega arith)) in
    let now = c.drop_number.ensures ∙ ap (less c.args.number) c.in-Ok.ensures.ok in
    let last : c.self-2.inside.given ≡ p.given + 1 = ap (λ (v : PoolView _). v.pool.given) (c.self-2.view_is ∙ now) in
    rw (← c.in-Some.ensures)
    (dial_from c.args.class c.args.at.now c.in-Some.login p c.in-Some.address c.args.number c.requires.given ascends
    c.drop_number.new.self.pool c.move_seat-member.new.self.pool c.self-2.inside.given c.move_seat-member.result
    (ap (λ (v : PoolView _). v.pool) now) last c.requires.room fresh
    c.move_seat-member.ensures.member (ap (λ (v : PoolView _). v.pool) c.move_seat-member.ensures.plain))
