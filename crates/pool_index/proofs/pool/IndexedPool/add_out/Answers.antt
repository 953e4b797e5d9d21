use Rattle.std.proofs.Common.{◌^◌, ◌-◌, ◌+◌, ap, refl, arith}
use Rattle.pool_core.specs.PoolView.{out_session}
use Rattle.pool_core.proofs.Ascending.{ascends_push}
use Rattle.pool_core.proofs.Dialled.{pool_dials}
use Rattle.pool_roster.proofs.Given.{ascends_upto}
use Rattle.pool_index.proofs.pool.IndexedPool.add_out.Goals as goal

pub add_out-requires : goal.add_out-requires
add_out-requires g c =
    let os = c.self.inside.register.sessions in
    record {
      few = rw (← c.self.view_is) at c.requires.few;
      next = ascends_upto 0 (c.self.inside.given + 1) (2 ^ 64 - 1) _ (omega (arith, rw (← c.self.view_is) at c.requires.number))
          (ascends_push 0 c.self.inside.given os (out_session (c.self.inside.given + 1) c.args.class c.args.login 0 c.args.address) refl c.self.invariant.ascends);
    }

pub invariant_of-self-2 : goal.invariant_of-self-2
invariant_of-self-2 g c =
    pool_dials g.S.Sitting c.self.inside.register.sessions c.add_out.new.self.sessions c.self.inside.given c.self.inside.opens c.saturating_add-self-inside.result c.args.class 0 c.args.login c.args.address
    (ap (λ r. r.sessions) c.in-Ok.ensures.ok) (rw (← c.self.view_is) at c.requires.few) c.saturating_add-self-inside.ensures c.self.invariant
