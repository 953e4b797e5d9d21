use Rattle.std.proofs.Common.{refl}
use Rattle.replay_shares.proofs.replay.MovesLemmas.{counted_ok, lent_ok, new_pool_is}
use Rattle.replay_shares.proofs.replay.UndisturbedLemmas.{untroubled_ok}
use Rattle.replay_laws.proofs.WireLemmas.{borne_through, through_ok}
use Rattle.replay_shares.proofs.NewLemmas.{shares_ok}
use Rattle.replay_top.proofs.PaidLemmas.{paid_ok}
use Rattle.replay_top.proofs.RunLemmas.{new_door_is, new_told}
use Rattle.replay_top.proofs.runs.run_plain.Goals as goal

pub returns-clause-counted : goal.returns-clause-counted
returns-clause-counted g c =
    counted_ok _ _ _ _ _ _ _ _ _ c.run_over.result c.run_over.ensures.run
    (new_pool_is c.args.route.now c.in_ok-door.door _ c.in_ok-door.ensures.new c.parts.ensures.sound.pool)
    (g.N.Watched.counts c.args.backend.now.wire)
    (g.N.Watched.counts c.run_over.new.backend.wire) c.args.backend.now.own c.run_over.new.backend.own c.requires.no_breach refl refl
    c.run_over.ensures.sums c.run_over.ensures.causes c.run_over.ensures.dialled

pub returns-clause-full_paid : goal.returns-clause-full_paid
returns-clause-full_paid g c =
    paid_ok _ _ _ _ _ _ _ _ _ c.run_over.result c.run_over.ensures.run
    (new_pool_is c.args.route.now c.in_ok-door.door _ c.in_ok-door.ensures.new c.parts.ensures.sound.pool)
    (g.N.Watched.counts c.args.backend.now.wire)
    (g.N.Watched.counts c.run_over.new.backend.wire) c.args.backend.now.own c.run_over.new.backend.own c.requires.no_breach
    c.requires.no_dials refl refl c.run_over.ensures.sums c.run_over.ensures.causes c.run_over.ensures.dialled

pub returns-clause-lent : goal.returns-clause-lent
returns-clause-lent g c = lent_ok _ _ _ _ _ _ _ _ _ c.run_over.result c.run_over.ensures.run

pub returns-clause-untroubled : goal.returns-clause-untroubled
returns-clause-untroubled g c =
    untroubled_ok _ _ _ _ _ _ _ _ _ c.run_over.result c.run_over.ensures.run c.run_over.ensures.calm
    (new_pool_is c.args.route.now c.in_ok-door.door _ c.in_ok-door.ensures.new c.parts.ensures.sound.pool) c.parts.ensures.sound.pool
    (g.N.Watched.counts c.args.backend.now.wire)
    (g.N.Watched.counts c.run_over.new.backend.wire) c.args.backend.now.own c.run_over.new.backend.own c.requires.no_breach refl refl
    c.run_over.ensures.sums c.run_over.ensures.causes c.run_over.ensures.dialled c.run_over.ensures.room

pub returns-clause-through : goal.returns-clause-through
returns-clause-through g c =
    through_ok _ _ _ _ _ _ _ _ _ c.run_over.result c.run_over.ensures.run c.borne_is_plain_or_full.ensures c.borne_is_plain.ensures
    (new_pool_is c.args.route.now c.in_ok-door.door _ c.in_ok-door.ensures.new c.parts.ensures.sound.pool)
    (new_door_is c.args.route.now c.in_ok-door.door c.in_ok-door.ensures.new) c.parts.ensures.sound.pool
    (g.N.Watched.counts c.run_over.new.backend.wire) c.run_over.new.backend.own refl
    c.run_over.ensures.causes c.run_over.ensures.room (λ is. absurd cc)

pub returns-clause-borne : goal.returns-clause-borne
returns-clause-borne g c =
    borne_through _ _ _ _ _ _ _ _ _ c.run_over.result c.quiet_disturbs_nobody.ensures (returns-clause-through g c)

pub returns-clause-shared : goal.returns-clause-shared
returns-clause-shared g c =
    shares_ok _ _ _ _ _ _ _ _ _ c.run_over.result c.scripts_share.ensures c.parts.ensures.sound c.requires.events 0
    (new_told c.args.route.now c.in_ok-door.door c.in_ok-door.ensures.new) c.run_over.ensures.run (g.N.Watched.counts c.args.backend.now.wire)
