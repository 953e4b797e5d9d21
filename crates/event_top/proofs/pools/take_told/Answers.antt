use Rattle.std.specs.Prelude.{option_copied}
use Rattle.pool_locked.proofs.FullLemmas.{told_after, opens_after}
use Rattle.event_top.proofs.pools.take_told.Goals as goal

pub returns-clause-told : goal.returns-clause-told
returns-clause-told g c =
    told_after c.args.class c.args.at.now (option_copied c.args.login) (option_copied c.args.want) c.args.now (g.P.Door.pool c.args.door.now)
    (g.P.Door.pool c.take.new.self) c.take.result c.requires.told c.take.ensures.plain

pub returns-clause-full_opens : goal.returns-clause-full_opens
returns-clause-full_opens g c =
    opens_after g.W.World g.S.Sitting c.args.class c.args.at.now (option_copied c.args.login) (option_copied c.args.want) c.args.now
    (g.P.Door.pool c.args.door.now) (g.P.Door.pool c.take.new.self) (g.P.Door.counts c.args.door.now) (g.P.Door.counts c.take.new.self)
    c.take.result c.requires.told c.requires.few c.requires.full_opens c.take.ensures.plain c.take.ensures.fits c.take.ensures.bound
    c.take.ensures.counts
