use Rattle.std.proofs.Common.{arith, subst, take, All}
use Rattle.std.proofs.lemmas.List.{take_all}
use Rattle.std.proofs.lemmas.List.Elements.{All-more, All-weaker}
use Rattle.pool_roster.specs.Told.{StandSince}
use Rattle.pool_roster.proofs.Settling.{since_lower}
use Rattle.pool_roster.proofs.berths.oldest.Goals as goal

pub loop-berth-preserved : goal.loop-berth-preserved
loop-berth-preserved g c =
    let xs = c.args.berths.now in
    let i = c.loop-berth.berth-index in
    let m = c.min-oldest.result in
    All-more (λ b. StandSince m b.session.stand) xs i c.berth-item.result (omega arith)
    (All-weaker (λ b. StandSince c.loop-berth.oldest b.session.stand) (λ b. StandSince m b.session.stand) (λ b h. since_lower m c.loop-berth.oldest b.session.stand (omega arith) h) (take i xs) c.loop-berth.invariant)
    (subst (λ b. StandSince m b.session.stand) c.berth-item.is (since_lower m c.since.result c.berth-item.result.session.stand (omega arith) c.since.ensures))

pub returns : goal.returns
returns g c =
    let xs = c.args.berths.now in
    subst (All (λ b. StandSince c.loop-berth.oldest b.session.stand)) (take_all c.loop-berth.berth-index xs (omega arith)) c.loop-berth.invariant
