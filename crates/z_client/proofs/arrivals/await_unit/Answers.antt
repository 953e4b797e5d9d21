use Rattle.std.proofs.Common.{rules, None, Some, subst}
use Rattle.z_client.specs.Arrivals.{IsInFront}
use Rattle.z_client.proofs.ArrivalLemmas.{front_fits, front_arrives, front_counts, look_fits, look_arrives, look_counts, look_stands, look_comes, arrived_counts, loop_arrives}
use Rattle.z_client.proofs.HappenedLemmas.{same_again}
use Rattle.z_client.proofs.SteadyArrivals.{front_awaits, look_awaits, look_awaited, loop_awaits}
use Rattle.z_client.proofs.arrivals.await_unit.Goals as goal

pub returns-in-Some-clause-fits : goal.returns-in-Some-clause-fits
returns-in-Some-clause-fits g c =
    front_fits (g.N.Link.Linked.arrived c.loop.link) c.in-Some.front
    (subst (λ octets. IsInFront octets (Some c.in-Some.front)) c.arrived.ensures c.in-Some.ensures.front)

pub returns-in-Some-clause-peer : goal.returns-in-Some-clause-peer
returns-in-Some-clause-peer g c = λ e.
    front_arrives g.N.Watched.exact (g.N.Link.Linked.peer c.args.link.now) (g.N.Link.Linked.peer c.loop.link) (g.N.Link.Linked.arrived c.loop.link)
    (g.N.Watched.counts c.args.wire.now) (g.N.Watched.counts c.loop.wire) c.in-Some.front
    (subst (λ octets. IsInFront octets (Some c.in-Some.front)) c.arrived.ensures c.in-Some.ensures.front) (c.loop.invariant.peer e)

pub returns-in-Some-clause-counts : goal.returns-in-Some-clause-counts
returns-in-Some-clause-counts g c =
    front_counts (g.N.Link.Linked.arrived c.loop.link) c.in-Some.front (g.N.Watched.counts c.args.wire.now) (g.N.Watched.counts c.loop.wire)
    (subst (λ octets. IsInFront octets (Some c.in-Some.front)) c.arrived.ensures c.in-Some.ensures.front) c.loop.invariant.counts

pub returns-in-Some-look_again-clause-fits : goal.returns-in-Some-look_again-clause-fits
returns-in-Some-look_again-clause-fits g c =
    look_fits (g.N.Link.Linked.peer c.loop.link) (g.N.Link.Linked.peer c.look_again.new.link) (g.N.Link.Linked.arrived c.loop.link)
    (g.N.Link.Linked.arrived c.look_again.new.link) c.in-Some-look_again.end
    (subst (λ octets. IsInFront octets None) c.arrived.ensures c.in_default.ensures.front) c.in-Some-look_again.ensures.looked

pub returns-in-Some-look_again-clause-peer : goal.returns-in-Some-look_again-clause-peer
returns-in-Some-look_again-clause-peer g c = λ e.
    look_arrives g.N.Watched.exact (g.N.Link.Linked.peer c.args.link.now) (g.N.Link.Linked.peer c.loop.link) (g.N.Link.Linked.peer c.look_again.new.link)
    (g.N.Link.Linked.arrived c.loop.link) (g.N.Link.Linked.arrived c.look_again.new.link)
    (g.N.Watched.counts c.args.wire.now) (g.N.Watched.counts c.loop.wire) (g.N.Watched.counts c.look_again.new.wire) c.in-Some-look_again.end
    (c.loop.invariant.peer e)
    (subst (λ octets. IsInFront octets None) c.arrived.ensures c.in_default.ensures.front) c.in-Some-look_again.ensures.looked c.in-Some-look_again.ensures.counts

pub returns-in-Some-look_again-clause-happened : goal.returns-in-Some-look_again-clause-happened
returns-in-Some-look_again-clause-happened g c =
    same_again (g.N.Watched.happened c.args.wire.now) (g.N.Watched.happened c.loop.wire) (g.N.Watched.happened c.look_again.new.wire)
    c.loop.invariant.happened c.in-Some-look_again.ensures.happened

pub returns-in-Some-look_again-clause-counts : goal.returns-in-Some-look_again-clause-counts
returns-in-Some-look_again-clause-counts g c =
    look_counts g.N.Watched.exact (g.N.Link.Linked.peer c.loop.link) c.in-Some-look_again.end
    (g.N.Watched.counts c.args.wire.now) (g.N.Watched.counts c.loop.wire) (g.N.Watched.counts c.look_again.new.wire)
    c.loop.invariant.counts c.in-Some-look_again.ensures.counts

pub loop-preserved : goal.loop-preserved
loop-preserved g c =
    let open_ = subst (λ octets. IsInFront octets None) c.arrived.ensures c.in_default.ensures.front in
    record {
      stands = look_stands c.stands_on.ensures (g.N.Link.Linked.peer c.loop.link) (g.N.Link.Linked.peer c.look_again.new.link)
          (g.N.Link.Linked.arrived c.loop.link) (g.N.Link.Linked.arrived c.look_again.new.link) c.in_front.new.scan.passed c.in_front.new.scan.opened
          (search rules) c.in_default-look_again.ensures.looked;
      peer = λ e. look_comes g.N.Watched.exact (g.N.Link.Linked.peer c.args.link.now) (g.N.Link.Linked.peer c.loop.link) (g.N.Link.Linked.peer c.look_again.new.link)
          (g.N.Link.Linked.arrived c.loop.link) (g.N.Link.Linked.arrived c.look_again.new.link)
          (g.N.Watched.counts c.args.wire.now) (g.N.Watched.counts c.loop.wire) (g.N.Watched.counts c.look_again.new.wire) (c.loop.invariant.peer e) open_
          c.in_default-look_again.ensures.looked c.in_default-look_again.ensures.counts;
      steady = λ e some steady. look_awaited g.N.Link.Linked (g.N.Watched.happened c.args.wire.now) c.args.link.now c.loop.link c.look_again.new.link
          (g.N.Watched.happened c.loop.wire) (g.N.Watched.happened c.look_again.new.wire) c.loop.invariant.happened steady (c.loop.invariant.steady e some steady) open_ some
          c.in_default-look_again.ensures.looked c.in_default-look_again.ensures.steady;
      happened = same_again (g.N.Watched.happened c.args.wire.now) (g.N.Watched.happened c.loop.wire) (g.N.Watched.happened c.look_again.new.wire)
          c.loop.invariant.happened c.in_default-look_again.ensures.happened;
      counts = arrived_counts g.N.Watched.exact (g.N.Link.Linked.peer c.loop.link) (g.N.Watched.counts c.args.wire.now) (g.N.Watched.counts c.loop.wire)
          (g.N.Watched.counts c.look_again.new.wire) c.loop.invariant.counts c.in_default-look_again.ensures.counts;
    }

pub returns-clause-peer : goal.returns-clause-peer
returns-clause-peer g c = λ e.
    loop_arrives g.N.Watched.exact (g.N.Link.Linked.peer c.args.link.now) (g.N.Link.Linked.peer c.loop.link) (g.N.Link.Linked.arrived c.loop.link)
    (g.N.Watched.counts c.args.wire.now) (g.N.Watched.counts c.loop.wire) (c.loop.invariant.peer e)

pub returns-in-Some-clause-steady : goal.returns-in-Some-clause-steady
returns-in-Some-clause-steady g c = λ e some steady.
    front_awaits g.N.Link.Linked (g.N.Watched.happened c.args.wire.now) c.args.link.now c.loop.link c.in-Some.front (c.loop.invariant.steady e some steady)
    (subst (λ octets. IsInFront octets (Some c.in-Some.front)) c.arrived.ensures c.in-Some.ensures.front)

pub returns-in-Some-look_again-clause-steady : goal.returns-in-Some-look_again-clause-steady
returns-in-Some-look_again-clause-steady g c = λ e some steady.
    look_awaits g.N.Link.Linked (g.N.Watched.happened c.args.wire.now) c.args.link.now c.loop.link c.look_again.new.link
    (g.N.Watched.happened c.loop.wire) (g.N.Watched.happened c.look_again.new.wire) c.loop.invariant.happened steady (c.loop.invariant.steady e some steady)
    (subst (λ octets. IsInFront octets None) c.arrived.ensures c.in_default.ensures.front)
    c.in-Some-look_again.end c.in-Some-look_again.ensures.looked c.in-Some-look_again.ensures.steady

pub returns-clause-steady : goal.returns-clause-steady
returns-clause-steady g c = λ e some steady.
    loop_awaits g.N.Link.Linked (g.N.Watched.happened c.args.wire.now) c.args.link.now c.loop.link (c.loop.invariant.steady e some steady)
