use Rattle.std.proofs.Common.{◌∙◌, refl, sym, subst}
use Rattle.gw_outside.specs.Wires.{IsRequestUnit}
use Rattle.z_client.specs.Units.{init_request}
use Rattle.z_client.proofs.CountLemmas.{sent_counts}
use Rattle.z_client.proofs.HappenedLemmas.{greeted_same}
use Rattle.z_types.specs.Pending.{opening}
use Rattle.z_client.specs.Sets.{made_in}
use Rattle.z_client.specs.TrueSession.{IsToldTrue}
use Rattle.z_client.proofs.SendLemmas.{took_init, told_opens}
use Rattle.z_types.specs.Logins.{login_of}
use Rattle.z_client.proofs.AddressLemmas.{again}
use Rattle.z_client.proofs.SteadyOpens.{greeted_number, greeted_delays, ungreeted_cut}
use Rattle.gw_outside.specs.declared.wires.Sent.TheVariants as sent
use Rattle.z_client.proofs.sending.greet.Goals as goal

pub returns-in-Sent-clause-sent : goal.returns-in-Sent-clause-sent
returns-in-Sent-clause-sent g c =
    took_init g.W.World c.args.address (g.N.Watched.happened c.args.wire.now) c.as_slice.result.now (g.N.Link.Linked.peer c.args.link) (g.N.Link.Linked.peer c.send.new.link)
    c.requires.link.peer c.in-Sent.ensures.peer (subst (λ octets. IsRequestUnit octets (init_request (login_of c.args.address))) (sym c.as_slice.ensures) c.requires.unit)

pub returns-in-Sent-clause-happened : goal.returns-in-Sent-clause-happened
returns-in-Sent-clause-happened g c =
    greeted_same (g.N.Watched.happened c.args.wire.now) (g.N.Watched.happened c.send.new.self) c.as_slice.result.now (g.N.Link.Linked.peer c.args.link) (login_of c.args.address)
    (subst (λ octets. IsRequestUnit octets (init_request (login_of c.args.address))) (sym c.as_slice.ensures) c.requires.unit) c.in-Sent.ensures.steady.happened

pub returns-in-Sent-clause-counts : goal.returns-in-Sent-clause-counts
returns-in-Sent-clause-counts g c =
    sent_counts g.N.Watched.exact c.as_slice.result.now (init_request (login_of c.args.address)) sent.Sent (g.N.Watched.counts c.args.wire.now) (g.N.Watched.counts c.send.new.self)
    (subst (λ octets. IsRequestUnit octets (init_request (login_of c.args.address))) (sym c.as_slice.ensures) c.requires.unit) c.in-Sent.ensures.counts

pub returns-in-Failed-clause-counts : goal.returns-in-Failed-clause-counts
returns-in-Failed-clause-counts g c =
    sent_counts g.N.Watched.exact c.as_slice.result.now (init_request (login_of c.args.address)) sent.Failed (g.N.Watched.counts c.args.wire.now) (g.N.Watched.counts c.send.new.self)
    (subst (λ octets. IsRequestUnit octets (init_request (login_of c.args.address))) (sym c.as_slice.ensures) c.requires.unit) c.in-Failed.ensures.counts

pub returns-in-Memory-clause-counts : goal.returns-in-Memory-clause-counts
returns-in-Memory-clause-counts g c =
    sent_counts g.N.Watched.exact c.as_slice.result.now (init_request (login_of c.args.address)) sent.Memory (g.N.Watched.counts c.args.wire.now) (g.N.Watched.counts c.send.new.self)
    (subst (λ octets. IsRequestUnit octets (init_request (login_of c.args.address))) (sym c.as_slice.ensures) c.requires.unit) c.in-Memory.ensures.counts

pub invariant_of-result : goal.invariant_of-result
invariant_of-result g c = λ waits. record {
  scanned = c.start.ensures.stands _;
  nothing = λ told. c.in-Sent.ensures.arrived ∙ c.requires.link.arrived;
  peer = λ told.
      subst (λ made. IsToldTrue g.W.World c.args.address (made_in made) opening (g.N.Link.Linked.peer c.send.new.link)) (sym c.new.ensures.items)
      (told_opens g.W.World c.args.address (g.N.Watched.happened c.args.wire.now) c.as_slice.result.now (g.N.Link.Linked.peer c.args.link) (g.N.Link.Linked.peer c.send.new.link)
      told c.requires.link.peer c.in-Sent.ensures.peer (subst (λ octets. IsRequestUnit octets (init_request (login_of c.args.address))) (sym c.as_slice.ensures) c.requires.unit));
  exact = λ e. subst g.W.World.told (again c.args.address) (c.requires.link.told e (login_of c.args.address));
}

pub returns-in-Sent-clause-steady : goal.returns-in-Sent-clause-steady
returns-in-Sent-clause-steady g c = λ told steady. record {
  number = greeted_number g.W.World g.N.Link.Linked g.N.Watched.exact c.args.address c.as_slice.result.now c.args.link c.send.new.link
      (g.N.Watched.happened c.args.wire.now) (g.N.Watched.happened c.send.new.self) (g.N.Watched.counts c.args.wire.now) (g.N.Watched.counts c.send.new.self)
      c.requires.link told steady (subst (λ octets. IsRequestUnit octets (init_request (login_of c.args.address))) (sym c.as_slice.ensures) c.requires.unit)
      c.in-Sent.ensures.steady c.in-Sent.ensures.counts;
  delays = greeted_delays g.W.World g.N.Link.Linked g.N.Watched.exact c.args.address c.as_slice.result.now c.args.link c.send.new.link
      (g.N.Watched.happened c.args.wire.now) (g.N.Watched.happened c.send.new.self) (g.N.Watched.counts c.args.wire.now) (g.N.Watched.counts c.send.new.self)
      c.requires.link told steady (subst (λ octets. IsRequestUnit octets (init_request (login_of c.args.address))) (sym c.as_slice.ensures) c.requires.unit)
      c.in-Sent.ensures.steady;
}

pub returns-in-Failed-clause-steady : goal.returns-in-Failed-clause-steady
returns-in-Failed-clause-steady g c = λ told steady. (
  refl,
  ungreeted_cut g.W.World g.N.Link.Linked g.N.Watched.exact c.args.address c.as_slice.result.now c.args.link c.send.new.link
      (g.N.Watched.happened c.args.wire.now) (g.N.Watched.happened c.send.new.self) (g.N.Watched.counts c.args.wire.now) (g.N.Watched.counts c.send.new.self)
      c.requires.link told steady (subst (λ octets. IsRequestUnit octets (init_request (login_of c.args.address))) (sym c.as_slice.ensures) c.requires.unit)
      c.in-Failed.ensures.steady c.in-Failed.ensures.counts,
)
