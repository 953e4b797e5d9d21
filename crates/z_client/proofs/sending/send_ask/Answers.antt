use Rattle.std.proofs.Common.{◌∙◌, sym, subst}
use Rattle.z_ber.specs.Due.{Stands}
use Rattle.gw_outside.specs.Wires.{IsRequestUnit}
use Rattle.gw_outside.specs.declared.wires.Sent.TheVariants as sent
use Rattle.z_client.specs.Sets.{made_in}
use Rattle.z_client.specs.TrueSession.{IsToldTrue}
use Rattle.z_client.specs.Units.{request_of}
use Rattle.z_client.proofs.CountLemmas.{asked_counts}
use Rattle.z_client.proofs.SendLemmas.{takes_ask, told_asks}
use Rattle.z_client.proofs.SteadyAsks.{sent_steadily, unsent_steadily}
use Rattle.z_client.proofs.sending.send_ask.Goals as goal

pub returns-in-Sent-clause-kept : goal.returns-in-Sent-clause-kept
returns-in-Sent-clause-kept g c = λ waits. record {
  scanned = subst (λ octets. Stands octets c.args.parts.now.scan.passed c.args.parts.now.scan.opened) (sym c.in-Sent.ensures.arrived) c.requires.kept.scanned;
  nothing = λ told. c.in-Sent.ensures.arrived ∙ c.requires.kept.nothing told;
  peer = λ told.
      told_asks g.W.World c.args.parts.now.address (g.N.Watched.happened c.args.wire.now) (made_in c.args.parts.now.made.items) c.args.ask c.as_slice.result.now
      (g.N.Link.Linked.peer c.args.parts.now.link) (g.N.Link.Linked.peer c.send.new.link)
      (subst (λ p. IsToldTrue g.W.World c.args.parts.now.address (made_in c.args.parts.now.made.items) p (g.N.Link.Linked.peer c.args.parts.now.link)) c.requires.rests (c.requires.kept.peer told))
      c.requires.may c.in-Sent.ensures.peer (subst (λ octets. IsRequestUnit octets (request_of c.args.ask)) (sym c.as_slice.ensures) c.requires.unit) c.requires.short;
  exact = c.requires.kept.exact;
}

pub returns-in-Sent-clause-sent : goal.returns-in-Sent-clause-sent
returns-in-Sent-clause-sent g c = λ started.
    takes_ask g.W.World c.args.parts.now.address (g.N.Watched.happened c.args.wire.now) c.args.ask c.as_slice.result.now (g.N.Link.Linked.peer c.args.parts.now.link)
    (g.N.Link.Linked.peer c.send.new.link) c.in-Sent.ensures.peer
    (subst (λ octets. IsRequestUnit octets (request_of c.args.ask)) (sym c.as_slice.ensures) c.requires.unit) c.requires.short

pub returns-in-Sent-clause-counts : goal.returns-in-Sent-clause-counts
returns-in-Sent-clause-counts g c =
    asked_counts g.N.Watched.exact c.as_slice.result.now c.args.ask sent.Sent (g.N.Watched.counts c.args.wire.now) (g.N.Watched.counts c.send.new.self)
    (subst (λ octets. IsRequestUnit octets (request_of c.args.ask)) (sym c.as_slice.ensures) c.requires.unit) c.in-Sent.ensures.counts

pub returns-in-Failed-clause-counts : goal.returns-in-Failed-clause-counts
returns-in-Failed-clause-counts g c =
    asked_counts g.N.Watched.exact c.as_slice.result.now c.args.ask sent.Failed (g.N.Watched.counts c.args.wire.now) (g.N.Watched.counts c.send.new.self)
    (subst (λ octets. IsRequestUnit octets (request_of c.args.ask)) (sym c.as_slice.ensures) c.requires.unit) c.in-Failed.ensures.counts

pub returns-in-Memory-clause-counts : goal.returns-in-Memory-clause-counts
returns-in-Memory-clause-counts g c =
    asked_counts g.N.Watched.exact c.as_slice.result.now c.args.ask sent.Memory (g.N.Watched.counts c.args.wire.now) (g.N.Watched.counts c.send.new.self)
    (subst (λ octets. IsRequestUnit octets (request_of c.args.ask)) (sym c.as_slice.ensures) c.requires.unit) c.in-Memory.ensures.counts

pub returns-in-Sent-clause-steady : goal.returns-in-Sent-clause-steady
returns-in-Sent-clause-steady g c = λ told steady.
    sent_steadily g.W.World c.args.parts.now.address (made_in c.args.parts.now.made.items) c.args.ask
    (g.N.Watched.happened c.args.wire.now) (g.N.Watched.happened c.send.new.self) c.requires.may g.N.Link.Linked c.as_slice.result.now c.args.parts.now.link c.send.new.link
    (subst (λ p. IsToldTrue g.W.World c.args.parts.now.address (made_in c.args.parts.now.made.items) p (g.N.Link.Linked.peer c.args.parts.now.link)) c.requires.rests (c.requires.kept.peer told))
    steady (subst (λ octets. IsRequestUnit octets (request_of c.args.ask)) (sym c.as_slice.ensures) c.requires.unit)
    c.in-Sent.ensures.peer c.requires.short c.in-Sent.ensures.steady

pub returns-in-Failed-clause-steady : goal.returns-in-Failed-clause-steady
returns-in-Failed-clause-steady g c = λ told steady.
    unsent_steadily g.W.World c.args.parts.now.address (made_in c.args.parts.now.made.items) c.args.ask
    (g.N.Watched.happened c.args.wire.now) (g.N.Watched.happened c.send.new.self) c.requires.may g.N.Link.Linked c.as_slice.result.now c.args.parts.now.link c.send.new.link
    (subst (λ p. IsToldTrue g.W.World c.args.parts.now.address (made_in c.args.parts.now.made.items) p (g.N.Link.Linked.peer c.args.parts.now.link)) c.requires.rests (c.requires.kept.peer told))
    steady (subst (λ octets. IsRequestUnit octets (request_of c.args.ask)) (sym c.as_slice.ensures) c.requires.unit)
    c.in-Failed.ensures.steady

pub returns-in-Memory-clause-steady : goal.returns-in-Memory-clause-steady
returns-in-Memory-clause-steady g c = λ told steady. record { number = c.in-Memory.ensures.steady.number; taken = tt }
