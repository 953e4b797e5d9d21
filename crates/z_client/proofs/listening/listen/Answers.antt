use Rattle.std.proofs.Common.{rules, refl, ap, sym, subst, take}
use Rattle.z_client.specs.Looks.{IsListened, FoundIn, FoundCounts, answer_of, IsToldCome}
use Rattle.z_client.specs.Sets.{made_in, pending_of}
use Rattle.z_client.specs.TrueSession.{IsToldTrue}
use Rattle.z_client.proofs.HappenedLemmas.{same_again}
use Rattle.z_client.proofs.LookLemmas.{in_fits, bad_found, bad_untold, bad_counts, breach_owed, breach_listened, come_told, still_told, found_owed, unit_counts, not_yet_counts, failed_counts, memory_counts, not_yet_listened, failed_listened, memory_listened}
use Rattle.z_client.proofs.SteadyLooks.{told_some, told_at, unit_holds, not_yet_same, memory_steadily, not_yet_steadily, failed_steadily, found_steadily}
use Rattle.z_client.proofs.listening.listen.Goals as goal

pub hear-requires : goal.hear-requires
hear-requires g c =
    let come = come_told g.W.World c.args.parts.now.address (made_in c.args.parts.now.made.items) (pending_of c.args.parts.now.waiting) g.N.Watched.exact
    (g.N.Link.Linked.peer c.args.parts.now.link) (g.N.Link.Linked.peer c.await_unit.new.link) (g.N.Link.Linked.arrived c.await_unit.new.link)
    (g.N.Watched.counts c.args.wire.now) (g.N.Watched.counts c.await_unit.new.wire) c.in-Unit.size c.requires.pending
    (λ told. (c.requires.kept.peer told, c.in-Unit.ensures.peer (c.requires.kept.nothing told))) in
    record {
      few = c.in-Unit.ensures.fits.0;
      frame = c.in-Unit.ensures.fits.1;
      waits = search rules;
      meanwhile = ap pending_of c.replace-waiting.ensures.after;
      come = λ told. subst (λ waiting. IsToldCome g.W.World c.args.parts.now.address (made_in c.args.parts.now.made.items) (pending_of waiting)
          (g.N.Link.Linked.peer c.await_unit.new.link) (take c.in-Unit.size (g.N.Link.Linked.arrived c.await_unit.new.link)))
          (sym c.replace-waiting.ensures.value) (come told).0;
      all = λ told. (come told).1;
      exact = c.requires.kept.exact;
    }

pub returns-in-Unit-clause-listened : goal.returns-in-Unit-clause-listened
returns-in-Unit-clause-listened g c =
    subst (λ waiting. IsListened g.W.World g.N.Link.Linked c.args.parts.now.address (made_in c.args.parts.now.made.items) (pending_of waiting)
    c.hear.new.parts (answer_of c.hear.result)) c.replace-waiting.ensures.value c.hear.ensures.listened

pub returns-in-Unit-clause-found : goal.returns-in-Unit-clause-found
returns-in-Unit-clause-found g c =
    in_fits (g.W.World.told c.args.parts.now.address) (pending_of c.args.parts.now.waiting) (take c.in-Unit.size (g.N.Link.Linked.arrived c.await_unit.new.link))
    (g.N.Link.Linked.arrived c.hear.new.parts.link) c.hear.result
    (subst (λ waiting. FoundIn (g.W.World.told c.args.parts.now.address) (pending_of waiting) (take c.in-Unit.size (g.N.Link.Linked.arrived c.await_unit.new.link))
    (g.N.Link.Linked.arrived c.hear.new.parts.link) c.hear.result) c.replace-waiting.ensures.value c.hear.ensures.found)

pub returns-in-Unit-clause-owed : goal.returns-in-Unit-clause-owed
returns-in-Unit-clause-owed g c =
    found_owed g.W.World c.args.parts.now.address (made_in c.args.parts.now.made.items) (pending_of c.args.parts.now.waiting) g.N.Watched.exact
    (g.N.Link.Linked.peer c.args.parts.now.link) (g.N.Link.Linked.peer c.await_unit.new.link) (g.N.Link.Linked.arrived c.await_unit.new.link)
    (g.N.Watched.counts c.args.wire.now) (g.N.Watched.counts c.await_unit.new.wire) c.in-Unit.size (g.N.Link.Linked.arrived c.hear.new.parts.link) c.hear.result
    (λ told. (c.requires.kept.peer told, c.in-Unit.ensures.peer (c.requires.kept.nothing told)))
    (subst (λ waiting. FoundIn (g.W.World.told c.args.parts.now.address) (pending_of waiting) (take c.in-Unit.size (g.N.Link.Linked.arrived c.await_unit.new.link))
    (g.N.Link.Linked.arrived c.hear.new.parts.link) c.hear.result) c.replace-waiting.ensures.value c.hear.ensures.found)

pub returns-in-Unit-clause-happened : goal.returns-in-Unit-clause-happened
returns-in-Unit-clause-happened g c =
    same_again (g.N.Watched.happened c.args.wire.now) (g.N.Watched.happened c.await_unit.new.wire) (g.N.Watched.happened c.hear.new.wire)
    c.in-Unit.ensures.happened c.hear.ensures.happened

pub returns-in-Unit-clause-counts : goal.returns-in-Unit-clause-counts
returns-in-Unit-clause-counts g c =
    subst (λ n. FoundCounts g.N.Watched.exact c.hear.result (g.N.Watched.counts c.args.wire.now) n) (sym c.hear.ensures.counts)
    (unit_counts g.W.World c.args.parts.now.address (made_in c.args.parts.now.made.items) (pending_of c.args.parts.now.waiting) g.N.Watched.exact
    (g.N.Link.Linked.peer c.args.parts.now.link) (g.N.Link.Linked.peer c.await_unit.new.link) (g.N.Link.Linked.arrived c.await_unit.new.link)
    (g.N.Watched.counts c.args.wire.now) (g.N.Watched.counts c.await_unit.new.wire) (λ x. c.requires.kept.exact (g.met.N.Wire.exact_links x))
    c.in-Unit.size (g.N.Link.Linked.arrived c.hear.new.parts.link) c.hear.result
    (λ told. (c.requires.kept.peer told, c.in-Unit.ensures.peer (c.requires.kept.nothing told))) c.in-Unit.ensures.counts
    (subst (λ waiting. FoundIn (g.W.World.told c.args.parts.now.address) (pending_of waiting) (take c.in-Unit.size (g.N.Link.Linked.arrived c.await_unit.new.link))
    (g.N.Link.Linked.arrived c.hear.new.parts.link) c.hear.result) c.replace-waiting.ensures.value c.hear.ensures.found))

pub returns-in-NotYet-clause-counts : goal.returns-in-NotYet-clause-counts
returns-in-NotYet-clause-counts g c =
    not_yet_counts g.W.World c.args.parts.now.address (made_in c.args.parts.now.made.items) (pending_of c.args.parts.now.waiting) g.N.Watched.exact
    (g.N.Link.Linked.peer c.args.parts.now.link) (g.N.Link.Linked.peer c.await_unit.new.link) (g.N.Link.Linked.arrived c.await_unit.new.link)
    (g.N.Watched.counts c.args.wire.now) (g.N.Watched.counts c.await_unit.new.wire) (λ x. c.requires.kept.exact (g.met.N.Wire.exact_links x))
    (λ told. (c.requires.kept.peer told, c.in-NotYet.ensures.peer (c.requires.kept.nothing told))) c.in-NotYet.ensures.counts

pub returns-in-Failed-clause-counts : goal.returns-in-Failed-clause-counts
returns-in-Failed-clause-counts g c =
    failed_counts g.W.World c.args.parts.now.address (made_in c.args.parts.now.made.items) (pending_of c.args.parts.now.waiting) g.N.Watched.exact
    (g.N.Link.Linked.peer c.args.parts.now.link) (g.N.Link.Linked.peer c.await_unit.new.link) (g.N.Link.Linked.arrived c.await_unit.new.link)
    (g.N.Watched.counts c.args.wire.now) (g.N.Watched.counts c.await_unit.new.wire) (λ x. c.requires.kept.exact (g.met.N.Wire.exact_links x))
    (λ told. (c.requires.kept.peer told, c.in-Failed.ensures.peer (c.requires.kept.nothing told))) c.in-Failed.ensures.counts

pub returns-in-Memory-clause-counts : goal.returns-in-Memory-clause-counts
returns-in-Memory-clause-counts g c =
    memory_counts g.W.World c.args.parts.now.address (made_in c.args.parts.now.made.items) (pending_of c.args.parts.now.waiting) g.N.Watched.exact
    (g.N.Link.Linked.peer c.args.parts.now.link) (g.N.Link.Linked.peer c.await_unit.new.link) (g.N.Link.Linked.arrived c.await_unit.new.link)
    (g.N.Watched.counts c.args.wire.now) (g.N.Watched.counts c.await_unit.new.wire) (λ x. c.requires.kept.exact (g.met.N.Wire.exact_links x))
    (λ told. (c.requires.kept.peer told, c.in-Memory.ensures.peer (c.requires.kept.nothing told))) c.in-Memory.ensures.counts

pub returns-in-Breach-clause-counts : goal.returns-in-Breach-clause-counts
returns-in-Breach-clause-counts g c =
    bad_counts g.W.World c.args.parts.now.address (made_in c.args.parts.now.made.items) (pending_of c.args.parts.now.waiting) g.N.Watched.exact
    (g.N.Link.Linked.peer c.args.parts.now.link) (g.N.Link.Linked.peer c.await_unit.new.link) (g.N.Link.Linked.arrived c.await_unit.new.link)
    (g.N.Watched.counts c.args.wire.now) (g.N.Watched.counts c.await_unit.new.wire) (λ x. c.requires.kept.exact (g.met.N.Wire.exact_links x))
    c.breach.result c.breach.ensures
    (λ told. (c.requires.kept.peer told, c.in-Breach.ensures.peer (c.requires.kept.nothing told))) c.in-Breach.ensures.counts

pub returns-in-Breach-clause-found : goal.returns-in-Breach-clause-found
returns-in-Breach-clause-found g c =
    bad_found (g.W.World.told c.args.parts.now.address) (pending_of c.args.parts.now.waiting) (g.N.Link.Linked.arrived c.await_unit.new.link)
    c.breach.result c.breach.ensures c.in-Breach.ensures.fits
    (bad_untold g.W.World c.args.parts.now.address (made_in c.args.parts.now.made.items) (pending_of c.args.parts.now.waiting) g.N.Watched.exact
    (g.N.Link.Linked.peer c.args.parts.now.link) (g.N.Link.Linked.peer c.await_unit.new.link) (g.N.Link.Linked.arrived c.await_unit.new.link)
    (g.N.Watched.counts c.args.wire.now) (g.N.Watched.counts c.await_unit.new.wire)
    (λ told. (c.requires.kept.peer told, c.in-Breach.ensures.peer (c.requires.kept.nothing told))))

pub returns-in-Breach-clause-owed : goal.returns-in-Breach-clause-owed
returns-in-Breach-clause-owed g c = λ told.
    breach_owed (pending_of c.args.parts.now.waiting) (g.N.Link.Linked.peer c.args.parts.now.link) (g.N.Link.Linked.arrived c.await_unit.new.link)
    c.breach.result c.breach.ensures

pub returns-in-Breach-clause-listened : goal.returns-in-Breach-clause-listened
returns-in-Breach-clause-listened g c =
    breach_listened g.W.World g.N.Link.Linked (pending_of c.args.parts.now.waiting)
    (record { link = c.await_unit.new.link; scan = c.await_unit.new.scan; address = c.args.parts.now.address; made = c.args.parts.now.made; waiting = c.replace-waiting.new.dest })
    (g.N.Link.Linked.arrived c.await_unit.new.link) c.breach.result c.breach.ensures (ap pending_of c.replace-waiting.ensures.after)

pub returns-in-Failed-clause-listened : goal.returns-in-Failed-clause-listened
returns-in-Failed-clause-listened g c = failed_listened g.W.World g.N.Link.Linked (pending_of c.args.parts.now.waiting)
    (record { link = c.await_unit.new.link; scan = c.await_unit.new.scan; address = c.args.parts.now.address; made = c.args.parts.now.made; waiting = c.replace-waiting.new.dest }) (ap pending_of c.replace-waiting.ensures.after)

pub returns-in-Memory-clause-listened : goal.returns-in-Memory-clause-listened
returns-in-Memory-clause-listened g c =
    memory_listened g.W.World g.N.Link.Linked (pending_of c.args.parts.now.waiting)
    (record { link = c.await_unit.new.link; scan = c.await_unit.new.scan; address = c.args.parts.now.address; made = c.args.parts.now.made; waiting = c.replace-waiting.new.dest }) (made_in c.args.parts.now.made.items) (ap pending_of c.replace-waiting.ensures.after) (λ name. refl)

pub returns-in-NotYet-clause-listened : goal.returns-in-NotYet-clause-listened
returns-in-NotYet-clause-listened g c =
    let still = still_told g.W.World c.args.parts.now.address (made_in c.args.parts.now.made.items) (pending_of c.args.parts.now.waiting) g.N.Watched.exact
    (g.N.Link.Linked.peer c.args.parts.now.link) (g.N.Link.Linked.peer c.await_unit.new.link) (g.N.Link.Linked.arrived c.await_unit.new.link)
    (g.N.Watched.counts c.args.wire.now) (g.N.Watched.counts c.await_unit.new.wire)
    (λ told. (c.requires.kept.peer told, c.in-NotYet.ensures.peer (c.requires.kept.nothing told))) in
    not_yet_listened g.W.World g.N.Link.Linked (pending_of c.args.parts.now.waiting)
    (record { link = c.await_unit.new.link; scan = c.await_unit.new.scan; address = c.args.parts.now.address; made = c.args.parts.now.made; waiting = c.replace-waiting.result })
    (ap pending_of c.replace-waiting.ensures.value)
    (λ waits. record {
      scanned = c.in-NotYet.ensures.scanned refl;
      nothing = λ told. (still told).0;
      peer = λ told. subst (λ waiting. IsToldTrue g.W.World c.args.parts.now.address (made_in c.args.parts.now.made.items) (pending_of waiting)
          (g.N.Link.Linked.peer c.await_unit.new.link)) (sym c.replace-waiting.ensures.value) (still told).1;
      exact = c.requires.kept.exact;
    })

-- ---- over a steady wire

pub returns-in-Unit-clause-steady : goal.returns-in-Unit-clause-steady
returns-in-Unit-clause-steady g c = λ told steady.
    found_steadily g.N.Link.Linked c.args.parts.now.address (g.N.Watched.happened c.args.wire.now) (pending_of c.args.parts.now.waiting) c.args.parts.now.link c.hear.new.parts.link c.await_unit.new.link c.in-Unit.size
    (c.in-Unit.ensures.steady (c.requires.kept.nothing told) (told_some g.W.World c.args.parts.now.address (made_in c.args.parts.now.made.items) (pending_of c.args.parts.now.waiting) (g.N.Link.Linked.peer c.args.parts.now.link) (c.requires.kept.peer told)) steady)
    c.hear.ensures.link
    (unit_holds g.W.World c.args.parts.now.address (made_in c.args.parts.now.made.items) (pending_of c.args.parts.now.waiting) g.N.Watched.exact (g.N.Link.Linked.arrived c.await_unit.new.link) (g.N.Watched.counts c.args.wire.now) (g.N.Watched.counts c.await_unit.new.wire)
    (g.N.Link.Linked.peer c.args.parts.now.link) (g.N.Link.Linked.peer c.await_unit.new.link) c.in-Unit.size
    (c.requires.kept.peer told) (c.in-Unit.ensures.peer (c.requires.kept.nothing told)))
    (told_at g.W.World c.args.parts.now.address (made_in c.args.parts.now.made.items) (pending_of c.args.parts.now.waiting) (g.N.Watched.happened c.args.wire.now) (g.N.Link.Linked.peer c.args.parts.now.link) (c.requires.kept.peer told))
    (g.W.World.told c.args.parts.now.address) (take c.in-Unit.size (g.N.Link.Linked.arrived c.await_unit.new.link)) (g.N.Link.Linked.arrived c.hear.new.parts.link)
    c.hear.result told
    (subst (λ waiting. FoundIn (g.W.World.told c.args.parts.now.address) (pending_of waiting) (take c.in-Unit.size (g.N.Link.Linked.arrived c.await_unit.new.link))
    (g.N.Link.Linked.arrived c.hear.new.parts.link) c.hear.result) c.replace-waiting.ensures.value c.hear.ensures.found)
    (returns-in-Unit-clause-owed g c told)

pub returns-in-NotYet-clause-steady : goal.returns-in-NotYet-clause-steady
returns-in-NotYet-clause-steady g c = λ told steady.
    not_yet_steadily g.N.Link.Linked c.args.parts.now.address (g.N.Watched.happened c.args.wire.now) (pending_of c.args.parts.now.waiting) c.args.parts.now.link c.await_unit.new.link
    (c.in-NotYet.ensures.steady (c.requires.kept.nothing told) (told_some g.W.World c.args.parts.now.address (made_in c.args.parts.now.made.items) (pending_of c.args.parts.now.waiting) (g.N.Link.Linked.peer c.args.parts.now.link) (c.requires.kept.peer told)) steady)
    (not_yet_same g.W.World c.args.parts.now.address (made_in c.args.parts.now.made.items) (pending_of c.args.parts.now.waiting) g.N.Watched.exact (g.N.Link.Linked.arrived c.await_unit.new.link) (g.N.Watched.counts c.args.wire.now) (g.N.Watched.counts c.await_unit.new.wire)
    (g.N.Link.Linked.peer c.args.parts.now.link) (g.N.Link.Linked.peer c.await_unit.new.link)
    (c.requires.kept.peer told) (c.in-NotYet.ensures.peer (c.requires.kept.nothing told)))

pub returns-in-Failed-clause-steady : goal.returns-in-Failed-clause-steady
returns-in-Failed-clause-steady g c = λ told steady.
    failed_steadily g.N.Link.Linked c.args.parts.now.address (g.N.Watched.happened c.args.wire.now) (pending_of c.args.parts.now.waiting) c.args.parts.now.link c.await_unit.new.link
    (c.in-Failed.ensures.steady (c.requires.kept.nothing told) (told_some g.W.World c.args.parts.now.address (made_in c.args.parts.now.made.items) (pending_of c.args.parts.now.waiting) (g.N.Link.Linked.peer c.args.parts.now.link) (c.requires.kept.peer told)) steady)
    (told_at g.W.World c.args.parts.now.address (made_in c.args.parts.now.made.items) (pending_of c.args.parts.now.waiting) (g.N.Watched.happened c.args.wire.now) (g.N.Link.Linked.peer c.args.parts.now.link) (c.requires.kept.peer told))

pub returns-in-Memory-clause-steady : goal.returns-in-Memory-clause-steady
returns-in-Memory-clause-steady g c = λ told steady.
    memory_steadily g.N.Link.Linked c.args.parts.now.address (g.N.Watched.happened c.args.wire.now) (pending_of c.args.parts.now.waiting) c.args.parts.now.link c.await_unit.new.link
    (c.in-Memory.ensures.steady (c.requires.kept.nothing told) (told_some g.W.World c.args.parts.now.address (made_in c.args.parts.now.made.items) (pending_of c.args.parts.now.waiting) (g.N.Link.Linked.peer c.args.parts.now.link) (c.requires.kept.peer told)) steady).number

pub returns-in-Breach-clause-steady : goal.returns-in-Breach-clause-steady
returns-in-Breach-clause-steady g c = λ told steady. absurd
    (bad_untold g.W.World c.args.parts.now.address (made_in c.args.parts.now.made.items) (pending_of c.args.parts.now.waiting) g.N.Watched.exact
    (g.N.Link.Linked.peer c.args.parts.now.link) (g.N.Link.Linked.peer c.await_unit.new.link) (g.N.Link.Linked.arrived c.await_unit.new.link) (g.N.Watched.counts c.args.wire.now) (g.N.Watched.counts c.await_unit.new.wire)
    (λ told. (c.requires.kept.peer told, c.in-Breach.ensures.peer (c.requires.kept.nothing told))) told)
