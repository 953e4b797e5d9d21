use Rattle.std.proofs.Common.{◌≡◌, ◌∙◌, Option, None, ap, refl, sym, subst}
use Rattle.z_types.specs.declared.marks.End.{End}
use Rattle.conn_served.specs.Serving.{Streams, streams}
use Rattle.conn_served.specs.front_conn.steps.Drives.{ConnAt, conn_at, outside_of}
use Rattle.conn_served.specs.steps.Rounds.{IsBetween}
use Rattle.z_types.specs.declared.marks.End.TheVariants.{Memory}
use Rattle.conn_served.specs.steps.Serving.{GoesOn, IsWrittenOut}
use Rattle.conn_served.specs.front_conn.steps.States.{ConnectionState, IsConnOf}
use Rattle.conn_served.specs.Costs.{AreMarksOf, ArePaid, HaveCauses, undialled}
use Rattle.conn_served.specs.Runs.{GoesOnTo}
use Rattle.z_types.proofs.ChainLemmas.{steps-nowhere, steps-on}
use Rattle.conn_served.proofs.RoundLemmas.{all-caused, all-paid, between-starts, marks-on, round-meets, stands-so, tally_in}
use Rattle.conn_served.proofs.ServingLemmas.{serving-memory, serving-starts}
use Rattle.serve.proofs.serving.serve_to_end.Goals as goal

pub loop-round-init : goal.loop-round-init
loop-round-init g c =
    let start : Streams = streams g.I.Source g.K.Sink c.args.source.now c.args.sink.now in record {
      at = subst (λ (s : ConnectionState g.row.S.Denot). IsWrittenOut g.W.World c.args.route.now start start s) (sym c.requires.new)
          (serving-starts g.W.World g.S.Sitting c.args.route.now start c.stands_at_start.ensures);
      of = subst
          (λ (s : ConnectionState g.row.S.Denot).
          IsConnOf g.W.World g.S.Sitting c.args.route.now (g.D.Door.counts c.args.door.now).most s)
          (sym c.requires.new) (λ e. record { sets = tt; in_work = tt; one_work = tt });
      goes = steps-nowhere (GoesOnTo g.W.World g.S.Sitting g.B.Watched.exact c.args.route.now)
          (conn_at g.D.Door g.B.Watched c.args.conn.now c.args.door.now c.args.backend.now);
      met = λ kind others h. h;
      paid = (c.costs_nothing.ensures g.B.Watched.exact c.args.route.now c.args.conn.now
          (outside_of g.D.Door g.B.Watched c.args.door.now c.args.backend.now)).paid;
      marks = subst
          (λ (s : ConnectionState g.row.S.Denot). AreMarksOf c.args.route.now.pool (g.D.Door.counts c.args.door.now).most s.marks)
          (sym c.requires.new) tt;
      between = subst (λ (s : ConnectionState g.row.S.Denot). IsBetween s) (sym c.requires.new) between-starts;
      most = refl;
    }

pub returns-in-Some-clause-served : goal.returns-in-Some-clause-served
returns-in-Some-clause-served g c =
    c.in-Some.ensures.goes (streams g.I.Source g.K.Sink c.args.source.now c.args.sink.now) c.loop-round.invariant.at

pub returns-clause-served : goal.returns-clause-served
returns-clause-served g c =
    serving-memory g.W.World g.S.Sitting c.args.route.now (streams g.I.Source g.K.Sink c.args.source.now c.args.sink.now)
    (streams g.I.Source g.K.Sink c.loop-round.source c.loop-round.sink) c.loop-round.conn c.loop-round.conn.marks refl
    c.loop-round.invariant.at.serving

pub loop-round-preserved : goal.loop-round-preserved
loop-round-preserved g c =
    let start : Streams = streams g.I.Source g.K.Sink c.args.source.now c.args.sink.now in
    let first : ConnAt g.row.S.Denot = conn_at g.D.Door g.B.Watched c.args.conn.now c.args.door.now c.args.backend.now in
    let mid : ConnAt g.row.S.Denot = conn_at g.D.Door g.B.Watched c.loop-round.conn c.loop-round.door c.loop-round.backend in
    let here : ConnAt g.row.S.Denot = conn_at g.D.Door g.B.Watched c.go_on.new.conn c.go_on.new.door c.go_on.new.backend in
    let none : c.go_on.result ≡ None = c.in_default.is in
    let round = stands-so g.W.World g.S.Sitting g.B.Watched.exact c.args.route.now mid here c.go_on.result none c.go_on.ensures.round in record {
      at = subst
          (λ (e : Option End).
          GoesOn g.W.World c.args.route.now start (streams g.I.Source g.K.Sink c.go_on.new.source c.go_on.new.sink) c.go_on.new.conn e)
          none (c.go_on.ensures.goes start c.loop-round.invariant.at);
      of = c.go_on.ensures.of;
      goes = steps-on (GoesOnTo g.W.World g.S.Sitting g.B.Watched.exact c.args.route.now) first mid here c.loop-round.invariant.goes round.so.goes;
      met = round-meets c.args.route.now.pool first.conn mid.conn here.conn first.outside mid.outside here.outside
          c.loop-round.invariant.met round.so.met;
      paid = c.pays_on.ensures first.conn mid.conn here.conn first.outside mid.outside here.outside
          c.loop-round.invariant.paid round.so.paid;
      marks = marks-on c.args.route.now.pool (c.go_on.ensures.most ∙ c.loop-round.invariant.most) mid.conn.marks
          here.conn.marks round.so.marks c.loop-round.invariant.marks;
      between = round.leaves c.loop-round.invariant.between;
      most = c.go_on.ensures.most ∙ c.loop-round.invariant.most;
    }

pub returns-in-Some-clause-causes : goal.returns-in-Some-clause-causes
returns-in-Some-clause-causes g c =
    let first : ConnAt g.row.S.Denot = conn_at g.D.Door g.B.Watched c.args.conn.now c.args.door.now c.args.backend.now in
    let mid : ConnAt g.row.S.Denot = conn_at g.D.Door g.B.Watched c.loop-round.conn c.loop-round.door c.loop-round.backend in
    let round = c.in-Some.ensures.round in
    let last = round.last in
    subst (λ (p : ConnAt g.row.S.Denot). HaveCauses c.args.route.now.pool p.conn.marks (tally_in first.outside) (tally_in p.outside))
    (sym round.left)
    (all-caused c.marks_are_met.ensures c.starts_costless.ensures c.args.route.now first.conn last.conn first.outside last.outside c.requires.new
    (round-meets c.args.route.now.pool first.conn mid.conn last.conn first.outside mid.outside last.outside
    c.loop-round.invariant.met round.so.met))

pub returns-in-Some-clause-paid : goal.returns-in-Some-clause-paid
returns-in-Some-clause-paid g c =
    let first : ConnAt g.row.S.Denot = conn_at g.D.Door g.B.Watched c.args.conn.now c.args.door.now c.args.backend.now in
    let mid : ConnAt g.row.S.Denot = conn_at g.D.Door g.B.Watched c.loop-round.conn c.loop-round.door c.loop-round.backend in
    let round = c.in-Some.ensures.round in
    let last = round.last in
    subst (λ (p : ConnAt g.row.S.Denot). ArePaid (undialled c.in-Some.end) (tally_in first.outside) (tally_in p.outside)) (sym round.left)
    (all-paid first.conn last.conn first.outside last.outside c.in-Some.end c.requires.new
    (round.leaves c.loop-round.invariant.between)
    (c.pays_on.ensures first.conn mid.conn last.conn first.outside mid.outside last.outside c.loop-round.invariant.paid round.so.paid))

pub returns-in-Some-clause-marks : goal.returns-in-Some-clause-marks
returns-in-Some-clause-marks g c =
    let mid : ConnAt g.row.S.Denot = conn_at g.D.Door g.B.Watched c.loop-round.conn c.loop-round.door c.loop-round.backend in
    let round = c.in-Some.ensures.round in
    let most = ap (λ (p : ConnAt g.row.S.Denot). p.outside.door.counts.most) (sym round.left) ∙ c.in-Some.ensures.most ∙ c.loop-round.invariant.most in
    subst (λ (p : ConnAt g.row.S.Denot). AreMarksOf c.args.route.now.pool (g.D.Door.counts c.args.door.now).most p.conn.marks) (sym round.left)
    (marks-on c.args.route.now.pool most mid.conn.marks round.last.conn.marks round.so.marks c.loop-round.invariant.marks)

pub returns-in-Some-clause-comes : goal.returns-in-Some-clause-comes
returns-in-Some-clause-comes g c =
    let first : ConnAt g.row.S.Denot = conn_at g.D.Door g.B.Watched c.args.conn.now c.args.door.now c.args.backend.now in
    let mid : ConnAt g.row.S.Denot = conn_at g.D.Door g.B.Watched c.loop-round.conn c.loop-round.door c.loop-round.backend in
    let round = c.in-Some.ensures.round in record {
      last = round.last;
      stepped = steps-on (GoesOnTo g.W.World g.S.Sitting g.B.Watched.exact c.args.route.now) first mid round.last c.loop-round.invariant.goes round.so.goes;
      left = round.left;
    }

pub returns-clause-causes : goal.returns-clause-causes
returns-clause-causes g c =
    let first : ConnAt g.row.S.Denot = conn_at g.D.Door g.B.Watched c.args.conn.now c.args.door.now c.args.backend.now in
    let mid : ConnAt g.row.S.Denot = conn_at g.D.Door g.B.Watched c.loop-round.conn c.loop-round.door c.loop-round.backend in
    all-caused c.marks_are_met.ensures c.starts_costless.ensures c.args.route.now first.conn mid.conn first.outside mid.outside c.requires.new
    c.loop-round.invariant.met

pub returns-clause-paid : goal.returns-clause-paid
returns-clause-paid g c =
    let first : ConnAt g.row.S.Denot = conn_at g.D.Door g.B.Watched c.args.conn.now c.args.door.now c.args.backend.now in
    let mid : ConnAt g.row.S.Denot = conn_at g.D.Door g.B.Watched c.loop-round.conn c.loop-round.door c.loop-round.backend in
    all-paid first.conn mid.conn first.outside mid.outside Memory c.requires.new c.loop-round.invariant.between.few c.loop-round.invariant.paid

pub returns-clause-comes : goal.returns-clause-comes
returns-clause-comes g c = record {
  last = conn_at g.D.Door g.B.Watched c.loop-round.conn c.loop-round.door c.loop-round.backend;
  stepped = c.loop-round.invariant.goes;
  left = refl;
}
