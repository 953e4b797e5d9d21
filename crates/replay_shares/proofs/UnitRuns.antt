-- A run of a client of units: it takes all that its octets ask, each work is done, and then it rests
use Rattle.std.proofs.Common.{◌≡◌, ◌≢◌, ◌∙◌, ◌+◌, ℕ, Bool, true, false, List, [], ◌∷◌, ◌++◌, length, Option, None, Some, Result, Ok, Err, refl, sym, ap, subst, append-nil}
use Rattle.std.specs.Char.{is_ascii_alphabetic}
use Rattle.std.specs.Prelude.{IsTrue, if◌then◌else◌}
use Rattle.z_types.specs.Bounds.{within64}
use Rattle.z_types.specs.declared.marks.End.{End}
use Rattle.z_types.specs.declared.memory.Memory.{Memory as NoMemory}
use Rattle.z_types.specs.declared.sitting.Sitting as sitting
use Rattle.z_types.specs.declared.work.Work.{Work}
use Rattle.z_types.specs.declared.world.World as world
use Rattle.route_config.specs.Sound.{IsSound}
use Rattle.route_config.specs.declared.route.Route.{Route}
use Rattle.replay.specs.gateway_rules.Answers as kind
use Rattle.replay.specs.gateway_rules.Answers.{IsReceived, Kind, kind_of}
use Rattle.replay.specs.gateway_rules.Course.{Received, course, octets_of}
use Rattle.replay.specs.gateway_rules.Fair.{IsFair}
use Rattle.replay.specs.gateway_rules.OneAnswer.{AreMarksPlain}
use Rattle.replay.specs.gateway_rules.Session as session
use Rattle.replay.specs.gateway_rules.Session.{IsServed, Run, Stop, run}
use Rattle.replay.specs.gateway_rules.State.{Progress, at_the_start, new_client}
use Rattle.replay.proofs.gateway_rules.OneEnding.{frame-filled}
use Rattle.replay.specs.front_session.Sessions.{progress_of}
use Rattle.replay.specs.sru_rules.Answers.{Answers, AnswersAs}
use Rattle.package_shares.specs.package.steps.Packages.{PackageView}
use Rattle.package_shares.specs.leg.declared.answers.Turned.{Turned}
use Rattle.package_shares.specs.leg.declared.answers.Turned.TheVariants as turned
use Rattle.replay.specs.front_conn.declared.stepped.Stepped.{Stepped}
use Rattle.replay.specs.front_conn.declared.stepped.Stepped.TheVariants.{Idle, NotYet, Went, Memory}
use Rattle.replay.specs.front_conn.declared.totals.Total.{Total}
use Rattle.replay.specs.front_conn.steps.Answering.{AnsweringState, IsEndAfter, Outside, WorksOn}
use Rattle.replay.specs.front_conn.steps.States.{ConnectionState, IsConnOf, IsStateOf, MayCome, Rests, StandsOrEnded}
use Rattle.replay.specs.front_conn.steps.Steps.{AreUnfinished, BeginsWithLetter, GoesAhead, NothingWaits, IsStepFrom, answering_of}
use Rattle.sharing_rules.specs.Needed.{count_after}
use Rattle.sharing_rules.specs.Uses.{Use, uses_of}
use Rattle.sharing_rules.specs.steps.Shared.{AreInOrder}
use Rattle.front_conn_works.specs.steps.Begun.{AreWorksIn, HasBegun}
use Rattle.front_conn_works.proofs.BegunLemmas.{going-of}
use Rattle.replay.specs.Clients.{ClientState, is_idle}
use Rattle.replay.specs.Trace.{AreSteps, HasRun, IsClientStep, Point}
use Rattle.replay_shares.specs.Works.{Ask, AskByUnits}
use Rattle.replay_shares.specs.steps.Costs.{cost_on, is_needed}
use Rattle.replay_shares.specs.steps.Going.{RestsBehind}
use Rattle.replay_shares.specs.steps.Laws.{HasRunSo, RunsOfGetsShare, RunsOfUnitsShare, RunsShare, StepLaws, works_now}
use Rattle.replay_shares.specs.steps.Resting.{HasAskedAs, IsKeptOver, IsResting, MayDo}
use Rattle.replay_shares.proofs.FrontLemmas.{asks-units, begun-all, none-all, none-at-start, units-all}
use Rattle.replay_shares.proofs.UnitSteps.{GoesSo, client-steps, rests-of, step-written}
use Rattle.replay_shares.proofs.WorkLemmas.{GoesBy, cost-now, first-rests, kept-now}

idle-by : (answer : Stepped) → true ≡ is_idle answer → answer ≡ Idle
idle-by Idle is = refl
idle-by NotYet is = absurd cc
idle-by Went is = absurd cc
idle-by Memory is = absurd cc

-- nothing may always come
none-comes : (has_ended : Bool) → MayCome has_ended []
none-comes true = refl
none-comes false = tt

-- a run that stands wants no cause
stands-served : (stop : Stop) (there : Progress) → stop ≡ session.standing there → IsServed stop
stands-served stop there is = subst IsServed (sym is) tt

-- ---- what a connection of units has asked

module _ {W S : Type 0} (w : world.Ghosts W) (route : Route) (octets : List ℕ) (conn : ConnectionState S) (asked : List Work)
    (other : kind_of octets ≢ kind.letter) where
  begun-asked : (k : Kind) → k ≢ kind.letter → HasAskedAs w route octets conn asked k → HasBegun w route octets conn asked
  begun-asked kind.empty apart h = h
  begun-asked kind.letter apart h = absurd (apart refl)
  begun-asked kind.unit apart h = h

  asked-begun : (k : Kind) → k ≢ kind.letter → HasBegun w route octets conn asked → HasAskedAs w route octets conn asked k
  asked-begun kind.empty apart h = h
  asked-begun kind.letter apart h = absurd (apart refl)
  asked-begun kind.unit apart h = h

-- ---- where nothing is left to do

module _ {W S : Type 0} (w : world.Ghosts W) (t : sitting.Ghosts S W) (laws : StepLaws w t) (route : Route) (octets written : List ℕ)
    (conn : ConnectionState S) (begun all : List Work) (other : kind_of octets ≢ kind.letter) (asks : AskByUnits w route octets all)
    (plain : AreMarksPlain conn.marks) (has : HasBegun w route octets conn begun) (stands : IsStateOf w route octets written conn) where
  over-by : (k : Kind) (end : End) → kind_of octets ≡ k → AreWorksIn w route octets conn.marks begun
      → AnswersAs k w route octets conn.marks (written ++ conn.out) end → begun ≡ all
  over-by kind.empty end is whole answers = none-all w laws.decide route octets all asks conn.marks begun is whole
  over-by kind.letter end is whole answers = absurd (other is)
  over-by kind.unit end is whole answers =
      units-all w laws.decide route octets all asks conn.marks (written ++ conn.out) end begun is plain whole answers

  -- a connection that has ended has begun all
  over-all : (end : End) → conn.end ≡ Some end → begun ≡ all
  over-all end is =
      let said : (more : List ℕ) → MayCome conn.has_ended more → Answers w route (octets ++ more) conn.marks (written ++ conn.out) end =
      subst (λ (e : Option End). StandsOrEnded w route octets written conn e conn.in_work) is stands in
      let answers : Answers w route octets conn.marks (written ++ conn.out) end =
      subst (λ (o : List ℕ). Answers w route o conn.marks (written ++ conn.out) end) (append-nil octets) (said [] (none-comes conn.has_ended)) in
      over-by (kind_of octets) end refl (laws.ended route octets conn end begun is has) answers

  -- one that rests where nothing waits begins with no letter
  letter-is : (b : Bool) → IsTrue b → (if b then kind.letter else kind.unit) ≡ kind.letter
  letter-is true h = refl
  letter-is false h = absurd cc

  no-letter : (octet : ℕ) (rest : List ℕ) → Rests w route octets written conn → conn.left ≡ octet ∷ rest → BeginsWithLetter conn octet → ⊥
  no-letter octet rest rb is first =
      let none = none-at-start rb.units rb.answered.has_run.each (sym rb.offset ∙ first.0) in
      other (ap kind_of (rb.spelled ∙ ap (λ units. octets_of units ++ conn.left) none ∙ is) ∙ letter-is (is_ascii_alphabetic octet) first.1)

  no-unit : (left : List ℕ) → Rests w route octets written conn → conn.left ≡ left → AreUnfinished conn left → (unit : Received) (more : List ℕ)
      → IsReceived unit → left ≡ unit.octets ++ more → ⊥
  no-unit [] rb is unfinished unit more received e = frame-filled unit.octets more received.0 e
  no-unit (octet ∷ rest) rb is unfinished unit more received e =
      (unfinished.unit (no-letter octet rest rb is)).0 (unit.octets, more, received.0, e)

  -- and has begun all
  rest-all : conn.end ≡ None → conn.in_work ≡ None → NothingWaits conn → begun ≡ all
  rest-all goes rests waits =
      let rb = rests-of w route octets written conn goes rests stands in
      let served = stands-served (run w route new_client (course route at_the_start rb.units) rb.answered.causes).stop
      (progress_of (length (octets_of rb.units)) conn.session) (ap (λ (r : Run). r.stop) rb.answered.has_run.runs ∙ rb.answered.standing) in
      begun-all w laws.decide route octets all asks conn.left conn.marks begun rb.units rb.answered.causes plain
      (going-of w route octets conn begun goes has) rb.answered.has_run.each rb.spelled rb.answered.of_marks served
      (no-unit conn.left rb refl waits.unfinished)

-- ---- the last step of a run

works-wake : {S : Type 0} (route : Route) (said : Turned) (next : PackageView S) (old new : AnsweringState S) (answer : Stepped) (end : Option End)
    → WorksOn route said next old new answer end → answer ≡ Idle → ⊥
works-wake route turned.Went next old new answer end on e = let wrong : Went ≡ Idle = sym on.0 ∙ e in absurd cc
works-wake route turned.NotYet next old new answer end on e = let wrong : NotYet ≡ Idle = sym on.0 ∙ e in absurd cc
works-wake route turned.Memory next old new answer end on e = let wrong : Memory ≡ Idle = sym on.0 ∙ e in absurd cc
works-wake route turned.Done next old new answer end on e = done-wakes on.done on.after where
  done-wakes : (done : Result (Option End) NoMemory) → IsEndAfter done end answer → ⊥
  done-wakes (Ok ended) after = let wrong : Went ≡ Idle = sym after.1 ∙ e in absurd cc
  done-wakes (Err want) after = let wrong : Memory ≡ Idle = sym after.1 ∙ e in absurd cc

module _ {W S : Type 0} (w : world.Ghosts W) (t : sitting.Ghosts S W) (exact : Bool) (route : Route) (now : ℕ) (octets : List ℕ)
    (ended : Bool) (asked all : List Work) (before : List Use) (start : List Total) (most : ℕ) (laws : StepLaws w t)
    (other : kind_of octets ≢ kind.letter) (asks : AskByUnits w route octets all) where
  abbrev Goes : List Work → List ℕ → ConnectionState S → Outside S → Type 0
  Goes works written conn outside = GoesSo w t exact route now octets ended asked all before start most works written conn outside

  -- it changed nothing, and all that was asked is done
  record EndsSo (works : List Work) (old new : ConnectionState S) (outside after : Outside S) : Type 0 where
    same : new ≡ old
    still : after ≡ outside
    none : old.in_work ≡ None
    done : asked ++ works ≡ all

  module _ (works : List Work) (written : List ℕ) (old new : ConnectionState S) (outside after : Outside S) (h : Goes works written old outside) where
    by-work : (in_work : Option (PackageView S)) → old.in_work ≡ in_work → GoesBy w t exact route now before start in_work old.end works old.totals old.marks outside
    by-work in_work on =
        subst (λ (i : Option (PackageView S)). GoesBy w t exact route now before start i old.end works old.totals old.marks outside) on h.goes

    idle-ahead : (answer : Stepped) → answer ≡ Idle → old.end ≡ None → old.in_work ≡ None → GoesAhead route old new answer → after ≡ outside
        → EndsSo works old new outside after
    idle-ahead Idle is goes rests ahead still = record {
      same = ahead.1;
      still = still;
      none = rests;
      done = rest-all w t laws route octets written old (asked ++ works) all other asks (by-work None rests).done.plain h.begun h.stands goes
          rests ahead.0;
    }
    idle-ahead NotYet is goes rests ahead still = absurd cc
    idle-ahead Went is goes rests ahead still = absurd cc
    idle-ahead Memory is goes rests ahead still = absurd cc

    idle-from : (answer : Stepped) (end : Option End) (in_work : Option (PackageView S)) → answer ≡ Idle → old.end ≡ end
        → old.in_work ≡ in_work → IsStepFrom w t exact route now end in_work old new answer outside after → EndsSo works old new outside after
    idle-from answer (Some end) None is e on s = record {
      same = s.1;
      still = s.2;
      none = on;
      done = over-all w t laws route octets written old (asked ++ works) all other asks (by-work None on).done.plain h.begun h.stands end e;
    }
    idle-from answer (Some end) (Some view) is e on s =
        let goes = by-work (Some view) on in
        let wrong : Some end ≡ None = sym e ∙ goes.0 in absurd cc
    idle-from answer None None is e on s = idle-ahead answer is e on s.0 s.1
    idle-from answer None (Some view) is e on s =
        absurd (works-wake route s.turns.turned s.turns.next (answering_of old) (answering_of new) answer new.end s.turns.works is)

-- ---- a run

module _ {W S : Type 0} (w : world.Ghosts W) (t : sitting.Ghosts S W) (exact : Bool) (route : Route) (now : ℕ) (octets : List ℕ)
    (ended : Bool) (asked all : List Work) (before : List Use) (start : List Total) (most : ℕ) (laws : StepLaws w t) (is : exact ≡ true)
    (fair : IsFair w route) (sound : IsSound route) (other : kind_of octets ≢ kind.letter) (asks : AskByUnits w route octets all)
    (falls : AreInOrder now before) (may : MayDo route before (works_now now asked all)) where
  abbrev Going : ClientState S → Outside S → Type 0
  Going client outside =
      (works : List Work)
      × GoesSo w t exact route now octets ended asked all before start most works client.written client.conn outside

  steps-go : (earlier : List (Point S)) (first last : Point S) → AreSteps w t exact route now first earlier last
      → Going first.client first.outside → Going last.client last.outside
  steps-go [] first last h g = subst (λ (p : Point S). Going p.client p.outside) (sym h) g
  steps-go (mid ∷ earlier) first last h g =
      client-steps w t exact route now octets ended asked all before start most laws is fair sound other asks falls may mid.client last.client
      mid.outside last.outside h.1 (steps-go earlier first mid h.0 g)

  -- the last one finds all done
  run-ends : (old last new : ClientState S) (outside after : Outside S) → old.conn.totals ≡ start
      → IsClientStep w t exact route now true last new outside after → Going last outside
      → (first : Outside S) → first.door.counts.most ≡ most
      → HasRunSo w t route now octets ended asked all before old new first after
  run-ends old last new outside after from step h first same =
      let works = h.0 in
      let goes = h.1 in
      let ends = idle-from w t exact route now octets ended asked all before start most laws other asks works last.written last.conn
      step.stepped_to outside after goes step.answer last.conn.end last.conn.in_work (idle-by step.answer step.is_idle) refl refl step.steps in
      let stays : GoesSo w t exact route now octets ended asked all before start most works last.written step.stepped_to after =
      subst (λ (c : ConnectionState S). GoesSo w t exact route now octets ended asked all before start most works last.written c after) (sym ends.same)
      (subst (λ (o : Outside S). GoesSo w t exact route now octets ended asked all before start most works last.written last.conn o) (sym ends.still) goes) in
      let k = step-written w t exact route now octets ended asked all before start most laws is fair sound other asks falls may works true last new
      outside after step stays in
      let none : new.conn.in_work ≡ None =
      ap (λ (c : ConnectionState S). c.in_work) step.conn ∙ ap (λ (c : ConnectionState S). c.in_work) ends.same ∙ ends.none in
      let rests : RestsBehind w t exact route now before start works new.conn.totals new.conn.marks after =
      subst (λ (i : Option (PackageView S)). GoesBy w t exact route now before start i new.conn.end works new.conn.totals new.conn.marks after)
      none k.goes in record {
        door = k.door ∙ sym same;
        rests = record {
          of = subst (λ (m : ℕ). IsConnOf w t route m new.conn) (sym same) k.of;
          stands = k.stands;
          input = k.input;
          rests = none;
          made = rests.done.made;
          plain = rests.done.plain;
          has_asked = asked-begun w route octets new.conn all other (kind_of octets) other
              (subst (λ (ws : List Work). HasBegun w route octets new.conn ws) ends.done k.begun);
          waits = k.waits;
        };
        kept = kept-now w t exact route now before start asked works all new.conn.totals new.conn.marks after (sym ends.done) rests;
        cost = λ number class others.
            cost-now w t exact route now before start asked works all new.conn.totals new.conn.marks after (sym ends.done) rests number class others
            ∙ ap (λ (ts : List Total). within64 (others + (cost_on number class ts
            + count_after (is_needed w route number class) before (uses_of route (works_now now asked all))))) (sym from);
      }

-- Runs of clients of units share.
pub units-share : {W S : Type 0} (w : world.Ghosts W) (t : sitting.Ghosts S W) → StepLaws w t → RunsOfUnitsShare w t
units-share {S = S} w t laws exact route now octets ended asked all before old new outside after other is fair sound rests kept ask falls may run =
    let start = old.conn.totals in
    let most = outside.door.counts.most in
    let asks = asks-units w route octets all other ask in
    let first : GoesSo w t exact route now octets ended asked all before start most [] old.written old.conn outside = record {
      of = rests.of;
      stands = rests.stands;
      input = rests.input;
      door = refl;
      begun = subst (λ (ws : List Work). HasBegun w route octets old.conn ws) (sym (append-nil asked))
          (begun-asked w route octets old.conn asked other (kind_of octets) other rests.has_asked);
      goes = subst (λ (i : Option (PackageView S)). GoesBy w t exact route now before start i old.conn.end [] old.conn.totals old.conn.marks outside)
          (sym rests.rests) (first-rests w t exact route now before start old.conn.marks outside rests.made rests.plain kept);
      waits = rests.waits;
    } in
    run-ends w t exact route now octets ended asked all before start most laws is fair sound other asks falls may old run.last.client new
    run.last.outside after refl run.rests
    (steps-go w t exact route now octets ended asked all before start most laws is fair sound other asks falls may run.earlier
    (record { client = old; outside = outside }) run.last run.steps ([], first)) outside refl

-- ---- either kind

kinds-share : {W S : Type 0} (w : world.Ghosts W) (t : sitting.Ghosts S W) → RunsOfUnitsShare w t → RunsOfGetsShare w t
    → (k : Kind) (exact : Bool) (route : Route) (now : ℕ) (octets : List ℕ) (ended : Bool) (asked all : List Work) (before : List Use)
    (old new : ClientState S) (outside after : Outside S)
    → kind_of octets ≡ k → exact ≡ true → IsFair w route → IsSound route
    → IsResting w t route outside.door.counts.most octets ended asked old → IsKeptOver w t route now before outside
    → Ask w route octets all → AreInOrder now before → MayDo route before (works_now now asked all)
    → HasRun w t exact route now old new outside after
    → HasRunSo w t route now octets ended asked all before old new outside after
kinds-share w t units gets kind.letter exact route now octets ended asked all before old new outside after of =
    gets exact route now octets ended asked all before old new outside after of
kinds-share w t units gets kind.empty exact route now octets ended asked all before old new outside after of =
    units exact route now octets ended asked all before old new outside after
    (λ e. (let wrong : kind.empty ≡ kind.letter = sym of ∙ e in absurd cc))
kinds-share w t units gets kind.unit exact route now octets ended asked all before old new outside after of =
    units exact route now octets ended asked all before old new outside after
    (λ e. (let wrong : kind.unit ≡ kind.letter = sym of ∙ e in absurd cc))

-- where the runs of clients of units share, and of HTTP, all do
pub runs-share : {W S : Type 0} (w : world.Ghosts W) (t : sitting.Ghosts S W) → RunsOfUnitsShare w t → RunsOfGetsShare w t → RunsShare w t
runs-share w t units gets exact route now octets ended asked all before old new outside after is fair sound rests kept ask falls may run =
    kinds-share w t units gets (kind_of octets) exact route now octets ended asked all before old new outside after refl is fair sound rests kept
    ask falls may run
