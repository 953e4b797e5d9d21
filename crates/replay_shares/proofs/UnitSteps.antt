-- A step of a client of units, within a run: what was begun before it, and then what it begins
use Rattle.std.proofs.Common.{◌≡◌, ◌≢◌, ◌⊎◌, ◌∙◌, ℕ, Bool, true, false, inl, inr, List, [], ◌∷◌, ◌++◌, map, Option, None, Some, Ok, refl, sym, ap, subst, append_assoc, append-nil}
use Rattle.std.specs.Prelude.{IfSome, option_to_list}
use Rattle.z_types.specs.declared.marks.End.{End}
use Rattle.z_types.specs.declared.marks.Mark.{Mark}
use Rattle.z_types.specs.declared.marks.Mark.TheVariants.{Plain}
use Rattle.z_types.specs.declared.requests.Request.{Request}
use Rattle.z_types.specs.declared.sitting.Sitting as sitting
use Rattle.z_types.specs.declared.work.Work.{Work}
use Rattle.z_types.specs.declared.world.World as world
use Rattle.route_config.specs.Sound.{IsSound}
use Rattle.route_config.specs.declared.route.Route.{Route}
use Rattle.replay.specs.gateway_rules.Answers as kind
use Rattle.replay.specs.gateway_rules.Answers.{kind_of}
use Rattle.replay.specs.gateway_rules.Asking as asking
use Rattle.replay.specs.gateway_rules.Asking.{Asking, asked_with}
use Rattle.replay.specs.gateway_rules.Course as at
use Rattle.replay.specs.gateway_rules.Course.{Meeting, met, octets_of}
use Rattle.replay.specs.gateway_rules.Fair.{IsFair}
use Rattle.replay.specs.gateway_rules.OneAnswer.{AreMarksPlain}
use Rattle.replay.proofs.gateway_rules.OneEnding.{frame-filled}
use Rattle.replay.specs.front_session.Admitting.{hits_named}
use Rattle.replay.specs.front_session.Sessions.{client_of, progress_of}
use Rattle.replay.specs.front_z.Units.{IsBegun, IsDueBegun, IsMetBegun, Served}
use Rattle.replay.specs.front_z.declared.units.Begun.{Begun}
use Rattle.replay.specs.front_z.declared.units.Begun.TheVariants as begun
use Rattle.replay.specs.front_sru.declared.state.SruStage.{SruStage}
use Rattle.replay.specs.front_sru.declared.state.SruStage.TheVariants as stage
use Rattle.package_shares.specs.package.steps.Ends.{cause_in}
use Rattle.package_shares.specs.package.steps.Packages.{IsPackageOf, PackageView, new_package}
use Rattle.replay.specs.front_conn.declared.stepped.Stepped.{Stepped}
use Rattle.replay.specs.front_conn.declared.stepped.Stepped.TheVariants.{Idle, NotYet, Went, Memory}
use Rattle.replay.specs.front_conn.declared.totals.Total.{Total}
use Rattle.replay.specs.front_conn.steps.Answering.{AnsweringState, EndsAt, IsKeptBehind, IsRequestEndedIf, Outside, served}
use Rattle.replay.specs.front_conn.steps.Feeding.{without_out}
use Rattle.replay.specs.front_conn.steps.States.{ConnectionState, IsConnOf, IsStateOf, Rests, StandsOrEnded, WorksAt}
use Rattle.replay.specs.front_conn.steps.Steps.{AreUnfinished, EndsByRest, GoesAhead, HasTurned, IsStepped, KeepsState, IsStepFrom, TakesHead, TakesUnit, UnlessMemory, answering_of}
use Rattle.replay.specs.front_conn.steps.Totals.{totals_for}
use Rattle.sharing_rules.specs.Uses.{DatedWork, Use}
use Rattle.sharing_rules.specs.steps.Shared.{AreInOrder}
use Rattle.package_shares.specs.steps.Requests.{MayWork, behind}
use Rattle.front_conn_works.specs.steps.Begun.{HasBegun, begun_by}
use Rattle.front_conn_works.proofs.BegunLemmas.{going-of}
use Rattle.replay.specs.Clients.{ClientState, is_idle}
use Rattle.replay.specs.Trace.{IsClientStep}
use Rattle.replay_shares.specs.Orderly.{dated}
use Rattle.replay_shares.specs.Works.{AskByUnits}
use Rattle.replay_shares.specs.steps.Going.{IsInWork, RestsBehind, uses_now}
use Rattle.replay_shares.specs.steps.Laws.{StepLaws, works_now}
use Rattle.replay_shares.specs.steps.Resting.{MayDo}
use Rattle.replay_shares.proofs.FrontLemmas.{begun-first, none-at-start}
use Rattle.replay_shares.proofs.WorkLemmas.{GoesBy, IsWorkDone, StaysInWork, begun-works, goes-same, may-next, now-works, once-rests, work-turned}

-- ---- what a step answers

unless-of : {F : Type 0} (answer : Stepped) → answer ≢ Memory → UnlessMemory answer F → F
unless-of Idle had h = h
unless-of NotYet had h = h
unless-of Went had h = h
unless-of Memory had h = absurd (had refl)

unless : {F : Type 0} (answer : Stepped) → F → UnlessMemory answer F
unless Idle h = h
unless NotYet h = h
unless Went h = h
unless Memory h = tt

wakes-by : (answer : Stepped) → false ≡ is_idle answer → answer ≢ Idle
wakes-by answer is e = let wrong : false ≡ true = is ∙ ap is_idle e in absurd cc

-- ---- a unit that is answered at once

-- its mark, if it has one, is Plain
marks-are : (mark other : Option Mark) → mark ≡ other → AreMarksPlain (option_to_list other) → AreMarksPlain (option_to_list mark)
marks-are mark other is plain = subst (λ (m : Option Mark). AreMarksPlain (option_to_list m)) (sym is) plain

due-plain : (route : Route) (due : Asking) (asks : Request) (old new : Served) (mark : Option Mark) (end : Option End)
    → IsDueBegun route due asks old new (begun.Write mark end) → AreMarksPlain (option_to_list mark)
due-plain route (asking.at_once reply) asks old new mark end b = marks-are mark (Some Plain) (let x = b.0 in cc) (refl, tt)
due-plain route (asking.works job) asks old new mark end b = let wrong = b.0 in absurd cc

met-plain : (meeting : Meeting) (route : Route) (offset : ℕ) (read : Option Request) (old new : Served) (mark : Option Mark) (end : Option End)
    → IsMetBegun meeting route offset read old new (begun.Write mark end) → AreMarksPlain (option_to_list mark)
met-plain at.bad route offset read old new mark end b = marks-are mark None (let x = b.0 in cc) tt
met-plain (at.beyond asks) route offset read old new mark end b = marks-are mark None (let x = b.0 in cc) tt
met-plain (at.closing close) route offset read old new mark end b = marks-are mark (Some Plain) (let x = b.0 in cc) (refl, tt)
met-plain (at.due asks) route offset read old new mark end b =
    due-plain route (asked_with (hits_named old.session.sets) route (client_of old.session) asks) asks old new mark end b

-- ---- lists

empty-back : (xs ys : List ℕ) → xs ++ ys ≡ [] → ys ≡ []
empty-back [] ys e = e
empty-back (x ∷ xs) ys e = absurd cc

-- what is begun where nothing is in work behind it
begins-no-more : {S : Type 0} (in_work : Option (PackageView S)) → begun_by in_work None ≡ []
begins-no-more None = refl
begins-no-more (Some view) = refl

-- one list more, and one work more
regroup : (asked works rest : List Work) (job : Work)
    → ((asked ++ works) ++ job ∷ []) ++ rest ≡ asked ++ (works ++ job ∷ rest)
regroup asked works rest job = append_assoc (asked ++ works) (job ∷ []) rest ∙ append_assoc asked works (job ∷ rest)

-- ---- where a connection of units stands

module _ {W S : Type 0} (w : world.Ghosts W) (route : Route) (octets written : List ℕ) (state : ConnectionState S) where
  pub rests-of : state.end ≡ None → state.in_work ≡ None → IsStateOf w route octets written state → Rests w route octets written state
  rests-of goes rests h =
      subst (λ (i : Option (PackageView S)). StandsOrEnded w route octets written state None i) rests
      (subst (λ (e : Option End). StandsOrEnded w route octets written state e state.in_work) goes h)

  works-at : (view : PackageView S) → state.end ≡ None → state.in_work ≡ Some view → IsStateOf w route octets written state
      → WorksAt w route octets written state state.stage view
  works-at view goes works h =
      subst (λ (i : Option (PackageView S)). StandsOrEnded w route octets written state None i) works
      (subst (λ (e : Option End). StandsOrEnded w route octets written state e state.in_work) goes h)

  -- it has come to a unit, and no GET waits
  in-session : (view : PackageView S) (here : SruStage) → kind_of octets ≢ kind.letter → WorksAt w route octets written state here view
      → (here ≡ stage.Idle) × (kind_of octets ≡ kind.unit)
  in-session view stage.Idle other k = (refl, k.kind)
  in-session view (stage.Searching retrieval) other k = absurd (other k.kind)
  in-session view (stage.Fetching retrieval hits) other k = absurd (other k.kind)

-- ---- a run

module _ {W S : Type 0} (w : world.Ghosts W) (t : sitting.Ghosts S W) (exact : Bool) (route : Route) (now : ℕ) (octets : List ℕ)
    (ended : Bool) (asked all : List Work) (before : List Use) (start : List Total) (most : ℕ) where
  -- A connection was begun these works since the run began: it stands so in its session, and all that it has begun are these behind
  -- those that were asked before; the last may be in work, and the others are done.
  pub record GoesSo (works : List Work) (written : List ℕ) (conn : ConnectionState S) (outside : Outside S) : Type 0 where
    pub of : IsConnOf w t route most conn
    pub stands : IsStateOf w route octets written conn
    pub input : conn.has_ended ≡ ended
    pub door : outside.door.counts.most ≡ most
    pub begun : HasBegun w route octets conn (asked ++ works)
    pub goes : GoesBy w t exact route now before start conn.in_work conn.end works conn.totals conn.marks outside
    pub waits : octets ≡ [] → ended ≡ false → conn.end ≡ None

  module _ (laws : StepLaws w t) (is : exact ≡ true) (fair : IsFair w route) (sound : IsSound route) (other : kind_of octets ≢ kind.letter)
      (asks : AskByUnits w route octets all) (falls : AreInOrder now before) (may : MayDo route before (works_now now asked all)) where
    -- its output is written
    pub written-goes : (works : List Work) (written : List ℕ) (conn : ConnectionState S) (outside : Outside S)
        → GoesSo works written conn outside → GoesSo works (written ++ conn.out) (without_out conn) outside
    written-goes works written conn outside h = record {
      of = (laws.of route most conn h.of).written;
      stands = laws.written route octets written conn h.stands;
      input = h.input;
      door = h.door;
      begun = (laws.begun route octets conn (asked ++ works) h.begun).written;
      goes = h.goes;
      waits = h.waits;
    }

    module _ (old new : ConnectionState S) (written : List ℕ) (works : List Work) (outside : Outside S) where
      -- what a step leaves of it
      record StepsSo (after : Outside S) : Type 0 where
        input : new.has_ended ≡ old.has_ended
        goes : GoesBy w t exact route now before start new.in_work new.end (works ++ begun_by old.in_work new.in_work) new.totals new.marks after
        waits : octets ≡ [] → ended ≡ false → new.end ≡ None

      -- what is in work behind a step, and what was begun
      goes-as : (in_work : Option (PackageView S)) (end : Option End) (more : List Work) (totals : List Total) (marks : List Mark)
          (after : Outside S) → new.in_work ≡ in_work → new.end ≡ end → works ++ begun_by old.in_work new.in_work ≡ more
          → new.totals ≡ totals → new.marks ≡ marks → GoesBy w t exact route now before start in_work end more totals marks after
          → GoesBy w t exact route now before start new.in_work new.end (works ++ begun_by old.in_work new.in_work) new.totals new.marks after
      goes-as in_work end more totals marks after a b c d e h =
          goes-same w t exact route now before start new.in_work in_work new.end end (works ++ begun_by old.in_work new.in_work) more
          new.totals totals new.marks marks after a b c d e h

      none-begun : new.in_work ≡ None → works ++ begun_by old.in_work new.in_work ≡ works
      none-begun e =
          ap (λ (i : Option (PackageView S)). works ++ begun_by old.in_work i) e
          ∙ ap (λ (ws : List Work). works ++ ws) (begins-no-more old.in_work) ∙ append-nil works

      still-begun : (view : PackageView S) → old.in_work ≡ Some view → works ++ begun_by old.in_work new.in_work ≡ works
      still-begun view e = ap (λ (i : Option (PackageView S)). works ++ begun_by i new.in_work) e ∙ append-nil works

      job-begun : (view : PackageView S) → old.in_work ≡ None → new.in_work ≡ Some view
          → begun_by old.in_work new.in_work ≡ view.work ∷ []
      job-begun view e f =
          ap (λ (i : Option (PackageView S)). begun_by i new.in_work) e ∙ ap (λ (i : Option (PackageView S)). begun_by None i) f

      -- ---- none is in work

      -- a work that is begun may be done
      job-may : (job : Work) → new.end ≡ None → new.in_work ≡ Some (new_package route job) → IsConnOf w t route most new
          → AreMarksPlain new.marks → HasBegun w route octets new ((asked ++ works) ++ job ∷ [])
          → MayWork route now (behind before (uses_now route now works)) job
      job-may job goes on of plain has =
          let first = begun-first w laws.decide route octets all asks new.left new.marks ((asked ++ works) ++ job ∷ []) plain
          (going-of w route octets new ((asked ++ works) ++ job ∷ []) goes has) in
          let order : all ≡ asked ++ (works ++ job ∷ first.rest) = first.is ∙ regroup asked works first.rest job in
          let may_all : MayDo route before (map (dated now) (works ++ job ∷ first.rest)) =
          subst (λ (ds : List DatedWork). MayDo route before ds) (now-works now asked (works ++ job ∷ first.rest) all order) may in
          let begins : IsPackageOf w t route most (new_package route job) =
          subst (λ (i : Option (PackageView S)). IfSome i (IsPackageOf w t route most)) on (of goes).in_work in
          may-next w t exact route now before start works job first.rest may_all begins.asks.there falls

      unit-goes : (unit : List ℕ) (answer : Begun) → old.in_work ≡ None
          → RestsBehind w t exact route now before start works old.totals old.marks outside
          → IsBegun route old.at unit (served (answering_of old)) (served (answering_of new)) answer
          → IsKeptBehind route (answering_of old) (answering_of new) new.end answer → IsConnOf w t route most new
          → HasBegun w route octets new ((asked ++ works) ++ begun_by old.in_work new.in_work)
          → GoesBy w t exact route now before start new.in_work new.end (works ++ begun_by old.in_work new.in_work) new.totals new.marks outside
      unit-goes unit begun.Memory none rests b kept of has = absurd kept
      unit-goes unit (begun.Write mark end) none rests b kept of has =
          goes-as None new.end works (totals_for route old.totals) (old.marks ++ option_to_list mark) outside kept.2 refl (none-begun kept.2)
          kept.3 kept.1
          (once-rests w t exact route now before start works old.totals old.marks (option_to_list mark) outside
          (met-plain (met route (progress_of old.at old.session) b.read) route old.at b.read (served (answering_of old)) (served (answering_of new)) mark end b.begun) rests)
      unit-goes unit (begun.Work job) none rests b kept of has =
          let own : begun_by old.in_work new.in_work ≡ job ∷ [] = job-begun (new_package route job) none kept.2 in
          let has_job : HasBegun w route octets new ((asked ++ works) ++ job ∷ []) =
          subst (λ (ws : List Work). HasBegun w route octets new ((asked ++ works) ++ ws)) own has in
          let plain : AreMarksPlain new.marks = subst AreMarksPlain (sym kept.1) rests.done.plain in
          goes-as (Some (new_package route job)) None (works ++ job ∷ []) (totals_for route old.totals) old.marks outside kept.2 kept.0
          (ap (λ (ws : List Work). works ++ ws) own) kept.3 kept.1 (
            refl,
            begun-works w t exact route now before start works job old.totals old.marks outside
                (job-may job kept.0 kept.2 of plain has_job) rests,
          )

      -- no octets are left where none came
      none-left : Rests w route octets written old → octets ≡ [] → old.left ≡ []
      none-left rb none = empty-back (octets_of rb.units) old.left (sym rb.spelled ∙ none)

      no-head : Rests w route octets written old → TakesHead route old new → ⊥
      no-head rb head =
          let none = none-at-start rb.units rb.answered.has_run.each (sym rb.offset ∙ head.at_start) in
          other (ap kind_of (rb.spelled ∙ ap (λ units. octets_of units ++ old.left) none) ∙ head.first)

      ahead-goes : (answer : Stepped) → answer ≢ Idle → answer ≢ Memory → old.end ≡ None → old.in_work ≡ None
          → GoesSo works written old outside → GoesAhead route old new answer → IsConnOf w t route most new
          → HasBegun w route octets new ((asked ++ works) ++ begun_by old.in_work new.in_work) → StepsSo outside
      ahead-goes Idle wakes had goes rests h ahead of has = absurd (wakes refl)
      ahead-goes NotYet wakes had goes rests h ahead of has = absurd ahead
      ahead-goes Memory wakes had goes rests h ahead of has = absurd (had refl)
      ahead-goes Went wakes had goes rests h ahead of has = by-taken ahead.2 where
        rb : Rests w route octets written old
        rb = rests-of w route octets written old goes rests h.stands

        none : RestsBehind w t exact route now before start works old.totals old.marks outside
        none = subst (λ (i : Option (PackageView S)). GoesBy w t exact route now before start i old.end works old.totals old.marks outside) rests h.goes

        by-taken : TakesUnit route old new ⊎ TakesHead route old new ⊎ EndsByRest old new → StepsSo outside
        by-taken (inl one) = record {
          input = ahead.1;
          goes = unit-goes one.unit one.begun.answer rests none one.begun.begun one.begun.kept of has;
          waits = λ empty unended. absurd (frame-filled one.unit new.left one.whole (sym (none-left rb empty) ∙ one.taken));
        }
        by-taken (inr (inl head)) = absurd (no-head rb head)
        by-taken (inr (inr rest)) = record {
          input = ahead.1;
          goes = goes-as None new.end works old.totals old.marks outside (rest.in_work ∙ rests) refl (none-begun (rest.in_work ∙ rests))
              rest.totals rest.marks none;
          waits = λ empty unended. absurd (ahead.0 (record {
            goes_on = h.input ∙ unended;
            unfinished = subst (λ (l : List ℕ). AreUnfinished old l) (sym (none-left rb empty)) tt;
          }));
        }

      -- ---- one is

      turned-goes : (answer : Stepped) (view : PackageView S) (after : Outside S) → answer ≢ Memory → old.end ≡ None
          → old.in_work ≡ Some view → GoesSo works written old outside
          → HasTurned w t exact route now view old new answer outside after → StepsSo after
      turned-goes answer view after had goes on h turned =
          by-turn (work-turned w t exact route now before start laws.shares is fair sound works view (answering_of old) (answering_of new)
          answer new.end outside after had in_work.1 turned.turns) where
            in_work : (old.end ≡ None) × IsInWork w t exact route now before start view works old.totals old.marks outside
            in_work = subst (λ (i : Option (PackageView S)). GoesBy w t exact route now before start i old.end works old.totals old.marks outside) on h.goes

            here : (old.stage ≡ stage.Idle) × (kind_of octets ≡ kind.unit)
            here = in-session w route octets written old view old.stage other (works-at w route octets written old view goes on h.stands)

            some-came : octets ≡ [] → ⊥
            some-came none = let wrong : kind.unit ≡ kind.empty = sym here.1 ∙ ap kind_of none in absurd cc

            by-turn : StaysInWork w t exact route now before start works (answering_of old) (answering_of new) answer new.end after
                ⊎ IsWorkDone w t exact route now before start works (answering_of old) (answering_of new) answer new.end after → StepsSo after
            by-turn (inl stays) = record {
              input = turned.input.has_ended;
              goes = goes-as (Some stays.next) None works old.totals old.marks after (ap (λ (a : AnsweringState S). a.in_work) stays.is) stays.goes_on
                  (still-begun view on) (ap (λ (a : AnsweringState S). a.totals) stays.is) (ap (λ (a : AnsweringState S). a.marks) stays.is)
                  (refl, stays.in_work);
              waits = λ none unended. absurd (some-came none);
            }
            by-turn (inr over) =
                let went : IsRequestEndedIf route over.next (answering_of old) (answering_of new) (Ok over.ended) =
                subst (λ (s : SruStage). EndsAt route s over.next (answering_of old) (answering_of new) (Ok over.ended)) here.0 over.went in record {
                  input = turned.input.has_ended;
                  goes = goes-as None new.end works new.totals (old.marks ++ (cause_in route over.next).mark ∷ []) after went.1 refl (still-begun view on)
                      refl went.3.marks over.rests;
                  waits = λ none unended. absurd (some-came none);
                }

      -- ---- either

      step-from : (answer : Stepped) (end : Option End) (in_work : Option (PackageView S)) (after : Outside S) → old.end ≡ end
          → old.in_work ≡ in_work → answer ≢ Idle → answer ≢ Memory → GoesSo works written old outside
          → IsStepFrom w t exact route now end in_work old new answer outside after → IsConnOf w t route most new
          → HasBegun w route octets new ((asked ++ works) ++ begun_by old.in_work new.in_work) → StepsSo after
      step-from answer (Some end) in_work after e on wakes had h s of has = absurd (wakes s.0)
      step-from answer None None after e on wakes had h s of has =
          subst (λ (o : Outside S). StepsSo o) (sym s.1) (ahead-goes answer wakes had e on h s.0 of has)
      step-from answer None (Some view) after e on wakes had h s of has = turned-goes answer view after had e on h s

      -- so it goes on behind a step that is not idle
      pub conn-steps : (answer : Stepped) (after : Outside S) → answer ≢ Idle → answer ≢ Memory → GoesSo works written old outside
          → IsStepped w t exact route now old new answer outside after → KeepsState w route old new
          → IsConnOf w t route after.door.counts.most new → after.door.counts.most ≡ outside.door.counts.most
          → GoesSo (works ++ begun_by old.in_work new.in_work) written new after
      conn-steps answer after wakes had h steps keeps of_after same =
          let at_most : after.door.counts.most ≡ most = same ∙ h.door in
          let of : IsConnOf w t route most new = subst (λ (m : ℕ). IsConnOf w t route m new) at_most of_after in
          let has : HasBegun w route octets new ((asked ++ works) ++ begun_by old.in_work new.in_work) =
          unless-of answer had (laws.begins exact route now octets written old new answer outside after (asked ++ works) fair other h.stands steps
          (unless answer keeps) h.begun) in
          let so = step-from answer old.end old.in_work after refl refl wakes had h steps of has in record {
            of = of;
            stands = keeps fair octets written h.stands;
            input = so.input ∙ h.input;
            door = at_most;
            begun = subst (λ (ws : List Work). HasBegun w route octets new ws) (append_assoc asked works (begun_by old.in_work new.in_work)) has;
            goes = so.goes;
            waits = so.waits;
          }

    -- a client that goes on, with what was begun
    abbrev pub ClientGoes : ClientState S → Outside S → Type 0
    ClientGoes client outside = (works : List Work) × GoesSo works client.written client.conn outside

    -- what it gives is written to the client
    pub step-written : (works : List Work) (idle : Bool) (old new : ClientState S) (outside after : Outside S)
        → (step : IsClientStep w t exact route now idle old new outside after) → GoesSo works old.written step.stepped_to after
        → GoesSo works new.written new.conn after
    step-written works idle old new outside after step h =
        subst (λ (c : ConnectionState S). GoesSo works new.written c after) (sym step.conn)
        (subst (λ (o : List ℕ). GoesSo works o (without_out step.stepped_to) after) (sym step.written)
        (written-goes works old.written step.stepped_to after h))

    pub client-steps : (old new : ClientState S) (outside after : Outside S) → IsClientStep w t exact route now false old new outside after
        → ClientGoes old outside → ClientGoes new after
    client-steps old new outside after step h =
        let works = h.0 ++ begun_by old.conn.in_work step.stepped_to.in_work in (
          works,
          step-written works false old new outside after step
              (conn-steps old.conn step.stepped_to old.written h.0 outside step.answer after (wakes-by step.answer step.is_idle) step.remembers h.1
              step.steps step.keeps step.of step.most),
        )
