-- What a request that is driven costs, and where the serving of its connection stands behind it
use Rattle.std.proofs.Common.{◌≡◌, ◌∙◌, ℕ, ◌≤◌, Bool, false, true, inl, inr, List, [], ◌∷◌, Option, None, Some, IsSome, ap, refl, subst, sym}
use Rattle.std.specs.Prelude.{option_map}
use Rattle.z_types.specs.Bounds.{most_legs}
use Rattle.z_types.specs.Chains.{HasStepped}
use Rattle.z_types.specs.declared.marks.End.{End}
use Rattle.z_types.specs.declared.sitting.Sitting as sitting
use Rattle.z_types.specs.declared.world.World as world
use Rattle.route_config.specs.declared.route.Route.{Route}
use Rattle.pool_sets.specs.Plain.{Pool}
use Rattle.conn_served.specs.leg.declared.answers.Turned.{Turned}
use Rattle.conn_served.specs.leg.declared.answers.Turned.TheVariants as turned
use Rattle.conn_served.specs.package.steps.Ends.{lost_seats}
use Rattle.conn_served.specs.package.steps.Packages.{PackageView}
use Rattle.conn_served.specs.front_conn.declared.stepped.Stepped.{Stepped}
use Rattle.conn_served.specs.front_conn.declared.stepped.Stepped.TheVariants.{Memory, Went}
use Rattle.conn_served.specs.front_conn.steps.Answering.{AnsweringState, Outside, WorksOn}
use Rattle.conn_served.specs.front_conn.steps.Drives as drives
use Rattle.conn_served.specs.front_conn.steps.Drives.{ConnAt, HasDriven, IsInWork, StepsTo, given_up_at}
use Rattle.conn_served.specs.front_conn.steps.States.{ConnectionState}
use Rattle.conn_served.specs.front_conn.steps.Steps.{IsStepFrom, answering_of}
use Rattle.conn_served.specs.front_conn_costs.steps.Conns.{dues_on}
use Rattle.conn_served.specs.front_conn_costs.steps.Laws.{CostsNothing, PaysOn, StepsMeet, StepsOweFew, StepsPay}
use Rattle.conn_served.specs.Runs.{GoesOnTo}
use Rattle.conn_served.specs.steps.Rounds.{GoesSo}
use Rattle.z_types.proofs.ChainLemmas.{steps-nowhere}
use Rattle.conn_served.proofs.LeftLemmas.{IsLeftBy, over-left}
use Rattle.conn_served.proofs.RoundLemmas.{so-on, step-so}
use Rattle.conn_served.proofs.ServingLemmas.{EndsSo, step-memory, step-went}

-- ---- a step behind which the request is still in work

module _ {S : Type 0} where
  -- it lists no mark, and nothing is fed
  pub record ListsNone (old new : ConnectionState S) : Type 0 where
    pub marks : new.marks ≡ old.marks
    pub has_ended : new.has_ended ≡ old.has_ended

  no-work : (works : Option (PackageView S)) → works ≡ None → IsSome works → ⊥
  no-work None rests some = let wrong : false ≡ true = some in absurd cc
  no-work (Some view) rests some = absurd cc

  left-marks : (route : Route) (view : PackageView S) (old new : AnsweringState S) → IsLeftBy route view old new → IsSome new.in_work
      → new.marks ≡ old.marks
  left-marks route view old new (inl left) some = absurd (no-work new.in_work left.0 some)
  left-marks route view old new (inr left) some = left.2

  works-marks : (route : Route) (answered : Turned) (view : PackageView S) (old new : AnsweringState S) (answer : Stepped) (end : Option End)
      → WorksOn route answered view old new answer end → IsSome new.in_work → new.marks ≡ old.marks
  works-marks route turned.Went view old new answer end h some = ap (λ (a : AnsweringState S). a.marks) h.1
  works-marks route turned.NotYet view old new answer end h some = ap (λ (a : AnsweringState S). a.marks) h.1
  works-marks route turned.Memory view old new answer end h some = ap (λ (a : AnsweringState S). a.marks) h.1
  works-marks route turned.Done view old new answer end h some =
      left-marks route view old new (over-left route view old new answer end h) some

module _ {W S : Type 0} (w : world.Ghosts W) (t : sitting.Ghosts S W) (exact : Bool) (route : Route) where
  lists-by : (now : ℕ) (old new : ConnectionState S) (answer : Stepped) (before behind : Outside S) (end : Option End)
      (works : Option (PackageView S)) → end ≡ None → IsSome works → IsSome new.in_work
      → IsStepFrom w t exact route now end works old new answer before behind → ListsNone old new
  lists-by now old new answer before behind (Some end) works goes some more h = absurd cc
  lists-by now old new answer before behind None None goes some more h = let wrong : false ≡ true = some in absurd cc
  lists-by now old new answer before behind None (Some view) goes some more h = record {
    marks = works-marks route h.turns.turned h.turns.next (answering_of old) (answering_of new) answer new.end h.turns.works more;
    has_ended = h.input.has_ended;
  }

  step-lists : (here next : ConnAt S) (answer : Stepped) → IsInWork here.conn → IsInWork next.conn → StepsTo w t exact route here next answer
      → ListsNone here.conn next.conn
  step-lists here next answer works more step =
      lists-by step.now here.conn next.conn answer here.outside next.outside here.conn.end here.conn.in_work works.goes_on works.works
      more.works step.stepped

  -- ---- all steps of a request that is driven

  module _ (meet : StepsMeet w t) (pay : StepsPay w t) (pays : PaysOn S) (nothing : CostsNothing S) where
    -- it went on so, the request is in work, and nothing was listed or fed
    pub record DrivesSo (first last : ConnAt S) : Type 0 where
      pub so : GoesSo w t exact route first last
      pub in_work : IsInWork last.conn
      pub lists : ListsNone first.conn last.conn

    drives-none : (first : ConnAt S) → IsInWork first.conn → DrivesSo first first
    drives-none first works = record {
      so = record {
        goes = steps-nowhere (GoesOnTo w t exact route) first;
        met = λ kind others h. h;
        paid = (nothing exact route first.conn first.outside).paid;
        marks = λ fit. fit;
      };
      in_work = works;
      lists = record { marks = refl; has_ended = refl };
    }

    drives-on : (first mid last : ConnAt S) → DrivesSo first mid → drives.GoesOnTo w t exact route mid last → DrivesSo first last
    drives-on first mid last one on =
        let same = step-lists mid last on.answer one.in_work on.in_work on.step in record {
          so = so-on w t exact route pays first mid last one.lists.marks one.so (step-so w t exact route meet pay mid last on.answer on.step);
          in_work = on.in_work;
          lists = record { marks = same.marks ∙ one.lists.marks; has_ended = same.has_ended ∙ one.lists.has_ended };
        }

    drives-by : (first last : ConnAt S) (earlier : List (ConnAt S)) → IsInWork first.conn → HasStepped (drives.GoesOnTo w t exact route) first earlier last
        → DrivesSo first last
    drives-by first last [] works same = subst (λ (p : ConnAt S). DrivesSo first p) (sym same) (drives-none first works)
    drives-by first last (mid ∷ earlier) works stepped = drives-on first mid last (drives-by first mid earlier works stepped.0) stepped.1

    module _ (first last : ConnAt S) (answer : Stepped) (works : IsInWork first.conn) (driven : HasDriven w t exact route first last answer) where
      abbrev amid-so : DrivesSo first driven.amid
      amid-so = drives-by first driven.amid driven.goes.0 works driven.goes.1

      -- they are steps of its serving
      pub driven-so : GoesSo w t exact route first last
      driven-so =
          so-on w t exact route pays first driven.amid last amid-so.lists.marks amid-so.so
          (step-so w t exact route meet pay driven.amid last answer driven.ends)

      -- and behind them no more addresses are due than a request has legs
      pub driven-few : StepsOweFew w t → (dues_on last.conn).unused ≤ most_legs
      driven-few few =
          few exact route driven.ends.now driven.amid.conn last.conn answer driven.amid.outside last.outside amid-so.in_work.goes_on
          driven.ends.stepped

    -- where the request is answered
    pub driven-ends : (first last : ConnAt S) → IsInWork first.conn → HasDriven w t exact route first last Went
        → EndsSo first.conn last.conn
    driven-ends first last works driven =
        let amid = amid-so first last Went works driven in
        let so = step-went w t exact route driven.ends.now driven.amid.conn last.conn driven.amid.outside last.outside driven.ends.stepped in
        record { ends = so.ends; has_ended = so.has_ended ∙ amid.lists.has_ended }

    -- where memory was wanting
    pub driven-memory : (first last : ConnAt S) → IsInWork first.conn → HasDriven w t exact route first last Memory
        → last.conn.marks ≡ first.conn.marks
    driven-memory first last works driven =
        step-memory w t exact route driven.ends.now driven.amid.conn last.conn driven.amid.outside last.outside driven.ends.stepped
        ∙ (amid-so first last Memory works driven).lists.marks

-- ---- a connection that is given up

module _ {S : Type 0} where
  lost-none : (told : Option (Pool S)) → option_map (lost_seats []) told ≡ told
  lost-none None = refl
  lost-none (Some pool) = refl

  -- the same, with another pool
  abbrev with_pool : ConnAt S → Option (Pool S) → ConnAt S
  with_pool here told = record {
    conn = here.conn;
    outside = record {
      door = record { pool = told; counts = here.outside.door.counts };
      backend = here.outside.backend;
    };
  }

  -- twice, as once
  pub given-twice : (here : ConnAt S) → given_up_at (given_up_at here) ≡ given_up_at here
  given-twice here = ap (with_pool (given_up_at here)) (lost-none (given_up_at here).outside.door.pool)
