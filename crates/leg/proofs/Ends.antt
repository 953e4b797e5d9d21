-- How a leg goes on after a fault, at the end of its patience, for want of memory and once it is done
use Rattle.std.proofs.Common.{◌≡◌, ◌≤◌, ◌<◌, ◌+◌, ℕ, Bool, true, false, is_some, max, refl, ap, subst, sym, arith, if◌then◌else◌}
use Rattle.std.proofs.lemmas.Bool.{le-leb, lt-leb}
use Rattle.z_types.specs.declared.marks.Mark.TheVariants as mark
use Rattle.z_types.specs.declared.sitting.Sitting as sitting
use Rattle.z_types.specs.declared.world.World as world
use Rattle.pool_sets.specs.declared.doors.Seat.{Seat}
use Rattle.leg.specs.declared.accounts.Account.{Account}
use Rattle.leg.specs.declared.answers.LegAnswer.TheVariants as answer
use Rattle.leg.specs.declared.phases.Held.{Held}
use Rattle.leg.specs.declared.phases.Phase.{Phase}
use Rattle.leg.specs.declared.phases.Phase.TheVariants.{Losing, Redialling, Spoiled, Done}
use Rattle.leg.specs.declared.answers.LegAnswer.{LegAnswer}
use Rattle.route_config.specs.declared.route.PoolNumbers.{PoolNumbers}
use Rattle.leg.specs.declared.tasks.Task.{Task}
use Rattle.leg.specs.Accounts.{more, counted, no_rises}
use Rattle.leg.specs.Right.{AnswerFits, IsRight, IsCaused}
use Rattle.leg.specs.Kept.{AccountKept, IsWithin, ahead_of, ahead_with, nothing_ahead, one_if, may_wait}
use Rattle.leg.specs.Phases.{is_done}
use Rattle.leg.specs.Rules.{after_fault, unless_silent}
use Rattle.leg.specs.Tasks.{want_of, MayDo}
use Rattle.leg.specs.Terms.{Terms}
use Rattle.leg.specs.steps.Follows.{Holds}
use Rattle.leg.proofs.AccountSteps.{account_goes, within_on, within_wait, within_still, fault, on_enough, redial_enough, fault_enough, end_enough, spoil_enough, ahead_spoiled}

pub spent_once : (n : ℕ) → 1 ≤ more true n
spent_once n = omega arith

pub silent_is : {S : Type 0} (patience looks : ℕ) (held : Held S) (again : Phase S) → patience ≤ looks
    → Losing held.seat (answer.Marked (mark.Silent patience)) ≡ unless_silent patience held looks again
silent_is patience looks held again h = rw (le-leb patience looks h) refl

-- it is looked again
pub again_is : {S : Type 0} (patience looks : ℕ) (held : Held S) (again : Phase S) → looks < patience
    → again ≡ unless_silent patience held looks again
again_is patience looks held again h = rw (lt-leb patience looks h) refl

-- a look in vain is known
pub wait_account : (wanted given : Bool) (looks class : ℕ) (a b : Account) → b ≡ counted class no_rises given (looks + 1) a
    → AccountKept (ahead_with (one_if wanted) given) looks a → AccountKept (ahead_with (one_if wanted) given) (looks + 1) b
wait_account wanted given looks class a b e k =
    account_goes (ahead_with (one_if wanted) given) (ahead_with (one_if wanted) given) looks (looks + 1) class no_rises given (looks + 1) a b e (on_enough wanted given) (omega arith) k

before_last : (looks p : ℕ) → looks + 1 < p → looks + 1 + 1 ≤ p
before_last looks p h = omega arith

pub wait_within : {S : Type 0} (pool : PoolNumbers) (old new : Phase S) (class : ℕ) (given : Bool) (looks : ℕ) (a b : Account) → b ≡ counted class no_rises given (looks + 1) a
    → may_wait old ≡ 1 → may_wait new ≡ 1 → looks ≤ a.looks → looks + 1 < pool.patience → IsWithin pool old a → IsWithin pool new b
wait_within pool old new class given looks a b e wait waits few h n =
    within_wait pool old new class no_rises given looks a b e refl wait few (rw waits (before_last looks pool.patience h)) n

module _ {W S : Type 0} (w : world.Ghosts W) (t : sitting.Ghosts S W) (terms : Terms) (task : Task) where
  -- ---- a fault of a session
  pub fault_holds : (most : ℕ) (old : Phase S) (held : Held S) (wanted : Bool) (l looks : ℕ) (a b : Account)
      → b ≡ counted terms.class fault held.given looks a → may_wait old ≡ 1 → looks ≤ a.looks → MayDo task
      → AccountKept (ahead_with (one_if wanted) held.given) l a → IsWithin terms.pool old a
      → Holds w t terms task most (after_fault held) b
  fault_holds most old held wanted l looks a b e wait few m k n =
      (elim (held.given) as (λ given. b ≡ counted terms.class fault given looks a → AccountKept (ahead_with (one_if wanted) given) l a
      → Holds w t terms task most (if given then Redialling held.seat else Losing held.seat (answer.Marked mark.Link)) b) [
        | true ↦ λ e k. record {
          kept = record {
            may = m;
            session = tt;
            account = account_goes (ahead_with (one_if wanted) true) (ahead_of {S = S} (want_of task) (Redialling held.seat)) l 0 terms.class fault true looks a b e
                (redial_enough wanted (is_some (want_of task))) (omega arith) k;
          };
          stands = tt;
          within = within_on terms.pool old (Redialling held.seat) terms.class fault true looks a b e refl wait few n;
        }
        | false ↦ λ e k. record {
          kept = record {
            may = m;
            session = tt;
            account = account_goes (ahead_with (one_if wanted) false) nothing_ahead l 0 terms.class fault false looks a b e (fault_enough wanted) (omega arith) k;
          };
          stands = (tt, subst (λ (x : Account). 1 ≤ x.spent) (sym e) (spent_once a.spent));
          within = within_on terms.pool old (Losing held.seat (answer.Marked mark.Link)) terms.class fault false looks a b e refl wait few n;
        }
      ]) e k

  pub fault_not_done : (held : Held S) → false ≡ is_done (after_fault held)
  fault_not_done held =
      elim (held.given) as (λ given. false ≡ is_done {S = S} (if given then Redialling held.seat else Losing held.seat (answer.Marked mark.Link))) [
        | true ↦ refl
        | false ↦ refl
      ]

  -- ---- the end of the patience
  silent_cause : (m n p : ℕ) → p ≤ n → p ≤ max m n
  silent_cause m n p h = omega arith

  last_look : (looks m p : ℕ) → looks ≤ m → m + 1 ≤ p → looks + 1 + 0 ≤ p
  last_look looks m p h k = omega arith

  pub silent_holds : (most : ℕ) (old : Phase S) (seat : Seat) (wanted given : Bool) (looks : ℕ) (a b : Account)
      → b ≡ counted terms.class no_rises given (looks + 1) a → may_wait old ≡ 1 → terms.pool.patience ≤ looks + 1 → MayDo task
      → AccountKept (ahead_with (one_if wanted) given) looks a → IsWithin terms.pool old a
      → Holds w t terms task most (Losing seat (answer.Marked (mark.Silent terms.pool.patience))) b
  silent_holds most old seat wanted given looks a b e wait h m k n =
      let left = rw wait at n.looks in
      let phase : Phase S = Losing seat (answer.Marked (mark.Silent terms.pool.patience)) in
      record {
        kept = record {
          may = m;
          session = tt;
          account = account_goes (ahead_with (one_if wanted) given) nothing_ahead looks 0 terms.class no_rises given (looks + 1) a b e (end_enough wanted given) (omega arith) k;
        };
        stands = (tt, (refl, subst (λ (x : Account). terms.pool.patience ≤ x.looks) (sym e) (silent_cause a.looks (looks + 1) terms.pool.patience h)));
        within = within_wait terms.pool old phase terms.class no_rises given looks a b e refl wait k.most_looks (last_look looks a.looks terms.pool.patience k.most_looks left) n;
      }

  -- ---- want of memory
  pub spoiled_holds : (most : ℕ) (old : Phase S) (seat : Seat) (wanted given : Bool) (l : ℕ) (a b : Account)
      → b ≡ counted terms.class no_rises given 0 a → may_wait old ≡ 1 → MayDo task
      → AccountKept (ahead_with (one_if wanted) given) l a → IsWithin terms.pool old a
      → Holds w t terms task most (Spoiled seat) b
  spoiled_holds most old seat wanted given l a b e wait m k n = record {
    kept = record {
      may = m;
      session = tt;
      account = account_goes (ahead_with (one_if wanted) given) ahead_spoiled l 0 terms.class no_rises given 0 a b e (spoil_enough wanted given) (omega arith) k;
    };
    stands = tt;
    within = within_on terms.pool old (Spoiled seat) terms.class no_rises given 0 a b e refl wait (omega arith) n;
  }

  -- a leg that has its seat alone, or none
  pub still_spoiled : (most : ℕ) (old new : Phase S) (a b : Account) → b ≡ counted terms.class no_rises false 0 a → may_wait new ≡ 0 → ahead_of (want_of task) new ≡ ahead_spoiled
      → AccountKept ahead_spoiled 0 a → IsWithin terms.pool old a → AccountKept ahead_spoiled 0 b × IsWithin terms.pool new b
  still_spoiled most old new a b e wait h k n = (
    account_goes ahead_spoiled ahead_spoiled 0 0 terms.class no_rises false 0 a b e refl (omega arith) k,
    within_still terms.pool old new terms.class no_rises false a b e refl wait n,
  )

  -- ---- a leg that is done
  still_most : (a n : ℕ) → n ≤ a → n ≤ max a 0
  still_most a n h = omega arith

  -- a turn in which no count rises keeps a cause
  still_caused : (pool : PoolNumbers) (most class : ℕ) (given : Bool) (a : Account) (reply : LegAnswer) → IsCaused pool most a reply
      → IsCaused pool most (counted class no_rises given 0 a) reply
  still_caused pool most class given a (answer.Marked mark.Link) k = k
  still_caused pool most class given a (answer.Marked (mark.Silent looks)) k = (k.0, still_most a.looks pool.patience k.1)
  still_caused pool most class given a (answer.Marked mark.Gone) k = k
  still_caused pool most class given a (answer.Marked (mark.Full sessions)) k = k
  still_caused pool most class given a (answer.Marked mark.Plain) k = tt
  still_caused pool most class given a (answer.Hits hits) k = tt
  still_caused pool most class given a (answer.Refused diag) k = tt
  still_caused pool most class given a (answer.Items items) k = tt
  still_caused pool most class given a (answer.Broken items diag) k = tt
  still_caused pool most class given a (answer.Scanned entries) k = tt

  pub done_holds : (most then_most : ℕ) (old : Phase S) (reply : LegAnswer) (given : Bool) (a b : Account)
      → b ≡ counted terms.class no_rises given 0 a → then_most ≡ most → MayDo task → AnswerFits task reply
      → IsRight w terms task reply → IsCaused terms.pool most a reply
      → AccountKept nothing_ahead 0 a → IsWithin terms.pool old a
      → Holds w t terms task then_most (Done reply) b
  done_holds most then_most old reply given a b e same m fits right caused k n = record {
    kept = record {
      may = m;
      session = fits;
      account = account_goes nothing_ahead nothing_ahead 0 0 terms.class no_rises given 0 a b e refl (omega arith) k;
    };
    stands = (
      right,
      subst (λ (n : ℕ). IsCaused terms.pool n b reply) (sym same)
          (subst (λ (x : Account). IsCaused terms.pool most x reply) (sym e) (still_caused terms.pool most terms.class given a reply caused)),
      ap (λ (x : Account). x.class) e,
    );
    within = within_still terms.pool old (Done reply) terms.class no_rises given a b e refl refl n;
  }
