-- All that a step costs, over steps and between them
use Rattle.std.proofs.Common.{ℕ, Bool, List, Option, None, Some, refl}
use Rattle.z_types.specs.declared.marks.End.{End}
use Rattle.z_types.specs.declared.sitting.Sitting as sitting
use Rattle.z_types.specs.declared.world.World as world
use Rattle.route_config.specs.Sound.{IsSound}
use Rattle.route_config.specs.declared.route.Route.{Route}
use Rattle.front_conn.specs.declared.stepped.Stepped.{Stepped}
use Rattle.front_conn.specs.declared.stepped.Stepped.TheVariants.{Idle, NotYet, Went, Memory}
use Rattle.front_conn.specs.steps.Answering.{Outside}
use Rattle.front_conn.specs.steps.Feeding.{fed_piece}
use Rattle.front_conn.specs.steps.States.{ConnectionState, IsConnOf}
use Rattle.front_conn.specs.steps.Steps.{IsStepped, UnlessMemory}
use Rattle.front_conn_costs.specs.steps.Laws.{IsCosted, StaysCosted}
use Rattle.front_conn_costs.proofs.ConnLemmas.{step-counts, step-meets}
use Rattle.front_conn_costs.proofs.KeptLemmas.{step-has, step-rests}
use Rattle.front_conn_costs.proofs.PaidLemmas.{nothing-paid, paid-on, step-pays}

module _ {W S : Type 0} (w : world.Ghosts W) (t : sitting.Ghosts S W) (exact : Bool) (route : Route) (now : ℕ)
    (old new : ConnectionState S) where
  pub step-costs : (answer : Stepped) (before behind : Outside S) → IsSound route → IsConnOf w t route before.door.counts.most old
      → IsStepped w t exact route now old new answer before behind → UnlessMemory answer (IsCosted exact route old new before behind)
  step-costs Idle before behind sound of h = record {
    rests = λ rests. step-rests route old new w t exact now Idle before behind old.end old.in_work refl refl (λ e. absurd cc) rests h;
    totals = λ has. step-has route w t exact now old new Idle before behind old.end old.in_work refl refl has h;
    counted = λ has. step-counts w t exact route now old new Idle before behind of old.end old.in_work refl refl sound has h;
    met = step-meets w t exact route now old new Idle before behind of old.end old.in_work refl refl h;
    paid = step-pays w t exact route now old new Idle before behind of old.end old.in_work refl refl h;
  }
  step-costs NotYet before behind sound of h = record {
    rests = λ rests. step-rests route old new w t exact now NotYet before behind old.end old.in_work refl refl (λ e. absurd cc) rests h;
    totals = λ has. step-has route w t exact now old new NotYet before behind old.end old.in_work refl refl has h;
    counted = λ has. step-counts w t exact route now old new NotYet before behind of old.end old.in_work refl refl sound has h;
    met = step-meets w t exact route now old new NotYet before behind of old.end old.in_work refl refl h;
    paid = step-pays w t exact route now old new NotYet before behind of old.end old.in_work refl refl h;
  }
  step-costs Went before behind sound of h = record {
    rests = λ rests. step-rests route old new w t exact now Went before behind old.end old.in_work refl refl (λ e. absurd cc) rests h;
    totals = λ has. step-has route w t exact now old new Went before behind old.end old.in_work refl refl has h;
    counted = λ has. step-counts w t exact route now old new Went before behind of old.end old.in_work refl refl sound has h;
    met = step-meets w t exact route now old new Went before behind of old.end old.in_work refl refl h;
    paid = step-pays w t exact route now old new Went before behind of old.end old.in_work refl refl h;
  }
  step-costs Memory before behind sound of h = tt

module _ {S : Type 0} (exact : Bool) (route : Route) where
  pub costed-on : (old mid new : ConnectionState S) (before amid behind : Outside S) → IsCosted exact route old mid before amid
      → IsCosted exact route mid new amid behind → IsCosted exact route old new before behind
  costed-on old mid new before amid behind one other = record {
    rests = λ rests. other.rests (one.rests rests);
    totals = λ has. other.totals (one.totals has);
    counted = λ has number is others e. other.counted (one.totals has) number is others (one.counted has number is others e);
    met = λ kind others e. other.met kind others (one.met kind others e);
    paid = paid-on old mid new before amid behind one.paid other.paid;
  }

  pub costs-none : (state : ConnectionState S) (outside : Outside S) → IsCosted exact route state state outside outside
  costs-none state outside = record {
    rests = λ rests. rests;
    totals = λ has. has;
    counted = λ has number is others e. e;
    met = λ kind others e. e;
    paid = nothing-paid state outside;
  }

  -- a state of which nothing that counts has changed
  fed-costed : (state : ConnectionState S) (piece : List ℕ) (outside : Outside S) (end : Option End)
      → IsCosted exact route state (fed_piece end state piece) outside outside
  fed-costed state piece outside None =
      let none = nothing-paid state outside in
      record {
        rests = λ rests. rests;
        totals = λ has. record { made = has.made; in_work = has.in_work };
        counted = λ has number is others e. e;
        met = λ kind others e. e;
        paid = record { cost = none.cost; raised = none.raised; paid = none.paid };
      }
  fed-costed state piece outside (Some end) = costs-none state outside

  pub stays-costed : (state : ConnectionState S) (outside : Outside S) → StaysCosted S exact route state outside
  stays-costed state outside =
      let none = nothing-paid state outside in
      record {
        fed = λ piece. fed-costed state piece outside state.end;
        ended = record {
          rests = λ rests. rests;
          totals = λ has. record { made = has.made; in_work = has.in_work };
          counted = λ has number is others e. e;
          met = λ kind others e. e;
          paid = record { cost = none.cost; raised = none.raised; paid = none.paid };
        };
        written = record {
          rests = λ rests. rests;
          totals = λ has. record { made = has.made; in_work = has.in_work };
          counted = λ has number is others e. e;
          met = λ kind others e. e;
          paid = record { cost = none.cost; raised = none.raised; paid = none.paid };
        };
      }
