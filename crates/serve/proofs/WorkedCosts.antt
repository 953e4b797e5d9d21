-- What connections cost that are served one behind another.
use Rattle.std.proofs.Common.{◌≡◌, ◌∙◌, ℕ, ◌+◌, List, [], ◌∷◌, ◌++◌, sym, ap, subst, append_assoc, append-nil, arith}
use Rattle.std.specs.List.{AllByRecursion}
use Rattle.std.proofs.lemmas.List.Sums.{sum_by_push}
use Rattle.route_config.specs.declared.route.PoolNumbers.{PoolNumbers}
use Rattle.conn_served.specs.front_conn_costs.steps.Growth.{RisesEnough}
use Rattle.conn_served.specs.front_conn_costs.steps.Ledgers.{Cost}
use Rattle.conn_served.proofs.front_conn_costs.GrowthLemmas.{as-both, enough-both}
use Rattle.conn_served.specs.Costs.{AreMarksOf, ArePaid, HaveCauses, Tally, needed, tallied, undialled}
use Rattle.serve.specs.Working.{HaveCost, needed_by, undialled_by}
use Rattle.conn_served.specs.declared.served.Served.{Served}

abbrev no_cost : Cost
no_cost = record { dials = 0; searches = 0; gones = 0; faults = 0; booked = 0; opens = 0 }

abbrev cost_sum : Cost → Cost → Cost
cost_sum one other = record {
  dials = one.dials + other.dials;
  searches = one.searches + other.searches;
  gones = one.gones + other.gones;
  faults = one.faults + other.faults;
  booked = one.booked + other.booked;
  opens = one.opens + other.opens;
}

paid-none : (tally : Tally) → ArePaid 0 tally tally
paid-none tally = record {
  cost = no_cost;
  raised = record {
    searches = λ others h. h;
    booked = λ others h. h;
    opens = λ others h. h;
    dials = λ others h. h;
    gones = λ others h. h;
    faults = λ others h. h;
  };
  searches = omega arith;
  opens = omega arith;
}

paid-both : (left more : ℕ) (before amid behind : Tally) → ArePaid left before amid → ArePaid more amid behind
    → ArePaid (left + more) before behind
paid-both left more before amid behind f g =
    let fs = f.searches in
    let gs = g.searches in
    let fo = f.opens in
    let go = g.opens in record {
      cost = cost_sum f.cost g.cost;
      raised = record {
        searches = as-both 0 f.cost.searches 0 g.cost.searches before.backend.searches amid.backend.searches behind.backend.searches
            f.raised.searches g.raised.searches;
        booked = as-both 0 f.cost.booked 0 g.cost.booked before.door.booked amid.door.booked behind.door.booked
            f.raised.booked g.raised.booked;
        opens = as-both 0 f.cost.opens 0 g.cost.opens before.door.opens amid.door.opens behind.door.opens f.raised.opens g.raised.opens;
        dials = enough-both 0 f.cost.dials 0 g.cost.dials before.backend.dials amid.backend.dials behind.backend.dials
            f.raised.dials g.raised.dials;
        gones = enough-both 0 f.cost.gones 0 g.cost.gones before.backend.gones amid.backend.gones behind.backend.gones
            f.raised.gones g.raised.gones;
        faults = enough-both 0 f.cost.faults 0 g.cost.faults before.backend.faults amid.backend.faults behind.backend.faults
            f.raised.faults g.raised.faults;
      };
      searches = omega (arith, fs, gs);
      opens = omega (arith, fo, go);
    }

all-push : {X : Type 0} (P : X → Type 0) (xs : List X) (x : X) → AllByRecursion P xs → P x → AllByRecursion P (xs ++ x ∷ [])
all-push P [] x all one = (one, tt)
all-push P (y ∷ xs) x all one = (all.0, all-push P xs x all.1 one)

module _ (pool : PoolNumbers) where
  -- no connection was served
  pub cost-none : (served : List Served) (tally : Tally) → HaveCost pool served served tally tally
  cost-none served tally = record {
    others = [];
    served = sym (append-nil served);
    causes = λ kind others h. h;
    marks = tt;
    paid = paid-none tally;
  }

  -- the list is the same
  pub cost-same : (old mid new : List Served) (before behind : Tally) → new ≡ mid → HaveCost pool old mid before behind
      → HaveCost pool old new before behind
  cost-same old mid new before behind e h = subst (λ (s : List Served). HaveCost pool old s before behind) (sym e) h

  -- one connection more was served
  pub cost-more : (old mid new : List Served) (came : Served) (before amid behind : Tally) → HaveCost pool old mid before amid
      → new ≡ mid ++ came ∷ [] → amid.door.most ≡ before.door.most → HaveCauses pool came.marks amid behind
      → AreMarksOf pool amid.door.most came.marks → ArePaid (undialled came.end) amid behind → HaveCost pool old new before behind
  cost-more old mid new came before amid behind h listed same causes marks paid = record {
    others = h.others ++ came ∷ [];
    served = listed ∙ ap (λ (earlier : List Served). earlier ++ came ∷ []) h.served ∙ append_assoc old h.others (came ∷ []);
    causes = λ kind.
        subst (λ (n : ℕ). RisesEnough 0 n (tallied kind before) (tallied kind behind))
        (sym (sum_by_push (λ (one : Served). needed pool one.marks kind) h.others came))
        (enough-both 0 (needed_by pool h.others kind) 0 (needed pool came.marks kind) (tallied kind before) (tallied kind amid)
        (tallied kind behind) (h.causes kind) (causes kind));
    marks = all-push (λ (one : Served). AreMarksOf pool before.door.most one.marks) h.others came h.marks
        (subst (λ (n : ℕ). AreMarksOf pool n came.marks) same marks);
    paid = subst (λ (n : ℕ). ArePaid n before behind)
        (sym (sum_by_push (λ (one : Served). undialled one.end) h.others came))
        (paid-both (undialled_by h.others) (undialled came.end) before amid behind h.paid paid);
  }
