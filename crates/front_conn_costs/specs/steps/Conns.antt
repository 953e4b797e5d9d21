-- What a connection has counted, and what its marks came of (this project's own)
use Rattle.std.specs.Prelude.{◌≡◌, ℕ, ◌+◌, ◌*◌, ◌<◌, List, length, map, IfSome, IsSome, None}
use Rattle.std.specs.List.{count_by, range_with_len, sum_by}
use Rattle.z_types.specs.declared.marks.Mark.{Mark}
use Rattle.route_config.specs.declared.route.PoolNumbers.{PoolNumbers}
use Rattle.route_config.specs.declared.route.Route.{Route}
use Rattle.front_conn.specs.declared.totals.Total.{Total}
use Rattle.front_conn.specs.steps.Answering.{Outside, legs_in}
use Rattle.front_conn.specs.steps.States.{ConnectionState}
use Rattle.front_conn.specs.steps.Totals.{totals_for}
use Rattle.front_conn_costs.specs.steps.Growth.{last64}
use Rattle.front_conn_costs.specs.steps.Ledgers.{Cost, Dues, IsPaid, IsRaised, dues_in}
use Rattle.front_conn_costs.specs.steps.Numbers.{Caused, Number, dials, faults, gones, in_account, in_counts, is_of, met_by, met_outside, searches, weight}

-- ---- what it has counted

-- a number in the sum of a class
abbrev pub in_total : Number → Total → ℕ
in_total dials total = total.dials
in_total searches total = total.searches
in_total gones total = total.gones
in_total faults total = total.faults

-- a sum for each class of the route, in their order
abbrev pub AreTotalsOf : Route → List Total → Type 0
AreTotalsOf route totals =
    map (λ total. total.class) totals ≡ range_with_len 0 (length route.classes)

module _ {S : Type 0} where
  -- all its legs have counted: those of requests that are answered, by class, and those in work
  abbrev pub counted_on : Number → ConnectionState S → ℕ
  counted_on number state =
      sum_by (in_total number) state.totals
      + sum_by (λ leg. in_account number leg.account) (legs_in state.in_work)

  -- its sums are the route's, or not made yet; they are made where a request is in work
  pub record HasTotals (route : Route) (state : ConnectionState S) : Type 0 where
    pub made : AreTotalsOf route (totals_for route state.totals)
    pub in_work : IfSome state.in_work (λ view. AreTotalsOf route state.totals)

  -- where it has ended no request is in work
  abbrev pub RestsIfEnded : ConnectionState S → Type 0
  RestsIfEnded state = IsSome state.end → state.in_work ≡ None

  -- what is counted outside
  abbrev pub outside_counts : Number → Outside S → ℕ
  outside_counts number outside = in_counts number outside.backend.counts

-- ---- what its marks came of

-- how many of a kind were listed
abbrev pub marks_of : Caused → List Mark → ℕ
marks_of kind marks = count_by (is_of kind) marks

module _ {S : Type 0} where
  -- how often their cause was met at least, with what the legs in work met
  abbrev pub met_on : PoolNumbers → Caused → ConnectionState S → ℕ
  met_on pool kind state =
      weight pool kind * marks_of kind state.marks
      + sum_by (λ leg. met_by kind leg.account) (legs_in state.in_work)

  -- what is counted of it outside
  abbrev pub outside_meets : Caused → Outside S → ℕ
  outside_meets kind outside = met_outside kind outside.door.counts outside.backend.counts

-- ---- what its legs have paid for

module _ {S : Type 0} where
  -- what is paid for and not used yet, of the legs in work
  abbrev pub dues_on : ConnectionState S → Dues
  dues_on state = dues_in (legs_in state.in_work)

  -- its searches and the addresses that the door named were paid for, at some cost
  pub record PaysFor (old new : ConnectionState S) (before behind : Outside S) : Type 0 where
    pub cost : Cost
    pub raised : IsRaised cost before.door.counts behind.door.counts before.backend.counts
        behind.backend.counts
    pub paid : IsPaid cost (dues_on old) (dues_on new)

  -- no count of these stands at its end
  pub record AreBelowEnd (outside : Outside S) : Type 0 where
    pub dials : outside.backend.counts.dials < last64
    pub searches : outside.backend.counts.searches < last64
    pub gones : outside.backend.counts.gones < last64
    pub faults : outside.backend.counts.faults < last64
    pub booked : outside.door.counts.booked < last64
    pub opens : outside.door.counts.opens < last64
