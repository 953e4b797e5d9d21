-- For contracts alone: how a request's legs end (this project's own)
use Rattle.std.specs.Prelude.{ℕ, ◌==◌, List, [], ◌∷◌, ◌++◌, map, drop, length, Option, None, Some, find}
use Rattle.std.specs.Prelude.{if◌then◌else◌, nat_le}
use Rattle.std.specs.Option.{option_and_then, option_map_or}
use Rattle.std.specs.Prelude.{Result, Ok}
use Rattle.z_types.specs.declared.diagnostic.Diag.{Diag}
use Rattle.z_types.specs.declared.marks.Mark.{Mark}
use Rattle.z_types.specs.declared.records.Item.{Item}
use Rattle.z_types.specs.declared.records.NamedRecord.{NamedRecord}
use Rattle.route_config.specs.declared.route.Route.{Route}
use Rattle.z_types.specs.declared.outcome.Outcome.{Outcome}
use Rattle.gateway_rules.specs.Marks.{Cause}
use Rattle.gateway_rules.specs.Marks.{plain as plain_cause}
use Rattle.gateway_rules.specs.Targets.{hidden}
use Rattle.pool_sets.specs.Plain as plain
use Rattle.leg.specs.LegView.{LegView}
use Rattle.leg.specs.Phases.{answered, given_up, seat_of}
use Rattle.leg.specs.Turns.{lost_seat}
use Rattle.package_rules.specs.declared.answered.Answered.{Answered}
use Rattle.package_rules.specs.declared.spans.Span.{Span}
use Rattle.package_rules.specs.Said.{cause_of, class_name, end_in, finished, hides, hits_said, item_said, items_in, mark_of, named_at}
use Rattle.package.specs.steps.Packages.{PackageView, answers_of}

-- the first answer that is a mark: the mark, and the leg's place in the route
abbrev pub mark_or : Option Mark → ℕ → Option (Mark × ℕ) → Option (Mark × ℕ)
mark_or None leg later = later
mark_or (Some mark) leg later = Some (mark, leg)

-- its cause
abbrev pub cause_by : Route → Option (Mark × ℕ) → Cause
cause_by route None = plain_cause
cause_by route (Some (mark, leg)) = record { mark = mark; class = class_name route leg }

module _ {S : Type 0} where
  -- ---- what legs said that are done

  -- the mark of a leg, where it is marked
  abbrev pub mark_in : LegView S → Option Mark
  mark_in leg = option_and_then mark_of (answered leg.phase)

  abbrev pub first_mark : List (LegView S) → Option (Mark × ℕ)
  first_mark [] = None
  first_mark (leg ∷ legs) = mark_or (mark_in leg) leg.leg (first_mark legs)

  -- the hits of a leg, or its target's diagnostic where it is not hidden
  abbrev pub hits_in : Route → LegView S → Result ℕ Diag
  hits_in route leg =
      hidden (hides route leg.leg) (option_map_or hits_said (answered leg.phase) (Ok 0))

  -- ---- what a package that is over gives

  -- the mark of its first leg that is marked, with its class; else Plain
  abbrev pub cause_in : Route → PackageView S → Cause
  cause_in route view = cause_of route (answers_of view.first ++ answers_of view.later)

  -- what comes of its work by its legs' answers
  abbrev pub outcome_in : Route → PackageView S → Outcome
  outcome_in route view = finished route view.work (answers_of view.first) (answers_of view.later)

  -- ---- legs that are given up

  abbrev pub gave_up : LegView S → LegView S
  gave_up leg = record leg { phase = given_up leg.phase }

  abbrev pub gave_all_up : PackageView S → PackageView S
  gave_all_up view = record view { first = map gave_up view.first; later = map gave_up view.later }

  -- the sessions that are out for legs are lost, one after another
  abbrev pub lost_seats : List (LegView S) → plain.Pool S → plain.Pool S
  lost_seats [] pool = pool
  lost_seats (leg ∷ legs) pool = lost_seats legs (lost_seat (seat_of leg.phase) pool)

-- ---- the records of a leg, one by one

-- the leg's place in the route, its records that were not given yet, and the diagnostic behind them
pub record SupplyView : Type 0 where
  pub leg : ℕ
  pub items : List Item
  pub end : Option Diag

-- there are none
abbrev pub no_supply : SupplyView
no_supply = record { leg = 0; items = []; end = None }

-- of an answer of which so many were given
abbrev pub supply_after : ℕ → Answered → SupplyView
supply_after given said = record {
  leg = said.leg;
  items = drop given (items_in said.answer);
  end = if nat_le given (length (items_in said.answer)) then end_in said.answer else None;
}

abbrev pub supply_of : ℕ → Option (Span × Answered) → SupplyView
supply_of given None = no_supply
supply_of given (Some fetch) = supply_after given fetch.1

-- what is given next of it
abbrev pub given_next : ℕ → Option (Span × Answered) → Option (Result Item Diag)
given_next given fetch = option_and_then (λ it. item_said it.1.answer given) fetch

abbrev pub named_next : Route → ℕ → Option (Span × Answered) → Option (Result NamedRecord Diag)
named_next route given fetch =
    option_and_then
    (λ it. option_and_then (named_at route it.1.leg) (item_said it.1.answer given)) fetch

-- the answer of the leg at a place among those of the work
abbrev pub fetch_of : List (Span × Answered) → ℕ → Option (Span × Answered)
fetch_of fetches leg = find (λ fetch. fetch.0.leg == leg) fetches
