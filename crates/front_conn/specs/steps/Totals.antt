-- What the legs of a connection counted, by their classes (this project's own)
use Rattle.std.specs.Prelude.{ℕ, ◌+◌, List, [], ◌∷◌, length, map, nat_lt, if◌then◌else◌, get_or, set}
use Rattle.std.specs.List.{range_with_len}
use Rattle.z_types.specs.Bounds.{within64}
use Rattle.route_config.specs.declared.route.Route.{Route}
use Rattle.package.specs.leg.declared.accounts.Account.{Account}
use Rattle.front_conn.specs.declared.totals.Total.{Total}

-- a class of which nothing was counted
abbrev pub no_total : ℕ → Total
no_total class = record { class = class; dials = 0; searches = 0; gones = 0; faults = 0 }

-- one for each class of the route, in their order
abbrev pub no_totals : Route → List Total
no_totals route = map no_total (range_with_len 0 (length route.classes))

-- those that are there, or else such
abbrev pub totals_for : Route → List Total → List Total
totals_for route [] = no_totals route
totals_for route (total ∷ totals) = total ∷ totals

-- what a leg counted is added to the sums; a sum past its type's end stays at that end
abbrev pub with_account : Account → Total → Total
with_account account total = record total {
  dials = within64 (total.dials + account.dials);
  searches = within64 (total.searches + account.searches);
  gones = within64 (total.gones + account.gones);
  faults = within64 (total.faults + account.faults);
}

-- at the place of its class, where there is one
abbrev pub totals_with : List Total → Account → List Total
totals_with totals account =
    if nat_lt account.class (length totals)
    then set totals account.class (with_account account (get_or totals account.class (no_total 0)))
    else totals

-- what each of these legs counted
abbrev pub totals_after : List Total → List Account → List Total
totals_after totals [] = totals
totals_after totals (account ∷ accounts) = totals_after (totals_with totals account) accounts
