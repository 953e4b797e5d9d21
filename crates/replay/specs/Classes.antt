-- What requests cost, class by class (this project's own)
use Rattle.std.specs.Prelude.{◌+◌, List, [], ◌∷◌, length, nat_lt, if◌then◌else◌, get_or, set, Option, None, Some}
use Rattle.z_types.specs.Bounds.{within64}
use Rattle.route_config.specs.declared.route.Class.{Class}
use Rattle.front_conn_costs.specs.front_conn.declared.totals.Total.{Total}
use Rattle.replay.specs.declared.reports.ClassReport.{ClassReport}
use Rattle.replay.specs.Clients.{ClientState}

-- a class of which nothing was counted
abbrev pub costless : Class → ClassReport
costless class = record { name = class.name; dials = 0; searches = 0; gones = 0; faults = 0 }

-- what a connection's legs counted of it is added; a sum past its type's end stays at that end
abbrev pub with_total : Total → ClassReport → ClassReport
with_total total report = record report {
  dials = within64 (report.dials + total.dials);
  searches = within64 (report.searches + total.searches);
  gones = within64 (report.gones + total.gones);
  faults = within64 (report.faults + total.faults);
}

-- where there is no class
abbrev pub nameless : ClassReport
nameless = record { name = []; dials = 0; searches = 0; gones = 0; faults = 0 }

-- at the place of its class, where there is one
abbrev pub costs_with : List ClassReport → Total → List ClassReport
costs_with classes total =
    if nat_lt total.class (length classes)
    then set classes total.class (with_total total (get_or classes total.class nameless))
    else classes

-- what each class's legs counted on a connection
abbrev pub costs_after : List ClassReport → List Total → List ClassReport
costs_after classes [] = classes
costs_after classes (total ∷ totals) = costs_after (costs_with classes total) totals

-- what was counted on a client's connection, where there is a client
abbrev pub costs_of : {S : Type 0} → Option (ClientState S) → List ClassReport → List ClassReport
costs_of None classes = classes
costs_of (Some client) classes = costs_after classes client.conn.totals
