-- How many legs a request has in work at once, at most (this project's own): each may hold a
-- session of a class
use Rattle.std.specs.Prelude.{ℕ, length, min}
use Rattle.std.specs.List.{sum_by}
use Rattle.z_types.specs.Bounds.{most_legs}
use Rattle.route_config.specs.declared.route.Route.{Route}

-- how many legs the virtual databases of a route have, together
abbrev pub leg_count : Route → ℕ
leg_count route = sum_by (λ database. length database.legs) route.databases

-- the most that a request has at once: those of each database once, however often it is named, and
-- no more than any may have
abbrev pub most_at_once : Route → ℕ
most_at_once route = min (leg_count route) most_legs
