-- The course of a client's session (ANSI/NISO Z39.50-2003, 4.2, 3.2.1 and 3.2.11): which requests
-- are to be answered, one after another, and how it ends. It follows from the units alone, whatever
-- the targets answer and under any marks.
use Rattle.std.specs.Prelude.{ℕ, ◌+◌, ◌||◌, Bool, false, not, List, [], ◌∷◌, length, flat_map, Option, None, Some}
use Rattle.std.specs.Prelude.{if◌then◌else◌}
use Rattle.z_types.specs.declared.marks.End.{End}
use Rattle.z_types.specs.declared.marks.End.TheVariants.{Closed, Malformed, Limited}
use Rattle.z_types.specs.declared.requests.Close.{Close}
use Rattle.z_types.specs.Bounds.{within64}
use Rattle.route_config.specs.declared.route.Route.{Route}
use Rattle.limit_rules.specs.Limits.{are_units_spent}
use Rattle.gateway_rules.specs.Replies.{is_accepted, bad_unit_reply, limit_reply}
use Rattle.gateway_rules.specs.State.{Progress}
use Rattle.z_types.specs.declared.replies.Reply.{Reply}
use Rattle.z_types.specs.declared.requests.Request.TheVariants as request
use Rattle.z_types.specs.declared.requests.Request.{Request}

-- a unit that a client sent, and the request that it is read as, if any
pub record Received : Type 0 where
  pub octets : List ℕ
  pub request : Option Request

-- the octets of units, one behind another
abbrev pub octets_of : List Received → List ℕ
octets_of units = flat_map (λ unit. unit.octets) units

-- how a unit is met: it is bad; it comes after the last that the connection may send; it closes the
-- session; or it is due to be answered
pub data Meeting : Type 0 where
  bad : Meeting
  beyond : Request → Meeting
  closing : Close → Meeting
  due : Request → Meeting

-- 4.2: an Init comes until one was accepted, and everything else after it
abbrev pub is_in_place : Progress → Request → Bool
is_in_place here (request.Init init) = not here.accepted
is_in_place here other = here.accepted

-- a request in its place
abbrev pub met_in_place : Request → Meeting
met_in_place (request.Close close) = closing close
met_in_place other = due other

-- a unit: whether it is read comes first, then the limit, then its place
abbrev pub met : Route → Progress → Option Request → Meeting
met route here None = bad
met route here (Some asked) =
    if are_units_spent route.limits here.units then beyond asked
    else if is_in_place here asked then met_in_place asked
    else bad

-- the unit is an Init that is accepted
abbrev pub accepts : Route → Option Request → Bool
accepts route (Some (request.Init init)) = is_accepted route init
accepts route other = false

-- how far the units have come behind this one
abbrev pub after : Route → Progress → Received → Progress
after route here unit = record {
  at = here.at + length unit.octets;
  accepted = here.accepted || accepts route unit.request;
  units = here.units + 1;
}

-- what is still to come of a session: all units are taken, and it stands here; or it is over, with
-- a last reply or none; or a request is answered under the next cause, and then there is more to
-- come
pub data Course : Type 0 where
  stands : (here : Progress) → Course
  ends : (last : Option Reply) (end : End) → Course
  answers : Request → (more : Course) → Course

-- what a unit that begins at this offset leads to, in front of what comes behind it; an offset past
-- its type's end is told as that end
abbrev pub leads_to : Meeting → ℕ → Course → Course
leads_to bad at more = ends (Some bad_unit_reply) (Malformed (within64 at))
leads_to (beyond request) at more = ends (Some (limit_reply request)) Limited
leads_to (closing close) at more = answers (request.Close close) (ends None Closed)
leads_to (due asked) at more = answers asked more

-- the course of the units that come where a session stands
abbrev pub course : Route → Progress → List Received → Course
course route here [] = stands here
course route here (unit ∷ units) =
    leads_to (met route here unit.request) here.at (course route (after route here unit) units)

-- a course that goes on from where it stands
abbrev pub followed : Course → (Progress → Course) → Course
followed (stands here) next = next here
followed (ends last end) next = ends last end
followed (answers request more) next = answers request (followed more next)

-- where a session stands behind a course, if it is not over
abbrev pub stands_at : Course → Option Progress
stands_at (stands here) = Some here
stands_at (ends last end) = None
stands_at (answers request more) = stands_at more

-- how a session ends, if it is over
abbrev pub end_of : Course → Option End
end_of (stands here) = None
end_of (ends last end) = Some end
end_of (answers request more) = end_of more
