-- For contracts alone: how a unit is begun and ended (ANSI/NISO Z39.50-2003, 4.2): octets of one
-- request in, its reply's octets out
use Rattle.std.specs.Prelude.{◌≡◌, ℕ, List, ◌++◌, Option, None, Some, Result, Ok, Err}
use Rattle.z_types.specs.declared.marks.Mark.{Mark}
use Rattle.z_types.specs.declared.marks.Mark.TheVariants.{Plain}
use Rattle.z_types.specs.declared.marks.End.{End}
use Rattle.z_types.specs.declared.memory.Memory.{Memory as NoMemory}
use Rattle.z_types.specs.declared.marks.End.TheVariants.{Closed, Malformed, Limited}
use Rattle.z_types.specs.declared.replies.Reply.{Reply}
use Rattle.z_types.specs.declared.requests.Request.{Request}
use Rattle.z_types.specs.declared.requests.Request.TheVariants as request
use Rattle.z_types.specs.declared.outcome.Outcome.{Outcome}
use Rattle.route_config.specs.declared.route.Route.{Route}
use Rattle.unit_forms.specs.Replies.{spell_reply}
use Rattle.unit_forms.specs.Reading.Units.{IsReading}
use Rattle.front_session.specs.gateway_rules.Asking.{Asking, at_once, works, asked_with}
use Rattle.front_session.specs.gateway_rules.Course.{Meeting, bad, beyond, closing, due, met}
use Rattle.front_session.specs.gateway_rules.Replies.{bad_unit_reply, limit_reply, close_reply}
use Rattle.front_session.specs.gateway_rules.Statuses.{finished}
use Rattle.front_session.specs.gateway_rules.Works.{CanBegin, IsAskable}
use Rattle.front_session.specs.Sessions.{SessionState, Waiting, client_of, progress_of}
use Rattle.front_session.specs.Admitting.{hits_named, counted, IsSettled}
use Rattle.front_z.specs.declared.units.Begun.{Begun}
use Rattle.front_z.specs.declared.units.Begun.TheVariants as begun

-- a session, and what was written to its client
pub record Served : Type 0 where
  pub session : SessionState
  pub out : List ℕ

-- a reply was written, and this is kept of the client
abbrev pub Writes : Served → Served → Reply → SessionState → Type 0
Writes old new reply session = (new.out ≡ old.out ++ spell_reply reply) × (new.session ≡ session)

-- a request that is due was answered at once under the mark Plain, or waits for its work
abbrev pub IsDueBegun : Route → Asking → Request → Served → Served → Begun → Type 0
IsDueBegun route (at_once reply) request old new answer =
    (answer ≡ begun.Write (Some Plain) None)
    × Writes old new reply (counted route old.session request)
IsDueBegun route (works work) request old new answer =
    (answer ≡ begun.Work work) × CanBegin work × IsAskable work × (new.out ≡ old.out)
    × (new.session ≡ record (counted route old.session request)
    { waiting = Some (record { request = request; work = work }) })

-- what was written and kept of a unit at an offset that is met so; a bad unit, and one beyond the
-- last, have no mark
abbrev pub IsMetBegun : Meeting → Route → ℕ → Option Request → Served → Served → Begun → Type 0
IsMetBegun bad route at read old new answer =
    (answer ≡ begun.Write None (Some (Malformed at))) × Writes old new bad_unit_reply old.session
IsMetBegun (beyond request) route at read old new answer =
    (answer ≡ begun.Write None (Some Limited)) × Writes old new (limit_reply request) old.session
IsMetBegun (closing close) route at read old new answer =
    (answer ≡ begun.Write (Some Plain) (Some Closed))
    × (new.out ≡ old.out ++ spell_reply (close_reply close.ref_id finished))
IsMetBegun (due request) route at read old new answer =
    IsDueBegun route
    (asked_with (hits_named old.session.sets) route (client_of old.session) request)
    request old new answer

-- how the connection ends behind a request that was answered: a Close closes it
abbrev pub end_behind : Request → Option End
end_behind (request.Close close) = Some Closed
end_behind other = None

-- a request at an offset was begun; want of memory has no cause, and nothing is written then
abbrev pub IsRequestBegun : Route → ℕ → Request → Served → Served → Begun → Type 0
IsRequestBegun route at request old new begun.Memory = new.out ≡ old.out
IsRequestBegun route at request old new answer =
    IsMetBegun (met route (progress_of at old.session) (Some request)) route at
    (Some request) old new answer

-- a reply was put, or not for want of memory
abbrev pub IsPut : Result Unit NoMemory → Option Mark → Option End → Begun → Type 0
IsPut (Ok done) mark end answer = answer ≡ begun.Write mark end
IsPut (Err memory) mark end answer = answer ≡ begun.Memory

-- a reply was written under a mark, and the connection has ended so; want of memory has no cause,
-- and nothing is written then
abbrev pub IsWritten : Reply → Option Mark → Option End → List ℕ → List ℕ → Begun → Type 0
IsWritten reply mark end old new begun.Memory = new ≡ old
IsWritten reply mark end old new answer =
    (answer ≡ begun.Write mark end) × (new ≡ old ++ spell_reply reply)

-- what a unit is read as, and what is written and kept of it
pub record IsRead (route : Route) (at : ℕ) (unit : List ℕ) (old new : Served)
    (answer : Begun) : Type 0 where
  pub read : Option Request
  pub reading : IsReading unit read
  pub begun : IsMetBegun (met route (progress_of at old.session) read) route at read old new answer

-- a unit at an offset was begun; want of memory has no cause, and nothing is written then
abbrev pub IsBegun : Route → ℕ → List ℕ → Served → Served → Begun → Type 0
IsBegun route at unit old new begun.Memory = new.out ≡ old.out
IsBegun route at unit old new answer = IsRead route at unit old new answer

-- what came of the work of the request that waited is written
pub record IsEnded (old new : Served) (waiting : Waiting) (outcome : Outcome) : Type 0 where
  pub reply : Reply
  pub settled : IsSettled old.session new.session waiting outcome reply
  pub written : new.out ≡ old.out ++ spell_reply reply
