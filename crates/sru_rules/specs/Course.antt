-- The course of an HTTP connection (RFC 9112, 2.1; RFC 9110, 15.5.1, 15.5.5 and 15.5.6): one GET is
-- answered, or none. It follows from the octets and the route, whatever the targets answer and
-- under any mark.
use Rattle.std.specs.Prelude.{◌≡◌, ℕ, List, length, Option, None, Some, Result, Ok, Err}
use Rattle.std.specs.Option.{option_and_then}
use Rattle.z_types.specs.declared.marks.End.{End}
use Rattle.z_types.specs.declared.marks.End.TheVariants.{Closed, Malformed, Cut}
use Rattle.route_config.specs.declared.route.Database.{Database}
use Rattle.route_config.specs.declared.route.Route.{Route}
use Rattle.route_config.specs.Lookup.{database_named}
use Rattle.sru_reply.specs.declared.bare.Refusal.{Refusal}
use Rattle.sru_reply.specs.declared.bare.Refusal.TheVariants.{BadRequest, NotFound, MethodNotAllowed}
use Rattle.sru_request.specs.declared.head.Get.{Get}
use Rattle.sru_request.specs.declared.head.HeadGot.{HeadGot}
use Rattle.sru_request.specs.declared.head.HeadGot.TheVariants.{Got, NeedMore}
use Rattle.sru_request.specs.declared.faults.HeadFault.{HeadFault}
use Rattle.sru_request.specs.declared.faults.HeadFault.TheVariants.{BadHttp, NotGet, HeadTooLarge, Memory}
use Rattle.sru_request.specs.Name.{name_of}
use Rattle.sru_request.specs.Request.{IsHeadAnswer}
use Rattle.sru_rules.specs.Reading.{Reading, IsReading}

-- what comes of a connection: it ends, with a reply without a body or with none; or a GET of this
-- virtual database is answered under the next cause, and then it is closed
pub data Course : Type 0 where
  ends : (last : Option Refusal) (end : End) → Course
  answers : Database → Reading → Course

-- the virtual database that a GET names
abbrev pub database_of : Route → Get → Option Database
database_of route get = option_and_then (database_named route) (name_of get.path)

-- a GET: there is no such database, or its parameters are read
abbrev pub GetLeadsTo : Route → Get → Option Database → Course → Type 0
GetLeadsTo route get None whole = whole ≡ ends (Some NotFound) Closed
GetLeadsTo route get (Some database) whole =
    (reading : Reading) × IsReading route.schemas get reading
    × (whole ≡ answers database reading)

-- a head that was read, at the end of so many octets: it has not come; it is none; its method is
-- another; it is a GET
abbrev pub HeadLeadsTo : Route → ℕ → Result HeadGot HeadFault → Course → Type 0
HeadLeadsTo route octets (Ok NeedMore) whole = whole ≡ ends None (Cut octets)
HeadLeadsTo route octets (Err BadHttp) whole = whole ≡ ends (Some BadRequest) (Malformed 0)
HeadLeadsTo route octets (Err HeadTooLarge) whole = whole ≡ ends (Some BadRequest) (Malformed 0)
HeadLeadsTo route octets (Err NotGet) whole = whole ≡ ends (Some MethodNotAllowed) Closed
HeadLeadsTo route octets (Err Memory) whole = ⊥
HeadLeadsTo route octets (Ok (Got get used)) whole =
    GetLeadsTo route get (database_of route get) whole

-- a GET is of this virtual database, and is read so
pub record IsGetOf (route : Route) (get : Get) (database : Database)
    (reading : Reading) : Type 0 where
  pub found : database_of route get ≡ Some database
  pub is_reading : IsReading route.schemas get reading

-- the octets, as far as they have come, begin with a GET of this virtual database that is read so
pub record HasGet (route : Route) (bytes : List ℕ) (database : Database)
    (reading : Reading) : Type 0 where
  pub get : Get
  pub used : ℕ
  pub is_head : IsHeadAnswer bytes (Ok (Got get used))
  pub is : IsGetOf route get database reading

-- the course of all the octets of a connection
pub record IsCourse (route : Route) (bytes : List ℕ) (whole : Course) : Type 0 where
  pub head : Result HeadGot HeadFault
  pub is_head : IsHeadAnswer bytes head
  pub leads : HeadLeadsTo route (length bytes) head whole

-- how it ends
abbrev pub end_of : Course → End
end_of (ends last end) = end
end_of (answers database reading) = Closed
