-- For contracts alone: how a head that has come is begun (RFC 9110, 15.5.1, 15.5.5 and 15.5.6)
use Rattle.std.specs.Prelude.{◌≡◌, ◌++◌, ℕ, List, None, Some, Result, Ok, Err}
use Rattle.z_types.specs.declared.marks.End.{End}
use Rattle.z_types.specs.declared.marks.End.TheVariants.{Closed, Malformed}
use Rattle.route_config.specs.declared.route.Route.{Route}
use Rattle.sru_reply.specs.Bare.{bare}
use Rattle.sru_reply.specs.declared.bare.Refusal.{Refusal}
use Rattle.sru_reply.specs.declared.bare.Refusal.TheVariants.{BadRequest, MethodNotAllowed}
use Rattle.sru_request.specs.declared.faults.HeadFault.{HeadFault}
use Rattle.sru_request.specs.declared.faults.HeadFault.TheVariants.{BadHttp, NotGet, HeadTooLarge, Memory}
use Rattle.sru_request.specs.declared.head.Get.{Get}
use Rattle.front_sru.specs.Gets.{IsBegun, Served}
use Rattle.front_sru.specs.declared.begun.Begun.{Begun}
use Rattle.front_sru.specs.declared.begun.Begun.TheVariants as begun

-- a reply without a body was written under no mark, and the connection has ended so; want of memory
-- has no cause, and nothing is written then
abbrev pub IsRefusedBy : Refusal → End → (old new : List ℕ) → Begun → Type 0
IsRefusedBy refusal end old new begun.Memory = new ≡ old
IsRefusedBy refusal end old new answer =
    (answer ≡ begun.Write None (Some end)) × (new ≡ old ++ bare refusal)

-- a head that is no GET
abbrev pub IsFaultBegun : HeadFault → (old new : List ℕ) → Begun → Type 0
IsFaultBegun BadHttp old new answer = IsRefusedBy BadRequest (Malformed 0) old new answer
IsFaultBegun HeadTooLarge old new answer = IsRefusedBy BadRequest (Malformed 0) old new answer
IsFaultBegun NotGet old new answer = IsRefusedBy MethodNotAllowed Closed old new answer
IsFaultBegun Memory old new answer = (answer ≡ begun.Memory) × (new ≡ old)

-- a head
abbrev pub IsHeadBegun : Route → Result Get HeadFault → (old new : Served) → Begun → Type 0
IsHeadBegun route (Ok get) old new answer = IsBegun route get old new answer
IsHeadBegun route (Err fault) old new answer =
    IsFaultBegun fault old.out new.out answer × (new.stage ≡ old.stage)
