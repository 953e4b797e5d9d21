-- Replies that the gateway gives by itself (ANSI/NISO Z39.50-2003, 3.2.1.1, 3.2.2.1, 3.2.3.1,
-- 3.2.8.1 and 3.2.11.1)
use Rattle.z_types.specs.Services.{own_versions, own_options}
use Rattle.std.specs.Prelude.{ℕ, ◌==◌, ◌&&◌, Bool, false, not, bit_and, min, List, [], ◌∷◌}
use Rattle.std.specs.Prelude.{Option, None}
use Rattle.z_types.specs.declared.diagnostic.Diag.{Diag}
use Rattle.z_types.specs.Bounds.{most_unit_octets}
use Rattle.z_types.specs.declared.requests.Init.{Init}
use Rattle.route_config.specs.declared.route.Route.{Route}
use Rattle.access_rules.specs.Whose.{user_of, is_known}
use Rattle.z_types.specs.declared.records.Body.TheVariants as body
use Rattle.gateway_rules.specs.Statuses as status
use Rattle.gateway_rules.specs.declared.sizes.Sizes.{Sizes}
use Rattle.z_types.specs.declared.replies.Reply.TheVariants as reply
use Rattle.z_types.specs.declared.replies.Reply.{Reply}
use Rattle.z_types.specs.declared.requests.Request.TheVariants as request
use Rattle.z_types.specs.declared.requests.Request.{Request}

-- the referenceId, which the reply to a request carries
abbrev pub ref_id_of : Request → Option (List ℕ)
ref_id_of (request.Init init) = init.ref_id
ref_id_of (request.Search search) = search.ref_id
ref_id_of (request.Present present) = present.ref_id
ref_id_of (request.Scan scan) = scan.ref_id
ref_id_of (request.Close close) = close.ref_id

-- 3.2.1.1: the most octets of a message and of a record
abbrev pub own_size : ℕ
own_size = most_unit_octets

-- what is agreed: what was asked for, as far as the gateway has it
abbrev pub agreed : Init → Init
agreed init = record {
  ref_id = init.ref_id;
  versions = bit_and init.versions own_versions;
  options = bit_and init.options own_options;
  preferred = min init.preferred own_size;
  exceptional = min init.exceptional own_size;
  login = None;
}

-- the sizes among that
abbrev pub agreed_sizes : Init → Sizes
agreed_sizes init =
    record { preferred = (agreed init).preferred; exceptional = (agreed init).exceptional }

-- an Init is accepted where a version is common, and the route knows whose its login is
abbrev pub is_accepted : Route → Init → Bool
is_accepted route init =
    not ((agreed init).versions == 0) && is_known (user_of route init.login)

-- the answer to an Init that is accepted, or is not
abbrev pub init_answer : Init → Bool → Reply
init_answer init accepted = reply.Init (agreed init) accepted

-- the answer to an Init
abbrev pub init_reply : Route → Init → Reply
init_reply route init = init_answer init (is_accepted route init)

-- 3.2.11.1: a Close of this reason
abbrev pub close_reply : Option (List ℕ) → ℕ → Reply
close_reply ref_id reason = reply.Close (record { ref_id = ref_id; reason = reason; info = None })

-- the answer to a request that fails, which an Init and a Close do not
abbrev pub failed : Request → Diag → Reply
failed (request.Init init) diag = init_answer init false
failed (request.Search search) diag = reply.Search search.ref_id 0 0 0 false None (body.Diag diag)
failed (request.Present present) diag =
    reply.Present present.ref_id 0 0 status.present_failure (body.Diag diag)
failed (request.Scan scan) diag =
    reply.Scan scan.ref_id status.scan_failure
    (record { position = None; entries = [] }) (diag ∷ [])
failed (request.Close close) diag = close_reply close.ref_id status.finished

-- a unit that is none, or out of its place: a protocol error, which no request asked for
abbrev pub bad_unit_reply : Reply
bad_unit_reply = close_reply None status.protocol_error

-- a unit beyond the most that a connection may send
abbrev pub limit_reply : Request → Reply
limit_reply request = close_reply (ref_id_of request) status.resources
