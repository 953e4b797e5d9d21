-- Requests and replies whose written form stands on at most 64 levels, a bound of
-- this project's own.
use Rattle.std.specs.Prelude.{ℕ, ◌≤◌}
use Rattle.std.specs.List.{AllByRecursion}
use Rattle.z_types.specs.QueryMeasures.{tree_depth}
use Rattle.z_types.specs.declared.query.RpnQuery.{RpnQuery}
use Rattle.z_types.specs.declared.records.Form.TheVariants.{Single, Octets, Arbitrary}
use Rattle.z_types.specs.declared.records.Item.{Item}
use Rattle.z_types.specs.declared.records.Item.TheVariants.{Record, Surrogate}
use Rattle.z_types.specs.declared.records.NamedRecord.{NamedRecord}
use Rattle.z_types.specs.declared.records.Body.{Body}
use Rattle.z_types.specs.declared.records.Body.TheVariants as body
use Rattle.z_types.specs.declared.replies.Reply.{Reply}
use Rattle.z_types.specs.declared.replies.Reply.TheVariants as reply
use Rattle.z_types.specs.declared.requests.Asked.{Asked}
use Rattle.z_types.specs.declared.requests.Asked.TheVariants.{Good, Bad}
use Rattle.z_types.specs.declared.requests.Request.{Request}
use Rattle.z_types.specs.declared.requests.Request.TheVariants as request
use Rattle.z_ber.specs.Element.{Forest, IsElement}
use Rattle.unit_forms.specs.Logins.{IsLoginIf}

-- a structure stands within three levels, and an operand takes four more than its own
abbrev pub most_query_levels : ℕ
most_query_levels = 57

-- the element of a record stands within seven levels
abbrev pub most_record_levels : ℕ
most_record_levels = 57

-- a query of few enough levels, where one is asked for
abbrev pub IsShallowQuery : Asked RpnQuery → Type 0
IsShallowQuery (Good query) = tree_depth query.root ≤ most_query_levels
IsShallowQuery (Bad diag) = Unit {0}

-- a request; only a login and a query have levels of their own
abbrev pub IsShallow : Request → Type 0
IsShallow (request.Init init) = IsLoginIf init.login
IsShallow (request.Search search) = IsShallowQuery search.query
IsShallow (request.Present present) = Unit {0}
IsShallow (request.Scan scan) = Unit {0}
IsShallow (request.Close close) = Unit {0}

-- a record; only one that is an element has levels of its own
abbrev pub IsShallowItem : Item → Type 0
IsShallowItem (Record syntax Single octets) =
    (tree : Forest) × IsElement most_record_levels octets tree
IsShallowItem (Record syntax Octets octets) = Unit {0}
IsShallowItem (Record syntax Arbitrary octets) = Unit {0}
IsShallowItem (Surrogate diag) = Unit {0}

-- the same, under any name
abbrev pub IsShallowNamed : NamedRecord → Type 0
IsShallowNamed named = IsShallowItem named.item

-- what a response has for records
abbrev pub IsShallowBody : Body → Type 0
IsShallowBody body.None = Unit {0}
IsShallowBody (body.Records records) = AllByRecursion IsShallowNamed records
IsShallowBody (body.Diag diag) = Unit {0}
IsShallowBody (body.Diags diags) = Unit {0}

-- a reply
abbrev pub IsShallowReply : Reply → Type 0
IsShallowReply (reply.Init init result) = Unit {0}
IsShallowReply (reply.Search ref_id count returned next ok status body) = IsShallowBody body
IsShallowReply (reply.Present ref_id returned next status body) = IsShallowBody body
IsShallowReply (reply.Scan ref_id status answer diags) = Unit {0}
IsShallowReply (reply.Close close) = Unit {0}
