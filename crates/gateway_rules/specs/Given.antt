-- How a reply tells the records that were fetched (ANSI/NISO Z39.50-2003, 3.2.2.1 and 3.2.3.1,
-- Next-result-set-position, Present-status and Response-records)
use Rattle.std.specs.Prelude.{ℕ, ◌+◌, ◌==◌, true, List, length, Option, None, Some, if◌then◌else◌, nat_le, nat_abs}
use Rattle.z_types.specs.declared.records.Body.{Body}
use Rattle.z_types.specs.declared.records.Body.TheVariants as body
use Rattle.z_types.specs.MergedOrder.{total}
use Rattle.gateway_rules.specs.Statuses.{present_success, present_partial_2, present_failure}
use Rattle.z_types.specs.declared.outcome.Fetched.TheVariants as fetched
use Rattle.z_types.specs.declared.outcome.Fetched.{Fetched}
use Rattle.z_types.specs.declared.requests.Present.{Present}
use Rattle.z_types.specs.declared.replies.Reply.TheVariants as reply
use Rattle.z_types.specs.declared.replies.Reply.{Reply}

-- how many records are given
abbrev pub returned : Fetched → ℕ
returned fetched.None = 0
returned (fetched.Records records) = length records
returned (fetched.Whole diag) = 0

-- a place of a result set of this count, or 0 where it is past it
abbrev pub place_or_zero : ℕ → ℕ → ℕ
place_or_zero count place = if nat_le place count then place else 0

-- the place behind the last record given, where they are given from a place on; 0 where they could
-- not be
abbrev pub next_position : (count from : ℕ) → Fetched → ℕ
next_position count from (fetched.Whole diag) = 0
next_position count from records = place_or_zero count (from + returned records)

-- whether the records that were fetched, so many, are given: all of them, some, or none
abbrev pub present_status : (all : ℕ) → Fetched → ℕ
present_status all fetched.None = present_success
present_status all (fetched.Records records) =
    if length records == all then present_success else present_partial_2
present_status all (fetched.Whole diag) = present_failure

-- the same of a Search, which has no such status where no record was to be shown
abbrev pub search_status : (all : ℕ) → Fetched → Option ℕ
search_status all fetched.None = None
search_status all records = Some (present_status all records)

-- the records, or the diagnostic in place of all of them
abbrev pub body_of : Fetched → Body
body_of fetched.None = body.None
body_of (fetched.Records records) = body.Records records
body_of (fetched.Whole diag) = body.Diag diag

-- the answer to a Search with these hits that gives these of `all` records; what it shows begins at
-- place 1
abbrev pub search_reply : Option (List ℕ) → List ℕ → (all : ℕ) → Fetched → Reply
search_reply ref_id hits all records =
    reply.Search ref_id (total hits) (returned records) (next_position (total hits) 1 records) true
    (search_status all records) (body_of records)

-- the answer to a Present of a set with these hits that gives these of `all` records
abbrev pub present_reply : Present → List ℕ → (all : ℕ) → Fetched → Reply
present_reply present hits all records =
    reply.Present present.ref_id (returned records)
    (next_position (total hits) (nat_abs present.start) records)
    (present_status all records) (body_of records)
