-- What an outcome leaves: the reply, and what is kept of the client (ANSI/NISO Z39.50-2003,
-- 3.2.2.1, 3.2.3.1 and 3.2.8.1)
use Rattle.std.specs.Prelude.{ℕ, ◌+◌, true, List, [], ◌∷◌, Option, None, Some, unwrap_or, if◌then◌else◌}
use Rattle.z_types.specs.declared.diagnostic.Diag.{Diag}
use Rattle.z_types.specs.declared.scan.ScanAnswer.{ScanAnswer}
use Rattle.z_types.specs.MergedOrder.{total}
use Rattle.z_types.specs.Shown.{shown}
use Rattle.gateway_rules.specs.Cut.{cut_of}
use Rattle.gateway_rules.specs.Given.{search_reply, present_reply, returned}
use Rattle.gateway_rules.specs.Marks.{marked_diag}
use Rattle.route_config.specs.declared.route.Route.{Route}
use Rattle.route_config.specs.declared.route.User.{User}
use Rattle.access_rules.specs.Whose.{user_of}
use Rattle.gateway_rules.specs.Replies.{failed, init_answer, close_reply, is_accepted, agreed_sizes}
use Rattle.z_sets.specs.Sets.{StoredSet, with_set, without_set}
use Rattle.gateway_rules.specs.State.{ClientState}
use Rattle.gateway_rules.specs.declared.agreement.Agreement.{Agreement}
use Rattle.gateway_rules.specs.declared.sizes.Sizes.{Sizes}
use Rattle.gateway_rules.specs.Statuses.{scan_success, finished}
use Rattle.z_types.specs.declared.outcome.Fetched.TheVariants as fetched
use Rattle.z_types.specs.declared.outcome.Fetched.{Fetched}
use Rattle.z_types.specs.declared.outcome.Outcome.TheVariants as outcome
use Rattle.z_types.specs.declared.outcome.Outcome.{Outcome}
use Rattle.z_types.specs.declared.replies.Reply.TheVariants as reply
use Rattle.z_types.specs.declared.replies.Reply.{Reply}
use Rattle.z_types.specs.declared.requests.Init.{Init}
use Rattle.z_types.specs.declared.requests.Request.TheVariants as request
use Rattle.z_types.specs.declared.requests.Request.{Request}
use Rattle.z_types.specs.declared.work.Work.TheVariants as work
use Rattle.z_types.specs.declared.work.Work.{Work}

-- ---- the parts of an outcome, each empty where the outcome has no such part

-- why the request fails: a target refused, or a leg was marked
abbrev pub why_failed : Outcome → Option Diag
why_failed (outcome.Refused diag) = Some diag
why_failed (outcome.Marked mark class) = marked_diag mark class
why_failed good = None

-- the hits that a Search found
abbrev pub found_hits : Outcome → List ℕ
found_hits (outcome.Found hits records) = hits
found_hits other = []

-- the records that were fetched
abbrev pub fetched_of : Outcome → Fetched
fetched_of (outcome.Found hits records) = records
fetched_of (outcome.Fetched records) = records
fetched_of other = fetched.None

-- the entries that a Scan found
abbrev pub scanned_of : Outcome → ScanAnswer
scanned_of (outcome.Scanned answer) = answer
scanned_of other = record { position = None; entries = [] }

-- the hits of the set that a Present fetches from
abbrev pub fetched_from : Work → List ℕ
fetched_from (work.Fetch login legs query hits first count syntax element) = hits
fetched_from other = []

-- ---- the records that are given

-- how many records a work asked for, of a Search with these hits those that are shown
abbrev pub asked_of : Work → (hits : List ℕ) → ℕ
asked_of (work.Search login legs query small large medium small_element medium_element syntax
    room) hits =
    shown (total hits) small large medium
asked_of (work.Fetch login legs query known first count syntax element) hits = count
asked_of (work.Scan login leg ask) hits = 0

-- the records that are given of those that were fetched, by the sizes that the client's Init agreed
-- on
abbrev pub given_of : Sizes → Work → Outcome → Fetched
given_of sizes work got = cut_of sizes (asked_of work (found_hits got)) (fetched_of got)

-- ---- the reply

-- the reply to a request that did not fail; an Init and a Close have no outcome
abbrev pub good_reply : Sizes → Request → Work → Outcome → Reply
good_reply sizes (request.Init init) work got = init_answer init true
good_reply sizes (request.Search search) work got =
    search_reply search.ref_id (found_hits got) (returned (fetched_of got))
    (given_of sizes work got)
good_reply sizes (request.Present present) work got =
    present_reply present (fetched_from work) (returned (fetched_of got)) (given_of sizes work got)
good_reply sizes (request.Scan scan) work got =
    reply.Scan scan.ref_id scan_success (scanned_of got) []
good_reply sizes (request.Close close) work got = close_reply close.ref_id finished

-- the reply to a request
abbrev pub reply_by : Sizes → Option Diag → Request → Work → Outcome → Reply
reply_by sizes (Some diag) request work got = failed request diag
reply_by sizes None request work got = good_reply sizes request work got

-- ---- what is kept of the client

-- the sets after a Search: a good one sets its name, and one that failed removes it
abbrev pub sets_after : Option Diag → List ℕ → Work → List StoredSet → List StoredSet
sets_after None name (work.Search login legs query small large medium small_element medium_element
    syntax room) sets =
    with_set (record { name = name; legs = legs; query = query }) sets
sets_after None name other sets = sets
sets_after (Some diag) name work sets = without_set name sets

-- the client after a request: a Search is spent, and so are the records given
abbrev pub client_after : ClientState → Request → Work → Outcome → ClientState
client_after client (request.Search search) work got = record client {
  searches = client.searches + 1;
  records = client.records + returned (given_of client.agreed.sizes work got);
  sets = sets_after (why_failed got) search.set_name work client.sets;
}
client_after client request work got =
    record client { records = client.records + returned (given_of client.agreed.sizes work got) }

-- the login that is kept of a client: none among users, whom the gateway knows by themselves
abbrev pub login_among : List User → Option (List ℕ) → Option (List ℕ)
login_among [] login = login
login_among (user ∷ users) login = None

-- what an Init settles that is accepted: the sizes that it is answered with, whose the client is,
-- and the login, which is none where the route has users
abbrev pub settled_by : Route → Init → Agreement
settled_by route init = record {
  sizes = agreed_sizes init;
  whose = user_of route init.login;
  login = login_among route.users init.login;
}

-- what a request settles, where it is an Init that is accepted
abbrev pub agreed_by : Route → Request → Option Agreement
agreed_by route (request.Init init) =
    if is_accepted route init then Some (settled_by route init) else None
agreed_by route other = None

-- what is settled behind a request
abbrev pub agreed_after : Route → Agreement → Request → Agreement
agreed_after route agreed request = unwrap_or (agreed_by route request) agreed

-- the client behind a request that is answered at once
abbrev pub client_at_once : Route → ClientState → Request → ClientState
client_at_once route client request =
    record client { agreed = agreed_after route client.agreed request }

-- ---- both

-- a reply, and the client after it
pub record Settled : Type 0 where
  pub reply : Reply
  pub client : ClientState

-- what an outcome of a request's work leaves
abbrev pub settled : ClientState → Request → Work → Outcome → Settled
settled client request work got =
    record {
      reply = reply_by client.agreed.sizes (why_failed got) request work got;
      client = client_after client request work got;
    }

-- what a reply at once leaves
abbrev pub settled_at_once : Route → ClientState → Request → Reply → Settled
settled_at_once route client request given =
    record { reply = given; client = client_at_once route client request }
