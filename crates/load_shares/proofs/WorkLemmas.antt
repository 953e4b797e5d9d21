-- The works of a client of a load: each is of the one leg, and of the query for its letter
use Rattle.std.proofs.Common.{◌≡◌, ◌<◌, ◌+◌, ◌-◌, ◌%◌, ◌==◌, ℕ, pos, Bool, true, false, if◌then◌else◌, List, [], ◌∷◌, ◌++◌, map, length, codes, nat_abs, nat_eq, IfSome, Option, Some, None, Ok, refl, ap, subst, sym, mod-lt, arith}
use Rattle.std.specs.List.{AllByRecursion, IsDistinct, range_with_len}
use Rattle.z_types.specs.declared.diagnostic.Diag.{Diag}
use Rattle.z_types.specs.declared.outcome.Fetched.TheVariants as fetched
use Rattle.z_types.specs.declared.query.RpnQuery.{RpnQuery}
use Rattle.z_types.specs.declared.replies.Reply.{Reply}
use Rattle.z_types.specs.declared.requests.Asked.TheVariants.{Good}
use Rattle.z_types.specs.declared.requests.Present.{Present}
use Rattle.z_types.specs.declared.requests.Request.{Request}
use Rattle.z_types.specs.declared.requests.Request.TheVariants as request
use Rattle.z_types.specs.declared.work.Work.{Work}
use Rattle.z_types.specs.declared.work.Work.TheVariants as work
use Rattle.z_types.specs.Under.{under}
use Rattle.z_types.specs.declared.world.World as world
use Rattle.route_config.specs.Smallest.{smallest_route}
use Rattle.z_sets.specs.Sets.{StoredSet, set_named}
use Rattle.replay_shares.specs.gateway_rules.Asking.{Asking, at_once, element_of, fetch_work, hits_meant, unless_refused, works}
use Rattle.replay_shares.specs.gateway_rules.Checks.{checked, present_checks}
use Rattle.replay_shares.specs.gateway_rules.Given.{present_reply}
use Rattle.replay_shares.specs.gateway_rules.Marks.{plain}
use Rattle.replay_shares.specs.gateway_rules.Outcomes.{login_asked, outcome_of}
use Rattle.replay_shares.specs.gateway_rules.Session.{answered}
use Rattle.replay_shares.specs.gateway_rules.Settling.{client_at_once, sets_after, why_failed}
use Rattle.replay_shares.specs.gateway_rules.State.{ClientState, new_client}
use Rattle.replay_shares.specs.front_conn_works.Works.{work_in, work_of}
use Rattle.sample_maker.specs.Load.{letter_of}
use Rattle.sample_maker.specs.Requests.{init_request, search_request, xml}
use Rattle.sharing_rules.specs.Uses.{DatedWork, query_of}
use Rattle.replay_shares.specs.Orderly.{IsApart, ClientRun, asked_before, classes_at, dated, dated_after, dated_works, legs_in, works_added}
use Rattle.replay_shares.proofs.CountLemmas.{all-both}
use Rattle.load_shares.specs.Costs.{query_for}
use Rattle.load_shares.specs.Runs.{load_runs, run_of, runs_of, works_for}
use Rattle.load_shares.proofs.ListLemmas.{all-dropped, all-mapped, all-turned}

-- a work is of the one leg, of this query, and under no login
abbrev pub IsOf : RpnQuery → Work → Type 0
IsOf query asked = (legs_in asked ≡ 0 ∷ []) × (query_of asked ≡ Some query) × (login_asked asked ≡ None)

-- ---- a Present

-- whatever checks say, a request asks no more than what is due
as-checked : (query : RpnQuery) (asks : Request) (checks : List (Option Diag)) (due : Asking) → AllByRecursion (IsOf query) (work_in due)
    → AllByRecursion (IsOf query) (work_in (unless_refused asks (checked checks (Ok due))))
as-checked query asks [] due h = h
as-checked query asks (None ∷ checks) due h = as-checked query asks checks due h
as-checked query asks (Some diag ∷ checks) due h = tt

if-fetched : (query : RpnQuery) (none : Bool) (said : Reply) (fetch : Work) → IsOf query fetch
    → AllByRecursion (IsOf query) (work_in (if none then at_once said else works fetch))
if-fetched query true said fetch h = tt
if-fetched query false said fetch h = (h, tt)

-- a set is of the one leg, and of this query
abbrev IsSetOf : RpnQuery → StoredSet → Type 0
IsSetOf query set = (set.legs ≡ 0 ∷ []) × (set.query ≡ query)

fetch-of : (query : RpnQuery) (login : Option (List ℕ)) (present : Present) (hits : List ℕ) (set : Option StoredSet) → login ≡ None → IfSome set (IsSetOf query)
    → AllByRecursion (IsOf query) (work_in (fetch_work login present hits set))
fetch-of query login present hits None e h = tt
fetch-of query login present hits (Some set) e h =
    if-fetched query (present.number == 0) (present_reply present hits 0 fetched.None)
    (work.Fetch login set.legs set.query hits (nat_abs present.start) present.number present.syntax (element_of present.element))
    (h.0, ap Some h.1, e)

-- so a Present asks of the set that it names alone
present-of : {W : Type 0} (w : world.Ghosts W) (query : RpnQuery) (client : ClientState) (present : Present) → client.agreed.login ≡ None
    → IfSome (set_named present.set_name client.sets) (IsSetOf query)
    → AllByRecursion (IsOf query) (work_of w smallest_route client (request.Present present))
present-of w query client present e h =
    let set = set_named present.set_name client.sets in
    let hits = hits_meant (under client.agreed.login w) smallest_route set in
    as-checked query (request.Present present) (present_checks smallest_route client present hits) (fetch_work client.agreed.login present hits set)
    (fetch-of query client.agreed.login present hits set e h)

-- ---- the works of a client

-- its Search, as a work
abbrev pub search_for : ℕ → Work
search_for letter = work.Search None (0 ∷ []) (query_for letter) 0 1 0 None None None 1000

-- its Present
abbrev pub first_record : Present
first_record = record { ref_id = None; set_name = codes "1"; start = pos 1; number = 1; element = Good None; syntax = Some xml }

-- the client behind its Init, and behind its Search
abbrev pub behind_init : ClientState
behind_init = client_at_once smallest_route new_client init_request

abbrev pub behind_search : {W : Type 0} → world.Ghosts W → ℕ → ClientState
behind_search w letter = (answered w smallest_route behind_init (search_request letter) plain).client

-- whether the Search failed or not, the set that there may be is its own
set-of : (letter : ℕ) (why : Option Diag) → IfSome (set_named (codes "1") (sets_after why (codes "1") (search_for letter) [])) (IsSetOf (query_for letter))
set-of letter None = (refl, refl)
set-of letter (Some diag) = tt

-- behind it the client asks of this set alone
pub fetch-works : {W : Type 0} (w : world.Ghosts W) (letter : ℕ)
    → AllByRecursion (IsOf (query_for letter)) (work_of w smallest_route (behind_search w letter) (request.Present first_record) ++ [])
fetch-works w letter =
    let set = set-of letter (why_failed (outcome_of w smallest_route (search_for letter) plain)) in
    let rest = present-of w (query_for letter) (behind_search w letter) first_record refl set in
    all-both (IsOf (query_for letter)) (work_of w smallest_route (behind_search w letter) (request.Present first_record)) [] rest tt

all-of : {W : Type 0} (w : world.Ghosts W) (letter : ℕ) → AllByRecursion (IsOf (query_for letter)) (works_for w letter)
all-of w letter = ((refl, refl, refl), fetch-works w letter)

-- ---- the works of a load

-- a work is for one of the five letters
abbrev pub IsLoadWork : Work → Type 0
IsLoadWork asked = (place : ℕ) × (place < 5) × IsOf (query_for (97 + place)) asked

run-works : {W : Type 0} (w : world.Ghosts W) (client : ℕ) → AllByRecursion IsLoadWork (run_of w client).asked
run-works w client =
    all-turned (IsOf (query_for (letter_of client))) IsLoadWork (works_for w (letter_of client))
    (λ asked h. ((client - 1) % 5, mod-lt (client - 1) (omega arith), h)) (all-of w (letter_of client))

-- all that a run asks is such
abbrev RunsLoad : ClientRun → Type 0
RunsLoad run = AllByRecursion IsLoadWork run.asked

each-run : {W : Type 0} (w : world.Ghosts W) (clients : List ℕ) → AllByRecursion RunsLoad (runs_of w clients)
each-run w [] = tt
each-run w (client ∷ clients) = (run-works w client, each-run w clients)

-- so is what runs add
abbrev pub IsLoadDone : DatedWork → Type 0
IsLoadDone done = IsLoadWork done.work

each-dated : (before runs : List ClientRun) → AllByRecursion RunsLoad runs → AllByRecursion IsLoadDone (dated_after before runs)
each-dated before [] h = tt
each-dated before (run ∷ runs) h =
    let added = works_added before run in
    let new = all-dropped IsLoadWork (length (asked_before run.client before)) run.asked h.0 in
    all-both IsLoadDone (map (dated run.at) added) (dated_after (run ∷ before) runs)
    (all-mapped IsLoadDone (dated run.at) added new) (each-dated (run ∷ before) runs h.1)

pub load-works : {W : Type 0} (w : world.Ghosts W) (clients : ℕ) → AllByRecursion IsLoadDone (dated_works (load_runs w clients))
load-works w clients =
    let runs = runs_of w (range_with_len 1 clients) in
    each-dated [] (load_runs w clients) (all-both RunsLoad runs runs (each-run w (range_with_len 1 clients)) (each-run w (range_with_len 1 clients)))

-- ---- apart

one-apart : IsDistinct nat_eq (classes_at smallest_route (0 ∷ []))
unfolding IsDistinct
one-apart = (tt, tt)

pub load-apart : (works : List DatedWork) → AllByRecursion IsLoadDone works → AllByRecursion (IsApart smallest_route) works
load-apart done each =
    all-turned IsLoadDone (IsApart smallest_route) done
    (λ one h. subst (λ (legs : List ℕ). IsDistinct nat_eq (classes_at smallest_route legs)) (sym h.2.0) one-apart) each
