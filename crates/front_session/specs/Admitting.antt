-- How a request is admitted and settled (ANSI/NISO Z39.50-2003, 4.2; this
-- project's own)
use Rattle.std.specs.Prelude.{◌≡◌, ◌⊎◌, ℕ, Bool, ◌+◌, ◌||◌, List, [], None, Some, option_map, unwrap_or, Contains}
use Rattle.std.specs.List.{AllByRecursion}
use Rattle.z_types.specs.declared.known_set.KnownSet.{KnownSet}
use Rattle.z_types.specs.declared.replies.Reply.{Reply}
use Rattle.z_types.specs.declared.requests.Request.{Request}
use Rattle.z_types.specs.declared.requests.Request.TheVariants as request
use Rattle.z_types.specs.declared.outcome.Outcome.{Outcome}
use Rattle.z_types.specs.declared.outcome.Outcome.TheVariants as outcome
use Rattle.z_types.specs.declared.work.Work.{Work}
use Rattle.z_types.specs.declared.work.Work.TheVariants as work
use Rattle.route_config.specs.declared.route.Route.{Route}
use Rattle.z_sets.specs.Sets.{known_set_named}
use Rattle.gateway_rules.specs.Asking.{Asking, at_once, works, asked_with}
use Rattle.gateway_rules.specs.Course.{Meeting, bad, beyond, closing, due, met, accepts, is_in_place}
use Rattle.gateway_rules.specs.Replies.{close_reply}
use Rattle.gateway_rules.specs.Settling.{Settled, settled, agreed_after}
use Rattle.gateway_rules.specs.Statuses.{finished}
use Rattle.gateway_rules.specs.Works.{CanBegin, IsAskable}
use Rattle.front_session.specs.Sessions.{SessionState, Waiting, client_of, progress_of}
use Rattle.front_session.specs.declared.asking.Asking.{Asking as Given}
use Rattle.front_session.specs.declared.asking.Asking.TheVariants as given
use Rattle.front_session.specs.declared.admitted.Admitted.{Admitted}
use Rattle.front_session.specs.declared.admitted.Admitted.TheVariants as admitted

-- the hits of the set of a name
abbrev pub hits_named : List KnownSet → List ℕ → List ℕ
hits_named sets name = unwrap_or (option_map (λ set. set.hits) (known_set_named name sets)) []

-- a unit more is taken, and an Init may have been accepted, which settles what it does
abbrev pub counted : Route → SessionState → Request → SessionState
counted route s request = record s {
  units = s.units + 1;
  accepted = s.accepted || accepts route (Some request);
  agreed = agreed_after route s.agreed request;
}

-- a unit more is taken, and its request waits
abbrev pub waits : Route → SessionState → Request → Waiting → SessionState
waits route s request waiting = record (counted route s request) { waiting = Some waiting }

-- a request waits for its work, which can begin, and which its legs may be asked for
abbrev pub IsWorkAdmitted : Route → Work → Request → SessionState → SessionState → Admitted
    → Type 0
IsWorkAdmitted route work request old new (admitted.Work given) =
    (given ≡ work) × CanBegin work × IsAskable work
    × (new ≡ waits route old request (record { request = request; work = work }))
IsWorkAdmitted route work request old new admitted.Memory = Unit {0}
IsWorkAdmitted route work request old new answer = ⊥

-- what a request in its place is due becomes of it; want of memory has no cause
abbrev pub IsGivenAdmitted : Route → Given → Request → SessionState → SessionState → Admitted
    → Type 0
IsGivenAdmitted route given request old new admitted.Memory = Unit {0}
IsGivenAdmitted route (given.AtOnce reply) request old new (admitted.Reply answer) =
    (answer ≡ reply) × (new ≡ counted route old request)
IsGivenAdmitted route (given.Works work) request old new answer =
    IsWorkAdmitted route work request old new answer
IsGivenAdmitted route other request old new answer = ⊥

-- a request that is due is answered at once, or waits for its work, which can begin, and which its
-- legs may be asked for
abbrev pub IsDueAdmitted : Route → Asking → Request → SessionState → SessionState → Admitted
    → Type 0
IsDueAdmitted route (at_once reply) request old new (admitted.Reply given) =
    (given ≡ reply) × (new ≡ counted route old request)
IsDueAdmitted route (works work) request old new (admitted.Work given) =
    (given ≡ work) × CanBegin work × IsAskable work
    × (new ≡ record (counted route old request)
    { waiting = Some (record { request = request; work = work }) })
IsDueAdmitted route asked request old new answer = ⊥

-- a request as it is met
abbrev pub IsMetAdmitted : Meeting → Route → SessionState → SessionState → Admitted → Type 0
IsMetAdmitted bad route old new answer = (answer ≡ admitted.Bad) × (new ≡ old)
IsMetAdmitted (beyond request) route old new answer = (answer ≡ admitted.Limited) × (new ≡ old)
IsMetAdmitted (closing close) route old new answer =
    (answer ≡ admitted.Reply (close_reply close.ref_id finished))
    × (new ≡ counted route old (request.Close close))
IsMetAdmitted (due request) route old new answer =
    IsDueAdmitted route
    (asked_with (hits_named old.sets) route (client_of old) request) request old new answer

-- what a request is admitted as, and what is kept of the client behind it; want of memory has no
-- cause
abbrev pub IsAdmitted : Route → Request → SessionState → SessionState → Admitted → Type 0
IsAdmitted route request old new admitted.Memory = Unit {0}
IsAdmitted route request old new answer =
    IsMetAdmitted (met route (progress_of 0 old) (Some request)) route old new answer

-- what an outcome leaves of a request that waits
abbrev pub settled_for : SessionState → Waiting → Outcome → Settled
settled_for s waiting outcome = settled (client_of s) waiting.request waiting.work outcome

-- a set that a search found: its legs, its query and the hits of the outcome
abbrev pub IsFoundSet : Work → Outcome → KnownSet → Type 0
IsFoundSet (work.Search login legs query small large medium small_element medium_element syntax
    room) (outcome.Found hits records) set =
    (set.legs ≡ legs) × (set.query ≡ query) × (set.hits ≡ hits)
IsFoundSet work outcome set = ⊥

-- a set is one that was there, or the one that was found
abbrev pub HasGivenHits : List KnownSet → Work → Outcome → KnownSet → Type 0
HasGivenHits sets work outcome set = Contains sets set ⊎ IsFoundSet work outcome set

-- the reply to the request that waited, and what is kept of the client behind it
pub record IsSettled (old new : SessionState) (waiting : Waiting) (outcome : Outcome)
    (reply : Reply) : Type 0 where
  pub reply-is : reply ≡ (settled_for old waiting outcome).reply
  pub client-is : client_of new ≡ (settled_for old waiting outcome).client
  pub hits : AllByRecursion (HasGivenHits old.sets waiting.work outcome) new.sets
  pub accepted : new.accepted ≡ old.accepted
  pub agreed : new.agreed ≡ old.agreed
  pub units : new.units ≡ old.units
  pub waits_no_more : new.waiting ≡ None

-- whether a request is in its place
abbrev pub is_in_place_after : (accepted : Bool) → Request → Bool
is_in_place_after accepted request =
    is_in_place (record { at = 0; accepted = accepted; units = 0 }) request
