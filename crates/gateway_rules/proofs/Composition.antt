-- A session answers units one behind another: first these, and then those from where it stands.
use Rattle.std.proofs.Common.{◌≡◌, ℕ, List, [], ◌∷◌, ◌++◌, refl, sym, ap, ◌∙◌, append_assoc}
use Rattle.z_types.specs.declared.world.World as world
use Rattle.route_config.specs.declared.route.Route.{Route}
use Rattle.gateway_rules.specs.Course as at
use Rattle.gateway_rules.specs.Course.{Course, Meeting, Received, course, followed, leads_to, met, after}
use Rattle.gateway_rules.specs.Marks.{Cause, Taken}
use Rattle.gateway_rules.specs.Session as session
use Rattle.gateway_rules.specs.Session.{Run, Stop, run, answered, reached, in_front}
use Rattle.gateway_rules.proofs.Joined.{goes_on, joined}
use Rattle.gateway_rules.specs.State.{Progress, ClientState}
use Rattle.z_types.specs.declared.replies.Reply.{Reply}

-- ---- courses

-- what a unit leads to goes on as what comes behind it does
pub leads_to-followed : (meeting : Meeting) (offset : ℕ) (more : Course) (next : Progress → Course)
    → leads_to meeting offset (followed more next) ≡ followed (leads_to meeting offset more) next
leads_to-followed at.bad offset more next = refl
leads_to-followed (at.beyond request) offset more next = refl
leads_to-followed (at.closing close) offset more next = refl
leads_to-followed (at.due request) offset more next = refl

-- the course of units and more units is that of the units, followed by that of the others
pub course-append : (route : Route) (here : Progress) (units others : List Received)
    → course route here (units ++ others) ≡ followed (course route here units) (λ there. course route there others)
course-append route here [] others = refl
course-append route here (unit ∷ units) others =
    ap (leads_to (met route here unit.request) here.at) (course-append route (after route here unit) units others)
    ∙ leads_to-followed (met route here unit.request) here.at (course route (after route here unit) units)
    (λ there. course route there others)

-- ---- runs

-- what stands in front of a run stands in front of what it goes on by
in_front-goes_on : (stop : Stop) (replies : List Reply) (taken : List Taken) (first : Run)
    (next : Progress → ClientState → List Cause → Run)
    → in_front replies taken (goes_on stop first next) ≡ goes_on stop (in_front replies taken first) next
in_front-goes_on (session.standing here) replies taken first next =
    let second : Run = next here first.client first.left in
    let rs = append_assoc replies first.replies second.replies in
    let ts = append_assoc taken first.taken second.taken in
    λ i. record second { replies = sym rs i; taken = sym ts i }
in_front-goes_on (session.over end) replies taken first next = refl
in_front-goes_on session.wanting replies taken first next = refl

-- the run of a course that goes on is that of the course, and then that of what it goes on by
pub run-followed : {W : Type 0} (w : world.Ghosts W) (route : Route) (client : ClientState) (first : Course)
    (next : Progress → Course) (causes : List Cause)
    → run w route client (followed first next) causes
    ≡ joined (run w route client first causes) (λ there left_client left. run w route left_client (next there) left)
run-followed w route client (at.stands here) next causes = refl
run-followed w route client (at.ends last end) next causes = refl
run-followed w route client (at.answers request more) next [] = refl
run-followed w route client (at.answers request more) next (cause ∷ causes) =
    let left_client = (answered w route client request cause).client in
    let reply = (answered w route client request cause).reply in
    let taken : Taken = record { classes = reached w route client request; cause = cause } in
    ap (in_front (reply ∷ []) (taken ∷ [])) (run-followed w route left_client more next causes)
    ∙ in_front-goes_on (run w route left_client more causes).stop (reply ∷ []) (taken ∷ [])
    (run w route left_client more causes)
    (λ there rest_client left. run w route rest_client (next there) left)

-- The run over units and more units is that over the units, and then that over the others, from where the first stands,
-- with the client and the causes that it leaves.
pub run-append : {W : Type 0} (w : world.Ghosts W) (route : Route) (here : Progress) (client : ClientState)
    (units others : List Received) (causes : List Cause)
    → run w route client (course route here (units ++ others)) causes
    ≡ joined (run w route client (course route here units) causes)
    (λ there left_client left. run w route left_client (course route there others) left)
run-append w route here client units others causes =
    ap (λ c. run w route client c causes) (course-append route here units others)
    ∙ run-followed w route client (course route here units) (λ there. course route there others) causes
