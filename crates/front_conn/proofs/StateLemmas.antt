-- A connection that takes a unit, or turns the request in work, stands behind it, or has ended by it.
use Rattle.std.proofs.Common.{◌≡◌, ℕ, ◌+◌, Bool, true, false, List, [], ◌∷◌, ◌++◌, length, Option, Some, None, refl, sym, ap, ◌∙◌, subst, append_assoc, append-nil, length-append, arith}
use Rattle.std.proofs.lemmas.Grind.{flat_map-append}
use Rattle.std.proofs.lemmas.List.{map-append}
use Rattle.std.specs.Prelude.{if◌then◌else◌, ◌||◌}
use Rattle.std.specs.List.{AllByRecursion}
use Rattle.z_types.specs.declared.marks.End.{End}
use Rattle.z_types.specs.declared.marks.Mark.{Mark}
use Rattle.z_types.specs.declared.replies.Reply.{Reply}
use Rattle.z_types.specs.declared.requests.Request.{Request}
use Rattle.z_types.specs.declared.requests.Request.TheVariants as request
use Rattle.z_types.specs.declared.world.World as world
use Rattle.z_types.specs.Bounds.{within64}
use Rattle.route_config.specs.declared.route.Route.{Route}
use Rattle.unit_forms.specs.Replies.{spell_reply}
use Rattle.front_z.specs.gateway_rules.Answers as kind
use Rattle.front_z.specs.gateway_rules.Answers.{Kind, kind_of, IsReceived}
use Rattle.front_http.specs.sru_rules.Answers.{Answers, AnswersAs}
use Rattle.front_http.specs.front_sru.declared.state.SruStage.{SruStage}
use Rattle.front_http.specs.front_sru.declared.state.SruStage.TheVariants.{Idle, Searching, Fetching}
use Rattle.front_http.specs.Gets.{WaitsFor}
use Rattle.front_z.specs.gateway_rules.Course as course
use Rattle.front_z.specs.gateway_rules.Course.{Meeting, Received, octets_of, met, met_in_place, is_in_place, after, accepts, leads_to}
use Rattle.front_z.specs.gateway_rules.Marks.{Cause, Taken, IsAllowed}
use Rattle.front_z.specs.gateway_rules.Runs.{HasRun, marks_of, written_as}
use Rattle.front_z.specs.gateway_rules.Session as session
use Rattle.front_z.specs.gateway_rules.Session.{Run, run, in_front, stopped, answered, reached}
use Rattle.front_z.specs.gateway_rules.State.{Progress, ClientState}
use Rattle.limit_rules.specs.Limits.{are_units_spent}
use Rattle.front_z.proofs.gateway_rules.Runs.{runs-go-on, units-end}
use Rattle.front_z.specs.front_session.Sessions.{SessionState, client_of, progress_of}
use Rattle.front_z.specs.Units.{Served}
use Rattle.package.specs.steps.Packages.{PackageView}
use Rattle.front_conn.specs.steps.Answering.{IsAnsweredUnder}
use Rattle.front_conn.specs.steps.States.{BeginsWithUnits, ConnectionState, HasAnswered, HasEnded, IsStateOf, Rests, StandsOrEnded, Works, WorksAt, WorksOnGet}

-- ---- octets

-- the octets of units and one more
pub octets-snoc : (units : List Received) (unit : Received) → octets_of (units ++ unit ∷ []) ≡ octets_of units ++ unit.octets
octets-snoc units unit =
    flat_map-append (λ (u : Received). u.octets) units (unit ∷ [])
    ∙ ap (λ o. octets_of units ++ o) (append-nil unit.octets)

-- octets that go on with a unit, and those behind it
pub spelled-snoc : (units : List Received) (unit : Received) (fed left rest : List ℕ)
    → fed ≡ octets_of units ++ left → left ≡ unit.octets ++ rest → fed ≡ octets_of (units ++ unit ∷ []) ++ rest
spelled-snoc units unit fed left rest e f =
    e ∙ ap (λ o. octets_of units ++ o) f ∙ sym (append_assoc (octets_of units) unit.octets rest)
    ∙ ap (λ o. o ++ rest) (sym (octets-snoc units unit))

-- the same with octets that may still come
spelled-more : (units : List Received) (fed rest more : List ℕ) → fed ≡ octets_of units ++ rest
    → octets_of units ++ (rest ++ more) ≡ fed ++ more
spelled-more units fed rest more e = sym (append_assoc (octets_of units) rest more) ∙ ap (λ o. o ++ more) (sym e)

-- ---- the kind of a connection

-- it is decided by the first octet
pub kind-more : (fed more : List ℕ) → kind_of fed ≡ kind.unit → kind_of (fed ++ more) ≡ kind.unit
kind-more [] more h = absurd cc
kind-more (octet ∷ octets) more h = h

-- units come on a connection that begins with one
pub kind-fed : (units : List Received) (fed left : List ℕ) (at : ℕ) → fed ≡ octets_of units ++ left
    → at ≡ within64 (length (octets_of units)) → BeginsWithUnits units fed → (at ≡ 0 → kind_of left ≡ kind.unit)
    → kind_of fed ≡ kind.unit
kind-fed [] fed left at e f begins first = ap kind_of e ∙ first f
kind-fed (unit ∷ units) fed left at e f begins first = begins

-- and so do these and more
pub begins-snoc : (units : List Received) (unit : Received) (fed : List ℕ) → kind_of fed ≡ kind.unit
    → BeginsWithUnits (units ++ unit ∷ []) fed
begins-snoc [] unit fed h = h
begins-snoc (first ∷ units) unit fed h = h

-- the answers to units are those to a connection that begins with one, and to one on which nothing comes
pub as-units : {W : Type 0} (w : world.Ghosts W) (route : Route) (bytes : List ℕ) (marks : List Mark) (out : List ℕ) (end : End)
    → kind_of bytes ≡ kind.unit → kind.Answers w route bytes marks out end → Answers w route bytes marks out end
as-units w route bytes marks out end is all = subst (λ (k : Kind). AnswersAs k w route bytes marks out end) (sym is) all

pub as-none : {W : Type 0} (w : world.Ghosts W) (route : Route) (bytes : List ℕ) (marks : List Mark) (out : List ℕ) (end : End)
    → kind_of bytes ≡ kind.empty → kind.Answers w route bytes marks out end → Answers w route bytes marks out end
as-none w route bytes marks out end is all = subst (λ (k : Kind). AnswersAs k w route bytes marks out end) (sym is) all

-- ---- how a unit is met

-- where it begins does not matter
pub met-at : (route : Route) (a b : ℕ) (s : SessionState) (read : Option Request)
    → met route (progress_of a s) read ≡ met route (progress_of b s) read
met-at route a b s None = refl
met-at route a b s (Some (request.Init init)) = refl
met-at route a b s (Some (request.Search search)) = refl
met-at route a b s (Some (request.Present present)) = refl
met-at route a b s (Some (request.Scan scan)) = refl
met-at route a b s (Some (request.Close close)) = refl

-- a request in its state that is due is the one that was read
in_place-due : (asks read : Request) → met_in_place read ≡ course.due asks → read ≡ asks
in_place-due asks (request.Init init) h = cc
in_place-due asks (request.Search search) h = cc
in_place-due asks (request.Present present) h = cc
in_place-due asks (request.Scan scan) h = cc
in_place-due asks (request.Close close) h = absurd cc

tested-due : (asks read : Request) (spent placed : Bool)
    → (if spent then course.beyond read else if placed then met_in_place read else course.bad) ≡ course.due asks → read ≡ asks
tested-due asks read true placed h = absurd cc
tested-due asks read false true h = in_place-due asks read h
tested-due asks read false false h = absurd cc

met-due : (route : Route) (here : Progress) (read : Option Request) (asks : Request)
    → met route here read ≡ course.due asks → read ≡ Some asks
met-due route here None asks h = absurd cc
met-due route here (Some read) asks h =
    ap Some (tested-due asks read (are_units_spent route.limits here.units) (is_in_place here read) h)

-- and it is in its place
placed-by : (here : Progress) (asks read : Request) (spent placed : Bool) → is_in_place here read ≡ placed
    → (if spent then course.beyond read else if placed then met_in_place read else course.bad) ≡ course.due asks
    → is_in_place here asks ≡ true
placed-by here asks read true placed is h = absurd cc
placed-by here asks read false true is h = subst (λ (r : Request). is_in_place here r ≡ true) (in_place-due asks read h) is
placed-by here asks read false false is h = absurd cc

pub met-placed : (route : Route) (here : Progress) (read : Option Request) (asks : Request)
    → met route here read ≡ course.due asks → is_in_place here asks ≡ true
met-placed route here None asks h = absurd cc
met-placed route here (Some read) asks h =
    placed-by here asks read (are_units_spent route.limits here.units) (is_in_place here read) refl h

-- ---- where a connection stands

-- the states of a connection, by its end and the request in work
pub rests-of : {W S : Type 0} (w : world.Ghosts W) (route : Route) (fed written : List ℕ) (state : ConnectionState S) → state.end ≡ None
    → state.in_work ≡ None → IsStateOf w route fed written state → Rests w route fed written state
rests-of w route fed written state goes rests h =
    subst (λ i. StandsOrEnded w route fed written state None i) rests
    (subst (λ (e : Option End). StandsOrEnded w route fed written state e state.in_work) goes h)

pub works-at : {W S : Type 0} (w : world.Ghosts W) (route : Route) (fed written : List ℕ) (state : ConnectionState S)
    (view : PackageView S) → state.end ≡ None → state.in_work ≡ Some view → IsStateOf w route fed written state
    → WorksAt w route fed written state state.stage view
works-at w route fed written state view goes works h =
    subst (λ i. StandsOrEnded w route fed written state None i) works
    (subst (λ (e : Option End). StandsOrEnded w route fed written state e state.in_work) goes h)

pub of-ended : {W S : Type 0} (w : world.Ghosts W) (route : Route) (fed written : List ℕ) (state : ConnectionState S) (end : End)
    → state.end ≡ Some end → HasEnded w route fed written state end → IsStateOf w route fed written state
of-ended w route fed written state end ended h =
    subst (λ (e : Option End). StandsOrEnded w route fed written state e state.in_work) (sym ended) h

pub of-standing : {W S : Type 0} (w : world.Ghosts W) (route : Route) (fed written : List ℕ) (state : ConnectionState S)
    (works : Option (PackageView S)) → state.end ≡ None → state.in_work ≡ works
    → StandsOrEnded w route fed written state None works → IsStateOf w route fed written state
of-standing w route fed written state works goes is h =
    subst (λ (e : Option End). StandsOrEnded w route fed written state e state.in_work) (sym goes)
    (subst (λ i. StandsOrEnded w route fed written state None i) (sym is) h)

-- where the session's request is in work
pub works-idle : {W S : Type 0} (w : world.Ghosts W) (route : Route) (fed written : List ℕ) (state : ConnectionState S)
    (view : PackageView S) → state.end ≡ None → state.in_work ≡ Some view → state.stage ≡ Idle → Works w route fed written state view
    → IsStateOf w route fed written state
works-idle w route fed written state view goes works idle h =
    of-standing w route fed written state (Some view) goes works
    (subst (λ (s : SruStage). WorksAt w route fed written state s view) (sym idle) h)

-- where the GET is
get-at : {W S : Type 0} (w : world.Ghosts W) (route : Route) (fed written : List ℕ) (state : ConnectionState S) (view : PackageView S)
    (k : WorksOnGet w route fed written state view) (stage : SruStage) → state.stage ≡ stage → WorksAt w route fed written state stage view
get-at w route fed written state view k Idle is =
    absurd (subst (λ (s : SruStage). WaitsFor w route k.stands.retrieval s) is k.stands.waits)
get-at w route fed written state view k (Searching retrieval) is = k
get-at w route fed written state view k (Fetching retrieval hits) is = k

pub works-get : {W S : Type 0} (w : world.Ghosts W) (route : Route) (fed written : List ℕ) (state : ConnectionState S)
    (view : PackageView S) → state.end ≡ None → state.in_work ≡ Some view → WorksOnGet w route fed written state view
    → IsStateOf w route fed written state
works-get w route fed written state view goes works k =
    of-standing w route fed written state (Some view) goes works (get-at w route fed written state view k state.stage refl)

-- ---- one unit more

-- the state of units, in a session
abbrev pub stand_of : List Received → SessionState → Progress
stand_of units session = progress_of (length (octets_of units)) session

-- the run of one unit that is met so
pub unit-run : {W : Type 0} (w : world.Ghosts W) (route : Route) (here : Progress) (client : ClientState)
    (unit : Received) (meeting : Meeting) (causes : List Cause) (got : Run) → IsReceived unit
    → met route here unit.request ≡ meeting
    → run w route client (leads_to meeting here.at (course.stands (after route here unit))) causes ≡ got
    → AllByRecursion IsAllowed got.taken → got.left ≡ []
    → HasRun w route here client (unit ∷ []) causes got
unit-run w route here client unit meeting causes got received is runs allowed left = record {
  each = (received, tt);
  runs = ap (λ m. run w route client (leads_to m here.at (course.stands (after route here unit))) causes) is ∙ runs;
  allowed = allowed;
  none_left = left;
}

-- what was written before and by a unit are the replies so far and its own
written-snoc : (written old new : List ℕ) (replies : List Reply) (reply : Reply)
    → written ++ old ≡ written_as replies → new ≡ old ++ spell_reply reply
    → written ++ new ≡ written_as (replies ++ reply ∷ [])
written-snoc written old new replies reply e f =
    ap (λ o. written ++ o) f ∙ sym (append_assoc written old (spell_reply reply)) ∙ ap (λ o. o ++ spell_reply reply) e
    ∙ ap (λ o. written_as replies ++ o) (sym (append-nil (spell_reply reply)))
    ∙ sym (flat_map-append spell_reply replies (reply ∷ []))

-- ---- a unit that ends the connection

-- the answers behind a unit at which the session is over, whatever may still come
pub over-ended : {W S : Type 0} (w : world.Ghosts W) (route : Route) (fed written : List ℕ) (old new : ConnectionState S)
    (unit : Received) (causes : List Cause) (reply : Reply) (second : Run) (end : End)
    (rb : Rests w route fed written old)
    → (old.at ≡ 0 → kind_of old.left ≡ kind.unit) → old.left ≡ unit.octets ++ new.left
    → HasRun w route (stand_of rb.units old.session) rb.answered.got.client (unit ∷ []) causes second
    → second.stop ≡ session.over end → second.replies ≡ reply ∷ [] → new.out ≡ old.out ++ spell_reply reply
    → new.marks ≡ old.marks ++ marks_of causes → HasEnded w route fed written new end
over-ended w route fed written old new unit causes reply second end rb first taken runs stop replies out marks =
    let before = rb.answered in
    let whole = runs-go-on w route _ _ _ rb.units (unit ∷ []) before.causes causes before.got second before.has_run before.standing runs in
    let spelled = spelled-snoc rb.units unit fed old.left new.left rb.spelled taken in
    let of_units = kind-fed rb.units fed old.left old.at rb.spelled rb.offset rb.kind first in
    let all_marks : marks_of (before.causes ++ causes) ≡ new.marks =
    map-append (λ (c : Cause). c.mark) before.causes causes ∙ ap (λ m. m ++ marks_of causes) before.of_marks ∙ sym marks in
    let all_written : written ++ new.out ≡ written_as (before.got.replies ++ second.replies) =
    written-snoc written old.out new.out before.got.replies reply before.replies out
    ∙ ap (λ r. written_as (before.got.replies ++ r)) (sym replies) in
    λ more may.
    let octets = spelled-more (rb.units ++ unit ∷ []) fed new.left more spelled in
    let of_kind = subst (λ (o : List ℕ). kind_of o ≡ kind.unit) (sym octets) (kind-more fed more of_units) in
    let all = as-units w route (octets_of (rb.units ++ unit ∷ []) ++ (new.left ++ more)) _ _ end of_kind
    (units-end w route (rb.units ++ unit ∷ []) (before.causes ++ causes) _ end (new.left ++ more) whole stop of_kind) in
    let by_octets = subst (λ (o : List ℕ). Answers w route o (marks_of (before.causes ++ causes)) (written_as (before.got.replies ++ second.replies)) end) octets all in
    let by_marks = subst (λ (m : List Mark). Answers w route (fed ++ more) m (written_as (before.got.replies ++ second.replies)) end) all_marks by_octets in
    subst (λ (o : List ℕ). Answers w route (fed ++ more) new.marks o end) (sym all_written) by_marks

-- ---- a unit that is due

-- how far the units have come behind a request that is due
progress-after : (route : Route) (units : List Received) (unit : Received) (asks : Request) (old new : SessionState)
    → unit.request ≡ Some asks → new.accepted ≡ (old.accepted || accepts route (Some asks)) → new.units ≡ old.units + 1
    → after route (progress_of (length (octets_of units)) old) unit ≡ progress_of (length (octets_of (units ++ unit ∷ []))) new
progress-after route units unit asks old new read accepted taken =
    let at = sym (length-append (octets_of units) unit.octets) ∙ ap length (sym (octets-snoc units unit)) in
    let is_accepted = ap (λ r. old.accepted || accepts route r) read ∙ sym accepted in
    let count = sym taken in
    λ i. record { at = at i; accepted = is_accepted i; units = count i }

-- an offset that was told as its type's end stays so
within-more : (a n : ℕ) → within64 (within64 a + n) ≡ within64 (a + n)
within-more a n = omega arith

-- the places behind units and one more
pub offset-more : (units : List Received) (unit : Received) (old new : ℕ) → old ≡ within64 (length (octets_of units))
    → new ≡ within64 (old + length unit.octets) → new ≡ within64 (length (octets_of (units ++ unit ∷ [])))
offset-more units unit old new at state =
    state ∙ ap (λ a. within64 (a + length unit.octets)) at
    ∙ within-more (length (octets_of units)) (length unit.octets)
    ∙ ap within64 (sym (length-append (octets_of units) unit.octets) ∙ ap length (sym (octets-snoc units unit)))

-- a request that was answered under a cause which may come there stands behind the others
pub answered-more : {W : Type 0} (w : world.Ghosts W) (route : Route) (units : List Received) (unit : Received) (marks : List Mark)
    (written : List ℕ) (old new : Served) (asks : Request) (cause : Cause) → HasAnswered w route units marks (written ++ old.out) old.session
    → IsReceived unit → met route (stand_of units old.session) unit.request ≡ course.due asks
    → IsAllowed (record { classes = reached w route (client_of old.session) asks; cause = cause })
    → IsAnsweredUnder w route asks cause old new
    → HasAnswered w route (units ++ unit ∷ []) (marks ++ cause.mark ∷ []) (written ++ new.out) new.session
answered-more w route units unit marks written old new asks cause h received is allowed a =
    let here : Progress = stand_of units old.session in
    let client : ClientState = h.got.client in
    let reply = (answered w route client asks cause).reply in
    let taken : Taken = record { classes = reached w route client asks; cause = cause } in
    let second : Run = in_front (reply ∷ []) (taken ∷ [])
    (stopped [] [] (answered w route client asks cause).client (session.standing (after route here unit))) in
    let may : IsAllowed taken =
    subst (λ (c : ClientState). IsAllowed (record { classes = reached w route c asks; cause = cause })) (sym h.client) allowed in
    let runs = unit-run w route here client unit (course.due asks) (cause ∷ []) second received is refl (may, tt) refl in
    let same = ap (λ c. answered w route c asks cause) h.client in
    record {
      causes = h.causes ++ cause ∷ [];
      of_marks = map-append (λ (c : Cause). c.mark) h.causes (cause ∷ []) ∙ ap (λ m. m ++ cause.mark ∷ []) h.of_marks;
      got = in_front h.got.replies h.got.taken second;
      has_run = runs-go-on w route _ _ _ units (unit ∷ []) h.causes (cause ∷ []) h.got second h.has_run h.standing runs;
      replies = written-snoc written old.out new.out h.got.replies reply h.replies
          (a.written ∙ ap (λ s. old.out ++ spell_reply s.reply) (sym same));
      client = ap (λ s. s.client) same ∙ sym a.client;
      standing = ap session.standing (progress-after route units unit asks old.session new.session
          (met-due route here unit.request asks is) a.accepted a.units);
      sets = a.sets;
    }
