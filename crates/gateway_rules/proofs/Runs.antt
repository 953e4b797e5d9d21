-- A session in parts is one run, and ends by its units or by the rest behind them.
use Rattle.std.proofs.Common.{◌≡◌, ℕ, List, [], ◌∷◌, ◌++◌, Option, Some, None, refl, sym, ap, ◌∙◌, subst}
use Rattle.std.proofs.Common.{append-nil}
use Rattle.std.specs.List.{AllByRecursion}
use Rattle.std.specs.Prelude.{option_to_list, flat_map}
use Rattle.z_types.specs.declared.marks.End.{End}
use Rattle.z_types.specs.declared.replies.Reply.{Reply}
use Rattle.z_types.specs.declared.world.World as world
use Rattle.route_config.specs.declared.route.Route.{Route}
use Rattle.unit_forms.specs.Replies.{spell_reply}
use Rattle.gateway_rules.specs.Answers.{Kind, kind_of, unit, IsCourse, IsCourseOf, IsConnection}
use Rattle.gateway_rules.specs.Course as at
use Rattle.gateway_rules.specs.Course.{Course, Received, octets_of, course, followed, stands_at, end_of}
use Rattle.gateway_rules.specs.Marks.{Cause, Taken, IsAllowed}
use Rattle.gateway_rules.specs.Runs.{RunsGoOn, UnitsEndIt, RestEndsIt}
use Rattle.gateway_rules.specs.Session as session
use Rattle.gateway_rules.specs.Session.{Run, Stop, run, answered, reached, in_front, stopped, IsServed}
use Rattle.gateway_rules.proofs.Joined.{goes_on, joined}
use Rattle.gateway_rules.specs.State.{Progress, ClientState, at_the_start, new_client}
use Rattle.gateway_rules.proofs.Composition.{run-append, run-followed}

-- what is true of each of two lists is true of both, one behind another
pub all-append : {A : Type 0} (P : A → Type 0) (xs ys : List A)
    → AllByRecursion P xs → AllByRecursion P ys → AllByRecursion P (xs ++ ys)
all-append P [] ys h k = k
all-append P (x ∷ xs) ys h k = (h.0, all-append P xs ys h.1 k)

-- ---- more causes

-- a run, with more causes that it leaves
abbrev pub leaves : Run → List Cause → Run
leaves got more = record got { left = got.left ++ more }

-- a run that wants no cause leaves the causes that are put behind its own
pub run-more : {W : Type 0} (w : world.Ghosts W) (route : Route) (client : ClientState) (c : Course)
    (causes more : List Cause) → IsServed (run w route client c causes).stop
    → run w route client c (causes ++ more) ≡ leaves (run w route client c causes) more
run-more w route client (at.stands here) causes more served = refl
run-more w route client (at.ends last end) causes more served = refl
run-more w route client (at.answers request behind) [] more served = absurd served
run-more w route client (at.answers request behind) (cause ∷ causes) more served =
    let reply = (answered w route client request cause).reply in
    let taken : Taken = record { classes = reached w route client request; cause = cause } in
    ap (in_front (reply ∷ []) (taken ∷ []))
    (run-more w route (answered w route client request cause).client behind causes more served)

-- a run that stands wants no cause
stands-served : (stop : Stop) (there : Progress) → stop ≡ session.standing there → IsServed stop
stands-served stop there h = subst IsServed (sym h) tt

-- ---- parts of a session are one run

-- what a run goes on by where it stands, with the causes that were put behind its own
goes_on-standing : {W : Type 0} (w : world.Ghosts W) (route : Route) (first : Run) (there : Progress)
    (others : List Received) (more : List Cause)
    → first.stop ≡ session.standing there → first.left ≡ []
    → joined (leaves first more) (λ p client left. run w route client (course route p others) left)
    ≡ in_front first.replies first.taken (run w route first.client (course route there others) more)
goes_on-standing w route first there others more stop left =
    let next : Progress → ClientState → List Cause → Run = λ p client left. run w route client (course route p others) left in
    ap (λ s. goes_on s (leaves first more) next) stop
    ∙ ap (λ l. in_front first.replies first.taken (next there first.client (l ++ more))) left

pub runs-go-on : {W : Type 0} (w : world.Ghosts W) → RunsGoOn w
runs-go-on w route here there client units others causes more first second p stands q =
    let served = subst (λ (r : Run). IsServed r.stop) (sym p.runs) (stands-served first.stop there stands) in
    let front = run-more w route client (course route here units) causes more served
    ∙ ap (λ r. leaves r more) p.runs in
    let next : Progress → ClientState → List Cause → Run = λ p client left. run w route client (course route p others) left in
    record {
      each = all-append _ units others p.each q.each;
      runs = run-append w route here client units others (causes ++ more)
          ∙ ap (λ r. joined r next) front
          ∙ goes_on-standing w route first there others more stands p.none_left
          ∙ ap (in_front first.replies first.taken) q.runs;
      allowed = all-append _ first.taken second.taken p.allowed q.allowed;
      none_left = q.none_left;
    }

-- ---- where a course is over

-- a course that is over stands nowhere
over-stands : {W : Type 0} (w : world.Ghosts W) (route : Route) (client : ClientState) (c : Course)
    (causes : List Cause) (end : End) → (run w route client c causes).stop ≡ session.over end → stands_at c ≡ None
over-stands w route client (at.stands here) causes end h = absurd cc
over-stands w route client (at.ends last other) causes end h = refl
over-stands w route client (at.answers request more) [] end h = absurd cc
over-stands w route client (at.answers request more) (cause ∷ causes) end h =
    over-stands w route (answered w route client request cause).client more causes end h

-- and ends as its run
over-ends : {W : Type 0} (w : world.Ghosts W) (route : Route) (client : ClientState) (c : Course)
    (causes : List Cause) (end : End) → (run w route client c causes).stop ≡ session.over end → end_of c ≡ Some end
over-ends w route client (at.stands here) causes end h = absurd cc
over-ends w route client (at.ends last other) causes end h = cc
over-ends w route client (at.answers request more) [] end h = absurd cc
over-ends w route client (at.answers request more) (cause ∷ causes) end h =
    over-ends w route (answered w route client request cause).client more causes end h

-- nothing follows it
pub over-followed : (c : Course) (next : Progress → Course) → stands_at c ≡ None → c ≡ followed c next
over-followed (at.stands here) next h = absurd cc
over-followed (at.ends last end) next h = refl
over-followed (at.answers request more) next h = ap (at.answers request) (over-followed more next h)

-- ---- where it stands

-- a course stands where its run does
pub standing-stands : {W : Type 0} (w : world.Ghosts W) (route : Route) (client : ClientState) (c : Course)
    (causes : List Cause) (there : Progress) → (run w route client c causes).stop ≡ session.standing there
    → stands_at c ≡ Some there
standing-stands w route client (at.stands here) causes there h = cc
standing-stands w route client (at.ends last other) causes there h = absurd cc
standing-stands w route client (at.answers request more) [] there h = absurd cc
standing-stands w route client (at.answers request more) (cause ∷ causes) there h =
    standing-stands w route (answered w route client request cause).client more causes there h

-- a course that stands ends as what follows it
followed-ends : (c : Course) (there : Progress) (last : Option Reply) (end : End) → stands_at c ≡ Some there
    → end_of (followed c (λ here. at.ends last end)) ≡ Some end
followed-ends (at.stands here) there last end h = refl
followed-ends (at.ends other way) there last end h = absurd cc
followed-ends (at.answers request more) there last end h = followed-ends more there last end h

-- ---- ends

-- the course of a connection that begins with no letter
course-connection : (route : Route) (bytes : List ℕ) (whole : Course) → kind_of bytes ≡ unit
    → IsCourse route at_the_start bytes whole → IsConnection route bytes whole
course-connection route bytes whole kind c = subst (λ (k : Kind). IsCourseOf k route bytes whole) (sym kind) c

pub units-end : {W : Type 0} (w : world.Ghosts W) → UnitsEndIt w
units-end w route units causes got end more p stop kind =
    let c : Course = course route at_the_start units in
    let stops = ap (λ r. r.stop) p.runs ∙ stop in
    let none = over-stands w route new_client c causes end stops in
    record {
      answered = record {
        whole = c;
        is_whole = course-connection route (octets_of units ++ more) c kind (record {
          units = units;
          rest = more;
          spelled = refl;
          each = p.each;
          behind = c;
          rested = rw none tt;
          is = over-followed c (λ there. c) none;
        });
        causes = causes;
        of_marks = refl;
        allowed = subst (λ (r : Run). AllByRecursion IsAllowed r.taken) (sym p.runs) p.allowed;
        written = ap (λ r. flat_map spell_reply r.replies) (sym p.runs);
      };
      fits = record {
        allowed = subst (λ (r : Run). AllByRecursion IsAllowed r.taken) (sym p.runs) p.allowed;
        served = subst IsServed (sym stops) tt;
        none_left = ap (λ r. r.left) p.runs ∙ p.none_left;
      };
      ended = over-ends w route new_client c causes end stops;
    }

-- the run of a course that stands, and of the end that follows it
run-ended : {W : Type 0} (w : world.Ghosts W) (route : Route) (client : ClientState) (c : Course) (causes : List Cause)
    (got : Run) (there : Progress) (last : Option Reply) (end : End)
    → run w route client c causes ≡ got → got.stop ≡ session.standing there
    → run w route client (followed c (λ here. at.ends last end)) causes
    ≡ in_front got.replies got.taken (stopped (option_to_list last) got.left got.client (session.over end))
run-ended w route client c causes got there last end runs stop =
    let next : Progress → ClientState → List Cause → Run =
    λ p left_client left. run w route left_client (at.ends last end) left in
    run-followed w route client c (λ here. at.ends last end) causes
    ∙ ap (λ r. joined r next) runs
    ∙ ap (λ s. goes_on s got next) stop

pub rest-ends : {W : Type 0} (w : world.Ghosts W) → RestEndsIt w
rest-ends w route units causes got there rest last end p stop leads kind =
    let c : Course = course route at_the_start units in
    let whole : Course = followed c (λ here. at.ends last end) in
    let stands = standing-stands w route new_client c causes there (ap (λ r. r.stop) p.runs ∙ stop) in
    let final : Run = in_front got.replies got.taken (stopped (option_to_list last) got.left got.client (session.over end)) in
    let runs : run w route new_client whole causes ≡ final = run-ended w route new_client c causes got there last end p.runs stop in
    let taken : AllByRecursion IsAllowed (got.taken ++ []) = subst (AllByRecursion IsAllowed) (sym (append-nil got.taken)) p.allowed in
    let allowed = subst (λ (r : Run). AllByRecursion IsAllowed r.taken) (sym runs) taken in
    record {
      answered = record {
        whole = whole;
        is_whole = course-connection route (octets_of units ++ rest) whole kind (record {
          units = units;
          rest = rest;
          spelled = refl;
          each = p.each;
          behind = at.ends last end;
          rested = rw stands leads;
          is = refl;
        });
        causes = causes;
        of_marks = refl;
        allowed = allowed;
        written = ap (λ r. flat_map spell_reply r.replies) (sym runs);
      };
      fits = record {
        allowed = allowed;
        served = subst (λ (r : Run). IsServed r.stop) (sym runs) tt;
        none_left = ap (λ r. r.left) runs ∙ p.none_left;
      };
      ended = followed-ends c there last end stands;
    }
