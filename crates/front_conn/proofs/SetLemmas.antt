-- The sets that are kept have the hits that the targets mean, before a request and behind it.
use Rattle.std.proofs.Common.{◌≡◌, ℕ, ◌<◌, length, Bool, true, false, List, [], ◌∷◌, Option, Some, Result, Ok, Err, refl, sym, ap, ◌∙◌, subst, map, inl, inr}
use Rattle.std.specs.Prelude.{◌||◌, not, All, unwrap_or, option_map, find, cond, Contains}
use Rattle.std.specs.List.{AllByRecursion}
use Rattle.std.proofs.lemmas.List.Elements.{All-from_recursion}
use Rattle.z_types.specs.declared.diagnostic.Diag.{Diag}
use Rattle.z_types.specs.declared.known_set.KnownSet.{KnownSet}
use Rattle.z_types.specs.declared.marks.Mark.{Mark}
use Rattle.z_types.specs.declared.marks.Mark.TheVariants.{Plain, Link, Silent, Gone, Full}
use Rattle.z_types.specs.declared.outcome.Fetched.{Fetched}
use Rattle.z_types.specs.declared.outcome.Outcome.{Outcome}
use Rattle.z_types.specs.declared.outcome.Outcome.TheVariants as outcome
use Rattle.z_types.specs.declared.requests.Request.{Request}
use Rattle.z_types.specs.declared.requests.Request.TheVariants as request
use Rattle.z_types.specs.declared.work.Work.{Work}
use Rattle.z_types.specs.declared.work.Work.TheVariants as work
use Rattle.z_types.specs.declared.world.World as world
use Rattle.z_types.specs.Under.{under}
use Rattle.z_types.specs.Same.{is_same}
use Rattle.z_sets.specs.Sets.{StoredSet, stored, set_named}
use Rattle.route_config.specs.declared.route.Route.{Route}
use Rattle.front_z.specs.gateway_rules.Asking.{asked, asked_with, hits_meant, known_hits, present_due, unless_refused, works}
use Rattle.front_z.specs.gateway_rules.Course.{is_in_place}
use Rattle.front_z.specs.gateway_rules.Marks.{Cause}
use Rattle.front_z.specs.gateway_rules.Outcomes.{found, login_asked, outcome_of, under_mark}
use Rattle.front_z.specs.gateway_rules.Targets.{hits_of}
use Rattle.package.specs.package_rules.Planned.{AreThere}
use Rattle.package.specs.package_rules.Truth.{HasWorldsHits}
use Rattle.front_z.specs.front_session.Sessions.{SessionState, client_of, progress_of}
use Rattle.front_z.specs.front_session.Admitting.{counted, hits_named, HasGivenHits, IsFoundSet}
use Rattle.front_conn.specs.steps.States.{HasLegsOf, HasMeantHits, HaveMeantHits}
use Rattle.front_conn.proofs.WorkLemmas.{ComesFrom, comes-from}

-- ---- before a request

-- the set of a name is this one, or the one that is found behind it
hits-at : {W : Type 0} (w : world.Ghosts W) (route : Route) (set : KnownSet) (b : Bool) (known : Option KnownSet)
    (named : Option StoredSet) → HasMeantHits w route set
    → unwrap_or (option_map (λ s. s.hits) known) [] ≡ hits_meant w route named
    → unwrap_or (option_map (λ s. s.hits) (cond b (Some set) known)) [] ≡ hits_meant w route (cond b (Some (stored set)) named)
hits-at w route set true known named meant rest = sym (ap known_hits meant)
hits-at w route set false known named meant rest = rest

-- the hits that are kept of the set of a name are those that the targets mean
pub hits_named-meant : {W : Type 0} (w : world.Ghosts W) (route : Route) (sets : List KnownSet) (name : List ℕ)
    → AllByRecursion (HasMeantHits w route) sets
    → hits_named sets name ≡ hits_meant w route (set_named name (map stored sets))
hits_named-meant w route [] name all = refl
hits_named-meant w route (set ∷ sets) name all =
    hits-at w route set (is_same set.name name) (find (λ s. is_same s.name name) sets)
    (find (λ s. is_same s.name name) (map stored sets)) all.0 (hits_named-meant w route sets name all.1)

-- so a request is due the same
pub asked_with-meant : {W : Type 0} (w : world.Ghosts W) (route : Route) (session : SessionState) (asks : Request)
    → HaveMeantHits w route session
    → asked_with (hits_named session.sets) route (client_of session) asks ≡ asked w route (client_of session) asks
asked_with-meant w route session (request.Init init) sets = refl
asked_with-meant w route session (request.Search search) sets = refl
asked_with-meant w route session (request.Present present) sets =
    let set : Option StoredSet = set_named present.set_name (map stored session.sets) in
    ap (λ hits. unless_refused (request.Present present) (present_due route (client_of session) present set hits))
    (hits_named-meant (under session.agreed.login w) route session.sets present.set_name sets.each)
asked_with-meant w route session (request.Scan scan) sets = refl
asked_with-meant w route session (request.Close close) sets = refl

-- a set that is found has hits that the targets mean
found-here : {W : Type 0} (w : world.Ghosts W) (route : Route) (known : KnownSet) (b : Bool) (others : Option StoredSet) (set : StoredSet)
    → HasMeantHits w route known → (others ≡ Some set → hits_of w route set.legs set.query ≡ Ok (hits_meant w route (Some set)))
    → cond b (Some (stored known)) others ≡ Some set → hits_of w route set.legs set.query ≡ Ok (hits_meant w route (Some set))
found-here w route known true others set meant rest h =
    let same : stored known ≡ set = cc in
    subst (λ (s : StoredSet). hits_of w route s.legs s.query ≡ Ok (hits_meant w route (Some s))) same
    (meant ∙ ap (λ r. Ok (known_hits r)) (sym meant))
found-here w route known false others set meant rest h = rest h

found-among : {W : Type 0} (w : world.Ghosts W) (route : Route) (sets : List KnownSet) (name : List ℕ) (set : StoredSet)
    → AllByRecursion (HasMeantHits w route) sets → set_named name (map stored sets) ≡ Some set
    → hits_of w route set.legs set.query ≡ Ok (hits_meant w route (Some set))
found-among w route [] name set all h = absurd cc
found-among w route (known ∷ sets) name set all h =
    found-here w route known (is_same known.name name) (set_named name (map stored sets)) set all.0
    (found-among w route sets name set all.1) h

-- so a fetch goes by the hits that the targets mean
fetch-meant : {W : Type 0} (w : world.Ghosts W) (route : Route) (session : SessionState) (job : Work)
    → AllByRecursion (HasMeantHits (under session.agreed.login w) route) session.sets
    → ComesFrom (λ name. hits_meant (under session.agreed.login w) route (set_named name (map stored session.sets))) route (client_of session) job
    → HasWorldsHits w route job
fetch-meant w route session (work.Search login legs query small large medium small_element medium_element syntax room) all from = tt
fetch-meant w route session (work.Fetch login legs query hits first count syntax element) all from =
    let own = under session.agreed.login w in
    ap (λ (l : Option (List ℕ)). hits_of (under l w) route legs query) from.of_login
    ∙ ap (λ l. hits_of own route l query) from.of_legs ∙ ap (hits_of own route from.set.legs) from.of_query
    ∙ found-among own route session.sets from.name from.set all from.found
    ∙ ap (λ s. Ok (hits_meant own route s)) (sym from.found) ∙ ap Ok (sym from.of_hits)
fetch-meant w route session (work.Scan login leg ask) all from = tt

pub asked-hits : {W : Type 0} (w : world.Ghosts W) (route : Route) (session : SessionState) (asks : Request) (job : Work)
    → HaveMeantHits w route session → asked w route (client_of session) asks ≡ works job
    → HasWorldsHits w route job
asked-hits w route session asks job sets h =
    let told : List ℕ → List ℕ = λ name. hits_meant (under session.agreed.login w) route (set_named name (map stored session.sets)) in
    fetch-meant w route session job sets.each (comes-from told route (client_of session) asks job h)

-- ---- behind a request

-- the hits of what was found are those of the targets
found-hits : (answer : Result (List ℕ) Diag) (records : List ℕ → Fetched) (hits : List ℕ) (fetched : Fetched)
    → outcome.Found hits fetched ≡ found answer records → answer ≡ Ok hits
found-hits (Ok others) records hits fetched e = cc
found-hits (Err diag) records hits fetched e = absurd cc

-- nothing is found under a mark
unmarked : (mark : Mark) (class : List ℕ) (plainly : Outcome) (hits : List ℕ) (fetched : Fetched)
    → outcome.Found hits fetched ≡ under_mark mark class plainly → outcome.Found hits fetched ≡ plainly
unmarked Plain class plainly hits fetched e = e
unmarked Link class plainly hits fetched e = absurd cc
unmarked (Silent looks) class plainly hits fetched e = absurd cc
unmarked Gone class plainly hits fetched e = absurd cc
unmarked (Full sessions) class plainly hits fetched e = absurd cc

-- a set that was found has the hits that the targets mean
found-meant : {W : Type 0} (w : world.Ghosts W) (route : Route) (asks : Work) (cause : Cause) (got : Outcome) (set : KnownSet)
    → got ≡ outcome_of w route asks cause → IsFoundSet asks got set → HasMeantHits (under (login_asked asks) w) route set
found-meant w route (work.Search login legs query small large medium small_element medium_element syntax room) cause (outcome.Found hits fetched) set e p =
    ap (λ l. hits_of (under login w) route l set.query) p.0 ∙ ap (hits_of (under login w) route legs) p.1
    ∙ found-hits (hits_of (under login w) route legs query) _ hits fetched (unmarked cause.mark cause.class _ hits fetched e) ∙ ap Ok (sym p.2)
found-meant w route (work.Search login legs query small large medium small_element medium_element syntax room) cause (outcome.Fetched fetched) set e p = absurd p
found-meant w route (work.Search login legs query small large medium small_element medium_element syntax room) cause (outcome.Scanned answer) set e p = absurd p
found-meant w route (work.Search login legs query small large medium small_element medium_element syntax room) cause (outcome.Refused diag) set e p = absurd p
found-meant w route (work.Search login legs query small large medium small_element medium_element syntax room) cause (outcome.Marked mark class) set e p = absurd p
found-meant w route (work.Fetch login legs query hits first count syntax element) cause got set e p = absurd p
found-meant w route (work.Scan login leg ask) cause got set e p = absurd p

-- what is true of each set is true of one among them
contained : (P : KnownSet → Type 0) (sets : List KnownSet) (set : KnownSet) → AllByRecursion P sets → Contains sets set → P set
contained P sets set all c = subst P c.2 (All-from_recursion P sets all c.0 set c.1)

-- a set that was there, or was found, has the hits that the targets mean
given-meant : {W : Type 0} (w : world.Ghosts W) (route : Route) (sets : List KnownSet) (asks : Work) (cause : Cause) (set : KnownSet)
    → AllByRecursion (HasMeantHits (under (login_asked asks) w) route) sets → HasGivenHits sets asks (outcome_of w route asks cause) set
    → HasMeantHits (under (login_asked asks) w) route set
given-meant w route sets asks cause set all (inl there) = contained (HasMeantHits (under (login_asked asks) w) route) sets set all there
given-meant w route sets asks cause set all (inr p) = found-meant w route asks cause (outcome_of w route asks cause) set refl p

-- and so have all
pub sets-meant : {W : Type 0} (w : world.Ghosts W) (route : Route) (sets : List KnownSet) (asks : Work)
    (cause : Cause) (news : List KnownSet) → AllByRecursion (HasMeantHits (under (login_asked asks) w) route) sets
    → AllByRecursion (HasGivenHits sets asks (outcome_of w route asks cause)) news
    → AllByRecursion (HasMeantHits (under (login_asked asks) w) route) news
sets-meant w route sets asks cause [] all given = tt
sets-meant w route sets asks cause (set ∷ news) all given =
    (given-meant w route sets asks cause set all given.0, sets-meant w route sets asks cause news all given.1)

-- ---- behind an Init

or-false : (b : Bool) → (b || false) ≡ false → b ≡ false
or-false true h = absurd cc
or-false false h = refl

not-true : (b : Bool) → not b ≡ true → b ≡ false
not-true true h = absurd cc
not-true false h = refl

-- a request that is in its place leaves the sets with the hits that the targets mean: where an Init settles a login there are none
pub counted-meant : {W : Type 0} (w : world.Ghosts W) (route : Route) (at : ℕ) (session : SessionState) (asks : Request)
    → is_in_place (progress_of at session) asks ≡ true → HaveMeantHits w route session → HaveMeantHits w route (counted route session asks)
counted-meant w route at session (request.Init init) placed sets =
    let none : session.sets ≡ [] = sets.none_before (not-true session.accepted placed) in record {
      none_before = λ h. none;
      each = subst (AllByRecursion (HasMeantHits (under (counted route session (request.Init init)).agreed.login w) route)) (sym none) tt;
    }
counted-meant w route at session (request.Search search) placed sets =
    record { none_before = λ h. sets.none_before (or-false session.accepted h); each = sets.each }
counted-meant w route at session (request.Present present) placed sets =
    record { none_before = λ h. sets.none_before (or-false session.accepted h); each = sets.each }
counted-meant w route at session (request.Scan scan) placed sets =
    record { none_before = λ h. sets.none_before (or-false session.accepted h); each = sets.each }
counted-meant w route at session (request.Close close) placed sets =
    record { none_before = λ h. sets.none_before (or-false session.accepted h); each = sets.each }

-- ---- of one route

-- a set that was found has the legs of its work
found-legs : (route : Route) (asks : Work) (got : Outcome) (set : KnownSet) → AreThere route asks → IsFoundSet asks got set
    → HasLegsOf route set
found-legs route (work.Search login legs query small large medium small_element medium_element syntax room) (outcome.Found hits fetched) set there p =
    subst (All (λ leg. leg < length route.legs)) (sym p.0) there
found-legs route (work.Search login legs query small large medium small_element medium_element syntax room) (outcome.Fetched fetched) set there p = absurd p
found-legs route (work.Search login legs query small large medium small_element medium_element syntax room) (outcome.Scanned answer) set there p = absurd p
found-legs route (work.Search login legs query small large medium small_element medium_element syntax room) (outcome.Refused diag) set there p = absurd p
found-legs route (work.Search login legs query small large medium small_element medium_element syntax room) (outcome.Marked mark class) set there p = absurd p
found-legs route (work.Fetch login legs query hits first count syntax element) got set there p = absurd p
found-legs route (work.Scan login leg ask) got set there p = absurd p

given-legs : (route : Route) (sets : List KnownSet) (asks : Work) (got : Outcome) (set : KnownSet) → AllByRecursion (HasLegsOf route) sets
    → AreThere route asks → HasGivenHits sets asks got set → HasLegsOf route set
given-legs route sets asks got set all there (inl here) = contained (HasLegsOf route) sets set all here
given-legs route sets asks got set all there (inr p) = found-legs route asks got set there p

-- the legs of all sets are the route's behind a request, too
pub sets-legs : (route : Route) (sets : List KnownSet) (asks : Work) (got : Outcome) (news : List KnownSet)
    → AllByRecursion (HasLegsOf route) sets → AreThere route asks → AllByRecursion (HasGivenHits sets asks got) news
    → AllByRecursion (HasLegsOf route) news
sets-legs route sets asks got [] all there given = tt
sets-legs route sets asks got (set ∷ news) all there given =
    (given-legs route sets asks got set all there given.0, sets-legs route sets asks got news all there given.1)
