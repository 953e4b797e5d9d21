-- Where a work comes from: the databases that a Search or a Scan names, or a set that the client has.
use Rattle.std.proofs.Common.{◌≡◌, ℕ, ◌<◌, ◌==◌, Bool, true, false, List, [], ◌∷◌, length, Option, None, Some, Result, Ok, Err, refl, sym, ap, ◌∙◌, subst}
use Rattle.std.specs.Prelude.{All, flat_map, slice_get, find, cond, map}
use Rattle.std.specs.List.{AllByRecursion}
use Rattle.std.proofs.lemmas.List.Elements.{All-from_recursion, recursion_from_All}
use Rattle.z_types.specs.Same.{is_same}
use Rattle.z_types.specs.declared.diagnostic.Diag.{Diag}
use Rattle.z_types.specs.declared.known_set.KnownSet.{KnownSet}
use Rattle.z_types.specs.declared.query.RpnQuery.{RpnQuery}
use Rattle.z_types.specs.declared.requests.Asked.{Asked}
use Rattle.z_types.specs.declared.requests.Asked.TheVariants.{Good, Bad}
use Rattle.z_types.specs.declared.requests.Present.{Present}
use Rattle.z_types.specs.declared.requests.Request.{Request}
use Rattle.z_types.specs.declared.requests.Request.TheVariants as request
use Rattle.z_types.specs.declared.replies.Reply.{Reply}
use Rattle.z_types.specs.declared.requests.Search.{Search}
use Rattle.z_types.specs.declared.scan.ScanAsk.{ScanAsk}
use Rattle.z_types.specs.declared.work.Work.{Work}
use Rattle.z_types.specs.declared.work.Work.TheVariants as work
use Rattle.z_sets.specs.Sets.{StoredSet, set_named, stored}
use Rattle.z_sets.specs.Expansion.{expanded}
use Rattle.z_sets.specs.declared.fault.ExpandFault.{ExpandFault}
use Rattle.limit_rules.specs.Limits.{room}
use Rattle.route_config.specs.Lookup.{database_named}
use Rattle.route_config.specs.Sound.{AllBelow, IsSound}
use Rattle.route_config.specs.declared.route.Database.{Database}
use Rattle.route_config.specs.declared.route.Route.{Route}
use Rattle.virt_db.specs.Legs.{distinct, legs_behind, legs_of}
use Rattle.front_z.specs.gateway_rules.Asking.{Asking, at_once, asked_with, fetch_work, leg_work, query_work, scan_work, search_work, unless_refused, works}
use Rattle.front_z.specs.gateway_rules.Checks.{checked, present_checks, scan_checks, search_checks}
use Rattle.front_z.specs.gateway_rules.Outcomes.{login_asked}
use Rattle.front_z.specs.gateway_rules.State.{ClientState}
use Rattle.front_z.proofs.gateway_rules.Runs.{all-append}
use Rattle.package.specs.package_rules.Planned.{AreThere}
use Rattle.front_conn.specs.steps.States.{HasLegsOf}

-- ---- what a request asks

-- a fetch is from this set, with the hits that are told of its name
pub record IsFetchFrom (told : List ℕ → List ℕ) (client : ClientState) (login : Option (List ℕ)) (legs : List ℕ) (query : RpnQuery)
    (hits : List ℕ) : Type 0 where
  pub name : List ℕ
  pub set : StoredSet
  pub found : set_named name client.sets ≡ Some set
  pub of_legs : legs ≡ set.legs
  pub of_query : query ≡ set.query
  pub of_hits : hits ≡ told name
  pub of_login : login ≡ client.agreed.login

-- the work is for databases that are named, or for such a set, under the client's login
abbrev pub ComesFrom : (told : List ℕ → List ℕ) → Route → ClientState → Work → Type 0
ComesFrom told route client (work.Search login legs query small large medium small_element medium_element syntax room) =
    (names : List (List ℕ)) × (legs ≡ legs_of route names) × (login ≡ client.agreed.login)
ComesFrom told route client (work.Fetch login legs query hits first count syntax element) =
    IsFetchFrom told client login legs query hits
ComesFrom told route client (work.Scan login leg ask) =
    (names : List (List ℕ)) × (slice_get (legs_of route names) 0 ≡ Some leg) × (login ≡ client.agreed.login)

unless-works : (asks : Request) (due : Result Asking Diag) (job : Work) → unless_refused asks due ≡ works job → due ≡ Ok (works job)
unless-works asks (Err diag) job h = absurd cc
unless-works asks (Ok due) job h = ap Ok h

checked-ok : (checks : List (Option Diag)) (behind : Result Asking Diag) (due : Asking) → checked checks behind ≡ Ok due → behind ≡ Ok due
checked-ok [] behind due h = h
checked-ok (None ∷ checks) behind due h = checked-ok checks behind due h
checked-ok (Some diag ∷ checks) behind due h = absurd cc

module _ (told : List ℕ → List ℕ) (route : Route) (client : ClientState) where
  found-from : (it : Search) (query : Result RpnQuery ExpandFault) (job : Work)
      → search_work route client it query ≡ Ok (works job) → ComesFrom told route client job
  found-from it (Err fault) job h = absurd cc
  found-from it (Ok query) job h =
      let same : work.Search client.agreed.login (legs_of route it.dbs) query it.small it.large it.medium
      it.small_element it.medium_element it.syntax (room route.limits client.records) ≡ job = cc in
      subst (ComesFrom told route client) same (it.dbs, refl, refl)

  query-from : (it : Search) (query : Asked RpnQuery) (job : Work) → query_work route client it query ≡ Ok (works job)
      → ComesFrom told route client job
  query-from it (Bad diag) job h = absurd cc
  query-from it (Good query) job h = found-from it (expanded query (legs_of route it.dbs) client.sets) job h

  number-from : (none : Bool) (reply : Reply) (fetch job : Work) → ComesFrom told route client fetch
      → cond none (at_once reply) (works fetch) ≡ works job → ComesFrom told route client job
  number-from true reply fetch job from h = absurd cc
  number-from false reply fetch job from h = let same : fetch ≡ job = cc in subst (ComesFrom told route client) same from

  set-from : (present : Present) (found : Option StoredSet) (job : Work) → set_named present.set_name client.sets ≡ found
      → fetch_work client.agreed.login present (told present.set_name) found ≡ works job → ComesFrom told route client job
  set-from present None job is h = absurd cc
  set-from present (Some set) job is h =
      number-from (present.number == 0) _ _ job
      (record { name = present.set_name; set = set; found = is; of_legs = refl; of_query = refl; of_hits = refl; of_login = refl }) h

  leg-from : (names : List (List ℕ)) (ask : ScanAsk) (leg : Option ℕ) (job : Work) → slice_get (legs_of route names) 0 ≡ leg
      → leg_work client.agreed.login ask leg ≡ Ok (works job) → ComesFrom told route client job
  leg-from names ask None job is h = absurd cc
  leg-from names ask (Some leg) job is h =
      let same : work.Scan client.agreed.login leg ask ≡ job = cc in
      subst (ComesFrom told route client) same (names, is, refl)

  scan-from : (names : List (List ℕ)) (ask : Asked ScanAsk) (job : Work)
      → scan_work client.agreed.login ask (slice_get (legs_of route names) 0) ≡ Ok (works job) → ComesFrom told route client job
  scan-from names (Bad diag) job h = absurd cc
  scan-from names (Good ask) job h = leg-from names ask (slice_get (legs_of route names) 0) job refl h

  -- a request asks for the work
  pub comes-from : (asks : Request) (job : Work) → asked_with told route client asks ≡ works job → ComesFrom told route client job
  comes-from (request.Init init) job h = absurd cc
  comes-from (request.Search it) job h =
      query-from it it.query job
      (checked-ok (search_checks route client it) (query_work route client it it.query) (works job)
      (unless-works (request.Search it) _ job h))
  comes-from (request.Present present) job h =
      let due : Asking = fetch_work client.agreed.login present (told present.set_name) (set_named present.set_name client.sets) in
      let good : Ok due ≡ Ok (works job) =
      checked-ok (present_checks route client present (told present.set_name)) (Ok due) (works job)
      (unless-works (request.Present present) _ job h) in
      let is : due ≡ works job = cc in
      set-from present (set_named present.set_name client.sets) job refl is
  comes-from (request.Scan scan) job h =
      scan-from scan.dbs scan.ask job
      (checked-ok (scan_checks route client.agreed.whose scan) (scan_work client.agreed.login scan.ask (slice_get (legs_of route scan.dbs) 0)) (works job)
      (unless-works (request.Scan scan) _ job h))
  comes-from (request.Close close) job h = absurd cc

-- it asks under the client's login
login-from : (told : List ℕ → List ℕ) (route : Route) (client : ClientState) (job : Work) → ComesFrom told route client job
    → login_asked job ≡ client.agreed.login
login-from told route client (work.Search login legs query small large medium small_element medium_element syntax room) from = from.2
login-from told route client (work.Fetch login legs query hits first count syntax element) from = from.of_login
login-from told route client (work.Scan login leg ask) from = from.2

pub asked-login : (told : List ℕ → List ℕ) (route : Route) (client : ClientState) (asks : Request) (job : Work)
    → asked_with told route client asks ≡ works job → login_asked job ≡ client.agreed.login
asked-login told route client asks job h = login-from told route client job (comes-from told route client asks job h)

-- ---- its legs

-- what is true of each is true of the one that is found
all-found-by : {A : Type 0} (P : A → Type 0) (test : Bool) (first : A) (others : Option A) (x : A) → P first → (others ≡ Some x → P x)
    → cond test (Some first) others ≡ Some x → P x
all-found-by P true first others x p rest h = let same : first ≡ x = cc in subst P same p
all-found-by P false first others x p rest h = rest h

pub all-found : {A : Type 0} (P : A → Type 0) (test : A → Bool) (xs : List A) (x : A) → AllByRecursion P xs → find test xs ≡ Some x → P x
all-found P test [] x all h = absurd cc
all-found P test (first ∷ xs) x all h =
    all-found-by P (test first) first (find test xs) x all.0 (all-found P test xs x all.1) h

-- and each of several lists of those that are found
all-of : {A B : Type 0} (P : B → Type 0) (f : A → List B) (xs : List A) → ((x : A) → AllByRecursion P (f x)) → AllByRecursion P (flat_map f xs)
all-of P f [] each = tt
all-of P f (x ∷ xs) each = all-append P (f x) (flat_map f xs) (each x) (all-of P f xs each)

-- a place below a number
abbrev Below : ℕ → ℕ → Type 0
Below n place = place < n

legs-behind : (route : Route) (found : Option Database) → AllByRecursion (λ (d : Database). AllBelow (length route.legs) d.legs) route.databases
    → ((d : Database) → found ≡ Some d → AllBelow (length route.legs) d.legs) → AllByRecursion (Below (length route.legs)) (legs_behind found)
legs-behind route None all is = tt
legs-behind route (Some database) all is = recursion_from_All (Below (length route.legs)) database.legs (is database refl)

-- the legs of databases are legs of the route
legs-there : (route : Route) → IsSound route → (names : List (List ℕ)) → AllByRecursion (Below (length route.legs)) (legs_of route names)
legs-there route sound names =
    let all = recursion_from_All (λ (d : Database). AllBelow (length route.legs) d.legs) route.databases sound.places.legs in
    all-of (Below (length route.legs)) (λ name. legs_behind (database_named route name)) (distinct names)
    (λ name. legs-behind route (database_named route name) all
    (λ d is. all-found (λ (d : Database). AllBelow (length route.legs) d.legs) _ route.databases d all is))

-- the first of them
first-there : (n : ℕ) (legs : List ℕ) (leg : ℕ) → AllByRecursion (Below n) legs → slice_get legs 0 ≡ Some leg → leg < n
first-there n [] leg all h = absurd cc
first-there n (first ∷ legs) leg all h = let same : first ≡ leg = cc in subst (Below n) same all.0

-- the legs of a set that is found
set-there-by : (route : Route) (known : KnownSet) (b : Bool) (others : Option StoredSet) (set : StoredSet) → HasLegsOf route known
    → (others ≡ Some set → All (Below (length route.legs)) set.legs) → cond b (Some (stored known)) others ≡ Some set
    → All (Below (length route.legs)) set.legs
set-there-by route known true others set has rest h =
    let same : stored known ≡ set = cc in subst (λ (s : StoredSet). All (Below (length route.legs)) s.legs) same has
set-there-by route known false others set has rest h = rest h

set-there : (route : Route) (sets : List KnownSet) (name : List ℕ) (set : StoredSet) → AllByRecursion (HasLegsOf route) sets
    → set_named name (map stored sets) ≡ Some set → All (Below (length route.legs)) set.legs
set-there route [] name set all h = absurd cc
set-there route (known ∷ sets) name set all h =
    set-there-by route known (is_same known.name name) (set_named name (map stored sets)) set all.0 (set-there route sets name set all.1) h

there-from : (told : List ℕ → List ℕ) (route : Route) (client : ClientState) (sets : List KnownSet) (job : Work)
    → IsSound route → client.sets ≡ map stored sets → AllByRecursion (HasLegsOf route) sets
    → ComesFrom told route client job → AreThere route job
there-from told route client sets (work.Search login legs query small large medium small_element medium_element syntax room) sound is all from =
    subst (All (Below (length route.legs))) (sym from.1)
    (All-from_recursion (Below (length route.legs)) (legs_of route from.0) (legs-there route sound from.0))
there-from told route client sets (work.Fetch login legs query hits first count syntax element) sound is all from =
    subst (All (Below (length route.legs))) (sym from.of_legs)
    (set-there route sets from.name from.set all (ap (set_named from.name) (sym is) ∙ from.found))
there-from told route client sets (work.Scan login leg ask) sound is all from =
    All-from_recursion (Below (length route.legs)) (leg ∷ [])
    (first-there (length route.legs) (legs_of route from.0) leg (legs-there route sound from.0) from.1, tt)

-- a work is for legs of the route
pub work-there : (told : List ℕ → List ℕ) (route : Route) (client : ClientState) (sets : List KnownSet) (asks : Request) (job : Work)
    → IsSound route → client.sets ≡ map stored sets → AllByRecursion (HasLegsOf route) sets
    → asked_with told route client asks ≡ works job → AreThere route job
work-there told route client sets asks job sound is all h =
    there-from told route client sets job sound is all (comes-from told route client asks job h)
