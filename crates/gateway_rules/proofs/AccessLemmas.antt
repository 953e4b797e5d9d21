-- The targets are asked only of databases that the route opens to the client.
use Rattle.std.proofs.Common.{◌≡◌, ℕ, ◌==◌, Bool, true, false, cond, not, List, [], ◌∷◌, ◌++◌, filter, find, length, Option, Some, None, Result, Ok, Err, refl, sym, ap, subst, nat_abs, slice_get}
use Rattle.std.specs.List.{AllByRecursion}
use Rattle.z_types.specs.Same.{is_same}
use Rattle.z_types.specs.declared.diagnostic.Diag.{Diag}
use Rattle.z_types.specs.declared.query.RpnQuery.{RpnQuery}
use Rattle.z_types.specs.declared.requests.Asked.{Asked}
use Rattle.z_types.specs.declared.requests.Asked.TheVariants.{Good, Bad}
use Rattle.z_types.specs.declared.requests.Present.{Present}
use Rattle.z_types.specs.declared.requests.Request.{Request}
use Rattle.z_types.specs.declared.requests.Request.TheVariants as request
use Rattle.z_types.specs.declared.requests.Scan.{Scan}
use Rattle.z_types.specs.declared.requests.Search.{Search}
use Rattle.z_types.specs.declared.scan.ScanAsk.{ScanAsk}
use Rattle.z_types.specs.declared.work.Work.{Work}
use Rattle.z_types.specs.declared.work.Work.TheVariants as work
use Rattle.z_types.specs.declared.outcome.Outcome.{Outcome}
use Rattle.z_types.specs.declared.world.World as world
use Rattle.z_types.specs.Under.{under}
use Rattle.route_config.specs.declared.route.Route.{Route}
use Rattle.limit_rules.specs.Limits.{room}
use Rattle.virt_db.specs.Legs.{legs_of, few_legs}
use Rattle.z_sets.specs.Expansion.{expanded}
use Rattle.z_sets.specs.Sets.{StoredSet, set_named, without_set}
use Rattle.z_sets.specs.declared.fault.ExpandFault.{ExpandFault}
use Rattle.access_rules.specs.declared.who.Who.{Who}
use Rattle.access_rules.specs.Denials.{first_denial}
use Rattle.access_rules.proofs.AccessLemmas.{denial-none}
use Rattle.gateway_rules.specs.Access.{AreOpen, AsksOpen, DueAsksOpen, HasOpenSets, ComesFirst, AccessIsKept}
use Rattle.gateway_rules.specs.Asking.{Asking, at_once, works, asked, unless_refused, search_work, query_work, fetch_work, element_of, leg_work, scan_work, hits_meant}
use Rattle.gateway_rules.specs.Checks.{checked, searches_check, not_served, elements_check, names_check, legs_check, name_checks, search_checks, present_checks, scan_checks, refused_where, ask_checks}
use Rattle.gateway_rules.specs.Given.{present_reply}
use Rattle.z_types.specs.Bib1.{bib1}
use Rattle.z_types.specs.declared.conditions.Condition.TheVariants.{CombinationOfDatabasesNotSupported}
use Rattle.z_types.specs.declared.outcome.Fetched.TheVariants as fetched
use Rattle.gateway_rules.specs.Marks.{Cause}
use Rattle.gateway_rules.specs.Outcomes.{outcome_of}
use Rattle.gateway_rules.specs.Session.{answer_to}
use Rattle.gateway_rules.specs.Settling.{sets_after, why_failed, client_after, client_at_once}
use Rattle.gateway_rules.specs.State.{ClientState}

-- ---- checks

unless-works : (asks : Request) (due : Result Asking Diag) (job : Work) → unless_refused asks due ≡ works job → due ≡ Ok (works job)
unless-works asks (Err diag) job h = absurd cc
unless-works asks (Ok due) job h = ap Ok h

-- a check in front of others passes, and so do they
one-check : (check : Option Diag) (checks : List (Option Diag)) (behind : Result Asking Diag) (due : Asking)
    → checked (check ∷ checks) behind ≡ Ok due → (check ≡ None) × (checked checks behind ≡ Ok due)
one-check None checks behind due h = (refl, h)
one-check (Some diag) checks behind due h = absurd cc

checked-ok : (checks : List (Option Diag)) (behind : Result Asking Diag) (due : Asking) → checked checks behind ≡ Ok due → behind ≡ Ok due
checked-ok [] behind due h = h
checked-ok (None ∷ checks) behind due h = checked-ok checks behind due h
checked-ok (Some diag ∷ checks) behind due h = absurd cc

-- ---- sets

found-has : {A : Type 0} (P : A → Type 0) (test : A → Bool) (xs : List A) (x : A) → AllByRecursion P xs → find test xs ≡ Some x → P x
found-has P test [] x all h = absurd cc
found-has P test (first ∷ xs) x all h = by (λ k. found-has P test xs x all.1 k) (test first) h
  where
    by : (find test xs ≡ Some x → P x) → (b : Bool) → cond b (Some first) (find test xs) ≡ Some x → P x
    by others true h = let same : first ≡ x = cc in subst P same all.0
    by others false h = others h

kept-of : {A : Type 0} (P : A → Type 0) (test : A → Bool) (xs : List A) → AllByRecursion P xs → AllByRecursion P (filter test xs)
kept-of P test [] all = tt
kept-of P test (x ∷ xs) all = by (kept-of P test xs all.1) (test x)
  where
    by : AllByRecursion P (filter test xs) → (b : Bool) → AllByRecursion P (cond b (x ∷ filter test xs) (filter test xs))
    by others true = (all.0, others)
    by others false = others

and-one : {A : Type 0} (P : A → Type 0) (xs : List A) (x : A) → AllByRecursion P xs → P x → AllByRecursion P (xs ++ x ∷ [])
and-one P [] x all p = (p, tt)
and-one P (first ∷ xs) x all p = (all.0, and-one P xs x all.1 p)

module _ (route : Route) (client : Who) where
  abbrev IsOpenSet : StoredSet → Type 0
  IsOpenSet set = AreOpen route client set.legs

  sets-open : (why : Option Diag) (name : List ℕ) (job : Work) (sets : List StoredSet) → AsksOpen route client job → AllByRecursion IsOpenSet sets
      → AllByRecursion IsOpenSet (sets_after why name job sets)
  sets-open (Some diag) name job sets may opens = kept-of IsOpenSet (λ set. not (is_same set.name name)) sets opens
  sets-open None name (work.Search login legs query small large medium small_element medium_element syntax room) sets may opens =
      and-one IsOpenSet (without_set name sets) (record { name = name; legs = legs; query = query })
      (kept-of IsOpenSet (λ set. not (is_same set.name name)) sets opens) may
  sets-open None name (work.Fetch login legs query hits first count syntax element) sets may opens = opens
  sets-open None name (work.Scan login leg ask) sets may opens = opens

-- ---- what is asked

module _ (route : Route) (client : ClientState) where
  abbrev IsOpen : Work → Type 0
  IsOpen job = AsksOpen route client.agreed.whose job

  -- the legs of names that no check refuses are open
  legs-open : (names : List (List ℕ)) → first_denial route client.agreed.whose names ≡ None → AreOpen route client.agreed.whose (legs_of route names)
  legs-open names none = record { names = names; legs-are = refl; may = (denial-none route client.agreed.whose names).0 none }

  found-open : (it : Search) (query : Result RpnQuery ExpandFault) (job : Work) → AreOpen route client.agreed.whose (legs_of route it.dbs)
      → search_work route client it query ≡ Ok (works job) → IsOpen job
  found-open it (Err fault) job opens h = absurd cc
  found-open it (Ok query) job opens h =
      let same : work.Search client.agreed.login (legs_of route it.dbs) query it.small it.large it.medium
      it.small_element it.medium_element it.syntax (room route.limits client.records) ≡ job = cc in
      subst IsOpen same opens

  query-open : (it : Search) (query : Asked RpnQuery) (job : Work) → AreOpen route client.agreed.whose (legs_of route it.dbs)
      → query_work route client it query ≡ Ok (works job) → IsOpen job
  query-open it (Bad diag) job opens h = absurd cc
  query-open it (Good query) job opens h = found-open it (expanded query (legs_of route it.dbs) client.sets) job opens h

  search-open : (it : Search) (job : Work) → checked (search_checks route client it) (query_work route client it it.query) ≡ Ok (works job) → IsOpen job
  search-open it job h =
      let behind = query_work route client it it.query in
      let rest = legs_check (few_legs (legs_of route it.dbs)) ∷ name_checks route.limits (set_named it.set_name client.sets) (length client.sets) it in
      let one = one-check (searches_check route.limits client.searches) _ behind (works job) h in
      let two = one-check (not_served it.query) _ behind (works job) one.1 in
      let three = one-check (elements_check it) _ behind (works job) two.1 in
      let four = one-check (names_check route it.dbs) _ behind (works job) three.1 in
      let five = one-check (first_denial route client.agreed.whose it.dbs) _ behind (works job) four.1 in
      query-open it it.query job (legs-open it.dbs five.0) (checked-ok rest behind (works job) five.1)

  set-open : (present : Present) (hits : List ℕ) (set : Option StoredSet) (job : Work) → HasOpenSets route client
      → set_named present.set_name client.sets ≡ set → fetch_work client.agreed.login present hits set ≡ works job → IsOpen job
  set-open present hits None job opens found h = absurd cc
  set-open present hits (Some set) job opens found h = by (present.number == 0) h
    where
      by : (b : Bool) → cond b (at_once (present_reply present hits 0 fetched.None)) (works (work.Fetch client.agreed.login set.legs set.query hits (nat_abs present.start) present.number present.syntax (element_of present.element))) ≡ works job → IsOpen job
      by true h = absurd cc
      by false h =
          let same : work.Fetch client.agreed.login set.legs set.query hits (nat_abs present.start) present.number present.syntax (element_of present.element) ≡ job = cc in
          subst IsOpen same (found-has (λ set. AreOpen route client.agreed.whose set.legs) (λ set. is_same set.name present.set_name) client.sets set opens found)

  leg-open : (ask : ScanAsk) (legs : List ℕ) (leg : Option ℕ) (job : Work) → AreOpen route client.agreed.whose legs → slice_get legs 0 ≡ leg
      → leg_work client.agreed.login ask leg ≡ Ok (works job) → IsOpen job
  leg-open ask legs None job opens is h = absurd cc
  leg-open ask legs (Some leg) job opens is h =
      let same : work.Scan client.agreed.login leg ask ≡ job = cc in subst IsOpen same (legs, opens, is)

  ask-open : (ask : Asked ScanAsk) (legs : List ℕ) (job : Work) → AreOpen route client.agreed.whose legs
      → scan_work client.agreed.login ask (slice_get legs 0) ≡ Ok (works job) → IsOpen job
  ask-open (Bad diag) legs job opens h = absurd cc
  ask-open (Good ask) legs job opens h = leg-open ask legs (slice_get legs 0) job opens refl h

  scan-open : (it : Scan) (job : Work) → checked (scan_checks route client.agreed.whose it) (scan_work client.agreed.login it.ask (slice_get (legs_of route it.dbs) 0)) ≡ Ok (works job) → IsOpen job
  scan-open it job h =
      let behind = scan_work client.agreed.login it.ask (slice_get (legs_of route it.dbs) 0) in
      let one = one-check (not_served it.ask) _ behind (works job) h in
      let two = one-check (names_check route it.dbs) _ behind (works job) one.1 in
      let three = one-check (first_denial route client.agreed.whose it.dbs) _ behind (works job) two.1 in
      let rest = legs_check (few_legs (legs_of route it.dbs)) ∷ refused_where (not (length (legs_of route it.dbs) == 1)) (bib1 CombinationOfDatabasesNotSupported []) ∷ ask_checks it.ask in
      ask-open it.ask (legs_of route it.dbs) job (legs-open it.dbs three.0) (checked-ok rest behind (works job) three.1)

  module _ {W : Type 0} (w : world.Ghosts W) where
    job-open : (asks : Request) (job : Work) → HasOpenSets route client → asked w route client asks ≡ works job → IsOpen job
    job-open (request.Init init) job opens h = absurd cc
    job-open (request.Search it) job opens h = search-open it job (unless-works (request.Search it) _ job h)
    job-open (request.Present present) job opens h =
        let hits = hits_meant (under client.agreed.login w) route (set_named present.set_name client.sets) in
        let due : Asking = fetch_work client.agreed.login present hits (set_named present.set_name client.sets) in
        let good : Ok due ≡ Ok (works job) =
        checked-ok (present_checks route client present hits) (Ok due) (works job) (unless-works (request.Present present) _ job h) in
        let is : due ≡ works job = cc in
        set-open present hits (set_named present.set_name client.sets) job opens refl is
    job-open (request.Scan scan) job opens h = scan-open scan job (unless-works (request.Scan scan) _ job h)
    job-open (request.Close close) job opens h = absurd cc

    due-open : (asks : Request) (due : Asking) → HasOpenSets route client → asked w route client asks ≡ due → DueAsksOpen route client.agreed.whose due
    due-open asks (at_once reply) opens h = tt
    due-open asks (works job) opens h = job-open asks job opens h

    after-open : (asks : Request) (job : Work) (got : Outcome) → HasOpenSets route client → IsOpen job → HasOpenSets route (client_after client asks job got)
    after-open (request.Init init) job got opens may = opens
    after-open (request.Search it) job got opens may = sets-open route client.agreed.whose (why_failed got) it.set_name job client.sets may opens
    after-open (request.Present present) job got opens may = opens
    after-open (request.Scan scan) job got opens may = opens
    after-open (request.Close close) job got opens may = opens

    -- an Init comes before there are sets, and nothing else changes whose the client is
    at-once-open : (asks : Request) → HasOpenSets route client → ComesFirst client asks → HasOpenSets route (client_at_once route client asks)
    at-once-open (request.Init init) opens first =
        let whose = (client_at_once route client (request.Init init)).agreed.whose in
        subst (AllByRecursion (λ (set : StoredSet). AreOpen route whose set.legs)) (sym first) tt
    at-once-open (request.Search it) opens first = opens
    at-once-open (request.Present present) opens first = opens
    at-once-open (request.Scan scan) opens first = opens
    at-once-open (request.Close close) opens first = opens

    behind-open : (asks : Request) (cause : Cause) (due : Asking) → HasOpenSets route client → ComesFirst client asks → DueAsksOpen route client.agreed.whose due
        → HasOpenSets route (answer_to w route client asks cause due).client
    behind-open asks cause (at_once reply) opens first may = at-once-open asks opens first
    behind-open asks cause (works job) opens first may = after-open asks job (outcome_of w route job cause) opens may

pub access-kept : {W : Type 0} (w : world.Ghosts W) → AccessIsKept w
access-kept w route client asks cause opens first =
    let due = due-open route client w asks (asked w route client asks) opens refl in
    (due, behind-open route client w asks cause (asked w route client asks) opens first due)
