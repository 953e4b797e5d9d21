-- What an outcome leaves, by its parts
use Rattle.std.proofs.Common.{◌≡◌, ◌≢◌, ◌≤◌, ◌<◌, ◌+◌, ◌^◌, inl, inr, refl, sym, ap, ◌∙◌, ℕ, Bool, true, false, not, cond, List, [], ◌∷◌, ◌++◌, length, map, filter, All, Contains, Option, None, Some, Result, Ok, Err, OnOk, OnErr, IfSome, IfOk, is_none, arith, length-append, subst}
use Rattle.std.specs.List.{AllByRecursion}
use Rattle.std.proofs.lemmas.List.Elements.{All-filter, All-push, All-weaker, All-contains_itself, recursion_from_All}
use Rattle.z_types.specs.declared.diagnostic.Diag.{Diag}
use Rattle.z_types.specs.declared.known_set.KnownSet.{KnownSet}
use Rattle.z_types.specs.declared.memory.Memory.{Memory}
use Rattle.z_types.specs.declared.marks.Mark.{Mark}
use Rattle.z_types.specs.declared.marks.Mark.TheVariants.{Plain, Link, Silent, Gone, Full}
use Rattle.z_types.specs.declared.outcome.Outcome.{Outcome}
use Rattle.z_types.specs.declared.outcome.Outcome.TheVariants as outcome
use Rattle.z_types.specs.declared.replies.Reply.{Reply}
use Rattle.z_types.specs.declared.requests.Request.{Request}
use Rattle.z_types.specs.declared.requests.Request.TheVariants as request
use Rattle.z_types.specs.declared.work.Work.{Work}
use Rattle.z_types.specs.declared.work.Work.TheVariants as work
use Rattle.z_sets.specs.Operands.{others_than}
use Rattle.z_types.specs.Same.{is_same}
use Rattle.z_sets.specs.Sets.{stored, without_set}
use Rattle.gateway_rules.specs.Given.{returned}
use Rattle.gateway_rules.specs.Settling.{why_failed, found_hits, fetched_of, scanned_of, asked_of, given_of, reply_by, sets_after, client_after}
use Rattle.gateway_rules.specs.declared.sizes.Sizes.{Sizes}
use Rattle.unit_forms.specs.Logins.{IsLoginIf}
use Rattle.gateway_rules.specs.Works.{CanBegin, FitsWork, IsAskable}
use Rattle.front_session.specs.Sessions.{SessionState, Waiting, IsKeptSet, HasRoomFor, IsKept, client_of}
use Rattle.front_session.specs.Admitting.{HasGivenHits, IsSettled}
use Rattle.front_session.specs.Settling.{reply_of, reply_by_parts, ArePartsOf, IsCutOf, known_after, sets_behind, sets_ended, searches_behind, ended, FitsWaiting, IsSettledWith, IsSettledBy}
use Rattle.front_session.specs.WaitingOf.{waiting_of}
use Rattle.front_session.specs.declared.settle.Pending.{Pending}
use Rattle.front_session.specs.declared.settle.OutcomeParts.{OutcomeParts}
use Rattle.front_session.specs.declared.settle.CutParts.{CutParts}
use Rattle.front_session.proofs.CutLemmas.{fewer}

-- ---- the records

fetched_fit : (records : ℕ) (work : Work) (got : Outcome) → HasRoomFor records work → FitsWork work got → records < 2 ^ 32
    → records + returned (fetched_of got) < 2 ^ 32
fetched_fit records (work.Search login legs query small large medium small_element medium_element syntax room) (outcome.Found hits fetched) has fits small' = omega (arith, has, fits.1)
fetched_fit records (work.Fetch login legs query hits first count syntax element) (outcome.Fetched fetched) has fits small' = omega (arith, has, fits)
fetched_fit records work (outcome.Refused diag) has fits small' = omega arith
fetched_fit records work (outcome.Marked mark class) has fits small' = omega arith
fetched_fit records work (outcome.Scanned answer) has fits small' = omega arith
fetched_fit records (work.Fetch login legs query hits first count syntax element) (outcome.Found other fetched) has fits small' = absurd fits
fetched_fit records (work.Scan login leg ask) (outcome.Found other fetched) has fits small' = absurd fits
fetched_fit records (work.Search login legs query small large medium small_element medium_element syntax room) (outcome.Fetched fetched) has fits small' = absurd fits
fetched_fit records (work.Scan login leg ask) (outcome.Fetched fetched) has fits small' = absurd fits

-- the records that are given can be counted
pub given_fit : (sizes : Sizes) (records : ℕ) (work : Work) (got : Outcome) → HasRoomFor records work → FitsWork work got → records < 2 ^ 32
    → records + returned (given_of sizes work got) < 2 ^ 32
given_fit sizes records work got has fits small' =
    omega (arith, fetched_fit records work got has fits small', fewer sizes (asked_of work (found_hits got)) (given_of sizes work got) (fetched_of got) refl)

-- ---- the reply

-- the reply by the parts of an outcome, where each is what it is a part of
reply_of_parts : (sizes : Sizes) (why failed : Option Diag) (request : Request) (work : Work) (got : Outcome) (all : ℕ) (parts : OutcomeParts)
    → why ≡ failed → all ≡ returned (fetched_of got) → parts.hits ≡ found_hits got → parts.fetched ≡ given_of sizes work got
    → parts.scanned ≡ scanned_of got → reply_of why request work all parts ≡ reply_by sizes failed request work got
reply_of_parts sizes None (Some diag) request work got all parts why counted hits fetched scanned = absurd cc
reply_of_parts sizes (Some diag) None request work got all parts why counted hits fetched scanned = absurd cc
reply_of_parts sizes (Some diag) (Some other) request work got all parts why counted hits fetched scanned =
    let same : diag ≡ other = cc in rw same refl
reply_of_parts sizes None None (request.Init init) work got all parts why counted hits fetched scanned = refl
reply_of_parts sizes None None (request.Search search) work got all parts why counted hits fetched scanned = rw (counted, hits, fetched) refl
reply_of_parts sizes None None (request.Present present) work got all parts why counted hits fetched scanned = rw (counted, fetched) refl
reply_of_parts sizes None None (request.Scan scan) work got all parts why counted hits fetched scanned = rw scanned refl
reply_of_parts sizes None None (request.Close close) work got all parts why counted hits fetched scanned = refl

-- the reply by the parts of an outcome that are cut is the reply to the request that waits
pub answered : (sizes : Sizes) (pending : Pending) (got : Outcome) (parts : OutcomeParts) (cut : CutParts)
    → ArePartsOf got parts → IsCutOf sizes pending.work parts cut
    → reply_by_parts pending cut.all cut.parts ≡ reply_by sizes (why_failed got) pending.request pending.work got
answered sizes pending got parts cut of is =
    reply_of_parts sizes cut.parts.why (why_failed got) pending.request pending.work got cut.all cut.parts
    (is.why ∙ of.why) (is.all ∙ ap returned of.fetched) (is.hits ∙ of.hits)
    (is.fetched ∙ rw (of.hits, of.fetched) refl) (is.scanned ∙ of.scanned)

-- ---- the sets

stored_one : (b : Bool) (set : KnownSet) (rest : List KnownSet) → map stored (cond b (set ∷ rest) rest) ≡ cond b (stored set ∷ map stored rest) (map stored rest)
stored_one true set rest = refl
stored_one false set rest = refl

-- without a name, with hits and without them
pub stored-without : (name : List ℕ) (sets : List KnownSet) → map stored (others_than name sets) ≡ without_set name (map stored sets)
stored-without name [] = refl
stored-without name (set ∷ sets) =
    let rest = stored-without name sets in
    let one = stored_one (not (is_same set.name name)) set (others_than name sets) in cc

stored-push : (sets : List KnownSet) (set : KnownSet) → map stored (sets ++ set ∷ []) ≡ map stored sets ++ stored set ∷ []
stored-push [] set = refl
stored-push (other ∷ sets) set = ap (λ xs. stored other ∷ xs) (stored-push sets set)

-- the sets after a Search, without their hits
pub stored-after : (why : Option Diag) (name : List ℕ) (work : Work) (hits : List ℕ) (sets : List KnownSet)
    → map stored (known_after (is_none why) name work hits sets) ≡ sets_after why name work (map stored sets)
stored-after (Some diag) name work hits sets = stored-without name sets
stored-after None name (work.Search login legs query small large medium small_element medium_element syntax room) hits sets =
    let set : KnownSet = record { name = name; legs = legs; query = query; hits = hits } in
    stored-push (others_than name sets) set ∙ ap (λ xs. xs ++ stored set ∷ []) (stored-without name sets)
stored-after None name (work.Fetch login legs query known first count syntax element) hits sets = refl
stored-after None name (work.Scan login leg ask) hits sets = refl

length-filter-le : {X : Type 0} (p : X → Bool) (xs : List X) → length (filter p xs) ≤ length xs
length-filter-le p [] = omega arith
length-filter-le p (x ∷ xs) = let rest = length-filter-le p xs in elim (p x) as (λ b. length (cond b (x ∷ filter p xs) (filter p xs)) ≤ length (x ∷ xs)) [ true ↦ omega arith | false ↦ omega arith ]

-- no more sets than before
pub length-without : (name : List ℕ) (sets : List KnownSet) → length (others_than name sets) ≤ length sets
length-without name sets = length-filter-le (λ set. not (is_same set.name name)) sets

-- each set that is left has its hits
pub each-without : (name : List ℕ) (sets : List KnownSet) → All IsKeptSet sets → All IsKeptSet (others_than name sets)
each-without name sets h = All-filter (λ set. not (is_same set.name name)) IsKeptSet sets h

given-there : (sets : List KnownSet) (work : Work) (got : Outcome) → All (HasGivenHits sets work got) sets
given-there sets work got = All-weaker (Contains sets) (HasGivenHits sets work got) (λ x h. inl h) sets (All-contains_itself sets)

given-without : (name : List ℕ) (sets : List KnownSet) (work : Work) (got : Outcome) → All (HasGivenHits sets work got) (others_than name sets)
given-without name sets work got = All-filter (λ set. not (is_same set.name name)) (HasGivenHits sets work got) sets (given-there sets work got)

-- where no set changes
pub given-same : (sets : List KnownSet) (work : Work) (got : Outcome) → AllByRecursion (HasGivenHits sets work got) sets
given-same sets work got = recursion_from_All (HasGivenHits sets work got) sets (given-there sets work got)

marked_not_plain : (work : Work) (mark : Mark) (class : List ℕ) → FitsWork work (outcome.Marked mark class) → mark ≢ Plain
marked_not_plain (work.Search login legs query small large medium small_element medium_element syntax room) mark class h = h
marked_not_plain (work.Fetch login legs query known first count syntax element) mark class h = h
marked_not_plain (work.Scan login leg ask) mark class h = h

-- each set after a Search has its hits
pub each-after : (name : List ℕ) (work : Work) (got : Outcome) (sets : List KnownSet) → CanBegin work → IsAskable work → FitsWork work got → All IsKeptSet sets
    → All IsKeptSet (known_after (is_none (why_failed got)) name work (found_hits got) sets)
each-after name work (outcome.Refused diag) sets can asks fits h = each-without name sets h
each-after name work (outcome.Marked Plain class) sets can asks fits h = absurd (marked_not_plain work Plain class fits refl)
each-after name work (outcome.Marked Link class) sets can asks fits h = each-without name sets h
each-after name work (outcome.Marked (Silent looks) class) sets can asks fits h = each-without name sets h
each-after name work (outcome.Marked Gone class) sets can asks fits h = each-without name sets h
each-after name work (outcome.Marked (Full sessions) class) sets can asks fits h = each-without name sets h
each-after name (work.Search login legs query small large medium small_element medium_element syntax room) (outcome.Found hits fetched) sets can asks fits h =
    All-push IsKeptSet (others_than name sets) _ (each-without name sets h) (record { few = can.0; each = fits.0; query = asks.0 })
each-after name (work.Search login legs query small large medium small_element medium_element syntax room) (outcome.Fetched fetched) sets can asks fits h = absurd fits
each-after name (work.Search login legs query small large medium small_element medium_element syntax room) (outcome.Scanned answer) sets can asks fits h = absurd fits
each-after name (work.Fetch login legs query known first count syntax element) (outcome.Found hits fetched) sets can asks fits h = absurd fits
each-after name (work.Fetch login legs query known first count syntax element) (outcome.Fetched fetched) sets can asks fits h = h
each-after name (work.Fetch login legs query known first count syntax element) (outcome.Scanned answer) sets can asks fits h = absurd fits
each-after name (work.Scan login leg ask) (outcome.Found hits fetched) sets can asks fits h = absurd fits
each-after name (work.Scan login leg ask) (outcome.Fetched fetched) sets can asks fits h = absurd fits
each-after name (work.Scan login leg ask) (outcome.Scanned answer) sets can asks fits h = h

-- each set after a Search was there, or is the one that was found
pub given-after : (name : List ℕ) (work : Work) (got : Outcome) (sets : List KnownSet) → FitsWork work got
    → All (HasGivenHits sets work got) (known_after (is_none (why_failed got)) name work (found_hits got) sets)
given-after name work (outcome.Refused diag) sets fits = given-without name sets work (outcome.Refused diag)
given-after name work (outcome.Marked Plain class) sets fits = absurd (marked_not_plain work Plain class fits refl)
given-after name work (outcome.Marked Link class) sets fits = given-without name sets work (outcome.Marked Link class)
given-after name work (outcome.Marked (Silent looks) class) sets fits = given-without name sets work (outcome.Marked (Silent looks) class)
given-after name work (outcome.Marked Gone class) sets fits = given-without name sets work (outcome.Marked Gone class)
given-after name work (outcome.Marked (Full sessions) class) sets fits = given-without name sets work (outcome.Marked (Full sessions) class)
given-after name (work.Search login legs query small large medium small_element medium_element syntax room) (outcome.Found hits fetched) sets fits =
    All-push (HasGivenHits sets (work.Search login legs query small large medium small_element medium_element syntax room) (outcome.Found hits fetched)) (others_than name sets) _
    (given-without name sets (work.Search login legs query small large medium small_element medium_element syntax room) (outcome.Found hits fetched)) (inr (refl, refl, refl))
given-after name (work.Search login legs query small large medium small_element medium_element syntax room) (outcome.Fetched fetched) sets fits = absurd fits
given-after name (work.Search login legs query small large medium small_element medium_element syntax room) (outcome.Scanned answer) sets fits = absurd fits
given-after name (work.Fetch login legs query known first count syntax element) (outcome.Found hits fetched) sets fits = absurd fits
given-after name (work.Fetch login legs query known first count syntax element) (outcome.Fetched fetched) sets fits = given-there sets (work.Fetch login legs query known first count syntax element) (outcome.Fetched fetched)
given-after name (work.Fetch login legs query known first count syntax element) (outcome.Scanned answer) sets fits = absurd fits
given-after name (work.Scan login leg ask) (outcome.Found hits fetched) sets fits = absurd fits
given-after name (work.Scan login leg ask) (outcome.Fetched fetched) sets fits = absurd fits
given-after name (work.Scan login leg ask) (outcome.Scanned answer) sets fits = given-there sets (work.Scan login leg ask) (outcome.Scanned answer)

-- at most one set more
pub length-after : (is_good : Bool) (name : List ℕ) (work : Work) (hits : List ℕ) (sets : List KnownSet)
    → length (known_after is_good name work hits sets) ≤ length sets + 1
length-after false name work hits sets = omega (arith, length-without name sets)
length-after true name (work.Search login legs query small large medium small_element medium_element syntax room) hits sets =
    omega (arith, length-append {A = KnownSet}, length-without name sets)
length-after true name (work.Fetch login legs query known first count syntax element) hits sets = omega arith
length-after true name (work.Scan login leg ask) hits sets = omega arith

-- ---- all of it

-- the sets behind a request keep their hits
pub each-behind : (request : Request) (work : Work) (got : Outcome) (sets : List KnownSet) → CanBegin work → IsAskable work → FitsWork work got → All IsKeptSet sets
    → All IsKeptSet (sets_behind request work (is_none (why_failed got)) (found_hits got) sets)
each-behind (request.Init init) work got sets can asks fits h = h
each-behind (request.Search search) work got sets can asks fits h = each-after search.set_name work got sets can asks fits h
each-behind (request.Present present) work got sets can asks fits h = h
each-behind (request.Scan scan) work got sets can asks fits h = h
each-behind (request.Close close) work got sets can asks fits h = h

client-behind : (old : SessionState) (request : Request) (work : Work) (got : Outcome)
    → client_of (ended old (record { request = request; work = work }) (is_none (why_failed got)) (found_hits got) (returned (given_of old.agreed.sizes work got)))
    ≡ client_after (client_of old) request work got
client-behind old (request.Init init) work got = refl
client-behind old (request.Search search) work got =
    ap (λ sets. record (client_of old) { searches = old.searches + 1; records = old.records + returned (given_of old.agreed.sizes work got); sets = sets })
    (stored-after (why_failed got) search.set_name work (found_hits got) old.sets)
client-behind old (request.Present present) work got = refl
client-behind old (request.Scan scan) work got = refl
client-behind old (request.Close close) work got = refl

given-behind : (request : Request) (work : Work) (sets : List KnownSet) (got : Outcome) → FitsWork work got
    → AllByRecursion (HasGivenHits sets work got) (sets_behind request work (is_none (why_failed got)) (found_hits got) sets)
given-behind (request.Init init) work sets got fits = given-same sets work got
given-behind (request.Search search) work sets got fits =
    recursion_from_All (HasGivenHits sets work got) (known_after (is_none (why_failed got)) search.set_name work (found_hits got) sets)
    (given-after search.set_name work got sets fits)
given-behind (request.Present present) work sets got fits = given-same sets work got
given-behind (request.Scan scan) work sets got fits = given-same sets work got
given-behind (request.Close close) work sets got fits = given-same sets work got

-- the request that waited is settled
pub is_settled : (old new : SessionState) (pending : Pending) (got : Outcome) (reply : Reply)
    → FitsWork pending.work got → IsSettledWith (record old { waiting = None }) new pending got reply
    → IsSettled old new (waiting_of pending) got reply
is_settled old new pending got reply fits h = rw h.new-is (record {
  reply-is = h.reply-is;
  client-is = client-behind (record old { waiting = None }) pending.request pending.work got;
  hits = given-behind pending.request pending.work old.sets got fits;
  accepted = refl;
  agreed = refl;
  units = refl;
  waits_no_more = refl;
})

-- ---- what a session keeps

either : (r : Result (Unit {0}) Memory) (P : List KnownSet → Type 0) (new a b : List KnownSet) → OnOk r (new ≡ a) → OnErr r (new ≡ b) → P a → P b → P new
either (Ok done) P new a b ok err x y = subst P (sym ok) x
either (Err e) P new a b ok err x y = subst P (sym err) y

none_waits : (waiting : Option Waiting) (P : Waiting → Type 0) → waiting ≡ None → IfSome waiting P
none_waits None P h = tt
none_waits (Some waiting) P h = absurd cc

searches_behind-le : (request : Request) (searches : ℕ) → searches ≤ searches_behind request searches × (searches_behind request searches ≤ searches + 1)
searches_behind-le (request.Init init) searches = (omega arith, omega arith)
searches_behind-le (request.Search search) searches = (omega arith, omega arith)
searches_behind-le (request.Present present) searches = (omega arith, omega arith)
searches_behind-le (request.Scan scan) searches = (omega arith, omega arith)
searches_behind-le (request.Close close) searches = (omega arith, omega arith)

length-behind : (request : Request) (work : Work) (is_good : Bool) (hits : List ℕ) (sets : List KnownSet) (searches : ℕ) → length sets ≤ searches
    → length (sets_behind request work is_good hits sets) ≤ searches_behind request searches
length-behind (request.Init init) work is_good hits sets searches h = h
length-behind (request.Search search) work is_good hits sets searches h = omega (arith, h, length-after is_good search.set_name work hits sets)
length-behind (request.Present present) work is_good hits sets searches h = h
length-behind (request.Scan scan) work is_good hits sets searches h = h
length-behind (request.Close close) work is_good hits sets searches h = h

-- behind a request that was settled a session keeps what it keeps
pub end_kept : (s : SessionState) (pending : Pending) (is_good : Bool) (hits : List ℕ) (given searches : ℕ) (sets : List KnownSet) (r : Result (Unit {0}) Memory)
    → s.waiting ≡ None → s.searches < s.units → s.units < 2 ^ 32 → IsLoginIf s.agreed.login → given < 2 ^ 32 → length s.sets ≤ s.searches → All IsKeptSet s.sets
    → All IsKeptSet (sets_ended pending is_good hits s.sets) → searches ≡ searches_behind pending.request s.searches
    → OnOk r (sets ≡ sets_ended pending is_good hits s.sets) → OnErr r (sets ≡ s.sets)
    → IsKept (record s { searches = searches; records = given; sets = sets })
end_kept s pending is_good hits given searches sets r none spent units login fits few each after is ok err =
    let bounds = searches_behind-le pending.request s.searches in
    let low : s.searches ≤ searches = rw is bounds.0 in
    let high : searches ≤ s.searches + 1 = rw is bounds.1 in
    let length' : length (sets_ended pending is_good hits s.sets) ≤ searches =
    rw is (length-behind pending.request pending.work is_good hits s.sets s.searches few) in
    record {
      sets = either r (All IsKeptSet) sets (sets_ended pending is_good hits s.sets) s.sets ok err after each;
      of_searches = either r (λ some. length some ≤ searches) sets (sets_ended pending is_good hits s.sets) s.sets ok err length' (omega (arith, few, low));
      of_units = omega (arith, high, spent);
      units = units;
      login = login;
      records = fits;
      waiting = none_waits s.waiting _ none;
    }

-- the request that waited is settled, where its place was emptied first
pub settled_by : (old mid new : SessionState) (pending : Pending) (got : Outcome) (r : Result Reply Memory) → mid ≡ record old { waiting = None }
    → old.waiting ≡ Some (waiting_of pending) → FitsWaiting old.waiting got
    → IfOk r (IsSettledWith mid new pending got) → IfOk r (IsSettledBy old.waiting old new got)
settled_by old mid new pending got (Err e) is waits fits h = tt
settled_by old mid new pending got (Ok reply) is waits fits h =
    let begun : FitsWork pending.work got = subst (λ (w : Option Waiting). FitsWaiting w got) waits fits in
    let settled = is_settled old new pending got reply begun (subst (λ (from : SessionState). IsSettledWith from new pending got reply) is h) in
    subst (λ (w : Option Waiting). IsSettledBy w old new got reply) (sym waits) settled
