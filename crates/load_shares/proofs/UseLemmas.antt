-- The uses of a client of a load: of its letter's set by its Search, and by a fetch where the target does not refuse the search
use Rattle.std.proofs.Common.{◌≡◌, ◌∙◌, ℕ, true, false, List, [], ◌∷◌, ◌++◌, map, codes, is_err, nat_eq, Option, Some, None, Result, Ok, Err, refl, ap}
use Rattle.std.specs.List.{AllByRecursion}
use Rattle.std.specs.Set.{unique_keys}
use Rattle.z_types.specs.declared.address.Address.TheVariants.{Test}
use Rattle.z_types.specs.declared.diagnostic.Diag.{Diag}
use Rattle.z_types.specs.declared.outcome.Fetched.{Fetched}
use Rattle.z_types.specs.declared.outcome.Fetched.TheVariants as fetched
use Rattle.z_types.specs.declared.query.RpnQuery.{RpnQuery}
use Rattle.z_types.specs.declared.replies.Reply.{Reply}
use Rattle.z_types.specs.declared.requests.Present.{Present}
use Rattle.z_types.specs.declared.requests.Request.{Request}
use Rattle.z_types.specs.declared.requests.Request.TheVariants as request
use Rattle.z_types.specs.declared.work.Work.{Work}
use Rattle.z_types.specs.Under.{under}
use Rattle.z_types.specs.declared.world.World as world
use Rattle.route_config.specs.Smallest.{smallest_route}
use Rattle.route_config.specs.declared.route.RouteLeg.{RouteLeg}
use Rattle.z_sets.specs.Sets.{StoredSet, set_named}
use Rattle.replay_shares.specs.gateway_rules.Asking.{at_once, fetch_work, hits_meant, unless_refused}
use Rattle.replay_shares.specs.gateway_rules.Checks.{checked, present_checks}
use Rattle.replay_shares.specs.gateway_rules.Given.{present_reply}
use Rattle.replay_shares.specs.gateway_rules.Outcomes.{found, legs_asked, login_asked}
use Rattle.replay_shares.specs.gateway_rules.Settling.{sets_after, why_failed}
use Rattle.replay_shares.specs.gateway_rules.Targets.{all_or_first, hidden}
use Rattle.replay_shares.specs.front_conn_works.Works.{work_in, work_of}
use Rattle.sharing_rules.specs.Uses.{Use, key_if, key_of, legs_used, query_of, use_at, uses_by, uses_of}
use Rattle.replay_shares.specs.Orderly.{dated}
use Rattle.replay_shares.proofs.CountLemmas.{all-both}
use Rattle.load_shares.specs.Costs.{key_for, query_for, refuses}
use Rattle.load_shares.proofs.KeyLemmas.{one-leg, the_leg}
use Rattle.load_shares.proofs.WorkLemmas.{IsOf, behind_search, fetch-works, first_record, search_for}

-- the use of a letter's set
abbrev pub use_for : ℕ → Use
use_for letter = record { by = record { class = 0; login = None }; key = Some (key_for letter); at = 0 }

-- a use is that of a letter
abbrev pub IsUseFor : ℕ → Use → Type 0
IsUseFor letter this = this ≡ use_for letter

-- what a client asks behind its Search
abbrev pub later_works : {W : Type 0} → world.Ghosts W → ℕ → List Work
later_works w letter = work_of w smallest_route (behind_search w letter) (request.Present first_record) ++ []

abbrev pub later_uses : {W : Type 0} → world.Ghosts W → ℕ → List Use
later_uses w letter = uses_of smallest_route (map (dated 0) (later_works w letter))

-- ---- they are of its letter

legs-use : (letter : ℕ) (login : Option (List ℕ)) (query : Option RpnQuery) (legs : List RouteLeg) → query ≡ Some (query_for letter) → login ≡ None
    → AllByRecursion (λ leg. leg ≡ the_leg) legs → AllByRecursion (IsUseFor letter) (map (λ leg. use_at 0 login (key_if query leg) leg) legs)
legs-use letter login query [] e none each = tt
legs-use letter login query (leg ∷ legs) e none each = (
  ap (λ (own : Option (List ℕ)). use_at 0 own (key_if query leg) leg) none ∙ ap (λ (asked : Option RpnQuery). use_at 0 None (key_if asked leg) leg) e
      ∙ ap (λ (own : RouteLeg). use_at 0 None (Some (key_of (query_for letter) own)) own) each.0,
  legs-use letter login query legs e none each.1,
)

works-use : (letter : ℕ) (works : List Work) → AllByRecursion (IsOf (query_for letter)) works
    → AllByRecursion (IsUseFor letter) (uses_of smallest_route (map (dated 0) works))
works-use letter [] each = tt
works-use letter (one ∷ works) each =
    all-both (IsUseFor letter) (uses_by smallest_route (dated 0 one)) (uses_of smallest_route (map (dated 0) works))
    (legs-use letter (login_asked one) (query_of one) (legs_used smallest_route one) each.0.1 each.0.2 (one-leg (unique_keys nat_eq (legs_asked one))))
    (works-use letter works each.1)

pub later-uses : {W : Type 0} (w : world.Ghosts W) (letter : ℕ) → AllByRecursion (IsUseFor letter) (later_uses w letter)
later-uses w letter = works-use letter (later_works w letter) (fetch-works w letter)

-- ---- none where the target refuses the search

-- a Present without a set asks nothing
at-once : (asks : Request) (checks : List (Option Diag)) (said : Reply) → work_in (unless_refused asks (checked checks (Ok (at_once said)))) ≡ []
at-once asks [] said = refl
at-once asks (None ∷ checks) said = at-once asks checks said
at-once asks (Some diag ∷ checks) said = refl

-- and there is none where the search is refused
no-set : (letter : ℕ) (answer : Result ℕ Diag) (records : List ℕ → Fetched) → is_err answer ≡ true
    → set_named (codes "1") (sets_after (why_failed (found (all_or_first (hidden false answer ∷ [])) records)) (codes "1") (search_for letter) []) ≡ None
no-set letter (Ok hits) records e = absurd cc
no-set letter (Err diag) records e = refl

unset-asks : (asks : Request) (checks : List (Option Diag)) (present : Present) (login : Option (List ℕ)) (hits : List ℕ) (set : Option StoredSet) → set ≡ None
    → work_in (unless_refused asks (checked checks (Ok (fetch_work login present hits set)))) ≡ []
unset-asks asks checks present login hits set e =
    ap (λ (own : Option StoredSet). work_in (unless_refused asks (checked checks (Ok (fetch_work login present hits own))))) e
    ∙ at-once asks checks (present_reply present hits 0 fetched.None)

pub refused-uses : {W : Type 0} (w : world.Ghosts W) (letter : ℕ) → refuses w letter ≡ true → later_uses w letter ≡ []
refused-uses w letter e =
    let set = set_named (codes "1") (behind_search w letter).sets in
    let none : set ≡ None = no-set letter (w.search (Test 0) (key_for letter)) _ e in
    let hits = hits_meant (under (behind_search w letter).agreed.login w) smallest_route set in
    let asks : work_of w smallest_route (behind_search w letter) (request.Present first_record) ≡ [] =
    unset-asks (request.Present first_record) (present_checks smallest_route (behind_search w letter) first_record hits) first_record (behind_search w letter).agreed.login hits set none in
    ap (λ (works : List Work). uses_of smallest_route (map (dated 0) (works ++ []))) asks
