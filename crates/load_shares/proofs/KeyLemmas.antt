-- The keys that a load uses are those of five letters
use Rattle.std.proofs.Common.{◌≡◌, ◌∙◌, ◌<◌, ◌≤◌, ◌+◌, ◌||◌, ℕ, zero, suc, Bool, true, false, cond, if◌then◌else◌, List, [], ◌∷◌, map, filter, codes, filter_map, slice_get, nat_eq, Option, Some, None, refl, sym, ap, subst, arith}
use Rattle.std.specs.List.{AllByRecursion, cons_option}
use Rattle.std.specs.Set.{distinct_count, is_member, unique_keys}
use Rattle.std.proofs.lemmas.Map.Made.{distinct_count-le}
use Rattle.z_types.specs.contracts.key.SetKeyEq.TheImpl.Laws as key_law
use Rattle.z_types.specs.declared.key.SetKey.{SetKey}
use Rattle.z_types.specs.declared.query.RpnQuery.{RpnQuery}
use Rattle.z_types.specs.Logins.{same_login}
use Rattle.z_types.specs.equality.Key as exact
use Rattle.z_types.proofs.LoginLemmas.{login_exact}
use Rattle.route_config.specs.Smallest.{smallest_route}
use Rattle.route_config.specs.declared.route.RouteLeg.{RouteLeg}
use Rattle.replay_shares.specs.gateway_rules.Outcomes.{legs_asked, login_asked}
use Rattle.pool_sets.specs.Table.{same_key}
use Rattle.sharing_rules.specs.Orderly.{keys_used, logins_used}
use Rattle.sharing_rules.specs.Needed.{is_by, is_in}
use Rattle.sharing_rules.specs.Sharers.{Sharers}
use Rattle.sharing_rules.proofs.SharerFacts.{login_equiv}
use Rattle.sharing_rules.specs.Uses.{DatedWork, Use, key_if, key_of, legs_used, query_of, use_at, uses_by, uses_of}
use Rattle.replay_shares.proofs.CountLemmas.{all-both, more-members}
use Rattle.load_shares.specs.Costs.{key_for, query_for}
use Rattle.load_shares.proofs.WorkLemmas.{IsLoadDone}

-- the keys of the five letters
abbrev five_keys : List SetKey
five_keys = key_for 97 ∷ key_for 98 ∷ key_for 99 ∷ key_for 100 ∷ key_for 101 ∷ []

among-five : (place : ℕ) → place < 5 → is_member same_key five_keys (key_for (97 + place)) ≡ true
among-five zero h = refl
among-five (suc zero) h = refl
among-five (suc (suc zero)) h = refl
among-five (suc (suc (suc zero))) h = refl
among-five (suc (suc (suc (suc zero)))) h = refl
among-five (suc (suc (suc (suc (suc place))))) h = absurd (omega (arith, h))

-- ---- keys of the five letters

-- a key is one of them
abbrev IsLoadKey : SetKey → Type 0
IsLoadKey key = (place : ℕ) × (place < 5) × (key ≡ key_for (97 + place))

is-among : (q : SetKey) (keys : List SetKey) → AllByRecursion IsLoadKey keys → is_member same_key keys q ≡ true → is_member same_key five_keys q ≡ true
is-among q [] each m = absurd cc
is-among q (key ∷ keys) each m = (elim (same_key q key) as (λ (b : Bool). same_key q key ≡ b → (b || is_member same_key keys q) ≡ true → is_member same_key five_keys q ≡ true) [
  | true ↦ λ e n.
      subst (λ (z : SetKey). is_member same_key five_keys z ≡ true) (sym (exact.key.eq_is_exact q key e ∙ each.0.2)) (among-five each.0.0 each.0.1)
  | false ↦ λ e n. is-among q keys each.1 n
]) refl m

few-keys : (keys : List SetKey) → AllByRecursion IsLoadKey keys → distinct_count same_key keys ≤ 5
few-keys keys each =
    let some = more-members exact.key.eq_is_exact key_law.laws-law keys five_keys (λ q m. is-among q keys each m) in
    let five = distinct_count-le same_key five_keys in omega (arith, some, five)

-- ---- what works use

-- a use is of one of them, under no login
abbrev IsLoadUse : Use → Type 0
IsLoadUse this = (place : ℕ) × (place < 5) × (this.key ≡ Some (key_for (97 + place))) × (this.by.login ≡ None)

-- the route has one leg
abbrev pub the_leg : RouteLeg
the_leg = record { database = 0; class = 0; databases = codes "Default" ∷ [] }

pub one-leg : (places : List ℕ) → AllByRecursion (λ leg. leg ≡ the_leg) (filter_map (slice_get smallest_route.legs) places)
one-leg [] = tt
one-leg (zero ∷ places) = (refl, one-leg places)
one-leg (suc place ∷ places) = one-leg places

keyed-uses : (at place : ℕ) (login : Option (List ℕ)) (query : Option RpnQuery) (legs : List RouteLeg) → place < 5 → query ≡ Some (query_for (97 + place))
    → login ≡ None → AllByRecursion (λ leg. leg ≡ the_leg) legs → AllByRecursion IsLoadUse (map (λ leg. use_at at login (key_if query leg) leg) legs)
keyed-uses at place login query [] low e none each = tt
keyed-uses at place login query (leg ∷ legs) low e none each = (
  (
    place,
    low,
    ap (λ (asked : Option RpnQuery). key_if asked leg) e ∙ ap (λ (own : RouteLeg). Some (key_of (query_for (97 + place)) own)) each.0,
    none,
  ),
  keyed-uses at place login query legs low e none each.1,
)

load-uses : (works : List DatedWork) → AllByRecursion IsLoadDone works → AllByRecursion IsLoadUse (uses_of smallest_route works)
load-uses [] each = tt
load-uses (done ∷ works) each =
    all-both IsLoadUse (uses_by smallest_route done) (uses_of smallest_route works)
    (keyed-uses done.at each.0.0 (login_asked done.work) (query_of done.work) (legs_used smallest_route done.work) each.0.1 each.0.2.1 each.0.2.2 (one-leg (unique_keys nat_eq (legs_asked done.work))))
    (load-uses works each.1)

-- the keys of those of a class
of-class : (own : Bool) (key : Option SetKey) (keys : List SetKey) (place : ℕ) → place < 5 → key ≡ Some (key_for (97 + place))
    → AllByRecursion IsLoadKey keys → AllByRecursion IsLoadKey (cons_option (if own then key else None) keys)
of-class true key keys place low e each =
    subst (λ (k : Option SetKey). AllByRecursion IsLoadKey (cons_option k keys)) (sym e) ((place, low, refl), each)
of-class false key keys place low e each = each

class-keys : (who : Sharers) (uses : List Use) → AllByRecursion IsLoadUse uses
    → AllByRecursion IsLoadKey (filter_map (λ (this : Use). if is_by who this then this.key else None) uses)
class-keys who [] each = tt
class-keys who (this ∷ uses) each =
    of-class (is_by who this) this.key (filter_map (λ (other : Use). if is_by who other then other.key else None) uses) each.0.0 each.0.1 each.0.2
    (class-keys who uses each.1)

-- so they find room
pub load-room : (works : List DatedWork) (who : Sharers) → AllByRecursion IsLoadDone works → keys_used who (uses_of smallest_route works) ≤ smallest_route.pool.sets_max
load-room works who each =
    let keys = filter_map (λ (this : Use). if is_by who this then this.key else None) (uses_of smallest_route works) in
    let few = few-keys keys (class-keys who (uses_of smallest_route works) (load-uses works each)) in omega (arith, few)

-- ---- no login

class-logins : (class : ℕ) (uses : List Use) → AllByRecursion IsLoadUse uses
    → AllByRecursion (λ login. login ≡ None) (map (λ (this : Use). this.by.login) (filter (is_in class) uses))
class-logins class [] each = tt
class-logins class (this ∷ uses) each =
    (elim (is_in class this) as (λ (own : Bool). AllByRecursion (λ login. login ≡ None) (map (λ (other : Use). other.by.login) (cond own (this ∷ filter (is_in class) uses) (filter (is_in class) uses)))) [
      | true ↦ (each.0.3, class-logins class uses each.1)
      | false ↦ class-logins class uses each.1
    ])

none-among : (q : Option (List ℕ)) (logins : List (Option (List ℕ))) → AllByRecursion (λ login. login ≡ None) logins → is_member same_login logins q ≡ true
    → is_member same_login (None ∷ []) q ≡ true
none-among q [] each m = cc
none-among q (login ∷ logins) each m = (elim (same_login q login) as (λ (b : Bool). same_login q login ≡ b → (b || is_member same_login logins q) ≡ true → is_member same_login (None ∷ []) q ≡ true) [
  | true ↦ λ e n. subst (λ (l : Option (List ℕ)). is_member same_login (None ∷ []) l ≡ true) (sym (login_exact q login e ∙ each.0)) refl
  | false ↦ λ e n. none-among q logins each.1 n
]) refl m

-- one login, which is none, finds room
pub load-own : (works : List DatedWork) (class : ℕ) → AllByRecursion IsLoadDone works
    → logins_used class (uses_of smallest_route works) ≤ smallest_route.pool.max_sessions
load-own works class each =
    let logins = map (λ (this : Use). this.by.login) (filter (is_in class) (uses_of smallest_route works)) in
    let none = class-logins class (uses_of smallest_route works) (load-uses works each) in
    let few = more-members login_exact login_equiv logins (None ∷ []) (λ q m. none-among q logins none m) in omega (arith, few)
