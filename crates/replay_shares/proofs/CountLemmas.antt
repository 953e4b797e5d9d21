-- Uses one behind another: what they need adds up, in order, with more keys each time
use Rattle.std.proofs.Common.{◌≡◌, ◌∙◌, ◌+◌, ◌≤◌, ◌||◌, ℕ, Bool, true, false, cond, if◌then◌else◌, List, [], ◌∷◌, ◌++◌, map, filter, Option, None, Some, refl, sym, ap, subst, arith}
use Rattle.std.specs.Cmp.{IsEquivalence}
use Rattle.std.specs.List.{AllByRecursion, IsDistinct, cons_option}
use Rattle.std.specs.Prelude.{filter_map}
use Rattle.std.specs.Set.{distinct_count, is_member, unique_keys}
use Rattle.std.proofs.lemmas.Grind.{flat_map-append}
use Rattle.std.proofs.lemmas.Map.Made.{length-le_from_is_member}
use Rattle.std.proofs.Math.Bool.{or-false, or-true}
use Rattle.z_types.specs.declared.key.SetKey.{SetKey}
use Rattle.z_types.specs.contracts.key.SetKeyEq.TheImpl.Laws as key_law
use Rattle.z_types.specs.declared.work.Work.{Work}
use Rattle.z_types.specs.Exact.{EqIsExact}
use Rattle.z_types.specs.Logins.{same_login}
use Rattle.z_types.specs.equality.Key as keys
use Rattle.z_types.proofs.LoginLemmas.{login_exact}
use Rattle.route_config.specs.declared.route.Route.{Route}
use Rattle.route_config.specs.declared.route.RouteLeg.{RouteLeg}
use Rattle.replay.specs.gateway_rules.Outcomes.{login_asked}
use Rattle.sharing_rules.specs.Needed.{count_after, is_by, is_in}
use Rattle.sharing_rules.specs.Orderly.{keys_used, logins_used}
use Rattle.sharing_rules.specs.Sharers.{Sharers}
use Rattle.sharing_rules.proofs.RoomUses.{unique_member}
use Rattle.sharing_rules.proofs.SharerFacts.{login_equiv}
use Rattle.sharing_rules.specs.Uses.{DatedWork, Use, key_if, legs_used, query_of, use_at, uses_by, uses_of}
use Rattle.sharing_rules.specs.steps.Shared.{AreInOrder}
use Rattle.package_shares.specs.steps.Requests.{behind}
use Rattle.replay_shares.specs.Orderly.{IsApart, dated}
use Rattle.replay_shares.specs.steps.Resting.{MayDo}

-- ---- lists

pub all-front : {A : Type 0} (P : A → Type 0) (xs ys : List A) → AllByRecursion P (xs ++ ys) → AllByRecursion P xs
all-front P [] ys h = tt
all-front P (x ∷ xs) ys h = (h.0, all-front P xs ys h.1)

pub all-back : {A : Type 0} (P : A → Type 0) (xs ys : List A) → AllByRecursion P (xs ++ ys) → AllByRecursion P ys
all-back P [] ys h = h
all-back P (x ∷ xs) ys h = all-back P xs ys h.1

pub all-both : {A : Type 0} (P : A → Type 0) (xs ys : List A) → AllByRecursion P xs → AllByRecursion P ys → AllByRecursion P (xs ++ ys)
all-both P [] ys h k = k
all-both P (x ∷ xs) ys h k = (h.0, all-both P xs ys h.1 k)

-- ---- what is needed

-- uses behind others
pub behind-both : (before uses more : List Use) → behind before (uses ++ more) ≡ behind (behind before uses) more
behind-both before [] more = refl
behind-both before (one ∷ uses) more = behind-both (one ∷ before) uses more

-- need what they need, and then what the others do behind them
pub count-both : (test : List Use → Use → Bool) (before uses more : List Use)
    → count_after test before (uses ++ more) ≡ count_after test before uses + count_after test (behind before uses) more
count-both test before [] more = omega arith
count-both test before (one ∷ uses) more =
    ap (λ (n : ℕ). (if test before one then 1 else 0) + n) (count-both test (one ∷ before) uses more) ∙ omega arith

-- where none is needed none is counted
pub count-none : (before uses : List Use) → count_after (λ earlier one. false) before uses ≡ 0
count-none before [] = refl
count-none before (one ∷ uses) = omega (arith, count-none (one ∷ before) uses)

-- the uses of works one behind another
pub uses-both : (route : Route) (works more : List DatedWork) → uses_of route (works ++ more) ≡ uses_of route works ++ uses_of route more
uses-both route works more = flat_map-append (uses_by route) works more

-- ---- what uses have: keys, or logins

module _ {K : Type 0} {eq : K → K → Bool} (exact : EqIsExact eq) (laws : IsEquivalence eq) where
  more-distinct : (key : K) (keys : List K) → distinct_count eq keys ≤ distinct_count eq (key ∷ keys)
  more-distinct key keys = (elim (is_member eq keys key) as (λ (b : Bool). is_member eq keys key ≡ b → distinct_count eq keys ≤ distinct_count eq (key ∷ keys)) [
    | true ↦ λ e. rw e (omega arith)
    | false ↦ λ e. rw e (omega arith)
  ]) refl

  more-option : (key : Option K) (keys : List K) → distinct_count eq keys ≤ distinct_count eq (cons_option key keys)
  more-option None keys = omega arith
  more-option (Some key) keys = more-distinct key keys

  -- what is left once each has the members that were there, and none else
  has-all : (q : K) (keys : List K) → is_member eq (unique_keys eq keys) q ≡ true → is_member eq keys q ≡ true
  has-all q [] h = h
  has-all q (key ∷ keys) h = (elim (is_member eq keys key) as (λ (b : Bool). is_member eq keys key ≡ b → is_member eq (cond b (unique_keys eq keys) (key ∷ unique_keys eq keys)) q ≡ true → is_member eq (key ∷ keys) q ≡ true) [
    | true ↦ λ e m. ap (λ (b : Bool). eq q key || b) (has-all q keys m) ∙ or-true (eq q key)
    | false ↦ λ e m. (elim (eq q key) as (λ (b : Bool). (b || is_member eq (unique_keys eq keys) q) ≡ true → (b || is_member eq keys q) ≡ true) [
      | true ↦ λ n. refl
      | false ↦ λ n. has-all q keys n
    ]) m
  ]) refl h

  -- a key that is no member is none of those that are left
  none-left : (key : K) (keys : List K) → is_member eq keys key ≡ false → AllByRecursion (λ other. eq key other ≡ false) (unique_keys eq keys)
  none-left key [] h = tt
  none-left key (one ∷ keys) h = (elim (eq key one) as (λ (a : Bool). eq key one ≡ a → AllByRecursion (λ other. eq key other ≡ false) (unique_keys eq (one ∷ keys))) [
    | true ↦ λ e. let bad = rw e at h in absurd cc
    | false ↦ λ e. (elim (is_member eq keys one) as (λ (b : Bool). AllByRecursion (λ other. eq key other ≡ false) (cond b (unique_keys eq keys) (one ∷ unique_keys eq keys))) [
      | true ↦ none-left key keys (rw e at h)
      | false ↦ (e, none-left key keys (rw e at h))
    ])
  ]) refl

  left-distinct : (keys : List K) → IsDistinct eq (unique_keys eq keys)
  unfolding IsDistinct
  left-distinct [] = tt
  left-distinct (key ∷ keys) = (elim (is_member eq keys key) as (λ (b : Bool). is_member eq keys key ≡ b → IsDistinct eq (cond b (unique_keys eq keys) (key ∷ unique_keys eq keys))) [
    | true ↦ λ e. left-distinct keys
    | false ↦ λ e. (none-left key keys e, left-distinct keys)
  ]) refl

  pub more-members : (keys others : List K) → ((q : K) → is_member eq keys q ≡ true → is_member eq others q ≡ true)
      → distinct_count eq keys ≤ distinct_count eq others
  more-members keys others more =
      length-le_from_is_member laws (unique_keys eq keys) (unique_keys eq others) (left-distinct keys)
      (λ q h. unique_member exact q others (more q (has-all q keys h)))

  turned-by : (own uses before : Bool) → (uses || (own || before)) ≡ true → ((own || uses) || before) ≡ true
  turned-by true uses before h = refl
  turned-by false uses before h = h

  turned-one : (q : K) (key : Option K) (uses before : List K) → (is_member eq uses q || is_member eq (cons_option key before) q) ≡ true
      → (is_member eq (cons_option key uses) q || is_member eq before q) ≡ true
  turned-one q None uses before h = h
  turned-one q (Some key) uses before h = turned-by (eq q key) (is_member eq uses q) (is_member eq before q) h

  module _ (has : Use → Option K) where
    -- more uses have no fewer
    some-behind : (before uses : List Use) → distinct_count eq (filter_map has before) ≤ distinct_count eq (filter_map has (behind before uses))
    some-behind before [] = omega arith
    some-behind before (one ∷ uses) =
        let here = more-option (has one) (filter_map has before) in
        let rest = some-behind (one ∷ before) uses in omega (arith, here, rest)

    turned-members : (q : K) (before uses : List Use) → is_member eq (filter_map has (behind before uses)) q ≡ true
        → (is_member eq (filter_map has uses) q || is_member eq (filter_map has before) q) ≡ true
    turned-members q before [] h = h
    turned-members q before (one ∷ uses) h =
        turned-one q (has one) (filter_map has uses) (filter_map has before) (turned-members q (one ∷ before) uses h)

    -- uses the last of which comes first have no more
    some-turned : (uses : List Use) → distinct_count eq (filter_map has (behind [] uses)) ≤ distinct_count eq (filter_map has uses)
    some-turned uses =
        more-members (filter_map has (behind [] uses)) (filter_map has uses)
        (λ q h. sym (or-false (is_member eq (filter_map has uses) q)) ∙ turned-members q [] uses h)

-- ---- keys

abbrev key_by : Sharers → Use → Option SetKey
key_by who this = if is_by who this then this.key else None

keys-behind : (who : Sharers) (before uses : List Use) → keys_used who before ≤ keys_used who (behind before uses)
keys-behind who before uses = some-behind keys.key.eq_is_exact key_law.laws-law (key_by who) before uses

pub keys-turned : (who : Sharers) (uses : List Use) → keys_used who (behind [] uses) ≤ keys_used who uses
keys-turned who uses = some-turned keys.key.eq_is_exact key_law.laws-law (key_by who) uses

-- ---- logins

abbrev login_by : ℕ → Use → Option (Option (List ℕ))
login_by class this = if is_in class this then Some this.by.login else None

logins-by : (class : ℕ) (uses : List Use) → map (λ (this : Use). this.by.login) (filter (is_in class) uses) ≡ filter_map (login_by class) uses
logins-by class [] = refl
logins-by class (this ∷ uses) =
    (elim (is_in class this) as (λ (b : Bool). map (λ (one : Use). one.by.login) (cond b (this ∷ filter (is_in class) uses) (filter (is_in class) uses)) ≡ cons_option (if b then Some this.by.login else None) (filter_map (login_by class) uses)) [
      | true ↦ ap (λ (ls : List (Option (List ℕ))). this.by.login ∷ ls) (logins-by class uses)
      | false ↦ logins-by class uses
    ])

logins-counted : (class : ℕ) (uses : List Use) → logins_used class uses ≡ distinct_count same_login (filter_map (login_by class) uses)
logins-counted class uses = ap (λ (ls : List (Option (List ℕ))). distinct_count same_login ls) (logins-by class uses)

logins-behind : (class : ℕ) (before uses : List Use) → logins_used class before ≤ logins_used class (behind before uses)
logins-behind class before uses =
    let few = some-behind login_exact login_equiv (login_by class) before uses in
    let here = logins-counted class before in
    let there = logins-counted class (behind before uses) in omega (arith, few, here, there)

pub logins-turned : (class : ℕ) (uses : List Use) → logins_used class (behind [] uses) ≤ logins_used class uses
logins-turned class uses =
    let few = some-turned login_exact login_equiv (login_by class) uses in
    let here = logins-counted class (behind [] uses) in
    let there = logins-counted class uses in omega (arith, few, here, there)

-- works that may be done, and then others
module _ (route : Route) (before : List Use) (works more : List DatedWork) (h : MayDo route before (works ++ more)) where
  uses-on : behind before (uses_of route (works ++ more)) ≡ behind (behind before (uses_of route works)) (uses_of route more)
  uses-on = ap (behind before) (uses-both route works more) ∙ behind-both before (uses_of route works) (uses_of route more)

  pub may-first : MayDo route before works
  may-first = record {
    apart = all-front (IsApart route) works more h.apart;
    few = λ who.
        let all = h.few who in
        let on = ap (keys_used who) uses-on in
        let less = keys-behind who (behind before (uses_of route works)) (uses_of route more) in omega (arith, all, on, less);
    own = λ class.
        let all = h.own class in
        let on = ap (logins_used class) uses-on in
        let less = logins-behind class (behind before (uses_of route works)) (uses_of route more) in omega (arith, all, on, less);
  }

  pub may-rest : MayDo route (behind before (uses_of route works)) more
  may-rest = record {
    apart = all-back (IsApart route) works more h.apart;
    few = λ who. let all = h.few who in let on = ap (keys_used who) uses-on in omega (arith, all, on);
    own = λ class. let all = h.own class in let on = ap (logins_used class) uses-on in omega (arith, all, on);
  }

-- ---- order

pub later-order : (now later : ℕ) (uses : List Use) → now ≤ later → AreInOrder now uses → AreInOrder later uses
later-order now later [] most h = tt
later-order now later (one ∷ uses) most h = (let first = h.0 in omega (arith, first, most), h.1)

-- uses at one moment
abbrev IsAt : ℕ → Use → Type 0
IsAt now one = one.at ≡ now

pub order-behind : (now : ℕ) (before uses : List Use) → AreInOrder now before → AllByRecursion (IsAt now) uses → AreInOrder now (behind before uses)
order-behind now before [] falls at = falls
order-behind now before (one ∷ uses) falls at =
    let here : one.at ≡ now = at.0 in
    order-behind now (one ∷ before) uses (omega (arith, here), subst (λ (n : ℕ). AreInOrder n before) (sym here) falls) at.1

legs-at : (now : ℕ) (work : Work) (legs : List RouteLeg)
    → AllByRecursion (IsAt now) (map (λ (leg : RouteLeg). use_at now (login_asked work) (key_if (query_of work) leg) leg) legs)
legs-at now work [] = tt
legs-at now work (leg ∷ legs) = (refl, legs-at now work legs)

pub works-at : (route : Route) (now : ℕ) (works : List Work) → AllByRecursion (IsAt now) (uses_of route (map (dated now) works))
works-at route now [] = tt
works-at route now (work ∷ works) =
    all-both (IsAt now) (uses_by route (dated now work)) (uses_of route (map (dated now) works)) (legs-at now work (legs_used route work))
    (works-at route now works)
