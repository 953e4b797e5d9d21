-- There is room for a session more of a class, while no more logins use it than it may have sessions: of each it has one at most,
-- and that of a login that used it
use Rattle.std.proofs.Common.{◌≡◌, ◌==◌, ◌&&◌, ◌∙◌, ◌<◌, ◌≤◌, ℕ, Bool, true, false, cond, List, [], ◌∷◌, map, filter, length, Option, None, Some, refl, sym, subst, nat_lt, arith}
use Rattle.std.specs.List.{AllByRecursion, IsDistinct}
use Rattle.std.specs.Set.{is_member, unique_keys}
use Rattle.std.specs.Cmp.{nat_eq_equiv}
use Rattle.std.proofs.Math.Bool.{or-true}
use Rattle.std.proofs.lemmas.Bool.Decides.{leb_tells}
use Rattle.std.proofs.lemmas.List.Sums.{length-filter}
use Rattle.std.proofs.lemmas.Map.Made.{length-le_from_is_member}
use Rattle.z_types.specs.Logins.{same_login}
use Rattle.z_types.specs.declared.address.Address.{Address}
use Rattle.z_types.specs.declared.world.World as world
use Rattle.z_types.specs.equality.Tests.{both_true}
use Rattle.z_types.proofs.LoginLemmas.{login_exact}
use Rattle.route_config.specs.declared.route.Route.{Route}
use Rattle.pool_sets.specs.declared.pooled.Parts.{Parts}
use Rattle.pool_sets.specs.declared.sessions.Stand.{Stand}
use Rattle.pool_sets.specs.declared.sessions.Stand.TheVariants.{Idle, Out}
use Rattle.pool_sets.specs.Sessions.{Session, in_class, is_among, open_of, stand_target}
use Rattle.sharing_rules.specs.Needed.{is_by, is_in, last_at}
use Rattle.sharing_rules.specs.Sharers.{Sharers}
use Rattle.sharing_rules.specs.Uses.{Use}
use Rattle.sharing_rules.specs.steps.Shared.{AreKept, FindsRoom, IsKeptIn, is_of, shared_by, use_now}
use Rattle.sharing_rules.proofs.RoomUses.{unique_member}
use Rattle.sharing_rules.proofs.SharerFacts.{login_equiv}

is_below : (a b : ℕ) → a < b → nat_lt a b ≡ true
is_below a b h = grind (arith, leb_tells)

-- one at most
abbrev IsAtMostOne : {X : Type 0} → List X → Type 0
IsAtMostOne [] = Unit {0}
IsAtMostOne (x ∷ []) = Unit {0}
IsAtMostOne (x ∷ (y ∷ ys)) = ⊥

none_more : {X : Type 0} (x : X) (xs : List X) → IsAtMostOne (x ∷ xs) → xs ≡ []
none_more x [] h = refl
none_more x (y ∷ ys) h = absurd h

none_is_few : {X : Type 0} (xs : List X) → xs ≡ [] → IsAtMostOne xs
none_is_few xs e = subst IsAtMostOne (sym e) tt

fewer : {X : Type 0} (p : X → Bool) (x : X) (xs : List X) → IsAtMostOne (filter p (x ∷ xs)) → IsAtMostOne (filter p xs)
fewer p x xs = (elim (p x) as (λ b. IsAtMostOne (cond b (x ∷ filter p xs) (filter p xs)) → IsAtMostOne (filter p xs)) [
  | true ↦ λ h. none_is_few (filter p xs) (none_more x (filter p xs) h)
  | false ↦ λ h. h
])

-- those of a class who share under a login
abbrev of_both : ℕ → Option (List ℕ) → Sharers
of_both class login = record { class = class; login = login }

module _ {S : Type 0} (class : ℕ) where
  -- the logins of the sessions of the class
  abbrev logins_of : List (Session S) → List (Option (List ℕ))
  logins_of os = map (λ o. o.login) (filter (λ o. o.class == class) os)

  none_share : (login : Option (List ℕ)) (os : List (Session S)) → shared_by (of_both class login) os ≡ []
      → AllByRecursion (λ other. same_login login other ≡ false) (logins_of os)
  none_share login [] h = tt
  none_share login (o ∷ os) h =
      (elim (o.class == class) as (λ b. (o.class == class) ≡ b → AllByRecursion (λ other. same_login login other ≡ false) (map (λ p. p.login) (cond b (o ∷ filter (λ p. p.class == class) os) (filter (λ p. p.class == class) os)))) [
        | true ↦ λ k. (elim (same_login o.login login) as (λ b. same_login o.login login ≡ b → (same_login login o.login ≡ false) × AllByRecursion (λ other. same_login login other ≡ false) (logins_of os)) [
          | true ↦ λ e. let bad = rw (k, e) at h in cc
          | false ↦ λ e. (login_equiv.symm login o.login ∙ e, none_share login os (rw (k, e) at h))
        ]) refl
        | false ↦ λ k. none_share login os (rw k at h)
      ]) refl

  only : (o : Session S) (os : List (Session S)) → (o.class == class) ≡ true → IsAtMostOne (shared_by (of_both class o.login) (o ∷ os))
      → shared_by (of_both class o.login) os ≡ []
  only o os k h = none_more o (shared_by (of_both class o.login) os) (rw (k, login_equiv.refl o.login) at h)

  -- where each login has one session at most, the logins are distinct
  distinct_logins : (os : List (Session S)) → ((login : Option (List ℕ)) → IsAtMostOne (shared_by (of_both class login) os))
      → IsDistinct same_login (logins_of os)
  unfolding IsDistinct
  distinct_logins [] few = tt
  distinct_logins (o ∷ os) few =
      let rest = distinct_logins os (λ login. fewer (is_of (of_both class login)) o os (few login)) in
      (elim (o.class == class) as (λ b. (o.class == class) ≡ b → IsDistinct same_login (map (λ p. p.login) (cond b (o ∷ filter (λ p. p.class == class) os) (filter (λ p. p.class == class) os)))) [
        | true ↦ λ k. (none_share o.login os (only o os k (few o.login)), rest)
        | false ↦ λ k. rest
      ]) refl

  module _ (P : Option (List ℕ) → Type 0) where
    -- what each login has that has a session
    each_login : (os : List (Session S)) → ((login : Option (List ℕ)) (o : Session S) (ps : List (Session S)) → shared_by (of_both class login) os ≡ o ∷ ps → P login)
        → AllByRecursion P (logins_of os)
    each_login [] has = tt
    each_login (o ∷ os) has =
        let rest = each_login os (λ login p ps e. has_more login p ps e) in
        (elim (o.class == class) as (λ b. (o.class == class) ≡ b → AllByRecursion P (map (λ p. p.login) (cond b (o ∷ filter (λ p. p.class == class) os) (filter (λ p. p.class == class) os)))) [
          | true ↦ λ k. (has o.login o (shared_by (of_both class o.login) os) (rw (k, login_equiv.refl o.login) refl), rest)
          | false ↦ λ k. rest
        ]) refl
      where
        has_more : (login : Option (List ℕ)) (p : Session S) (ps : List (Session S)) → shared_by (of_both class login) os ≡ p ∷ ps → P login
        has_more login p ps e = (elim (is_of (of_both class login) o) as (λ b. is_of (of_both class login) o ≡ b → P login) [
          | true ↦ λ t. has login o (shared_by (of_both class login) os) (rw t refl)
          | false ↦ λ t. has login p ps (rw t e)
        ]) refl

  -- the open sessions of the class are no more than these logins
  few_open : (at : List Address) (os : List (Session S)) → length (filter (in_class class at) os) ≤ length (logins_of os)
  few_open at [] = omega arith
  few_open at (o ∷ os) =
      let rest = few_open at os in
      (elim (o.class == class) as (λ b. length (cond (b && is_among at (stand_target o.stand)) (o ∷ filter (in_class class at) os) (filter (in_class class at) os)) ≤ length (map (λ p. p.login) (cond b (o ∷ filter (λ p. p.class == class) os) (filter (λ p. p.class == class) os)))) [
        | true ↦ (elim (is_among at (stand_target o.stand)) as (λ b. length (cond b (o ∷ filter (in_class class at) os) (filter (in_class class at) os)) ≤ length (o.login ∷ logins_of os)) [
          | true ↦ omega (arith, rest)
          | false ↦ omega (arith, rest)
        ])
        | false ↦ rest
      ])

-- ---- the logins that were used

abbrev pub used_logins : ℕ → List Use → List (Option (List ℕ))
used_logins class before = map (λ this. this.by.login) (filter (is_in class) before)

-- a login that used the class is among them
pub login_used : (who : Sharers) (before : List Use) (since : ℕ) → last_at (is_by who) before ≡ Some since → is_member same_login (used_logins who.class before) who.login ≡ true
login_used who [] since h = cc
login_used who (one ∷ before) since h = (elim (is_by who one) as (λ b. is_by who one ≡ b → is_member same_login (used_logins who.class (one ∷ before)) who.login ≡ true) [
  | true ↦ λ t.
      let both = both_true (one.by.class == who.class) (same_login one.by.login who.login) t in
      let own : same_login who.login one.by.login ≡ true = login_equiv.symm who.login one.by.login ∙ both.1 in
      rw both.0 (rw own refl)
  | false ↦ λ t.
      let rest = login_used who before since (rw t at h) in
      (elim (one.by.class == who.class) as (λ b. is_member same_login (map (λ this. this.by.login) (cond b (one ∷ filter (is_in who.class) before) (filter (is_in who.class) before))) who.login ≡ true) [
        | true ↦ rw rest (or-true (same_login who.login one.by.login))
        | false ↦ rest
      ])
]) refl

all_members : (ys xs : List (Option (List ℕ))) → AllByRecursion (λ login. is_member same_login ys login ≡ true) xs → (q : Option (List ℕ)) → is_member same_login xs q ≡ true
    → is_member same_login ys q ≡ true
all_members ys [] a q h = cc
all_members ys (x ∷ xs) a q h = (elim (same_login q x) as (λ b. same_login q x ≡ b → is_member same_login ys q ≡ true) [
  | true ↦ λ t. subst (λ z. is_member same_login ys z ≡ true) (sym (login_exact q x t)) a.0
  | false ↦ λ t. all_members ys xs a.1 q (rw t at h)
]) refl

-- ---- room

module _ {W S : Type 0} (w : world.Ghosts W) (route : Route) (who : Sharers) (at : List Address) (now : ℕ) (before : List Use) (os : List (Session S))
    (kept : (login : Option (List ℕ)) → AreKept w route (of_both who.class login) at now before (shared_by (of_both who.class login) os)) where
  few_of : (login : Option (List ℕ)) (ps : List (Session S)) → AreKept w route (of_both who.class login) at now before ps → IsAtMostOne ps
  few_of login [] h = tt
  few_of login (p ∷ []) h = tt
  few_of login (p ∷ (q ∷ ps)) h = absurd h

  abbrev all_used : List (Option (List ℕ))
  all_used = used_logins who.class (use_now who now None ∷ before)

  used_more : (login : Option (List ℕ)) → is_member same_login (used_logins who.class before) login ≡ true → is_member same_login all_used login ≡ true
  used_more login h = rw (nat_eq_equiv.refl who.class) (rw h (or-true (same_login login who.login)))

  stand_used : (login : Option (List ℕ)) (stand : Stand (Parts S) Address) → IsKeptIn w route (of_both who.class login) at now before stand → is_member same_login all_used login ≡ true
  stand_used login (Out address) h = absurd h
  stand_used login (Idle parts since) h = used_more login (login_used (of_both who.class login) before since h.since_last)

  its_used : (login : Option (List ℕ)) (o : Session S) (ps qs : List (Session S)) → AreKept w route (of_both who.class login) at now before qs → qs ≡ o ∷ ps
      → is_member same_login all_used login ≡ true
  its_used login o ps [] h e = cc
  its_used login o ps (q ∷ []) h e = stand_used login q.stand h
  its_used login o ps (q ∷ (r ∷ qs)) h e = absurd h

  own_used : is_member same_login all_used who.login ≡ true
  own_used = rw (nat_eq_equiv.refl who.class) (rw (login_equiv.refl who.login) refl)

  -- fewer sessions of the class are open than there may be
  pub room_for_one : shared_by who os ≡ [] → FindsRoom route who now before → nat_lt (open_of who.class at os) route.pool.max_sessions ≡ true
  unfolding IsDistinct
  room_for_one none room =
      let each = each_login who.class (λ login. is_member same_login (unique_keys same_login all_used) login ≡ true) os
      (λ login o ps e. unique_member login_exact login all_used (its_used login o ps (shared_by (of_both who.class login) os) (kept login) e)) in
      let most = length-le_from_is_member login_equiv (who.login ∷ logins_of who.class os) (unique_keys same_login all_used)
      (none_share who.class who.login os none, distinct_logins who.class os (λ login. few_of login (shared_by (of_both who.class login) os) (kept login)))
      (all_members (unique_keys same_login all_used) (who.login ∷ logins_of who.class os) (unique_member login_exact who.login all_used own_used, each)) in
      let open_ = few_open who.class at os in
      let same = length-filter (in_class who.class at) os in
      is_below (open_of who.class at os) route.pool.max_sessions (omega (arith, most, open_, same, room))
