-- The sessions of some sharers behind their uses: what expiry leaves, and which of them a take sees
use Rattle.std.proofs.Common.{◌≡◌, ◌==◌, ◌∙◌, ◌-◌, ◌≤◌, ℕ, Bool, true, false, cond, List, [], ◌∷◌, map, filter, Option, None, Some, refl, ap, nat_lt, arith}
use Rattle.std.specs.Option.{option_or}
use Rattle.std.proofs.lemmas.Bool.Decides.{leb_tells}
use Rattle.z_types.specs.Logins.{same_login}
use Rattle.z_types.specs.declared.address.Address.{Address}
use Rattle.z_types.specs.declared.key.SetKey.{SetKey}
use Rattle.z_types.specs.declared.world.World as world
use Rattle.route_config.specs.declared.route.Route.{Route}
use Rattle.pool_sets.specs.declared.pooled.Parts.{Parts}
use Rattle.pool_sets.specs.declared.sessions.Stand.{Stand}
use Rattle.pool_sets.specs.declared.sessions.Stand.TheVariants.{Idle, Out}
use Rattle.pool_sets.specs.Sessions.{Session, first_some, idle_for, idle_with, is_for}
use Rattle.pool_sets.specs.Plain.{stays_open, with_fresh_sets, fresh_sessions}
use Rattle.sharing_rules.specs.Sharers.{Sharers}
use Rattle.sharing_rules.specs.Uses.{Use}
use Rattle.sharing_rules.specs.Needed.{is_by, last_at, is_late}
use Rattle.sharing_rules.specs.steps.Shared.{IsKeptIn, AreKept, is_of, shared_by}
use Rattle.sharing_rules.proofs.SharerFacts.{login_equiv}
use Rattle.sharing_rules.proofs.TableUses.{expired, passed}

-- ---- late or not

pub late_stays : (ttl now later : ℕ) (o : Option ℕ) → now ≤ later → is_late ttl now o ≡ true → is_late ttl later o ≡ true
late_stays ttl now later None le h = refl
late_stays ttl now later (Some at) le h = grind (arith, leb_tells)

-- ---- expiry, class by class

module _ {S : Type 0} where
  abbrev pub afresh : (now session_ttl set_ttl : ℕ) → List (Session S) → List (Session S)
  afresh now session_ttl set_ttl os = fresh_sessions now session_ttl set_ttl os

  -- the sessions of some sharers expire by themselves
  pub theirs_expire : (who : Sharers) (now session_ttl set_ttl : ℕ) (os : List (Session S))
      → shared_by who (afresh now session_ttl set_ttl os) ≡ afresh now session_ttl set_ttl (shared_by who os)
  theirs_expire who now a b [] = refl
  theirs_expire who now a b (o ∷ os) =
      let rest = theirs_expire who now a b os in
      (elim (is_of who o) as (λ c. is_of who o ≡ c → shared_by who (afresh now a b (o ∷ os)) ≡ afresh now a b (cond c (o ∷ shared_by who os) (shared_by who os))) [
        | true ↦ λ k. (elim (stays_open now a o) as (λ c. shared_by who (map (with_fresh_sets now b) (cond c (o ∷ filter (stays_open now a) os) (filter (stays_open now a) os))) ≡ map (with_fresh_sets now b) (cond c (o ∷ filter (stays_open now a) (shared_by who os)) (filter (stays_open now a) (shared_by who os)))) [
          | true ↦ rw k (ap (λ r. with_fresh_sets now b o ∷ r) rest)
          | false ↦ rest
        ])
        | false ↦ λ k. (elim (stays_open now a o) as (λ c. shared_by who (map (with_fresh_sets now b) (cond c (o ∷ filter (stays_open now a) os) (filter (stays_open now a) os))) ≡ map (with_fresh_sets now b) (filter (stays_open now a) (shared_by who os))) [
          | true ↦ rw k rest
          | false ↦ rest
        ])
      ]) refl

module _ {W S : Type 0} (w : world.Ghosts W) (route : Route) (who : Sharers) (at : List Address) where
  -- one session of a class, once it has expired
  one_expired : (now later : ℕ) (before : List Use) (o : Session S) (stand : Stand (Parts S) Address) → o.stand ≡ stand → IsKeptIn w route who at now before stand → now ≤ later
      → AreKept w route who at later before (afresh later route.pool.session_ttl route.pool.set_ttl (o ∷ []))
  one_expired now later before o (Out address) e h le = absurd h
  one_expired now later before o (Idle parts since) e h le =
      (elim (nat_lt (later - since) route.pool.session_ttl) as (λ b. nat_lt (later - since) route.pool.session_ttl ≡ b → AreKept w route who at later before (afresh later route.pool.session_ttl route.pool.set_ttl (o ∷ []))) [
        | true ↦ λ k. rw (e, k) (record {
          since_last = h.since_last;
          among = h.among;
          inside_ = h.inside_;
          holds = expired w route who now later before parts.table h.holds le;
        })
        | false ↦ λ k. rw (e, k) (rw h.since_last (grind (arith, leb_tells)))
      ]) refl

  -- time passes and the sessions of a class expire: they are kept still
  pub kept_expired : (now later : ℕ) (before : List Use) (os : List (Session S)) → AreKept w route who at now before os → now ≤ later
      → AreKept w route who at later before (afresh later route.pool.session_ttl route.pool.set_ttl os)
  kept_expired now later before [] h le = late_stays route.pool.session_ttl now later (last_at (is_by who) before) le h
  kept_expired now later before (o ∷ []) h le = one_expired now later before o o.stand refl h le
  kept_expired now later before (o ∷ (p ∷ os)) h le = absurd h

  kept_in_later : (now later : ℕ) (before : List Use) (stand : Stand (Parts S) Address) → now ≤ later → IsKeptIn w route who at now before stand → IsKeptIn w route who at later before stand
  kept_in_later now later before (Out address) le h = h
  kept_in_later now later before (Idle parts since) le h = record {
    since_last = h.since_last;
    among = h.among;
    inside_ = h.inside_;
    holds = passed w route who now later before parts.table h.holds le;
  }

  -- time passes and nothing expires: they are kept too
  pub kept_later : (now later : ℕ) (before : List Use) (os : List (Session S)) → now ≤ later → AreKept w route who at now before os → AreKept w route who at later before os
  kept_later now later before [] le h = late_stays route.pool.session_ttl now later (last_at (is_by who) before) le h
  kept_later now later before (o ∷ []) le h = kept_in_later now later before o.stand le h
  kept_later now later before (o ∷ (p ∷ os)) le h = absurd h

-- ---- a take sees the sessions of its sharers alone

either_way : {A : Type 0} (b : Bool) (x : A) → cond b x x ≡ x
either_way true x = refl
either_way false x = refl

module _ {S : Type 0} (who : Sharers) (at : List Address) where
  -- a session of others is not idle for these
  elsewhere : (o : Session S) → is_of who o ≡ false → idle_for who.class at who.login o ≡ None
  elsewhere o h = (elim (o.class == who.class) as (λ b. (o.class == who.class) ≡ b → idle_for who.class at who.login o ≡ None) [
    | true ↦ λ k.
        let other : same_login who.login o.login ≡ false = login_equiv.symm who.login o.login ∙ rw k at h in
        rw other refl
    | false ↦ λ k. rw k (either_way (is_for who.login o) None)
  ]) refl

  pub first_of_theirs : (os : List (Session S)) → first_some (idle_for who.class at who.login) os ≡ first_some (idle_for who.class at who.login) (shared_by who os)
  first_of_theirs [] = refl
  first_of_theirs (o ∷ os) = (elim (is_of who o) as (λ b. is_of who o ≡ b → option_or (idle_for who.class at who.login o) (first_some (idle_for who.class at who.login) os) ≡ first_some (idle_for who.class at who.login) (cond b (o ∷ shared_by who os) (shared_by who os))) [
    | true ↦ λ k. ap (option_or (idle_for who.class at who.login o)) (first_of_theirs os)
    | false ↦ λ k. rw (elsewhere o k) (first_of_theirs os)
  ]) refl

  pub first_with : (key : SetKey) (os : List (Session S)) → first_some (idle_with who.class at who.login key) os ≡ first_some (idle_with who.class at who.login key) (shared_by who os)
  first_with key [] = refl
  first_with key (o ∷ os) = (elim (is_of who o) as (λ b. is_of who o ≡ b → option_or (idle_with who.class at who.login key o) (first_some (idle_with who.class at who.login key) os) ≡ first_some (idle_with who.class at who.login key) (cond b (o ∷ shared_by who os) (shared_by who os))) [
    | true ↦ λ k. ap (option_or (idle_with who.class at who.login key o)) (first_with key os)
    | false ↦ λ k. rw (elsewhere o k) (first_with key os)
  ]) refl
