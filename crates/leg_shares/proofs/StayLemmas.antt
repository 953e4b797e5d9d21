-- Sessions that expire again at one moment stay as they are
use Rattle.std.proofs.Common.{◌≡◌, ◌∙◌, ◌-◌, ℕ, max, Bool, true, false, cond, inl, inr, List, [], ◌∷◌, map, filter, refl, ap, nat_lt, arith}
use Rattle.z_types.specs.declared.address.Address.{Address}
use Rattle.route_config.specs.declared.route.Route.{Route}
use Rattle.pool_sets.specs.Plain.{fresh_sessions, stays, stays_open, with_fresh_sets, without_old_sets}
use Rattle.pool_sets.specs.Sessions.{Session, with_stand, with_table}
use Rattle.pool_sets.specs.Table.{Entry, Table, after_expire}
use Rattle.pool_sets.specs.declared.pooled.Parts.{Parts}
use Rattle.pool_sets.specs.declared.sessions.Stand.{Stand}
use Rattle.pool_sets.specs.declared.sessions.Stand.TheVariants.{Idle, Out}
use Rattle.leg_shares.specs.steps.Pools.{StayOrExpire}

filter-again : {X : Type 0} (p : X → Bool) (xs : List X) → filter p (filter p xs) ≡ filter p xs
filter-again p [] = refl
filter-again p (x ∷ xs) = (elim (p x) as (λ (b : Bool). p x ≡ b → filter p (cond b (x ∷ filter p xs) (filter p xs)) ≡ cond b (x ∷ filter p xs) (filter p xs)) [
  | true ↦ λ e. rw e (ap (λ r. x ∷ r) (filter-again p xs))
  | false ↦ λ e. filter-again p xs
]) refl

moment-again : (latest now : ℕ) → max (max latest now) now ≡ max latest now
moment-again latest now = omega arith

table-again : (now ttl : ℕ) (t : Table) → after_expire now ttl (after_expire now ttl t) ≡ after_expire now ttl t
table-again now ttl t =
    let moment = moment-again t.latest now in
    let young = λ (n : ℕ) (e : Entry). nat_lt (n - e.used) ttl in
    let sets = ap (λ (n : ℕ). filter (young n) (filter (young (max t.latest now)) t.entries)) moment ∙ filter-again (young (max t.latest now)) t.entries in
    λ i. record { entries = sets i; most = t.most; latest = moment i }

module _ {S : Type 0} (now session_ttl set_ttl : ℕ) where
  stand-again : (stand : Stand (Parts S) Address)
      → without_old_sets now set_ttl (without_old_sets now set_ttl stand) ≡ without_old_sets now set_ttl stand
  stand-again (Idle parts since) = ap (λ (t : Table). Idle (with_table t parts) since) (table-again now set_ttl parts.table)
  stand-again (Out address) = refl

  session-again : (o : Session S) → with_fresh_sets now set_ttl (with_fresh_sets now set_ttl o) ≡ with_fresh_sets now set_ttl o
  session-again o = ap (λ (s : Stand (Parts S) Address). with_stand s o) (stand-again o.stand)

  stays-again : (stand : Stand (Parts S) Address) → stays now session_ttl (without_old_sets now set_ttl stand) ≡ stays now session_ttl stand
  stays-again (Idle parts since) = refl
  stays-again (Out address) = refl

  abbrev fresh : List (Session S) → List (Session S)
  fresh os = fresh_sessions now session_ttl set_ttl os

  fresh-again : (os : List (Session S)) → fresh (fresh os) ≡ fresh os
  fresh-again [] = refl
  fresh-again (o ∷ os) =
      let rest = fresh-again os in
      (elim (stays_open now session_ttl o) as (λ (b : Bool). stays_open now session_ttl o ≡ b → fresh (map (with_fresh_sets now set_ttl) (cond b (o ∷ filter (stays_open now session_ttl) os) (filter (stays_open now session_ttl) os))) ≡ map (with_fresh_sets now set_ttl) (cond b (o ∷ filter (stays_open now session_ttl) os) (filter (stays_open now session_ttl) os))) [
        | true ↦ λ e.
            let k : stays_open now session_ttl (with_fresh_sets now set_ttl o) ≡ true = stays-again o.stand ∙ e in
            rw k (ap (λ x. x ∷ fresh (fresh os)) (session-again o) ∙ ap (λ r. with_fresh_sets now set_ttl o ∷ r) rest)
        | false ↦ λ e. rest
      ]) refl

-- what stays or expires twice does so once
pub stay-on : {S : Type 0} (route : Route) (now : ℕ) (os ps qs : List (Session S)) → StayOrExpire route now os ps → StayOrExpire route now ps qs
    → StayOrExpire route now os qs
stay-on route now os ps qs (inl e) (inl f) = inl (f ∙ e)
stay-on route now os ps qs (inl e) (inr f) = inr (f ∙ ap (λ xs. fresh_sessions now route.pool.session_ttl route.pool.set_ttl xs) e)
stay-on route now os ps qs (inr e) (inl f) = inr (f ∙ e)
stay-on route now os ps qs (inr e) (inr f) =
    inr (f ∙ ap (λ xs. fresh_sessions now route.pool.session_ttl route.pool.set_ttl xs) e
    ∙ fresh-again now route.pool.session_ttl route.pool.set_ttl os)
