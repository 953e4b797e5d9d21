-- What a pool keeps while it forgets
use Rattle.std.proofs.Common.{ℕ, ◌<◌, ◌≤◌, ◌^◌, Bool, List, length, map, filter, refl, sym, subst, arith}
use Rattle.std.proofs.lemmas.List.Elements.{All-filter, All-map}
use Rattle.std.proofs.lemmas.List.{length-map}
use Rattle.std.proofs.lemmas.List.Sums.{length-filter, count_by-le-length}
use Rattle.z_types.specs.declared.address.Address.{Address}
use Rattle.z_types.specs.declared.sitting.Sitting as sitting
use Rattle.pool_sets.specs.Sessions.{Session}
use Rattle.pool_sets.specs.declared.pooled.Parts.{Parts}
use Rattle.pool_sets.specs.declared.sessions.Stand.{Stand}
use Rattle.pool_sets.specs.declared.sessions.Stand.TheVariants.{Idle, Out}
use Rattle.pool_sets.specs.Plain.{stays_open, with_fresh_sets, without_old_sets, fresh_sessions}
use Rattle.pool_core.specs.PoolView.{IsPool, Rests, StandRests}
use Rattle.pool_core.proofs.Ascending.{ascends_filter, ascends_map}

le_through : (a b c : ℕ) → a ≤ b → b ≤ c → a ≤ c
le_through a b c p q = omega arith

lt_through : (a b c : ℕ) → a ≤ b → b < c → a < c
lt_through a b c p q = omega arith

pub fewer_pass : {X : Type 0} (p : X → Bool) (xs : List X) → length (filter p xs) ≤ length xs
fewer_pass p xs = subst (λ n. n ≤ length xs) (sym (length-filter p xs)) (count_by-le-length p xs)

module _ {W S : Type 0} (t : sitting.Ghosts S W) where
  stand_fresh : (now ttl : ℕ) (s : Stand (Parts S) Address) → StandRests t s → StandRests t (without_old_sets now ttl s)
  stand_fresh now ttl (Idle parts since) r = r
  stand_fresh now ttl (Out address) r = r

  -- some sessions are dropped
  pub pool_filters : (p : Session S → Bool) (os : List (Session S)) (given opens : ℕ) → IsPool t os given opens → IsPool t (filter p os) given opens
  pool_filters p os given opens k = record {
    rests = All-filter p (Rests t) os k.rests;
    ascends = ascends_filter 0 given p os k.ascends;
    bound = le_through (length (filter p os)) (length os) opens (fewer_pass p os) k.bound;
    few = lt_through (length (filter p os)) (length os) (2 ^ 32) (fewer_pass p os) k.few;
  }

  -- some sets are forgotten
  pub pool_freshens : (now ttl : ℕ) (os : List (Session S)) (given opens : ℕ) → IsPool t os given opens → IsPool t (map (with_fresh_sets now ttl) os) given opens
  pool_freshens now ttl os given opens k = record {
    rests = All-map (Rests t) (with_fresh_sets now ttl) os (λ i d h. stand_fresh now ttl _ (k.rests i d h));
    ascends = ascends_map 0 given (with_fresh_sets now ttl) os (λ o. refl) k.ascends;
    bound = subst (λ n. n ≤ opens) (sym (length-map os (with_fresh_sets now ttl))) k.bound;
    few = subst (λ n. n < 2 ^ 32) (sym (length-map os (with_fresh_sets now ttl))) k.few;
  }

  pub pool_expires : (now session_ttl set_ttl : ℕ) (os : List (Session S)) (given opens : ℕ) → IsPool t os given opens → IsPool t (fresh_sessions now session_ttl set_ttl os) given opens
  pool_expires now session_ttl set_ttl os given opens k = pool_freshens now set_ttl (filter (stays_open now session_ttl) os) given opens (pool_filters (stays_open now session_ttl) os given opens k)
