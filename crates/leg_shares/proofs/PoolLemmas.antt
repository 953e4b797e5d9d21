-- What a take and a put do to a pool of a route, whose class is kept
use Rattle.std.proofs.Common.{◌≡◌, ◌∙◌, ◌==◌, ◌&&◌, ℕ, ◌≤◌, Bool, true, false, cond, inl, inr, List, [], ◌∷◌, map, Option, None, Some, refl, sym, ap, subst, nat_le}
use Rattle.std.proofs.lemmas.Bool.{eqb-true}
use Rattle.z_types.specs.Logins.{same_login}
use Rattle.z_types.specs.declared.address.Address.{Address}
use Rattle.z_types.specs.declared.key.SetKey.{SetKey}
use Rattle.z_types.specs.declared.world.World as world
use Rattle.z_types.specs.equality.Tests.{both_true}
use Rattle.z_types.proofs.LoginLemmas.{login_exact}
use Rattle.route_config.specs.declared.route.Route.{Route}
use Rattle.pool_sets.specs.Doors.{Takes}
use Rattle.pool_sets.specs.Plain.{Pool, idle_again, lost, put, take_of, with_sessions}
use Rattle.pool_sets.specs.Sessions.{Session, is_out}
use Rattle.pool_sets.specs.declared.doors.Seat.{Seat}
use Rattle.pool_sets.specs.declared.doors.Taken.{Taken}
use Rattle.pool_sets.specs.declared.doors.Taken.TheVariants as taken
use Rattle.pool_sets.specs.declared.pooled.Parts.{Parts}
use Rattle.leg.specs.Terms.{members_of}
use Rattle.sharing_rules.specs.Sharers.{Sharers}
use Rattle.sharing_rules.specs.Uses.{Use}
use Rattle.sharing_rules.specs.steps.Shared.{AreKept, AreNumbered, IsKeptClass, IsOutWith, LeavesOthers, TakesSo, pool_of, shared_by, use_now}
use Rattle.sharing_rules.proofs.NumberUses.{numbered_filter, numbered_map, own_number}
use Rattle.sharing_rules.proofs.PutUses.{again_number, again_theirs, at_most_itself, kept_put, put_back, put_elsewhere, IsNumberOf}
use Rattle.sharing_rules.proofs.TakeUses.{is_theirs}
use Rattle.sharing_rules.proofs.TakenUses.{takes_so}
use Rattle.leg_shares.specs.steps.Pools.{IsPoolOf, LeavesRest, MayUse}
use Rattle.leg_shares.specs.steps.Sharing.{AreOthersKept, IsKeptBehind}

-- ---- a take

-- memory was had for it
abbrev pub HadMemory : {S : Type 0} → Taken S → Type 0
HadMemory taken.Memory = ⊥
HadMemory gives = Unit {0}

module _ {W S : Type 0} (w : world.Ghosts W) (route : Route) (who : Sharers) (now : ℕ) (before : List Use) (want : Option SetKey)
    (may : MayUse w route who now before want) (p : Pool S) (of : IsPoolOf route p)
    (kept : IsKeptBehind w route who now before p) (rest : AreOthersKept w route who now before p) where
  abbrev at : List Address
  at = members_of route who.class

  abbrev IsGivenSo : Taken S × Pool S → Type 0
  IsGivenSo r = TakesSo w route who at now before want r.0 r.1.sessions × LeavesOthers route who now p.sessions r.1

  -- what is given, and the pool behind it
  pub record IsGiven (gives : Taken S) (behind : Option (Pool S)) : Type 0 where
    pub pool : Pool S
    pub told : behind ≡ Some pool
    pub so : TakesSo w route who at now before want gives pool.sessions
    pub of_route : IsPoolOf route pool
    pub others : LeavesRest route who now p pool

  -- the class is kept under each login
  each-kept : IsKeptClass w route who.class at now before p.sessions
  each-kept login = (elim (same_login login who.login) as (λ (b : Bool). same_login login who.login ≡ b → AreKept w route (record { class = who.class; login = login }) at now before (shared_by (record { class = who.class; login = login }) p.sessions)) [
    | true ↦ λ e. subst (λ (l : Option (List ℕ)). AreKept w route (record { class = who.class; login = l }) at now before (shared_by (record { class = who.class; login = l }) p.sessions)) (sym (login_exact login who.login e)) kept
    | false ↦ λ e. rest login e
  ]) refl

  given-of : (gives : Taken S) (q : Pool S) → (gives, q) ≡ take_of who.class at who.login want now p → IsGiven gives (Some q)
  given-of gives q e =
      let takes = takes_so w route who at now now before want p.given p.sessions
      (record { falls = may.falls; ttl = may.sound.pool.order; numbered = of.numbered; room = may.own; kept = each-kept }) in
      let so = subst (λ (r : Taken S × Pool S). IsGivenSo r) (sym (e ∙ ap (λ (x : Pool S). take_of who.class at who.login want now x) of.numbers)) takes in
      record {
        pool = q;
        told = refl;
        so = so.0;
        of_route = record { numbers = so.1.numbers; numbered = so.1.numbered };
        others = λ other apart. inr (so.1.others other apart);
      }

  pub given-so : (gives : Taken S) (behind : Option (Pool S)) → HadMemory gives → Takes (Some p) behind who.class at who.login want now gives
      → IsGiven gives behind
  given-so gives None had k = absurd k
  given-so taken.Memory (Some q) had k = absurd had
  given-so (taken.Reuse seat parts slot hits) (Some q) had k = given-of (taken.Reuse seat parts slot hits) q k
  given-so (taken.Fresh seat parts) (Some q) had k = given-of (taken.Fresh seat parts) q k
  given-so (taken.Dial seat member) (Some q) had k = given-of (taken.Dial seat member) q k
  given-so (taken.Full open_) (Some q) had k = given-of (taken.Full open_) q k

-- ---- a put

module _ {S : Type 0} (route : Route) (now : ℕ) (seat : Seat) (parts : Parts S) where
  -- the pool is the route's still
  put-numbered : (given : ℕ) (os : List (Session S)) → AreNumbered given os → IsPoolOf route (put seat parts now (pool_of route given os))
  put-numbered given os numbered =
      (elim (nat_le parts.table.most route.pool.sets_max) as (λ (b : Bool). IsPoolOf route (cond b (with_sessions (map (idle_again seat parts now) os) (pool_of route given os)) (lost seat (pool_of route given os)))) [
        | true ↦ record {
          numbers = refl;
          numbered = numbered_map given (idle_again seat parts now) os (again_number seat parts now) (again_theirs seat parts now) numbered;
        }
        | false ↦ record { numbers = refl; numbered = numbered_filter given _ os numbered }
      ])

  pub put-of : (p : Pool S) → IsPoolOf route p → IsPoolOf route (put seat parts now p)
  put-of p of = subst (λ (x : Pool S). IsPoolOf route (put seat parts now x)) (sym of.numbers) (put-numbered p.given p.sessions of.numbered)

  module _ {W : Type 0} (w : world.Ghosts W) (who : Sharers) (before : List Use) (want : Option SetKey) (p : Pool S) (of : IsPoolOf route p)
      (out : IsOutWith w route who (members_of route who.class) now (use_now who now want ∷ before) seat parts p.sessions) where
    few : parts.table.most ≤ route.pool.sets_max
    few = at_most_itself parts.table.most route.pool.sets_max out.holds.most

    -- the class is kept with the use
    pub put-kept : IsKeptBehind w route who now (use_now who now want ∷ before) (put seat parts now p)
    put-kept =
        subst (λ (x : Pool S). IsKeptBehind w route who now (use_now who now want ∷ before) (put seat parts now x)) (sym of.numbers)
        (subst (λ (os : List (Session S)). AreKept w route who (members_of route who.class) now (use_now who now want ∷ before) os)
        (sym (put_back who seat parts now route p.given p.sessions out.out.0 out.out.1 out.out.2 few))
        (kept_put w route who now (members_of route who.class) before want out.out.0 parts out.among out.inside_ out.holds))

    -- the number of the seat is that of the session
    seat-number : out.out.0.number ≡ seat.number
    seat-number =
        let o = out.out.0 in
        let both = both_true ((o.number == seat.number) && (o.class == seat.class)) (is_out o.stand) out.out.2 in
        eqb-true o.number seat.number (both_true (o.number == seat.number) (o.class == seat.class) both.0).0

    -- and the sessions of others are left
    pub put-leaves : LeavesRest route who now p (put seat parts now p)
    put-leaves other apart =
        let own = own_number p.given who p.sessions out.out.0 out.out.1 (is_theirs who p.sessions out.out.0 [] out.out.1) of.numbered in
        let its = subst (λ (n : ℕ). IsNumberOf n who p.sessions) seat-number own in
        inl (subst (λ (x : Pool S). shared_by other (put seat parts now x).sessions ≡ shared_by other p.sessions) (sym of.numbers)
        (put_elsewhere other who seat parts now route p.given p.sessions apart its few))
