-- What a take gives of a pool whose class is kept, with what is out behind it
use Rattle.std.proofs.Common.{◌≡◌, ◌==◌, ◌∙◌, ◌-◌, ◌≤◌, ◌+◌, ℕ, Bool, true, false, not, cond, List, [], ◌∷◌, ◌++◌, is_some, Option, None, Some, refl, sym, ap, subst, nat_lt, arith}
use Rattle.std.specs.Cmp.{nat_eq_equiv}
use Rattle.std.proofs.Math.Bool.{or-true}
use Rattle.z_types.specs.Logins.{inner, login_of, same_login}
use Rattle.z_types.specs.declared.address.Address.{Address}
use Rattle.z_types.specs.declared.key.SetKey.{SetKey}
use Rattle.z_types.specs.declared.world.World as world
use Rattle.z_types.specs.equality.Tests.{both_true}
use Rattle.route_config.specs.declared.route.Route.{Route}
use Rattle.pool_sets.specs.declared.pooled.Parts.{Parts}
use Rattle.pool_sets.specs.declared.sessions.Stand.{Stand}
use Rattle.pool_sets.specs.declared.sessions.Stand.TheVariants.{Idle, Out}
use Rattle.pool_sets.specs.declared.doors.Taken.{Taken}
use Rattle.pool_sets.specs.declared.doors.Taken.TheVariants.{Memory}
use Rattle.pool_sets.specs.Table.{Entry, Table, set_of, after_find, after_expire}
use Rattle.pool_sets.specs.Sessions.{Session, with_table, with_stand, is_among, member_for, stands_at}
use Rattle.pool_sets.specs.Plain.{Pool, take_of, choice, dial_for, has_number, lend_of, out_for, seat_of, with_fresh_sets}
use Rattle.sharing_rules.specs.Sharers.{Sharers, same_sharers}
use Rattle.sharing_rules.specs.Uses.{Use}
use Rattle.sharing_rules.specs.Needed.{is_refused}
use Rattle.sharing_rules.specs.steps.Shared.{AreInOrder, AreNumbered, FindsRoom, HoldsUsed, IsKeptClass, IsKeptIn, AreKept, IsLent, IsOutWith, LeavesOthers, TakesSo, dial_due, pool_of, search_due, shared_by}
use Rattle.sharing_rules.proofs.TableUses.{class_late, dialled, expired, searched_if_not_held, used_again, used_now}
use Rattle.sharing_rules.proofs.TakeUses.{too_late, not_late, is_theirs, any_lends, take_dials, choice_is, given_by, one_of}
use Rattle.sharing_rules.proofs.PoolUses.{afresh, kept_expired, theirs_expire}
use Rattle.sharing_rules.proofs.PutUses.{lent, lent_elsewhere, dialled_in, dialled_elsewhere}
use Rattle.sharing_rules.proofs.LoginRoom.{room_for_one}
use Rattle.sharing_rules.proofs.SharerFacts.{sharers_equiv}
use Rattle.sharing_rules.proofs.NumberUses.{numbered_afresh, numbered_dialled, numbered_moved, own_number}

module _ {W S : Type 0} (w : world.Ghosts W) (route : Route) (who : Sharers) (at : List Address) (now moment : ℕ) (before : List Use)
    (want : Option SetKey) (given : ℕ) (os : List (Session S)) where
  -- what is asked of a pool and of the uses before
  pub record MayTake : Type 0 where
    pub falls : AreInOrder moment before
    pub room : FindsRoom route who now before
    pub kept : IsKeptClass w route who.class at now before os
    pub ttl : route.pool.set_ttl ≤ route.pool.session_ttl
    pub numbered : AreNumbered given os

  still_numbered : MayTake → AreNumbered given (afresh now route.pool.session_ttl route.pool.set_ttl os)
  still_numbered m = numbered_afresh given now route.pool.session_ttl route.pool.set_ttl os m.numbered

  abbrev left : List (Session S)
  left = afresh now route.pool.session_ttl route.pool.set_ttl os

  abbrev GivenSo : Taken S × Pool S → Type 0
  GivenSo r = TakesSo w route who at now before want r.0 r.1.sessions × LeavesOthers route who now os r.1

  -- a pool whose sessions of others are those that are left
  leaves : (next : ℕ) (ps : List (Session S)) → AreNumbered next ps → ((other : Sharers) → same_sharers other who ≡ false → shared_by other ps ≡ shared_by other left)
      → LeavesOthers route who now os (pool_of route next ps)
  leaves next ps a same = record {
    numbers = refl;
    numbered = a;
    others = λ other n. same other n ∙ theirs_expire other now route.pool.session_ttl route.pool.set_ttl os;
  }

  -- where the class is late, so is each of its keys
  late_needs : (m : MayTake) → dial_due route who now before ≡ true → (k : Option SetKey) → want ≡ k
      → search_due w route who now before k ≡ is_some k
  late_needs m late None e = refl
  late_needs m late (Some key) e =
      rw (class_late route.pool.set_ttl route.pool.session_ttl now moment who key before m.ttl m.falls late) (or-true (is_refused w route who key))

  by_number : (b : Bool) (m : MayTake) → shared_by who left ≡ [] → dial_due route who now before ≡ true
      → GivenSo (cond b (dial_for who.class at who.login (member_for who.class at left) (pool_of route given left)) (Memory, pool_of route given left))
  by_number false m e late = (tt, leaves given left (still_numbered m) (λ other n. refl))
  by_number true m e late =
      let o = out_for (given + 1) who.class at who.login (member_for who.class at left) in (
        (
          refl,
          (o, dialled_in who left o refl e, rw (nat_eq_equiv.refl (given + 1), nat_eq_equiv.refl who.class) refl),
          dialled w route who now moment before m.ttl m.falls late,
          late_needs m late want refl,
          late,
        ),
        leaves (given + 1) (left ++ o ∷ []) (numbered_dialled given who at (member_for who.class at left) left (still_numbered m))
            (λ other n. dialled_elsewhere other left o (sharers_equiv.symm who other ∙ n)),
      )

  -- each login of the class is kept so still
  left_kept : MayTake → IsKeptClass w route who.class at now before left
  left_kept m login =
      let theirs : Sharers = record { class = who.class; login = login } in
      subst (λ ps. AreKept w route theirs at now before ps) (sym (theirs_expire theirs now route.pool.session_ttl route.pool.set_ttl os))
      (kept_expired w route theirs at now now before (shared_by theirs os) (m.kept login) (omega arith))

  if_none : MayTake → shared_by who left ≡ [] → dial_due route who now before ≡ true
      → GivenSo (take_of who.class at who.login want now (pool_of route given os))
  if_none m e late =
      rw (take_dials who at now (pool_of route given left) want e (room_for_one w route who at now before left (left_kept m) e m.room))
      (by_number (has_number (pool_of route given left)) m e late)

  -- the one session is lent
  module _ (m : MayTake) (o : Session S) (parts : Parts S) (since : ℕ) (e : shared_by who left ≡ o ∷ []) (s : o.stand ≡ Idle parts since) (a : is_among at (inner parts.address) ≡ true)
      (i : same_login who.login (login_of parts.address) ≡ true) (h : HoldsUsed w route who now before parts.table) (fresh : dial_due route who now before ≡ false) where
    is_lent : IsLent who (seat_of who.class (one_of who at now (pool_of route given left) o parts)) (stands_at o.number (Out (inner parts.address)) left)
    is_lent = (
      with_stand (Out (inner parts.address)) o,
      lent who (Out (inner parts.address)) left o e,
      rw (nat_eq_equiv.refl o.number, (both_true (o.class == who.class) (same_login o.login who.login) (is_theirs who left o [] e)).0) refl,
    )

    lent_with : (t : Table) (uses : List Use) → HoldsUsed w route who now uses t
        → IsOutWith w route who at now uses (seat_of who.class (one_of who at now (pool_of route given left) o parts)) (with_table t parts) (stands_at o.number (Out (inner parts.address)) left)
    lent_with t uses k = record { own = refl; out = is_lent; among = a; inside_ = i; holds = k }

    lent_leaves : LeavesOthers route who now os (lend_of (one_of who at now (pool_of route given left) o parts) (pool_of route given left))
    lent_leaves =
        leaves given (stands_at o.number (Out (inner parts.address)) left) (numbered_moved given o.number (Out (inner parts.address)) left (still_numbered m))
        (λ other n. lent_elsewhere o.number who other (Out (inner parts.address)) left n (own_number given who left o e (is_theirs who left o [] e) (still_numbered m)))

    by_set : (key : SetKey) (r : Option Entry) → want ≡ Some key → set_of key parts.table ≡ r
        → search_due w route who now before (Some key) ≡ not (is_some r)
        → TakesSo w route who at now before (Some key) (given_by who at now (pool_of route given left) key o parts r).0
        (given_by who at now (pool_of route given left) key o parts r).1.sessions
        × LeavesOthers route who now os (given_by who at now (pool_of route given left) key o parts r).1
    by_set key None w' f n = rw (any_lends who at now (pool_of route given left) o parts since e s a i) ((lent_with parts.table before h, n, fresh), lent_leaves)
    by_set key (Some entry) w' f n = (
      (lent_with (after_find key now parts.table) (used_now who (Some key) now ∷ before) (used_again w route who now before parts.table key entry h f), n, fresh),
      lent_leaves,
    )

  lent_so : MayTake → (k : Option SetKey) → want ≡ k → (o : Session S) (parts : Parts S) (since : ℕ) → shared_by who left ≡ o ∷ [] → o.stand ≡ Idle parts since → is_among at (inner parts.address) ≡ true
      → same_login who.login (login_of parts.address) ≡ true → HoldsUsed w route who now before parts.table → dial_due route who now before ≡ false
      → ((key : SetKey) → search_due w route who now before (Some key) ≡ not (is_some (set_of key parts.table)))
      → TakesSo w route who at now before k (choice who.class at who.login k now (pool_of route given left)).0 (choice who.class at who.login k now (pool_of route given left)).1.sessions
      × LeavesOthers route who now os (choice who.class at who.login k now (pool_of route given left)).1
  lent_so m None w' o parts since e s a i h fresh n =
      rw (any_lends who at now (pool_of route given left) o parts since e s a i)
      ((lent_with m o parts since e s a i h fresh parts.table before h, refl, fresh), lent_leaves m o parts since e s a i h fresh)
  lent_so m (Some key) w' o parts since e s a i h fresh n =
      rw (choice_is who at now (pool_of route given left) key o parts since e s a i)
      (by_set m o parts since e s a i h fresh key (set_of key parts.table) w' refl (n key))

  expires : shared_by who left ≡ afresh now route.pool.session_ttl route.pool.set_ttl (shared_by who os)
  expires = theirs_expire who now route.pool.session_ttl route.pool.set_ttl os

  by_stand : MayTake → (o : Session S) (stand : Stand (Parts S) Address) → shared_by who os ≡ o ∷ [] → o.stand ≡ stand → IsKeptIn w route who at now before stand
      → GivenSo (take_of who.class at who.login want now (pool_of route given os))
  by_stand m o (Out address) e s h = absurd h
  by_stand m o (Idle parts since) e s h =
      (elim (nat_lt (now - since) route.pool.session_ttl) as (λ b. nat_lt (now - since) route.pool.session_ttl ≡ b → GivenSo (take_of who.class at who.login want now (pool_of route given os))) [
        | true ↦ λ k.
            lent_so m want refl (with_fresh_sets now route.pool.set_ttl o) (with_table (after_expire now route.pool.set_ttl parts.table) parts) since
            (expires ∙ ap (λ r. afresh now route.pool.session_ttl route.pool.set_ttl r) e ∙ (rw (s, k) refl)) (rw s refl) h.among h.inside_
            (expired w route who now now before parts.table h.holds (omega arith))
            (rw h.since_last (not_late route.pool.session_ttl now since k))
            (λ key. sym (searched_if_not_held w route who now before parts.table key h.holds))
        | false ↦ λ k.
            if_none m (expires ∙ ap (λ r. afresh now route.pool.session_ttl route.pool.set_ttl r) e ∙ (rw (s, k) refl)) (rw h.since_last (too_late route.pool.session_ttl now since k))
      ]) refl

  by_sessions : MayTake → (ps : List (Session S)) → shared_by who os ≡ ps → AreKept w route who at now before ps
      → GivenSo (take_of who.class at who.login want now (pool_of route given os))
  by_sessions m [] e h = if_none m (expires ∙ ap (λ r. afresh now route.pool.session_ttl route.pool.set_ttl r) e) h
  by_sessions m (o ∷ []) e h = by_stand m o o.stand e refl h
  by_sessions m (o ∷ (p ∷ ps)) e h = absurd h

  -- A take from a class that is kept gives what it needs, and leaves all others.
  pub takes_so : MayTake
      → TakesSo w route who at now before want (take_of who.class at who.login want now (pool_of route given os)).0 (take_of who.class at who.login want now (pool_of route given os)).1.sessions
      × LeavesOthers route who now os (take_of who.class at who.login want now (pool_of route given os)).1
  takes_so m = by_sessions m (shared_by who os) refl (m.kept who.login)
