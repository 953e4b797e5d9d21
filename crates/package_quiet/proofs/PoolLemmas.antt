-- What the plain pool does leaves each session that is idle as it was, and each that it gives was so
use Rattle.std.proofs.Common.{◌==◌, ℕ, ◌+◌, Bool, true, false, cond, List, [], ◌∷◌, ◌++◌, map, filter, Option, None, Some, option_map, nat_le, nat_lt}
use Rattle.std.specs.Prelude.{IfSome}
use Rattle.std.specs.List.{AllByRecursion}
use Rattle.std.specs.Option.{option_or}
use Rattle.z_types.specs.Logins.{inner}
use Rattle.z_types.specs.declared.address.Address.{Address}
use Rattle.z_types.specs.declared.key.SetKey.{SetKey}
use Rattle.pool_sets.specs.declared.pooled.Parts.{Parts}
use Rattle.pool_sets.specs.declared.sessions.Stand.{Stand}
use Rattle.pool_sets.specs.declared.sessions.Stand.TheVariants.{Idle, Out}
use Rattle.pool_sets.specs.declared.doors.Seat.{Seat}
use Rattle.pool_sets.specs.declared.doors.Taken.{Taken}
use Rattle.pool_sets.specs.declared.doors.Taken.TheVariants.{Reuse, Fresh, Memory}
use Rattle.pool_sets.specs.Table.{Entry, set_of}
use Rattle.pool_sets.specs.Sessions.{Session, Idler, first_some, idle_for, idle_in, idle_with, idler, in_class, is_for, member_for, open_of, with_set, with_stand}
use Rattle.pool_sets.specs.Plain.{Pool, any_idle, choice, dial_for, dial_in, expire, has_number, idle_again, is_seat, lost, made_room, one_idle, out_for, put, redial, redial_at_seat, redial_member, stays_open, take_any, take_of, with_fresh_sets, without_idle, without_old_sets}
use Rattle.package_quiet.specs.steps.Whole.{AreIdle, IsIdleSession, IsIdleStand}

module _ {S : Type 0} (IsSo : S → Type 0) where
  abbrev Are : List (Session S) → Type 0
  Are os = AllByRecursion (IsIdleSession IsSo) os

  abbrev Rests : Parts S → Type 0
  Rests parts = IsSo parts.session

  abbrev pub Whole : Pool S → Type 0
  Whole p = AreIdle IsSo (Some p)

  -- ---- lists of sessions

  map-whole : (f : Session S → Session S) → ((o : Session S) → IsIdleSession IsSo o → IsIdleSession IsSo (f o)) → (os : List (Session S))
      → Are os → Are (map f os)
  map-whole f h [] k = tt
  map-whole f h (o ∷ os) k = (h o k.0, map-whole f h os k.1)

  filter-whole : (stays_ : Session S → Bool) (os : List (Session S)) → Are os → Are (filter stays_ os)
  filter-whole stays_ [] k = tt
  filter-whole stays_ (o ∷ os) k = (elim (stays_ o) as (λ (b : Bool). Are (cond b (o ∷ filter stays_ os) (filter stays_ os))) [
    | true ↦ (k.0, filter-whole stays_ os k.1)
    | false ↦ filter-whole stays_ os k.1
  ])

  push-whole : (os : List (Session S)) (o : Session S) → Are os → IsIdleSession IsSo o → Are (os ++ o ∷ [])
  push-whole [] o k h = (h, tt)
  push-whole (first ∷ os) o k h = (k.0, push-whole os o k.1 h)

  -- one that stands elsewhere, where that is so
  stand-whole : (b : Bool) (stand : Stand (Parts S) Address) (o : Session S) → IsIdleStand IsSo stand → IsIdleSession IsSo o
      → IsIdleSession IsSo (cond b (with_stand stand o) o)
  stand-whole true stand o h k = h
  stand-whole false stand o h k = k

  -- ---- time passes, sessions are put back and lost

  fresh-whole : (now ttl : ℕ) (stand : Stand (Parts S) Address) → IsIdleStand IsSo stand → IsIdleStand IsSo (without_old_sets now ttl stand)
  fresh-whole now ttl (Idle parts since) h = h
  fresh-whole now ttl (Out address) h = tt

  pub expire-whole : (now : ℕ) (p : Pool S) → Whole p → Whole (expire now p)
  expire-whole now p h =
      map-whole (with_fresh_sets now p.set_ttl) (λ o k. fresh-whole now p.set_ttl o.stand k) (filter (stays_open now p.session_ttl) p.sessions)
      (filter-whole (stays_open now p.session_ttl) p.sessions h)

  pub lose-whole : (seat : Seat) (p : Pool S) → Whole p → Whole (lost seat p)
  lose-whole seat p h = filter-whole _ p.sessions h

  pub put-whole : (seat : Seat) (parts : Parts S) (now : ℕ) (p : Pool S) → Rests parts → Whole p → Whole (put seat parts now p)
  put-whole seat parts now p rests h = (elim (nat_le parts.table.most p.sets_max) as (λ (b : Bool). Whole (cond b (record p { sessions = map (idle_again seat parts now) p.sessions }) (lost seat p))) [
    | true ↦ map-whole (idle_again seat parts now) (λ o k. stand-whole (is_seat seat o) (Idle parts now) o rests k) p.sessions h
    | false ↦ lose-whole seat p h
  ])

  again-whole : (b : Bool) (at : List Address) (m : ℕ) (o : Session S) → IsIdleSession IsSo o
      → IsIdleSession IsSo (cond b (out_for o.number o.class at o.login m) o)
  again-whole true at m o k = tt
  again-whole false at m o k = k

  pub redial-whole : (seat : Seat) (at : List Address) (p : Pool S) → Whole p → Whole (redial seat at p)
  redial-whole seat at p h =
      map-whole (redial_at_seat seat at (redial_member seat at p)) (λ o k. again-whole (is_seat seat o) at (redial_member seat at p) o k) p.sessions h

  -- ---- a session is taken

  -- one that is given is so
  abbrev pub IsGivenWhole : Taken S → Type 0
  IsGivenWhole (Reuse seat parts slot hits) = Rests parts
  IsGivenWhole (Fresh seat parts) = Rests parts
  IsGivenWhole answer = Unit {0}

  abbrev pub GivesWhole : Taken S × Pool S → Type 0
  GivesWhole given = IsGivenWhole given.0 × Whole given.1

  lend-whole : (number : ℕ) (address : Address) (p : Pool S) → Whole p
      → Are (map (λ (o : Session S). cond (o.number == number) (with_stand (Out address) o) o) p.sessions)
  lend-whole number address p h = map-whole _ (λ o k. stand-whole (o.number == number) (Out address) o tt k) p.sessions h

  idle-whole : (within_ : Bool) (number : ℕ) (stand : Stand (Parts S) Address) → IsIdleStand IsSo stand
      → IfSome (cond within_ (idler number stand) None) (λ (i : Idler S). Rests i.parts)
  idle-whole false number stand h = tt
  idle-whole true number (Idle parts since) h = h
  idle-whole true number (Out address) h = tt

  set-whole : (key : SetKey) (i : Option (Idler S)) → IfSome i (λ (x : Idler S). Rests x.parts)
      → IfSome (with_set key i) (λ (h : Idler S × Entry). Rests h.0.parts)
  set-whole key None h = tt
  set-whole key (Some i) h = held (set_of key i.parts.table)
    where
      held : (set : Option Entry) → IfSome (option_map (λ (e : Entry). (i, e)) set) (λ (x : Idler S × Entry). Rests x.0.parts)
      held None = tt
      held (Some e) = h

  module _ {Y : Type 0} (give : Session S → Option Y) (P : Y → Type 0) (one : (o : Session S) → IsIdleSession IsSo o → IfSome (give o) P) where
    first-whole : (os : List (Session S)) → Are os → IfSome (first_some give os) P
    first-whole [] k = tt
    first-whole (o ∷ os) k = (elim (give o) as (λ (c : Option Y). IfSome c P → IfSome (option_or c (first_some give os)) P) [
      | None ↦ λ h. first-whole os k.1
      | Some y ↦ λ h. h
    ]) (one o k.0)

  for-whole : (for_it : Bool) (i : Option (Idler S)) → IfSome i (λ (x : Idler S). Rests x.parts)
      → IfSome (cond for_it i None) (λ (x : Idler S). Rests x.parts)
  for-whole true i h = h
  for-whole false i h = tt

  module _ (class : ℕ) (at : List Address) (login : Option (List ℕ)) (p : Pool S) (h : Whole p) where
    room-by : (i : Option (Idler S)) → IfSome (option_map (without_idle p) i) Whole
    room-by None = tt
    room-by (Some i) = filter-whole _ p.sessions h

    room-whole : IfSome (made_room class at p) Whole
    room-whole = (elim (nat_lt (open_of class at p.sessions) p.max_sessions) as (λ (b : Bool). IfSome (cond b (Some p) (option_map (without_idle p) (first_some (idle_in class at) p.sessions))) Whole) [
      | true ↦ h
      | false ↦ room-by (first_some (idle_in class at) p.sessions)
    ])

    dial-whole : (q : Option (Pool S)) → IfSome q Whole → GivesWhole (dial_in class at login p q)
    dial-whole None k = (tt, h)
    dial-whole (Some q) k = (elim (has_number q) as (λ (b : Bool). GivesWhole (cond b (dial_for class at login (member_for class at q.sessions) q) (Memory, p))) [
      | true ↦ (tt, push-whole q.sessions (out_for (q.given + 1) class at login (member_for class at q.sessions)) k tt)
      | false ↦ (tt, h)
    ])

    any-whole : (i : Option (Idler S)) → IfSome i (λ (x : Idler S). Rests x.parts) → GivesWhole (any_idle class at login p i)
    any-whole None k = dial-whole (made_room class at p) room-whole
    any-whole (Some i) k = (k, lend-whole i.number (inner i.parts.address) p h)

    own-whole : (o : Session S) → IsIdleSession IsSo o → IfSome (idle_for class at login o) (λ (x : Idler S). Rests x.parts)
    own-whole o k = for-whole (is_for login o) (idle_in class at o) (idle-whole (in_class class at o) o.number o.stand k)

    any-given : GivesWhole (take_any class at login p)
    any-given =
        any-whole (first_some (idle_for class at login) p.sessions)
        (first-whole (idle_for class at login) (λ (x : Idler S). Rests x.parts) own-whole p.sessions h)

    one-whole : (key : SetKey) (now : ℕ) (i : Option (Idler S × Entry)) → IfSome i (λ (x : Idler S × Entry). Rests x.0.parts)
        → GivesWhole (one_idle class at login key now p i)
    one-whole key now None k = any-given
    one-whole key now (Some i) k = (k, lend-whole i.0.number (inner i.0.parts.address) p h)

    choice-whole : (want : Option SetKey) (now : ℕ) → GivesWhole (choice class at login want now p)
    choice-whole None now = any-given
    choice-whole (Some key) now =
        one-whole key now (first_some (idle_with class at login key) p.sessions)
        (first-whole (idle_with class at login key) (λ (x : Idler S × Entry). Rests x.0.parts)
        (λ o k. set-whole key (idle_for class at login o) (own-whole o k)) p.sessions h)

  pub take-whole : (class : ℕ) (at : List Address) (login : Option (List ℕ)) (want : Option SetKey) (now : ℕ) (p : Pool S) → Whole p
      → GivesWhole (take_of class at login want now p)
  take-whole class at login want now p h = choice-whole class at login (expire now p) (expire-whole now p h) want now
