-- What each function of the plain pool leaves out of it
use Rattle.std.proofs.Common.{◌≡◌, ◌==◌, ◌&&◌, ◌∙◌, ℕ, ◌+◌, ◌≤◌, Bool, true, false, not, cond, List, [], ◌∷◌, map, Option, None, Some, option_map, refl, ap, arith, nat_lt, nat_le}
use Rattle.std.specs.Prelude.{IfSome}
use Rattle.std.proofs.lemmas.Bool.{eqb-true}
use Rattle.std.proofs.Math.Bool.{and-true}
use Rattle.z_types.specs.Logins.{inner}
use Rattle.z_types.specs.declared.address.Address.{Address}
use Rattle.z_types.specs.declared.key.SetKey.{SetKey}
use Rattle.z_types.specs.equality.Tests.{both_true}
use Rattle.pool_sets.specs.declared.pooled.Parts.{Parts}
use Rattle.pool_sets.specs.declared.sessions.Stand.{Stand}
use Rattle.pool_sets.specs.declared.sessions.Stand.TheVariants.{Idle, Out}
use Rattle.pool_sets.specs.declared.doors.Seat.{Seat}
use Rattle.pool_sets.specs.declared.doors.Taken.{Taken}
use Rattle.pool_sets.specs.declared.doors.Taken.TheVariants.{Reuse, Fresh, Dial, Full, Memory}
use Rattle.pool_sets.specs.Table.{Entry, set_of}
use Rattle.pool_sets.specs.Sessions.{Session, Idler, first_some, idle_for, idle_in, idle_with, idler, in_class, is_among, is_for, is_out, member_for, open_of, stand_target, with_set, with_stand}
use Rattle.pool_sets.specs.Plain.{Ascends, Pool, any_idle, choice, dial_for, dial_in, expire, has_number, idle_again, is_seat, lost, made_room, one_idle, out_for, out_of, put, redial, redial_at_seat, redial_member, stays_open, take_of, with_fresh_sets, without_idle}
use Rattle.pool_sets.proofs.SeatLemmas.{count-append, count-cons, once}
use Rattle.pool_core.proofs.Ascending.{ascends_filter, ascends_map, ascends_push}
use Rattle.front_conn.specs.leg.Turns.{lost_seat}
use Rattle.front_conn_seats.specs.steps.Seats.{AreOut, held_at, is_same, no_seat}
use Rattle.front_conn_seats.proofs.CountLemmas.{dropped-out, expired-out, lent-out, lost-out, put-out, redialled-out, without}

-- ---- who holds it

module _ {S : Type 0} where
  -- what is held here and there, held otherwise
  pub out-as : (held others held' others' : Seat → ℕ) (pool : Pool S) → ((seat : Seat) → held seat + others seat ≡ held' seat + others' seat)
      → AreOut held others pool → AreOut held' others' pool
  out-as held others held' others' pool same h = record { ascend = h.ascend; each = λ seat. h.each seat ∙ same seat }

  -- a pool in which each is out as it was
  pub out-still : (held others : Seat → ℕ) (p q : Pool S) → Ascends 0 q.given q.sessions → ((seat : Seat) → out_of q seat ≡ out_of p seat)
      → AreOut held others p → AreOut held others q
  out-still held others p q ascend same h = record { ascend = ascend; each = λ seat. same seat ∙ h.each seat }

  -- ---- time passes

  pub expire-out : (now : ℕ) (held others : Seat → ℕ) (p : Pool S) → AreOut held others p → AreOut held others (expire now p)
  expire-out now held others p h =
      out-still held others p (expire now p)
      (ascends_map 0 p.given (with_fresh_sets now p.set_ttl) _ (λ o. refl) (ascends_filter 0 p.given (stays_open now p.session_ttl) p.sessions h.ascend))
      (λ seat. expired-out now p.session_ttl p.set_ttl seat p.sessions) h

  -- ---- a seat is put back or lost

  -- one that is held is out, and for no other
  own-count : (own : Seat) (others : Seat → ℕ) (p : Pool S) (q : Pool S) (seat : Seat) (b : Bool) → is_same own seat ≡ b
      → out_of q seat ≡ cond b 0 (out_of p seat) → out_of p seat ≡ cond b 1 0 + others seat → out_of p seat ≤ 1 → out_of q seat ≡ 0 + others seat
  own-count own others p q seat true e behind before most = omega arith
  own-count own others p q seat false e behind before most = omega arith

  given-out : (own : Seat) (others : Seat → ℕ) (p q : Pool S) → Ascends 0 q.given q.sessions
      → ((seat : Seat) → out_of q seat ≡ without own seat (out_of p seat)) → AreOut (held_at (Some own)) others p → AreOut no_seat others q
  given-out own others p q ascend without_ h = record {
    ascend = ascend;
    each = λ seat. own-count own others p q seat (is_same own seat) refl (without_ seat) (h.each seat) (once seat 0 p.given p.sessions h.ascend);
  }

  pub lose-out : (own : Seat) (others : Seat → ℕ) (p : Pool S) → AreOut (held_at (Some own)) others p → AreOut no_seat others (lost own p)
  lose-out own others p h =
      given-out own others p (lost own p) (ascends_filter 0 p.given _ p.sessions h.ascend) (λ seat. lost-out own p.sessions seat) h

  idle-number : (own : Seat) (parts : Parts S) (now : ℕ) (o : Session S) → (idle_again own parts now o).number ≡ o.number
  idle-number own parts now o = (elim (is_seat own o) as (λ (b : Bool). (cond b (with_stand (Idle parts now) o) o).number ≡ o.number) [
    | true ↦ refl
    | false ↦ refl
  ])

  pub put-back-out : (own : Seat) (parts : Parts S) (now : ℕ) (others : Seat → ℕ) (p : Pool S)
      → AreOut (held_at (Some own)) others p → AreOut no_seat others (put own parts now p)
  put-back-out own parts now others p h = (elim (nat_le parts.table.most p.sets_max) as (λ (b : Bool). AreOut no_seat others (cond b (record p { sessions = map (idle_again own parts now) p.sessions }) (lost own p))) [
    | true ↦
        given-out own others p (record p { sessions = map (idle_again own parts now) p.sessions })
        (ascends_map 0 p.given (idle_again own parts now) p.sessions (idle-number own parts now) h.ascend)
        (λ seat. put-out own parts now p.sessions seat) h
    | false ↦ lose-out own others p h
  ])

  pub lost-seat-out : (own : Option Seat) (others : Seat → ℕ) (p : Pool S) → AreOut (held_at own) others p → AreOut no_seat others (lost_seat own p)
  lost-seat-out None others p h = out-as (held_at None) others no_seat others p (λ seat. refl) h
  lost-seat-out (Some own) others p h = lose-out own others p h

  -- ---- one is dialled again

  again-number : (own : Seat) (at : List Address) (m : ℕ) (o : Session S) → (redial_at_seat own at m o).number ≡ o.number
  again-number own at m o = (elim (is_seat own o) as (λ (b : Bool). (cond b (out_for o.number o.class at o.login m) o).number ≡ o.number) [
    | true ↦ refl
    | false ↦ refl
  ])

  pub redial-out : (own : Seat) (at : List Address) (held others : Seat → ℕ) (p : Pool S) → AreOut held others p → AreOut held others (redial own at p)
  redial-out own at held others p h =
      out-still held others p (redial own at p)
      (ascends_map 0 p.given (redial_at_seat own at (redial_member own at p)) p.sessions (again-number own at (redial_member own at p)) h.ascend)
      (λ seat. redialled-out own seat at (redial_member own at p) p.sessions) h

  -- ---- a session is taken

  -- the seat that is given
  abbrev pub seat_in : Taken S → Option Seat
  seat_in (Reuse seat parts slot hits) = Some seat
  seat_in (Fresh seat parts) = Some seat
  seat_in (Dial seat member) = Some seat
  seat_in (Full open_) = None
  seat_in Memory = None

  -- it is out for who took it, and no other is that was not
  abbrev pub IsGiven : (others : Seat → ℕ) → Taken S × Pool S → Type 0
  IsGiven others given = AreOut (held_at (seat_in given.0)) others given.1

  idle-fits : (class : ℕ) (at : List Address) (o : Session S) (i : Idler S) (within_ : Bool) (stand : Stand (Parts S) Address) → in_class class at o ≡ within_ → o.stand ≡ stand
      → cond within_ (idler o.number stand) None ≡ Some i
      → (o.number ≡ i.number) × (o.class ≡ class) × (is_out o.stand ≡ false)
  idle-fits class at o i false stand is e k = absurd cc
  idle-fits class at o i true (Out address) is e k = absurd cc
  idle-fits class at o i true (Idle parts since) is e k =
      let own : record { number = o.number; parts = parts } ≡ i = cc in
      let number : o.number ≡ i.number = ap (λ (x : Idler S). x.number) own in
      (number, eqb-true o.class class (both_true (o.class == class) (is_among at (stand_target o.stand)) is).0, ap (λ (s : Stand (Parts S) Address). is_out s) e)

  any-fits : (class : ℕ) (at : List Address) (o : Session S) (i : Idler S) → idle_in class at o ≡ Some i
      → (o.number ≡ i.number) × (o.class ≡ class) × (is_out o.stand ≡ false)
  any-fits class at o i e = idle-fits class at o i (in_class class at o) o.stand refl refl e

  set-fits : (key : SetKey) (i : Option (Idler S)) (h : Idler S × Entry) → with_set key i ≡ Some h → i ≡ Some h.0
  set-fits key None h e = absurd cc
  set-fits key (Some i) h e = held (set_of key i.parts.table) e
    where
      held : (set : Option Entry) → (elim set as (λ _. Option (Idler S × Entry)) [ None ↦ None | Some x ↦ Some (i, x) ]) ≡ Some h → Some i ≡ Some h.0
      held None k = absurd cc
      held (Some x) k = let same : (i, x) ≡ h = cc in ap (λ (y : Idler S × Entry). Some y.0) same

  given-in : (for_it : Bool) (found : Option (Idler S)) (i : Idler S) → cond for_it found None ≡ Some i → found ≡ Some i
  given-in true found i e = e
  given-in false found i e = absurd cc

  for-fits : (class : ℕ) (at : List Address) (login : Option (List ℕ)) (o : Session S) (i : Idler S) → idle_for class at login o ≡ Some i
      → (o.number ≡ i.number) × (o.class ≡ class) × (is_out o.stand ≡ false)
  for-fits class at login o i e = any-fits class at o i (given-in (is_for login o) (idle_in class at o) i e)

  with-fits : (class : ℕ) (at : List Address) (login : Option (List ℕ)) (key : SetKey) (o : Session S) (h : Idler S × Entry)
      → idle_with class at login key o ≡ Some h → (o.number ≡ h.0.number) × (o.class ≡ class) × (is_out o.stand ≡ false)
  with-fits class at login key o h e = for-fits class at login o h.0 (set-fits key (idle_for class at login o) h e)

  lent-number : (number : ℕ) (stand : Stand (Parts S) Address) (o : Session S) → (cond (o.number == number) (with_stand stand o) o).number ≡ o.number
  lent-number number stand o = (elim (o.number == number) as (λ (b : Bool). (cond b (with_stand stand o) o).number ≡ o.number) [
    | true ↦ refl
    | false ↦ refl
  ])

  lent-ascends : (number : ℕ) (stand : Stand (Parts S) Address) (p : Pool S) → Ascends 0 p.given p.sessions
      → Ascends 0 p.given (map (λ (o : Session S). cond (o.number == number) (with_stand stand o) o) p.sessions)
  lent-ascends number stand p a = ascends_map 0 p.given _ p.sessions (lent-number number stand) a

  -- one that is dialled
  dial-given : (class : ℕ) (at : List Address) (login : Option (List ℕ)) (m : ℕ) (others : Seat → ℕ) (p : Pool S) → AreOut no_seat others p
      → IsGiven others (dial_for class at login m p)
  dial-given class at login m others p h = record {
    ascend = ascends_push 0 p.given p.sessions (out_for (p.given + 1) class at login m) refl h.ascend;
    each = λ seat.
        let o = out_for {S = S} (p.given + 1) class at login m in
        let all = count-append (is_seat seat) p.sessions (o ∷ []) in
        let one = count-cons (is_seat seat) o [] in
        let own : ◌≡◌ {A = ℕ} (cond (is_seat seat o) 1 0) (cond (is_same (record { class = class; number = p.given + 1 }) seat) 1 0) =
        ap (λ (b : Bool). cond b 1 0) (and-true (((p.given + 1) == seat.number) && (class == seat.class))) in
        let was = h.each seat in
        omega (arith, all, one, own, was);
  }

  module _ (class : ℕ) (at : List Address) (login : Option (List ℕ)) (others : Seat → ℕ) (p : Pool S) (h : AreOut no_seat others p) where
    lends : (seat : Seat) (n m : ℕ) → n ≡ m + out_of p seat → n ≡ m + others seat
    lends seat n m e = let was = h.each seat in omega (arith, e, was)

    -- where one makes room, it was idle
    room-by : (i : Option (Idler S)) → first_some (idle_in class at) p.sessions ≡ i
        → IfSome (option_map (without_idle p) i) (AreOut no_seat others)
    room-by None e = tt
    room-by (Some i) e =
        out-still no_seat others p (without_idle p i)
        (ascends_filter 0 p.given (λ (o : Session S). not (o.number == i.number)) p.sessions h.ascend)
        (λ seat. dropped-out (idle_in class at) (λ (x : Idler S). x.number) class (any-fits class at) 0 p.given p.sessions i seat h.ascend e) h

    room-out : IfSome (made_room class at p) (AreOut no_seat others)
    room-out = (elim (nat_lt (open_of class at p.sessions) p.max_sessions) as (λ (b : Bool). IfSome (cond b (Some p) (option_map (without_idle p) (first_some (idle_in class at) p.sessions))) (AreOut no_seat others)) [
      | true ↦ h
      | false ↦ room-by (first_some (idle_in class at) p.sessions) refl
    ])

    dialled-given : (q : Option (Pool S)) → IfSome q (AreOut no_seat others) → IsGiven others (dial_in class at login p q)
    dialled-given None k = h
    dialled-given (Some q) k = (elim (has_number q) as (λ (b : Bool). IsGiven others (cond b (dial_for class at login (member_for class at q.sessions) q) (Memory, p))) [
      | true ↦ dial-given class at login (member_for class at q.sessions) others q k
      | false ↦ h
    ])

    any-given : (i : Option (Idler S)) → first_some (idle_for class at login) p.sessions ≡ i → IsGiven others (any_idle class at login p i)
    any-given None e = dialled-given (made_room class at p) room-out
    any-given (Some i) e = record {
      ascend = lent-ascends i.number (Out (inner i.parts.address)) p h.ascend;
      each = λ seat.
          lends seat _ _
          (lent-out (idle_for class at login) (λ (x : Idler S). x.number) class (for-fits class at login) (inner i.parts.address) 0 p.given p.sessions i
          seat h.ascend e);
    }

    one-given : (key : SetKey) (now : ℕ) (i : Option (Idler S × Entry)) → first_some (idle_with class at login key) p.sessions ≡ i
        → IsGiven others (one_idle class at login key now p i)
    one-given key now None e = any-given (first_some (idle_for class at login) p.sessions) refl
    one-given key now (Some i) e = record {
      ascend = lent-ascends i.0.number (Out (inner i.0.parts.address)) p h.ascend;
      each = λ seat.
          lends seat _ _
          (lent-out (idle_with class at login key) (λ (x : Idler S × Entry). x.0.number) class (with-fits class at login key) (inner i.0.parts.address)
          0 p.given p.sessions i seat h.ascend e);
    }

    choice-given : (want : Option SetKey) (now : ℕ) → IsGiven others (choice class at login want now p)
    choice-given None now = any-given (first_some (idle_for class at login) p.sessions) refl
    choice-given (Some key) now = one-given key now (first_some (idle_with class at login key) p.sessions) refl

  pub take-given : (class : ℕ) (at : List Address) (login : Option (List ℕ)) (want : Option SetKey) (now : ℕ) (others : Seat → ℕ) (p : Pool S)
      → AreOut no_seat others p → IsGiven others (take_of class at login want now p)
  take-given class at login want now others p h =
      choice-given class at login others (expire now p) (expire-out now no_seat others p h) want now
