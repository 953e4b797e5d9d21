-- How often a seat is out of a list of sessions, where the list is changed as the plain pool changes it
use Rattle.std.proofs.Common.{◌≡◌, ◌==◌, ◌&&◌, ◌∙◌, ℕ, ◌+◌, ◌<◌, ◌≤◌, Bool, true, false, not, cond, List, [], ◌∷◌, map, filter, Option, None, Some, count_by, refl, sym, ap, subst, arith}
use Rattle.std.specs.Option.{option_or}
use Rattle.std.specs.Cmp.{nat_eq_equiv}
use Rattle.std.proofs.lemmas.Bool.{eqb-true}
use Rattle.std.proofs.Math.Bool.{and-false, and-true}
use Rattle.z_types.specs.equality.Tests.{both_true}
use Rattle.z_types.specs.declared.address.Address.{Address}
use Rattle.pool_sets.specs.declared.pooled.Parts.{Parts}
use Rattle.pool_sets.specs.declared.sessions.Stand.{Stand}
use Rattle.pool_sets.specs.declared.sessions.Stand.TheVariants.{Idle, Out}
use Rattle.pool_sets.specs.declared.doors.Seat.{Seat}
use Rattle.pool_sets.specs.Sessions.{Session, first_some, is_out, stands_at, with_stand, without_number}
use Rattle.pool_sets.specs.Plain.{Ascends, idle_again, is_seat, out_for, redial_at_seat, stays, stays_open, with_fresh_sets, without_old_sets, without_seat}
use Rattle.front_conn_seats.specs.steps.Seats.{is_same}
use Rattle.pool_sets.proofs.SeatLemmas.{count-cons, count-dropped, count-filter, count-first, count-lost, count-map, seat-number}

-- ---- seats

-- one seat
pub same-is : (seat other : Seat) → is_same seat other ≡ true → seat ≡ other
same-is seat other h =
    let both = both_true (seat.number == other.number) (seat.class == other.class) h in
    let number = eqb-true seat.number other.number both.0 in
    let class = eqb-true seat.class other.class both.1 in
    (λ i. record { class = class i; number = number i })

differ : (a b : ℕ) → (a ≡ b → ⊥) → (a == b) ≡ false
differ a b apart = (elim (a == b) as (λ (c : Bool). (a == b) ≡ c → c ≡ false) [
  | true ↦ λ h. absurd (apart (eqb-true a b h))
  | false ↦ λ h. refl
]) refl

below-not : (a b : ℕ) → a < b → a ≡ b → ⊥
below-not a b low e = omega arith

above-not : (a b : ℕ) → a < b → b ≡ a → ⊥
above-not a b low e = omega arith

abbrev pub without : Seat → Seat → ℕ → ℕ
without seat other n = cond (is_same seat other) 0 n

by-same : (seat other : Seat) (m n : ℕ) → (seat ≡ other → m ≡ 0) → (is_same seat other ≡ false → m ≡ n) → m ≡ without seat other n
by-same seat other m n same differs = (elim (is_same seat other) as (λ (b : Bool). is_same seat other ≡ b → m ≡ cond b 0 n) [
  | true ↦ λ h. same (same-is seat other h)
  | false ↦ λ h. differs h
]) refl

module _ {S : Type 0} where
  seat-class : (seat : Seat) (o : Session S) → is_seat seat o ≡ true → o.class ≡ seat.class
  seat-class seat o h =
      eqb-true o.class seat.class (both_true (o.number == seat.number) (o.class == seat.class)
      (both_true ((o.number == seat.number) && (o.class == seat.class)) (is_out o.stand) h).0).1

  seat-out : (seat : Seat) (o : Session S) → is_seat seat o ≡ true → is_out o.stand ≡ true
  seat-out seat o h = (both_true ((o.number == seat.number) && (o.class == seat.class)) (is_out o.stand) h).1

  -- is of no other
  one-seat : (seat other : Seat) (o : Session S) → is_seat seat o ≡ true → is_seat other o ≡ true → is_same seat other ≡ true
  one-seat seat other o h k =
      let number : seat.number ≡ other.number = sym (seat-number seat o h) ∙ seat-number other o k in
      let class : seat.class ≡ other.class = sym (seat-class seat o h) ∙ seat-class other o k in
      rw (number, class, nat_eq_equiv.refl other.number, nat_eq_equiv.refl other.class) refl

  not-other : (seat other : Seat) (o : Session S) → is_same seat other ≡ false → is_seat seat o ≡ true → is_seat other o ≡ false
  not-other seat other o n h = (elim (is_seat other o) as (λ (b : Bool). is_seat other o ≡ b → b ≡ false) [
    | true ↦ λ k. let wrong : true ≡ false = sym (one-seat seat other o h k) ∙ n in absurd cc
    | false ↦ λ k. refl
  ]) refl

  -- ---- what expires

  out-stays : (now ttl : ℕ) (s : Stand (Parts S) Address) → is_out s ≡ true → stays now ttl s ≡ true
  out-stays now ttl (Idle parts since) h = absurd cc
  out-stays now ttl (Out address) h = refl

  fresh-out : (now ttl : ℕ) (s : Stand (Parts S) Address) → is_out (without_old_sets now ttl s) ≡ is_out s
  fresh-out now ttl (Idle parts since) = refl
  fresh-out now ttl (Out address) = refl

  pub expired-out : (now session_ttl set_ttl : ℕ) (seat : Seat) (os : List (Session S))
      → count_by (is_seat seat) (map (with_fresh_sets now set_ttl) (filter (stays_open now session_ttl) os)) ≡ count_by (is_seat seat) os
  expired-out now a b seat os =
      count-map (is_seat seat) (with_fresh_sets now b)
      (λ o. ap (λ (x : Bool). ((o.number == seat.number) && (o.class == seat.class)) && x) (fresh-out now b o.stand)) (filter (stays_open now a) os)
      ∙ count-filter (is_seat seat) (stays_open now a) (λ o h. out-stays now a o.stand (seat-out seat o h)) os

  -- ---- what is put back or lost

  put-own : (seat : Seat) (parts : Parts S) (now : ℕ) (o : Session S) → is_seat seat (idle_again seat parts now o) ≡ false
  put-own seat parts now o = (elim (is_seat seat o) as (λ (b : Bool). is_seat seat o ≡ b → is_seat seat (cond b (with_stand (Idle parts now) o) o) ≡ false) [
    | true ↦ λ h. and-false ((o.number == seat.number) && (o.class == seat.class))
    | false ↦ λ h. h
  ]) refl

  put-other : (seat other : Seat) (parts : Parts S) (now : ℕ) → is_same seat other ≡ false → (o : Session S) → is_seat other (idle_again seat parts now o) ≡ is_seat other o
  put-other seat other parts now n o = (elim (is_seat seat o) as (λ (b : Bool). is_seat seat o ≡ b → is_seat other (cond b (with_stand (Idle parts now) o) o) ≡ is_seat other o) [
    | true ↦ λ h. and-false ((o.number == other.number) && (o.class == other.class)) ∙ sym (not-other seat other o n h)
    | false ↦ λ h. refl
  ]) refl

  pub put-out : (seat : Seat) (parts : Parts S) (now : ℕ) (os : List (Session S)) (other : Seat)
      → count_by (is_seat other) (map (idle_again seat parts now) os) ≡ without seat other (count_by (is_seat other) os)
  put-out seat parts now os other =
      by-same seat other _ _
      (λ e. subst (λ (s : Seat). count_by (is_seat s) (map (idle_again seat parts now) os) ≡ 0) e
      (count-lost (is_seat seat) (idle_again seat parts now) (put-own seat parts now) os))
      (λ n. count-map (is_seat other) (idle_again seat parts now) (put-other seat other parts now n) os)

  stays-other : (seat other : Seat) → is_same seat other ≡ false → (o : Session S) → is_seat other o ≡ true → not (is_seat seat o) ≡ true
  stays-other seat other n o k = (elim (is_seat seat o) as (λ (b : Bool). is_seat seat o ≡ b → not b ≡ true) [
    | true ↦ λ h. let wrong : true ≡ false = sym k ∙ not-other seat other o n h in absurd cc
    | false ↦ λ h. refl
  ]) refl

  pub lost-out : (seat : Seat) (os : List (Session S)) (other : Seat)
      → count_by (is_seat other) (without_seat seat os) ≡ without seat other (count_by (is_seat other) os)
  lost-out seat os other =
      by-same seat other _ _
      (λ e. subst (λ (s : Seat). count_by (is_seat s) (without_seat seat os) ≡ 0) e (count-dropped (is_seat seat) os))
      (λ n. count-filter (is_seat other) (λ o. not (is_seat seat o)) (stays-other seat other n) os)

  -- ---- what is dialled again

  again-out : (seat other : Seat) (at : List Address) (m : ℕ) (o : Session S) → is_seat other (redial_at_seat seat at m o) ≡ is_seat other o
  again-out seat other at m o = (elim (is_seat seat o) as (λ (b : Bool). is_seat seat o ≡ b → is_seat other (cond b (out_for o.number o.class at o.login m) o) ≡ is_seat other o) [
    | true ↦ λ h. ap (λ (x : Bool). ((o.number == other.number) && (o.class == other.class)) && x) (sym (seat-out seat o h))
    | false ↦ λ h. refl
  ]) refl

  pub redialled-out : (seat other : Seat) (at : List Address) (m : ℕ) (os : List (Session S))
      → count_by (is_seat other) (map (redial_at_seat seat at m) os) ≡ count_by (is_seat other) os
  redialled-out seat other at m os = count-map (is_seat other) (redial_at_seat seat at m) (again-out seat other at m) os

  -- ---- what is lent, or dropped

  -- beyond a number none stands elsewhere
  beyond : (number : ℕ) (stand : Stand (Parts S) Address) (m n : ℕ) (os : List (Session S)) → number ≤ m → Ascends m n os → stands_at number stand os ≡ os
  beyond number stand m n [] low a = refl
  beyond number stand m n (o ∷ os) low a =
      let above = a.0 in
      let under : number < o.number = omega (arith, above, low) in
      rw (differ o.number number (above-not number o.number under)) (ap (λ (r : List (Session S)). o ∷ r) (beyond number stand o.number n os (omega (arith, under)) a.1))

  -- and none is dropped
  kept-beyond : (number m n : ℕ) (os : List (Session S)) → number ≤ m → Ascends m n os → without_number number os ≡ os
  kept-beyond number m n [] low a = refl
  kept-beyond number m n (o ∷ os) low a =
      let above = a.0 in
      let under : number < o.number = omega (arith, above, low) in
      rw (differ o.number number (above-not number o.number under)) (ap (λ (r : List (Session S)). o ∷ r) (kept-beyond number o.number n os (omega (arith, under)) a.1))

  not-seat : (o : Session S) (seat : Seat) → is_out o.stand ≡ false → is_seat seat o ≡ false
  not-seat o seat idle =
      ap (λ (x : Bool). ((o.number == seat.number) && (o.class == seat.class)) && x) idle
      ∙ and-false ((o.number == seat.number) && (o.class == seat.class))

  -- what gives a session that is idle, of a class
  module _ {Y : Type 0} (h : Session S → Option Y) (num : Y → ℕ) (class : ℕ)
      (fits : (o : Session S) (y : Y) → h o ≡ Some y → (o.number ≡ num y) × (o.class ≡ class) × (is_out o.stand ≡ false)) where
    -- its number is above
    later : (m n : ℕ) (os : List (Session S)) (y : Y) → Ascends m n os → first_some h os ≡ Some y → m < num y
    later m n [] y a e = absurd cc
    later m n (o ∷ os) y a e = (elim (h o) as (λ (c : Option Y). h o ≡ c → option_or c (first_some h os) ≡ Some y → m < num y) [
      | None ↦ λ is k. let above = a.0 in let rest = later o.number n os y a.1 k in omega (arith, above, rest)
      | Some x ↦ λ is k.
          let same : x ≡ y = cc in
          let own = (fits o x is).0 in
          let above = a.0 in
          subst (λ (z : Y). m < num z) same (omega (arith, own, above))
    ]) refl e

    -- where it is dropped, each seat that was out is
    pub dropped-out : (m n : ℕ) (os : List (Session S)) (y : Y) (seat : Seat) → Ascends m n os → first_some h os ≡ Some y
        → count_by (is_seat seat) (without_number (num y) os) ≡ count_by (is_seat seat) os
    dropped-out m n [] y seat a e = absurd cc
    dropped-out m n (o ∷ os) y seat a e = (elim (h o) as (λ (c : Option Y). h o ≡ c → option_or c (first_some h os) ≡ Some y → count_by (is_seat seat) (without_number (num y) (o ∷ os)) ≡ count_by (is_seat seat) (o ∷ os)) [
      | None ↦ λ is k.
          let low = later o.number n os y a.1 k in
          let other : (o.number == num y) ≡ false = differ o.number (num y) (below-not o.number (num y) low) in
          let first = count-cons (is_seat seat) o os in
          let behind = count-cons (is_seat seat) o (without_number (num y) os) in
          let rest = dropped-out o.number n os y seat a.1 k in
          rw other (omega (arith, first, behind, rest))
      | Some x ↦ λ is k.
          let same : x ≡ y = cc in
          let f = subst (λ (z : Y). (o.number ≡ num z) × (o.class ≡ class) × (is_out o.stand ≡ false)) same (fits o x is) in
          let own : (o.number == num y) ≡ true = ap (λ (k : ℕ). k == num y) f.0 ∙ nat_eq_equiv.refl (num y) in
          let low = f.0 in
          let tail = kept-beyond (num y) o.number n os (omega (arith, low)) a.1 in
          let first = count-first (is_seat seat) o os false (not-seat o seat f.2) in
          let rest : count_by (is_seat seat) (without_number (num y) os) ≡ count_by (is_seat seat) os = ap (λ (r : List (Session S)). count_by (is_seat seat) r) tail in
          rw own (omega (arith, first, rest))
    ]) refl e

    abbrev own_seat : Y → Seat
    own_seat y = record { class = class; number = num y }

    module _ (address : Address) where
      -- the first session, where it is lent
      first-lent : (o : Session S) (y : Y) (seat : Seat) → (o.number ≡ num y) × (o.class ≡ class) × (is_out o.stand ≡ false)
          → (is_seat seat (with_stand (Out address) o) ≡ is_same (own_seat y) seat) × (is_seat seat o ≡ false)
      first-lent o y seat f = (
        and-true ((o.number == seat.number) && (o.class == seat.class))
            ∙ (λ i. (f.0 i == seat.number) && (f.1 i == seat.class)),
        not-seat o seat f.2,
      )

      -- its seat is out then, and no other
      pub lent-out : (m n : ℕ) (os : List (Session S)) (y : Y) (seat : Seat) → Ascends m n os → first_some h os ≡ Some y
          → count_by (is_seat seat) (stands_at (num y) (Out address) os) ≡ cond (is_same (own_seat y) seat) 1 0 + count_by (is_seat seat) os
      lent-out m n [] y seat a e = absurd cc
      lent-out m n (o ∷ os) y seat a e = (elim (h o) as (λ (c : Option Y). h o ≡ c → option_or c (first_some h os) ≡ Some y → count_by (is_seat seat) (stands_at (num y) (Out address) (o ∷ os)) ≡ cond (is_same (own_seat y) seat) 1 0 + count_by (is_seat seat) (o ∷ os)) [
        | None ↦ λ is k.
            let low = later o.number n os y a.1 k in
            let other : (o.number == num y) ≡ false = differ o.number (num y) (below-not o.number (num y) low) in
            let first = count-cons (is_seat seat) o os in
            let behind = count-cons (is_seat seat) o (stands_at (num y) (Out address) os) in
            let rest = lent-out o.number n os y seat a.1 k in
            rw other (omega (arith, first, behind, rest))
        | Some x ↦ λ is k.
            let same : x ≡ y = cc in
            let f = subst (λ (z : Y). (o.number ≡ num z) × (o.class ≡ class) × (is_out o.stand ≡ false)) same (fits o x is) in
            let own : (o.number == num y) ≡ true = ap (λ (k : ℕ). k == num y) f.0 ∙ nat_eq_equiv.refl (num y) in
            let both = first-lent o y seat f in
            let low = f.0 in
            let tail = beyond (num y) (Out address) o.number n os (omega (arith, low)) a.1 in
            let first = count-first (is_seat seat) o os false both.1 in
            let behind = count-first (is_seat seat) (with_stand (Out address) o) (stands_at (num y) (Out address) os) (is_same (own_seat y) seat) both.0 in
            let rest : count_by (is_seat seat) (stands_at (num y) (Out address) os) ≡ count_by (is_seat seat) os = ap (λ (r : List (Session S)). count_by (is_seat seat) r) tail in
            rw own (omega (arith, first, behind, rest))
      ]) refl e
