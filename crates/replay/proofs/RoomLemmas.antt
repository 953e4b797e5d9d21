-- a door is full only where as many sessions are out as there may be of a class; and no more are out than legs hold
use Rattle.std.proofs.Common.{◌≡◌, ℕ, ◌+◌, ◌<◌, ◌≤◌, ◌==◌, ◌&&◌, Bool, true, false, nat_lt, if◌then◌else◌, cond, List, [], ◌∷◌, ◌++◌, length, map, filter, Option, None, Some, option_map, refl, ap, subst, arith}
use Rattle.std.specs.Prelude.{count_by}
use Rattle.std.specs.List.{sum_by}
use Rattle.std.specs.Option.{option_or}
use Rattle.std.proofs.lemmas.Bool.{ltb-false}
use Rattle.std.proofs.lemmas.List.Sums.{sum_by-append, sum_by-cons}
use Rattle.z_types.specs.declared.address.Address.{Address}
use Rattle.z_types.specs.declared.key.SetKey.{SetKey}
use Rattle.pool_sets.specs.Counts.{is_full}
use Rattle.pool_sets.specs.Plain.{Ascends, Pool, any_idle, choice, dial_for, dial_in, expire, has_number, is_seat, one_idle, out_of, stays_open, take_of, with_fresh_sets, without_idle, without_old_sets}
use Rattle.pool_sets.specs.Sessions.{Idler, Session, first_some, idle_for, idle_in, idle_with, idler, in_class, is_out, member_for, open_of}
use Rattle.pool_sets.specs.Table.{Entry}
use Rattle.pool_sets.specs.declared.doors.Seat.{Seat}
use Rattle.pool_sets.specs.declared.doors.Taken.{Taken}
use Rattle.pool_sets.specs.declared.doors.Taken.TheVariants as taken
use Rattle.pool_sets.specs.declared.pooled.Parts.{Parts}
use Rattle.pool_sets.specs.declared.sessions.Stand.{Stand}
use Rattle.pool_sets.specs.declared.sessions.Stand.TheVariants.{Idle, Out}
use Rattle.package_quiet.specs.leg.LegView.{LegView}
use Rattle.package_quiet.specs.leg.Phases.{seat_of}
use Rattle.front_conn_seats.specs.steps.Seats.{AreOut, held_at, held_in, no_seat}

-- ---- a pool that is full

or-none : {X : Type 0} (a b : Option X) → option_or a b ≡ None → (a ≡ None) × (b ≡ None)
or-none None b e = (refl, e)
or-none (Some x) b e = absurd cc

module _ {S : Type 0} where
  -- how many sessions are out
  abbrev pub outs : List (Session S) → ℕ
  outs os = count_by (λ o. is_out o.stand) os

  outs-cons : (o : Session S) (os : List (Session S)) → outs (o ∷ os) ≡ cond (is_out o.stand) 1 0 + outs os
  outs-cons o os = sum_by-cons (λ (x : Session S). cond (is_out x.stand) 1 0) o os

  none-idle : (is_in : Bool) (number : ℕ) (stand : Stand (Parts S) Address) → (if is_in then idler number stand else None) ≡ None
      → cond is_in 1 0 ≤ cond (is_out stand) 1 0
  none-idle false number stand e = omega arith
  none-idle true number (Idle parts since) e = absurd cc
  none-idle true number (Out address) e = omega arith

  -- where none of a class is idle, all of it that are open are out
  all-out : (class : ℕ) (at : List Address) (os : List (Session S)) → first_some (idle_in class at) os ≡ None → open_of class at os ≤ outs os
  all-out class at [] e = omega arith
  all-out class at (o ∷ os) e =
      let both = or-none (idle_in class at o) (first_some (idle_in class at) os) e in
      let own = none-idle (in_class class at o) o.number o.stand both.0 in
      let rest = all-out class at os both.1 in
      let open_ = sum_by-cons (λ (x : Session S). cond (in_class class at x) 1 0) o os in
      let out = outs-cons o os in
      omega (arith, own, rest, open_, out)

  -- where the answer is that the pool is full
  abbrev FullOut : Pool S → Taken S → Type 0
  FullOut p said = is_full said ≡ true → p.max_sessions ≤ outs p.sessions

  dialled-out : (class : ℕ) (at : List Address) (login : Option (List ℕ)) (p q : Pool S) → FullOut p (dial_in class at login p (Some q)).0
  dialled-out class at login p q =
      (elim (has_number q) as (λ (b : Bool). FullOut p (if b then dial_for class at login (member_for class at q.sessions) q else (taken.Memory, p)).0) [
        | true ↦ λ is. absurd cc
        | false ↦ λ is. absurd cc
      ])

  room-out : (class : ℕ) (at : List Address) (login : Option (List ℕ)) (p : Pool S) (idle : Option (Idler S)) → first_some (idle_in class at) p.sessions ≡ idle
      → p.max_sessions ≤ open_of class at p.sessions → FullOut p (dial_in class at login p (option_map (without_idle p) idle)).0
  room-out class at login p None e much = λ is. (let few = all-out class at p.sessions e in omega (arith, much, few))
  room-out class at login p (Some i) e much = dialled-out class at login p (without_idle p i)

  open-out : (class : ℕ) (at : List Address) (login : Option (List ℕ)) (p : Pool S) (b : Bool) → nat_lt (open_of class at p.sessions) p.max_sessions ≡ b
      → FullOut p (dial_in class at login p (if b then Some p else option_map (without_idle p) (first_some (idle_in class at) p.sessions))).0
  open-out class at login p true e = dialled-out class at login p p
  open-out class at login p false e =
      room-out class at login p (first_some (idle_in class at) p.sessions) refl
      (let much = ltb-false (open_of class at p.sessions) p.max_sessions e in omega (arith, much))

  any-out : (class : ℕ) (at : List Address) (login : Option (List ℕ)) (p : Pool S) (idle : Option (Idler S)) → FullOut p (any_idle class at login p idle).0
  any-out class at login p (Some i) = λ is. absurd cc
  any-out class at login p None = open-out class at login p (nat_lt (open_of class at p.sessions) p.max_sessions) refl

  one-out : (class : ℕ) (at : List Address) (login : Option (List ℕ)) (key : SetKey) (now : ℕ) (p : Pool S) (idle : Option (Idler S × Entry))
      → FullOut p (one_idle class at login key now p idle).0
  one-out class at login key now p (Some h) = λ is. absurd cc
  one-out class at login key now p None = any-out class at login p (first_some (idle_for class at login) p.sessions)

  choice-out : (class : ℕ) (at : List Address) (login : Option (List ℕ)) (want : Option SetKey) (now : ℕ) (p : Pool S) → FullOut p (choice class at login want now p).0
  choice-out class at login None now p = any-out class at login p (first_some (idle_for class at login) p.sessions)
  choice-out class at login (Some key) now p = one-out class at login key now p (first_some (idle_with class at login key) p.sessions)

  same-out : (now ttl : ℕ) (stand : Stand (Parts S) Address) → is_out (without_old_sets now ttl stand) ≡ is_out stand
  same-out now ttl (Idle parts since) = refl
  same-out now ttl (Out address) = refl

  -- no more are out of what time leaves
  fresh-outs : (now ttl : ℕ) (stays : Session S → Bool) (os : List (Session S))
      → outs (map (with_fresh_sets now ttl) (filter stays os)) ≤ outs os
  fresh-outs now ttl stays [] = omega arith
  fresh-outs now ttl stays (o ∷ os) =
      let rest = fresh-outs now ttl stays os in
      let all = outs-cons o os in
      (elim (stays o) as (λ (b : Bool). outs (map (with_fresh_sets now ttl) (cond b (o ∷ filter stays os) (filter stays os))) ≤ outs (o ∷ os)) [
        | true ↦ (let own = outs-cons (with_fresh_sets now ttl o) (map (with_fresh_sets now ttl) (filter stays os)) in
            let same : ◌≡◌ {A = ℕ} (cond (is_out (with_fresh_sets now ttl o).stand) 1 0) (cond (is_out o.stand) 1 0) = ap (λ (b : Bool). cond b 1 0) (same-out now ttl o.stand) in
            omega (arith, rest, all, own, same))
        | false ↦ omega (arith, rest, all)
      ])

  pub take-out : (class : ℕ) (at : List Address) (login : Option (List ℕ)) (want : Option SetKey) (now : ℕ) (p : Pool S) → FullOut p (take_of class at login want now p).0
  take-out class at login want now p = λ is.
      (let much = choice-out class at login want now (expire now p) is in
      let few = fresh-outs now p.set_ttl (stays_open now p.session_ttl) p.sessions in omega (arith, much, few))

-- ---- seats that are held

-- seats of ascending numbers
abbrev AreAbove : ℕ → List Seat → Type 0
AreAbove last [] = Unit {0}
AreAbove last (seat ∷ seats) = (last < seat.number) × AreAbove seat.number seats

-- different seats are held so often at most, all together
pub record AtMost (held : Seat → ℕ) (n : ℕ) : Type 0 where
  pub sum : (last : ℕ) (seats : List Seat) → AreAbove last seats → sum_by held seats ≤ n

sum-both : (f g : Seat → ℕ) (seats : List Seat) → sum_by (λ seat. f seat + g seat) seats ≡ sum_by f seats + sum_by g seats
sum-both f g [] = refl
sum-both f g (seat ∷ seats) =
    let both = sum-both f g seats in
    let all = sum_by-cons (λ (s : Seat). f s + g s) seat seats in
    let one = sum_by-cons f seat seats in
    let other = sum_by-cons g seat seats in
    omega (arith, both, all, one, other)

sum-less : (f g : Seat → ℕ) → ((seat : Seat) → f seat ≤ g seat) → (seats : List Seat) → sum_by f seats ≤ sum_by g seats
sum-less f g less [] = omega arith
sum-less f g less (seat ∷ seats) =
    let rest = sum-less f g less seats in
    let own = less seat in
    let one = sum_by-cons f seat seats in
    let other = sum_by-cons g seat seats in
    omega (arith, rest, own, one, other)

pub most-both : (f g : Seat → ℕ) (m n : ℕ) → AtMost f m → AtMost g n → AtMost (λ seat. f seat + g seat) (m + n)
most-both f g m n h k = record {
  sum = λ last seats above.
      (let both = sum-both f g seats in let one = h.sum last seats above in let other = k.sum last seats above in omega (arith, both, one, other));
}

pub most-less : (f g : Seat → ℕ) (n : ℕ) → ((seat : Seat) → f seat ≤ g seat) → AtMost g n → AtMost f n
most-less f g n less h = record {
  sum = λ last seats above. (let few = sum-less f g less seats in let all = h.sum last seats above in omega (arith, few, all));
}

pub most-upto : (f : Seat → ℕ) (m n : ℕ) → m ≤ n → AtMost f m → AtMost f n
most-upto f m n less h = record { sum = λ last seats above. (let all = h.sum last seats above in omega (arith, all, less)) }

other-seat : (own seat : Seat) → own.number < seat.number → (own.number == seat.number) ≡ false
other-seat own seat below = grind (arith, below)

-- one seat is held once
held-far : (own : Seat) (last : ℕ) (seats : List Seat) → own.number ≤ last → AreAbove last seats → sum_by (held_at (Some own)) seats ≡ 0
held-far own last [] far above = refl
held-far own last (seat ∷ seats) far above =
    let rest = held-far own seat.number seats (let next = above.0 in omega (arith, far, next)) above.1 in
    let all = sum_by-cons (held_at (Some own)) seat seats in
    let ne = other-seat own seat (let next = above.0 in omega (arith, far, next)) in
    let none : held_at (Some own) seat ≡ 0 = ap (λ (b : Bool). if (b && (own.class == seat.class)) then 1 else 0) ne in
    omega (arith, rest, all, none)

held-one : (own : Seat) (seat : Seat) (seats : List Seat) (is : Bool) → (own.number == seat.number) ≡ is → AreAbove seat.number seats
    → sum_by (held_at (Some own)) seats ≤ 1 → held_at (Some own) seat + sum_by (held_at (Some own)) seats ≤ 1
held-one own seat seats false ne above few =
    let none : held_at (Some own) seat ≡ 0 = ap (λ (b : Bool). if (b && (own.class == seat.class)) then 1 else 0) ne in omega (arith, none, few)
held-one own seat seats true e above few =
    let same : own.number ≡ seat.number = grind (arith, e) in
    let rest = held-far own seat.number seats (omega (arith, same)) above in
    let once = once-held (own.number == seat.number) (own.class == seat.class) in
    omega (arith, rest, once)
  where
    once-held : (a b : Bool) → (if (a && b) then 1 else 0) ≤ 1
    once-held true true = omega arith
    once-held true false = omega arith
    once-held false b = omega arith

held-once : (own : Seat) (last : ℕ) (seats : List Seat) → AreAbove last seats → sum_by (held_at (Some own)) seats ≤ 1
held-once own last [] above = omega arith
held-once own last (seat ∷ seats) above =
    let all = sum_by-cons (held_at (Some own)) seat seats in
    let few = held-one own seat seats (own.number == seat.number) refl above.1 (held-once own seat.number seats above.1) in
    omega (arith, all, few)

sum-none : (seats : List Seat) → sum_by no_seat seats ≡ 0
sum-none [] = refl
sum-none (seat ∷ seats) = let rest = sum-none seats in let all = sum_by-cons no_seat seat seats in omega (arith, rest, all)

pub none-most : AtMost no_seat 0
none-most = record { sum = λ last seats above. (let none = sum-none seats in omega (arith, none)) }

-- what a leg holds
pub own-most : (own : Option Seat) → AtMost (held_at own) 1
own-most None = record { sum = λ last seats above. (let none = sum-none seats in omega (arith, none)) }
own-most (Some own) = record { sum = λ last seats above. held-once own last seats above }

pub legs-most : {S : Type 0} (legs : List (LegView S)) → AtMost (held_in legs) (length legs)
legs-most [] = record { sum = λ last seats above. (let none = sum-none seats in omega (arith, none)) }
legs-most (leg ∷ legs) =
    subst (λ (n : ℕ). AtMost (held_in (leg ∷ legs)) n) (omega arith)
    (most-less (held_in (leg ∷ legs)) (λ seat. held_at (seat_of leg.phase) seat + held_in legs seat) (1 + length legs)
    (λ seat. (let e = sum_by-cons (λ (l : LegView _). held_at (seat_of l.phase) seat) leg legs in omega (arith, e)))
    (most-both (held_at (seat_of leg.phase)) (held_in legs) 1 (length legs) (own-most (seat_of leg.phase)) (legs-most legs)))

-- ---- no more are out than are held

seats-above : (last : ℕ) (seats : List Seat) (other : ℕ) → other ≤ last → AreAbove last seats → AreAbove other seats
seats-above last [] other less above = tt
seats-above last (seat ∷ seats) other less above = ((let own = above.0 in omega (arith, less, own)), above.1)

module _ {S : Type 0} where
  abbrev out-seat : ℕ → ℕ → Stand (Parts S) Address → List Seat
  out-seat class number (Idle parts since) = []
  out-seat class number (Out address) = record { class = class; number = number } ∷ []

  abbrev out-seats : List (Session S) → List Seat
  out-seats [] = []
  out-seats (o ∷ os) = out-seat o.class o.number o.stand ++ out-seats os

  first-above : (last : ℕ) (o : Session S) (os : List (Session S)) (stand : Stand (Parts S) Address) → last < o.number
      → AreAbove o.number (out-seats os) → AreAbove last (out-seat o.class o.number stand ++ out-seats os)
  first-above last o os (Idle parts since) below above = seats-above o.number (out-seats os) last (omega (arith, below)) above
  first-above last o os (Out address) below above = (below, above)

  out-above : (last n : ℕ) (os : List (Session S)) → Ascends last n os → AreAbove last (out-seats os)
  out-above last n [] up = tt
  out-above last n (o ∷ os) up = first-above last o os o.stand up.0 (out-above o.number n os up.1)

  -- each is out of the pool
  is-out-seat : (o : Session S) (stand : Stand (Parts S) Address) → o.stand ≡ stand
      → cond (is_out stand) 1 0 ≤ sum_by (λ seat. cond (is_seat seat o) 1 0) (out-seat o.class o.number stand)
  is-out-seat o (Idle parts since) e = omega arith
  is-out-seat o (Out address) e =
      let all = sum_by-cons (λ (s : Seat). cond (is_seat s o) 1 0) (record { class = o.class; number = o.number }) [] in
      let is : is_seat (record { class = o.class; number = o.number }) o ≡ true = grind (arith, e) in
      let one : ◌≡◌ {A = ℕ} (cond (is_seat (record { class = o.class; number = o.number }) o) 1 0) 1 = ap (λ (b : Bool). cond b 1 0) is in
      omega (arith, all, one)

  seats-out : (os : List (Session S)) → outs os ≤ sum_by (λ seat. count_by (is_seat seat) os) (out-seats os)
  seats-out [] = omega arith
  seats-out (o ∷ os) =
      let seats = out-seat o.class o.number o.stand in
      let with : (seat : Seat) → count_by (is_seat seat) (o ∷ os) ≡ cond (is_seat seat o) 1 0 + count_by (is_seat seat) os = λ seat.
      sum_by-cons (λ (x : Session S). cond (is_seat seat x) 1 0) o os in
      let all = outs-cons o os in
      let own = is-out-seat o o.stand refl in
      let rest = seats-out os in
      let both = sum_by-append (λ seat. count_by (is_seat seat) (o ∷ os)) seats (out-seats os) in
      let one = sum-less (λ seat. cond (is_seat seat o) 1 0) (λ seat. count_by (is_seat seat) (o ∷ os))
      (λ seat. let e = with seat in omega (arith, e)) seats in
      let other = sum-less (λ seat. count_by (is_seat seat) os) (λ seat. count_by (is_seat seat) (o ∷ os))
      (λ seat. let e = with seat in omega (arith, e)) (out-seats os) in
      omega (arith, all, own, rest, both, one, other)

  -- where each that is out is held by others, no more are out than these hold
  pub held-outs : (p : Pool S) (held others : Seat → ℕ) (n : ℕ) → AreOut held others p → ((seat : Seat) → held seat ≡ 0) → AtMost others n
      → outs p.sessions ≤ n
  held-outs p held others n h none k =
      let all = seats-out p.sessions in
      let most = k.sum 0 (out-seats p.sessions) (out-above 0 p.given p.sessions h.ascend) in
      let less = sum-less (out_of p) others (λ seat. let e = h.each seat in let z = none seat in omega (arith, e, z)) (out-seats p.sessions) in
      omega (arith, all, most, less)
