-- A pool that was full had opened as many sessions as there may be
use Rattle.std.proofs.Common.{◌≡◌, ℕ, ◌-◌, ◌^◌, ◌≤◌, Bool, true, false, nat_lt, List, length, Option, None, Some, is_some, option_map, refl, arith, ap, subst, sym, ◌∙◌}
use Rattle.std.specs.Prelude.{if◌then◌else◌}
use Rattle.std.proofs.lemmas.List.Sums.{count_by-le-length}
use Rattle.std.proofs.lemmas.Bool.{ltb-false}
use Rattle.z_types.specs.declared.key.SetKey.{SetKey}
use Rattle.z_types.specs.declared.address.Address.{Address}
use Rattle.z_types.specs.declared.world.World as world
use Rattle.z_types.specs.declared.sitting.Sitting as sitting
use Rattle.pool_sets.specs.declared.doors.Taken.{Taken}
use Rattle.pool_sets.specs.declared.doors.Taken.TheVariants.{Reuse, Fresh, Dial, Full, Memory}
use Rattle.pool_sets.specs.Counts.{DoorCounts, is_full, after_take}
use Rattle.pool_sets.specs.Doors.{Takes, TakenFits, IsBounded}
use Rattle.pool_sets.specs.Sessions.{Idler, first_some, idle_in, idle_for, idle_with, in_class, open_of, member_for}
use Rattle.pool_sets.specs.Table.{Entry}
use Rattle.pool_sets.specs.Plain.{Pool, expire, take_of, without_idle, made_room, dial_in, any_idle, one_idle, dial_for, has_number, fresh_of, reuse_of, lend_of}
use Rattle.pool_locked.specs.Books.{FullOpens}

-- how many sessions a full pool may have open
abbrev number_of : {S : Type 0} → Taken S → ℕ
number_of (Full n) = n
number_of answer = 0

-- a pool is full with that number, and is so left
abbrev IsFull : {S : Type 0} → ℕ → Pool S → Taken S × Pool S → Type 0
IsFull n q given = (Full n, q) ≡ given

abbrev Holds : Bool → Type 0
Holds true = Unit {0}
Holds false = ⊥

apart : {A : Type 0} → true ≡ false → A
apart e = absurd (subst (λ b. Holds b) e tt)

module _ {S : Type 0} where
  not_full : (answer : Taken S) (p q : Pool S) (n : ℕ) → is_full answer ≡ false → IsFull n q (answer, p) → n ≤ length q.sessions
  not_full answer p q n other e =
      let yes : true ≡ is_full answer = ap (λ (r : Taken S × Pool S). is_full r.0) e in
      apart (yes ∙ other)

  full_now : (class : ℕ) (at : List Address) (p q : Pool S) (n : ℕ) → p.max_sessions ≤ open_of class at p.sessions → IsFull n q (Full p.max_sessions, p) → n ≤ length q.sessions
  full_now class at p q n many e =
      let number : n ≡ p.max_sessions = ap (λ (r : Taken S × Pool S). number_of r.0) e in
      let same : length q.sessions ≡ length p.sessions = ap (λ (r : Taken S × Pool S). length r.1.sessions) e in
      omega (arith, number, same, many, count_by-le-length (in_class class at) p.sessions)

  -- where there is no room, as many as there may be are open
  no_room : (class : ℕ) (at : List Address) (p : Pool S) → made_room class at p ≡ None → p.max_sessions ≤ open_of class at p.sessions
  no_room class at p e = (elim (nat_lt (open_of class at p.sessions) p.max_sessions) as (λ b. nat_lt (open_of class at p.sessions) p.max_sessions ≡ b → (if b then Some p else option_map (without_idle p) (first_some (idle_in class at) p.sessions)) ≡ None → p.max_sessions ≤ open_of class at p.sessions) [
    | true ↦ λ t x. cc
    | false ↦ λ t x. ltb-false (open_of class at p.sessions) p.max_sessions t
  ]) refl e

  dial_full : (class : ℕ) (at : List Address) (login : Option (List ℕ)) (p q : Pool S) (n : ℕ) (room : Option (Pool S)) → made_room class at p ≡ room → IsFull n q (dial_in class at login p room) → n ≤ length q.sessions
  dial_full class at login p q n None r e = full_now class at p q n (no_room class at p r) e
  dial_full class at login p q n (Some m) r e = (elim (has_number m) as (λ b. IsFull n q (if b then dial_for class at login (member_for class at m.sessions) m else (Memory, p)) → n ≤ length q.sessions) [
    | true ↦ λ x. not_full (dial_for class at login (member_for class at m.sessions) m).0 (dial_for class at login (member_for class at m.sessions) m).1 q n refl x
    | false ↦ λ x. not_full Memory p q n refl x
  ]) e

  any_full : (class : ℕ) (at : List Address) (login : Option (List ℕ)) (p q : Pool S) (n : ℕ) (i : Option (Idler S)) → IsFull n q (any_idle class at login p i) → n ≤ length q.sessions
  any_full class at login p q n None e = dial_full class at login p q n (made_room class at p) refl e
  any_full class at login p q n (Some i) e = not_full (fresh_of class i) (lend_of i p) q n refl e

  one_full : (class : ℕ) (at : List Address) (login : Option (List ℕ)) (key : SetKey) (now : ℕ) (p q : Pool S) (n : ℕ) (h : Option (Idler S × Entry)) → IsFull n q (one_idle class at login key now p h) → n ≤ length q.sessions
  one_full class at login key now p q n None e = any_full class at login p q n (first_some (idle_for class at login) p.sessions) e
  one_full class at login key now p q n (Some h) e = not_full (reuse_of class key now h.0 h.1) (lend_of h.0 p) q n refl e

  -- a full pool has as many sessions as there may be
  take_full : (class : ℕ) (at : List Address) (login : Option (List ℕ)) (want : Option SetKey) (now : ℕ) (p q : Pool S) (n : ℕ) → IsFull n q (take_of class at login want now p) → n ≤ length q.sessions
  take_full class at login None now p q n e = any_full class at login (expire now p) q n (first_some (idle_for class at login) (expire now p).sessions) e
  take_full class at login (Some key) now p q n e =
      one_full class at login key now (expire now p) q n (first_some (idle_with class at login key) (expire now p).sessions) e

  -- a pool that is told stays told
  pub told_after : (class : ℕ) (at : List Address) (login : Option (List ℕ)) (want : Option SetKey) (now : ℕ) (o o' : Option (Pool S)) (answer : Taken S) → is_some o ≡ true → Takes o o' class at login want now answer → is_some o' ≡ true
  told_after class at login want now None o' answer told takes = apart (sym told)
  told_after class at login want now (Some p) None answer told takes = absurd takes
  told_after class at login want now (Some p) (Some q) answer told takes = refl

  told_full : (class : ℕ) (at : List Address) (login : Option (List ℕ)) (want : Option SetKey) (now opens : ℕ) (o o' : Option (Pool S)) (n : ℕ) → is_some o ≡ true → Takes o o' class at login want now (Full n) → IsBounded o' opens → n ≤ opens
  told_full class at login want now opens None o' n told takes bound = apart (sym told)
  told_full class at login want now opens (Some p) None n told takes bound = absurd takes
  told_full class at login want now opens (Some p) (Some q) n told takes bound =
      let few : length q.sessions ≤ opens = bound in
      omega (arith, take_full class at login want now p q n takes, few)

-- what was enough is enough where no less was opened
still_enough : (old new : DoorCounts) → new.most ≡ old.most → new.fulls ≡ old.fulls → old.opens ≤ new.opens → FullOpens old.most old.fulls old.opens → FullOpens new.most new.fulls new.opens
still_enough old new most fulls opens before = λ some.
    let enough = before (λ none. some (fulls ∙ none)) in
    omega (arith, enough, most, opens)

module _ {W S : Type 0} (w : world.Ghosts W) (t : sitting.Ghosts S W) (class : ℕ) (at : List Address) (login : Option (List ℕ)) (want : Option SetKey) (now : ℕ) where
  -- what was opened before a take stays counted, and a full pool had opened as many as there may be
  pub opens_after : (o o' : Option (Pool S)) (old new : DoorCounts) (answer : Taken S) → is_some o ≡ true → old.opens ≤ 2 ^ 64 - 1 → FullOpens old.most old.fulls old.opens → Takes o o' class at login want now answer → TakenFits w t class at login want old.most answer → IsBounded o' new.opens → new ≡ after_take want answer old → FullOpens new.most new.fulls new.opens
  opens_after o o' old new (Full n) told small before takes fits bound after =
      let many = told_full class at login want now new.opens o o' n told takes bound in
      let most : new.most ≡ old.most = ap (λ (c : DoorCounts). c.most) after in
      let number : n ≡ old.most = fits in
      λ some. omega (arith, many, most, number)
  opens_after o o' old new (Dial seat member) told small before takes fits bound after =
      still_enough old new (ap (λ (c : DoorCounts). c.most) after) (ap (λ (c : DoorCounts). c.fulls) after) (let opens = ap (λ (c : DoorCounts). c.opens) after in omega (arith, opens, small)) before
  opens_after o o' old new (Reuse seat p slot hits) told small before takes fits bound after =
      still_enough old new (ap (λ (c : DoorCounts). c.most) after) (ap (λ (c : DoorCounts). c.fulls) after) (let opens = ap (λ (c : DoorCounts). c.opens) after in omega (arith, opens)) before
  opens_after o o' old new (Fresh seat p) told small before takes fits bound after =
      still_enough old new (ap (λ (c : DoorCounts). c.most) after) (ap (λ (c : DoorCounts). c.fulls) after) (let opens = ap (λ (c : DoorCounts). c.opens) after in omega (arith, opens)) before
  opens_after o o' old new Memory told small before takes fits bound after =
      still_enough old new (ap (λ (c : DoorCounts). c.most) after) (ap (λ (c : DoorCounts). c.fulls) after) (let opens = ap (λ (c : DoorCounts). c.opens) after in omega (arith, opens)) before
