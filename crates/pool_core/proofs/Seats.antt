-- The session of a seat, at its place
use Rattle.std.proofs.Common.{◌≡◌, ◌==◌, ◌&&◌, ℕ, suc, zero, ◌<◌, ◌≤◌, ◌^◌, Bool, true, false, cond, nat_lt, List, [], ◌∷◌, length, get_or, set, map, find, Option, None, Some, is_some, refl, sym, ◌∙◌, ap, subst, arith, position}
use Rattle.std.specs.List.{position_or_len}
use Rattle.std.specs.Option.{option_map_or}
use Rattle.std.proofs.lemmas.Bool.{eqb-true, ltb-true, ltb-false, le-leb, lt-leb}
use Rattle.std.proofs.lemmas.List.{length-set}
use Rattle.std.proofs.lemmas.List.Elements.{All-set}
use Rattle.std.proofs.lemmas.List.Sums.{passes_at_first, fails_before_first}
use Rattle.z_types.specs.equality.Tests.{both_true}
use Rattle.z_types.specs.declared.address.Address.{Address}
use Rattle.z_types.specs.declared.sitting.Sitting as sitting
use Rattle.pool_sets.specs.declared.pooled.Parts.{Parts}
use Rattle.pool_sets.specs.declared.sessions.Stand.TheVariants.{Idle, Out}
use Rattle.pool_sets.specs.declared.doors.Seat.{Seat}
use Rattle.pool_sets.specs.Sessions.{Session, is_out, member_for}
use Rattle.pool_sets.specs.Plain.{Pool, address_at, without_seat, redial_member, redial, with_sessions, lost, put, is_seat, Ascends}
use Rattle.pool_core.specs.PoolView.{PoolView, IsPool, Rests}
use Rattle.pool_core.proofs.Ascending.{none_below, below_tail, stood, one_changes, ascends_put}

longer : (k n m : ℕ) → k < n → n ≤ m → k < m
longer k n m p q = omega arith

module _ {X : Type 0} (q : X → Bool) where
  -- the place of the first that passes
  pub place_of : (xs : List X) (i : ℕ) → position q xs ≡ Some i → (i < length xs) × ((d : X) → q (get_or xs i d) ≡ true)
  place_of xs i e = (elim (nat_lt (position_or_len q xs) (length xs)) as (λ b. nat_lt (position_or_len q xs) (length xs) ≡ b → (i < length xs) × ((d : X) → q (get_or xs i d) ≡ true)) [
    | true ↦ λ k.
        let is_i : Some (position_or_len q xs) ≡ Some i = subst (λ b. cond b (Some (position_or_len q xs)) None ≡ Some i) k e in
        let same : position_or_len q xs ≡ i = cc in
        let within = ltb-true (position_or_len q xs) (length xs) k in
        (subst (λ n. n < length xs) same within, λ d. subst (λ n. q (get_or xs n d) ≡ true) same (passes_at_first q xs d within))
    | false ↦ λ k. let bad : ◌≡◌ {A = Option ℕ} None (Some i) = subst (λ b. cond b (Some (position_or_len q xs)) None ≡ Some i) k e in cc
  ]) refl

  -- where there is none, all fail
  pub no_place : (xs : List X) → position q xs ≡ None → (k : ℕ) (d : X) → k < length xs → q (get_or xs k d) ≡ false
  no_place xs e k d h = (elim (nat_lt (position_or_len q xs) (length xs)) as (λ b. nat_lt (position_or_len q xs) (length xs) ≡ b → q (get_or xs k d) ≡ false) [
    | true ↦ λ t. let bad : ◌≡◌ {A = Option ℕ} (Some (position_or_len q xs)) None = subst (λ b. cond b (Some (position_or_len q xs)) None ≡ None) t e in cc
    | false ↦ λ t. fails_before_first q xs k d (longer k (length xs) (position_or_len q xs) h (ltb-false (position_or_len q xs) (length xs) t))
  ]) refl

  head_fails : (x : X) (xs : List X) → ((k : ℕ) (d : X) → k < length (x ∷ xs) → q (get_or (x ∷ xs) k d) ≡ false) → q x ≡ false
  head_fails x xs f = f 0 x (omega arith)

  pub none_found : (xs : List X) → ((k : ℕ) (d : X) → k < length xs → q (get_or xs k d) ≡ false) → find q xs ≡ None
  none_found [] f = refl
  none_found (x ∷ xs) f = rw (head_fails x xs f) (none_found xs (λ k d h. f (suc k) d (omega arith)))

  pub none_changes : (g : X → X) (xs : List X) → ((k : ℕ) (d : X) → k < length xs → q (get_or xs k d) ≡ false) → map (λ x. cond (q x) (g x) x) xs ≡ xs
  none_changes g [] f = refl
  none_changes g (x ∷ xs) f = rw (head_fails x xs f) (ap (λ r. x ∷ r) (none_changes g xs (λ k d h. f (suc k) d (omega arith))))

  pub some_found : (xs : List X) (i : ℕ) (d : X) → i < length xs → q (get_or xs i d) ≡ true → is_some (find q xs) ≡ true
  some_found [] i d p h = absurd (none_below i p)
  some_found (x ∷ xs) zero d p h = rw h refl
  some_found (x ∷ xs) (suc i) d p h =
      (elim (q x) as (λ b. is_some (cond b (Some x) (find q xs)) ≡ true) [
        | true ↦ refl
        | false ↦ some_found xs i d (below_tail i xs x p) h
      ])

pub at_some : {X : Type 0} (a b : ℕ) (o : Option X) → is_some o ≡ true → option_map_or (λ _. a) o b ≡ a
at_some a b None h = cc
at_some a b (Some x) h = refl

module _ {S : Type 0} where
  -- a seat names one number
  pub seat_number : (seat : Seat) (o : Session S) → is_seat seat o ≡ true → (o.number ≡ seat.number) × (is_out o.stand ≡ true)
  seat_number seat o h =
      let w = both_true ((o.number == seat.number) && (o.class == seat.class)) (is_out o.stand) h in
      let v = both_true (o.number == seat.number) (o.class == seat.class) w.0 in
      (eqb-true o.number seat.number v.0, w.1)

module _ {W S : Type 0} (t : sitting.Ghosts S W) where
  more_opens : (n a b : ℕ) → n ≤ a → a ≤ b → n ≤ b
  more_opens n a b p q = omega arith

  -- a session is changed in its place
  pub pool_put : (os : List (Session S)) (given opens next place : ℕ) (x d : Session S) → place < length os → x.number ≡ (get_or os place d).number → Rests t x → opens ≤ next → IsPool t os given opens → IsPool t (set os place x) given next
  pool_put os given opens next place x d within e r up k = record {
    rests = All-set (Rests t) os place x r k.rests;
    ascends = ascends_put 0 given place os x d within e k.ascends;
    bound = subst (λ n. n ≤ next) (sym (length-set os place x)) (more_opens (length os) opens next k.bound up);
    few = subst (λ n. n < 2 ^ 32) (sym (length-set os place x)) k.few;
  }

  -- a session goes out
  pub pool_out : (os : List (Session S)) (given opens place : ℕ) (o : Session S) (spot : Address) → place < length os → o ≡ get_or os place o → IsPool t os given opens → IsPool t (set os place (stood o (Out spot))) given opens
  pool_out os given opens place o spot within e k =
      pool_put os given opens opens place (stood o (Out spot)) o within (ap (λ x. x.number) e) tt (omega arith) k

module _ {S : Type 0} where
  abbrev pub idle_now : Parts S → ℕ → Session S → Session S
  idle_now parts now o = record { number = o.number; class = o.class; login = o.login; member = o.member; stand = Idle parts now }

  pub put_at : (seat : Seat) (parts : Parts S) (now : ℕ) (p : Pool S) (place : ℕ) (o : Session S) → place < length p.sessions → ((d : Session S) → is_seat seat (get_or p.sessions place d) ≡ true) → o ≡ get_or p.sessions place o → Ascends 0 p.given p.sessions → parts.table.most ≤ p.sets_max → with_sessions (set p.sessions place (idle_now parts now o)) p ≡ put seat parts now p
  put_at seat parts now p place o within is e a le =
      rw (le-leb parts.table.most p.sets_max le) (ap (λ os. with_sessions os p)
      (ap (λ x. set p.sessions place (idle_now parts now x)) e ∙ sym (one_changes (is_seat seat) (idle_now parts now) seat.number (λ x h. (seat_number seat x h).0) 0 p.given place p.sessions o within a (is o))))

  pub put_nowhere : (seat : Seat) (parts : Parts S) (now : ℕ) (p : Pool S) → ((k : ℕ) (d : Session S) → k < length p.sessions → is_seat seat (get_or p.sessions k d) ≡ false) → parts.table.most ≤ p.sets_max → p ≡ put seat parts now p
  put_nowhere seat parts now p none le =
      rw (le-leb parts.table.most p.sets_max le) (ap (λ os. with_sessions os p) (sym (none_changes (is_seat seat) (idle_now parts now) p.sessions none)))

  pub put_too_large : (seat : Seat) (parts : Parts S) (now : ℕ) (p : Pool S) → p.sets_max < parts.table.most → lost seat p ≡ put seat parts now p
  put_too_large seat parts now p h = rw (lt-leb parts.table.most p.sets_max h) refl

  -- a redialled session stands at its place
  abbrev pub moved : Seat → List Address → ℕ → Session S → Session S
  moved seat at m o = record { number = o.number; class = o.class; login = o.login; member = m; stand = Out (address_at at m) }

  pub redial_at : (seat : Seat) (at : List Address) (p : Pool S) (place : ℕ) (o : Session S) (m : ℕ) → place < length p.sessions → ((d : Session S) → is_seat seat (get_or p.sessions place d) ≡ true) → o ≡ get_or p.sessions place o → Ascends 0 p.given p.sessions → m ≡ redial_member seat at p → with_sessions (set p.sessions place (moved seat at m o)) p ≡ redial seat at p
  redial_at seat at p place o m within is e a k =
      subst (λ n. with_sessions (set p.sessions place (moved seat at m o)) p ≡ with_sessions (map (λ x. cond (is_seat seat x) (moved seat at n x) x) p.sessions) p) k
      (ap (λ os. with_sessions os p) (ap (λ x. set p.sessions place (moved seat at m x)) e ∙ sym (one_changes (is_seat seat) (moved seat at m) seat.number (λ x h. (seat_number seat x h).0) 0 p.given place p.sessions o within a (is o))))

  pub redial_nowhere : (seat : Seat) (at : List Address) (p : Pool S) → ((k : ℕ) (d : Session S) → k < length p.sessions → is_seat seat (get_or p.sessions k d) ≡ false) → p ≡ redial seat at p
  redial_nowhere seat at p none = ap (λ os. with_sessions os p) (sym (none_changes (is_seat seat) (moved seat at (redial_member seat at p)) p.sessions none))

  pub member_nowhere : (seat : Seat) (at : List Address) (p : Pool S) → ((k : ℕ) (d : Session S) → k < length p.sessions → is_seat seat (get_or p.sessions k d) ≡ false) → 0 ≡ redial_member seat at p
  member_nowhere seat at p none = rw (none_found (is_seat seat) p.sessions none) refl

  pub member_at : (seat : Seat) (at : List Address) (p : Pool S) (place : ℕ) (d : Session S) → place < length p.sessions → is_seat seat (get_or p.sessions place d) ≡ true → member_for seat.class at (without_seat seat p.sessions) ≡ redial_member seat at p
  member_at seat at p place d within is = sym (at_some (member_for seat.class at (without_seat seat p.sessions)) 0 (find (is_seat seat) p.sessions) (some_found (is_seat seat) p.sessions place d within is))

-- the same counts beside another pool
abbrev pub counted : {S : Type 0} → ℕ → ℕ → ℕ → Pool S → PoolView S
counted fulls opens booked p = record { pool = p; fulls = fulls; opens = opens; booked = booked }
