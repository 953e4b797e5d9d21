-- The laws of the plain pool
use Rattle.std.proofs.Common.{◌≡◌, ◌==◌, ◌&&◌, ◌-◌, ℕ, Bool, true, false, not, cond, nat_lt, nat_le, arith, List, [], ◌∷◌, map, filter, Option, None, Some, is_some, option_map, refl, sym, ◌∙◌, ap}
use Rattle.std.specs.Prelude.{if◌then◌else◌}
use Rattle.std.specs.List.{list_any, list_all}
use Rattle.std.specs.Option.{option_or}
use Rattle.std.proofs.lemmas.Bool.Decides.{leb_tells}
use Rattle.std.proofs.lemmas.Bool.{le-leb, lt-ltb}
use Rattle.z_types.specs.equality.Tests.{both_true}
use Rattle.z_types.specs.declared.key.SetKey.{SetKey}
use Rattle.z_types.specs.declared.address.Address.{Address}
use Rattle.z_types.specs.Logins.{same_login, inner, login_of}
use Rattle.pool_sets.specs.declared.pooled.Parts.{Parts}
use Rattle.pool_sets.specs.declared.sessions.Stand.{Stand}
use Rattle.pool_sets.specs.declared.sessions.Stand.TheVariants.{Idle, Out}
use Rattle.pool_sets.specs.declared.doors.Seat.{Seat}
use Rattle.pool_sets.specs.declared.doors.Taken.TheVariants.{Memory}
use Rattle.pool_sets.specs.Table.{Entry, set_of, after_expire}
use Rattle.pool_sets.specs.Sessions.{Session, Idler, first_some, idle_in, idle_for, idle_with, idler, in_class, is_for, stand_login, with_set, is_among, is_out, with_stand, open_of, member_for}
use Rattle.pool_sets.specs.Plain.{Pool, with_sessions, without_idle, expire, take_any, made_room, dial_in, open_one, any_idle, one_idle, dial_for, has_number, is_seat, idle_again, stays_open, with_fresh_sets}
use Rattle.pool_sets.specs.Counts.{is_full}
use Rattle.pool_sets.specs.PoolLaws.{PutIsReused, FullExactly, GivesOwn, is_reuse, is_out_for, is_full_for, is_given_for}

not_below_is : (a b : ℕ) → nat_le b a ≡ not (nat_lt a b)
not_below_is a b = grind (arith, leb_tells)

or_some : {Y : Type 0} (a b : Option Y) → is_some b ≡ true → is_some (option_or a b) ≡ true
or_some None b h = h
or_some (Some y) b h = refl

some_or : {Y : Type 0} (a b : Option Y) → is_some a ≡ true → is_some (option_or a b) ≡ true
some_or None b h = cc
some_or (Some y) b h = refl

some_map : {A B : Type 0} (m : A → B) (o : Option A) → is_some o ≡ true → is_some (option_map m o) ≡ true
some_map m None h = cc
some_map m (Some x) h = refl

and_false : (b : Bool) → (b && false) ≡ false
and_false true = refl
and_false false = refl

module _ {X Y : Type 0} (f : X → Option Y) where
  -- of a changed item that stays something is given, whatever stays beside it
  changed_gives : (g r : X → X) (s q own : X → Bool) → ((x : X) → own x ≡ true → (q x ≡ true) × (s (r x) ≡ true) × (is_some (f (g (r x))) ≡ true)) → (xs : List X) → list_any own xs ≡ true → is_some (first_some f (map g (filter s (map (λ x. if q x then r x else x) xs)))) ≡ true
  changed_gives g r s q own gives [] h = cc
  changed_gives g r s q own gives (x ∷ xs) h =
      let tail = map (λ y. if q y then r y else y) xs in
      (elim (own x) as (λ b. own x ≡ b → is_some (first_some f (map g (filter s ((if q x then r x else x) ∷ tail)))) ≡ true) [
        | true ↦ λ t. let w = gives x t in rw (w.0, w.1) (some_or (f (g (r x))) (first_some f (map g (filter s tail))) w.2)
        | false ↦ λ t.
            let rest = changed_gives g r s q own gives xs (rw t at h) in
            let y = if q x then r x else x in
            (elim (s y) as (λ b. is_some (first_some f (map g (cond b (y ∷ filter s tail) (filter s tail)))) ≡ true) [
              | true ↦ or_some (f (g y)) (first_some f (map g (filter s tail))) rest
              | false ↦ rest
            ])
      ]) refl

  -- nothing is given exactly where of no item something is
  none_given : (xs : List X) → list_all (λ x. not (is_some (f x))) xs ≡ not (is_some (first_some f xs))
  none_given [] = refl
  none_given (x ∷ xs) = (elim (f x) as (λ o. (not (is_some o) && list_all (λ y. not (is_some (f y))) xs) ≡ not (is_some (option_or o (first_some f xs)))) [
    | None ↦ none_given xs
    | Some y ↦ refl
  ])

  -- what is given first has what all that is given has
  first_has : (P : Y → Type 0) → ((x : X) (y : Y) → f x ≡ Some y → P y) → (xs : List X) (y : Y) → first_some f xs ≡ Some y → P y
  first_has P each [] y h = cc
  first_has P each (x ∷ xs) y h = (elim (f x) as (λ o. f x ≡ o → option_or o (first_some f xs) ≡ Some y → P y) [
    | None ↦ λ k e. first_has P each xs y e
    | Some z ↦ λ k e. each x y (k ∙ e)
  ]) refl h

module _ {S : Type 0} where
  -- where a session holds a set of the key, the take is a reuse
  reuse_case : (class now : ℕ) (at : List Address) (login : Option (List ℕ)) (key : SetKey) (p : Pool S) (h : Option (Idler S × Entry)) → is_some h ≡ true → is_reuse (one_idle class at login key now p h).0 ≡ true
  reuse_case class now at login key p None k = cc
  reuse_case class now at login key p (Some h) k = refl

  -- the session of the seat holds a set of the key, once it is put back
  holds_then : (seat : Seat) (parts : Parts S) (at : List Address) (login : Option (List ℕ)) (key : SetKey) (since now ttl : ℕ) → is_among at (inner parts.address) ≡ true → same_login login (login_of parts.address) ≡ true → is_some (set_of key (after_expire now ttl parts.table)) ≡ true → (o : Session S) → is_out_for seat login o ≡ true → is_some (idle_with seat.class at login key (with_fresh_sets now ttl (with_stand (Idle parts since) o))) ≡ true
  holds_then seat parts at login key since now ttl among own holds o is =
      let u = both_true (is_seat seat o) (same_login login o.login) is in
      let w = both_true ((o.number == seat.number) && (o.class == seat.class)) (is_out o.stand) u.0 in
      let v = both_true (o.number == seat.number) (o.class == seat.class) w.0 in
      rw (u.1, own, v.1, among) (some_map (λ e. (_, e)) (set_of key (after_expire now ttl parts.table)) holds)

  pub put_reused : PutIsReused S
  put_reused p seat parts at login key since now out small among own fresh holds =
      let f = idle_with seat.class at login key in
      let some = changed_gives f (with_fresh_sets now p.set_ttl) (with_stand (Idle parts since)) (stays_open now p.session_ttl) (is_seat seat) (is_out_for seat login)
      (λ o is. ((both_true (is_seat seat o) (same_login login o.login) is).0, lt-ltb (now - since) p.session_ttl fresh, holds_then seat parts at login key since now p.set_ttl among own holds o is)) p.sessions out in
      rw (le-leb parts.table.most p.sets_max small) (reuse_case seat.class now at login key (expire now (with_sessions (map (idle_again seat parts since) p.sessions) p)) _ some)

  -- what holds a set is idle
  held_is_idle : (class : ℕ) (at : List Address) (login : Option (List ℕ)) (key : SetKey) (os : List (Session S)) → is_some (first_some (idle_with class at login key) os) ≡ true → is_some (first_some (idle_for class at login) os) ≡ true
  held_is_idle class at login key [] h = cc
  held_is_idle class at login key (o ∷ os) h = (elim (idle_for class at login o) as (λ i. is_some (option_or (with_set key i) (first_some (idle_with class at login key) os)) ≡ true → is_some (option_or i (first_some (idle_for class at login) os)) ≡ true) [
    | None ↦ λ k. held_is_idle class at login key os k
    | Some i ↦ λ k. refl
  ]) h

  -- what is of the class and login is of the class
  own_is_idle : (class : ℕ) (at : List Address) (login : Option (List ℕ)) (os : List (Session S)) → is_some (first_some (idle_for class at login) os) ≡ true → is_some (first_some (idle_in class at) os) ≡ true
  own_is_idle class at login [] h = cc
  own_is_idle class at login (o ∷ os) h = (elim (is_for login o) as (λ b. is_some (option_or (cond b (idle_in class at o) None) (first_some (idle_for class at login) os)) ≡ true → is_some (option_or (idle_in class at o) (first_some (idle_in class at) os)) ≡ true) [
    | true ↦ (elim (idle_in class at o) as (λ i. is_some (option_or i (first_some (idle_for class at login) os)) ≡ true → is_some (option_or i (first_some (idle_in class at) os)) ≡ true) [
      | None ↦ λ k. own_is_idle class at login os k
      | Some i ↦ λ k. refl
    ])
    | false ↦ λ k. or_some (idle_in class at o) (first_some (idle_in class at) os) (own_is_idle class at login os k)
  ]) h

  -- where there is room it is not full
  dial_not_full : (class : ℕ) (at : List Address) (login : Option (List ℕ)) (p q : Pool S) → is_full (dial_in class at login p (Some q)).0 ≡ false
  dial_not_full class at login p q =
      (elim (has_number q) as (λ b. is_full (if b then dial_for class at login (member_for class at q.sessions) q else (Memory, p)).0 ≡ false) [ true ↦ refl | false ↦ refl ])

  open_full : (class : ℕ) (at : List Address) (login : Option (List ℕ)) (p : Pool S) → is_full (open_one class at login p).0 ≡ is_full_for class at p
  open_full class at login p =
      rw (none_given (idle_in class at) p.sessions, not_below_is (open_of class at p.sessions) p.max_sessions)
      ((elim (nat_lt (open_of class at p.sessions) p.max_sessions) as (λ b. (i : Option (Idler S)) → is_full (dial_in class at login p (if b then Some p else option_map (without_idle p) i)).0 ≡ (not (is_some i) && not b)) [
        | true ↦ λ i. dial_not_full class at login p p ∙ sym (and_false (not (is_some i)))
        | false ↦ λ i. (elim i as (λ i. is_full (dial_in class at login p (option_map (without_idle p) i)).0 ≡ (not (is_some i) && true)) [
          | None ↦ refl
          | Some j ↦ dial_not_full class at login p (without_idle p j)
        ])
      ]) (first_some (idle_in class at) p.sessions))

  not_full : (class : ℕ) (at : List Address) (p : Pool S) → is_some (first_some (idle_in class at) p.sessions) ≡ true → is_full_for class at p ≡ false
  not_full class at p h =
      ap (λ b. b && nat_le p.max_sessions (open_of class at p.sessions)) (none_given (idle_in class at) p.sessions ∙ ap not h)

  any_full : (class : ℕ) (at : List Address) (login : Option (List ℕ)) (p : Pool S) (i : Option (Idler S)) → first_some (idle_for class at login) p.sessions ≡ i → is_full (any_idle class at login p i).0 ≡ is_full_for class at p
  any_full class at login p None e = open_full class at login p
  any_full class at login p (Some i) e = sym (not_full class at p (own_is_idle class at login p.sessions (ap is_some e)))

  take_any_full : (class : ℕ) (at : List Address) (login : Option (List ℕ)) (p : Pool S) → is_full (take_any class at login p).0 ≡ is_full_for class at p
  take_any_full class at login p = any_full class at login p (first_some (idle_for class at login) p.sessions) refl

  one_full : (class now : ℕ) (at : List Address) (login : Option (List ℕ)) (key : SetKey) (p : Pool S) (h : Option (Idler S × Entry)) → first_some (idle_with class at login key) p.sessions ≡ h → is_full (one_idle class at login key now p h).0 ≡ is_full_for class at p
  one_full class now at login key p None e = take_any_full class at login p
  one_full class now at login key p (Some h) e = sym (not_full class at p (own_is_idle class at login p.sessions (held_is_idle class at login key p.sessions (ap is_some e))))

  pub full_exactly : FullExactly S
  full_exactly p class now at login None = take_any_full class at login (expire now p)
  full_exactly p class now at login (Some key) = one_full class now at login key (expire now p) (first_some (idle_with class at login key) (expire now p).sessions) refl

  -- ---- what is given is of the login

  -- an idle session's parts are inside the login
  abbrev IsOwn : Option (List ℕ) → Idler S → Type 0
  IsOwn login i = same_login login (login_of i.parts.address) ≡ true

  stand_own : (class number : ℕ) (at : List Address) (login own : Option (List ℕ)) (s : Stand (Parts S) Address) (b : Bool) (i : Idler S) → same_login login (stand_login own s) ≡ true → cond b (idler number s) None ≡ Some i → IsOwn login i
  stand_own class number at login own (Idle parts since) true i h k =
      let e : record { number = number; parts = parts } ≡ i = cc in rw (← e) h
  stand_own class number at login own (Idle parts since) false i h k = cc
  stand_own class number at login own (Out address) true i h k = cc
  stand_own class number at login own (Out address) false i h k = cc

  idle_own : (class : ℕ) (at : List Address) (login : Option (List ℕ)) (o : Session S) (i : Idler S) → idle_for class at login o ≡ Some i → IsOwn login i
  idle_own class at login o i k = (elim (is_for login o) as (λ b. is_for login o ≡ b → cond b (idle_in class at o) None ≡ Some i → IsOwn login i) [
    | true ↦ λ b e. stand_own class o.number at login o.login o.stand (in_class class at o) i (both_true (same_login login o.login) (same_login login (stand_login o.login o.stand)) b).1 e
    | false ↦ λ b e. cc
  ]) refl k

  same_idler : (i : Idler S) (e : Option Entry) (h : Idler S × Entry) → option_map (λ e. (i, e)) e ≡ Some h → i ≡ h.0
  same_idler i None h f = cc
  same_idler i (Some e) h f = let w : ◌≡◌ {A = Idler S × Entry} (i, e) h = cc in ap (λ (x : Idler S × Entry). x.0) w

  held_own : (class : ℕ) (at : List Address) (login : Option (List ℕ)) (key : SetKey) (o : Session S) (h : Idler S × Entry) → idle_with class at login key o ≡ Some h → IsOwn login h.0
  held_own class at login key o h k = (elim (idle_for class at login o) as (λ i. idle_for class at login o ≡ i → with_set key i ≡ Some h → IsOwn login h.0) [
    | None ↦ λ e f. cc
    | Some i ↦ λ e f. idle_own class at login o h.0 (e ∙ ap Some (same_idler i (set_of key i.parts.table) h f))
  ]) refl k

  dialled_own : (class : ℕ) (at : List Address) (login : Option (List ℕ)) (p : Pool S) (q : Option (Pool S)) → is_given_for login (dial_in class at login p q).0 ≡ true
  dialled_own class at login p None = refl
  dialled_own class at login p (Some q) =
      (elim (has_number q) as (λ b. is_given_for login (if b then dial_for class at login (member_for class at q.sessions) q else (Memory, p)).0 ≡ true) [ true ↦ refl | false ↦ refl ])

  any_own : (class : ℕ) (at : List Address) (login : Option (List ℕ)) (p : Pool S) (i : Option (Idler S)) → first_some (idle_for class at login) p.sessions ≡ i → is_given_for login (any_idle class at login p i).0 ≡ true
  any_own class at login p None e = dialled_own class at login p (made_room class at p)
  any_own class at login p (Some i) e = first_has (idle_for class at login) (IsOwn login) (idle_own class at login) p.sessions i e

  one_own : (class now : ℕ) (at : List Address) (login : Option (List ℕ)) (key : SetKey) (p : Pool S) (h : Option (Idler S × Entry)) → first_some (idle_with class at login key) p.sessions ≡ h → is_given_for login (one_idle class at login key now p h).0 ≡ true
  one_own class now at login key p None e = any_own class at login p (first_some (idle_for class at login) p.sessions) refl
  one_own class now at login key p (Some h) e = first_has (idle_with class at login key) (λ (h : Idler S × Entry). IsOwn login h.0) (held_own class at login key) p.sessions h e

  pub gives_own : GivesOwn S
  gives_own p class now at login None = any_own class at login (expire now p) (first_some (idle_for class at login) (expire now p).sessions) refl
  gives_own p class now at login (Some key) = one_own class now at login key (expire now p) (first_some (idle_with class at login key) (expire now p).sessions) refl
