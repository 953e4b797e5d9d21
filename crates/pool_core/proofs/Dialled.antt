-- A session that is dialled: it is added, what has to make room is dropped, and then a member is chosen as at a redial
use Rattle.std.proofs.Common.{◌≡◌, ◌==◌, ◌&&◌, ℕ, ◌+◌, ◌-◌, ◌^◌, ◌<◌, ◌≤◌, min, Bool, true, false, cond, not, nat_lt, List, [], ◌∷◌, ◌++◌, length, get_or, map, filter, find, refl, sym, ◌∙◌, ap, subst, arith, All, Option, None, Some, option_map, IfSome}
use Rattle.std.specs.Option.{option_map_or}
use Rattle.std.specs.Cmp.{nat_eq_equiv}
use Rattle.std.proofs.lemmas.Bool.{eqb-true}
use Rattle.std.proofs.lemmas.List.{length-append, get_or_default}
use Rattle.std.proofs.lemmas.List.Elements.{All-push, All-filter, All-head, All-tail, All-weaker, filter-append}
use Rattle.z_types.specs.declared.address.Address.{Address}
use Rattle.z_types.specs.declared.address.Address.TheVariants.{Test}
use Rattle.z_types.specs.declared.sitting.Sitting as sitting
use Rattle.pool_sets.specs.declared.doors.Seat.{Seat}
use Rattle.pool_sets.specs.declared.doors.Taken.TheVariants.{Dial}
use Rattle.pool_sets.specs.Sessions.{Session, Idler, first_some, idle_in, is_out, without_number, open_of, member_for}
use Rattle.pool_sets.specs.Plain.{Ascends, Pool, address_at, with_sessions, without_idle, made_room, open_one, is_seat, without_seat, redial_member, redial}
use Rattle.pool_core.specs.PoolView.{IsPool, Rests, idle_number, without_named, out_session}
use Rattle.pool_core.proofs.Ascending.{ascends_push}
use Rattle.pool_core.proofs.Kept.{pool_filters}
use Rattle.pool_core.proofs.Numbers.{all_given}

pub address_is : (at : List Address) (m : ℕ) (a spot : Address) → m < length at → a ≡ get_or at m a → spot ≡ a → spot ≡ address_at at m
address_is at m a spot h e k = k ∙ e ∙ get_or_default at m a (Test 0) h

-- ---- the last of a list alone passes a test
module _ {X : Type 0} (q : X → Bool) (y : X) (is : q y ≡ true) where
  last_found : (xs : List X) → All (λ x. q x ≡ false) xs → find q (xs ++ y ∷ []) ≡ Some y
  last_found [] f = rw is refl
  last_found (x ∷ xs) f = rw (All-head (λ x. q x ≡ false) x xs f) (last_found xs (All-tail (λ x. q x ≡ false) x xs f))

  last_dropped : (xs : List X) → All (λ x. q x ≡ false) xs → filter (λ x. not (q x)) (xs ++ y ∷ []) ≡ xs
  last_dropped [] f = rw is refl
  last_dropped (x ∷ xs) f = rw (All-head (λ x. q x ≡ false) x xs f) (ap (λ r. x ∷ r) (last_dropped xs (All-tail (λ x. q x ≡ false) x xs f)))

  last_changed : (g : X → X) (xs : List X) → All (λ x. q x ≡ false) xs → map (λ x. cond (q x) (g x) x) (xs ++ y ∷ []) ≡ xs ++ g y ∷ []
  last_changed g [] f = rw is refl
  last_changed g (x ∷ xs) f = rw (All-head (λ x. q x ≡ false) x xs f) (ap (λ r. x ∷ r) (last_changed g xs (All-tail (λ x. q x ≡ false) x xs f)))

-- ---- numbers
is_not : (b : Bool) → (b ≡ true → ⊥) → b ≡ false
is_not true f = absurd (f refl)
is_not false f = refl

too_great : (n m : ℕ) → m ≤ n → m ≡ n + 1 → ⊥
too_great n m h e = omega arith

-- a number that was given is not the next
not_next : (n m : ℕ) → m ≤ n → (m == n + 1) ≡ false
not_next n m h = is_not (m == n + 1) (λ t. too_great n m h (eqb-true m (n + 1) t))

next_not : (n m : ℕ) → m ≤ n → (n + 1 == m) ≡ false
next_not n m h = is_not (n + 1 == m) (λ t. too_great n m h (sym (eqb-true (n + 1) m t)))

-- the seat of the next number
abbrev pub next_seat : ℕ → ℕ → Seat
next_seat class given = record { class = class; number = given + 1 }

some_map_or : {A B : Type 0} (b c : B) (o : Option A) (a : A) → o ≡ Some a → option_map_or (λ _. b) o c ≡ b
some_map_or b c None a h = cc
some_map_or b c (Some x) a h = refl

-- and its session
next_is_seat : (S : Type 0) (class given : ℕ) (login : Option (List ℕ)) (spot : Address) → is_seat (next_seat class given) (out_session {S = S} (given + 1) class login 0 spot) ≡ true
next_is_seat S class given login spot = rw (nat_eq_equiv.refl (given + 1), nat_eq_equiv.refl class) refl

module _ {S : Type 0} where
  -- the seat of the next number is that of no session
  no_seat_yet : (class given : ℕ) (os : List (Session S)) → All (λ o. o.number ≤ given) os → All (λ o. is_seat (next_seat class given) o ≡ false) os
  no_seat_yet class given os low =
      All-weaker (λ (o : Session S). o.number ≤ given) (λ o. is_seat (next_seat class given) o ≡ false)
      (λ o h. ap (λ b. b && (o.class == class) && is_out o.stand) (not_next given o.number h)) os low

  -- those that are left are of numbers that were given
  left_given : (number : Option ℕ) (given : ℕ) (os : List (Session S)) → All (λ o. o.number ≤ given) os → All (λ o. o.number ≤ given) (without_named number os)
  left_given None given os low = low
  left_given (Some n) given os low = All-filter (λ o. not (o.number == n)) (λ o. o.number ≤ given) os low

  -- the new one is not dropped
  new_stays : (number : Option ℕ) (given class : ℕ) (login : Option (List ℕ)) (spot : Address) (os : List (Session S)) → IfSome number (λ n. n ≤ given) → without_named number (os ++ out_session (given + 1) class login 0 spot ∷ []) ≡ without_named number os ++ out_session (given + 1) class login 0 spot ∷ []
  new_stays None given class login spot os h = refl
  new_stays (Some n) given class login spot os h =
      let new : Session S = out_session (given + 1) class login 0 spot in
      filter-append (λ o. not (o.number == n)) os (new ∷ []) ∙ ap (λ (b : Bool). without_number n os ++ cond (not b) (new ∷ []) []) (next_not given n h)

  -- the pool once it is added and the other dropped
  abbrev pub dialled : Pool S → List (Session S) → Pool S
  dialled p os = record { sessions = os; given = p.given + 1; max_sessions = p.max_sessions; sets_max = p.sets_max; session_ttl = p.session_ttl; set_ttl = p.set_ttl }

  abbrev pub added : Pool S → ℕ → Option (List ℕ) → Address → Option ℕ → Pool S
  added p class login spot number = dialled p (without_named number (p.sessions ++ out_session (p.given + 1) class login 0 spot ∷ []))

  module _ (class : ℕ) (at : List Address) (login : Option (List ℕ)) (p : Pool S) (spot : Address) (number : Option ℕ) (h : IfSome number (λ n. n ≤ p.given)) (a : Ascends 0 p.given p.sessions) where
    abbrev new : Session S
    new = out_session (p.given + 1) class login 0 spot

    abbrev left : List (Session S)
    left = without_named number p.sessions

    none_else : All (λ o. is_seat (next_seat class p.given) o ≡ false) left
    none_else = no_seat_yet class p.given left (left_given number p.given p.sessions (all_given 0 p.given p.sessions a))

    stays : without_named number (p.sessions ++ new ∷ []) ≡ left ++ new ∷ []
    stays = new_stays number p.given class login spot p.sessions h

    -- the member that is chosen is that of fewest sessions among those that are left
    chosen : redial_member (next_seat class p.given) at (added p class login spot number) ≡ member_for class at left
    chosen =
        let q = is_seat (next_seat class p.given) in
        ap (λ os. option_map_or (λ o. member_for class at (without_seat (next_seat class p.given) os)) (find q os) 0) stays
        ∙ some_map_or (member_for class at (without_seat (next_seat class p.given) (left ++ new ∷ []))) 0 (find q (left ++ new ∷ [])) new (last_found q new (next_is_seat S class p.given login spot) left none_else)
        ∙ ap (member_for class at) (last_dropped q new (next_is_seat S class p.given login spot) left none_else)

    -- so the pool after that is the plain pool's
    pub dial_plain : (member : ℕ) (after : Pool S) → made_room class at p ≡ Some (with_sessions left p) → nat_lt p.given (2 ^ 64 - 1) ≡ true →
        member ≡ redial_member (next_seat class p.given) at (added p class login spot number) → after ≡ redial (next_seat class p.given) at (added p class login spot number) →
        (Dial (record { class = class; number = p.given + 1 }) member, after) ≡ open_one class at login p
    dial_plain member after room fresh e k =
        let q = is_seat (next_seat class p.given) in
        let m = e ∙ chosen in
        let sessions : map (λ o. cond (q o) (out_session o.number o.class o.login (redial_member (next_seat class p.given) at (added p class login spot number)) (address_at at (redial_member (next_seat class p.given) at (added p class login spot number)))) o) (without_named number (p.sessions ++ new ∷ []))
        ≡ left ++ out_session (p.given + 1) class login (member_for class at left) (address_at at (member_for class at left)) ∷ [] =
        ap (λ os. map (λ o. cond (q o) (out_session o.number o.class o.login (redial_member (next_seat class p.given) at (added p class login spot number)) (address_at at (redial_member (next_seat class p.given) at (added p class login spot number)))) o) os) stays
        ∙ last_changed q new (next_is_seat S class p.given login spot) (λ o. out_session o.number o.class o.login (redial_member (next_seat class p.given) at (added p class login spot number)) (address_at at (redial_member (next_seat class p.given) at (added p class login spot number)))) left none_else
        ∙ ap (λ n. left ++ out_session (p.given + 1) class login n (address_at at n) ∷ []) chosen in
        rw (room, fresh) (λ i. (Dial (record { class = class; number = p.given + 1 }) (m i), (k ∙ ap (dialled p) sessions) i))

    -- the same, from the pool that stands before the member is chosen and its last number
    pub dial_from : (now after : Pool S) (last member : ℕ) → now ≡ added p class login spot number → last ≡ p.given + 1 → made_room class at p ≡ Some (with_sessions left p) → nat_lt p.given (2 ^ 64 - 1) ≡ true →
        member ≡ redial_member (record { class = class; number = last }) at now → after ≡ redial (record { class = class; number = last }) at now →
        (Dial (record { class = class; number = last }) member, after) ≡ open_one class at login p
    dial_from now after last member n l room fresh e k =
        let f = rw (l, n) at e in
        let j = rw (l, n) at k in
        rw l (dial_plain member after room fresh f j)

  without_that : (p : Pool S) (i : Option (Idler S)) (number : ℕ) → Some number ≡ option_map (λ (i : Idler S). i.number) i → option_map (without_idle p) i ≡ Some (with_sessions (without_number number p.sessions) p)
  without_that p None number e = cc
  without_that p (Some i) number e =
      let same : number ≡ i.number = cc in ap (λ n. Some (with_sessions (without_number n p.sessions) p)) (sym same)

  -- the first idle session is dropped where there may be no more
  pub room_without : (class : ℕ) (at : List Address) (p : Pool S) (number : ℕ) → false ≡ nat_lt (open_of class at p.sessions) p.max_sessions → Some number ≡ idle_number class at p.sessions → made_room class at p ≡ Some (with_sessions (without_number number p.sessions) p)
  room_without class at p number full first = rw (sym full) (without_that p (first_some (idle_in class at) p.sessions) number first)

  no_that : (p : Pool S) (i : Option (Idler S)) → None ≡ option_map (λ (i : Idler S). i.number) i → option_map (without_idle p) i ≡ None
  no_that p None e = refl
  no_that p (Some i) e = cc

  -- where none is idle there is no room
  pub no_room : (class : ℕ) (at : List Address) (p : Pool S) → false ≡ nat_lt (open_of class at p.sessions) p.max_sessions → None ≡ idle_number class at p.sessions → made_room class at p ≡ None
  no_room class at p full first = rw (sym full) (no_that p (first_some (idle_in class at) p.sessions) first)

  -- where fewer are open than there may be, all stay
  pub room_as_is : (class : ℕ) (at : List Address) (p : Pool S) → true ≡ nat_lt (open_of class at p.sessions) p.max_sessions → made_room class at p ≡ Some (with_sessions p.sessions p)
  room_as_is class at p few = rw (sym few) refl

module _ {W S : Type 0} (t : sitting.Ghosts S W) where
  bounded : (n k opens next : ℕ) → n ≡ k + 1 → k ≤ opens → k < 2 ^ 32 - 1 → next ≡ min (opens + 1) (2 ^ 64 - 1) → n ≤ next
  bounded n k opens next e h f m = omega arith

  fewer : (n k : ℕ) → n ≡ k + 1 → k < 2 ^ 32 - 1 → n < 2 ^ 32
  fewer n k e f = omega arith

  le_both : (a b c : ℕ) → a ≤ b → b ≤ c → a ≤ c
  le_both a b c h k = omega arith

  pub pool_dials : (os new : List (Session S)) (given opens next class member : ℕ) (login : Option (List ℕ)) (spot : Address) → new ≡ os ++ out_session (given + 1) class login member spot ∷ [] → length os < 2 ^ 32 - 1 → next ≡ min (opens + 1) (2 ^ 64 - 1) → IsPool t os given opens → IsPool t new (given + 1) next
  pool_dials os new given opens next class member login spot e f m k =
      let o : Session S = out_session (given + 1) class login member spot in
      let long : length new ≡ length os + 1 = ap length e ∙ length-append os (o ∷ []) in
      record {
        rests = subst (All (Rests t)) (sym e) (All-push (Rests t) os o k.rests tt);
        ascends = subst (Ascends 0 (given + 1)) (sym e) (ascends_push 0 given os o refl k.ascends);
        bound = bounded (length new) (length os) opens next long k.bound f m;
        few = fewer (length new) (length os) long f;
      }

  -- without one of them they keep what they keep
  pub pool_without : (number : ℕ) (os : List (Session S)) (given opens : ℕ) → IsPool t os given opens → IsPool t (without_number number os) given opens
  pool_without number os given opens k = pool_filters t (λ o. not (o.number == number)) os given opens k

  -- and where more were opened
  pub pool_more : (os : List (Session S)) (given opens next : ℕ) → opens ≤ next → IsPool t os given opens → IsPool t os given next
  pool_more os given opens next up k = record { rests = k.rests; ascends = k.ascends; bound = le_both (length os) opens next k.bound up; few = k.few }
