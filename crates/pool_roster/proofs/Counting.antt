-- What is counted and found of sessions does not hang on their sets
use Rattle.std.proofs.Common.{◌≡◌, ◌==◌, ◌&&◌, ℕ, ◌+◌, Bool, true, false, cond, not, nat_lt, List, [], ◌∷◌, length, map, filter, count_by, position, Option, None, Some, is_some, refl, sym, ◌∙◌, ap}
use Rattle.std.specs.List.{position_or_len, range_with_len}
use Rattle.std.proofs.lemmas.List.{length-map}
use Rattle.std.proofs.lemmas.List.Sums.{length-filter}
use Rattle.z_types.specs.declared.address.Address.{Address}
use Rattle.load_balance.specs.Least.{least_place}
use Rattle.pool_sets.specs.declared.doors.Seat.{Seat}
use Rattle.pool_sets.specs.Sessions.{Session, in_class, is_of_member, idle_in, idle_for, without_number, open_of, member_for}
use Rattle.pool_sets.specs.Plain.{is_seat, without_seat, with_fresh_sets}
use Rattle.pool_core.specs.Loads.{is_counted}
use Rattle.pool_core.specs.PoolView.{idle_place, own_place}
use Rattle.pool_core.proofs.Loads.{count_of_filter}
use Rattle.pool_roster.specs.declared.berth.Berth.{Berth}
use Rattle.pool_roster.specs.declared.berth.Expiries.{Expiries}
use Rattle.pool_roster.specs.Told.{seen, told}
use Rattle.pool_roster.proofs.Lazy.{seen_number, seen_class, seen_seat, seen_idle, seen_own}

module _ {X Y : Type 0} (p : Y → Bool) (q : X → Bool) (f : X → Y) (same : (x : X) → p (f x) ≡ q x) where
  place_same : (xs : List X) → position_or_len p (map f xs) ≡ position_or_len q xs
  place_same [] = refl
  place_same (x ∷ xs) = λ i. cond (not (same x i)) (1 + place_same xs i) 0

  -- the first that passes stands at one place
  pub position_same : (xs : List X) → position p (map f xs) ≡ position q xs
  position_same xs = rw (place_same xs, length-map xs f) refl

  -- the same are left
  pub filter_same : (xs : List X) → filter p (map f xs) ≡ map f (filter q xs)
  filter_same [] = refl
  filter_same (x ∷ xs) = (elim (q x) as (λ b. q x ≡ b → filter p (map f (x ∷ xs)) ≡ map f (cond b (x ∷ filter q xs) (filter q xs))) [
    | true ↦ λ t. rw (same x, t) (ap (λ r. f x ∷ r) (filter_same xs))
    | false ↦ λ t. rw (same x, t) (filter_same xs)
  ]) refl

  -- as many pass
  pub count_same : (xs : List X) → count_by p (map f xs) ≡ count_by q xs
  count_same xs = sym (length-filter p (map f xs)) ∙ ap length (filter_same xs) ∙ length-map (filter q xs) f ∙ length-filter q xs

module _ {S : Type 0} (x : Expiries) (ttl : ℕ) where
  pub told_open : (class : ℕ) (at : List Address) (bs : List (Berth (Session S))) → count_by (λ b. in_class class at b.session) bs ≡ open_of class at (told x ttl bs)
  told_open class at bs = sym (count_same (in_class class at) (λ b. in_class class at b.session) (seen x ttl) (seen_class x ttl class at) bs)

  pub told_seat : (seat : Seat) (bs : List (Berth (Session S))) → position (λ b. is_seat seat b.session) bs ≡ position (is_seat seat) (told x ttl bs)
  told_seat seat bs = sym (position_same (is_seat seat) (λ b. is_seat seat b.session) (seen x ttl) (seen_seat x ttl seat) bs)

  pub told_idle : (class : ℕ) (at : List Address) (bs : List (Berth (Session S))) → position (λ b. is_some (idle_in class at b.session)) bs ≡ idle_place class at (told x ttl bs)
  told_idle class at bs = sym (position_same (λ o. is_some (idle_in class at o)) (λ b. is_some (idle_in class at b.session)) (seen x ttl) (seen_idle x ttl class at) bs)

  pub told_own : (class : ℕ) (at : List Address) (login : Option (List ℕ)) (bs : List (Berth (Session S))) → position (λ b. is_some (idle_for class at login b.session)) bs ≡ own_place class at login (told x ttl bs)
  told_own class at login bs = sym (position_same (λ o. is_some (idle_for class at login o)) (λ b. is_some (idle_for class at login b.session)) (seen x ttl) (seen_own x ttl class at login) bs)

  pub told_without_number : (number : ℕ) (bs : List (Berth (Session S))) → told x ttl (filter (λ b. not (b.session.number == number)) bs) ≡ without_number number (told x ttl bs)
  told_without_number number bs = sym (filter_same (λ o. not (o.number == number)) (λ b. not (b.session.number == number)) (seen x ttl) (λ b. ap (λ n. not (n == number)) (seen_number x ttl b)) bs)

  pub told_without : (seat : Seat) (bs : List (Berth (Session S))) → told x ttl (filter (λ b. not (is_seat seat b.session)) bs) ≡ without_seat seat (told x ttl bs)
  told_without seat bs = sym (filter_same (λ o. not (is_seat seat o)) (λ b. not (is_seat seat b.session)) (seen x ttl) (λ b. ap not (seen_seat x ttl seat b)) bs)

  counted_same : (but : Option Seat) (b : Berth (Session S)) → is_counted but (seen x ttl b) ≡ is_counted but b.session
  counted_same None b = refl
  counted_same (Some seat) b = ap not (seen_seat x ttl seat b)

  member_is : (b : Berth (Session S)) → (seen x ttl b).member ≡ b.session.member
  member_is b = (elim (nat_lt b.stamp x.count) as (λ t. (cond t (with_fresh_sets x.last ttl b.session) b.session).member ≡ b.session.member) [ true ↦ refl | false ↦ refl ])

  member_same : (class m : ℕ) (at : List Address) (b : Berth (Session S)) → is_of_member class at m (seen x ttl b) ≡ is_of_member class at m b.session
  member_same class m at b = λ i. seen_class x ttl class at b i && (member_is b i == m)

  load_same : (but : Option Seat) (class m : ℕ) (at : List Address) (bs : List (Berth (Session S))) →
      count_by (is_of_member class at m) (filter (is_counted but) (told x ttl bs)) ≡ count_by (is_of_member class at m) (filter (is_counted but) (map (λ b. b.session) bs))
  load_same but class m at bs =
      count_of_filter (is_of_member class at m) (is_counted but) (told x ttl bs)
      ∙ count_same (λ o. is_counted but o && is_of_member class at m o) (λ b. is_counted but b.session && is_of_member class at m b.session) (seen x ttl)
      (λ b. λ i. counted_same but b i && member_same class m at b i) bs
      ∙ sym (count_same (λ o. is_counted but o && is_of_member class at m o) (λ b. is_counted but b.session && is_of_member class at m b.session) (λ b. b.session) (λ b. refl) bs)
      ∙ sym (count_of_filter (is_of_member class at m) (is_counted but) (map (λ b. b.session) bs))

  -- the member of fewest sessions is one
  pub told_member : (but : Option Seat) (class : ℕ) (at : List Address) (bs : List (Berth (Session S))) →
      member_for class at (filter (is_counted but) (map (λ b. b.session) bs)) ≡ member_for class at (filter (is_counted but) (told x ttl bs))
  told_member but class at bs = λ i. least_place (map (λ m. sym (load_same but class m at bs) i) (range_with_len 0 (length at)))
