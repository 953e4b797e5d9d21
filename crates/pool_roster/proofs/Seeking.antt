-- The first session that passes a test, by its number
use Rattle.std.proofs.Common.{◌≡◌, ◌≢◌, ℕ, suc, zero, ◌+◌, ◌<◌, ◌≤◌, ◌^◌, nat_lt, Bool, true, false, List, [], ◌∷◌, length, get_or, Option, None, Some, refl, sym, ◌∙◌, ap, subst, arith, All, Contains, position}
use Rattle.std.specs.List.{position_or_len}
use Rattle.std.proofs.lemmas.Bool.Decides.{leb_tells}
use Rattle.std.specs.List.Sorted.{IsNonDecreasingBy, IsPartitionPoint}
use Rattle.std.proofs.lemmas.List.{get_or_default}
use Rattle.std.proofs.lemmas.List.Elements.{All-map, All-weaker}
use Rattle.std.proofs.lemmas.Bool.{false_from_ne_true, lt-ltb, ltb-true, ltb-false}
use Rattle.std.proofs.Math.Numerals.{one-add}
use Rattle.z_types.specs.declared.key.SetKey.{SetKey}
use Rattle.z_types.specs.declared.address.Address.{Address}
use Rattle.pool_sets.specs.declared.doors.Seat.{Seat}
use Rattle.pool_sets.specs.Sessions.{Session}
use Rattle.pool_sets.specs.Plain.{is_seat}
use Rattle.pool_core.proofs.Seats.{seat_number}
use Rattle.pool_keys.specs.Pairs.{Indexed, IsNext, IsAtMost, pair}
use Rattle.pool_roster.specs.declared.berth.Berth.{Berth}
use Rattle.pool_roster.specs.declared.berth.Expiries.{Expiries}
use Rattle.pool_roster.specs.Told.{seen, told}
use Rattle.pool_roster.specs.RosterView.{Rises, IsPlace, RiseIn, is_holder, IsOneOf, IsNoneOf}
use Rattle.pool_roster.proofs.Lazy.{seen_number}

no_less : (n : ℕ) → nat_lt n n ≡ false
no_less n = grind (arith, leb_tells)

none_under : (i : ℕ) → i < 0 → ⊥
none_under i h = omega arith

module _ {X : Type 0} (q : X → Bool) where
  place_or_len : (xs : List X) (i : ℕ) → i < length xs → ((d : X) → q (get_or xs i d) ≡ true) → ((k : ℕ) (d : X) → k < i → q (get_or xs k d) ≡ false) → position_or_len q xs ≡ i
  place_or_len [] i w h f = absurd (none_under i w)
  place_or_len (x ∷ xs) zero w h f = rw (h x) refl
  place_or_len (x ∷ xs) (suc i) w h f = rw (f 0 x (omega arith)) (ap (λ n. 1 + n) (place_or_len xs i (omega arith) h (λ k d l. f (suc k) d (omega arith))) ∙ one-add i)

  -- the place of the first that passes
  pub place_is : (xs : List X) (i : ℕ) → i < length xs → ((d : X) → q (get_or xs i d) ≡ true) → ((k : ℕ) (d : X) → k < i → q (get_or xs k d) ≡ false) → position q xs ≡ Some i
  place_is xs i w h f = rw (place_or_len xs i w h f, lt-ltb i (length xs) w) refl

  all_fail : (xs : List X) → All (λ x. q x ≡ false) xs → position_or_len q xs ≡ length xs
  all_fail [] f = refl
  all_fail (x ∷ xs) f = rw (f 0 x (omega arith)) (ap (λ n. 1 + n) (all_fail xs (λ k d l. f (suc k) d (omega arith))) ∙ one-add (length xs))

  -- where none passes, there is no place
  pub no_place_is : (xs : List X) → All (λ x. q x ≡ false) xs → position q xs ≡ None
  no_place_is xs f = rw (all_fail xs f, no_less (length xs)) refl

lower : (a b c : ℕ) → a < b → b ≤ c → a < c
lower a b c h k = omega arith

too_low : (n m : ℕ) → n ≤ m → m < n → ⊥
too_low n m h k = omega arith

-- the sessions that pass a test are found under a digest
abbrev pub AreFound : {S : Type 0} → Indexed → ℕ → (Session S → Bool) → List (Session S) → Type 0
AreFound index digest q os = All (λ o. q o ≡ true → Contains index.pairs (pair digest o.number)) os

-- no session of a lesser number passes
abbrev pub NoneUnder : {S : Type 0} → (Session S → Bool) → List (Session S) → ℕ → Type 0
NoneUnder q os from = All (λ o. o.number < from → q o ≡ false) os

module _ {S : Type 0} (index : Indexed) (digest : ℕ) (q : Session S → Bool) (os : List (Session S)) (up : RiseIn os) (found : AreFound index digest q os) where
  abbrev NoneBelow : ℕ → Type 0
  NoneBelow from = NoneUnder q os from

  -- a session that passes has at least the number that is next
  at_least : (from : ℕ) (n : Option ℕ) → NoneBelow from → IsNext index digest from n → (k : ℕ) (d : Session S) → k < length os → q (get_or os k d) ≡ true → IsAtMost n (get_or os k d).number
  at_least from n none next k d w h = (elim (nat_lt (get_or os k d).number from) as (λ b. nat_lt (get_or os k d).number from ≡ b → IsAtMost n (get_or os k d).number) [
    | true ↦ λ t. let bad : true ≡ false = sym h ∙ none k d w (ltb-true (get_or os k d).number from t) in cc
    | false ↦ λ t. next.least (get_or os k d).number (ltb-false (get_or os k d).number from t) (up.small k d w) (found k d w h)
  ]) refl

  pub place_found : (from n i : ℕ) → NoneBelow from → IsNext index digest from (Some n) → IsOneOf q n os i → position q os ≡ Some i
  place_found from n i none next is =
      place_is q os i is.within is.passes (λ k d l. false_from_ne_true (q (get_or os k d)) (λ t.
      let low = subst (λ m. (get_or os k d).number < m) (is.number_there d) (up.order k i d l is.within) in
      too_low n (get_or os k d).number (at_least from (Some n) none next k d (omega arith) t) low))

  pub none_found : (from : ℕ) → NoneBelow from → IsNext index digest from None → position q os ≡ None
  none_found from none next = no_place_is q os (λ k d w. false_from_ne_true (q (get_or os k d)) (λ t. at_least from None none next k d w t))

  one_case : (n m : ℕ) → n ≤ m → m < n + 1 → m ≡ n
  one_case n m h k = omega arith

  -- where that of the number that is next does not pass, no session up to that number does
  pub none_more : (from n : ℕ) → NoneBelow from → IsNext index digest from (Some n) → IsNoneOf q n os → NoneBelow (n + 1)
  none_more from n none next lacks k d w l = false_from_ne_true (q (get_or os k d)) (λ t.
      let bad : true ≡ false = sym t ∙ lacks k d w (one_case n (get_or os k d).number (at_least from (Some n) none next k d w t) l) in cc)

  -- no number is above the last
  pub none_last : (from : ℕ) → 2 ^ 64 ≤ from → NoneBelow from → position q os ≡ None
  none_last from h none = no_place_is q os (λ k d w. none k d w (lower (get_or os k d).number (2 ^ 64) from (up.small k d w) h))

apart : (a b n : ℕ) → a < b → a ≡ n → b ≡ n → ⊥
apart a b n h e f = omega arith

same_place : (k i : ℕ) → i ≤ k → k ≤ i → k ≡ i
same_place k i h l = omega arith

at_most : (a b : ℕ) → a < b → a ≤ b
at_most a b h = omega arith

same_le : (a b : ℕ) → a ≡ b → a ≤ b
same_le a b e = omega arith

not_under : (m n : ℕ) → m < n → m ≡ n → ⊥
not_under m n h e = omega arith

module _ {S : Type 0} where
  number_at : (bs : List (Berth (Session S))) (i j : ℕ) (d : Berth (Session S)) → i ≡ j → (get_or bs i d).session.number ≤ (get_or bs j d).session.number
  number_at bs i j d e = same_le (get_or bs i d).session.number (get_or bs j d).session.number (ap (λ k. (get_or bs k d).session.number) e)

  -- numbers that rise do not fall
  pub not_falling : (bs : List (Berth (Session S))) → Rises bs → IsNonDecreasingBy (λ b. b.session.number) bs
  not_falling bs up i j d h w = (elim (nat_lt i j) as (λ t. nat_lt i j ≡ t → (get_or bs i d).session.number ≤ (get_or bs j d).session.number) [
    | true ↦ λ t. at_most (get_or bs i d).session.number (get_or bs j d).session.number (up i j d (ltb-true i j t) w)
    | false ↦ λ t. number_at bs i j d (same_place i j (ltb-false i j t) h)
  ]) refl

  -- one session has a number
  pub one_place : (number : ℕ) (bs : List (Berth (Session S))) (i : ℕ) → Rises bs → IsPlace number bs i → (k : ℕ) (d : Berth (Session S)) → k < length bs → (get_or bs k d).session.number ≡ number → k ≡ i
  one_place number bs i up is k d w e = (elim (nat_lt k i) as (λ t. nat_lt k i ≡ t → k ≡ i) [
    | true ↦ λ t. absurd (apart (get_or bs k d).session.number (get_or bs i d).session.number number (up k i d (ltb-true k i t) is.within) e (is.number_there d))
    | false ↦ λ t. (elim (nat_lt i k) as (λ u. nat_lt i k ≡ u → k ≡ i) [
      | true ↦ λ u. absurd (apart (get_or bs i d).session.number (get_or bs k d).session.number number (up i k d (ltb-true i k u) w) (is.number_there d) e)
      | false ↦ λ u. same_place k i (ltb-false k i t) (ltb-false i k u)
    ]) refl
  ]) refl

  abbrev pub NumberPoint : ℕ → List (Berth (Session S)) → ℕ → Type 0
  NumberPoint number bs i = IsPartitionPoint (λ b. nat_lt b.session.number number ≡ true) (λ b. nat_lt b.session.number number ≡ false) bs i

  module _ (number : ℕ) (bs : List (Berth (Session S))) (i : ℕ) (point : NumberPoint number bs i) where
    -- no session has the number, where all numbers are less
    pub all_less : length bs ≤ i → All (λ b. b.session.number ≢ number) bs
    all_less h k d w e = not_under (get_or bs k d).session.number number (ltb-true (get_or bs k d).session.number number (point.0 k d (omega arith) (omega arith))) e

    -- or where the first that is not less is another
    pub other_there : (b : Berth (Session S)) → Rises bs → i < length bs → ((get_or bs i b).session.number ≡ number → ⊥) → All (λ b. b.session.number ≢ number) bs
    other_there b up w other k d l e = (elim (nat_lt k i) as (λ t. nat_lt k i ≡ t → ⊥) [
      | true ↦ λ t. not_under (get_or bs k d).session.number number (ltb-true (get_or bs k d).session.number number (point.0 k d (omega arith) (ltb-true k i t))) e
      | false ↦ λ t.
          let low = not_falling bs up i k d (ltb-false k i t) l in
          let high = ltb-false (get_or bs i d).session.number number (point.1 i d (omega arith) w) in
          let there : (get_or bs i d).session.number ≡ number = same_place (get_or bs i d).session.number number high (subst (λ n. (get_or bs i d).session.number ≤ n) e low) in
          other (ap (λ (c : Berth (Session S)). c.session.number) (get_or_default bs i b d w) ∙ there)
    ]) refl

  -- the place of a number that is read there
  pub place_read : (number : ℕ) (bs : List (Berth (Session S))) (i : ℕ) (b : Berth (Session S)) → i < length bs → b ≡ get_or bs i b → b.session.number ≡ number → IsPlace number bs i
  place_read number bs i b w is e = record {
    within = w;
    number_there = λ d. ap (λ c. c.session.number) (get_or_default bs i d b w ∙ sym is) ∙ e;
  }

  module _ (seat : Seat) where
    -- where no session has the seat's number, none is the seat's
    pub no_seat : (bs : List (Berth (Session S))) → All (λ b. b.session.number ≢ seat.number) bs → position (λ b. is_seat seat b.session) bs ≡ None
    no_seat bs none = no_place_is (λ b. is_seat seat b.session) bs (λ k d w. false_from_ne_true (is_seat seat (get_or bs k d).session) (λ t. none k d w (seat_number seat (get_or bs k d).session t).0))

    -- that which has it is
    pub this_seat : (bs : List (Berth (Session S))) (i : ℕ) → Rises bs → IsPlace seat.number bs i → ((d : Berth (Session S)) → is_seat seat (get_or bs i d).session ≡ true) → position (λ b. is_seat seat b.session) bs ≡ Some i
    this_seat bs i up is there = place_is (λ b. is_seat seat b.session) bs i is.within there (λ k d l. false_from_ne_true (is_seat seat (get_or bs k d).session) (λ t.
        apart (get_or bs k d).session.number (get_or bs i d).session.number seat.number (up k i d l is.within) (seat_number seat (get_or bs k d).session t).0 (is.number_there d)))

    -- or that which has it is not, and no other
    pub other_seat : (bs : List (Berth (Session S))) (i : ℕ) → Rises bs → IsPlace seat.number bs i → ((d : Berth (Session S)) → is_seat seat (get_or bs i d).session ≡ false) → position (λ b. is_seat seat b.session) bs ≡ None
    other_seat bs i up is spent = no_place_is (λ b. is_seat seat b.session) bs (λ k d w. false_from_ne_true (is_seat seat (get_or bs k d).session) (λ t.
        let same = one_place seat.number bs i up is k d w (seat_number seat (get_or bs k d).session t).0 in
        let bad : true ≡ false = sym t ∙ ap (λ m. is_seat seat (get_or bs m d).session) same ∙ spent d in cc))

module _ {S : Type 0} (x : Expiries) (ttl number class : ℕ) (at : List Address) (login : Option (List ℕ)) (key : SetKey) where
  -- no session has the number
  pub no_number : (bs : List (Berth (Session S))) → All (λ b. b.session.number ≢ number) bs → IsNoneOf (is_holder class at login key) number (told x ttl bs)
  no_number bs none =
      All-map (λ (o : Session S). o.number ≡ number → is_holder class at login key o ≡ false) (seen x ttl) bs
      (All-weaker (λ (b : Berth (Session S)). b.session.number ≢ number) (λ b. (seen x ttl b).number ≡ number → is_holder class at login key (seen x ttl b) ≡ false) (λ b other e. absurd (other (sym (seen_number x ttl b) ∙ e))) bs none)

  -- the session of the number holds none
  pub one_number : (bs : List (Berth (Session S))) (i : ℕ) (b : Berth (Session S)) → Rises bs → IsPlace number bs i → b ≡ get_or bs i b → is_holder class at login key (seen x ttl b) ≡ false → IsNoneOf (is_holder class at login key) number (told x ttl bs)
  one_number bs i b up is e lacks =
      All-map (λ (o : Session S). o.number ≡ number → is_holder class at login key o ≡ false) (seen x ttl) bs (λ k d l f.
      let same = one_place number bs i up is k d l (sym (seen_number x ttl (get_or bs k d)) ∙ f) in
      subst (λ c. is_holder class at login key (seen x ttl c) ≡ false) (e ∙ get_or_default bs i b d is.within ∙ ap (λ m. get_or bs m d) (sym same)) lacks)
