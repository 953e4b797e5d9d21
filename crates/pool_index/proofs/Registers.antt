-- What a register keeps, as its sessions change
use Rattle.std.proofs.Common.{◌≡◌, ◌≢◌, ◌==◌, inl, inr, ℕ, suc, ◌+◌, ◌-◌, ◌^◌, ◌<◌, ◌≤◌, nat_lt, Bool, true, false, cond, not, List, [], ◌∷◌, ◌++◌, length, get_or, set, take, map, filter, count_by, position, Option, None, Some, All, refl, sym, ◌∙◌, ap, subst, arith}
use Rattle.std.specs.List.{remove}
use Rattle.std.specs.List.Sorted.{IsPermutation}
use Rattle.std.proofs.lemmas.Bool.{eqb-true, eq-eqb, ltb-true, ltb-false, false_from_ne_true}
use Rattle.std.proofs.lemmas.List.{length-set, length-map, length-append, get_or_default}
use Rattle.std.proofs.lemmas.List.Edits.{length-remove}
use Rattle.std.proofs.lemmas.List.Elements.{All-nil, All-map, All-weaker, All-push, filter_passes}
use Rattle.std.proofs.lemmas.List.Sums.{length-filter, count_by-le-length}
use Rattle.z_types.specs.Logins.{inner}
use Rattle.z_types.specs.declared.address.Address.{Address}
use Rattle.pool_sets.specs.declared.sessions.Stand.TheVariants.{Out}
use Rattle.pool_sets.specs.declared.doors.Seat.{Seat}
use Rattle.pool_sets.specs.Sessions.{Session, with_stand, stand_target, in_class, is_of_member, is_out, without_number, open_of, member_for}
use Rattle.load_balance.specs.Least.{least_place}
use Rattle.pool_sets.specs.Plain.{is_seat, stays_open, with_fresh_sets, fresh_sessions, without_seat}
use Rattle.pool_core.specs.Loads.{is_counted, is_counted_for}
use Rattle.pool_core.proofs.Loads.{count_of_filter}
use Rattle.pool_core.proofs.Seats.{place_of, no_place, seat_number}
use Rattle.pool_keys.specs.Pairs.{Indexed, Grows}
use Rattle.pool_keys.specs.declared.index.Pair.{Pair}
use Rattle.pool_keys.specs.Digests.{Sharers}
use Rattle.pool_roster.specs.RosterView.{RiseIn, IsOne}
use Rattle.pool_roster.proofs.Dropping.{none_dropped, one_dropped}
use Rattle.pool_roster.proofs.Lazy.{seen_class, seen_out}
use Rattle.pool_index.specs.declared.tally.Tally.{Tally}
use Rattle.pool_index.specs.Tallies.{tallied, changed, IsTally, IsTallyFor, IsAdded, Loads}
use Rattle.pool_index.specs.RegisterView.{IsFound, IsGathered, IsGone, KeepsOthers, IsRegister}
use Rattle.pool_index.proofs.Tallies.{go, removed, right_removed, right_put, right_pushed, right_lent, right_map, range_of}
use Rattle.pool_index.proofs.Found.{out_found, lacking_found, gone_found, left_found, put_found, filled_found}

fewer : (r n m : ℕ) → r + 1 ≡ n → n < m → r < m
fewer r n m h w = omega arith

no_more : (r n m : ℕ) → r ≤ n → n < m → r < m
no_more r n m h w = omega arith

apart : (a b n : ℕ) → a < b → a ≡ n → b ≡ n → ⊥
apart a b n h e f = omega arith

same_place : (k i : ℕ) → i ≤ k → k ≤ i → k ≡ i
same_place k i h l = omega arith

too_short : (n m : ℕ) → n ≡ suc m → n ≤ m → ⊥
too_short n m e h = omega arith

one_less : (n m : ℕ) → suc n ≡ suc m → n ≡ m
one_less n m e = omega arith

one_longer : (n m : ℕ) → m ≡ n + 1 → n < 2 ^ 32 - 1 → m < 2 ^ 32
one_longer n m e w = omega arith

module _ {X : Type 0} (p : X → Bool) where
  -- where as many are left, all are
  pub all_left : (xs : List X) → length (filter p xs) ≡ length xs → filter p xs ≡ xs
  all_left [] h = refl
  all_left (x ∷ xs) h = (elim (p x) as (λ b. length (cond b (x ∷ filter p xs) (filter p xs)) ≡ suc (length xs) → cond b (x ∷ filter p xs) (filter p xs) ≡ x ∷ xs) [
    | true ↦ λ e. ap (λ r. x ∷ r) (all_left xs (one_less (length (filter p xs)) (length xs) e))
    | false ↦ λ e. absurd (too_short (length (filter p xs)) (length xs) e (subst (λ n. n ≤ length xs) (sym (length-filter p xs)) (count_by-le-length p xs)))
  ]) h

module _ {S : Type 0} where
  -- one session has a number
  pub one_session : (os : List (Session S)) (i : ℕ) (n : ℕ) → RiseIn os → i < length os → ((d : Session S) → (get_or os i d).number ≡ n) → (k : ℕ) (d : Session S) → k < length os → (get_or os k d).number ≡ n → k ≡ i
  one_session os i n up w is k d l e = (elim (nat_lt k i) as (λ t. nat_lt k i ≡ t → k ≡ i) [
    | true ↦ λ t. absurd (apart (get_or os k d).number (get_or os i d).number n (up.order k i d (ltb-true k i t) w) e (is d))
    | false ↦ λ t. (elim (nat_lt i k) as (λ u. nat_lt i k ≡ u → k ≡ i) [
      | true ↦ λ u. absurd (apart (get_or os i d).number (get_or os k d).number n (up.order i k d (ltb-true i k u) l) (is d) e)
      | false ↦ λ u. same_place k i (ltb-false k i t) (ltb-false i k u)
    ]) refl
  ]) refl

  -- without the session of a number
  pub number_removed : (os : List (Session S)) (i n : ℕ) → RiseIn os → IsOne n os i → without_number n os ≡ remove os i
  number_removed os i n up is =
      one_dropped (λ o. o.number == n) os i is.within (λ d. eq-eqb (get_or os i d).number n (is.number_there d))
      (λ k d w t. one_session os i n up is.within is.number_there k d w (eqb-true (get_or os k d).number n t))

  differ : (o : Session S) (n : ℕ) → not (o.number == n) ≡ true → o.number ≡ n → ⊥
  differ o n h e = let bad : false ≡ true = ap not (sym (eq-eqb o.number n e)) ∙ h in cc

  -- none that is left has the number
  others_left : (os : List (Session S)) (i n : ℕ) → RiseIn os → IsOne n os i → IsGone n (remove os i)
  others_left os i n up is =
      subst (IsGone n) (number_removed os i n up is)
      (All-weaker (λ (o : Session S). not (o.number == n) ≡ true) (λ o. o.number ≡ n → is_out o.stand ≡ true) (λ o h e. absurd (differ o n h e)) (without_number n os) (filter_passes (λ o. not (o.number == n)) os))

  -- the session of a seat, at its place
  pub seat_one : (seat : Seat) (os : List (Session S)) (i : ℕ) → position (is_seat seat) os ≡ Some i → IsOne seat.number os i
  seat_one seat os i e =
      let at = place_of (is_seat seat) os i e in
      record { within = at.0; number_there = λ d. (seat_number seat (get_or os i d) (at.1 d)).0 }

  pub seat_removed : (seat : Seat) (os : List (Session S)) (i : ℕ) → RiseIn os → position (is_seat seat) os ≡ Some i → without_seat seat os ≡ remove os i
  seat_removed seat os i up e =
      let at = place_of (is_seat seat) os i e in
      one_dropped (is_seat seat) os i at.0 at.1
      (λ k d w t. one_session os i seat.number up at.0 (seat_one seat os i e).number_there k d w (seat_number seat (get_or os k d) t).0)

  -- where no session is the seat's, none is dropped
  pub no_seat_dropped : (seat : Seat) (os : List (Session S)) → position (is_seat seat) os ≡ None → without_seat seat os ≡ os
  no_seat_dropped seat os e = none_dropped (is_seat seat) os (no_place (is_seat seat) os e)

  pub no_number_dropped : (n : ℕ) (os : List (Session S)) → All (λ o. o.number ≢ n) os → without_number n os ≡ os
  no_number_dropped n os none = none_dropped (λ o. o.number == n) os (λ k d w. false_from_ne_true ((get_or os k d).number == n) (λ t. none k d w (eqb-true (get_or os k d).number n t)))

  module _ (own : Sharers → ℕ) (index : Indexed) (ts : List Tally) (os : List (Session S)) (r : IsRegister own index ts os) where
    pub reindexed : (after : Indexed) → All (IsFound own after) os → IsRegister own after ts os
    reindexed after found = record { few = r.few; found = found; right = r.right }

    pub retallied : (after : List Tally) → All (IsTally os) after → IsRegister own index after os
    retallied after right = record { few = r.few; found = r.found; right = right }

    -- an index that lacks pairs promises none
    pub register_lacking : (after : Indexed) → after.whole ≡ false → IsRegister own after ts os
    register_lacking after lacks = reindexed after (λ k d w. lacking_found own after lacks (get_or os k d))

    pub register_filled : (after : Indexed) (ps : List Pair) → IsPermutation ps after.pairs → All (IsGathered own ps) os → IsRegister own after ts os
    register_filled after ps moved gathered = reindexed after (filled_found own after ps os moved gathered)

    -- a session goes out where it was
    pub register_lent : (i : ℕ) (o : Session S) (a : Address) → i < length os → o ≡ get_or os i o → inner a ≡ stand_target o.stand → IsRegister own index ts (set os i (with_stand (Out a) o))
    register_lent i o a w e there = record {
      few = subst (λ n. n < 2 ^ 32) (sym (length-set os i (with_stand (Out a) o))) r.few;
      found = put_found own index index os i (with_stand (Out a) o) (λ p h. h) (out_found own index (with_stand (Out a) o) refl) r.found;
      right = right_lent os i o a w e there ts r.right;
    }

    -- a session is another one, in its place
    pub register_put : (after : Indexed) (i : ℕ) (o y : Session S) → i < length os → o ≡ get_or os i o → Grows index after → IsFound own after y → IsRegister own after (map (changed true y) (map (changed false o) ts)) (set os i y)
    register_put after i o y w e g is = record {
      few = subst (λ n. n < 2 ^ 32) (sym (length-set os i y)) r.few;
      found = put_found own index after os i y g is r.found;
      right = right_put os i o y w e r.few (map (changed false o) ts) (right_removed os i o w e ts r.right);
    }

    -- a session that is out is added
    pub register_pushed : (o : Session S) → is_out o.stand ≡ true → length os < 2 ^ 32 - 1 → IsRegister own index (map (changed true o) ts) (os ++ o ∷ [])
    register_pushed o out few =
        let small : length (os ++ o ∷ []) < 2 ^ 32 = one_longer (length os) (length (os ++ o ∷ [])) (length-append os (o ∷ [])) few in
        record {
          few = small;
          found = All-push (IsFound own index) os o r.found (out_found own index o out);
          right = right_pushed os o small ts r.right;
        }

    -- a session goes
    pub register_removed : (after : Indexed) (i : ℕ) (o : Session S) → RiseIn os → i < length os → o ≡ get_or os i o → KeepsOthers o.number index after → IsRegister own after (map (changed false o) ts) (remove os i)
    register_removed after i o up w e keeps =
        let one : IsOne o.number os i = record { within = w; number_there = λ d. ap (λ (x : Session S). x.number) (sym (e ∙ get_or_default os i o d w)) } in
        record {
          few = fewer (length (remove os i)) (length os) (2 ^ 32) (length-remove os i w) r.few;
          found = gone_found own o.number index after (remove os i) keeps (others_left os i o.number up one) (left_found own index os i r.found);
          right = right_removed os i o w e ts r.right;
        }

    module _ (now session_ttl set_ttl : ℕ) where
      abbrev fresh : Session S → Session S
      fresh o = with_fresh_sets now set_ttl o

      abbrev left : List (Session S)
      left = filter (stays_open now session_ttl) os

      out_same : (o : Session S) → is_out (fresh o).stand ≡ is_out o.stand
      out_same o = seen_out (record { count = 1; last = now }) set_ttl (record { session = o; stamp = 0 })

      fresh_found : (o : Session S) → IsFound own index o → IsFound own index (fresh o)
      fresh_found o h idle = h (sym (out_same o) ∙ idle)

      few_left : length (fresh_sessions now session_ttl set_ttl os) < 2 ^ 32
      few_left =
          no_more (length (fresh_sessions now session_ttl set_ttl os)) (length os) (2 ^ 32)
          (subst (λ n. n ≤ length os) (sym (length-map left fresh ∙ length-filter (stays_open now session_ttl) os)) (count_by-le-length (stays_open now session_ttl) os)) r.few

      -- sessions are dropped, and the tallies with them
      pub register_less : (after : Indexed) (none : List Tally) → after.whole ≡ false → none ≡ [] → IsRegister own after none (fresh_sessions now session_ttl set_ttl os)
      register_less after none lacks is = record {
        few = few_left;
        found = λ k d w. lacking_found own after lacks (get_or (fresh_sessions now session_ttl set_ttl os) k d);
        right = subst (All (IsTally (fresh_sessions now session_ttl set_ttl os))) (sym is) (All-nil (IsTally (fresh_sessions now session_ttl set_ttl os)));
      }

      -- or none is
      pub register_fresh : length (fresh_sessions now session_ttl set_ttl os) ≡ length os → IsRegister own index ts (fresh_sessions now session_ttl set_ttl os)
      register_fresh same =
          let all : left ≡ os = all_left (stays_open now session_ttl) os (sym (length-map left fresh) ∙ same) in
          subst (λ l. IsRegister own index ts (map fresh l)) (sym all) (record {
            few = subst (λ n. n < 2 ^ 32) (sym (length-map os fresh)) r.few;
            found = All-map (IsFound own index) fresh os (All-weaker (IsFound own index) (λ o. IsFound own index (fresh o)) fresh_found os r.found);
            right = right_map fresh (λ o class at. seen_class (record { count = 1; last = now }) set_ttl class at (record { session = o; stamp = 0 })) (λ o. refl) os ts r.right;
          })

  -- a tally is added
  pub added_right : (os : List (Session S)) (t : Tally) (old new : List Tally) → IsAdded t old new → IsTally os t → All (IsTally os) old → All (IsTally os) new
  added_right os t old new (inl e) is h = subst (All (IsTally os)) (sym e) (All-push (IsTally os) old t h is)
  added_right os t old new (inr e) is h = subst (All (IsTally os)) (sym e) h

  module _ (t : Tally) (os : List (Session S)) (right : IsTally os t) where
    -- all sessions count
    pub loads_all : Loads None t os t.loads
    loads_all = record { long = right.long; each = right.loads_right }

    member_count : (seat : Seat) (m : ℕ) (ls : List (Session S)) → without_seat seat os ≡ ls → count_by (is_of_member t.class t.at m) ls ≡ count_by (is_counted_for (Some seat) t.class t.at m) os
    member_count seat m ls e =
        ap (count_by (is_of_member t.class t.at m)) (sym e) ∙ count_of_filter (is_of_member t.class t.at m) (λ o. not (is_seat seat o)) os

    -- where no session is the seat's, all count
    pub loads_whole : (seat : Seat) → position (is_seat seat) os ≡ None → Loads (Some seat) t os t.loads
    loads_whole seat e = record {
      long = right.long;
      each = λ m w. right.loads_right m w ∙ member_count seat m os (no_seat_dropped seat os e);
    }

    kept_class : (o : Session S) → (changed false o t).class ≡ t.class
    kept_class o = (elim (in_class t.class t.at o) as (λ b. (cond b (tallied false o.member t) t).class ≡ t.class) [ true ↦ refl | false ↦ refl ])

    kept_at : (o : Session S) → (changed false o t).at ≡ t.at
    kept_at o = (elim (in_class t.class t.at o) as (λ b. (cond b (tallied false o.member t) t).at ≡ t.at) [ true ↦ refl | false ↦ refl ])

    -- that of the seat does not
    pub loads_less : (seat : Seat) (i : ℕ) (o : Session S) → RiseIn os → position (is_seat seat) os ≡ Some i → o ≡ get_or os i o → Loads (Some seat) t os (changed false o t).loads
    loads_less seat i o up e is =
        let at = place_of (is_seat seat) os i e in
        let less = go (λ q. count_by q os) (λ q. count_by q (remove os i)) o t (λ q. removed q os i o at.0 is) right in
        record {
          long = less.long;
          each = λ m w. less.loads_right m w ∙ (λ k. count_by (is_of_member (kept_class o k) (kept_at o k) m) (remove os i)) ∙ member_count seat m (remove os i) (seat_removed seat os i up e);
        }

  -- the member that a tally tells is the pool's
  pub member_told : (but : Option Seat) (class : ℕ) (at : List Address) (t : Tally) (os : List (Session S)) (ls : List ℕ) → IsTallyFor class at t → Loads but t os ls → length at ≤ 16 →
      least_place (take (length at) ls) ≡ member_for class at (filter (is_counted but) os)
  member_told but class at t os ls for ls_right few =
      ap least_place (range_of (λ m. count_by (is_of_member class at m) (filter (is_counted but) os)) ls ls_right.long
      (λ m w. ls_right.each m w ∙ (λ i. count_by (is_counted_for but (for.of_class i) (for.of_addresses i) m) os) ∙ sym (count_of_filter (is_of_member class at m) (is_counted but) os)) (length at) few)

  -- and so is how many are open
  pub open_told : (class : ℕ) (at : List Address) (t : Tally) (os : List (Session S)) → IsTallyFor class at t → IsTally os t → t.all ≡ open_of class at os
  open_told class at t os for right = right.all_right ∙ (λ i. count_by (in_class (for.of_class i) (for.of_addresses i)) os)
