-- A tally stays right where sessions come and go
use Rattle.std.proofs.Common.{◌≡◌, ◌≢◌, ◌==◌, ◌&&◌, ℕ, suc, zero, ◌+◌, ◌-◌, ◌^◌, ◌<◌, ◌≤◌, min, nat_lt, Bool, true, false, cond, List, [], ◌∷◌, ◌++◌, length, get_or, set, take, drop, map, count_by, All, refl, sym, ◌∙◌, ap, subst, arith}
use Rattle.std.specs.List.{remove, range_with_len}
use Rattle.std.proofs.Math.Numerals.{add-one}
use Rattle.std.proofs.lemmas.Bool.{eqb-true, eqb-false, ltb-true, ltb-false, false_from_ne_true}
use Rattle.std.proofs.lemmas.List.{append-nil, drop_all, get_or-set_same, get_or-set_other, length-set, set-get_or, take_all}
use Rattle.std.proofs.lemmas.List.Elements.{All-map, All-weaker}
use Rattle.std.proofs.lemmas.List.Sums.{sum_by-remove, sum_by-set, sum_by-cons, sum_by_more, sum_by-take-le, count_by-le-length}
use Rattle.z_types.specs.Logins.{inner}
use Rattle.z_types.specs.declared.address.Address.{Address}
use Rattle.pool_sets.proofs.SeatLemmas.{count-append, count-map}
use Rattle.pool_sets.specs.declared.sessions.Stand.TheVariants.{Out}
use Rattle.pool_sets.specs.Sessions.{Session, with_stand, stand_target, is_among, in_class, is_of_member}
use Rattle.pool_core.proofs.Loads.{loads_more}
use Rattle.pool_index.specs.declared.tally.Tally.{Tally}
use Rattle.pool_index.specs.Tallies.{stepped, loads_stepped, tallied, changed, Counts, IsTally}

-- one that passes
abbrev pub bit : Bool → ℕ
bit b = cond b 1 0

more_one : (x n y : ℕ) → x ≡ n → y ≡ n + 1 → y < 2 ^ 32 → min (x + 1) (2 ^ 32 - 1) ≡ y
more_one x n y h e w = omega arith

less_one : (x n y : ℕ) → x ≡ n → n ≡ y + 1 → x - 1 ≡ y
less_one x n y h e = omega arith

as_many : (x n y : ℕ) → x ≡ n → y ≡ n + 0 → x ≡ y
as_many x n y h e = omega arith

as_many_left : (x n y : ℕ) → x ≡ n → n ≡ y + 0 → x ≡ y
as_many_left x n y h e = omega arith

step_more : (b : Bool) (x n y : ℕ) → x ≡ n → y ≡ n + bit b → y < 2 ^ 32 → cond b (stepped true x) x ≡ y
step_more true x n y h e w = more_one x n y h e w
step_more false x n y h e w = as_many x n y h e

step_less : (b : Bool) (x n y : ℕ) → x ≡ n → n ≡ y + bit b → cond b (stepped false x) x ≡ y
step_less true x n y h e = less_one x n y h e
step_less false x n y h e = as_many_left x n y h e

too_many : (a m : ℕ) → m < 16 → 16 ≤ a → a ≡ m → ⊥
too_many a m w h e = omega arith

other_way : (a m : ℕ) → (a == m) ≡ false → m ≢ a
other_way a m e s = eqb-false a m e (sym s)

-- the count of each member, once one has come or gone
load_after : (comes : Bool) (a m : ℕ) (loads : List ℕ) → length loads ≡ 16 → m < 16 → get_or (loads_stepped comes a loads) m 0 ≡ cond (a == m) (stepped comes (get_or loads m 0)) (get_or loads m 0)
load_after comes a m loads long w = (elim (nat_lt a 16) as (λ b. nat_lt a 16 ≡ b → get_or (cond b (set loads a (stepped comes (get_or loads a 0))) loads) m 0 ≡ cond (a == m) (stepped comes (get_or loads m 0)) (get_or loads m 0)) [
  | true ↦ λ t. (elim (a == m) as (λ e. (a == m) ≡ e → get_or (set loads a (stepped comes (get_or loads a 0))) m 0 ≡ cond e (stepped comes (get_or loads m 0)) (get_or loads m 0)) [
    | true ↦ λ e.
        subst (λ k. get_or (set loads a (stepped comes (get_or loads a 0))) k 0 ≡ stepped comes (get_or loads k 0)) (eqb-true a m e)
        (get_or-set_same loads a (stepped comes (get_or loads a 0)) 0 (subst (λ n. a < n) (sym long) (ltb-true a 16 t)))
    | false ↦ λ e. get_or-set_other loads a m (stepped comes (get_or loads a 0)) 0 (other_way a m e)
  ]) refl
  | false ↦ λ t. rw (false_from_ne_true (a == m) (λ e. too_many a m w (ltb-false a 16 t) (eqb-true a m e))) refl
]) refl

long_after : (comes : Bool) (a : ℕ) (loads : List ℕ) → length loads ≡ 16 → length (loads_stepped comes a loads) ≡ 16
long_after comes a loads long = (elim (nat_lt a 16) as (λ b. length (cond b (set loads a (stepped comes (get_or loads a 0))) loads) ≡ 16) [
  | true ↦ length-set loads a (stepped comes (get_or loads a 0)) ∙ long
  | false ↦ long
])

add_none : (n m x : ℕ) → m ≡ 0 → n ≡ x + m → n ≡ x
add_none n m x h e = omega arith

in_its_place : (s r n x y : ℕ) → s + x ≡ n + y → r + x ≡ n → s ≡ r + y
in_its_place s r n x y h e = omega arith

in_its_stead : (s n x y : ℕ) → s + x ≡ n + y → y ≡ x → s ≡ n
in_its_stead s n x y h e = omega arith

small : (n m k : ℕ) → n ≤ m → m < k → n < k
small n m k h w = omega arith

-- all of a list are changed, once those up to its end are
pub all_mapped : {X : Type 0} (f : X → X) (xs : List X) (n : ℕ) → length xs ≤ n → map f (take n xs) ++ drop n xs ≡ map f xs
all_mapped f xs n h = ap (λ l. map f l ++ drop n xs) (take_all n xs h) ∙ ap (λ l. map f xs ++ l) (drop_all n xs h) ∙ append-nil (map f xs)

module _ {S : Type 0} where
  of_both : (class m : ℕ) (at : List Address) (o : Session S) (b : Bool) → in_class class at o ≡ b → is_of_member class at m o ≡ b && (o.member == m)
  of_both class m at o b e = ap (λ x. x && (o.member == m)) e

  module _ (c k : (Session S → Bool) → ℕ) (o : Session S) (t : Tally) where
    -- a session more
    pub come : ((q : Session S → Bool) → k q ≡ c q + bit (q o)) → ((q : Session S → Bool) → k q < 2 ^ 32) → Counts c t → Counts k (changed true o t)
    come more few h = (elim (in_class t.class t.at o) as (λ b. in_class t.class t.at o ≡ b → Counts k (cond b (tallied true o.member t) t)) [
      | true ↦ λ e. record {
        long = long_after true o.member t.loads h.long;
        all_right = more_one t.all (c (in_class t.class t.at)) (k (in_class t.class t.at)) h.all_right
            (more (in_class t.class t.at) ∙ ap (λ b. c (in_class t.class t.at) + bit b) e) (few (in_class t.class t.at));
        loads_right = λ m w. load_after true o.member m t.loads h.long w
            ∙ step_more (o.member == m) (get_or t.loads m 0) (c (is_of_member t.class t.at m)) (k (is_of_member t.class t.at m)) (h.loads_right m w)
            (more (is_of_member t.class t.at m) ∙ ap (λ b. c (is_of_member t.class t.at m) + bit b) (of_both t.class m t.at o true e)) (few (is_of_member t.class t.at m));
      }
      | false ↦ λ e. record {
        long = h.long;
        all_right = as_many t.all (c (in_class t.class t.at)) (k (in_class t.class t.at)) h.all_right
            (more (in_class t.class t.at) ∙ ap (λ b. c (in_class t.class t.at) + bit b) e);
        loads_right = λ m w. as_many (get_or t.loads m 0) (c (is_of_member t.class t.at m)) (k (is_of_member t.class t.at m)) (h.loads_right m w)
            (more (is_of_member t.class t.at m) ∙ ap (λ b. c (is_of_member t.class t.at m) + bit b) (of_both t.class m t.at o false e));
      }
    ]) refl

    -- a session less
    pub go : ((q : Session S → Bool) → c q ≡ k q + bit (q o)) → Counts c t → Counts k (changed false o t)
    go less h = (elim (in_class t.class t.at o) as (λ b. in_class t.class t.at o ≡ b → Counts k (cond b (tallied false o.member t) t)) [
      | true ↦ λ e. record {
        long = long_after false o.member t.loads h.long;
        all_right = less_one t.all (c (in_class t.class t.at)) (k (in_class t.class t.at)) h.all_right
            (less (in_class t.class t.at) ∙ ap (λ b. k (in_class t.class t.at) + bit b) e);
        loads_right = λ m w. load_after false o.member m t.loads h.long w
            ∙ step_less (o.member == m) (get_or t.loads m 0) (c (is_of_member t.class t.at m)) (k (is_of_member t.class t.at m)) (h.loads_right m w)
            (less (is_of_member t.class t.at m) ∙ ap (λ b. k (is_of_member t.class t.at m) + bit b) (of_both t.class m t.at o true e));
      }
      | false ↦ λ e. record {
        long = h.long;
        all_right = as_many_left t.all (c (in_class t.class t.at)) (k (in_class t.class t.at)) h.all_right
            (less (in_class t.class t.at) ∙ ap (λ b. k (in_class t.class t.at) + bit b) e);
        loads_right = λ m w. as_many_left (get_or t.loads m 0) (c (is_of_member t.class t.at m)) (k (is_of_member t.class t.at m)) (h.loads_right m w)
            (less (is_of_member t.class t.at m) ∙ ap (λ b. k (is_of_member t.class t.at m) + bit b) (of_both t.class m t.at o false e));
      }
    ]) refl

  module _ (c k : (Session S → Bool) → ℕ) (t : Tally) where
    -- as many as before
    pub stay : k (in_class t.class t.at) ≡ c (in_class t.class t.at) → ((m : ℕ) → k (is_of_member t.class t.at m) ≡ c (is_of_member t.class t.at m)) → Counts c t → Counts k t
    stay all each h = record {
      long = h.long;
      all_right = h.all_right ∙ sym all;
      loads_right = λ m w. h.loads_right m w ∙ sym (each m);
    }

  one_counted : (q : Session S → Bool) (o : Session S) → count_by q (o ∷ []) ≡ bit (q o)
  one_counted q o = add_none (count_by q (o ∷ [])) (count_by q []) (bit (q o)) refl (sum_by-cons (λ x. cond (q x) 1 0) o [])

  module _ (q : Session S → Bool) (os : List (Session S)) where
    pushed : (o : Session S) → count_by q (os ++ o ∷ []) ≡ count_by q os + bit (q o)
    pushed o = count-append q os (o ∷ []) ∙ ap (λ n. count_by q os + n) (one_counted q o)

    taken : (i : ℕ) (o : Session S) → i < length os → o ≡ get_or os i o → count_by q (take (i + 1) os) ≡ count_by q (take i os) + bit (q o)
    taken i o w e = sum_by_more (λ x. cond (q x) 1 0) os i o w ∙ ap (λ x. count_by q (take i os) + bit (q x)) (sym e)

    pub removed : (i : ℕ) (o : Session S) → i < length os → o ≡ get_or os i o → count_by q os ≡ count_by q (remove os i) + bit (q o)
    removed i o w e = sym (sum_by-remove (λ x. cond (q x) 1 0) os i o w) ∙ ap (λ x. count_by q (remove os i) + bit (q x)) (sym e)

    put_in : (i : ℕ) (o y : Session S) → i < length os → o ≡ get_or os i o → count_by q (set os i y) ≡ count_by q (remove os i) + bit (q y)
    put_in i o y w e =
        in_its_place (count_by q (set os i y)) (count_by q (remove os i)) (count_by q os) (bit (q (get_or os i o))) (bit (q y))
        (sum_by-set (λ x. cond (q x) 1 0) os i y o w) (sum_by-remove (λ x. cond (q x) 1 0) os i o w)

    put_alike : (i : ℕ) (o y : Session S) → i < length os → o ≡ get_or os i o → q y ≡ q o → count_by q (set os i y) ≡ count_by q os
    put_alike i o y w e h =
        in_its_stead (count_by q (set os i y)) (count_by q os) (bit (q (get_or os i o))) (bit (q y)) (sum_by-set (λ x. cond (q x) 1 0) os i y o w) (ap bit (h ∙ ap q e))

    few_pass : length os < 2 ^ 32 → count_by q os < 2 ^ 32
    few_pass w = small (count_by q os) (length os) (2 ^ 32) (count_by-le-length q os) w

  all_changed : (comes : Bool) (P Q : Tally → Type 0) (o : Session S) → ((t : Tally) → P t → Q (changed comes o t)) → (ts : List Tally) → All P ts → All Q (map (changed comes o) ts)
  all_changed comes P Q o step ts h = All-map Q (changed comes o) ts (All-weaker P (λ t. Q (changed comes o t)) step ts h)

  -- tallies of all sessions but that at a place
  pub right_removed : (os : List (Session S)) (i : ℕ) (o : Session S) → i < length os → o ≡ get_or os i o → (ts : List Tally) → All (IsTally os) ts → All (IsTally (remove os i)) (map (changed false o) ts)
  right_removed os i o w e = all_changed false (IsTally os) (IsTally (remove os i)) o (λ t. go (λ q. count_by q os) (λ q. count_by q (remove os i)) o t (λ q. removed q os i o w e))

  -- and of those with another one in its place
  pub right_put : (os : List (Session S)) (i : ℕ) (o y : Session S) → i < length os → o ≡ get_or os i o → length os < 2 ^ 32 → (ts : List Tally) → All (IsTally (remove os i)) ts → All (IsTally (set os i y)) (map (changed true y) ts)
  right_put os i o y w e few =
      all_changed true (IsTally (remove os i)) (IsTally (set os i y)) y
      (λ t. come (λ q. count_by q (remove os i)) (λ q. count_by q (set os i y)) y t (λ q. put_in q os i o y w e) (λ q. few_pass q (set os i y) (subst (λ n. n < 2 ^ 32) (sym (length-set os i y)) few)))

  -- a session is added
  pub right_pushed : (os : List (Session S)) (o : Session S) → length (os ++ o ∷ []) < 2 ^ 32 → (ts : List Tally) → All (IsTally os) ts → All (IsTally (os ++ o ∷ [])) (map (changed true o) ts)
  right_pushed os o few =
      all_changed true (IsTally os) (IsTally (os ++ o ∷ [])) o
      (λ t. come (λ q. count_by q os) (λ q. count_by q (os ++ o ∷ [])) o t (λ q. pushed q os o) (λ q. few_pass q (os ++ o ∷ []) few))

  -- a tally of the first sessions, and of one more
  pub right_taken : (os : List (Session S)) (i : ℕ) (o : Session S) (t : Tally) → i < length os → o ≡ get_or os i o → length os < 2 ^ 32 → IsTally (take i os) t → IsTally (take (i + 1) os) (changed true o t)
  right_taken os i o t w e few =
      come (λ q. count_by q (take i os)) (λ q. count_by q (take (i + 1) os)) o t (λ q. taken q os i o w e)
      (λ q. small (count_by q (take (i + 1) os)) (count_by q os) (2 ^ 32) (sum_by-take-le (λ x. cond (q x) 1 0) os (i + 1)) (few_pass q os few))

  there_too : (class : ℕ) (at : List Address) (o : Session S) (a : Address) → inner a ≡ stand_target o.stand → in_class class at (with_stand (Out a) o) ≡ in_class class at o
  there_too class at o a h = ap (λ s. (o.class == class) && is_among at s) h

  -- a session goes out where it was
  pub right_lent : (os : List (Session S)) (i : ℕ) (o : Session S) (a : Address) → i < length os → o ≡ get_or os i o → inner a ≡ stand_target o.stand → (ts : List Tally) → All (IsTally os) ts → All (IsTally (set os i (with_stand (Out a) o))) ts
  right_lent os i o a w e h ts =
      All-weaker (IsTally os) (IsTally (set os i (with_stand (Out a) o)))
      (λ t. stay (λ q. count_by q os) (λ q. count_by q (set os i (with_stand (Out a) o))) t
      (put_alike (in_class t.class t.at) os i o (with_stand (Out a) o) w e (there_too t.class t.at o a h))
      (λ m. put_alike (is_of_member t.class t.at m) os i o (with_stand (Out a) o) w e (ap (λ b. b && (o.member == m)) (there_too t.class t.at o a h)))) ts

  -- sessions that are changed and count as before
  pub right_map : (f : Session S → Session S) → ((o : Session S) (class : ℕ) (at : List Address) → in_class class at (f o) ≡ in_class class at o) → ((o : Session S) → (f o).member ≡ o.member) → (os : List (Session S)) (ts : List Tally) → All (IsTally os) ts → All (IsTally (map f os)) ts
  right_map f same member os ts =
      All-weaker (IsTally os) (IsTally (map f os))
      (λ t. stay (λ q. count_by q os) (λ q. count_by q (map f os)) t
      (count-map (in_class t.class t.at) f (λ o. same o t.class t.at) os)
      (λ m. count-map (is_of_member t.class t.at m) f (λ o. λ i. same o t.class t.at i && (member o i == m)) os)) ts

-- the counts of the first members, as a range's
pub range_of : (f : ℕ → ℕ) (loads : List ℕ) → length loads ≡ 16 → ((m : ℕ) → m < 16 → get_or loads m 0 ≡ f m) → (n : ℕ) → n ≤ 16 → take n loads ≡ map f (range_with_len 0 n)
range_of f loads long each zero h = refl
range_of f loads long each (suc n) h =
    let w : n < 16 = omega arith in
    let within : n < length loads = subst (λ k. n < k) (sym long) w in
    subst (λ k. take k loads ≡ map f (range_with_len 0 k)) (add-one n)
    (subst (λ l. take (n + 1) l ≡ map f (range_with_len 0 (n + 1))) (set-get_or loads n 0)
    (loads_more f loads n (get_or loads n 0) within (each n w) (range_of f loads long each n (omega arith))))
