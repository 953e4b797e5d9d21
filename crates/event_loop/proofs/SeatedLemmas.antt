-- Which seats are out, behind what becomes of the connection at a place
use Rattle.std.proofs.Common.{◌≡◌, ◌≢◌, ◌∙◌, ◌⊎◌, inl, inr, ℕ, zero, suc, ◌+◌, ◌-◌, ◌<◌, Bool, true, false, List, [], ◌∷◌, Option, None, Some, length, get_or, set, refl, sym, subst, arith, eqb}
use Rattle.std.specs.List.{sum_by}
use Rattle.std.proofs.lemmas.Bool.{eqb-false, eqb-true}
use Rattle.std.proofs.lemmas.Grind.{get_or-set_at}
use Rattle.std.proofs.lemmas.List.{get_or-set_other}
use Rattle.std.proofs.lemmas.List.Sums.{get_or-le-sum_by, sum_by-cons, sum_by-set}
use Rattle.pool_sets.specs.Plain.{Pool, out_of}
use Rattle.pool_sets.specs.declared.doors.Seat.{Seat}
use Rattle.event_front.specs.Tasks.{TaskView}
use Rattle.event_front.specs.conn_served.Seats.{AreGivenBack}
use Rattle.front_conn_seats.specs.steps.Seats.{AreHeld, AreOutOf, held_in, no_seat}
use Rattle.event_loop.specs.steps.Places.{AreNone, AreSeated, AreSeatedSince, DoesAt, held_at_place, held_by, legs_at, open_at}

-- ---- a place

-- each other place is as it was
set-by : {X : Type 0} (P : X → Type 0) (xs : List X) (place : ℕ) (new none : X) → place < length xs → P new
    → ((other : ℕ) → P (get_or xs other none)) → (other : ℕ) → (other ≡ place) ⊎ (other ≢ place) → P (get_or (set xs place new) other none)
set-by P xs place new none inside here each other (inl same) = subst P (sym (get_or-set_at xs place other new none same inside)) here
set-by P xs place new none inside here each other (inr differs) = subst P (sym (get_or-set_other xs place other new none differs)) (each other)

or-by : (a b : ℕ) (e : Bool) → eqb a b ≡ e → (a ≡ b) ⊎ (a ≢ b)
or-by a b true is = inl (eqb-true a b is)
or-by a b false is = inr (eqb-false a b is)

pub each-set : {X : Type 0} (P : X → Type 0) (xs : List X) (place : ℕ) (new none : X) → place < length xs → P new
    → ((other : ℕ) → P (get_or xs other none)) → (other : ℕ) → P (get_or (set xs place new) other none)
each-set P xs place new none inside here each other =
    set-by P xs place new none inside here each other (or-by other place (eqb other place) refl)

-- seats are out as they were where what is held and what others hold is as much together
out-as : {S : Type 0} (held others held' others' : Seat → ℕ) (pool : Option (Pool S))
    → ((seat : Seat) → held' seat + others' seat ≡ held seat + others seat) → AreOutOf held others pool → AreOutOf held' others' pool
out-as held others held' others' None same out = out
out-as held others held' others' (Some pool) same out = record {
  ascend = out.ascend;
  each = λ seat. out.each seat ∙ sym (same seat);
}

module _ {S I K : Type 0} where
  -- ---- where none is open

  pub none-sum : (f : Option (TaskView S I K) → ℕ) → f None ≡ 0 → (places : List (Option (TaskView S I K))) → AreNone places
      → sum_by f places ≡ 0
  none-sum f zero_ [] none = refl
  none-sum f zero_ (place ∷ places) none =
      let all = sum_by-cons f place places in
      let own : f place ≡ 0 = subst (λ p. f p ≡ 0) (sym (none 0)) zero_ in
      let rest = none-sum f zero_ places (λ other. none (suc other)) in
      omega (arith, all, own, rest)

  pub open-none : (places : List (Option (TaskView S I K))) → sum_by open_at places ≡ 0 → AreNone places
  open-none [] e place = refl
  open-none (None ∷ places) e zero = refl
  open-none (Some task ∷ places) e zero =
      let all = sum_by-cons open_at (Some task) places in absurd (omega (arith, all, e))
  open-none (here ∷ places) e (suc place) =
      open-none places (let all = sum_by-cons open_at here places in omega (arith, all, e)) place

  -- ---- seats

  -- what the other places hold, and others
  pub apart_of : List (Option (TaskView S I K)) → ℕ → (Seat → ℕ) → Seat → ℕ
  apart_of places place others seat = held_by places seat - held_at_place seat (get_or places place None) + others seat

  -- of the connection of a place
  pub held-apart : (places : List (Option (TaskView S I K))) (place : ℕ) (others : Seat → ℕ) (here : Option (Pool S)) → place < length places
      → AreSeated places others here → AreHeld (legs_at (get_or places place None)) (apart_of places place others) here
  unfolding apart_of
  held-apart places place others here inside seated = record {
    tasks = seated.does place;
    out = out-as (held_by places) others (held_in (legs_at (get_or places place None))) (apart_of places place others) here
        (λ seat. (let few = get_or-le-sum_by (held_at_place seat) places place None inside in
        let apart : apart_of places place others seat
        ≡ sum_by (held_at_place seat) places - held_at_place seat (get_or places place None) + others seat = refl in
        let own : held_in (legs_at (get_or places place None)) seat ≡ held_at_place seat (get_or places place None) = refl in
        let all : held_by places seat ≡ sum_by (held_at_place seat) places = refl in
        omega (arith, few, apart, own, all))) seated.out;
  }

  -- and behind it
  pub held-back : (places : List (Option (TaskView S I K))) (place : ℕ) (new : Option (TaskView S I K)) (others : Seat → ℕ)
      (here next : Option (Pool S)) → place < length places → AreSeated places others here
      → AreHeld (legs_at new) (apart_of places place others) next → AreSeated (set places place new) others next
  unfolding apart_of
  held-back places place new others here next inside seated held = record {
    does = each-set DoesAt places place new None inside held.tasks seated.does;
    out = out-as (held_in (legs_at new)) (apart_of places place others) (held_by (set places place new)) others next
        (λ seat. (let few = get_or-le-sum_by (held_at_place seat) places place None inside in
        let sums = sum_by-set (held_at_place seat) places place new None inside in
        let apart : apart_of places place others seat
        ≡ sum_by (held_at_place seat) places - held_at_place seat (get_or places place None) + others seat = refl in
        let own : held_in (legs_at new) seat ≡ held_at_place seat new = refl in
        let all : held_by (set places place new) seat ≡ sum_by (held_at_place seat) (set places place new) = refl in
        omega (arith, few, sums, apart, own, all))) held.out;
  }

  -- where it is given up
  pub held-gone : (places : List (Option (TaskView S I K))) (place : ℕ) (others : Seat → ℕ) (here next : Option (Pool S))
      → place < length places → AreSeated places others here → AreOutOf no_seat (apart_of places place others) next
      → AreSeated (set places place None) others next
  held-gone places place others here next inside seated out =
      held-back places place None others here next inside seated (record {
        tasks = tt;
        out = out-as no_seat (apart_of places place others) (held_in {S = S} []) (apart_of places place others) next (λ seat. refl) out;
      })

  -- ---- since the front began

  pub since : (places then : List (Option (TaskView S I K))) (told here next : Option (Pool S))
      → ((others : Seat → ℕ) → AreSeated places others here → AreSeated then others next)
      → AreSeatedSince places told here → AreSeatedSince then told next
  since places then None here next goes seated = tt
  since places then (Some pool) here next goes seated = λ ascend. goes (out_of pool) (seated ascend)

  pub seated-first : (places : List (Option (TaskView S I K))) → AreNone places → (told : Option (Pool S)) → AreSeatedSince places told told
  seated-first places none None = tt
  seated-first places none (Some pool) = λ ascend. record {
    does = λ place. subst DoesAt (sym (none place)) tt;
    out = record {
      ascend = ascend;
      each = λ seat. (let zero_ = none-sum (held_at_place seat) refl places none in omega (arith, zero_));
    };
  }

  pub seated-last : (places : List (Option (TaskView S I K))) → AreNone places → (told here : Option (Pool S))
      → AreSeatedSince places told here → AreGivenBack told here
  seated-last places none None here seated = tt
  seated-last places none (Some pool) here seated = λ ascend.
      out-as (held_by places) (out_of pool) no_seat (out_of pool) here
      (λ seat. (let zero_ = none-sum (held_at_place seat) refl places none in omega (arith, zero_))) (seated ascend).out
