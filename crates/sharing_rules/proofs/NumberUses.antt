-- Each number of a pool is of one session's sharers, through all that is done to it
use Rattle.std.proofs.Common.{◌≡◌, ◌==◌, ◌∙◌, ◌+◌, ◌≤◌, ℕ, Bool, true, false, cond, List, [], ◌∷◌, ◌++◌, map, filter, refl, sym, ap, subst, arith}
use Rattle.std.specs.List.{AllByRecursion}
use Rattle.std.specs.Cmp.{nat_eq_equiv}
use Rattle.std.proofs.lemmas.Bool.{eqb-true}
use Rattle.z_types.specs.declared.address.Address.{Address}
use Rattle.pool_sets.specs.declared.pooled.Parts.{Parts}
use Rattle.pool_sets.specs.declared.sessions.Stand.{Stand}
use Rattle.pool_sets.specs.Sessions.{Session, with_stand, stands_at}
use Rattle.pool_sets.specs.Plain.{stays_open, with_fresh_sets, out_for}
use Rattle.sharing_rules.specs.Sharers.{Sharers, same_sharers}
use Rattle.sharing_rules.specs.steps.Shared.{AreNumbered, is_of, shared_by, sharers_of}
use Rattle.sharing_rules.proofs.PoolUses.{afresh}
use Rattle.sharing_rules.proofs.PutUses.{IsNumberOf}

-- the next number is of no session yet
later_theirs : (given : ℕ) (who : Sharers) (n : ℕ) (f : ℕ → Sharers) → n ≤ given → f n ≡ cond (n == given + 1) who (f n)
later_theirs given who n f le =
    (elim (n == given + 1) as (λ b. (n == given + 1) ≡ b → f n ≡ cond b who (f n)) [
      | true ↦ λ e. let same = eqb-true n (given + 1) e in absurd (omega (arith, le, same))
      | false ↦ λ e. refl
    ]) refl

module _ {S : Type 0} where
  all_filter : (P : Session S → Type 0) (p : Session S → Bool) (os : List (Session S)) → AllByRecursion P os → AllByRecursion P (filter p os)
  all_filter P p [] a = tt
  all_filter P p (o ∷ os) a = (elim (p o) as (λ b. AllByRecursion P (cond b (o ∷ filter p os) (filter p os))) [
    | true ↦ (a.0, all_filter P p os a.1)
    | false ↦ all_filter P p os a.1
  ])

  all_map : (P : Session S → Type 0) (g : Session S → Session S) (os : List (Session S)) → ((o : Session S) → P o → P (g o)) → AllByRecursion P os → AllByRecursion P (map g os)
  all_map P g [] k a = tt
  all_map P g (o ∷ os) k a = (k o a.0, all_map P g os k a.1)

  all_append : (P Q : Session S → Type 0) (os : List (Session S)) (o : Session S) → ((p : Session S) → P p → Q p) → AllByRecursion P os → Q o → AllByRecursion Q (os ++ o ∷ [])
  all_append P Q [] o k a q = (q, tt)
  all_append P Q (p ∷ os) o k a q = (k p a.0, all_append P Q os o k a.1 q)

  -- what leaves each session its number and its sharers
  pub numbered_map : (given : ℕ) (g : Session S → Session S) (os : List (Session S)) → ((o : Session S) → (g o).number ≡ o.number) → ((o : Session S) → sharers_of (g o) ≡ sharers_of o)
      → AreNumbered given os → AreNumbered given (map g os)
  numbered_map given g os n c a = record {
    theirs = a.theirs;
    each = all_map (λ o. (sharers_of o ≡ a.theirs o.number) × (o.number ≤ given)) g os
        (λ o h. (c o ∙ h.0 ∙ ap a.theirs (sym (n o)), subst (λ m. m ≤ given) (sym (n o)) h.1)) a.each;
  }

  pub numbered_filter : (given : ℕ) (p : Session S → Bool) (os : List (Session S)) → AreNumbered given os → AreNumbered given (filter p os)
  numbered_filter given p os a = record {
    theirs = a.theirs;
    each = all_filter (λ o. (sharers_of o ≡ a.theirs o.number) × (o.number ≤ given)) p os a.each;
  }

  pub numbered_afresh : (given now a b : ℕ) (os : List (Session S)) → AreNumbered given os → AreNumbered given (afresh now a b os)
  numbered_afresh given now a b os h =
      numbered_map given (with_fresh_sets now b) (filter (stays_open now a) os) (λ o. refl) (λ o. refl) (numbered_filter given (stays_open now a) os h)

  number_stays : (number : ℕ) (stand : Stand (Parts S) Address) (o : Session S) → (cond (o.number == number) (with_stand stand o) o).number ≡ o.number
  number_stays number stand o = (elim (o.number == number) as (λ b. (cond b (with_stand stand o) o).number ≡ o.number) [
    | true ↦ refl
    | false ↦ refl
  ])

  theirs_stay : (number : ℕ) (stand : Stand (Parts S) Address) (o : Session S) → sharers_of (cond (o.number == number) (with_stand stand o) o) ≡ sharers_of o
  theirs_stay number stand o = (elim (o.number == number) as (λ b. sharers_of (cond b (with_stand stand o) o) ≡ sharers_of o) [
    | true ↦ refl
    | false ↦ refl
  ])

  pub numbered_moved : (given number : ℕ) (stand : Stand (Parts S) Address) (os : List (Session S)) → AreNumbered given os → AreNumbered given (stands_at number stand os)
  numbered_moved given number stand os a =
      numbered_map given (λ o. cond (o.number == number) (with_stand stand o) o) os (number_stays number stand) (theirs_stay number stand) a

  pub numbered_dialled : (given : ℕ) (who : Sharers) (at : List Address) (m : ℕ) (os : List (Session S)) → AreNumbered given os
      → AreNumbered (given + 1) (os ++ out_for (given + 1) who.class at who.login m ∷ [])
  numbered_dialled given who at m os a = record {
    theirs = λ n. cond (n == given + 1) who (a.theirs n);
    each = all_append (λ o. (sharers_of o ≡ a.theirs o.number) × (o.number ≤ given))
        (λ o. (sharers_of o ≡ cond (o.number == given + 1) who (a.theirs o.number)) × (o.number ≤ given + 1)) os (out_for (given + 1) who.class at who.login m)
        (λ o h. (h.0 ∙ later_theirs given who o.number a.theirs h.1, (let le = h.1 in omega (arith, le)))) a.each
        (rw (nat_eq_equiv.refl (given + 1)) refl, omega arith);
  }

  -- a session of some sharers, and so its number, is of no others
  its_own : (P : Session S → Type 0) (who : Sharers) (os : List (Session S)) (o : Session S) → shared_by who os ≡ o ∷ [] → AllByRecursion P os → P o
  its_own P who os o e a =
      let all = all_filter P (is_of who) os a in
      let own : AllByRecursion P (o ∷ []) = subst (λ ps. AllByRecursion P ps) e all in own.0

  number_apart : (who : Sharers) (f : ℕ → Sharers) (o p : Session S) → is_of who o ≡ true → sharers_of o ≡ f o.number → sharers_of p ≡ f p.number → is_of who p ≡ false
      → (p.number == o.number) ≡ false
  number_apart who f o p c e g n = (elim (p.number == o.number) as (λ b. (p.number == o.number) ≡ b → b ≡ false) [
    | true ↦ λ k.
        let same = eqb-true p.number o.number k in
        let bad : true ≡ false = sym c ∙ ap (λ m. same_sharers m who) (e ∙ ap f (sym same) ∙ sym g) ∙ n in absurd cc
    | false ↦ λ k. refl
  ]) refl

  all_imply : (P Q : Session S → Type 0) (os : List (Session S)) → ((o : Session S) → P o → Q o) → AllByRecursion P os → AllByRecursion Q os
  all_imply P Q [] k a = tt
  all_imply P Q (o ∷ os) k a = (k o a.0, all_imply P Q os k a.1)

  pub own_number : (given : ℕ) (who : Sharers) (os : List (Session S)) (o : Session S) → shared_by who os ≡ o ∷ [] → is_of who o ≡ true → AreNumbered given os
      → IsNumberOf o.number who os
  own_number given who os o e c a =
      let own = its_own (λ p. (sharers_of p ≡ a.theirs p.number) × (p.number ≤ given)) who os o e a.each in
      all_imply (λ p. (sharers_of p ≡ a.theirs p.number) × (p.number ≤ given)) (λ p. is_of who p ≡ false → (p.number == o.number) ≡ false) os
      (λ p h n. number_apart who a.theirs o p c own.0 h.0 n) a.each
