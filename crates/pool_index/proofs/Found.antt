-- Idle sessions are found, also where pairs of others were taken out
use Rattle.std.proofs.Common.{◌≡◌, inl, inr, ℕ, suc, nat_eq, Bool, true, false, List, ◌∷◌, get_or, set, Contains, Option, is_some, All, refl, sym, ◌∙◌, ap, subst, rules}
use Rattle.std.specs.List.{remove}
use Rattle.std.specs.List.Sorted.{IsPermutation}
use Rattle.std.proofs.lemmas.Bool.{eqb-true, eqb-false}
use Rattle.std.proofs.lemmas.List.Sorted.{Contains-permutation}
use Rattle.std.proofs.lemmas.List.Elements.{All-weaker, All-set, All-append, All-take, All-drop}
use Rattle.z_types.specs.Logins.{same_login}
use Rattle.z_types.proofs.LoginLemmas.{login_exact}
use Rattle.z_types.specs.equality.Tests.{both_true}
use Rattle.z_types.specs.declared.address.Address.{Address}
use Rattle.pool_sets.specs.Sessions.{Session, in_class, is_for, stand_login, idle_in, idle_for, is_out}
use Rattle.pool_core.proofs.Chosen.{idle_of, own_of}
use Rattle.pool_keys.specs.declared.index.Pair.{Pair}
use Rattle.pool_keys.specs.Pairs.{Indexed, Holds, Grows, pair}
use Rattle.pool_keys.specs.Digests.{Sharers}
use Rattle.pool_keys.proofs.PairLemmas.{in_cons}
use Rattle.pool_roster.specs.Told.{Gains, sharers_of}
use Rattle.pool_roster.proofs.Seeking.{AreFound}
use Rattle.pool_index.specs.RegisterView.{KeepsOthers, IsFound, IsGathered, IsGone}

-- where a pair is taken out, each of another number stays
pub others_stay : (out : Bool) (one : Pair) (old new : Indexed) → (out ≡ true → IsPermutation old.pairs (one ∷ new.pairs)) → (out ≡ false → new ≡ old) → new.whole ≡ old.whole → KeepsOthers one.number old new
others_stay true one old new taken still same p other h = λ whole. (elim (in_cons new.pairs one p (Contains-permutation old.pairs (one ∷ new.pairs) p (taken refl) (h (sym same ∙ whole)))) as (λ r. Contains new.pairs p) [
  | inl there ↦ there
  | inr e ↦ absurd (other (ap (λ (q : Pair). q.number) e))
])
others_stay false one old new taken still same p other h = subst (λ (i : Indexed). Holds i p) (sym (still refl)) h

module _ {S : Type 0} (own : Sharers → ℕ) where
  pub out_found : (index : Indexed) (o : Session S) → is_out o.stand ≡ true → IsFound own index o
  out_found index o out idle = let bad : true ≡ false = sym out ∙ idle in cc

  pub grown : (index after : Indexed) → Grows index after → (o : Session S) → IsFound own index o → IsFound own after o
  grown index after g o h idle = (g (pair (own (sharers_of o)) o.number) (h idle).0, g (pair o.class o.number) (h idle).1)

  pub lacking_found : (index : Indexed) → index.whole ≡ false → (o : Session S) → IsFound own index o
  lacking_found index lacks o idle = (
    λ whole. let bad : true ≡ false = sym whole ∙ lacks in cc,
    λ whole. let bad : true ≡ false = sym whole ∙ lacks in cc,
  )

  other_found : (number : ℕ) (old new : Indexed) → KeepsOthers number old new → (o : Session S) → (o.number ≡ number → ⊥) → IsFound own old o → IsFound own new o
  other_found number old new keeps o other h idle = (keeps (pair (own (sharers_of o)) o.number) other (h idle).0, keeps (pair o.class o.number) other (h idle).1)

  one_gone : (number : ℕ) (old new : Indexed) → KeepsOthers number old new → (o : Session S) → (o.number ≡ number → is_out o.stand ≡ true) → IsFound own old o → IsFound own new o
  one_gone number old new keeps o gone h = (elim (nat_eq o.number number) as (λ b. nat_eq o.number number ≡ b → IsFound own new o) [
    | true ↦ λ e. out_found new o (gone (eqb-true o.number number e))
    | false ↦ λ e. other_found number old new keeps o (eqb-false o.number number e) h
  ]) refl

  -- where pairs of a number are taken out of which no session is idle
  pub gone_found : (number : ℕ) (old new : Indexed) (os : List (Session S)) → KeepsOthers number old new → IsGone number os → All (IsFound own old) os → All (IsFound own new) os
  gone_found number old new os keeps gone h k d w = one_gone number old new keeps (get_or os k d) (gone k d w) (h k d w)

  -- what is found of all is found of those that are left
  pub left_found : (index : Indexed) (os : List (Session S)) (i : ℕ) → All (IsFound own index) os → All (IsFound own index) (remove os i)
  left_found index os i h = All-append (IsFound own index) _ _ (All-take (IsFound own index) i os h) (All-drop (IsFound own index) (suc i) os h)

  -- one is changed, and is found
  pub put_found : (index after : Indexed) (os : List (Session S)) (i : ℕ) (y : Session S) → Grows index after → IsFound own after y → All (IsFound own index) os → All (IsFound own after) (set os i y)
  put_found index after os i y g is h = All-set (IsFound own after) os i y is (All-weaker (IsFound own index) (IsFound own after) (grown index after g) os h)

  pub gathered_still : (ps qs : List Pair) → Gains ps qs → (o : Session S) → IsGathered own ps o → IsGathered own qs o
  gathered_still ps qs gains o h = (gains (pair (own (sharers_of o)) o.number) h.0, gains (pair o.class o.number) h.1)

  -- what was gathered is found
  pub filled_found : (index : Indexed) (ps : List Pair) (os : List (Session S)) → IsPermutation ps index.pairs → All (IsGathered own ps) os → All (IsFound own index) os
  filled_found index ps os moved h k d w idle =
      let o = get_or os k d in (
        λ whole. Contains-permutation ps index.pairs (pair (own (sharers_of o)) o.number) moved (h k d w).0,
        λ whole. Contains-permutation ps index.pairs (pair o.class o.number) moved (h k d w).1,
      )

  module _ (index : Indexed) (whole : index.whole ≡ true) (class : ℕ) (at : List Address) where
    class_is : (o : Session S) → in_class class at o ≡ true → o.class ≡ class
    class_is o h = search rules

    login_is : (login : Option (List ℕ)) (o : Session S) → is_for login o ≡ true → o.login ≡ login
    login_is login o h = sym (login_exact login o.login (both_true (same_login login o.login) (same_login login (stand_login o.login o.stand)) h).0)

    one_own : (login : Option (List ℕ)) (o : Session S) → IsFound own index o → is_some (idle_for class at login o) ≡ true → Contains index.pairs (pair (own (class, login)) o.number)
    one_own login o h is =
        let w = own_of class at login o is in
        let same : sharers_of o ≡ (class, login) = λ i. (class_is o w.1.idle.of_class i, login_is login o w.1.own i) in
        subst (λ s. Contains index.pairs (pair (own s) o.number)) same ((h (rw w.1.idle.stand refl)).0 whole)

    one_idle : (o : Session S) → IsFound own index o → is_some (idle_in class at o) ≡ true → Contains index.pairs (pair class o.number)
    one_idle o h is =
        let w = idle_of class at o is in
        subst (λ c. Contains index.pairs (pair c o.number)) (class_is o w.1.of_class) ((h (rw w.1.stand refl)).1 whole)

    -- the idle sessions of a class and a login are found
    pub own_found : (login : Option (List ℕ)) (os : List (Session S)) → All (IsFound own index) os → AreFound index (own (class, login)) (λ o. is_some (idle_for class at login o)) os
    own_found login os h k d w = one_own login (get_or os k d) (h k d w)

    -- and those of a class
    pub idle_found : (os : List (Session S)) → All (IsFound own index) os → AreFound index class (λ o. is_some (idle_in class at o)) os
    idle_found os h k d w = one_idle (get_or os k d) (h k d w)
