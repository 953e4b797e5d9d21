-- A table of a class has a free slot for a set that it does not hold, while no more keys are used than it may hold
use Rattle.std.proofs.Common.{◌≡◌, ◌||◌, ◌∙◌, ◌+◌, ◌<◌, ◌≤◌, ℕ, zero, suc, Bool, true, false, cond, List, [], ◌∷◌, map, find, length, is_some, Option, None, Some, refl, sym, subst, nat_eq, arith}
use Rattle.std.specs.Prelude.{filter_map, unwrap_or, if◌then◌else◌}
use Rattle.std.specs.List.{AllByRecursion, IsDistinct, list_any, range_with_len}
use Rattle.std.specs.Set.{unique_keys, is_member}
use Rattle.std.proofs.lemmas.Bool.{eqb-true}
use Rattle.std.proofs.lemmas.List.{length-map}
use Rattle.std.proofs.lemmas.Map.Made.{length-le_from_is_member}
use Rattle.std.proofs.lemmas.Map.Steps.{le-length_from_below}
use Rattle.std.proofs.Math.Bool.{or-true}
use Rattle.z_types.specs.declared.key.SetKey.{SetKey}
use Rattle.z_types.specs.Exact.{EqIsExact}
use Rattle.z_types.specs.equality.Key as keys
use Rattle.z_types.specs.contracts.key.SetKeyEq.TheImpl.Laws as key_law
use Rattle.z_types.specs.declared.world.World as world
use Rattle.route_config.specs.declared.route.Route.{Route}
use Rattle.pool_sets.specs.Entries.{slots_of}
use Rattle.pool_sets.specs.Table.{Entry, Table, same_key, set_of, is_free, free_slot, room, last_slot}
use Rattle.sharing_rules.specs.Sharers.{Sharers}
use Rattle.sharing_rules.specs.Uses.{Use}
use Rattle.sharing_rules.specs.Needed.{is_by, is_set_by, last_at}
use Rattle.sharing_rules.specs.Orderly.{keys_used}
use Rattle.sharing_rules.specs.steps.Shared.{IsUsedLast, HoldsUsed}
use Rattle.sharing_rules.proofs.SharerFacts.{sharers_itself}
use Rattle.sharing_rules.proofs.TableUses.{used_now}

-- ---- keys that are used

abbrev key_by : Sharers → Use → Option SetKey
key_by who one = if is_by who one then one.key else None

abbrev keys_by : Sharers → List Use → List SetKey
keys_by who before = filter_map (key_by who) before

-- a use of a key puts it among the keys
is_its_key : (who : Sharers) (key : SetKey) (one : Use) (k : Option SetKey) → one.key ≡ k → is_set_by who key one ≡ true → (rest : List Use)
    → is_member same_key (keys_by who (one ∷ rest)) key ≡ true
is_its_key who key one k e h rest = (elim (is_by who one) as (λ b. is_by who one ≡ b → is_member same_key (keys_by who (one ∷ rest)) key ≡ true) [
  | true ↦ λ c. by_key k e c
  | false ↦ λ c. let bad = rw c at h in cc
]) refl
  where
    by_key : (k : Option SetKey) → one.key ≡ k → is_by who one ≡ true → is_member same_key (keys_by who (one ∷ rest)) key ≡ true
    by_key None e c = let bad = rw (c, e) at h in cc
    by_key (Some own) e c = let same = rw (c, e) at h in rw (c, e) (rw same refl)

member_more : (who : Sharers) (key : SetKey) (one : Use) (rest : List Use) → is_member same_key (keys_by who rest) key ≡ true → is_member same_key (keys_by who (one ∷ rest)) key ≡ true
member_more who key one rest h = by_key (key_by who one) refl
  where
    by_key : (k : Option SetKey) → key_by who one ≡ k → is_member same_key (keys_by who (one ∷ rest)) key ≡ true
    by_key None e = rw e h
    by_key (Some own) e = rw (e, h) (or-true (same_key key own))

used_is_member : (who : Sharers) (key : SetKey) (before : List Use) (at : ℕ) → last_at (is_set_by who key) before ≡ Some at → is_member same_key (keys_by who before) key ≡ true
used_is_member who key [] at h = cc
used_is_member who key (one ∷ before) at h = (elim (is_set_by who key one) as (λ b. is_set_by who key one ≡ b → is_member same_key (keys_by who (one ∷ before)) key ≡ true) [
  | true ↦ λ t. is_its_key who key one one.key refl t before
  | false ↦ λ t. member_more who key one before (used_is_member who key before at (rw t at h))
]) refl

-- each of the keys of a table is used
entries_used : (who : Sharers) (before : List Use) (q : SetKey) (es : List Entry) → AllByRecursion (IsUsedLast who before) es → is_member same_key (map (λ e. e.key) es) q ≡ true
    → is_member same_key (keys_by who before) q ≡ true
entries_used who before q [] a h = cc
entries_used who before q (e ∷ es) a h = (elim (same_key q e.key) as (λ b. same_key q e.key ≡ b → is_member same_key (keys_by who before) q ≡ true) [
  | true ↦ λ t. subst (λ k. is_member same_key (keys_by who before) k ≡ true) (sym (keys.key.eq_is_exact q e.key t)) (used_is_member who e.key before e.used a.0)
  | false ↦ λ t. entries_used who before q es a.1 (rw t at h)
]) refl

-- what is left once each has the same members
pub unique_member : {K : Type 0} {eq : K → K → Bool} → EqIsExact eq → (q : K) (ks : List K) → is_member eq ks q ≡ true → is_member eq (unique_keys eq ks) q ≡ true
unique_member exact q [] h = h
unique_member {K} {eq} exact q (k ∷ ks) h = (elim (is_member eq ks k) as (λ b. is_member eq ks k ≡ b → is_member eq (cond b (unique_keys eq ks) (k ∷ unique_keys eq ks)) q ≡ true) [
  | true ↦ λ m. (elim (eq q k) as (λ b. eq q k ≡ b → is_member eq (unique_keys eq ks) q ≡ true) [
    | true ↦ λ t. unique_member exact q ks (subst (λ z. is_member eq ks z ≡ true) (sym (exact q k t)) m)
    | false ↦ λ t. unique_member exact q ks (rw t at h)
  ]) refl
  | false ↦ λ m. (elim (eq q k) as (λ b. eq q k ≡ b → (b || is_member eq (unique_keys eq ks) q) ≡ true) [
    | true ↦ λ t. refl
    | false ↦ λ t. unique_member exact q ks (rw t at h)
  ]) refl
]) refl

none_has : (key : SetKey) (es : List Entry) → find (λ f. same_key f.key key) es ≡ None → AllByRecursion (λ k. same_key key k ≡ false) (map (λ e. e.key) es)
none_has key [] h = tt
none_has key (x ∷ es) h = (elim (same_key x.key key) as (λ b. same_key x.key key ≡ b → AllByRecursion (λ k. same_key key k ≡ false) (map (λ e. e.key) (x ∷ es))) [
  | true ↦ λ t. let bad = rw t at h in cc
  | false ↦ λ t. (key_law.laws-law.symm key x.key ∙ t, none_has key es (rw t at h))
]) refl

module _ {W : Type 0} (w : world.Ghosts W) (route : Route) (who : Sharers) (now : ℕ) (before : List Use) (t : Table) (key : SetKey)
    (h : HoldsUsed w route who now before t) (f : set_of key t ≡ None) where
  all_used : (q : SetKey) → is_member same_key (key ∷ map (λ e. e.key) t.entries) q ≡ true
      → is_member same_key (unique_keys same_key (keys_by who (used_now who (Some key) now ∷ before))) q ≡ true
  all_used q m = (elim (same_key q key) as (λ b. same_key q key ≡ b → is_member same_key (unique_keys same_key (keys_by who (used_now who (Some key) now ∷ before))) q ≡ true) [
    | true ↦ λ k.
        let same = keys.key.eq_is_exact q key k in
        unique_member keys.key.eq_is_exact q (keys_by who (used_now who (Some key) now ∷ before))
        (subst (λ z. is_member same_key (keys_by who (used_now who (Some key) now ∷ before)) z ≡ true) (sym same)
        (is_its_key who key (used_now who (Some key) now) (Some key) refl (rw (sharers_itself who, key_law.laws-law.refl key) refl) before))
    | false ↦ λ k. unique_member keys.key.eq_is_exact q (keys_by who (used_now who (Some key) now ∷ before))
        (member_more who q (used_now who (Some key) now) before (entries_used who before q t.entries h.used (rw k at m)))
  ]) refl

  -- fewer sets are held than there may be
  pub fewer_held : keys_used who (used_now who (Some key) now ∷ before) ≤ route.pool.sets_max → length t.entries < t.most
  unfolding IsDistinct
  fewer_held room =
      let most = length-le_from_is_member key_law.laws-law (key ∷ map (λ e. e.key) t.entries) (unique_keys same_key (keys_by who (used_now who (Some key) now ∷ before)))
      (none_has key t.entries f, h.distinct) all_used in
      let same = length-map t.entries (λ (e : Entry). e.key) in
      rw h.most (omega (arith, most, same, room))

-- ---- a free slot

taken_slot : (q : ℕ) (es : List Entry) → is_free es q ≡ false → list_any (nat_eq q) (slots_of es) ≡ true
taken_slot q [] h = cc
taken_slot q (e ∷ es) h = (elim (nat_eq q e.slot) as (λ b. nat_eq q e.slot ≡ b → (b || list_any (nat_eq q) (slots_of es)) ≡ true) [
  | true ↦ λ t. refl
  | false ↦ λ t. taken_slot q es (rw t at h)
]) refl

-- where a search of a range finds nothing, no number of it passes
range_fails : (p : ℕ → Bool) (from n q : ℕ) → find p (range_with_len from n) ≡ None → from ≤ q → q < from + n → p q ≡ false
range_fails p from zero q h low high = absurd (omega arith)
range_fails p from (suc n) q h low high = (elim (p from) as (λ b. p from ≡ b → p q ≡ false) [
  | true ↦ λ t. let bad = rw t at h in cc
  | false ↦ λ t. (elim (nat_eq from q) as (λ b. nat_eq from q ≡ b → p q ≡ false) [
    | true ↦ λ s. subst (λ z. p z ≡ false) (eqb-true from q s) t
    | false ↦ λ s. range_fails p (from + 1) n q (rw t at h) (grind arith) (omega arith)
  ]) refl
]) refl

-- what is found passes
found_free : (p : ℕ → Bool) (ns : List ℕ) (n : ℕ) → find p ns ≡ Some n → p n ≡ true
found_free p [] n h = cc
found_free p (m ∷ ns) n h = (elim (p m) as (λ b. p m ≡ b → p n ≡ true) [
  | true ↦ λ t. let h' = rw t at h in let same : m ≡ n = cc in subst (λ z. p z ≡ true) same t
  | false ↦ λ t. found_free p ns n (rw t at h)
]) refl

-- room where there is a free slot is one
pub room_is_free : (t : Table) → is_some (free_slot t) ≡ true → is_free t.entries (room t) ≡ true
room_is_free t h = (elim (find (is_free t.entries) (range_with_len 0 t.most)) as (λ o. find (is_free t.entries) (range_with_len 0 t.most) ≡ o → is_free t.entries (unwrap_or o (last_slot t.entries)) ≡ true) [
  | Some slot ↦ λ k. found_free (is_free t.entries) (range_with_len 0 t.most) slot k
  | None ↦ λ k. let bad = rw k at h in cc
]) refl

-- a table that holds fewer sets than it may has a free slot, so that no set makes room
pub no_set_goes : (t : Table) → length t.entries < t.most → is_some (free_slot t) ≡ true
no_set_goes t fewer = (elim (find (is_free t.entries) (range_with_len 0 t.most)) as (λ o. find (is_free t.entries) (range_with_len 0 t.most) ≡ o → is_some (free_slot t) ≡ true) [
  | Some slot ↦ λ k. rw k refl
  | None ↦ λ k.
      let many = le-length_from_below (slots_of t.entries) t.most (λ q below. taken_slot q t.entries (range_fails (is_free t.entries) 0 t.most q k (omega arith) (omega arith))) in
      let same = length-map t.entries (λ (e : Entry). e.slot) in
      absurd (omega (arith, many, same, fewer))
]) refl
