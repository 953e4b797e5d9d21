-- How what a table keeps goes on over its uses
use Rattle.std.proofs.Common.{◌≡◌, ℕ, suc, Bool, true, false, cond, not, ◌==◌, ◌-◌, nat_lt, nat_eq, arith, List, [], ◌∷◌, filter, find, All, None, Some, is_some, refl, sym, ◌∙◌, ap, subst}
use Rattle.std.specs.Cmp.{nat_eq_equiv}
use Rattle.std.specs.List.{IsDistinct, AllByRecursion}
use Rattle.std.proofs.lemmas.List.Elements.{All-filter, All-cons}
use Rattle.z_types.specs.declared.key.SetKey.{SetKey}
use Rattle.z_types.specs.equality.Key as keys
use Rattle.z_types.specs.declared.world.World as world
use Rattle.z_types.specs.declared.sitting.Sitting as sitting
use Rattle.pool_sets.specs.declared.pooled.Parts.{Parts}
use Rattle.pool_sets.specs.Table.{Entry, same_key, set_of, keys_in, without, to_front, moment_of, free_slot, last_slot, after_find, after_expire, after_forget, after_room, after_record}
use Rattle.pool_sets.specs.Kept.{IsKept, TableKept}

pub head_of : {X : Type 0} (P : X → Type 0) (x : X) (xs : List X) → All P (x ∷ xs) → P x
head_of P x xs a = a 0 x (omega arith)

pub rest_of : {X : Type 0} (P : X → Type 0) (x : X) (xs : List X) → All P (x ∷ xs) → All P xs
rest_of P x xs a = λ k d h. a (suc k) d (omega arith)

-- what holds of each item holds of that found
pub found_holds : {X : Type 0} (P : X → Type 0) (q : X → Bool) (xs : List X) (x : X) → All P xs → find q xs ≡ Some x → P x
found_holds P q [] x a h = cc
found_holds P q (y ∷ xs) x a h = (elim (q y) as (λ b. q y ≡ b → P x) [
  | true ↦ λ t. let h' = rw t at h in let same : y ≡ x = cc in subst P same (head_of P y xs a)
  | false ↦ λ t. found_holds P q xs x (rest_of P y xs a) (rw t at h)
]) refl

-- what holds of each key holds of those that are left, and of that of a set that was found
keys_left : (P : SetKey → Type 0) (q : Entry → Bool) (es : List Entry) → AllByRecursion P (keys_in es) → AllByRecursion P (keys_in (filter q es))
keys_left P q [] a = a
keys_left P q (e ∷ es) a = (elim (q e) as (λ b. AllByRecursion P (keys_in (cond b (e ∷ filter q es) (filter q es)))) [
  | true ↦ (a.0, keys_left P q es a.1)
  | false ↦ keys_left P q es a.1
])

key_found : (P : SetKey → Type 0) (q : Entry → Bool) (es : List Entry) (e : Entry) → AllByRecursion P (keys_in es) → find q es ≡ Some e → P e.key
key_found P q [] e a h = cc
key_found P q (x ∷ xs) e a h = (elim (q x) as (λ b. q x ≡ b → P e.key) [
  | true ↦ λ t. let h' = rw t at h in let same : x ≡ e = cc in subst (λ y. P y.key) same a.0
  | false ↦ λ t. key_found P q xs e a.1 (rw t at h)
]) refl

-- keys that differ differ the other way round
flipped : (a b : SetKey) → same_key a b ≡ false → same_key b a ≡ false
flipped a b h = (elim (same_key b a) as (λ c. same_key b a ≡ c → c ≡ false) [
  | true ↦ λ t.
      let same : b ≡ a = keys.key.eq_is_exact b a t in
      let turned : same_key b a ≡ same_key a b = ap (λ k. same_key k a) same ∙ ap (λ k. same_key a k) (sym same) in
      sym t ∙ turned ∙ h
  | false ↦ λ t. refl
]) refl

-- sets that are left have keys that differ
left_apart : (q : Entry → Bool) (es : List Entry) → IsDistinct same_key (keys_in es) → IsDistinct same_key (keys_in (filter q es))
unfolding IsDistinct
left_apart q [] d = d
left_apart q (e ∷ es) d = (elim (q e) as (λ b. IsDistinct same_key (keys_in (cond b (e ∷ filter q es) (filter q es)))) [
  | true ↦ (keys_left (λ k. same_key e.key k ≡ false) q es d.0, left_apart q es d.1)
  | false ↦ left_apart q es d.1
])

-- where none is found for a key, all others differ from it
none_has : (key : SetKey) (es : List Entry) → find (λ e. same_key e.key key) es ≡ None → AllByRecursion (λ k. same_key key k ≡ false) (keys_in es)
none_has key [] h = tt
none_has key (e ∷ es) h = (elim (same_key e.key key) as (λ b. same_key e.key key ≡ b → AllByRecursion (λ k. same_key key k ≡ false) (keys_in (e ∷ es))) [
  | true ↦ λ t. let h' = rw t at h in cc
  | false ↦ λ t. (flipped e.key key t, none_has key es (rw t at h))
]) refl

recorded_apart : (key : SetKey) (es : List Entry) → find (λ e. same_key e.key key) es ≡ None → IsDistinct same_key (keys_in es) → IsDistinct same_key (key ∷ keys_in es)
unfolding IsDistinct
recorded_apart key es h d = (none_has key es h, d)

-- no other set has the key of one that was found
others_differ : (q : Entry → Bool) (es : List Entry) (e : Entry) → IsDistinct same_key (keys_in es) → find q es ≡ Some e → AllByRecursion (λ k. same_key e.key k ≡ false) (keys_in (without e.slot es))
unfolding IsDistinct
others_differ q [] e d h = tt
others_differ q (x ∷ xs) e d h = (elim (q x) as (λ b. q x ≡ b → AllByRecursion (λ k. same_key e.key k ≡ false) (keys_in (without e.slot (x ∷ xs)))) [
  | true ↦ λ t.
      let h' = rw t at h in
      let same : x ≡ e = cc in
      subst (λ y. AllByRecursion (λ k. same_key y.key k ≡ false) (keys_in (without y.slot (x ∷ xs)))) same
      (rw (nat_eq_equiv.refl x.slot) (keys_left (λ k. same_key x.key k ≡ false) (λ f. not (x.slot == f.slot)) xs d.0))
  | false ↦ λ t.
      let h' = rw t at h in
      let rest = others_differ q xs e d.1 h' in
      let apart = flipped x.key e.key (key_found (λ k. same_key x.key k ≡ false) q xs e d.0 h') in
      (elim (nat_eq e.slot x.slot) as (λ b. AllByRecursion (λ k. same_key e.key k ≡ false) (keys_in (cond (not b) (x ∷ without e.slot xs) (without e.slot xs)))) [
        | true ↦ rest
        | false ↦ (apart, rest)
      ])
]) refl

-- once the set that was found came to the front
front_apart : (moment : ℕ) (q : Entry → Bool) (es : List Entry) → IsDistinct same_key (keys_in es) → IsDistinct same_key (keys_in (to_front moment (find q es) es))
unfolding IsDistinct
front_apart moment q es d =
    (elim (find q es) as (λ o. find q es ≡ o → IsDistinct same_key (keys_in (to_front moment o es))) [
      | None ↦ λ h. d
      | Some e ↦ λ h. (others_differ q es e d h, left_apart (λ f. not (e.slot == f.slot)) es d)
    ]) refl

module _ {W S : Type 0} (w : world.Ghosts W) (t : sitting.Ghosts S W) where
  -- a use changes the moment alone
  used_kept : (session : S) (moment : ℕ) (e : Entry) → IsKept w t session e → IsKept w t session (record { slot = e.slot; key = e.key; hits = e.hits; used = moment })
  used_kept session moment e k = record { small = k.small; count = k.count; stands = k.stands; right = k.right }

  to_front_kept : (session : S) (moment : ℕ) (q : Entry → Bool) (es : List Entry) → All (IsKept w t session) es → All (IsKept w t session) (to_front moment (find q es) es)
  to_front_kept session moment q es a =
      (elim (find q es) as (λ o. find q es ≡ o → All (IsKept w t session) (to_front moment o es)) [
        | None ↦ λ h. a
        | Some e ↦ λ h. All-cons (IsKept w t session) _ (without e.slot es) (used_kept session moment e (found_holds (IsKept w t session) q es e a h)) (All-filter (λ (f : Entry). not (e.slot == f.slot)) (IsKept w t session) es a)
      ]) refl

  -- after a search of the table
  pub find_kept : (key : SetKey) (now : ℕ) (p : Parts S) → TableKept w t p → TableKept w t (record { session = p.session; table = after_find key now p.table; address = p.address })
  find_kept key now p k = record {
    same_address = k.same_address;
    each = to_front_kept p.session (moment_of now p.table) (λ e. same_key e.key key) p.table.entries k.each;
    once = front_apart (moment_of now p.table) (λ e. same_key e.key key) p.table.entries k.once;
  }

  -- after it expired
  pub expire_kept : (now ttl : ℕ) (p : Parts S) → TableKept w t p → TableKept w t (record { session = p.session; table = after_expire now ttl p.table; address = p.address })
  expire_kept now ttl p k = record {
    same_address = k.same_address;
    each = All-filter (λ (e : Entry). nat_lt (moment_of now p.table - e.used) ttl) (IsKept w t p.session) p.table.entries k.each;
    once = left_apart (λ e. nat_lt (moment_of now p.table - e.used) ttl) p.table.entries k.once;
  }

  -- after the set of a slot was forgotten
  pub forget_kept : (slot : ℕ) (p : Parts S) → TableKept w t p → TableKept w t (record { session = p.session; table = after_forget slot p.table; address = p.address })
  forget_kept slot p k = record {
    same_address = k.same_address;
    each = All-filter (λ (e : Entry). not (slot == e.slot)) (IsKept w t p.session) p.table.entries k.each;
    once = left_apart (λ e. not (slot == e.slot)) p.table.entries k.once;
  }

  -- after room was made
  pub room_kept : (p : Parts S) → TableKept w t p → TableKept w t (record { session = p.session; table = after_room p.table; address = p.address })
  room_kept p k =
      (elim (is_some (free_slot p.table)) as (λ b. TableKept w t (record { session = p.session; table = cond b p.table (after_forget (last_slot p.table.entries) p.table); address = p.address })) [
        | true ↦ k
        | false ↦ forget_kept (last_slot p.table.entries) p k
      ])

  -- after a set was recorded of whose key it had none
  pub record_kept : (slot : ℕ) (key : SetKey) (hits now : ℕ) (p : Parts S) → set_of key p.table ≡ None → IsKept w t p.session (record { slot = slot; key = key; hits = hits; used = moment_of now p.table }) → TableKept w t p → TableKept w t (record { session = p.session; table = after_record slot key hits now p.table; address = p.address })
  record_kept slot key hits now p lacks new k = record {
    same_address = k.same_address;
    each = All-cons (IsKept w t p.session) (record { slot = slot; key = key; hits = hits; used = moment_of now p.table }) p.table.entries new k.each;
    once = recorded_apart key p.table.entries lacks k.once;
  }
