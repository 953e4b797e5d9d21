-- The sets of a cache and the entries of a table
use Rattle.std.proofs.Common.{max, is_some, ◌&&◌, ◌≡◌, ℕ, Bool, true, false, cond, not, List, [], ◌∷◌, map, find, Option, None, Some, option_map, refl, sym, ◌∙◌, ap, subst, nat_eq}
use Rattle.std.specs.List.{IsDistinct, AllByRecursion}
use Rattle.std.specs.Map.{keys_of, lookup, lookup_entry, remove_entry, set_value}
use Rattle.std.specs.Cmp.{nat_eq_equiv}
use Rattle.std.proofs.lemmas.Bool.{eqb-true}
use Rattle.lru.specs.LruCache.{LruCache, lru_cache, promoted}
use Rattle.std.proofs.lemmas.Map.{keys-set_value}
use Rattle.lru.proofs.CallerLemmas.{Contains-lookup_entry}
use Rattle.z_types.specs.declared.key.SetKey.{SetKey}
use Rattle.pool_sets.specs.declared.table.HeldSet.{HeldSet}
use Rattle.pool_sets.specs.Table.{Entry, same_key, set_of, without, after_find, is_free}
use Rattle.pool_sets.specs.Entries.{set_at, after_use, slot_and_hits}
use Rattle.pool_sets.specs.TableView.{entry_of, table_of}

-- a search over what h makes of the items
pub find-map : {X Y : Type 0} (q : Y → Bool) (h : X → Y) (xs : List X) → find q (map h xs) ≡ option_map h (find (λ x. q (h x)) xs)
find-map q h [] = refl
find-map q h (x ∷ xs) =
    (elim (q (h x)) as (λ b. cond b (Some (h x)) (find q (map h xs)) ≡ option_map h (cond b (Some x) (find (λ z. q (h z)) xs))) [
      | true ↦ refl
      | false ↦ find-map q h xs
    ])

-- what was found passes
pub find_passes : {X : Type 0} (q : X → Bool) (xs : List X) (x : X) → find q xs ≡ Some x → q x ≡ true
find_passes q [] x h = cc
find_passes q (y ∷ xs) x h = (elim (q y) as (λ b. q y ≡ b → q x ≡ true) [
  | true ↦ λ t. let h' = rw t at h in let same : y ≡ x = cc in subst (λ z. q z ≡ true) same t
  | false ↦ λ t. find_passes q xs x (rw t at h)
]) refl

-- what holds of each key holds of that found
pub found_key : {K X : Type 0} (P : K → Type 0) (q : K × X → Bool) (es : List (K × X)) (p : K × X) → AllByRecursion P (keys_of es) → find q es ≡ Some p → P p.0
found_key P q [] p a h = cc
found_key P q (e ∷ es) p a h = (elim (q e) as (λ b. q e ≡ b → P p.0) [
  | true ↦ λ t. let h' = rw t at h in let same : e ≡ p = cc in subst (λ z. P z.0) same a.0
  | false ↦ λ t. found_key P q es p a.1 (rw t at h)
]) refl

-- of distinct slots, that of the pair that was found finds that pair
pub found_entry : {X : Type 0} (q : ℕ × X → Bool) (es : List (ℕ × X)) (p : ℕ × X) → IsDistinct nat_eq (keys_of es) → find q es ≡ Some p → lookup_entry (nat_eq p.0) es ≡ Some p
unfolding IsDistinct
found_entry q [] p d h = cc
found_entry {X} q (e ∷ es) p d h = (elim (q e) as (λ b. q e ≡ b → lookup_entry (nat_eq p.0) (e ∷ es) ≡ Some p) [
  | true ↦ λ t. let h' = rw t at h in let same : e ≡ p = cc in
      rw (← same) (rw (nat_eq_equiv.refl e.0) refl)
  | false ↦ λ t. let h' = rw t at h in
      let apart : nat_eq p.0 e.0 ≡ false = sym (nat_eq_equiv.symm e.0 p.0) ∙ found_key (λ k. nat_eq e.0 k ≡ false) q es p d.0 h' in
      rw apart (found_entry q es p d.1 h')
]) refl

-- no entry of another slot goes
pub none_goes : (slot : ℕ) (es : List (ℕ × HeldSet)) → AllByRecursion (λ k. nat_eq slot k ≡ false) (keys_of es) → without slot (map entry_of es) ≡ map entry_of es
none_goes slot [] a = refl
none_goes slot (e ∷ es) a = rw a.0 (ap (λ r. entry_of e ∷ r) (none_goes slot es a.1))

-- of distinct slots, one pair at most goes with its slot
pub removed_is_without : (slot : ℕ) (es : List (ℕ × HeldSet)) → IsDistinct nat_eq (keys_of es) → map entry_of (remove_entry (nat_eq slot) es) ≡ without slot (map entry_of es)
unfolding IsDistinct
removed_is_without slot [] d = refl
removed_is_without slot (e ∷ es) d = (elim (nat_eq slot e.0) as (λ b. nat_eq slot e.0 ≡ b → map entry_of (remove_entry (nat_eq slot) (e ∷ es)) ≡ without slot (map entry_of (e ∷ es))) [
  | true ↦ λ t. rw t (sym (none_goes slot es (subst (λ s. AllByRecursion (λ k. nat_eq s k ≡ false) (keys_of es)) (sym (eqb-true slot e.0 t)) d.0)))
  | false ↦ λ t. rw t (ap (λ r. entry_of e ∷ r) (removed_is_without slot es d.1))
]) refl

-- what a search of the cache found is what the table holds
pub held_in : (key : SetKey) (c : LruCache ℕ HeldSet) (latest : ℕ) (o : Option (ℕ × HeldSet)) → o ≡ find (λ p. same_key p.1.key key) c.entries → set_of key (table_of c latest) ≡ option_map entry_of o
held_in key c latest o h = find-map (λ (e : Entry). same_key e.key key) entry_of c.entries ∙ ap (option_map entry_of) (sym h)

-- a look-up gives the value of the pair that it finds
pub lookup_of_entry : {X : Type 0} (test : ℕ → Bool) (es : List (ℕ × X)) → lookup test es ≡ option_map (λ p. p.1) (lookup_entry test es)
lookup_of_entry test [] = refl
lookup_of_entry test (e ∷ es) =
    (elim (test e.0) as (λ b. cond b (Some e.1) (lookup test es) ≡ option_map (λ p. p.1) (cond b (Some e) (lookup_entry test es))) [
      | true ↦ refl
      | false ↦ lookup_of_entry test es
    ])

-- the set of a slot in the table
pub at_slot_is : (slot : ℕ) (es : List (ℕ × HeldSet)) → find (λ (e : Entry). nat_eq slot e.slot) (map entry_of es) ≡ option_map entry_of (lookup_entry (nat_eq slot) es)
at_slot_is slot [] = refl
at_slot_is slot (e ∷ es) =
    (elim (nat_eq slot e.0) as (λ b. cond b (Some (entry_of e)) (find (λ (f : Entry). nat_eq slot f.slot) (map entry_of es)) ≡ option_map entry_of (cond b (Some e) (lookup_entry (nat_eq slot) es))) [
      | true ↦ refl
      | false ↦ at_slot_is slot es
    ])

pub entry_passes : {X : Type 0} (test : ℕ → Bool) (es : List (ℕ × X)) (p : ℕ × X) → lookup_entry test es ≡ Some p → test p.0 ≡ true
entry_passes test es p h = (Contains-lookup_entry test es p h).1

abbrev pub used_now : HeldSet → ℕ → HeldSet
used_now x moment = record { key = x.key; hits = x.hits; used = moment }

-- the cache after a use of the pair at p's slot
touched_pair : (p : ℕ × HeldSet) (c : LruCache ℕ HeldSet) (latest : ℕ) → IsDistinct nat_eq (keys_of c.entries) → lookup_entry (nat_eq p.0) c.entries ≡ Some p →
    (Some p.1.hits ≡ option_map (λ (e : Entry). e.hits) (set_at p.0 (table_of c latest))) × (table_of (lru_cache (set_value (nat_eq p.0) (promoted (nat_eq p.0) c.entries) (used_now p.1 latest)) c.cap) latest ≡ after_use p.0 (table_of c latest))
touched_pair p c latest d h =
    let s : set_at p.0 (table_of c latest) ≡ Some (entry_of p) = at_slot_is p.0 c.entries ∙ ap (option_map entry_of) h in
    let r = removed_is_without p.0 c.entries d in
    let same = nat_eq_equiv.refl p.0 in
    (rw s refl, rw (s, h, same, r) refl)

-- the same by the look-up
pub touched : (slot : ℕ) (x : HeldSet) (c : LruCache ℕ HeldSet) (latest : ℕ) → IsDistinct nat_eq (keys_of c.entries) → lookup (nat_eq slot) c.entries ≡ Some x →
    (Some x.hits ≡ option_map (λ (e : Entry). e.hits) (set_at slot (table_of c latest))) × (table_of (lru_cache (set_value (nat_eq slot) (promoted (nat_eq slot) c.entries) (used_now x latest)) c.cap) latest ≡ after_use slot (table_of c latest))
touched slot x c latest d h =
    (elim (lookup_entry (nat_eq slot) c.entries) as (λ o. lookup_entry (nat_eq slot) c.entries ≡ o → (Some x.hits ≡ option_map (λ (e : Entry). e.hits) (set_at slot (table_of c latest))) × (table_of (lru_cache (set_value (nat_eq slot) (promoted (nat_eq slot) c.entries) (used_now x latest)) c.cap) latest ≡ after_use slot (table_of c latest))) [
      | None ↦ λ k. let e : None ≡ Some x = sym (lookup_of_entry (nat_eq slot) c.entries ∙ ap (option_map (λ p. p.1)) k) ∙ h in cc
      | Some p ↦ λ k.
          let e : Some p.1 ≡ Some x = sym (lookup_of_entry (nat_eq slot) c.entries ∙ ap (option_map (λ p. p.1)) k) ∙ h in
          let is_x : p.1 ≡ x = cc in
          let is_slot : p.0 ≡ slot = sym (eqb-true slot p.0 (entry_passes (nat_eq slot) c.entries p k)) in
          let w = touched_pair p c latest d (subst (λ s. lookup_entry (nat_eq s) c.entries ≡ Some p) (sym is_slot) k) in
          subst (λ y. (Some y.hits ≡ option_map (λ (e : Entry). e.hits) (set_at slot (table_of c latest))) × (table_of (lru_cache (set_value (nat_eq slot) (promoted (nat_eq slot) c.entries) (used_now y latest)) c.cap) latest ≡ after_use slot (table_of c latest))) is_x
          (subst (λ s. (Some p.1.hits ≡ option_map (λ (e : Entry). e.hits) (set_at s (table_of c latest))) × (table_of (lru_cache (set_value (nat_eq s) (promoted (nat_eq s) c.entries) (used_now p.1 latest)) c.cap) latest ≡ after_use s (table_of c latest))) is_slot w)
    ]) refl

-- what the table has nothing of is looked up in vain
pub untouched : (slot : ℕ) (c : LruCache ℕ HeldSet) (latest : ℕ) → lookup (nat_eq slot) c.entries ≡ None → set_at slot (table_of c latest) ≡ None
untouched slot c latest h =
    (elim (lookup_entry (nat_eq slot) c.entries) as (λ o. lookup_entry (nat_eq slot) c.entries ≡ o → set_at slot (table_of c latest) ≡ None) [
      | None ↦ λ k. at_slot_is slot c.entries ∙ ap (option_map entry_of) k
      | Some p ↦ λ k. let e : None ≡ Some p.1 = sym h ∙ lookup_of_entry (nat_eq slot) c.entries ∙ ap (option_map (λ p. p.1)) k in cc
    ]) refl

-- what holds of each slot holds after a set went
pub all_removed : (P : ℕ → Type 0) (test : ℕ → Bool) (es : List (ℕ × HeldSet)) → AllByRecursion P (keys_of es) → AllByRecursion P (keys_of (remove_entry test es))
all_removed P test [] a = a
all_removed P test (e ∷ es) a =
    (elim (test e.0) as (λ b. AllByRecursion P (keys_of (cond b es (e ∷ remove_entry test es)))) [
      | true ↦ a.1
      | false ↦ (a.0, all_removed P test es a.1)
    ])

-- and of the pair that is looked up
pub all_entry : (P : ℕ → Type 0) (test : ℕ → Bool) (es : List (ℕ × HeldSet)) (p : ℕ × HeldSet) → AllByRecursion P (keys_of es) → lookup_entry test es ≡ Some p → P p.0
all_entry P test [] p a h = cc
all_entry P test (e ∷ es) p a h = (elim (test e.0) as (λ b. test e.0 ≡ b → P p.0) [
  | true ↦ λ t. let h' = rw t at h in let same : e ≡ p = cc in subst (λ (z : ℕ × HeldSet). P z.0) same a.0
  | false ↦ λ t. all_entry P test es p a.1 (rw t at h)
]) refl

-- and after a use
pub all_used : (P : ℕ → Type 0) (test : ℕ → Bool) (es : List (ℕ × HeldSet)) (w : HeldSet) → AllByRecursion P (keys_of es) → AllByRecursion P (keys_of (set_value test (promoted test es) w))
all_used P test es w a =
    rw (keys-set_value test (promoted test es) w) ((elim (lookup_entry test es) as (λ o. lookup_entry test es ≡ o → AllByRecursion P (keys_of (promoted test es))) [
      | None ↦ λ k. rw k a
      | Some p ↦ λ k. rw k (all_entry P test es p a k, all_removed P test es a)
    ]) refl)

-- the slot of a key's set finds that set
pub slot_finds : (key : SetKey) (c : LruCache ℕ HeldSet) (latest slot : ℕ) → IsDistinct nat_eq (keys_of c.entries) → Some slot ≡ option_map (λ (e : Entry). e.slot) (set_of key (table_of c latest)) → set_at slot (table_of c latest) ≡ set_of key (table_of c latest)
slot_finds key c latest slot d h =
    (elim (find (λ (p : ℕ × HeldSet). same_key p.1.key key) c.entries) as (λ o. find (λ (p : ℕ × HeldSet). same_key p.1.key key) c.entries ≡ o → set_at slot (table_of c latest) ≡ set_of key (table_of c latest)) [
      | None ↦ λ k. let e : Some slot ≡ None = h ∙ ap (option_map (λ (e : Entry). e.slot)) (held_in key c latest None (sym k)) in cc
      | Some p ↦ λ k.
          let w = held_in key c latest (Some p) (sym k) in
          let e : Some slot ≡ Some p.0 = h ∙ ap (option_map (λ (e : Entry). e.slot)) w in
          let is_slot : slot ≡ p.0 = cc in
          let at : set_at p.0 (table_of c latest) ≡ Some (entry_of p) = at_slot_is p.0 c.entries ∙ ap (option_map entry_of) (found_entry (λ (q : ℕ × HeldSet). same_key q.1.key key) c.entries p d k) in
          subst (λ s. set_at s (table_of c latest) ≡ set_of key (table_of c latest)) (sym is_slot) (at ∙ sym w)
    ]) refl

-- the slot and the hits of one set
pub pair_of : (slot hits : ℕ) (e : Option Entry) → Some slot ≡ option_map (λ (e : Entry). e.slot) e → Some hits ≡ option_map (λ (e : Entry). e.hits) e → Some (slot, hits) ≡ slot_and_hits e
pair_of slot hits None s h = cc
pair_of slot hits (Some e) s h = let a : slot ≡ e.slot = cc in let b : hits ≡ e.hits = cc in λ i. Some (a i, b i)

-- a set has both
pub not_one : {X : Type 0} (slot : ℕ) (e : Option Entry) → Some slot ≡ option_map (λ (e : Entry). e.slot) e → None ≡ option_map (λ (e : Entry). e.hits) e → X
not_one slot None s h = cc
not_one slot (Some e) s h = cc

-- the use of a key's set is what a search for the key does
pub used_is_found : (key : SetKey) (c : LruCache ℕ HeldSet) (latest now m slot : ℕ) → m ≡ max latest now → set_at slot (table_of c m) ≡ set_of key (table_of c m) → after_use slot (table_of c m) ≡ after_find key now (table_of c latest)
used_is_found key c latest now m slot e at = rw (at, e) refl

-- a look-up finds nothing exactly at a free slot
pub free_is : (slot : ℕ) (es : List (ℕ × HeldSet)) → not (is_some (lookup (nat_eq slot) es)) ≡ is_free (map entry_of es) slot
free_is slot [] = refl
free_is slot (e ∷ es) =
    (elim (nat_eq slot e.0) as (λ b. not (is_some (cond b (Some e.1) (lookup (nat_eq slot) es))) ≡ (not b && is_free (map entry_of es) slot)) [
      | true ↦ refl
      | false ↦ free_is slot es
    ])
