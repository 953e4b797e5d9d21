-- Tables that do not hold the set that is wanted
use Rattle.std.proofs.Common.{◌≡◌, ◌==◌, ℕ, zero, suc, Bool, true, false, cond, not, nat_eq, List, [], ◌∷◌, filter, find, Contains, None, is_some, Ok, refl, sym, ◌∙◌, ap, subst, arith, if◌then◌else◌}
use Rattle.std.specs.Cmp.{nat_eq_equiv}
use Rattle.std.specs.List.{IsDistinct, AllByRecursion}
use Rattle.z_types.specs.declared.key.SetKey.{SetKey}
use Rattle.z_types.specs.declared.address.Address.{Address}
use Rattle.z_types.specs.declared.records.Item.{Item}
use Rattle.z_types.specs.declared.sitting.Sitting as sitting
use Rattle.z_types.specs.declared.world.World as world
use Rattle.z_types.specs.equality.Key as keys
use Rattle.pool_sets.specs.Kept.{IsKept, TableKept}
use Rattle.pool_sets.proofs.KeptLemmas as kept_lemmas
use Rattle.leg.specs.declared.phases.Held.{Held}
use Rattle.leg.specs.declared.tasks.Task.{Task}
use Rattle.leg.specs.declared.tasks.Task.TheVariants.{Hits, Records, Scan}
use Rattle.leg.specs.Kept.{ItemsKept}
use Rattle.leg.specs.Phases.{with_sets}
use Rattle.leg.specs.steps.Replies.{IsFound}
use Rattle.pool_sets.specs.Doors.{HasSet}
use Rattle.pool_sets.specs.Table.{Entry, Table, same_key, set_of, keys_in, without, free_slot, last_slot, after_forget, after_room, after_record, moment_of}

abbrev has_key : SetKey → Entry → Bool
has_key key e = same_key e.key key

-- what is not found is not found in less
lacks_left : (key : SetKey) (q : Entry → Bool) (es : List Entry) → find (has_key key) es ≡ None → find (has_key key) (filter q es) ≡ None
lacks_left key q [] h = refl
lacks_left key q (e ∷ es) h = (elim (same_key e.key key) as (λ b. same_key e.key key ≡ b → find (has_key key) (filter q (e ∷ es)) ≡ None) [
  | true ↦ λ t. let k = rw t at h in cc
  | false ↦ λ t.
      let rest = lacks_left key q es (rw t at h) in
      (elim (q e) as (λ b. find (has_key key) (cond b (e ∷ filter q es) (filter q es)) ≡ None) [
        | true ↦ rw t rest
        | false ↦ rest
      ])
]) refl

pub lacks_after_room : (key : SetKey) (table : Table) → set_of key table ≡ None → set_of key (after_room table) ≡ None
lacks_after_room key table h =
    elim (is_some (free_slot table)) as (λ free. set_of key (if free then table else after_forget (last_slot table.entries) table) ≡ None) [
      | true ↦ h
      | false ↦ lacks_left key (λ e. not (last_slot table.entries == e.slot)) table.entries h
    ]

-- a key that differs from one differs from it the other way round
not_same : (key other : SetKey) → same_key key other ≡ false → same_key other key ≡ false
not_same key other h = (elim (same_key other key) as (λ b. same_key other key ≡ b → b ≡ false) [
  | true ↦ λ t.
      let same : other ≡ key = keys.key.eq_is_exact other key t in
      let turned : same_key other key ≡ same_key key other = ap (λ k. same_key k key) same ∙ ap (λ k. same_key key k) (sym same) in
      sym t ∙ turned ∙ h
  | false ↦ λ t. refl
]) refl

-- keys that differ from one are not its own
others_lack : (key : SetKey) (q : Entry → Bool) (es : List Entry) → AllByRecursion (λ k. same_key key k ≡ false) (keys_in es)
    → find (has_key key) (filter q es) ≡ None
others_lack key q [] h = refl
others_lack key q (e ∷ es) h =
    let rest = others_lack key q es h.1 in
    let differs = not_same key e.key h.0 in
    (elim (q e) as (λ b. find (has_key key) (cond b (e ∷ filter q es) (filter q es)) ≡ None) [
      | true ↦ rw differs rest
      | false ↦ rest
    ])

-- what holds of all keys holds of that of a set
of_key : (P : SetKey → Type 0) (es : List Entry) (e : Entry) → AllByRecursion P (keys_in es) → Contains es e → P e.key
of_key P [] e all (k, within, is) = absurd (omega arith)
of_key P (x ∷ es) e all (zero, within, is) = subst (λ (y : Entry). P y.key) is all.0
of_key P (x ∷ es) e all (suc k, within, is) = of_key P es e all.1 (k, (omega arith), is)

-- once the set of a key is forgotten none has it
forgotten : (es : List Entry) (e : Entry) → IsDistinct same_key (keys_in es) → Contains es e → find (has_key e.key) (without e.slot es) ≡ None
unfolding IsDistinct
forgotten [] e d (k, within, is) = absurd (omega arith)
forgotten (x ∷ es) e d (zero, within, is) =
    let P : Entry → Type 0 = λ y. find (has_key y.key) (without y.slot (x ∷ es)) ≡ None in
    subst P is (rw (nat_eq_equiv.refl x.slot) (others_lack x.key (λ f. not (x.slot == f.slot)) es d.0))
forgotten (x ∷ es) e d (suc k, within, is) =
    let has : Contains es e = (k, (omega arith), is) in
    let rest = forgotten es e d.1 has in
    let differs : same_key x.key e.key ≡ false = of_key (λ y. same_key x.key y ≡ false) es e d.0 has in
    (elim (nat_eq e.slot x.slot) as (λ b. find (has_key e.key) (cond (not b) (x ∷ without e.slot es) (without e.slot es)) ≡ None) [
      | true ↦ rest
      | false ↦ rw differs rest
    ])

pub forgot : (key : SetKey) (slot hits : ℕ) (table : Table) → IsDistinct same_key (keys_in table.entries) → HasSet table.entries slot key hits
    → set_of key (after_forget slot table) ≡ None
forgot key slot hits table d own = forgotten table.entries (record { slot = slot; key = key; hits = hits; used = own.0 }) d own.1

module _ {W S : Type 0} (w : world.Ghosts W) (t : sitting.Ghosts S W) where
  found_entry : (task : Task) (held : Held S) (slot hits used : ℕ) (k : IsFound w t task held slot hits)
      → IsKept w t held.parts.session (record { slot = slot; key = k.key; hits = hits; used = used })
  found_entry task held slot hits used k = record {
    small = k.small;
    count = k.count;
    stands = k.made;
    right = subst (λ (x : Address). w.told x → w.search x k.key ≡ Ok hits) (sym k.rests.kept.same_address) k.right;
  }

  -- the sets that are kept with one that was found
  pub found_kept : (task : Task) (held : Held S) (slot hits now : ℕ) (key : SetKey) (k : IsFound w t task held slot hits) → k.key ≡ key
      → TableKept w t (record { session = held.parts.session; table = after_record slot key hits now held.parts.table; address = held.parts.address })
  found_kept task held slot hits now key k same =
      subst (λ (x : SetKey). TableKept w t (record { session = held.parts.session; table = after_record slot x hits now held.parts.table; address = held.parts.address })) same
      (kept_lemmas.record_kept w t slot k.key hits now held.parts k.lacks (found_entry task held slot hits (moment_of now held.parts.table) k) k.rests.kept)

  -- nor does a recorded set change what came before
  pub found_items : (task : Task) (held : Held S) (items : List Item) (table : Table) → ItemsKept w t task held items
      → ItemsKept w t task (with_sets table held) items
  found_items (Records key first count syntax element) held items table h = h
  found_items (Hits key) held items table h = h
  found_items (Scan scan) held items table h = h
