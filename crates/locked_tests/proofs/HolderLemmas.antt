-- A session with the one set that it made
use Rattle.std.proofs.Common.{◌≡◌, ℕ, [], ◌∷◌, Some, ap, arith, ◌∙◌, sym, subst}
use Rattle.std.specs.List.{IsDistinct}
use Rattle.std.proofs.lemmas.List.Elements.{All-cons}
use Rattle.z_types.specs.declared.key.SetKey.{SetKey}
use Rattle.z_types.specs.declared.address.Address.{Address}
use Rattle.z_types.specs.declared.world.World as world
use Rattle.z_types.specs.declared.sitting.Sitting as sitting
use Rattle.pool_sets.specs.Kept.{slot_name, IsKept, TableKept}
use Rattle.pool_sets.specs.Table.{Entry, Table, empty_table, same_key, keys_in, moment_of, after_record}

-- one set alone has a key of its own
one_apart : (e : Entry) → IsDistinct same_key (keys_in (e ∷ []))
unfolding IsDistinct
one_apart e = (tt, tt)

module _ {W S : Type 0} (w : world.Ghosts W) (t : sitting.Ghosts S W) where
  -- where nothing is told, a session is kept with a set that it made, of three records
  pub one_kept : (session : S) (key copied : SetKey) (now : ℕ) (table empty : Table) (address : Address) → copied ≡ key → empty ≡ empty_table 10 → table ≡ after_record 0 copied 3 now empty → t.made session (slot_name 0) ≡ Some (key, 3) → (w.told (t.address session) → ⊥) → t.address session ≡ address → TableKept w t (record { session = session; table = table; address = address })
  one_kept session key copied now table empty address same none recorded stands quiet there =
      let e : Entry = record { slot = 0; key = key; hits = 3; used = moment_of now (empty_table 10) } in
      let whole : table ≡ after_record 0 key 3 now (empty_table 10) = recorded ∙ ap (λ k. after_record 0 k 3 now empty) same ∙ ap (λ x. after_record 0 key 3 now x) none in
      subst (λ (x : Table). TableKept w t (record { session = session; table = x; address = address })) (sym whole) (record {
        same_address = there;
        each = All-cons (IsKept w t session) e [] (record { small = omega arith; count = omega arith; stands = stands; right = λ told. absurd (quiet told) }) (λ k d h. absurd (omega arith));
        once = one_apart e;
      })
