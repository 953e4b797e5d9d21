-- Records of a set, one more (this project's own)
use Rattle.std.proofs.Common.{◌≡◌, ◌∙◌, ℕ, ◌+◌, List, [], ◌∷◌, ◌++◌, length, Result, Ok, ap, sym, subst, arith}
use Rattle.z_types.specs.declared.diagnostic.Diag.{Diag}
use Rattle.z_types.specs.declared.records.Item.{Item}
use Rattle.gw_outside.specs.Peers.{AreRecords}

-- the record behind those from a position on
records_more : (record_at : ℕ → Result Item Diag) (first : ℕ) (items : List Item) (item : Item)
    → AreRecords record_at first items → record_at (first + length items) ≡ Ok item → AreRecords record_at first (items ++ item ∷ [])
records_more record_at first [] item h e = (ap record_at (omega arith) ∙ e, tt)
records_more record_at first (next ∷ items) item h e =
    (h.0, records_more record_at (first + 1) items item h.1 (ap record_at (omega arith) ∙ e))

length_push : (items : List Item) (item : Item) → length (items ++ item ∷ []) ≡ length items + 1
length_push [] item = omega arith
length_push (next ∷ items) item = omega (arith, length_push items item)

-- how many there are then
pub length_more : (items more : List Item) (item : Item) (n : ℕ) → more ≡ items ++ item ∷ [] → length items ≡ n → length more ≡ n + 1
length_more items more item n e h = ap length e ∙ length_push items item ∙ ap (λ k. k + 1) h

-- and they are the records
pub records_pushed : (record_at : ℕ → Result Item Diag) (first : ℕ) (items more : List Item) (item : Item)
    → more ≡ items ++ item ∷ [] → AreRecords record_at first items → record_at (first + length items) ≡ Ok item → AreRecords record_at first more
records_pushed record_at first items more item e h r =
    subst (λ all. AreRecords record_at first all) (sym e) (records_more record_at first items item h r)
