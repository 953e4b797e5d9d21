-- The set of a leg's own key
use Rattle.std.proofs.Common.{◌≡◌, ◌≤◌, ℕ, Contains, Option, None, Some, Ok, refl, subst, sym, arith}
use Rattle.std.proofs.lemmas.List.Elements.{All-contains}
use Rattle.z_types.specs.declared.address.Address.{Address}
use Rattle.z_types.specs.declared.key.SetKey.{SetKey}
use Rattle.z_types.specs.declared.sitting.Sitting as sitting
use Rattle.z_types.specs.declared.world.World as world
use Rattle.pool_sets.specs.declared.pooled.Parts.{Parts}
use Rattle.pool_sets.specs.Doors.{HasSet, HasWanted}
use Rattle.pool_sets.specs.Kept.{slot_name, IsKept, TableKept}
use Rattle.pool_sets.specs.Table.{Table, after_record, moment_of}
use Rattle.leg.specs.declared.answers.Turned.{Turned}
use Rattle.leg.specs.declared.answers.Turned.TheVariants as turned
use Rattle.leg.specs.declared.phases.Phase.{Phase}
use Rattle.z_types.specs.Bounds.{most_number}
use Rattle.leg.specs.declared.answers.LegAnswer.{LegAnswer}
use Rattle.leg.specs.declared.answers.LegAnswer.TheVariants as answer
use Rattle.leg.specs.declared.tasks.Task.{Task}
use Rattle.leg.specs.Right.{IsRight, IsRightAt}
use Rattle.leg.specs.Terms.{Terms, sites}
use Rattle.leg.specs.steps.Follows.{GoesOn}

-- a set that was recorded for the key that is wanted
pub own_recorded : (want : Option SetKey) (key : SetKey) (slot hits now : ℕ) (table : Table) → Some key ≡ want
    → HasWanted want (after_record slot key hits now table).entries slot hits
own_recorded None key slot hits now table e = cc
own_recorded (Some wanted) key slot hits now table e =
    let h : key ≡ wanted = cc in
    subst (λ (x : SetKey). HasSet (after_record slot key hits now table).entries slot x hits) h (moment_of now table, (0, omega arith, refl))

-- what holds of the phase that is wanted and of the one for want of memory holds of the phase
pub goes_holds : {S : Type 0} (P : Phase S → Type 0) (wanted left new : Phase S) (answer : Turned) → GoesOn wanted left answer new
    → P wanted → P left → P new
goes_holds P wanted left new turned.Memory h pw pl = subst P (sym h) pl
goes_holds P wanted left new turned.Went h pw pl = subst P (sym h.0) pw
goes_holds P wanted left new turned.NotYet h pw pl = subst P (sym h.0) pw
goes_holds P wanted left new turned.Done h pw pl = subst P (sym h.0) pw

module _ {W S : Type 0} (w : world.Ghosts W) (t : sitting.Ghosts S W) where
  kept_entry : (p : Parts S) (slot : ℕ) (key : SetKey) (hits : ℕ) → TableKept w t p → (own : HasSet p.table.entries slot key hits)
      → IsKept w t p.session (record { slot = slot; key = key; hits = hits; used = own.0 })
  kept_entry p slot key hits kept own =
      All-contains (IsKept w t p.session) p.table.entries (record { slot = slot; key = key; hits = hits; used = own.0 }) kept.each own.1

  -- its hits are the world's where the address is told
  pub own_right : (p : Parts S) (slot : ℕ) (key : SetKey) (hits : ℕ) → TableKept w t p → HasSet p.table.entries slot key hits
      → w.told p.address → w.search p.address key ≡ Ok hits
  own_right p slot key hits kept own =
      subst (λ (x : Address). w.told x → w.search x key ≡ Ok hits) kept.same_address (kept_entry p slot key hits kept own).right

  -- the session made it
  pub own_made : (p : Parts S) (slot : ℕ) (key : SetKey) (hits : ℕ) → TableKept w t p → HasSet p.table.entries slot key hits
      → t.made p.session (slot_name slot) ≡ Some (key, hits)
  own_made p slot key hits kept own = (kept_entry p slot key hits kept own).stands

  -- its hits are a count
  pub own_count : (p : Parts S) (slot : ℕ) (key : SetKey) (hits : ℕ) → TableKept w t p → HasSet p.table.entries slot key hits → hits ≤ most_number
  own_count p slot key hits kept own = (kept_entry p slot key hits kept own).count

-- what is right at one of the addresses
pub right_among : {W : Type 0} (w : world.Ghosts W) (terms : Terms) (task : Task) (address : Address) (reply : LegAnswer) → Contains (sites terms) address
    → IsRightAt w terms.dbs task address reply → IsRight w terms task reply
right_among w terms task address (answer.Marked mark) among right = tt
right_among w terms task address (answer.Hits hits) among right = (address, among, right)
right_among w terms task address (answer.Refused diag) among right = (address, among, right)
right_among w terms task address (answer.Items items) among right = (address, among, right)
right_among w terms task address (answer.Broken items diag) among right = (address, among, right)
right_among w terms task address (answer.Scanned entries) among right = (address, among, right)
