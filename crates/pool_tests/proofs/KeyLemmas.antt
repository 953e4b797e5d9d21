-- The keys of the sessions that are played
use Rattle.std.proofs.Common.{◌≡◌, ◌≤◌, ℕ, ℤ, List, [], ◌∷◌, length, Option, Some, refl, ap, arith, ◌∙◌, Ok, sym, subst}
use Rattle.std.specs.List.{IsDistinct}
use Rattle.std.proofs.lemmas.Fmt.{decimal_digit}
use Rattle.z_types.specs.Tree.{Tree, leaf}
use Rattle.z_types.specs.declared.query.Attr.{Attr}
use Rattle.z_types.specs.declared.query.Term.TheVariants.{Number}
use Rattle.z_types.specs.Bounds.{most_number}
use Rattle.z_types.specs.Pending.{Pending, asked}
use Rattle.z_types.specs.declared.ask.Ask.TheVariants.{Search}
use Rattle.z_types.specs.declared.key.SetKey.{SetKey}
use Rattle.gw_outside.specs.Asks.{MaySearch}
use Rattle.gw_outside.specs.Sessions.{Made, Fits, made_after}
use Rattle.gw_outside.specs.declared.backends.Heard.{Heard}
use Rattle.gw_outside.specs.declared.backends.Heard.TheVariants.{Hits}
use Rattle.z_types.specs.declared.address.Address.{Address}
use Rattle.z_types.specs.declared.world.World as world
use Rattle.z_types.specs.declared.sitting.Sitting as sitting
use Rattle.std.proofs.lemmas.List.Elements.{All-cons}
use Rattle.pool_sets.specs.Kept.{slot_name, IsKept, TableKept}
use Rattle.pool_sets.specs.Table.{Entry, Table, empty_table, same_key, keys_in, moment_of, after_record}

-- the name of the first slot is the digit 0
pub first_name : slot_name 0 ≡ 48 ∷ []
first_name = decimal_digit 0 (omega arith)

-- a search for a number, without databases and attributes, may be asked under the first slot's name
pub may_search_number : (set : List ℕ) (dbs : List (List ℕ)) (attrs : List Attr) (root : Tree) (n : ℤ) → dbs ≡ [] → attrs ≡ [] → root ≡ leaf attrs (Number n) → MaySearch (slot_name 0) (record { dbs = dbs; query = record { attr_set = set; root = root } })
may_search_number set dbs attrs root n d a r = rw (d, r, a) (record {
  short = omega (arith, ap length first_name);
  databases = record { few = omega arith; each = tt };
  no_set = tt;
  small = omega arith;
  shallow = omega arith;
  cheap = omega arith;
})

-- hits of a search under that name stand under it
pub made_there : (p : Pending) (key : SetKey) (hits : ℕ) (heard : Heard) (made : Made) (after : Option (SetKey × ℕ)) → p ≡ asked (Search (slot_name 0) key) → heard ≡ Hits hits → after ≡ made_after p heard made (slot_name 0) → after ≡ Some (key, hits)
made_there p key hits heard made after asked_is hits_is is = rw (is, asked_is, hits_is, first_name) refl

-- and are a count
pub count_there : (p : Pending) (key : SetKey) (hits : ℕ) (heard : Heard) → p ≡ asked (Search (slot_name 0) key) → heard ≡ Hits hits → Fits p heard → hits ≤ most_number
count_there p key hits heard asked_is hits_is fits = rw (asked_is, hits_is) at fits

-- one set alone has a key of its own
one_apart : (e : Entry) → IsDistinct same_key (keys_in (e ∷ []))
unfolding IsDistinct
one_apart e = (tt, tt)

module _ {W S : Type 0} (w : world.Ghosts W) (t : sitting.Ghosts S W) where
  -- a session is kept with the one set that it made
  pub one_kept : (session : S) (key copied : SetKey) (hits now : ℕ) (table empty : Table) (address : Address) → copied ≡ key → empty ≡ empty_table 10 → table ≡ after_record 0 copied hits now empty → hits ≤ most_number → t.made session (slot_name 0) ≡ Some (key, hits) → (w.told (t.address session) → w.search (t.address session) key ≡ Ok hits) → t.address session ≡ address → TableKept w t (record { session = session; table = table; address = address })
  one_kept session key copied hits now table empty address same none recorded count stands right there =
      let e : Entry = record { slot = 0; key = key; hits = hits; used = moment_of now (empty_table 10) } in
      let whole : table ≡ after_record 0 key hits now (empty_table 10) = recorded ∙ ap (λ k. after_record 0 k hits now empty) same ∙ ap (λ x. after_record 0 key hits now x) none in
      subst (λ (x : Table). TableKept w t (record { session = session; table = x; address = address })) (sym whole) (record {
        same_address = there;
        each = All-cons (IsKept w t session) e [] (record { small = omega arith; count = count; stands = stands; right = right }) (λ k d h. absurd (omega arith));
        once = one_apart e;
      })
