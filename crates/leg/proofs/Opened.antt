-- How a leg opens a session
use Rattle.std.proofs.Common.{◌≡◌, ◌<◌, ℕ, List, [], length, Contains, Option, None, Some, refl, subst, sym, arith}
use Rattle.std.proofs.lemmas.List.Elements.{Contains-get_or}
use Rattle.std.specs.List.{IsDistinct}
use Rattle.z_types.specs.declared.key.SetKey.{SetKey}
use Rattle.z_types.specs.declared.address.Address.{Address}
use Rattle.z_types.specs.declared.address.Address.TheVariants.{Test}
use Rattle.z_types.specs.Logins.{inside, all_inside}
use Rattle.z_types.specs.Members.{IsMember}
use Rattle.z_types.proofs.LoginLemmas.{login_inside, inside_contains}
use Rattle.z_types.specs.declared.sitting.Sitting as sitting
use Rattle.z_types.specs.declared.world.World as world
use Rattle.unit_forms.specs.Logins.{HasLogin, IsLoginIf}
use Rattle.pool_sets.specs.Kept.{TableKept}
use Rattle.leg.specs.declared.phases.Held.{Held}
use Rattle.leg.specs.declared.tasks.Task.{Task}
use Rattle.leg.specs.declared.tasks.Task.TheVariants.{Hits, Records, Scan}
use Rattle.leg.specs.Kept.{ItemsKept}
use Rattle.leg.specs.Tasks.{MayDo}
use Rattle.pool_sets.specs.Plain.{address_at}
use Rattle.pool_sets.specs.Doors.{LacksWanted}
use Rattle.pool_sets.specs.Table.{Table, empty_table, same_key, set_of}

-- the address that was named is one of the members', inside the login
pub named_among : (login : Option (List ℕ)) (at : List Address) (member : ℕ) (address : Address) → member < length at
    → address ≡ inside login (address_at at member) → Contains (all_inside login at) address
named_among login at member address within e =
    subst (Contains (all_inside login at)) (sym e)
    (inside_contains login at (address_at at member) (Contains-get_or at member (Test 0) within))

-- no key stands twice where there is none
none_twice : IsDistinct same_key []
unfolding IsDistinct
none_twice = tt

-- a table without sets lacks the set that is wanted
pub empty_lacks : (want : Option SetKey) (table : Table) (most : ℕ) → table ≡ empty_table most → LacksWanted want table
empty_lacks None table most e = tt
empty_lacks (Some key) table most e = subst (λ (x : Table). set_of key x ≡ None) (sym e) refl

module _ {W S : Type 0} (w : world.Ghosts W) (t : sitting.Ghosts S W) where
  none_kept : (u : S) (address : Address) (most : ℕ) → t.address u ≡ address
      → TableKept w t (record { session = u; table = empty_table most; address = address })
  none_kept u address most a = record { same_address = a; each = λ i d h. absurd (omega arith); once = none_twice }

  -- a table without sets is kept
  pub empty_kept : (u : S) (table : Table) (address : Address) (most : ℕ) → table ≡ empty_table most → t.address u ≡ address
      → TableKept w t (record { session = u; table = table; address = address })
  empty_kept u table address most e a =
      subst (λ (x : Table). TableKept w t (record { session = u; table = x; address = address })) (sym e) (none_kept u address most a)

  -- at first there are no records
  pub no_items : (task : Task) (held : Held S) → MayDo task → ItemsKept w t task held []
  no_items (Records key first count syntax element) held m = (let some = m.1.some in omega arith, λ told. tt)
  no_items (Hits key) held m = refl
  no_items (Scan scan) held m = refl

-- inside a login the address of a member has that login
pub opened_login : (login : Option (List ℕ)) (address : Address) → IsMember address → IsLoginIf login → HasLogin (inside login address)
opened_login login address member is = subst IsLoginIf (sym (login_inside login address member)) is
