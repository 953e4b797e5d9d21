-- Where no idle session of the class and login holds a set of the key, what is given holds none
use Rattle.std.proofs.Common.{◌≡◌, ℕ, true, false, cond, List, [], ◌∷◌, Option, None, Some, option_map, refl, sym, ◌∙◌, ap, subst}
use Rattle.std.specs.Option.{option_or}
use Rattle.z_types.specs.Counts.{one_more}
use Rattle.z_types.specs.declared.key.SetKey.{SetKey}
use Rattle.z_types.specs.declared.address.Address.{Address}
use Rattle.z_types.specs.declared.world.World as world
use Rattle.z_types.specs.declared.sitting.Sitting as sitting
use Rattle.pool_sets.specs.declared.pooled.Parts.{Parts}
use Rattle.pool_sets.specs.declared.doors.Taken.{Taken}
use Rattle.pool_sets.specs.declared.doors.Taken.TheVariants.{Reuse, Fresh, Dial, Full, Memory}
use Rattle.pool_sets.specs.Counts.{DoorCounts, after_take}
use Rattle.pool_sets.specs.Doors.{TakenFits}
use Rattle.pool_sets.specs.Plain.{Pool, made_room, dial_in, any_idle, take_any, dial_for, has_number}
use Rattle.pool_sets.specs.Sessions.{Session, Idler, first_some, idle_for, idle_with, with_set, member_for}
use Rattle.pool_sets.specs.Table.{Entry, set_of}
use Rattle.pool_core.specs.PoolView.{PoolView, Gives, counts_of, after_book}

-- one more that holds no set wanted
abbrev one_booked : DoorCounts → DoorCounts
one_booked n = record { most = n.most; fulls = n.fulls; opens = n.opens; booked = one_more true n.booked }

module _ {S : Type 0} where
  -- what is given as fresh
  abbrev fresh_parts : Taken S → Option (Parts S)
  fresh_parts (Fresh seat parts) = Some parts
  fresh_parts answer = None

  no_entry : (i : Idler S) (e : Option Entry) (rest : Option (Idler S × Entry)) → option_or (option_map (λ e. (i, e)) e) rest ≡ None → e ≡ None
  no_entry i None rest h = refl
  no_entry i (Some e) rest h = cc

  -- the first idle session of the class and login has no set of the key, where none has one
  first_lacks : (class : ℕ) (at : List Address) (login : Option (List ℕ)) (key : SetKey) (os : List (Session S)) (i : Idler S) → first_some (idle_with class at login key) os ≡ None → first_some (idle_for class at login) os ≡ Some i → set_of key i.parts.table ≡ None
  first_lacks class at login key [] i h k = cc
  first_lacks class at login key (o ∷ os) i h k = (elim (idle_for class at login o) as (λ x. option_or (with_set key x) (first_some (idle_with class at login key) os) ≡ None → option_or x (first_some (idle_for class at login) os) ≡ Some i → set_of key i.parts.table ≡ None) [
    | None ↦ λ a b. first_lacks class at login key os i a b
    | Some j ↦ λ a b.
        let same : j ≡ i = cc in
        subst (λ (x : Idler S). set_of key x.parts.table ≡ None) same (no_entry j (set_of key j.parts.table) (first_some (idle_with class at login key) os) a)
  ]) h k

  -- none is fresh that is dialled
  dialled_none : (class : ℕ) (at : List Address) (login : Option (List ℕ)) (p : Pool S) (room : Option (Pool S)) → fresh_parts (dial_in class at login p room).0 ≡ None
  dialled_none class at login p None = refl
  dialled_none class at login p (Some q) =
      (elim (has_number q) as (λ b. fresh_parts (cond b (dial_for class at login (member_for class at q.sessions) q) (Memory, p)).0 ≡ None) [ true ↦ refl | false ↦ refl ])

  fresh_lacks : (class : ℕ) (at : List Address) (login : Option (List ℕ)) (key : SetKey) (p : Pool S) (parts : Parts S) (i : Option (Idler S)) → first_some (idle_with class at login key) p.sessions ≡ None → first_some (idle_for class at login) p.sessions ≡ i → Some parts ≡ fresh_parts (any_idle class at login p i).0 → set_of key parts.table ≡ None
  fresh_lacks class at login key p parts None none first h = let bad : Some parts ≡ None = h ∙ dialled_none class at login p (made_room class at p) in cc
  fresh_lacks class at login key p parts (Some i) none first h =
      let same : parts ≡ i.parts = cc in
      subst (λ (x : Parts S). set_of key x.table ≡ None) (sym same) (first_lacks class at login key p.sessions i none first)

  -- counts of who wanted a set
  pub booked_for : (key : SetKey) (taken : Taken S) (v : PoolView S) (old : DoorCounts) → counts_of v ≡ after_take None taken old → counts_of (after_book taken v) ≡ after_take (Some key) taken old
  booked_for key (Reuse seat parts slot hits) v old h = h
  booked_for key (Fresh seat parts) v old h = ap one_booked h
  booked_for key (Dial seat member) v old h = ap one_booked h
  booked_for key (Full open_) v old h = h
  booked_for key Memory v old h = h

module _ {W S : Type 0} (w : world.Ghosts W) (t : sitting.Ghosts S W) where
  -- what was given to who wanted any fits who wanted a set that none of the class and login holds
  pub fits_too : (class : ℕ) (at : List Address) (login : Option (List ℕ)) (key : SetKey) (most : ℕ) (p new : Pool S) (taken : Taken S) → first_some (idle_with class at login key) p.sessions ≡ None → Gives (take_any class at login p) p taken new → TakenFits w t class at login None most taken → TakenFits w t class at login (Some key) most taken
  fits_too class at login key most p new (Reuse seat parts slot hits) none gives fits = absurd fits.1
  fits_too class at login key most p new (Fresh seat parts) none gives fits =
      (fits.0, fresh_lacks class at login key p parts (first_some (idle_for class at login) p.sessions) none refl (ap (λ (x : Taken S × Pool S). fresh_parts x.0) gives))
  fits_too class at login key most p new (Dial seat member) none gives fits = fits
  fits_too class at login key most p new (Full open_) none gives fits = fits
  fits_too class at login key most p new Memory none gives fits = fits
