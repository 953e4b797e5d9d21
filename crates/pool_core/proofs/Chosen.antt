-- The session that is chosen, at its place
use Rattle.std.proofs.Common.{◌≡◌, ◌==◌, ℕ, ◌<◌, ◌≤◌, arith, Bool, true, false, cond, position, option_map, List, [], ◌∷◌, length, get_or, set, Option, None, Some, is_some, IfSome, All, Contains, refl, sym, ◌∙◌, ap, subst}
use Rattle.std.proofs.lemmas.List.{get_or_default}
use Rattle.std.proofs.lemmas.List.Folds.{Any-from_list_any}
use Rattle.z_types.specs.declared.key.SetKey.{SetKey}
use Rattle.z_types.specs.equality.Key as keys
use Rattle.z_types.specs.equality.Tests.{both_true}
use Rattle.z_types.specs.declared.address.Address.{Address}
use Rattle.z_types.specs.equality.Address.{address_exact}
use Rattle.z_types.specs.Logins.{same_address, same_login, inner, login_of, all_inside}
use Rattle.z_types.proofs.LoginLemmas.{login_exact, own_contains}
use Rattle.z_types.specs.declared.world.World as world
use Rattle.z_types.specs.declared.sitting.Sitting as sitting
use Rattle.pool_sets.specs.declared.pooled.Parts.{Parts}
use Rattle.pool_sets.specs.declared.sessions.Stand.{Stand}
use Rattle.pool_sets.specs.declared.sessions.Stand.TheVariants.{Idle, Out}
use Rattle.pool_sets.specs.declared.doors.Taken.TheVariants.{Reuse, Fresh}
use Rattle.pool_sets.specs.Table.{Entry, Table, set_of, same_key, after_find, moment_of, without}
use Rattle.pool_sets.specs.Entries.{slot_and_hits}
use Rattle.pool_sets.specs.Sessions.{Session, Idler, is_among, stand_target, stand_login, in_class, is_for, idle_parts, idler, idle_in, idle_for, idle_with, first_some, stands_at}
use Rattle.z_types.specs.Pending.{resting}
use Rattle.pool_sets.specs.Plain.{Pool, with_sessions, one_idle, any_idle, Ascends}
use Rattle.pool_sets.specs.Kept.{TableKept}
use Rattle.pool_sets.specs.Doors.{IsReady, HasSet}
use Rattle.pool_sets.proofs.TableLemmas.{find_passes}
use Rattle.std.specs.Option.{option_or}
use Rattle.std.proofs.lemmas.List.Elements.{All-head, All-tail}
use Rattle.pool_core.specs.PoolView.{Rests, StandRests, idle_number}
use Rattle.pool_core.proofs.First.{IsFirst, first_at, none_at}
use Rattle.pool_core.proofs.Ascending.{stood, stands_set}
use Rattle.pool_core.proofs.Numbers.{all_given}

pub pair_parts : (a b c d : ℕ) → ◌≡◌ {A = Option (ℕ × ℕ)} (Some (a, b)) (Some (c, d)) → (a ≡ c) × (b ≡ d)
pair_parts a b c d h =
    let e : ◌≡◌ {A = ℕ × ℕ} (a, b) (c, d) = cc in (ap (λ (p : ℕ × ℕ). p.0) e, ap (λ (p : ℕ × ℕ). p.1) e)

module _ {S : Type 0} where
  -- an idle session of the class
  pub record IsIdle (class : ℕ) (at : List Address) (o : Session S) (parts : Parts S) : Type 0 where
    pub since : ℕ
    pub stand : o.stand ≡ Idle parts since
    pub of_class : in_class class at o ≡ true
    pub gives : idle_in class at o ≡ Some (record { number = o.number; parts = parts })

  idle_case : (class : ℕ) (at : List Address) (o : Session S) (s : Stand (Parts S) Address) → o.stand ≡ s → in_class class at o ≡ true → is_some (idle_in class at o) ≡ true → (parts : Parts S) × IsIdle class at o parts
  idle_case class at o (Out address) k b h =
      let bad = subst (λ s. is_some (cond (in_class class at o) (idler o.number s) None) ≡ true) k h in
      let worse = rw b at bad in cc
  idle_case class at o (Idle parts since) k b h = (parts, record { since = since; stand = k; of_class = b; gives = rw (b, k) refl })

  -- what is given as idle is idle
  pub idle_of : (class : ℕ) (at : List Address) (o : Session S) → is_some (idle_in class at o) ≡ true → (parts : Parts S) × IsIdle class at o parts
  idle_of class at o h = (elim (in_class class at o) as (λ b. in_class class at o ≡ b → (parts : Parts S) × IsIdle class at o parts) [
    | true ↦ λ b. idle_case class at o o.stand refl b h
    | false ↦ λ b. let bad = rw b at h in cc
  ]) refl

  -- and of the login
  pub record IsOwn (class : ℕ) (at : List Address) (login : Option (List ℕ)) (o : Session S) (parts : Parts S) : Type 0 where
    pub idle : IsIdle class at o parts
    pub own : is_for login o ≡ true
    pub gives : idle_for class at login o ≡ Some (record { number = o.number; parts = parts })

  pub own_of : (class : ℕ) (at : List Address) (login : Option (List ℕ)) (o : Session S) → is_some (idle_for class at login o) ≡ true → (parts : Parts S) × IsOwn class at login o parts
  own_of class at login o h = (elim (is_for login o) as (λ b. is_for login o ≡ b → (parts : Parts S) × IsOwn class at login o parts) [
    | true ↦ λ b. let i = idle_of class at o (rw b at h) in (i.0, record { idle = i.1; own = b; gives = rw b i.1.gives })
    | false ↦ λ b. let bad = rw b at h in cc
  ]) refl

  -- and holds a set of the key
  pub record IsHolder (class : ℕ) (at : List Address) (login : Option (List ℕ)) (key : SetKey) (o : Session S) (parts : Parts S) (e : Entry) : Type 0 where
    pub own : IsOwn class at login o parts
    pub holds : set_of key parts.table ≡ Some e
    pub gives : idle_with class at login key o ≡ Some (record { number = o.number; parts = parts }, e)

  holder_case : (class : ℕ) (at : List Address) (login : Option (List ℕ)) (key : SetKey) (o : Session S) (parts : Parts S) (h : Option Entry) → IsOwn class at login o parts → set_of key parts.table ≡ h → is_some (idle_with class at login key o) ≡ true → (e : Entry) × IsHolder class at login key o parts e
  holder_case class at login key o parts None i k h = let bad = rw (i.gives, k) at h in cc
  holder_case class at login key o parts (Some e) i k h = (e, record { own = i; holds = k; gives = rw (i.gives, k) refl })

  -- what holds a set is idle
  own_too : (class : ℕ) (at : List Address) (login : Option (List ℕ)) (key : SetKey) (o : Session S) (i : Option (Idler S)) → idle_for class at login o ≡ i → is_some (idle_with class at login key o) ≡ true → is_some (idle_for class at login o) ≡ true
  own_too class at login key o None k h = let bad = rw k at h in cc
  own_too class at login key o (Some i) k h = rw k refl

  pub holder_of : (class : ℕ) (at : List Address) (login : Option (List ℕ)) (key : SetKey) (o : Session S) → is_some (idle_with class at login key o) ≡ true → (parts : Parts S) × (e : Entry) × IsHolder class at login key o parts e
  holder_of class at login key o h =
      let i = own_of class at login o (own_too class at login key o (idle_for class at login o) refl h) in
      let w = holder_case class at login key o i.0 (set_of key i.0.table) i.1 refl h in
      (i.0, w.0, w.1)

  -- the parts of an idle session
  parts_are : (class : ℕ) (at : List Address) (o : Session S) (parts pooled : Parts S) → IsIdle class at o parts → Some pooled ≡ idle_parts o.stand → pooled ≡ parts
  parts_are class at o parts pooled i h = let e = rw i.stand at h in cc

  spot_is : (class : ℕ) (at : List Address) (o : Session S) (parts : Parts S) (spot : Address) → IsIdle class at o parts → IfSome (idle_parts o.stand) (λ q. spot ≡ inner q.address) → spot ≡ inner parts.address
  spot_is class at o parts spot i h = rw i.stand at h

  -- the session at a place goes out
  out_at : (p : Pool S) (place : ℕ) (o : Session S) (spot : Address) → place < length p.sessions → Ascends 0 p.given p.sessions → o ≡ get_or p.sessions place o → set p.sessions place (stood o (Out spot)) ≡ stands_at o.number (Out spot) p.sessions
  out_at p place o spot within a e =
      sym (subst (λ x. stands_at x.number (Out spot) p.sessions ≡ set p.sessions place (stood x (Out spot))) (sym e) (stands_set 0 p.given place (Out spot) p.sessions o within a))

  -- the session that holds the set is given with that
  pub reuse_plain : (class now : ℕ) (at : List Address) (login : Option (List ℕ)) (key : SetKey) (p : Pool S) (place : ℕ) (o : Session S) (pooled out : Parts S) (spot : Address) (slot hits : ℕ) →
      IsFirst (idle_with class at login key) p.sessions place → Ascends 0 p.given p.sessions → o ≡ get_or p.sessions place o →
      Some pooled ≡ idle_parts o.stand → Some (slot, hits) ≡ slot_and_hits (set_of key pooled.table) → IfSome (idle_parts o.stand) (λ q. spot ≡ inner q.address) →
      out ≡ record { session = pooled.session; table = after_find key now pooled.table; address = pooled.address } →
      (Reuse (record { class = class; number = o.number }) out slot hits, with_sessions (set p.sessions place (stood o (Out spot))) p) ≡ one_idle class at login key now p (first_some (idle_with class at login key) p.sessions)
  reuse_plain class now at login key p place o pooled out spot slot hits first a e lend_of found spotted given =
      let some = subst (λ x. is_some (idle_with class at login key x) ≡ true) (sym e) (first.some o) in
      let w = holder_of class at login key o some in
      let h = w.2 in
      let one : first_some (idle_with class at login key) p.sessions ≡ Some (record { number = o.number; parts = w.0 }, w.1) =
      first.first o ∙ ap (idle_with class at login key) (sym e) ∙ h.gives in
      let same = parts_are class at o w.0 pooled h.own.idle lend_of in
      let there = spot_is class at o w.0 spot h.own.idle spotted in
      let pair : Some (slot, hits) ≡ Some (w.1.slot, w.1.hits) = found ∙ ap (λ (q : Parts S). slot_and_hits (set_of key q.table)) same ∙ ap slot_and_hits h.holds in
      let both = pair_parts slot hits w.1.slot w.1.hits pair in
      let outs = given ∙ ap (λ (q : Parts S). (record { session = q.session; table = after_find key now q.table; address = q.address })) same in
      let sets = ap (λ x. set p.sessions place (stood o (Out x))) there ∙ out_at p place o (inner w.0.address) first.within a e in
      rw one (λ i. (Reuse (record { class = class; number = o.number }) (outs i) (both.0 i) (both.1 i), with_sessions (sets i) p))

  -- the idle session is given
  pub fresh_plain : (class : ℕ) (at : List Address) (login : Option (List ℕ)) (p : Pool S) (place : ℕ) (o : Session S) (pooled : Parts S) (spot : Address) →
      IsFirst (idle_for class at login) p.sessions place → Ascends 0 p.given p.sessions → o ≡ get_or p.sessions place o →
      Some pooled ≡ idle_parts o.stand → IfSome (idle_parts o.stand) (λ q. spot ≡ inner q.address) →
      (Fresh (record { class = class; number = o.number }) pooled, with_sessions (set p.sessions place (stood o (Out spot))) p) ≡ any_idle class at login p (first_some (idle_for class at login) p.sessions)
  fresh_plain class at login p place o pooled spot first a e lend_of spotted =
      let some = subst (λ x. is_some (idle_for class at login x) ≡ true) (sym e) (first.some o) in
      let w = own_of class at login o some in
      let one : first_some (idle_for class at login) p.sessions ≡ Some (record { number = o.number; parts = w.0 }) = first.first o ∙ ap (idle_for class at login) (sym e) ∙ w.1.gives in
      let same = parts_are class at o w.0 pooled w.1.idle lend_of in
      let there = spot_is class at o w.0 spot w.1.idle spotted in
      let sets = ap (λ x. set p.sessions place (stood o (Out x))) there ∙ out_at p place o (inner w.0.address) first.within a e in
      rw one (λ i. (Fresh (record { class = class; number = o.number }) (same i), with_sessions (sets i) p))

-- one of the addresses
pub among_contains : (at : List Address) (address : Address) → is_among at address ≡ true → Contains at address
among_contains at address h =
    let any = Any-from_list_any (λ a. same_address a address) at h in
    let same = address_exact any.1 address any.4 in
    (any.0, any.2, subst (λ z. get_or at any.0 z ≡ z) same any.3)

module _ {W S : Type 0} (w : world.Ghosts W) (t : sitting.Ghosts S W) where
  -- the parts of an idle session of a pool are ready
  pub ready_from : (class number : ℕ) (at : List Address) (login : Option (List ℕ)) (o : Session S) (parts out : Parts S) → IsOwn class at login o parts → Rests t o → TableKept w t out → out.session ≡ parts.session → out.address ≡ parts.address → IsReady w t class at login (record { class = class; number = number }) out
  ready_from class number at login o parts out i r k s a =
      let both = both_true (o.class == class) (is_among at (stand_target o.stand)) i.idle.of_class in
      let own = both_true (same_login login o.login) (same_login login (stand_login o.login o.stand)) i.own in
      let inside : same_login login (login_of parts.address) ≡ true = rw i.idle.stand at own.1 in
      record {
        of_class = refl;
        rests = subst (λ z. t.pending z ≡ resting) (sym s) (subst (StandRests t) i.idle.stand r);
        kept = k;
        among = subst (Contains (all_inside login at)) (sym a)
            (own_contains login at parts.address (among_contains at (inner parts.address) (rw i.idle.stand at both.1)) (login_exact login (login_of parts.address) inside));
      }

-- the first set of a table
head_has : (moment : ℕ) (e : Entry) (es : List Entry) (slot : ℕ) (key : SetKey) (hits : ℕ) → slot ≡ e.slot → e.key ≡ key → hits ≡ e.hits → HasSet (record { slot = e.slot; key = e.key; hits = e.hits; used = moment } ∷ es) slot key hits
head_has moment e es slot key hits s k h = (moment, (0, omega arith, λ i. record { slot = sym s i; key = k i; hits = sym h i; used = moment }))

-- the set that is used has its key
pub has_used : (key : SetKey) (now : ℕ) (table : Table) (slot hits : ℕ) → Some (slot, hits) ≡ slot_and_hits (set_of key table) → HasSet (after_find key now table).entries slot key hits
has_used key now table slot hits h = (elim (set_of key table) as (λ o. set_of key table ≡ o → HasSet (after_find key now table).entries slot key hits) [
  | None ↦ λ k. let bad = rw k at h in cc
  | Some e ↦ λ k.
      let both = pair_parts slot hits e.slot e.hits (rw k at h) in
      let same = keys.key.eq_is_exact e.key key (find_passes (λ (f : Entry). same_key f.key key) table.entries e k) in
      rw k (head_has (moment_of now table) e (without e.slot table.entries) slot key hits both.0 same both.1)
]) refl

-- two reads of one place
pub same_item : {X : Type 0} (xs : List X) (i : ℕ) (x y : X) → i < length xs → x ≡ get_or xs i x → y ≡ get_or xs i y → x ≡ y
same_item xs i x y p e f = e ∙ get_or_default xs i x y p ∙ sym f

module _ {S : Type 0} where
  -- the first idle session is idle, and that which holds a set holds it
  pub is_lent : (class : ℕ) (at : List Address) (login : Option (List ℕ)) (os : List (Session S)) (place : ℕ) (o : Session S) → IsFirst (idle_for class at login) os place → o ≡ get_or os place o → (parts : Parts S) × IsOwn class at login o parts
  is_lent class at login os place o first e = own_of class at login o (subst (λ x. is_some (idle_for class at login x) ≡ true) (sym e) (first.some o))

  pub is_held : (class : ℕ) (at : List Address) (login : Option (List ℕ)) (key : SetKey) (os : List (Session S)) (place : ℕ) (o : Session S) → IsFirst (idle_with class at login key) os place → o ≡ get_or os place o → (parts : Parts S) × (e : Entry) × IsHolder class at login key o parts e
  is_held class at login key os place o first e = holder_of class at login key o (subst (λ x. is_some (idle_with class at login key x) ≡ true) (sym e) (first.some o))

  pub idle_has_parts : (class : ℕ) (at : List Address) (o : Session S) (parts : Parts S) → IsIdle class at o parts → None ≡ idle_parts o.stand → ⊥
  idle_has_parts class at o parts i h = let bad = rw i.stand at h in cc

  pub holder_has_set : (class : ℕ) (at : List Address) (login : Option (List ℕ)) (key : SetKey) (o : Session S) (parts pooled : Parts S) (e : Entry) → IsHolder class at login key o parts e → Some pooled ≡ idle_parts o.stand → None ≡ slot_and_hits (set_of key pooled.table) → ⊥
  holder_has_set class at login key o parts pooled e h lend_of none =
      let same = parts_are class at o parts pooled h.own.idle lend_of in
      let bad : None ≡ slot_and_hits (Some e) = none ∙ ap (λ (q : Parts S). slot_and_hits (set_of key q.table)) same ∙ ap slot_and_hits h.holds in cc

module _ {W S : Type 0} (w : world.Ghosts W) (t : sitting.Ghosts S W) where
  -- the parts at a place of a pool are ready
  pub ready_at : (class number : ℕ) (at : List Address) (login : Option (List ℕ)) (os : List (Session S)) (place : ℕ) (o : Session S) (parts pooled out : Parts S) → IsOwn class at login o parts → place < length os → o ≡ get_or os place o → All (Rests t) os → Some pooled ≡ idle_parts o.stand → TableKept w t out → out.session ≡ pooled.session → out.address ≡ pooled.address → IsReady w t class at login (record { class = class; number = number }) out
  ready_at class number at login os place o parts pooled out i within e r lend_of k s a =
      let same = parts_are class at o parts pooled i.idle lend_of in
      ready_from w t class number at login o parts out i (subst (Rests t) (sym e) (r place o within)) k (s ∙ ap (λ (q : Parts S). q.session) same) (a ∙ ap (λ (q : Parts S). q.address) same)

module _ {S : Type 0} where
  -- the number of the first idle session, at its place
  pub idle_number_at : (class : ℕ) (at : List Address) (os : List (Session S)) (place : ℕ) (o : Session S) → position (λ (x : Session S). is_some (idle_in class at x)) os ≡ Some place → o ≡ get_or os place o → Some o.number ≡ idle_number class at os
  idle_number_at class at os place o e is =
      let first = first_at (idle_in class at) os place e in
      let w = idle_of class at o (subst (λ x. is_some (idle_in class at x) ≡ true) (sym is) (first.some o)) in
      sym (ap (option_map (λ (i : Idler S). i.number)) (first.first o ∙ ap (idle_in class at) (sym is) ∙ w.1.gives))

  -- there is none where there is no place
  pub no_idle_number : (class : ℕ) (at : List Address) (os : List (Session S)) → position (λ (x : Session S). is_some (idle_in class at x)) os ≡ None → None ≡ idle_number class at os
  no_idle_number class at os e = sym (ap (option_map (λ (i : Idler S). i.number)) (none_at (idle_in class at) os e))

  stand_number : (number : ℕ) (s : Stand (Parts S) Address) (b : Bool) (i : Idler S) → cond b (idler number s) None ≡ Some i → number ≡ i.number
  stand_number number (Idle parts since) true i h = let e : Some (record { number = number; parts = parts }) ≡ Some i = h in cc
  stand_number number (Idle parts since) false i h = cc
  stand_number number (Out address) true i h = cc
  stand_number number (Out address) false i h = cc

  first_given : (class given : ℕ) (at : List Address) (os : List (Session S)) (i : Idler S) → All (λ o. o.number ≤ given) os → first_some (idle_in class at) os ≡ Some i → i.number ≤ given
  first_given class given at [] i low h = cc
  first_given class given at (o ∷ os) i low h = (elim (idle_in class at o) as (λ x. idle_in class at o ≡ x → option_or x (first_some (idle_in class at) os) ≡ Some i → i.number ≤ given) [
    | None ↦ λ k e. first_given class given at os i (All-tail (λ (o : Session S). o.number ≤ given) o os low) e
    | Some j ↦ λ k e. subst (λ n. n ≤ given) (stand_number o.number o.stand (in_class class at o) i (k ∙ e)) (All-head (λ (o : Session S). o.number ≤ given) o os low)
  ]) refl h

  -- and it was given
  pub number_given : (class given : ℕ) (at : List Address) (os : List (Session S)) (n : Option ℕ) → n ≡ idle_number class at os → Ascends 0 given os → IfSome n (λ m. m ≤ given)
  number_given class given at os n e a = (elim (first_some (idle_in class at) os) as (λ x. first_some (idle_in class at) os ≡ x → n ≡ option_map (λ (i : Idler S). i.number) x → IfSome n (λ m. m ≤ given)) [
    | None ↦ λ k f. rw f tt
    | Some i ↦ λ k f. rw f (first_given class given at os i (all_given 0 given os a) k)
  ]) refl e
