-- A table of a class behind uses of it: what expiry, a use, a search and a refusal leave of it
use Rattle.std.proofs.Common.{◌≡◌, ◌||◌, ◌∙◌, ◌-◌, ◌≤◌, ℕ, max, Bool, true, false, not, cond, List, [], ◌∷◌, map, filter, find, is_some, Option, None, Some, refl, sym, ap, subst, nat_eq, nat_lt, nat_le, arith}
use Rattle.std.specs.List.{AllByRecursion, IsDistinct}
use Rattle.std.specs.Option.{option_map, option_map_or}
use Rattle.std.specs.Cmp.{nat_eq_equiv}
use Rattle.std.proofs.lemmas.Bool.Decides.{leb_tells}
use Rattle.z_types.specs.declared.key.SetKey.{SetKey}
use Rattle.z_types.specs.equality.Key as keys
use Rattle.z_types.specs.contracts.key.SetKeyEq.TheImpl.Laws as key_law
use Rattle.z_types.specs.declared.world.World as world
use Rattle.route_config.specs.declared.route.Route.{Route}
use Rattle.pool_sets.specs.Entries.{slots_of}
use Rattle.pool_sets.specs.Table.{Entry, Table, same_key, set_of, moment_of, after_record, empty_table, without, is_free, after_expire, after_find}
use Rattle.sharing_rules.specs.Sharers.{Sharers, same_sharers}
use Rattle.sharing_rules.specs.Uses.{Use}
use Rattle.sharing_rules.specs.Needed.{is_by, is_set_by, last_at, is_late, is_refused}
use Rattle.sharing_rules.specs.steps.Shared.{AreInOrder, IsUsedLast, HoldsUsed}
use Rattle.sharing_rules.proofs.SharerFacts.{sharers_itself}

-- ---- moments

-- what is not late at a moment was not late before it
keeps_early : (ttl now later : ℕ) (o : Option ℕ) → now ≤ later → is_late ttl later o ≡ false → is_late ttl now o ≡ false
keeps_early ttl now later None h k = k
keeps_early ttl now later (Some at) h k = grind (arith, leb_tells)

-- a set that is not late is fresh
fresh_if_early : (ttl now latest used : ℕ) → latest ≤ now → is_late ttl now (Some used) ≡ false → nat_lt (max latest now - used) ttl ≡ true
fresh_if_early ttl now latest used h k =
    let m : max latest now ≡ now = omega arith in
    rw m (grind (arith, leb_tells))

-- and one that is late is not
stale_if_late : (ttl now latest used : ℕ) → latest ≤ now → is_late ttl now (Some used) ≡ true → nat_lt (max latest now - used) ttl ≡ false
stale_if_late ttl now latest used h k =
    let m : max latest now ≡ now = omega arith in
    rw m (grind (arith, leb_tells))

-- ---- entries

-- what was found passes, and has what each entry has
found_has : (P : Entry → Type 0) (q : Entry → Bool) (es : List Entry) (e : Entry) → AllByRecursion P es → find q es ≡ Some e → P e
found_has P q [] e a h = cc
found_has P q (x ∷ es) e a h = (elim (q x) as (λ b. q x ≡ b → P e) [
  | true ↦ λ t. let h' = rw t at h in let same : x ≡ e = cc in subst P same a.0
  | false ↦ λ t. found_has P q es e a.1 (rw t at h)
]) refl

found_passes : (q : Entry → Bool) (es : List Entry) (e : Entry) → find q es ≡ Some e → q e ≡ true
found_passes q [] e h = cc
found_passes q (x ∷ es) e h = (elim (q x) as (λ b. q x ≡ b → q e ≡ true) [
  | true ↦ λ t. let h' = rw t at h in let same : x ≡ e = cc in subst (λ z. q z ≡ true) same t
  | false ↦ λ t. found_passes q es e (rw t at h)
]) refl

-- what is found and stays is found among those that stay
found_still : (q p : Entry → Bool) (es : List Entry) (e : Entry) → find q es ≡ Some e → p e ≡ true → is_some (find q (filter p es)) ≡ true
found_still q p [] e h k = cc
found_still q p (x ∷ es) e h k = (elim (q x) as (λ b. q x ≡ b → is_some (find q (cond (p x) (x ∷ filter p es) (filter p es))) ≡ true) [
  | true ↦ λ t. let h' = rw t at h in let same : x ≡ e = cc in
      let stays : p x ≡ true = subst (λ z. p z ≡ true) (sym same) k in rw (stays, t) refl
  | false ↦ λ t. let again = found_still q p es e (rw t at h) k in
      (elim (p x) as (λ b. is_some (find q (cond b (x ∷ filter p es) (filter p es))) ≡ true) [
        | true ↦ rw t again
        | false ↦ again
      ])
]) refl

-- what holds of each entry holds of those that stay
all_stay : (P : Entry → Type 0) (p : Entry → Bool) (es : List Entry) → AllByRecursion P es → AllByRecursion P (filter p es)
all_stay P p [] a = tt
all_stay P p (x ∷ es) a = (elim (p x) as (λ b. AllByRecursion P (cond b (x ∷ filter p es) (filter p es))) [
  | true ↦ (a.0, all_stay P p es a.1)
  | false ↦ all_stay P p es a.1
])

keys_of : List Entry → List SetKey
keys_of es = map (λ e. e.key) es

all_keys_stay : (P : SetKey → Type 0) (p : Entry → Bool) (es : List Entry) → AllByRecursion P (keys_of es) → AllByRecursion P (keys_of (filter p es))
unfolding keys_of
all_keys_stay P p [] a = tt
all_keys_stay P p (x ∷ es) a = (elim (p x) as (λ b. AllByRecursion P (keys_of (cond b (x ∷ filter p es) (filter p es)))) [
  | true ↦ (a.0, all_keys_stay P p es a.1)
  | false ↦ all_keys_stay P p es a.1
])

distinct_stay : (p : Entry → Bool) (es : List Entry) → IsDistinct same_key (keys_of es) → IsDistinct same_key (keys_of (filter p es))
unfolding keys_of IsDistinct
distinct_stay p [] d = tt
distinct_stay p (x ∷ es) d = (elim (p x) as (λ b. IsDistinct same_key (keys_of (cond b (x ∷ filter p es) (filter p es)))) [
  | true ↦ (all_keys_stay (λ k. same_key x.key k ≡ false) p es d.0, distinct_stay p es d.1)
  | false ↦ distinct_stay p es d.1
])

-- slots are distinct among those that stay
all_slots_stay : (P : ℕ → Type 0) (p : Entry → Bool) (es : List Entry) → AllByRecursion P (slots_of es) → AllByRecursion P (slots_of (filter p es))
all_slots_stay P p [] a = tt
all_slots_stay P p (x ∷ es) a = (elim (p x) as (λ b. AllByRecursion P (slots_of (cond b (x ∷ filter p es) (filter p es)))) [
  | true ↦ (a.0, all_slots_stay P p es a.1)
  | false ↦ all_slots_stay P p es a.1
])

slots_stay : (p : Entry → Bool) (es : List Entry) → IsDistinct nat_eq (slots_of es) → IsDistinct nat_eq (slots_of (filter p es))
unfolding IsDistinct
slots_stay p [] d = tt
slots_stay p (x ∷ es) d = (elim (p x) as (λ b. IsDistinct nat_eq (slots_of (cond b (x ∷ filter p es) (filter p es)))) [
  | true ↦ (all_slots_stay (λ k. nat_eq x.slot k ≡ false) p es d.0, slots_stay p es d.1)
  | false ↦ slots_stay p es d.1
])

-- the sets but that of a slot have other slots
slots_differ : (slot : ℕ) (es : List Entry) → AllByRecursion (λ k. nat_eq slot k ≡ false) (slots_of (without slot es))
slots_differ slot [] = tt
slots_differ slot (x ∷ es) = (elim (nat_eq slot x.slot) as (λ b. nat_eq slot x.slot ≡ b → AllByRecursion (λ k. nat_eq slot k ≡ false) (slots_of (cond (not b) (x ∷ without slot es) (without slot es)))) [
  | true ↦ λ t. slots_differ slot es
  | false ↦ λ t. (t, slots_differ slot es)
]) refl

-- a slot is free where no set has it
free_differs : (slot : ℕ) (es : List Entry) → is_free es slot ≡ true → AllByRecursion (λ k. nat_eq slot k ≡ false) (slots_of es)
free_differs slot [] f = tt
free_differs slot (x ∷ es) f = (elim (nat_eq slot x.slot) as (λ b. nat_eq slot x.slot ≡ b → AllByRecursion (λ k. nat_eq slot k ≡ false) (slots_of (x ∷ es))) [
  | true ↦ λ t. let bad = rw t at f in cc
  | false ↦ λ t. (t, free_differs slot es (rw t at f))
]) refl

-- ---- the key of what is found

-- what is found by a key has that key
found_key : (key : SetKey) (es : List Entry) (e : Entry) → find (λ f. same_key f.key key) es ≡ Some e → e.key ≡ key
found_key key es e h = keys.key.eq_is_exact e.key key (found_passes (λ f. same_key f.key key) es e h)

module _ {W : Type 0} (w : world.Ghosts W) (route : Route) (who : Sharers) where
  -- the uses of a key so far, by the last of them
  abbrev pub last_of : SetKey → List Use → Option ℕ
  last_of key before = last_at (is_set_by who key) before

  -- what is found was last used when the table says
  found_used : (key : SetKey) (before : List Use) (es : List Entry) (e : Entry) → AllByRecursion (IsUsedLast who before) es
      → find (λ f. same_key f.key key) es ≡ Some e → last_of key before ≡ Some e.used
  found_used key before es e a h =
      subst (λ k. last_at (is_set_by who k) before ≡ Some e.used) (found_key key es e h)
      (found_has (IsUsedLast who before) (λ f. same_key f.key key) es e a h)

  -- a set that is not late is held still, once a table has expired
  held_still : (now later : ℕ) (before : List Use) (t : Table) (key : SetKey) → HoldsUsed w route who now before t → now ≤ later
      → is_refused w route who key ≡ false → is_late route.pool.set_ttl later (last_of key before) ≡ false
      → is_some (set_of key (after_expire later route.pool.set_ttl t)) ≡ true
  held_still now later before t key h le r k =
      let held = h.held key r (keeps_early route.pool.set_ttl now later (last_at (is_set_by who key) before) le k) in
      (elim (set_of key t) as (λ o. set_of key t ≡ o → is_some (set_of key (after_expire later route.pool.set_ttl t)) ≡ true) [
        | None ↦ λ f. let bad = rw f at held in cc
        | Some e ↦ λ f.
            let at = found_used key before t.entries e h.used f in
            let late = rw at at k in
            found_still (λ x. same_key x.key key) (λ x. nat_lt (moment_of later t - x.used) route.pool.set_ttl) t.entries e f
            (fresh_if_early route.pool.set_ttl later t.latest e.used (omega (arith, h.latest, le)) late)
      ]) refl

  -- time passes, and a table expires or not
  pub expired : (now later : ℕ) (before : List Use) (t : Table) → HoldsUsed w route who now before t → now ≤ later
      → HoldsUsed w route who later before (after_expire later route.pool.set_ttl t)
  unfolding keys_of
  expired now later before t h le =
      let p = λ (x : Entry). nat_lt (moment_of later t - x.used) route.pool.set_ttl in
      record {
        most = h.most;
        latest = omega (arith, h.latest, le);
        distinct = distinct_stay p t.entries h.distinct;
        slots = slots_stay p t.entries h.slots;
        good = all_stay (λ e. is_refused w route who e.key ≡ false) p t.entries h.good;
        used = all_stay (IsUsedLast who before) p t.entries h.used;
        held = λ key r k. held_still now later before t key h le r k;
      }

  pub passed : (now later : ℕ) (before : List Use) (t : Table) → HoldsUsed w route who now before t → now ≤ later
      → HoldsUsed w route who later before t
  passed now later before t h le = record {
    most = h.most;
    latest = omega (arith, h.latest, le);
    distinct = h.distinct;
    slots = h.slots;
    good = h.good;
    used = h.used;
    held = λ key r k. h.held key r (keeps_early route.pool.set_ttl now later (last_at (is_set_by who key) before) le k);
  }

  -- nothing that is late is found once a table has expired
  none_late : (now : ℕ) (before : List Use) (latest : ℕ) (key : SetKey) (es : List Entry) → AllByRecursion (IsUsedLast who before) es → latest ≤ now
      → is_late route.pool.set_ttl now (last_of key before) ≡ true
      → find (λ x. same_key x.key key) (filter (λ x. nat_lt (max latest now - x.used) route.pool.set_ttl) es) ≡ None
  none_late now before latest key [] a le k = refl
  none_late now before latest key (x ∷ es) a le k =
      let rest = none_late now before latest key es a.1 le k in
      let p = λ (y : Entry). nat_lt (max latest now - y.used) route.pool.set_ttl in
      (elim (same_key x.key key) as (λ b. same_key x.key key ≡ b → find (λ y. same_key y.key key) (cond (p x) (x ∷ filter p es) (filter p es)) ≡ None) [
        | true ↦ λ t.
            let same : x.key ≡ key = keys.key.eq_is_exact x.key key t in
            let at : last_at (is_set_by who key) before ≡ Some x.used = subst (λ k. last_at (is_set_by who k) before ≡ Some x.used) same a.0 in
            rw (stale_if_late route.pool.set_ttl now latest x.used le (rw at at k)) rest
        | false ↦ λ t. (elim (p x) as (λ b. find (λ y. same_key y.key key) (cond b (x ∷ filter p es) (filter p es)) ≡ None) [
          | true ↦ rw t rest
          | false ↦ rest
        ])
      ]) refl

  -- nor what the target refuses
  none_refused : (key : SetKey) (es : List Entry) → AllByRecursion (λ e. is_refused w route who e.key ≡ false) es
      → is_refused w route who key ≡ true → find (λ x. same_key x.key key) es ≡ None
  none_refused key [] a r = refl
  none_refused key (x ∷ es) a r = (elim (same_key x.key key) as (λ b. same_key x.key key ≡ b → cond b (Some x) (find (λ y. same_key y.key key) es) ≡ None) [
    | true ↦ λ t. let bad = subst (λ k. is_refused w route who k ≡ false) (keys.key.eq_is_exact x.key key t) a.0 in cc
    | false ↦ λ t. none_refused key es a.1 r
  ]) refl

  -- a set is searched for exactly where a table that has expired does not hold it
  pub searched_if_not_held : (now : ℕ) (before : List Use) (t : Table) (key : SetKey) → HoldsUsed w route who now before t
      → not (is_some (set_of key (after_expire now route.pool.set_ttl t)))
      ≡ (is_refused w route who key || is_late route.pool.set_ttl now (last_of key before))
  searched_if_not_held now before t key h =
      let ttl = route.pool.set_ttl in
      let p = λ (x : Entry). nat_lt (moment_of now t - x.used) ttl in
      let is_its = λ (x : Entry). same_key x.key key in
      (elim (is_refused w route who key) as (λ b. is_refused w route who key ≡ b → not (is_some (set_of key (after_expire now ttl t))) ≡ (b || is_late ttl now (last_at (is_set_by who key) before))) [
        | true ↦ λ r.
            let good = all_stay (λ e. is_refused w route who e.key ≡ false) p t.entries h.good in
            rw (none_refused key (filter p t.entries) good r) refl
        | false ↦ λ r. (elim (is_late ttl now (last_at (is_set_by who key) before)) as (λ b. is_late ttl now (last_at (is_set_by who key) before) ≡ b → not (is_some (set_of key (after_expire now ttl t))) ≡ (false || b)) [
          | true ↦ λ l. rw (none_late now before t.latest key t.entries h.used h.latest l) refl
          | false ↦ λ l. let le : now ≤ now = omega arith in rw (held_still now now before t key h le r l) refl
        ]) refl
      ]) refl

-- ---- a use more

itself : (key : SetKey) → same_key key key ≡ true
itself key = key_law.laws-law.refl key

turned : (a b : SetKey) → same_key a b ≡ same_key b a
turned a b = key_law.laws-law.symm a b

-- a use of the key of a class now
abbrev pub used_now : Sharers → Option SetKey → ℕ → Use
used_now who key now = record { by = who; key = key; at = now }

-- the last use of that key is now
now_last : (who : Sharers) (now : ℕ) (key : SetKey) (before : List Use) → last_at (is_set_by who key) (used_now who (Some key) now ∷ before) ≡ Some now
now_last who now key before = rw (sharers_itself who, itself key) refl

-- and that of another key is what it was
other_last : (who : Sharers) (now : ℕ) (key other : SetKey) (before : List Use) → same_key other key ≡ false
    → last_at (is_set_by who other) (used_now who (Some key) now ∷ before) ≡ last_at (is_set_by who other) before
other_last who now key other before h = rw (sharers_itself who, h) refl

-- a scan uses no key
scan_last : (who : Sharers) (now : ℕ) (key : SetKey) (before : List Use) → last_at (is_set_by who key) (used_now who None now ∷ before) ≡ last_at (is_set_by who key) before
scan_last who now key before = rw (sharers_itself who) refl

-- a use by others is none of theirs
others_last : (who own : Sharers) (now : ℕ) (used : Option SetKey) (key : SetKey) (before : List Use) → same_sharers own who ≡ false
    → last_at (is_set_by who key) (used_now own used now ∷ before) ≡ last_at (is_set_by who key) before
others_last who own now used key before h = rw h refl

-- ---- a set that is used

keys_all : (P : SetKey → Type 0) (es : List Entry) → AllByRecursion P (keys_of es) → AllByRecursion (λ e. P e.key) es
unfolding keys_of
keys_all P [] a = tt
keys_all P (x ∷ es) a = (a.0, keys_all P es a.1)

all_keys : (P : SetKey → Type 0) (es : List Entry) → AllByRecursion (λ e. P e.key) es → AllByRecursion P (keys_of es)
unfolding keys_of
all_keys P [] a = tt
all_keys P (x ∷ es) a = (a.0, all_keys P es a.1)

slots_all : (P : ℕ → Type 0) (es : List Entry) → AllByRecursion P (slots_of es) → AllByRecursion (λ e. P e.slot) es
slots_all P [] a = tt
slots_all P (x ∷ es) a = (a.0, slots_all P es a.1)

all_imply : (P Q : Entry → Type 0) (es : List Entry) → ((e : Entry) → P e → Q e) → AllByRecursion P es → AllByRecursion Q es
all_imply P Q [] f a = tt
all_imply P Q (x ∷ es) f a = (f x a.0, all_imply P Q es f a.1)

all_both : (P Q : Entry → Type 0) (es : List Entry) → AllByRecursion P es → AllByRecursion Q es → AllByRecursion (λ e. P e × Q e) es
all_both P Q [] a b = tt
all_both P Q (x ∷ es) a b = ((a.0, b.0), all_both P Q es a.1 b.1)

-- of distinct keys, those of the other sets differ from that of the set that was found
others_differ : (key : SetKey) (es : List Entry) (e : Entry) → IsDistinct same_key (keys_of es) → find (λ f. same_key f.key key) es ≡ Some e
    → AllByRecursion (λ f. same_key f.key key ≡ false) (without e.slot es)
unfolding keys_of IsDistinct
others_differ key [] e d h = cc
others_differ key (x ∷ es) e d h = (elim (same_key x.key key) as (λ b. same_key x.key key ≡ b → AllByRecursion (λ f. same_key f.key key ≡ false) (without e.slot (x ∷ es))) [
  | true ↦ λ t.
      let h' = rw t at h in
      let same : x ≡ e = cc in
      let is_key = keys.key.eq_is_exact x.key key t in
      let apart = keys_all (λ k. same_key x.key k ≡ false) es d.0 in
      let rest = all_imply (λ f. same_key x.key f.key ≡ false) (λ f. same_key f.key key ≡ false) es
      (λ f k. turned f.key key ∙ subst (λ z. same_key z f.key ≡ false) is_key k) apart in
      let gone : nat_eq e.slot x.slot ≡ true = subst (λ z. nat_eq z.slot x.slot ≡ true) same (nat_eq_equiv.refl x.slot) in
      rw gone (all_stay (λ f. same_key f.key key ≡ false) (λ f. not (nat_eq e.slot f.slot)) es rest)
  | false ↦ λ t.
      let rest = others_differ key es e d.1 (rw t at h) in
      (elim (nat_eq e.slot x.slot) as (λ b. AllByRecursion (λ f. same_key f.key key ≡ false) (cond (not b) (x ∷ without e.slot es) (without e.slot es))) [
        | true ↦ rest
        | false ↦ (t, rest)
      ])
]) refl

-- no set of another slot goes
none_goes : (slot : ℕ) (es : List Entry) → AllByRecursion (λ f. nat_eq slot f.slot ≡ false) es → without slot es ≡ es
none_goes slot [] a = refl
none_goes slot (x ∷ es) a = rw a.0 (ap (λ r. x ∷ r) (none_goes slot es a.1))

-- a set of another key is found without the one that was found
found_besides : (key other : SetKey) (es : List Entry) (e : Entry) → IsDistinct nat_eq (slots_of es) → find (λ f. same_key f.key key) es ≡ Some e
    → same_key other key ≡ false → is_some (find (λ f. same_key f.key other) es) ≡ true
    → is_some (find (λ f. same_key f.key other) (without e.slot es)) ≡ true
unfolding IsDistinct
found_besides key other [] e d h n k = cc
found_besides key other (x ∷ es) e d h n k = (elim (same_key x.key key) as (λ b. same_key x.key key ≡ b → is_some (find (λ f. same_key f.key other) (without e.slot (x ∷ es))) ≡ true) [
  | true ↦ λ t.
      let h' = rw t at h in
      let same : x ≡ e = cc in
      let is_key = keys.key.eq_is_exact x.key key t in
      let not_other : same_key x.key other ≡ false = subst (λ z. same_key z other ≡ false) (sym is_key) (turned key other ∙ n) in
      let gone : nat_eq e.slot x.slot ≡ true = subst (λ z. nat_eq z.slot x.slot ≡ true) same (nat_eq_equiv.refl x.slot) in
      let apart = slots_all (λ s. nat_eq x.slot s ≡ false) es d.0 in
      let stays : without e.slot es ≡ es = subst (λ z. without z.slot es ≡ es) same (none_goes x.slot es apart) in
      rw (gone, stays) (rw not_other at k)
  | false ↦ λ t.
      let h' = rw t at h in
      let apart = slots_all (λ s. nat_eq x.slot s ≡ false) es d.0 in
      let differs = found_has (λ f. nat_eq x.slot f.slot ≡ false) (λ f. same_key f.key key) es e apart h' in
      let stays : nat_eq e.slot x.slot ≡ false = nat_eq_equiv.symm e.slot x.slot ∙ differs in
      rw stays ((elim (same_key x.key other) as (λ b. same_key x.key other ≡ b → is_some (cond b (Some x) (find (λ f. same_key f.key other) (without e.slot es))) ≡ true) [
        | true ↦ λ o. refl
        | false ↦ λ o. found_besides key other es e d.1 h' n (rw o at k)
      ]) refl)
]) refl

-- ---- what a table holds behind one use more

at_most : (latest now : ℕ) → latest ≤ now → max latest now ≡ now
at_most latest now h = omega arith

module _ {W : Type 0} (w : world.Ghosts W) (route : Route) (who : Sharers) (now : ℕ) (before : List Use) where
  -- behind a use of a key the last use of another key is what it was
  used_apart : (key : SetKey) (es : List Entry) → AllByRecursion (λ e. same_key e.key key ≡ false) es → AllByRecursion (IsUsedLast who before) es
      → AllByRecursion (IsUsedLast who (used_now who (Some key) now ∷ before)) es
  used_apart key es a b =
      all_imply (λ e. (same_key e.key key ≡ false) × IsUsedLast who before e) (IsUsedLast who (used_now who (Some key) now ∷ before)) es
      (λ e h. other_last who now key e.key before h.0 ∙ h.1)
      (all_both (λ e. same_key e.key key ≡ false) (IsUsedLast who before) es a b)

  -- a set that is held is used
  pub used_again : (t : Table) (key : SetKey) (e : Entry) → HoldsUsed w route who now before t → set_of key t ≡ Some e
      → HoldsUsed w route who now (used_now who (Some key) now ∷ before) (after_find key now t)
  unfolding keys_of IsDistinct
  used_again t key e h f =
      let is_key = found_key key t.entries e f in
      let others = others_differ key t.entries e h.distinct f in
      let stay = λ (x : Entry). not (nat_eq e.slot x.slot) in
      let moment = at_most t.latest now h.latest in
      rw f (record {
        most = h.most;
        latest = rw moment (omega arith);
        distinct = (
          all_keys (λ k. same_key e.key k ≡ false) (without e.slot t.entries)
              (all_imply (λ x. same_key x.key key ≡ false) (λ x. same_key e.key x.key ≡ false) (without e.slot t.entries)
              (λ x n. subst (λ k. same_key k x.key ≡ false) (sym is_key) (turned key x.key ∙ n)) others),
          distinct_stay stay t.entries h.distinct,
        );
        slots = (slots_differ e.slot t.entries, slots_stay stay t.entries h.slots);
        good = (
          found_has (λ x. is_refused w route who x.key ≡ false) (λ x. same_key x.key key) t.entries e h.good f,
          all_stay (λ x. is_refused w route who x.key ≡ false) stay t.entries h.good,
        );
        used = (
          subst (λ k. last_at (is_set_by who k) (used_now who (Some key) now ∷ before) ≡ Some (max t.latest now)) (sym is_key) (now_last who now key before ∙ ap Some (sym moment)),
          used_apart key (without e.slot t.entries) others (all_stay (IsUsedLast who before) stay t.entries h.used),
        );
        held = λ other r l. (elim (same_key e.key other) as (λ b. same_key e.key other ≡ b → is_some (cond b (Some (record { slot = e.slot; key = e.key; hits = e.hits; used = max t.latest now })) (find (λ x. same_key x.key other) (without e.slot t.entries))) ≡ true) [
          | true ↦ λ o. refl
          | false ↦ λ o.
              let n : same_key other key ≡ false = turned other key ∙ subst (λ k. same_key k other ≡ false) is_key o in
              found_besides key other t.entries e h.slots f n
              (h.held other r (subst (λ o. is_late route.pool.set_ttl now o ≡ false) (other_last who now key other before n) l))
        ]) refl;
      })

  -- no set has a key that is not found
  none_has : (key : SetKey) (es : List Entry) → find (λ f. same_key f.key key) es ≡ None → AllByRecursion (λ f. same_key f.key key ≡ false) es
  none_has key [] h = tt
  none_has key (x ∷ es) h = (elim (same_key x.key key) as (λ b. same_key x.key key ≡ b → AllByRecursion (λ f. same_key f.key key ≡ false) (x ∷ es)) [
    | true ↦ λ t. let bad = rw t at h in cc
    | false ↦ λ t. (t, none_has key es (rw t at h))
  ]) refl

  -- a search that found records is recorded
  pub recorded : (t : Table) (slot hits : ℕ) (key : SetKey) → HoldsUsed w route who now before t → set_of key t ≡ None
      → is_refused w route who key ≡ false → is_free t.entries slot ≡ true
      → HoldsUsed w route who now (used_now who (Some key) now ∷ before) (after_record slot key hits now t)
  unfolding keys_of IsDistinct
  recorded t slot hits key h f r free =
      let others = none_has key t.entries f in
      let moment = at_most t.latest now h.latest in
      record {
        most = h.most;
        latest = rw moment (omega arith);
        distinct = (
          all_keys (λ k. same_key key k ≡ false) t.entries
              (all_imply (λ x. same_key x.key key ≡ false) (λ x. same_key key x.key ≡ false) t.entries (λ x n. turned key x.key ∙ n) others),
          h.distinct,
        );
        slots = (free_differs slot t.entries free, h.slots);
        good = (r, h.good);
        used = (now_last who now key before ∙ ap Some (sym moment), used_apart key t.entries others h.used);
        held = λ other r l. (elim (same_key key other) as (λ b. same_key key other ≡ b → is_some (cond b (Some (record { slot = slot; key = key; hits = hits; used = max t.latest now })) (set_of other t)) ≡ true) [
          | true ↦ λ o. refl
          | false ↦ λ o.
              let n : same_key other key ≡ false = turned other key ∙ o in
              h.held other r (subst (λ o. is_late route.pool.set_ttl now o ≡ false) (other_last who now key other before n) l)
        ]) refl;
      }

  -- each key but this one was last used when it was
  pub refused_again : (t : Table) (key : SetKey) → HoldsUsed w route who now before t → is_refused w route who key ≡ true
      → HoldsUsed w route who now (used_now who (Some key) now ∷ before) t
  refused_again t key h r =
      let differs = λ (other : SetKey) (g : is_refused w route who other ≡ false).
      (elim (same_key other key) as (λ b. same_key other key ≡ b → same_key other key ≡ false) [
        | true ↦ λ o. let bad = subst (λ k. is_refused w route who k ≡ false) (keys.key.eq_is_exact other key o) g in cc
        | false ↦ λ o. o
      ]) refl in
      record {
        most = h.most;
        latest = h.latest;
        distinct = h.distinct;
        slots = h.slots;
        good = h.good;
        used = used_apart key t.entries (all_imply (λ x. is_refused w route who x.key ≡ false) (λ x. same_key x.key key ≡ false) t.entries (λ x g. differs x.key g) h.good) h.used;
        held = λ other g l. h.held other g (subst (λ o. is_late route.pool.set_ttl now o ≡ false) (other_last who now key other before (differs other g)) l);
      }

  -- uses that leave the last use of each key of the class as it was leave its table
  pub same_uses : (t : Table) (after : List Use) → HoldsUsed w route who now before t
      → ((key : SetKey) → last_at (is_set_by who key) after ≡ last_at (is_set_by who key) before)
      → HoldsUsed w route who now after t
  same_uses t after h same = record {
    most = h.most;
    latest = h.latest;
    distinct = h.distinct;
    slots = h.slots;
    good = h.good;
    used = all_imply (IsUsedLast who before) (IsUsedLast who after) t.entries (λ e u. same e.key ∙ u) h.used;
    held = λ key g l. h.held key g (subst (λ o. is_late route.pool.set_ttl now o ≡ false) (same key) l);
  }

  -- a scan leaves the sets as they are
  pub scanned : (t : Table) → HoldsUsed w route who now before t → HoldsUsed w route who now (used_now who None now ∷ before) t
  scanned t h = same_uses t (used_now who None now ∷ before) h (λ key. scan_last who now key before)

  -- and so does a use by others
  pub used_elsewhere : (t : Table) (own : Sharers) (key : Option SetKey) → HoldsUsed w route who now before t → same_sharers own who ≡ false
      → HoldsUsed w route who now (used_now own key now ∷ before) t
  used_elsewhere t own used h n = same_uses t (used_now own used now ∷ before) h (λ key. others_last who own now used key before n)

-- ---- a new table

late_before : (ttl now at : ℕ) → nat_le ttl (now - at) ≡ true → (before : ℕ) → before ≤ at → nat_le ttl (now - before) ≡ true
late_before ttl now at h before le = grind (arith, leb_tells)

late_longer : (short long n : ℕ) → short ≤ long → nat_le long n ≡ true → nat_le short n ≡ true
late_longer short long n h k = grind (arith, leb_tells)

-- a key of a class is used when the class is, or before
used_before : (who : Sharers) (moment : ℕ) (key : SetKey) (before : List Use) (at : ℕ) → AreInOrder moment before → last_at (is_set_by who key) before ≡ Some at → at ≤ moment
used_before who moment key [] at o h = cc
used_before who moment key (one ∷ before) at o h = (elim (is_set_by who key one) as (λ b. is_set_by who key one ≡ b → at ≤ moment) [
  | true ↦ λ t. let h' = rw t at h in let same : one.at ≡ at = cc in subst (λ z. z ≤ moment) same o.0
  | false ↦ λ t. let rest = used_before who one.at key before at o.1 (rw t at h) in omega (arith, rest, o.0)
]) refl

-- where a use of a class was `long` seconds ago or more, so were those of its keys before it
late_keys : (short long now moment : ℕ) (who : Sharers) (key : SetKey) (before : List Use) → short ≤ long → AreInOrder moment before → nat_le long (now - moment) ≡ true
    → is_late short now (last_at (is_set_by who key) before) ≡ true
late_keys short long now moment who key before le o h =
    (elim (last_at (is_set_by who key) before) as (λ r. last_at (is_set_by who key) before ≡ r → is_late short now r ≡ true) [
      | None ↦ λ k. refl
      | Some at ↦ λ k. late_before short now moment (late_longer short long (now - moment) le h) at (used_before who moment key before at o k)
    ]) refl

-- where a class is late, so are its keys
pub class_late : (short long now moment : ℕ) (who : Sharers) (key : SetKey) (before : List Use) → short ≤ long → AreInOrder moment before
    → is_late long now (last_at (is_by who) before) ≡ true → is_late short now (last_at (is_set_by who key) before) ≡ true
class_late short long now moment who key [] le o h = refl
class_late short long now moment who key (one ∷ before) le o h = (elim (is_by who one) as (λ b. is_by who one ≡ b → is_late short now (last_at (is_set_by who key) (one ∷ before)) ≡ true) [
  | true ↦ λ t.
      let late : nat_le long (now - one.at) ≡ true = rw t at h in
      rw t ((elim (option_map_or (same_key key) one.key false) as (λ b. is_late short now (option_map (λ u. u.at) (cond b (Some one) (find (is_set_by who key) before))) ≡ true) [
        | true ↦ late_longer short long (now - one.at) le late
        | false ↦ late_keys short long now one.at who key before le o.1 late
      ]))
  | false ↦ λ t. rw t (class_late short long now one.at who key before le o.1 (rw t at h))
]) refl

-- a session that is dialled for a class that was not used for a session's time to live needs no set
pub dialled : {W : Type 0} (w : world.Ghosts W) (route : Route) (who : Sharers) (now moment : ℕ) (before : List Use)
    → route.pool.set_ttl ≤ route.pool.session_ttl → AreInOrder moment before
    → is_late route.pool.session_ttl now (last_at (is_by who) before) ≡ true
    → HoldsUsed w route who now before (empty_table route.pool.sets_max)
unfolding IsDistinct
dialled w route who now moment before le o h = record {
  most = refl;
  latest = omega arith;
  distinct = tt;
  slots = tt;
  good = tt;
  used = tt;
  held = λ key g l.
      let late = class_late route.pool.set_ttl route.pool.session_ttl now moment who key before le o h in
      let bad : true ≡ false = sym late ∙ l in cc;
}
