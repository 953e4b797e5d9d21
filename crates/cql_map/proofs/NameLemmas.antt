-- Names behind prefixes, and the first index of a name.
use Rattle.std.proofs.Common.{◌≡◌, ℕ, suc, ◌+◌, ◌<◌, ◌≤◌, ◌==◌, ◌&&◌, Bool, true, false, nat_eq, List, [], ◌∷◌, ◌++◌, length, get_or, take, drop, Some, refl, sym, ◌∙◌, ap, arith, add-one, drop-cons, append_assoc, append-nil}
use Rattle.std.specs.Char.{to_ascii_lowercase}
use Rattle.std.proofs.lemmas.List.{take_more}
use Rattle.route_config.specs.declared.route.Index.{Index}
use Rattle.cql_map.specs.Names.{is_same_name, has_dot, prefix_of, has_prefix}
use Rattle.cql_map.specs.Indexes.{use_in, is_known_prefix}

-- a name is another behind a prefix where both parts are
pub same_split : (full prefix name : List ℕ) → length prefix ≤ length full → (is_same_name (take (length prefix) full) prefix && is_same_name (drop (length prefix) full) name) ≡ is_same_name full (prefix ++ name)
same_split full [] name le = refl
same_split [] (p ∷ ps) name le = absurd (omega (arith, le))
same_split (b ∷ bs) (p ∷ ps) name le =
    go (nat_eq (to_ascii_lowercase b) (to_ascii_lowercase p)) (is_same_name (take (length ps) bs) ps) (is_same_name (drop (length ps) bs) name) (is_same_name bs (ps ++ name)) (same_split bs ps name (omega (arith, le)))
  where
    go : (t x y z : Bool) → (x && y) ≡ z → ((t && x) && y) ≡ (t && z)
    go true x y z e = e
    go false x y z e = refl

pub split_true : (full prefix name : List ℕ) → length prefix ≤ length full → is_same_name (take (length prefix) full) prefix ≡ true → is_same_name (drop (length prefix) full) name ≡ is_same_name full (prefix ++ name)
split_true full prefix name le h = ap (λ b. b && is_same_name (drop (length prefix) full) name) (sym h) ∙ same_split full prefix name le

pub split_false : (full prefix name : List ℕ) → length prefix ≤ length full → is_same_name (take (length prefix) full) prefix ≡ false → false ≡ is_same_name full (prefix ++ name)
split_false full prefix name le h = ap (λ b. b && is_same_name (drop (length prefix) full) name) (sym h) ∙ same_split full prefix name le

-- an octet of a name that is no dot, and one that is
pub dot_more : (name : List ℕ) (i : ℕ) → i < length name → (get_or name i 0 == 46) ≡ false → has_dot (drop (i + 1) name) ≡ has_dot (drop i name)
dot_more name i below h = rw (add-one i, drop-cons name i 0, h) refl

pub prefix_more : (name : List ℕ) (i : ℕ) → i < length name → (get_or name i 0 == 46) ≡ false → take (i + 1) name ++ prefix_of (drop (i + 1) name) ≡ take i name ++ prefix_of (drop i name)
prefix_more name i below h =
    let next : drop i name ≡ get_or name i 0 ∷ drop (i + 1) name = rw (add-one i, drop-cons name i 0) refl in
    let here : prefix_of (get_or name i 0 ∷ drop (i + 1) name) ≡ get_or name i 0 ∷ prefix_of (drop (i + 1) name) = rw h refl in
    rw (take_more name i 0 below, append_assoc, next, here) refl

pub dot_done : (name : List ℕ) (i : ℕ) → i < length name → (get_or name i 0 == 46) ≡ true → has_dot (drop i name) ≡ true
dot_done name i below h = rw (drop-cons name i 0, h) refl

pub prefix_done : (name : List ℕ) (i : ℕ) → i < length name → (get_or name i 0 == 46) ≡ true → take i name ++ prefix_of (drop i name) ≡ take i name
prefix_done name i below h =
    let next : drop i name ≡ get_or name i 0 ∷ drop (i + 1) name = rw (add-one i, drop-cons name i 0) refl in
    let here : prefix_of (get_or name i 0 ∷ drop (i + 1) name) ≡ [] = rw h refl in
    rw (next, here) (append-nil (take i name))

-- what is left of a list at a place: its item, and what is left behind it
pub drop_item : {X : Type 0} (xs : List X) (i : ℕ) (x : X) → i < length xs → x ≡ get_or xs i x → drop i xs ≡ x ∷ drop (i + 1) xs
drop_item xs i x below e = rw (add-one i, drop-cons xs i x) (ap (λ y. y ∷ drop (suc i) xs) (sym e))

-- an index of another name, and the first of this name
pub use_in_more : (indexes : List Index) (i : ℕ) (x : Index) (name : List ℕ) → i < length indexes → x ≡ get_or indexes i x → is_same_name x.name name ≡ false → use_in (drop i indexes) name ≡ use_in (drop (i + 1) indexes) name
use_in_more indexes i x name below e h = rw (drop_item indexes i x below e, h) refl

pub use_in_done : (indexes : List Index) (i : ℕ) (x : Index) (name : List ℕ) → i < length indexes → x ≡ get_or indexes i x → is_same_name x.name name ≡ true → use_in (drop i indexes) name ≡ Some x.value
use_in_done indexes i x name below e h = rw (drop_item indexes i x below e, h) refl

pub known_more : (indexes : List Index) (i : ℕ) (x : Index) (prefix : List ℕ) → i < length indexes → x ≡ get_or indexes i x → has_prefix x.name prefix ≡ false → is_known_prefix (drop i indexes) prefix ≡ is_known_prefix (drop (i + 1) indexes) prefix
known_more indexes i x prefix below e h = rw (drop_item indexes i x below e, h) refl

pub known_done : (indexes : List Index) (i : ℕ) (x : Index) (prefix : List ℕ) → i < length indexes → x ≡ get_or indexes i x → has_prefix x.name prefix ≡ true → is_known_prefix (drop i indexes) prefix ≡ true
known_done indexes i x prefix below e h = rw (drop_item indexes i x below e, h) refl

pub ruleset prefix_steps = (dot_more, prefix_more, dot_done, prefix_done)

pub ruleset use_in_steps = (use_in_more, use_in_done)

pub ruleset known_steps = (known_more, known_done)
