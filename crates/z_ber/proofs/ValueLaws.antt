-- Contents octets stand for one value: BOOLEAN, INTEGER, BIT STRING, OBJECT IDENTIFIER.
use Rattle.std.proofs.Common.{◌≡◌, ◌∙◌, ◌⊎◌, ℕ, ◌+◌, ◌-◌, ◌*◌, ◌/◌, ◌%◌, ◌<◌, Bool, true, false, ◌&&◌, ◌==◌, ltb, zero, suc, ℤ, pos, negsuc, lit≤, lit<, inl, inr, List, [], ◌∷◌, ◌++◌, length, get_or, map, reverse, sym, ap, subst, arith, refl}
use Rattle.std.specs.List.{flat_map, AllByRecursion}
use Rattle.std.specs.Int.Digits.{digits_of, number_from_digits}
use Rattle.std.proofs.lemmas.Int.Digits.{same_from_digits_of, number_digits_of, all_below_base_digits_of}
use Rattle.z_types.specs.equality.Tests.{both_true}
use Rattle.std.proofs.lemmas.Bool.{cases_lt, cases_eq, lt-ltb, ltb-true, le-ltb, eqb-true, or_cases}
use Rattle.std.proofs.lemmas.List.{reverse-reverse, reverse-append, length-append}
use Rattle.z_types.specs.Oid.{is_oid, has_root}
use Rattle.z_ber.specs.Written.{septets, bool_octets, natural_octets, int_octets, mirror, bits_octets, oid_octets}
use Rattle.z_ber.proofs.ElementLaws.{heads, septets-one}

-- ---- BOOLEAN

pub bool_octets-one : (a b : Bool) → bool_octets a ≡ bool_octets b → a ≡ b
unfolding bool_octets
bool_octets-one true true e = refl
bool_octets-one false false e = refl
bool_octets-one true false e = absurd (let h = heads 255 0 [] [] e in omega arith)
bool_octets-one false true e = absurd (let h = heads 0 255 [] [] e in omega arith)

-- ---- INTEGER

-- the number of the octets, with the sign in front or not
pub number-natural_octets : (n : ℕ) → number_from_digits 256 (natural_octets n) ≡ n
unfolding natural_octets
number-natural_octets n =
    elim (cases_lt (get_or (digits_of 256 n) 0 128) 128) [
      | inl lt ↦ rw (lt-ltb _ _ lt) (number_digits_of 256 n (lit≤ tt))
      | inr le ↦ rw (le-ltb _ _ le) (number_digits_of 256 n (lit≤ tt))
    ]

-- the sign is 0
pub natural_octets-sign : (n : ℕ) → get_or (natural_octets n) 0 128 < 128
unfolding natural_octets
natural_octets-sign n =
    elim (cases_lt (get_or (digits_of 256 n) 0 128) 128) [
      | inl lt ↦ rw (lt-ltb _ _ lt) lt
      | inr le ↦ rw (le-ltb _ _ le) (lit< tt)
    ]

pub natural_octets-bytes : (n : ℕ) → AllByRecursion (λ d. d < 256) (natural_octets n)
unfolding natural_octets
natural_octets-bytes n =
    elim (cases_lt (get_or (digits_of 256 n) 0 128) 128) [
      | inl lt ↦ rw (lt-ltb _ _ lt) (all_below_base_digits_of 256 n (lit≤ tt))
      | inr le ↦ rw (le-ltb _ _ le) (lit< tt, all_below_base_digits_of 256 n (lit≤ tt))
    ]

pub natural_octets-one : (m n : ℕ) → natural_octets m ≡ natural_octets n → m ≡ n
natural_octets-one m n e = sym (number-natural_octets m) ∙ ap (number_from_digits 256) e ∙ number-natural_octets n

-- bits that are turned twice are as they were
pub turned_twice : (ds : List ℕ) → AllByRecursion (λ d. d < 256) ds → map (λ octet. 255 - octet) (map (λ octet. 255 - octet) ds) ≡ ds
turned_twice [] h = refl
turned_twice (d ∷ ds) h =
    let r = turned_twice ds h.1 in
    let f : 255 - (255 - d) ≡ d = omega (arith, h.0) in cc

turned_sign : (ds : List ℕ) → get_or ds 0 128 < 128 → 127 < get_or (map (λ octet. 255 - octet) ds) 0 255
turned_sign [] h = lit< tt
turned_sign (d ∷ ds) h = omega arith

first_any : (ds : List ℕ) → get_or ds 0 128 < 128 → get_or ds 0 255 < 128
first_any [] h = absurd (omega arith)
first_any (d ∷ ds) h = h

signs_apart : {P : Type 0} (m n : ℕ) → natural_octets m ≡ map (λ octet. 255 - octet) (natural_octets n) → P
signs_apart m n e =
    let a = first_any (natural_octets m) (natural_octets-sign m) in
    let b = turned_sign (natural_octets n) (natural_octets-sign n) in
    let q = ap (λ l. get_or l 0 255) e in
    absurd (omega arith)

pub int_octets-one : (y z : ℤ) → int_octets y ≡ int_octets z → y ≡ z
unfolding int_octets
int_octets-one (pos m) (pos n) e = ap pos (natural_octets-one m n e)
int_octets-one (negsuc m) (negsuc n) e =
    ap negsuc (natural_octets-one m n (sym (turned_twice (natural_octets m) (natural_octets-bytes m)) ∙ ap (map (λ octet. 255 - octet)) e ∙ turned_twice (natural_octets n) (natural_octets-bytes n)))
int_octets-one (pos m) (negsuc n) e = signs_apart m n e
int_octets-one (negsuc m) (pos n) e = signs_apart n m (sym e)

-- ---- BIT STRING

-- a test of each number below a bound
abbrev pub all_below : ℕ → (ℕ → Bool) → Bool
all_below zero p = true
all_below (suc n) p = p n && all_below n p

pub all_below-at : (n k : ℕ) (p : ℕ → Bool) → all_below n p ≡ true → k < n → p k ≡ true
all_below-at zero k p e lt = absurd (omega arith)
all_below-at (suc n) k p e lt =
    let b = both_true (p n) (all_below n p) e in
    elim (cases_eq k n) [
      | inl same ↦ subst (λ (i : ℕ). p i ≡ true) (sym same) b.0
      | inr other ↦ all_below-at n k p b.1 (omega arith)
    ]

-- bits in turned order twice are as they were
pub mirror_twice : (o : ℕ) → o < 256 → mirror (mirror o) ≡ o
unfolding mirror
mirror_twice o lt = eqb-true _ _ (all_below-at 256 o (λ k. mirror (mirror k) == k) refl lt)

pub mirrors_twice : (ds : List ℕ) → AllByRecursion (λ d. d < 256) ds → map mirror (map mirror ds) ≡ ds
mirrors_twice [] h = refl
mirrors_twice (d ∷ ds) h =
    let r = mirrors_twice ds h.1 in
    let f = mirror_twice d h.0 in cc

mirrored-one : (xs ys : List ℕ) → AllByRecursion (λ d. d < 256) xs → AllByRecursion (λ d. d < 256) ys → map mirror xs ≡ map mirror ys → xs ≡ ys
mirrored-one xs ys hx hy e = sym (mirrors_twice xs hx) ∙ ap (map mirror) e ∙ mirrors_twice ys hy

pub all-append : (xs ys : List ℕ) → AllByRecursion (λ d. d < 256) xs → AllByRecursion (λ d. d < 256) ys → AllByRecursion (λ d. d < 256) (xs ++ ys)
all-append [] ys hx hy = hy
all-append (x ∷ xs) ys hx hy = (hx.0, all-append xs ys hx.1 hy)

pub all-reverse : (xs : List ℕ) → AllByRecursion (λ d. d < 256) xs → AllByRecursion (λ d. d < 256) (reverse xs)
all-reverse [] h = tt
all-reverse (x ∷ xs) h = rw (reverse-append (x ∷ []) xs) (all-append (reverse xs) (x ∷ []) (all-reverse xs h.1) (h.0, tt))

pub bits_octets-one : (m n : ℕ) → bits_octets m ≡ bits_octets n → m ≡ n
unfolding bits_octets
bits_octets-one m n e =
    let ds = digits_of 256 m in
    let es = digits_of 256 n in
    let bytes : (k : ℕ) → AllByRecursion (λ d. d < 256) (reverse (digits_of 256 k)) = λ k. all-reverse (digits_of 256 k) (all_below_base_digits_of 256 k (lit≤ tt)) in
    let t = heads _ _ _ _ e in
    let r = mirrored-one (reverse ds) (reverse es) (bytes m) (bytes n) t.1 in
    same_from_digits_of 256 m n (lit≤ tt) (sym (reverse-reverse ds) ∙ ap reverse r ∙ reverse-reverse es)

-- ---- OBJECT IDENTIFIER

septets-filled : (n : ℕ) (x : List ℕ) → septets n ++ x ≡ [] → ⊥
unfolding septets
septets-filled n x e =
    let front = map (λ digit. 128 + digit) (digits_of 128 (n / 128)) in
    let k : length ((front ++ (n % 128) ∷ []) ++ x) ≡ 0 = ap length e in
    omega (arith, k, length-append (front ++ (n % 128) ∷ []) x, length-append front ((n % 128) ∷ []))

-- the first number is 2, or smaller with a small number behind it
pub rooted : (x y : ℕ) (xs : List ℕ) → is_oid (x ∷ y ∷ xs) ≡ true → (x ≡ 2) ⊎ ((x < 2) × (y < 40))
rooted x y xs e =
    let root = both_true (has_root (x ∷ y ∷ xs)) _ e in
    elim (or_cases (x == 2) (ltb x 2 && ltb y 40) root.0) [
      | inl two ↦ inl (eqb-true x 2 two)
      | inr low ↦ let b = both_true (ltb x 2) (ltb y 40) low in inr (ltb-true x 2 b.0, ltb-true y 40 b.1)
    ]

roots_one : (x y u v : ℕ) → (x ≡ 2) ⊎ ((x < 2) × (y < 40)) → (u ≡ 2) ⊎ ((u < 2) × (v < 40)) → 40 * x + y ≡ 40 * u + v → (x ≡ u) × (y ≡ v)
roots_one x y u v (inl p) (inl q) e = (omega arith, omega arith)
roots_one x y u v (inl p) (inr q) e = absurd (omega arith)
roots_one x y u v (inr p) (inl q) e = absurd (omega arith)
roots_one x y u v (inr p) (inr q) e = (omega arith, omega arith)

arcs-one : (xs ys : List ℕ) → flat_map septets xs ≡ flat_map septets ys → xs ≡ ys
arcs-one [] [] e = refl
arcs-one [] (y ∷ ys) e = absurd (septets-filled y (flat_map septets ys) (sym e))
arcs-one (x ∷ xs) [] e = absurd (septets-filled x (flat_map septets xs) e)
arcs-one (x ∷ xs) (y ∷ ys) e =
    let h = septets-one x y (flat_map septets xs) (flat_map septets ys) e in
    let r = arcs-one xs ys h.1 in
    let p = h.0 in cc

pub oid_octets-one : (a b : List ℕ) → is_oid a ≡ true → is_oid b ≡ true → oid_octets a ≡ oid_octets b → a ≡ b
unfolding oid_octets
oid_octets-one [] b ha hb e = absurd cc
oid_octets-one (x ∷ []) b ha hb e = absurd cc
oid_octets-one (x ∷ y ∷ xs) [] ha hb e = absurd cc
oid_octets-one (x ∷ y ∷ xs) (u ∷ []) ha hb e = absurd cc
oid_octets-one (x ∷ y ∷ xs) (u ∷ v ∷ us) ha hb e =
    let h = septets-one (40 * x + y) (40 * u + v) (flat_map septets xs) (flat_map septets us) e in
    let r = arcs-one xs us h.1 in
    let s = roots_one x y u v (rooted x y xs ha) (rooted u v us hb) h.0 in
    let p = s.0 in
    let q = s.1 in cc
