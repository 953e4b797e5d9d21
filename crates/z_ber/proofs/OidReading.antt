-- The numbers of an object identifier are read as they are written, and no others are read.
use Rattle.std.proofs.Common.{◌≡◌, ◌∙◌, ◌⊎◌, ℕ, ◌+◌, ◌-◌, ◌*◌, ◌^◌, ◌/◌, ◌%◌, ◌<◌, ◌≤◌, true, false, ◌==◌, ltb, leb, nat_lt, lit≤, lit<, inl, inr, List, [], ◌∷◌, ◌++◌, length, get_or, take, drop, min, map, Option, Some, None, Result, Ok, Err, IfOk, IfSome, IsSome, IsTrue, sym, ap, subst, append_assoc, arith, refl}
use Rattle.std.specs.List.{flat_map, list_all}
use Rattle.std.specs.Option.{option_map}
use Rattle.std.specs.Int.Digits.{digits_of, number_from_digits, number_from_digits_after}
use Rattle.std.proofs.lemmas.Int.Digits.{number_digits_of, number_after_append, number_after_ge, first_digits_of}
use Rattle.std.proofs.lemmas.Bool.{false≢true, cases_lt, lt-ltb, ltb-true, le-leb, leb-true}
use Rattle.std.proofs.lemmas.List.{take_all, length-append}
use Rattle.z_types.specs.equality.Tests.{both_true}
use Rattle.z_types.specs.Oid.{is_oid, has_root}
use Rattle.z_types.specs.ReadAs.{IsReadAs}
use Rattle.z_ber.specs.Arcs.{AreArcs, AreArcsRead}
use Rattle.z_ber.specs.Values.{IsOid}
use Rattle.z_ber.specs.Written.{septets, oid_octets}
use Rattle.z_ber.proofs.ElementLaws.{heads, septets-one}
use Rattle.z_ber.proofs.TagReading.{marked, marked-more, septets-end}
use Rattle.z_ber.proofs.ValueLaws.{rooted}

-- a number is its high part and its last digit
septets-parts : (n : ℕ) (rest : List ℕ) → septets n ++ rest ≡ marked (n / 128) ++ (n % 128) ∷ rest
unfolding septets
septets-parts n rest = append_assoc (marked (n / 128)) (n % 128 ∷ []) rest

-- marked octets end before an octet that is not marked
marked_before : (us vs : List ℕ) (b : ℕ) (x y : List ℕ) → b < 128 → map (λ digit. 128 + digit) us ++ x ≡ map (λ digit. 128 + digit) vs ++ b ∷ y → (ws : List ℕ) × (vs ≡ us ++ ws) × (x ≡ map (λ digit. 128 + digit) ws ++ b ∷ y)
marked_before [] vs b x y lt e = (vs, refl, e)
marked_before (u ∷ us) [] b x y lt e = absurd (let h = heads (128 + u) b _ y e in omega arith)
marked_before (u ∷ us) (v ∷ vs) b x y lt e =
    let h = heads (128 + u) (128 + v) _ _ e in
    let r = marked_before us vs b x y lt h.1 in
    let same : u ≡ v = omega (arith, h.0) in
    let more = r.1 in
    (r.0, cc, r.2)

-- the octets that follow a high part
number_front : (high n : ℕ) (bytes rest : List ℕ) → marked high ++ bytes ≡ septets n ++ rest → (ws : List ℕ) × (digits_of 128 (n / 128) ≡ digits_of 128 high ++ ws) × (bytes ≡ map (λ digit. 128 + digit) ws ++ (n % 128) ∷ rest)
number_front high n bytes rest e =
    marked_before (digits_of 128 high) (digits_of 128 (n / 128)) (n % 128) bytes rest (omega arith) (e ∙ septets-parts n rest)

-- octets with one behind them are some
filled : (ds : List ℕ) (b : ℕ) (y : List ℕ) → [] ≡ ds ++ b ∷ y → ⊥
filled [] b y e = cc
filled (d ∷ ds) b y e = cc

-- a number has a last digit
pub number-open : (high n : ℕ) (bytes rest : List ℕ) → length bytes < 1 → marked high ++ bytes ≡ septets n ++ rest → ⊥
number-open high n [] rest none e =
    let f = number_front high n [] rest e in filled (map (λ digit. 128 + digit) f.0) (n % 128) rest f.2
number-open high n (b ∷ bytes) rest none e = omega arith

-- a number is not below its high part
number-above : (high n : ℕ) (bytes rest : List ℕ) → marked high ++ bytes ≡ septets n ++ rest → high ≤ n / 128
number-above high n bytes rest e =
    let f = number_front high n bytes rest e in
    let value : n / 128 ≡ number_from_digits_after 128 high f.0 =
    sym (number_digits_of 128 (n / 128) (lit≤ tt)) ∙ ap (number_from_digits 128) f.1 ∙ number_after_append 128 0 (digits_of 128 high) f.0 ∙ ap (λ k. number_from_digits_after 128 k f.0) (number_digits_of 128 high (lit≤ tt))
    in
    omega (arith, value, number_after_ge 128 high f.0 (lit< tt))

-- the first digit is not 0
first_filled : (m b : ℕ) (ws x y : List ℕ) → b < 128 → digits_of 128 m ≡ ws → 128 ∷ x ≡ map (λ digit. 128 + digit) ws ++ b ∷ y → ⊥
first_filled m b [] x y lt d e = let h = heads 128 b x y e in omega (arith, h.0)
first_filled m b (w ∷ ws) x y lt d e =
    let h = heads 128 (128 + w) x _ e in
    let none : w ≡ 0 = omega (arith, h.0) in
    elim (cases_lt 0 m) [
      | inl pos ↦
          let first : get_or (digits_of 128 m) 0 0 ≡ w = ap (λ l. get_or l 0 0) d in
          omega (arith, first, first_digits_of 128 m (lit≤ tt) pos)
      | inr le ↦
          let zero-is : 0 ≡ m = omega arith in
          let empty : [] ≡ w ∷ ws = ap (digits_of 128) zero-is ∙ d in cc
    ]

-- what follows the first octet
abbrev behind : List ℕ → List ℕ
behind bytes = take (length bytes - 1) (drop 1 bytes)

behind-all : (b : ℕ) (bytes : List ℕ) → behind (b ∷ bytes) ≡ bytes
behind-all b bytes = take_all (length (b ∷ bytes) - 1) bytes (omega arith)

-- 8.19.2: the first octet is not 128
pub number-zero : (high k n : ℕ) (bytes rest : List ℕ) → 128 ≤ get_or bytes 0 0 → k ≡ get_or bytes 0 0 - 128 → high * 128 + k ≡ 0 → marked high ++ bytes ≡ septets n ++ rest → ⊥
number-zero high k n [] rest le is none e = omega arith
number-zero high k n (octet ∷ bytes) rest le is none e =
    let none-high : high ≡ 0 = omega arith in
    let lead : octet ≡ 128 = omega arith in
    let e' : marked 0 ++ octet ∷ bytes ≡ septets n ++ rest = ap (λ h. marked h ++ octet ∷ bytes) (sym none-high) ∙ e in
    let f = number_front 0 n (octet ∷ bytes) rest e' in
    first_filled (n / 128) (n % 128) f.0 bytes rest (omega arith) f.1 (ap (λ o. o ∷ bytes) (sym lead) ∙ f.2)

-- a digit behind a high part
pub number-more : (high k : ℕ) (bytes : List ℕ) → get_or bytes 0 0 < 256 → 128 ≤ get_or bytes 0 0 → k ≡ get_or bytes 0 0 - 128 → 0 < high * 128 + k → marked high ++ bytes ≡ marked (high * 128 + k) ++ take (length bytes - 1) (drop 1 bytes)
number-more high k [] lt le is pos = absurd (omega arith)
number-more high k (octet ∷ bytes) lt le is pos =
    let again : 128 + k ≡ octet = omega arith in
    ap (λ o. marked high ++ o ∷ bytes) (sym again) ∙ sym (append_assoc (marked high) ((128 + k) ∷ []) bytes) ∙ ap (λ l. l ++ bytes) (sym (marked-more high k (omega arith) pos)) ∙ ap (λ l. marked (high * 128 + k) ++ l) (sym (behind-all octet bytes))

-- a high part that is too large
pub number-large : (high k n : ℕ) (bytes rest : List ℕ) → get_or bytes 0 0 < 256 → 128 ≤ get_or bytes 0 0 → k ≡ get_or bytes 0 0 - 128 → 67108863 < high * 128 + k → n < 2 ^ 33 → marked high ++ bytes ≡ septets n ++ rest → ⊥
number-large high k n bytes rest lt le is over small e =
    omega (arith, number-above (high * 128 + k) n (behind bytes) rest (sym (number-more high k bytes lt le is (omega arith)) ∙ e))

-- the last digit
pub number-end : (high octet : ℕ) (bytes : List ℕ) → 1 ≤ length bytes → get_or bytes 0 0 < 128 → octet ≡ get_or bytes 0 0 → marked high ++ bytes ≡ septets (high * 128 + octet) ++ take (length bytes - 1) (drop 1 bytes)
number-end high octet [] some lt is = absurd (omega arith)
number-end high octet (b ∷ bytes) some lt is =
    ap (λ o. marked high ++ o ∷ bytes) (sym is) ∙ sym (append_assoc (marked high) (octet ∷ []) bytes) ∙ ap (λ l. l ++ bytes) (sym (septets-end high octet (omega arith))) ∙ ap (λ l. septets (high * 128 + octet) ++ l) (sym (behind-all b bytes))

-- ---- numbers one after another

below_bound : (m : ℕ) (ms : List ℕ) → list_all (λ arc. nat_lt arc (2 ^ 32)) (m ∷ ms) ≡ true → (m < 2 ^ 32) × (list_all (λ arc. nat_lt arc (2 ^ 32)) ms ≡ true)
below_bound m ms e =
    let b = both_true (ltb m (2 ^ 32)) (list_all (λ arc. nat_lt arc (2 ^ 32)) ms) e in (ltb-true m (2 ^ 32) b.0, b.1)

-- no numbers where there is not one
pub arcs-none : (before : ℕ) (bytes more : List ℕ) → 0 < length bytes → ((n : ℕ) (rest : List ℕ) → n < 2 ^ 33 → bytes ≡ septets n ++ rest → ⊥) → AreArcs before bytes more → ⊥
arcs-none before bytes [] some h a = let none = ap length a.spelled in omega (arith, none)
arcs-none before bytes (m ∷ ms) some h a =
    let b = below_bound m ms a.small in h m (flat_map septets ms) (omega (arith, b.0)) a.spelled

-- what stands behind the first of them
pub record Front (before n : ℕ) (rest : List ℕ) : Type 0 where
  pub low : n < 2 ^ 32
  pub others : List ℕ
  pub behind : AreArcs (before + 1) rest others

pub arcs-front : (before n : ℕ) (bytes rest more : List ℕ) → 0 < length bytes → bytes ≡ septets n ++ rest → AreArcs before bytes more → Front before n rest
arcs-front before n bytes rest [] some e a = absurd (let none = ap length a.spelled in omega (arith, none))
arcs-front before n bytes rest (m ∷ ms) some e a =
    let b = below_bound m ms a.small in
    let h = septets-one n m rest (flat_map septets ms) (sym e ∙ a.spelled) in
    record {
      low = omega (arith, b.0, h.0);
      others = ms;
      behind = record { few = omega (arith, a.few); small = b.1; spelled = h.1 };
    }

pub arcs-none-more : (before after n : ℕ) (bytes rest : List ℕ) → 0 < length bytes → bytes ≡ septets n ++ rest → after ≡ before + 1 → ((more : List ℕ) → AreArcs after rest more → ⊥) → (more : List ℕ) → AreArcs before bytes more → ⊥
arcs-none-more before after n bytes rest some e is h more a =
    let f = arcs-front before n bytes rest more some e a in
    h f.others (rw is f.behind)

-- one number more, in front of the others
pub arcs-on : {A E : Type 0} (items : A → List ℕ) (r : Result (Option A) E) (before after : List ℕ) (n m : ℕ) (bytes rest : List ℕ) → 0 < length bytes → n < 2 ^ 32 → n ≡ m → bytes ≡ septets m ++ rest → after ≡ before ++ n ∷ [] → IfOk r (λ found. AreArcsRead after rest (option_map items found)) → IfOk r (λ found. AreArcsRead before bytes (option_map items found))
arcs-on items (Err e) before after n m bytes rest some low same t a h = tt
arcs-on items (Ok None) before after n m bytes rest some low same t a h =
    let more_by_one : length after ≡ length before + 1 = ap length a ∙ length-append before (n ∷ []) in
    arcs-none-more (length before) (length after) m bytes rest some t more_by_one h
arcs-on items (Ok (Some all)) before after n m bytes rest some low same t a h =
    let p = h.2 in
    let more_by_one : length after ≡ length before + 1 = ap length a ∙ length-append before (n ∷ []) in (
      n ∷ h.0,
      h.1 ∙ ap (λ l. l ++ h.0) a ∙ append_assoc before (n ∷ []) h.0,
      record {
        few = omega (arith, p.few, more_by_one);
        small = rw (lt-ltb n (2 ^ 32) low) p.small;
        spelled = t ∙ ap (λ k. septets k ++ rest) (sym same) ∙ ap (λ l. septets n ++ l) p.spelled;
      },
    )

pub some_octet : (bytes : List ℕ) → false ≡ (length bytes == 0) → 0 < length bytes
some_octet [] e = absurd cc
some_octet (b ∷ bytes) e = omega arith

-- ---- all of them

pub oid-none : (x y : ℕ) (bytes arcs : List ℕ) → ((more : List ℕ) → AreArcs 2 bytes more → ⊥) → is_oid arcs ≡ true → septets (40 * x + y) ++ bytes ≡ oid_octets arcs → ⊥
unfolding oid_octets
oid-none x y bytes [] h valid e = cc
oid-none x y bytes (u ∷ []) h valid e = cc
oid-none x y bytes (u ∷ v ∷ us) h valid e =
    let f = septets-one (40 * x + y) (40 * u + v) bytes (flat_map septets us) e in
    let parts = both_true (has_root (u ∷ v ∷ us)) _ valid in
    let bounds = both_true (leb (length (u ∷ v ∷ us)) 32) (list_all (λ arc. nat_lt arc (2 ^ 32)) (u ∷ v ∷ us)) parts.1 in
    let few : length (u ∷ v ∷ us) ≤ 32 = leb-true (length (u ∷ v ∷ us)) 32 bounds.0 in
    let b = below_bound u (v ∷ us) bounds.1 in
    let b' = below_bound v us b.1 in
    h us (record { few = omega arith; small = b'.1; spelled = f.1 })

pub oid-spelled : (x y : ℕ) (bytes more : List ℕ) → AreArcs 2 bytes more → septets (40 * x + y) ++ bytes ≡ oid_octets (x ∷ y ∷ more)
unfolding oid_octets
oid-spelled x y bytes more a = ap (λ l. septets (40 * x + y) ++ l) a.spelled

pub oid-valid : (x y : ℕ) (bytes more : List ℕ) → has_root (x ∷ y ∷ []) ≡ true → x < 2 ^ 32 → y < 2 ^ 32 → AreArcs 2 bytes more → is_oid (x ∷ y ∷ more) ≡ true
oid-valid x y bytes more root lx ly a =
    let few : length (x ∷ y ∷ more) ≤ 32 = omega (arith, a.few) in
    let root' : has_root (x ∷ y ∷ more) ≡ true = root in
    rw (root', le-leb (length (x ∷ y ∷ more)) 32 few, lt-ltb x (2 ^ 32) lx, lt-ltb y (2 ^ 32) ly) a.small

pub oid-made : (x y : ℕ) (root bytes items more : List ℕ) (made : Option (List ℕ)) → has_root (x ∷ y ∷ []) ≡ true → x < 2 ^ 32 → y < 2 ^ 32 → root ≡ x ∷ y ∷ [] → items ≡ root ++ more → AreArcs (length root) bytes more → IfSome made (λ oid. oid ≡ items) → (IsTrue (is_oid items) → IsSome made) → IsReadAs IsOid oid_octets (septets (40 * x + y) ++ bytes) made
oid-made x y root bytes items more None valid lx ly e f a h some =
    let a' : AreArcs 2 bytes more = subst (λ (l : List ℕ). AreArcs (length l) bytes more) e a in
    let all : items ≡ x ∷ y ∷ more = f ∙ ap (λ l. l ++ more) e in
    absurd (false≢true (some (subst (λ (l : List ℕ). IsTrue (is_oid l)) (sym all) (oid-valid x y bytes more valid lx ly a'))))
oid-made x y root bytes items more (Some oid) valid lx ly e f a h some =
    let a' : AreArcs 2 bytes more = subst (λ (l : List ℕ). AreArcs (length l) bytes more) e a in
    let all : oid ≡ x ∷ y ∷ more = h ∙ f ∙ ap (λ l. l ++ more) e in
    rw all (oid-valid x y bytes more valid lx ly a', oid-spelled x y bytes more a')

-- the first two numbers of octets that are an object identifier
pub record Root (number : ℕ) : Type 0 where
  pub first : ℕ
  pub second : ℕ
  pub either : (first ≡ 2) ⊎ ((first < 2) × (second < 40))
  pub low : second < 2 ^ 32
  pub sum : number ≡ 40 * first + second

pub oid-root : (number : ℕ) (bytes arcs : List ℕ) → is_oid arcs ≡ true → septets number ++ bytes ≡ oid_octets arcs → Root number
unfolding oid_octets
oid-root number bytes [] valid e = absurd cc
oid-root number bytes (u ∷ []) valid e = absurd cc
oid-root number bytes (u ∷ v ∷ us) valid e =
    let f = septets-one number (40 * u + v) bytes (flat_map septets us) e in
    let parts = both_true (has_root (u ∷ v ∷ us)) _ valid in
    let bounds = both_true (leb (length (u ∷ v ∷ us)) 32) (list_all (λ arc. nat_lt arc (2 ^ 32)) (u ∷ v ∷ us)) parts.1 in
    let b = below_bound u (v ∷ us) bounds.1 in
    let b' = below_bound v us b.1 in
    record { first = u; second = v; either = rooted u v us valid; low = b'.0; sum = f.0 }

-- an object identifier begins with such a number
pub oid-begins : (octets arcs : List ℕ) → is_oid arcs ≡ true → octets ≡ oid_octets arcs → (n : ℕ) × (rest : List ℕ) × (n < 2 ^ 33) × (octets ≡ septets n ++ rest)
unfolding oid_octets
oid-begins octets [] valid e = absurd cc
oid-begins octets (u ∷ []) valid e = absurd cc
oid-begins octets (u ∷ v ∷ us) valid e =
    let r = oid-root (40 * u + v) (flat_map septets us) (u ∷ v ∷ us) valid refl in
    (40 * u + v, flat_map septets us, elim r.either [ inl two ↦ omega (arith, r.sum, r.low) | inr low ↦ omega (arith, r.sum, low.0, low.1) ], e)

-- too large a number behind the first
pub oid-large : (first number : ℕ) (bytes arcs : List ℕ) → first ≡ min (number / 40) 2 → 2 ^ 32 ≤ number - 40 * first → is_oid arcs ≡ true → septets number ++ bytes ≡ oid_octets arcs → ⊥
oid-large first number bytes arcs h over valid e =
    let r = oid-root number bytes arcs valid e in
    elim r.either [ inl two ↦ omega (arith, r.sum, r.low) | inr low ↦ omega (arith, r.sum, low.0, low.1) ]
