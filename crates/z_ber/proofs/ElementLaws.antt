-- What is written begins nothing else that is written: identifier octets, length octets, elements.
use Rattle.std.proofs.Common.{◌≡◌, ◌∙◌, ◌⊎◌, ℕ, ◌+◌, ◌*◌, ◌/◌, ◌%◌, ◌<◌, ◌≤◌, Bool, true, false, lit≤, inl, inr, List, [], ◌∷◌, ◌++◌, length, map, sym, ap, append_assoc, arith, refl}
use Rattle.std.specs.Int.Digits.{digits_of}
use Rattle.std.proofs.lemmas.Int.Digits.{same_from_digits_of}
use Rattle.std.proofs.lemmas.Bool.{cases_lt, lt-ltb, le-ltb}
use Rattle.z_ber.specs.declared.tag.Tag.{Tag}
use Rattle.z_ber.specs.Written.{form_bit, septets, tag_octets, length_octets, element}

-- two lists that are one have one head and one rest
pub heads : (a b : ℕ) (x y : List ℕ) → a ∷ x ≡ b ∷ y → (a ≡ b) × (x ≡ y)
heads a b x y e = (cc, cc)

-- marked octets, and the first that is not
pub marked_front : (us vs : List ℕ) (a b : ℕ) (x y : List ℕ) → a < 128 → b < 128 → map (λ digit. 128 + digit) us ++ a ∷ x ≡ map (λ digit. 128 + digit) vs ++ b ∷ y → (us ≡ vs) × (a ≡ b) × (x ≡ y)
marked_front [] [] a b x y la lb e = let h = heads a b x y e in (refl, h.0, h.1)
marked_front [] (v ∷ vs) a b x y la lb e = absurd (let h = heads a (128 + v) x _ e in omega arith)
marked_front (u ∷ us) [] a b x y la lb e = absurd (let h = heads (128 + u) b _ y e in omega arith)
marked_front (u ∷ us) (v ∷ vs) a b x y la lb e =
    let h = heads (128 + u) (128 + v) _ _ e in
    let r = marked_front us vs a b x y la lb h.1 in
    let same : u ≡ v = omega (arith, h.0) in
    (cc, r.1, r.2)

-- a number at seven bits an octet begins no other
pub septets-one : (m n : ℕ) (x y : List ℕ) → septets m ++ x ≡ septets n ++ y → (m ≡ n) × (x ≡ y)
unfolding septets
septets-one m n x y e =
    let marked : ℕ → List ℕ = λ k. map (λ digit. 128 + digit) (digits_of 128 (k / 128)) in
    let f = sym (append_assoc (marked m) (m % 128 ∷ []) x) ∙ e ∙ append_assoc (marked n) (n % 128 ∷ []) y in
    let r = marked_front (digits_of 128 (m / 128)) (digits_of 128 (n / 128)) (m % 128) (n % 128) x y (omega arith) (omega arith) f in
    let high : m / 128 ≡ n / 128 = same_from_digits_of 128 (m / 128) (n / 128) (lit≤ tt) r.0 in
    (omega (arith, high, r.1), r.2)

-- a small number is a remainder that its multiple keeps
pub form_bit-one : (a b : Bool) → form_bit a ≡ form_bit b → a ≡ b
form_bit-one true true e = refl
form_bit-one false false e = refl
form_bit-one true false e = absurd (omega arith)
form_bit-one false true e = absurd (omega arith)

pub form_bit-small : (a : Bool) → (form_bit a ≡ 0) ⊎ (form_bit a ≡ 32)
form_bit-small true = inr refl
form_bit-small false = inl refl

-- class, form and the number or its five ones stand in one octet
lead_parts : (c d f g k l : ℕ) → (f ≡ 0) ⊎ (f ≡ 32) → (g ≡ 0) ⊎ (g ≡ 32) → k < 32 → l < 32 → 64 * c + f + k ≡ 64 * d + g + l → (c ≡ d) × (f ≡ g) × (k ≡ l)
lead_parts c d f g k l (inl p) (inl q) lk ll e = (omega arith, omega arith, omega arith)
lead_parts c d f g k l (inl p) (inr q) lk ll e = absurd (omega arith)
lead_parts c d f g k l (inr p) (inl q) lk ll e = absurd (omega arith)
lead_parts c d f g k l (inr p) (inr q) lk ll e = (omega arith, omega arith, omega arith)

pub tag_octets-low : (t : Tag) → t.number < 31 → tag_octets t ≡ (64 * t.class + form_bit t.constructed + t.number) ∷ []
unfolding tag_octets
tag_octets-low t lt = rw (lt-ltb t.number 31 lt) refl

pub tag_octets-high : (t : Tag) → 31 ≤ t.number → tag_octets t ≡ (64 * t.class + form_bit t.constructed + 31) ∷ septets t.number
unfolding tag_octets
tag_octets-high t le = rw (le-ltb t.number 31 le) refl

abbrev tag_of : ℕ → Bool → ℕ → Tag
tag_of c f n = record { class = c; constructed = f; number = n }

same_parts : (c d m n : ℕ) (f g : Bool) → c ≡ d → f ≡ g → m ≡ n → tag_of c f m ≡ tag_of d g n
same_parts c d m n f g p q r = cc

same_tag : (s t : Tag) → s.class ≡ t.class → form_bit s.constructed ≡ form_bit t.constructed → s.number ≡ t.number → s ≡ t
same_tag s t p q r = same_parts _ _ _ _ _ _ p (form_bit-one s.constructed t.constructed q) r

-- identifier octets begin no others
pub tag_octets-one : (s t : Tag) (x y : List ℕ) → tag_octets s ++ x ≡ tag_octets t ++ y → (s ≡ t) × (x ≡ y)
tag_octets-one s t x y e =
    elim (cases_lt s.number 31) [
      | inl ls ↦ elim (cases_lt t.number 31) [
        | inl lt ↦
            let h = heads _ _ x y (ap (λ o. o ++ x) (sym (tag_octets-low s ls)) ∙ e ∙ ap (λ o. o ++ y) (tag_octets-low t lt)) in
            let p = lead_parts s.class t.class (form_bit s.constructed) (form_bit t.constructed) s.number t.number (form_bit-small s.constructed) (form_bit-small t.constructed) (omega arith) (omega arith) h.0 in
            (same_tag s t p.0 p.1 p.2, h.1)
        | inr lt ↦
            let h = heads _ _ x _ (ap (λ o. o ++ x) (sym (tag_octets-low s ls)) ∙ e ∙ ap (λ o. o ++ y) (tag_octets-high t lt)) in
            let p = lead_parts s.class t.class (form_bit s.constructed) (form_bit t.constructed) s.number 31 (form_bit-small s.constructed) (form_bit-small t.constructed) (omega arith) (omega arith) h.0 in
            absurd (omega (arith, p.2))
      ]
      | inr ls ↦ elim (cases_lt t.number 31) [
        | inl lt ↦
            let h = heads _ _ _ y (ap (λ o. o ++ x) (sym (tag_octets-high s ls)) ∙ e ∙ ap (λ o. o ++ y) (tag_octets-low t lt)) in
            let p = lead_parts s.class t.class (form_bit s.constructed) (form_bit t.constructed) 31 t.number (form_bit-small s.constructed) (form_bit-small t.constructed) (omega arith) (omega arith) h.0 in
            absurd (omega (arith, p.2))
        | inr lt ↦
            let h = heads _ _ _ _ (ap (λ o. o ++ x) (sym (tag_octets-high s ls)) ∙ e ∙ ap (λ o. o ++ y) (tag_octets-high t lt)) in
            let p = lead_parts s.class t.class (form_bit s.constructed) (form_bit t.constructed) 31 31 (form_bit-small s.constructed) (form_bit-small t.constructed) (omega arith) (omega arith) h.0 in
            let r = septets-one s.number t.number x y h.1 in
            (same_tag s t p.0 p.1 r.0, r.1)
      ]
    ]

-- lists of one length in front of others
pub fronts : (a b x y : List ℕ) → length a ≡ length b → a ++ x ≡ b ++ y → (a ≡ b) × (x ≡ y)
fronts [] [] x y n e = (refl, e)
fronts [] (v ∷ b) x y n e = absurd (omega arith)
fronts (u ∷ a) [] x y n e = absurd (omega arith)
fronts (u ∷ a) (v ∷ b) x y n e =
    let h = heads u v (a ++ x) (b ++ y) e in
    let r = fronts a b x y (omega arith) h.1 in
    (let p = h.0 in let q = r.0 in cc, r.1)

-- a list in front of another is shorter or goes past it
pub front_split : (a b x y : List ℕ) → a ++ x ≡ b ++ y → length a ≤ length b → (m : List ℕ) × (a ++ m ≡ b) × (x ≡ m ++ y)
front_split [] b x y e le = (b, refl, e)
front_split (u ∷ a) [] x y e le = absurd (omega arith)
front_split (u ∷ a) (v ∷ b) x y e le =
    let h : u ≡ v = (let p = e in cc) in
    let t : a ++ x ≡ b ++ y = (let p = e in cc) in
    let r = front_split a b x y t (omega arith) in
    let q = r.1 in
    (r.0, cc, r.2)

pub length_octets-short : (n : ℕ) → n < 128 → length_octets n ≡ n ∷ []
unfolding length_octets
length_octets-short n lt = rw (lt-ltb n 128 lt) refl

pub length_octets-long : (n : ℕ) → 128 ≤ n → length_octets n ≡ (128 + length (digits_of 256 n)) ∷ digits_of 256 n
unfolding length_octets
length_octets-long n le = rw (le-ltb n 128 le) refl

-- length octets begin no others
pub length_octets-one : (m n : ℕ) (x y : List ℕ) → length_octets m ++ x ≡ length_octets n ++ y → (m ≡ n) × (x ≡ y)
length_octets-one m n x y e =
    elim (cases_lt m 128) [
      | inl lm ↦ elim (cases_lt n 128) [
        | inl ln ↦ heads m n x y (ap (λ o. o ++ x) (sym (length_octets-short m lm)) ∙ e ∙ ap (λ o. o ++ y) (length_octets-short n ln))
        | inr ln ↦
            let h = heads m _ x _ (ap (λ o. o ++ x) (sym (length_octets-short m lm)) ∙ e ∙ ap (λ o. o ++ y) (length_octets-long n ln)) in
            absurd (omega (arith, h.0))
      ]
      | inr lm ↦ elim (cases_lt n 128) [
        | inl ln ↦
            let h = heads _ n _ y (ap (λ o. o ++ x) (sym (length_octets-long m lm)) ∙ e ∙ ap (λ o. o ++ y) (length_octets-short n ln)) in
            absurd (omega (arith, h.0))
        | inr ln ↦
            let h = heads _ _ _ _ (ap (λ o. o ++ x) (sym (length_octets-long m lm)) ∙ e ∙ ap (λ o. o ++ y) (length_octets-long n ln)) in
            let r = fronts (digits_of 256 m) (digits_of 256 n) x y (omega (arith, h.0)) h.1 in
            (same_from_digits_of 256 m n (lit≤ tt) r.0, r.1)
      ]
    ]

-- an element begins no other
pub element-one : (s t : Tag) (a b x y : List ℕ) → element s a ++ x ≡ element t b ++ y → (s ≡ t) × (a ≡ b) × (x ≡ y)
unfolding element
element-one s t a b x y e =
    let apart : (r : Tag) (c z : List ℕ) → ((tag_octets r ++ length_octets (length c)) ++ c) ++ z ≡ tag_octets r ++ (length_octets (length c) ++ (c ++ z)) = λ r c z. simp append_assoc in
    let p = tag_octets-one s t _ _ (sym (apart s a x) ∙ e ∙ apart t b y) in
    let q = length_octets-one (length a) (length b) (a ++ x) (b ++ y) p.1 in
    let r = fronts a b x y q.0 q.1 in
    (p.0, r.0, r.1)
