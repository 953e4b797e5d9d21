-- What holds of each number of a range, and of each item of lists that are cut and mapped
use Rattle.std.proofs.Common.{◌≡◌, ◌+◌, ◌≤◌, ◌<◌, ◌==◌, ◌≢◌, ℕ, zero, suc, false, List, [], ◌∷◌, ◌++◌, map, drop, ap, eq-eqb, arith}
use Rattle.std.specs.List.{AllByRecursion, range_with_len}

-- ---- each item

pub all-dropped : {A : Type 0} (P : A → Type 0) (many : ℕ) (xs : List A) → AllByRecursion P xs → AllByRecursion P (drop many xs)
all-dropped P zero xs h = h
all-dropped P (suc many) [] h = tt
all-dropped P (suc many) (x ∷ xs) h = all-dropped P many xs h.1

pub all-mapped : {A B : Type 0} (P : B → Type 0) (f : A → B) (xs : List A) → AllByRecursion (λ x. P (f x)) xs → AllByRecursion P (map f xs)
all-mapped P f [] h = tt
all-mapped P f (x ∷ xs) h = (h.0, all-mapped P f xs h.1)

pub all-turned : {A : Type 0} (P Q : A → Type 0) (xs : List A) → ((x : A) → P x → Q x) → AllByRecursion P xs → AllByRecursion Q xs
all-turned P Q [] on h = tt
all-turned P Q (x ∷ xs) on h = (on x h.0, all-turned P Q xs on h.1)

-- ---- ranges

-- what holds of each number from one on and below another
pub all-range : (P : ℕ → Type 0) (first many : ℕ) → ((number : ℕ) → first ≤ number → number < first + many → P number)
    → AllByRecursion P (range_with_len first many)
all-range P first zero h = tt
all-range P first (suc many) h =
    (h first (omega arith) (omega arith), all-range P (first + 1) many (λ number low high. h number (omega (arith, low)) (omega (arith, high))))

-- one number more
pub range-more : (first many last : ℕ) → first + many ≡ last → range_with_len first (suc many) ≡ range_with_len first many ++ last ∷ []
range-more first zero last e = let same : first ≡ last = omega (arith, e) in ap (λ number. number ∷ []) same
range-more first (suc many) last e = ap (λ numbers. first ∷ numbers) (range-more (first + 1) many last (omega (arith, e)))

-- numbers that do not equal differ
pub differ : (one other : ℕ) → (one == other) ≡ false → one ≢ other
differ one other e = λ same. let on = eq-eqb one other same in cc
