-- Answers of which all are good so far, and the first that is a diagnostic.
use Rattle.std.proofs.Common.{◌≡◌, ◌+◌, List, [], ◌∷◌, ◌++◌, length, map, Ok, Err, Result, refl, ap, sym, ◌∙◌, arith}
use Rattle.z_types.specs.declared.diagnostic.Diag.{Diag}
use Rattle.gateway_rules.specs.Targets.{behind_first, all_or_first}

-- good answers are all there
pub all_or_first-goods : {A : Type 0} (xs : List A) → all_or_first (map (λ x. Ok x) xs) ≡ Ok xs
all_or_first-goods [] = refl
all_or_first-goods (x ∷ xs) = ap (behind_first (Ok x)) (all_or_first-goods xs)

-- a diagnostic behind good answers is the first
pub all_or_first-refused : {A : Type 0} (xs : List A) (diag : Diag) (rest : List (Result A Diag))
    → all_or_first (map (λ x. Ok x) xs ++ Err diag ∷ rest) ≡ Err diag
all_or_first-refused [] diag rest = refl
all_or_first-refused (x ∷ xs) diag rest = ap (behind_first (Ok x)) (all_or_first-refused xs diag rest)

-- what stands behind an answer tells how many there are
counted : {A : Type 0} (answer : Result A Diag) (others : List (Result A Diag)) (all : Result (List A) Diag) (xs : List A)
    → ((ys : List A) → all ≡ Ok ys → length ys ≡ length others) → behind_first answer all ≡ Ok xs
    → length xs ≡ length others + 1
counted (Err diag) others all xs h e = cc
counted (Ok x) others (Err diag) xs h e = cc
counted {A = A} (Ok x) others (Ok ys) xs h e =
    let same : x ∷ ys ≡ xs = cc in
    ap (λ (zs : List A). length zs) (sym same) ∙ omega (arith, h ys refl)

-- all good answers are as many as the answers
pub length-all_or_first : {A : Type 0} (answers : List (Result A Diag)) (xs : List A) → all_or_first answers ≡ Ok xs
    → length xs ≡ length answers
length-all_or_first {A = A} [] xs e = let same : [] ≡ xs = cc in ap (λ (zs : List A). length zs) (sym same)
length-all_or_first {A = A} (answer ∷ answers) xs e =
    counted answer answers (all_or_first answers) xs (length-all_or_first answers) e ∙ omega arith
