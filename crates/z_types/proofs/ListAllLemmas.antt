-- numbers that are below a bound at each place
use Rattle.std.proofs.Common.{◌≡◌, ◌<◌, ℕ, true, List, [], ◌∷◌, get_or, refl, suc, nat_lt}
use Rattle.std.specs.List.{list_all}
use Rattle.std.proofs.lemmas.Bool.{lt-ltb}

-- the test of each number passes
pub list_all-below : (n : ℕ) (xs : List ℕ) → ((k : ℕ) → get_or xs k 0 < n) → list_all (λ x. nat_lt x n) xs ≡ true
list_all-below n [] h = refl
list_all-below n (x ∷ xs) h =
    let first = lt-ltb x n (h 0) in
    let rest = list_all-below n xs (λ k. h (suc k)) in cc
