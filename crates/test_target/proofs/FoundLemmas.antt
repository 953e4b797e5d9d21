-- counts of what is found, by marks of all records and by the records of a database
use Rattle.std.proofs.Common.{◌≡◌, ◌∙◌, ◌+◌, ◌%◌, ◌≤◌, ℕ, List, [], ◌∷◌, Bool, true, false, cond, length, map, filter, sum_by, min, Some, None, unwrap_or, ap, refl, arith}
use Rattle.std.specs.List.{range_with_len}
use Rattle.std.proofs.lemmas.List.FromFn.{take-map-range_with_len}
use Rattle.z_types.specs.Tree.{Tree}
use Rattle.test_target.specs.Databases.{size_of}
use Rattle.test_target.specs.Searches.{finds, found_in, found_of, hits}

size_small : (a b c : Bool) (m : ℕ) → m ≤ 99 → unwrap_or (cond a (Some m) (cond b (Some 3) (cond c (Some 0) None))) 0 ≤ 99
size_small true b c m h = h
size_small false true c m h = omega arith
size_small false false true m h = omega arith
size_small false false false m h = omega arith

-- no database has more records than are marked
pub size_of-bound : (n : ℕ) (name : List ℕ) → unwrap_or (size_of n name) 0 ≤ 99
size_of-bound n name = size_small _ _ _ (20 + n % 80) (omega arith)

kept_more : (b : Bool) (x : ℕ) (ys : List Bool) (zs : List ℕ) → length ys ≡ length zs → length (cond b (b ∷ ys) ys) ≡ length (cond b (x ∷ zs) zs)
kept_more true x ys zs h = omega (arith, h)
kept_more false x ys zs h = h

-- marks that are set are as many as what passes
pub length-filter-map : (p : ℕ → Bool) (xs : List ℕ) → length (filter (λ b. b) (map p xs)) ≡ length (filter p xs)
length-filter-map p [] = refl
length-filter-map p (x ∷ xs) = kept_more (p x) x _ _ (length-filter-map p xs)

found_of-marks : (n : ℕ) (tree : Tree) (name : List ℕ) → found_of n (map (finds n tree) (range_with_len 1 99)) name ≡ length (found_in n tree name)
found_of-marks n tree name =
    ap (λ marks. length (filter (λ b. b) marks)) (take-map-range_with_len (finds n tree) 1 99 (unwrap_or (size_of n name) 0) (size_of-bound n name)) ∙ length-filter-map (finds n tree) (range_with_len 1 (unwrap_or (size_of n name) 0))

-- the hits, counted by the marks
pub hits_by_marks : (n : ℕ) (tree : Tree) (names : List (List ℕ)) → min (sum_by (found_of n (map (finds n tree) (range_with_len 1 99))) names) 2147483647 ≡ hits n tree names
hits_by_marks n tree names = ap (λ (f : List ℕ → ℕ). min (sum_by f names) 2147483647) (λ i name. found_of-marks n tree name i)
