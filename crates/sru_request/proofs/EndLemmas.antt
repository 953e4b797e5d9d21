-- How the search for the end of a head goes on by one octet.
use Rattle.std.proofs.Common.{◌≡◌, ℕ, suc, ◌+◌, ◌<◌, List, ◌∷◌, length, get_or, drop, Option, Some, None, option_map, refl, ap, arith, add-one, drop-cons}
use Rattle.sru_request.specs.Head.{line_behind, or_else, head_length}

shift : (i : ℕ) (o : Option ℕ) → option_map (λ n. i + n) (option_map suc o) ≡ option_map (λ n. (i + 1) + n) o
shift i None = refl
shift i (Some n) = ap Some (omega arith)

start_zero : (o : Option ℕ) → option_map (λ n. 0 + n) o ≡ o
start_zero None = refl
start_zero (Some n) = ap Some (omega arith)

-- at the start nothing is passed
pub head_start : (xs : List ℕ) → option_map (λ n. 0 + n) (head_length (drop 0 xs)) ≡ head_length xs
head_start xs = start_zero (head_length xs)

head_length-cons : (first : ℕ) (rest : List ℕ) → head_length (first ∷ rest) ≡ option_map suc (or_else (line_behind first rest) (head_length rest))
head_length-cons first rest = refl

drop_next : (xs : List ℕ) (i : ℕ) → i < length xs → drop i xs ≡ get_or xs i 0 ∷ drop (i + 1) xs
drop_next xs i below = rw (add-one i, drop-cons xs i 0) refl

-- an octet that no empty line stands behind is passed
pub head_more : (xs : List ℕ) (i : ℕ) → i < length xs → line_behind (get_or xs i 0) (drop (i + 1) xs) ≡ None → option_map (λ n. i + n) (head_length (drop i xs)) ≡ option_map (λ n. (i + 1) + n) (head_length (drop (i + 1) xs))
head_more xs i below h = rw (drop_next xs i below, head_length-cons, h) (shift i (head_length (drop (i + 1) xs)))

-- the first empty line ends the head
pub head_end : (xs : List ℕ) (i : ℕ) (n : ℕ) → i < length xs → line_behind (get_or xs i 0) (drop (i + 1) xs) ≡ Some n → option_map (λ n. i + n) (head_length (drop i xs)) ≡ Some ((i + 1) + n)
head_end xs i n below h = rw (drop_next xs i below, head_length-cons, h) (ap Some (omega arith))

-- the steps of the search
pub ruleset head_steps = (head_start, head_more, head_end)
