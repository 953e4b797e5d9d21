-- How the lengths of white space, strings and words go on by one octet.
use Rattle.std.proofs.Common.{◌≡◌, ℕ, suc, ◌+◌, ◌<◌, ◌==◌, List, ◌∷◌, length, get_or, drop, Bool, true, false, ◌&&◌, not, cond, Option, Some, None, option_map, IfSome, refl, ap, arith, add-one, drop-cons}
use Rattle.cql_lex.specs.Characters.{is_space, ends_word, spaces, quoted_length, word_length}

-- one more passed is one less left
option_map-suc : (i : ℕ) (o : Option ℕ) → option_map (λ len. i + len) (option_map suc o) ≡ option_map (λ len. (i + 1) + len) o
option_map-suc i None = refl
option_map-suc i (Some n) = ap Some (omega arith)

option_map-zero : (o : Option ℕ) → option_map (λ len. 0 + len) o ≡ o
option_map-zero None = refl
option_map-zero (Some n) = ap Some (omega arith)

quoted_length-cons : (taken : Bool) (b : ℕ) (rest : List ℕ) → quoted_length taken (b ∷ rest) ≡ cond (not taken && (b == 34)) (Some 1) (option_map suc (quoted_length (not taken && (b == 92)) rest))
quoted_length-cons true b rest = refl
quoted_length-cons false b rest = refl

word_length-cons : (taken : Bool) (b : ℕ) (rest : List ℕ) → word_length taken (b ∷ rest) ≡ cond (not taken && ends_word b) (Some 0) (option_map suc (word_length (not taken && (b == 92)) rest))
word_length-cons true b rest = refl
word_length-cons false b rest = refl

-- what is left at an offset: its octet, and what is left behind it
pub drop_next : (xs : List ℕ) (i : ℕ) → i < length xs → drop i xs ≡ get_or xs i 0 ∷ drop (i + 1) xs
drop_next xs i below = rw (add-one i, drop-cons xs i 0) refl

-- a string goes on behind an octet that does not end it
pub quoted_length_more : (xs : List ℕ) (i : ℕ) (taken : Bool) → i < length xs → (not taken && (get_or xs i 0 == 34)) ≡ false → option_map (λ len. i + len) (quoted_length taken (drop i xs)) ≡ option_map (λ len. (i + 1) + len) (quoted_length (not taken && (get_or xs i 0 == 92)) (drop (i + 1) xs))
quoted_length_more xs i taken below h =
    rw (drop_next xs i below, quoted_length-cons, h, option_map-suc i) refl

-- and ends with one that does
pub quoted_length_done : (xs : List ℕ) (i : ℕ) (taken : Bool) → i < length xs → (not taken && (get_or xs i 0 == 34)) ≡ true → option_map (λ len. i + len) (quoted_length taken (drop i xs)) ≡ Some (i + 1)
quoted_length_done xs i taken below h = rw (drop_next xs i below, quoted_length-cons, h) refl

pub quoted_length_start : (xs : List ℕ) → option_map (λ len. 0 + len) (quoted_length false (drop 0 xs)) ≡ quoted_length false xs
quoted_length_start xs = option_map-zero (quoted_length false xs)

pub word_length_more : (xs : List ℕ) (i : ℕ) (taken : Bool) → i < length xs → (not taken && ends_word (get_or xs i 0)) ≡ false → option_map (λ len. i + len) (word_length taken (drop i xs)) ≡ option_map (λ len. (i + 1) + len) (word_length (not taken && (get_or xs i 0 == 92)) (drop (i + 1) xs))
word_length_more xs i taken below h =
    rw (drop_next xs i below, word_length-cons, h, option_map-suc i) refl

pub word_length_done : (xs : List ℕ) (i : ℕ) (taken : Bool) → i < length xs → (not taken && ends_word (get_or xs i 0)) ≡ true → option_map (λ len. i + len) (word_length taken (drop i xs)) ≡ Some i
word_length_done xs i taken below h = rw (drop_next xs i below, word_length-cons, h) (ap Some (omega arith))

pub word_length_start : (xs : List ℕ) → option_map (λ len. 0 + len) (word_length false (drop 0 xs)) ≡ word_length false xs
word_length_start xs = option_map-zero (word_length false xs)

-- white space goes on by one octet, or ends
pub spaces_more : (xs : List ℕ) (i : ℕ) → i < length xs → is_space (get_or xs i 0) ≡ true → i + spaces (drop i xs) ≡ (i + 1) + spaces (drop (i + 1) xs)
spaces_more xs i below h = rw (drop_next xs i below, h) (omega arith)

pub spaces_done : (xs : List ℕ) (i : ℕ) → i < length xs → is_space (get_or xs i 0) ≡ false → i + spaces (drop i xs) ≡ i
spaces_done xs i below h = rw (drop_next xs i below, h) (omega arith)

-- a word that begins with an octet that ends none has at least that octet
pub word_length_some : (xs : List ℕ) (i : ℕ) → i < length xs → ends_word (get_or xs i 0) ≡ false → IfSome (word_length false (drop i xs)) (λ len. 0 < len)
word_length_some xs i below h = rw (drop_next xs i below, word_length-cons, h) (at_suc (word_length (get_or xs i 0 == 92) (drop (i + 1) xs)))
  where
    at_suc : (o : Option ℕ) → IfSome (option_map suc o) (λ len. 0 < len)
    at_suc None = tt
    at_suc (Some n) = omega arith

pub ruleset quoted_steps = (quoted_length_more, quoted_length_done, quoted_length_start)

pub ruleset word_steps = (word_length_more, word_length_done, word_length_start)

pub ruleset space_steps = (spaces_more, spaces_done)
