-- Words without regard to the case of their letters.
use Rattle.std.proofs.Common.{◌≡◌, ℕ, suc, ◌+◌, ◌<◌, List, [], ◌∷◌, length, get_or, drop, true, false, ◌&&◌, nat_eq, refl, ap, ◌∙◌, arith, add-one, drop-cons}
use Rattle.std.specs.Str.{bytes_eq}
use Rattle.std.specs.Char.{to_ascii_lowercase}
use Rattle.cql_parse.specs.Classes.{lower}

-- two words from an offset on: their octets there, and the rest
bytes_eq_at : (xs ys : List ℕ) (i : ℕ) → i < length xs → i < length ys → bytes_eq (lower (drop i xs)) (drop i ys) ≡ (nat_eq (to_ascii_lowercase (get_or xs i 0)) (get_or ys i 0) && bytes_eq (lower (drop (i + 1) xs)) (drop (i + 1) ys))
bytes_eq_at xs ys i a b = rw (add-one i, drop-cons xs i 0, drop-cons ys i 0) refl

pub bytes_eq_more : (xs ys : List ℕ) (i : ℕ) → i < length xs → i < length ys → nat_eq (to_ascii_lowercase (get_or xs i 0)) (get_or ys i 0) ≡ true → bytes_eq (lower (drop i xs)) (drop i ys) ≡ bytes_eq (lower (drop (i + 1) xs)) (drop (i + 1) ys)
bytes_eq_more xs ys i a b h = bytes_eq_at xs ys i a b ∙ rw h refl

pub bytes_eq_unlike : (xs ys : List ℕ) (i : ℕ) → i < length xs → i < length ys → nat_eq (to_ascii_lowercase (get_or xs i 0)) (get_or ys i 0) ≡ false → bytes_eq (lower (drop i xs)) (drop i ys) ≡ false
bytes_eq_unlike xs ys i a b h = bytes_eq_at xs ys i a b ∙ rw h refl

-- words of other lengths are other words
pub bytes_eq_short : (xs ys : List ℕ) → (length xs ≡ length ys → ⊥) → bytes_eq (lower xs) ys ≡ false
bytes_eq_short [] [] h = absurd (h refl)
bytes_eq_short [] (y ∷ ys) h = refl
bytes_eq_short (x ∷ xs) [] h = refl
bytes_eq_short (x ∷ xs) (y ∷ ys) h = grind (arith, bytes_eq_short xs ys (λ e. h (ap suc e)))

pub ruleset word_steps = (bytes_eq_more, bytes_eq_unlike, bytes_eq_short)
