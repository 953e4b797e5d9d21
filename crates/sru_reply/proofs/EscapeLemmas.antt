-- What is true of escaped octets: they have no markup in them, and are read as the octets again.
use Rattle.std.proofs.Common.{◌≡◌, ℕ, ◌==◌, true, false, List, [], ◌∷◌, ◌++◌, refl, ap, ◌∙◌, ⊎_elim}
use Rattle.std.proofs.lemmas.Bool.{cases_Bool, eqb-true}
use Rattle.sru_reply.specs.Escape.{escaped, escaped_octet, read_octets, has_no_markup, HasNoMarkup, IsReadAgain}

-- what holds of the four octets that are escaped, and of each that is none of them, holds of all
each_octet : (P : ℕ → Type 0) → P 38 → P 60 → P 62 → P 34 → ((octet : ℕ) → (octet == 38) ≡ false → (octet == 60) ≡ false → (octet == 62) ≡ false → (octet == 34) ≡ false → P octet) → (octet : ℕ) → P octet
each_octet P a b c d other octet =
    ⊎_elim (λ (e : (octet == 38) ≡ true). rw (eqb-true octet 38 e) a) (λ (not_a : (octet == 38) ≡ false).
    ⊎_elim (λ (e : (octet == 60) ≡ true). rw (eqb-true octet 60 e) b) (λ (not_b : (octet == 60) ≡ false).
    ⊎_elim (λ (e : (octet == 62) ≡ true). rw (eqb-true octet 62 e) c) (λ (not_c : (octet == 62) ≡ false).
    ⊎_elim (λ (e : (octet == 34) ≡ true). rw (eqb-true octet 34 e) d) (λ (not_d : (octet == 34) ≡ false).
    other octet not_a not_b not_c not_d) (cases_Bool (octet == 34)))
    (cases_Bool (octet == 62)))
    (cases_Bool (octet == 60)))
    (cases_Bool (octet == 38))

-- one escaped octet in front is read as that octet
read_front : (text : List ℕ) (octet : ℕ) → read_octets (escaped_octet octet ++ text) ≡ octet ∷ read_octets text
read_front text =
    each_octet (λ octet. read_octets (escaped_octet octet ++ text) ≡ octet ∷ read_octets text) refl refl refl refl
    (λ octet a b c d. simp (a, b, c, d))

-- and has no markup
no_markup_front : (text : List ℕ) → has_no_markup text ≡ true → (octet : ℕ) → has_no_markup (escaped_octet octet ++ text) ≡ true
no_markup_front text h =
    each_octet (λ octet. has_no_markup (escaped_octet octet ++ text) ≡ true) h h h h
    (λ octet a b c d. simp (a, b, c, d) h)

no_markup : (octets : List ℕ) → has_no_markup (escaped octets) ≡ true
no_markup [] = refl
no_markup (octet ∷ octets) = no_markup_front (escaped octets) (no_markup octets) octet

-- escaped octets have no markup in them
pub escaped-no_markup : (octets : List ℕ) → HasNoMarkup octets
escaped-no_markup octets = no_markup octets

-- escaped octets are read as the octets again
pub escaped-read : (octets : List ℕ) → IsReadAgain octets
escaped-read [] = refl
escaped-read (octet ∷ octets) = read_front (escaped octets) octet ∙ ap (λ read. octet ∷ read) (escaped-read octets)

-- the laws of escaped octets
pub ruleset escape_laws = (escaped-no_markup, escaped-read)
