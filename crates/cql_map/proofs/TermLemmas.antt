-- How a term's characters, its words and its masks are found step by step.
use Rattle.std.proofs.Common.{◌≡◌, ℕ, zero, suc, ◌+◌, ◌-◌, ◌<◌, ◌≤◌, ◌==◌, ◌&&◌, ◌||◌, not, Bool, true, false, if◌then◌else◌, List, [], ◌∷◌, ◌++◌, length, get_or, take, drop, refl, sym, ◌∙◌, ap, arith, add-one, drop-cons, length-take, length-drop}
use Rattle.std.specs.List.{list_all}
use Rattle.cql_lex.specs.Characters.{is_space}
use Rattle.cql_map.specs.declared.term.Character.{Character}
use Rattle.std.proofs.lemmas.List.{take-append-drop}
use Rattle.std.proofs.lemmas.List.Folds.{list_all_more}
use Rattle.std.proofs.lemmas.Bool.{and_parts, not-true}
use Rattle.cql_map.specs.declared.fault.MapFault.TheVariants as fault
use Rattle.cql_map.proofs.NameLemmas.{drop_item}
use Rattle.cql_map.specs.Terms.{character, characters, is_bare, has_space, parts_words, is_of_word, begins, in_front, words, is_star, ends_star, before_star}
use Rattle.cql_map.specs.Faults.{sign_faults}

-- a backslash that none took takes the next octet
pub characters_skip : (term : List ℕ) (i : ℕ) (taken : Bool) → i < length term → ((get_or term i 0 == 92) && not taken) ≡ true → characters taken (drop i term) ≡ characters true (drop (i + 1) term)
characters_skip term i true below h = rw (add-one i, drop-cons term i 0) (absurd (no (get_or term i 0 == 92) h))
  where
    no : (b : Bool) → (b && false) ≡ true → ⊥
    no true h = cc
    no false h = cc
characters_skip term i false below h = rw (add-one i, drop-cons term i 0) (go (get_or term i 0 == 92) h)
  where
    go : (b : Bool) → (b && true) ≡ true → (if b then characters true (drop (suc i) term) else (character (get_or term i 0) false ∷ characters false (drop (suc i) term))) ≡ characters true (drop (suc i) term)
    go true h = refl
    go false h = cc

-- any other octet is a character
pub characters_more : (term : List ℕ) (i : ℕ) (taken : Bool) → i < length term → ((get_or term i 0 == 92) && not taken) ≡ false → characters taken (drop i term) ≡ character (get_or term i 0) taken ∷ characters false (drop (i + 1) term)
characters_more term i true below h = rw (add-one i, drop-cons term i 0) refl
characters_more term i false below h = rw (add-one i, drop-cons term i 0) (go (get_or term i 0 == 92) h)
  where
    go : (b : Bool) → (b && true) ≡ false → (if b then characters true (drop (suc i) term) else (character (get_or term i 0) false ∷ characters false (drop (suc i) term))) ≡ character (get_or term i 0) false ∷ characters false (drop (suc i) term)
    go true h = cc
    go false h = refl

pub ruleset characters_steps = (characters_skip, characters_more)

-- white space within a term
pub space_more : (cs : List Character) (i : ℕ) (x : Character) → i < length cs → x ≡ get_or cs i x → is_space x.octet ≡ false → has_space (drop i cs) ≡ has_space (drop (i + 1) cs)
space_more cs i x below e h = rw (drop_item cs i x below e, h) refl

pub space_done : (cs : List Character) (i : ℕ) (x : Character) → i < length cs → x ≡ get_or cs i x → is_space x.octet ≡ true → has_space (drop i cs) ≡ true
space_done cs i x below e h = rw (drop_item cs i x below e, h) refl

-- signs within a term
pub sign_more : (cs : List Character) (i : ℕ) (x : Character) → i < length cs → x ≡ get_or cs i x → (is_bare 42 x || is_bare 63 x) ≡ false → is_bare 94 x ≡ false → sign_faults (drop i cs) ≡ sign_faults (drop (i + 1) cs)
sign_more cs i x below e h k = rw (drop_item cs i x below e, h, k) refl

pub mask_done : (cs : List Character) (i : ℕ) (x : Character) → i < length cs → x ≡ get_or cs i x → (is_bare 42 x || is_bare 63 x) ≡ true → sign_faults (drop i cs) ≡ fault.Masking (x.octet ∷ []) ∷ sign_faults (drop (i + 1) cs)
mask_done cs i x below e h = rw (drop_item cs i x below e, h) refl

pub anchor_done : (cs : List Character) (i : ℕ) (x : Character) → i < length cs → x ≡ get_or cs i x → (is_bare 42 x || is_bare 63 x) ≡ false → is_bare 94 x ≡ true → sign_faults (drop i cs) ≡ fault.Anchoring (x.octet ∷ []) ∷ sign_faults (drop (i + 1) cs)
anchor_done cs i x below e h k = rw (drop_item cs i x below e, h, k) refl

-- a mask at the end
pub ends_last : (cs rest : List Character) (x : Character) → cs ≡ rest ++ x ∷ [] → is_star x ≡ ends_star cs
ends_last cs rest x e = go rest ∙ sym (ap ends_star e)
  where
    go : (rest : List Character) → is_star x ≡ ends_star (rest ++ x ∷ [])
    go [] = refl
    go (c ∷ []) = refl
    go (c ∷ d ∷ rest) = go (d ∷ rest)

pub before_taken : (cs rest : List Character) (x : Character) → cs ≡ rest ++ x ∷ [] → is_star x ≡ true → rest ≡ before_star cs
before_taken cs rest x e h = go rest ∙ sym (ap before_star e)
  where
    go : (rest : List Character) → rest ≡ before_star (rest ++ x ∷ [])
    go [] = rw h refl
    go (c ∷ []) = rw h refl
    go (c ∷ d ∷ rest) = ap (λ (r : List Character). c ∷ r) (go (d ∷ rest))

pub before_kept : (cs rest : List Character) (x : Character) → cs ≡ rest ++ x ∷ [] → is_star x ≡ false → cs ≡ before_star cs
before_kept cs rest x e h = e ∙ go rest ∙ sym (ap before_star e)
  where
    go : (rest : List Character) → rest ++ x ∷ [] ≡ before_star (rest ++ x ∷ [])
    go [] = rw h refl
    go (c ∷ []) = rw h refl
    go (c ∷ d ∷ rest) = ap (λ (r : List Character). c ∷ r) (go (d ∷ rest))

-- white space in front of words, and none
pub words_skip : (c : Character) (cs : List Character) → parts_words c ≡ true → words (c ∷ cs) ≡ words cs
words_skip c cs h = rw h refl

-- a word grows by one character
pub word_more : (cs : List Character) (i : ℕ) (x : Character) → i < length cs → x ≡ get_or cs i x → list_all is_of_word (take i cs) ≡ true → parts_words x ≡ false → list_all is_of_word (take (i + 1) cs) ≡ true
word_more cs i x below e all h = list_all_more is_of_word cs i x below ∙ rw (all, sym e, h) refl

pub word_ends : (cs : List Character) (i : ℕ) (x : Character) → i < length cs → x ≡ get_or cs i x → parts_words x ≡ true → begins parts_words (drop i cs) ≡ true
word_ends cs i x below e h = rw (drop_item cs i x below e) h

not_of_word : (cs : List Character) → (0 < length cs → begins parts_words cs ≡ true) → begins is_of_word cs ≡ false
not_of_word [] h = refl
not_of_word (c ∷ cs) h = let e : parts_words c ≡ true = h (omega arith) in rw e refl

-- the first word, with what does not belong to it behind
words_front : (w rest : List Character) → 0 < length w → list_all is_of_word w ≡ true → begins is_of_word rest ≡ false → words (w ++ rest) ≡ w ∷ words rest
words_front [] rest some all ends = absurd (omega (arith, some))
words_front (c ∷ []) rest some all ends =
    let h : parts_words c ≡ false = not-true (parts_words c) (and_parts (is_of_word c) true all).0 in
    rw (h, ends) refl
words_front (c ∷ d ∷ w) rest some all ends =
    let two = and_parts (is_of_word c) (list_all is_of_word (d ∷ w)) all in
    let h : parts_words c ≡ false = not-true (parts_words c) two.0 in
    let k : is_of_word d ≡ true = (and_parts (is_of_word d) (list_all is_of_word w) two.1).0 in
    let more = words_front (d ∷ w) rest (omega arith) two.1 ends in
    in_word c d (w ++ rest) h k ∙ ap (in_front c) more
  where
    in_word : (c d : Character) (cs : List Character) → parts_words c ≡ false → is_of_word d ≡ true → words (c ∷ d ∷ cs) ≡ in_front c (words (d ∷ cs))
    in_word c d cs h k = rw (h, k) refl

pub positive_length : (cs : List Character) → (length cs == 0) ≡ false → 0 < length cs
positive_length [] h = let e : true ≡ false = h in cc
positive_length (c ∷ cs) h = omega arith

-- what is passed, the first word and the rest
pub next_word_cut : (cs rest : List Character) (n : ℕ) → words rest ≡ words cs → length rest ≤ length cs → begins parts_words rest ≡ false → 0 < length rest → n ≤ length rest → list_all is_of_word (take n rest) ≡ true → (n < length rest → begins parts_words (drop n rest) ≡ true) → (words cs ≡ take n rest ∷ words (drop n rest)) × (length (drop n rest) < length cs)
next_word_cut cs rest n same shorter first some within all ends =
    let long : 0 < n = positive n ends in
    let size : length (take n rest) ≡ n = omega (arith, length-take n rest, within) in
    let left : length (drop n rest) ≡ length rest - n = length-drop n rest in
    let front = words_front (take n rest) (drop n rest) (omega (arith, size, long)) all (not_of_word (drop n rest) (λ more. ends (omega (arith, left, more)))) in
    (sym same ∙ ap words (sym (take-append-drop n rest)) ∙ front, omega (arith, left, long, some, shorter))
  where
    positive : (n : ℕ) → (n < length rest → begins parts_words (drop n rest) ≡ true) → 0 < n
    positive zero ends = let e : begins parts_words rest ≡ true = ends some in let f : false ≡ true = sym first ∙ e in cc
    positive (suc n) ends = omega arith

pub ruleset space_steps = (space_more, space_done)

pub ruleset before_steps = (before_taken, before_kept)

pub ruleset sign_steps = (sign_more, mask_done, anchor_done)

pub ruleset word_steps = (word_more, word_ends)
