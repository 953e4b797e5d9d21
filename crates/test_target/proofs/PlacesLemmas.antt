-- The records that are found, by marks of all records and by the records of a database.
use Rattle.std.proofs.Common.{◌≡◌, ◌∙◌, ◌+◌, ◌<◌, ℕ, zero, suc, List, [], ◌∷◌, ◌++◌, Bool, true, false, cond, length, map, filter, take, drop, Some, unwrap_or, get_or, ap, refl, sym, arith}
use Rattle.std.specs.Prelude.{option_map, slice_get}
use Rattle.std.specs.List.{range_with_len, flat_map}
use Rattle.std.proofs.lemmas.List.{take_more, drop_more, length-take, length-map}
use Rattle.std.proofs.lemmas.List.FromFn.{take-map-range_with_len}
use Rattle.std.proofs.lemmas.Option.{slice_get-map, slice_get-get_or}
use Rattle.z_types.specs.Tree.{Tree}
use Rattle.z_types.specs.declared.key.SetKey.{SetKey}
use Rattle.test_target.specs.declared.places.Location.{Location}
use Rattle.test_target.specs.Databases.{size_of}
use Rattle.test_target.specs.Searches.{finds, found_in}
use Rattle.test_target.specs.Places.{places, places_of, of_database, marked}
use Rattle.test_target.proofs.FoundLemmas.{size_of-bound}

-- ---- marks

-- the same numbers, counted from one place or another
marked_from : (a b : ℕ) (found : List Bool) → a ≡ b → marked a found ≡ marked b found
marked_from a b found e = ap (λ n. marked n found) e

one_more : (b : Bool) (n : ℕ) (xs ys zs : List ℕ) → xs ≡ ys ++ zs → cond b (n ∷ xs) xs ≡ cond b (n ∷ ys) ys ++ zs
one_more true n xs ys zs e = ap (λ (l : List ℕ). n ∷ l) e
one_more false n xs ys zs e = e

marked-append : (a : ℕ) (xs ys : List Bool) → marked a (xs ++ ys) ≡ marked a xs ++ marked (a + length xs) ys
marked-append a [] ys = marked_from a (a + 0) ys (omega arith)
marked-append a (x ∷ xs) ys =
    one_more x a (marked (a + 1) (xs ++ ys)) (marked (a + 1) xs) (marked (a + suc (length xs)) ys)
    (marked-append (a + 1) xs ys
    ∙ ap (λ (l : List ℕ). marked (a + 1) xs ++ l) (marked_from (a + 1 + length xs) (a + suc (length xs)) ys (omega arith)))

-- one mark more
pub marked_more : (found : List Bool) (i a number : ℕ) (b : Bool) → i < length found → get_or found i false ≡ b
    → number ≡ a + i → marked a (take (i + 1) found) ≡ marked a (take i found) ++ marked number (b ∷ [])
marked_more found i a number b h e is =
    ap (marked a) (take_more found i false h) ∙ marked-append a (take i found) (get_or found i false ∷ [])
    ∙ ap (λ (c : Bool). marked a (take i found) ++ marked (a + length (take i found)) (c ∷ [])) e
    ∙ ap (λ (n : ℕ). marked a (take i found) ++ marked n (b ∷ [])) (omega (arith, is, h, length-take i found))

-- the numbers that are marked where they pass are those that pass
marked-map : (p : ℕ → Bool) (a m : ℕ) → marked a (map p (range_with_len a m)) ≡ filter p (range_with_len a m)
marked-map p a zero = refl
marked-map p a (suc m) = ap (λ (l : List ℕ). cond (p a) (a ∷ l) l) (marked-map p (a + 1) m)

places_of-marks : (n : ℕ) (tree : Tree) (name : List ℕ)
    → places_of n (map (finds n tree) (range_with_len 1 99)) name ≡ of_database name (found_in n tree name)
places_of-marks n tree name =
    ap (λ (found : List Bool). of_database name (marked 1 found))
    (take-map-range_with_len (finds n tree) 1 99 (unwrap_or (size_of n name) 0) (size_of-bound n name))
    ∙ ap (of_database name) (marked-map (finds n tree) 1 (unwrap_or (size_of n name) 0))

-- what is found, by the marks
pub places_by_marks : (n : ℕ) (key : SetKey)
    → flat_map (places_of n (map (finds n key.query.root) (range_with_len 1 99))) key.dbs ≡ places n key
places_by_marks n key =
    ap (λ (f : List ℕ → List Location). flat_map f key.dbs) (λ i name. places_of-marks n key.query.root name i)

-- ---- a place among those of several databases

slice_get_left : {A : Type 0} (xs ys : List A) (i : ℕ) (x : A) → slice_get xs i ≡ Some x → slice_get (xs ++ ys) i ≡ Some x
slice_get_left [] ys i x e = cc
slice_get_left (y ∷ xs) ys zero x e = e
slice_get_left (y ∷ xs) ys (suc i) x e = slice_get_left xs ys i x e

slice_get_right : {A : Type 0} (xs ys : List A) (i j : ℕ) → i ≡ length xs + j → slice_get (xs ++ ys) i ≡ slice_get ys j
slice_get_right [] ys i j e = ap (slice_get ys) (omega (arith, e))
slice_get_right (y ∷ xs) ys zero j e = absurd (omega (arith, e))
slice_get_right (y ∷ xs) ys (suc i) j e = slice_get_right xs ys i j (omega (arith, e))

-- a record of a database
abbrev pub place_in : List ℕ → ℕ → Location
place_in name number = record { name = name; number = number }

-- the next database has it
pub place_here : (f : List ℕ → List Location) (names : List (List ℕ)) (i left : ℕ) (name : List ℕ) (number : ℕ) (numbers : List ℕ)
    → i < length names → get_or names i name ≡ name → of_database name numbers ≡ f name → left < length numbers
    → get_or numbers left 0 ≡ number
    → slice_get (flat_map f (drop i names)) left ≡ Some (record { name = name; number = number })
place_here f names i left name number numbers h e of within is =
    let at : slice_get numbers left ≡ Some number = slice_get-get_or numbers left 0 within ∙ ap Some is in
    let there : slice_get (of_database name numbers) left ≡ Some (record { name = name; number = number }) =
    slice_get-map (place_in name) numbers left ∙ ap (option_map (place_in name)) at in
    ap (λ (l : List (List ℕ)). slice_get (flat_map f l) left) (drop_more names i name h)
    ∙ ap (λ (l : List ℕ). slice_get (f l ++ flat_map f (drop (i + 1) names)) left) e
    ∙ slice_get_left (f name) (flat_map f (drop (i + 1) names)) left _ (rw of at there)

-- the next database does not have it
pub place_behind : (f : List ℕ → List Location) (names : List (List ℕ)) (i left more : ℕ) (name : List ℕ) (numbers : List ℕ)
    → i < length names → get_or names i name ≡ name → of_database name numbers ≡ f name → left ≡ length numbers + more
    → slice_get (flat_map f (drop i names)) left ≡ slice_get (flat_map f (drop (i + 1) names)) more
place_behind f names i left more name numbers h e of is =
    let long : length (f name) ≡ length numbers = ap (λ (l : List Location). length l) (sym of) ∙ length-map numbers (place_in name) in
    ap (λ (l : List (List ℕ)). slice_get (flat_map f l) left) (drop_more names i name h)
    ∙ ap (λ (l : List ℕ). slice_get (f l ++ flat_map f (drop (i + 1) names)) left) e
    ∙ slice_get_right (f name) (flat_map f (drop (i + 1) names)) left more (omega (arith, long, is))
