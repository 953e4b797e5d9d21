-- Relations between two lists place by place, and facts of each item, also where the lists are reversed
use Rattle.std.proofs.Common.{◌≡◌, ◌∙◌, ◌+◌, ℕ, suc, ◌<◌, List, [], ◌∷◌, ◌++◌, length, map, reverse, take, slice_index_or, arith, refl, ap}
use Rattle.std.proofs.Common.{◌⊎◌, inl, inr}
use Rattle.std.specs.List.{AllByRecursion, AllZip, sum_by}
use Rattle.std.proofs.lemmas.List.{length-reverse, reverse-append}
use Rattle.std.proofs.lemmas.List.Sums.{sum_by_push}
use Rattle.serve_threads.specs.Serving.{SomeZip}

-- the first list, taken whole from the front of both
pub take-front : {X : Type 0} (n : ℕ) (xs ys : List X) → length xs ≡ n → take n (xs ++ ys) ≡ xs
take-front n [] ys h = rw (← h) refl
take-front n (x ∷ xs) ys h = rw (← h) (ap (λ zs. x ∷ zs) (take-front (length xs) xs ys refl))

-- what holds at each place holds place by place
pub zip-from : {X : Type 0} (R : X → X → Type 0) (xs ys : List X) → length xs ≡ length ys
    → ((i : ℕ) (d : X) → i < length xs → R (slice_index_or xs i d) (slice_index_or ys i d)) → AllZip R xs ys
zip-from R [] [] l h = tt
zip-from R [] (y ∷ ys) l h = absurd (omega arith)
zip-from R (x ∷ xs) [] l h = absurd (omega arith)
zip-from R (x ∷ xs) (y ∷ ys) l h = (h 0 x (omega arith), zip-from R xs ys (omega arith) (λ i d less. h (suc i) d (omega arith)))

zip-append : {X Y : Type 0} (R : X → Y → Type 0) (xs xs' : List X) (ys ys' : List Y) → AllZip R xs ys → AllZip R xs' ys'
    → AllZip R (xs ++ xs') (ys ++ ys')
zip-append R [] xs' [] ys' h k = k
zip-append R [] xs' (y ∷ ys) ys' h k = absurd h
zip-append R (x ∷ xs) xs' [] ys' h k = absurd h
zip-append R (x ∷ xs) xs' (y ∷ ys) ys' h k = (h.0, zip-append R xs xs' ys ys' h.1 k)

-- a relation passes to what is seen of the items, where the lists are reversed
pub zip-seen : {X Y Z : Type 0} (R : X → Y → Type 0) (S : Z → Z → Type 0) (f : X → Z) (g : Y → Z) (xs : List X) (ys : List Y)
    → ((x : X) (y : Y) → R x y → S (f x) (g y)) → AllZip R xs ys → AllZip S (reverse (map f xs)) (reverse (map g ys))
zip-seen R S f g [] [] h all = tt
zip-seen R S f g [] (y ∷ ys) h all = absurd all
zip-seen R S f g (x ∷ xs) [] h all = absurd all
zip-seen R S f g (x ∷ xs) (y ∷ ys) h all =
    rw (reverse-append (f x ∷ []) (map f xs), reverse-append (g y ∷ []) (map g ys))
    (zip-append S _ _ _ _ (zip-seen R S f g xs ys h all.1) (h x y all.0, tt))

-- a sum, with the last of a list
pub sum-last : {X : Type 0} (xs ys : List X) (y : X) → xs ≡ ys ++ y ∷ [] → (f : X → ℕ) → sum_by f xs ≡ sum_by f ys + f y
sum-last xs ys y e f = ap (sum_by f) e ∙ sum_by_push f ys y

all-append : {X : Type 0} (P : X → Type 0) (xs ys : List X) → AllByRecursion P xs → AllByRecursion P ys → AllByRecursion P (xs ++ ys)
all-append P [] ys all more = more
all-append P (x ∷ xs) ys all more = (all.0, all-append P xs ys all.1 more)

-- one more at the end
pub all-push : {X : Type 0} (P : X → Type 0) (xs ys : List X) (y : X) → ys ≡ xs ++ y ∷ [] → AllByRecursion P xs → P y → AllByRecursion P ys
all-push P xs ys y e all one = rw e (all-append P xs (y ∷ []) all (one, tt))

-- so does a fact of each item
pub all-reverse : {X : Type 0} (P : X → Type 0) (xs : List X) → AllByRecursion P xs → AllByRecursion P (reverse xs)
all-reverse P [] all = tt
all-reverse P (x ∷ xs) all =
    rw (reverse-append (x ∷ []) xs) (all-append P (reverse xs) (x ∷ []) (all-reverse P xs all.1) (all.0, tt))

-- a relation that holds at a place of the first lists, or of the second
some-first : {X : Type 0} (R : X → X → Type 0) (xs xs' ys ys' : List X) → SomeZip R xs ys → SomeZip R (xs ++ xs') (ys ++ ys')
some-first R [] xs' ys ys' one = absurd one
some-first R (x ∷ xs) xs' [] ys' one = absurd one
some-first R (x ∷ xs) xs' (y ∷ ys) ys' (inl here) = inl here
some-first R (x ∷ xs) xs' (y ∷ ys) ys' (inr later) = inr (some-first R xs xs' ys ys' later)

some-second : {X : Type 0} (R : X → X → Type 0) (xs xs' ys ys' : List X) → length xs ≡ length ys → SomeZip R xs' ys'
    → SomeZip R (xs ++ xs') (ys ++ ys')
some-second R [] xs' [] ys' e one = one
some-second R [] xs' (y ∷ ys) ys' e one = absurd (omega arith)
some-second R (x ∷ xs) xs' [] ys' e one = absurd (omega arith)
some-second R (x ∷ xs) xs' (y ∷ ys) ys' e one = inr (some-second R xs xs' ys ys' (omega arith) one)

some-both : {X : Type 0} (R : X → X → Type 0) (x y : X) (xs ys : List X) → length xs ≡ length ys
    → R x y ⊎ SomeZip R (reverse xs) (reverse ys) → SomeZip R (reverse xs ++ x ∷ []) (reverse ys ++ y ∷ [])
some-both R x y xs ys e (inl here) =
    some-second R (reverse xs) (x ∷ []) (reverse ys) (y ∷ []) (omega (arith, length-reverse xs, length-reverse ys)) (inl here)
some-both R x y xs ys e (inr later) = some-first R (reverse xs) (x ∷ []) (reverse ys) (y ∷ []) later

-- it holds at a place of the reversed lists
pub some-reverse : {X : Type 0} (R : X → X → Type 0) (xs ys : List X) → length xs ≡ length ys → SomeZip R xs ys
    → SomeZip R (reverse xs) (reverse ys)
some-reverse R [] ys e one = absurd one
some-reverse R (x ∷ xs) [] e one = absurd one
some-reverse R (x ∷ xs) (y ∷ ys) e (inl here) =
    rw (reverse-append (x ∷ []) xs, reverse-append (y ∷ []) ys) (some-both R x y xs ys (omega arith) (inl here))
some-reverse R (x ∷ xs) (y ∷ ys) e (inr later) =
    rw (reverse-append (x ∷ []) xs, reverse-append (y ∷ []) ys)
    (some-both R x y xs ys (omega arith) (inr (some-reverse R xs ys (omega arith) later)))
