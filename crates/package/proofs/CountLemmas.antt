-- What legs counted, one leg more
use Rattle.std.proofs.Common.{◌≡◌, ◌∙◌, ◌<◌, ◌+◌, ℕ, List, [], ◌∷◌, ◌++◌, append_assoc, length, map, take, drop, get_or, set, ap, sym, arith}
use Rattle.std.proofs.Math.Seq.{take-length}
use Rattle.std.proofs.lemmas.List.{append-nil, drop_all, length-map, map-append, take-append-le, take_more_set}
use Rattle.leg.specs.LegView.{LegView}
use Rattle.leg.specs.declared.accounts.Account.{Account}
use Rattle.package_rules.proofs.Taken.{take_next}
use Rattle.package.specs.steps.Packages.{accounts_of}

-- a slice that was written back whole
pub written_back : {A : Type 0} (old new : List A) (n : ℕ) → n ≡ length old → length new ≡ length old
    → take n (new ++ drop (length new) old) ≡ new
written_back {A = A} old new n all same =
    ap (λ (rest : List A). take n (new ++ rest)) (drop_all (length new) old (omega (arith, same)))
    ∙ ap (take n) (append-nil new) ∙ ap (λ (m : ℕ). take m new) (all ∙ sym same) ∙ take-length new

pub same_length : {A B : Type 0} (f : A → B) (xs ys : List A) → map f xs ≡ map f ys → length xs ≡ length ys
same_length {B = B} f xs ys same = sym (length-map xs f) ∙ ap (λ (zs : List B). length zs) same ∙ length-map ys f

module _ {S : Type 0} where
  -- the account of one leg more
  pub counted_more : (legs : List (LegView S)) (i : ℕ) (d leg : LegView S) → i < length legs → get_or legs i d ≡ leg
      → accounts_of (take (i + 1) legs) ≡ accounts_of (take i legs) ++ leg.account ∷ []
  counted_more legs i d leg inside is =
      ap accounts_of (take_next legs i d leg inside is) ∙ map-append (λ (l : LegView S). l.account) (take i legs) (leg ∷ [])

  -- it is written behind those of the others
  pub over_more : (others place : ℕ) (all before : List Account) (legs : List (LegView S)) (d leg : LegView S) (account : Account)
      → others + place < length all → place < length legs → get_or legs place d ≡ leg → account ≡ leg.account
      → take (others + place) all ≡ take others before ++ accounts_of (take place legs)
      → take (others + (place + 1)) (set all (others + place) account) ≡ take others before ++ accounts_of (take (place + 1) legs)
  over_more others place all before legs d leg account inside there is counts so_far =
      let next : others + (place + 1) ≡ others + place + 1 = omega arith in
      ap (λ (n : ℕ). take n (set all (others + place) account)) next ∙ take_more_set all (others + place) account inside
      ∙ ap (λ (as_before : List Account). as_before ++ account ∷ []) so_far
      ∙ append_assoc (take others before) (accounts_of (take place legs)) (account ∷ [])
      ∙ ap (λ (a : Account). take others before ++ (accounts_of (take place legs) ++ a ∷ [])) counts
      ∙ ap (λ (accounts : List Account). take others before ++ accounts) (sym (counted_more legs place d leg there is))

  -- the accounts of the first legs stand in front
  pub kept_first : (first later : List (LegView S)) (accounts : List Account) (n : ℕ) → accounts ≡ accounts_of (first ++ later)
      → n ≡ length first → take n accounts ≡ accounts_of first
  kept_first first later accounts n are is =
      let count : length (accounts_of first) ≡ length first = length-map first (λ (l : LegView S). l.account) in
      ap (take n) (are ∙ map-append (λ (l : LegView S). l.account) first later)
      ∙ ap (λ (m : ℕ). take m (accounts_of first ++ accounts_of later)) (is ∙ sym count)
      ∙ take-append-le (length (accounts_of first)) (accounts_of first) (accounts_of later) (omega arith)
      ∙ take-length (accounts_of first)
