-- Two ways to answer for items agree on all answers, or the first diagnostic, where they agree on each item that has no
-- diagnostic before it.
use Rattle.std.proofs.Common.{◌≡◌, ◌∙◌, List, [], ◌∷◌, ◌++◌, Option, None, Some, Result, Ok, Err, ap, refl, sym, append_assoc}
use Rattle.std.specs.Prelude.{filter_map}
use Rattle.std.specs.List.{cons_option}
use Rattle.z_types.specs.declared.diagnostic.Diag.{Diag}
use Rattle.gateway_rules.specs.Targets.{all_or_first, behind_first}

-- no diagnostic is answered
abbrev pub IsGood : {A : Type 0} → Option (Result A Diag) → Type 0
IsGood None = Unit {0}
IsGood (Some (Ok x)) = Unit {0}
IsGood (Some (Err diag)) = ⊥

-- the others matter only where one is no diagnostic
behind : {A : Type 0} (answer : Option (Result A Diag)) (xs ys : List (Result A Diag)) → (IsGood answer → all_or_first xs ≡ all_or_first ys)
    → all_or_first (cons_option answer xs) ≡ all_or_first (cons_option answer ys)
behind None xs ys h = h tt
behind (Some (Ok x)) xs ys h = ap (behind_first (Ok x)) (h tt)
behind (Some (Err diag)) xs ys h = refl

module _ {X A : Type 0} where
  -- none for any of these items
  abbrev pub AreGood : (X → Option (Result A Diag)) → List X → Type 0
  AreGood f [] = Unit {0}
  AreGood f (x ∷ xs) = IsGood (f x) × AreGood f xs

  good_more : (f : X → Option (Result A Diag)) (xs : List X) (x : X) → AreGood f xs → IsGood (f x) → AreGood f (xs ++ x ∷ [])
  good_more f [] x all good = (good, tt)
  good_more f (y ∷ ys) x all good = (all.0, good_more f ys x all.1 good)

  agreed_from : (f g : X → Option (Result A Diag)) (before after : List X) → AreGood f before
      → ((front : List X) (x : X) (rest : List X) → before ++ after ≡ front ++ x ∷ rest → AreGood f front → f x ≡ g x)
      → all_or_first (filter_map f after) ≡ all_or_first (filter_map g after)
  agreed_from f g before [] good each = refl
  agreed_from f g before (x ∷ xs) good each =
      behind (f x) (filter_map f xs) (filter_map g xs)
      (λ here. agreed_from f g (before ++ x ∷ []) xs (good_more f before x good here)
      (λ front y rest is. each front y rest (sym (append_assoc before (x ∷ []) xs) ∙ is)))
      ∙ ap (λ (answer : Option (Result A Diag)). all_or_first (cons_option answer (filter_map g xs))) (each before x xs refl good)

  -- so they agree on all
  pub agreed : (f g : X → Option (Result A Diag)) (xs : List X)
      → ((front : List X) (x : X) (rest : List X) → xs ≡ front ++ x ∷ rest → AreGood f front → f x ≡ g x)
      → all_or_first (filter_map f xs) ≡ all_or_first (filter_map g xs)
  agreed f g xs each = agreed_from f g [] xs tt each
