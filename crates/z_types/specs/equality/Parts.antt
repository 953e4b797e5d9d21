-- For proofs alone: values that are tested and copied part by part, each part exactly, are so
-- themselves (this project's own)
use Rattle.std.specs.Prelude.{◌≡◌, ℕ, ℤ, Bool, true, ◌&&◌, List, Option}
use Rattle.std.proofs.Common.{ap, sym, ◌∙◌}
use Rattle.z_types.specs.Exact.{EqIsExact, CloneIsExact}
use Rattle.z_types.specs.equality.Tests.{both_true, itself_cloned, numbers_exact, ints_exact, bools_exact, text_exact, lists_exact, lists_cloned, options_exact, options_cloned}

-- a type's test and copy, and that they are exact
pub record Exactness (T : Type 0) : Type 1 where
  pub eq : T → T → Bool
  pub is_clone : T → T → Type 0
  pub eq_is_exact : EqIsExact eq
  pub clone_is_exact : CloneIsExact is_clone

-- parts A of a type S, and tests and copies of S by them alone
pub record Parts (S A : Type 0) : Type 1 where
  pub of : S → A
  pub eq : S → S → Bool
  pub is_clone : S → S → Type 0
  pub eq_is_exact : (s t : S) → eq s t ≡ true → of s ≡ of t
  pub clone_is_exact : (s t : S) → is_clone s t → of t ≡ of s

-- one part
abbrev pub part : {S A : Type 0} → (S → A) → Exactness A → Parts S A
part of exact = record {
  of = of;
  eq = λ s t. exact.eq (of s) (of t);
  is_clone = λ s t. exact.is_clone (of s) (of t);
  eq_is_exact = λ s t h. exact.eq_is_exact (of s) (of t) h;
  clone_is_exact = λ s t h. exact.clone_is_exact (of s) (of t) h;
}

infixr 10 ◌⊗◌
-- a part and those behind it
abbrev pub ◌⊗◌ : {S A B : Type 0} → Parts S A → Parts S B → Parts S (A × B)
p ⊗ q = record {
  of = λ s. (p.of s, q.of s);
  eq = λ s t. p.eq s t && q.eq s t;
  is_clone = λ s t. p.is_clone s t × q.is_clone s t;
  eq_is_exact = λ s t h.
      let w = both_true (p.eq s t) (q.eq s t) h in
      λ i. (p.eq_is_exact s t w.0 i, q.eq_is_exact s t w.1 i);
  clone_is_exact = λ s t h i. (p.clone_is_exact s t h.0 i, q.clone_is_exact s t h.1 i);
}

-- values with the same parts are the same value
pub one_by_parts : {S A : Type 0} (of : S → A) (make : A → S) → ((s : S) → make (of s) ≡ s)
    → (s t : S) → of s ≡ of t → s ≡ t
one_by_parts of make again s t same = sym (again s) ∙ ap make same ∙ again t

-- a type whose values are made of their parts
abbrev pub made_of : {S A : Type 0} → (p : Parts S A) (make : A → S) → ((s : S) → make (p.of s) ≡ s)
    → Exactness S
made_of p make again = record {
  eq = p.eq;
  is_clone = p.is_clone;
  eq_is_exact = λ s t h. one_by_parts p.of make again s t (p.eq_is_exact s t h);
  clone_is_exact = λ s t h. one_by_parts p.of make again t s (p.clone_is_exact s t h);
}

-- a type whose test and copy were shown to be exact
abbrev pub shown : {T : Type 0} {eq : T → T → Bool} {is_clone : T → T → Type 0} → EqIsExact eq
    → CloneIsExact is_clone → Exactness T
shown {T} {eq} {is_clone} e c =
    record { eq = eq; is_clone = is_clone; eq_is_exact = e; clone_is_exact = c }

infixr 10 ◌⊠◌
-- pairs
abbrev pub ◌⊠◌ : {A B : Type 0} → Exactness A → Exactness B → Exactness (A × B)
a ⊠ b = record {
  eq = λ p q. a.eq p.0 q.0 && b.eq p.1 q.1;
  is_clone = λ p q. a.is_clone p.0 q.0 × b.is_clone p.1 q.1;
  eq_is_exact = λ p q h.
      let w = both_true (a.eq p.0 q.0) (b.eq p.1 q.1) h in
      λ i. (a.eq_is_exact p.0 q.0 w.0 i, b.eq_is_exact p.1 q.1 w.1 i);
  clone_is_exact = λ p q h i. (a.clone_is_exact p.0 q.0 h.0 i, b.clone_is_exact p.1 q.1 h.1 i);
}

-- numbers of any width that have no sign
abbrev pub number : Exactness ℕ
number = shown numbers_exact itself_cloned

-- integers
abbrev pub integer : Exactness ℤ
integer = shown ints_exact itself_cloned

-- yes or no
abbrev pub flag : Exactness Bool
flag = shown bools_exact itself_cloned

-- octets, or the numbers of an object identifier
abbrev pub text : Exactness (List ℕ)
text = shown text_exact itself_cloned

-- lists
abbrev pub list : {T : Type 0} → Exactness T → Exactness (List T)
list item = shown (lists_exact item.eq_is_exact) (lists_cloned item.clone_is_exact)

-- options
abbrev pub option : {T : Type 0} → Exactness T → Exactness (Option T)
option value = shown (options_exact value.eq_is_exact) (options_cloned value.clone_is_exact)
