-- For proofs alone: what a request asks for, or its diagnostic, is tested and copied exactly
-- (this project's own)
use Rattle.std.specs.Prelude.{◌≡◌, Bool, true, false, refl}
use Rattle.std.specs.Cmp.{IsEquivalence, IsPartialEquivalence, partial_equiv_from_equiv}
use Rattle.std.proofs.Common.{ap}
use Rattle.z_types.specs.Exact.{EqIsExact, CloneIsExact}
use Rattle.z_types.specs.equality.Parts.{Exactness, shown}
use Rattle.z_types.specs.equality.Diagnostic.{diagnostic}
use Rattle.z_types.specs.declared.requests.Asked.{Asked}
use Rattle.z_types.specs.declared.requests.Asked.TheVariants.{Good, Bad}
use Rattle.z_types.specs.contracts.diagnostic.DiagPartialEq.TheImpl as diag_test
use Rattle.z_types.specs.contracts.diagnostic.DiagEq.TheImpl.Laws as diag_law
use Rattle.z_types.specs.contracts.diagnostic.DiagClone.TheImpl as diag_copy

-- what was asked for is tested as it is, and a diagnostic as one
abbrev pub asked_eq : {T : Type 0} → (T → T → Bool) → Asked T → Asked T → Bool
asked_eq eq (Good a) (Good b) = eq a b
asked_eq eq (Good a) (Bad d) = false
asked_eq eq (Bad d) (Good b) = false
asked_eq eq (Bad d) (Bad e) = (diag_test.ghosts).eq d e

-- what was asked for is copied as it is, and a diagnostic as one
abbrev pub asked_is_clone : {T : Type 0} → (T → T → Type 0) → Asked T → Asked T → Type 0
asked_is_clone is_clone (Good a) (Good b) = is_clone a b
asked_is_clone is_clone (Good a) (Bad d) = ⊥
asked_is_clone is_clone (Bad d) (Good b) = ⊥
asked_is_clone is_clone (Bad d) (Bad e) = (diag_copy.ghosts).is_clone d e

pub asked_exact : {T : Type 0} {eq : T → T → Bool} → EqIsExact eq → EqIsExact (asked_eq eq)
asked_exact e (Good a) (Good b) h = ap Good (e a b h)
asked_exact e (Bad a) (Bad b) h = ap Bad (diagnostic.eq_is_exact a b h)
asked_exact e (Good a) (Bad b) h = cc
asked_exact e (Bad a) (Good b) h = cc

pub asked_cloned : {T : Type 0} {is_clone : T → T → Type 0} → CloneIsExact is_clone
    → CloneIsExact (asked_is_clone is_clone)
asked_cloned e (Good a) (Good b) h = ap Good (e a b h)
asked_cloned e (Bad a) (Bad b) h = ap Bad (diagnostic.clone_is_exact a b h)
asked_cloned e (Good a) (Bad b) h = absurd h
asked_cloned e (Bad a) (Good b) h = absurd h

diags_per : IsPartialEquivalence (diag_test.ghosts).eq
diags_per = partial_equiv_from_equiv diag_law.laws-law

asked_symm : {T : Type 0} {eq : T → T → Bool} → IsPartialEquivalence eq →
    (a b : Asked T) → asked_eq eq a b ≡ asked_eq eq b a
asked_symm p (Good a) (Good b) = p.symm a b
asked_symm p (Good a) (Bad b) = refl
asked_symm p (Bad a) (Good b) = refl
asked_symm p (Bad a) (Bad b) = diags_per.symm a b

asked_trans : {T : Type 0} {eq : T → T → Bool} → IsPartialEquivalence eq →
    (a b c : Asked T) → asked_eq eq a b ≡ true → asked_eq eq b c ≡ true → asked_eq eq a c ≡ true
asked_trans p (Good a) (Good b) (Good c) h g = p.trans a b c h g
asked_trans p (Bad a) (Bad b) (Bad c) h g = diags_per.trans a b c h g
asked_trans p a b c h g = cc

pub asked_per : {T : Type 0} {eq : T → T → Bool} → IsPartialEquivalence eq
    → IsPartialEquivalence (asked_eq eq)
asked_per p = record { symm = asked_symm p; trans = asked_trans p }

asked_itself : {T : Type 0} {eq : T → T → Bool} → IsEquivalence eq → (a : Asked T)
    → asked_eq eq a a ≡ true
asked_itself e (Good a) = e.refl a
asked_itself e (Bad a) = diag_law.laws-law.refl a

asked_congr : {T : Type 0} {eq : T → T → Bool} → IsEquivalence eq →
    (a b c : Asked T) → asked_eq eq a b ≡ true → asked_eq eq a c ≡ asked_eq eq b c
asked_congr e (Good a) (Good b) (Good c) h = e.congr a b c h
asked_congr e (Good a) (Good b) (Bad c) h = refl
asked_congr e (Bad a) (Bad b) (Good c) h = refl
asked_congr e (Bad a) (Bad b) (Bad c) h = diag_law.laws-law.congr a b c h
asked_congr e a b c h = cc

pub asked_equiv : {T : Type 0} {eq : T → T → Bool} → IsEquivalence eq → IsEquivalence (asked_eq eq)
asked_equiv e = record {
  refl = asked_itself e;
  symm = asked_symm (partial_equiv_from_equiv e);
  congr = asked_congr e;
}

abbrev pub asked : {T : Type 0} → Exactness T → Exactness (Asked T)
asked exact = shown (asked_exact exact.eq_is_exact) (asked_cloned exact.clone_is_exact)
