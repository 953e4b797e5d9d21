-- What the legs of a request count of each class, where each had what its use needs
use Rattle.std.proofs.Common.{◌≡◌, ◌∙◌, ◌==◌, ◌&&◌, ◌+◌, ℕ, Bool, true, false, cond, List, [], ◌∷◌, map, refl, sym, ap, subst, nat_eq, arith}
use Rattle.std.specs.Prelude.{if◌then◌else◌, sum_by}
use Rattle.std.specs.Cmp.{nat_eq_equiv}
use Rattle.std.specs.List.{AllByRecursion, IsDistinct}
use Rattle.std.proofs.lemmas.Bool.{eqb-true}
use Rattle.std.proofs.lemmas.List.Sums.{sum_by-cons}
use Rattle.z_types.specs.declared.world.World as world
use Rattle.route_config.specs.declared.route.Route.{Route}
use Rattle.package_quiet.specs.leg.Kept.{one_if}
use Rattle.package_quiet.specs.leg.LegView.{LegView}
use Rattle.package_quiet.specs.leg.Tasks.{want_of}
use Rattle.package_quiet.specs.leg.declared.accounts.Account.{Account}
use Rattle.package_quiet.specs.package.steps.Packages.{accounts_of}
use Rattle.sharing_rules.specs.Needed.{count_after, needs_dial, needs_search}
use Rattle.sharing_rules.specs.Uses.{Use}
use Rattle.sharing_rules.specs.steps.Shared.{dial_due, search_due}
use Rattle.package_shares.specs.steps.Requests.{behind, dials_in, searches_in}
use Rattle.package_shares.specs.steps.Together.{AreApart, HadItsCost, class_in, classes_of, use_of, uses_behind, who_in}
use Rattle.package_shares.proofs.OwnUses.{own-dials, own-searches, own-self, own_of}
use Rattle.package_shares.proofs.UsesLemmas.{other-in}

-- a number of the accounts of a class
abbrev counted_in : (Account → ℕ) → ℕ → Account → ℕ
counted_in number class account = if account.class == class then number account else 0

-- the account of a leg is of its class
abbrev pub CountsItsClass : {S : Type 0} → Route → LegView S → Type 0
CountsItsClass route leg = leg.account.class ≡ class_in route leg

as-one : (b : Bool) → (if b then 1 else 0) ≡ one_if b
as-one true = refl
as-one false = refl

module _ {S : Type 0} (route : Route) (now : ℕ) where
  abbrev pub uses_in : List (LegView S) → List Use
  uses_in legs = map (use_of route now) legs

  -- the uses of legs behind others
  pub behind-legs : (legs : List (LegView S)) (before : List Use) → uses_behind route now before legs ≡ behind before (uses_in legs)
  behind-legs [] before = refl
  behind-legs (leg ∷ legs) before = behind-legs legs (use_of route now leg ∷ before)

  -- ---- the one use of a class

  abbrev pub IsNot : ℕ → List (LegView S) → Type 0
  IsNot class legs = AllByRecursion (λ k. nat_eq class k ≡ false) (classes_of route legs)

  pub none-own : (class : ℕ) (legs : List (LegView S)) → IsNot class legs → own_of class (uses_in legs) ≡ []
  none-own class [] apart = refl
  none-own class (leg ∷ legs) apart =
      ap (λ (t : Bool). cond t (use_of route now leg ∷ own_of class (uses_in legs)) (own_of class (uses_in legs)))
      (other-in class (use_of route now leg) apart.0) ∙ none-own class legs apart.1

  -- of legs that go to different classes each has the one use of its class
  abbrev pub IsOnlyIn : List (LegView S) → LegView S → Type 0
  IsOnlyIn legs leg = own_of (class_in route leg) (uses_in legs) ≡ use_of route now leg ∷ []

  own-more : (leg : LegView S) (among legs : List (LegView S)) → IsNot (class_in route leg) among → AllByRecursion (IsOnlyIn legs) among
      → AllByRecursion (IsOnlyIn (leg ∷ legs)) among
  own-more leg [] legs apart are = tt
  own-more leg (one ∷ among) legs apart are = (
    ap (λ (t : Bool). cond t (use_of route now leg ∷ own_of (class_in route one) (uses_in legs)) (own_of (class_in route one) (uses_in legs)))
        apart.0 ∙ are.0,
    own-more leg among legs apart.1 are.1,
  )

  pub own-each : (legs : List (LegView S)) → AreApart route legs → AllByRecursion (IsOnlyIn legs) legs
  unfolding IsDistinct
  own-each [] apart = tt
  own-each (leg ∷ legs) apart = (
    ap (λ (t : Bool). cond t (use_of route now leg ∷ own_of (class_in route leg) (uses_in legs)) (own_of (class_in route leg) (uses_in legs)))
        (nat_eq_equiv.refl (class_in route leg)) ∙ ap (λ (us : List Use). use_of route now leg ∷ us) (none-own (class_in route leg) legs apart.0),
    own-more leg legs legs apart.0 (own-each legs apart.1),
  )

  -- ---- what is counted of a class

  module _ (number : Account → ℕ) (class : ℕ) where
    abbrev counted : List (LegView S) → ℕ
    counted legs = sum_by (counted_in number class) (accounts_of legs)

    counted-cons : (leg : LegView S) (legs : List (LegView S)) → counted (leg ∷ legs) ≡ counted_in number class leg.account + counted legs
    counted-cons leg legs = sum_by-cons (counted_in number class) leg.account (accounts_of legs)

    other-counts : (leg : LegView S) → CountsItsClass route leg → nat_eq class (class_in route leg) ≡ false → counted_in number class leg.account ≡ 0
    other-counts leg own apart =
        ap (λ (t : Bool). if t then number leg.account else 0)
        (ap (λ (c : ℕ). c == class) own ∙ nat_eq_equiv.symm (class_in route leg) class ∙ apart)

    own-counts : (leg : LegView S) → CountsItsClass route leg → nat_eq class (class_in route leg) ≡ true
        → counted_in number class leg.account ≡ number leg.account
    own-counts leg own is =
        ap (λ (t : Bool). if t then number leg.account else 0)
        (ap (λ (c : ℕ). c == class) own ∙ nat_eq_equiv.symm (class_in route leg) class ∙ is)

    none-counted : (legs : List (LegView S)) → AllByRecursion (CountsItsClass route) legs → IsNot class legs → counted legs ≡ 0
    none-counted [] own apart = refl
    none-counted (leg ∷ legs) own apart =
        let here = other-counts leg own.0 apart.0 in
        let rest = none-counted legs own.1 apart.1 in
        counted-cons leg legs ∙ omega (arith, here, rest)

    -- nothing is counted of legs that count nothing
    pub nothing-counted : (legs : List (LegView S)) → AllByRecursion (λ leg. number leg.account ≡ 0) legs → counted legs ≡ 0
    nothing-counted [] none = refl
    nothing-counted (leg ∷ legs) none =
        let here : counted_in number class leg.account ≡ 0 =
        (elim (leg.account.class == class) as (λ (t : Bool). (if t then number leg.account else 0) ≡ 0) [
          | true ↦ none.0
          | false ↦ refl
        ]) in
        let rest = nothing-counted legs none.1 in
        counted-cons leg legs ∙ omega (arith, here, rest)

    module _ (test : List Use → Use → Bool) (before : List Use) where
      -- what a leg counts is what its use needs
      abbrev CountsSo : LegView S → Type 0
      CountsSo leg = nat_eq class (class_in route leg) ≡ true → number leg.account ≡ (if test before (use_of route now leg) then 1 else 0)

      all-counted : (legs : List (LegView S)) → AreApart route legs → AllByRecursion (CountsItsClass route) legs → AllByRecursion CountsSo legs
          → counted legs ≡ count_after test before (own_of class (uses_in legs))
      unfolding IsDistinct
      all-counted [] apart own so = refl
      all-counted (leg ∷ legs) apart own so =
          let one = use_of route now leg in
          (elim (nat_eq class (class_in route leg)) as (λ (b : Bool). nat_eq class (class_in route leg) ≡ b → counted (leg ∷ legs) ≡ count_after test before (own_of class (uses_in (leg ∷ legs)))) [
            | true ↦ λ e.
                let same : class ≡ class_in route leg = eqb-true class (class_in route leg) e in
                let away : IsNot class legs = subst (λ (c : ℕ). IsNot c legs) (sym same) apart.0 in
                let here = own-counts leg own.0 e ∙ so.0 e in
                let rest = none-counted legs own.1 away in
                let only : own_of class (uses_in (leg ∷ legs)) ≡ one ∷ [] =
                ap (λ (t : Bool). cond t (one ∷ own_of class (uses_in legs)) (own_of class (uses_in legs)))
                (nat_eq_equiv.symm (class_in route leg) class ∙ e) ∙ ap (λ (us : List Use). one ∷ us) (none-own class legs away) in
                counted-cons leg legs ∙ omega (arith, here, rest) ∙ sym (ap (count_after test before) only)
            | false ↦ λ e.
                let here = other-counts leg own.0 e in
                let rest = all-counted legs apart.1 own.1 so.1 in
                let past : own_of class (uses_in (leg ∷ legs)) ≡ own_of class (uses_in legs) =
                ap (λ (t : Bool). cond t (one ∷ own_of class (uses_in legs)) (own_of class (uses_in legs))) (other-in class one e) in
                counted-cons leg legs ∙ omega (arith, here, rest) ∙ sym (ap (count_after test before) past)
          ]) refl

  -- ---- legs that had what their uses need

  module _ {W : Type 0} (w : world.Ghosts W) (before : List Use) (class : ℕ) where
    dials-so : (legs : List (LegView S)) → AllByRecursion (HadItsCost w route now before) legs
        → AllByRecursion (CountsSo (λ account. account.dials) class (needs_dial route class) before) legs
    dials-so [] had = tt
    dials-so (leg ∷ legs) had = (
      λ e.
          had.0.dials ∙ sym (as-one (dial_due route (who_in route leg) now before))
          ∙ ap (λ (t : Bool). if t && dial_due route (who_in route leg) now before then 1 else 0) (sym (nat_eq_equiv.symm (class_in route leg) class ∙ e)),
      dials-so legs had.1,
    )

    searches-so : (legs : List (LegView S)) → AllByRecursion (HadItsCost w route now before) legs
        → AllByRecursion (CountsSo (λ account. account.searches) class (needs_search w route class) before) legs
    searches-so [] had = tt
    searches-so (leg ∷ legs) had = (
      λ e.
          let due : Bool = search_due w route (who_in route leg) now before (want_of leg.task) in
          had.0.searches ∙ sym (as-one due)
          ∙ ap (λ (t : Bool). if t && due then 1 else 0) (sym (nat_eq_equiv.symm (class_in route leg) class ∙ e)),
      searches-so legs had.1,
    )

    pub dials-counted : (legs : List (LegView S)) → AreApart route legs → AllByRecursion (CountsItsClass route) legs
        → AllByRecursion (HadItsCost w route now before) legs
        → sum_by (dials_in class) (accounts_of legs) ≡ count_after (needs_dial route class) before (uses_in legs)
    dials-counted legs apart own had =
        all-counted (λ account. account.dials) class (needs_dial route class) before legs apart own (dials-so legs had)
        ∙ sym (own-dials class route (uses_in legs) before before (own-self class before))

    pub searches-counted : (legs : List (LegView S)) → AreApart route legs → AllByRecursion (CountsItsClass route) legs
        → AllByRecursion (HadItsCost w route now before) legs
        → sum_by (searches_in class) (accounts_of legs) ≡ count_after (needs_search w route class) before (uses_in legs)
    searches-counted legs apart own had =
        all-counted (λ account. account.searches) class (needs_search w route class) before legs apart own (searches-so legs had)
        ∙ sym (own-searches class w route (uses_in legs) before before (own-self class before))
