-- A denial is of the first database that a client may not search.
use Rattle.std.proofs.Common.{◌≡◌, ℕ, List, [], ◌∷◌, ◌++◌, Option, Some, None, refl, sym, ap, ◌∙◌, subst}
use Rattle.std.specs.List.{AllByRecursion}
use Rattle.std.specs.Option.{option_or}
use Rattle.z_types.specs.Bib1.{bib1}
use Rattle.z_types.specs.declared.conditions.Condition.TheVariants.{AccessToDatabaseDenied}
use Rattle.z_types.specs.declared.diagnostic.Diag.{Diag}
use Rattle.route_config.specs.declared.route.Route.{Route}
use Rattle.access_rules.specs.declared.who.Who.{Who}
use Rattle.access_rules.specs.declared.decision.Decision.{Decision}
use Rattle.access_rules.specs.declared.decision.Decision.TheVariants.{Allowed, Denied}
use Rattle.access_rules.specs.Decisions.{decide}
use Rattle.access_rules.specs.Denials.{place_named, rule_named, denial_by, denial_at, first_denial}
use Rattle.access_rules.specs.Access.{IsAllowed, MaySearch, IsFirstDenied, DenialIsOfTheFirst, NoDenialIsOpen}

place_is : (a b : ℕ) → Some a ≡ Some b → a ≡ b
place_is a b e = cc

diag_is : (a b : Diag) → Some a ≡ Some b → a ≡ b
diag_is a b e = cc

module _ (route : Route) (client : Who) where
  -- a name that is none of the route's is closed to nobody
  open-nowhere : (name : List ℕ) → place_named route name ≡ None → MaySearch route client name
  open-nowhere name e place is = absurd cc

  open-at : (name : List ℕ) (place : ℕ) (decision : Decision) → place_named route name ≡ Some place → decide route client place ≡ decision
      → IsAllowed decision → MaySearch route client name
  open-at name place decision e d allowed other is =
      let same : place ≡ other = place_is place other (sym e ∙ is) in
      subst (λ p. IsAllowed (decide route client p)) same (subst IsAllowed (sym d) allowed)

  behind : (name : List ℕ) (names : List (List ℕ)) (diag : Diag) → MaySearch route client name → IsFirstDenied route client names diag
      → IsFirstDenied route client (name ∷ names) diag
  behind name names diag may first = record {
    before = name ∷ first.before;
    name = first.name;
    behind = first.behind;
    named = ap (λ (rest : List (List ℕ)). name ∷ rest) first.named;
    may = (may, first.may);
    place = first.place;
    stands = first.stands;
    rule = first.rule;
    denied = first.denied;
    told = first.told;
  }

  first-of : (names : List (List ℕ)) (diag : Diag) → first_denial route client names ≡ Some diag → IsFirstDenied route client names diag
  first-of [] diag h = absurd cc
  first-of (name ∷ names) diag h = at (λ k. first-of names diag k) (place_named route name) refl h
    where
      by : (first_denial route client names ≡ Some diag → IsFirstDenied route client names diag) → (place : ℕ) (decision : Decision) → place_named route name ≡ Some place → decide route client place ≡ decision
          → option_or (denial_by route decision) (first_denial route client names) ≡ Some diag → IsFirstDenied route client (name ∷ names) diag
      by others place (Allowed rule) e d h = behind name names diag (open-at name place (Allowed rule) e d tt) (others h)
      by others place (Denied rule) e d h = record {
        before = [];
        name = name;
        behind = names;
        named = refl;
        may = tt;
        place = place;
        stands = e;
        rule = rule;
        denied = d;
        told = sym (diag_is (bib1 AccessToDatabaseDenied (rule_named route rule)) diag h);
      }

      at : (first_denial route client names ≡ Some diag → IsFirstDenied route client names diag) → (found : Option ℕ) → place_named route name ≡ found
          → option_or (denial_at route client found) (first_denial route client names) ≡ Some diag → IsFirstDenied route client (name ∷ names) diag
      at others None e h = behind name names diag (open-nowhere name e) (others h)
      at others (Some place) e h = by others place (decide route client place) e refl h

  -- what a client may search is not denied
  not-denied : (decision : Decision) → IsAllowed decision → denial_by route decision ≡ None
  not-denied (Allowed rule) allowed = refl
  not-denied (Denied rule) allowed = absurd allowed

  passed : (name : List ℕ) → MaySearch route client name → denial_at route client (place_named route name) ≡ None
  passed name may = at (place_named route name) refl
    where
      at : (found : Option ℕ) → place_named route name ≡ found → denial_at route client found ≡ None
      at None e = refl
      at (Some place) e = not-denied (decide route client place) (may place e)

  past : (before : List (List ℕ)) (names : List (List ℕ)) → AllByRecursion (MaySearch route client) before
      → first_denial route client (before ++ names) ≡ first_denial route client names
  past [] names opens = refl
  past (name ∷ before) names opens = rw (passed name opens.0) (past before names opens.1)

  denied-at : (name : List ℕ) (names : List (List ℕ)) (place : ℕ) (rule : Option ℕ) → place_named route name ≡ Some place
      → decide route client place ≡ Denied rule → first_denial route client (name ∷ names) ≡ Some (bib1 AccessToDatabaseDenied (rule_named route rule))
  denied-at name names place rule e d = rw (e, d) refl

  of-first : (names : List (List ℕ)) (diag : Diag) → IsFirstDenied route client names diag → first_denial route client names ≡ Some diag
  of-first names diag first =
      ap (first_denial route client) first.named
      ∙ past first.before (first.name ∷ first.behind) first.may
      ∙ denied-at first.name first.behind first.place first.rule first.stands first.denied
      ∙ ap Some (sym first.told)

  -- where nothing is denied, all is open
  none_of : (one other : Option Diag) → option_or one other ≡ None → (one ≡ None) × (other ≡ None)
  none_of None other h = (refl, h)
  none_of (Some diag) other h = absurd cc

  allowed-by : (decision : Decision) → denial_by route decision ≡ None → IsAllowed decision
  allowed-by (Allowed rule) h = tt
  allowed-by (Denied rule) h = absurd cc

  open-all : (names : List (List ℕ)) → first_denial route client names ≡ None → AllByRecursion (MaySearch route client) names
  open-all [] h = tt
  open-all (name ∷ names) h =
      let parts = none_of (denial_at route client (place_named route name)) (first_denial route client names) h in
      (λ place is. allowed-by (decide route client place) (ap (denial_at route client) (sym is) ∙ parts.0), open-all names parts.1)

  all-open : (names : List (List ℕ)) → AllByRecursion (MaySearch route client) names → first_denial route client names ≡ None
  all-open [] opens = refl
  all-open (name ∷ names) opens = rw (passed name opens.0) (all-open names opens.1)

pub denial-first : DenialIsOfTheFirst
denial-first route client names diag = (first-of route client names diag, of-first route client names diag)

pub denial-none : NoDenialIsOpen
denial-none route client names = (open-all route client names, all-open route client names)
