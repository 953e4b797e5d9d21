-- The uses of a work are those of what it asks first: of each class the same
use Rattle.std.proofs.Common.{◌≡◌, ◌≢◌, ◌∙◌, ◌||◌, ◌==◌, ◌+◌, ◌⊎◌, ◌≤◌, ℕ, zero, suc, ◌<◌, Bool, true, false, cond, inl, inr, List, [], ◌∷◌, ◌++◌, map, length, get_or, filter, Contains, Option, None, Some, refl, sym, ap, subst, nat_eq, arith, slice_get, option_to_list}
use Rattle.std.specs.Prelude.{filter_map, flat_map}
use Rattle.std.specs.Cmp.{nat_eq_equiv}
use Rattle.std.specs.List.{AllByRecursion, IsDistinct, cons_option, list_any, range_with_len}
use Rattle.std.specs.Option.{option_map_or}
use Rattle.std.specs.Set.{unique_keys}
use Rattle.std.proofs.lemmas.Bool.{eqb-true}
use Rattle.std.proofs.lemmas.List.Elements.{All-contains_itself, recursion_from_All}
use Rattle.std.proofs.lemmas.Option.{get_or_from_slice_get, slice_get_cases, slice_get_within}
use Rattle.std.proofs.Math.Bool.{or-true}
use Rattle.z_types.specs.MergedOrder.{Place}
use Rattle.z_types.specs.declared.key.SetKey.{SetKey}
use Rattle.z_types.specs.declared.query.RpnQuery.{RpnQuery}
use Rattle.z_types.specs.declared.work.Work.{Work}
use Rattle.z_types.specs.declared.work.Work.TheVariants as work
use Rattle.route_config.specs.declared.route.Route.{Route}
use Rattle.route_config.specs.declared.route.RouteLeg.{RouteLeg}
use Rattle.gateway_rules.specs.Outcomes.{places_from}
use Rattle.package_quiet.specs.leg.Tasks.{want_of}
use Rattle.package_quiet.specs.leg.Terms.{class_of}
use Rattle.package_quiet.specs.package_rules.Asked.{Asked, all_records_asked, first_asked, hits_asked, key_at, leg_of, ranks_of, records_asked, span_of, spans_of}
use Rattle.package_quiet.specs.package_rules.Planned.{AreThere, legs_named}
use Rattle.package_quiet.specs.package_rules.declared.spans.Span.{Span}
use Rattle.package_quiet.proofs.package_rules.LegsAsked.{IsLegOf, first_of}
use Rattle.sharing_rules.specs.Uses.{Use, key_if, use_at}
use Rattle.leg_shares.specs.steps.Pools.{sharers_at}
use Rattle.sharing_rules.specs.steps.Shared.{use_now}
use Rattle.package_shares.specs.steps.Requests.{uses_at}
use Rattle.package_shares.proofs.OnceLemmas.{IsOfNone, IsTheOne, among-contains, among-each, apart-distinct, apart-unique, each-unique, one-or-none, range-map, same-truth, unique-among, unique-distinct}
use Rattle.package_shares.proofs.OwnUses.{own_of}

-- the use of what is asked
abbrev pub use_asked : Route → (now : ℕ) → Asked → Use
use_asked route now asked = use_now (sharers_at route asked.login asked.leg) now (want_of asked.task)

-- the key of a leg, of a query that may be there
abbrev key_by : Route → Option RpnQuery → ℕ → Option SetKey
key_by route None leg = None
key_by route (Some query) leg = Some (key_at route leg query)

module _ (route : Route) (now : ℕ) (login : Option (List ℕ)) where
  -- the use of a leg
  abbrev pub use_by : Option RpnQuery → ℕ → Use
  use_by query leg = use_now (sharers_at route login leg) now (key_by route query leg)

  -- ---- legs of the route

  abbrev use_in : Option RpnQuery → RouteLeg → Use
  use_in query leg = use_at now login (key_if query leg) leg

  by-there : (query : Option RpnQuery) (leg : ℕ) (found : RouteLeg) → slice_get route.legs leg ≡ Some found → use_by query leg ≡ use_in query found
  by-there None leg found is = ap (λ (o : Option RouteLeg). use_now (record { class = option_map_or (λ (l : RouteLeg). l.class) o 0; login = login }) now None) is
  by-there (Some query) leg found is =
      ap (λ (o : Option RouteLeg). use_now (record { class = option_map_or (λ (l : RouteLeg). l.class) o 0; login = login }) now
      (Some (record { dbs = option_map_or (λ (l : RouteLeg). l.databases) o []; query = query }))) is

  there-one : (query : Option RpnQuery) (leg : ℕ) (others : List RouteLeg) → leg < length route.legs
      → ((x : RouteLeg) × (leg < length route.legs) × (slice_get route.legs leg ≡ Some x) × (get_or route.legs leg x ≡ x))
      ⊎ ((length route.legs ≤ leg) × (slice_get route.legs leg ≡ None))
      → map (use_in query) (cons_option (slice_get route.legs leg) others) ≡ use_by query leg ∷ map (use_in query) others
  there-one query leg others inside (inl h) =
      ap (λ (o : Option RouteLeg). map (use_in query) (cons_option o others)) h.2
      ∙ ap (λ (u : Use). u ∷ map (use_in query) others) (sym (by-there query leg h.0 h.2))
  there-one query leg others inside (inr h) = absurd (omega (arith, inside, h.0))

  there-uses : (query : Option RpnQuery) (legs : List ℕ) → AllByRecursion (λ leg. leg < length route.legs) legs
      → map (use_in query) (filter_map (slice_get route.legs) legs) ≡ map (use_by query) legs
  there-uses query [] there = refl
  there-uses query (leg ∷ legs) there =
      there-one query leg (filter_map (slice_get route.legs) legs) there.0 (slice_get_cases route.legs leg).1
      ∙ ap (λ (us : List Use). use_by query leg ∷ us) (there-uses query legs there.1)

  -- ---- the one of a class

  module _ (query : Option RpnQuery) (class : ℕ) where
    none-of : (legs : List ℕ) → IsOfNone (class_of route) class legs → own_of class (map (use_by query) legs) ≡ []
    none-of [] none = refl
    none-of (leg ∷ legs) none =
        ap (λ (b : Bool). cond b (use_by query leg ∷ own_of class (map (use_by query) legs)) (own_of class (map (use_by query) legs))) none.0
        ∙ none-of legs none.1

    not-among : (leg : ℕ) (legs : List ℕ) → AllByRecursion (λ y. nat_eq leg y ≡ false) legs → list_any (nat_eq leg) legs ≡ false
    not-among leg [] none = refl
    not-among leg (y ∷ legs) none = ap (λ (b : Bool). b || list_any (nat_eq leg) legs) none.0 ∙ not-among leg legs none.1

    abbrev if_among : ℕ → List ℕ → List Use
    if_among leg legs = cond (list_any (nat_eq leg) legs) (use_by query leg ∷ []) []

    one-of : (leg : ℕ) (legs : List ℕ) → class_of route leg ≡ class → IsDistinct nat_eq legs
        → AllByRecursion (λ x. nat_eq (class_of route x) class ≡ true → x ≡ leg) legs
        → own_of class (map (use_by query) legs) ≡ if_among leg legs
    unfolding IsDistinct
    one-of leg [] own distinct only = refl
    one-of leg (x ∷ legs) own distinct only =
        let rest = one-of leg legs own distinct.1 only.1 in
        (elim (nat_eq (class_of route x) class) as (λ (b : Bool). nat_eq (class_of route x) class ≡ b → cond b (use_by query x ∷ own_of class (map (use_by query) legs)) (own_of class (map (use_by query) legs)) ≡ if_among leg (x ∷ legs)) [
          | true ↦ λ e.
              let same : x ≡ leg = only.0 e in
              let away : list_any (nat_eq leg) legs ≡ false =
              not-among leg legs (subst (λ (z : ℕ). AllByRecursion (λ y. nat_eq z y ≡ false) legs) same distinct.0) in
              let here : nat_eq leg x ≡ true = ap (nat_eq leg) same ∙ nat_eq_equiv.refl leg in
              ap (λ (us : List Use). use_by query x ∷ us) (rest ∙ ap (λ (b : Bool). cond b (use_by query leg ∷ []) []) away)
              ∙ ap (λ (z : ℕ). use_by query z ∷ []) same
              ∙ sym (ap (λ (b : Bool). cond (b || list_any (nat_eq leg) legs) (use_by query leg ∷ []) []) here)
          | false ↦ λ e.
              let apart : nat_eq leg x ≡ false =
              (elim (nat_eq leg x) as (λ (b : Bool). nat_eq leg x ≡ b → b ≡ false) [
                | true ↦ λ f.
                    let is : nat_eq (class_of route x) class ≡ true =
                    ap (λ (z : ℕ). nat_eq (class_of route z) class) (sym (eqb-true leg x f)) ∙ ap (λ (c : ℕ). nat_eq c class) own ∙ nat_eq_equiv.refl class in
                    absurd cc
                | false ↦ λ f. refl
              ]) refl in
              rest ∙ sym (ap (λ (b : Bool). cond (b || list_any (nat_eq leg) legs) (use_by query leg ∷ []) []) apart)
        ]) refl

    -- legs with the same members have the same use of the class
    same-own : (legs ones others : List ℕ) → IsDistinct nat_eq (map (class_of route) legs)
        → ((P : ℕ → Type 0) → AllByRecursion P legs → AllByRecursion P ones) → ((P : ℕ → Type 0) → AllByRecursion P legs → AllByRecursion P others)
        → IsDistinct nat_eq ones → IsDistinct nat_eq others → ((leg : ℕ) → list_any (nat_eq leg) ones ≡ list_any (nat_eq leg) others)
        → own_of class (map (use_by query) ones) ≡ own_of class (map (use_by query) others)
    same-own legs ones others apart within inside one other same = by-case (one-or-none (class_of route) class legs apart)
      where
        by-case : IsTheOne (class_of route) class legs ⊎ IsOfNone (class_of route) class legs
            → own_of class (map (use_by query) ones) ≡ own_of class (map (use_by query) others)
        by-case (inl the) =
            one-of the.leg ones the.own one (within (λ x. nat_eq (class_of route x) class ≡ true → x ≡ the.leg) the.only)
            ∙ ap (λ (b : Bool). cond b (use_by query the.leg ∷ []) []) (same the.leg)
            ∙ sym (one-of the.leg others the.own other (inside (λ x. nat_eq (class_of route x) class ≡ true → x ≡ the.leg) the.only))
        by-case (inr none) =
            none-of ones (within (λ x. nat_eq (class_of route x) class ≡ false) none)
            ∙ sym (none-of others (inside (λ x. nat_eq (class_of route x) class ≡ false) none))

-- ---- the legs of records

pub each-map : {A B : Type 0} (P : B → Type 0) (f : A → B) (xs : List A) → AllByRecursion (λ x. P (f x)) xs → AllByRecursion P (map f xs)
each-map P f [] each = tt
each-map P f (x ∷ xs) each = (each.0, each-map P f xs each.1)

each-append : {A : Type 0} (P : A → Type 0) (xs ys : List A) → AllByRecursion P xs → AllByRecursion P ys → AllByRecursion P (xs ++ ys)
each-append P [] ys one other = other
each-append P (x ∷ xs) ys one other = (one.0, each-append P xs ys one.1 other)

module _ (places : List Place) where
  abbrev spans_in : List ℕ → List Span
  spans_in legs = flat_map (λ leg. span_of leg (ranks_of leg places)) legs

  -- of places of legs, each with ranks there
  pub spans-each : (P : ℕ → Type 0) (legs : List ℕ) → AllByRecursion (λ leg. 1 ≤ length (ranks_of leg places) → P leg) legs
      → AllByRecursion (λ (s : Span). P s.leg) (spans_in legs)
  spans-each P [] each = tt
  spans-each P (leg ∷ legs) each =
      each-append (λ (s : Span). P s.leg) (span_of leg (ranks_of leg places)) (spans_in legs)
      ((elim (ranks_of leg places) as (λ (rs : List ℕ). (1 ≤ length rs → P leg) → AllByRecursion (λ (s : Span). P s.leg) (span_of leg rs)) [
        | [] ↦ λ p. tt
        | rank ∷ ranks ↦ λ p. (p (omega arith), tt)
      ]) each.0) (spans-each P legs each.1)

  -- they go to different classes, where all do
  spans-away : (at : ℕ → ℕ) (class : ℕ) (legs : List ℕ) → AllByRecursion (λ k. nat_eq class k ≡ false) (map at legs)
      → AllByRecursion (λ k. nat_eq class k ≡ false) (map (λ (s : Span). at s.leg) (spans_in legs))
  spans-away at class legs away =
      each-map (λ k. nat_eq class k ≡ false) (λ (s : Span). at s.leg) (spans_in legs)
      (spans-each (λ leg. nat_eq class (at leg) ≡ false) legs (weaken legs away))
    where
      weaken : (legs : List ℕ) → AllByRecursion (λ k. nat_eq class k ≡ false) (map at legs)
          → AllByRecursion (λ leg. 1 ≤ length (ranks_of leg places) → nat_eq class (at leg) ≡ false) legs
      weaken [] away = tt
      weaken (leg ∷ legs) away = (λ some. away.0, weaken legs away.1)

  spans-apart : (at : ℕ → ℕ) (legs : List ℕ) → IsDistinct nat_eq (map at legs) → IsDistinct nat_eq (map (λ (s : Span). at s.leg) (spans_in legs))
  unfolding IsDistinct
  spans-apart at [] apart = tt
  spans-apart at (leg ∷ legs) apart =
      (elim (ranks_of leg places) as (λ (rs : List ℕ). IsDistinct nat_eq (map (λ (s : Span). at s.leg) (span_of leg rs ++ spans_in legs))) [
        | [] ↦ spans-apart at legs apart.1
        | rank ∷ ranks ↦ (spans-away at (at leg) legs apart.0, spans-apart at legs apart.1)
      ])

module _ (route : Route) (legs : List ℕ) (places : List Place) where
  -- the legs of the records
  abbrev pub legs_had : List ℕ
  legs_had = map (λ (s : Span). leg_of legs s.leg) (spans_of (length legs) places)

  pub numbers-each : (P : ℕ → Type 0) (from count : ℕ) → ((i : ℕ) → i < from + count → P i) → AllByRecursion P (range_with_len from count)
  numbers-each P from zero each = tt
  numbers-each P from (suc count) each =
      (each from (omega arith), numbers-each P (from + 1) count (λ i inside. each i (omega (arith, inside))))

  pub at-each : (P : ℕ → Type 0) (xs : List ℕ) (i : ℕ) → AllByRecursion P xs → i < length xs → P (get_or xs i 0)
  at-each P [] i each inside = absurd (omega (arith, inside))
  at-each P (x ∷ xs) zero each inside = each.0
  at-each P (x ∷ xs) (suc i) each inside = at-each P xs i each.1 (omega (arith, inside))

  pub had-each : (P : ℕ → Type 0) → AllByRecursion P legs → AllByRecursion P legs_had
  had-each P each =
      each-map P (λ (s : Span). leg_of legs s.leg) (spans_of (length legs) places)
      (spans-each places (λ i. P (leg_of legs i)) (range_with_len 0 (length legs))
      (numbers-each (λ i. 1 ≤ length (ranks_of i places) → P (leg_of legs i)) 0 (length legs)
      (λ i inside some. at-each P legs i each (omega (arith, inside)))))

  pub had-apart : IsDistinct nat_eq (map (class_of route) legs)
      → IsDistinct nat_eq (map (λ (s : Span). class_of route (leg_of legs s.leg)) (spans_of (length legs) places))
  had-apart apart =
      spans-apart places (λ i. class_of route (leg_of legs i)) (range_with_len 0 (length legs))
      (subst (λ (ks : List ℕ). IsDistinct nat_eq ks)
      (sym (range-map (class_of route) (leg_of legs) legs 0 (λ j inside. ap (λ (i : ℕ). get_or legs i 0) (let e : 0 + j ≡ j = omega arith in e)))) apart)

-- ---- the legs that a fetch asks

module _ (legs : List ℕ) where
  -- by its places
  abbrev asked_at : List Place → List ℕ
  asked_at places = flat_map (λ place. option_to_list (slice_get legs place.leg)) places

  ranks-some : (places : List Place) (place : Place) → Contains places place → 1 ≤ length (ranks_of place.leg places)
  ranks-some [] place (i, inside, is) = absurd (omega (arith, inside))
  ranks-some (one ∷ places) place (zero, inside, is) =
      let own : (one.leg == place.leg) ≡ true = ap (λ (p : Place). p.leg == place.leg) is ∙ nat_eq_equiv.refl place.leg in
      subst (λ (b : Bool). 1 ≤ length (map (λ (p : Place). p.rank) (cond b (one ∷ filter (λ (p : Place). p.leg == place.leg) places) (filter (λ (p : Place). p.leg == place.leg) places))))
      (sym own) (omega arith)
  ranks-some (one ∷ places) place (suc i, inside, is) =
      let rest = ranks-some places place (i, omega (arith, inside), is) in
      (elim (one.leg == place.leg) as (λ (b : Bool). 1 ≤ length (map (λ (p : Place). p.rank) (cond b (one ∷ filter (λ (p : Place). p.leg == place.leg) places) (filter (λ (p : Place). p.leg == place.leg) places)))) [
        | true ↦ omega arith
        | false ↦ rest
      ])

  module _ (places : List Place) where
    -- the span of a leg that has ranks is among them
    span-among : (leg from count : ℕ) → from ≤ leg → leg < from + count → 1 ≤ length (ranks_of leg places)
        → list_any (nat_eq (leg_of legs leg)) (map (λ (s : Span). leg_of legs s.leg) (spans_in places (range_with_len from count))) ≡ true
    span-among leg from zero low high some = absurd (omega (arith, low, high))
    span-among leg from (suc count) low high some =
        (elim (nat_eq leg from) as (λ (b : Bool). nat_eq leg from ≡ b → list_any (nat_eq (leg_of legs leg)) (map (λ (s : Span). leg_of legs s.leg) (spans_in places (range_with_len from (suc count)))) ≡ true) [
          | true ↦ λ e. subst (λ (k : ℕ). list_any (nat_eq (leg_of legs leg)) (map (λ (s : Span). leg_of legs s.leg) (span_of k (ranks_of k places) ++ spans_in places (range_with_len (from + 1) count))) ≡ true)
              (eqb-true leg from e) (here (ranks_of leg places) some)
          | false ↦ λ e.
              past (ranks_of from places)
              (span-among leg (from + 1) count (let away : from ≢ leg = not-same leg from e in omega (arith, low, away)) (omega (arith, high)) some)
        ]) refl
      where
        here : (ranks : List ℕ) → 1 ≤ length ranks
            → list_any (nat_eq (leg_of legs leg)) (map (λ (s : Span). leg_of legs s.leg) (span_of leg ranks ++ spans_in places (range_with_len (from + 1) count))) ≡ true
        here [] some = absurd (omega (arith, some))
        here (rank ∷ ranks) some = ap (λ (b : Bool). b || list_any (nat_eq (leg_of legs leg)) (map (λ (s : Span). leg_of legs s.leg) (spans_in places (range_with_len (from + 1) count)))) (nat_eq_equiv.refl (leg_of legs leg))

        past : (ranks : List ℕ)
            → list_any (nat_eq (leg_of legs leg)) (map (λ (s : Span). leg_of legs s.leg) (spans_in places (range_with_len (from + 1) count))) ≡ true
            → list_any (nat_eq (leg_of legs leg)) (map (λ (s : Span). leg_of legs s.leg) (span_of from ranks ++ spans_in places (range_with_len (from + 1) count))) ≡ true
        past [] is = is
        past (rank ∷ ranks) is = ap (λ (b : Bool). nat_eq (leg_of legs leg) (leg_of legs from) || b) is ∙ or-true (nat_eq (leg_of legs leg) (leg_of legs from))

        not-same : (a b : ℕ) → nat_eq a b ≡ false → b ≢ a
        not-same a b apart same =
            let is : nat_eq a b ≡ true = ap (nat_eq a) same ∙ nat_eq_equiv.refl a in absurd cc

    had-at : (place : Place) (found : Option ℕ) → slice_get legs place.leg ≡ found → Contains places place
        → AllByRecursion (λ leg. list_any (nat_eq leg) (map (λ (s : Span). leg_of legs s.leg) (spans_of (length legs) places)) ≡ true) (option_to_list found)
    had-at place None is among = tt
    had-at place (Some leg) is among = (
      subst (λ (l : ℕ). list_any (nat_eq l) (map (λ (s : Span). leg_of legs s.leg) (spans_of (length legs) places)) ≡ true)
          (get_or_from_slice_get legs place.leg leg 0 is)
          (span-among place.leg 0 (length legs) (omega arith) (let inside = slice_get_within legs place.leg leg is in omega (arith, inside)) (ranks-some places place among)),
      tt,
    )

    -- each leg that is asked is among the legs of the records
    asked-had : (some : List Place) → AllByRecursion (Contains places) some
        → AllByRecursion (λ leg. list_any (nat_eq leg) (map (λ (s : Span). leg_of legs s.leg) (spans_of (length legs) places)) ≡ true) (asked_at some)
    asked-had [] among = tt
    asked-had (place ∷ some) among =
        each-append (λ leg. list_any (nat_eq leg) (map (λ (s : Span). leg_of legs s.leg) (spans_of (length legs) places)) ≡ true)
        (option_to_list (slice_get legs place.leg)) (asked_at some)
        (had-at place (slice_get legs place.leg) refl among.0) (asked-had some among.1)

    -- each leg that is asked is one of the legs
    asked-each : (P : ℕ → Type 0) → AllByRecursion P legs → (some : List Place) → AllByRecursion P (asked_at some)
    asked-each P each [] = tt
    asked-each P each (place ∷ some) =
        each-append P (option_to_list (slice_get legs place.leg)) (asked_at some)
        (by-get (slice_get legs place.leg) refl) (asked-each P each some)
      where
        at-each : (xs : List ℕ) (i : ℕ) (x : ℕ) → AllByRecursion P xs → slice_get xs i ≡ Some x → P x
        at-each [] i x each is = absurd cc
        at-each (y ∷ xs) zero x each is = let same : y ≡ x = cc in subst P same each.0
        at-each (y ∷ xs) (suc i) x each is = at-each xs i x each.1 is

        by-get : (found : Option ℕ) → slice_get legs place.leg ≡ found → AllByRecursion P (option_to_list found)
        by-get None is = tt
        by-get (Some leg) is = (at-each legs place.leg leg each is, tt)

-- ---- all works

pub map-each : {A B C : Type 0} (f : A → B) (g : B → C) (xs : List A) → map g (map f xs) ≡ map (λ x. g (f x)) xs
map-each f g [] = refl
map-each {A} {B} {C} f g (x ∷ xs) = ap (λ (ys : List C). g (f x) ∷ ys) (map-each f g xs)

module _ (route : Route) (now class : ℕ) where
  abbrev IsSame : Work → Type 0
  IsSame asked = own_of class (uses_at route now asked) ≡ own_of class (map (use_asked route now) (first_asked route asked))

  abbrev MayAsk : Work → Type 0
  MayAsk asked = AreThere route asked → IsDistinct nat_eq (map (class_of route) (legs_named asked)) → IsSame asked

  -- the uses of records are those of their legs
  records-by : (login : Option (List ℕ)) (legs : List ℕ) (query : RpnQuery) (syntax element : Option (List ℕ)) (spans : List Span)
      → map (use_asked route now) (map (records_asked route login legs query syntax element) spans)
      ≡ map (use_by route now login (Some query)) (map (λ (s : Span). leg_of legs s.leg) spans)
  records-by login legs query syntax element [] = refl
  records-by login legs query syntax element (span ∷ spans) =
      ap (λ (us : List Use). use_by route now login (Some query) (leg_of legs span.leg) ∷ us) (records-by login legs query syntax element spans)

  hits-by : (login : Option (List ℕ)) (legs : List ℕ) (query : RpnQuery)
      → map (use_asked route now) (map (hits_asked route login query) legs) ≡ map (use_by route now login (Some query)) legs
  hits-by login [] query = refl
  hits-by login (leg ∷ legs) query = ap (λ (us : List Use). use_by route now login (Some query) leg ∷ us) (hits-by login legs query)

  pub work-own : (asked : Work) → MayAsk asked
  work-own (work.Search login legs query small large medium small_element medium_element syntax room) there apart =
      ap (own_of class)
      (ap (λ (ls : List ℕ). map (λ (l : RouteLeg). use_at now login (Some (record { dbs = l.databases; query = query })) l) (filter_map (slice_get route.legs) ls))
      (apart-unique (class_of route) legs apart)
      ∙ there-uses route now login (Some query) legs (recursion_from_All (λ leg. leg < length route.legs) legs there) ∙ sym (hits-by login legs query))
  work-own (work.Fetch login legs query hits first count syntax element) there apart =
      let places = places_from hits first count in
      let asked = asked_at legs places in
      let is_there = recursion_from_All (λ leg. leg < length route.legs) legs there in
      ap (own_of class)
      (there-uses route now login (Some query) (unique_keys nat_eq asked)
      (each-unique (λ leg. leg < length route.legs) asked (asked-each legs places (λ leg. leg < length route.legs) is_there places)))
      ∙ same-own route now login (Some query) class legs (unique_keys nat_eq asked) (legs_had route legs places) apart
      (λ P each. each-unique P asked (asked-each legs places P each places)) (had-each route legs places) (unique-distinct asked)
      (apart-distinct (class_of route) (legs_had route legs places)
      (subst (λ (ks : List ℕ). IsDistinct nat_eq ks) (sym (map-each (λ (s : Span). leg_of legs s.leg) (class_of route) (spans_of (length legs) places)))
      (had-apart route legs places apart)))
      (λ leg. unique-among asked leg ∙ same-truth (list_any (nat_eq leg) asked) (list_any (nat_eq leg) (legs_had route legs places))
      (λ is. among-each (λ l. list_any (nat_eq l) (legs_had route legs places) ≡ true) asked leg
      (asked-had legs places places (recursion_from_All (Contains places) places (All-contains_itself places))) is)
      (λ is. among-each (λ l. list_any (nat_eq l) asked ≡ true) (legs_had route legs places) leg (back there) is))
      ∙ ap (own_of class) (sym (records-by login legs query syntax element (spans_of (length legs) places)))
    where
      asks : List Asked
      asks = all_records_asked route login legs query syntax element (places_from hits first count)

      leg-back : (spans : List Span)
          → AllByRecursion (λ (a : Asked). IsLegOf route (work.Fetch login legs query hits first count syntax element) a.leg) (map (records_asked route login legs query syntax element) spans)
          → AllByRecursion (λ l. list_any (nat_eq l) (asked_at legs (places_from hits first count)) ≡ true) (map (λ (s : Span). leg_of legs s.leg) spans)
      leg-back [] each = tt
      leg-back (span ∷ spans) each =
          (among-contains (asked_at legs (places_from hits first count)) (leg_of legs span.leg) each.0.named, leg-back spans each.1)

      back : AreThere route (work.Fetch login legs query hits first count syntax element)
          → AllByRecursion (λ l. list_any (nat_eq l) (asked_at legs (places_from hits first count)) ≡ true) (legs_had route legs (places_from hits first count))
      back there =
          leg-back (spans_of (length legs) (places_from hits first count))
          (recursion_from_All (λ (a : Asked). IsLegOf route (work.Fetch login legs query hits first count syntax element) a.leg) asks
          (first_of route (work.Fetch login legs query hits first count syntax element) there))
  work-own (work.Scan login leg ask) there apart =
      ap (own_of class) (there-uses route now login None (leg ∷ []) (recursion_from_All (λ l. l < length route.legs) (leg ∷ []) there))

-- ---- what is asked goes to different classes

-- the classes of what is asked
abbrev pub classes_asked : Route → List Asked → List ℕ
classes_asked route asked = map (λ (a : Asked). class_of route a.leg) asked

module _ (route : Route) where
  pub records-apart : (login : Option (List ℕ)) (legs : List ℕ) (query : RpnQuery) (syntax element : Option (List ℕ)) (places : List Place)
      → IsDistinct nat_eq (map (class_of route) legs)
      → IsDistinct nat_eq (classes_asked route (all_records_asked route login legs query syntax element places))
  records-apart login legs query syntax element places apart =
      subst (λ (ks : List ℕ). IsDistinct nat_eq ks)
      (sym (map-each (records_asked route login legs query syntax element) (λ (a : Asked). class_of route a.leg) (spans_of (length legs) places)))
      (had-apart route legs places apart)

  pub first-apart : (asked : Work) → IsDistinct nat_eq (map (class_of route) (legs_named asked))
      → IsDistinct nat_eq (classes_asked route (first_asked route asked))
  first-apart (work.Search login legs query small large medium small_element medium_element syntax room) apart =
      subst (λ (ks : List ℕ). IsDistinct nat_eq ks) (sym (map-each (hits_asked route login query) (λ (a : Asked). class_of route a.leg) legs)) apart
  first-apart (work.Fetch login legs query hits first count syntax element) apart =
      records-apart login legs query syntax element (places_from hits first count) apart
  first-apart (work.Scan login leg ask) apart = apart
