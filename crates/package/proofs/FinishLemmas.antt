-- What comes of a Search by its room
use Rattle.std.proofs.Common.{◌≡◌, ◌∙◌, ◌<◌, ◌≤◌, ℕ, Bool, true, false, cond, List, [], length, map, Option, ap, sym, refl, arith}
use Rattle.std.specs.Prelude.{◌==◌, nat_lt}
use Rattle.std.proofs.lemmas.List.{length-map}
use Rattle.z_types.specs.Bib1.{bib1}
use Rattle.z_types.specs.MergedOrder.{Place, total}
use Rattle.z_types.specs.Shown.{shown}
use Rattle.z_types.specs.declared.conditions.Condition.TheVariants.{TooManyRecordsRetrieved}
use Rattle.z_types.specs.declared.diagnostic.Diag.{Diag}
use Rattle.z_types.specs.declared.outcome.Fetched.{Fetched}
use Rattle.z_types.specs.declared.outcome.Fetched.TheVariants as fetched
use Rattle.z_types.specs.declared.query.RpnQuery.{RpnQuery}
use Rattle.route_config.specs.declared.route.Route.{Route}
use Rattle.gateway_rules.specs.Outcomes.{places_from, whole, within_room}
use Rattle.leg.specs.LegView.{LegView}
use Rattle.package_rules.specs.declared.answered.Answered.{Answered}
use Rattle.package_rules.specs.Asked.{Asked, all_records_asked, places_shown, records_asked, spans_of}
use Rattle.package_rules.specs.Said.{fetches_of, records_said}
use Rattle.package.specs.steps.Packages.{asked_of}
use Rattle.package.proofs.ThenLemmas.{has_room}

-- where they are some
some_if : (count : ℕ) → ((count ≡ 0) → ⊥) → (count == 0) ≡ false
some_if count some = grind (arith, some)

-- there is no room for them
pub no_room : (room count : ℕ) (records : Fetched) (diag : Diag) → ((count ≡ 0) → ⊥) → room < count
    → diag ≡ bib1 TooManyRecordsRetrieved [] → fetched.Whole diag ≡ within_room room count records
no_room room count records diag some many is =
    let lt : nat_lt room count ≡ true = grind (arith, many) in
    ap fetched.Whole is
    ∙ sym (ap (λ (b : Bool). cond b fetched.None (cond (nat_lt room count) (fetched.Whole (bib1 TooManyRecordsRetrieved [])) records))
    (some_if count some)
    ∙ ap (λ (b : Bool). cond b (fetched.Whole (bib1 TooManyRecordsRetrieved [])) records) lt)

-- there is
pub with_room : (room count : ℕ) (records : Fetched) → ((count ≡ 0) → ⊥) → count ≤ room → records ≡ within_room room count records
with_room room count records some few =
    let ge : nat_lt room count ≡ false = grind (arith, few) in
    sym (ap (λ (b : Bool). cond b fetched.None (cond (nat_lt room count) (fetched.Whole (bib1 TooManyRecordsRetrieved [])) records))
    (some_if count some)
    ∙ ap (λ (b : Bool). cond b (fetched.Whole (bib1 TooManyRecordsRetrieved [])) records) ge)

-- what is no room for matters to nobody
same_by : (none many : Bool) (diag : Fetched) (f h : Fetched) → (many ≡ false → f ≡ h)
    → cond none fetched.None (cond many diag f) ≡ cond none fetched.None (cond many diag h)
same_by true many diag f h same = refl
same_by false true diag f h same = refl
same_by false false diag f h same = same refl

module _ (route : Route) (legs : List ℕ) (small large medium room : ℕ) (hits : List ℕ) where
  abbrev count : ℕ
  count = shown (total hits) small large medium

  -- the records that are shown are those at the first places, where there is room for them
  pub shown_is : (later : List Answered) → length hits ≡ length legs
      → within_room room count (whole (records_said route (fetches_of (length hits) (places_from hits 1 count) later) (places_from hits 1 count)))
      ≡ within_room room count (whole (records_said route
      (fetches_of (length legs) (places_shown small large medium room hits) later) (places_shown small large medium room hits)))
  shown_is later same =
      same_by (count == 0) (nat_lt room count) (fetched.Whole (bib1 TooManyRecordsRetrieved []))
      (whole (records_said route (fetches_of (length hits) (places_from hits 1 count) later) (places_from hits 1 count)))
      (whole (records_said route (fetches_of (length legs) (places_shown small large medium room hits) later)
      (places_shown small large medium room hits)))
      (λ few. ap (λ (n : ℕ).
      whole (records_said route (fetches_of n (places_from hits 1 count) later) (places_from hits 1 count))) same
      ∙ ap (λ (places : List Place). whole (records_said route (fetches_of (length legs) places later) places))
      (sym (has_room small large medium room hits few)))

  -- a leg was asked for each span of them
  pub asked_each : {S : Type 0} (later : List (LegView S)) (login : Option (List ℕ)) (query : RpnQuery)
      (syntax element : Option (List ℕ)) → length hits ≡ length legs
      → map asked_of later ≡ all_records_asked route login legs query syntax element (places_shown small large medium room hits)
      → count ≤ room → length later ≡ length (spans_of (length hits) (places_from hits 1 count))
  asked_each later login query syntax element same asks few =
      let room_is : nat_lt room count ≡ false = grind (arith, few) in
      sym (length-map later asked_of) ∙ ap (λ (xs : List Asked). length xs) asks
      ∙ length-map (spans_of (length legs) (places_shown small large medium room hits)) (records_asked route login legs query syntax element)
      ∙ ap (λ (places : List Place). length (spans_of (length legs) places)) (has_room small large medium room hits room_is)
      ∙ ap (λ (n : ℕ). length (spans_of n (places_from hits 1 count))) (sym same)
