-- What a work asks then, where that is nothing, and where it is not
use Rattle.std.proofs.Common.{◌≡◌, ◌∙◌, ◌+◌, ℕ, zero, suc, Bool, true, false, cond, List, [], length, map, Option, Result, Ok, Err, ap, refl}
use Rattle.std.specs.Prelude.{nat_lt}
use Rattle.std.specs.List.{range_with_len}
use Rattle.std.specs.Prelude.{flat_map}
use Rattle.z_types.specs.MergedOrder.{Place, total}
use Rattle.z_types.specs.Shown.{shown}
use Rattle.z_types.specs.declared.diagnostic.Diag.{Diag}
use Rattle.z_types.specs.declared.marks.Mark.{Mark}
use Rattle.z_types.specs.declared.marks.Mark.TheVariants as mark
use Rattle.z_types.specs.declared.query.RpnQuery.{RpnQuery}
use Rattle.z_types.specs.declared.work.Work.{Work}
use Rattle.route_config.specs.declared.route.Route.{Route}
use Rattle.gateway_rules.specs.Outcomes.{places_from}
use Rattle.package_rules.specs.Asked.{all_records_asked, places_shown, ranks_of, records_asked, span_of, then_asked}
use Rattle.package_rules.specs.Planned.{by_hits, unless_marked}

-- ---- no place

no_spans_from : (from count : ℕ) → flat_map (λ (leg : ℕ). span_of leg (ranks_of leg [])) (range_with_len from count) ≡ []
no_spans_from from zero = refl
no_spans_from from (suc count) = no_spans_from (from + 1) count

pub none_asked : (route : Route) (login : Option (List ℕ)) (legs : List ℕ) (query : RpnQuery) (syntax element : Option (List ℕ)) (places : List Place)
    → places ≡ [] → all_records_asked route login legs query syntax element places ≡ []
none_asked route login legs query syntax element places none =
    ap (all_records_asked route login legs query syntax element) none
    ∙ ap (map (records_asked route login legs query syntax element)) (no_spans_from 0 (length legs))

none_if : (b : Bool) (hits : List ℕ) → cond b [] (places_from hits 1 0) ≡ []
none_if true hits = refl
none_if false hits = refl

-- none are shown
pub none_shown : (small large medium room : ℕ) (hits : List ℕ) → shown (total hits) small large medium ≡ 0
    → places_shown small large medium room hits ≡ []
none_shown small large medium room hits none =
    ap (λ (n : ℕ). cond (nat_lt room n) [] (places_from hits 1 n)) none ∙ none_if (nat_lt room 0) hits

-- there is no room for them
pub too_many : (small large medium room : ℕ) (hits : List ℕ) → nat_lt room (shown (total hits) small large medium) ≡ true
    → places_shown small large medium room hits ≡ []
too_many small large medium room hits many =
    ap (λ (b : Bool). cond b [] (places_from hits 1 (shown (total hits) small large medium))) many

-- there is
pub has_room : (small large medium room : ℕ) (hits : List ℕ) → nat_lt room (shown (total hits) small large medium) ≡ false
    → places_shown small large medium room hits ≡ places_from hits 1 (shown (total hits) small large medium)
has_room small large medium room hits few =
    ap (λ (b : Bool). cond b [] (places_from hits 1 (shown (total hits) small large medium))) few

-- ---- nothing more is asked

unmarked_none : (m : Mark) → unless_marked m [] ≡ []
unmarked_none mark.Plain = refl
unmarked_none mark.Link = refl
unmarked_none (mark.Silent looks) = refl
unmarked_none mark.Gone = refl
unmarked_none (mark.Full sessions) = refl

-- where nothing is asked, whatever the hits
pub nothing_then : (route : Route) (asked : Work) (m : Mark) (hits : Result (List ℕ) Diag)
    → ((found : List ℕ) → then_asked route asked found ≡ []) → unless_marked m (by_hits route asked hits) ≡ []
nothing_then route asked m (Ok hits) none = ap (unless_marked m) (none hits) ∙ unmarked_none m
nothing_then route asked m (Err diag) none = unmarked_none m

-- where a leg is refused
pub refused_then : (route : Route) (asked : Work) (m : Mark) (diag : Diag) → unless_marked m (by_hits route asked (Err diag)) ≡ []
refused_then route asked m diag = unmarked_none m
