-- The records that legs answered, where none is marked, are those of the world, or the first diagnostic among both is the same
use Rattle.std.proofs.Common.{◌≡◌, ◌<◌, ◌≤◌, ◌+◌, ◌-◌, ◌∙◌, ℕ, List, length, All, Option, None, Some, Result, Ok, Err, find, get_or, ap, sym, refl, subst, arith, slice_get, option_map, option_and_then}
use Rattle.std.specs.Prelude.{◌==◌}
use Rattle.std.proofs.lemmas.List.Elements.{All-get_or}
use Rattle.std.proofs.lemmas.Option.{slice_get-get_or}
use Rattle.z_types.specs.declared.diagnostic.Diag.{Diag}
use Rattle.z_types.specs.declared.key.SetKey.{SetKey}
use Rattle.z_types.specs.declared.query.RpnQuery.{RpnQuery}
use Rattle.z_types.specs.declared.records.Item.{Item}
use Rattle.z_types.specs.declared.records.NamedRecord.{NamedRecord}
use Rattle.z_types.specs.declared.world.World as world
use Rattle.z_types.specs.Logins.{inside}
use Rattle.z_types.specs.Under.{under}
use Rattle.z_types.specs.MergedOrder.{Place, place_at}
use Rattle.route_config.specs.Sound.{IsSound}
use Rattle.route_config.specs.declared.route.Route.{Route}
use Rattle.virt_db.specs.Legs.{LegAt, leg_at}
use Rattle.gateway_rules.specs.Fair.{IsFair}
use Rattle.gateway_rules.specs.Outcomes.{places_from}
use Rattle.gateway_rules.specs.Targets.{hits_at, hits_of, named, record_at, records_at}
use Rattle.leg.specs.Terms.{databases_of}
use Rattle.leg.specs.declared.answers.LegAnswer.{LegAnswer}
use Rattle.leg.specs.declared.tasks.Task.{Task}
use Rattle.leg.specs.declared.tasks.Task.TheVariants.{Records}
use Rattle.package_rules.specs.declared.answered.Answered.{Answered}
use Rattle.package_rules.specs.declared.spans.Span.{Span}
use Rattle.package_rules.specs.Asked.{all_records_asked, key_at, leg_of, ranks_of, records_asked, spans_of}
use Rattle.package_rules.specs.Said.{fetches_of, item_said, records_said, said_at, said_by}
use Rattle.package_rules.specs.Truth.{AreAnswersTo}
use Rattle.package_rules.specs.steps.Spans.{rank_from}
use Rattle.package_rules.proofs.Agreed.{AreGood, IsGood, agreed}
use Rattle.package_rules.proofs.Found.{IsFetch, fetch_found, span_found, span_from, span_there}
use Rattle.package_rules.proofs.HitsSaid.{good_one, leg_found, search_at}
use Rattle.package_rules.proofs.ItemSaid.{item_is}
use Rattle.package_rules.proofs.RankGood.{IsRankOf, good_rank, rank_of}
use Rattle.package_rules.proofs.Rooms.{length-hits}
use Rattle.package_rules.proofs.Told.{IsTold, told_at}
use Rattle.package_rules.proofs.Unmarked.{AreUnmarked}

-- an item under the name of a leg's database
abbrev named_if : LegAt → Option (Result Item Diag) → Option (Result NamedRecord Diag)
named_if at said = option_and_then (λ item. Some (named at item)) said

-- it is as good as the item
good_named : (at : LegAt) (said : Option (Result Item Diag)) → IsGood (named_if at said) → IsGood said
good_named at None good = tt
good_named at (Some (Ok item)) good = tt
good_named at (Some (Err diag)) good = good

-- what is said at a rank of a leg whose answer was found
said_is : (route : Route) (fetches : List (Span × Answered)) (leg rank : ℕ) (span : Span) (a : Answered) (at : LegAt)
    → find (λ (fetch : Span × Answered). fetch.0.leg == leg) fetches ≡ Some (span, a) → leg_at route a.leg ≡ Some at
    → said_at route fetches (place_at leg rank) ≡ named_if at (item_said a.answer (rank - span.first))
said_is route fetches leg rank span a at found there =
    ap (option_and_then (said_by route rank)) found
    ∙ ap (λ (o : Option LegAt). option_and_then (λ (said : Result Item Diag). option_map (λ (x : LegAt). named x said) o)
    (item_said a.answer (rank - span.first))) there

-- the search of a leg that has hits, at the address that answered
searched_at : {W : Type 0} (w : world.Ghosts W) (login : Option (List ℕ)) (route : Route) (query : RpnQuery) (leg : ℕ) (task : Task) (said : LegAnswer) (hits : ℕ)
    (told : IsTold w login route leg task said) → hits_at (under login w) query (leg_at route leg) ≡ Ok hits → 1 ≤ hits
    → (under login w).search told.address (key_at route leg query) ≡ Ok hits
searched_at w login route query leg task said hits told found some =
    told.means.search (key_at route leg query) ∙ search_at (under login w) route query leg told.at told.dbs
    ∙ leg_found (under login w) query (leg_at route leg) told.at hits told.there found some

module _ {W : Type 0} (w : world.Ghosts W) (login : Option (List ℕ)) (route : Route) (legs : List ℕ) (query : RpnQuery) (syntax element : Option (List ℕ))
    (hits : List ℕ) (first count : ℕ) (answers : List Answered) where
  abbrev places : List Place
  places = places_from hits first count

  -- the legs answered for the records at places of the world's hits, and none is marked
  pub record AreFetched : Type 0 where
    pub fair : IsFair w route
    pub sound : IsSound route
    pub there : All (λ leg. leg < length route.legs) legs
    pub found : hits_of (under login w) route legs query ≡ Ok hits
    pub answered : AreAnswersTo w route (all_records_asked route login legs query syntax element places) answers
    pub unmarked : AreUnmarked answers

  abbrev said : Place → Option (Result NamedRecord Diag)
  said = said_at route (fetches_of (length legs) places answers)

  abbrev meant : Place → Option (Result NamedRecord Diag)
  meant = record_at (under login w) route legs query syntax element

  -- what is known of a leg with a place among these
  record HasFetch (leg : ℕ) (from many : ℕ) : Type 0 where
    pub fetch : IsFetch w route (records_asked route login legs query syntax element) leg (spans_of (length legs) places) answers
        (span_from leg from many)
    pub told : IsTold w login route (leg_of legs leg)
        (Records (key_at route (leg_of legs leg) query) from many syntax element) fetch.answered.answer
    pub own : slice_get legs leg ≡ Some (leg_of legs leg)
    pub search : (under login w).search told.address (key_at route (leg_of legs leg) query) ≡ Ok (get_or hits leg 0)

  has_fetch : (place : Place) (front : List Place) → AreFetched → IsRankOf hits first count place front
      → HasFetch place.leg (rank_from hits first place.leg) (length (ranks_of place.leg places))
  has_fetch place front are is =
      let from : ℕ = rank_from hits first place.leg in
      let many : ℕ = length (ranks_of place.leg places) in
      let leg : ℕ = leg_of legs place.leg in
      let key : SetKey = key_at route leg query in
      let inside : place.leg < length legs = omega (arith, is.leg, length-hits (under login w) route legs query hits are.found) in
      let span : find (λ (s : Span). s.leg == place.leg) (spans_of (length legs) places) ≡ Some (span_from place.leg from many) =
      span_found place.leg (length legs) places (span_from place.leg from many)
      (span_there place.leg (get_or hits place.leg 0) from (ranks_of place.leg places) is.run is.some) refl inside in
      let fetch = fetch_found w route (records_asked route login legs query syntax element) place.leg (spans_of (length legs) places) answers
      (span_from place.leg from many) are.answered are.unmarked span in
      let told : IsTold w login route leg (Records key from many syntax element) fetch.answered.answer =
      told_at w login route leg (Records key from many syntax element) fetch.answered.answer are.fair are.sound
      (All-get_or (λ (l : ℕ). l < length route.legs) legs place.leg 0 inside are.there) fetch.unmarked fetch.is.right in
      let good : hits_at (under login w) query (leg_at route leg) ≡ Ok (get_or hits place.leg 0) =
      good_one (λ (l : ℕ). hits_at (under login w) query (leg_at route l)) legs hits place.leg 0 0 are.found inside in
      let some : 1 ≤ get_or hits place.leg 0 = omega (arith, is.within) in
      record {
        fetch = fetch;
        told = told;
        own = slice_get-get_or legs place.leg 0 inside;
        search = searched_at w login route query leg (Records key from many syntax element) fetch.answered.answer (get_or hits place.leg 0)
            told good some;
      }

  -- at each place that has no diagnostic before it, the legs say what the targets mean
  place_agrees : (place : Place) (front : List Place) → AreFetched → IsRankOf hits first count place front
      → HasFetch place.leg (rank_from hits first place.leg) (length (ranks_of place.leg places)) → AreGood said front
      → said place ≡ meant place
  place_agrees place front are is has good =
      let from : ℕ = rank_from hits first place.leg in
      let many : ℕ = length (ranks_of place.leg places) in
      let behind : ℕ = length (ranks_of place.leg front) in
      let leg : ℕ = leg_of legs place.leg in
      let key : SetKey = key_at route leg query in
      let at : LegAt = has.told.at in
      let a : Answered = has.fetch.answered in
      let there : leg_at route a.leg ≡ Some at = ap (leg_at route) has.fetch.is.leg ∙ has.told.there in
      let says : (j : ℕ) → said (place_at place.leg (from + j)) ≡ named_if at (item_said a.answer j) =
      λ j. said_is route (fetches_of (length legs) places answers) place.leg (from + j) (span_from place.leg from many) a at
      has.fetch.found there
      ∙ ap (λ (n : ℕ). named_if at (item_said a.answer n)) (omega arith) in
      let before : (j : ℕ) → j < behind → IsGood (item_said a.answer j) =
      λ j inside. good_named at (item_said a.answer j)
      (subst IsGood (says j) (good_rank said place.leg (get_or hits place.leg 0) from front j is.before good inside)) in
      let item : item_said a.answer behind ≡ Some ((under login w).record_ has.told.address key (from + behind) syntax element) =
      item_is w (databases_of route leg) (inside login has.told.address) key (get_or hits place.leg 0) from many syntax element a.answer behind
      has.fetch.is.fits has.fetch.unmarked has.told.right has.search is.within is.inside before in
      let means : (under login w).record_ has.told.address key (from + behind) syntax element
      ≡ (under login w).record_ at.address (record { dbs = at.dbs; query = query }) place.rank syntax element =
      has.told.means.record_ key (from + behind) syntax element
      ∙ ap (λ (dbs : List (List ℕ)). (under login w).record_ at.address (record { dbs = dbs; query = query }) (from + behind) syntax element) has.told.dbs
      ∙ ap (λ (n : ℕ). (under login w).record_ at.address (record { dbs = at.dbs; query = query }) n syntax element) (sym is.rank) in
      let meant_is : meant place
      ≡ Some (named at ((under login w).record_ at.address (record { dbs = at.dbs; query = query }) place.rank syntax element)) =
      ap (λ (o : Option ℕ). option_map
      (λ (x : LegAt). named x ((under login w).record_ x.address (record { dbs = x.dbs; query = query }) place.rank syntax element))
      (option_and_then (leg_at route) o)) has.own
      ∙ ap (option_map
      (λ (x : LegAt). named x ((under login w).record_ x.address (record { dbs = x.dbs; query = query }) place.rank syntax element))) has.told.there in
      ap (λ (n : ℕ). said (place_at place.leg n)) is.rank ∙ says behind ∙ ap (named_if at) item
      ∙ ap (λ (x : Result Item Diag). Some (named at x)) means ∙ sym meant_is

  -- so they do at all, up to the first diagnostic
  pub records_are : AreFetched
      → records_said route (fetches_of (length legs) places answers) places ≡ records_at (under login w) route legs query syntax element places
  records_are are =
      agreed said meant places
      (λ front place rest split good. let is = rank_of hits first count place front rest split in
      place_agrees place front are is (has_fetch place front are is) good)
