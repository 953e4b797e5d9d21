-- The legs for records of a request that was searched for at that moment need nothing more
use Rattle.std.proofs.Common.{◌≡◌, ◌∙◌, ◌||◌, ◌&&◌, ◌≤◌, ◌<◌, ℕ, zero, suc, Bool, true, false, cond, List, [], ◌∷◌, map, find, drop, length, get_or, Option, None, Some, Result, Ok, Err, refl, sym, ap, subst, nat_eq, nat_lt, arith, option_map}
use Rattle.std.specs.Prelude.{is_err}
use Rattle.std.specs.List.{AllByRecursion, IsDistinct, cons_option, range_with_len}
use Rattle.std.specs.Option.{option_map_or}
use Rattle.std.specs.Set.{is_member}
use Rattle.z_types.specs.contracts.key.SetKeyEq.TheImpl.Laws as key_law
use Rattle.z_types.specs.declared.address.Address.{Address}
use Rattle.z_types.specs.declared.diagnostic.Diag.{Diag}
use Rattle.z_types.specs.declared.key.SetKey.{SetKey}
use Rattle.z_types.specs.declared.marks.Mark.{Mark}
use Rattle.z_types.specs.declared.marks.Mark.TheVariants as mark
use Rattle.z_types.specs.declared.query.RpnQuery.{RpnQuery}
use Rattle.z_types.specs.declared.sitting.Sitting as sitting
use Rattle.z_types.specs.declared.work.Work.{Work}
use Rattle.z_types.specs.declared.work.Work.TheVariants as work
use Rattle.z_types.specs.declared.world.World as world
use Rattle.route_config.specs.declared.route.Route.{Route}
use Rattle.gateway_rules.specs.Outcomes.{places_from}
use Rattle.gateway_rules.specs.Targets.{behind_first, hidden}
use Rattle.pool_sets.specs.Table.{same_key}
use Rattle.package_quiet.specs.leg.LegView.{LegView}
use Rattle.package_quiet.specs.leg.Right.{IsRight}
use Rattle.package_quiet.specs.leg.Tasks.{want_of}
use Rattle.package_quiet.specs.leg.Terms.{class_of, members_of, terms_of}
use Rattle.package_quiet.specs.leg.declared.answers.LegAnswer.{LegAnswer}
use Rattle.package_quiet.specs.leg.declared.answers.LegAnswer.TheVariants as answer
use Rattle.package_quiet.specs.leg.declared.tasks.Task.TheVariants.{Hits}
use Rattle.package_quiet.specs.package_rules.Asked.{Asked, all_records_asked, element_shown, first_asked, hits_asked, key_at, leg_of, places_shown, ranks_of, records_asked, spans_of}
use Rattle.package_quiet.specs.package_rules.Planned.{by_hits, legs_named, then_asked_by, unless_marked}
use Rattle.package_quiet.specs.package_rules.Said.{all_hits, cause_of, hides, hits_said}
use Rattle.package_quiet.specs.package_rules.declared.spans.Span.{Span}
use Rattle.package_quiet.specs.package_rules.steps.Spans.{RunTo, rank_from}
use Rattle.package_quiet.proofs.package_rules.RunLemmas.{run_of_places}
use Rattle.package_quiet.specs.package.steps.Packages.{answers_of, asked_of}
use Rattle.sharing_rules.specs.Needed.{is_by, is_refused, is_set_by, last_at}
use Rattle.sharing_rules.specs.Sharers.{Sharers, same_sharers}
use Rattle.sharing_rules.specs.Uses.{Use}
use Rattle.sharing_rules.proofs.SharerFacts.{sharers_itself}
use Rattle.leg_shares.specs.steps.Pools.{IsOneTarget, sharers_at}
use Rattle.leg_shares.proofs.MemberLemmas.{own-site}
use Rattle.package_shares.specs.steps.Requests.{behind}
use Rattle.package_shares.specs.steps.Together.{AreApart, use_of, who_in}
use Rattle.package_shares.proofs.CostLemmas.{IsOnlyIn, own-each, uses_in}
use Rattle.package_shares.proofs.EndedLemmas.{IsEndedLeg}
use Rattle.package_shares.proofs.OwnUses.{keys_in, own-keys, own-last, own_of}
use Rattle.package_shares.proofs.UsesLemmas.{same-self}
use Rattle.package_shares.proofs.WorkUses.{at-each, classes_asked, numbers-each, records-apart, spans-each}

-- some sharers used their class and a key at this moment
pub record IsUsedNow (now : ℕ) (who : Sharers) (key : SetKey) (uses : List Use) : Type 0 where
  pub in_class : last_at (is_by who) uses ≡ Some now
  pub in_set : last_at (is_set_by who key) uses ≡ Some now
  pub among : is_member same_key (keys_in who uses) key ≡ true

-- what is asked needs nothing behind these uses: its key was used at this moment, and is not refused
pub record NeedsNothing {W : Type 0} (w : world.Ghosts W) (route : Route) (now : ℕ) (uses : List Use) (asked : Asked) : Type 0 where
  pub key : SetKey
  pub wants : want_of asked.task ≡ Some key
  pub used : IsUsedNow now (sharers_at route asked.login asked.leg) key uses
  pub found : is_refused w route (sharers_at route asked.login asked.leg) key ≡ false

-- ---- used at this moment

in-set : (who : Sharers) (now : ℕ) (key : SetKey) (want : Option SetKey) → want ≡ Some key
    → is_set_by who key (record { by = who; key = want; at = now }) ≡ true
in-set who now key want is =
    ap (λ (o : Option SetKey). same_sharers who who && option_map_or (same_key key) o false) is
    ∙ ap (λ (b : Bool). b && same_key key key) (sharers_itself who) ∙ key_law.laws-law.refl key

module _ {S : Type 0} (route : Route) (now : ℕ) (before : List Use) (first : List (LegView S)) where
  -- the key of a leg was
  used-by : (leg : LegView S) (key : SetKey) → IsOnlyIn route now first leg → want_of leg.task ≡ Some key
      → IsUsedNow now (who_in route leg) key (behind before (uses_in route now first))
  used-by leg key only wants =
      let who = who_in route leg in
      let one : Use = use_of route now leg in
      let last = own-last who (uses_in route now first) before before (same-self who before) in
      let alone : behind before (own_of who.class (uses_in route now first)) ≡ one ∷ before = ap (behind before) only in
      record {
        in_class =
            sym last.of_theirs ∙ ap (last_at (is_by who)) alone
            ∙ ap (λ (b : Bool). option_map (λ (u : Use). u.at) (cond b (Some one) (find (is_by who) before))) (sharers_itself who);
        in_set =
            sym (last.of_key key) ∙ ap (last_at (is_set_by who key)) alone
            ∙ ap (λ (b : Bool). option_map (λ (u : Use). u.at) (cond b (Some one) (find (is_set_by who key) before))) (in-set who now key (want_of leg.task) wants);
        among =
            ap (λ (ks : List SetKey). is_member same_key ks key) (own-keys who (uses_in route now first) before before refl ∙ ap (keys_in who) alone)
            ∙ ap (λ (b : Bool). is_member same_key (cons_option (cond b (want_of leg.task) None) (keys_in who before)) key) (sharers_itself who)
            ∙ ap (λ (o : Option SetKey). is_member same_key (cons_option o (keys_in who before)) key) wants
            ∙ ap (λ (b : Bool). b || is_member same_key (keys_in who before) key) (key_law.laws-law.refl key);
      }

  -- so was that of each leg of a Search
  abbrev IsSearched : Option (List ℕ) → RpnQuery → ℕ → Type 0
  IsSearched login query leg = IsUsedNow now (sharers_at route login leg) (key_at route leg query) (behind before (uses_in route now first))

  searched-by : (login : Option (List ℕ)) (query : RpnQuery) (legs : List (LegView S)) (named : List ℕ) → AllByRecursion (IsOnlyIn route now first) legs
      → map asked_of legs ≡ map (hits_asked route login query) named → AllByRecursion (IsSearched login query) named
  searched-by login query [] [] only asks = tt
  searched-by login query [] (leg ∷ named) only asks = absurd cc
  searched-by login query (one ∷ legs) [] only asks = absurd cc
  searched-by login query (one ∷ legs) (leg ∷ named) only asks =
      let is : asked_of one ≡ hits_asked route login query leg = ap (λ (all_of : List Asked). get_or all_of 0 (hits_asked route login query leg)) asks in
      let there : who_in route one ≡ sharers_at route login leg = ap (λ (a : Asked). sharers_at route a.login a.leg) is in
      let wants : want_of one.task ≡ Some (key_at route leg query) = ap (λ (a : Asked). want_of a.task) is in (
        subst (λ (who : Sharers). IsUsedNow now who (key_at route leg query) (behind before (uses_in route now first))) there
            (used-by one (key_at route leg query) only.0 wants),
        searched-by login query legs named only.1 (ap (drop 1) asks),
      )

-- ---- not refused

-- good answers, one of them in front
record AreFirst (answer : Result ℕ Diag) (others : Result (List ℕ) Diag) (all : List ℕ) : Type 0 where
  first : ℕ
  rest : List ℕ
  is : answer ≡ Ok first
  later : others ≡ Ok rest
  both : first ∷ rest ≡ all

parts : (answer : Result ℕ Diag) (others : Result (List ℕ) Diag) (all : List ℕ) → behind_first answer others ≡ Ok all → AreFirst answer others all
parts (Err diag) others all h = absurd cc
parts (Ok x) (Err diag) all h = absurd cc
parts (Ok x) (Ok xs) all h = record { first = x; rest = xs; is = refl; later = refl; both = cc }

-- a leg that has hits was not refused
hidden-found : (hide : Bool) (found : Result ℕ Diag) (hits : ℕ) → hidden hide found ≡ Ok hits → 1 ≤ hits → found ≡ Ok hits
hidden-found hide (Ok n) hits h some = h
hidden-found true (Err diag) hits h some = let none : 0 ≡ hits = cc in absurd (omega (arith, none, some))
hidden-found false (Err diag) hits h some = absurd cc

said-found : (said : LegAnswer) (hits : ℕ) → hits_said said ≡ Ok hits → 1 ≤ hits → said ≡ answer.Hits hits
said-found (answer.Hits n) hits h some = ap answer.Hits (let same : n ≡ hits = cc in same)
said-found (answer.Refused diag) hits h some = absurd cc
said-found (answer.Items items) hits h some = let none : 0 ≡ hits = cc in absurd (omega (arith, none, some))
said-found (answer.Broken items diag) hits h some = let none : 0 ≡ hits = cc in absurd (omega (arith, none, some))
said-found (answer.Scanned entries) hits h some = let none : 0 ≡ hits = cc in absurd (omega (arith, none, some))
said-found (answer.Marked m) hits h some = let none : 0 ≡ hits = cc in absurd (omega (arith, none, some))

module _ {W S : Type 0} (w : world.Ghosts W) (t : sitting.Ghosts S W) (route : Route) (most : ℕ)
    (one : (who : Sharers) → IsOneTarget w route who) (login : Option (List ℕ)) (query : RpnQuery) where
  abbrev IsFound : ℕ → Type 0
  IsFound leg = is_refused w route (sharers_at route login leg) (key_at route leg query) ≡ false

  right-found : (leg hits : ℕ) → IsRight w (terms_of route login leg) (Hits (key_at route leg query)) (answer.Hits hits) → IsFound leg
  right-found leg hits (address, among, right) =
      let key = key_at route leg query in
      let own = own-site login (members_of route (class_of route leg)) address among in
      let target = one (sharers_at route login leg) in
      sym (target.refuse own.0 key own.1.0) ∙ ap (λ (a : Address). is_err (w.search a key)) own.1.1
      ∙ ap is_err (right (subst (λ (a : Address). w.told a) own.1.1 (target.told own.0 own.1.0)))

  leg-found : (leg : LegView S) (place hits : ℕ) → IsEndedLeg w t route most leg → asked_of leg ≡ hits_asked route login query place
      → (said : LegAnswer) → said ≡ answer.Hits hits → IsRight w (terms_of route leg.login leg.leg) leg.task said → IsFound place
  leg-found leg place hits ended asks said is right =
      right-found place hits
      (subst (λ (a : LegAnswer). IsRight w (terms_of route login place) (Hits (key_at route place query)) a) is
      (subst (λ (a : Asked). IsRight w (terms_of route a.login a.leg) a.task said) asks right))

  found-by : (legs : List (LegView S)) (named hits : List ℕ) (i : ℕ) → AllByRecursion (IsEndedLeg w t route most) legs
      → map asked_of legs ≡ map (hits_asked route login query) named → all_hits route (answers_of legs) ≡ Ok hits
      → i < length named → 1 ≤ get_or hits i 0 → IsFound (get_or named i 0)
  found-by legs [] hits i ended asks all inside some = absurd (omega (arith, inside))
  found-by [] (leg ∷ named) hits i ended asks all inside some = absurd cc
  found-by (one ∷ legs) (leg ∷ named) hits i ended asks all inside some =
      let here : LegView S = one in
      let split : behind_first (hidden (hides route one.leg) (hits_said ended.0.said)) (all_hits route (answers_of legs)) ≡ Ok hits =
      sym (ap (λ (o : Option LegAnswer). all_hits route (cons_option (option_map (λ (a : LegAnswer). record { leg = here.leg; answer = a }) o) (answers_of legs))) ended.0.is)
      ∙ all in
      let both = parts (hidden (hides route one.leg) (hits_said ended.0.said)) (all_hits route (answers_of legs)) hits split in
      at-place (λ j rest later within more. found-by legs named rest j ended.1 (ap (drop 1) asks) later within more) i both inside (subst (λ (hs : List ℕ). 1 ≤ get_or hs i 0) (sym both.both) some)
    where
      at-place : ((j : ℕ) (rest : List ℕ) → all_hits route (answers_of legs) ≡ Ok rest → j < length named → 1 ≤ get_or rest j 0 → IsFound (get_or named j 0))
          → (j : ℕ) (both : AreFirst (hidden (hides route one.leg) (hits_said ended.0.said)) (all_hits route (answers_of legs)) hits)
          → j < length (leg ∷ named) → 1 ≤ get_or (both.first ∷ both.rest) j 0 → IsFound (get_or (leg ∷ named) j 0)
      at-place others zero both inside some =
          leg-found one leg both.first ended.0 (ap (λ (all_of : List Asked). get_or all_of 0 (hits_asked route login query leg)) asks) ended.0.said
          (said-found ended.0.said both.first (hidden-found (hides route one.leg) (hits_said ended.0.said) both.first both.is some) some) ended.0.right
      at-place others (suc j) both inside some = others j both.rest both.later (omega (arith, inside)) some

-- ---- what is asked then

-- the legs that have records to show have hits
run-some : (last from : ℕ) (ranks : List ℕ) → RunTo last from ranks → 1 ≤ length ranks → from ≤ last
run-some last from [] run some = absurd (omega (arith, some))
run-some last from (rank ∷ ranks) run some = run.1

shown-some : (small large medium room : ℕ) (hits : List ℕ) (leg : ℕ) → 1 ≤ length (ranks_of leg (places_shown small large medium room hits))
    → 1 ≤ get_or hits leg 0
shown-some small large medium room hits leg some = by-room (nat_lt room _) _ some
  where
    by-room : (over : Bool) (count : ℕ) → 1 ≤ length (ranks_of leg (cond over [] (places_from hits 1 count))) → 1 ≤ get_or hits leg 0
    by-room true count some = absurd (omega (arith, some))
    by-room false count some =
        let run = run-some (get_or hits leg 0) (rank_from hits 1 leg) (ranks_of leg (places_from hits 1 count)) (run_of_places hits 1 count leg) some in
        omega (arith, run)

module _ {W S : Type 0} (w : world.Ghosts W) (t : sitting.Ghosts S W) (route : Route) (now : ℕ) (before : List Use) (most : ℕ)
    (one : (who : Sharers) → IsOneTarget w route who) (first : List (LegView S)) (apart : AreApart route first)
    (ended : AllByRecursion (IsEndedLeg w t route most) first) where
  -- it needs nothing, and goes to different classes
  pub record AreNeedless (asked : List Asked) : Type 0 where
    pub each : AllByRecursion (NeedsNothing w route now (behind before (uses_in route now first))) asked
    pub differ : IsDistinct nat_eq (classes_asked route asked)

  nothing-asked : AreNeedless []
  unfolding IsDistinct
  nothing-asked = record { each = tt; differ = tt }

  abbrev IsGiven : Option (List ℕ) → List ℕ → RpnQuery → ℕ → Type 0
  IsGiven login legs query i =
      IsSearched route now before first login query (leg_of legs i) × IsFound w t route most one login query (leg_of legs i)

  all-needless : (login : Option (List ℕ)) (legs : List ℕ) (query : RpnQuery) (syntax element : Option (List ℕ)) (spans : List Span)
      → AllByRecursion (λ (s : Span). IsGiven login legs query s.leg) spans
      → AllByRecursion (NeedsNothing w route now (behind before (uses_in route now first))) (map (records_asked route login legs query syntax element) spans)
  all-needless login legs query syntax element [] are = tt
  all-needless login legs query syntax element (span ∷ spans) are = (
    record { key = key_at route (leg_of legs span.leg) query; wants = refl; used = are.0.0; found = are.0.1 },
    all-needless login legs query syntax element spans are.1,
  )

  records-needless : (login : Option (List ℕ)) (legs : List ℕ) (query : RpnQuery) (small large medium room : ℕ) (hits : List ℕ) (syntax element : Option (List ℕ))
      → map asked_of first ≡ map (hits_asked route login query) legs → IsDistinct nat_eq (map (class_of route) legs)
      → all_hits route (answers_of first) ≡ Ok hits
      → AreNeedless (all_records_asked route login legs query syntax element (places_shown small large medium room hits))
  records-needless login legs query small large medium room hits syntax element asks differ all =
      let places = places_shown small large medium room hits in
      let used = searched-by route now before first login query first legs (own-each route now first apart) asks in
      record {
        each =
            all-needless login legs query syntax element (spans_of (length legs) places)
            (spans-each places (IsGiven login legs query) (range_with_len 0 (length legs))
            (numbers-each route legs places (λ i. 1 ≤ length (ranks_of i places) → IsGiven login legs query i) 0 (length legs)
            (λ i inside some. (
              at-each route legs places (IsSearched route now before first login query) legs i used (omega (arith, inside)),
              found-by w t route most one login query first legs hits i ended asks all (omega (arith, inside)) (shown-some small large medium room hits i some),
            ))));
        differ = records-apart route login legs query syntax element places differ;
      }

  by-hits : (asked : Work) (found : Result (List ℕ) Diag) → map asked_of first ≡ first_asked route asked
      → IsDistinct nat_eq (map (class_of route) (legs_named asked)) → all_hits route (answers_of first) ≡ found → AreNeedless (by_hits route asked found)
  by-hits asked (Err diag) asks differ all = nothing-asked
  by-hits (work.Search login legs query small large medium small_element medium_element syntax room) (Ok hits) asks differ all =
      records-needless login legs query small large medium room hits syntax (element_shown small small_element medium_element hits) asks differ all
  by-hits (work.Fetch login legs query hits from count syntax element) (Ok all_of) asks differ all = nothing-asked
  by-hits (work.Scan login leg ask) (Ok hits) asks differ all = nothing-asked

  unless-needless : (m : Mark) (asked : List Asked) → AreNeedless asked → AreNeedless (unless_marked m asked)
  unless-needless mark.Plain asked are = are
  unless-needless mark.Link asked are = nothing-asked
  unless-needless (mark.Silent looks) asked are = nothing-asked
  unless-needless mark.Gone asked are = nothing-asked
  unless-needless (mark.Full sessions) asked are = nothing-asked

  -- what is asked then needs nothing
  pub then-needless : (asked : Work) → map asked_of first ≡ first_asked route asked → IsDistinct nat_eq (map (class_of route) (legs_named asked))
      → AreNeedless (then_asked_by route asked (answers_of first))
  then-needless asked asks differ =
      unless-needless (cause_of route (answers_of first)).mark (by_hits route asked (all_hits route (answers_of first)))
      (by-hits asked (all_hits route (answers_of first)) asks differ refl)
