-- When the legs of a request may share their classes: by its work alone
use Rattle.std.proofs.Common.{◌≡◌, ◌∙◌, ◌≤◌, ℕ, Bool, true, cond, List, [], ◌∷◌, map, length, Option, None, refl, sym, ap, subst, nat_eq, arith}
use Rattle.std.specs.Cmp.{nat_eq_equiv}
use Rattle.std.specs.List.{AllByRecursion, IsDistinct, cons_option}
use Rattle.std.specs.Set.{distinct_count, is_member, unique_keys}
use Rattle.z_types.specs.Logins.{same_login}
use Rattle.z_types.specs.declared.key.SetKey.{SetKey}
use Rattle.z_types.specs.declared.work.Work.{Work}
use Rattle.z_types.specs.declared.world.World as world
use Rattle.gateway_rules.specs.Fair.{IsFair}
use Rattle.route_config.specs.Sound.{IsSound}
use Rattle.route_config.specs.declared.route.Route.{Route}
use Rattle.pool_sets.specs.Table.{same_key}
use Rattle.package_quiet.specs.leg.LegView.{LegView}
use Rattle.package_quiet.specs.leg.Tasks.{want_of}
use Rattle.package_quiet.specs.leg.Terms.{class_of}
use Rattle.package_quiet.specs.package_rules.Asked.{Asked, first_asked}
use Rattle.package_quiet.specs.package.steps.Packages.{asked_of}
use Rattle.sharing_rules.specs.Orderly.{keys_used, logins_used}
use Rattle.sharing_rules.specs.Sharers.{Sharers}
use Rattle.sharing_rules.specs.Uses.{Use}
use Rattle.sharing_rules.specs.steps.Shared.{AreInOrder, FindsRoom, use_now}
use Rattle.sharing_rules.proofs.LoginRoom.{login_used}
use Rattle.sharing_rules.proofs.SharerFacts.{sharers_itself}
use Rattle.leg_shares.specs.steps.Pools.{MayUse}
use Rattle.leg_shares.proofs.MemberLemmas.{fair-one}
use Rattle.package_shares.specs.steps.Requests.{MayWork, behind, uses_at}
use Rattle.package_shares.specs.steps.Together.{AreApart, MayShare, class_in, use_of, who_in}
use Rattle.package_shares.proofs.CostLemmas.{IsOnlyIn, own-each, uses_in}
use Rattle.package_shares.proofs.NeedLemmas.{NeedsNothing}
use Rattle.package_shares.proofs.OwnUses.{keys_in, logins_in, own-keys, own-logins, own_of, same-keys, same-logins}
use Rattle.package_shares.proofs.WorkUses.{classes_asked, first-apart, map-each, use_asked, work-own}

-- a use of the class by a login, of whatever key, is one of that login
one-more : (who : Sharers) (now : ℕ) (want : Option SetKey) (before : List Use)
    → logins_in who.class (use_now who now want ∷ before) ≡ who.login ∷ logins_in who.class before
one-more who now want before =
    ap (λ (b : Bool). map (λ (u : Use). u.by.login) (cond b (use_now who now want ∷ own_of who.class before) (own_of who.class before))) (nat_eq_equiv.refl who.class)

room-of : (who : Sharers) (now : ℕ) (want : Option SetKey) (before : List Use) (most : ℕ)
    → distinct_count same_login (logins_in who.class (use_now who now want ∷ before)) ≤ most → logins_used who.class (use_now who now None ∷ before) ≤ most
room-of who now want before most few =
    subst (λ (ls : List (Option (List ℕ))). distinct_count same_login ls ≤ most) (one-more who now want before ∙ sym (one-more who now None before)) few

module _ {S : Type 0} (route : Route) where
  -- legs that are asked for what goes to different classes do
  pub legs-apart : (legs : List (LegView S)) (asked : List Asked) → map asked_of legs ≡ asked → IsDistinct nat_eq (classes_asked route asked)
      → AreApart route legs
  legs-apart legs asked asks differ =
      subst (λ (ks : List ℕ). IsDistinct nat_eq ks) (map-each asked_of (λ (a : Asked). class_of route a.leg) legs)
      (subst (λ (as_asked : List Asked). IsDistinct nat_eq (classes_asked route as_asked)) (sym asks) differ)

  -- uses at one moment stand in order
  pub legs-fall : (now : ℕ) (legs : List (LegView S)) (before : List Use) → AreInOrder now before → AreInOrder now (behind before (uses_in route now legs))
  legs-fall now [] before falls = falls
  legs-fall now (leg ∷ legs) before falls = legs-fall now legs (use_of route now leg ∷ before) (omega arith, falls)

module _ {W S : Type 0} (w : world.Ghosts W) (route : Route) (now : ℕ) (before : List Use) (asked : Work) (fair : IsFair w route)
    (sound : IsSound route) (may : MayWork route now before asked) (first : List (LegView S))
    (asks : map asked_of first ≡ first_asked route asked) where
  -- the first legs use what the work does
  pub first-own : (class : ℕ) → own_of class (uses_in route now first) ≡ own_of class (uses_at route now asked)
  first-own class =
      ap (own_of class) (sym (map-each asked_of (use_asked route now) first) ∙ ap (map (use_asked route now)) asks)
      ∙ sym (work-own route now class asked may.there may.apart)

  pub first-differ : AreApart route first
  first-differ = legs-apart route first (first_asked route asked) asks (first-apart route asked may.apart)

  few-by : (leg : LegView S) → IsOnlyIn route now first leg → keys_used (who_in route leg) (use_of route now leg ∷ before) ≤ route.pool.sets_max
  few-by leg only =
      let who = who_in route leg in
      let same : keys_in who (behind before (uses_at route now asked)) ≡ keys_in who (use_of route now leg ∷ before) =
      own-keys who (uses_at route now asked) before before refl
      ∙ ap (λ (us : List Use). keys_in who (behind before us)) (sym (first-own who.class) ∙ only) in
      subst (λ (ks : List SetKey). distinct_count same_key ks ≤ route.pool.sets_max) same (may.few who)

  room-by : (leg : LegView S) → IsOnlyIn route now first leg → FindsRoom route (who_in route leg) now before
  room-by leg only =
      let class = class_in route leg in
      let same : logins_in class (behind before (uses_at route now asked)) ≡ logins_in class (use_of route now leg ∷ before) =
      own-logins class (uses_at route now asked) before before refl
      ∙ ap (λ (us : List Use). logins_in class (behind before us)) (sym (first-own class) ∙ only) in
      room-of (who_in route leg) now (want_of leg.task) before route.pool.max_sessions
      (subst (λ (ls : List (Option (List ℕ))). distinct_count same_login ls ≤ route.pool.max_sessions) same (may.own class))

  each-may : (legs : List (LegView S)) → AllByRecursion (IsOnlyIn route now first) legs
      → AllByRecursion (λ leg. MayUse w route (who_in route leg) now before (want_of leg.task)) legs
  each-may [] only = tt
  each-may (leg ∷ legs) only = (
    record { one = fair-one w route (who_in route leg) fair; sound = sound; falls = may.falls; few = few-by leg only.0; own = room-by leg only.0 },
    each-may legs only.1,
  )

  pub may-first : MayShare w route now before first
  may-first = record { apart = first-differ; each = each-may first (own-each route now first first-differ) }

  -- ---- legs that need nothing more

  abbrev used : List Use
  used = behind before (uses_in route now first)

  few-used : (who : Sharers) → keys_used who used ≤ route.pool.sets_max
  few-used who =
      subst (λ (ks : List SetKey). distinct_count same_key ks ≤ route.pool.sets_max)
      (same-keys who (uses_in route now first) (uses_at route now asked) before (sym (first-own who.class))) (may.few who)

  few-again : (leg : LegView S) → NeedsNothing w route now used (asked_of leg)
      → keys_used (who_in route leg) (use_of route now leg ∷ used) ≤ route.pool.sets_max
  few-again leg need =
      let who = who_in route leg in
      let more : keys_in who (use_of route now leg ∷ used) ≡ need.key ∷ keys_in who used =
      ap (λ (b : Bool). cons_option (cond b (want_of leg.task) None) (keys_in who used)) (sharers_itself who)
      ∙ ap (λ (o : Option SetKey). cons_option o (keys_in who used)) need.wants in
      let once : distinct_count same_key (need.key ∷ keys_in who used) ≡ keys_used who used =
      ap (λ (b : Bool). length (cond b (unique_keys same_key (keys_in who used)) (need.key ∷ unique_keys same_key (keys_in who used)))) need.used.among in
      let few = few-used who in
      let counted : keys_used who (use_of route now leg ∷ used) ≡ keys_used who used =
      ap (λ (ks : List SetKey). distinct_count same_key ks) more ∙ once in
      omega (arith, counted, few)

  -- its login is among those that used the class
  room-again : (leg : LegView S) → NeedsNothing w route now used (asked_of leg) → FindsRoom route (who_in route leg) now used
  room-again leg need =
      let class = class_in route leg in
      let more = one-more (who_in route leg) now (want_of leg.task) used in
      let among : is_member same_login (logins_in class used) leg.login ≡ true = login_used (who_in route leg) used now need.used.in_class in
      let once : distinct_count same_login (leg.login ∷ logins_in class used) ≡ logins_used class used =
      ap (λ (b : Bool). length (cond b (unique_keys same_login (logins_in class used)) (leg.login ∷ unique_keys same_login (logins_in class used)))) among in
      let few : logins_used class used ≤ route.pool.max_sessions =
      subst (λ (ls : List (Option (List ℕ))). distinct_count same_login ls ≤ route.pool.max_sessions)
      (same-logins class (uses_in route now first) (uses_at route now asked) before (sym (first-own class))) (may.own class) in
      let counted : logins_used class (use_of route now leg ∷ used) ≡ logins_used class used =
      ap (λ (ls : List (Option (List ℕ))). distinct_count same_login ls) more ∙ once in
      room-of (who_in route leg) now (want_of leg.task) used route.pool.max_sessions (omega (arith, counted, few))

  again-may : (legs : List (LegView S)) → AllByRecursion (λ leg. NeedsNothing w route now used (asked_of leg)) legs
      → AllByRecursion (λ leg. MayUse w route (who_in route leg) now used (want_of leg.task)) legs
  again-may [] need = tt
  again-may (leg ∷ legs) need = (
    record {
      one = fair-one w route (who_in route leg) fair;
      sound = sound;
      falls = legs-fall route now first before may.falls;
      few = few-again leg need.0;
      own = room-again leg need.0;
    },
    again-may legs need.1,
  )

  pub may-again : (legs : List (LegView S)) → AreApart route legs → AllByRecursion (λ leg. NeedsNothing w route now used (asked_of leg)) legs
      → MayShare w route now used legs
  may-again legs apart need = record { apart = apart; each = again-may legs need }
