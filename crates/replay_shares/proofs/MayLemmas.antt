-- Where works may be done one behind another, the request of each may have its turns
use Rattle.std.proofs.Common.{◌≡◌, ◌∙◌, ◌<◌, ◌≤◌, ◌⊎◌, inl, inr, arith, append-nil, get_or, ℕ, nat_eq, List, [], ◌∷◌, length, map, slice_get, Option, None, Some, All, refl, sym, ap, subst}
use Rattle.std.specs.List.{IsDistinct, cons_option}
use Rattle.std.specs.Option.{option_map_or}
use Rattle.std.specs.Prelude.{filter_map}
use Rattle.std.proofs.lemmas.List.Elements.{All-head, All-tail}
use Rattle.std.proofs.lemmas.Option.{slice_get_cases}
use Rattle.z_types.specs.declared.work.Work.{Work}
use Rattle.z_types.specs.declared.work.Work.TheVariants as work
use Rattle.route_config.specs.declared.route.Route.{Route}
use Rattle.route_config.specs.declared.route.RouteLeg.{RouteLeg}
use Rattle.package_shares.specs.leg.Terms.{class_of}
use Rattle.package_shares.specs.package_rules.Planned.{AreThere, legs_named}
use Rattle.sharing_rules.specs.Orderly.{keys_used, logins_used}
use Rattle.sharing_rules.specs.Uses.{Use, uses_by}
use Rattle.sharing_rules.specs.steps.Shared.{AreInOrder}
use Rattle.package_shares.specs.steps.Requests.{MayWork, behind}
use Rattle.replay_shares.specs.Orderly.{classes_at, dated, legs_in}
use Rattle.replay_shares.specs.steps.Resting.{MayDo}

-- the legs of a work are those that it names
named-legs : (asked : Work) → legs_in asked ≡ legs_named asked
named-legs (work.Search login legs query small large medium small_element medium_element syntax room) = refl
named-legs (work.Fetch login legs query hits first count syntax element) = refl
named-legs (work.Scan login leg ask) = refl

there-is : {A : Type 0} (xs : List A) (place : ℕ) → place < length xs → slice_get xs place ≡ None → ⊥
there-is xs place inside e = by-case (slice_get_cases xs place).1 where
  by-case : ((x : _) × (place < length xs) × (slice_get xs place ≡ Some x) × (get_or xs place x ≡ x)) ⊎ ((length xs ≤ place) × (slice_get xs place ≡ None)) → ⊥
  by-case (inl h) = let some : Some h.0 ≡ None = sym h.2 ∙ e in absurd cc
  by-case (inr h) = let past = h.0 in omega (arith, past, inside)

module _ (route : Route) where
  one-class : (leg : ℕ) (here : Option RouteLeg) (rest : List RouteLeg) → slice_get route.legs leg ≡ here → leg < length route.legs
      → map (λ (l : RouteLeg). l.class) (cons_option here rest) ≡ option_map_or (λ (l : RouteLeg). l.class) here 0 ∷ map (λ (l : RouteLeg). l.class) rest
  one-class leg None rest e inside = absurd (there-is route.legs leg inside e)
  one-class leg (Some own) rest e inside = refl

  -- legs of the route go to the classes that it says
  same-classes : (legs : List ℕ) → All (λ leg. leg < length route.legs) legs → classes_at route legs ≡ map (class_of route) legs
  same-classes [] there = refl
  same-classes (leg ∷ legs) there =
      one-class leg (slice_get route.legs leg) (filter_map (slice_get route.legs) legs) refl (All-head (λ (l : ℕ). l < length route.legs) leg legs there)
      ∙ ap (λ (cs : List ℕ). class_of route leg ∷ cs) (same-classes legs (All-tail (λ (l : ℕ). l < length route.legs) leg legs there))

  -- the first of works may have its turns
  pub may-work : (now : ℕ) (before : List Use) (asked : Work) → MayDo route before (dated now asked ∷ []) → AreThere route asked → AreInOrder now before
      → MayWork route now before asked
  may-work now before asked may there falls = record {
    there = there;
    apart = subst (λ (cs : List ℕ). IsDistinct nat_eq cs)
        (ap (classes_at route) (named-legs asked) ∙ same-classes (legs_named asked) there) may.apart.0;
    falls = falls;
    few = λ who.
        subst (λ (us : List Use). keys_used who (behind before us) ≤ route.pool.sets_max) (append-nil (uses_by route (dated now asked)))
        (may.few who);
    own = λ class.
        subst (λ (us : List Use). logins_used class (behind before us) ≤ route.pool.max_sessions) (append-nil (uses_by route (dated now asked)))
        (may.own class);
  }
