-- Legs that need nothing more count nothing, and leave the last uses as they were
use Rattle.std.proofs.Common.{◌≡◌, ◌∙◌, ◌&&◌, ℕ, Bool, true, false, cond, List, [], ◌∷◌, find, map, Option, Some, refl, sym, ap, option_map}
use Rattle.std.specs.List.{AllByRecursion}
use Rattle.std.specs.Option.{option_map_or}
use Rattle.std.proofs.lemmas.Bool.{and_parts}
use Rattle.z_types.specs.declared.key.SetKey.{SetKey}
use Rattle.z_types.specs.declared.world.World as world
use Rattle.z_types.specs.equality.Key as keys
use Rattle.route_config.specs.Sound.{ArePoolNumbers}
use Rattle.route_config.specs.declared.route.Route.{Route}
use Rattle.pool_sets.specs.Table.{same_key}
use Rattle.package_quiet.specs.leg.Kept.{one_if}
use Rattle.package_quiet.specs.leg.LegView.{LegView}
use Rattle.package_quiet.specs.leg.Tasks.{want_of}
use Rattle.package_quiet.specs.package.steps.Packages.{asked_of}
use Rattle.sharing_rules.specs.Needed.{is_by, is_set_by, last_at}
use Rattle.sharing_rules.specs.Sharers.{Sharers}
use Rattle.sharing_rules.specs.Uses.{Use}
use Rattle.sharing_rules.proofs.SharerFacts.{sharers_exact}
use Rattle.sharing_rules.specs.steps.Shared.{search_due}
use Rattle.leg_shares.specs.steps.Pools.{HaveSameLast}
use Rattle.leg_shares.proofs.UseLemmas.{again-none}
use Rattle.package_shares.specs.steps.Requests.{behind}
use Rattle.package_shares.specs.steps.Together.{HadItsCost, use_of, who_in}
use Rattle.package_shares.proofs.CostLemmas.{uses_in}
use Rattle.package_shares.proofs.NeedLemmas.{NeedsNothing}

module _ {W S : Type 0} (w : world.Ghosts W) (route : Route) (now : ℕ) (used : List Use) where
  abbrev pub NeedsNoMore : LegView S → Type 0
  NeedsNoMore leg = NeedsNothing w route now used (asked_of leg)

  -- so do legs that are asked what needs nothing
  pub legs-need : (legs : List (LegView S)) → AllByRecursion (NeedsNothing w route now used) (map asked_of legs) → AllByRecursion NeedsNoMore legs
  legs-need [] need = tt
  legs-need (leg ∷ legs) need = (need.0, legs-need legs need.1)

  -- ---- what they count

  pub again-dials : (numbers : ArePoolNumbers route.pool) (legs : List (LegView S)) → AllByRecursion NeedsNoMore legs
      → AllByRecursion (HadItsCost w route now used) legs → AllByRecursion (λ (leg : LegView S). leg.account.dials ≡ 0) legs
  again-dials numbers [] need had = tt
  again-dials numbers (leg ∷ legs) need had =
      let none = again-none w route (who_in route leg) now used need.0.key numbers need.0.used.in_class need.0.used.in_set in
      (had.0.dials ∙ ap one_if none.0, again-dials numbers legs need.1 had.1)

  pub again-searches : (numbers : ArePoolNumbers route.pool) (legs : List (LegView S)) → AllByRecursion NeedsNoMore legs
      → AllByRecursion (HadItsCost w route now used) legs → AllByRecursion (λ (leg : LegView S). leg.account.searches ≡ 0) legs
  again-searches numbers [] need had = tt
  again-searches numbers (leg ∷ legs) need had =
      let none = again-none w route (who_in route leg) now used need.0.key numbers need.0.used.in_class need.0.used.in_set in (
        had.0.searches ∙ ap (λ (o : Option SetKey). one_if (search_due w route (who_in route leg) now used o)) need.0.wants
            ∙ ap one_if (none.1 ∙ need.0.found),
        again-searches numbers legs need.1 had.1,
      )

  -- ---- the last uses

  module _ (leg : LegView S) (need : NeedsNoMore leg) (base : List Use) (same : (who : Sharers) → HaveSameLast who used base) where
    abbrev one : Use
    one = use_of route now leg

    same-class : (who : Sharers) → last_at (is_by who) (one ∷ base) ≡ last_at (is_by who) used
    same-class who =
        (elim (is_by who one) as (λ (b : Bool). is_by who one ≡ b → option_map (λ (u : Use). u.at) (cond b (Some one) (find (is_by who) base)) ≡ last_at (is_by who) used) [
          | true ↦ λ e.
              sym (ap (λ (k : Sharers). last_at (is_by k) used) (sym (sharers_exact (who_in route leg) who e)) ∙ need.used.in_class)
          | false ↦ λ e. (same who).of_theirs
        ]) refl

    own-key : (who : Sharers) (key : SetKey) (want : Option SetKey) → want ≡ Some need.key
        → (is_by who one && option_map_or (same_key key) want false) ≡ true → last_at (is_set_by who key) used ≡ Some now
    own-key who key want is holds =
        let both = and_parts (is_by who one) (option_map_or (same_key key) want false) holds in
        let own : who_in route leg ≡ who = sharers_exact (who_in route leg) who both.0 in
        let this : key ≡ need.key =
        keys.key.eq_is_exact key need.key (sym (ap (λ (o : Option SetKey). option_map_or (same_key key) o false) is) ∙ both.1) in
        ap (λ (k : Sharers). last_at (is_set_by k key) used) (sym own) ∙ ap (λ (k : SetKey). last_at (is_set_by (who_in route leg) k) used) this
        ∙ need.used.in_set

    same-key : (who : Sharers) (key : SetKey) → last_at (is_set_by who key) (one ∷ base) ≡ last_at (is_set_by who key) used
    same-key who key =
        (elim (is_set_by who key one) as (λ (b : Bool). is_set_by who key one ≡ b → option_map (λ (u : Use). u.at) (cond b (Some one) (find (is_set_by who key) base)) ≡ last_at (is_set_by who key) used) [
          | true ↦ λ e. sym (own-key who key (want_of leg.task) need.wants e)
          | false ↦ λ e. (same who).of_key key
        ]) refl

  pub again-last : (legs : List (LegView S)) (base : List Use) → AllByRecursion NeedsNoMore legs → ((who : Sharers) → HaveSameLast who used base)
      → (who : Sharers) → HaveSameLast who used (behind base (uses_in route now legs))
  again-last [] base need same who = same who
  again-last (leg ∷ legs) base need same who =
      again-last legs (use_of route now leg ∷ base) need.1
      (λ k. record { of_theirs = same-class leg need.0 base same k; of_key = λ key. same-key leg need.0 base same k key }) who
