-- What is kept of a class is decided by the last uses of it and of its keys
use Rattle.std.proofs.Common.{◌≡◌, ◌∙◌, ◌||◌, ◌-◌, ◌≤◌, ℕ, Bool, true, false, List, [], ◌∷◌, Option, Some, sym, ap, subst, nat_le, arith}
use Rattle.std.proofs.lemmas.Bool.Decides.{leb_tells}
use Rattle.std.proofs.Math.Bool.{or-false}
use Rattle.z_types.specs.declared.address.Address.{Address}
use Rattle.z_types.specs.declared.key.SetKey.{SetKey}
use Rattle.z_types.specs.declared.world.World as world
use Rattle.route_config.specs.Sound.{ArePoolNumbers}
use Rattle.route_config.specs.declared.route.Route.{Route}
use Rattle.pool_sets.specs.Sessions.{Session}
use Rattle.pool_sets.specs.declared.pooled.Parts.{Parts}
use Rattle.pool_sets.specs.declared.sessions.Stand.{Stand}
use Rattle.pool_sets.specs.declared.sessions.Stand.TheVariants.{Idle, Out}
use Rattle.sharing_rules.specs.Needed.{is_by, is_late, is_refused, is_set_by, last_at}
use Rattle.sharing_rules.specs.Sharers.{Sharers}
use Rattle.sharing_rules.specs.Uses.{Use}
use Rattle.sharing_rules.specs.steps.Shared.{AreKept, IsKeptIn, dial_due, search_due}
use Rattle.sharing_rules.proofs.TableUses.{same_uses}
use Rattle.leg_shares.specs.steps.Pools.{HaveSameLast}

module _ {W S : Type 0} (w : world.Ghosts W) (route : Route) (who : Sharers) (at : List Address) (now : ℕ) (uses others : List Use)
    (same : HaveSameLast who uses others) where
  kept-in : (stand : Stand (Parts S) Address) → IsKeptIn w route who at now uses stand → IsKeptIn w route who at now others stand
  kept-in (Out address) kept = kept
  kept-in (Idle parts since) kept = record {
    since_last = same.of_theirs ∙ kept.since_last;
    among = kept.among;
    inside_ = kept.inside_;
    holds = same_uses w route who now uses parts.table others kept.holds (λ key. same.of_key key);
  }

  pub kept-by-last : (os : List (Session S)) → AreKept w route who at now uses os → AreKept w route who at now others os
  kept-by-last [] kept = subst (λ (o : Option ℕ). is_late route.pool.session_ttl now o ≡ true) (sym same.of_theirs) kept
  kept-by-last (o ∷ []) kept = kept-in o.stand kept
  kept-by-last (o ∷ (p ∷ os)) kept = absurd kept

-- ---- a use at the moment of the last

not-late : (ttl now : ℕ) → 1 ≤ ttl → nat_le ttl (now - now) ≡ false
not-late ttl now some = grind (arith, leb_tells)

pub again-none : {W : Type 0} (w : world.Ghosts W) (route : Route) (who : Sharers) (now : ℕ) (before : List Use) (key : SetKey) → ArePoolNumbers route.pool
    → last_at (is_by who) before ≡ Some now → last_at (is_set_by who key) before ≡ Some now
    → (dial_due route who now before ≡ false) × (search_due w route who now before (Some key) ≡ is_refused w route who key)
again-none w route who now before key numbers used set = (
  ap (λ (o : Option ℕ). is_late route.pool.session_ttl now o) used ∙ not-late route.pool.session_ttl now numbers.session_ttl.0,
  ap (λ (o : Option ℕ). is_refused w route who key || is_late route.pool.set_ttl now o) set
      ∙ ap (λ (b : Bool). is_refused w route who key || b) (not-late route.pool.set_ttl now numbers.set_ttl.0)
      ∙ or-false (is_refused w route who key),
)
