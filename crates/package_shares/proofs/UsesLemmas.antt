-- What the uses of legs that are done leave of each class
use Rattle.std.proofs.Common.{◌≡◌, ◌∙◌, ◌||◌, ℕ, Bool, true, false, cond, List, [], ◌∷◌, find, map, Option, Some, option_map, refl, sym, ap, subst, nat_eq}
use Rattle.std.specs.Cmp.{nat_eq_equiv}
use Rattle.std.specs.List.{AllByRecursion, IsDistinct, list_any}
use Rattle.std.proofs.lemmas.Bool.{and_parts}
use Rattle.z_types.specs.declared.key.SetKey.{SetKey}
use Rattle.z_types.specs.declared.sitting.Sitting as sitting
use Rattle.z_types.specs.declared.world.World as world
use Rattle.route_config.specs.declared.route.Route.{Route}
use Rattle.pool_sets.specs.Plain.{Pool}
use Rattle.package_quiet.specs.leg.LegView.{LegView}
use Rattle.package_quiet.specs.leg.Phases.{is_done}
use Rattle.package_quiet.specs.leg.Terms.{members_of}
use Rattle.package_quiet.specs.leg.declared.accounts.Account.{Account}
use Rattle.package_quiet.specs.leg.declared.phases.Phase.{Phase}
use Rattle.package_quiet.specs.leg.declared.phases.Phase.TheVariants.{Begin, Dialling, Dialled, Ready, Searching, Presenting, Fetching, Scanning, Returning, Losing, Redialling, Spoiled, Done, Ended}
use Rattle.package_quiet.specs.leg.declared.tasks.Task.{Task}
use Rattle.package_quiet.specs.package.steps.Turns.{all_done}
use Rattle.sharing_rules.specs.Needed.{is_by, is_in, is_set_by, last_at}
use Rattle.sharing_rules.specs.Sharers.{Sharers, same_sharers}
use Rattle.sharing_rules.specs.Uses.{Use}
use Rattle.sharing_rules.specs.steps.Shared.{shared_by}
use Rattle.sharing_rules.proofs.SharerFacts.{apart_by_class, sharers_equiv, sharers_exact}
use Rattle.leg_shares.specs.steps.Pools.{HaveSameLast}
use Rattle.leg_shares.specs.steps.Sharing.{IsKeptBehind}
use Rattle.leg_shares.proofs.UseLemmas.{kept-by-last}
use Rattle.package_shares.specs.steps.Together.{AreAllKept, AreApart, AreSharing, HadItsCost, IsOfNone, IsSharing, classes_of, use_of, uses_behind, who_in}

-- ---- the last use that passes a test

-- a use that fails a test is none of those that pass it
pub last-behind : (test : Use → Bool) (one : Use) (before : List Use) → test one ≡ false → last_at test (one ∷ before) ≡ last_at test before
last-behind test one before fails = ap (λ (b : Bool). option_map (λ (u : Use). u.at) (cond b (Some one) (find test before))) fails

-- the same use behind others, where the last before was the same
pub last-same : (test : Use → Bool) (one : Use) (uses others : List Use) → last_at test others ≡ last_at test uses
    → last_at test (one ∷ others) ≡ last_at test (one ∷ uses)
last-same test one uses others same =
    (elim (test one) as (λ (b : Bool). option_map (λ (u : Use). u.at) (cond b (Some one) (find test others)) ≡ option_map (λ (u : Use). u.at) (cond b (Some one) (find test uses))) [
      | true ↦ refl
      | false ↦ same
    ])

-- a use by others is none of theirs, nor of a key of theirs
other-by : (who : Sharers) (one : Use) → same_sharers who one.by ≡ false → is_by who one ≡ false
other-by who one apart = sharers_equiv.symm one.by who ∙ apart

pub other-set : (who : Sharers) (key : SetKey) (one : Use) → is_by who one ≡ false → is_set_by who key one ≡ false
other-set who key one apart = rw apart refl

-- a use of another class is none of this one
pub other-in : (class : ℕ) (one : Use) → nat_eq class one.by.class ≡ false → is_in class one ≡ false
other-in class one apart = nat_eq_equiv.symm one.by.class class ∙ apart

-- who goes to another class than these legs is none of those who share with them
pub apart-sharers : {S : Type 0} (route : Route) (who : Sharers) (legs : List (LegView S)) → AllByRecursion (λ k. nat_eq who.class k ≡ false) (classes_of route legs)
    → AllByRecursion (λ k. same_sharers who k ≡ false) (map (who_in route) legs)
apart-sharers route who [] apart = tt
apart-sharers route who (leg ∷ legs) apart = (apart_by_class who (who_in route leg) apart.0, apart-sharers route who legs apart.1)

module _ (who : Sharers) where
  pub same-self : (uses : List Use) → HaveSameLast who uses uses
  same-self uses = record { of_theirs = refl; of_key = λ key. refl }

  pub same-then : (a b c : List Use) → HaveSameLast who a b → HaveSameLast who b c → HaveSameLast who a c
  same-then a b c one two = record { of_theirs = two.of_theirs ∙ one.of_theirs; of_key = λ key. two.of_key key ∙ one.of_key key }

  -- behind a use by others
  pub same-past : (one : Use) (uses : List Use) → same_sharers who one.by ≡ false → HaveSameLast who uses (one ∷ uses)
  same-past one uses apart = record {
    of_theirs = last-behind (is_by who) one uses (other-by who one apart);
    of_key = λ key. last-behind (is_set_by who key) one uses (other-set who key one (other-by who one apart));
  }

  -- behind the same use
  pub same-behind : (one : Use) (uses others : List Use) → HaveSameLast who uses others → HaveSameLast who (one ∷ uses) (one ∷ others)
  same-behind one uses others same = record {
    of_theirs = last-same (is_by who) one uses others same.of_theirs;
    of_key = λ key. last-same (is_set_by who key) one uses others (same.of_key key);
  }

  module _ {S : Type 0} (route : Route) (now : ℕ) where
    -- behind the uses of legs of others
    pub others-past : (legs : List (LegView S)) (uses : List Use) → AllByRecursion (λ k. same_sharers who k ≡ false) (map (who_in route) legs)
        → HaveSameLast who uses (uses_behind route now uses legs)
    others-past [] uses apart = same-self uses
    others-past (leg ∷ legs) uses apart =
        same-then uses (use_of route now leg ∷ uses) (uses_behind route now (use_of route now leg ∷ uses) legs)
        (same-past (use_of route now leg) uses apart.0) (others-past legs (use_of route now leg ∷ uses) apart.1)

-- ---- what is kept

module _ {W S : Type 0} (w : world.Ghosts W) (route : Route) (now : ℕ) (before : List Use) (pool : Pool S) (who : Sharers) where
  -- what is shared with a leg is kept with its use
  abbrev IsKeptWith : LegView S → Type 0
  IsKeptWith leg = same_sharers who (who_in route leg) ≡ true → IsKeptBehind w route who now (use_of route now leg ∷ before) pool

  kept-all : (legs : List (LegView S)) (base : List Use) → HaveSameLast who before base → AreApart route legs → AllByRecursion IsKeptWith legs
      → (IsOfNone route legs who → IsKeptBehind w route who now before pool)
      → IsKeptBehind w route who now (uses_behind route now base legs) pool
  unfolding IsDistinct
  kept-all [] base same apart kept rest =
      kept-by-last w route who (members_of route who.class) now before base same (shared_by who pool.sessions) (rest refl)
  kept-all (leg ∷ legs) base same apart kept rest =
      let one = use_of route now leg in
      (elim (same_sharers who (who_in route leg)) as (λ (b : Bool). same_sharers who (who_in route leg) ≡ b → IsKeptBehind w route who now (uses_behind route now (one ∷ base) legs) pool) [
        | true ↦ λ e.
            let own : who ≡ who_in route leg = sharers_exact who (who_in route leg) e in
            let away : AllByRecursion (λ k. nat_eq who.class k ≡ false) (classes_of route legs) =
            subst (λ (k : Sharers). AllByRecursion (λ c. nat_eq k.class c ≡ false) (classes_of route legs)) (sym own) apart.0 in
            kept-by-last w route who (members_of route who.class) now (one ∷ before) (uses_behind route now (one ∷ base) legs)
            (same-then who (one ∷ before) (one ∷ base) (uses_behind route now (one ∷ base) legs) (same-behind who one before base same)
            (others-past who route now legs (one ∷ base) (apart-sharers route who legs away)))
            (shared_by who pool.sessions) (kept.0 e)
        | false ↦ λ e.
            kept-all legs (one ∷ base) (same-then who before base (one ∷ base) same (same-past who one base e)) apart.1 kept.1
            (λ none. rest (ap (λ (b : Bool). b || list_any (same_sharers who) (map (who_in route) legs)) e ∙ none))
      ]) refl

-- each class is kept behind other uses too, with the same last ones of it and of its keys
pub all-by-last : {W S : Type 0} (w : world.Ghosts W) (route : Route) (now : ℕ) (uses others : List Use) (pool : Pool S)
    → ((who : Sharers) → HaveSameLast who uses others) → AreAllKept w route now uses pool → AreAllKept w route now others pool
all-by-last w route now uses others pool same kept = record {
  of = kept.of;
  each = λ who.
      kept-by-last w route who (members_of route who.class) now uses others (same who) (shared_by who pool.sessions) (kept.each who);
}

-- ---- legs that are done

module _ {W S : Type 0} (w : world.Ghosts W) (t : sitting.Ghosts S W) (route : Route) (now : ℕ) (before : List Use) (pool : Pool S) where
  -- a leg that is done had what its use needs, and its class is kept with it
  record IsDoneSo (leg : LegView S) : Type 0 where
    cost : HadItsCost w route now before leg
    kept : IsKeptBehind w route (who_in route leg) now (use_of route now leg ∷ before) pool

  done-so : (place : ℕ) (login : Option (List ℕ)) (task : Task) (phase : Phase S) (account : Account) → is_done phase ≡ true
      → IsSharing w t route now before pool (record { leg = place; login = login; task = task; phase = phase; account = account })
      → IsDoneSo (record { leg = place; login = login; task = task; phase = phase; account = account })
  done-so place login task Begin account done is = absurd cc
  done-so place login task (Dialling seat member) account done is = absurd cc
  done-so place login task (Dialled held looks) account done is = absurd cc
  done-so place login task (Ready held items) account done is = absurd cc
  done-so place login task (Searching held items slot looks) account done is = absurd cc
  done-so place login task (Presenting held items slot hits) account done is = absurd cc
  done-so place login task (Fetching held items slot hits looks) account done is = absurd cc
  done-so place login task (Scanning held looks) account done is = absurd cc
  done-so place login task (Returning held answer) account done is = absurd cc
  done-so place login task (Losing seat answer) account done is = absurd cc
  done-so place login task (Redialling seat) account done is = absurd cc
  done-so place login task (Spoiled seat) account done is = absurd cc
  done-so place login task (Done answer) account done is = record {
    cost = record { done = tt; dials = is.dials; searches = is.searches };
    kept = is.stands;
  }
  done-so place login task Ended account done is = absurd cc

  all-costs : (legs : List (LegView S)) → all_done legs ≡ true → AllByRecursion (IsSharing w t route now before pool) legs
      → AllByRecursion (HadItsCost w route now before) legs
  all-costs [] done are = tt
  all-costs (leg ∷ legs) done are =
      let both = and_parts (is_done leg.phase) (all_done legs) done in
      ((done-so leg.leg leg.login leg.task leg.phase leg.account both.0 are.0).cost, all-costs legs both.1 are.1)

  all-kept-with : (who : Sharers) (legs : List (LegView S)) → all_done legs ≡ true → AllByRecursion (IsSharing w t route now before pool) legs
      → AllByRecursion (IsKeptWith w route now before pool who) legs
  all-kept-with who [] done are = tt
  all-kept-with who (leg ∷ legs) done are =
      let both = and_parts (is_done leg.phase) (all_done legs) done in
      let kept = (done-so leg.leg leg.login leg.task leg.phase leg.account both.0 are.0).kept in (
        λ e. subst (λ (k : Sharers). IsKeptBehind w route k now (use_of route now leg ∷ before) pool) (sym (sharers_exact who (who_in route leg) e)) kept,
        all-kept-with who legs both.1 are.1,
      )

  pub done-leave : (legs : List (LegView S)) → AreApart route legs → AreSharing w t route now before legs pool → all_done legs ≡ true
      → AllByRecursion (HadItsCost w route now before) legs × AreAllKept w route now (uses_behind route now before legs) pool
  done-leave legs apart are done = (
    all-costs legs done are.each,
    record {
      of = are.of;
      each = λ who.
          kept-all w route now before pool who legs before (same-self who before) apart (all-kept-with who legs done are.each)
          (λ none. are.rest who none);
    },
  )
