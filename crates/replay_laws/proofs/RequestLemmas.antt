-- where no leg met a cause of a mark, a request has the mark Plain
use Rattle.std.proofs.Common.{◌≡◌, ℕ, ◌++◌, List, [], ◌∷◌, All, Option, None, Some, option_map, refl, sym, subst, arith}
use Rattle.std.specs.List.{AllByRecursion, cons_option}
use Rattle.std.proofs.lemmas.List.{append-nil}
use Rattle.std.proofs.lemmas.List.Elements.{All-head, All-tail}
use Rattle.z_types.specs.declared.marks.Mark.{Mark}
use Rattle.z_types.specs.declared.marks.Mark.TheVariants as mark
use Rattle.z_types.specs.declared.sitting.Sitting as sitting
use Rattle.z_types.specs.declared.world.World as world
use Rattle.route_config.specs.declared.route.PoolNumbers.{PoolNumbers}
use Rattle.route_config.specs.declared.route.Route.{Route}
use Rattle.replay.specs.leg.Kept.{StandsAt}
use Rattle.replay.specs.leg.LegView.{LegView}
use Rattle.replay.specs.leg.Phases.{answered}
use Rattle.replay.specs.leg.Right.{IsCaused}
use Rattle.replay.specs.leg.Terms.{Terms, terms_of}
use Rattle.replay.specs.leg.Turns.{IsLegOf}
use Rattle.replay.specs.leg.declared.accounts.Account.{Account}
use Rattle.replay.specs.leg.declared.answers.LegAnswer.{LegAnswer}
use Rattle.replay.specs.leg.declared.answers.LegAnswer.TheVariants as answer
use Rattle.replay.specs.leg.declared.phases.Phase.{Phase}
use Rattle.replay.specs.leg.declared.phases.Phase.TheVariants.{Begin, Dialling, Dialled, Ready, Searching, Presenting, Fetching, Scanning, Returning, Losing, Redialling, Spoiled, Done, Ended}
use Rattle.replay.specs.leg.declared.tasks.Task.{Task}
use Rattle.replay.specs.package_rules.declared.answered.Answered.{Answered}
use Rattle.replay.specs.package_rules.Said.{cause_of}
use Rattle.replay.specs.package.steps.Ends.{cause_in}
use Rattle.replay.specs.package.steps.Packages.{IsPackageOf, PackageView, accounts_of, all_accounts, answers_of}
use Rattle.replay.specs.package_quiet.steps.Bearing.{HasBorne}
use Rattle.replay.specs.Undisturbed.{IsPlainOrFull}
use Rattle.replay_laws.specs.Requests.{CausesNoMark}

-- a mark that is caused, and was not, is Plain
none-caused : (pool : PoolNumbers) (most : ℕ) (account : Account) (m : Mark) → CausesNoMark pool account
    → IsCaused pool most account (answer.Marked m) → m ≡ mark.Plain
none-caused pool most account mark.Plain h caused = refl
none-caused pool most account mark.Link h caused = let none = h.unfailing in absurd (omega (arith, caused, none))
none-caused pool most account (mark.Silent looks) h caused = let few = h.few_looks in let much = caused.1 in absurd (omega (arith, few, much))
none-caused pool most account mark.Gone h caused = let few = h.few_gone in absurd (omega (arith, caused, few))
none-caused pool most account (mark.Full sessions) h caused = let none = h.has_room in let some = caused.1 in absurd (omega (arith, none, some))

-- all accounts are those of the first legs, and those of the later ones
module _ {S : Type 0} (P : Account → Type 0) where
  of-legs : (legs : List (LegView S)) → AllByRecursion P (accounts_of legs) → AllByRecursion (λ leg. P leg.account) legs
  of-legs [] all = tt
  of-legs (leg ∷ legs) all = (all.0, of-legs legs all.1)

  first-legs : (first later : List (LegView S)) → AllByRecursion P (accounts_of (first ++ later)) → AllByRecursion (λ leg. P leg.account) first
  first-legs [] later all = tt
  first-legs (leg ∷ first) later all = (all.0, first-legs first later all.1)

  later-legs : (first later : List (LegView S)) → AllByRecursion P (accounts_of (first ++ later)) → AllByRecursion (λ leg. P leg.account) later
  later-legs [] later all = of-legs later all
  later-legs (leg ∷ first) later all = later-legs first later all.1

module _ {W S : Type 0} (w : world.Ghosts W) (t : sitting.Ghosts S W) where
  -- the answer of a leg that is done is caused
  said-so : (terms : Terms) (most : ℕ) (task : Task) (phase : Phase S) (a : Account) (said : LegAnswer) → answered phase ≡ Some said
      → StandsAt w t terms most task phase a → IsCaused terms.pool most a said
  said-so terms most task Begin a said e h = absurd cc
  said-so terms most task (Dialling seat member) a said e h = absurd cc
  said-so terms most task (Dialled held looks) a said e h = absurd cc
  said-so terms most task (Ready held items) a said e h = absurd cc
  said-so terms most task (Searching held items slot looks) a said e h = absurd cc
  said-so terms most task (Presenting held items slot hits) a said e h = absurd cc
  said-so terms most task (Fetching held items slot hits looks) a said e h = absurd cc
  said-so terms most task (Scanning held looks) a said e h = absurd cc
  said-so terms most task (Returning held own) a said e h = absurd cc
  said-so terms most task (Losing seat own) a said e h = absurd cc
  said-so terms most task (Redialling seat) a said e h = absurd cc
  said-so terms most task (Spoiled seat) a said e h = absurd cc
  said-so terms most task Ended a said e h = absurd cc
  said-so terms most task (Done own) a said e h =
      let same : own ≡ said = cc in subst (λ (s : LegAnswer). IsCaused terms.pool most a s) same h.1

-- where what the accounts of legs have lets no other mark be caused than such
module _ {W S : Type 0} (w : world.Ghosts W) (t : sitting.Ghosts S W) (route : Route) (most : ℕ) (Has : Account → Type 0) (IsSo : Mark → Type 0)
    (plain : IsSo mark.Plain)
    (caused : (account : Account) (m : Mark) → Has account → IsCaused route.pool most account (answer.Marked m) → IsSo m) where
  -- the mark of a list of answers is such
  abbrev AreSo : List Answered → Type 0
  AreSo said = IsSo (cause_of route said).mark

  first-so : (leg : LegView S) (others : List Answered) (said : Option LegAnswer) → answered leg.phase ≡ said
      → IsLegOf w t route most leg → Has leg.account → AreSo others
      → AreSo (cons_option (option_map (λ (a : LegAnswer). record { leg = leg.leg; answer = a }) said) others)
  first-so leg others None e is has so = so
  first-so leg others (Some (answer.Hits hits)) e is has so = so
  first-so leg others (Some (answer.Refused diag)) e is has so = so
  first-so leg others (Some (answer.Items items)) e is has so = so
  first-so leg others (Some (answer.Broken items diag)) e is has so = so
  first-so leg others (Some (answer.Scanned entries)) e is has so = so
  first-so leg others (Some (answer.Marked m)) e is has so =
      caused leg.account m has (said-so w t (terms_of route leg.login leg.leg) most leg.task leg.phase leg.account (answer.Marked m) e is.stands)

  -- behind more answers
  cons-behind : (said : Option Answered) (others rest : List Answered) → cons_option said others ++ rest ≡ cons_option said (others ++ rest)
  cons-behind None others rest = refl
  cons-behind (Some first) others rest = refl

  legs-so : (legs : List (LegView S)) (rest : List Answered) → All (IsLegOf w t route most) legs
      → AllByRecursion (λ leg. Has leg.account) legs → AreSo rest → AreSo (answers_of legs ++ rest)
  legs-so [] rest are has so = so
  legs-so (leg ∷ legs) rest are has so =
      subst (λ (said : List Answered). AreSo said)
      (sym (cons-behind (option_map (λ (a : LegAnswer). record { leg = leg.leg; answer = a }) (answered leg.phase)) (answers_of legs) rest))
      (first-so leg (answers_of legs ++ rest) (answered leg.phase) refl (All-head (IsLegOf w t route most) leg legs are) has.0
      (legs-so legs rest (All-tail (IsLegOf w t route most) leg legs are) has.1 so))

  -- and so is that of a request
  pub request-so : (view : PackageView S) → IsPackageOf w t route most view → AllByRecursion (λ leg. Has leg.account) view.first
      → AllByRecursion (λ leg. Has leg.account) view.later → IsSo (cause_in route view).mark
  request-so view of first later =
      legs-so view.first (answers_of view.later) of.first first
      (subst (λ (said : List Answered). IsSo (cause_of route said).mark) (append-nil (answers_of view.later))
      (legs-so view.later [] of.later later plain))

module _ {W S : Type 0} (w : world.Ghosts W) (t : sitting.Ghosts S W) where
  pub request-plain : (route : Route) (most : ℕ) (view : PackageView S) → IsPackageOf w t route most view
      → AllByRecursion (CausesNoMark route.pool) (all_accounts view) → (cause_in route view).mark ≡ mark.Plain
  request-plain route most view of none =
      request-so w t route most (CausesNoMark route.pool) (λ m. m ≡ mark.Plain) refl (none-caused route.pool most) view of
      (first-legs (CausesNoMark route.pool) view.first view.later none) (later-legs (CausesNoMark route.pool) view.first view.later none)

-- a mark that is caused where an account bore all that befell links is Plain or Full
borne-caused : (pool : PoolNumbers) (most : ℕ) (account : Account) (m : Mark) → HasBorne pool account
    → IsCaused pool most account (answer.Marked m) → IsPlainOrFull m
borne-caused pool most account mark.Plain h caused = tt
borne-caused pool most account mark.Link h caused = let none = h.unfailing in absurd (omega (arith, caused, none))
borne-caused pool most account (mark.Silent looks) h caused = let few = h.few_looks in let much = caused.1 in absurd (omega (arith, few, much))
borne-caused pool most account mark.Gone h caused = let few = h.few_gone in absurd (omega (arith, caused, few))
borne-caused pool most account (mark.Full sessions) h caused = tt

pub request-borne : {W S : Type 0} (w : world.Ghosts W) (t : sitting.Ghosts S W) (route : Route) (most : ℕ) (view : PackageView S)
    → IsPackageOf w t route most view → AllByRecursion (λ leg. HasBorne route.pool leg.account) view.first
    → AllByRecursion (λ leg. HasBorne route.pool leg.account) view.later → IsPlainOrFull (cause_in route view).mark
request-borne w t route most view of first later =
    request-so w t route most (HasBorne route.pool) IsPlainOrFull tt (borne-caused route.pool most) view of first later
