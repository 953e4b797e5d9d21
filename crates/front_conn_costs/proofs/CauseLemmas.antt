-- The mark of a package has its cause in what its legs met
use Rattle.std.proofs.Common.{◌≡◌, ℕ, ◌*◌, ◌≤◌, cond, List, [], ◌∷◌, All, Option, None, Some, refl, subst, arith, option_map}
use Rattle.std.specs.List.{cons_option, sum_by}
use Rattle.std.proofs.lemmas.List.Elements.{All-head, All-tail}
use Rattle.std.proofs.lemmas.List.Sums.{sum_by-cons}
use Rattle.z_types.specs.declared.marks.Mark.{Mark}
use Rattle.z_types.specs.declared.marks.Mark.TheVariants as mark
use Rattle.z_types.specs.declared.sitting.Sitting as sitting
use Rattle.z_types.specs.declared.world.World as world
use Rattle.route_config.specs.declared.route.PoolNumbers.{PoolNumbers}
use Rattle.route_config.specs.declared.route.Route.{Route}
use Rattle.front_conn.specs.leg.Kept.{StandsAt}
use Rattle.front_conn.specs.leg.LegView.{LegView}
use Rattle.front_conn.specs.leg.Phases.{answered}
use Rattle.front_conn.specs.leg.Right.{IsCaused}
use Rattle.front_conn.specs.leg.Terms.{Terms, terms_of}
use Rattle.front_conn.specs.leg.Turns.{IsLegOf}
use Rattle.front_conn.specs.leg.declared.accounts.Account.{Account}
use Rattle.front_conn.specs.leg.declared.answers.LegAnswer.{LegAnswer}
use Rattle.front_conn.specs.leg.declared.answers.LegAnswer.TheVariants as answer
use Rattle.front_conn.specs.leg.declared.phases.Phase.{Phase}
use Rattle.front_conn.specs.leg.declared.phases.Phase.TheVariants.{Begin, Dialling, Dialled, Ready, Searching, Presenting, Fetching, Scanning, Returning, Losing, Redialling, Spoiled, Done, Ended}
use Rattle.front_conn.specs.leg.declared.tasks.Task.{Task}
use Rattle.front_conn.specs.package_rules.declared.answered.Answered.{Answered}
use Rattle.front_conn.specs.package_rules.Said.{cause_of}
use Rattle.front_conn.specs.package.steps.Packages.{answers_of}
use Rattle.front_conn_costs.specs.steps.Numbers.{Caused, link, silent, gone, full, is_of, met_by, weight}

-- as many of a mark as it is of a kind
abbrev pub as_one : Caused → Mark → ℕ
as_one kind mark = cond (is_of kind mark) 1 0

-- a mark that is caused was met often enough
caused-met : (pool : PoolNumbers) (most : ℕ) (kind : Caused) (account : Account) (m : Mark) → IsCaused pool most account (answer.Marked m)
    → weight pool kind * as_one kind m ≤ met_by kind account
caused-met pool most link account mark.Plain h = omega arith
caused-met pool most link account mark.Link h = omega (arith, h)
caused-met pool most link account (mark.Silent looks) h = omega arith
caused-met pool most link account mark.Gone h = omega arith
caused-met pool most link account (mark.Full sessions) h = omega arith
caused-met pool most silent account mark.Plain h = omega arith
caused-met pool most silent account mark.Link h = omega arith
caused-met pool most silent account (mark.Silent looks) h = let few = h.1 in omega (arith, few)
caused-met pool most silent account mark.Gone h = omega arith
caused-met pool most silent account (mark.Full sessions) h = omega arith
caused-met pool most gone account mark.Plain h = omega arith
caused-met pool most gone account mark.Link h = omega arith
caused-met pool most gone account (mark.Silent looks) h = omega arith
caused-met pool most gone account mark.Gone h = omega (arith, h)
caused-met pool most gone account (mark.Full sessions) h = omega arith
caused-met pool most full account mark.Plain h = omega arith
caused-met pool most full account mark.Link h = omega arith
caused-met pool most full account (mark.Silent looks) h = omega arith
caused-met pool most full account mark.Gone h = omega arith
caused-met pool most full account (mark.Full sessions) h = let once = h.1 in omega (arith, once)

-- Plain needs nothing
pub plain-none : (kind : Caused) → as_one kind mark.Plain ≡ 0
plain-none link = refl
plain-none silent = refl
plain-none gone = refl
plain-none full = refl

nothing-needed : (pool : PoolNumbers) (kind : Caused) (k n : ℕ) → k ≡ 0 → weight pool kind * k ≤ n
nothing-needed pool link k n e = omega (arith, e)
nothing-needed pool silent k n e = rw e (omega arith)
nothing-needed pool gone k n e = rw e (omega arith)
nothing-needed pool full k n e = omega (arith, e)

module _ {W S : Type 0} (w : world.Ghosts W) (t : sitting.Ghosts S W) where
  -- the answer of a leg that is done is caused, and its account is of its class
  pub record SaidSo (terms : Terms) (most : ℕ) (a : Account) (said : LegAnswer) : Type 0 where
    pub caused : IsCaused terms.pool most a said
    pub class : a.class ≡ terms.class

  pub said-so : (terms : Terms) (most : ℕ) (task : Task) (phase : Phase S) (a : Account) (said : LegAnswer) → answered phase ≡ Some said
      → StandsAt w t terms most task phase a → SaidSo terms most a said
  said-so terms most task Begin a said e h = absurd cc
  said-so terms most task (Dialling seat member) a said e h = absurd cc
  said-so terms most task (Dialled held looks) a said e h = absurd cc
  said-so terms most task (Ready held items) a said e h = absurd cc
  said-so terms most task (Searching held items slot looks) a said e h = absurd cc
  said-so terms most task (Presenting held items slot hits) a said e h = absurd cc
  said-so terms most task (Fetching held items slot hits looks) a said e h = absurd cc
  said-so terms most task (Scanning held looks) a said e h = absurd cc
  said-so terms most task (Returning held own) a said e h = absurd cc
  said-so terms most task (Losing seat own) a said e h = absurd cc
  said-so terms most task (Redialling seat) a said e h = absurd cc
  said-so terms most task (Spoiled seat) a said e h = absurd cc
  said-so terms most task Ended a said e h = absurd cc
  said-so terms most task (Done own) a said e h =
      let same : own ≡ said = cc in
      record { caused = subst (λ (s : LegAnswer). IsCaused terms.pool most a s) same h.1; class = h.2 }

  module _ (route : Route) (most : ℕ) (kind : Caused) where
    abbrev met : LegView S → ℕ
    met leg = met_by kind leg.account

    abbrev Needs : List Answered → ℕ → Type 0
    Needs said n = weight route.pool kind * as_one kind (cause_of route said).mark ≤ n

    -- the others met enough
    behind : (leg : LegView S) (legs : List (LegView S)) → Needs (answers_of legs) (sum_by met legs) → Needs (answers_of legs) (sum_by met (leg ∷ legs))
    behind leg legs few = let all = sum_by-cons met leg legs in omega (arith, few, all)

    first-said : (leg : LegView S) (legs : List (LegView S)) (said : Option LegAnswer) → answered leg.phase ≡ said → IsLegOf w t route most leg
        → Needs (answers_of legs) (sum_by met legs)
        → Needs (cons_option (option_map (λ (a : LegAnswer). record { leg = leg.leg; answer = a }) said) (answers_of legs)) (sum_by met (leg ∷ legs))
    first-said leg legs None e is few = behind leg legs few
    first-said leg legs (Some (answer.Hits hits)) e is few = behind leg legs few
    first-said leg legs (Some (answer.Refused diag)) e is few = behind leg legs few
    first-said leg legs (Some (answer.Items items)) e is few = behind leg legs few
    first-said leg legs (Some (answer.Broken items diag)) e is few = behind leg legs few
    first-said leg legs (Some (answer.Scanned entries)) e is few = behind leg legs few
    first-said leg legs (Some (answer.Marked m)) e is few =
        let own = caused-met route.pool most kind leg.account m
        ((said-so (terms_of route leg.login leg.leg) most leg.task leg.phase leg.account (answer.Marked m) e is.stands).caused) in
        let all = sum_by-cons met leg legs in
        omega (arith, own, all)

    -- the first mark was met often enough
    pub mark-met : (legs : List (LegView S)) → All (IsLegOf w t route most) legs → Needs (answers_of legs) (sum_by met legs)
    mark-met [] are = nothing-needed route.pool kind (as_one kind mark.Plain) 0 (plain-none kind)
    mark-met (leg ∷ legs) are =
        first-said leg legs (answered leg.phase) refl (All-head (IsLegOf w t route most) leg legs are)
        (mark-met legs (All-tail (IsLegOf w t route most) leg legs are))
