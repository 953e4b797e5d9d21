-- the numbers of the marks that a connection lists
use Rattle.std.proofs.Common.{◌≡◌, ℕ, Bool, List, [], ◌∷◌, ◌++◌, All, length, Option, None, Some, refl, sym, subst, option_map}
use Rattle.std.specs.List.{cons_option}
use Rattle.std.proofs.lemmas.List.Elements.{All-append, All-head, All-tail, filter_map-append}
use Rattle.z_types.specs.declared.marks.End.{End}
use Rattle.z_types.specs.declared.marks.Mark.{Mark}
use Rattle.z_types.specs.declared.marks.Mark.TheVariants as mark
use Rattle.z_types.specs.declared.sitting.Sitting as sitting
use Rattle.z_types.specs.declared.world.World as world
use Rattle.route_config.specs.declared.route.PoolNumbers.{PoolNumbers}
use Rattle.route_config.specs.declared.route.Route.{Route}
use Rattle.package_quiet.specs.leg.Kept.{StandsAt}
use Rattle.package_quiet.specs.leg.LegView.{LegView}
use Rattle.package_quiet.specs.leg.Phases.{answered}
use Rattle.package_quiet.specs.leg.Right.{IsCaused}
use Rattle.package_quiet.specs.leg.Terms.{Terms, terms_of}
use Rattle.package_quiet.specs.leg.Turns.{IsLegOf}
use Rattle.package_quiet.specs.leg.declared.accounts.Account.{Account}
use Rattle.package_quiet.specs.leg.declared.answers.LegAnswer.{LegAnswer}
use Rattle.package_quiet.specs.leg.declared.answers.LegAnswer.TheVariants as answer
use Rattle.package_quiet.specs.leg.declared.phases.Phase.{Phase}
use Rattle.package_quiet.specs.leg.declared.phases.Phase.TheVariants.{Begin, Dialling, Dialled, Ready, Searching, Presenting, Fetching, Scanning, Returning, Losing, Redialling, Spoiled, Done, Ended}
use Rattle.package_quiet.specs.leg.declared.tasks.Task.{Task}
use Rattle.package_quiet.specs.package_rules.Said.{cause_of}
use Rattle.package_quiet.specs.package_rules.declared.answered.Answered.{Answered}
use Rattle.package_quiet.specs.package.steps.Ends.{cause_in}
use Rattle.package_quiet.specs.package.steps.Packages.{IsPackageOf, PackageView, answer_of, answers_of}
use Rattle.front_conn_costs.specs.front_conn.declared.stepped.Stepped.{Stepped}
use Rattle.front_conn_costs.specs.front_conn.steps.Answering.{Outside}
use Rattle.front_conn_costs.specs.front_conn.steps.States.{ConnectionState}
use Rattle.front_conn_costs.specs.front_conn.steps.Steps.{IsStepFrom, answering_of}
use Rattle.script.specs.declared.event.Event.{Event}
use Rattle.replay.specs.Marks.{AreMarksOf, IsMarkOf}
use Rattle.replay.specs.Trace.{IsRunOf}
use Rattle.replay.specs.declared.reports.Report.{Report}
use Rattle.replay.proofs.RunKeeps.{any-may, most_of, whole-keeps}
use Rattle.replay.proofs.ListedLemmas.{AreFit, ahead-fits, piece-fits, reported-fit, works-fit}

-- ---- the mark of a leg

caused-mark : (pool : PoolNumbers) (most : ℕ) (account : Account) (m : Mark) → IsCaused pool most account (answer.Marked m) → IsMarkOf pool most m
caused-mark pool most account mark.Plain h = tt
caused-mark pool most account mark.Link h = tt
caused-mark pool most account (mark.Silent looks) h = h.0
caused-mark pool most account mark.Gone h = tt
caused-mark pool most account (mark.Full sessions) h = h.0

-- of a leg that is done
said-caused : {W S : Type 0} (w : world.Ghosts W) (t : sitting.Ghosts S W) (terms : Terms) (most : ℕ) (task : Task) (phase : Phase S) (a : Account)
    (said : LegAnswer) → answered phase ≡ Some said → StandsAt w t terms most task phase a → IsCaused terms.pool most a said
said-caused w t terms most task Begin a said e h = absurd cc
said-caused w t terms most task (Dialling seat member) a said e h = absurd cc
said-caused w t terms most task (Dialled held looks) a said e h = absurd cc
said-caused w t terms most task (Ready held items) a said e h = absurd cc
said-caused w t terms most task (Searching held items slot looks) a said e h = absurd cc
said-caused w t terms most task (Presenting held items slot hits) a said e h = absurd cc
said-caused w t terms most task (Fetching held items slot hits looks) a said e h = absurd cc
said-caused w t terms most task (Scanning held looks) a said e h = absurd cc
said-caused w t terms most task (Returning held own) a said e h = absurd cc
said-caused w t terms most task (Losing seat own) a said e h = absurd cc
said-caused w t terms most task (Redialling seat) a said e h = absurd cc
said-caused w t terms most task (Spoiled seat) a said e h = absurd cc
said-caused w t terms most task Ended a said e h = absurd cc
said-caused w t terms most task (Done own) a said e h =
    let same : own ≡ said = cc in subst (λ (s : LegAnswer). IsCaused terms.pool most a s) same h.1

module _ {W S : Type 0} (w : world.Ghosts W) (t : sitting.Ghosts S W) (route : Route) (most : ℕ) where
  abbrev CauseFits : List Answered → Type 0
  CauseFits said = IsMarkOf route.pool most (cause_of route said).mark

  first-fits : (leg : LegView S) (legs : List (LegView S)) (said : Option LegAnswer) → answered leg.phase ≡ said → IsLegOf w t route most leg
      → CauseFits (answers_of legs)
      → CauseFits (cons_option (option_map (λ (a : LegAnswer). record { leg = leg.leg; answer = a }) said) (answers_of legs))
  first-fits leg legs None e is rest = rest
  first-fits leg legs (Some (answer.Hits hits)) e is rest = rest
  first-fits leg legs (Some (answer.Refused diag)) e is rest = rest
  first-fits leg legs (Some (answer.Items items)) e is rest = rest
  first-fits leg legs (Some (answer.Broken items diag)) e is rest = rest
  first-fits leg legs (Some (answer.Scanned entries)) e is rest = rest
  first-fits leg legs (Some (answer.Marked m)) e is rest =
      caused-mark route.pool most leg.account m
      (said-caused w t (terms_of route leg.login leg.leg) most leg.task leg.phase leg.account (answer.Marked m) e is.stands)

  legs-fit : (legs : List (LegView S)) → All (IsLegOf w t route most) legs → CauseFits (answers_of legs)
  legs-fit [] are = tt
  legs-fit (leg ∷ legs) are =
      first-fits leg legs (answered leg.phase) refl (All-head (IsLegOf w t route most) leg legs are)
      (legs-fit legs (All-tail (IsLegOf w t route most) leg legs are))

  -- the mark of a request
  cause-fits : (view : PackageView S) → IsPackageOf w t route most view → IsMarkOf route.pool most (cause_in route view).mark
  cause-fits view of =
      subst (λ (said : List Answered). CauseFits said) (filter_map-append answer_of view.first view.later)
      (legs-fit (view.first ++ view.later) (All-append (IsLegOf w t route most) view.first view.later of.first of.later))

-- ---- a step

module _ {W S : Type 0} (w : world.Ghosts W) (t : sitting.Ghosts S W) (exact : Bool) (route : Route) (most : ℕ) where
  abbrev Fits : Mark → Type 0
  Fits m = IsMarkOf route.pool most m

  from-fits : (now : ℕ) (end : Option End) (in_work : Option (PackageView S)) (old new : ConnectionState S) (answer : Stepped)
      (before behind : Outside S) → most_of behind ≡ most → AreFit Fits old.marks
      → IsStepFrom w t exact route now end in_work old new answer before behind → AreFit Fits new.marks
  from-fits now (Some end) in_work old new answer before behind m f h = subst (λ (c : ConnectionState S). AreFit Fits c.marks) (sym h.1) f
  from-fits now None None old new answer before behind m f h = ahead-fits Fits tt route old new answer h.0 f
  from-fits now None (Some view) old new answer before behind m f h =
      works-fit Fits tt route h.turns.turned h.turns.next (answering_of old) (answering_of new) answer new.end
      (cause-fits w t route most h.turns.next (subst (λ (n : ℕ). IsPackageOf w t route n h.turns.next) m h.turns.of)) h.turns.works f

  -- ---- a whole replay

  pub run-marks : (events : List Event) (before behind : Outside S) (report : Report) → most_of before ≡ most
      → IsRunOf w t exact route events before behind report → AreMarksOf route.pool most report.clients
  run-marks events before behind report m h =
      let kept = whole-keeps w t exact route most (λ (c : ConnectionState S). AreFit Fits c.marks) (λ o. Unit {0}) (λ one other. Unit {0}) (λ e. Unit {0})
      (λ client. (tt, tt)) (λ here j. tt) (λ one other f. tt) (λ one mid other f g. tt)
      tt (λ state piece f. piece-fits Fits state.end state piece f) (λ state f. f) (λ state f. f)
      (λ now old new answer one other had is f j g. (from-fits now old.end old.in_work old new answer one other is f g, tt))
      (λ event one other may j d g. tt) events before behind report (any-may events) m tt h in
      reported-fit Fits (length h.finish) h.finish report.clients kept.clients h.reported.clients_of
