-- What stands behind a head that was begun, and behind a package that is over: no package in work, or one that is begun, and at most
-- one mark more.
use Rattle.std.proofs.Common.{◌≡◌, ◌⊎◌, ◌++◌, inl, inr, ℕ, List, [], ◌∷◌, Option, Some, None, Result, Ok, Err, sym, subst}
use Rattle.z_types.specs.declared.marks.End.{End}
use Rattle.z_types.specs.declared.marks.Mark.{Mark}
use Rattle.z_types.specs.declared.marks.Mark.TheVariants.{Plain}
use Rattle.z_types.specs.declared.memory.Memory.{Memory as NoMemory}
use Rattle.z_types.specs.declared.work.Work.{Work}
use Rattle.route_config.specs.declared.route.Database.{Database}
use Rattle.route_config.specs.declared.route.Route.{Route}
use Rattle.front_conn.specs.package.steps.Ends.{cause_in}
use Rattle.front_conn.specs.package.steps.Packages.{IsOver, PackageView, all_accounts, new_package}
use Rattle.sru_request.specs.declared.faults.HeadFault.{HeadFault}
use Rattle.sru_request.specs.declared.faults.HeadFault.TheVariants.{BadHttp, NotGet, HeadTooLarge, Memory}
use Rattle.sru_request.specs.declared.head.Get.{Get}
use Rattle.front_conn.specs.sru_rules.Course.{database_of}
use Rattle.front_conn.specs.sru_rules.Run.{Due, at_once, due, searches}
use Rattle.front_conn.specs.front_sru.Gets.{IsDueDone, IsFoundBegun, Served}
use Rattle.front_conn.specs.front_sru.declared.begun.Begun.{Begun}
use Rattle.front_conn.specs.front_sru.declared.begun.Begun.TheVariants as begun
use Rattle.front_conn.specs.front_sru.declared.state.SruStage.{SruStage}
use Rattle.front_conn.specs.front_sru.declared.state.SruStage.TheVariants as at
use Rattle.front_conn.specs.front_http.Heads.{IsFaultBegun, IsHeadBegun}
use Rattle.front_conn.specs.declared.stepped.Stepped.{Stepped}
use Rattle.front_conn.specs.declared.stepped.Stepped.TheVariants as memory
use Rattle.front_conn.specs.steps.Answering.{AnsweringState, EndsAt, EndsWork, IsEndAfter, IsKeptBehindGet, IsOverThen}
use Rattle.front_conn.specs.steps.Totals.{totals_after}

-- ---- the mark of a head

-- there is none, or it is Plain
abbrev pub IsPlainAtMost : Option Mark → Type 0
IsPlainAtMost mark = (mark ≡ None) ⊎ (mark ≡ Some Plain)

due-plain : (asks : Due) (old new : Served) (mark : Option Mark) (end : Option End) → IsDueDone asks old new (begun.Write mark end)
    → IsPlainAtMost mark
due-plain (at_once given) old new mark end h = inr (let says = h.0.closed in cc)
due-plain (searches retrieval) old new mark end h = let wrong = h.handed in absurd cc

found-plain : (route : Route) (get : Get) (named : Option Database) (old new : Served) (mark : Option Mark) (end : Option End)
    → IsFoundBegun route get named old new (begun.Write mark end) → IsPlainAtMost mark
found-plain route get None old new mark end h = inl (let says = h.0.0 in cc)
found-plain route get (Some database) old new mark end h = due-plain (due route database h.reading) old new mark end h.is_done

fault-plain : (fault : HeadFault) (old new : List ℕ) (mark : Option Mark) (end : Option End) → IsFaultBegun fault old new (begun.Write mark end)
    → IsPlainAtMost mark
fault-plain BadHttp old new mark end h = inl (let says = h.0 in cc)
fault-plain HeadTooLarge old new mark end h = inl (let says = h.0 in cc)
fault-plain NotGet old new mark end h = inl (let says = h.0 in cc)
fault-plain Memory old new mark end h = let wrong = h.0 in absurd cc

pub head-plain : (route : Route) (head : Result Get HeadFault) (old new : Served) (mark : Option Mark) (end : Option End)
    → IsHeadBegun route head old new (begun.Write mark end) → IsPlainAtMost mark
head-plain route (Ok get) old new mark end h = found-plain route get (database_of route get) old new mark end h
head-plain route (Err fault) old new mark end h = fault-plain fault old.out new.out mark end h.0

-- ---- behind a package that is over

module _ {S : Type 0} (route : Route) (view : PackageView S) (old new : AnsweringState S) where
  -- no package is in work, and the mark of its cause is listed, or none; or another is begun, and none is listed
  abbrev pub IsLeftBy : Option End → Type 0
  IsLeftBy ended =
      ((new.in_work ≡ None) × ((new.marks ≡ old.marks) ⊎ (new.marks ≡ old.marks ++ (cause_in route view).mark ∷ [])))
      ⊎ ((job : Work) × (new.in_work ≡ Some (new_package route job)) × (new.marks ≡ old.marks) × (ended ≡ None))

  get-left : (ended : Option End) (answer : Begun) → IsKeptBehindGet route view old new ended answer → IsLeftBy ended
  get-left ended begun.Memory h = absurd h
  get-left ended (begun.Write mark end) h = inl (h.2, inr h.1)
  get-left ended (begun.Work job) h = inr (job, h.2, h.1, h.0)

  -- how it has ended, if memory could be had
  abbrev end_in : Result (Option End) NoMemory → Option End
  end_in (Ok ended) = ended
  end_in (Err want) = None

  at-left : (stage : SruStage) (done : Result (Option End) NoMemory) → EndsAt route stage view old new done → IsLeftBy (end_in done)
  at-left at.Idle (Ok ended) h = inl (h.1, inr h.3.marks)
  at-left at.Idle (Err want) h = inl (h.1, inl h.0.marks)
  at-left (at.Searching retrieval) (Ok ended) h = get-left ended h.answer h.kept
  at-left (at.Searching retrieval) (Err want) h = inl (h.1, inl h.0.marks)
  at-left (at.Fetching retrieval hits) (Ok ended) h = get-left ended h.answer h.kept
  at-left (at.Fetching retrieval hits) (Err want) h = inl (h.1, inl h.0.marks)

  -- the package is over, its accounts are summed, and this is left
  pub record IsLeft (ended : Option End) : Type 0 where
    pub over : IsOver view
    pub totals : new.totals ≡ totals_after old.totals (all_accounts view)
    pub left : IsLeftBy ended

  left-by : (done : Result (Option End) NoMemory) (end : Option End) (answer : Stepped) → EndsWork route view old new done
      → IsEndAfter done end answer → (answer ≡ memory.Memory → ⊥) → IsLeft end
  left-by (Ok ended) end answer h after has =
      subst (λ (e : Option End). IsLeft e) (sym after.0) (record { over = h.over; totals = h.totals; left = at-left old.stage (Ok ended) h.went })
  left-by (Err want) end answer h after has = absurd (has after.1)

  any-left : (done : Result (Option End) NoMemory) → EndsWork route view old new done → IsLeft (end_in done)
  any-left done h = record { over = h.over; totals = h.totals; left = at-left old.stage done h.went }

  -- whether memory could be had or not
  pub over-left : (answer : Stepped) (end : Option End) (h : IsOverThen route view old new answer end) → IsLeft (end_in h.done)
  over-left answer end h = any-left h.done h.ends

  -- where it could be, this is how it has ended
  pub went-left : (answer : Stepped) (end : Option End) → (answer ≡ memory.Memory → ⊥) → IsOverThen route view old new answer end → IsLeft end
  went-left answer end has h = left-by h.done end answer h.ends h.after has
