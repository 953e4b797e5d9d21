-- Where the cause of a request is Plain, none of its legs is marked
use Rattle.std.proofs.Common.{◌≡◌, ℕ, List, [], ◌∷◌, ◌++◌, refl}
use Rattle.z_types.specs.declared.marks.Mark.{Mark}
use Rattle.z_types.specs.declared.marks.Mark.TheVariants as mark
use Rattle.z_types.specs.declared.world.World as world
use Rattle.route_config.specs.declared.route.Route.{Route}
use Rattle.gateway_rules.specs.Marks.{Cause}
use Rattle.leg.specs.Right.{AnswerFits}
use Rattle.leg.specs.declared.answers.LegAnswer.{LegAnswer}
use Rattle.leg.specs.declared.answers.LegAnswer.TheVariants as answer
use Rattle.leg.specs.declared.tasks.Task.{Task}
use Rattle.package_rules.specs.declared.answered.Answered.{Answered}
use Rattle.package_rules.specs.Asked.{Asked}
use Rattle.package_rules.specs.Said.{cause_of, cause_or, mark_of}
use Rattle.package_rules.specs.Truth.{AreAnswersTo}

-- the answer is no mark
abbrev pub IsUnmarked : LegAnswer → Type 0
IsUnmarked (answer.Marked mark) = ⊥
IsUnmarked other = Unit {0}

-- none of these is
abbrev pub AreUnmarked : List Answered → Type 0
AreUnmarked [] = Unit {0}
AreUnmarked (first ∷ others) = IsUnmarked first.answer × AreUnmarked others

-- a mark that fits is not Plain
never_plain : (task : Task) (m : Mark) → AnswerFits task (answer.Marked m) → m ≡ mark.Plain → ⊥
never_plain task mark.Plain fits h = fits
never_plain task mark.Link fits h = absurd cc
never_plain task (mark.Silent looks) fits h = absurd cc
never_plain task mark.Gone fits h = absurd cc
never_plain task (mark.Full sessions) fits h = absurd cc

unmarked_one : (route : Route) (leg : ℕ) (task : Task) (said : LegAnswer) (later : Cause) → AnswerFits task said
    → (cause_or route leg (mark_of said) later).mark ≡ mark.Plain → IsUnmarked said × (later.mark ≡ mark.Plain)
unmarked_one route leg task (answer.Marked m) later fits h = absurd (never_plain task m fits h)
unmarked_one route leg task (answer.Hits hits) later fits h = (tt, h)
unmarked_one route leg task (answer.Refused diag) later fits h = (tt, h)
unmarked_one route leg task (answer.Items items) later fits h = (tt, h)
unmarked_one route leg task (answer.Broken items diag) later fits h = (tt, h)
unmarked_one route leg task (answer.Scanned entries) later fits h = (tt, h)

-- where the cause is Plain none of the first is marked, and the cause of the others is Plain
pub unmarked_all : {W : Type 0} (w : world.Ghosts W) (route : Route) (asked : List Asked) (first later : List Answered)
    → AreAnswersTo w route asked first → (cause_of route (first ++ later)).mark ≡ mark.Plain
    → AreUnmarked first × ((cause_of route later).mark ≡ mark.Plain)
unmarked_all w route [] [] later all h = (tt, h)
unmarked_all w route [] (a ∷ answers) later all h = absurd all
unmarked_all w route (ask ∷ others) [] later all h = absurd all
unmarked_all w route (ask ∷ others) (a ∷ answers) later all h =
    let here = unmarked_one route a.leg ask.task a.answer (cause_of route (answers ++ later)) all.0.fits h in
    let rest = unmarked_all w route others answers later all.1 here.1 in ((here.0, rest.0), rest.1)

plain_one : (route : Route) (leg : ℕ) (said : LegAnswer) (later : Cause) → IsUnmarked said → later.mark ≡ mark.Plain
    → (cause_or route leg (mark_of said) later).mark ≡ mark.Plain
plain_one route leg (answer.Marked m) later unmarked h = absurd unmarked
plain_one route leg (answer.Hits hits) later unmarked h = h
plain_one route leg (answer.Refused diag) later unmarked h = h
plain_one route leg (answer.Items items) later unmarked h = h
plain_one route leg (answer.Broken items diag) later unmarked h = h
plain_one route leg (answer.Scanned entries) later unmarked h = h

-- where none is marked the cause is Plain
pub plain_all : (route : Route) (answers : List Answered) → AreUnmarked answers → (cause_of route answers).mark ≡ mark.Plain
plain_all route [] unmarked = refl
plain_all route (a ∷ answers) unmarked =
    plain_one route a.leg a.answer (cause_of route answers) unmarked.0 (plain_all route answers unmarked.1)
