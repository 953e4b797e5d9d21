-- The answers to the octets of a client of either kind, by the first of them: HTTP where it is an
-- ASCII letter, and else Z39.50; and how its connection ends (this project's own)
use Rattle.std.specs.Prelude.{◌≡◌, ℕ, List, [], map}
use Rattle.std.specs.List.{AllByRecursion}
use Rattle.z_types.specs.declared.marks.End.{End}
use Rattle.z_types.specs.declared.marks.Mark.{Mark}
use Rattle.z_types.specs.declared.world.World as world
use Rattle.route_config.specs.declared.route.Route.{Route}
use Rattle.gateway_rules.specs.Answers as units
use Rattle.gateway_rules.specs.Answers.{Kind, letter, kind_of}
use Rattle.gateway_rules.specs.Marks.{Cause, IsAllowed}
use Rattle.gateway_rules.specs.Session.{IsServed}
use Rattle.sru_rules.specs.Course.{Course, IsCourse, end_of}
use Rattle.sru_rules.specs.Run.{run}

-- ---- HTTP

-- Under some causes with these marks, which may come, this is written: nothing, where the mark of a
-- GET is wanting.
pub record Answered {W : Type 0} (w : world.Ghosts W) (route : Route) (bytes : List ℕ)
    (marks : List Mark) (out : List ℕ) : Type 0 where
  pub whole : Course
  pub is_whole : IsCourse route bytes whole
  pub causes : List Cause
  pub of_marks : map (λ cause. cause.mark) causes ≡ marks
  pub allowed : AllByRecursion IsAllowed (run w route whole causes).taken
  pub written : out ≡ (run w route whole causes).out

-- the same, with exactly one mark for a GET that is answered and none else, and the end
pub record Ended {W : Type 0} (w : world.Ghosts W) (route : Route) (bytes : List ℕ)
    (marks : List Mark) (out : List ℕ) (end : End) : Type 0 where
  pub answered : Answered w route bytes marks out
  pub served : IsServed (run w route answered.whole answered.causes).stop
  pub none_left : (run w route answered.whole answered.causes).left ≡ []
  pub ended : end_of answered.whole ≡ end

-- an HTTP connection ends so
abbrev pub HttpEnding : Route → List ℕ → End → Type 0
HttpEnding route bytes end = (whole : Course) × IsCourse route bytes whole × (end_of whole ≡ end)

-- ---- either kind

-- the answers to the octets of a connection of a kind
abbrev pub AnswersAs : Kind → {W : Type 0} → world.Ghosts W → Route → List ℕ → List Mark → List ℕ
    → End → Type 0
AnswersAs letter w route bytes marks out end = Ended w route bytes marks out end
AnswersAs other w route bytes marks out end = units.Answers w route bytes marks out end

-- the answers to all the octets of a connection: these marks fit, these octets are written, and it
-- ends so
abbrev pub Answers : {W : Type 0} → world.Ghosts W → Route → List ℕ → List Mark → List ℕ
    → End → Type 0
Answers w route bytes marks out end = AnswersAs (kind_of bytes) w route bytes marks out end

-- a connection of a kind ends so
abbrev pub EndingAs : Kind → Route → List ℕ → End → Type 0
EndingAs letter route bytes end = HttpEnding route bytes end
EndingAs other route bytes end = units.Ending route bytes end

-- a connection ends so: its octets and the route decide, and no target and no mark
abbrev pub Ending : Route → List ℕ → End → Type 0
Ending route bytes end = EndingAs (kind_of bytes) route bytes end
