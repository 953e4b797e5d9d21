-- The answers to a client's octets (ANSI/NISO Z39.50-2003, 4.2; X.690:2021, 8.1): those of a route
-- with private sessions and no pool, under the marks that are listed; and how the connection ends,
-- whatever the marks
use Rattle.std.specs.Prelude.{◌≡◌, ◌⊎◌, ℕ, List, [], ◌∷◌, ◌++◌, length, None, Some, map, flat_map}
use Rattle.std.specs.Prelude.{if◌then◌else◌, IfSome}
use Rattle.std.specs.Char.{is_ascii_alphabetic}
use Rattle.std.specs.List.{AllByRecursion}
use Rattle.z_types.specs.declared.marks.Mark.{Mark}
use Rattle.z_types.specs.declared.marks.End.{End}
use Rattle.z_types.specs.declared.marks.End.TheVariants.{Finished, Malformed, Cut}
use Rattle.z_types.specs.declared.world.World as world
use Rattle.z_ber.specs.Frames.{IsFrame}
use Rattle.z_ber.specs.Header.{IsBadFor, IsOpenFor}
use Rattle.unit_forms.specs.Reading.Units.{IsReading}
use Rattle.unit_forms.specs.Replies.{spell_reply}
use Rattle.z_types.specs.Bounds.{within64}
use Rattle.route_config.specs.declared.route.Route.{Route}
use Rattle.gateway_rules.specs.Course.{Course, Received, octets_of, course, ends, followed, stands_at, end_of}
use Rattle.gateway_rules.specs.Marks.{Cause, IsAllowed}
use Rattle.gateway_rules.specs.Replies.{bad_unit_reply}
use Rattle.gateway_rules.specs.Session.{run, Fits}
use Rattle.gateway_rules.specs.State.{Progress, ClientState, at_the_start, new_client}

-- ---- octets as a course

-- a whole unit, and what it is read as
abbrev pub IsReceived : Received → Type 0
IsReceived unit = IsFrame unit.octets × IsReading unit.octets unit.request

-- no unit is whole, and some continuation of the octets begins with one
abbrev pub IsOpen : List ℕ → Type 0
IsOpen rest = IsOpenFor IsFrame rest

-- no continuation of the octets begins with a unit
abbrev pub IsBad : List ℕ → Type 0
IsBad rest = IsBadFor IsFrame rest

-- what the octets behind the last unit, from this offset on, lead to: the input ends between two
-- units, inside one, or with octets that begin none
abbrev pub RestLeadsTo : ℕ → List ℕ → Course → Type 0
RestLeadsTo at [] behind = behind ≡ ends None Finished
RestLeadsTo at (octet ∷ rest) behind =
    (IsOpen (octet ∷ rest) × (behind ≡ ends None (Cut (length (octet ∷ rest)))))
    ⊎ (IsBad (octet ∷ rest) × (behind ≡ ends (Some bad_unit_reply) (Malformed (within64 at))))

-- The octets that come where a session stands have this course: they are units and a rest, each
-- unit is read, and where the session still stands behind the units, it goes on by the rest. What
-- follows its end is no part of it.
pub record IsCourse (route : Route) (here : Progress) (bytes : List ℕ)
    (whole : Course) : Type 0 where
  pub units : List Received
  pub rest : List ℕ
  pub spelled : bytes ≡ octets_of units ++ rest
  pub each : AllByRecursion IsReceived units
  pub behind : Course
  pub rested : IfSome (stands_at (course route here units))
      (λ there. RestLeadsTo there.at rest behind)
  pub is : whole ≡ followed (course route here units) (λ there. behind)

-- ---- a whole connection

-- the kinds of connection, by the first octet: there is none; an ASCII letter; another
pub data Kind : Type 0 where
  empty : Kind
  letter : Kind
  unit : Kind

-- the kind of a connection
abbrev pub kind_of : List ℕ → Kind
kind_of [] = empty
kind_of (octet ∷ octets) = if is_ascii_alphabetic octet then letter else unit

-- the course of a connection of units, by its kind: a letter begins no unit. Where HTTP is spoken
-- too, its first letter is answered by `sru_rules` in place of this.
abbrev pub IsCourseOf : Kind → Route → List ℕ → Course → Type 0
IsCourseOf empty route bytes whole = whole ≡ ends None Finished
IsCourseOf letter route bytes whole = whole ≡ ends (Some bad_unit_reply) (Malformed 0)
IsCourseOf unit route bytes whole = IsCourse route at_the_start bytes whole

-- the course of a connection
abbrev pub IsConnection : Route → List ℕ → Course → Type 0
IsConnection route bytes whole = IsCourseOf (kind_of bytes) route bytes whole

-- a connection ends so: its octets decide, and no target and no mark
abbrev pub Ending : Route → List ℕ → End → Type 0
Ending route bytes end =
    (whole : Course) × IsConnection route bytes whole × (end_of whole ≡ Some end)

-- ---- the answers

-- Under some causes with these marks, each of which may come where it is taken, the replies of such
-- a course are written one after another. There need not be a mark for each request: where one is
-- wanting the replies end.
pub record Answered {W : Type 0} (w : world.Ghosts W) (route : Route) (client : ClientState)
    (IsWhole : Course → Type 0) (marks : List Mark) (out : List ℕ) : Type 0 where
  pub whole : Course
  pub is_whole : IsWhole whole
  pub causes : List Cause
  pub of_marks : map (λ cause. cause.mark) causes ≡ marks
  pub allowed : AllByRecursion IsAllowed (run w route client whole causes).taken
  pub written : out ≡ flat_map spell_reply (run w route client whole causes).replies

-- the same, with exactly one mark for each request that takes one, and the end
pub record Ended {W : Type 0} (w : world.Ghosts W) (route : Route) (client : ClientState)
    (IsWhole : Course → Type 0) (marks : List Mark) (out : List ℕ) (end : End) : Type 0 where
  pub answered : Answered w route client IsWhole marks out
  pub fits : Fits (run w route client answered.whole answered.causes)
  pub ended : end_of answered.whole ≡ Some end

-- the answers to all the octets of a connection: these marks fit, these octets are written, and it
-- ends so
abbrev pub Answers : {W : Type 0} → world.Ghosts W → Route → List ℕ → List Mark → List ℕ
    → End → Type 0
Answers w route bytes marks out end =
    Ended w route new_client (IsConnection route bytes) marks out end
