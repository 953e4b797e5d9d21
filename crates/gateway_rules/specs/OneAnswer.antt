-- For a law alone: that octets have one answer (this project's own)
use Rattle.std.specs.Prelude.{◌≡◌, ℕ, List, Option}
use Rattle.std.specs.List.{AllByRecursion}
use Rattle.z_types.specs.declared.marks.End.{End}
use Rattle.z_types.specs.declared.marks.Mark.{Mark}
use Rattle.z_types.specs.declared.marks.Mark.TheVariants.{Plain}
use Rattle.z_types.specs.declared.world.World as world
use Rattle.route_config.specs.declared.route.Route.{Route}
use Rattle.gateway_rules.specs.Answers.{Answers}
use Rattle.unit_forms.specs.Reading.Units.{IsReading}
use Rattle.z_types.specs.declared.requests.Request.{Request}

-- octets are read as one request, or as none
abbrev pub HasOneReading : Type 0
HasOneReading =
    (octets : List ℕ) (a b : Option Request) → IsReading octets a → IsReading octets b → a ≡ b

-- no target failed at any request
abbrev pub AreMarksPlain : List Mark → Type 0
AreMarksPlain marks = AllByRecursion (λ mark. mark ≡ Plain) marks

-- no octets are without an answer with every mark Plain
abbrev pub HasSomeAnswer : {W : Type 0} → world.Ghosts W → Type 0
HasSomeAnswer w =
    (route : Route) (bytes : List ℕ)
    → ¬ ((marks : List Mark) (out : List ℕ) (end : End) → AreMarksPlain marks
    → ¬ Answers w route bytes marks out end)

-- the same octets, twice answered with every mark Plain, have the same marks, the same octets
-- written and the same end
abbrev pub HasOneAnswer : {W : Type 0} → world.Ghosts W → Type 0
HasOneAnswer w =
    (route : Route) (bytes : List ℕ) (marks others : List Mark) (out other_out : List ℕ)
    (end other_end : End)
    → Answers w route bytes marks out end → Answers w route bytes others other_out other_end
    → AreMarksPlain marks → AreMarksPlain others
    → (marks ≡ others) × (out ≡ other_out) × (end ≡ other_end)

-- the same octets, twice answered, have the same end, whatever the targets and the marks
abbrev pub HasOneEnd : {V W : Type 0} → world.Ghosts V → world.Ghosts W → Type 0
HasOneEnd v w =
    (route : Route) (bytes : List ℕ) (marks others : List Mark) (out other_out : List ℕ)
    (end other_end : End)
    → Answers v route bytes marks out end → Answers w route bytes others other_out other_end
    → end ≡ other_end
