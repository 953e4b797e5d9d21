-- Which legs a request asks (this project's own)
use Rattle.std.specs.Prelude.{ℕ, ◌<◌, List, [], ◌∷◌, length, All, Result, Ok, Err}
use Rattle.z_types.specs.declared.diagnostic.Diag.{Diag}
use Rattle.z_types.specs.declared.marks.Mark.{Mark}
use Rattle.z_types.specs.declared.marks.Mark.TheVariants.{Plain}
use Rattle.z_types.specs.declared.work.Work.{Work}
use Rattle.z_types.specs.declared.work.Work.TheVariants as work
use Rattle.route_config.specs.declared.route.Route.{Route}
use Rattle.package_rules.specs.declared.answered.Answered.{Answered}
use Rattle.package_rules.specs.Asked.{Asked, then_asked}
use Rattle.package_rules.specs.Said.{all_hits, cause_of}

-- the legs that a work names
abbrev pub legs_named : Work → List ℕ
legs_named (work.Search login legs query small large medium small_element medium_element syntax
    room) = legs
legs_named (work.Fetch login legs query hits first count syntax element) = legs
legs_named (work.Scan login leg ask) = leg ∷ []

-- they are legs of the route
abbrev pub AreThere : Route → Work → Type 0
AreThere route asked = All (λ leg. leg < length route.legs) (legs_named asked)

-- what is asked then, by the answers to what was asked first: nothing more where one is a mark, or
-- a diagnostic that is not hidden
abbrev pub by_hits : Route → Work → Result (List ℕ) Diag → List Asked
by_hits route asked (Ok hits) = then_asked route asked hits
by_hits route asked (Err diag) = []

abbrev pub unless_marked : Mark → List Asked → List Asked
unless_marked Plain then = then
unless_marked mark then = []

abbrev pub then_asked_by : Route → Work → List Answered → List Asked
then_asked_by route asked first =
    unless_marked (cause_of route first).mark (by_hits route asked (all_hits route first))
