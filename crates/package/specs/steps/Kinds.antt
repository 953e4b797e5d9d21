-- For contracts alone: the kinds of works (ANSI/NISO Z39.50-2003, 3.2.2 and 3.2.3)
use Rattle.z_types.specs.declared.work.Work.{Work}
use Rattle.z_types.specs.declared.work.Work.TheVariants as work

-- the work of a Search
abbrev pub IsSearch : Work → Type 0
IsSearch (work.Search login legs query small large medium small_element medium_element
    syntax room) =
    Unit {0}
IsSearch other = ⊥

-- the work of a Present
abbrev pub IsFetch : Work → Type 0
IsFetch (work.Fetch login legs query hits first count syntax element) = Unit {0}
IsFetch other = ⊥
