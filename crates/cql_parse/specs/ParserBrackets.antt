-- For contracts alone: what an unfinished query is within: brackets and prefix assignments
-- (this project's own).
use Rattle.std.specs.Prelude.{◌≡◌, ℕ, List, Bool, true, false}
use Rattle.cql_parse.specs.declared.fault.Stop.{Stop}
use Rattle.cql_parse.specs.declared.fault.Stop.TheVariants.{NoQuery, Deep, Memory}
use Rattle.cql_parse.specs.declared.frame.Frame.{Frame}
use Rattle.cql_parse.specs.declared.frame.Frame.TheVariants.{Bracket, Prefix}
use Rattle.z_types.specs.Bounds.{most_query_depth}

-- the frames, the innermost first, and how many of them are brackets
pub record Within : Type 0 where
  pub frames : List Frame
  pub brackets : ℕ

abbrev pub is_bracket : Frame → Bool
is_bracket (Bracket left) = true
is_bracket (Prefix left name uri) = false

-- no more brackets can be opened: 48 are open, or memory is wanting
abbrev pub IsFull : ℕ → Stop → Type 0
IsFull brackets Deep = brackets ≡ most_query_depth
IsFull brackets NoQuery = ⊥
IsFull brackets Memory = Unit {0}
