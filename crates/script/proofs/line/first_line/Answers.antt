use Rattle.std.proofs.Common.{sym, ◌∙◌}
use Rattle.std.proofs.lemmas.List.{take_rest}
use Rattle.script.proofs.LineLemmas.{lines-at, lines_whole}
use Rattle.script.proofs.line.first_line.Goals as goal

pub returns-in-Some : goal.returns-in-Some
returns-in-Some c = rw take_rest (lines-at c.args.text.now c.in-Some.end (sym c.place_of.ensures ∙ c.in-Some.is))

pub returns-in-None : goal.returns-in-None
returns-in-None c = lines_whole c.args.text.now (sym c.place_of.ensures ∙ c.in-None.is)
