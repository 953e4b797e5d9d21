use Rattle.std.proofs.Common.{◌≡◌, ◌∷◌, ◌++◌, take}
use Rattle.std.specs.List.{flat_map}
use Rattle.replay.specs.Page.{mark_text}
use Rattle.replay.proofs.page.put_other_marks.Given as goal

abbrev pub invariant-loop-mark : goal.invariant-loop-mark
invariant-loop-mark l = l.out ≡ l.fn.out ++ flat_map (λ other. 32 ∷ mark_text other) (take l.mark-index l.marks)
