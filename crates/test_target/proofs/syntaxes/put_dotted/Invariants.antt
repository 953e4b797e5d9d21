use Rattle.std.proofs.Common.{◌≡◌, ◌++◌, ◌∷◌, take}
use Rattle.std.specs.List.{flat_map}
use Rattle.std.specs.Fmt.{decimal}
use Rattle.test_target.proofs.syntaxes.put_dotted.Given as goal

abbrev pub invariant-loop-arc : goal.invariant-loop-arc
invariant-loop-arc l = l.text ≡ l.fn.text ++ flat_map (λ arc. 46 ∷ decimal arc) (take l.arc-index l.arcs)
