use Rattle.std.proofs.Common.{◌≡◌, ℕ, ◌+◌, ◌-◌, suc, List, [], ◌∷◌, ◌++◌, ◌∙◌, append_assoc, arith}
use Rattle.std.specs.List.{range_with_len}
use Rattle.route_text.proofs.leg.places_from.Goals as goal

range_more : (places : List ℕ) (first more : ℕ) → (places ++ first ∷ []) ++ range_with_len (first + 1) more ≡ places ++ range_with_len first (suc more)
range_more places first more = rw append_assoc

stepped : (places : List ℕ) (first next count left : ℕ) → next ≡ first + 1 → count ≡ suc left → (places ++ first ∷ []) ++ range_with_len next left ≡ places ++ range_with_len first count
stepped places first next count left a b = rw (a, b) (range_more places first left)

pub loop-place-preserved : goal.loop-place-preserved
loop-place-preserved c =
    let more = stepped c.loop-place.places (c.args.first + c.loop-place.place) (c.args.first + (c.loop-place.place + 1)) (c.args.count - c.loop-place.place) (c.args.count - (c.loop-place.place + 1)) (omega arith) (omega arith) in
    rw c.in_ok-push.ensures.ok (more ∙ c.loop-place.invariant)
