use Rattle.std.proofs.Common.{◌≡◌, ◌∙◌, ℕ, List, [], ◌∷◌, ◌++◌, false, length, take, get_or, ap, sym, refl, arith}
use Rattle.std.proofs.Math.Seq.{take-length}
use Rattle.test_target.specs.Places.{marked}
use Rattle.test_target.proofs.PlacesLemmas.{marked_more}
use Rattle.test_target.proofs.places.numbers.Goals as goal

pub loop-is_found-preserved : goal.loop-is_found-preserved
loop-is_found-preserved c =
    let found = c.args.found.now in
    let at : ℕ = c.loop-is_found.is_found-index in
    record {
      counted = omega (arith, c.loop-is_found.invariant.counted);
      so_far = c.in_ok-put_marked.ensures
          ∙ ap (λ (l : List ℕ). l ++ marked c.loop-is_found.number (get_or found at false ∷ [])) c.loop-is_found.invariant.so_far
          ∙ sym (marked_more found at 1 c.loop-is_found.number _ c.loop-is_found-test.true refl (omega (arith, c.loop-is_found.invariant.counted)));
    }

pub returns : goal.returns
returns c =
    let found = c.args.found.now in
    let end : c.loop-is_found.is_found-index ≡ length found = omega arith in
    c.loop-is_found.invariant.so_far ∙ ap (λ (i : ℕ). marked 1 (take i found)) end ∙ ap (marked 1) (take-length found)
