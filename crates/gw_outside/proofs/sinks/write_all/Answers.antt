use Rattle.std.proofs.Common.{arith, take, ◌≡◌, ◌∙◌, ap, sym, List, ℕ, Option, None, Some, refl, ◌++◌, append_assoc, length-drop, ◌+◌, ◌-◌, drop, length}
use Rattle.std.proofs.Math.Seq.{take-add}
use Rattle.std.proofs.lemmas.Grind.{common_steps}
use Rattle.gw_outside.specs.Sinks.{appended}
use Rattle.gw_outside.proofs.sinks.write_all.Goals as goal

-- the rest, taken whole
rest_whole : (n : ℕ) (bytes : List ℕ) → take (length bytes - n) (drop n bytes) ≡ drop n bytes
rest_whole n bytes = grind (arith, common_steps)

-- one more piece was received
appended_more : (old : Option (List ℕ)) (n m : ℕ) (bytes : List ℕ) → appended (appended old (take n bytes)) (take m (drop n bytes)) ≡ appended old (take (n + m) bytes)
appended_more None n m bytes = refl
appended_more (Some old) n m bytes = ap Some (append_assoc old (take n bytes) (take m (drop n bytes)) ∙ ap (λ x. old ++ x) (sym (take-add n m bytes)))

pub loop-done-preserved : goal.loop-done-preserved
loop-done-preserved g c =
    let bytes = c.args.bytes.now in
    let fits = rw (rest_whole c.loop-done.done bytes) at c.in-Bytes.ensures.fits in
    record {
      within = omega (arith, fits.1, length-drop c.loop-done.done bytes);
      received = fits.2 ∙ ap (λ o. appended o (take c.in-Bytes.count (drop c.loop-done.done bytes))) c.loop-done.invariant.received ∙ appended_more (g.K.Sink.received c.args.sink.now) c.loop-done.done c.in-Bytes.count bytes;
      faults = omega (arith, c.in-Bytes.ensures.faults);
    }
