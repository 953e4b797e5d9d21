use Rattle.std.proofs.Common.{arith, take, ◌≡◌, ◌∙◌, ap, sym, List, ℕ, Option, None, Some, refl, ◌++◌, append_assoc, length-drop, ◌+◌, ◌-◌, drop, length}
use Rattle.std.proofs.Math.Seq.{take-add}
use Rattle.std.proofs.lemmas.Grind.{common_steps}
use Rattle.gw_outside.specs.Sinks.{appended}
use Rattle.event_outside.proofs.sinks.write_on.Goals as goal

-- the rest, taken whole
rest_whole : (n : ℕ) (octets : List ℕ) → take (length octets - n) (drop n octets) ≡ drop n octets
rest_whole n octets = grind (arith, common_steps)

-- one more piece was received
appended_more : (old : Option (List ℕ)) (n m : ℕ) (octets : List ℕ) → appended (appended old (take n octets)) (take m (drop n octets)) ≡ appended old (take (n + m) octets)
appended_more None n m octets = refl
appended_more (Some old) n m octets = ap Some (append_assoc old (take n octets) (take m (drop n octets)) ∙ ap (λ x. old ++ x) (sym (take-add n m octets)))

pub loop-done-preserved : goal.loop-done-preserved
loop-done-preserved g c =
    let octets = c.args.octets.now in
    let fits = rw (rest_whole c.loop-done.done octets) at c.in-Bytes.ensures.fits in
    record {
      on = omega (arith, c.loop-done.invariant.on);
      within = omega (arith, fits.1, length-drop c.loop-done.done octets);
      received = λ before h.
          fits.2 ∙ ap (λ o. appended o (take c.in-Bytes.count (drop c.loop-done.done octets))) (c.loop-done.invariant.received before h)
          ∙ appended_more before c.loop-done.done c.in-Bytes.count octets;
      faults = omega (arith, c.in-Bytes.ensures.faults, c.loop-done.invariant.faults);
      waits = omega (arith, c.in-Bytes.ensures.waits, c.loop-done.invariant.waits);
    }
