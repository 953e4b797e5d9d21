use Rattle.std.specs.Option.{option_copied}
use Rattle.std.proofs.Common.{◌==◌, ◌≡◌, ◌+◌, ◌∙◌, ℕ, List, ◌∷◌, Result, Ok, refl, ap, arith, sym, subst, length}
use Rattle.std.proofs.lemmas.List.Sums.{count_by-le-length}
use Rattle.std.proofs.lemmas.List.Splits.{length-slice_split}
use Rattle.script.specs.declared.event.Event.{Event}
use Rattle.script.specs.declared.faults.ScriptFault.{ScriptFault}
use Rattle.script.specs.Events.{AreEvents}
use Rattle.script.specs.Lines.{said_by}
use Rattle.script.specs.Script.{script_of, events_of, put_said, lines, lines_behind}
use Rattle.script.proofs.OrderLemmas.{no_events}
use Rattle.script.proofs.read.read_script.Goals as goal

pub loop-rest-init : goal.loop-rest-init
unfolding script_of
loop-rest-init c = record {
  said = rw c.in_ok-events.ensures refl;
  events = subst (λ list. AreEvents (length c.args.targets.now) list) (sym c.in_ok-events.ensures) (no_events (length c.args.targets.now));
  count = omega (arith, length-slice_split (λ octet. octet == 10) c.args.text.now, count_by-le-length (λ octet. octet == 10) c.args.text.now);
}

-- a line that is taken leaves the others
goes_on : (targets : List (List ℕ)) (number : ℕ) (list new : List Event) (text : List (List ℕ)) (first : List ℕ) (others : List (List ℕ)) (wanted : Result (List Event) ScriptFault)
    → text ≡ first ∷ others → put_said number list (said_by targets first) ≡ Ok new → events_of targets number list text ≡ wanted
    → events_of targets (number + 1) new others ≡ wanted
goes_on targets number list new text first others wanted e p h = let h' = rw (e, p) at h in h'

pub loop-rest-preserved : goal.loop-rest-preserved
loop-rest-preserved c = record {
  said = goes_on c.args.targets.now c.loop-rest.number c.loop-rest.events.list c.put_said.new.self.list (lines c.in-Some.text.now) c.first_line.result.0.now
      (lines_behind (option_copied c.first_line.result.1)) (script_of c.args.targets.now c.args.text.now) c.first_line.ensures
      (ap (λ s. put_said c.loop-rest.number c.loop-rest.events.list s) (sym c.in_ok-said_by.ensures.said) ∙ c.in_ok-put_said.ensures.put)
      (rw c.in-Some.is at c.loop-rest.invariant.said);
  events = c.in_ok-put_said.ensures.events (length c.args.targets.now) c.in_ok-said_by.ensures.event c.loop-rest.invariant.events;
  count = let k = rw (c.in-Some.is, c.first_line.ensures) at c.loop-rest.invariant.count in omega (arith, k);
}
