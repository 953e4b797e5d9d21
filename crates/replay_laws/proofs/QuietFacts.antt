-- which scripts are quiet, by computation
use Rattle.std.proofs.Common.{◌≡◌, false, [], ◌∷◌, refl}
use Rattle.script.specs.declared.event.Event.TheVariants.{Feed, End, Step, Run, Tick, Gone, Cut, Slow}
use Rattle.replay_laws.specs.Quiet.{IsQuiet, may_all_come}

-- one without steps
whole_runs : IsQuiet (Feed 1 [] ∷ Run 1 ∷ Cut 0 ∷ Feed 2 [] ∷ Gone 0 3 ∷ Run 2 ∷ [])
whole_runs = refl

-- a cut behind a step
cut_behind_a_step : may_all_come [] (Feed 1 [] ∷ Step 1 ∷ Cut 0 ∷ []) ≡ false
cut_behind_a_step = refl

-- a step, and a run since
run_since : IsQuiet (Step 1 ∷ Step 2 ∷ Run 2 ∷ Step 1 ∷ Run 1 ∷ Gone 0 1 ∷ Step 1 ∷ [])
run_since = refl

-- another client's run
run_of_another : may_all_come [] (Step 1 ∷ Step 2 ∷ Run 2 ∷ Gone 0 1 ∷ Run 1 ∷ []) ≡ false
run_of_another = refl

-- a link that is slow and a client that ends disturb nobody
slow_behind_a_step : IsQuiet (Step 1 ∷ Slow 0 9 ∷ End 1 ∷ Tick 60 ∷ [])
slow_behind_a_step = refl
