-- A leg whose turn lacked memory is not done behind it
use Rattle.std.proofs.Common.{◌≡◌, ◌≢◌, ◌∙◌, Bool, true, false, inl, inr, refl, sym, ap}
use Rattle.pool_sets.specs.declared.doors.Taken.TheVariants as taken
use Rattle.gw_outside.specs.declared.backends.Heard.TheVariants as look
use Rattle.package_quiet.specs.leg.Deeds.{Deed, took, opened, began, heard, put_back, gave_up, redialled, no_memory, nothing}
use Rattle.package_quiet.specs.leg.Phases.{is_done}
use Rattle.package_quiet.specs.leg.Rules.{Ends, Lack, always, answer_of, lack_of, left_by, never, perhaps, unless_lost}
use Rattle.package_quiet.specs.leg.declared.answers.Turned.{Turned}
use Rattle.package_quiet.specs.leg.declared.answers.Turned.TheVariants as turned
use Rattle.package_quiet.specs.leg.declared.phases.Phase.{Phase}
use Rattle.package_quiet.specs.leg.declared.phases.Phase.TheVariants.{Begin, Dialling, Dialled, Ready, Searching, Presenting, Fetching, Scanning, Returning, Losing, Redialling, Spoiled, Done, Ended}
use Rattle.package_quiet.proofs.TurnLemmas.{HadMemory, left-open}

-- the rules of a leg never say that memory lacked
abbrev is_lack : Turned → Bool
is_lack turned.Memory = true
is_lack answer = false

module _ {S : Type 0} where
  unless-some : (phase : Phase S) → is_lack (unless_lost phase) ≡ false
  unless-some Begin = refl
  unless-some (Dialling seat member) = refl
  unless-some (Dialled held looks) = refl
  unless-some (Ready held items) = refl
  unless-some (Searching held items slot looks) = refl
  unless-some (Presenting held items slot hits) = refl
  unless-some (Fetching held items slot hits looks) = refl
  unless-some (Scanning held looks) = refl
  unless-some (Returning held own) = refl
  unless-some (Losing seat own) = refl
  unless-some (Redialling seat) = refl
  unless-some (Spoiled seat) = refl
  unless-some (Done own) = refl
  unless-some Ended = refl

  answers-some : (deed : Deed S) (phase : Phase S) → is_lack (answer_of deed phase) ≡ false
  answers-some (took (taken.Reuse seat parts slot hits)) phase = refl
  answers-some (took (taken.Fresh seat parts)) phase = refl
  answers-some (took (taken.Dial seat member)) phase = refl
  answers-some (took (taken.Full open_)) phase = refl
  answers-some (took taken.Memory) phase = refl
  answers-some (opened made) phase = refl
  answers-some (began asks reply session) phase = refl
  answers-some (heard look.Opened session) phase = refl
  answers-some (heard (look.Hits hits) session) phase = refl
  answers-some (heard (look.Refused diag) session) phase = refl
  answers-some (heard (look.Items items) session) phase = refl
  answers-some (heard look.Gone session) phase = refl
  answers-some (heard (look.Scanned entries) session) phase = refl
  answers-some (heard look.NotYet session) phase = unless-some phase
  answers-some (heard look.Failed session) phase = refl
  answers-some (heard look.Memory session) phase = refl
  answers-some put_back phase = refl
  answers-some gave_up phase = refl
  answers-some (redialled member) phase = refl
  answers-some no_memory phase = refl
  answers-some nothing phase = refl

  -- a leg that was left for want of memory is not done
  not-left : (old new : Phase S) (deed : Deed S) → is_done old ≡ false → is_done new ≡ true → new ≡ left_by old deed → ⊥
  not-left old new deed open_ done is =
      let wrong : true ≡ false = sym done ∙ ap is_done is ∙ left-open old deed open_ in absurd cc

  no-lack : (lack : Lack) (old new wanted : Phase S) (deed : Deed S) (answer : Turned) → is_done old ≡ false → is_done new ≡ true
      → Ends lack wanted (left_by old deed) (answer_of deed new) answer new → answer ≢ turned.Memory
  no-lack never old new wanted deed answer open_ done ends is =
      let wrong : true ≡ false = sym (ap is_lack is) ∙ ap is_lack ends.1 ∙ answers-some deed new in absurd cc
  no-lack always old new wanted deed answer open_ done ends is = not-left old new deed open_ done ends.0
  no-lack perhaps old new wanted deed turned.Memory open_ done ends is = not-left old new deed open_ done ends
  no-lack perhaps old new wanted deed turned.Went open_ done ends is = absurd cc
  no-lack perhaps old new wanted deed turned.NotYet open_ done ends is = absurd cc
  no-lack perhaps old new wanted deed turned.Done open_ done ends is = absurd cc

  -- a turn that had memory does not answer that it lacked
  pub had-some : (old new wanted : Phase S) (deed : Deed S) (answer : Turned) → HadMemory answer old new
      → Ends (lack_of deed) wanted (left_by old deed) (answer_of deed new) answer new → answer ≢ turned.Memory
  had-some old new wanted deed answer (inl other) ends = other
  had-some old new wanted deed answer (inr done) ends = no-lack (lack_of deed) old new wanted deed answer done.0 done.1 ends
