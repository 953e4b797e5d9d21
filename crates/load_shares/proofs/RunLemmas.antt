-- Each client of a load asks its works in its first run, and nothing more when it is closed
use Rattle.std.proofs.Common.{◌≡◌, ◌∙◌, ◌+◌, ◌≤◌, ◌<◌, ◌==◌, ℕ, zero, suc, Bool, true, false, if◌then◌else◌, List, [], ◌∷◌, ◌++◌, map, length, drop, flat_map, refl, sym, ap, append_assoc, append-nil, ne_eqb, eqb-true, arith}
use Rattle.std.specs.List.{AllByRecursion, range_with_len}
use Rattle.std.proofs.Math.Seq.{drop-length}
use Rattle.z_types.specs.declared.work.Work.{Work}
use Rattle.z_types.specs.declared.world.World as world
use Rattle.sample_maker.specs.Load.{letter_of}
use Rattle.sharing_rules.specs.Uses.{DatedWork}
use Rattle.replay_shares.specs.Orderly.{ClientRun, asked_before, dated, dated_after, dated_works}
use Rattle.load_shares.specs.Runs.{load_runs, run_of, runs_of, works_for}
use Rattle.load_shares.proofs.ListLemmas.{all-range, all-turned, differ}

module _ {W : Type 0} (w : world.Ghosts W) where
  -- what a client asks
  abbrev pub asked_by : ℕ → List Work
  asked_by client = works_for w (letter_of client)

  -- what clients ask, each once
  abbrev pub asked_once : List ℕ → List DatedWork
  asked_once clients = flat_map (λ client. map (dated 0) (asked_by client)) clients

  -- runs behind others, of which the last one comes first
  abbrev behind_runs : List ClientRun → List ℕ → List ClientRun
  behind_runs before [] = before
  behind_runs before (client ∷ clients) = behind_runs (run_of w client ∷ before) clients

  -- a client has asked all that it asks
  abbrev HasAsked : List ClientRun → ℕ → Type 0
  HasAsked before client = asked_before client before ≡ asked_by client

  asked-other : (client other : ℕ) (before : List ClientRun) → (other == client) ≡ false
      → asked_before client (run_of w other ∷ before) ≡ asked_before client before
  asked-other client other before e = ap (λ (own : Bool). if own then asked_by other else asked_before client before) e

  asked-still : (client other : ℕ) (before : List ClientRun) → HasAsked before client → HasAsked (run_of w other ∷ before) client
  asked-still client other before h =
      (elim (other == client) as (λ (own : Bool). (other == client) ≡ own → (if own then asked_by other else asked_before client before) ≡ asked_by client) [
        | true ↦ λ e. ap asked_by (eqb-true other client e)
        | false ↦ λ e. h
      ]) refl

  asked-kept : (client : ℕ) (clients : List ℕ) (before : List ClientRun) → HasAsked before client → HasAsked (behind_runs before clients) client
  asked-kept client [] before h = h
  asked-kept client (other ∷ clients) before h = asked-kept client clients (run_of w other ∷ before) (asked-still client other before h)

  asked-in : (first many client : ℕ) (before : List ClientRun) → first ≤ client → client < first + many
      → HasAsked (behind_runs before (range_with_len first many)) client
  asked-in first zero client before low high = absurd (omega (arith, low, high))
  asked-in first (suc many) client before low high =
      (elim (first == client) as (λ (own : Bool). (first == client) ≡ own → HasAsked (behind_runs (run_of w first ∷ before) (range_with_len (first + 1) many)) client) [
        | true ↦ λ e.
            asked-kept client (range_with_len (first + 1) many) (run_of w first ∷ before)
            (ap (λ (own : Bool). if own then asked_by first else asked_before client before) e ∙ ap asked_by (eqb-true first client e))
        | false ↦ λ e.
            let other = differ first client e in
            asked-in (first + 1) many client (run_of w first ∷ before) (omega (arith, low, other)) (omega (arith, high))
      ]) refl

  -- the first runs ask all
  first-runs : (first many : ℕ) (before more : List ClientRun) → ((client : ℕ) → first ≤ client → asked_before client before ≡ [])
      → dated_after before (runs_of w (range_with_len first many) ++ more)
      ≡ asked_once (range_with_len first many) ++ dated_after (behind_runs before (range_with_len first many)) more
  first-runs first zero before more none = refl
  first-runs first (suc many) before more none =
      let rest = range_with_len (first + 1) many in
      let still : (client : ℕ) → first + 1 ≤ client → asked_before client (run_of w first ∷ before) ≡ [] =
      λ client low. asked-other client first before (ne_eqb first client (λ same. omega (arith, same, low))) ∙ none client (omega (arith, low)) in
      ap (λ (seen : List Work). map (dated 0) (drop (length seen) (asked_by first)) ++ dated_after (run_of w first ∷ before) (runs_of w rest ++ more))
      (none first (omega arith))
      ∙ ap (λ (done : List DatedWork). map (dated 0) (asked_by first) ++ done) (first-runs (first + 1) many (run_of w first ∷ before) more still)
      ∙ sym (append_assoc (map (dated 0) (asked_by first)) (asked_once rest) (dated_after (behind_runs (run_of w first ∷ before) rest) more))

  -- the others nothing
  other-runs : (clients : List ℕ) (before : List ClientRun) → AllByRecursion (HasAsked before) clients → dated_after before (runs_of w clients) ≡ []
  other-runs [] before h = refl
  other-runs (client ∷ clients) before h =
      ap (λ (seen : List Work). map (dated 0) (drop (length seen) (asked_by client)) ++ dated_after (run_of w client ∷ before) (runs_of w clients)) h.0
      ∙ ap (λ (left : List Work). map (dated 0) left ++ dated_after (run_of w client ∷ before) (runs_of w clients)) (drop-length (asked_by client))
      ∙ other-runs clients (run_of w client ∷ before)
      (all-turned (HasAsked before) (HasAsked (run_of w client ∷ before)) clients (λ other asked. asked-still other client before asked) h.1)

  pub load-asks : (clients : ℕ) → dated_works (load_runs w clients) ≡ asked_once (range_with_len 1 clients)
  load-asks clients =
      let numbers = range_with_len 1 clients in
      let all = all-range (HasAsked (behind_runs [] numbers)) 1 clients (λ client low high. asked-in 1 clients client [] low high) in
      first-runs 1 clients [] (runs_of w numbers) (λ client low. refl)
      ∙ ap (λ (done : List DatedWork). asked_once numbers ++ done) (other-runs numbers (behind_runs [] numbers) all)
      ∙ append-nil (asked_once numbers)
