-- Run by run: where each run shares, a whole script does
use Rattle.std.proofs.Common.{◌≡◌, ◌≢◌, ◌∙◌, ◌+◌, ◌-◌, ◌≤◌, ◌<◌, ◌⊎◌, ℕ, suc, Bool, true, false, inl, inr, if◌then◌else◌, List, [], ◌∷◌, ◌++◌, length, map, drop, get_or, slice_set, Option, None, Some, refl, sym, ap, subst, arith}
use Rattle.std.specs.List.{range_with_len, sum_by}
use Rattle.std.proofs.Math.ListN.{length-set}
use Rattle.std.proofs.lemmas.Bool.{cases_eq, eq-eqb, ne_eqb}
use Rattle.std.proofs.lemmas.List.{length-map}
use Rattle.std.proofs.lemmas.List.Sums.{get_or-le-sum_by, sum_by-cons, sum_by-set}
use Rattle.std.proofs.lemmas.Option.{unwrap_or-slice_get}
use Rattle.z_types.specs.Bounds.{within64}
use Rattle.z_types.specs.declared.marks.End as ending
use Rattle.z_types.specs.declared.sitting.Sitting as sitting
use Rattle.z_types.specs.declared.work.Work.{Work}
use Rattle.z_types.specs.declared.world.World as world
use Rattle.route_config.specs.Sound.{IsSound}
use Rattle.route_config.specs.declared.route.Route.{Route}
use Rattle.replay.specs.gateway_rules.Fair.{IsFair}
use Rattle.replay.specs.gateway_rules.OneAnswer.{AreMarksPlain}
use Rattle.package_shares.specs.leg.Terms.{members_of}
use Rattle.replay.specs.front_conn.steps.Answering.{Outside}
use Rattle.replay.specs.front_conn.steps.Feeding.{fed_piece}
use Rattle.script.specs.declared.event.Event.{Event}
use Rattle.script.specs.declared.event.Event.TheVariants.{Feed, End, Step, Run, Tick, Gone, Cut, Slow}
use Rattle.script.specs.Events.{AreEvents, IsClient, client_of, fed, has_ended, most_clients}
use Rattle.sharing_rules.specs.Needed.{count_after}
use Rattle.sharing_rules.specs.Uses.{DatedWork, Use, uses_of}
use Rattle.sharing_rules.specs.steps.Shared.{AreInOrder, shared_by}
use Rattle.sharing_rules.proofs.PoolUses.{kept_later}
use Rattle.replay.specs.front_conn_costs.steps.Numbers.{Number, dials, searches}
use Rattle.package_shares.specs.package_quiet.steps.Quiet.{IsCalm}
use Rattle.package_shares.specs.steps.Requests.{behind}
use Rattle.replay.specs.Classes.{costless, nameless}
use Rattle.replay.specs.Clients.{AreNone, ClientState, client_at, client_or_new}
use Rattle.replay.specs.Counts.{in_class}
use Rattle.replay.specs.Trace.{ArePlayed, IsPlayed, IsRunOf, Playing, closings, costs_upto, with_octets}
use Rattle.replay.specs.declared.reports.ClassReport.{ClassReport}
use Rattle.replay.specs.declared.reports.Report.{Report}
use Rattle.replay.proofs.ClientLemmas.{client_at-other, client_at-set}
use Rattle.replay.proofs.CostLemmas.{names-costs_upto, same_length}
use Rattle.replay.proofs.EventLemmas.{ended-more, ended-other, fed-more, fed-other, not_own}
use Rattle.replay_shares.specs.Orderly.{AreClientRuns, IsOrderly, IsClientRun, ClientRun, asked_before, closed, dated, dated_after, dated_works, works_added}
use Rattle.replay_shares.specs.steps.Costs.{cost_at, cost_of_all, cost_on, is_needed}
use Rattle.replay_shares.specs.steps.Laws.{ClientLaws, RunsOfScriptsShare, RunsShare, works_now}
use Rattle.replay_shares.specs.steps.Resting.{IsKeptOver, IsResting, MayDo, StandBehind}
use Rattle.replay_shares.proofs.CountLemmas.{count-both, keys-turned, logins-turned, later-order, may-first, may-rest, order-behind, uses-both, works-at}
use Rattle.replay_shares.proofs.EventLemmas.{AllCanCome, CanCome, all-come, closings-come, come-both, played-both}
use Rattle.replay_shares.proofs.FeedLemmas.{rests-ended, rests-fed, rests-first}
use Rattle.replay_shares.proofs.ReportLemmas.{class-reported, lines-are, plain-reported}

-- ---- numbers

-- what one client costs more, all do
cost-more : (all next here there spent extra : ℕ) → here ≤ all → next + here ≡ all + there
    → ((others : ℕ) → within64 (others + there) ≡ within64 (others + (here + extra))) → within64 all ≡ within64 spent
    → within64 next ≡ within64 (spent + extra)
cost-more all next here there spent extra few sums more was = let on = more (all - here) in omega (arith, few, sums, on, was)

-- ---- runs of a client

asked-own : (client : ℕ) (run : ClientRun) (before : List ClientRun) → run.client ≡ client → asked_before client (run ∷ before) ≡ run.asked
asked-own client run before own =
    ap (λ (b : Bool). if b then run.asked else asked_before client before) (eq-eqb run.client client own)

asked-other : (client other : ℕ) (run : ClientRun) (before : List ClientRun) → run.client ≡ client → client ≢ other
    → asked_before other (run ∷ before) ≡ asked_before other before
asked-other client other run before own apart =
    ap (λ (b : Bool). if b then run.asked else asked_before other before) (ne_eqb run.client other (λ e. apart (sym own ∙ e)))

-- what a run asks is what is asked now
added-now : (client at : ℕ) (run : ClientRun) (before : List ClientRun) → run.client ≡ client → run.at ≡ at
    → map (dated run.at) (works_added before run) ≡ works_now at (asked_before client before) run.asked
added-now client at run before own moment =
    ap (λ (c : ℕ). map (dated run.at) (drop (length (asked_before c before)) run.asked)) own
    ∙ ap (λ (n : ℕ). works_now n (asked_before client before) run.asked) moment

-- ---- one client of all

module _ {S : Type 0} where
  or-new : (number : Number) (class : ℕ) (here : Option (ClientState S)) → cost_at number class here ≡ cost_on number class (client_or_new here).conn.totals
  or-new number class None = refl
  or-new number class (Some client) = refl

module _ {W S : Type 0} (w : world.Ghosts W) (t : sitting.Ghosts S W) (route : Route) (most : ℕ) where
  -- where the client of a place stands behind events
  abbrev pub RestsAt : List Event → List ClientRun → ℕ → ClientState S → Type 0
  RestsAt events runs number client =
      IsResting w t route most (fed events number) (has_ended events number) (asked_before number runs) client

  -- events and runs are not this client's
  pub record AreOthers (events upto : List Event) (runs later : List ClientRun) (number : ℕ) : Type 0 where
    pub fed_same : fed upto number ≡ fed events number
    pub ended_same : has_ended upto number ≡ has_ended events number
    pub asked_same : asked_before number later ≡ asked_before number runs

  other-rests : (events upto : List Event) (runs later : List ClientRun) (number : ℕ) (client : ClientState S) → AreOthers events upto runs later number
      → RestsAt events runs number client → RestsAt upto later number client
  other-rests events upto runs later number client same h =
      subst (λ (o : List ℕ). IsResting w t route most o (has_ended upto number) (asked_before number later) client) (sym same.fed_same)
      (subst (λ (b : Bool). IsResting w t route most (fed events number) b (asked_before number later) client) (sym same.ended_same)
      (subst (λ (ws : List Work). IsResting w t route most (fed events number) (has_ended events number) ws client) (sym same.asked_same) h))

  -- the client of a place goes on, and all others stand where they stood
  pub one-goes : (now : ℕ) (events upto : List Event) (runs later : List ClientRun) (uses more : List Use) (spent extra : Number → ℕ → ℕ)
      (old new : Playing S) (place : ℕ) (client : ClientState S) → place < most_clients
      → ((other : ℕ) → other ≢ place → AreOthers events upto runs later (suc other))
      → new.clients ≡ slice_set old.clients place (Some client)
      → RestsAt upto later (suc place) client
      → ((number : Number) (class others : ℕ) → within64 (others + cost_on number class client.conn.totals)
      ≡ within64 (others + (cost_on number class (client_or_new (client_at old.clients place)).conn.totals + extra number class)))
      → StandBehind w t route most now events runs uses spent old
      → new.outside.door.counts.most ≡ most → IsKeptOver w t route now more new.outside → AreInOrder now more
      → StandBehind w t route most now upto later more (λ number class. spent number class + extra number class) new
  one-goes now events upto runs later uses more spent extra old new place client inside others clients rests cost h door kept falls = record {
    door = door;
    places = same-places;
    falls = falls;
    kept = kept;
    each = λ other within. each-place other within (cases_eq other place);
    cost = λ number class. all-cost number class;
  } where
    same-places : length new.clients ≡ most_clients
    same-places = ap length clients ∙ length-set old.clients place (Some client) ∙ h.places

    within-old : place < length old.clients
    within-old = let all = h.places in omega (arith, inside, all)

    own-client : client_or_new (client_at new.clients place) ≡ client
    own-client =
        ap (λ (cs : List (Option (ClientState S))). client_or_new (client_at cs place)) clients
        ∙ ap client_or_new (client_at-set old.clients place (Some client) within-old)

    other-client : (other : ℕ) → other ≢ place → client_or_new (client_at new.clients other) ≡ client_or_new (client_at old.clients other)
    other-client other apart =
        ap (λ (cs : List (Option (ClientState S))). client_or_new (client_at cs other)) clients
        ∙ ap client_or_new (client_at-other old.clients place other (Some client) apart)

    each-place : (other : ℕ) → other < most_clients → (other ≡ place) ⊎ (other ≢ place)
        → RestsAt upto later (suc other) (client_or_new (client_at new.clients other))
    each-place other within (inl same) =
        subst (λ (p : ℕ). RestsAt upto later (suc p) (client_or_new (client_at new.clients p))) (sym same)
        (subst (λ (c : ClientState S). RestsAt upto later (suc place) c) (sym own-client) rests)
    each-place other within (inr apart) =
        subst (λ (c : ClientState S). RestsAt upto later (suc other) c) (sym (other-client other apart))
        (other-rests events upto runs later (suc other) (client_or_new (client_at old.clients other)) (others other apart) (h.each other within))

    all-cost : (number : Number) (class : ℕ) → within64 (cost_of_all number class new.clients) ≡ within64 (spent number class + extra number class)
    all-cost number class =
        let f : Option (ClientState S) → ℕ = cost_at number class in
        let here : f (get_or old.clients place None) ≡ cost_on number class (client_or_new (client_at old.clients place)).conn.totals =
        ap f (sym (unwrap_or-slice_get old.clients place None)) ∙ or-new number class (client_at old.clients place) in
        ap (λ (cs : List (Option (ClientState S))). within64 (sum_by f cs)) clients
        ∙ cost-more (sum_by f old.clients) (sum_by f (slice_set old.clients place (Some client))) (f (get_or old.clients place None)) (f (Some client))
        (spent number class) (extra number class) (get_or-le-sum_by f old.clients place None within-old)
        (sum_by-set f old.clients place (Some client) None within-old)
        (λ left. cost number class left ∙ ap (λ (n : ℕ). within64 (left + (n + extra number class))) (sym here)) (h.cost number class)

-- where all have come to, with what classes have cost
pub record EndSo {S : Type 0} (spent : Number → ℕ → ℕ) (here : Playing S) : Type 0 where
  pub places : length here.clients ≡ most_clients
  pub plain : (place : ℕ) → place < most_clients → AreMarksPlain (client_or_new (client_at here.clients place)).conn.marks
  pub cost : (number : Number) (class : ℕ) → within64 (cost_of_all number class here.clients) ≡ within64 (spent number class)

ends-same : {S : Type 0} (spent other : Number → ℕ → ℕ) (here : Playing S) → ((number : Number) (class : ℕ) → spent number class ≡ other number class)
    → EndSo spent here → EndSo other here
ends-same spent other here same h = record {
  places = h.places;
  plain = h.plain;
  cost = λ number class. h.cost number class ∙ ap within64 (same number class);
}

module _ {W S : Type 0} (w : world.Ghosts W) (t : sitting.Ghosts S W) (exact : Bool) (route : Route) (laws : ClientLaws w t) (law : RunsShare w t)
    (is : exact ≡ true) (fair : IsFair w route) (sound : IsSound route) (most : ℕ) where
  abbrev Stand : ℕ → List Event → List ClientRun → List Use → (Number → ℕ → ℕ) → Playing S → Type 0
  Stand now events runs uses spent here = StandBehind w t route most now events runs uses spent here

  abbrev nothing : Number → ℕ → ℕ
  nothing number class = 0

  abbrev needs : List Use → List Use → Number → ℕ → ℕ
  needs before uses number class = count_after (is_needed w route number class) before uses

  -- ---- the client of a number

  place-of : (number : ℕ) → IsClient number → suc (number - 1) ≡ number
  place-of number is = let low = is.0 in omega (arith, low)

  place-inside : (number : ℕ) → IsClient number → number - 1 < most_clients
  place-inside number is = let low = is.0 in let high = is.1 in omega (arith, low, high)

  at-number : (now : ℕ) (events : List Event) (runs : List ClientRun) (uses : List Use) (spent : Number → ℕ → ℕ) (here : Playing S) (number : ℕ)
      → IsClient number → Stand now events runs uses spent here
      → RestsAt w t route most events runs number (client_or_new (client_at here.clients (number - 1)))
  at-number now events runs uses spent here number is h =
      subst (λ (n : ℕ). RestsAt w t route most events runs n (client_or_new (client_at here.clients (number - 1)))) (place-of number is)
      (h.each (number - 1) (place-inside number is))

  to-place : (events : List Event) (runs : List ClientRun) (number : ℕ) (client : ClientState S) → IsClient number
      → RestsAt w t route most events runs number client → RestsAt w t route most events runs (suc (number - 1)) client
  to-place events runs number client is h = subst (λ (n : ℕ). RestsAt w t route most events runs n client) (sym (place-of number is)) h

  not-number : (number other : ℕ) → other ≢ number - 1 → number ≢ suc other
  not-number number other apart e = apart (omega (arith, e))

  others-same : (event : Event) (number : ℕ) (before : List Event) (runs : List ClientRun) → client_of event ≡ Some number
      → (other : ℕ) → other ≢ number - 1 → AreOthers w t route most before (before ++ event ∷ []) runs runs (suc other)
  others-same event number before runs own other apart =
      let off = not_own event number (suc other) own (not-number number other apart) in record {
        fed_same = fed-other before event (suc other) off;
        ended_same = ended-other before event (suc other) off;
        asked_same = refl;
      }

  -- ---- one event

  fed-goes : (number : ℕ) (octets : List ℕ) (now : ℕ) (before : List Event) (runs : List ClientRun) (uses : List Use) (spent : Number → ℕ → ℕ)
      (old new : Playing S) → CanCome before (Feed number octets) → Stand now before runs uses spent old
      → IsPlayed w t exact route (Feed number octets) now old new
      → Stand now (before ++ Feed number octets ∷ []) runs uses (λ n c. spent n c + nothing n c) new
  fed-goes number octets now before runs uses spent old new may h played =
      let event : Event = Feed number octets in
      let client = played.plays.client in
      let was = client_or_new (client_at old.clients (number - 1)) in
      let same = played.plays.plays.0 in
      let still : new.outside ≡ old.outside = played.plays.plays.1 in
      let here = at-number now before runs uses spent old number may.0 h in
      let rested = rests-fed w t laws route most (fed before number) (asked_before number runs) was octets
      (subst (λ (b : Bool). IsResting w t route most (fed before number) b (asked_before number runs) was) may.1 here) in
      let rests : RestsAt w t route most (before ++ event ∷ []) runs number client =
      subst (λ (o : List ℕ). IsResting w t route most o (has_ended (before ++ event ∷ []) number) (asked_before number runs) client)
      (sym (fed-more before event number refl))
      (subst (λ (b : Bool). IsResting w t route most (fed before number ++ octets) b (asked_before number runs) client)
      (sym (ended-more before event number refl ∙ may.1))
      (subst (λ (c : ClientState S). IsResting w t route most (fed before number ++ octets) false (asked_before number runs) c) (sym same) rested)) in
      one-goes w t route most now before (before ++ event ∷ []) runs runs uses uses spent nothing old new (number - 1) client
      (place-inside number may.0) (others-same event number before runs refl)
      (played.others ∙ ap (λ (c : Option (ClientState S)). slice_set old.clients (number - 1) c) played.plays.is_there)
      (to-place (before ++ event ∷ []) runs number client may.0 rests)
      (λ n class others. ap (λ (c : ClientState S). within64 (others + cost_on n class c.conn.totals)) same
      ∙ ap (λ (k : ℕ). within64 (others + k)) (totals-stay n class octets was ∙ omega arith))
      h (ap (λ (o : Outside S). o.door.counts.most) still ∙ h.door) (subst (λ (o : Outside S). IsKeptOver w t route now uses o) (sym still) h.kept) h.falls
    where
      totals-stay : (n : Number) (class : ℕ) (octets : List ℕ) (c : ClientState S)
          → cost_on n class (with_octets octets c).conn.totals ≡ cost_on n class c.conn.totals
      totals-stay n class octets c = by-end c.conn.end where
        by-end : (end : Option ending.End) → cost_on n class (fed_piece end c.conn octets).totals ≡ cost_on n class c.conn.totals
        by-end None = refl
        by-end (Some end) = refl

  ended-goes : (number now : ℕ) (before : List Event) (runs : List ClientRun) (uses : List Use) (spent : Number → ℕ → ℕ)
      (old new : Playing S) → CanCome before (End number) → Stand now before runs uses spent old
      → IsPlayed w t exact route (End number) now old new
      → Stand now (before ++ End number ∷ []) runs uses (λ n c. spent n c + nothing n c) new
  ended-goes number now before runs uses spent old new may h played =
      let event : Event = End number in
      let client = played.plays.client in
      let was = client_or_new (client_at old.clients (number - 1)) in
      let same = played.plays.plays.0 in
      let still : new.outside ≡ old.outside = played.plays.plays.1 in
      let here = at-number now before runs uses spent old number may h in
      let rested = rests-ended w t laws route most (fed before number) (asked_before number runs) was (has_ended before number) here in
      let rests : RestsAt w t route most (before ++ event ∷ []) runs number client =
      subst (λ (o : List ℕ). IsResting w t route most o (has_ended (before ++ event ∷ []) number) (asked_before number runs) client)
      (sym (fed-more before event number refl))
      (subst (λ (b : Bool). IsResting w t route most (fed before number) b (asked_before number runs) client)
      (sym (ended-more before event number refl))
      (subst (λ (c : ClientState S). IsResting w t route most (fed before number) true (asked_before number runs) c) (sym same) rested)) in
      one-goes w t route most now before (before ++ event ∷ []) runs runs uses uses spent nothing old new (number - 1) client
      (place-inside number may) (others-same event number before runs refl)
      (played.others ∙ ap (λ (c : Option (ClientState S)). slice_set old.clients (number - 1) c) played.plays.is_there)
      (to-place (before ++ event ∷ []) runs number client may rests)
      (λ n class others. ap (λ (c : ClientState S). within64 (others + cost_on n class c.conn.totals)) same
      ∙ ap (λ (k : ℕ). within64 (others + k)) (omega arith))
      h (ap (λ (o : Outside S). o.door.counts.most) still ∙ h.door) (subst (λ (o : Outside S). IsKeptOver w t route now uses o) (sym still) h.kept) h.falls

  run-goes : (number now : ℕ) (before : List Event) (run : ClientRun) (runs : List ClientRun) (uses : List Use) (spent : Number → ℕ → ℕ)
      (old new : Playing S) → CanCome before (Run number) → IsClientRun w route number now (fed before number) run
      → MayDo route uses (works_now now (asked_before number runs) run.asked)
      → Stand now before runs uses spent old → IsPlayed w t exact route (Run number) now old new
      → Stand now (before ++ Run number ∷ []) (run ∷ runs) (behind uses (uses_of route (works_now now (asked_before number runs) run.asked)))
      (λ n c. spent n c + needs uses (uses_of route (works_now now (asked_before number runs) run.asked)) n c) new
  run-goes number now before run runs uses spent old new may ran fits h played =
      let event : Event = Run number in
      let client = played.plays.client in
      let was = client_or_new (client_at old.clients (number - 1)) in
      let asked = asked_before number runs in
      let works = works_now now asked run.asked in
      let here = at-number now before runs uses spent old number may h in
      let done = law exact route now (fed before number) (has_ended before number) asked run.asked uses was client old.outside new.outside is fair sound
      (subst (λ (m : ℕ). IsResting w t route m (fed before number) (has_ended before number) asked was) (sym h.door) here)
      h.kept ran.asks h.falls fits played.plays.plays in
      let rests : RestsAt w t route most (before ++ event ∷ []) (run ∷ runs) number client =
      subst (λ (o : List ℕ). IsResting w t route most o (has_ended (before ++ event ∷ []) number) (asked_before number (run ∷ runs)) client)
      (sym (fed-more before event number refl))
      (subst (λ (b : Bool). IsResting w t route most (fed before number) b (asked_before number (run ∷ runs)) client)
      (sym (ended-more before event number refl))
      (subst (λ (ws : List Work). IsResting w t route most (fed before number) (has_ended before number) ws client)
      (sym (asked-own number run runs ran.same_client))
      (subst (λ (m : ℕ). IsResting w t route m (fed before number) (has_ended before number) run.asked client) h.door done.rests))) in
      one-goes w t route most now before (before ++ event ∷ []) runs (run ∷ runs) uses (behind uses (uses_of route works)) spent
      (needs uses (uses_of route works)) old new (number - 1) client (place-inside number may)
      (λ other apart.
      let same = others-same event number before runs refl other apart in record {
        fed_same = same.fed_same;
        ended_same = same.ended_same;
        asked_same = asked-other number (suc other) run runs ran.same_client (not-number number other apart);
      })
      (played.others ∙ ap (λ (c : Option (ClientState S)). slice_set old.clients (number - 1) c) played.plays.is_there)
      (to-place (before ++ event ∷ []) (run ∷ runs) number client may rests)
      done.cost
      h (done.door ∙ h.door) done.kept (order-behind now uses (uses_of route works) h.falls (works-at route now (drop (length asked) run.asked)))

  tick-goes : (seconds now : ℕ) (before : List Event) (runs : List ClientRun) (uses : List Use) (spent : Number → ℕ → ℕ) (old new : Playing S)
      → Stand now before runs uses spent old → IsPlayed w t exact route (Tick seconds) now old new
      → Stand (now + seconds) (before ++ Tick seconds ∷ []) runs uses spent new
  tick-goes seconds now before runs uses spent old new h played = record {
    door = ap (λ d. d.counts.most) played.door ∙ h.door;
    places = ap length played.clients ∙ h.places;
    falls = later-order now (now + seconds) uses (omega arith) h.falls;
    kept = record {
      pool = h.kept.pool;
      told = ap (λ d. d.pool) played.door ∙ h.kept.told;
      kept = record {
        of = h.kept.kept.of;
        each = λ who. kept_later w route who (members_of route who.class) now (now + seconds) uses (shared_by who h.kept.pool.sessions) (omega arith) (h.kept.kept.each who);
      };
      calm = subst (λ d. IsCalm w t d.pool new.outside.backend) (sym played.door)
          (subst (λ b. IsCalm w t old.outside.door.pool b) (sym played.backend) h.kept.calm);
    };
    each = λ place within.
        subst (λ (cs : List (Option (ClientState S))). RestsAt w t route most (before ++ Tick seconds ∷ []) runs (suc place) (client_or_new (client_at cs place)))
        (sym played.clients)
        (other-rests w t route most before (before ++ Tick seconds ∷ []) runs runs (suc place) (client_or_new (client_at old.clients place)) (record {
          fed_same = fed-other before (Tick seconds) (suc place) refl;
          ended_same = ended-other before (Tick seconds) (suc place) refl;
          asked_same = refl;
        }) (h.each place within));
    cost = λ number class. ap (λ (cs : List (Option (ClientState S))). within64 (cost_of_all number class cs)) played.clients ∙ h.cost number class;
  }

  -- ---- all events

  at-once : (now : ℕ) (events : List Event) (runs : List ClientRun) (uses : List Use) (spent : Number → ℕ → ℕ) (here : Playing S)
      → Stand now events runs uses spent here → Stand (now + 0) events runs uses spent here
  at-once now events runs uses spent here h = subst (λ (n : ℕ). Stand n events runs uses spent here) (omega arith) h

  pub all-go : (events before : List Event) (now : ℕ) (runs earlier : List ClientRun) (uses : List Use) (spent : Number → ℕ → ℕ) (old new : Playing S)
      → AllCanCome before events → AreClientRuns w route before now events runs → MayDo route uses (dated_after earlier runs)
      → Stand now before earlier uses spent old → ArePlayed w t exact route events now old new
      → EndSo (λ n c. spent n c + needs uses (uses_of route (dated_after earlier runs)) n c) new
  all-go [] before now runs earlier uses spent old new come ran may h played =
      let none : (n : Number) (c : ℕ) → spent n c ≡ spent n c + needs uses (uses_of route (dated_after earlier runs)) n c = λ n c.
      let no : needs uses (uses_of route (dated_after earlier runs)) n c ≡ 0 =
      ap (λ (ts : List ClientRun). needs uses (uses_of route (dated_after earlier ts)) n c) ran in omega (arith, no) in
      subst (λ (p : Playing S). EndSo (λ n c. spent n c + needs uses (uses_of route (dated_after earlier runs)) n c) p) (sym played)
      (ends-same spent (λ n c. spent n c + needs uses (uses_of route (dated_after earlier runs)) n c) old none (record {
        places = h.places;
        plain = λ place within. (h.each place within).plain;
        cost = h.cost;
      }))
  all-go (Feed number octets ∷ events) before now runs earlier uses spent old new come ran may h played =
      let upto = before ++ Feed number octets ∷ [] in
      let stand = fed-goes number octets now before earlier uses spent old played.0 come.0 h played.1 in
      ends-same (λ n c. spent n c + 0 + needs uses (uses_of route (dated_after earlier runs)) n c)
      (λ n c. spent n c + needs uses (uses_of route (dated_after earlier runs)) n c) new (λ n c. omega arith)
      (all-go events upto (now + 0) runs earlier uses (λ n c. spent n c + 0) played.0 new come.1 ran may
      (at-once now upto earlier uses (λ n c. spent n c + 0) played.0 stand) played.2)
  all-go (End number ∷ events) before now runs earlier uses spent old new come ran may h played =
      let upto = before ++ End number ∷ [] in
      let stand = ended-goes number now before earlier uses spent old played.0 come.0 h played.1 in
      ends-same (λ n c. spent n c + 0 + needs uses (uses_of route (dated_after earlier runs)) n c)
      (λ n c. spent n c + needs uses (uses_of route (dated_after earlier runs)) n c) new (λ n c. omega arith)
      (all-go events upto (now + 0) runs earlier uses (λ n c. spent n c + 0) played.0 new come.1 ran may
      (at-once now upto earlier uses (λ n c. spent n c + 0) played.0 stand) played.2)
  all-go (Tick seconds ∷ events) before now runs earlier uses spent old new come ran may h played =
      all-go events (before ++ Tick seconds ∷ []) (now + seconds) runs earlier uses spent played.0 new come.1 ran may
      (tick-goes seconds now before earlier uses spent old played.0 h played.1) played.2
  all-go (Run number ∷ events) before now [] earlier uses spent old new come ran may h played = absurd ran
  all-go (Run number ∷ events) before now (run ∷ runs) earlier uses spent old new come ran may h played =
      let upto = before ++ Run number ∷ [] in
      let works = works_now now (asked_before number earlier) run.asked in
      let rest = dated_after (run ∷ earlier) runs in
      let is_all : dated_after earlier (run ∷ runs) ≡ works ++ rest =
      ap (λ (ds : List DatedWork). ds ++ rest) (added-now number now run earlier ran.0.same_client ran.0.same_moment) in
      let fits : MayDo route uses (works ++ rest) = subst (λ (ds : List DatedWork). MayDo route uses ds) is_all may in
      let more = needs uses (uses_of route works) in
      let stand = run-goes number now before run earlier uses spent old played.0 come.0 ran.0 (may-first route uses works rest fits) h played.1 in
      ends-same (λ n c. spent n c + more n c + needs (behind uses (uses_of route works)) (uses_of route rest) n c)
      (λ n c. spent n c + needs uses (uses_of route (dated_after earlier (run ∷ runs))) n c) new
      (λ n c.
      let all : needs uses (uses_of route (dated_after earlier (run ∷ runs))) n c
      ≡ more n c + needs (behind uses (uses_of route works)) (uses_of route rest) n c =
      ap (λ (ds : List DatedWork). needs uses (uses_of route ds) n c) is_all
      ∙ ap (λ (us : List Use). needs uses us n c) (uses-both route works rest)
      ∙ count-both (is_needed w route n c) uses (uses_of route works) (uses_of route rest) in omega (arith, all))
      (all-go events upto (now + 0) runs (run ∷ earlier) (behind uses (uses_of route works)) (λ n c. spent n c + more n c) played.0 new come.1
      (subst (λ (n : ℕ). AreClientRuns w route upto n events runs) (omega arith) ran.1)
      (may-rest route uses works rest fits)
      (at-once now upto (run ∷ earlier) (behind uses (uses_of route works)) (λ n c. spent n c + more n c) played.0 stand) played.2)
  all-go (Step number ∷ events) before now runs earlier uses spent old new come ran may h played = absurd come.0
  all-go (Gone target presents ∷ events) before now runs earlier uses spent old new come ran may h played = absurd come.0
  all-go (Cut target ∷ events) before now runs earlier uses spent old new come ran may h played = absurd come.0
  all-go (Slow target looks ∷ events) before now runs earlier uses spent old new come ran may h played = absurd come.0

-- ---- a whole replay

module _ {S : Type 0} where
  none-cost : (number : Number) (class : ℕ) (clients : List (Option (ClientState S))) → AreNone clients → cost_of_all number class clients ≡ 0
  none-cost number class [] none = refl
  none-cost number class (client ∷ clients) none =
      let here : cost_at number class client ≡ 0 = ap (cost_at number class) (none 0) in
      let rest = none-cost number class clients (λ place. none (suc place)) in
      sum_by-cons (cost_at number class) client clients ∙ omega (arith, here, rest)

module _ {W S : Type 0} (w : world.Ghosts W) (t : sitting.Ghosts S W) (exact : Bool) (route : Route) (laws : ClientLaws w t) (law : RunsShare w t)
    (is : exact ≡ true) (fair : IsFair w route) (sound : IsSound route) where
  -- where nothing has happened all stand behind no event
  first-stand : (start : Playing S) → length start.clients ≡ most_clients → AreNone start.clients → IsKeptOver w t route 0 [] start.outside
      → StandBehind w t route start.outside.door.counts.most 0 [] [] [] (λ number class. 0) start
  first-stand start places none kept = record {
    door = refl;
    places = places;
    falls = tt;
    kept = kept;
    each = λ place within.
        subst (λ (c : Option (ClientState S)). IsResting w t route start.outside.door.counts.most [] false [] (client_or_new c)) (sym (none place))
        (rests-first w t laws route start.outside.door.counts.most);
    cost = λ number class. ap within64 (none-cost number class start.clients none);
  }

  uses-fit : (runs : List ClientRun) (events : List Event) → IsOrderly w route events runs → MayDo route [] (dated_works runs)
  uses-fit runs events orderly = record {
    apart = orderly.apart;
    few = λ who.
        let room = orderly.room who in
        let less = keys-turned who (uses_of route (dated_works runs)) in omega (arith, room, less);
    own = λ class.
        let room = orderly.own class in
        let less = logins-turned class (uses_of route (dated_works runs)) in omega (arith, room, less);
  }

  pub script-ends : (events : List Event) (targets : ℕ) (runs : List ClientRun) (before after : Outside S) (report : Report)
      → AreEvents targets events → IsKeptOver w t route 0 [] before → (run : IsRunOf w t exact route events before after report)
      → IsOrderly w route events runs
      → EndSo (λ number class. 0 + count_after (is_needed w route number class) [] (uses_of route (dated_works runs)))
      (record { clients = run.finish; outside = after })
  script-ends events targets runs before after report are kept run orderly =
      let start : Playing S = record { clients = run.start; outside = before } in
      let finish : Playing S = record { clients = run.finish; outside = after } in
      all-go w t exact route laws law is fair sound before.door.counts.most (closed events) [] 0 runs [] [] (λ number class. 0) start finish
      (come-both [] events (closings events) (all-come targets [] events are.each are.in_order orderly.calm) (closings-come events events))
      orderly.whole (uses-fit runs events orderly) (first-stand start run.places run.nobody kept)
      (played-both w t exact route events (closings events) 0 start run.mid finish run.played
      (subst (λ (n : ℕ). ArePlayed w t exact route (closings events) n run.mid finish) (omega arith) run.closed))

  -- ---- its report

  line-of : (number : Number) (runs : List ClientRun) (after : Outside S) (finish : List (Option (ClientState S))) (report : Report)
      → EndSo (λ n c. 0 + count_after (is_needed w route n c) [] (uses_of route (dated_works runs))) (record { clients = finish; outside = after })
      → report.classes ≡ costs_upto (length finish) finish (map costless route.classes)
      → map (in_class number) report.classes
      ≡ map (λ (class : ℕ). within64 (count_after (is_needed w route number class) [] (uses_of route (dated_works runs))))
      (range_with_len 0 (length route.classes))
  line-of number runs after finish report ended costs =
      let classes = costs_upto (length finish) finish (map costless route.classes) in
      let needs : ℕ → ℕ = λ class. count_after (is_needed w route number class) [] (uses_of route (dated_works runs)) in
      let all : length classes ≡ length route.classes =
      same_length (λ (c : ClassReport). c.name) classes (map costless route.classes) (names-costs_upto (length finish) finish (map costless route.classes))
      ∙ length-map route.classes costless in
      ap (map (in_class number)) costs
      ∙ lines-are (in_class number) (λ class. within64 (needs class)) classes nameless 0
      (λ place inside.
      class-reported number place route finish (omega (arith, inside, all)) ∙ ended.cost number place
      ∙ ap within64 (let zero : 0 + needs place ≡ needs place = omega arith in zero)
      ∙ ap (λ (c : ℕ). within64 (needs c)) (let same : place ≡ 0 + place = omega arith in same))
      ∙ ap (λ (n : ℕ). map (λ (class : ℕ). within64 (needs class)) (range_with_len 0 n)) all

-- where each run shares, a whole script does
pub scripts-share : {W S : Type 0} (w : world.Ghosts W) (t : sitting.Ghosts S W) → ClientLaws w t → RunsShare w t → RunsOfScriptsShare w t
scripts-share w t laws law exact route targets events before after report is fair sound are kept run runs orderly =
    let ended = script-ends w t exact route laws law is fair sound events targets runs before after report are kept run orderly in record {
      plain = plain-reported (length run.finish) run.finish report.clients
          (λ place inside. ended.plain place (let all = ended.places in omega (arith, inside, all))) run.reported.clients_of;
      costs = record {
        searches = line-of w t exact route laws law is fair sound searches runs after run.finish report ended run.reported.costs;
        dials = line-of w t exact route laws law is fair sound dials runs after run.finish report ended run.reported.costs;
      };
    }
