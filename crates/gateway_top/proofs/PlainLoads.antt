-- The sums of the line of a load
use Rattle.std.proofs.Common.{◌≡◌, ◌∙◌, ◌*◌, ◌≤◌, ℕ, List, [], ◌∷◌, map, length, count_by, sum, sum_by, IfOk, Result, Ok, Err, refl, sym, ap, zero-add, arith}
use Rattle.std.specs.List.{AllByRecursion, range_with_len}
use Rattle.std.proofs.Math.Nat.{min-eq_left, min-le_left}
use Rattle.std.proofs.lemmas.List.{length-map}
use Rattle.std.proofs.lemmas.List.FromFn.{length-range_with_len}
use Rattle.std.proofs.lemmas.List.Sums.{count_by-le-length, sum-map, sum_by-cons}
use Rattle.z_types.specs.Bounds.{within64}
use Rattle.z_types.specs.declared.world.World as world
use Rattle.route_config.specs.Smallest.{smallest_route}
use Rattle.script.specs.Events.{most_clients}
use Rattle.sample_maker.specs.Load.{letter_of, load_events}
use Rattle.sharing_rules.specs.Needed.{dials_needed, needed}
use Rattle.replay_shares.specs.replay.Page.{requests}
use Rattle.replay_shares.specs.replay.declared.reports.ClassReport.{ClassReport}
use Rattle.replay_shares.specs.replay.declared.reports.ClientReport.{ClientReport}
use Rattle.replay_shares.specs.replay.declared.reports.Report.{Report}
use Rattle.load_shares.specs.Costs.{is_sent, load_dials, load_searches, load_uses}
use Rattle.load_shares.specs.Laws.{AreAnswered, LoadsAreAnswered, LoadsAreAnsweredPlainly, LoadsAreOrderly, LoadsNeedSo, WasAnswered, WasAnsweredPlainly}
use Rattle.load_shares.specs.Runs.{answers_for, load_runs}
use Rattle.gateway_top.specs.Load.{HasLoadSums, is_plain, octets_written, plain_requests}
use Rattle.replay_top.specs.Outside.{WireCalls}
use Rattle.replay_top.specs.Reported.{IsPlayedReport}

-- a number below 2^64 stays as it is
within : (n : ℕ) → n ≤ most_clients → within64 n ≡ n
within n few = min-eq_left (omega (arith, few))

-- the sum over one class
alone : (n : ℕ) → sum (n ∷ []) ≡ n
alone n = zero-add n

-- ---- clients

-- what is true of loads
pub record LoadLaws {W : Type 0} (w : world.Ghosts W) : Type 0 where
  pub orderly : LoadsAreOrderly w
  pub answered : LoadsAreAnswered w
  pub plainly : LoadsAreAnsweredPlainly w
  pub need : LoadsNeedSo w

four-each : (reports : List ClientReport) → AllByRecursion WasAnswered reports → requests reports ≡ 4 * length reports
four-each [] each = refl
four-each (client ∷ reports) each =
    let own = each.0.four in
    let rest = four-each reports each.1 in
    sum_by-cons (λ (one : ClientReport). length one.marks) client reports ∙ omega (arith, own, rest)

module _ {W : Type 0} (w : world.Ghosts W) where
  plain-each : (reports : List ClientReport) → AllByRecursion (WasAnsweredPlainly w) reports → plain_requests reports ≡ 4 * length reports
  plain-each [] each = refl
  plain-each (client ∷ reports) each =
      let own : count_by is_plain client.marks ≡ 4 = ap (count_by is_plain) each.0.marks in
      let rest = plain-each reports each.1 in
      sum_by-cons (λ (one : ClientReport). count_by is_plain one.marks) client reports ∙ omega (arith, own, rest)

  -- the octets that a client of a number is written
  abbrev size_for : ℕ → ℕ
  size_for client = length (answers_for w (letter_of client))

  written-each : (reports : List ClientReport) → AllByRecursion (WasAnsweredPlainly w) reports
      → octets_written reports ≡ sum_by size_for (map (λ client. client.number) reports)
  written-each [] each = refl
  written-each (client ∷ reports) each =
      let own : length client.bytes ≡ size_for client.number = ap length each.0.bytes in
      let rest = written-each reports each.1 in
      let more = sum_by-cons size_for client.number (map (λ (one : ClientReport). one.number) reports) in
      sum_by-cons (λ (one : ClientReport). length one.bytes) client reports ∙ omega (arith, own, rest, more)

  -- ---- all of it

  -- so many clients were answered
  many-answered : (clients : ℕ) (reports : List ClientReport) → AreAnswered clients reports → length reports ≡ clients
  many-answered clients reports are =
      sym (length-map reports (λ (client : ClientReport). client.number)) ∙ ap length are.numbers ∙ length-range_with_len 1 clients

  load-sums : {S : Type 0} → LoadLaws w → (calls : WireCalls W S) (clients : ℕ) (report : Report) → clients ≤ most_clients
      → IsPlayedReport w calls smallest_route (load_events clients) report → HasLoadSums w calls clients report
  load-sums laws calls clients report few played = record {
    asked = λ fair.
        let are = laws.answered clients report few fair played.right in
        four-each report.clients are.each ∙ ap (λ (n : ℕ). 4 * n) (many-answered clients report.clients are);
    plain = λ exact fair quiet.
        let are = laws.answered clients report few fair played.right in
        let many = many-answered clients report.clients are in
        let got = played.shared exact fair quiet (load_runs w clients) (laws.orderly clients few) in
        let each = laws.plainly clients report few fair played.right got.plain in
        let needs = laws.need clients in
        let sent = count_by-le-length (is_sent w) (range_with_len 1 clients) in
        let most = length-range_with_len 1 clients in
        record {
          plain = plain-each report.clients each ∙ ap (λ (n : ℕ). 4 * n) many;
          written = written-each report.clients each ∙ ap (sum_by size_for) are.numbers;
          searched =
              sym (sum-map (λ (class : ClassReport). class.searches) report.classes) ∙ ap sum got.costs.searches
              ∙ alone (within64 (needed w smallest_route 0 (load_uses w clients))) ∙ ap within64 needs.searches
              ∙ within (load_searches w clients) (omega (arith, sent, most, few));
          dialled =
              sym (sum-map (λ (class : ClassReport). class.dials) report.classes) ∙ ap sum got.costs.dials
              ∙ alone (within64 (dials_needed smallest_route 0 (load_uses w clients))) ∙ ap within64 needs.dials
              ∙ within (load_dials clients) (omega (arith, min-le_left clients 1, few));
        };
  }

  -- so of the report that there may be
  pub sums-if : {S E : Type 0} → LoadLaws w → (calls : WireCalls W S) (clients : ℕ) (result : Result Report E) → clients ≤ most_clients
      → IfOk result (IsPlayedReport w calls smallest_route (load_events clients)) → IfOk result (HasLoadSums w calls clients)
  sums-if laws calls clients (Ok report) few played = load-sums laws calls clients report few played
  sums-if laws calls clients (Err why) few played = tt
