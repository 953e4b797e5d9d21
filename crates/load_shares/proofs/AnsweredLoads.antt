-- Each request of a load is answered, whatever its mark; and where none is marked, as its letter asks
use Rattle.std.proofs.Common.{◌≡◌, ◌∙◌, ◌+◌, ◌≤◌, ◌<◌, ℕ, List, [], ◌∷◌, length, map, Some, None, refl, sym, ap, subst, append-nil, arith}
use Rattle.std.specs.List.{AllByRecursion, range_with_len}
use Rattle.std.proofs.lemmas.List.{length-map}
use Rattle.z_types.specs.declared.marks.End.{End}
use Rattle.z_types.specs.declared.marks.End.TheVariants.{Closed}
use Rattle.z_types.specs.declared.marks.Mark.{Mark}
use Rattle.z_types.specs.declared.marks.Mark.TheVariants.{Plain}
use Rattle.z_types.specs.declared.world.World as world
use Rattle.route_config.specs.Smallest.{smallest_route}
use Rattle.replay_shares.specs.gateway_rules.Answers as units
use Rattle.replay_shares.specs.gateway_rules.Answers.{IsConnection, IsCourseOf, Kind}
use Rattle.replay_shares.specs.gateway_rules.Course as at
use Rattle.replay_shares.specs.gateway_rules.Course.{Course, course, end_of, ends}
use Rattle.replay_shares.specs.gateway_rules.Marks.{Cause}
use Rattle.replay_shares.specs.gateway_rules.OneAnswer.{AreMarksPlain}
use Rattle.replay_shares.specs.gateway_rules.Session.{IsServed, answered, run}
use Rattle.replay_shares.specs.gateway_rules.State.{ClientState, at_the_start, new_client}
use Rattle.replay_shares.proofs.gateway_rules.OneEnding.{connection-one}
use Rattle.script.specs.Events.{fed, most_clients}
use Rattle.sample_maker.specs.Load.{letter_of, load_events, octets_for}
use Rattle.replay_shares.specs.sru_rules.Answers.{Answers, AnswersAs}
use Rattle.replay_shares.specs.sru_rules.Laws.{HasOneAnswer}
use Rattle.replay_shares.specs.replay.Report.{IsAnswered, IsReportOf}
use Rattle.replay_shares.specs.replay.declared.reports.ClientReport.{ClientReport}
use Rattle.replay_shares.specs.replay.declared.reports.Report.{Report}
use Rattle.load_shares.specs.Laws.{LoadsAreAnswered, LoadsAreAnsweredPlainly, RequestsAreReceived, WasAnswered, WasAnsweredPlainly}
use Rattle.load_shares.specs.Runs.{answers_for, four_plain, units_for}
use Rattle.load_shares.proofs.EventLemmas.{fed-load, named-load}
use Rattle.load_shares.proofs.ListLemmas.{all-range}
use Rattle.load_shares.proofs.UnitLemmas.{kind-unit}

-- a mark for each request
abbrev four_marks : List Mark
four_marks = Plain ∷ Plain ∷ Plain ∷ Plain ∷ []

module _ {W : Type 0} (w : world.Ghosts W) (are : RequestsAreReceived) where
  -- the course of a client's requests
  abbrev course_for : (letter : ℕ) → Course
  course_for letter = course smallest_route at_the_start (units_for letter)

  is-course : (letter : ℕ) → IsConnection smallest_route (octets_for letter) (course_for letter)
  is-course letter =
      subst (λ (kind : Kind). IsCourseOf kind smallest_route (octets_for letter) (course_for letter)) (sym (kind-unit letter))
      (record { units = units_for letter; rest = []; spelled = sym (append-nil (octets_for letter)); each = are letter; behind = ends None Closed; rested = tt; is = refl })

  -- what it is answered under no mark
  answers-are : (letter : ℕ) → Answers w smallest_route (octets_for letter) four_marks (answers_for w letter) Closed
  answers-are letter =
      subst (λ (kind : Kind). AnswersAs kind w smallest_route (octets_for letter) four_marks (answers_for w letter) Closed) (sym (kind-unit letter))
      (record {
        answered = record {
          whole = course_for letter;
          is_whole = is-course letter;
          causes = four_plain;
          of_marks = refl;
          allowed = (tt, (tt, (tt, (tt, tt))));
          written = refl;
        };
        fits = record { allowed = (tt, (tt, (tt, (tt, tt)))); served = tt; none_left = refl };
        ended = refl;
      })

  -- ---- whatever the marks

  -- how many requests of a course are answered
  abbrev answered_in : Course → ℕ
  answered_in (at.stands here) = 0
  answered_in (at.ends last end) = 0
  answered_in (at.answers request more) = 1 + answered_in more

  -- so many causes fit
  causes-fit : (client : ClientState) (course : Course) (causes : List Cause) → IsServed (run w smallest_route client course causes).stop
      → (run w smallest_route client course causes).left ≡ [] → length causes ≡ answered_in course
  causes-fit client (at.stands here) causes served none = ap length none
  causes-fit client (at.ends last end) causes served none = ap length none
  causes-fit client (at.answers request more) [] served none = absurd served
  causes-fit client (at.answers request more) (cause ∷ causes) served none =
      let rest = causes-fit (answered w smallest_route client request cause).client more causes served none in omega (arith, rest)

  same-end : (one other : End) → Some one ≡ Some other → other ≡ one
  same-end one other e = cc

  has-four : (letter : ℕ) (client : ClientReport) → Answers w smallest_route (octets_for letter) client.marks client.bytes client.end → WasAnswered client
  has-four letter client own =
      let all : units.Answers w smallest_route (octets_for letter) client.marks client.bytes client.end =
      subst (λ (kind : Kind). AnswersAs kind w smallest_route (octets_for letter) client.marks client.bytes client.end) (kind-unit letter) own in
      let whole = all.answered.whole in
      let same : whole ≡ course_for letter =
      connection-one smallest_route (octets_for letter) whole (course_for letter) all.answered.is_whole (is-course letter) in
      let fit = causes-fit new_client whole all.answered.causes all.fits.served all.fits.none_left in
      record {
        four =
            ap length (sym all.answered.of_marks) ∙ length-map all.answered.causes (λ (cause : Cause). cause.mark) ∙ fit ∙ ap answered_in same;
        closed = same-end Closed client.end (ap end_of (sym same) ∙ all.ended);
      }

  -- ---- the clients of a load

  module _ (clients : ℕ) where
    -- a client of the load
    abbrev IsThere : ℕ → Type 0
    IsThere number = (1 ≤ number) × (number < 1 + clients)

    -- was answered its requests
    own-answers : (client : ClientReport) → IsThere client.number → IsAnswered w smallest_route (load_events clients) client
        → Answers w smallest_route (octets_for (letter_of client.number)) client.marks client.bytes client.end
    own-answers client there said =
        let fed-so : fed (load_events clients) client.number ≡ octets_for (letter_of client.number) = fed-load clients client.number there.0 there.1 in
        subst (λ (octets : List ℕ). Answers w smallest_route octets client.marks client.bytes client.end) fed-so said

    each-answered : (reports : List ClientReport) → AllByRecursion IsThere (map (λ client. client.number) reports)
        → AllByRecursion (IsAnswered w smallest_route (load_events clients)) reports → AllByRecursion WasAnswered reports
    each-answered [] there said = tt
    each-answered (client ∷ reports) there said =
        (has-four (letter_of client.number) client (own-answers client there.0 said.0), each-answered reports there.1 said.1)

    answered-plainly : HasOneAnswer w → (client : ClientReport) → IsThere client.number → IsAnswered w smallest_route (load_events clients) client
        → AreMarksPlain client.marks → WasAnsweredPlainly w client
    answered-plainly one client there said plain =
        let own = own-answers client there said in
        let letter = letter_of client.number in
        let same = one smallest_route (octets_for letter) client.marks four_marks client.bytes (answers_for w letter) client.end Closed own (answers-are letter) plain (refl, (refl, (refl, (refl, tt)))) in
        record { marks = same.0; bytes = same.1 }

    each-plainly : HasOneAnswer w → (reports : List ClientReport) → AllByRecursion IsThere (map (λ client. client.number) reports)
        → AllByRecursion (IsAnswered w smallest_route (load_events clients)) reports → AllByRecursion (λ client. AreMarksPlain client.marks) reports
        → AllByRecursion (WasAnsweredPlainly w) reports
    each-plainly one [] there said plain = tt
    each-plainly one (client ∷ reports) there said plain =
        (answered-plainly one client there.0 said.0 plain.0, each-plainly one reports there.1 said.1 plain.1)

    -- the clients of a report are those of the load
    numbers-are : (report : Report) → clients ≤ most_clients → IsReportOf w smallest_route (load_events clients) report
        → map (λ (client : ClientReport). client.number) report.clients ≡ range_with_len 1 clients
    numbers-are report few right = right.clients ∙ named-load clients few

    all-there : (report : Report) → clients ≤ most_clients → IsReportOf w smallest_route (load_events clients) report
        → AllByRecursion IsThere (map (λ client. client.number) report.clients)
    all-there report few right = subst (AllByRecursion IsThere) (sym (numbers-are report few right)) (all-range IsThere 1 clients (λ number low high. (low, high)))

  pub loads-answered : LoadsAreAnswered w
  loads-answered clients report few fair right = record {
    numbers = numbers-are clients report few right;
    each = each-answered clients report.clients (all-there clients report few right) (right.each fair);
  }

  pub loads-answered_plainly : HasOneAnswer w → LoadsAreAnsweredPlainly w
  loads-answered_plainly one clients report few fair right plain =
      each-plainly clients one report.clients (all-there clients report few right) (right.each fair) plain
