-- The works of a course follow from the marks of its causes.
use Rattle.std.proofs.Common.{◌≡◌, ◌+◌, List, [], ◌∷◌, ◌++◌, Some, refl, sym, ap, ◌∙◌}
use Rattle.z_types.specs.declared.diagnostic.Diag.{Diag}
use Rattle.z_types.specs.declared.marks.Mark.{Mark}
use Rattle.z_types.specs.declared.marks.Mark.TheVariants.{Plain, Link, Silent, Gone, Full}
use Rattle.z_types.specs.declared.outcome.Fetched.TheVariants as fetched
use Rattle.z_types.specs.declared.outcome.Outcome.{Outcome}
use Rattle.z_types.specs.declared.outcome.Outcome.TheVariants as outcome
use Rattle.z_types.specs.declared.requests.Request.{Request}
use Rattle.z_types.specs.declared.requests.Request.TheVariants as request
use Rattle.z_types.specs.declared.work.Work.{Work}
use Rattle.z_types.specs.declared.world.World as world
use Rattle.z_types.specs.Under.{under}
use Rattle.route_config.specs.declared.route.Route.{Route}
use Rattle.front_conn.specs.gateway_rules.Asking as asking
use Rattle.front_conn.specs.gateway_rules.Asking.{Asking, asked}
use Rattle.front_conn.specs.gateway_rules.Course as at
use Rattle.front_conn.specs.gateway_rules.Course.{Course}
use Rattle.front_conn.specs.gateway_rules.Cut.{cut_of}
use Rattle.front_conn.specs.gateway_rules.Given.{returned}
use Rattle.front_conn.specs.gateway_rules.Marks.{Cause}
use Rattle.front_conn.specs.gateway_rules.Outcomes.{login_asked, plain_outcome, under_mark}
use Rattle.front_conn.specs.gateway_rules.Runs.{marks_of}
use Rattle.front_conn.specs.gateway_rules.Session.{answer_to, answered, run}
use Rattle.front_conn.specs.gateway_rules.Settling.{asked_of, client_after, fetched_of, found_hits, given_of, sets_after, why_failed}
use Rattle.front_conn.specs.gateway_rules.State.{ClientState}
use Rattle.front_conn_works.specs.Works.{work_of, works_of}

-- ---- the client behind a request

-- nothing is given of nothing
given-none : (client : ClientState) (job : Work) (got : Outcome) → fetched_of got ≡ fetched.None
    → returned (given_of client.agreed.sizes job got) ≡ 0
given-none client job got none = ap (λ records. returned (cut_of client.agreed.sizes (asked_of job (found_hits got)) records)) none

-- it is the same behind two that failed, whatever for
failed-client : (client : ClientState) (asks : Request) (job : Work) (got other : Outcome) (why_got why_other : Diag)
    → why_failed got ≡ Some why_got → why_failed other ≡ Some why_other → fetched_of got ≡ fetched.None → fetched_of other ≡ fetched.None
    → client_after client asks job got ≡ client_after client asks job other
failed-client client asks job got other why_got why_other e f none none_other = by asks
  where
    same : returned (given_of client.agreed.sizes job got) ≡ returned (given_of client.agreed.sizes job other)
    same = given-none client job got none ∙ sym (given-none client job other none_other)

    by : (request : Request) → client_after client request job got ≡ client_after client request job other
    by (request.Search search) =
        let sets = ap (λ why. sets_after why search.set_name job client.sets) e
        ∙ sym (ap (λ why. sets_after why search.set_name job client.sets) f) in
        λ i. record { agreed = client.agreed; searches = client.searches + 1; records = client.records + same i; sets = sets i }
    by (request.Init init) = ap (λ given. record client { records = client.records + given }) same
    by (request.Present present) = ap (λ given. record client { records = client.records + given }) same
    by (request.Scan scan) = ap (λ given. record client { records = client.records + given }) same
    by (request.Close close) = ap (λ given. record client { records = client.records + given }) same

-- so it is whichever class is marked
marked-client : (client : ClientState) (asks : Request) (job : Work) (mark : Mark) (one other : List _) (plainly : Outcome)
    → client_after client asks job (under_mark mark one plainly) ≡ client_after client asks job (under_mark mark other plainly)
marked-client client asks job Plain one other plainly = refl
marked-client client asks job Link one other plainly =
    failed-client client asks job (outcome.Marked Link one) (outcome.Marked Link other) _ _ refl refl refl refl
marked-client client asks job (Silent looks) one other plainly =
    failed-client client asks job (outcome.Marked (Silent looks) one) (outcome.Marked (Silent looks) other) _ _ refl refl refl refl
marked-client client asks job Gone one other plainly =
    failed-client client asks job (outcome.Marked Gone one) (outcome.Marked Gone other) _ _ refl refl refl refl
marked-client client asks job (Full sessions) one other plainly =
    failed-client client asks job (outcome.Marked (Full sessions) one) (outcome.Marked (Full sessions) other) _ _ refl refl refl refl

module _ {W : Type 0} (w : world.Ghosts W) (route : Route) where
  asked-client : (client : ClientState) (asks : Request) (due : Asking) (one other : Cause) → one.mark ≡ other.mark
      → (answer_to w route client asks one due).client ≡ (answer_to w route client asks other due).client
  asked-client client asks (asking.at_once reply) one other same = refl
  asked-client client asks (asking.works job) one other same =
      let plainly = plain_outcome (under (login_asked job) w) route job in
      marked-client client asks job one.mark one.class other.class plainly
      ∙ ap (λ mark. client_after client asks job (under_mark mark other.class plainly)) same

  -- causes of one mark leave the same client
  pub client-by-mark : (client : ClientState) (asks : Request) (one other : Cause) → one.mark ≡ other.mark
      → (answered w route client asks one).client ≡ (answered w route client asks other).client
  client-by-mark client asks one other same = asked-client client asks (asked w route client asks) one other same

  -- ---- a course

  pub works-by-marks : (client : ClientState) (whole : Course) (causes others : List Cause) → marks_of causes ≡ marks_of others
      → works_of w route client whole causes ≡ works_of w route client whole others
  works-by-marks client (at.stands here) causes others same = refl
  works-by-marks client (at.ends last end) causes others same = refl
  works-by-marks client (at.answers asks more) [] [] same = refl
  works-by-marks client (at.answers asks more) [] (other ∷ others) same = absurd cc
  works-by-marks client (at.answers asks more) (cause ∷ causes) [] same = absurd cc
  works-by-marks client (at.answers asks more) (cause ∷ causes) (other ∷ others) same =
      let first : cause.mark ≡ other.mark = cc in
      let rest : marks_of causes ≡ marks_of others = cc in
      let here = (answered w route client asks cause).client in
      ap (λ works. work_of w route client asks ++ works)
      (works-by-marks here more causes others rest
      ∙ ap (λ left. works_of w route left more others) (client-by-mark client asks cause other first))

  -- where a run stops follows from how many causes there are
  pub stop-by-marks : (one two : ClientState) (whole : Course) (causes others : List Cause) → marks_of causes ≡ marks_of others
      → (run w route one whole causes).stop ≡ (run w route two whole others).stop
  stop-by-marks one two (at.stands here) causes others same = refl
  stop-by-marks one two (at.ends last end) causes others same = refl
  stop-by-marks one two (at.answers asks more) [] [] same = refl
  stop-by-marks one two (at.answers asks more) [] (other ∷ others) same = absurd cc
  stop-by-marks one two (at.answers asks more) (cause ∷ causes) [] same = absurd cc
  stop-by-marks one two (at.answers asks more) (cause ∷ causes) (other ∷ others) same =
      let rest : marks_of causes ≡ marks_of others = cc in
      stop-by-marks (answered w route one asks cause).client (answered w route two asks other).client more causes others rest
