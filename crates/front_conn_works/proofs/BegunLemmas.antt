-- What a connection has begun: one list, which what comes between its steps leaves as it is.
use Rattle.std.proofs.Common.{◌≡◌, ◌≢◌, ◌<◌, ℕ, Bool, true, false, List, [], ◌∷◌, ◌++◌, length, Option, Some, None, refl, sym, ap, ◌∙◌, subst, append_assoc, append-nil, arith}
use Rattle.std.specs.Char.{is_ascii_alphabetic}
use Rattle.std.specs.Prelude.{if◌then◌else◌}
use Rattle.std.specs.List.{AllByRecursion}
use Rattle.z_types.specs.declared.marks.End.{End}
use Rattle.z_types.specs.declared.marks.Mark.{Mark}
use Rattle.z_types.specs.declared.work.Work.{Work}
use Rattle.z_types.specs.declared.world.World as world
use Rattle.route_config.specs.declared.route.Route.{Route}
use Rattle.front_conn.specs.gateway_rules.Answers as kind
use Rattle.front_conn.specs.gateway_rules.Answers.{IsReceived, kind_of}
use Rattle.front_conn.specs.gateway_rules.Course.{Course, Received, course, octets_of}
use Rattle.front_conn.specs.gateway_rules.Marks.{Cause}
use Rattle.front_conn.specs.gateway_rules.Runs.{marks_of}
use Rattle.front_conn.specs.gateway_rules.State.{at_the_start, new_client}
use Rattle.front_conn.proofs.gateway_rules.OneEnding.{connection-one, frame-filled}
use Rattle.front_conn.specs.package.steps.Packages.{PackageView}
use Rattle.front_conn.specs.front_session.Sessions.{new_session}
use Rattle.front_conn.specs.steps.Feeding.{fed_piece, with_end, without_out}
use Rattle.front_conn.specs.steps.States.{ConnectionState, MayCome, nothing_yet}
use Rattle.front_conn_works.specs.Works.{works_of}
use Rattle.front_conn_works.specs.steps.Begun.{AreWorksBefore, AreWorksIn, AreWorksOf, HasBegun, HasBegunBy, begun_by}
use Rattle.front_conn_works.specs.steps.Laws.{StaysBegun}
use Rattle.front_conn_works.proofs.MarkWorks.{works-by-marks}
use Rattle.front_conn_works.proofs.OneCourse.{units-one}

-- ---- one list

module _ {W : Type 0} (w : world.Ghosts W) (route : Route) where
  -- the works of a course are those under any causes with its marks
  works-under : (whole : Course) (marks : List Mark) (begun : List Work) (causes : List Cause) → AreWorksOf w route whole marks begun
      → marks_of causes ≡ marks → begun ≡ works_of w route new_client whole causes
  works-under whole marks begun causes h of =
      h.works ∙ works-by-marks w route new_client whole h.causes causes (h.of_marks ∙ sym of)

  -- those of octets are those of any units that they are
  pub begun-of : (rest bytes : List ℕ) (marks : List Mark) (begun : List Work) (units : List Received) (causes : List Cause)
      → AreWorksBefore w route rest bytes marks begun → AllByRecursion IsReceived units → bytes ≡ octets_of units ++ rest
      → marks_of causes ≡ marks → begun ≡ works_of w route new_client (course route at_the_start units) causes
  begun-of rest bytes marks begun units causes h each spelled of =
      works-under (course route at_the_start h.units) marks begun causes h.works of
      ∙ ap (λ us. works_of w route new_client (course route at_the_start us) causes)
      (units-one h.units units rest h.each each (sym h.spelled ∙ spelled))

  before-one : (rest bytes : List ℕ) (marks : List Mark) (begun other : List Work) → AreWorksBefore w route rest bytes marks begun
      → AreWorksBefore w route rest bytes marks other → begun ≡ other
  before-one rest bytes marks begun other h k =
      begun-of rest bytes marks begun k.units k.works.causes h k.each k.spelled k.works.of_marks ∙ sym k.works.works

  in-one : (bytes : List ℕ) (marks : List Mark) (begun other : List Work) → AreWorksIn w route bytes marks begun
      → AreWorksIn w route bytes marks other → begun ≡ other
  in-one bytes marks begun other h k =
      works-under h.whole marks begun k.works.causes h.works k.works.of_marks
      ∙ ap (λ whole. works_of w route new_client whole k.works.causes) (connection-one route bytes h.whole k.whole h.is_whole k.is_whole)
      ∙ sym k.works.works

-- nothing may always come
none-comes : (has_ended : Bool) → MayCome has_ended []
none-comes true = refl
none-comes false = tt

-- before the end of the input anything may
may-come : (has_ended : Bool) (more : List ℕ) → has_ended ≡ false → MayCome has_ended more
may-come true more h = absurd cc
may-come false more h = tt

ended-comes : (has_ended : Bool) (more : List ℕ) → MayCome true more → MayCome has_ended more
ended-comes true more h = h
ended-comes false more h = tt

module _ {W S : Type 0} (w : world.Ghosts W) (route : Route) (fed : List ℕ) (state : ConnectionState S) where
  by-one : (end : Option End) (begun other : List Work) → HasBegunBy w route fed state begun end → HasBegunBy w route fed state other end
      → begun ≡ other
  by-one None begun other h k = before-one w route state.left fed state.marks begun other h k
  by-one (Some end) begun other h k =
      let may = none-comes state.has_ended in in-one w route (fed ++ []) state.marks begun other (h [] may) (k [] may)

  pub begun-one : (begun other : List Work) → HasBegun w route fed state begun → HasBegun w route fed state other → begun ≡ other
  begun-one begun other h k = by-one state.end begun other h k

  -- ---- by the end

  pub of-going : (begun : List Work) → state.end ≡ None → AreWorksBefore w route state.left fed state.marks begun
      → HasBegun w route fed state begun
  of-going begun goes h = subst (λ (e : Option End). HasBegunBy w route fed state begun e) (sym goes) h

  pub going-of : (begun : List Work) → state.end ≡ None → HasBegun w route fed state begun
      → AreWorksBefore w route state.left fed state.marks begun
  going-of begun goes h = subst (λ (e : Option End). HasBegunBy w route fed state begun e) goes h

  pub of-over : (begun : List Work) (end : End) → state.end ≡ Some end
      → ((more : List ℕ) → MayCome state.has_ended more → AreWorksIn w route (fed ++ more) state.marks begun)
      → HasBegun w route fed state begun
  of-over begun end over h = subst (λ (e : Option End). HasBegunBy w route fed state begun e) (sym over) h

  pub ended-whole : (end : End) (begun : List Work) → state.end ≡ Some end → HasBegun w route fed state begun
      → AreWorksIn w route fed state.marks begun
  ended-whole end begun over h =
      let all = subst (λ (e : Option End). HasBegunBy w route fed state begun e) over h in
      subst (λ (o : List ℕ). AreWorksIn w route o state.marks begun) (append-nil fed) (all [] (none-comes state.has_ended))

  -- a step that begins nothing
  pub nothing-more : (begun works : List Work) → works ≡ [] → HasBegun w route fed state begun → HasBegun w route fed state (begun ++ works)
  nothing-more begun works none h =
      subst (λ (ws : List Work). HasBegun w route fed state ws) (sym (ap (λ ws. begun ++ ws) none ∙ append-nil begun)) h

-- what is in work before and behind begins nothing
pub begins-none : {S : Type 0} (works : Option (PackageView S)) → begun_by works works ≡ []
begins-none None = refl
begins-none (Some view) = refl

-- ---- a new connection

pub new-begun : {W : Type 0} (w : world.Ghosts W) (S : Type 0) (route : Route) → HasBegun w route [] (nothing_yet {S = S} new_session) []
new-begun w S route =
    record { units = []; each = tt; spelled = refl; works = record { causes = []; of_marks = refl; works = refl } }

-- ---- between steps

module _ {W S : Type 0} (w : world.Ghosts W) (route : Route) (fed : List ℕ) (state : ConnectionState S) (begun : List Work) where
  fed-begun : (piece : List ℕ) (end : Option End) → state.end ≡ end → state.has_ended ≡ false → HasBegunBy w route fed state begun end
      → HasBegun w route (fed ++ piece) (fed_piece end state piece) begun
  fed-begun piece None goes input h =
      of-going w route (fed ++ piece) (record state { left = state.left ++ piece }) begun goes (record {
        units = h.units;
        each = h.each;
        spelled = ap (λ o. o ++ piece) h.spelled ∙ append_assoc (octets_of h.units) state.left piece;
        works = h.works;
      })
  fed-begun piece (Some end) over input h =
      of-over w route (fed ++ piece) state begun end over (λ more may.
      subst (λ (o : List ℕ). AreWorksIn w route o state.marks begun) (sym (append_assoc fed piece more))
      (h (piece ++ more) (may-come state.has_ended (piece ++ more) input)))

  ended-begun : (end : Option End) → HasBegunBy w route fed state begun end → HasBegunBy w route fed (with_end state) begun end
  ended-begun None h = h
  ended-begun (Some end) h = λ more may. h more (ended-comes state.has_ended more may)

  written-begun : (end : Option End) → HasBegunBy w route fed state begun end → HasBegunBy w route fed (without_out state) begun end
  written-begun None h = h
  written-begun (Some end) h = h

  pub stays-begun : HasBegun w route fed state begun → StaysBegun w route fed state begun
  stays-begun h = record {
    fed_on = λ piece input. fed-begun piece state.end refl input h;
    ended = ended-begun state.end h;
    written = written-begun state.end h;
  }

-- ---- the kind of a connection

-- octets behind none
pub filled-kind : (fed : List ℕ) → kind_of fed ≢ kind.letter → 0 < length fed → kind_of fed ≡ kind.unit
filled-kind [] other filled = absurd (omega (arith, filled))
filled-kind (octet ∷ octets) other filled = by-letter (is_ascii_alphabetic octet) other where
  by-letter : (letter : Bool) → (if letter then kind.letter else kind.unit) ≢ kind.letter → (if letter then kind.letter else kind.unit) ≡ kind.unit
  by-letter true other = absurd (other refl)
  by-letter false other = refl

-- a letter that comes first is behind nothing
pub none-fed : (fed more : List ℕ) → kind_of fed ≢ kind.letter → kind_of (fed ++ more) ≡ kind.letter → fed ≡ []
none-fed [] more other is = refl
none-fed (octet ∷ octets) more other is = absurd (other is)

pub none-there : (fed more : List ℕ) → kind_of (fed ++ more) ≡ kind.empty → fed ≡ []
none-there [] more is = refl
none-there (octet ∷ octets) more is = absurd (letters (is_ascii_alphabetic octet) is) where
  letters : (letter : Bool) → (if letter then kind.letter else kind.unit) ≡ kind.empty → ⊥
  letters true is = absurd cc
  letters false is = absurd cc

-- where nothing was fed nothing was begun
module _ {W : Type 0} (w : world.Ghosts W) (route : Route) where
  none-of : (units : List Received) (rest : List ℕ) (causes : List Cause) → AllByRecursion IsReceived units → [] ≡ octets_of units ++ rest
      → works_of w route new_client (course route at_the_start units) causes ≡ []
  none-of [] rest causes each e = refl
  none-of (unit ∷ units) rest causes each e =
      absurd (frame-filled unit.octets (octets_of units ++ rest) each.0.0 (e ∙ append_assoc unit.octets (octets_of units) rest))

  pub none-begun : (rest fed : List ℕ) (marks : List Mark) (begun : List Work) → AreWorksBefore w route rest fed marks begun → fed ≡ []
      → begun ≡ []
  none-begun rest fed marks begun h none = h.works.works ∙ none-of h.units rest h.works.causes h.each (sym none ∙ h.spelled)
