-- The works of the units that a connection has taken come first among those that its octets ask; once it has taken all, they are all
use Rattle.std.proofs.Common.{◌≡◌, ◌≢◌, ◌∙◌, ◌<◌, ℕ, Bool, true, false, List, [], ◌∷◌, ◌++◌, length, map, Option, None, Some, refl, sym, ap, subst, append_assoc, append-nil, length-append, arith}
use Rattle.std.specs.Char.{is_ascii_alphabetic}
use Rattle.std.specs.List.{AllByRecursion}
use Rattle.std.specs.Prelude.{IfSome, if◌then◌else◌}
use Rattle.std.proofs.lemmas.List.{append_cancel_left}
use Rattle.z_types.specs.declared.marks.End.{End}
use Rattle.z_types.specs.declared.marks.End.TheVariants.{Finished}
use Rattle.z_types.specs.declared.marks.Mark.{Mark}
use Rattle.z_types.specs.declared.replies.Reply.{Reply}
use Rattle.z_types.specs.declared.work.Work.{Work}
use Rattle.z_types.specs.declared.world.World as world
use Rattle.z_types.specs.Bounds.{within64}
use Rattle.z_ber.specs.Frames.{IsFrame}
use Rattle.z_ber.proofs.OneSplit.{frame_begins_no_other}
use Rattle.route_config.specs.declared.route.Route.{Route}
use Rattle.replay.specs.gateway_rules.Answers as kind
use Rattle.replay.specs.gateway_rules.Answers.{Answers, IsCourse, IsCourseOf, IsReceived, Kind, RestLeadsTo, kind_of}
use Rattle.replay.specs.gateway_rules.Course as at
use Rattle.replay.specs.gateway_rules.Course.{Course, Received, course, followed, octets_of, stands_at}
use Rattle.replay.specs.gateway_rules.Marks.{Cause, plain}
use Rattle.replay.specs.gateway_rules.OneAnswer.{AreMarksPlain}
use Rattle.replay.specs.gateway_rules.Runs.{marks_of}
use Rattle.replay.specs.gateway_rules.Session.{IsServed, answered, run}
use Rattle.replay.specs.gateway_rules.State.{ClientState, Progress, at_the_start, new_client}
use Rattle.replay.proofs.gateway_rules.Composition.{course-append}
use Rattle.replay.proofs.gateway_rules.OneEnding.{extent-filled, frame-filled, is_course-one, received-one}
use Rattle.front_conn_works.specs.Works.{work_of, works_of}
use Rattle.front_conn_works.specs.steps.Begun.{AreWorksBefore, AreWorksIn}
use Rattle.front_conn_works.specs.steps.Laws.{MarksDecide}
use Rattle.front_conn_works.proofs.BegunLemmas.{begun-of}
use Rattle.replay_shares.specs.Works.{Ask, AskAs, AskByUnits, works_in, works_of_units}

-- ---- a course under marks that are all Plain

-- causes that are all Plain, as many as these
abbrev plainly : List Cause → List Cause
plainly causes = map (λ (cause : Cause). plain) causes

plain-marks : (causes : List Cause) → AreMarksPlain (marks_of causes) → marks_of causes ≡ marks_of (plainly causes)
plain-marks [] h = refl
plain-marks (cause ∷ causes) h =
    let first = h.0 in
    let others = plain-marks causes h.1 in λ i. first i ∷ others i

-- works that come first among others
pub record AreFirst (works all : List Work) : Type 0 where
  pub rest : List Work
  pub is : all ≡ works ++ rest

module _ {W : Type 0} (w : world.Ghosts W) (route : Route) where
  -- works of a course, however many causes there are, come first among those of a course that goes on from where it stands
  first-of : (client : ClientState) (whole : Course) (next : Progress → Course) (causes : List Cause)
      → AreFirst (works_of w route client whole (plainly causes)) (works_in w route client (followed whole next))
  first-of client (at.stands here) next causes = record { rest = works_in w route client (next here); is = refl }
  first-of client (at.ends last end) next causes = record { rest = []; is = refl }
  first-of client (at.answers asks more) next [] =
      record { rest = works_in w route (answered w route client asks plain).client (followed more next); is = refl }
  first-of client (at.answers asks more) next (cause ∷ causes) =
      let here = (answered w route client asks plain).client in
      let on = first-of here more next causes in record {
        rest = on.rest;
        is = ap (λ (ws : List Work). work_of w route client asks ++ ws) on.is
            ∙ sym (append_assoc (work_of w route client asks) (works_of w route here more (plainly causes)) on.rest);
      }

  -- where no request wants a cause they are all
  all-of : (one client : ClientState) (whole : Course) (causes : List Cause) → IsServed (run w route one whole causes).stop
      → works_of w route client whole (plainly causes) ≡ works_in w route client whole
  all-of one client (at.stands here) causes served = refl
  all-of one client (at.ends last end) causes served = refl
  all-of one client (at.answers asks more) [] served = absurd served
  all-of one client (at.answers asks more) (cause ∷ causes) served =
      ap (λ (ws : List Work). work_of w route client asks ++ ws)
      (all-of (answered w route one asks cause).client (answered w route client asks plain).client more causes served)

  -- an end behind a course asks nothing
  ended-in : (client : ClientState) (whole : Course) (last : Option Reply) (end : End)
      → works_in w route client (followed whole (λ there. at.ends last end)) ≡ works_in w route client whole
  ended-in client (at.stands here) last end = refl
  ended-in client (at.ends other way) last end = refl
  ended-in client (at.answers asks more) last end =
      ap (λ (ws : List Work). work_of w route client asks ++ ws) (ended-in (answered w route client asks plain).client more last end)

  under-plain : MarksDecide w → (client : ClientState) (whole : Course) (causes : List Cause) (marks : List Mark) → marks_of causes ≡ marks
      → AreMarksPlain marks → works_of w route client whole causes ≡ works_of w route client whole (plainly causes)
  under-plain decide client whole causes marks of plain_all =
      decide route client whole causes (plainly causes) (plain-marks causes (subst AreMarksPlain (sym of) plain_all))

-- ---- units

-- a unit has octets
frame-octets : (frame : List ℕ) → IsFrame frame → 0 < length frame
frame-octets frame f = extent-filled 63 frame f.0.0 f.0.1 f.0.2

-- at the offset 0 there are none
pub none-at-start : (units : List Received) → AllByRecursion IsReceived units → within64 (length (octets_of units)) ≡ 0 → units ≡ []
none-at-start [] each e = refl
none-at-start (unit ∷ units) each e =
    absurd (omega (arith, e, length-append unit.octets (octets_of units), frame-octets unit.octets each.0.0))

-- units that come first among others, in front of this rest
record AreFirstUnits (us vs : List Received) (rest : List ℕ) : Type 0 where
  more : List Received
  is : vs ≡ us ++ more
  each : AllByRecursion IsReceived more
  spelled : rest ≡ octets_of more

first-units : (us vs : List Received) (rest : List ℕ) → AllByRecursion IsReceived us → AllByRecursion IsReceived vs
    → octets_of us ++ rest ≡ octets_of vs → AreFirstUnits us vs rest
first-units [] vs rest p q e = record { more = vs; is = refl; each = q; spelled = e }
first-units (u ∷ us) [] rest p q e =
    absurd (frame-filled u.octets (octets_of us ++ rest) p.0.0 (sym e ∙ append_assoc u.octets (octets_of us) rest))
first-units (u ∷ us) (v ∷ vs) rest p q e =
    let left : List ℕ = octets_of us ++ rest in
    let both : u.octets ++ left ≡ v.octets ++ octets_of vs = sym (append_assoc u.octets (octets_of us) rest) ∙ e in
    let frame : u.octets ≡ v.octets = frame_begins_no_other u.octets v.octets left (octets_of vs) p.0.0 q.0.0 both in
    let same : u ≡ v = received-one u v p.0 q.0 frame in
    let behind : left ≡ octets_of vs =
    append_cancel_left v.octets left (octets_of vs) (ap (λ (o : List ℕ). o ++ left) (sym frame) ∙ both) in
    let on = first-units us vs rest p.1 q.1 behind in
    let all = on.is in
    record { more = on.more; is = λ i. sym same i ∷ all i; each = on.each; spelled = on.spelled }

-- ---- the kind of a connection

-- octets of which there are none, or units
pub asks-units : {W : Type 0} (w : world.Ghosts W) (route : Route) (octets : List ℕ) (all : List Work) → kind_of octets ≢ kind.letter
    → Ask w route octets all → AskByUnits w route octets all
asks-units w route [] all other asks = record { units = []; each = tt; spelled = refl; are = asks }
asks-units w route (octet ∷ octets) all other asks = by-letter (is_ascii_alphabetic octet) other asks where
  by-letter : (letter : Bool) → (if letter then kind.letter else kind.unit) ≢ kind.letter
      → AskAs (if letter then kind.letter else kind.unit) w route (octet ∷ octets) all → AskByUnits w route (octet ∷ octets) all
  by-letter true other asks = absurd (other refl)
  by-letter false other asks = asks

pub empty-none : (octets : List ℕ) → kind_of octets ≡ kind.empty → octets ≡ []
empty-none [] is = refl
empty-none (octet ∷ octets) is = absurd (letters (is_ascii_alphabetic octet) is) where
  letters : (letter : Bool) → (if letter then kind.letter else kind.unit) ≡ kind.empty → ⊥
  letters true is = absurd cc
  letters false is = absurd cc

-- ---- what octets ask that are whole units

module _ {W : Type 0} (w : world.Ghosts W) (decide : MarksDecide w) (route : Route) (octets : List ℕ) (all : List Work)
    (asks : AskByUnits w route octets all) where
  -- the works of the units that were taken come first
  pub begun-first : (rest : List ℕ) (marks : List Mark) (begun : List Work) → AreMarksPlain marks
      → AreWorksBefore w route rest octets marks begun → AreFirst begun all
  begun-first rest marks begun plain_all h =
      let front = first-units h.units asks.units rest h.each asks.each (sym h.spelled ∙ asks.spelled) in
      let own = course route at_the_start h.units in
      let first = first-of w route new_client own (λ there. course route there front.more) h.works.causes in record {
        rest = first.rest;
        is = asks.are ∙ ap (λ (us : List Received). works_in w route new_client (course route at_the_start us)) front.is
            ∙ ap (λ (c : Course). works_in w route new_client c) (course-append route at_the_start h.units front.more) ∙ first.is
            ∙ ap (λ (ws : List Work). ws ++ first.rest)
            (sym (h.works.works ∙ under-plain w route decide new_client own h.works.causes marks h.works.of_marks plain_all));
      }

  -- where the octets that are left begin with no unit, and no request wants a cause, they are all
  no-more : (rest : List ℕ) (units : List Received) → ((unit : Received) (more : List ℕ) → IsReceived unit → rest ≡ unit.octets ++ more → ⊥)
      → AllByRecursion IsReceived units → rest ≡ octets_of units → units ≡ []
  no-more rest [] none each e = refl
  no-more rest (unit ∷ units) none each e = absurd (none unit (octets_of units) each.0 e)

  pub begun-all : (rest : List ℕ) (marks : List Mark) (begun : List Work) (units : List Received) (causes : List Cause) → AreMarksPlain marks
      → AreWorksBefore w route rest octets marks begun → AllByRecursion IsReceived units → octets ≡ octets_of units ++ rest
      → marks_of causes ≡ marks → IsServed (run w route new_client (course route at_the_start units) causes).stop
      → ((unit : Received) (more : List ℕ) → IsReceived unit → rest ≡ unit.octets ++ more → ⊥) → begun ≡ all
  begun-all rest marks begun units causes plain_all h each spelled of served none =
      let front = first-units units asks.units rest each asks.each (sym spelled ∙ asks.spelled) in
      let same : asks.units ≡ units =
      front.is ∙ ap (λ (us : List Received). units ++ us) (no-more rest front.more none front.each front.spelled) ∙ append-nil units in
      let own = course route at_the_start units in
      begun-of w route rest octets marks begun units causes h each spelled of
      ∙ under-plain w route decide new_client own causes marks of plain_all ∙ all-of w route new_client new_client own causes served
      ∙ sym (asks.are ∙ ap (λ (us : List Received). works_of_units w route us) same)

  -- ---- where the connection has ended

  is-whole : IsCourse route at_the_start octets (followed (course route at_the_start asks.units) (λ there. at.ends None Finished))
  is-whole = record {
    units = asks.units;
    rest = [];
    spelled = asks.spelled ∙ sym (append-nil (octets_of asks.units));
    each = asks.each;
    behind = at.ends None Finished;
    rested = leads (stands_at (course route at_the_start asks.units));
    is = refl;
  } where
    leads : (there : Option Progress) → IfSome there (λ place. RestLeadsTo place.at [] (at.ends None Finished))
    leads None = tt
    leads (Some place) = refl

  pub units-all : (marks : List Mark) (out : List ℕ) (end : End) (begun : List Work) → kind_of octets ≡ kind.unit → AreMarksPlain marks
      → AreWorksIn w route octets marks begun → Answers w route octets marks out end → begun ≡ all
  units-all marks out end begun of_units plain_all h answers =
      let got = answers.answered in
      let finish : Course = followed (course route at_the_start asks.units) (λ there. at.ends None Finished) in
      let same : h.whole ≡ finish =
      is_course-one route at_the_start octets h.whole finish (subst (λ (k : Kind). IsCourseOf k route octets h.whole) of_units h.is_whole)
      is-whole in
      let other : got.whole ≡ finish =
      is_course-one route at_the_start octets got.whole finish (subst (λ (k : Kind). IsCourseOf k route octets got.whole) of_units got.is_whole)
      is-whole in
      h.works.works ∙ decide route new_client h.whole h.works.causes got.causes (h.works.of_marks ∙ sym got.of_marks)
      ∙ ap (λ (c : Course). works_of w route new_client c got.causes) (same ∙ sym other)
      ∙ under-plain w route decide new_client got.whole got.causes marks got.of_marks plain_all
      ∙ all-of w route new_client new_client got.whole got.causes answers.fits.served
      ∙ ap (λ (c : Course). works_in w route new_client c) other
      ∙ ended-in w route new_client (course route at_the_start asks.units) None Finished ∙ sym asks.are

  none-of : (units : List Received) → AllByRecursion IsReceived units → [] ≡ octets_of units → works_of_units w route units ≡ []
  none-of [] each e = refl
  none-of (unit ∷ units) each e = absurd (frame-filled unit.octets (octets_of units) each.0.0 e)

  -- where nothing came nothing is asked
  pub none-all : (marks : List Mark) (begun : List Work) → kind_of octets ≡ kind.empty → AreWorksIn w route octets marks begun → begun ≡ all
  none-all marks begun nothing h =
      let ends : h.whole ≡ at.ends None Finished = subst (λ (k : Kind). IsCourseOf k route octets h.whole) nothing h.is_whole in
      let none : all ≡ [] = asks.are ∙ none-of asks.units asks.each (sym (empty-none octets nothing) ∙ asks.spelled) in
      h.works.works ∙ ap (λ (c : Course). works_of w route new_client c h.works.causes) ends ∙ sym none
