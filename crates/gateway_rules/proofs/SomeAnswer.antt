-- No octets are without an answer where every mark is Plain: they are cut into units, each is read or not, and each
-- request is answered under the next mark.
use Rattle.std.proofs.Common.{◌≡◌, ◌≤◌, ℕ, zero, suc, List, [], ◌∷◌, ◌++◌, length, Option, Some, None, Ok, refl, sym}
use Rattle.std.proofs.Common.{ap, ◌∙◌, append_assoc, arith, length-append, inl, inr, map}
use Rattle.std.specs.Prelude.{IfSome, flat_map}
use Rattle.std.specs.List.{AllByRecursion}
use Rattle.z_types.specs.declared.marks.End.{End}
use Rattle.z_types.specs.declared.marks.End.TheVariants.{Finished, Malformed, Cut}
use Rattle.z_types.specs.declared.requests.Request.{Request}
use Rattle.z_types.specs.declared.world.World as world
use Rattle.z_types.specs.Bounds.{within64}
use Rattle.z_ber.specs.Element.{Forest}
use Rattle.z_ber.specs.Frames.{IsFrame}
use Rattle.z_ber.specs.Header.{Begins, Opens}
use Rattle.z_ber.specs.Place.{IsUnit}
use Rattle.route_config.specs.declared.route.Route.{Route}
use Rattle.unit_forms.specs.Reading.Units.{request_in}
use Rattle.unit_forms.specs.Replies.{spell_reply}
use Rattle.gateway_rules.specs.Answers.{IsReceived, IsCourse, IsCourseOf, IsConnection, RestLeadsTo, Answers}
use Rattle.unit_forms.specs.Reading.Units.{IsReading}
use Rattle.gateway_rules.specs.Answers.{Kind, empty, letter, unit, kind_of}
use Rattle.gateway_rules.specs.Course as at
use Rattle.gateway_rules.specs.Course.{Course, Received, octets_of, course, ends, followed, stands_at, end_of}
use Rattle.gateway_rules.specs.Marks.{Cause, plain}
use Rattle.gateway_rules.specs.OneAnswer.{AreMarksPlain, HasSomeAnswer}
use Rattle.gateway_rules.specs.Replies.{bad_unit_reply}
use Rattle.gateway_rules.specs.Session.{run, answered, Fits}
use Rattle.gateway_rules.specs.State.{Progress, ClientState, at_the_start, new_client}
use Rattle.gateway_rules.proofs.OneEnding.{extent-filled, frame-filled}

-- what is so whether a fact holds or not
by_cases : (P : Type 0) (G : Type 0) → (P → ¬ (¬ G)) → (¬ P → ¬ (¬ G)) → ¬ (¬ G)
by_cases P G holds fails none = fails (λ p. holds p none) none

-- ---- octets as units and a rest

-- octets are units and a rest that begins with none
record AreCut (bytes : List ℕ) : Type 0 where
  units : List Received
  rest : List ℕ
  spelled : bytes ≡ octets_of units ++ rest
  each : AllByRecursion IsReceived units
  ended : ¬ Begins IsFrame rest

-- a frame is read as a request, or as none
some_reading : (frame : List ℕ) → ¬ (¬ ((read : Option Request) × IsReading frame read))
some_reading frame =
    by_cases ((tree : Forest) × (request : Request) × IsUnit frame tree × (request_in tree ≡ Ok request))
    ((read : Option Request) × IsReading frame read)
    (λ h none. none (Some h.1, (h.0, h.2, h.3)))
    (λ unread none. none (None, λ tree request is e. unread (tree, request, is, e)))

-- a unit in front of octets that are cut
one_more : (frame more bytes : List ℕ) (read : Option Request) → IsFrame frame → IsReading frame read
    → bytes ≡ frame ++ more → AreCut more → AreCut bytes
one_more frame more bytes read f r e c = record {
  units = (record { octets = frame; request = read }) ∷ c.units;
  rest = c.rest;
  spelled = e ∙ ap (λ h. frame ++ h) c.spelled ∙ sym (append_assoc frame (octets_of c.units) c.rest);
  each = ((f, r), c.each);
  ended = c.ended;
}

-- a unit that octets begin with is read, and what is behind it is cut
cut_behind : (bytes frame more : List ℕ) → IsFrame frame → bytes ≡ frame ++ more → ¬ (¬ AreCut more) → ¬ (¬ AreCut bytes)
cut_behind bytes frame more f e cut none =
    cut (λ c. some_reading frame (λ r. none (one_more frame more bytes r.0 f r.1 e c)))

-- octets that begin with no unit
not_cut : (bytes : List ℕ) → ¬ Begins IsFrame bytes → ¬ (¬ AreCut bytes)
not_cut bytes ended none = none (record { units = []; rest = bytes; spelled = refl; each = tt; ended = ended })

-- what is behind a unit is shorter
shorter : (n : ℕ) (bytes frame more : List ℕ) → IsFrame frame → bytes ≡ frame ++ more → length bytes ≤ suc n → length more ≤ n
shorter n bytes frame more f e few =
    omega (arith, ap length e, length-append frame more, extent-filled 63 frame f.0.0 f.0.1 f.0.2, few)

-- at most `n` octets are cut
cut_within : (n : ℕ) (bytes : List ℕ) → length bytes ≤ n → ¬ (¬ AreCut bytes)
cut_within zero [] few = not_cut [] (λ b. frame-filled b.0 b.1 b.2 b.3)
cut_within zero (octet ∷ bytes) few = absurd (omega (arith, few))
cut_within (suc n) bytes few =
    by_cases (Begins IsFrame bytes) (AreCut bytes)
    (λ b. cut_behind bytes b.0 b.1 b.2 b.3 (cut_within n b.1 (shorter n bytes b.0 b.1 b.2 b.3 few)))
    (not_cut bytes)

-- ---- a course

-- a rest that begins with no unit leads to an end
some_rest : (offset : ℕ) (rest : List ℕ) → ¬ Begins IsFrame rest
    → ¬ (¬ ((behind : Course) × RestLeadsTo offset rest behind))
some_rest offset [] ended none = none (ends None Finished, refl)
some_rest offset (octet ∷ rest) ended none =
    by_cases (Opens IsFrame (octet ∷ rest)) ((behind : Course) × RestLeadsTo offset (octet ∷ rest) behind)
    (λ opened none. none (ends None (Cut (length (octet ∷ rest))), inl ((ended, opened), refl)))
    (λ bad none. none (ends (Some bad_unit_reply) (Malformed (within64 offset)), inr (bad, refl)))
    none

-- where a session stands it goes on by the rest, if it stands
some_rest_at : (stand : Option Progress) (rest : List ℕ) → ¬ Begins IsFrame rest
    → ¬ (¬ ((behind : Course) × IfSome stand (λ there. RestLeadsTo there.at rest behind)))
some_rest_at None rest ended none = none (ends None Finished, tt)
some_rest_at (Some there) rest ended none = some_rest there.at rest ended none

-- octets that come where a session stands have a course
some_course : (route : Route) (here : Progress) (bytes : List ℕ) → ¬ (¬ ((whole : Course) × IsCourse route here bytes whole))
some_course route here bytes none =
    cut_within (length bytes) bytes (omega arith)
    (λ c. some_rest_at (stands_at (course route here c.units)) c.rest c.ended
    (λ behind. none (
      followed (course route here c.units) (λ there. behind.0),
      record {
        units = c.units;
        rest = c.rest;
        spelled = c.spelled;
        each = c.each;
        behind = behind.0;
        rested = behind.1;
        is = refl;
      },
    )))

-- a connection of each kind has one
some_of_kind : (kind : Kind) (route : Route) (bytes : List ℕ) → ¬ (¬ ((whole : Course) × IsCourseOf kind route bytes whole))
some_of_kind empty route bytes none = none (ends None Finished, refl)
some_of_kind letter route bytes none = none (ends (Some bad_unit_reply) (Malformed 0), refl)
some_of_kind unit route bytes none = some_course route at_the_start bytes none

-- ---- its end

-- a rest leads to an end
rest_ends : (offset : ℕ) (rest : List ℕ) (behind : Course) → RestLeadsTo offset rest behind → (end : End) × (end_of behind ≡ Some end)
rest_ends offset [] behind h = (Finished, ap end_of h)
rest_ends offset (octet ∷ rest) behind (inl h) = (Cut (length (octet ∷ rest)), ap end_of h.1)
rest_ends offset (octet ∷ rest) behind (inr h) = (Malformed (within64 offset), ap end_of h.1)

-- a course that goes on by a rest where it stands ends
course_ends : (first behind : Course) (rest : List ℕ)
    → IfSome (stands_at first) (λ there. RestLeadsTo there.at rest behind)
    → (end : End) × (end_of (followed first (λ there. behind)) ≡ Some end)
course_ends (at.stands here) behind rest h = rest_ends here.at rest behind h
course_ends (at.ends last end) behind rest h = (end, refl)
course_ends (at.answers request more) behind rest h = course_ends more behind rest h

-- a connection of each kind ends
kind_ends : (kind : Kind) (route : Route) (bytes : List ℕ) (whole : Course) → IsCourseOf kind route bytes whole
    → (end : End) × (end_of whole ≡ Some end)
kind_ends empty route bytes whole h = (Finished, ap end_of h)
kind_ends letter route bytes whole h = (Malformed 0, ap end_of h)
kind_ends unit route bytes whole h =
    let end = course_ends (course route at_the_start h.units) h.behind h.rest h.rested in
    (end.0, ap end_of h.is ∙ end.1)

-- ---- its run

-- a cause for each request of a course, each Plain
abbrev plain_causes : Course → List Cause
plain_causes (at.stands here) = []
plain_causes (at.ends last end) = []
plain_causes (at.answers request more) = plain ∷ plain_causes more

-- their marks are Plain
plain-marks : (c : Course) → AreMarksPlain (map (λ cause. cause.mark) (plain_causes c))
plain-marks (at.stands here) = tt
plain-marks (at.ends last end) = tt
plain-marks (at.answers request more) = (refl, plain-marks more)

-- they fit
plain-fits : {W : Type 0} (w : world.Ghosts W) (route : Route) (client : ClientState) (c : Course)
    → Fits (run w route client c (plain_causes c))
plain-fits w route client (at.stands here) = record { allowed = tt; served = tt; none_left = refl }
plain-fits w route client (at.ends last end) = record { allowed = tt; served = tt; none_left = refl }
plain-fits w route client (at.answers request more) =
    let rest = plain-fits w route (answered w route client request plain).client more in
    record { allowed = (tt, rest.allowed); served = rest.served; none_left = rest.none_left }

-- the answers under them
plain_answers : {W : Type 0} (w : world.Ghosts W) (route : Route) (bytes : List ℕ) (whole : Course)
    (is : IsConnection route bytes whole) (end : End) → end_of whole ≡ Some end
    → Answers w route bytes (map (λ cause. cause.mark) (plain_causes whole))
    (flat_map spell_reply (run w route new_client whole (plain_causes whole)).replies) end
plain_answers w route bytes whole is end ended =
    let fits = plain-fits w route new_client whole in
    record {
      answered = record {
        whole = whole;
        is_whole = is;
        causes = plain_causes whole;
        of_marks = refl;
        allowed = fits.allowed;
        written = refl;
      };
      fits = fits;
      ended = ended;
    }

-- No octets are without an answer where every mark is Plain.
pub some-answer : {W : Type 0} (w : world.Ghosts W) → HasSomeAnswer w
some-answer w route bytes none =
    some_of_kind (kind_of bytes) route bytes
    (λ c. let end = kind_ends (kind_of bytes) route bytes c.0 c.1 in
    none (map (λ cause. cause.mark) (plain_causes c.0)) (flat_map spell_reply (run w route new_client c.0 (plain_causes c.0)).replies)
    end.0 (plain-marks c.0) (plain_answers w route bytes c.0 c.1 end.0 end.1))
