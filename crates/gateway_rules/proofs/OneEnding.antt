-- Octets have one course, and so one ending.
use Rattle.std.proofs.Common.{◌≡◌, ◌<◌, ℕ, Bool, List, [], ◌∷◌, ◌++◌, length, Option, Some, None, refl, sym, ap, ◌∙◌}
use Rattle.std.proofs.Common.{subst, append_assoc, append-nil, inl, inr, arith, length-append, suc}
use Rattle.std.specs.Prelude.{IfSome}
use Rattle.std.specs.List.{AllByRecursion}
use Rattle.std.proofs.lemmas.List.{append_cancel_left}
use Rattle.z_types.specs.declared.marks.End.{End}
use Rattle.z_ber.specs.Frames.{IsFrame, IsExtent}
use Rattle.z_ber.specs.Element.{end_of_contents}
use Rattle.z_ber.specs.Header.{Begins, Opens, IsLength, IsHeader}
use Rattle.z_ber.specs.Written.{tag_octets}
use Rattle.z_ber.specs.declared.tag.Tag.{Tag}
use Rattle.z_ber.proofs.OneSplit.{frame_begins_no_other}
use Rattle.route_config.specs.declared.route.Route.{Route}
use Rattle.gateway_rules.specs.Answers.{IsReceived, IsCourse, IsCourseOf, IsConnection, RestLeadsTo, Ending}
use Rattle.unit_forms.specs.Reading.Units.{IsReading}
use Rattle.gateway_rules.specs.Answers.{Kind, empty, letter, unit, kind_of}
use Rattle.gateway_rules.specs.Course as at
use Rattle.gateway_rules.specs.Course.{Course, Meeting, Received, octets_of, course, followed, leads_to, met, after}
use Rattle.gateway_rules.specs.Course.{stands_at}
use Rattle.gateway_rules.specs.Course.{end_of}
use Rattle.gateway_rules.specs.OneAnswer.{HasOneEnd}
use Rattle.gateway_rules.specs.State.{Progress, at_the_start}
use Rattle.gateway_rules.proofs.OneReading.{reading-one}
use Rattle.z_types.specs.declared.world.World as world

-- ---- frames

length-filled : (constructed : Bool) (octets : List ℕ) (len : Option ℕ) → IsLength constructed octets len
    → 0 < length octets
length-filled constructed octets None h = omega (arith, ap length h.1)
length-filled constructed octets (Some n) (inl short) = omega (arith, ap length short.1)
length-filled constructed octets (Some n) (inr long) = omega (arith, ap length long.spelled)

header-filled : (head : List ℕ) (tag : Tag) (len : Option ℕ) → IsHeader head tag len → 0 < length head
header-filled head tag len h =
    omega (
      arith,
      ap length h.spelled,
      length-append
          (tag_octets tag) h.ends,
      length-filled tag.constructed h.ends len h.lengths,
    )

pub extent-filled : (k : ℕ) (octets : List ℕ) (tag : Tag) (body : List ℕ) → IsExtent (suc k) octets tag body
    → 0 < length octets
unfolding IsExtent
extent-filled k octets tag body (inl d) =
    omega (
      arith,
      ap length d.spelled,
      length-append d.head body,
      header-filled d.head tag
          (Some (length body)) d.header,
    )
extent-filled k octets tag body (inr d) = omega
    (arith, ap length d.spelled, length-append (d.head ++ body) end_of_contents)

-- no frame is empty
pub frame-filled : (frame more : List ℕ) → IsFrame frame → [] ≡ frame ++ more → ⊥
frame-filled frame more f e = omega
    (arith, ap length e, length-append frame more, extent-filled 63 frame f.0.0 f.0.1 f.0.2)

-- ---- rests

-- octets that begin with a frame are open
opens : (rest : List ℕ) → Begins IsFrame rest → Opens IsFrame rest
opens rest b = ([], (b.0, b.1, b.2, append-nil rest ∙ b.3))

-- no rest begins with a frame
pub rest-begins_none : (offset : ℕ) (rest : List ℕ) (behind : Course) (frame more : List ℕ)
    → RestLeadsTo offset rest behind → IsFrame frame → rest ≡ frame ++ more → ⊥
rest-begins_none offset [] behind frame more r f e = frame-filled frame more f e
rest-begins_none offset (octet ∷ rest) behind frame more (inl r) f e = r.0.0 (frame, more, f, e)
rest-begins_none offset (octet ∷ rest) behind frame more (inr r) f e = r.0 (opens (octet ∷ rest) (frame, more, f, e))

-- a rest leads to one course
rest-one : (offset : ℕ) (rest : List ℕ) (a b : Course) → RestLeadsTo offset rest a → RestLeadsTo offset rest b → a ≡ b
rest-one offset [] a b p q = p ∙ sym q
rest-one offset (octet ∷ rest) a b (inl p) (inl q) = p.1 ∙ sym q.1
rest-one offset (octet ∷ rest) a b (inl p) (inr q) = absurd (q.0 p.0.1)
rest-one offset (octet ∷ rest) a b (inr p) (inl q) = absurd (p.0 q.0.1)
rest-one offset (octet ∷ rest) a b (inr p) (inr q) = p.1 ∙ sym q.1

-- ---- courses

-- what was read of octets is one
pub received-one : (a b : Received) → IsReceived a → IsReceived b
    → a.octets ≡ b.octets → a ≡ b
received-one a b p q e =
    let read : a.request ≡ b.request =
    reading-one b.octets a.request b.request (subst (λ (h : List ℕ). IsReading h a.request) e p.1) q.1 in
    λ i. record { octets = e i; request = read i }

-- the same unit leads to the same course where what comes behind it is the same course
unit-one : (meeting : Meeting) (offset : ℕ) (more other c d : Course) (P Q : Progress → Type 0)
    → (IfSome (stands_at more) P → IfSome (stands_at other) Q
    → followed more (λ there. c) ≡ followed other (λ there. d))
    → IfSome (stands_at (leads_to meeting offset more)) P → IfSome (stands_at (leads_to meeting offset other)) Q
    → followed (leads_to meeting offset more) (λ there. c) ≡ followed (leads_to meeting offset other) (λ there. d)
unit-one at.bad offset more other c d P Q h p q = refl
unit-one (at.beyond request) offset more other c d P Q h p q = refl
unit-one (at.closing close) offset more other c d P Q h p q = refl
unit-one (at.due request) offset more other c d P Q h p q = ap (at.answers request) (h p q)

-- what octets lead to behind these units, where they are units and a rest and the session goes on by the rest where it
-- stands
course-one : (route : Route) (here : Progress) (us vs : List Received) (x y : List ℕ) (c d : Course)
    → AllByRecursion IsReceived us → AllByRecursion IsReceived vs
    → octets_of us ++ x ≡ octets_of vs ++ y
    → IfSome (stands_at (course route here us)) (λ there. RestLeadsTo there.at x c)
    → IfSome (stands_at (course route here vs)) (λ there. RestLeadsTo there.at y d)
    → followed (course route here us) (λ there. c) ≡ followed (course route here vs) (λ there. d)
course-one route here [] [] x y c d a b e p q = rest-one here.at y c d
    (subst (λ (h : List ℕ). RestLeadsTo here.at h c) e p) q
course-one route here [] (v ∷ vs) x y c d a b e p q =
    absurd (rest-begins_none here.at x c v.octets (octets_of vs ++ y) p b.0.0
    (e ∙ append_assoc v.octets (octets_of vs) y))
course-one route here (u ∷ us) [] x y c d a b e p q =
    absurd (rest-begins_none here.at y d u.octets (octets_of us ++ x) q a.0.0
    (sym e ∙ append_assoc u.octets (octets_of us) x))
course-one route here (u ∷ us) (v ∷ vs) x y c d a b e p q =
    let left : List ℕ = octets_of us ++ x in
    let other : List ℕ = octets_of vs ++ y in
    let both : u.octets ++ left ≡ v.octets ++ other = sym (append_assoc u.octets (octets_of us) x) ∙ e
    ∙ append_assoc v.octets (octets_of vs) y in
    let frame : u.octets ≡ v.octets = frame_begins_no_other u.octets v.octets left other a.0.0 b.0.0 both in
    let behind : left ≡ other = append_cancel_left v.octets left other (ap (λ h. h ++ left) (sym frame) ∙ both) in
    let same : u ≡ v = received-one u v a.0 b.0 frame in
    let q_at_u =
    subst (λ (w : Received). IfSome (stands_at (course route here (w ∷ vs))) (λ there. RestLeadsTo there.at y d))
    (sym same) q in
    unit-one (met route here u.request) here.at (course route (after route here u) us) (course route (after route here u) vs) c d
    (λ there. RestLeadsTo there.at x c) (λ there. RestLeadsTo there.at y d)
    (λ m n. course-one route (after route here u) us vs x y c d a.1 b.1 behind m n) p q_at_u
    ∙ ap (λ (w : Received). followed (course route here (w ∷ vs)) (λ there. d)) same

-- the octets that come where a session stands have one course
pub is_course-one : (route : Route) (here : Progress) (bytes : List ℕ) (c d : Course)
    → IsCourse route here bytes c → IsCourse route here bytes d → c ≡ d
is_course-one route here bytes c d p q =
    p.is ∙ course-one route here p.units q.units p.rest q.rest p.behind q.behind p.each q.each
    (sym p.spelled ∙ q.spelled) p.rested q.rested ∙ sym q.is

-- so does a connection of any kind
kind-one : (kind : Kind) → (route : Route) (bytes : List ℕ) (c d : Course)
    → IsCourseOf kind route bytes c → IsCourseOf kind route bytes d → c ≡ d
kind-one empty route bytes c d p q = p ∙ sym q
kind-one letter route bytes c d p q = p ∙ sym q
kind-one unit route bytes c d p q = is_course-one route at_the_start bytes c d p q

-- The octets of a connection have one course, whatever the targets and the marks.
pub connection-one : (route : Route) (bytes : List ℕ) (c d : Course)
    → IsConnection route bytes c → IsConnection route bytes d → c ≡ d
connection-one route bytes c d p q = kind-one (kind_of bytes) route bytes c d p q

some-one : (a b : End) → Some a ≡ Some b → a ≡ b
some-one a b h = cc

-- A connection ends in one way, whatever the targets and the marks.
pub ending-one : (route : Route) (bytes : List ℕ) (e f : End)
    → Ending route bytes e → Ending route bytes f → e ≡ f
ending-one route bytes e f p q =
    some-one e f (sym p.2 ∙ ap end_of (connection-one route bytes p.0 q.0 p.1 q.1) ∙ q.2)

-- The octets, twice answered, have the same end.
pub one-end : {V W : Type 0} (v : world.Ghosts V) (w : world.Ghosts W)
    → HasOneEnd v w
one-end v w route bytes ms ns o p e f a b =
    ending-one route bytes e f (a.answered.whole, a.answered.is_whole, a.ended)
    (b.answered.whole, b.answered.is_whole, b.ended)
