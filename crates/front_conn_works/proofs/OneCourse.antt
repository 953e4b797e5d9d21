-- Octets are units in one way, and where these have been answered a connection goes on.
use Rattle.std.proofs.Common.{◌≡◌, ◌<◌, ℕ, List, [], ◌∷◌, ◌++◌, length, Some, refl, sym, ap, ◌∙◌, subst, append_assoc, length-append, arith}
use Rattle.std.specs.Prelude.{IfSome}
use Rattle.std.specs.List.{AllByRecursion}
use Rattle.std.proofs.lemmas.List.{append_cancel_left}
use Rattle.z_ber.proofs.OneSplit.{frame_begins_no_other}
use Rattle.route_config.specs.declared.route.Route.{Route}
use Rattle.front_conn.specs.gateway_rules.Answers.{IsReceived, RestLeadsTo}
use Rattle.front_conn.specs.gateway_rules.Course as at
use Rattle.front_conn.specs.gateway_rules.Course.{Course, Meeting, Received, after, course, followed, leads_to, met, octets_of, stands_at}
use Rattle.front_conn.specs.gateway_rules.State.{Progress}
use Rattle.front_conn.proofs.gateway_rules.OneEnding.{extent-filled, received-one, rest-begins_none}

-- ---- units

-- two units that octets begin with are one, and so is what follows them
record AreOne (u v : Received) (left other : List ℕ) : Type 0 where
  unit : u ≡ v
  rest : left ≡ other

first-one : (u v : Received) (left other : List ℕ) → IsReceived u → IsReceived v → u.octets ++ left ≡ v.octets ++ other
    → AreOne u v left other
first-one u v left other p q e =
    let frame = frame_begins_no_other u.octets v.octets left other p.0 q.0 e in
    record {
      unit = received-one u v p q frame;
      rest = append_cancel_left v.octets left other (ap (λ h. h ++ left) (sym frame) ∙ e);
    }

-- the same, in front of other units
split-one : (u v : Received) (us vs : List Received) (x y : List ℕ) → IsReceived u → IsReceived v
    → octets_of (u ∷ us) ++ x ≡ octets_of (v ∷ vs) ++ y → AreOne u v (octets_of us ++ x) (octets_of vs ++ y)
split-one u v us vs x y p q e =
    first-one u v (octets_of us ++ x) (octets_of vs ++ y) p q
    (sym (append_assoc u.octets (octets_of us) x) ∙ e ∙ append_assoc v.octets (octets_of vs) y)

-- no unit is empty
unit-filled : (unit : Received) → IsReceived unit → 0 < length unit.octets
unit-filled unit p = extent-filled 63 unit.octets p.0.0.0 p.0.0.1 p.0.0.2

more-filled : (unit : Received) (units : List Received) (rest : List ℕ) → IsReceived unit → rest ≡ octets_of (unit ∷ units) ++ rest → ⊥
more-filled unit units rest p e = omega (
  arith,
  ap length e,
  length-append (octets_of (unit ∷ units)) rest,
  length-append unit.octets (octets_of units),
  unit-filled unit p,
)

-- octets in front of the same rest are units in one way
pub units-one : (us vs : List Received) (rest : List ℕ) → AllByRecursion IsReceived us → AllByRecursion IsReceived vs
    → octets_of us ++ rest ≡ octets_of vs ++ rest → us ≡ vs
units-one [] [] rest p q e = refl
units-one [] (v ∷ vs) rest p q e = absurd (more-filled v vs rest q.0 e)
units-one (u ∷ us) [] rest p q e = absurd (more-filled u us rest p.0 (sym e))
units-one (u ∷ us) (v ∷ vs) rest p q e =
    let one = split-one u v us vs rest rest p.0 q.0 e in
    let behind = units-one us vs rest p.1 q.1 one.rest in
    λ i. one.unit i ∷ behind i

-- units that were taken, in front of units that were taken later and the same rest
pub record IsFront (us vs : List Received) (taken rest : List ℕ) : Type 0 where
  pub more : List Received
  pub is : vs ≡ us ++ more
  pub each : AllByRecursion IsReceived more
  pub spelled : taken ++ rest ≡ octets_of more ++ rest

longer : (unit : Received) (units : List Received) (taken rest : List ℕ) → IsReceived unit
    → octets_of (unit ∷ units) ++ (taken ++ rest) ≡ rest → ⊥
longer unit units taken rest p e = omega (
  arith,
  ap length e,
  length-append (octets_of (unit ∷ units)) (taken ++ rest),
  length-append unit.octets (octets_of units),
  length-append taken rest,
  unit-filled unit p,
)

pub front-of : (us vs : List Received) (taken rest : List ℕ) → AllByRecursion IsReceived us → AllByRecursion IsReceived vs
    → octets_of us ++ (taken ++ rest) ≡ octets_of vs ++ rest → IsFront us vs taken rest
front-of [] vs taken rest p q e = record { more = vs; is = refl; each = q; spelled = e }
front-of (u ∷ us) [] taken rest p q e = absurd (longer u us taken rest p.0 e)
front-of (u ∷ us) (v ∷ vs) taken rest p q e =
    let one = split-one u v us vs (taken ++ rest) rest p.0 q.0 e in
    let front = front-of us vs taken rest p.1 q.1 one.rest in
    record { more = front.more; is = λ i. sym one.unit i ∷ front.is i; each = front.each; spelled = front.spelled }

-- ---- a course

-- a course that goes on from where another stands
pub record GoesOnBy (whole first : Course) : Type 0 where
  pub behind : Course
  pub is : whole ≡ followed first (λ there. behind)

-- a unit that a course stands behind is due
one-more : (meeting : Meeting) (offset : ℕ) (more other d : Course) (there : Progress) (P : Progress → Type 0)
    → (stands_at more ≡ Some there → IfSome (stands_at other) P → GoesOnBy (followed other (λ place. d)) more)
    → stands_at (leads_to meeting offset more) ≡ Some there → IfSome (stands_at (leads_to meeting offset other)) P
    → GoesOnBy (followed (leads_to meeting offset other) (λ place. d)) (leads_to meeting offset more)
one-more at.bad offset more other d there P h stands rested = absurd cc
one-more (at.beyond asks) offset more other d there P h stands rested = absurd cc
one-more (at.closing close) offset more other d there P h stands rested = absurd cc
one-more (at.due asks) offset more other d there P h stands rested =
    let on = h stands rested in record { behind = on.behind; is = ap (at.answers asks) on.is }

-- where units were taken and the session stands, the course of octets that begin with them goes on from there
pub goes-on-by : (route : Route) (here there : Progress) (us vs : List Received) (x y : List ℕ) (d : Course)
    → AllByRecursion IsReceived us → AllByRecursion IsReceived vs → octets_of us ++ x ≡ octets_of vs ++ y
    → stands_at (course route here us) ≡ Some there
    → IfSome (stands_at (course route here vs)) (λ place. RestLeadsTo place.at y d)
    → GoesOnBy (followed (course route here vs) (λ place. d)) (course route here us)
goes-on-by route here there [] vs x y d p q e stands rested = record { behind = followed (course route here vs) (λ place. d); is = refl }
goes-on-by route here there (u ∷ us) [] x y d p q e stands rested =
    absurd (rest-begins_none here.at y d u.octets (octets_of us ++ x) rested p.0.0
    (sym e ∙ append_assoc u.octets (octets_of us) x))
goes-on-by route here there (u ∷ us) (v ∷ vs) x y d p q e stands rested =
    let one = split-one u v us vs x y p.0 q.0 e in
    let rested_at_u = subst (λ (unit : Received). IfSome (stands_at (course route here (unit ∷ vs))) (λ place. RestLeadsTo place.at y d))
    (sym one.unit) rested in
    subst (λ (unit : Received). GoesOnBy (followed (course route here (unit ∷ vs)) (λ place. d)) (course route here (u ∷ us))) one.unit
    (one-more (met route here u.request) here.at (course route (after route here u) us) (course route (after route here u) vs) d there
    (λ place. RestLeadsTo place.at y d) (λ more last. goes-on-by route (after route here u) there us vs x y d p.1 q.1 one.rest more last)
    stands rested_at_u)
