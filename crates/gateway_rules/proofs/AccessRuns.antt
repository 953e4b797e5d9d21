-- Whatever units a connection sends, the targets are asked only of databases that the route opens to the client.
use Rattle.std.proofs.Common.{◌≡◌, ◌||◌, Bool, true, false, cond, not, List, [], ◌∷◌, Option, Some, None, refl, sym, ap, ◌∙◌}
use Rattle.z_types.specs.declared.requests.Request.{Request}
use Rattle.z_types.specs.declared.requests.Request.TheVariants as request
use Rattle.z_types.specs.declared.world.World as world
use Rattle.route_config.specs.declared.route.Route.{Route}
use Rattle.limit_rules.specs.Limits.{are_units_spent}
use Rattle.gateway_rules.specs.Access.{HasOpenSets, ComesFirst, CourseAsksOpen, CoursesAskOpen}
use Rattle.gateway_rules.specs.Course.{Meeting, Received, bad, beyond, closing, due, met, met_in_place, is_in_place, after, accepts, course, leads_to}
use Rattle.gateway_rules.specs.Marks.{Cause, plain}
use Rattle.gateway_rules.specs.Session.{answered}
use Rattle.gateway_rules.specs.State.{ClientState, Progress, at_the_start, new_client}
use Rattle.gateway_rules.proofs.AccessLemmas.{access-kept}

or-false : (a b : Bool) → (a || b) ≡ false → a ≡ false
or-false true b h = absurd cc
or-false false b h = refl

not-true : (a : Bool) → not a ≡ true → a ≡ false
not-true true h = absurd cc
not-true false h = refl

-- a request that is due was read, and is in its place
placed-due : (spent placed : Bool) (read asks : Request)
    → (cond spent (beyond read) (cond placed (met_in_place read) bad)) ≡ due asks → (placed ≡ true) × (read ≡ asks)
placed-due true placed read asks h = absurd cc
placed-due false false read asks h = absurd cc
placed-due false true (request.Close close) asks h = absurd cc
placed-due false true (request.Init init) asks h = (refl, cc)
placed-due false true (request.Search search) asks h = (refl, cc)
placed-due false true (request.Present present) asks h = (refl, cc)
placed-due false true (request.Scan scan) asks h = (refl, cc)

module _ (route : Route) where
  in-place : (here : Progress) (read : Option Request) (asks : Request) → met route here read ≡ due asks → is_in_place here asks ≡ true
  in-place here None asks h = absurd cc
  in-place here (Some read) asks h =
      let both = placed-due (are_units_spent route.limits here.units) (is_in_place here read) read asks h in
      ap (is_in_place here) (sym both.1) ∙ both.0

  -- before an Init was accepted there are no sets
  abbrev HasNoneBefore : Progress → ClientState → Type 0
  HasNoneBefore here client = here.accepted ≡ false → client.sets ≡ []

  first-for : (here : Progress) (client : ClientState) (asks : Request) → is_in_place here asks ≡ true → HasNoneBefore here client → ComesFirst client asks
  first-for here client (request.Init init) placed none = none (not-true here.accepted placed)
  first-for here client (request.Search search) placed none = tt
  first-for here client (request.Present present) placed none = tt
  first-for here client (request.Scan scan) placed none = tt
  first-for here client (request.Close close) placed none = tt

  module _ {W : Type 0} (w : world.Ghosts W) where
    still-none : (here : Progress) (client : ClientState) (asks : Request) (cause : Cause) → is_in_place here asks ≡ true → here.accepted ≡ false
        → client.sets ≡ [] → (answered w route client asks cause).client.sets ≡ []
    still-none here client (request.Init init) cause placed off none = none
    still-none here client (request.Search search) cause placed off none = absurd cc
    still-none here client (request.Present present) cause placed off none = absurd cc
    still-none here client (request.Scan scan) cause placed off none = absurd cc
    still-none here client (request.Close close) cause placed off none = absurd cc

    units-open : (units : List Received) (here : Progress) (client : ClientState) (causes : List Cause) → HasOpenSets route client → HasNoneBefore here client
        → CourseAsksOpen w route client (course route here units) causes
    units-open [] here client causes opens none = tt
    units-open (unit ∷ units) here client causes opens none =
        by (λ behind others opened none_behind. units-open units (after route here unit) behind others opened none_behind) (met route here unit.request) refl causes
      where
        by : ((behind : ClientState) (others : List Cause) → HasOpenSets route behind → HasNoneBefore (after route here unit) behind
            → CourseAsksOpen w route behind (course route (after route here unit) units) others)
            → (meeting : Meeting) → met route here unit.request ≡ meeting → (left : List Cause)
            → CourseAsksOpen w route client (leads_to meeting here.at (course route (after route here unit) units)) left
        by more bad is left = tt
        by more (beyond asks) is left = tt
        by more (closing close) is [] = tt
        by more (closing close) is (cause ∷ left) = (tt, tt)
        by more (due asks) is [] =
            (access-kept w route client asks plain opens (first-for here client asks (in-place here unit.request asks is) none)).0
        by more (due asks) is (cause ∷ left) =
            let placed = in-place here unit.request asks is in
            let kept = access-kept w route client asks cause opens (first-for here client asks placed none) in (
              kept.0,
              more (answered w route client asks cause).client left kept.1
                  (λ off. let before = or-false here.accepted (accepts route unit.request) off in still-none here client asks cause placed before (none before)),
            )

pub courses-open : {W : Type 0} (w : world.Ghosts W) → CoursesAskOpen w
courses-open w route units causes = units-open route w units at_the_start new_client causes tt (λ off. refl)
