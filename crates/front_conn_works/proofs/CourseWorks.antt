-- The works of a course that goes on, of a run that stands, and of one that is over.
use Rattle.std.proofs.Common.{◌≡◌, List, [], ◌∷◌, ◌++◌, Some, refl, sym, ap, ◌∙◌, append_assoc}
use Rattle.z_types.specs.declared.world.World as world
use Rattle.route_config.specs.declared.route.Route.{Route}
use Rattle.front_conn.specs.gateway_rules.Course as at
use Rattle.front_conn.specs.gateway_rules.Course.{Course, Received, course, followed, stands_at}
use Rattle.front_conn.specs.gateway_rules.Marks.{Cause}
use Rattle.front_conn.specs.gateway_rules.Session as session
use Rattle.front_conn.specs.gateway_rules.Session.{IsServed, answered, run}
use Rattle.front_conn.specs.gateway_rules.State.{ClientState, Progress}
use Rattle.front_conn.proofs.gateway_rules.Composition.{course-append}
use Rattle.front_conn_works.specs.Works.{work_of, works_of}

module _ {W : Type 0} (w : world.Ghosts W) (route : Route) where
  same-place : (here there : Progress) → session.standing here ≡ session.standing there → here ≡ there
  same-place here there h = cc

  -- the works of a course that goes on from where its run stands, under more causes
  pub works-followed : (client : ClientState) (first : Course) (next : Progress → Course) (there : Progress) (causes more : List Cause)
      → (run w route client first causes).stop ≡ session.standing there → (run w route client first causes).left ≡ []
      → works_of w route client (followed first next) (causes ++ more)
      ≡ works_of w route client first causes ++ works_of w route (run w route client first causes).client (next there) more
  works-followed client (at.stands here) next there causes more stop left =
      ap (λ place. works_of w route client (next place) (causes ++ more)) (same-place here there stop)
      ∙ ap (λ front. works_of w route client (next there) (front ++ more)) left
  works-followed client (at.ends last end) next there causes more stop left = absurd cc
  works-followed client (at.answers asks behind) next there [] more stop left = absurd cc
  works-followed client (at.answers asks behind) next there (cause ∷ causes) more stop left =
      let here = (answered w route client asks cause).client in
      let rest = works-followed here behind next there causes more stop left in
      ap (λ works. work_of w route client asks ++ works) rest
      ∙ sym (append_assoc (work_of w route client asks) (works_of w route here behind causes)
      (works_of w route (run w route here behind causes).client (next there) more))

  -- so of units, and others that come where they stand
  pub works-append : (client : ClientState) (here there : Progress) (units others : List Received) (causes more : List Cause)
      → (run w route client (course route here units) causes).stop ≡ session.standing there
      → (run w route client (course route here units) causes).left ≡ []
      → works_of w route client (course route here (units ++ others)) (causes ++ more)
      ≡ works_of w route client (course route here units) causes
      ++ works_of w route (run w route client (course route here units) causes).client (course route there others) more
  works-append client here there units others causes more stop left =
      ap (λ whole. works_of w route client whole (causes ++ more)) (course-append route here units others)
      ∙ works-followed client (course route here units) (λ place. course route place others) there causes more stop left

  -- a course that wants no cause has no request left, and so no work
  pub works-served : (client : ClientState) (whole : Course) → IsServed (run w route client whole []).stop
      → works_of w route client whole [] ≡ []
  works-served client (at.stands here) served = refl
  works-served client (at.ends last end) served = refl
  works-served client (at.answers asks more) served = absurd served

-- ---- where a course stands, or is over

-- one that goes on stands where what follows does
pub stands-followed : (first : Course) (next : Progress → Course) (there : Progress) → stands_at first ≡ Some there
    → stands_at (followed first next) ≡ stands_at (next there)
stands-followed (at.stands here) next there stands = let same : here ≡ there = cc in ap (λ place. stands_at (next place)) same
stands-followed (at.ends last end) next there stands = absurd cc
stands-followed (at.answers asks more) next there stands = stands-followed more next there stands
