-- What a request is due by the hits that are kept is what it is due by those that the targets mean.
use Rattle.std.proofs.Common.{◌≡◌, ℕ, Bool, true, false, List, [], ◌∷◌, Option, Some, refl, sym, ap, map}
use Rattle.std.specs.Prelude.{unwrap_or, option_map, find, cond}
use Rattle.std.specs.List.{AllByRecursion}
use Rattle.z_types.specs.Same.{is_same}
use Rattle.z_types.specs.declared.known_set.KnownSet.{KnownSet}
use Rattle.z_types.specs.declared.requests.Request.{Request}
use Rattle.z_types.specs.declared.requests.Request.TheVariants as request
use Rattle.z_types.specs.declared.world.World as world
use Rattle.z_types.specs.Under.{under}
use Rattle.z_sets.specs.Sets.{StoredSet, set_named, stored}
use Rattle.route_config.specs.declared.route.Route.{Route}
use Rattle.front_conn.specs.gateway_rules.Asking.{asked, asked_with, hits_meant, known_hits, present_due, unless_refused}
use Rattle.front_conn.specs.front_session.Admitting.{hits_named}
use Rattle.front_conn.specs.front_session.Sessions.{SessionState, client_of}
use Rattle.front_conn.specs.steps.States.{HasMeantHits, HaveMeantHits}

module _ {W : Type 0} (w : world.Ghosts W) (route : Route) where
  -- the set of a name is this one, or the one that is found behind it
  hits-at : (set : KnownSet) (b : Bool) (known : Option KnownSet) (named : Option StoredSet) → HasMeantHits w route set
      → unwrap_or (option_map (λ s. s.hits) known) [] ≡ hits_meant w route named
      → unwrap_or (option_map (λ s. s.hits) (cond b (Some set) known)) [] ≡ hits_meant w route (cond b (Some (stored set)) named)
  hits-at set true known named meant rest = sym (ap known_hits meant)
  hits-at set false known named meant rest = rest

  hits_named-meant : (sets : List KnownSet) (name : List ℕ) → AllByRecursion (HasMeantHits w route) sets
      → hits_named sets name ≡ hits_meant w route (set_named name (map stored sets))
  hits_named-meant [] name all = refl
  hits_named-meant (set ∷ sets) name all =
      hits-at set (is_same set.name name) (find (λ s. is_same s.name name) sets)
      (find (λ s. is_same s.name name) (map stored sets)) all.0 (hits_named-meant sets name all.1)

-- so a request is due the same
pub asked-meant : {W : Type 0} (w : world.Ghosts W) (route : Route) (session : SessionState) (asks : Request) → HaveMeantHits w route session
    → asked_with (hits_named session.sets) route (client_of session) asks ≡ asked w route (client_of session) asks
asked-meant w route session (request.Init init) sets = refl
asked-meant w route session (request.Search search) sets = refl
asked-meant w route session (request.Present present) sets =
    let set : Option StoredSet = set_named present.set_name (map stored session.sets) in
    ap (λ hits. unless_refused (request.Present present) (present_due route (client_of session) present set hits))
    (hits_named-meant (under session.agreed.login w) route session.sets present.set_name sets.each)
asked-meant w route session (request.Scan scan) sets = refl
asked-meant w route session (request.Close close) sets = refl
