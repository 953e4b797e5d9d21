-- what events do, one more behind others
use Rattle.std.proofs.Common.{◌≡◌, ℕ, ◌+◌, Bool, List, [], ◌∷◌, ◌++◌, refl, subst, arith}
use Rattle.std.specs.List.{flat_map}
use Rattle.z_types.specs.declared.sitting.Sitting as sitting
use Rattle.z_types.specs.declared.world.World as world
use Rattle.route_config.specs.declared.route.Route.{Route}
use Rattle.script.specs.declared.event.Event.{Event}
use Rattle.script.specs.Events.{seconds_of}
use Rattle.replay.specs.Trace.{ArePlayed, IsPlayed, Playing, closing, moment_behind}

-- the moment behind one event more
pub moment-more : (events : List Event) (event : Event) → moment_behind (events ++ event ∷ []) ≡ moment_behind events + seconds_of event
moment-more [] event =
    let one : moment_behind (event ∷ []) ≡ seconds_of event + 0 = refl in
    let none : moment_behind [] ≡ 0 = refl in omega (arith, one, none)
moment-more (first ∷ events) event =
    let rest = moment-more events event in
    let here : moment_behind (first ∷ events) ≡ seconds_of first + moment_behind events = refl in
    let all : moment_behind (first ∷ (events ++ event ∷ [])) ≡ seconds_of first + moment_behind (events ++ event ∷ []) = refl in
    omega (arith, rest, here, all)

-- closing takes no time
pub moment-closing : (clients : List ℕ) → moment_behind (flat_map closing clients) ≡ 0
moment-closing [] = refl
moment-closing (client ∷ clients) =
    let here : moment_behind (flat_map closing (client ∷ clients)) ≡ 0 + (0 + moment_behind (flat_map closing clients)) = refl in
    let rest = moment-closing clients in omega (arith, here, rest)

module _ {W S : Type 0} (w : world.Ghosts W) (t : sitting.Ghosts S W) (exact : Bool) (route : Route) where
  played_at : (event : Event) (now other : ℕ) (old new : Playing S) → other ≡ now → IsPlayed w t exact route event other old new
      → IsPlayed w t exact route event now old new
  played_at event now other old new e h = subst (λ (n : ℕ). IsPlayed w t exact route event n old new) e h

  -- one event more is played
  pub played-more : (events : List Event) (event : Event) (now : ℕ) (old mid new : Playing S) → ArePlayed w t exact route events now old mid
      → IsPlayed w t exact route event (now + moment_behind events) mid new → ArePlayed w t exact route (events ++ event ∷ []) now old new
  played-more [] event now old mid new h p = (
    new,
    played_at event now (now + 0) old new (omega arith) (subst (λ (start : Playing S). IsPlayed w t exact route event (now + 0) start new) h p),
    refl,
  )
  played-more (first ∷ events) event now old mid new h p =
      let here : moment_behind (first ∷ events) ≡ seconds_of first + moment_behind events = refl in
      let same : now + moment_behind (first ∷ events) ≡ now + seconds_of first + moment_behind events = omega (arith, here) in (
        h.0,
        h.1,
        played-more events event (now + seconds_of first) h.0 mid new h.2
            (played_at event (now + seconds_of first + moment_behind events) (now + moment_behind (first ∷ events)) mid new same p),
      )
