-- Legs that are begun
use Rattle.std.proofs.Common.{◌≡◌, ◌<◌, ℕ, List, [], ◌∷◌, length, map, All, ap, refl, arith}
use Rattle.std.proofs.lemmas.List.Elements.{All-map, All-nil, All-weaker}
use Rattle.z_types.specs.declared.sitting.Sitting as sitting
use Rattle.z_types.specs.declared.work.Work.{Work}
use Rattle.z_types.specs.declared.world.World as world
use Rattle.route_config.specs.declared.route.Route.{Route}
use Rattle.gateway_rules.specs.Works.{CanBegin, IsAskable}
use Rattle.leg.specs.Turns.{IsLegOf}
use Rattle.package_rules.specs.declared.answered.Answered.{Answered}
use Rattle.package_rules.specs.Asked.{Asked, first_asked}
use Rattle.package_rules.specs.Planned.{AreThere, then_asked_by}
use Rattle.package_rules.proofs.LegsAsked.{first_of, later_of}
use Rattle.package_rules.proofs.LegsAsked.{IsLegOf as IsNamed}
use Rattle.package.specs.steps.Packages.{IsPackageOf, asked_of, begun, new_package}

pub asked-begun : (S : Type 0) (asked : List Asked) → map (asked_of {S = S}) (map begun asked) ≡ asked
asked-begun S [] = refl
asked-begun S (ask ∷ asked) = ap (λ (others : List Asked). ask ∷ others) (asked-begun S asked)

module _ {W S : Type 0} (w : world.Ghosts W) (t : sitting.Ghosts S W) (route : Route) (most : ℕ) where
  -- a leg that is begun is one of the route
  is_begun : (ask : Asked) → ask.leg < length route.legs → IsLegOf w t route most (begun ask)
  is_begun ask there = record {
    place = there;
    stands = record { gones = refl; looks = refl };
    within = record { gones = omega arith; looks = omega arith };
  }

  are_begun : (work : Work) (asked : List Asked) → All (λ (ask : Asked). IsNamed route work ask.leg) asked
      → All (IsLegOf w t route most) (map begun asked)
  are_begun work asked named =
      All-map (IsLegOf w t route most) begun asked
      (All-weaker (λ (ask : Asked). IsNamed route work ask.leg) (λ (ask : Asked). IsLegOf w t route most (begun ask))
      (λ ask is. is_begun ask is.there) asked named)

  -- so are those for what a work asks first, and for what it asks then
  pub first_begun : (work : Work) → AreThere route work → All (IsLegOf w t route most) (map begun (first_asked route work))
  first_begun work there = are_begun work (first_asked route work) (first_of route work there)

  pub later_begun : (work : Work) (first : List Answered) → AreThere route work
      → All (IsLegOf w t route most) (map begun (then_asked_by route work first))
  later_begun work first there = are_begun work (then_asked_by route work first) (later_of route work first there)

  -- a package that is begun is one of the route
  pub new_is : (work : Work) → AreThere route work → CanBegin work → IsAskable work → IsPackageOf w t route most (new_package route work)
  new_is work there can askable = record {
    asks = record {
      there = there;
      can_begin = can;
      askable = askable;
      at_first = asked-begun S (first_asked route work);
      then = refl;
    };
    first = first_begun work there;
    later = All-nil (IsLegOf w t route most);
  }
