-- For contracts alone: what is asked of legs that are flown (this project's own)
use Rattle.std.specs.Prelude.{◌≡◌, List, length}
use Rattle.std.specs.List.{AllByRecursion}
use Rattle.z_types.specs.Numbers.{HasNumbers}
use Rattle.z_types.specs.declared.work.Work.{Work}
use Rattle.route_config.specs.declared.route.Route.{Route}
use Rattle.gateway_rules.specs.Works.{CanBegin, IsAskable}
use Rattle.package.specs.package_rules.Planned.{AreThere}
use Rattle.z_types.specs.declared.query.Attr.{Attr}

-- an attribute of one type and value
pub record IsOneAttribute (attrs : List Attr) : Type 0 where
  pub one : length attrs ≡ 1
  pub numbers : AllByRecursion HasNumbers attrs

-- a work that may be begun over the legs of a route
pub record MayBegin (route : Route) (work : Work) : Type 0 where
  pub there : AreThere route work
  pub can_begin : CanBegin work
  pub askable : IsAskable work
