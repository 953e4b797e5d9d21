-- For contracts alone: how many items there are, and what addresses, in the values of a
-- configuration that is refused for nothing (this project's own)
use Rattle.std.specs.List.{AllByRecursion}
use Rattle.route_config.specs.Sound.{HasFrom, IsAddress}
use Rattle.route_text.specs.declared.values.Values.{Values}

pub record HasSizes (values : Values) : Type 0 where
  pub targets : HasFrom 1 64 values.targets
  pub addresses : AllByRecursion (λ target. IsAddress target.address) values.targets
  pub groups : AllByRecursion (λ group. HasFrom 1 16 group.targets) values.groups
  pub databases : HasFrom 1 64 values.databases
  pub legs : AllByRecursion (λ database. HasFrom 1 16 database.legs) values.databases
