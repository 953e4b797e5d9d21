-- The configuration of a command: its route, or why it is refused (this project's own)
use Rattle.std.specs.Prelude.{◌≡◌, ◌⊎◌, ℕ, ◌<◌, ◌≤◌, List, length, IfSome, Ok, Err, codes}
use Rattle.route_config.specs.declared.route.Route.{Route}
use Rattle.route_text.specs.Configuration.{configuration}
use Rattle.route_text.specs.declared.fault.RouteFault.{RouteFault}
use Rattle.route_text.specs.declared.fault.RouteFault.TheVariants.{TooMany}
use Rattle.gateway_config.specs.Lines.{config_line, Says}
use Rattle.gateway_config.specs.Outside.{FileReads, SinkWrites}

-- the most octets of a configuration
abbrev pub config_limit : ℕ
config_limit = 262144

-- octets are the configuration of this route
abbrev pub IsConfigurationOf : Route → List ℕ → Type 0
IsConfigurationOf route text = (length text ≤ config_limit) × (configuration text ≡ Ok route)

-- octets are no configuration, for this reason; too many of them are told as one more than may be
abbrev pub IsRefusedFor : RouteFault → List ℕ → Type 0
IsRefusedFor fault text =
    ((config_limit < length text) × (fault ≡ TooMany (codes "bytes") 262145))
    ⊎ ((length text ≤ config_limit) × (configuration text ≡ Err fault))

-- the file of this name is the configuration of this route, where it is told
abbrev pub IsTaken : List ℕ → FileReads → Route → Type 0
IsTaken config reads route = IfSome (reads.contents config) (IsConfigurationOf route)

-- the file of this name is no configuration, where it is told
abbrev pub IsNotTaken : List ℕ → FileReads → RouteFault → Type 0
IsNotTaken config reads fault = IfSome (reads.contents config) (IsRefusedFor fault)

-- the file of this name is refused, and the line says why
abbrev pub IsRefusedConfig : List ℕ → FileReads → SinkWrites → Type 0
IsRefusedConfig config reads writes =
    (fault : RouteFault) × IsNotTaken config reads fault × Says writes (config_line fault)
