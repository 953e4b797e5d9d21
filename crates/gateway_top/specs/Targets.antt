-- Test targets and others (this project's own)
use Rattle.std.specs.Prelude.{ℕ, Bool, true, false, not, List, Option, find, option_map}
use Rattle.z_types.specs.declared.address.Address.{Address}
use Rattle.z_types.specs.declared.address.Address.TheVariants.{Test, Tcp, Login}
use Rattle.route_config.specs.declared.route.Route.{Route}

-- a test target is asked directly
abbrev pub is_test : Address → Bool
is_test (Test number) = true
is_test (Tcp host port) = false
is_test (Login at login) = false

-- the name of the first target that is none
abbrev pub first_real : Route → Option (List ℕ)
first_real route =
    option_map (λ target. target.name) (find (λ target. not (is_test target.address)) route.targets)
