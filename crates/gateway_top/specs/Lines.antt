-- The lines of checks and replays (this project's own)
use Rattle.std.specs.Prelude.{ℕ, List, ◌++◌, length, codes}
use Rattle.std.specs.Fmt.{decimal}
use Rattle.route_config.specs.declared.route.Route.{Route}
use Rattle.gateway_config.specs.Lines.{line_of}

-- a configuration is good
abbrev pub check_line : Route → List ℕ
check_line route =
    line_of (
    codes "ok databases " ++ decimal (length route.databases)
    ++ codes " classes " ++ decimal (length route.classes)
    )

-- a replay asks test targets alone
abbrev pub real_target_line : List ℕ → List ℕ
real_target_line name = line_of (codes "real target " ++ name)

-- a script is refused at a line
abbrev pub script_line : ℕ → List ℕ
script_line number = line_of (codes "script line " ++ decimal number)
