-- What is agreed on at an Init (ANSI/NISO Z39.50-2003, 3.2.1.1.3 Version and 3.2.1.1.4 Options);
-- which of it is this project's own
use Rattle.std.specs.Prelude.{ℕ, ◌+◌, ◌^◌, ◌==◌, not, bit_and, Bool}

-- versions 1 to 3
abbrev pub own_versions : ℕ
own_versions = 2 ^ 0 + 2 ^ 1 + 2 ^ 2

-- bit 14 of the options: named result sets
abbrev pub named_result_sets : ℕ
named_result_sets = 2 ^ 14

-- search, present, scan and named result sets
abbrev pub own_options : ℕ
own_options = 2 ^ 0 + 2 ^ 1 + 2 ^ 7 + named_result_sets

-- whether the options have named result sets
abbrev pub has_named_result_sets : ℕ → Bool
has_named_result_sets options = not (bit_and options named_result_sets == 0)
