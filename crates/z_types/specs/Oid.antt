-- Object identifiers (X.660; X.690:2021, 8.19): 2 to 32 numbers below 2^32. The bound of 32 is
-- this project's own.
use Rattle.std.specs.Prelude.{ℕ, ◌^◌, List, [], ◌∷◌, length, nat_lt, nat_le, ◌==◌, Bool, false, ◌&&◌, ◌||◌}
use Rattle.std.specs.List.{list_all}
use Rattle.z_types.specs.Bounds.{most_arcs}

-- the first number is at most 2, and where it is 0 or 1 the second is below 40 (X.660, 7.6)
abbrev pub has_root : List ℕ → Bool
has_root [] = false
has_root (first ∷ []) = false
has_root (first ∷ second ∷ rest) = (first == 2) || (nat_lt first 2 && nat_lt second 40)

-- these numbers are an object identifier
abbrev pub is_oid : List ℕ → Bool
is_oid arcs =
    has_root arcs && (nat_le (length arcs) most_arcs && list_all (λ arc. nat_lt arc (2 ^ 32)) arcs)
