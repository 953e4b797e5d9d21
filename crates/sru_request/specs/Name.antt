-- The name that a path of one segment has (RFC 3986, 3.3 and 2.1)
use Rattle.std.specs.Prelude.{ℕ, ◌==◌, List, [], ◌∷◌, Option, None, Some, if◌then◌else◌}
use Rattle.std.specs.List.{list_any}
use Rattle.std.specs.Option.{option_map}
use Rattle.percent_encoding.specs.Percent.{percent_decode}

-- what stands behind the first octet, where that is `/` and there is no other
abbrev pub segment_of : List ℕ → Option (List ℕ)
segment_of [] = None
segment_of (first ∷ rest) =
    if first == 47 then (if list_any (λ octet. octet == 47) rest then None else Some rest) else None

-- percent-decoded
abbrev pub name_of : List ℕ → Option (List ℕ)
name_of path = option_map percent_decode (segment_of path)
