-- What is moved from the end of one list to the end of another
use Rattle.std.proofs.Common.{◌≡◌, List, [], ◌∷◌, ◌++◌, map, reverse, append_assoc, refl}
use Rattle.std.proofs.lemmas.List.{map-append, reverse-append}

module _ {X Y : Type 0} (w : X → Y) where
  -- the last of one list is moved to the end of the other, which stands reversed
  pub moved_over : (ws ws' : List Y) (js js' : List X) (j : X) → ws ≡ ws' ++ w j ∷ [] → js' ≡ js ++ j ∷ [] → ws' ++ reverse (map w js') ≡ ws ++ reverse (map w js)
  moved_over ws ws' js js' j a b =
      rw (a, b, map-append w js (j ∷ []), reverse-append (map w js) (w j ∷ []), append_assoc ws' (w j ∷ []) (reverse (map w js))) refl
