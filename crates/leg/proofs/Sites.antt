-- Addresses of members inside a login
use Rattle.std.proofs.Common.{◌≡◌, ◌∙◌, ◌<◌, ℕ, List, length, Contains, get_or, Option, sym, arith}
use Rattle.std.proofs.lemmas.List.{get_or-map, length-map}
use Rattle.std.proofs.lemmas.List.Elements.{Contains-get_or}
use Rattle.z_types.specs.Logins.{inside, all_inside}
use Rattle.z_types.specs.declared.address.Address.{Address}
use Rattle.z_types.specs.declared.address.Address.TheVariants.{Test}

-- an address is that of a member inside the login
pub record IsInside (login : Option (List ℕ)) (at : List Address) (address : Address) : Type 0 where
  pub own : Address
  pub member : Contains at own
  pub is : address ≡ inside login own

pub inside_of : (login : Option (List ℕ)) (at : List Address) (address : Address) → Contains (all_inside login at) address
    → IsInside login at address
inside_of login at address (i, within, is) =
    let there : i < length at = omega (arith, within, length-map at (inside login)) in
    record {
      own = get_or at i (Test 0);
      member = Contains-get_or at i (Test 0) there;
      is = sym is ∙ get_or-map (inside login) at i (Test 0) address there;
    }
