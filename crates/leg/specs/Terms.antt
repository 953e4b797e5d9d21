-- What a route says of a leg, and for which login it goes there (this project's own)
use Rattle.std.specs.Prelude.{ℕ, List, [], Option, slice_get}
use Rattle.std.specs.Option.{option_map_or}
use Rattle.z_types.specs.Logins.{inside, all_inside}
use Rattle.z_types.specs.declared.address.Address.{Address}
use Rattle.route_config.specs.declared.route.Route.{Route}
use Rattle.route_config.specs.declared.route.PoolNumbers.{PoolNumbers}
use Rattle.pool_sets.specs.Plain.{address_at}
use Rattle.leg.specs.declared.terms.LentTerms.{LentTerms}

-- the class that a leg goes to, the login that it goes there for, the addresses of the class's
-- members, the databases that it is there, and the numbers of the pool
pub record Terms : Type 0 where
  pub class : ℕ
  pub login : Option (List ℕ)
  pub at : List Address
  pub dbs : List (List ℕ)
  pub pool : PoolNumbers

-- the addresses of the members, inside the login
abbrev pub sites : Terms → List Address
sites terms = all_inside terms.login terms.at

-- the address that is opened for the member at a place: its own, inside the login
abbrev pub opened_at : Terms → ℕ → Address
opened_at terms member = inside terms.login (address_at terms.at member)

-- the class of the leg at a place; where there is no leg, what is said of it means nothing
abbrev pub class_of : Route → ℕ → ℕ
class_of route leg = option_map_or (λ l. l.class) (slice_get route.legs leg) 0

abbrev pub databases_of : Route → ℕ → List (List ℕ)
databases_of route leg = option_map_or (λ l. l.databases) (slice_get route.legs leg) []

abbrev pub members_of : Route → ℕ → List Address
members_of route class = option_map_or (λ c. c.addresses) (slice_get route.classes class) []

-- what the route says of the leg at a place, for a login
abbrev pub terms_of : Route → Option (List ℕ) → ℕ → Terms
terms_of route login leg = record {
  class = class_of route leg;
  login = login;
  at = members_of route (class_of route leg);
  dbs = databases_of route leg;
  pool = route.pool;
}

-- the same, lent
abbrev pub lent_terms : LentTerms → Terms
lent_terms lent =
    record {
      class = lent.class;
      login = lent.login.now;
      at = lent.at.now;
      dbs = lent.dbs.now;
      pool = lent.pool;
    }
