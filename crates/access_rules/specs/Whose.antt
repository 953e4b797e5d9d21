-- Whose a connection is (ANSI/NISO Z39.50-2003, 3.2.1.1.5, Id/authentication; the users are this
-- project's own)
use Rattle.std.specs.Prelude.{ℕ, ◌&&◌, Bool, true, false, List, [], ◌∷◌, Option, Some, None}
use Rattle.std.specs.List.{position}
use Rattle.z_types.specs.Same.{is_same}
use Rattle.route_config.specs.declared.route.Route.{Route}
use Rattle.route_config.specs.declared.route.User.{User}
use Rattle.access_rules.specs.declared.who.Who.{Who}
use Rattle.access_rules.specs.declared.who.Who.TheVariants as who
use Rattle.access_rules.specs.Credentials.{Credentials, says}

-- the user has this name and this password, octet by octet
abbrev pub is_user : Credentials → User → Bool
is_user said user = is_same user.name said.name && is_same user.password said.password

-- a user's place, or nobody's
abbrev pub user_at : Option ℕ → Who
user_at None = who.Refused
user_at (Some place) = who.User place

abbrev pub user_with : List User → Credentials → Who
user_with users said = user_at (position (is_user said) users)

-- a login that says nothing is nobody's
abbrev pub user_saying : List User → Option Credentials → Who
user_saying users None = who.Refused
user_saying users (Some said) = user_with users said

-- without users nobody has to log in
abbrev pub user_among : List User → List ℕ → Who
user_among [] login = who.Anonymous
user_among (user ∷ users) login = user_saying (user ∷ users) (says login)

-- whose a connection is, by the login of its Init, if any
abbrev pub user_of : Route → Option (List ℕ) → Who
user_of route None = who.Anonymous
user_of route (Some login) = user_among route.users login

-- a login was not refused
abbrev pub is_known : Who → Bool
is_known who.Refused = false
is_known client = true
