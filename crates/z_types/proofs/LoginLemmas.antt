-- Addresses inside logins
use Rattle.std.proofs.Common.{◌≡◌, ◌∙◌, ℕ, ◌<◌, true, List, map, length, get_or, refl, sym, ap, subst, Option, None, Some, Contains}
use Rattle.std.proofs.lemmas.List.{get_or-map, length-map}
use Rattle.z_types.specs.equality.Tests.{options_exact, text_exact}
use Rattle.z_types.specs.Logins.{same_login, inner, inside, login_of, all_inside}
use Rattle.z_types.specs.Members.{IsMember}
use Rattle.z_types.specs.declared.address.Site.TheVariants as site
use Rattle.z_types.specs.declared.address.Address.{Address}
use Rattle.z_types.specs.declared.address.Address.TheVariants.{Test, Tcp, Login}

-- logins that pass the test are one
pub login_exact : (a b : Option (List ℕ)) → same_login a b ≡ true → a ≡ b
login_exact a b h = options_exact text_exact a b h

-- an address is its own target's, inside its own login
pub inside_own : (a : Address) → inside (login_of a) (inner a) ≡ a
inside_own (Test n) = refl
inside_own (Tcp host port) = refl
inside_own (Login (site.Test n) login) = refl
inside_own (Login (site.Tcp host port) login) = refl

-- an address inside a login is that target's
pub inner_inside : (login : Option (List ℕ)) (a : Address) → inner (inside login a) ≡ inner a
inner_inside None a = refl
inner_inside (Some l) (Test n) = refl
inner_inside (Some l) (Tcp host port) = refl
inner_inside (Some l) (Login s own) = refl

-- a target's own address is inner
pub short_is_inner : (a : Address) → IsMember a → inner a ≡ a
short_is_inner (Test n) h = refl
short_is_inner (Tcp host port) h = refl
short_is_inner (Login s own) h = absurd h

-- and inside a login it is inside that
pub login_inside : (login : Option (List ℕ)) (a : Address) → IsMember a → login_of (inside login a) ≡ login
login_inside None (Test n) h = refl
login_inside None (Tcp host port) h = refl
login_inside (Some l) (Test n) h = refl
login_inside (Some l) (Tcp host port) h = refl
login_inside login (Login s own) h = absurd h

-- one of some addresses is one of them inside a login
pub inside_contains : (login : Option (List ℕ)) (at : List Address) (a : Address) → Contains at a → Contains (all_inside login at) (inside login a)
inside_contains login at a c =
    (c.0, subst (λ n. c.0 < n) (sym (length-map at (inside login))) c.1, get_or-map (inside login) at c.0 a (inside login a) c.1 ∙ ap (inside login) c.2)

-- an address inside a login whose target is one of some is one of them inside it
pub own_contains : (login : Option (List ℕ)) (at : List Address) (a : Address) → Contains at (inner a) → login ≡ login_of a → Contains (all_inside login at) a
own_contains login at a c e =
    subst (Contains (all_inside login at)) (ap (λ l. inside l (inner a)) e ∙ inside_own a) (inside_contains login at (inner a) c)
