-- What the targets mean to who asks under a login (this project's own): each address means what it
-- means inside that login
use Rattle.std.specs.Prelude.{ℕ, List, Option, None, Some}
use Rattle.z_types.specs.Logins.{inside}
use Rattle.z_types.specs.World.{InnerIsTold}
use Rattle.z_types.specs.declared.address.Site.TheVariants as site
use Rattle.z_types.specs.declared.address.Address.{Address}
use Rattle.z_types.specs.declared.address.Address.TheVariants.{Test, Tcp, Login}
use Rattle.z_types.specs.declared.world.World as world

-- where an address is told inside a login, so is its inner one
pub told_inside : (told : Address → Type 0) → InnerIsTold told → (login : Option (List ℕ))
    → InnerIsTold (λ address. told (inside login address))
told_inside told inner_is_told None address h = inner_is_told address h
told_inside told inner_is_told (Some login) (Test number) h = h
told_inside told inner_is_told (Some login) (Tcp host port) h = h
told_inside told inner_is_told (Some login) (Login (site.Test number) own) h = h
told_inside told inner_is_told (Some login) (Login (site.Tcp host port) own) h = h

-- the same world, each address inside the login; where there is none, as it is
abbrev pub under : {W : Type 0} → Option (List ℕ) → world.Ghosts W → world.Ghosts W
under login w = record {
  told = λ address. w.told (inside login address);
  inner_is_told = told_inside w.told w.inner_is_told login;
  search = λ address key. w.search (inside login address) key;
  record_ = λ address key position syntax element.
      w.record_ (inside login address) key position syntax element;
  scan = λ address dbs ask. w.scan (inside login address) dbs ask;
  hits_are_counts = λ address key. w.hits_are_counts (inside login address) key;
  whole_is_not_gone = λ address key position syntax element.
      w.whole_is_not_gone (inside login address) key position syntax element;
}
