-- The members of a class: which addresses they are, and that those of a fair class are one target
use Rattle.std.proofs.Common.{◌≡◌, ◌∙◌, ℕ, ◌<◌, Bool, true, false, List, [], length, get_or, slice_get, All, Contains, Option, None, Some, refl, sym, ap, subst, arith}
use Rattle.std.specs.Prelude.{is_err}
use Rattle.std.specs.Option.{option_and_then, option_map_or}
use Rattle.std.proofs.lemmas.List.Elements.{All-get_or, Contains-get_or}
use Rattle.std.proofs.lemmas.List.Folds.{list_any_at}
use Rattle.std.proofs.lemmas.Map.Views.{Contains-from_any}
use Rattle.std.proofs.lemmas.Option.{get_or_from_slice_get, slice_get-get_or, slice_get_within}
use Rattle.z_types.specs.Logins.{all_inside, inner, inside, login_of, same_address, same_login}
use Rattle.z_types.specs.Under.{under}
use Rattle.z_types.specs.contracts.address.AddressEq.TheImpl.Laws as address_law
use Rattle.z_types.specs.declared.address.Site.TheVariants as at
use Rattle.z_types.specs.declared.address.Address.{Address}
use Rattle.z_types.specs.declared.address.Address.TheVariants.{Test, Tcp, Login}
use Rattle.z_types.specs.declared.key.SetKey.{SetKey}
use Rattle.z_types.specs.declared.world.World as world
use Rattle.z_types.specs.equality.Address.{address_exact}
use Rattle.z_types.proofs.LoginLemmas.{inner_inside, inside_own, login_exact}
use Rattle.gateway_rules.specs.Fair.{IsFair, IsFairClass}
use Rattle.route_config.specs.Sound.{IsAddress, IsSound}
use Rattle.route_config.specs.declared.route.Class.{Class}
use Rattle.route_config.specs.declared.route.Route.{Route}
use Rattle.pool_sets.specs.Plain.{address_at}
use Rattle.pool_sets.specs.Sessions.{is_among}
use Rattle.sharing_rules.specs.Sharers.{Sharers}
use Rattle.leg.specs.Terms.{members_of}
use Rattle.leg.proofs.Sites.{inside_of}
use Rattle.sharing_rules.proofs.SharerFacts.{login_equiv}
use Rattle.leg_shares.specs.steps.Pools.{IsOneTarget}

-- ---- addresses

-- what passes for one of the addresses is one
pub contains-among : (at : List Address) (address : Address) → is_among at address ≡ true → Contains at address
contains-among at address h = Contains-from_any {eq = λ one other. same_address other one} (λ one other e. sym (address_exact other one e)) address at h

-- the address at a place passes
pub member-among : (at : List Address) (member : ℕ) → member < length at → is_among at (address_at at member) ≡ true
member-among at member within =
    list_any_at (λ (one : Address). same_address one (address_at at member)) at member (Test 0) within (address_law.laws-law.refl (address_at at member))

-- what stands at a place is one of the items
at-place : {X : Type 0} (xs : List X) (i : ℕ) (x : X) → slice_get xs i ≡ Some x → Contains xs x
at-place xs i x h = subst (Contains xs) (get_or_from_slice_get xs i x x h) (Contains-get_or xs i x (slice_get_within xs i x h))

-- ---- a fair class

module _ {W : Type 0} (w : world.Ghosts W) (login : Option (List ℕ)) where
  abbrev members : Option Class → List Address
  members class = option_map_or (λ (c : Class). c.addresses) class []

  abbrev refused_at : Option Address → SetKey → Bool
  refused_at first key = option_map_or (λ (address : Address). is_err (w.search (inside login address) key)) first false

  refuse-as-first : (class : Class) (first : Option Address) (address : Address) (key : SetKey) → IsFairClass (under login w) class
      → slice_get class.addresses 0 ≡ first → Contains class.addresses address → is_err (w.search (inside login address) key) ≡ refused_at first key
  refuse-as-first class None address key fair at there =
      let within = there.1 in
      let one : slice_get class.addresses 0 ≡ Some (get_or class.addresses 0 address) = slice_get-get_or class.addresses 0 address (omega (arith, within)) in
      absurd cc
  refuse-as-first class (Some first) address key fair at there =
      ap is_err ((fair.same address first there (at-place class.addresses 0 first at)).search key)

  record AreOne (class : Option Class) : Type 0 where
    told : (address : Address) → Contains (members class) address → w.told (inside login address)
    refuse : (address : Address) (key : SetKey) → Contains (members class) address
        → is_err (w.search (inside login address) key) ≡ refused_at (option_and_then (λ (c : Class). slice_get c.addresses 0) class) key

  members-one : (class : Option Class) → ((c : Class) → class ≡ Some c → IsFairClass (under login w) c) → AreOne class
  members-one None fair = record {
    told = λ address there. (let within = there.1 in absurd (omega (arith, within)));
    refuse = λ address key there. (let within = there.1 in absurd (omega (arith, within)));
  }
  members-one (Some class) fair = record {
    told = λ address there. (fair class refl).told address there;
    refuse = λ address key there. refuse-as-first class (slice_get class.addresses 0) address key (fair class refl) refl there;
  }

pub fair-one : {W : Type 0} (w : world.Ghosts W) (route : Route) (who : Sharers) → IsFair w route → IsOneTarget w route who
fair-one w route who fair =
    let one = members-one w who.login (slice_get route.classes who.class)
    (λ (c : Class) e. fair who.login c (at-place route.classes who.class c e)) in
    record { told = one.told; refuse = one.refuse }

-- ---- the members of a route are by themselves

plain-address : (address : Address) → IsAddress address → inner address ≡ address
plain-address (Test number) is = refl
plain-address (Tcp host port) is = refl
plain-address (Login site login) is = absurd is

plain-in : (found : Option Class) → ((c : Class) → found ≡ Some c → All IsAddress c.addresses) → (member : ℕ)
    → member < length (option_map_or (λ (c : Class). c.addresses) found [])
    → inner (address_at (option_map_or (λ (c : Class). c.addresses) found []) member) ≡ address_at (option_map_or (λ (c : Class). c.addresses) found []) member
plain-in None all member within = absurd (omega (arith, within))
plain-in (Some class) all member within =
    plain-address (address_at class.addresses member) (All-get_or IsAddress class.addresses member (Test 0) within (all class refl))

all_at : {X : Type 0} (P : X → Type 0) (xs : List X) (i : ℕ) (x : X) → All P xs → slice_get xs i ≡ Some x → P x
all_at P xs i x all is = subst P (get_or_from_slice_get xs i x x is) (All-get_or P xs i x (slice_get_within xs i x is) all)

pub plain-member : (route : Route) (class member : ℕ) → IsSound route → member < length (members_of route class)
    → inner (address_at (members_of route class) member) ≡ address_at (members_of route class) member
plain-member route class member sound within =
    plain-in (slice_get route.classes class)
    (λ (c : Class) e. all_at (λ (c : Class). All IsAddress c.addresses) route.classes class c sound.items.classes e) member within

-- ---- an address inside a login

login-inside : (login : Option (List ℕ)) (address : Address) → inner address ≡ address → login_of (inside login address) ≡ login
login-inside None (Test number) e = refl
login-inside None (Tcp host port) e = refl
login-inside None (Login (at.Test number) own) e = cc
login-inside None (Login (at.Tcp host port) own) e = cc
login-inside (Some login) address e = refl

-- one of the members is opened at its own address, inside the login
pub opened-among : (route : Route) (who : Sharers) (member : ℕ) → IsSound route → member < length (members_of route who.class)
    → is_among (members_of route who.class) (inner (inside who.login (address_at (members_of route who.class) member))) ≡ true
opened-among route who member sound within =
    let at = members_of route who.class in
    let own = inner_inside who.login (address_at at member) ∙ plain-member route who.class member sound within in
    subst (λ (a : Address). is_among at a ≡ true) (sym own) (member-among at member within)

pub opened-inside : (route : Route) (who : Sharers) (member : ℕ) → IsSound route → member < length (members_of route who.class)
    → same_login who.login (login_of (inside who.login (address_at (members_of route who.class) member))) ≡ true
opened-inside route who member sound within =
    let place = address_at (members_of route who.class) member in
    let own = login-inside who.login place (plain-member route who.class member sound within) in
    subst (λ (l : Option (List ℕ)). same_login who.login l ≡ true) (sym own) (login_equiv.refl who.login)

-- one that is inside the login is its own inner address inside that
pub own-place : (login : Option (List ℕ)) (address : Address) → same_login login (login_of address) ≡ true → inside login (inner address) ≡ address
own-place login address h =
    subst (λ (l : Option (List ℕ)). inside l (inner address) ≡ address) (sym (login_exact login (login_of address) h)) (inside_own address)

-- one of some addresses inside a login is that of one of them
pub own-site : (login : Option (List ℕ)) (at : List Address) (address : Address) → Contains (all_inside login at) address
    → (own : Address) × (Contains at own × (inside login own ≡ address))
own-site login at address there = let of = inside_of login at address there in (of.own, (of.member, sym of.is))
