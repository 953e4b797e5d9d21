-- What is made to happen to the links with test targets (this project's own)
use Rattle.std.specs.Prelude.{◌≡◌, ◌≢◌, ℕ, ◌-◌, ◌≤◌, nat_lt, nat_le, Bool, true, List, [], Option, None, Some, if◌then◌else◌}
use Rattle.z_types.specs.declared.address.Address.{Address}
use Rattle.z_types.specs.declared.address.Address.TheVariants.{Test, Tcp, Login}
use Rattle.z_types.specs.declared.address.Site.{Site}
use Rattle.z_types.specs.declared.address.Site.TheVariants as site
use Rattle.z_types.specs.declared.requests.Request.{Request}
use Rattle.z_types.specs.declared.requests.Request.TheVariants as request
use Rattle.gw_outside.specs.declared.happenings.Happening.{Happening}
use Rattle.gw_outside.specs.Counts.{Counts}
use Rattle.gw_outside.specs.Peers.{NamedSet, Peer}

-- what was made to happen, by the number of the target; whether nothing else does (links fail where
-- they are cut alone, sets are deleted by Presents that are left alone, and replies come after the
-- stated looks); and by which reference a wire is lent, where it is another's, so that its owner
-- finds what became of it
pub record Happened : Type 0 where
  pub steady : Bool
  pub lent : ℕ
  pub of_target : ℕ → Happening

-- nothing was
abbrev pub nothing_happens : Happening
nothing_happens = record { presents = 0; delay = 0; cut = 0 }

-- ---- how they change

-- nothing changes
pub record AreSame (old new : Happened) : Type 0 where
  pub steady : new.steady ≡ old.steady
  pub lent : new.lent ≡ old.lent
  pub of_target : (target : ℕ) → new.of_target target ≡ old.of_target target

-- this becomes of a target's; those of the others stay
pub record IsMade (target : ℕ) (change : Happening → Happening) (old new : Happened) : Type 0 where
  pub steady : new.steady ≡ old.steady
  pub lent : new.lent ≡ old.lent
  pub own : new.of_target target ≡ change (old.of_target target)
  pub others : (other : ℕ) → other ≢ target → new.of_target other ≡ old.of_target other

-- the links with a target are cut, up to the last one; where dials are counted exactly its number
-- is theirs
pub record AreCut (exact : Bool) (target dials : ℕ) (old new : Happened) : Type 0 where
  pub last : ℕ
  pub is_last : exact ≡ true → last ≡ dials
  pub made : IsMade target (λ happening. record happening { cut = last }) old new

-- at most some Presents less are left
pub record AreLess (old new : Happened) : Type 0 where
  pub steady : new.steady ≡ old.steady
  pub lent : new.lent ≡ old.lent
  pub presents : (target : ℕ) → (new.of_target target).presents ≤ (old.of_target target).presents
  pub delay : (target : ℕ) → (new.of_target target).delay ≡ (old.of_target target).delay
  pub cut : (target : ℕ) → (new.of_target target).cut ≡ (old.of_target target).cut

-- ---- what they do

-- what was made to happen at a site
abbrev pub at_site : Happened → Site → Happening
at_site h (site.Test target) = h.of_target target
at_site h (site.Tcp host port) = nothing_happens

-- what was made to happen at an address, which inside a login is that at its site; and to the peer
-- of a link
abbrev pub at_address : Happened → Address → Happening
at_address h (Test target) = h.of_target target
at_address h (Tcp host port) = nothing_happens
at_address h (Login at login) = at_site h at

abbrev pub to_peer : Happened → Option Peer → Happening
to_peer h None = nothing_happens
to_peer h (Some peer) = at_address h peer.address

-- a link of this number is cut
abbrev pub is_cut : Happening → ℕ → Bool
is_cut happening number = nat_le number happening.cut

-- the sets that a request finds: none, where that was made to happen to a Present
abbrev pub sets_found : Happening → Request → List NamedSet → List NamedSet
sets_found happening (request.Present present) sets =
    if nat_lt 0 happening.presents then [] else sets
sets_found happening (request.Init init) sets = sets
sets_found happening (request.Search search) sets = sets
sets_found happening (request.Scan scan) sets = sets
sets_found happening (request.Close close) sets = sets

-- a Present less finds none
abbrev pub happening_after : Happening → Request → Happening
happening_after happening (request.Present present) =
    record happening { presents = happening.presents - 1 }
happening_after happening (request.Init init) = happening
happening_after happening (request.Search search) = happening
happening_after happening (request.Scan scan) = happening
happening_after happening (request.Close close) = happening

-- what is left to happen after a request at a site
abbrev pub IsAskedAt : Site → Request → Happened → Happened → Type 0
IsAskedAt (site.Test target) request old new =
    IsMade target (λ happening. happening_after happening request) old new
IsAskedAt (site.Tcp host port) request old new = AreSame old new

-- what is left to happen after a request at an address
abbrev pub IsAsked : Address → Request → Happened → Happened → Type 0
IsAsked (Test target) request old new =
    IsMade target (λ happening. happening_after happening request) old new
IsAsked (Tcp host port) request old new = AreSame old new
IsAsked (Login at login) request old new = IsAskedAt at request old new

-- nothing does: nothing was made to happen to any target
pub record AreQuiet (h : Happened) : Type 0 where
  pub steady : h.steady ≡ true
  pub nothing : (target : ℕ) → h.of_target target ≡ nothing_happens

-- so it stays where this becomes of it
abbrev pub StaysQuiet : (Happened → Happened → Type 0) → Type 0
StaysQuiet becomes = (old new : Happened) → AreQuiet old → becomes old new → AreQuiet new

-- a quiet wire: without links, and nothing was made to happen to any target
pub record IsQuietWire (counts : Counts) (h : Happened) : Type 0 where
  pub no_links : counts.dials ≡ 0
  pub quiet : AreQuiet h
